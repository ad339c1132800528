-- How far a position's text is read: where it goes wrong, its longest beginning that begins a position's text ends.
use Rattle.std.proofs.Common.{◌≡◌, ℕ, ◌+◌, ◌-◌, inl, inr, Bool, true, false, cond, nat_eq, List, [], ◌∷◌, ◌++◌, length}
use Rattle.std.proofs.Common.{Option, Some, None, Ok, Err, refl, sym, ap, ◌∙◌, subst, append_assoc, append-nil, arith}
use Rattle.std.proofs.Common.{length-append}
use Rattle.squares.specs.declared.sides.Side.{Side}
use Rattle.squares.specs.declared.sides.Side.TheVariants.{First, Second}
use Rattle.squares.specs.Sides.{other}
use Rattle.squares.specs.internal.DraughtsMarks.{nat_eq-same}
use Rattle.pdn.specs.declared.items.Item.{Item}
use Rattle.pdn.specs.FenText.{side_letter}
use Rattle.pdn.specs.FenItems.{past_byte, Items, ItemsReading, ReadsList}
use Rattle.pdn.specs.FenForm.{FenForm, SideFront, read_side, HeaderReading, header_first, header_colon, header_turn}
use Rattle.pdn.specs.FenForm.{read_header, RestReading, other_list, after_colon, read_between, left_over, after_dot}
use Rattle.pdn.specs.FenForm.{past_end, FenReading, ReadsRest, bad_second, bad_end, ReadsLists, bad_first, bad_between}
use Rattle.pdn.specs.FenForm.{both, ReadsForm, bad_header, lists}
use Rattle.pdn.specs.internal.FenGrammar.{AreItemsText, HasFenForm}
use Rattle.pdn.specs.internal.FenBeginnings.{BeginsFen, IsLongestFenBeginning}
use Rattle.pdn.proofs.StopLemmas.{first, Halts, halts-after}
use Rattle.pdn.proofs.OffsetLemmas.{no-longer, front-begins, at-most}
use Rattle.pdn.proofs.FenOneLemmas.{form-one}
use Rattle.pdn.proofs.FenReadLemmas.{IsDot, lists-form, one_letter, header-read, between-read, text-reads}
use Rattle.pdn.proofs.FenItemStopLemmas.{past_byte-is, past_byte-alike}
use Rattle.pdn.proofs.FenListStopLemmas.{ListGoes, ListOutcome, list-outcome}

-- a side's letter, by whether the first byte is White's and whether it is Black's
abbrev pub side_front : Bool → Bool → List ℕ → Option SideFront
side_front p q t = cond p (Some (record { side = First; rest = t }))
    (cond q (Some (record { side = Second; rest = t })) None)

read_side-is : (text : List ℕ) (front : SideFront) → ◌≡◌ {A = Option SideFront} (read_side text) (Some front)
    → text ≡ side_letter front.side ++ front.rest
read_side-is [] front e = cc
read_side-is (c ∷ r) front e = by_letter (nat_eq c 87) (nat_eq c 66) refl refl e
  where
    by_letter : (p q : Bool) → nat_eq c 87 ≡ p → nat_eq c 66 ≡ q
        → ◌≡◌ {A = Option SideFront} (side_front p q r) (Some front) → c ∷ r ≡ side_letter front.side ++ front.rest
    by_letter true q f g e =
        let same : ◌≡◌ {A = SideFront} (record { side = First; rest = r }) front = cc in
        subst (λ (x : SideFront). c ∷ r ≡ side_letter x.side ++ x.rest) same (ap (λ x. x ∷ r) (nat_eq-same c 87 f))
    by_letter false true f g e =
        let same : ◌≡◌ {A = SideFront} (record { side = Second; rest = r }) front = cc in
        subst (λ (x : SideFront). c ∷ r ≡ side_letter x.side ++ x.rest) same (ap (λ x. x ∷ r) (nat_eq-same c 66 g))
    by_letter false false f g e = cc

read_side-alike : (text r : List ℕ) → first r ≡ first text → ◌≡◌ {A = Option SideFront} (read_side text) None
    → ◌≡◌ {A = Option SideFront} (read_side r) None
read_side-alike text [] alike none = refl
read_side-alike [] (c ∷ z) alike none = cc
read_side-alike (d ∷ y) (c ∷ z) alike none =
    let same : d ≡ c = cc in
    by_letter (nat_eq c 87) (nat_eq c 66)
    (subst (λ x. ◌≡◌ {A = Option SideFront} (read_side (x ∷ y)) None) same none)
  where
    by_letter : (p q : Bool) → ◌≡◌ {A = Option SideFront} (side_front p q y) None
        → ◌≡◌ {A = Option SideFront} (side_front p q z) None
    by_letter true q e = cc
    by_letter false true e = cc
    by_letter false false e = refl

-- what is read of a whole text
abbrev pub FenOutcome : List ℕ → FenReading → Type 0
FenOutcome text (Ok form) = HasFenForm text form
FenOutcome text (Err offset) = Halts 0 BeginsFen (λ t. ReadsForm t (Err offset)) text offset

pub record FenRead (text : List ℕ) : Type 0 where
  pub reading : FenReading
  pub outcome : FenOutcome text reading

wrong : (text : List ℕ) (k : ℕ) → Halts 0 BeginsFen (λ t. ReadsForm t (Err k)) text k → FenRead text
wrong text k h = record { reading = Err k; outcome = h }

-- before the first list
empty : (turn : Side) → HasFenForm (side_letter turn ++ (58 ∷ 87 ∷ 58 ∷ 66 ∷ [])) (record { turn = turn; items = [] })
empty turn = lists-form turn First [] [] [] [] [] refl refl (inl refl)

abbrev pub HeaderOutcome : List ℕ → HeaderReading → Type 0
HeaderOutcome text (Ok header) = text ≡ side_letter header.turn ++ (58 ∷ (side_letter header.first ++ header.rest))
HeaderOutcome text (Err offset) = FenOutcome text (Err offset)

-- a header that goes wrong after this
header-stops : (text written rest : List ℕ) (k : ℕ) → text ≡ written ++ rest → length written ≡ k → BeginsFen written
    → ((r : List ℕ) → first r ≡ first rest → ◌≡◌ {A = HeaderReading} (read_header (written ++ r)) (Err k))
    → HeaderOutcome text (Err k)
header-stops text written rest k split size begins reads =
    record {
      written = written;
      rest = rest;
      split = split;
      size = omega (arith, size);
      begins = begins;
      reads = λ r alike. bad_header k (reads r alike);
    }

first-outcome : (turn : Side) (text rest : List ℕ) → text ≡ side_letter turn ++ (58 ∷ rest) → (o : Option SideFront)
    → ◌≡◌ {A = Option SideFront} (read_side rest) o → HeaderOutcome text (header_first turn o)
first-outcome turn text rest split (Some front) e =
    split ∙ ap (λ t. side_letter turn ++ (58 ∷ t)) (read_side-is rest front e)
first-outcome First text rest split None e =
    header-stops text (87 ∷ 58 ∷ []) rest 2 split refl
    (87 ∷ 58 ∷ 66 ∷ [], record { turn = First; items = [] }, empty First)
    (λ r alike. ap (header_first First) (read_side-alike rest r alike e))
first-outcome Second text rest split None e =
    header-stops text (66 ∷ 58 ∷ []) rest 2 split refl
    (87 ∷ 58 ∷ 66 ∷ [], record { turn = Second; items = [] }, empty Second)
    (λ r alike. ap (header_first Second) (read_side-alike rest r alike e))

colon-outcome : (turn : Side) (text rest : List ℕ) → text ≡ side_letter turn ++ rest → (o : Option (List ℕ))
    → past_byte 58 rest ≡ o → HeaderOutcome text (header_colon turn o)
colon-outcome turn text rest split (Some more) e =
    first-outcome turn text more (split ∙ ap (λ t. side_letter turn ++ t) (past_byte-is 58 rest more e))
    (read_side more) refl
colon-outcome turn text rest split None e =
    header-stops text (side_letter turn) rest 1 split (one_letter turn)
    (58 ∷ 87 ∷ 58 ∷ 66 ∷ [], record { turn = turn; items = [] }, empty turn)
    (λ r alike. stops turn r (past_byte-alike 58 rest r alike e))
  where
    stops : (turn : Side) (t : List ℕ) → past_byte 58 t ≡ None
        → ◌≡◌ {A = HeaderReading} (read_header (side_letter turn ++ t)) (Err 1)
    stops First t e = ap (header_colon First) e
    stops Second t e = ap (header_colon Second) e

turn-outcome : (text : List ℕ) (o : Option SideFront) → ◌≡◌ {A = Option SideFront} (read_side text) o
    → HeaderOutcome text (header_turn o)
turn-outcome text (Some front) e = colon-outcome front.side text front.rest (read_side-is text front e)
    (past_byte 58 front.rest) refl
turn-outcome text None e =
    header-stops text [] text 0 refl refl
    (87 ∷ 58 ∷ 87 ∷ 58 ∷ 66 ∷ [], record { turn = First; items = [] }, empty First)
    (λ r alike. ap header_turn (read_side-alike text r alike e))

-- between the lists
abbrev pub ReadsBetween : ℕ → Side → List ℕ → RestReading → Type 0
ReadsBetween base l text r = (total : ℕ) → total ≡ base + length text
    → ◌≡◌ {A = RestReading} (read_between total l text) r

abbrev pub BetweenOutcome : ℕ → Side → List ℕ → RestReading → Type 0
BetweenOutcome base l text (Ok rest) = text ≡ 58 ∷ (side_letter (other l) ++ rest)
BetweenOutcome base l text (Err k) = Halts base
    (λ t. (more : List ℕ) × (t ++ more ≡ 58 ∷ (side_letter (other l) ++ [])))
    (λ t. ReadsBetween base l t (Err k)) text k

module _ (base : ℕ) (l : Side) (text : List ℕ) where
  -- no letter of the other side follows the colon
  letter-stops : (more : List ℕ) (b : ℕ) → text ≡ 58 ∷ more → b ≡ base + 1
      → ((r : List ℕ) (b : ℕ) → first r ≡ first more → ◌≡◌ {A = RestReading} (other_list b l (read_side r)) (Err b))
      → BetweenOutcome base l text (Err b)
  letter-stops more b colon place wrong =
      record {
        written = 58 ∷ [];
        rest = more;
        split = colon;
        size = omega (arith, place);
        begins = (side_letter (other l) ++ [], refl);
        reads = λ r alike total size.
            let at : total - length r ≡ b = omega (arith, size, place) in
            wrong r (total - length r) alike ∙ ap Err at;
      }

  letter-wrong : (c : ℕ) (p q : Bool) → nat_eq c 87 ≡ p → nat_eq c 66 ≡ q
      → ((t : List ℕ) (b : ℕ) → ◌≡◌ {A = RestReading} (other_list b l (side_front p q t)) (Err b))
      → (r : List ℕ) (b : ℕ) → first r ≡ Some c → ◌≡◌ {A = RestReading} (other_list b l (read_side r)) (Err b)
  letter-wrong c p q e f h [] b alike = cc
  letter-wrong c p q e f h (d ∷ z) b alike =
      let same : d ≡ c = cc in
      ap (λ x. other_list b l (read_side (x ∷ z))) same ∙ (λ i. other_list b l (side_front (e i) (f i) z)) ∙ h z b

by-letter : (base : ℕ) (l : Side) (text : List ℕ) (c : ℕ) (t : List ℕ) (b : ℕ) → text ≡ 58 ∷ c ∷ t → b ≡ base + 1
    → (p q : Bool) → nat_eq c 87 ≡ p → nat_eq c 66 ≡ q
    → BetweenOutcome base l text (other_list b l (side_front p q t))
by-letter base First text c t b colon place false true e f = colon ∙ ap (λ x. 58 ∷ x ∷ t) (nat_eq-same c 66 f)
by-letter base Second text c t b colon place true q e f = colon ∙ ap (λ x. 58 ∷ x ∷ t) (nat_eq-same c 87 e)
by-letter base First text c t b colon place true q e f =
    letter-stops base First text (c ∷ t) b colon place (letter-wrong base First text c true q e f (λ t b. refl))
by-letter base First text c t b colon place false false e f =
    letter-stops base First text (c ∷ t) b colon place (letter-wrong base First text c false false e f (λ t b. refl))
by-letter base Second text c t b colon place false true e f =
    letter-stops base Second text (c ∷ t) b colon place (letter-wrong base Second text c false true e f (λ t b. refl))
by-letter base Second text c t b colon place false false e f =
    letter-stops base Second text (c ∷ t) b colon place (letter-wrong base Second text c false false e f (λ t b. refl))

between-outcome : (total base : ℕ) (l : Side) (text : List ℕ) → total ≡ base + length text
    → BetweenOutcome base l text (read_between total l text)
between-outcome total base l text size = by_colon (past_byte 58 text) refl
  where
    by_more : (more : List ℕ) (b : ℕ) → text ≡ 58 ∷ more → b ≡ base + 1
        → BetweenOutcome base l text (other_list b l (read_side more))
    by_more (c ∷ t) b colon place = by-letter base l text c t b colon place (nat_eq c 87) (nat_eq c 66) refl refl
    by_more [] b colon place = letter-stops base l text [] b colon place nothing
      where
        nothing : (r : List ℕ) (b : ℕ) → first r ≡ first []
            → ◌≡◌ {A = RestReading} (other_list b l (read_side r)) (Err b)
        nothing [] b alike = refl
        nothing (c ∷ z) b alike = cc

    by_colon : (o : Option (List ℕ)) → past_byte 58 text ≡ o → BetweenOutcome base l text (after_colon total l text o)
    by_colon (Some more) e = let colon = past_byte-is 58 text more e in
        by_more more (total - length more) colon (omega (arith, size, ap length colon))
    by_colon None e =
        record {
          written = [];
          rest = text;
          split = refl;
          size = omega (arith, size);
          begins = (58 ∷ (side_letter (other l) ++ []), refl);
          reads = λ r alike whole long. ap (after_colon whole l r) (past_byte-alike 58 text r alike e)
              ∙ ap Err (omega (arith, size, long));
        }

-- the end, after one dot or none
abbrev pub EndOutcome : ℕ → List ℕ → Option ℕ → Type 0
EndOutcome base text None = IsDot text
EndOutcome base text (Some k) = Halts base IsDot
    (λ t. (total : ℕ) → total ≡ base + length t → past_end total t ≡ Some k) text k

module _ (total base : ℕ) (text : List ℕ) (size : total ≡ base + length text) where
  -- what stands after the dot, or after none
  dot-outcome : (dot rest : List ℕ) → IsDot dot → text ≡ dot ++ rest
      → ((r : List ℕ) (total : ℕ) → first r ≡ first rest → past_end total (dot ++ r) ≡ left_over total r)
      → EndOutcome base text (left_over total rest)
  dot-outcome dot [] is split reads = subst IsDot (sym (split ∙ append-nil dot)) is
  dot-outcome dot (d ∷ over) is split reads =
      record {
        written = dot;
        rest = d ∷ over;
        split = split;
        size = omega (arith, size, ap length split, length-append dot (d ∷ over));
        begins = is;
        reads = λ r alike whole long. reads r whole alike ∙ left_over-some r whole alike long;
      }
    where
      left_over-some : (r : List ℕ) (whole : ℕ) → first r ≡ Some d → whole ≡ base + length (dot ++ r)
          → left_over whole r ≡ Some (total - length (d ∷ over))
      left_over-some [] whole alike long = cc
      left_over-some (c ∷ z) whole alike long =
          ap Some (omega (arith, size, ap length split, length-append dot (d ∷ over), long, length-append dot (c ∷ z)))

  end-outcome : EndOutcome base text (past_end total text)
  end-outcome = by_dot (past_byte 46 text) refl
    where
      by_dot : (o : Option (List ℕ)) → past_byte 46 text ≡ o → EndOutcome base text (after_dot total text o)
      by_dot None e = dot-outcome [] text (inl refl) refl
          (λ r whole alike. ap (after_dot whole r) (past_byte-alike 46 text r alike e))
      by_dot (Some rest) e = dot-outcome (46 ∷ []) rest (inr refl) (past_byte-is 46 text rest e) (λ r whole alike. refl)

-- a text after its side to move and the letter of its first list
module _ (turn l : Side) where
  abbrev pub headed : List ℕ → List ℕ
  headed t = side_letter turn ++ (58 ∷ (side_letter l ++ t))

  headed-join : (x y : List ℕ) → headed x ++ y ≡ headed (x ++ y)
  headed-join x y = append_assoc (side_letter turn) (58 ∷ (side_letter l ++ x)) y
      ∙ ap (λ t. side_letter turn ++ (58 ∷ t)) (append_assoc (side_letter l) x y)

  headed-length : (x : List ℕ) → length (headed x) ≡ 3 + length x
  headed-length x =
      omega (
        arith,
        length-append (side_letter turn) (58 ∷ (side_letter l ++ x)),
        length-append (side_letter l) x,
        one_letter turn,
        one_letter l,
      )

  headed-reads : (t : List ℕ) (r : FenReading)
      → ReadsLists (length (headed t)) (record { turn = turn; first = l; rest = t }) r → ReadsForm (headed t) r
  headed-reads t r h = lists (record { turn = turn; first = l; rest = t }) r (header-read turn l t) h

  abbrev pub form_of : List Item → FenForm
  form_of items = record { turn = turn; items = items }

  -- an empty second list
  abbrev pub last_list : List ℕ
  last_list = 58 ∷ (side_letter (other l) ++ [])

  ends-first : (items : List Item) (written : List ℕ) → AreItemsText l 3 items written
      → HasFenForm (headed (written ++ last_list)) (form_of (items ++ []))
  ends-first items written are = lists-form turn l items [] written [] [] are refl (inl refl)

  module _ (text : List ℕ) where
    -- after the first list
    module _ (list : Items) (g : ListGoes 3 l [] text list) where
      join : (x y : List ℕ) → headed (g.written ++ x) ++ y ≡ headed (g.written ++ (x ++ y))
      join x y = headed-join (g.written ++ x) y ∙ ap headed (append_assoc g.written x y)

      size : (t : List ℕ) → length (headed (g.written ++ t)) ≡ 3 + length g.written + length t
      size t = omega (arith, headed-length (g.written ++ t), length-append g.written t)

      first-reads : (t : List ℕ) → first t ≡ first list.rest
          → ReadsList (length (headed (g.written ++ t))) l [] (g.written ++ t)
          (Ok (record { items = list.items; rest = t }))
      first-reads t alike = g.reads t alike (length (headed (g.written ++ t))) (headed-length (g.written ++ t))

      -- what follows the letter of the second list
      module _ (more : List ℕ) (between : list.rest ≡ 58 ∷ (side_letter (other l) ++ more)) where
        abbrev pub letter : List ℕ → List ℕ
        letter t = headed (g.written ++ (58 ∷ (side_letter (other l) ++ t)))

        abbrev pub base : ℕ
        base = 3 + length g.written + 2

        letter-join : (x y : List ℕ) → letter x ++ y ≡ letter (x ++ y)
        letter-join x y = join (58 ∷ (side_letter (other l) ++ x)) y
            ∙ ap (λ t. headed (g.written ++ (58 ∷ t))) (append_assoc (side_letter (other l)) x y)

        letter-length : (x : List ℕ) → length (letter x) ≡ base + length x
        letter-length x =
            omega (
              arith,
              size (58 ∷ (side_letter (other l) ++ x)),
              length-append (side_letter (other l)) x,
              one_letter (other l),
            )

        whole_is : headed text ≡ letter more
        whole_is = ap headed (g.split ∙ ap (λ t. g.written ++ t) between)

        letter-reads : (t : List ℕ) (r : FenReading)
            → ReadsRest (length (letter t)) turn (other l) list.items t r → ReadsForm (letter t) r
        letter-reads t r h =
            let rest = 58 ∷ (side_letter (other l) ++ t) in
            headed-reads (g.written ++ rest) r
            (both (record { items = list.items; rest = rest }) t r (first-reads rest (ap first (sym between)))
            (between-read (length (letter t)) l t) h)

        two-lists : (items : List Item) (written dot : List ℕ) → AreItemsText (other l) base items written → IsDot dot
            → HasFenForm (letter (written ++ dot)) (form_of (g.is.added ++ items))
        two-lists items written dot are is = lists-form turn l g.is.added items g.written written dot g.is.are are is

        rest-read : (r : ItemsReading) → ListOutcome base (other l) list.items more r → FenRead (headed text)
        rest-read (Err k) h =
            wrong (headed text) k
            (halts-after letter letter-join more (headed text) whole_is h (λ t s. omega (arith, letter-length t))
            (λ t b. (
              b.more,
              form_of (g.is.added ++ b.value),
              subst (λ x. HasFenForm x (form_of (g.is.added ++ b.value)))
                  (ap letter (append-nil (t ++ b.more)) ∙ sym (letter-join t b.more))
                  (two-lists b.value (t ++ b.more) [] b.is (inl refl)),
            ))
            (λ t alike s. letter-reads t (Err k) (bad_second k (s (length (letter t)) (letter-length t)))))
        rest-read (Ok two) h =
            by_end (past_end (base + length h.written + length two.rest) two.rest)
            (end-outcome (base + length h.written + length two.rest) (base + length h.written) two.rest refl)
          where
            items_are : two.items ≡ g.is.added ++ h.is.added
            items_are = h.is.items_are ∙ ap (λ (xs : List Item). xs ++ h.is.added) g.is.items_are

            long : (t : List ℕ) → length (letter (h.written ++ t)) ≡ base + length (h.written ++ t)
            long t = letter-length (h.written ++ t)

            by_end : (o : Option ℕ) → EndOutcome (base + length h.written) two.rest o → FenRead (headed text)
            by_end None is =
                record {
                  reading = Ok (form_of (g.is.added ++ h.is.added));
                  outcome =
                      subst (λ t. HasFenForm t (form_of (g.is.added ++ h.is.added)))
                      (ap letter (sym h.split) ∙ sym whole_is)
                      (two-lists h.is.added h.written two.rest h.is.are is);
                }
            by_end (Some k) e =
                wrong (headed text) k
                (halts-after (λ t. letter (h.written ++ t))
                (λ x y. letter-join (h.written ++ x) y ∙ ap letter (append_assoc h.written x y)) two.rest
                (headed text) (whole_is ∙ ap letter h.split) e
                (λ t s. omega (arith, long t, length-append h.written t))
                (λ t dot. (
                  [],
                  form_of (g.is.added ++ h.is.added),
                  subst (λ x. HasFenForm x (form_of (g.is.added ++ h.is.added)))
                      (sym (append-nil (letter (h.written ++ t))))
                      (two-lists h.is.added h.written t h.is.are dot),
                ))
                (λ t alike s.
                letter-reads (h.written ++ t) (Err k)
                (bad_end (record { items = two.items; rest = t }) k
                (h.reads t alike (length (letter (h.written ++ t))) (long t))
                (s (length (letter (h.written ++ t))) (omega (arith, long t, length-append h.written t))))))

      goes-on : (r : RestReading) → BetweenOutcome (3 + length g.written) l list.rest r
          → FenRead (headed text)
      goes-on (Ok more) between =
          let w = list-outcome (base more between) (other l) list.items more in
          rest-read more between w.reading w.outcome
      goes-on (Err k) h =
          wrong (headed text) k
          (halts-after (λ t. headed (g.written ++ t)) join list.rest (headed text) (ap headed g.split) h
          (λ t s. omega (arith, size t))
          (λ t b. (
            b.0,
            form_of (g.is.added ++ []),
            subst (λ x. HasFenForm x (form_of (g.is.added ++ [])))
                (sym (join t b.0 ∙ ap (λ x. headed (g.written ++ x)) b.1))
                (ends-first g.is.added g.written g.is.are),
          ))
          (λ t alike s.
          headed-reads (g.written ++ t) (Err k)
          (bad_between (record { items = list.items; rest = t }) k (first-reads t alike)
          (s (length (headed (g.written ++ t))) (size t)))))

    first-read : (r : ItemsReading) → ListOutcome 3 l [] text r → FenRead (headed text)
    first-read (Ok list) g =
        let total = 3 + length g.written + length list.rest in
        goes-on list g (read_between total l list.rest)
        (between-outcome total (3 + length g.written) l list.rest refl)
    first-read (Err k) h =
        wrong (headed text) k
        (halts-after headed headed-join text (headed text) refl h (λ t s. omega (arith, headed-length t))
        (λ t b. (
          b.more ++ last_list,
          form_of (b.value ++ []),
          subst (λ x. HasFenForm x (form_of (b.value ++ [])))
              (ap headed (append_assoc t b.more last_list) ∙ sym (headed-join t (b.more ++ last_list)))
              (ends-first b.value (t ++ b.more) b.is),
        ))
        (λ t alike s. headed-reads t (Err k) (bad_first k (s (length (headed t)) (headed-length t)))))

    headed-read : FenRead (headed text)
    headed-read = let w = list-outcome 3 l [] text in first-read w.reading w.outcome

by-header : (text : List ℕ) (r : HeaderReading) → HeaderOutcome text r → FenRead text
by-header text (Err k) h = wrong text k h
by-header text (Ok header) is = subst FenRead (sym is) (headed-read header.turn header.first header.rest)

-- each text is read, with its form or up to where it goes wrong
fen-read : (text : List ℕ) → FenRead text
fen-read text = by-header text (read_header text) (turn-outcome text (read_side text) refl)

outcome-reads : (text : List ℕ) (r : FenReading) → FenOutcome text r → ReadsForm text r
outcome-reads text (Ok form) h = text-reads text form h
outcome-reads text (Err k) h = subst (λ t. ReadsForm t (Err k)) (sym h.split) (h.reads h.rest refl)

reads-outcome : (text : List ℕ) (r : FenReading) → ReadsForm text r → FenOutcome text r
reads-outcome text r reads = let w = fen-read text in
    subst (FenOutcome text) (form-one text r w.reading reads (outcome-reads text w.reading w.outcome)) w.outcome

pub form-parts : (text : List ℕ) (form : FenForm) → ReadsForm text (Ok form) → HasFenForm text form
form-parts text form reads = reads-outcome text (Ok form) reads

longest-beginning : (text : List ℕ) (k : ℕ) → ReadsForm text (Err k) → IsLongestFenBeginning text k
longest-beginning text k reads =
    let Reads = λ (t : List ℕ). ReadsForm t (Err k) in
    let h : Halts 0 BeginsFen Reads text k = reads-outcome text (Err k) reads in
    let w = front-begins BeginsFen Reads text k h in
    record {
      within = w.0;
      begins = w.1;
      longest = no-longer BeginsFen Reads (λ t b wrong.
          let same = form-one (t ++ b.0) (Err k) (Ok b.1) (wrong b.0) (text-reads (t ++ b.0) b.1 b.2) in cc) text k h;
    }

pub refused-offset : (text : List ℕ) (k : ℕ) → ReadsForm text (Err k) → ((form : FenForm) → HasFenForm text form → ⊥)
    × IsLongestFenBeginning text k
refused-offset text k e = (
  λ form h. let same = form-one text (Err k) (Ok form) e (text-reads text form h) in
      cc,
  longest-beginning text k e,
)

refused : (text : List ℕ) (k : ℕ) → ((form : FenForm) → HasFenForm text form → ⊥) → IsLongestFenBeginning text k
    → (r : FenReading) → FenOutcome text r → ReadsForm text (Err k)
refused text k none h (Ok form) has = absurd (none form has)
refused text k none h (Err j) wrong =
    let reads = outcome-reads text (Err j) wrong in
    let g = longest-beginning text j reads in
    let same : j ≡ k =
    omega (
      arith,
      at-most BeginsFen text j k g.within g.begins h.longest,
      at-most BeginsFen text k j h.within h.begins g.longest,
    ) in
    subst (λ n. ReadsForm text (Err n)) same reads

pub offset-refused : (text : List ℕ) (k : ℕ) → ((form : FenForm) → HasFenForm text form → ⊥)
    → IsLongestFenBeginning text k → ReadsForm text (Err k)
offset-refused text k none h = let w = fen-read text in refused text k none h w.reading w.outcome
