-- A tally of a line with one ply more, and what it tells of the line's last position.
use Rattle.std.proofs.Common.{◌≡◌, ℕ, zero, ◌+◌, ◌≤◌, inl, inr, List, [], ◌∷◌, ◌++◌, length, take, Option, Some, None}
use Rattle.std.proofs.Common.{true, false, cond, refl, ap, sym, subst, ◌∙◌, arith, zero-add, length-append}
use Rattle.std.specs.Prelude.{count_by, IfSome, string_bytes}
use Rattle.std.proofs.Math.Seq.{take-length}
use Rattle.std.proofs.lemmas.Bool.{both_ways, cases_Bool}
use Rattle.std.proofs.lemmas.List.{take-append-le}
use Rattle.std.proofs.lemmas.List.Sums.{sum_by-append}
use Rattle.club_rules.specs.GameRules.{GameRules}
use Rattle.club_rules.specs.Laws.{SamePositionIs, TextsTellPositions}
use Rattle.club_rules.specs.Line.{position_after, positions, IsLegalLine, times_stood, FirstStands}
use Rattle.club_laws.proofs.Proved.{bytes_eq-same, same-bytes_eq}
use Rattle.club_rows.specs.internal.Tally.{IsTallyOf, PositionText, IsStood, HasStood, HasNotStood, same_text, seen_at}
use Rattle.club_rows.specs.internal.Tally.{stood_then, stood_seldom}
use Rattle.club_rows.specs.declared.tally.Occurrences.{Occurrences}
use Rattle.club_rows.specs.declared.tally.PositionCounts.{PositionCounts}

pub few-seldom : (seen : Option Occurrences) (plies : ℕ) → IfSome seen (λ s. s.times ≤ plies + 1) → plies ≤ 600
    → stood_seldom seen
few-seldom seen plies few low = grind arith

module _ {P M E T : Type 0} (rules : GameRules P M E T) where
  -- the positions of a line with one move more
  pub positions-append : (p : P) (ms : List M) (m : M)
      → positions rules p (ms ++ m ∷ []) ≡ positions rules p ms ++ position_after rules p (ms ++ m ∷ []) ∷ []
  positions-append p [] m = refl
  positions-append p (n ∷ ms) m = ap (λ ps. p ∷ ps) (positions-append (rules.play p n) ms m)

  -- what is told of the last position of a line
  pub last-stood : (ms : List M) (s : Occurrences) → HasStood rules ms (position_after rules rules.start ms) s
      → (s.times ≡ times_stood rules rules.start ms) × FirstStands rules rules.start ms s.first_ply
  last-stood ms s is = (is.times, record { within = is.within; stands = is.stands; earliest = is.earliest })

  module _ (same_is : SamePositionIs rules) where
    same-yes : (p q : P) → p ≡ q → ◌≡◌ {A = ℕ} (cond (rules.same_position p q) 1 0) 1
    same-yes p q is = ap (λ b. cond b 1 0) ((same_is p q).1 is)

    same-no : (p q : P) → (p ≡ q → ⊥) → ◌≡◌ {A = ℕ} (cond (rules.same_position p q) 1 0) 0
    same-no p q not = grind (arith, same_is p q)

    module _ (ms : List M) (m : M) where
      abbrev more : List M
      more = ms ++ m ∷ []

      abbrev last : P
      last = position_after rules rules.start more

      begun : (k : ℕ) → k ≤ length ms → position_after rules rules.start (take k more)
          ≡ position_after rules rules.start (take k ms)
      begun k low = ap (position_after rules rules.start) (take-append-le k ms (m ∷ []) low)

      longer : length more ≡ length ms + 1
      longer = length-append ms (m ∷ [])

      whole : (k : ℕ) → k ≡ length ms + 1 → position_after rules rules.start (take k more) ≡ last
      whole k is = ap (λ n. position_after rules rules.start (take n more)) (is ∙ sym longer)
          ∙ ap (position_after rules rules.start) (take-length more)

      once-more : (q : P) → count_by (λ p. rules.same_position p q) (positions rules rules.start more)
          ≡ count_by (λ p. rules.same_position p q) (positions rules rules.start ms) + cond (rules.same_position last q)
          1 0
      once-more q =
          let counts : P → ℕ = λ p. cond (rules.same_position p q) 1 0 in
          let parts = sum_by-append counts (positions rules rules.start ms) (last ∷ []) in
          ap (count_by (λ p. rules.same_position p q)) (positions-append rules.start ms m) ∙ omega (arith, parts)

      -- the last position stood once more
      stood-last : (q : P) (seen : Option Occurrences) → last ≡ q → IsStood rules ms q seen
          → HasStood rules more q (stood_then seen (length ms + 1))
      stood-last q seen is stood = grind (arith, once-more q, same-yes last q is, longer, begun, whole)

      -- and each other one as often as before
      stood-other : (q : P) (seen : Option Occurrences) → (last ≡ q → ⊥) → IsStood rules ms q seen → IsStood rules more q seen
      stood-other q seen not stood = grind (arith, once-more q, same-no last q not, longer, begun, whole)

    -- ---- tallies

    module _ (tell : TextsTellPositions rules) where
      -- the position of a text on lines
      abbrev IsTextOf : PositionText → List M → Type 0
      IsTextOf text ms = string_bytes text ≡ rules.write_position (position_after rules rules.start ms)

      same-position : (ms ns : List M) (one other : PositionText) → IsLegalLine rules rules.start ms
          → IsLegalLine rules rules.start ns → IsTextOf one ms → IsTextOf other ns → same_text one other ≡ true
          → position_after rules rules.start ms ≡ position_after rules rules.start ns
      same-position ms ns one other legal also one_is other_is same =
          tell ms ns legal also (sym one_is ∙ (same-bytes_eq _ _ same ∙ other_is))

      other-position : (ms ns : List M) (one other : PositionText) → IsTextOf one ms → IsTextOf other ns
          → same_text one other ≡ false → position_after rules rules.start ms ≡ position_after rules rules.start ns → ⊥
      other-position ms ns one other one_is other_is differ same =
          both_ways _ differ (bytes_eq-same _ _ (one_is ∙ (ap rules.write_position same ∙ sym other_is)))

      -- a tally of the line without a move
      pub tally-start : (tally : PositionCounts) (text : PositionText) (stood : Occurrences) → IsTextOf text []
          → stood ≡ stood_then None 0
          → ((other : PositionText) → seen_at tally other ≡ cond (same_text text other) (Some stood) None)
          → IsTallyOf rules [] tally × HasStood rules [] rules.start stood
      tally-start tally text stood text_is stood_is adds = (
        record {
          stood = λ ms other legal other_is. elim (cases_Bool (same_text text other)) [
            | inl same ↦
                rw (adds other, same, stood_is) (once _ (same-position [] ms text other tt legal text_is other_is same))
            | inr differ ↦
                rw (adds other, differ) (never _ (other-position [] ms text other text_is other_is differ))
          ];
          few = λ other. grind (arith, adds other, stood_is);
        },
        rw stood_is (once rules.start refl),
      )
        where
          once : (q : P) → rules.start ≡ q → HasStood rules [] q (stood_then None 0)
          once q is = grind (arith, same-yes rules.start q is)

          never : (q : P) → (rules.start ≡ q → ⊥) → HasNotStood rules [] q
          never q not = record {
            times = zero-add _ ∙ same-no rules.start q not;
            never = elim [ zero ↦ λ low here. not here | k ↦ λ low here. not here ];
          }

      module _ (ms : List M) (m : M) (legal : IsLegalLine rules rules.start (ms ++ m ∷ [])) (old : PositionCounts)
          (is : IsTallyOf rules ms old) (text : PositionText) (text_is : IsTextOf text (ms ++ m ∷ [])) where
        -- how often the position stands that a move leads to
        pub stood-then : HasStood rules (ms ++ m ∷ []) (position_after rules rules.start (ms ++ m ∷ []))
            (stood_then (seen_at old text) (length ms + 1))
        stood-then = stood-last ms m _ (seen_at old text) refl (is.stood (ms ++ m ∷ []) text legal text_is)

        -- a tally of the line with one move more
        pub tally-more : (new : PositionCounts) (stood : Occurrences) → stood ≡ stood_then (seen_at old text) (length ms + 1)
            →
            ((other : PositionText) → seen_at new other ≡ cond (same_text text other) (Some stood) (seen_at old other))
            → IsTallyOf rules (ms ++ m ∷ []) new
        tally-more new stood stood_is adds = record {
          stood = λ ns other also other_is. elim (cases_Bool (same_text text other)) [
            | inl same ↦
                rw (adds other, same, stood_is)
                (subst (λ q. HasStood rules (ms ++ m ∷ []) q (stood_then (seen_at old text) (length ms + 1)))
                (same-position (ms ++ m ∷ []) ns text other legal also text_is other_is same) stood-then)
            | inr differ ↦
                rw (adds other, differ)
                (stood-other ms m _ (seen_at old other)
                (other-position (ms ++ m ∷ []) ns text other text_is other_is differ) (is.stood ns other also other_is))
          ];
          few = λ other. grind (arith, adds other, stood_is, is.few text, is.few other, length-append ms (m ∷ []));
        }

-- what was not seen stands for the first time
pub seen-none : (seen : Option Occurrences) (stood : Occurrences) (ply : ℕ) → seen ≡ None
    → (stood_seldom seen → stood ≡ stood_then seen ply) → stood ≡ stood_then None ply
seen-none seen stood ply none is = rw none at is tt
