-- What the line of a hand tells, where some pieces of a kind are a text that begins with the kind's name.
use Rattle.std.proofs.Common.{◌≡◌, ℕ, ◌≤◌, List, [], ◌∷◌, ◌++◌, nat_eq, false, subst, sym, ap, ◌∙◌}
use Rattle.std.proofs.Common.{append_assoc, arith}
use Rattle.squares.specs.declared.shogi.piece.HandKind.{HandKind}
use Rattle.squares.specs.declared.shogi.piece.HandKind.TheVariants as in_hand
use Rattle.squares.specs.declared.shogi.hand.Hand.{Hand}
use Rattle.squares.specs.ShogiHands.{count_of}
use Rattle.squares.specs.ShogiSets.{ShogiPosition}
use Rattle.squares.specs.internal.ShogiSets.{IsShogiPosition, set_size}
use Rattle.diagrams.specs.ShogiLines.{kinds_text, hand_kinds, or_else}

-- ---- hands of a position hold few of each kind

abbrev pub IsFew : Hand → Type 0
IsFew hand = (kind : HandKind) → count_of kind hand ≤ 18

set-small : (kind : HandKind) → set_size kind ≤ 18
set-small in_hand.Rook = omega arith
set-small _ = omega arith

pub few-first : (p : ShogiPosition) → IsShogiPosition p.board p.hands → IsFew p.hands.first
few-first p sound kind = omega (arith, sound.sets kind, set-small kind)

pub few-second : (p : ShogiPosition) → IsShogiPosition p.board p.hands → IsFew p.hands.second
few-second p sound kind = omega (arith, sound.sets kind, set-small kind)

-- ---- two hands that are the same kind by kind

abbrev AreSame : Hand → Hand → List HandKind → Type 0
AreSame a b [] = Unit {0}
AreSame a b (kind ∷ kinds) = (count_of kind a ≡ count_of kind b) × AreSame a b kinds

hand-same : (a b : Hand) → AreSame a b hand_kinds → a ≡ b
unfolding hand_kinds
hand-same a b same = λ i. record {
  rook = same.0 i;
  bishop = same.1.0 i;
  gold = same.1.1.0 i;
  silver = same.1.1.1.0 i;
  knight = same.1.1.1.1.0 i;
  lance = same.1.1.1.1.1.0 i;
  pawn = same.1.1.1.1.1.1.0 i;
}

-- The name of a kind, the text of so many pieces of it, and that a text does not begin with a name.
module _ (name : HandKind → ℕ) (held : HandKind → ℕ → List ℕ) (Ends : ℕ → List ℕ → Type 0) where
  -- that name is of none of these kinds
  abbrev pub IsOther : ℕ → List HandKind → Type 0
  IsOther c [] = Unit {0}
  IsOther c (kind ∷ kinds) = (nat_eq (name kind) c ≡ false) × IsOther c kinds

  abbrev pub AreApart : List HandKind → Type 0
  AreApart [] = Unit {0}
  AreApart (kind ∷ kinds) = IsOther (name kind) kinds × AreApart kinds

  -- a rest that ends the pieces of a hand, whatever their names
  abbrev pub EndsAll : List HandKind → List ℕ → Type 0
  EndsAll [] text = Unit {0}
  EndsAll (kind ∷ kinds) text = Ends (name kind) text × EndsAll kinds text

  -- a line's end, which begins with no name of a kind and with no word for nothing
  abbrev pub IsLineEnd : ℕ → List ℕ → Type 0
  IsLineEnd none text = Ends none text × EndsAll hand_kinds text

  -- names tell how many pieces of a kind there are, which are read, with what stands behind them
  pub record NamesTell : Type 0 where
    pub goes_on : (c : ℕ) (kind : HandKind) (n : ℕ) (rest : List ℕ) → nat_eq (name kind) c ≡ false → Ends c rest
        → Ends c (held kind n ++ rest)
    pub read : HandKind → List ℕ → ℕ × List ℕ
    pub reads : (kind : HandKind) (n : ℕ) (rest : List ℕ) → n ≤ 18 → Ends (name kind) rest
        → read kind (held kind n ++ rest) ≡ (n, rest)

  module _ (tell : NamesTell) where
    kinds-end : (c : ℕ) (hand : Hand) (kinds : List HandKind) (rest : List ℕ) → IsOther c kinds → Ends c rest
        → Ends c (kinds_text held hand kinds ++ rest)
    kinds-end c hand [] rest other ends = ends
    kinds-end c hand (kind ∷ kinds) rest other ends =
        subst (Ends c) (sym (append_assoc (held kind (count_of kind hand)) (kinds_text held hand kinds) rest))
        (tell.goes_on c kind (count_of kind hand) (kinds_text held hand kinds ++ rest) other.0
        (kinds-end c hand kinds rest other.1 ends))

    kinds-apart : (kinds : List HandKind) (a b : Hand) (r s : List ℕ) → AreApart kinds → IsFew a → IsFew b
        → EndsAll kinds r → EndsAll kinds s → kinds_text held a kinds ++ r ≡ kinds_text held b kinds ++ s
        → AreSame a b kinds × (r ≡ s)
    kinds-apart [] a b r s apart few small on_r on_s e = (tt, e)
    kinds-apart (kind ∷ kinds) a b r s apart few small on_r on_s e =
        let ra : List ℕ = kinds_text held a kinds ++ r in
        let rb : List ℕ = kinds_text held b kinds ++ s in
        let one = sym (tell.reads kind (count_of kind a) ra (few kind) (kinds-end (name kind) a kinds r apart.0 on_r.0))
        ∙ ap (tell.read kind) (sym (append_assoc (held kind (count_of kind a)) (kinds_text held a kinds) r) ∙ e
        ∙ append_assoc (held kind (count_of kind b)) (kinds_text held b kinds) s)
        ∙ tell.reads kind (count_of kind b) rb (small kind) (kinds-end (name kind) b kinds s apart.0 on_s.0) in
        let more = kinds-apart kinds a b r s apart.1 few small on_r.1 on_s.1 (ap (λ t. t.1) one) in
        ((ap (λ t. t.0) one, more.0), more.1)

    -- The word for nothing has a name of its own, and is taken away from a line that begins with it.
    module _ (nothing : List ℕ) (none : ℕ) (without : List ℕ → List ℕ)
        (bare : (rest : List ℕ) → without (nothing ++ rest) ≡ rest)
        (kept : (text : List ℕ) → Ends none text → without text ≡ text) where
      no-nothing : (text rest : List ℕ) → Ends none (text ++ rest) → without (or_else nothing text ++ rest)
          ≡ text ++ rest
      no-nothing [] rest ends = bare rest
      no-nothing (c ∷ text) rest ends = kept (c ∷ (text ++ rest)) ends

      pub lines-apart : AreApart hand_kinds → IsOther none hand_kinds → (a b : Hand) (r s : List ℕ) → IsFew a → IsFew b
          → IsLineEnd none r → IsLineEnd none s
          → or_else nothing (kinds_text held a hand_kinds) ++ r ≡ or_else nothing (kinds_text held b hand_kinds) ++ s
          → (a ≡ b) × (r ≡ s)
      lines-apart apart other a b r s few small on_r on_s e =
          let plain_a = no-nothing (kinds_text held a hand_kinds) r (kinds-end none a hand_kinds r other on_r.0) in
          let plain_b = no-nothing (kinds_text held b hand_kinds) s (kinds-end none b hand_kinds s other on_s.0) in
          let same = kinds-apart hand_kinds a b r s apart few small on_r.1 on_s.1
          (sym plain_a ∙ ap without e ∙ plain_b) in
          (hand-same a b same.0, same.1)
