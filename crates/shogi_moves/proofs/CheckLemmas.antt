-- The computed answer of a check is the one by the rules.
use Rattle.std.proofs.Common.{◌≡◌, true, false, cond, List, [], ◌∷◌, ◌++◌, refl, sym, ap, ◌∙◌, subst}
use Rattle.std.specs.Prelude.{IsTrue, ◌↔◌, Err, IsOk}
use Rattle.std.proofs.lemmas.Bool.{iff_false, false_from_ne_true, true_from_ne_false}
use Rattle.squares.specs.declared.shogi.moves.SMove.{SMove}
use Rattle.squares.specs.ShogiSets.{ShogiPosition}
use Rattle.shogi_moves.specs.declared.checking.Illegal.{Illegal}
use Rattle.shogi_moves.specs.declared.checking.Illegal.TheVariants as illegal
use Rattle.shogi_moves.specs.Rules.{Breaks, Legal, rules_in_order, KeepsAll, FirstBroken}
use Rattle.shogi_moves.specs.internal.Computed.{broken, first_of, check_of, is_movement}
use Rattle.shogi_moves.proofs.MateLemmas.{leaves_king-is, mates_by_pawn-is}
use Rattle.shogi_moves.proofs.RuleLemmas.{is_movement-is, lacks-is, stays-is, drops_dead-is, drops_second_pawn-is}
use Rattle.shogi_moves.proofs.TruthLemmas.{not-is}

module _ (p : ShogiPosition) (m : SMove) where
  broken-is : (rule : Illegal) → IsTrue (broken p m rule) ↔ Breaks p m rule
  broken-is illegal.NoSuchMove = not-is (is_movement p m) (is_movement-is p m)
  broken-is illegal.NotInHand = lacks-is p m
  broken-is illegal.MustPromote = stays-is p m
  broken-is illegal.DeadDrop = drops_dead-is p m
  broken-is illegal.TwoPawns = drops_second_pawn-is p m
  broken-is illegal.KingAttacked = leaves_king-is p m
  broken-is illegal.DropMate = mates_by_pawn-is p m

  unbroken : (rule : Illegal) → (Breaks p m rule → ⊥) → broken p m rule ≡ false
  unbroken rule none = false_from_ne_true (broken p m rule) (λ e. none ((broken-is rule).0 e))

  -- the answer where each of the rules is kept
  keeps : (rules : List Illegal) → IsOk (first_of (broken p m) rules) → KeepsAll p m rules
  keeps [] e = tt
  keeps (r ∷ rules) e =
      elim (broken p m r) as (λ t. broken p m r ≡ t → IsOk (cond t (Err r) (first_of (broken p m) rules))
      → KeepsAll p m (r ∷ rules)) [
        | true ↦ λ _ e. cc
        | false ↦ λ is e. (iff_false (broken-is r) is, keeps rules e)
      ] refl e

  kept : (rules : List Illegal) → KeepsAll p m rules → IsOk (first_of (broken p m) rules)
  kept [] h = refl
  kept (r ∷ rules) h = subst (λ t. IsOk (cond t (Err r) (first_of (broken p m) rules))) (sym (unbroken r h.0))
      (kept rules h.1)

  -- one of the rules is broken, and none before it
  record FirstIn (rules : List Illegal) (rule : Illegal) : Type 0 where
    before : List Illegal
    after : List Illegal
    order : rules ≡ before ++ rule ∷ after
    breaks : Breaks p m rule
    keeps : KeepsAll p m before

  first : (rules : List Illegal) (rule : Illegal) → first_of (broken p m) rules ≡ Err rule → FirstIn rules rule
  first [] rule e = cc
  first (r ∷ rules) rule e =
      elim (broken p m r) as (λ t. broken p m r ≡ t → cond t (Err r) (first_of (broken p m) rules) ≡ Err rule
      → FirstIn (r ∷ rules) rule) [
        | true ↦ λ is e.
            let same : r ≡ rule = cc in
            let breaks = subst (Breaks p m) same ((broken-is r).0 is) in
            record { before = []; after = rules; order = ap (λ x. x ∷ rules) same; breaks = breaks; keeps = tt }
        | false ↦ λ is e.
            let w = first rules rule e in
            record {
              before = r ∷ w.before;
              after = w.after;
              order = ap (λ rs. r ∷ rs) w.order;
              breaks = w.breaks;
              keeps = (iff_false (broken-is r) is, w.keeps);
            }
      ] refl e

  found : (before after : List Illegal) (rule : Illegal) → KeepsAll p m before → Breaks p m rule
      → first_of (broken p m) (before ++ rule ∷ after) ≡ Err rule
  found [] after rule h breaks = ap (λ t. cond t (Err rule) (first_of (broken p m) after)) ((broken-is rule).1 breaks)
  found (r ∷ before) after rule h breaks =
      ap (λ t. cond t (Err r) (first_of (broken p m) (before ++ rule ∷ after))) (unbroken r h.0)
      ∙ found before after rule h.1 breaks

  pub check_of-refused : (rule : Illegal) → (check_of p m ≡ Err rule) ↔ FirstBroken p m rule
  unfolding check_of
  check_of-refused rule = (
    λ e. let w = first rules_in_order rule e in
        record { before = w.before; after = w.after; order = w.order; breaks = w.breaks; keeps = w.keeps },
    λ f. ap (first_of (broken p m)) f.order ∙ found f.before f.after rule f.keeps f.breaks,
  )

  pub check_of-legal : IsOk (check_of p m) ↔ Legal p m
  unfolding check_of
  check_of-legal = (
    λ e. let w = keeps rules_in_order e in
        record {
          pseudo = record {
            moves =
                (is_movement-is p m).0
                (true_from_ne_false (is_movement p m) (λ e. w.0 (iff_false (is_movement-is p m) e)));
            holds = w.1.0;
            promotes = w.1.1.0;
            alive = w.1.1.1.0;
            one_pawn = w.1.1.1.1.0;
          };
          safe = w.1.1.1.1.1.0;
          no_pawn_mate = w.1.1.1.1.1.1.0;
        },
    λ l. kept rules_in_order (
      (λ none. none l.pseudo.moves),
      (l.pseudo.holds, (l.pseudo.promotes, (l.pseudo.alive, (l.pseudo.one_pawn, (l.safe, (l.no_pawn_mate, tt)))))),
    ),
  )
