-- A walk over moves for a seeker, the set of the squares that a piece reaches, and which of its steps are legal.
use Rattle.std.proofs.Common.{subst, ◌≡◌, ℕ, Some, Bool, true, false, cond, ◌||◌, List, [], ◌∷◌, ◌++◌, refl, sym, ap}
use Rattle.std.proofs.Common.{◌∙◌, ◌+◌, ◌-◌, ◌<◌, ◌≤◌, ◌&&◌, nat_eq, None, length, take, get_or, arith}
use Rattle.std.specs.List.{flat_map, list_any}
use Rattle.std.proofs.Math.Bool.{or_comm, or_assoc, or-true, or-false, and-true}
use Rattle.std.proofs.lemmas.List.{append-nil, take_more, take_all}
use Rattle.std.specs.FinSet as set
use Rattle.masks.specs.Words.{Numbers}
use Rattle.masks.specs.internal.Words.{Pops, ascending}
use Rattle.masks.specs.internal.Walks.{popped_kept, flat_map-ascending}
use Rattle.squares.specs.declared.shogi.moves.SMove.{SMove}
use Rattle.squares.specs.declared.shogi.moves.SMove.TheVariants.{Step, Drop}
use Rattle.squares.specs.declared.shogi.piece.HandKind.{HandKind}
use Rattle.shogi_moves.specs.Search.{all_squares}
use Rattle.shogi_moves.specs.internal.Search.{comes_to, piece_reaches}
use Rattle.shogi_moves.specs.Computed.{all_kinds}
use Rattle.shogi_moves.specs.internal.Computed.{some_step_between, some_step_from, some_drop_of, some_move, goes}
use Rattle.shogi_moves.specs.internal.Computed.{stuck_after, drops_second_pawn, is_pseudo, leaves_king, escapes}
use Rattle.shogi_moves.specs.internal.Computed.{mates_by_pawn}
use Rattle.shogi_moves.specs.internal.Computed.{is_legal}
use Rattle.shogi_moves.specs.internal.Listing.{if_passes, steps_between, steps_from, all_steps, drops_on, drops_of}
use Rattle.shogi_moves.specs.internal.Listing.{all_drops}
use Rattle.shogi_moves.specs.internal.Listing.{all_moves}
use Rattle.shogi_moves.specs.internal.Seeking.{is_any}
use Rattle.std.specs.Prelude.{not, is_none}
use Rattle.std.specs.Option.{option_map_or}
use Rattle.std.specs.FinMap as map
use Rattle.std.specs.FinSet as set
use Rattle.std.proofs.lemmas.Grind.{common_steps}
use Rattle.std.proofs.lemmas.List.Folds.{list_any-append}
use Rattle.squares.specs.declared.sides.Side.{Side}
use Rattle.squares.specs.declared.shogi.piece.SPiece.{SPiece}
use Rattle.squares.specs.internal.Sides.{same_side-of}
use Rattle.squares.specs.ShogiBoard.{ShogiBoard}
use Rattle.squares.specs.ShogiSets.{ShogiPosition}
use Rattle.squares.specs.internal.ShogiWords.{is_side}
use Rattle.squares.specs.internal.DraughtsMarks.{contains-insert_nat}
use Rattle.shogi_moves.specs.declared.heading.MoveDirection.{MoveDirection}
use Rattle.shogi_moves.specs.Reach.{step, line}
use Rattle.shogi_moves.specs.Rules.{may_land, may_promote, is_stuck, held}
use Rattle.shogi_moves.specs.internal.Steps.{step_passes}
use Rattle.std.proofs.lemmas.Bool.{both_ways, false_from_ne_true}
use Rattle.shogi_moves.proofs.ReachLemmas.{piece_reaches-complete}
use Rattle.shogi_moves.proofs.RuleLemmas.{goes_as, goes-is, is_pseudo-is}
use Rattle.shogi_moves.proofs.LineLemmas.{walk-edge, walk-end, walk_first}

-- What is found, with what the squares of a set still give, is the whole, and those squares are as said.
pub record Sought {X : Type 0} (plus : X → List SMove → X) (f : ℕ → List SMove) (P : ℕ → Type 0) (whole : X)
    (rest : Numbers) (old : X) : Type 0 where
  pub sought : plus old (flat_map f (ascending 0 81 rest)) ≡ whole
  pub each : (q : ℕ) → set.contains rest q ≡ true → P q

module _ {X : Type 0} (plus : X → List SMove → X)
    (plus_more : (x : X) (xs ys : List SMove) → plus x (xs ++ ys) ≡ plus (plus x xs) ys) where
  -- the least square is taken out
  pub sought_popped : (f : ℕ → List SMove) (P : ℕ → Type 0) (whole : X) (before after : Numbers) (n : ℕ) (old new : X)
      → Pops 0 81 before (Some n) after → Sought plus f P whole before old → new ≡ plus old (f n)
      → Sought plus f P whole after new
  sought_popped f P whole before after n old new pop so_far step = record {
    sought =
        ap (λ x. plus x (flat_map f (ascending 0 81 after))) step
        ∙ sym (plus_more old (f n) (flat_map f (ascending 0 81 after)))
        ∙ ap (λ ns. plus old (flat_map f ns)) (sym pop.0) ∙ so_far.sought;
    each = λ q e. so_far.each q (popped_kept before n q (ap (λ s. set.contains s q) (sym pop.1) ∙ e));
  }

  -- one list after another
  pub sought_both : (xs ys : List SMove) (old middle new : X) → middle ≡ plus old xs → new ≡ plus middle ys
      → new ≡ plus old (xs ++ ys)
  sought_both xs ys old middle new first second = second ∙ ap (λ x. plus x ys) first ∙ sym (plus_more old xs ys)

-- nothing is found
pub sought_none : {X : Type 0} (plus : X → List SMove → X) (plus_none : (x : X) → plus x [] ≡ x) (xs : List SMove)
    (old : X) → xs ≡ [] → old ≡ plus old xs
sought_none plus plus_none xs old none = sym (plus_none old) ∙ ap (plus old) (sym none)

-- something is found exactly where some move passes
is_any-append : (xs ys : List SMove) → is_any (xs ++ ys) ≡ (is_any xs || is_any ys)
is_any-append [] ys = refl
is_any-append (x ∷ xs) ys = refl

is_any-flat_map : {B : Type 0} (f : B → List SMove) (test : B → Bool) (xs : List B) → ((b : B) → is_any (f b) ≡ test b)
    → is_any (flat_map f xs) ≡ list_any test xs
is_any-flat_map f test [] each = refl
is_any-flat_map f test (x ∷ xs) each = is_any-append (f x) (flat_map f xs)
    ∙ (λ i. each x i || is_any-flat_map f test xs each i)

module _ (test : SMove → Bool) where
  any-passing_one : (m : SMove) → is_any (if_passes test m) ≡ test m
  unfolding if_passes
  any-passing_one m = elim (test m) as (λ b. is_any (cond b (m ∷ []) []) ≡ b) [ true ↦ refl | false ↦ refl ]

  any-between : (from to : ℕ) → is_any (steps_between test from to) ≡ some_step_between test from to
  unfolding steps_between
  any-between from to = is_any-append (if_passes test (Step from to false)) (if_passes test (Step from to true))
      ∙ (λ i. any-passing_one (Step from to false) i || any-passing_one (Step from to true) i)

  any-from : (from : ℕ) → is_any (steps_from test from) ≡ some_step_from test from
  unfolding steps_from
  any-from from = is_any-flat_map (steps_between test from) (some_step_between test from) all_squares (any-between from)

  any-drops_of : (kind : HandKind) → is_any (drops_of test kind) ≡ some_drop_of test kind
  unfolding drops_of drops_on
  any-drops_of kind = is_any-flat_map (λ to. if_passes test (Drop kind to)) (λ to. test (Drop kind to)) all_squares
      (λ to. any-passing_one (Drop kind to))

  pub any-moves : is_any (all_moves test) ≡ some_move test
  unfolding all_moves all_steps all_drops some_move
  any-moves =
      is_any-append (all_steps test) (all_drops test)
      ∙
      (λ i. is_any-flat_map (steps_from test) (some_step_from test) all_squares any-from i || is_any-flat_map
      (drops_of test) (some_drop_of test) all_kinds any-drops_of i)

module _ (test : SMove → Bool) (m : SMove) where
  pub found-passing : (f : Bool) → test m ≡ true → true ≡ (f || is_any (if_passes test m))
  found-passing f e = sym (ap (λ b. f || b) (any-passing_one test m ∙ e) ∙ or-true f)

  pub found-failing : (f : Bool) → test m ≡ false → f ≡ (f || is_any (if_passes test m))
  found-failing f e = sym (ap (λ b. f || b) (any-passing_one test m ∙ e) ∙ or-false f)

  pub listed-passing : (xs : List SMove) → test m ≡ true → xs ++ m ∷ [] ≡ xs ++ if_passes test m
  unfolding if_passes
  listed-passing xs e = sym (ap (λ b. xs ++ cond b (m ∷ []) []) e)

  pub listed-failing : (xs : List SMove) → test m ≡ false → xs ≡ xs ++ if_passes test m
  unfolding if_passes
  listed-failing xs e = sym (ap (λ b. xs ++ cond b (m ∷ []) []) e ∙ append-nil xs)

-- ---- The set of the squares that a piece reaches, and which of its steps are legal

nat_eq-turned : (m n : ℕ) → nat_eq m n ≡ nat_eq n m
nat_eq-turned m n = grind (arith, common_steps)

-- The steps of a walk that gathers squares.
module _ (board : ShogiBoard) (to : ℕ) (k : ℕ) (side : Side) (h : MoveDirection) (n : ℕ) (found : Numbers) where
  abbrev Gathered : Bool
  Gathered = set.contains found to || comes_to board to (line k side h n)

  gather-nothing : comes_to board to (line k side h n) ≡ false → set.contains found to ≡ Gathered
  gather-nothing e = sym (ap (λ b. set.contains found to || b) e ∙ or-false (set.contains found to))

  pub gather-edge : step side h n ≡ None → set.contains found to ≡ Gathered
  gather-edge e = gather-nothing (walk-edge board to k side h n e)

  pub gather-end : k ≡ 0 → set.contains found to ≡ Gathered
  gather-end e = gather-nothing (walk-end board to k side h n e)

  module _ (m : ℕ) (next : step side h n ≡ Some m) (new : Numbers) (is : new ≡ set.insert found m) where
    gather_first : (j : ℕ) → k ≡ j + 1 → (rest : Bool)
        → (is_none (map.get board m) && comes_to board to (line j side h m)) ≡ rest
        → (set.contains new to || rest) ≡ Gathered
    gather_first j more rest e =
        ap (λ s. set.contains s to || rest) is ∙ ap (λ b. b || rest)
        (contains-insert_nat found m to ∙ ap (λ b. b || set.contains found to) (nat_eq-turned to m))
        ∙ ap (λ b. b || rest) (or_comm (nat_eq m to) (set.contains found to))
        ∙ or_assoc (set.contains found to) (nat_eq m to) rest
        ∙ ap (λ b. set.contains found to || (nat_eq m to || b)) (sym e)
        ∙ sym (ap (λ b. set.contains found to || b) (walk_first board to k side h n m next j more))

    pub gather-stopped : 0 < k → is_none (map.get board m) ≡ false → set.contains new to ≡ Gathered
    gather-stopped more e = sym (or-false (set.contains new to))
        ∙ gather_first (k - 1) (omega arith) false (ap (λ b. b && comes_to board to (line (k - 1) side h m)) e)

    pub gather-on : (j : ℕ) → k ≡ j + 1 → is_none (map.get board m) ≡ true
        → (set.contains new to || comes_to board to (line j side h m)) ≡ Gathered
    gather-on j more e = gather_first j more (comes_to board to (line j side h m))
        (ap (λ b. b && comes_to board to (line j side h m)) e)

-- one more element of a loop that looks for one which passes
pub any_more : {A : Type 0} (f : A → Bool) (xs : List A) (i : ℕ) (d : A) (found : Bool) → i < length xs
    → found ≡ list_any f (take i xs) → (found || f (get_or xs i d)) ≡ list_any f (take (i + 1) xs)
any_more f xs i d found h so_far =
    (λ j. so_far j || sym (or-false (f (get_or xs i d))) j) ∙ sym (list_any-append f (take i xs) (get_or xs i d ∷ []))
    ∙ ap (list_any f) (sym (take_more xs i d h))

pub any_all : {A : Type 0} (f : A → Bool) (xs : List A) (i : ℕ) (found : Bool) → length xs ≤ i
    → found ≡ list_any f (take i xs) → found ≡ list_any f xs
any_all f xs i found h so_far = so_far ∙ ap (list_any f) (take_all i xs h)

flat_map-none : {A B : Type 0} (f : B → List A) (xs : List B) → ((x : B) → f x ≡ []) → flat_map f xs ≡ []
flat_map-none f [] none = refl
flat_map-none f (x ∷ xs) none = ap (λ ys. ys ++ flat_map f xs) (none x) ∙ flat_map-none f xs none

step_is : (p : ShogiPosition) (from to : ℕ) (promote : Bool)
    → is_pseudo p (Step from to promote) ≡ (goes p from to promote && not (not promote && stuck_after p from to))
unfolding is_pseudo drops_second_pawn
step_is p from to promote =
    let g = goes p from to promote in
    let s = not (not promote && stuck_after p from to) in
    and-true (((g && true) && s) && true) ∙ and-true ((g && true) && s) ∙ ap (λ b. b && s) (and-true g)

not_gone : (p : ShogiPosition) (from to : ℕ) (promote : Bool) → goes p from to promote ≡ false
    → is_pseudo p (Step from to promote) ≡ false
not_gone p from to promote e = step_is p from to promote ∙ ap (λ b. b && not (not promote && stuck_after p from to)) e

-- A test that only moves pass which may be played but for what they do to the kings.
module _ (p : ShogiPosition) (test : SMove → Bool) (only : (m : SMove) → is_pseudo p m ≡ false → test m ≡ false) where
  pub none_passing : (m : SMove) → is_pseudo p m ≡ false → if_passes test m ≡ []
  unfolding if_passes
  none_passing m e = ap (λ b. cond b (m ∷ []) []) (only m e)

  module _ (from : ℕ) where
    none_between : (to : ℕ) → ((promote : Bool) → goes p from to promote ≡ false) → steps_between test from to ≡ []
    unfolding steps_between
    none_between to none =
        (λ i. none_passing (Step from to false) (not_gone p from to false (none false)) i
        ++ none_passing (Step from to true) (not_gone p from to true (none true)) i)

    none_from : ((to : ℕ) (promote : Bool) → goes p from to promote ≡ false) → steps_from test from ≡ []
    unfolding steps_from
    none_from none = flat_map-none (steps_between test from) all_squares (λ to. none_between to (none to))

    -- no own piece stands there
    pub steps-not_own : is_side p.turn (map.get p.board from) ≡ false → steps_from test from ≡ []
    steps-not_own e =
        none_from (λ to promote. false_from_ne_true (goes p from to promote) (λ g.
        let w = (goes-is p from to promote).0 g in
        both_ways (is_side p.turn (map.get p.board from)) e
        (ap (is_side p.turn) w.reach.stands ∙ same_side-of w.piece.side p.turn w.own)))

  pub steps-own : (own : Numbers) → ((q : ℕ) → set.contains own q ≡ is_side p.turn (map.get p.board q))
      → flat_map (steps_from test) (ascending 0 81 own) ≡ all_steps test
  unfolding all_steps all_squares
  steps-own own is = sym (flat_map-ascending (steps_from test) own 0 81 (λ q e. steps-not_own q (sym (is q) ∙ e)))

  -- drops of what is not held
  pub drops-none : (kind : HandKind) → held p.hands p.turn kind ≡ 0 → drops_of test kind ≡ []
  unfolding drops_of drops_on
  drops-none kind e = flat_map-none (λ to. if_passes test (Drop kind to)) all_squares
      (λ to. none_passing (Drop kind to) (false_from_ne_true (is_pseudo p (Drop kind to))
      (λ t. ((is_pseudo-is p (Drop kind to)).0 t).holds e)))

-- The steps of a piece.
module _ (p : ShogiPosition) (piece : SPiece) (from : ℕ) (stands : map.get p.board from ≡ Some piece) where
  stuck_after-is : (to : ℕ) → stuck_after p from to ≡ is_stuck piece.side piece.role to
  unfolding stuck_after
  stuck_after-is to = ap (λ o. option_map_or (λ q. is_stuck q.side q.role to) o false) stands

  module _ (test : SMove → Bool) (only : (m : SMove) → is_pseudo p m ≡ false → test m ≡ false) where
    -- the piece may not land there
    pub steps-no_landing : (to : ℕ) → may_land p.turn (map.get p.board to) ≡ false → steps_between test from to ≡ []
    steps-no_landing to e =
        none_between p test only from to (λ promote. false_from_ne_true (goes p from to promote) (λ g.
        both_ways (may_land p.turn (map.get p.board to)) e ((goes-is p from to promote).0 g).lands))

    -- the piece does not reach it
    unreached : (to : ℕ) → piece_reaches p.board piece from to ≡ false → steps_between test from to ≡ []
    unreached to e =
        none_between p test only from to (λ promote. false_from_ne_true (goes p from to promote) (λ g.
        let w = (goes-is p from to promote).0 g in
        let same : Some w.piece ≡ Some piece = sym w.reach.stands ∙ stands in
        let one : w.piece ≡ piece = cc in
        both_ways (piece_reaches p.board piece from to) e
        (subst (λ q. piece_reaches p.board q from to ≡ true) one
        (piece_reaches-complete p.board w.piece from to w.reach))))

    pub steps-reached : (s : Numbers) → ((to : ℕ) → set.contains s to ≡ piece_reaches p.board piece from to)
        → flat_map (steps_between test from) (ascending 0 81 s) ≡ steps_from test from
    unfolding steps_from all_squares
    steps-reached s is = sym (flat_map-ascending (steps_between test from) s 0 81 (λ q e. unreached q (sym (is q) ∙ e)))

  -- the piece reaches it, and may land there
  module _ (to : ℕ) (own : piece.side ≡ p.turn) (reaches : piece_reaches p.board piece from to ≡ true)
      (lands : may_land p.turn (map.get p.board to) ≡ true) where
    goes-own : (promote : Bool) → goes p from to promote ≡ (not promote || may_promote piece from to)
    unfolding goes
    goes-own promote =
        ap (λ o. option_map_or (goes_as p from to promote) o false) stands
        ∙
        (λ i. same_side-of piece.side p.turn own i && lands i && (not promote || may_promote piece from to) &&
        reaches i) ∙ and-true (not promote || may_promote piece from to)

    pub step-pseudo : (promote : Bool) → step_passes piece from to promote ≡ is_pseudo p (Step from to promote)
    step-pseudo true =
        sym (step_is p from to true ∙ ap (λ b. b && true) (goes-own true) ∙ and-true (may_promote piece from to))
    step-pseudo false = sym (step_is p from to false ∙ (λ i. goes-own false i && not (stuck_after-is to i)))

-- What the tests say of a move that may be played but for what it does to the kings.
module _ (p : ShogiPosition) (m : SMove) (pseudo : is_pseudo p m ≡ true) where
  pub escapes-pseudo : escapes p m ≡ not (leaves_king p m)
  unfolding escapes
  escapes-pseudo = ap (λ b. b && not (leaves_king p m)) pseudo

  pub is_legal-pseudo : is_legal p m ≡ (not (leaves_king p m) && not (mates_by_pawn p m))
  unfolding is_legal
  is_legal-pseudo = ap (λ b. b && not (mates_by_pawn p m)) escapes-pseudo
