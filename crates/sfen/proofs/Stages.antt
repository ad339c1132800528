-- Steps along a text, readings that keep the pieces in the hands as they are listed, and how many the hands show.
use Rattle.std.proofs.Common.{◌≡◌, ℕ, ◌+◌, ◌<◌, List, [], ◌∷◌, ◌++◌, length, take, get_or, Option, Some, None, refl}
use Rattle.std.proofs.Common.{sym, ap, ◌∙◌, ◌≤◌, Bool, true, false, cond, ◌&&◌, subst, lit≤, arith}
use Rattle.std.proofs.lemmas.List.{take_more}
use Rattle.sfen.specs.internal.Reading.{if_some, run, holding, act, follow, take_byte, no_pieces, with_more}
use Rattle.std.specs.Prelude.{option_map, min}
use Rattle.std.specs.FinMap as map
use Rattle.squares.specs.declared.sides.Side.{Side}
use Rattle.squares.specs.declared.sides.Side.TheVariants.{First, Second}
use Rattle.squares.specs.declared.shogi.hand.Hands.{Hands}
use Rattle.squares.specs.ShogiBoard.{ShogiBoard}
use Rattle.sfen.specs.declared.places.SfenState.{SfenState}
use Rattle.sfen.specs.declared.places.SfenState.TheVariants.{Rank}
use Rattle.sfen.specs.declared.places.Action.{Action}
use Rattle.sfen.specs.declared.places.Action.TheVariants.{Pass, Put, Move, Hold}
use Rattle.sfen.specs.declared.reading.Reading.{Reading}
use Rattle.sfen.specs.internal.SfenGrammar.{HeldItem, SfenForm, same_hand_kind, held_total}
use Rattle.sfen.specs.internal.Signs.{sign_of}
use Rattle.sfen.specs.internal.Places.{Step, next}
use Rattle.squares.specs.declared.shogi.piece.HandKind.{HandKind}
use Rattle.squares.specs.declared.shogi.piece.HandKind.TheVariants as in_hand
use Rattle.squares.specs.declared.shogi.hand.Hand.{Hand}
use Rattle.squares.specs.Sides.{same_side}
use Rattle.squares.specs.ShogiHands.{count_of, hand_of}
use Rattle.squares.specs.internal.ShogiSets.{set_size}

-- a text in two parts
pub run-append : {S : Type 0} (step : S → ℕ → Option S) (a : List ℕ) (s : S) (b : List ℕ)
    → run step s (a ++ b) ≡ if_some (λ t. run step t b) (run step s a)
run-append step [] s b = refl
run-append {S} step (c ∷ a) s b =
    elim (step s c) as (λ o. if_some (λ t. run step t (a ++ b)) o
    ≡ if_some (λ t. run step t b) (if_some (λ t. run step t a) o)) [
      | None ↦ refl
      | Some t ↦ run-append step a t b
    ]

pub run-after : {S : Type 0} (step : S → ℕ → Option S) (a : List ℕ) (s t : S) (b : List ℕ) → run step s a ≡ Some t
    → run step s (a ++ b) ≡ run step t b
run-after step a s t b e = run-append step a s b ∙ ap (if_some (λ u. run step u b)) e

pub run-none : {S : Type 0} (step : S → ℕ → Option S) (a : List ℕ) (s : S) (b : List ℕ) → run step s a ≡ None
    → run step s (a ++ b) ≡ None
run-none step a s b e = run-append step a s b ∙ ap (if_some (λ u. run step u b)) e

-- one byte more
one : {S : Type 0} (o : Option S) → if_some (λ t. Some t) o ≡ o
one None = refl
one (Some x) = refl

pub run-more : {S : Type 0} (step : S → ℕ → Option S) (s t : S) (text : List ℕ) (i c : ℕ) → i < length text
    → c ≡ get_or text i 0 → run step s (take i text) ≡ Some t → run step s (take (i + 1) text) ≡ step t c
run-more step s t text i c within is before =
    ap (run step s) (take_more text i 0 within ∙ ap (λ d. take i text ++ d ∷ []) (sym is))
    ∙ run-after step (take i text) s t (c ∷ []) before ∙ one (step t c)

-- ---- Readings that keep the pieces in the hands as they are listed

pub record Stage : Type 0 where
  pub place : SfenState
  pub board : ShogiBoard
  pub turn : Side
  pub held : List HeldItem

abbrev pub on : SfenState → ShogiBoard → Side → List HeldItem → Stage
on place board turn held = record { place = place; board = board; turn = turn; held = held }

abbrev pub moved : SfenState → Action → Stage → Stage
moved to Pass s = record s { place = to }
moved to (Put square piece) s =
    record { place = to; board = map.insert s.board square piece; turn = s.turn; held = s.held }
moved to (Move side) s = record { place = to; board = s.board; turn = side; held = s.held }
moved to (Hold side kind count) s =
    record {
      place = to;
      board = s.board;
      turn = s.turn;
      held =
          s.held ++ record { side = side; kind = kind; count = count } ∷ [];
    }

abbrev pub moved_by : Step → Stage → Option Stage
moved_by None s = None
moved_by (Some step) s = Some (moved step.0 step.1 s)

abbrev pub grow : Stage → ℕ → Option Stage
grow s c = moved_by (next s.place (sign_of c)) s

abbrev pub start : Stage
start = record { place = Rank 1 9; board = map.empty; turn = First; held = [] }

abbrev pub form_of : Stage → ℕ → SfenForm
form_of s number = record { board = s.board; turn = s.turn; held = s.held; number = number }

-- what the hands hold by a list
abbrev pub tally_from : Hands → List HeldItem → Hands
tally_from hands [] = hands
tally_from hands (item ∷ items) = tally_from (holding item.side item.kind item.count hands) items

abbrev pub tally : List HeldItem → Hands
tally items = tally_from (record { first = no_pieces; second = no_pieces }) items

tally-more : (hands : Hands) (items : List HeldItem) (item : HeldItem)
    → tally_from hands (items ++ item ∷ []) ≡ holding item.side item.kind item.count (tally_from hands items)
tally-more hands [] item = refl
tally-more hands (first ∷ items) item = tally-more (holding first.side first.kind first.count hands) items item

-- the reading of a stage
abbrev pub seen : Stage → Reading
seen s = record { place = s.place; board = s.board; hands = tally s.held; turn = s.turn }

seen-step : (to : SfenState) (action : Action) (s : Stage)
    → record (act action (seen s)) { place = to } ≡ seen (moved to action s)
seen-step to Pass s = refl
seen-step to (Put square piece) s = refl
seen-step to (Move side) s = refl
seen-step to (Hold side kind count) s =
    let more = tally-more (record { first = no_pieces; second = no_pieces }) s.held
    (record { side = side; kind = kind; count = count }) in
    λ i. record { place = to; board = s.board; hands = sym more i; turn = s.turn }

seen-follow : (step : Step) (s : Stage) → follow step (seen s) ≡ option_map seen (moved_by step s)
seen-follow None s = refl
seen-follow (Some step) s = ap Some (seen-step step.0 step.1 s)

-- a reading along a text is that of the stages
pub seen-run : (text : List ℕ) (s : Stage) → run take_byte (seen s) text ≡ option_map seen (run grow s text)
seen-run [] s = refl
seen-run (c ∷ text) s =
    ap (if_some (λ r. run take_byte r text)) (seen-follow (next s.place (sign_of c)) s)
    ∙
    (elim (grow s c) as (λ o. if_some (λ r. run take_byte r text) (option_map seen o)
    ≡ option_map seen (if_some (λ t. run grow t text) o)) [
      | None ↦ refl
      | Some t ↦ seen-run text t
    ])

-- ---- How many pieces the hands show of those that are listed: all of them, where they are not more than 255

with-more : (k kind : HandKind) (count : ℕ) (hand : Hand)
    → count_of kind (with_more k count hand) ≡ cond (same_hand_kind k kind) (min (count_of kind hand + count) 255)
    (count_of kind hand)
with-more in_hand.Rook in_hand.Rook count hand = refl
with-more in_hand.Bishop in_hand.Bishop count hand = refl
with-more in_hand.Gold in_hand.Gold count hand = refl
with-more in_hand.Silver in_hand.Silver count hand = refl
with-more in_hand.Knight in_hand.Knight count hand = refl
with-more in_hand.Lance in_hand.Lance count hand = refl
with-more in_hand.Pawn in_hand.Pawn count hand = refl
with-more _ _ count hand = refl

holding-count : (own side : Side) (k kind : HandKind) (count : ℕ) (hands : Hands)
    → count_of kind (hand_of side (holding own k count hands)) ≡
    cond (same_side own side && same_hand_kind k kind) (min (count_of kind (hand_of side hands) + count) 255)
    (count_of kind (hand_of side hands))
holding-count First First k kind count hands = with-more k kind count hands.first
holding-count First Second k kind count hands = refl
holding-count Second First k kind count hands = refl
holding-count Second Second k kind count hands = with-more k kind count hands.second

added : (b : Bool) (held count total : ℕ) → held ≤ 255
    → min (cond b (min (held + count) 255) held + total) 255 ≡ min (held + (cond b count 0 + total)) 255
added true held count total h = omega arith
added false held count total h = omega arith

bounded : (b : Bool) (held count : ℕ) → held ≤ 255 → cond b (min (held + count) 255) held ≤ 255
bounded true held count h = omega arith
bounded false held count h = h

tally_from-count : (side : Side) (kind : HandKind) (items : List HeldItem) (hands : Hands)
    → count_of kind (hand_of side hands) ≤ 255
    → count_of kind (hand_of side (tally_from hands items)) ≡ min
    (count_of kind (hand_of side hands) + held_total side kind items) 255
tally_from-count side kind [] hands h = omega (arith, h)
tally_from-count side kind (item ∷ items) hands h =
    let b = same_side item.side side && same_hand_kind item.kind kind in
    let here = holding-count item.side side item.kind kind item.count hands in
    let held = count_of kind (hand_of side hands) in
    let small : count_of kind (hand_of side (holding item.side item.kind item.count hands)) ≤ 255 =
    subst (λ n. n ≤ 255) (sym here) (bounded b held item.count h) in
    tally_from-count side kind items (holding item.side item.kind item.count hands) small
    ∙ ap (λ n. min (n + held_total side kind items) 255) here ∙ added b held item.count (held_total side kind items) h

none-held : (side : Side) (kind : HandKind)
    → count_of kind (hand_of side (record { first = no_pieces; second = no_pieces })) ≡ 0
none-held First in_hand.Rook = refl
none-held Second in_hand.Rook = refl
none-held _ _ = refl

pub tally-count : (side : Side) (kind : HandKind) (items : List HeldItem)
    → count_of kind (hand_of side (tally items)) ≡ min (held_total side kind items) 255
tally-count side kind items =
    let none = none-held side kind in
    tally_from-count side kind items (record { first = no_pieces; second = no_pieces }) (omega (arith, none))
    ∙ ap (λ n. min (n + held_total side kind items) 255) none ∙ ap (λ n. min n 255) (omega arith)

pub small-set : (kind : HandKind) → set_size kind ≤ 18
small-set in_hand.Rook = lit≤ tt
small-set _ = lit≤ tt
