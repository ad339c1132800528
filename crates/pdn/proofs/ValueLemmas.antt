-- The functions that write and read moves are as the rules say.
use Rattle.std.proofs.Common.{◌≡◌, ◌≢◌, ℕ, inl, inr, Bool, true, false, cond, nat_eq, List, [], ◌∷◌, Option, Some, None}
use Rattle.std.proofs.Common.{refl, sym, ap, ◌∙◌, subst}
use Rattle.std.specs.List.{list_any}
use Rattle.std.specs.List.Sorted.{IsStrictlySortedBy}
use Rattle.std.specs.Option.{option_map_or}
use Rattle.std.specs.Ordering.{nat_cmp, ordering_reverse}
use Rattle.std.specs.declared.cmp.Ordering.{Ordering}
use Rattle.std.specs.declared.cmp.Ordering.TheVariants.{Less, Equal, Greater}
use Rattle.std.specs.FinMap.{nat_cmp-IsAntisymmetric, slice_cmp-IsAntisymmetric}
use Rattle.std.specs.FinSet as set
use Rattle.std.proofs.lemmas.Bool.{eqb-true, eq-eqb}
use Rattle.squares.specs.declared.draughts.piece.DPiece.{DPiece}
use Rattle.squares.specs.declared.draughts.moves.DMove.{DMove}
use Rattle.squares.specs.DraughtsBoard.{Position}
use Rattle.squares.specs.internal.DraughtsMarks.{nat_eq_other}
use Rattle.squares.specs.internal.In.{In, list_any-found, list_any-finds}
use Rattle.squares.specs.OrderedLists.{put_all}
use Rattle.squares.specs.TheOnly.{TheOnly}
use Rattle.squares.specs.internal.PutLemmas.{put_all-sorted, put_all-in, put_all-has}
use Rattle.draughts_moves.specs.Capture.{Capture, without}
use Rattle.draughts_moves.specs.Search.{own_at, most}
use Rattle.draughts_moves.specs.Routes.{route_cmp, landings_of}
use Rattle.draughts_moves.specs.Legal.{Legal}
use Rattle.draughts_moves.proofs.Proved.{moves-sound, moves-complete, IsMost-most, Capture-len, own_at-own, own_at-is}
use Rattle.draughts_moves.proofs.Proved.{route_cmp-total, landings_of-sound, landings_of-complete}
use Rattle.pdn.specs.MoveText.{HasRival, IsFirstRoute, IsMoveText, IsUnrouted, IsWritten, is_like, quiet_text}
use Rattle.pdn.specs.MoveText.{capture_text, short, long}
use Rattle.pdn.specs.MoveText as written
use Rattle.pdn.specs.MoveValue.{legal_moves, routes_in, first_of, named, move_text}
use Rattle.pdn.proofs.WritingLemmas.{is_like-rival, rival-is_like, first_least, Legal-Capture}

pub legal_moves-legal : (p : Position) (m : DMove) → In m (legal_moves p) → Legal p m
unfolding legal_moves
legal_moves-legal p m h = (moves-sound p (most p) (IsMost-most p) m h).0

pub legal-legal_moves : (p : Position) (m : DMove) → Legal p m → In m (legal_moves p)
unfolding legal_moves
legal-legal_moves p m legal = moves-complete p (most p) (IsMost-most p) m legal

routes_in-own : (p : Position) (m : DMove) (o : Option DPiece) → own_at p m.from ≡ o
    →
    routes_in p m
    ≡ option_map_or (λ q. landings_of (without p.board m.from) q m.taken m.to (set.len m.taken) set.empty m.from) o []
unfolding routes_in
routes_in-own p m o own =
    ap
    (λ o. option_map_or (λ q. landings_of (without p.board m.from) q m.taken m.to (set.len m.taken) set.empty m.from) o
    []) own

pub routes_in-Capture : (p : Position) (m : DMove) (ls : List ℕ) → In ls (routes_in p m)
    → Capture p m.from ls m.taken m.to
routes_in-Capture p m ls h =
    elim (own_at p m.from) as (λ o. own_at p m.from ≡ o
    →
    In ls
    (option_map_or (λ q. landings_of (without p.board m.from) q m.taken m.to (set.len m.taken) set.empty m.from) o
    []) → Capture p m.from ls m.taken m.to) [
      | None ↦ λ own k. absurd k
      | Some q ↦ λ own k.
          let is = own_at-is p m.from q own in
          record {
            piece = q;
            stands = is.0;
            own = is.1;
            route =
                (landings_of-sound (without p.board m.from) q m.taken m.to (set.len m.taken) set.empty m.from ls k).1;
          }
    ] refl (subst (λ rs. In ls rs) (routes_in-own p m (own_at p m.from) refl) h)

pub Capture-routes_in : (p : Position) (m : DMove) (ls : List ℕ) → Capture p m.from ls m.taken m.to
    → In ls (routes_in p m)
Capture-routes_in p m ls c =
    let own = own_at-own p m.from c.piece c.stands c.own in
    let size = Capture-len p m.from m.to ls m.taken c in
    let k = landings_of-complete (without p.board m.from) c.piece m.taken m.to ls set.empty m.from c.route in
    subst (λ rs. In ls rs) (sym (routes_in-own p m (Some c.piece) own))
    (subst (λ n. In ls (landings_of (without p.board m.from) c.piece m.taken m.to n set.empty m.from)) (sym size) k)

-- the routes in order
ordered : Position → DMove → List (List ℕ)
ordered p m = put_all route_cmp (routes_in p m) []

ordered-sorted : (p : Position) (m : DMove) → IsStrictlySortedBy route_cmp (ordered p m)
unfolding ordered IsStrictlySortedBy
ordered-sorted p m = put_all-sorted route_cmp route_cmp-total (routes_in p m) [] tt

ordered-Capture : (p : Position) (m : DMove) (ls : List ℕ) → In ls (ordered p m) → Capture p m.from ls m.taken m.to
unfolding ordered
ordered-Capture p m ls h = elim (put_all-in route_cmp route_cmp-total (routes_in p m) [] ls h)
    [ inl never ↦ absurd never | inr k ↦ routes_in-Capture p m ls k ]

Capture-ordered : (p : Position) (m : DMove) (ls : List ℕ) → Capture p m.from ls m.taken m.to → In ls (ordered p m)
unfolding ordered
Capture-ordered p m ls c =
    put_all-has route_cmp route_cmp-total (routes_in p m) [] ls
    (λ x y _ _ tie. slice_cmp-IsAntisymmetric nat_cmp-IsAntisymmetric x y tie) (Capture-routes_in p m ls c)

-- where there is a route, the first is that of the list
first-route : (p : Position) (m : DMove) (none : List ℕ) (rs : List (List ℕ)) → ordered p m ≡ rs → (ls : List ℕ)
    → Capture p m.from ls m.taken m.to → IsFirstRoute p m (first_of rs none)
first-route p m none [] e ls c = absurd (subst (λ rs. In ls rs) e (Capture-ordered p m ls c))
first-route p m none (r ∷ rs) e ls c =
    record {
      route = ordered-Capture p m r (subst (λ xs. In r xs) (sym e) (inl refl));
      first = λ others other. first_least (r ∷ rs) r others
          (subst (IsStrictlySortedBy route_cmp) e (ordered-sorted p m)) refl
          (subst (λ xs. In others xs) e (Capture-ordered p m others other));
    }

both_least : (a b : List ℕ) (o : Ordering) → route_cmp a b ≡ o → o ≢ Greater → route_cmp b a ≢ Greater → a ≡ b
both_least a b Less e h k = absurd (k (route_cmp-total.antisymm b a ∙ ap ordering_reverse e))
both_least a b Equal e h k = slice_cmp-IsAntisymmetric nat_cmp-IsAntisymmetric a b e
both_least a b Greater e h k = absurd (h refl)

pub one-first : (p : Position) (m : DMove) (a b : List ℕ) → IsFirstRoute p m a → IsFirstRoute p m b → a ≡ b
one-first p m a b f g = both_least a b (route_cmp a b) refl (f.first b g.route) (g.first a f.route)

takes-nonzero : (m : DMove) → m.taken ≢ set.empty → nat_eq (set.len m.taken) 0 ≡ false
takes-nonzero m takes = nat_eq_other (set.len m.taken) 0 (λ e. takes (set.empty_of_len m.taken e))

-- the function's text for each way to write
text-quiet : (p : Position) (m : DMove) → set.len m.taken ≡ 0 → move_text p m ≡ quiet_text m.from m.to
unfolding move_text
text-quiet p m e = ap (λ b. cond b (quiet_text m.from m.to) (capture_text m.from (named p m)))
    (eq-eqb (set.len m.taken) 0 e)

text-capture : (p : Position) (m : DMove) → m.taken ≢ set.empty → move_text p m ≡ capture_text m.from (named p m)
unfolding move_text
text-capture p m takes = ap (λ b. cond b (quiet_text m.from m.to) (capture_text m.from (named p m)))
    (takes-nonzero m takes)

text-short : (p : Position) (m : DMove) → m.taken ≢ set.empty → list_any (is_like m) (legal_moves p) ≡ false
    → move_text p m ≡ capture_text m.from (m.to ∷ [])
unfolding ordered
text-short p m takes none = text-capture p m takes
    ∙ ap (λ b. capture_text m.from (cond b (first_of (ordered p m) (m.to ∷ [])) (m.to ∷ []))) none

text-long : (p : Position) (m : DMove) → m.taken ≢ set.empty → list_any (is_like m) (legal_moves p) ≡ true
    → move_text p m ≡ capture_text m.from (first_of (ordered p m) (m.to ∷ []))
unfolding ordered
text-long p m takes some = text-capture p m takes
    ∙ ap (λ b. capture_text m.from (cond b (first_of (ordered p m) (m.to ∷ [])) (m.to ∷ []))) some

rival-found : (p : Position) (m : DMove) → HasRival p m → list_any (is_like m) (legal_moves p) ≡ true
rival-found p m w = list_any-finds (is_like m) (legal_moves p) w.0 (legal-legal_moves p w.0 w.1.legal)
    (rival-is_like p m w.0 w.1)

found-rival : (p : Position) (m : DMove) → list_any (is_like m) (legal_moves p) ≡ true → HasRival p m
found-rival p m e = let w = list_any-found (is_like m) (legal_moves p) e in
    (w.0, is_like-rival p m w.0 (legal_moves-legal p w.0 w.1) w.2)

no-rival : (p : Position) (m : DMove) (b : Bool) → list_any (is_like m) (legal_moves p) ≡ b → (HasRival p m → ⊥)
    → b ≡ false
no-rival p m true e none = absurd (none (found-rival p m e))
no-rival p m false e none = refl

one-text : (p : Position) (m : DMove) (text : List ℕ) → IsMoveText p m text → text ≡ move_text p m
one-text p m text (written.quiet none is) = is ∙ sym (text-quiet p m (ap set.len none ∙ set.len-empty nat_cmp))
one-text p m text (short takes none is) = is
    ∙ sym (text-short p m takes (no-rival p m (list_any (is_like m) (legal_moves p)) refl none))
one-text p m text (long takes rival landings first is) =
    is
    ∙ ap (capture_text m.from)
    (one-first p m landings (first_of (ordered p m) (m.to ∷ [])) first
    (first-route p m (m.to ∷ []) (ordered p m) refl landings first.route))
    ∙ sym (text-long p m takes (rival-found p m rival))

pub text-one : (p : Position) (m : DMove) (text : List ℕ) → Legal p m → IsMoveText p m text → text ≡ move_text p m
text-one p m text legal = one-text p m text

not_rival : (p : Position) (m : DMove) → list_any (is_like m) (legal_moves p) ≡ false → HasRival p m → ⊥
not_rival p m e w = let found = rival-found p m w in cc

pub text-is : (p : Position) (m : DMove) → Legal p m → IsMoveText p m (move_text p m)
text-is p m legal =
    elim (nat_eq (set.len m.taken) 0) as (λ b. nat_eq (set.len m.taken) 0 ≡ b → IsMoveText p m (move_text p m)) [
      | true ↦ λ e.
          let none : set.len m.taken ≡ 0 = eqb-true (set.len m.taken) 0 e in
          written.quiet (set.empty_of_len m.taken none) (text-quiet p m none)
      | false ↦ λ e.
          let takes : m.taken ≢ set.empty = λ none. let zero_len =
          eq-eqb (set.len m.taken) 0 (ap set.len none ∙ set.len-empty nat_cmp) in cc in
          elim (list_any (is_like m) (legal_moves p)) as (λ b. list_any (is_like m) (legal_moves p) ≡ b
          → IsMoveText p m (move_text p m)) [
            | true ↦ λ found.
                let w = Legal-Capture p m legal takes in
                long takes (found-rival p m found) (first_of (ordered p m) (m.to ∷ []))
                (first-route p m (m.to ∷ []) (ordered p m) refl w.0 w.1) (text-long p m takes found)
            | false ↦ λ none. short takes (not_rival p m none) (text-short p m takes none)
          ] refl
    ] refl

-- ---- any move

module _ (p : Position) (m : DMove) where
  -- the text of a capture that should name its route, by its routes in order
  abbrev by_routes : List (List ℕ) → List ℕ
  by_routes routes = capture_text m.from (first_of routes (m.to ∷ []))

  routed : (routes : List (List ℕ)) → ordered p m ≡ routes → m.taken ≢ set.empty → HasRival p m
      → IsWritten p m (by_routes routes)
  routed [] e takes rival =
      inr (
        record {
          takes = takes;
          rival = rival;
          no_route = λ ls c. subst (In ls) e (Capture-ordered p m ls c);
        },
        refl,
      )
  routed (r ∷ rs) e takes rival =
      let route = ordered-Capture p m r (subst (In r) (sym e) (inl refl)) in
      inl (long takes rival r (first-route p m (m.to ∷ []) (r ∷ rs) e r route) refl)

  unrouted : (routes : List (List ℕ)) → ordered p m ≡ routes → IsUnrouted p m → routes ≡ []
  unrouted [] e none = refl
  unrouted (r ∷ rs) e none = absurd (none.no_route r (ordered-Capture p m r (subst (In r) (sym e) (inl refl))))

  pub written-is : IsWritten p m (move_text p m)
  written-is =
      elim (nat_eq (set.len m.taken) 0) as (λ b. nat_eq (set.len m.taken) 0 ≡ b → IsWritten p m (move_text p m)) [
        | true ↦ λ e.
            let none : set.len m.taken ≡ 0 = eqb-true (set.len m.taken) 0 e in
            inl (written.quiet (set.empty_of_len m.taken none) (text-quiet p m none))
        | false ↦ λ e.
            let takes : m.taken ≢ set.empty = λ none. let zero_len =
            eq-eqb (set.len m.taken) 0 (ap set.len none ∙ set.len-empty nat_cmp) in cc in
            elim (list_any (is_like m) (legal_moves p)) as (λ b. list_any (is_like m) (legal_moves p) ≡ b
            → IsWritten p m (move_text p m)) [
              | true ↦ λ found.
                  subst (IsWritten p m) (sym (text-long p m takes found))
                  (routed (ordered p m) refl takes (found-rival p m found))
              | false ↦ λ none. inl (short takes (not_rival p m none) (text-short p m takes none))
            ] refl
      ] refl

  pub written-one : (text : List ℕ) → IsWritten p m text → text ≡ move_text p m
  written-one text (inl w) = one-text p m text w
  written-one text (inr w) = w.1 ∙ sym (ap by_routes (unrouted (ordered p m) refl w.0))
      ∙ sym (text-long p m w.0.takes (rival-found p m w.0.rival))

  -- a move has one text
  abbrev pub text-answer : TheOnly (IsWritten p m)
  text-answer = record { value = move_text p m; is = written-is; only = written-one }
