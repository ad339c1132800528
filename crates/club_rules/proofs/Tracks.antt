-- Tracks of lines, made ply by ply.
use Rattle.std.proofs.Common.{◌≡◌, ◌≤◌, ◌+◌, ℕ, Bool, true, false, List, [], ◌∷◌, ◌++◌, length, sym, ap, ◌∙◌}
use Rattle.std.proofs.Common.{append-nil, append_assoc, arith}
use Rattle.std.specs.Prelude.{if◌then◌else◌}
use Rattle.club_rules.specs.GameRules.{GameRules}
use Rattle.club_rules.specs.Line.{position_after, track_after, line_track}
use Rattle.club_rules.specs.Laws.{NumbersAreFew}
use Rattle.club_rules.proofs.Lines.{position_after-append}

module _ {P M E T : Type 0} (rules : GameRules P M E T) where
  -- what begins as tracks do, and goes on as they do, is the track of each line
  module _ (start : P) (whole : List M → T) (begins : whole [] ≡ rules.track_start start)
      (goes_on : (ms : List M) (m : M) → whole (ms ++ m ∷ []) ≡ rules.track_next (whole ms)
      (position_after rules start ms) m (rules.play (position_after rules start ms) m)) where
    track-grows : (ms ns : List M) → track_after rules (whole ms) (position_after rules start ms) ns ≡ whole (ms ++ ns)
    track-grows ms [] = ap whole (sym (append-nil ms))
    track-grows ms (m ∷ ns) =
        let after = rules.play (position_after rules start ms) m in
        let more : List M = ms ++ m ∷ [] in
        ap (λ t. track_after rules t after ns) (sym (goes_on ms m))
        ∙ ap (λ q. track_after rules (whole more) q ns) (sym (position_after-append rules start ms m))
        ∙ track-grows more ns ∙ ap whole (append_assoc ms (m ∷ []) ns)

    pub track-is : (ms : List M) → line_track rules start ms ≡ whole ms
    track-is ms = ap (λ t. track_after rules t start ms) (sym begins) ∙ track-grows [] ms

  abbrev first_of : T → ℕ
  first_of track = (rules.track_numbers track).0

  abbrev second_of : T → ℕ
  second_of track = (rules.track_numbers track).1

  -- numbers of which each is one at most before the first ply, and grows by one a ply at most, are few
  module _
      (next : (track : T) (p : P) (m : M) (q : P) → (first_of (rules.track_next track p m q) ≤ first_of track + 1)
      × (second_of (rules.track_next track p m q) ≤ second_of track + 1)) where
    numbers-after : (track : T) (p : P) (ms : List M)
        → (first_of (track_after rules track p ms) ≤ length ms + first_of track)
        × (second_of (track_after rules track p ms) ≤ length ms + second_of track)
    numbers-after track p [] = (omega arith, omega arith)
    numbers-after track p (m ∷ ms) =
        let after = rules.play p m in
        let step = next track p m after in
        let rest = numbers-after (rules.track_next track p m after) after ms in
        (omega (arith, step.0, rest.0), omega (arith, step.1, rest.1))

    pub numbers-few : first_of (rules.track_start rules.start) ≤ 1 → second_of (rules.track_start rules.start) ≤ 1
        → NumbersAreFew rules
    numbers-few first second ms =
        let all = numbers-after (rules.track_start rules.start) rules.start ms in
        (omega (arith, all.0, first), omega (arith, all.1, second))

-- a count that goes on, or begins again at one at most
pub count-next : (goes_on : Bool) (count begun : ℕ) → begun ≤ 1 → (if goes_on then count + 1 else begun) ≤ count + 1
count-next true count begun low = omega arith
count-next false count begun low = omega (arith, low)
