-- What follows from a game that one more move was played in, and from a move that was played before.
use Rattle.std.proofs.Common.{◌≡◌, ◌≢◌, ℕ, zero, suc, ◌+◌, ◌-◌, ◌<◌, ◌≤◌, List, [], ◌∷◌, ◌++◌, length, map, take}
use Rattle.std.proofs.Common.{Option, Some, None, Ok, true, ◌&&◌, refl, ap, sym, subst, ◌∙◌, arith, add-one, sub-one}
use Rattle.std.proofs.Common.{length-append}
use Rattle.std.specs.Prelude.{slice_get}
use Rattle.std.specs.Option.{option_map}
use Rattle.std.proofs.Math.Seq.{take-length}
use Rattle.std.proofs.lemmas.List.{map-append, length-map, take-map, take-append-le}
use Rattle.std.proofs.lemmas.Option.{slice_get_within}
use Rattle.squares.specs.declared.sides.Side.{Side}
use Rattle.squares.specs.declared.sides.Side.TheVariants.{First}
use Rattle.squares.specs.Sides.{other, same_side}
use Rattle.club_rules.specs.GameRules.{GameRules}
use Rattle.club_rules.specs.Line.{position_after, IsLegalLine}
use Rattle.club_rules.proofs.Proved.{position_after-append, position_after-take, check-at}
use Rattle.club_core.specs.declared.rows.GameEnd.TheVariants.{Rule}
use Rattle.club_requests.specs.declared.outside_end.OutsideEnd.{OutsideEnd}
use Rattle.club_requests.specs.declared.rulings.Verdict.{Verdict}
use Rattle.club_core.specs.declared.rows.Asked.{Asked}
use Rattle.club_core.specs.Events.{Terms}
use Rattle.club_requests.specs.Outcome.{MoveReply, moved}
use Rattle.club_core.specs.Rulings.{verdict_of}
use Rattle.club_core.specs.Game.{Game, turns, spend, moves_of, opening_clocks, clocks_of, clocks_then, last_position}
use Rattle.club_core.specs.Game.{rule_end, end_of, turn_of, end_with, left_of, side_after, game_at}
use Rattle.club_core.specs.Legal.{IsLegalGame}
use Rattle.club_core.specs.Step.{played, move_at, repeat_of, reply_of_move, reads_as}
use Rattle.club_core.specs.View.{IsAsked}
use Rattle.club_core.specs.internal.View.{rule_in}
use Rattle.club_core.proofs.GrantLemmas.{AreUpTo, after-none, spend_all-append}

-- on a legal line the side to move is the one after that many plies
pub turn-is : {P M E T : Type 0} (game_rules : GameRules P M E T)
    → ((p : P) (m : M) → game_rules.check p m ≡ Ok tt
    → game_rules.turn (game_rules.play p m) ≡ other (game_rules.turn p)) → (p : P) (ms : List M)
    → IsLegalLine game_rules p ms → game_rules.turn (position_after game_rules p ms)
    ≡ turns (length ms) (game_rules.turn p)
turn-is game_rules passes p [] line = refl
turn-is game_rules passes p (m ∷ ms) line = turn-is game_rules passes (game_rules.play p m) ms line.1
    ∙ ap (turns (length ms)) (passes p m line.0)

module _ {M : Type 0} (game : Game M) (m : M) (moment : ℕ) where
  pub moves_of-played : moves_of (played game m moment) ≡ moves_of game ++ m ∷ []
  moves_of-played = map-append (λ e. e.made) game.entries (record { made = m; moment = moment } ∷ [])

  pub clocks_then-played : (terms : Terms) → clocks_then (played game m moment) terms
      ≡ spend terms.increment (turns (length game.entries) First) moment (clocks_of game terms)
  clocks_then-played terms =
      let moments = map (λ e. e.moment) game.entries in
      let more : map (λ e. e.moment) (game.entries ++ record { made = m; moment = moment } ∷ [])
      ≡ moments ++ moment ∷ [] =
      map-append (λ e. e.moment) game.entries (record { made = m; moment = moment } ∷ []) in
      let count : length moments ≡ length game.entries = simp length-map in
      let spent = spend_all-append terms.increment game.rulings 0 (length game.entries) First moments moment
      (opening_clocks game terms) (omega (arith, count)) in
      rw more (spent ∙ ap (λ n. spend terms.increment (turns n First) moment (clocks_of game terms)) count)

  -- nothing was granted after a move that was just played
  pub clocks_of-played : AreUpTo game.rulings (length game.entries) → (terms : Terms)
      → clocks_of (played game m moment) terms ≡ clocks_then (played game m moment) terms
  clocks_of-played up_to terms =
      let count : length (game.entries ++ record { made = m; moment = moment } ∷ []) ≡ length game.entries + 1 =
      simp length-append in
      after-none game.rulings (length game.entries) _ _ up_to (omega (arith, count))

-- the list before its last element, and with it
pub take-before : {A : Type 0} (xs : List A) (x : A) → take (length xs + 1 - 1) (xs ++ x ∷ []) ≡ xs
take-before xs x =
    let count : length xs + 1 - 1 ≡ length xs = omega arith in
    let within : length xs ≤ length xs = omega arith in
    rw (count, take-append-le (length xs) xs (x ∷ []) within) (take-length xs)

pub take-whole : {A : Type 0} (xs : List A) (x : A) → take (length xs + 1) (xs ++ x ∷ []) ≡ xs ++ x ∷ []
take-whole xs x =
    let count : length (xs ++ x ∷ []) ≡ length xs + 1 = simp length-append in
    rw (← count) (take-length (xs ++ x ∷ []))

-- replies that show the same are one
pub moved-same : (a b : MoveReply) → a.ply ≡ b.ply → a.text ≡ b.text → a.left ≡ b.left → a.position ≡ b.position
    → a.end ≡ b.end → moved a ≡ moved b
moved-same a b ply text left position end =
    ap (λ x. moved (record { ply = x; text = a.text; left = a.left; position = a.position; end = a.end })) ply
    ∙ ap (λ x. moved (record { ply = b.ply; text = x; left = a.left; position = a.position; end = a.end })) text
    ∙ ap (λ x. moved (record { ply = b.ply; text = b.text; left = x; position = a.position; end = a.end })) left
    ∙ ap (λ x. moved (record { ply = b.ply; text = b.text; left = b.left; position = x; end = a.end })) position
    ∙ ap (λ x. moved (record { ply = b.ply; text = b.text; left = b.left; position = b.position; end = x })) end

-- where nothing ended a game, neither a rule, nor the arbiter, nor a reason outside the rules did
pub no-rule-end : {E : Type 0} (e : Option E) (v : Option Verdict) (o : Option OutsideEnd) → end_with e v o ≡ None
    → e ≡ None
no-rule-end (Some e) v o none = cc
no-rule-end None v o none = refl

pub verdict-alone : {E : Type 0} (e : Option E) (v : Option Verdict) (o : Option OutsideEnd) → end_with e v o ≡ None
    → v ≡ None
verdict-alone (Some e) v o none = cc
verdict-alone None (Some v) o none = cc
verdict-alone None None o none = refl

pub outside-alone : {E : Type 0} (e : Option E) (v : Option Verdict) (o : Option OutsideEnd) → end_with e v o ≡ None
    → o ≡ None
outside-alone (Some e) v o none = cc
outside-alone None (Some v) o none = cc
outside-alone None None (Some o) none = cc
outside-alone None None None none = refl

end_with-None : {E : Type 0} (e : Option E) → end_with e None None ≡ option_map Rule e
end_with-None None = refl
end_with-None (Some e) = refl

at-end : {A : Type 0} (xs : List A) (x : A) → slice_get (xs ++ x ∷ []) (length xs) ≡ Some x
at-end [] x = refl
at-end (y ∷ xs) x = at-end xs x

module _ {P M E T : Type 0} (game_rules : GameRules P M E T) (game : Game M) (m : M) (moment : ℕ) where
  pub last-played : last_position game_rules (played game m moment) ≡ game_rules.play (last_position game_rules game) m
  last-played = ap (position_after game_rules game_rules.start) (moves_of-played game m moment)
      ∙ position_after-append game_rules game_rules.start (moves_of game) m

  pub rule_end-played : rule_end game_rules (played game m moment)
      ≡ game_rules.judge game_rules.start (moves_of game ++ m ∷ [])
  rule_end-played = ap (game_rules.judge game_rules.start) (moves_of-played game m moment)

  pub end-played : end_of game_rules game ≡ None
      → end_of game_rules (played game m moment) ≡ option_map Rule
      (game_rules.judge game_rules.start (moves_of game ++ m ∷ []))
  end-played running =
      let judged = game_rules.judge game_rules.start (moves_of game ++ m ∷ []) in
      let verdict : verdict_of game.rulings ≡ None = verdict-alone (rule_end game_rules game) _ game.outside running in
      let outside : game.outside ≡ None = outside-alone (rule_end game_rules game) _ _ running in
      ap (λ e. end_with e (verdict_of game.rulings) game.outside) rule_end-played
      ∙ ap (λ v. end_with judged v game.outside) verdict
      ∙ ap (end_with judged None) outside
      ∙ end_with-None judged

  pub made-played : slice_get (moves_of (played game m moment)) (length game.entries) ≡ Some m
  made-played =
      let count : length (moves_of game) ≡ length game.entries = simp length-map in
      rw (moves_of-played game m moment, ← count) (at-end (moves_of game) m)

-- the laws of the rules: First moves first, and a legal move passes the turn
module _ {P M E T : Type 0} (game_rules : GameRules P M E T)
    (passes : (p : P) (n : M) → game_rules.check p n ≡ Ok tt
    → game_rules.turn (game_rules.play p n) ≡ other (game_rules.turn p))
    (starts : game_rules.turn game_rules.start ≡ First) (game : Game M)
    (line : IsLegalLine game_rules game_rules.start (map (λ e. e.made) game.entries)) where
  pub turn-of-game : turn_of game_rules game ≡ side_after (length game.entries)
  turn-of-game =
      let turn : turn_of game_rules game ≡ turns (length (moves_of game)) (game_rules.turn game_rules.start) =
      turn-is game_rules passes game_rules.start (moves_of game) line in
      let count : length (moves_of game) ≡ length game.entries = simp length-map in
      turn ∙ (ap (λ n. turns n (game_rules.turn game_rules.start)) count ∙ ap (turns (length game.entries)) starts)

  pub clocks-played : (m : M) (moment : ℕ) (terms : Terms)
      → clocks_then (played game m moment) terms ≡ spend terms.increment (turn_of game_rules game) moment
      (clocks_of game terms)
  clocks-played m moment terms = rw turn-of-game (clocks_then-played game m moment terms)

  -- the answer to a move that was just played shows the game as it stands now
  pub reply-played : (m : M) (moment : ℕ) (terms : Terms)
      → reply_of_move game_rules terms (played game m moment) (length game.entries + 1) m ≡ moved (record {
        ply = length game.entries + 1;
        text = game_rules.write_move (last_position game_rules game) m;
        left = left_of (turn_of game_rules game) (clocks_then (played game m moment) terms);
        position = game_rules.write_position (last_position game_rules (played game m moment));
        end = option_map game_rules.end_name (rule_end game_rules (played game m moment));
      })
  reply-played m moment terms =
      let before = take-before game.entries (record { made = m; moment = moment }) in
      let after = take-whole game.entries (record { made = m; moment = moment }) in
      let count : length game.entries + 1 - 1 ≡ length game.entries = omega arith in
      rw (before, after, count, turn-of-game) refl

-- what the view shows of a ply that was played
module _ {R P M E T : Type 0} (game_rules : GameRules P M E T) (terms : Terms) (game : Game M)
    (asked : Asked R P M E T) where
  asked-some : (ply : ℕ) (o : Option M) → move_at game ply ≡ o → IsAsked game_rules terms game ply o (Some asked)
      → (n : ℕ) × (ply ≡ suc n) × (slice_get (moves_of game) n ≡ Some asked.made)
      × (asked.before ≡ last_position game_rules (game_at game n))
  asked-some ply None at shown = absurd shown
  asked-some zero (Some m) at shown = cc
  asked-some (suc n) (Some m) at shown = (n, refl, at ∙ ap Some (sym shown.0), rw sub-one at shown.2)

  after-at : (n : ℕ) (m : M) (before : P) → slice_get (moves_of game) n ≡ Some m
      → before ≡ last_position game_rules (game_at game n)
      → last_position game_rules (game_at game (suc n)) ≡ game_rules.play before m
  after-at n m before at is =
      rw (is, ← take-map (λ e. e.made) (suc n) game.entries, ← take-map (λ e. e.made) n game.entries)
      (position_after-take game_rules game_rules.start (moves_of game) n m at)

  -- the position after the move of that ply
  pub asked-after : (ply : ℕ) → IsAsked game_rules terms game ply (move_at game ply) (Some asked)
      → last_position game_rules (game_at game ply) ≡ game_rules.play asked.before asked.made
  asked-after ply shown =
      let (n, is, at, before) = asked-some ply (move_at game ply) refl shown in
      ap (λ k. last_position game_rules (game_at game k)) is ∙ after-at n asked.made asked.before at before

  repeat-at : (ply : ℕ) (side : Side) (text : List ℕ) (o : Option M) → IsAsked game_rules terms game ply o (Some asked)
      → same_side side (side_after (ply - 1)) ≡ true
      → reads_as game_rules (game_rules.read_move asked.before text) asked.made ≡ true
      → repeat_of game_rules terms game ply o side text ≡ Some (reply_of_move game_rules terms game ply asked.made)
  repeat-at ply side text None shown turn reads = absurd shown
  repeat-at ply side text (Some m) shown turn reads =
      let test : (same_side side (side_after (ply - 1)) && reads_as game_rules
      (game_rules.read_move (last_position game_rules (game_at game (ply - 1))) text) m) ≡ true =
      rw (turn, ← shown.0, ← shown.2) reads in
      rw (test, shown.0) refl

  -- the move that is asked of is repeated by its player, where the text reads as it
  pub repeat-shown : (ply : ℕ) (side : Side) (text : List ℕ)
      → IsAsked game_rules terms game ply (move_at game ply) (Some asked) → same_side side (side_after (ply - 1)) ≡ true
      → reads_as game_rules (game_rules.read_move asked.before text) asked.made ≡ true
      → repeat_of game_rules terms game ply (move_at game ply) side text
      ≡ Some (reply_of_move game_rules terms game ply asked.made)
  repeat-shown ply side text = repeat-at ply side text (move_at game ply)

  asked-parts : (ply : ℕ) (o : Option M) → IsAsked game_rules terms game ply o (Some asked)
      → (asked.left ≡ left_of (side_after (ply - 1)) (clocks_then (game_at game ply) terms))
      × (asked.before ≡ last_position game_rules (game_at game (ply - 1))) × (asked.ply ≡ ply)
  asked-parts ply None shown = absurd shown
  asked-parts ply (Some m) shown = (shown.1, shown.2, shown.3)

  pub asked-ply : (ply : ℕ) → IsAsked game_rules terms game ply (move_at game ply) (Some asked) → asked.ply ≡ ply
  asked-ply ply shown = (asked-parts ply (move_at game ply) shown).2

  -- its answer, by what the view shows of it
  pub reply-asked : (ply : ℕ) (end : Option E) → IsAsked game_rules terms game ply (move_at game ply) (Some asked)
      → end ≡ rule_end game_rules (game_at game ply)
      → reply_of_move game_rules terms game ply asked.made ≡ moved (record {
        ply = asked.ply;
        text = game_rules.write_move asked.before asked.made;
        left = asked.left;
        position = game_rules.write_position (game_rules.play asked.before asked.made);
        end = option_map game_rules.end_name end;
      })
  reply-asked ply end shown is =
      let (left, before, same) = asked-parts ply (move_at game ply) shown in
      moved-same _ _ (sym same) (ap (λ p. game_rules.write_move p asked.made) (sym before)) (sym left)
      (ap game_rules.write_position (asked-after ply shown)) (ap (option_map game_rules.end_name) (sym is))

pub rule_in-end_with : {E : Type 0} (e : Option E) (v : Option Verdict) (o : Option OutsideEnd)
    → rule_in (end_with e v o) ≡ e
rule_in-end_with (Some e) v o = refl
rule_in-end_with None (Some v) o = refl
rule_in-end_with None None (Some o) = refl
rule_in-end_with None None None = refl

module _ {P M E T : Type 0} (game_rules : GameRules P M E T) (terms : Terms) (game : Game M)
    (legal : IsLegalGame game_rules terms game) where
  -- the rules gave no end to a proper beginning of a legal game
  pub running-before : (plies : ℕ) → plies < length game.entries → rule_end game_rules (game_at game plies) ≡ None
  running-before plies inside =
      let count : length (moves_of game) ≡ length game.entries = simp length-map in
      subst (λ ms. game_rules.judge game_rules.start ms ≡ None) (take-map (λ e. e.made) plies game.entries)
      (legal.line.unended plies (omega (arith, count, inside)))

-- the end at a ply that was played
module _ {R P M E T : Type 0} (game_rules : GameRules P M E T) (terms : Terms) (game : Game M)
    (legal : IsLegalGame game_rules terms game) (asked : Asked R P M E T) where
  pub asked-legal : (ply : ℕ) → IsAsked game_rules terms game ply (move_at game ply) (Some asked)
      → game_rules.check asked.before asked.made ≡ Ok tt
  asked-legal ply shown =
      let (n, _, at, before) = asked-some game_rules terms game asked ply (move_at game ply) refl shown in
      rw (before, ← take-map (λ e. e.made) n game.entries)
      (check-at game_rules game_rules.start (moves_of game) n asked.made legal.line.legal at)

  -- at the last ply it is that of the row
  pub end-last : (ply : ℕ) → ply ≡ length game.entries
      → rule_in (end_of game_rules game) ≡ rule_end game_rules (game_at game ply)
  end-last ply last =
      rw (last, take-length game.entries)
      (rule_in-end_with (rule_end game_rules game) (verdict_of game.rulings) game.outside)

  -- at an earlier ply there is none
  pub end-before : (ply : ℕ) → IsAsked game_rules terms game ply (move_at game ply) (Some asked)
      → ply ≢ length game.entries → None ≡ rule_end game_rules (game_at game ply)
  end-before ply shown other_ply =
      let (n, is, at, _) = asked-some game_rules terms game asked ply (move_at game ply) refl shown in
      let inside : n < length (moves_of game) = slice_get_within (moves_of game) n asked.made at in
      let count : length (moves_of game) ≡ length game.entries = simp length-map in
      sym (running-before game_rules terms game legal ply (omega (arith, is, add-one n)))
