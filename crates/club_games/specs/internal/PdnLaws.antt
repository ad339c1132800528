-- A game that is read from a PDN text is a game by the rules of draughts. No promise of the program rests on these
-- definitions.
use Rattle.std.proofs.Common.{◌≡◌, ℕ, suc, List, [], ◌∷◌, ◌++◌, length, Bool, true, false, nat_eq, ◌&&◌, Option, Some}
use Rattle.std.proofs.Common.{None, Result, Ok, Err, refl, sym, ap, ◌∙◌, subst}
use Rattle.std.specs.Prelude.{codes, if◌then◌else◌}
use Rattle.squares.specs.declared.sides.Score.{Score}
use Rattle.squares.specs.Sides.{same_score}
use Rattle.squares.specs.internal.Sides.{same_score-same}
use Rattle.squares.specs.declared.draughts.moves.DMove.{DMove}
use Rattle.squares.specs.DraughtsOpening.{opening}
use Rattle.draughts_moves.specs.Legal.{Legal}
use Rattle.draughts_draws.specs.declared.ends.DEnd.{DEnd}
use Rattle.draughts_draws.specs.Ends.{end_of, outcome_of}
use Rattle.draughts_draws.specs.Line.{last_position}
use Rattle.pdn.specs.MoveValue as move_value
use Rattle.pdn.specs.internal.MoveValue as internal_move_value
use Rattle.pdn.proofs.Proved.{reading-ok}
use Rattle.pdn_games.specs.declared.faults.PdnFault.{PdnFault}
use Rattle.pdn_games.specs.declared.faults.PdnFault.TheVariants as fault
use Rattle.pdn_games.specs.Contents.{first_tag, result_in, move_texts, is_other_type}
use Rattle.pdn_games.specs.Order.{bad_at}
use Rattle.pdn_games.specs.Reading.{score_of_result, tag_score, agrees, score_by_rules, settled, score_in}
use Rattle.pdn_games.specs.Tokens.{PlacedToken}
use Rattle.club_rules.specs.Line.{IsPlayedLine}
use Rattle.club_rules.specs.Records.{Recorded, IsGameByRules, ReadsGames, Reading, game, no_part}
use Rattle.club_rules.proofs.Proved.{IsPlayedLine-none, IsPlayedLine-append}
use Rattle.club_games.specs.Draughts.{draughts}
use Rattle.club_games.specs.internal.DraughtsLaws.{legal-check}
use Rattle.club_games.specs.internal.PdnReading.{lexed, lexed_reading, Lexed, Replayed, replay_next, replayed}
use Rattle.club_games.specs.internal.PdnReading.{GameRead}
use Rattle.club_games.specs.internal.PdnReading.{with_score, with_moves, begins_even, formed_reading, pdn_reading}
use Rattle.club_games.specs.internal.PdnReading.{whole}
use Rattle.club_games.specs.internal.PdnSound.{read-legal}
use Rattle.club_games.specs.DraughtsRecords.{draughts_records}

-- replaying texts after a line played by the rules yields such a line
module _ (ms : List DMove) (line : IsPlayedLine draughts opening ms) (text : List ℕ) (rest : DMove → Replayed)
    (ns : List DMove) (goes_on : (m : DMove) → IsPlayedLine draughts opening (ms ++ m ∷ []) → rest m ≡ Ok ns
    → IsPlayedLine draughts opening ns) where
  next-line : (end : Option DEnd) (read : move_value.Reading) → end_of opening ms ≡ end
      → internal_move_value.move_reading (last_position opening ms) text ≡ read → replay_next ms rest end read ≡ Ok ns
      → IsPlayedLine draughts opening ns
  next-line (Some end) read running found is = cc
  next-line None (Err f) running found is = cc
  next-line None (Ok m) running found is =
      let stands = (reading-ok (last_position opening ms) text m).0 found in
      let legal : Legal (last_position opening ms) m = read-legal (last_position opening ms) stands.0 m stands.2 in
      goes_on m
      (IsPlayedLine-append draughts opening ms m line running
      (legal-check (last_position opening ms) m legal)) is

replay-line : (ms : List DMove) (texts : List (List ℕ)) (ns : List DMove) → IsPlayedLine draughts opening ms
    → replayed ms texts ≡ Ok ns → IsPlayedLine draughts opening ns
replay-line ms [] ns line read = let same : ms ≡ ns = cc in subst (IsPlayedLine draughts opening) same line
replay-line ms (text ∷ texts) ns line read =
    next-line ms line text (λ m. replayed (ms ++ m ∷ []) texts) ns (λ m more. replay-line (ms ++ m ∷ []) texts ns more)
    (end_of opening ms) (internal_move_value.move_reading (last_position opening ms) text) refl refl read

-- if the rules ended the game, the score is theirs
settled-score : (same tag : Bool) (claim by_rule s : Score) → same_score claim by_rule ≡ same
    → ◌≡◌ {A = Result Score PdnFault} (if same && tag then Ok claim else Err fault.ResultDiffers) (Ok s) → s ≡ by_rule
settled-score true true claim by_rule s is tag_score = let claimed_is : claim ≡ s = cc in
    sym claimed_is ∙ same_score-same claim by_rule is
settled-score true false claim by_rule s is tag_score = cc
settled-score false tag claim by_rule s is tag_score = cc

claim-score : (claim : Option Score) (by_rule : Score) (by_tag : Option Score) (s : Score)
    → settled claim (Some by_rule) by_tag ≡ Ok s → s ≡ by_rule
claim-score None by_rule by_tag s tag_score = cc
claim-score (Some claim) by_rule by_tag s tag_score =
    settled-score (same_score claim by_rule) (agrees claim by_tag) claim by_rule s refl tag_score

-- the game that is read from tokens is a game by the rules
scored-game : (tokens : List PlacedToken) (ms : List DMove) (said_is : Result Score PdnFault) (r : Recorded DMove)
    → IsPlayedLine draughts opening ms → score_in tokens ms ≡ said_is → with_score ms said_is ≡ Ok r
    → IsGameByRules draughts r
scored-game tokens ms (Err f) r line told_is is = cc
scored-game tokens ms (Ok s) r line told_is is =
    let same : record { moves = ms; score = s; declared = false } ≡ r = cc in
    subst (IsGameByRules draughts) same
    (record {
      line = line;
      score = λ end ends.
          claim-score (score_of_result (result_in tokens)) (outcome_of end (last_position opening ms).turn)
          (tag_score (first_tag (codes "Result") tokens)) s
          (ap
          (λ e. settled (score_of_result (result_in tokens)) (score_by_rules e (last_position opening ms).turn)
          (tag_score (first_tag (codes "Result") tokens))) (sym ends) ∙ told_is);
      declared = λ is. cc;
    })

moved-game : (tokens : List PlacedToken) (read : Replayed) (r : Recorded DMove)
    → ((ns : List DMove) → read ≡ Ok ns → IsPlayedLine draughts opening ns) → with_moves tokens read ≡ Ok r
    → IsGameByRules draughts r
moved-game tokens (Err f) r line is = cc
moved-game tokens (Ok ms) r line is = scored-game tokens ms (score_in tokens ms) r (line ms refl) refl is

kind-game : (tokens : List PlacedToken) (other even : Bool) (r : Recorded DMove)
    →
    ◌≡◌ {A = GameRead}
    (if other then Err fault.OtherType else if even then with_moves tokens (replayed [] (move_texts tokens)) else Err
    fault.OtherOpening) (Ok r) → IsGameByRules draughts r
kind-game tokens true even r is = cc
kind-game tokens false false r is = cc
kind-game tokens false true r is = moved-game tokens (replayed [] (move_texts tokens)) r
    (λ ns. replay-line [] (move_texts tokens) ns (IsPlayedLine-none draughts opening)) is

formed-game : (tokens : List PlacedToken) (bad : Option ℕ) (r : Recorded DMove) → formed_reading tokens bad ≡ Ok r
    → IsGameByRules draughts r
formed-game tokens (Some offset) r is = cc
formed-game tokens None r is = kind-game tokens (is_other_type tokens) (begins_even (first_tag (codes "FEN") tokens)) r
    is

lexed-game : (l : Lexed) (r : Recorded DMove) → lexed_reading l ≡ Ok r → IsGameByRules draughts r
lexed-game l r is = formed-game l.tokens (bad_at l.tokens l.stop) r is

text-game : (text : List ℕ) (r : Recorded DMove) → pdn_reading text ≡ Ok r → IsGameByRules draughts r
unfolding pdn_reading
text-game text r is = lexed-game (lexed (suc (length text)) (length text) true true text) r is

whole-game : (read : GameRead) (r : Recorded DMove) → ((s : Recorded DMove) → read ≡ Ok s → IsGameByRules draughts s)
    → whole read ≡ game r → IsGameByRules draughts r
whole-game (Err f) r games is = cc
whole-game (Ok s) r games is = let same : s ≡ r = cc in subst (IsGameByRules draughts) same (games s refl)

part-game : (first : Bool) (text : List ℕ) (r : Recorded DMove)
    → ◌≡◌ {A = Reading DMove} (if first then whole (pdn_reading text) else no_part) (game r) → IsGameByRules draughts r
part-game true text r is = whole-game (pdn_reading text) r (text-game text) is
part-game false text r is = cc

pub draughts-reads_games : ReadsGames draughts draughts_records
draughts-reads_games text part r is = part-game (nat_eq part 1) text r is
