-- The printed form of answers and outcomes.
use Rattle.std.specs.Prelude.{List, [], ℕ, ◌++◌, codes, decimal, string_bytes, Option, Some, None}
use Rattle.squares.specs.Sides.{score_text}
use Rattle.club_rules.specs.declared.names.EndName.{EndName}
use Rattle.club_rules.specs.EndName.{end_text}
use Rattle.club_requests.specs.declared.answers.Answer.{Answer}
use Rattle.club_requests.specs.declared.answers.Answer.TheVariants as answer
use Rattle.club_requests.specs.declared.answers.MoveAnswer.{MoveAnswer}
use Rattle.club_requests.specs.declared.answers.Outcome.{Outcome}
use Rattle.club_requests.specs.declared.answers.Outcome.TheVariants as outcome
use Rattle.club_requests.specs.OutsideEnd.{outside_text}
use Rattle.club_requests.specs.Refusal.{refusal_text}

-- the end that the rules gave, if any, after ` end `
abbrev pub end_tail : Option EndName → List ℕ
end_tail None = []
end_tail (Some end) = codes " end " ++ end_text end

-- the answer to a move: its ply, its text, and the end that the rules gave, if any
abbrev pub moved_text : MoveAnswer → List ℕ
moved_text moved = codes "ply " ++ decimal moved.ply ++ codes " " ++ string_bytes moved.text ++ end_tail moved.end

-- the printed form of an answer
abbrev pub answer_text : Answer → List ℕ
answer_text (answer.Member id) = codes "member " ++ decimal id
answer_text (answer.Event id) = codes "event " ++ decimal id
answer_text (answer.Game id) = codes "game " ++ decimal id
answer_text (answer.Moved moved) = moved_text moved
answer_text (answer.Offered ply) = codes "offer ply " ++ decimal ply
answer_text (answer.Ended end result) = codes "end " ++ outside_text end ++ codes " " ++ score_text result
answer_text (answer.Swept count) = codes "sweep " ++ decimal count
answer_text (answer.ChallengeOpened number) = codes "challenge " ++ decimal number ++ codes " open"
answer_text (answer.ChallengeWithdrawn number) = codes "challenge " ++ decimal number ++ codes " withdrawn"
answer_text (answer.ChallengeRefused number) = codes "challenge " ++ decimal number ++ codes " refused"
answer_text (answer.ChallengeAccepted number game) =
    codes "challenge " ++ (decimal number ++ (codes " accepted game " ++ decimal game))
answer_text (answer.KeyGiven number) = codes "key " ++ decimal number
answer_text answer.EventClosed = codes "closed"
answer_text (answer.RulingGiven number) = codes "ruling " ++ decimal number

-- the printed form of an outcome: whether the command is accepted, repeated or refused, and its answer or refusal
abbrev pub outcome_text : Outcome → List ℕ
outcome_text (outcome.Accepted answer) = codes "accepted " ++ answer_text answer
outcome_text (outcome.Repeated answer) = codes "repeated " ++ answer_text answer
outcome_text (outcome.Refused refusal) = codes "refused " ++ refusal_text refusal
