-- Properties of queries.
use Rattle.std.specs.Prelude.{Bool, true, false}
use Rattle.club_requests.specs.declared.questions.Question.{Question}
use Rattle.club_requests.specs.declared.questions.Question.TheVariants.{RulingOrders}

-- only a club with an arbiter answers the query: it prints rulings that can be given
abbrev pub is_arbiters : Question → Bool
is_arbiters (RulingOrders rulings) = true
is_arbiters _ = false
