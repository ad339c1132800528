-- The rulings on a game as they are found. No promise of the program rests on these definitions.
use Rattle.std.specs.Prelude.{◌≡◌, ℕ, List, Option, Some, None}
use Rattle.club_requests.specs.declared.questions.BulkRuling.{BulkRuling}
use Rattle.club_core.specs.Rulings.{GivenRuling}
use Rattle.club_core.specs.State.{place, rulings_of}
use Rattle.club_rows.specs.Club.{ClubGame, ClubState}
use Rattle.club_lists.specs.GameSummary.{GameSummary}
use Rattle.club_lists.specs.RulingOrders.{ruling_orders}
use Rattle.club_answers.specs.AnswerTexts.{rulings_at}

-- the rulings on the game with this number, if there is one
abbrev pub AreRulingsOf : ClubState → ℕ → Option (List GivenRuling) → Type 0
AreRulingsOf s id None = place s.games id ≡ None
AreRulingsOf s id (Some rulings) = (game : ClubGame) × (place s.games id ≡ Some game) × (rulings ≡ rulings_of game)

-- the lines of a batch for those of these games that are running and named
abbrev pub orders_in : ClubState → BulkRuling → List GameSummary → List ℕ
orders_in s bulk games = ruling_orders s.members s.events (λ id. rulings_at (place s.games id)) bulk games
