-- A request leaves a legal club legal, and never gives it an arbiter or takes it away.
use Rattle.std.proofs.Common.{◌≡◌, ◌≤◌, ◌∙◌, Bool, true, false, List, [], ◌∷◌, IsTrue, refl, subst}
use Rattle.std.specs.Prelude.{not, ◌&&◌, ◌||◌}
use Rattle.club_requests.specs.Limits.{last_moment}
use Rattle.club_core.specs.State.{Command, Request, needs_arbiter, takes}
use Rattle.club_laws.proofs.Proved.{import-kept, next-arbiter, next-legal}
use Rattle.club_games.specs.internal.CsaLaws.{shogi-reads_games}
use Rattle.club_games.specs.internal.PdnLaws.{draughts-reads_games}
use Rattle.club_rows.specs.Club.{both_games, ClubState, IsClub}
use Rattle.club_rows.proofs.Proved.{draughts_laws, shogi_laws}
use Rattle.club_changes.specs.Steps.{club_next}
use Rattle.store.specs.Runs.{club_fold}

pub club_stays : (s : ClubState) (r : Request) → r.moment ≤ last_moment → IsTrue (takes s r.command) → IsClub s
    → IsClub (club_next s r)
club_stays s r within taken club =
    next-legal both_games draughts_laws shogi_laws
    (import-kept both_games draughts_laws shogi_laws draughts-reads_games shogi-reads_games) s r within taken club

pub arbiter_stays : (s : ClubState) (r : Request) → (club_next s r).has_arbiter ≡ s.has_arbiter
arbiter_stays s r = next-arbiter both_games s r

pub arbiter_kept : (s : ClubState) (rs : List Request) → (club_fold s rs).has_arbiter ≡ s.has_arbiter
arbiter_kept s [] = refl
arbiter_kept s (r ∷ rs) = arbiter_kept (club_next s r) rs ∙ arbiter_stays s r

taken_where : (has needs : Bool) → (has ≡ false → needs ≡ true → ⊥) → IsTrue (not needs || has)
taken_where true true passed = refl
taken_where true false passed = refl
taken_where false true passed = absurd (passed refl refl)
taken_where false false passed = refl

-- a club takes a command unless only an arbiter can give it
pub taken_by : {has : Bool} (s : ClubState) (command : Command) → has ≡ s.has_arbiter
    → (has ≡ false → needs_arbiter command ≡ true → ⊥) → IsTrue (takes s command)
taken_by s command arbiter passed =
    taken_where s.has_arbiter (needs_arbiter command) (λ none. passed (arbiter ∙ none))

-- a club takes a command that is not refused for its schema
taken_unless : (has needs : Bool) → (not has && needs) ≡ false → IsTrue (not needs || has)
taken_unless true true passed = refl
taken_unless true false passed = refl
taken_unless false true passed = absurd (let x = passed in cc)
taken_unless false false passed = refl

pub taken_as : {has : Bool} (s : ClubState) (command : Command) → has ≡ s.has_arbiter
    → (not has && needs_arbiter command) ≡ false → IsTrue (takes s command)
taken_as s command arbiter passed =
    taken_unless s.has_arbiter (needs_arbiter command) (subst (λ b. (not b && needs_arbiter command) ≡ false) arbiter passed)
