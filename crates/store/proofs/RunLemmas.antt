-- What requests in turn make of a club.
use Rattle.std.proofs.Common.{◌≡◌, Bool, ℕ, ◌+◌, ◌<◌, ◌≤◌, List, [], ◌∷◌, ◌++◌, map, length, take, get_or, refl}
use Rattle.std.proofs.Common.{sym, ap, subst, ◌∙◌, ◌⊎◌, inl, inr, arith, zero, suc, true}
use Rattle.std.proofs.lemmas.Bool.{cases_Bool}
use Rattle.std.specs.List.{list_any}
use Rattle.std.proofs.lemmas.List.{take_more, take_all, map-append}
use Rattle.sqlite.specs.State.{State}
use Rattle.sqlite.specs.Tree.{Trees}
use Rattle.store_tables.specs.Over.{HoldsClubAmong, LeavesBeside, Neighbours}
use Rattle.club_requests.specs.declared.requests.Request as given_request
use Rattle.club_requests.specs.declared.answers.Outcome as given_outcome
use Rattle.club_core.specs.Answer.{answered, outcome_of, request_of}
use Rattle.club_core.specs.State.{Request}
use Rattle.club_rows.specs.Club.{ClubState, IsClub, tables}
use Rattle.club_changes.specs.Steps.{club_step, club_next}
use Rattle.store.specs.Runs.{club_fold, club_outcomes}
use Rattle.store.specs.Histories.{IsAfter}
use Rattle.store.specs.Clubs.{Serves}
use Rattle.store.specs.declared.fault.StoreFault.{StoreFault}
use Rattle.std.specs.Prelude.{Result, Err}
use Rattle.store.proofs.HistoryLemmas.{serves_on}
use Rattle.store.proofs.LegalLemmas.{arbiter_stays}

pub fold-more : (s : ClubState) (rs : List Request) (r : Request)
    → club_fold s (rs ++ r ∷ []) ≡ club_next (club_fold s rs) r
fold-more s [] r = refl
fold-more s (x ∷ rs) r = fold-more (club_next s x) rs r

pub outcomes-more : (s : ClubState) (rs : List Request) (r : Request)
    → club_outcomes s (rs ++ r ∷ []) ≡ club_outcomes s rs ++ club_step (club_fold s rs) r ∷ []
outcomes-more s [] r = refl
outcomes-more s (x ∷ rs) r = ap (λ os. club_step s x ∷ os) (outcomes-more (club_next s x) rs r)

-- the first of the requests
abbrev pub first_of : List given_request.Request → ℕ → List Request
first_of rs n = map request_of (take n rs)

first_of-more : (rs : List given_request.Request) (k : ℕ) {r : given_request.Request} → k < length rs
    → r ≡ get_or rs k r → first_of rs (k + 1) ≡ first_of rs k ++ request_of r ∷ []
first_of-more rs k {r} within is =
    ap (map request_of) (take_more rs k r within ∙ ap (λ x. take k rs ++ x ∷ []) (sym is))
    ∙ map-append request_of (take k rs) (r ∷ [])

-- These requests were served: the club, with an arbiter or without one, is legal, its tables are the state's, beside
-- their neighbours, and the outcomes are the machine's.
pub record Served (has_arbiter : Bool) (them : Neighbours) (s : ClubState) (rs : List Request)
    (outcomes : List given_outcome.Outcome) (now : State) : Type 0 where
  pub serves : Serves has_arbiter now them (club_fold s rs)
  pub answers : map outcome_of outcomes ≡ map answered (club_outcomes s rs)

-- one more request is served
pub served-next : {has later : Bool} {them : Neighbours} {s : ClubState} (rs : List given_request.Request) (k : ℕ)
    {r : given_request.Request} {outcomes more : List given_outcome.Outcome} (outcome : given_outcome.Outcome)
    {now new : State} →
    k < length rs → r ≡ get_or rs k r → more ≡ outcomes ++ outcome ∷ [] → later ≡ has →
    Served has them s (first_of rs k) outcomes now →
    IsClub (club_next (club_fold s (first_of rs k)) (request_of r)) →
    HoldsClubAmong them (tables (club_next (club_fold s (first_of rs k)) (request_of r))) new →
    outcome_of outcome ≡ answered (club_step (club_fold s (first_of rs k)) (request_of r)) →
    Served later them s (first_of rs (k + 1)) more new
served-next {later = later} {them = them} {s = s} rs k {r} {outcomes} {more} outcome {now} {new} within is pushed same
    served legal exactly told =
    let before = first_of rs k in
    let state = club_fold s before in
    let serves = serves_on served.serves same legal (arbiter_stays state (request_of r)) exactly in
    subst (λ xs. Served later them s xs more new) (sym (first_of-more rs k within is)) (record {
      serves = subst (λ (u : ClubState). Serves later new them u) (sym (fold-more s before (request_of r))) serves;
      answers =
          ap (map outcome_of) pushed
          ∙ (map-append outcome_of outcomes (outcome ∷ [])
          ∙ ((λ i. served.answers i ++ told i ∷ [])
          ∙ (sym (map-append answered (club_outcomes s before) (club_step (club_fold s before) (request_of r) ∷ []))
          ∙ ap (map answered) (sym (outcomes-more s before (request_of r))))));
    })

-- the outcomes are those of as many requests
pub served-outcomes : {has : Bool} {them : Neighbours} {s : ClubState} (rs : List given_request.Request) {k : ℕ}
    {outcomes : List given_outcome.Outcome} {now : State} → length outcomes ≡ k
    → Served has them s (first_of rs k) outcomes now
    → map outcome_of outcomes ≡ map answered (club_outcomes s (first_of rs (length outcomes)))
served-outcomes {s = s} rs count served = served.answers
    ∙ ap (λ n. map answered (club_outcomes s (first_of rs n))) (sym count)

-- all of the requests were served
pub served-all : {has : Bool} {them : Neighbours} {s : ClubState} (rs : List given_request.Request) (k : ℕ)
    {outcomes : List given_outcome.Outcome} {now : State} → length rs ≤ k
    → Served has them s (first_of rs k) outcomes now → Served has them s (map request_of rs) outcomes now
served-all {has} {them} {s} rs k {outcomes} {now} all =
    subst (λ xs. Served has them s (map request_of xs) outcomes now) (take_all k rs all)

pub same_fault : {A : Type 0} {one other : StoreFault} → ◌≡◌ {A = Result A StoreFault} (Err one) (Err other)
    → one ≡ other
same_fault is = cc

-- what passes a test is one of those that do
pub any_at : {A : Type 0} (test : A → Bool) (xs : List A) (k : ℕ) (x : A) → k < length xs → x ≡ get_or xs k x
    → test x ≡ true → list_any test xs ≡ true
any_at test [] k x less at is = absurd (omega (arith, less))
any_at test (y ∷ xs) zero x less at is = let here : test y ≡ true = ap test (sym at) ∙ is in rw here refl
any_at test (y ∷ xs) (suc k) x less at is =
    let more = any_at test xs k x (omega (arith, less)) at is in
    elim (cases_Bool (test y)) [ inl passes ↦ rw passes refl | inr other ↦ rw other more ]

-- the state after as many requests as there are outcomes, and after one more
pub state-at : (s : ClubState) (rs : List given_request.Request) {n k : ℕ} → n ≡ k
    → club_fold s (first_of rs n) ≡ club_fold s (first_of rs k)
state-at s rs count = ap (λ m. club_fold s (first_of rs m)) count

pub state-next : (s : ClubState) (rs : List given_request.Request) {n k : ℕ} {r : given_request.Request} → n ≡ k
    → k < length rs → r ≡ get_or rs k r
    → club_fold s (first_of rs (n + 1)) ≡ club_next (club_fold s (first_of rs k)) (request_of r)
state-next s rs {k = k} {r = r} count within is = ap (λ m. club_fold s (first_of rs (m + 1))) count
    ∙ (ap (club_fold s) (first_of-more rs _ within is) ∙ fold-more s (first_of rs k) (request_of r))

-- what a stop leaves of so many served requests is of a legal state
pub after-by : {them : Neighbours} {s u : ClubState} {rs : List given_request.Request} {n : ℕ} {db : Trees}
    → club_fold s (first_of rs n) ≡ u → IsClub u → LeavesBeside them (tables u) db → IsAfter them s rs n db
after-by {them = them} {db = db} is legal leaves = record {
  legal = subst IsClub (sym is) legal;
  leaves = subst (λ (v : ClubState). LeavesBeside them (tables v) db) (sym is) leaves;
}

-- what a stop leaves after so many outcomes, or after one request more
pub leaves-by : {them : Neighbours} {s : ClubState} {rs : List given_request.Request} {n : ℕ} {db : Trees}
    {Failed : Type 0} → IsAfter them s rs n db ⊎ (Failed × IsAfter them s rs (n + 1) db)
    → LeavesBeside them (tables (club_fold s (first_of rs n))) db
    ⊎ LeavesBeside them (tables (club_fold s (first_of rs (n + 1)))) db
leaves-by (inl here) = inl here.leaves
leaves-by (inr (failed, next)) = inr next.leaves
