-- The clocks and the verdict of a game, by the rulings that were given on it.
use Rattle.std.proofs.Common.{◌≡◌, ℕ, zero, suc, ◌+◌, ◌<◌, ◌≤◌, List, [], ◌∷◌, ◌++◌, length, Option, Some, None, Bool}
use Rattle.std.proofs.Common.{true, false, refl, ap, sym, ◌∙◌, arith, add-one}
use Rattle.std.specs.Prelude.{◌==◌, if◌then◌else◌, slice_get, IfSome}
use Rattle.std.proofs.lemmas.Bool.{eq-eqb}
use Rattle.std.proofs.lemmas.Bool.Decides.{nat_tests}
use Rattle.squares.specs.declared.sides.Side.{Side}
use Rattle.squares.specs.declared.sides.Side.TheVariants.{First, Second}
use Rattle.squares.specs.Sides.{other}
use Rattle.club_requests.specs.declared.rulings.Ruling.{Ruling}
use Rattle.club_requests.specs.declared.rulings.Ruling.TheVariants.{Grant, Award, Void}
use Rattle.club_requests.specs.declared.rulings.Verdict.{Verdict}
use Rattle.club_requests.specs.Rulings.{verdict_in}
use Rattle.club_core.specs.Rulings.{GivenRuling, later_verdict, verdict_of, verdict_or, first_verdict}
use Rattle.club_core.specs.Game.{Clocks, after_ruling, after_rulings, spend, spend_all, turns}

-- the rulings were given when at most this many plies were played
abbrev pub AreUpTo : List GivenRuling → ℕ → Type 0
AreUpTo rs plies = (n : ℕ) (r : GivenRuling) → slice_get rs n ≡ Some r → r.plies ≤ plies

not-there : (a most n : ℕ) → a ≤ most → most < n → (a == n) ≡ false
not-there a most n within above = grind (arith, nat_tests)

-- the rulings were given when at least this many plies were played
abbrev pub AreFrom : List GivenRuling → ℕ → Type 0
AreFrom [] plies = Unit {0}
AreFrom (r ∷ rs) plies = (plies ≤ r.plies) × AreFrom rs plies

pub are_from-fewer : (rs : List GivenRuling) (fewer plies : ℕ) → fewer ≤ plies → AreFrom rs plies → AreFrom rs fewer
are_from-fewer [] fewer plies less from = tt
are_from-fewer (r ∷ rs) fewer plies less from =
    let here = from.0 in
    (omega (arith, less, here), are_from-fewer rs fewer plies less from.1)

pub are_from-append : (rs more : List GivenRuling) (plies : ℕ) → AreFrom rs plies → AreFrom more plies
    → AreFrom (rs ++ more) plies
are_from-append [] more plies from rest = rest
are_from-append (r ∷ rs) more plies from rest = (from.0, are_from-append rs more plies from.1 rest)

-- no ruling changes the clocks after more plies
pub after-none : (rs : List GivenRuling) (most n : ℕ) (c : Clocks) → AreUpTo rs most → most < n
    → after_rulings rs n c ≡ c
after-none [] most n c up_to above = refl
after-none (r ∷ rs) most n c up_to above =
    let there : (r.plies == n) ≡ false = not-there r.plies most n (up_to 0 r refl) above in
    rw there (after-none rs most n c (λ k x at. up_to (suc k) x at) above)

before-it : (a n : ℕ) → suc n ≤ a → (a == n) ≡ false
before-it a n above =
    let more : n < a = omega (arith, above, add-one n) in
    grind (arith, nat_tests)

-- nor do rulings that came later
after-later : (more : List GivenRuling) (n : ℕ) (c : Clocks) → AreFrom more (suc n) → after_rulings more n c ≡ c
after-later [] n c from = refl
after-later (r ∷ rs) n c from =
    let there : (r.plies == n) ≡ false = before-it r.plies n from.0 in
    rw there (after-later rs n c from.1)

pub after-more : (rs more : List GivenRuling) (n : ℕ) (c : Clocks) → AreFrom more (suc n)
    → after_rulings (rs ++ more) n c ≡ after_rulings rs n c
after-more [] more n c from = after-later more n c from
after-more (r ∷ rs) more n c from = after-more rs more n (if r.plies == n then after_ruling r.ruling c else c) from

-- a further ruling changes the clocks after its plies
after-append : (rs : List GivenRuling) (r : GivenRuling) (n : ℕ) (c : Clocks)
    → after_rulings (rs ++ r ∷ []) n c
    ≡ (if r.plies == n then after_ruling r.ruling (after_rulings rs n c) else after_rulings rs n c)
after-append [] r n c = refl
after-append (x ∷ rs) r n c = after-append rs r n (if x.plies == n then after_ruling x.ruling c else c)

pub after-now : (rs : List GivenRuling) (r : GivenRuling) (n : ℕ) (c : Clocks) → r.plies ≡ n
    → after_rulings (rs ++ r ∷ []) n c ≡ after_ruling r.ruling (after_rulings rs n c)
after-now rs r n c now =
    after-append rs r n c
    ∙ ap (λ b. if b then after_ruling r.ruling (after_rulings rs n c) else after_rulings rs n c)
    (eq-eqb r.plies n now)

-- rulings leave the timestamp since which the clock runs
since-ruling : (ruling : Ruling) (c : Clocks) → (after_ruling ruling c).since ≡ c.since
since-ruling (Grant First seconds) c = refl
since-ruling (Grant Second seconds) c = refl
since-ruling (Award score) c = refl
since-ruling Void c = refl

abbrev since_of : Clocks → ℕ
since_of c = c.since

since-if : (b : Bool) (ruling : Ruling) (c : Clocks) → since_of (if b then after_ruling ruling c else c) ≡ c.since
since-if true ruling c = since-ruling ruling c
since-if false ruling c = refl

pub since-after : (rs : List GivenRuling) (n : ℕ) (c : Clocks) → (after_rulings rs n c).since ≡ c.since
since-after [] n c = refl
since-after (r ∷ rs) n c =
    since-after rs n (if r.plies == n then after_ruling r.ruling c else c) ∙ since-if (r.plies == n) r.ruling c

-- one more move spends from the side whose turn it is
pub spend_all-append : (increment : ℕ) (rs : List GivenRuling) (plies n : ℕ) (s : Side) (ms : List ℕ) (m : ℕ)
    (c : Clocks) → n ≡ plies + length ms
    → spend_all increment rs plies s (ms ++ m ∷ []) c
    ≡ spend increment (turns (length ms) s) m (after_rulings rs n (spend_all increment rs plies s ms c))
spend_all-append increment rs plies n s [] m c is = let e : n ≡ plies = omega (arith, is) in rw e refl
spend_all-append increment rs plies n s (x ∷ ms) m c is =
    spend_all-append increment rs (suc plies) n (other s) ms m (spend increment s x (after_rulings rs plies c))
    (omega (arith, is, add-one plies, add-one (length ms)))

-- rulings that came after these moves change none of their clocks
pub spend_all-more : (increment : ℕ) (rs more : List GivenRuling) (plies n : ℕ) (s : Side) (ms : List ℕ) (c : Clocks)
    → n ≡ plies + length ms → AreFrom more n
    → spend_all increment (rs ++ more) plies s ms c ≡ spend_all increment rs plies s ms c
spend_all-more increment rs more plies n s [] c is from = refl
spend_all-more increment rs more plies n s (m ∷ ms) c is from =
    rw (after-more rs more plies c
    (are_from-fewer more (suc plies) n (omega (arith, is, add-one plies, add-one (length ms))) from))
    (spend_all-more increment rs more (suc plies) n (other s) ms (spend increment s m (after_rulings rs plies c))
    (omega (arith, is, add-one plies, add-one (length ms))) from)

-- ---- verdicts

later-before : (v : Option Verdict) → later_verdict None v ≡ v
later-before None = refl
later-before (Some v) = refl

later-assoc : (a b c : Option Verdict) → later_verdict a (later_verdict b c) ≡ later_verdict (later_verdict a b) c
later-assoc a b None = refl
later-assoc a b (Some v) = refl

-- a further ruling leaves its verdict, or the one before
pub verdict_of-append : (rs : List GivenRuling) (r : GivenRuling)
    → verdict_of (rs ++ r ∷ []) ≡ later_verdict (verdict_of rs) (verdict_in r.ruling)
verdict_of-append [] r = sym (later-before (verdict_in r.ruling))
verdict_of-append (x ∷ rs) r =
    ap (later_verdict (verdict_in x.ruling)) (verdict_of-append rs r)
    ∙ later-assoc (verdict_in x.ruling) (verdict_of rs) (verdict_in r.ruling)

later-none : (a b : Option Verdict) → later_verdict a b ≡ None → (a ≡ None) × (b ≡ None)
later-none a None is = (is, refl)
later-none a (Some v) is = cc

-- where there is no verdict, no ruling gives one
pub none-verdict : (rs : List GivenRuling) → verdict_of rs ≡ None → (n : ℕ) (r : GivenRuling)
    → slice_get rs n ≡ Some r → verdict_in r.ruling ≡ None
none-verdict [] none n r at = cc
none-verdict (x ∷ rs) none zero r at =
    let e : x ≡ r = cc in
    rw (← e) (later-none (verdict_in x.ruling) (verdict_of rs) none).0
none-verdict (x ∷ rs) none (suc n) r at =
    none-verdict rs (later-none (verdict_in x.ruling) (verdict_of rs) none).1 n r at

pub no-first_verdict : (rs : List GivenRuling) → verdict_of rs ≡ None → first_verdict rs ≡ None
no-first_verdict [] none = refl
no-first_verdict (x ∷ rs) none =
    let both = later-none (verdict_in x.ruling) (verdict_of rs) none in
    ap (λ v. verdict_or v x (first_verdict rs)) both.0 ∙ no-first_verdict rs both.1

or-kept : (P : GivenRuling → Type 0) (v : Option Verdict) (x : GivenRuling) (a b : Option GivenRuling)
    → (IfSome a P → IfSome b P) → IfSome (verdict_or v x a) P → IfSome (verdict_or v x b) P
or-kept P None x a b kept is = kept is
or-kept P (Some v) x a b kept is = is

-- what holds of the first verdict and of a further ruling holds of the first verdict then
pub first_verdict-append : (P : GivenRuling → Type 0) (rs : List GivenRuling) (r : GivenRuling)
    → IfSome (first_verdict rs) P → P r → IfSome (first_verdict (rs ++ r ∷ [])) P
first_verdict-append P [] r is here = only (verdict_in r.ruling)
  where
    only : (v : Option Verdict) → IfSome (verdict_or v r None) P
    only None = tt
    only (Some v) = here
first_verdict-append P (x ∷ rs) r is here =
    or-kept P (verdict_in x.ruling) x (first_verdict rs) (first_verdict (rs ++ r ∷ []))
    (λ first. first_verdict-append P rs r first here) is
