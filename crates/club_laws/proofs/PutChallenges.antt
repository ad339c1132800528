-- Challenges of a list into which one was put: in its place, or at the end.
use Rattle.std.proofs.Common.{◌≡◌, ℕ, zero, suc, List, [], ◌∷◌, Option, Some, Bool, true, false, ◌&&◌, refl, ap}
use Rattle.std.proofs.Common.{sym, ◌∙◌, ◌⊎◌, inl, inr}
use Rattle.std.specs.Prelude.{slice_get, ◌==◌, if◌then◌else◌}
use Rattle.std.proofs.lemmas.Bool.{eqb-true, eq-eqb}
use Rattle.club_core.specs.declared.challenges.Challenge.{Challenge}
use Rattle.club_core.specs.Challenges.{key_of_challenge, is_under, challenge_under, put_challenge}
use Rattle.club_core.specs.LegalState.{Each, HaveUniqueKeys}
use Rattle.club_laws.proofs.Lists.{both-true}

pub under-key : (member number : ℕ) (c : Challenge) → is_under member number c ≡ true → (c.member ≡ member)
    × (c.number ≡ number)
under-key member number c is =
    let both = both-true (c.member == member) (c.number == number) is in
    (eqb-true c.member member both.0, eqb-true c.number number both.1)

pub key-under : (member number : ℕ) (c : Challenge) → c.member ≡ member → c.number ≡ number
    → is_under member number c ≡ true
key-under member number c is_member is_number = rw (eq-eqb c.member member is_member) (eq-eqb c.number number is_number)

same-goes_by : (c new : Challenge) → key_of_challenge c ≡ key_of_challenge new → is_under new.member new.number c ≡ true
same-goes_by c new same = key-under new.member new.number c (ap (λ p. p.0) same) (ap (λ p. p.1) same)

goes_by-same : (c new : Challenge) → is_under new.member new.number c ≡ true → key_of_challenge c ≡ key_of_challenge new
goes_by-same c new is = let same = under-key new.member new.number c is in λ i. (same.0 i, same.1 i)

pub under-same : (cs : List Challenge) (member number other_member other_number : ℕ) (c : Challenge)
    → member ≡ other_member → number ≡ other_number → challenge_under cs member number ≡ Some c
    → challenge_under cs other_member other_number ≡ Some c
under-same cs member number other_member other_number c same_member same_number at =
    (λ i. challenge_under cs (sym same_member i) (sym same_number i)) ∙ at

-- what is found under a number stands there
pub under-found : (cs : List Challenge) (member number : ℕ) (c : Challenge) → challenge_under cs member number ≡ Some c
    → is_under member number c ≡ true
under-found [] member number c is = cc
under-found (x ∷ xs) member number c is = here (is_under member number x) refl (under-found xs member number c) is
  where
    here : (b : Bool) → is_under member number x ≡ b
        → (challenge_under xs member number ≡ Some c → is_under member number c ≡ true)
        → (if b then Some x else challenge_under xs member number) ≡ Some c → is_under member number c ≡ true
    here true passes rest is = let e : x ≡ c = cc in rw (← e) passes
    here false passes rest is = rest is

-- in a list no two elements have the same there where its first differs from the others, and these from each other
apart-cons : {A B : Type 0} (part : A → B) (x : A) (xs : List A) → HaveUniqueKeys part xs
    → ((n : ℕ) (y : A) → slice_get xs n ≡ Some y → part x ≡ part y → ⊥) → HaveUniqueKeys part (x ∷ xs)
apart-cons part x xs apart fresh zero zero a b at_i at_j same = refl
apart-cons part x xs apart fresh zero (suc j) a b at_i at_j same =
    let e : x ≡ a = cc in absurd (fresh j b at_j (ap part e ∙ same))
apart-cons part x xs apart fresh (suc i) zero a b at_i at_j same =
    let e : x ≡ b = cc in absurd (fresh i a at_i (ap part e ∙ sym same))
apart-cons part x xs apart fresh (suc i) (suc j) a b at_i at_j same = ap suc (apart i j a b at_i at_j same)

apart-rest : {A B : Type 0} (part : A → B) (x : A) (xs : List A) → HaveUniqueKeys part (x ∷ xs) → HaveUniqueKeys part xs
apart-rest part x xs apart i j a b at_i at_j same =
    let next : suc i ≡ suc j = apart (suc i) (suc j) a b at_i at_j same in
    cc

-- A challenge is found under its member and its number wherever it stands in a list where no two go by the same. So the
-- order of the list tells nothing.
pub under-at : (cs : List Challenge) (n : ℕ) (c : Challenge) → HaveUniqueKeys key_of_challenge cs → slice_get cs n ≡ Some c
    → challenge_under cs c.member c.number ≡ Some c
under-at [] n c apart at = cc
under-at (x ∷ xs) zero c apart at = let e : x ≡ c = cc in rw (e, key-under c.member c.number c refl refl) refl
under-at (x ∷ xs) (suc n) c apart at =
    here (is_under c.member c.number x) refl
    (under-at xs n c (apart-rest key_of_challenge x xs apart) at)
  where
    here : (b : Bool) → is_under c.member c.number x ≡ b → challenge_under xs c.member c.number ≡ Some c
        → (if b then Some x else challenge_under xs c.member c.number) ≡ Some c
    here true passes rest = let first : 0 ≡ suc n = apart 0 (suc n) x c refl at (goes_by-same x c passes) in cc
    here false fails rest = rest

-- what holds of each challenge holds of the one that is found
pub under-each : (P : Challenge → Type 0) (cs : List Challenge) (member number : ℕ) (c : Challenge) → Each P cs
    → challenge_under cs member number ≡ Some c → P c
under-each P [] member number c each is = cc
under-each P (x ∷ xs) member number c each is =
    here (is_under member number x) (under-each P xs member number c (λ n y at. each (suc n) y at)) is
  where
    here : (b : Bool) → (challenge_under xs member number ≡ Some c → P c)
        → (if b then Some x else challenge_under xs member number) ≡ Some c → P c
    here true rest is = let e : x ≡ c = cc in rw (← e) (each 0 x refl)
    here false rest is = rest is

either-first : (a b : Bool) (x y r : Option Challenge) → (a ≡ true → b ≡ true → ⊥)
    → (if a then x else (if b then y else r)) ≡ (if b then y else (if a then x else r))
either-first true true x y r apart = absurd (apart refl refl)
either-first true false x y r apart = refl
either-first false b x y r apart = refl

-- under its member and number a challenge that was put is found, and under all others what stood there
pub under-put : (cs : List Challenge) (new : Challenge) (member number : ℕ)
    → challenge_under (put_challenge cs new) member number
    ≡ (if is_under member number new then Some new else challenge_under cs member number)
under-put [] new member number = refl
under-put (c ∷ cs) new member number = here (is_under new.member new.number c) refl (under-put cs new member number)
  where
    taken : (a b : Bool) → b ≡ a → (if a then Some new else challenge_under cs member number)
        ≡ (if a then Some new else (if b then Some c else challenge_under cs member number))
    taken true b same = refl
    taken false b same = rw same refl

    here : (b : Bool) → is_under new.member new.number c ≡ b
        → challenge_under (put_challenge cs new) member number
        ≡ (if is_under member number new then Some new else challenge_under cs member number)
        → challenge_under (if b then new ∷ cs else c ∷ put_challenge cs new) member number
        ≡
        (if is_under member number new then Some
        new else (if is_under member number c then Some c else challenge_under cs member number))
    here true is rest =
        let same = under-key new.member new.number c is in
        taken (is_under member number new) (is_under member number c) (λ i. same.0 i == member && same.1 i == number)
    here false is rest =
        rw rest
        (either-first (is_under member number c) (is_under member number new) (Some c) (Some new)
        (challenge_under cs member number)
        (λ under_c under_new.
        let key = under-key member number c under_c in
        let key_new = under-key member number new under_new in
        let both : true ≡ false =
        sym (key-under new.member new.number c (key.0 ∙ sym key_new.0) (key.1 ∙ sym key_new.1)) ∙ is in
        absurd cc))

-- a challenge of a list into which one was put was there, or is the one
pub got-put : (cs : List Challenge) (new : Challenge) (n : ℕ) (x : Challenge)
    → slice_get (put_challenge cs new) n ≡ Some x → (slice_get cs n ≡ Some x) ⊎ (new ≡ x)
got-put [] new zero x at = inr cc
got-put [] new (suc n) x at = cc
got-put (c ∷ cs) new n x at = here (is_under new.member new.number c) n (λ k. got-put cs new k x) at
  where
    here : (b : Bool) (n : ℕ)
        → ((k : ℕ) → slice_get (put_challenge cs new) k ≡ Some x → (slice_get cs k ≡ Some x) ⊎ (new ≡ x))
        → slice_get (if b then new ∷ cs else c ∷ put_challenge cs new) n ≡ Some x → (slice_get (c ∷ cs) n ≡ Some x)
        ⊎ (new ≡ x)
    here true zero rest at = inr cc
    here true (suc n) rest at = inl at
    here false zero rest at = inl at
    here false (suc n) rest at = rest n at

pub each-put : (P : Challenge → Type 0) (cs : List Challenge) (new : Challenge) → Each P cs → P new
    → Each P (put_challenge cs new)
each-put P cs new each is_so =
    λ n x at. elim (got-put cs new n x at) [ inl old ↦ each n x old | inr is ↦ rw (← is) is_so ]

-- no two challenges have one member and one number, also after one was put
pub apart-put : (cs : List Challenge) (new : Challenge) → HaveUniqueKeys key_of_challenge cs → HaveUniqueKeys key_of_challenge (put_challenge cs new)
apart-put [] new apart = apart-cons key_of_challenge new [] apart (λ n y at same. cc)
apart-put (c ∷ cs) new apart =
    here (is_under new.member new.number c) refl (apart-put cs new (apart-rest key_of_challenge c cs apart))
  where
    here : (b : Bool) → is_under new.member new.number c ≡ b → HaveUniqueKeys key_of_challenge (put_challenge cs new)
        → HaveUniqueKeys key_of_challenge (if b then new ∷ cs else c ∷ put_challenge cs new)
    here true is rest =
        apart-cons key_of_challenge new cs (apart-rest key_of_challenge c cs apart)
        (λ n y at same. let no : 0 ≡ suc n = apart 0 (suc n) c y refl at (goes_by-same c new is ∙ same) in cc)
    here false is rest =
        apart-cons key_of_challenge c (put_challenge cs new) rest
        (λ n y at same.
        elim (got-put cs new n y at) [
          | inl old ↦ let no : 0 ≡ suc n = apart 0 (suc n) c y refl old same in cc
          | inr put ↦
              let both : true ≡ false = sym (same-goes_by c new (same ∙ ap key_of_challenge (sym put))) ∙ is in
              absurd cc
        ])
