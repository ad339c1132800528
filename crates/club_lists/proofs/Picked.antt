-- The texts of those elements of a list that pass a test.
use Rattle.std.proofs.Common.{◌≡◌, ◌+◌, ◌<◌, ℕ, suc, List, [], ◌∷◌, ◌++◌, length, map, drop, get_or, Bool, true, false}
use Rattle.std.proofs.Common.{refl, ap, sym, ◌∙◌, arith}
use Rattle.std.specs.Prelude.{filter, if◌then◌else◌}
use Rattle.std.proofs.Math.Seq.{drop-cons}
use Rattle.std.proofs.lemmas.List.{map-id}

pub text_push : {A B : Type 0} (f : A → B) (xs : List A) (x : A) (ys : List B) → map f (xs ++ x ∷ []) ++ ys
    ≡ map f xs ++ (f x ∷ ys)
text_push f [] x ys = refl
text_push f (z ∷ xs) x ys = ap (λ l. f z ∷ l) (text_push f xs x ys)

module _ {A B C S : Type 0} (text : S → C) (line : B → C) (test : B → Bool) (told : A → B) where
  abbrev pub picked : List A → List C
  picked xs = map line (filter test (map told xs))

  picked_in : (x : A) (xs : List A) → test (told x) ≡ true → picked (x ∷ xs) ≡ line (told x) ∷ picked xs
  picked_in x xs passes = ap
      (λ b. map line (if b then told x ∷ filter test (map told xs) else filter test (map told xs)))
      passes

  picked_out : (x : A) (xs : List A) → test (told x) ≡ false → picked (x ∷ xs) ≡ picked xs
  picked_out x xs fails = ap
      (λ b. map line (if b then told x ∷ filter test (map told xs) else filter test (map told xs)))
      fails

  module _ (xs : List A) (k : ℕ) (x : A) (within : k < length xs) (is : x ≡ get_or xs k x) where
    here : drop k xs ≡ x ∷ drop (k + 1) xs
    here =
        let next : suc k ≡ k + 1 = omega arith in
        drop-cons xs k x within ∙ (λ i. sym is i ∷ drop (next i) xs)

    pub one_picked : (done after : List S) (part : S) → map text done ++ picked (drop k xs) ≡ picked xs
        → test (told x) ≡ true → text part ≡ line (told x) → after ≡ done ++ part ∷ []
        → map text after ++ picked (drop (k + 1) xs) ≡ picked xs
    one_picked done after part before passes same grown =
        ap (λ l. map text l ++ picked (drop (k + 1) xs)) grown
        ∙ (text_push text done part (picked (drop (k + 1) xs))
        ∙ (ap (λ t. map text done ++ (t ∷ picked (drop (k + 1) xs))) same
        ∙ (ap (λ l. map text done ++ l) (sym (picked_in x (drop (k + 1) xs) passes))
        ∙ (ap (λ l. map text done ++ picked l) (sym here) ∙ before))))

    pub one_left : (done : List S) → map text done ++ picked (drop k xs) ≡ picked xs → test (told x) ≡ false
        → map text done ++ picked (drop (k + 1) xs) ≡ picked xs
    one_left done before fails =
        ap (λ l. map text done ++ l) (sym (picked_out x (drop (k + 1) xs) fails))
        ∙ (ap (λ l. map text done ++ picked l) (sym here) ∙ before)

-- values of those that pass a test, as they are
module _ {A B S : Type 0} (line : B → S) (test : B → Bool) (told : A → B) (xs : List A) (k : ℕ) (x : A)
    (within : k < length xs) (is : x ≡ get_or xs k x) where
  abbrev whole : List A → List S
  whole l = map line (filter test (map told l))

  pub one_kept : (done after : List S) (part : S) → done ++ whole (drop k xs) ≡ whole xs → test (told x) ≡ true
      → part ≡ line (told x) → after ≡ done ++ part ∷ [] → after ++ whole (drop (k + 1) xs) ≡ whole xs
  one_kept done after part before passes same grown =
      ap (λ l. l ++ whole (drop (k + 1) xs)) (sym (map-id after))
      ∙ one_picked (λ s. s) line test told xs k x within is done after part
      (ap (λ l. l ++ whole (drop k xs)) (map-id done) ∙ before) passes same grown

  pub one_passed : (done : List S) → done ++ whole (drop k xs) ≡ whole xs → test (told x) ≡ false
      → done ++ whole (drop (k + 1) xs) ≡ whole xs
  one_passed done before fails =
      ap (λ l. l ++ whole (drop (k + 1) xs)) (sym (map-id done))
      ∙ one_left (λ s. s) line test told xs k x within is done
      (ap (λ l. l ++ whole (drop k xs)) (map-id done) ∙ before) fails

-- the texts of all of them
module _ {A B C S : Type 0} (text : S → C) (line : B → C) (told : A → B) where
  pub one_told : (xs : List A) (k : ℕ) (x : A) → k < length xs → x ≡ get_or xs k x → (done after : List S) (part : S)
      → map text done ++ map line (map told (drop k xs)) ≡ map line (map told xs) → text part ≡ line (told x)
      → after ≡ done ++ part ∷ []
      → map text after ++ map line (map told (drop (k + 1) xs)) ≡ map line (map told xs)
  one_told xs k x within is done after part before same grown =
      let next : suc k ≡ k + 1 = omega arith in
      let here : drop k xs ≡ x ∷ drop (k + 1) xs =
      drop-cons xs k x within ∙ (λ i. sym is i ∷ drop (next i) xs) in
      ap (λ l. map text l ++ map line (map told (drop (k + 1) xs))) grown
      ∙ (text_push text done part (map line (map told (drop (k + 1) xs)))
      ∙ (ap (λ t. map text done ++ (t ∷ map line (map told (drop (k + 1) xs)))) same
      ∙ (ap (λ l. map text done ++ map line (map told l)) (sym here) ∙ before)))

-- those of plain elements that pass a test
module _ {B C S : Type 0} (text : S → C) (line : B → C) (test : B → Bool) (xs : List B) (k : ℕ) (d : B)
    (within : k < length xs) where
  plain_here : drop k xs ≡ get_or xs k d ∷ drop (k + 1) xs
  plain_here =
      let next : suc k ≡ k + 1 = omega arith in
      drop-cons xs k d within ∙ ap (λ j. get_or xs k d ∷ drop j xs) next

  first_of : Bool → List B
  first_of b = if b then get_or xs k d ∷ filter test (drop (k + 1) xs) else filter test (drop (k + 1) xs)

  pub one_shown : (done after : List S) (part : S)
      → map text done ++ map line (filter test (drop k xs)) ≡ map line (filter test xs)
      → test (get_or xs k d) ≡ true → text part ≡ line (get_or xs k d) → after ≡ done ++ part ∷ []
      → map text after ++ map line (filter test (drop (k + 1) xs)) ≡ map line (filter test xs)
  unfolding first_of
  one_shown done after part before passes same grown =
      ap (λ l. map text l ++ map line (filter test (drop (k + 1) xs))) grown
      ∙ (text_push text done part (map line (filter test (drop (k + 1) xs)))
      ∙ (ap (λ t. map text done ++ (t ∷ map line (filter test (drop (k + 1) xs)))) same
      ∙ (ap (λ b. map text done ++ map line (first_of b)) (sym passes)
      ∙ (ap (λ l. map text done ++ map line (filter test l)) (sym plain_here) ∙ before))))

  pub one_hidden : (done : List S) → map text done ++ map line (filter test (drop k xs)) ≡ map line (filter test xs)
      → test (get_or xs k d) ≡ false
      → map text done ++ map line (filter test (drop (k + 1) xs)) ≡ map line (filter test xs)
  unfolding first_of
  one_hidden done before fails =
      ap (λ b. map text done ++ map line (first_of b)) (sym fails)
      ∙ (ap (λ l. map text done ++ map line (filter test l)) (sym plain_here) ∙ before)
