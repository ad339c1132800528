-- A row is its columns.
use Rattle.std.proofs.Common.{◌≡◌, ℕ, zero, suc, [], ◌∷◌, length, refl, ap, arith}
use Rattle.sqlite_value.specs.declared.value.Value.{Value}
use Rattle.store_tables.specs.Sql.{Row, column}

abbrev pub columns_of : ℕ → (ℕ → Value) → Row
columns_of zero f = []
columns_of (suc n) f = f 0 ∷ columns_of n (λ i. f (suc i))

pub listed : (row : Row) (n : ℕ) → length row ≡ n → row ≡ columns_of n (column row)
listed [] zero h = refl
listed [] (suc n) h = absurd (omega (arith, h))
listed (v ∷ row) zero h = absurd (omega (arith, h))
listed (v ∷ row) (suc n) h = ap (λ l. v ∷ l) (listed row n (omega (arith, h)))

pub seven : (row : Row) (a b c d e f g : Value) → length row ≡ 7 → column row 0 ≡ a → column row 1 ≡ b
    → column row 2 ≡ c → column row 3 ≡ d → column row 4 ≡ e → column row 5 ≡ f → column row 6 ≡ g
    → row ≡ a ∷ b ∷ c ∷ d ∷ e ∷ f ∷ g ∷ []
seven row a b c d e f g h p0 p1 p2 p3 p4 p5 p6 = let is = listed row 7 h in rw (p0, p1, p2, p3, p4, p5, p6) at is

pub nine : (row : Row) (a b c d e f g h i : Value) → length row ≡ 9 → column row 0 ≡ a → column row 1 ≡ b
    → column row 2 ≡ c → column row 3 ≡ d → column row 4 ≡ e → column row 5 ≡ f → column row 6 ≡ g → column row 7 ≡ h
    → column row 8 ≡ i → row ≡ a ∷ b ∷ c ∷ d ∷ e ∷ f ∷ g ∷ h ∷ i ∷ []
nine row a b c d e f g h i long p0 p1 p2 p3 p4 p5 p6 p7 p8 =
    let is = listed row 9 long in rw (p0, p1, p2, p3, p4, p5, p6, p7, p8) at is

pub seventeen : (row : Row) (v0 v1 v2 v3 v4 v5 v6 v7 v8 v9 v10 v11 v12 v13 v14 v15 v16 : Value) → length row ≡ 17
    → column row 0 ≡ v0 → column row 1 ≡ v1 → column row 2 ≡ v2 → column row 3 ≡ v3 → column row 4 ≡ v4
    → column row 5 ≡ v5 → column row 6 ≡ v6 → column row 7 ≡ v7 → column row 8 ≡ v8 → column row 9 ≡ v9
    → column row 10 ≡ v10 → column row 11 ≡ v11 → column row 12 ≡ v12 → column row 13 ≡ v13 → column row 14 ≡ v14
    → column row 15 ≡ v15 → column row 16 ≡ v16
    → row ≡ v0 ∷ v1 ∷ v2 ∷ v3 ∷ v4 ∷ v5 ∷ v6 ∷ v7 ∷ v8 ∷ v9 ∷ v10 ∷ v11 ∷ v12 ∷ v13 ∷ v14 ∷ v15 ∷ v16 ∷ []
seventeen row v0 v1 v2 v3 v4 v5 v6 v7 v8 v9 v10 v11 v12 v13 v14 v15 v16 h p0 p1 p2 p3 p4 p5 p6 p7 p8 p9 p10 p11 p12 p13
    p14 p15 p16 = let is = listed row 17 h in
    rw (p0, p1, p2, p3, p4, p5, p6, p7, p8, p9, p10, p11, p12, p13, p14, p15, p16) at is
