-- A move that is written is read as that move.
use Rattle.std.proofs.Common.{◌≡◌, ◌≢◌, ℕ, zero, suc, ◌+◌, ◌-◌, ◌/◌, ◌%◌, ◌<◌, ◌≤◌, List, [], ◌∷◌, length, get_or}
use Rattle.std.proofs.Common.{Option, Some, None, Bool, true, false, cond, nat_lt, ◌&&◌, refl, sym, ap, subst, ◌∙◌}
use Rattle.std.proofs.Common.{arith}
use Rattle.std.proofs.lemmas.Bool.{and_parts}
use Rattle.std.proofs.lemmas.Bool.Decides.{nat_tests}
use Rattle.std.specs.Prelude.{◌==◌}
use Rattle.std.specs.List.{list_all}
use Rattle.std.specs.Option.{option_map_or}
use Rattle.std.specs.Fmt.{decimal, digits, digits_onto, digit_glyph}
use Rattle.squares.specs.declared.sides.Side.{Side}
use Rattle.squares.specs.declared.sides.Side.TheVariants.{First, Second}
use Rattle.squares.specs.declared.shogi.piece.Role.{Role}
use Rattle.squares.specs.declared.shogi.piece.Role.TheVariants as role
use Rattle.squares.specs.declared.shogi.moves.SMove.{SMove}
use Rattle.squares.specs.declared.shogi.moves.SMove.TheVariants.{Step, Drop}
use Rattle.squares.specs.ShogiGeometry.{file_of, rank_of, shogi_number}
use Rattle.squares.specs.ShogiPieces.{kind_of, promotes_to}
use Rattle.squares.specs.ShogiSets.{ShogiPosition}
use Rattle.shogi_moves.specs.Rules.{Legal, Goes, can_promote, arrived, dropped_role}
use Rattle.shogi_moves.proofs.Proved.{Reach-on}
use Rattle.csa.specs.declared.statements.Statement.TheVariants as statement
use Rattle.csa.specs.declared.statements.WrittenMove.{WrittenMove}
use Rattle.csa.specs.Codes.{code_of, role_of, is_digit, is_place, square_of}
use Rattle.csa.specs.Lines.{is_comment, is_header}
use Rattle.csa.specs.Moves.{Means}
use Rattle.csa.specs.Statements.{board_source, source_of, move_of, signed, statement_of}
use Rattle.csa.specs.Writing.{side_sign, move_text}
use Rattle.csa.proofs.BackLineLemmas.{Every, IsWithin}

-- ---- codes and squares

abbrev letter : Role → ℕ → ℕ
letter code k = get_or (code_of code) k 0

-- a code is two letters
record Letters (code : Role) : Type 0 where
  is : code_of code ≡ letter code 0 ∷ letter code 1 ∷ []
  within_first : IsWithin (letter code 0)
  within_second : IsWithin (letter code 1)
  back : role_of (letter code 0) (letter code 1) ≡ Some code

letters : (code : Role) → Letters code
letters role.King =
    record { is = refl; within_first = (refl, refl, refl); within_second = (refl, refl, refl); back = refl }
letters _ = record { is = refl; within_first = (refl, refl, refl); within_second = (refl, refl, refl); back = refl }

digit-within : (k : ℕ) → IsWithin (48 + k)
digit-within k =
    let high : 48 ≤ 48 + k = omega arith in
    (grind (arith, nat_tests), grind (arith, nat_tests), other k)
  where
    other : (k : ℕ) → ((48 + k) == 44) ≡ false
    other k = grind (arith, nat_tests)

place-is : (k : ℕ) → 1 ≤ k → k ≤ 9 → is_place (48 + k) ≡ true
place-is k low high = grind (arith, nat_tests)

square-back : (n : ℕ) → n < 81 → square_of (48 + file_of n) (48 + rank_of n) ≡ Some n
square-back n on =
    let file : ℕ = 48 + file_of n in
    let rank : ℕ = 48 + rank_of n in
    let file_is : is_place (48 + file_of n) ≡ true = place-is (file_of n) (omega arith) (omega (arith, on)) in
    let rank_is : is_place (48 + rank_of n) ≡ true = place-is (rank_of n) (omega arith) (omega arith) in
    let number : shogi_number (48 + file_of n - 48) (48 + rank_of n - 48) ≡ n = omega arith in
    ap (λ b. cond (b && is_place rank) (Some (shogi_number (file - 48) (rank - 48))) None) file_is
    ∙ ap (λ b. cond b (Some (shogi_number (file - 48) (rank - 48))) None) rank_is
    ∙ ap (λ k. Some k) number

source-back : (n : ℕ) → n < 81 → source_of (48 + file_of n) (48 + rank_of n) ≡ Some (Some n)
source-back n on =
    let file : ℕ = 48 + file_of n in
    let rank : ℕ = 48 + rank_of n in
    let board : (file == 48) ≡ false = plain (file_of n) (omega arith) in
    ap (λ b. cond (b && (rank == 48)) (Some None) (board_source (square_of file rank))) board
    ∙ ap board_source (square-back n on)
  where
    plain : (k : ℕ) → 1 ≤ k → ((48 + k) == 48) ≡ false
    plain k low = grind (arith, nat_tests)

-- ---- moves

-- a text that is read as the move, alone on its line
pub record IsRead (p : ShogiPosition) (m : SMove) (text : List ℕ) : Type 0 where
  pub sign : ℕ
  pub more : List ℕ
  pub is : text ≡ sign ∷ more
  pub within : Every IsWithin (sign ∷ more)
  pub comment : is_comment (sign ∷ more) ≡ false
  pub header : is_header (sign ∷ more) ≡ false
  pub written : WrittenMove
  pub reads : statement_of (sign ∷ more) ≡ statement.Move written
  pub means : Means p written m

sign-is : (side : Side) (c : ℕ) (more : List ℕ)
    → IsWithin (side_sign side) × (is_comment (side_sign side ∷ c ∷ more) ≡ false)
    × (is_header (side_sign side ∷ c ∷ more) ≡ false)
    × (statement_of (side_sign side ∷ c ∷ more) ≡ signed side (c ∷ more))
sign-is First c more = ((refl, refl, refl), refl, refl, refl)
sign-is Second c more = ((refl, refl, refl), refl, refl, refl)

-- two squares' digits and a code after the sign of the side to move
read-as : (p : ShogiPosition) (m : SMove) (text : List ℕ) (f r t u : ℕ) (from : Option ℕ) (to : ℕ) (code : Role) →
    text ≡ side_sign p.turn ∷ f ∷ r ∷ t ∷ u ∷ code_of code → IsWithin f → IsWithin r → IsWithin t → IsWithin u →
    source_of f r ≡ Some from → square_of t u ≡ Some to
    → Means p (record { side = p.turn; from = from; to = to; role = code }) m → IsRead p m text
read-as p m text f r t u from to code is fw rw_in tw uw source target means =
    let l : Letters code = letters code in
    let first : ℕ = letter code 0 in
    let second : ℕ = letter code 1 in
    let side : Side = p.turn in
    let rest : List ℕ = r ∷ t ∷ u ∷ first ∷ second ∷ [] in
    let s = sign-is side f rest in
    record {
      sign = side_sign side;
      more = f ∷ rest;
      is = is ∙ ap (λ c. side_sign side ∷ f ∷ r ∷ t ∷ u ∷ c) l.is;
      within = (s.0, (fw, (rw_in, (tw, (uw, (l.within_first, (l.within_second, tt)))))));
      comment = s.1;
      header = s.2;
      written = record { side = side; from = from; to = to; role = code };
      reads = s.3
          ∙ ap (λ a. move_of side a (square_of t u) (role_of first second)) source
          ∙ ap (λ b. move_of side (Some from) b (role_of first second)) target
          ∙ ap (λ c. move_of side (Some from) (Some to) c) l.back;
      means = means;
    }

-- a promoted piece has another code
promoted-other : (r : Role) → can_promote r ≡ true → option_map_or (λ r. r) (promotes_to (kind_of r)) r ≢ r
promoted-other role.King h e = cc
promoted-other _ h e = cc

own-code : (p : ShogiPosition) (from to : ℕ) (promote : Bool) (g : Goes p from to promote) → promote ≡ true
    → (arrived g.piece promote).role ≢ g.piece.role
own-code p from to false g h = absurd (let never : false ≡ true = h in cc)
own-code p from to true g h =
    promoted-other g.piece.role (and_parts (can_promote g.piece.role) _ (g.may refl)).0

-- the text of a legal move is read as the move
pub move-read : (p : ShogiPosition) (m : SMove) → Legal p m → IsRead p m (move_text p m)
move-read p (Step from to promote) legal =
    let g : Goes p from to promote = legal.pseudo.moves in
    let on = Reach-on p.board g.piece from to g.reach in
    let code : Role = (arrived g.piece promote).role in
    let front : List ℕ → List ℕ = λ l. side_sign p.turn ∷ (48 + file_of from) ∷ (48 + rank_of from) ∷ (48 + file_of to)
    ∷ (48 + rank_of to) ∷ l in
    read-as p (Step from to promote) (move_text p (Step from to promote)) (48 + file_of from) (48 + rank_of from)
    (48 + file_of to) (48 + rank_of to) (Some from) to code
    (ap (λ o. front (option_map_or (λ piece. code_of (arrived piece promote).role) o [])) g.reach.stands)
    (digit-within (file_of from)) (digit-within (rank_of from)) (digit-within (file_of to)) (digit-within (rank_of to))
    (source-back from on.0) (square-back to on.1)
    (refl, refl, refl, (g.piece, g.reach.stands, record { after = refl; own = own-code p from to promote g }))
move-read p (Drop kind to) legal =
    let on = legal.pseudo.moves in
    read-as p (Drop kind to) (move_text p (Drop kind to)) 48 48 (48 + file_of to) (48 + rank_of to) None to
    (dropped_role kind) refl (digit-within 0) (digit-within 0) (digit-within (file_of to)) (digit-within (rank_of to))
    refl (square-back to on.0) (refl, refl, refl, refl)

-- ---- seconds

-- some digits, within a line
pub record AreDigits (ds : List ℕ) : Type 0 where
  pub some_there : (length ds == 0) ≡ false
  pub pass : list_all is_digit ds ≡ true
  pub within : Every IsWithin ds

digit-more : (n : ℕ) (acc : List ℕ) → list_all is_digit acc ≡ true → Every IsWithin acc
    → AreDigits (digit_glyph false (n % 10) ∷ acc)
digit-more n acc pass within =
    let low : n % 10 < 10 = omega arith in
    let glyph : digit_glyph false (n % 10) ≡ 48 + n % 10 =
    ap (λ b. cond b (48 + n % 10) (87 + n % 10)) (less (n % 10) low) in
    subst (λ c. AreDigits (c ∷ acc)) (sym glyph)
    (record {
      some_there = one-more (48 + n % 10);
      pass = ap (λ b. b && list_all is_digit acc) (digit (n % 10) low) ∙ pass;
      within = (digit-within (n % 10), within);
    })
  where
    less : (k : ℕ) → k < 10 → nat_lt k 10 ≡ true
    less k h = grind (arith, nat_tests)

    digit : (k : ℕ) → k < 10 → is_digit (48 + k) ≡ true
    digit k h = grind (arith, nat_tests)

    one-more : (c : ℕ) → (length (c ∷ acc) == 0) ≡ false
    one-more c = grind (arith, nat_tests)

digits-are : (k n : ℕ) (acc : List ℕ) → AreDigits acc → AreDigits (digits_onto k 10 false n acc)
digits-are zero n acc a = a
digits-are (suc k) n acc a =
    let more : AreDigits (digit_glyph false (n % 10) ∷ acc) = digit-more n acc a.pass a.within in
    elim (n / 10 == 0) as (λ b.
    AreDigits
    (cond b (digit_glyph false (n % 10) ∷ acc)
    (digits_onto k 10 false (n / 10) (digit_glyph false (n % 10) ∷ acc)))) [
      | true ↦ more
      | false ↦ digits-are k (n / 10) (digit_glyph false (n % 10) ∷ acc) more
    ]

pub decimal-digits : (n : ℕ) → AreDigits (decimal n)
unfolding digits
decimal-digits n =
    let d : ℕ = digit_glyph false (n % 10) in
    let one : AreDigits (d ∷ []) = digit-more n [] refl tt in
    elim (n / 10 == 0) as (λ b. AreDigits (cond b (d ∷ []) (digits_onto 63 10 false (n / 10) (d ∷ [])))) [
      | true ↦ one
      | false ↦ digits-are 63 (n / 10) (d ∷ []) one
    ]

-- seconds are read as such
pub seconds-read : (n : ℕ) → statement_of (84 ∷ decimal n) ≡ statement.Seconds
seconds-read n =
    let ds : List ℕ = decimal n in
    ap (λ b. cond b statement.Formless (cond (list_all is_digit ds) statement.Seconds statement.Formless))
    (decimal-digits n).some_there
    ∙ ap (λ b. cond b statement.Seconds statement.Formless) (decimal-digits n).pass
