-- Lines that grow by the moves of texts.
use Rattle.std.proofs.Common.{◌≡◌, ℕ, zero, suc, ◌+◌, List, [], ◌∷◌, ◌++◌, take, drop, map, Some, Ok, refl, ap, sym, ◌∙◌}
use Rattle.std.proofs.Common.{append_assoc, length, ◌≤◌, arith, length-append, Option}
use Rattle.std.specs.Option.{option_map}
use Rattle.club_rules.specs.declared.names.EndName.{EndName}
use Rattle.std.specs.Prelude.{slice_get, string_bytes}
use Rattle.std.proofs.lemmas.Option.{same_Some}
use Rattle.club_rules.specs.GameRules.{GameRules}
use Rattle.club_rules.specs.Line.{position_after}
use Rattle.club_core.specs.Step.{checked}
use Rattle.club_analysis.specs.Tried.{AreMovesAfter, AreRead, IsAnalysis, LineShown, notation_from}
use Rattle.club_analysis.specs.internal.Line.{Grows, HasTried, IsLine}
use Rattle.club_analysis.specs.declared.lines.Line.{Line}

module _ {P M E T : Type 0} (rules : GameRules P M E T) where
  -- the position after two lines, one after the other
  both-lines : (p : P) (xs ys : List M)
      → position_after rules p (xs ++ ys) ≡ position_after rules (position_after rules p xs) ys
  both-lines p [] ys = refl
  both-lines p (x ∷ xs) ys = both-lines (rules.play p x) xs ys

  -- one more text is read
  read_more : (p : P) (texts : List (List ℕ)) (ms : List M) (text : List ℕ) (m : M) → AreRead rules p texts ms
      → checked rules (position_after rules p ms) (rules.read_move (position_after rules p ms) text) ≡ Ok m
      → AreRead rules p (texts ++ text ∷ []) (ms ++ m ∷ [])
  read_more p [] [] text m read ok = (ok, tt)
  read_more p [] (x ∷ ms) text m read ok = absurd read
  read_more p (t ∷ texts) [] text m read ok = absurd read
  read_more p (t ∷ texts) (x ∷ ms) text m read ok = (read.0, read_more (rules.play p x) texts ms text m read.1 ok)

  -- and written
  notation_more : (p : P) (ms : List M) (m : M)
      → notation_from rules p (ms ++ m ∷ []) ≡ notation_from rules p ms ++ rules.write_move (position_after rules p ms) m ∷ []
  notation_more p [] m = refl
  notation_more p (x ∷ ms) m = ap (λ l. rules.write_move p x ∷ l) (notation_more (rules.play p x) ms m)

  -- a line that has tried some texts tries one more
  pub tried_more : {R : Type 0} (start : P) (before : List M) (texts : List (List ℕ)) (text : List ℕ)
      (old new : Line R P M E T) → HasTried rules start before texts old → Grows rules old text new
      → HasTried rules start before (texts ++ text ∷ []) new
  tried_more start before texts text old new has grows =
      let here : old.last ≡ position_after rules (position_after rules start before) has.tried =
      has.is_line.last ∙ ap (λ p. position_after rules p old.moves.items) has.start_is
      ∙ ap (position_after rules start) has.moves_are ∙ both-lines start before has.tried in
      record {
        tried = has.tried ++ grows.made ∷ [];
        read = read_more _ texts has.tried text grows.made has.read (rw here at grows.read);
        is_line = grows.is_line;
        start_is = grows.start ∙ has.start_is;
        moves_are = grows.moves ∙ ap (λ l. l ++ grows.made ∷ []) has.moves_are
            ∙ append_assoc before has.tried (grows.made ∷ []);
        tried_are = grows.tried ∙ ap (λ l. l ++ rules.write_move old.last grows.made ∷ []) has.tried_are
            ∙ ap (λ p. notation_from rules (position_after rules start before) has.tried ++ rules.write_move p grows.made ∷ []) here
            ∙ sym (notation_more (position_after rules start before) has.tried grows.made);
      }

  -- as many moves are read as there are texts
  count_read : (p : P) (texts : List (List ℕ)) (ms : List M) → AreRead rules p texts ms → length ms ≡ length texts
  count_read p [] [] read = refl
  count_read p [] (x ∷ ms) read = absurd read
  count_read p (t ∷ texts) [] read = absurd read
  count_read p (t ∷ texts) (x ∷ ms) read = ap suc (count_read (rules.play p x) texts ms read.1)

  pub tried_count : {R : Type 0} (start : P) (before : List M) (texts : List (List ℕ)) (line : Line R P M E T)
      → HasTried rules start before texts line → length line.moves.items ≡ length before + length texts
  tried_count start before texts line has =
      ap length has.moves_are ∙ length-append before has.tried
      ∙ ap (λ n. length before + n) (count_read _ texts has.tried has.read)

  -- what is shown of a line that has tried the texts
  pub analysed : {R : Type 0} (start : P) (before : List M) (texts : List (List ℕ)) (line : Line R P M E T)
      (shown : LineShown) → HasTried rules start before texts line
      → shown.position ≡ rules.write_position line.last → shown.moves ≡ map (λ t. string_bytes t) line.tried.items
      → AreMovesAfter rules line.start line.moves.items shown.legal
      → shown.end ≡ option_map rules.end_name (rules.judge line.start line.moves.items)
      → IsAnalysis rules start before texts shown
  analysed start before texts line shown has position moves legal end = record {
    tried = has.tried;
    read = has.read;
    position = position ∙ ap rules.write_position (has.is_line.last
        ∙ ap (λ p. position_after rules p line.moves.items) has.start_is
        ∙ ap (position_after rules start) has.moves_are);
    moves = moves ∙ has.tried_are;
    legal = rw (has.start_is, has.moves_are) at legal;
    end = rw (has.start_is, has.moves_are) at end;
  }

-- one more of a list
pub map_next : {A B : Type 0} (of : A → B) (xs : List A) (i : ℕ) (x : A) → slice_get xs i ≡ Some x
    → map of (take (suc i) xs) ≡ map of (take i xs) ++ of x ∷ []
map_next of [] i x at = cc
map_next of (y ∷ ys) zero x at = rw (same_Some y x at) refl
map_next of (y ∷ ys) (suc i) x at = ap (λ l. of y ∷ l) (map_next of ys i x at)

-- what stands before it, and the rest
pub map_split : {A B : Type 0} (of : A → B) (xs : List A) (i : ℕ) (x : A) → slice_get xs i ≡ Some x
    → map of xs ≡ map of (take i xs) ++ of x ∷ map of (drop (suc i) xs)
map_split of [] i x at = cc
map_split of (y ∷ ys) zero x at = rw (same_Some y x at) refl
map_split of (y ∷ ys) (suc i) x at = ap (λ l. of y ∷ l) (map_split of ys i x at)
