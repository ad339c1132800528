-- The rows of the positions of a legal club have the types of their columns.
use Rattle.std.proofs.Common.{ℕ, suc, List, [], ◌∷◌, map, inl, inr, arith}
use Rattle.std.specs.List.{AllByRecursion}
use Rattle.std.proofs.lemmas.Bool.{cases_Bool}
use Rattle.club_rules.specs.GameRules.{GameRules}
use Rattle.club_rules.specs.Line.{positions}
use Rattle.club_core.specs.Game.{Game, moves_of}
use Rattle.club_core.specs.LegalState.{IsLegalIn}
use Rattle.club_core.specs.State.{draughts, shogi}
use Rattle.store_tables.specs.Cells.{IsSeen}
use Rattle.club_rows.specs.Club.{ClubGame, ClubState, IsClub, both_games}
use Rattle.club_rows.specs.Seen.{stood_before, times_in, seen_row, rows_from, seen_rows, texts_of}
use Rattle.club_rows.specs.Tables.{rows_of_seen, tables_of}
use Rattle.club_rows.proofs.DraughtsTexts.{draughts-plain}
use Rattle.club_rows.proofs.PlainTexts.{is-text, ArePlain}
use Rattle.club_rows.proofs.ShogiTexts.{shogi-plain}
use Rattle.club_rows.proofs.TextLemmas.{gathered-all}

module _ {P M E T : Type 0} (laws : GameRules P M E T) (plain : ArePlain laws) (id : ℕ) where
  row-typed : (p : P) (count ply : ℕ) → IsSeen (seen_row id (laws.write_position p) count ply)
  row-typed p count ply = grind (arith, is-text (laws.write_position p) (plain.position p))

  rows-typed : (texts : List (List ℕ)) (ply : ℕ) (ps : List P)
      → AllByRecursion IsSeen (rows_from id texts ply (map laws.write_position ps))
  rows-typed texts ply [] = tt
  rows-typed texts ply (p ∷ ps) =
      let rest = rows-typed texts (suc ply) ps in
      elim (cases_Bool (stood_before texts ply (laws.write_position p))) [
        | inl stood ↦ rw stood rest
        | inr new ↦ rw new (row-typed p (times_in texts (laws.write_position p)) ply, rest)
      ]

  pub seen-rows-typed : (game : Game M) → AllByRecursion IsSeen (seen_rows laws id game)
  seen-rows-typed game = rows-typed (texts_of laws game) 0 (positions laws laws.start (moves_of game))

any-seen : (s : ClubState) (id : ℕ) (any : ClubGame) → IsLegalIn both_games s any
    → AllByRecursion IsSeen (rows_of_seen both_games id any)
any-seen s id (draughts g) legal = seen-rows-typed both_games.draughts draughts-plain id g
any-seen s id (shogi g) legal = seen-rows-typed both_games.shogi shogi-plain id g

pub seen-typed : (s : ClubState) → IsClub s → AllByRecursion IsSeen (tables_of both_games s 12)
seen-typed s club = gathered-all (rows_of_seen both_games) (IsLegalIn both_games s) IsSeen (any-seen s) 1 s.games
    club.games
