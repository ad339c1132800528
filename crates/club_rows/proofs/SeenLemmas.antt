-- What is proved of the table of positions, for the proofs of crates above.
-- One game: the row of the opening, and the row that an entry puts.
pub use Rattle.club_rows.proofs.SeenGame.{entry-alters, seen-row-stays, seen-start, seen-stay}
-- The table of all games.
pub use Rattle.club_rows.proofs.SeenClub.{seen-added, seen-found, seen-table-added, seen-table-set}
pub use Rattle.club_rows.proofs.SeenTypes.{seen-typed}
-- Keys of a number and a text.
pub use Rattle.club_rows.proofs.KeyPairs.{same-numbers}
