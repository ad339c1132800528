-- What is proved of an opening, for the proofs of crates above.
pub use Rattle.club_check.proofs.ClubLemmas.{good_at}
pub use Rattle.club_check.proofs.StoredLemmas.{club_of_version}
pub use Rattle.club_check.proofs.ToldLemmas.{club_told, least_number, served_from, tables_told}
