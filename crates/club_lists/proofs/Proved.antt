-- What proofs of the crates above may cite.
pub use Rattle.club_lists.proofs.FloatLemmas.{text_float}
pub use Rattle.club_lists.proofs.OwnChallenges.{concerns, same_json}
