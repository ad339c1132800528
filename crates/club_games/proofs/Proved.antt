-- What is proved of records, for the proofs of crates above.
pub use Rattle.club_games.specs.internal.CsaOnly.{csa-part}
pub use Rattle.club_games.specs.internal.PdnOnly.{pdn-part}
