-- What is proved of the texts of shogi, for the proofs of crates above.
pub use Rattle.sfen.proofs.OneLemmas.{not-refused, stands-for-one}
pub use Rattle.sfen.proofs.UsiOffsetLemmas.{refused-here}
pub use Rattle.sfen.proofs.UsiTextLemmas.{text-read, usi_reading-sound, usi_reading-text}
pub use Rattle.sfen.proofs.WrittenLemmas.{position-alone}
