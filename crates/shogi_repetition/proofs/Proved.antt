-- What is proved of the ends of shogi, for the proofs of crates above.
pub use Rattle.shogi_repetition.proofs.EndLemmas.{line-end, one-end, end_of-is}
pub use Rattle.shogi_repetition.proofs.TailLemmas.{tail-begins, tail-goes-on, ends-by-tail}
