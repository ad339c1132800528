-- What is proved of the ends of draughts, for the proofs of crates above.
pub use Rattle.draughts_draws.proofs.EndLemmas.{line-end}
pub use Rattle.draughts_draws.proofs.TailLemmas.{ends-by-tail, tail-begins, tail-goes-on}
