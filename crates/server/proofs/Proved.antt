-- What is proved of what a server served, for the proofs of crates above.
pub use Rattle.server.proofs.ServedLemmas.{HasServed, lead_on, some_state, was_served}
