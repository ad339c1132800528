-- What is proved of orders, for the proofs of crates above.
pub use Rattle.club_orders.proofs.TakenLemmas.{still_there}
