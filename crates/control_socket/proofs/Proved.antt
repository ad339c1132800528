-- What is proved of received bytes, for the proofs of crates above.
pub use Rattle.control_socket.proofs.ReceivedLemmas.{not_added, received_but}
