-- What is proved of the head of a request, for the proofs of crates above.
pub use Rattle.http_head.proofs.RequestLemmas.{asks_more, sees_more, sees_once}
pub use Rattle.http_head.proofs.StreamLemmas.{appends_slice, appends_still}
