-- What the calls on tables offer to proofs of the crates above, which cite no other module of these proofs.
pub use Rattle.store_sql.proofs.OpenLemmas.{schema_once, opens_exactly}
pub use Rattle.store_sql.proofs.SelectLemmas.{keeps_content, always}
