-- What is proved of histories of a stored club, for the proofs of crates above.
pub use Rattle.store.proofs.HistoryLemmas.{asks_served, fold_same, holds_after, holds_beside, holds_in_version}
pub use Rattle.store.proofs.HistoryLemmas.{leaves_after, one_cut, one_leads, one_unserved, opens_beside, opens_led}
pub use Rattle.store.proofs.HistoryLemmas.{own_version, same_version, serves_at, serves_on, still_stands, stops_led}
pub use Rattle.store.proofs.HistoryLemmas.{tables_served, taken_session, version_is, version_taken, with_served}
pub use Rattle.store.proofs.LegalLemmas.{arbiter_kept, arbiter_stays, club_stays, taken_by}
-- The names of the tables that schema 3 adds.
pub use Rattle.store.proofs.NameLemmas.{names_free, reached_tables}
