-- What is proved of an audit's reading of the tables, for the proofs of crates above.
pub use Rattle.club_audit.proofs.AuditLemmas.{game-elsewhere, id-told, keys-in, keys-of, take-got}
pub use Rattle.club_audit.proofs.ChallengeLemmas.{challenges-of, club-challenges}
pub use Rattle.club_audit.proofs.FirstLemmas.{all-right, none-named}
pub use Rattle.club_audit.proofs.GamePlaces.{club-right, later-game, right-club}
pub use Rattle.club_audit.proofs.PeopleLemmas.{events-count, members-count, ruled-of, rules-counted}
pub use Rattle.club_audit.proofs.PlacedLemmas.{numbered-append, numbered-at, numbered-back, numbered-length}
pub use Rattle.club_audit.proofs.ClosingLemmas.{ClosedBy, closed-by, closed-of, closings-in-order, rows-closed-by}
pub use Rattle.club_audit.proofs.LaterKeys.{keyed-of}
