-- What is proved of the club over its commands, of its tables and of histories, for the proofs of crates above.
pub use Rattle.club_laws.proofs.ArbiterSteps.{WasClosed, WasKeyed, number-is, was-closed, was-keyed}
pub use Rattle.club_laws.proofs.AddedSteps.{false-true, not-false, not-true, three-true}
pub use Rattle.club_laws.proofs.Folds.{folds-accepted, next-arbiter, unmoved}
pub use Rattle.club_laws.proofs.ImportSteps.{import-kept}
pub use Rattle.club_laws.proofs.KeyOwners.{key-owner, keys-apart}
pub use Rattle.club_laws.proofs.ImportedGames.{entries_at, imported-result, made-again, read-game, within-limit}
pub use Rattle.club_laws.proofs.LegalSteps.{in-place, next-legal}
pub use Rattle.club_laws.proofs.Lists.{apart-set, at-last, bytes_eq-same, each-append, each-set, find_id-found}
pub use Rattle.club_laws.proofs.Lists.{find_id-none, get-append}
pub use Rattle.club_laws.proofs.Lists.{got-append, got-set, map-at, map-got, place-append, put-at, same-bytes_eq}
pub use Rattle.club_laws.proofs.Lists.{set-got}
pub use Rattle.club_laws.proofs.PutChallenges.{apart-put, got-put, key-under, under-at, under-each, under-found}
pub use Rattle.club_laws.proofs.PutChallenges.{under-key, under-put}
pub use Rattle.club_laws.proofs.Room.{le-true, room-for}
pub use Rattle.club_laws.proofs.RulingSteps.{WasRuled, ruled-later, ruling-before-end, ruling-next, was-ruled}
pub use Rattle.club_laws.proofs.SeatSteps.{nat_le-false}
