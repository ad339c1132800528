-- What is proved of lines, of their tracks and texts, and of refusals, for the proofs of crates above.
pub use Rattle.club_rules.proofs.Lines.{IsLegalLine-append, check-at, drop-at, holds-after, position_after-append}
pub use Rattle.club_rules.proofs.Lines.{position_after-take, turn-after}
pub use Rattle.club_rules.proofs.PlayedLines.{IsPlayedLine-append, IsPlayedLine-none}
pub use Rattle.club_rules.proofs.Refused.{passed-by, passes-by, refused-passes}
pub use Rattle.club_rules.proofs.Sameness.{tells-equal}
pub use Rattle.club_rules.proofs.Texts.{line-read, position-read, texts-tell}
pub use Rattle.club_rules.proofs.Tracks.{count-next, numbers-few, track-is}
