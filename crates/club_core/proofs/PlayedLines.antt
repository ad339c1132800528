-- What holds of a line that is played by the rules, as it grows at its end.
pub use Rattle.club_rules.proofs.Proved.{IsPlayedLine-none, IsPlayedLine-append}
