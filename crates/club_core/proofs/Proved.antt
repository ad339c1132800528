-- What is proved of games of the club, for the proofs of crates above.
pub use Rattle.club_core.proofs.GrantLemmas.{AreFrom, AreUpTo, after-none, after-now, are_from-append, are_from-fewer}
pub use Rattle.club_core.proofs.GrantLemmas.{first_verdict-append, no-first_verdict, none-verdict, since-after}
pub use Rattle.club_core.proofs.GrantLemmas.{spend_all-append, spend_all-more, verdict_of-append}
pub use Rattle.club_core.proofs.KeyLemmas.{last_key-at}
pub use Rattle.club_core.proofs.Legals.{AreRules, NoneHolds, allowed-in_time, allowed-running, are_rules}
pub use Rattle.club_core.proofs.Legals.{checked-legal, is_timely-more, legal-ended, legal-offered, legal-played}
pub use Rattle.club_core.proofs.Legals.{no-rulings, none-holds, not-some, running-alone}
pub use Rattle.club_core.proofs.Played.{asked-legal, clocks-played, clocks_of-played, last-played, made-played}
pub use Rattle.club_core.proofs.Played.{moves_of-played, no-rule-end, outside-alone, reply-played, rule_in-end_with}
pub use Rattle.club_core.proofs.Played.{running-before, take-before, take-whole, turn-of-game, verdict-alone}
pub use Rattle.club_core.proofs.RulingLemmas.{both-hold, clocks-ruled, end-ruled, grant-bound, verdict-leaves}
pub use Rattle.club_core.proofs.PlayedLines.{IsPlayedLine-append, IsPlayedLine-none}
pub use Rattle.club_core.proofs.Tracked.{line-grows, line_track-append, tracked-end}
pub use Rattle.club_core.proofs.Turns.{turns-even, turns-odd, turns-other}
