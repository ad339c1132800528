-- What is proved of the rows of a club's games, members and challenges, for the proofs of crates above.
pub use Rattle.club_rows.proofs.ChallengeLemmas.{challenge-had, challenge-not-shown, challenge-put, challenge-shown}
pub use Rattle.club_rows.proofs.ChallengeLemmas.{challenge-told, challenges-alike, challenges-unaltered}
pub use Rattle.club_rows.proofs.ChallengeLemmas.{no-challenge-told, seated-added}
pub use Rattle.club_rows.proofs.ClubsAlike.{closings-begin, declares-alike, keys-begin, rulings_begin}
pub use Rattle.club_rows.proofs.GatheredLemmas.{gathered-added, gathered-had, gathered-has}
pub use Rattle.club_rows.proofs.KindLemmas.{Kind, draughts_laws, event_in, in_draughts, in_shogi, kinds-alike, plies_in}
pub use Rattle.club_rows.proofs.KindLemmas.{shogi_laws}
pub use Rattle.club_rows.proofs.LineLemmas.{IsLegalLine-take}
pub use Rattle.club_rows.proofs.MadeLemmas.{made-last, ruled-last}
pub use Rattle.club_rows.proofs.NextLemmas.{six-parts}
pub use Rattle.club_rows.proofs.RowViewLemmas.{position-text}
pub use Rattle.club_rows.proofs.ScoreAfter.{fit, gained, scores_few}
pub use Rattle.club_rows.proofs.ScoreLemmas.{found_none, found_some, met_ended, met_running, scores_added, scores_next}
pub use Rattle.club_rows.proofs.ScoreLemmas.{scores_changed, scores_seated, scores_stay, scores_typed}
pub use Rattle.club_rows.proofs.ScoreRowLemmas.{keys_agree, keys_same, mapped_had, mapped_has, pair_itself, pair_key}
pub use Rattle.club_rows.proofs.ScoreRowLemmas.{pair_same, pairs_of, rows_alter, rows_had, rows_has, scores_append}
pub use Rattle.club_rows.proofs.ScoreRowLemmas.{scores_none}
pub use Rattle.club_rows.proofs.SeenAfter.{times-none}
pub use Rattle.club_rows.proofs.SeenGame.{map-more, seen-id}
pub use Rattle.club_rows.proofs.SeenLemmas.{entry-alters, same-numbers, seen-added, seen-found, seen-row-stays}
pub use Rattle.club_rows.proofs.SeenLemmas.{seen-start, seen-stay, seen-table-added, seen-table-set, seen-typed}
pub use Rattle.club_rows.proofs.SeenTexts.{Texts, first-more, first-new, one-first, one-row, row-had, row-has}
pub use Rattle.club_rows.proofs.SeenTexts.{times-new, times-other}
pub use Rattle.club_rows.proofs.TallyLemmas.{positions-append}
pub use Rattle.club_rows.proofs.TextLemmas.{closings-typed, events-typed, games-typed, keys-typed, members-typed}
pub use Rattle.club_rows.proofs.TextLemmas.{moves-typed, rules-typed, rulings-typed}
pub use Rattle.club_rows.proofs.VersionLemmas.{stores-rows, version-served, version-with, version-without}
pub use Rattle.club_rows.proofs.ColumnLemmas.{IsToldBy, columns-are, columns-read, columns-told, none-read}
pub use Rattle.club_rows.proofs.ColumnLemmas.{same-pos, spend-since}
pub use Rattle.club_rows.proofs.ReadLemmas.{cells-ruling, read-told}
pub use Rattle.club_rows.proofs.RightRows.{rows-moves, rows-rulings}
pub use Rattle.club_rows.proofs.RulingRowLemmas.{legal-possible, rows-ruled, ruling-at, ruling-count, ruling-told}
pub use Rattle.club_rows.proofs.RulingRowLemmas.{rulings-begin, rulings-stay, rulings-told}
pub use Rattle.club_rows.proofs.StandLemmas.{is_some-none, since-rises}
pub use Rattle.club_rows.proofs.WholeLemmas.{played-count, rows-alike, rows-append, rows-count, rows-from, take-got}
