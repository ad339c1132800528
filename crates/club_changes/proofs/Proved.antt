-- What is proved of rows that are put into the tables of a club, for the proofs of crates above.
pub use Rattle.club_changes.proofs.ChallengeRows.{asked, challenges_typed, found_none, found_some, past_numbers}
pub use Rattle.club_changes.proofs.ChallengedTables.{member_answers, member_mapped, member_same}
pub use Rattle.club_changes.proofs.ClubPlayed.{place_at, unknown_decided}
pub use Rattle.club_changes.proofs.FoundLemmas.{moved, on_ok}
pub use Rattle.club_changes.proofs.FoundMoves.{id_of, in_table, of_game, past_none, ply_is, tells_moves}
pub use Rattle.club_changes.proofs.FoundPeople.{event_found, member_found, name_same, place_next, rule_found}
pub use Rattle.club_changes.proofs.FoundPeople.{first_key_found, first_key_missing, text_itself, text_same}
pub use Rattle.club_changes.proofs.GameRows.{event_stands, id_none, id_some, ids_read, none_stored, pairing_same}
pub use Rattle.club_changes.proofs.GameRows.{no_such_number, players_stand, stored_as, stored_decided, tells-seen}
pub use Rattle.club_changes.proofs.GameRows.{under_none, under_some, under_stored}
pub use Rattle.club_changes.proofs.GivenRulings.{ruled_players, ruled_unmoved}
pub use Rattle.club_changes.proofs.ImportLemmas.{ImportsOf, added_in, by_known, ended_with, import_decided}
pub use Rattle.club_changes.proofs.ImportLemmas.{imports_draughts, imports_shogi, kinds_decide, officer_adds, put_as}
pub use Rattle.club_changes.proofs.ImportLemmas.{refused_in, repeated_in, under_of_kind}
pub use Rattle.club_changes.proofs.NextRows.{entry_rows_at, first_of_game, moves_had}
pub use Rattle.club_changes.proofs.OutcomeLemmas.{caller_decided, nobody_decided, officer_none, seat_decided, seat_same}
pub use Rattle.club_changes.proofs.PlayedLemmas.{decided_players, seen_by_step, seen_concluded, seen_stood, step_done}
pub use Rattle.club_changes.proofs.PlayedLemmas.{step_legal}
pub use Rattle.club_changes.proofs.PutSame.{◌&◌}
pub use Rattle.club_changes.proofs.PutSame.{AreAtPlaces, gathered_had, gathered_has, ids_agree, ids_same, numbered_had}
pub use Rattle.club_changes.proofs.PutSame.{numbered_has, numbered_length, numbered_places, one_line, take_next}
pub use Rattle.club_changes.proofs.ReadRows.{all_read, first_is, first_mapped, member_read, none_mapped, one_more_of}
pub use Rattle.club_changes.proofs.ReadRows.{one_more_read}
pub use Rattle.club_changes.proofs.ReadRows.{placed, row_at_place, score_first}
pub use Rattle.club_changes.proofs.RuledClub.{other_ruled, stored_ruled, unknown_ruled}
pub use Rattle.club_changes.proofs.SweptTables.{member_refused}
pub use Rattle.club_changes.proofs.PlacedIds.{drop_next, number_same, numbered_at, pos_same}
