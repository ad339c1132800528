-- What the tables offer to proofs of the crates above, which cite no other module of these proofs.
-- A SELECT only reads, whatever the schema; what it shows of a table, and which rows it finds.
pub use Rattle.store_tables.proofs.QueryLemmas.{select_plain, select_unchanged, select_fails, only_left, only_reads}
pub use Rattle.store_tables.proofs.QueryLemmas.{reads_then, reads_by, only_reading, read_nothing}
pub use Rattle.store_tables.proofs.QueryLemmas.{read_then, read_failed, still_rows}
pub use Rattle.store_tables.proofs.CallLemmas.{clean_before, ended, reads_on, rows_after}
pub use Rattle.store_tables.proofs.ReadLemmas.{unchanged_exactly, has_map}
pub use Rattle.store_tables.proofs.ReadLemmas.{has_mapped, has_turned}
pub use Rattle.store_tables.proofs.TellLemmas.{tells, tells_ids, finds, no_input, all_alike, one_shown}
pub use Rattle.store_tables.proofs.TellLemmas.{ids_of, apart_of, stored_at, no_missing, row_of_whole}
pub use Rattle.store_tables.proofs.PlacedTold.{told_here}
pub use Rattle.store_tables.proofs.PlacedSelects.{is_found, placed_shown, tree_is}
pub use Rattle.store_tables.proofs.PlacedQuestions.{members_by_name_placed, members_by_key_placed}
pub use Rattle.store_tables.proofs.PlacedQuestions.{events_by_name_placed, games_by_key_placed}
pub use Rattle.store_tables.proofs.PlacedQuestions.{challenges_by_number_placed, keys_by_key_placed}
pub use Rattle.store_tables.proofs.PlacedQuestions.{moves_by_ply_placed, seen_by_position_placed, scores_by_pair_placed}
pub use Rattle.store_tables.proofs.PlacedLookups.{challenges_by_other_placed}
-- Contents that are held alike, and tables of which no two rows have one key.
pub use Rattle.store_tables.proofs.SameLemmas.{leaves_same, exactly_same}
pub use Rattle.store_tables.proofs.UpsertLemmas.{same_rowid}
-- Lists of rows in the order of their ids.
pub use Rattle.store_tables.proofs.IdLemmas.{in_order, one_list, places_rise}
pub use Rattle.store_tables.proofs.OrderLemmas.{same_length, got, has_index, sorted_rows}
pub use Rattle.store_tables.proofs.ApartLemmas.{pairs_turned, each_shown}
-- When keys are the same.
pub use Rattle.store_tables.proofs.KeyLemmas.{equal_cmp, equal_ints, equal_from, differ_ints}
-- Rows that are put, in a transaction that is committed.
pub use Rattle.store_tables.proofs.PlacedPuts.{meta_placed, member_placed, event_placed}
pub use Rattle.store_tables.proofs.PlacedPuts.{event_rule_placed, game_placed, challenge_placed}
pub use Rattle.store_tables.proofs.PlacedPuts.{move_placed, seen_placed, score_placed}
pub use Rattle.store_tables.proofs.PlacedPuts.{closing_placed, key_placed, ruling_placed}
pub use Rattle.store_tables.proofs.PlacedUpserts.{put_command, put_plain, puts_meant}
pub use Rattle.store_tables.proofs.PlacedOver.{put_row, steps_then, one_more}
pub use Rattle.store_tables.proofs.StepLemmas.{leaves_of, commits}
pub use Rattle.store_tables.proofs.AlterLemmas.{same_itself, same_by, same_then, put_had, put_kept, altered, unaltered}
pub use Rattle.store_tables.proofs.AlterLemmas.{each_at, tables_altered}
-- Tables that are made.
pub use Rattle.store_tables.proofs.Meanings.{defined, source_of, updates_of}
pub use Rattle.store_tables.proofs.PlacedCreates.{creates_here, stands_already}
pub use Rattle.store_tables.proofs.PlacedMakes.{bare_from, makes_next, makes_no_more}
pub use Rattle.store_tables.proofs.PlacedOver.{at_version, makes_all, fills, room_takes}
pub use Rattle.store_tables.proofs.PlacedSteps.{each_has}
pub use Rattle.store_tables.proofs.MigrationLemmas.{widens}
pub use Rattle.store_tables.proofs.MakeLemmas.{holds_nothing}
-- A club among its neighbours.
pub use Rattle.store_tables.proofs.PlacedTrees.{among_tables, at_place, in_all}
pub use Rattle.store_tables.proofs.OverLemmas.{beside_same, left_same}
pub use Rattle.store_tables.proofs.OverLemmas.{leaves_beside, leaves_no_club, still_beside}
pub use Rattle.store_tables.proofs.OverLemmas.{rows_beside, rows_in, rows_standing, rows_stored, club_held}
pub use Rattle.store_tables.proofs.OverLemmas.{fewer, fewer_rows, served_rows, tables_are}
pub use Rattle.store_tables.proofs.OverLemmas.{cells_are, keeps_moved, trees_here}
pub use Rattle.store_tables.proofs.OverLemmas.{has_first_tables, versions_apart, tables_alone}
pub use Rattle.store_tables.proofs.OverLemmas.{alone_takes, alone_room, beside_alone, alone_exactly}
pub use Rattle.store_tables.proofs.OverLemmas.{left_alone, alone_leaves, stored_alone}
-- Before and after a migration.
pub use Rattle.store_tables.proofs.MigrationLemmas.{leaves_in_version, still_in_version, holds_itself, leaves_itself}
pub use Rattle.store_tables.proofs.MigrationLemmas.{held_itself, left_itself, migrates_itself, tables_before}
pub use Rattle.store_tables.proofs.MigrationLemmas.{alone_in_version, migrates_alone}
-- What every sound database has of what is asked of the tables.
pub use Rattle.store_tables.proofs.PlacedSound.{sound_guarded, sound_stored, unique_at, unique_here}
pub use Rattle.store_tables.proofs.PlacedMissing.{table_missing}
