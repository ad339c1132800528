use Rattle.sqlite.proofs.ListingLemmas.{empty_is_sound}
use Rattle.store_files.proofs.EmptyLemmas.{found_empty}
use Rattle.store_files.proofs.new_files_have_no_tables.Goals as goal

pub returns : goal.returns
returns c files nothing found finds =
    record { sound = empty_is_sound found (found_empty files found nothing finds.reads).1 }
