-- What calls that only read leave, one after another.
use Rattle.std.proofs.Common.{Bool, true, false, refl, arith}
use Rattle.store_tables.specs.Sql.{State, HasCleanDisk}
use Rattle.store_tables.specs.Over.{HasRowsIn}
use Rattle.store_tables.specs.declared.names.Version.{Version}
use Rattle.store_tables.specs.Contents.{Content}
use Rattle.store_tables.specs.Reading.{Reads}
use Rattle.store_tables.proofs.QueryLemmas.{read_failed, read_then, still_rows}

-- where the disk is in no doubt after a call, it was in none before it
pub clean_before : {answered : Bool} {old new : State} → Reads answered old new → HasCleanDisk new → HasCleanDisk old
clean_before reads clean = omega (arith, clean, reads.clean)

-- a call that answered leaves the rows of a club
pub rows_after : {version : Version} {old new : State} → Reads true old new → HasCleanDisk new → (content : Content)
    → HasRowsIn version content old → HasRowsIn version content new
rows_after reads clean = still_rows _ _ (reads.kept refl clean)

-- a call after one that answered
pub reads_on : {answered : Bool} {old mid new : State} → Reads true old mid → Reads answered mid new
    → Reads answered old new
reads_on one two = read_then _ _ _ _ one two

-- a call that answered, whatever was made of its answer
pub ended : (answered : Bool) {old new : State} → Reads true old new → Reads answered old new
ended true reads = reads
ended false reads = read_failed _ _ _ reads
