-- The result of reading a table of any database.
use Rattle.std.specs.Prelude.{◌≡◌, ◌≤◌, Bool, false, IsTrue}
use Rattle.sqlite.specs.Schema.{Schema}
use Rattle.sqlite.specs.Tree.{Trees}
use Rattle.sqlite.specs.State.{State, HasCleanDisk}
use Rattle.sqlite_trees.specs.View.{doubt}
use Rattle.store_tables.specs.Contents.{Content, IsExactly}

-- a crash leaves only states that it could leave before
abbrev pub KeepsMay : State → State → Type 0
KeepsMay old new = (db : Trees) → new.may_leave db → old.may_leave db

-- If the connection held exactly this content, it still does, for any schema.
abbrev pub KeepsContent : State → State → Type 0
KeepsContent old new = (schema : Schema) (content : Content) → IsExactly schema content old
    → IsExactly schema content new

-- The call only reads, whatever the schema and the result. It stays outside a transaction, and a crash leaves only
-- states that it could leave before.
-- The committed state is the same, and doubt about the disk does not shrink. If the call answered, the connection holds
-- the same content.
pub record Reads (answered : Bool) (old new : State) : Type 0 where
  pub idle : old.in_transaction ≡ false → new.in_transaction ≡ false
  pub clean : doubt old.is_clean ≤ doubt new.is_clean
  pub may : HasCleanDisk new → KeepsMay old new
  pub was_open : HasCleanDisk new → IsTrue new.is_open → IsTrue old.is_open
  pub committed : HasCleanDisk new → IsTrue new.is_open → new.committed ≡ old.committed
  pub kept : IsTrue answered → HasCleanDisk new → KeepsContent old new

-- the same for a call that may have failed
abbrev pub OnlyReads : State → State → Type 0
OnlyReads = Reads false
