-- What each statement that puts a row does inside a transaction, and what a commit makes of it.
use Rattle.std.proofs.Common.{◌≡◌, ℕ, List, [], ◌∷◌, ◌++◌, refl, sym, subst, ◌∙◌, ap, IsTrue, false}
use Rattle.store_tables.specs.Sql.{Row, Trees, Schema, Database, State}
use Rattle.sqlite.specs.State.{Shows}
use Rattle.sqlite_catalog.specs.Listing.{IsSound}
use Rattle.store_tables.specs.Contents.{Content, Holds, Leaves, IsExactly}
use Rattle.store_tables.specs.internal.Contents.{put_in, put_each}

pub put_each-push : (tree : ℕ) (key : List ℕ) (rows : List Row) (row : Row) (content : Content)
    → put_each tree key (rows ++ row ∷ []) content ≡ put_in tree key row (put_each tree key rows content)
put_each-push tree key [] row content = refl
put_each-push tree key (r ∷ rows) row content = put_each-push tree key rows row (put_in tree key r content)

pub leaves_of : (schema : Schema) (db : Database) (content : Content) → Holds schema db content
    → Leaves schema content db.trees
leaves_of schema db content h = record { sound = subst (λ s. IsSound s db.trees) h.schema h.sound; tables = h.tables }

-- The commit makes the rows of the transaction the content, and all that a crash may leave.
pub commits : (schema : Schema) (content : Content) (last new : State) → Holds schema last.now content
    → Shows last new last.now last.now false
    → ((db : Trees) → IsTrue new.is_open → new.may_leave db → db ≡ new.committed.trees) → IsExactly schema content new
commits schema content last new h shown settled =
    let now : Holds schema new.now content = subst (λ d. Holds schema d content) (sym shown.now_is) h in
    let same : new.committed ≡ new.now = shown.committed_is ∙ sym shown.now_is in
    record {
      is_open = shown.is_open;
      idle = shown.mode;
      now = now;
      committed = same;
      may_leave = λ db left. subst (Leaves schema content)
          (sym (settled db shown.is_open left ∙ ap (λ (d : Database). d.trees) same))
          (leaves_of schema new.now content now);
    }
