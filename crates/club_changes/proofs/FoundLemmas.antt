-- What a command finds in the tables of a club.
use Rattle.std.proofs.Common.{Result, Ok, Err, List, subst}
use Rattle.std.specs.Result.{IfOk, OnOk}
use Rattle.sqlite.specs.Order.{Row}
use Rattle.sqlite.specs.Table.{Table as Definition}
use Rattle.sqlite.specs.Tree.{Trees}
use Rattle.sqlite_rules.specs.Lists.{Has}
use Rattle.store_tables.specs.Content.{Keeps}

-- two lists of the rows of one table
pub moved : (table : Definition) (db : Trees) (xs ys : List Row) → Keeps table db xs → Keeps table db ys → (z : Row)
    → Has xs z → Has ys z
moved table db xs ys one two z h = let r = one.stored z h in subst (Has ys) r.2 (two.only r.0 r.1)

-- what holds of an answer tells what follows from it
pub on_ok : {T E : Type 0} (r : Result T E) (A B : Type 0) → (A → B) → OnOk r A → OnOk r B
on_ok (Ok x) A B f h = f h
on_ok (Err e) A B f h = tt

-- what holds of one answer twice
pub both_ok : {T E : Type 0} (r : Result T E) (P Q : T → Type 0) → IfOk r P → IfOk r Q → IfOk r (λ x. P x × Q x)
both_ok (Ok x) P Q p q = (p, q)
both_ok (Err e) P Q p q = tt
