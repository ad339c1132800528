use Rattle.std.proofs.Common.{◌≡◌, ◌∙◌, IsTrue, sym, subst}
use Rattle.std.proofs.lemmas.Bool.{and_parts}
use Rattle.sqlite_store.specs.Unopened.{files_of}
use Rattle.club_session.proofs.unread.objects_of.Goals as goal

pub read_catalog-requires : goal.read_catalog-requires
read_catalog-requires g c =
    let same : files_of c.in-Ok-with_sums.unopened ≡ (c.args.files.log, c.args.files.db) =
    c.in-Ok-with_sums.ensures.files ∙ c.in-Ok.ensures.files in
    let usable : IsTrue (g.D.Disk.is_usable c.args.files.log) × IsTrue (g.D.Disk.is_usable c.args.files.db) =
    and_parts (g.D.Disk.is_usable c.args.files.log) (g.D.Disk.is_usable c.args.files.db)
    (sym c.may_be_used.ensures ∙ c.if-not-may_be_used.false) in
    subst (λ p. IsTrue (g.D.Disk.is_usable p.0) × IsTrue (g.D.Disk.is_usable p.1)) (sym same) usable
