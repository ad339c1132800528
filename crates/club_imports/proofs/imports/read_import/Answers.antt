use Rattle.std.proofs.Common.{Ok, Err}
use Rattle.std.specs.Prelude.{IfOk}
use Rattle.club_rules.specs.internal.Records.{reading_of}
use Rattle.club_imports.proofs.ImportStepLemmas.{read-by-rules}
use Rattle.club_imports.proofs.imports.read_import.Goals as goal

pub returns-clause-by_rules : goal.returns-clause-by_rules
returns-clause-by_rules g c =
    if-ok c.read_record.result
    (λ read. read-by-rules g.R.Rules.rules g.R.Records.records g.met.R.Records.reads_games
    c.as_slice-text.result.now c.args.command.now.part (reading_of read)) c.read_record.ensures
  where
    if-ok : {A B : Type 0} {Q W : A → Type 0} (o : Rattle.std.specs.Prelude.Result A B) → ((x : A) → Q x → W x)
        → IfOk o Q → IfOk o W
    if-ok (Ok x) f is = f x is
    if-ok (Err e) f is = tt
