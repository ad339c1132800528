use Rattle.std.proofs.Common.{arith}
use Rattle.sqlite.specs.State.{HasCleanDisk}
use Rattle.sqlite.specs.Files.{file_state}
use Rattle.sqlite_trees.proofs.Doubt.{no_doubt}
use Rattle.club_session.proofs.copying.copy_into.Goals as goal

pub returns-in-Copied-clause-copied : goal.returns-in-Copied-clause-copied
returns-in-Copied-clause-copied g c clean void serves content at =
    c.finish.ensures.whole c.args.version content (λ sure.
    let before : HasCleanDisk (file_state c.in-Ok.copy) = omega (arith, c.back_up.ensures.clean, sure) in
    let opened = c.in-Ok.ensures.opened before in
    let here = c.in-Ok.ensures.found before in
    let nothing = c.opened_empty_holds.ensures opened.0 opened.1
    (void _ (record { holds = here.holds; reads = here.reads })) in
    c.back_up.ensures.copied clean sure c.in-Copied.is serves content at nothing)

pub returns-in-Copied-clause-after_crash : goal.returns-in-Copied-clause-after_crash
returns-in-Copied-clause-after_crash g c clean void serves content at =
    c.finish.ensures.after_crash c.args.version content (λ sure.
    let before : HasCleanDisk (file_state c.in-Ok.copy) = omega (arith, c.back_up.ensures.clean, sure) in
    let opened = c.in-Ok.ensures.opened before in
    let here = c.in-Ok.ensures.found before in
    let nothing = c.opened_empty_holds.ensures opened.0 opened.1
    (void _ (record { holds = here.holds; reads = here.reads })) in
    c.back_up.ensures.copied clean sure c.in-Copied.is serves content at nothing)

pub returns-in_default : goal.returns-in_default
returns-in_default g c = record {
  reads = c.back_up.ensures.reads;
  possible_faults = c.back_up.ensures.possible_faults;
  copied = λ clean void serves content at is sure. c.in_default.not-Copied is;
  after_crash = λ clean void serves content at clear db may.
      let quiet = c.into_store.ensures.quiet in
      let sure : HasCleanDisk (file_state c.back_up.new.copy) = omega (arith, quiet.clean, no_doubt _ clear) in
      let before : HasCleanDisk (file_state c.in-Ok.copy) = omega (arith, c.back_up.ensures.clean, sure) in
      let opened = c.in-Ok.ensures.opened before in
      let here = c.in-Ok.ensures.found before in
      let nothing = c.opened_empty_holds.ensures opened.0 opened.1
      (void _ (record { holds = here.holds; reads = here.reads })) in
      c.back_up.ensures.after_crash clean sure serves content at nothing db (quiet.outcomes db may);
}
