use Rattle.std.proofs.Common.{Ok, Err, arith}
use Rattle.http_head.specs.internal.HeadViews.{outline_view}
use Rattle.http_head.proofs.RequestLemmas.{is_head_alone, none_found, end_found}
use Rattle.http_head.proofs.IntakeLemmas.{from_start, scan_goes_on, long_is_decided, is_decided, is_body}
use Rattle.http_head.proofs.intake.RequestReader.look.Goals as goal

pub read_head-requires : goal.read_head-requires
read_head-requires c =
    is_head_alone c.args.bytes.now c.min-limit.ensures
    (from_start c.requires c.min-limit.ensures c.in-Some.ensures.found)

pub returns-in-None-clause-still : goal.returns-in-None-clause-still
returns-in-None-clause-still c =
    scan_goes_on c.args.bytes.now c.args.scan c.go_on.new.self c.min-limit.result c.requires c.min-limit.ensures
    c.in-None.ensures.more c.in-None.ensures.at c.in-None.ensures.still_sane

pub returns-in-None-clause-enough : goal.returns-in-None-clause-enough
returns-in-None-clause-enough c = λ long.
    long_is_decided c.args.bytes.now
    (none_found c.args.bytes.now c.min-limit.ensures
    (from_start c.requires c.min-limit.ensures c.in-None.ensures.more)) (grind arith)

pub returns-in-Err-clause-still : goal.returns-in-Err-clause-still
returns-in-Err-clause-still c =
    let end = end_found c.args.bytes.now c.min-limit.ensures
    (from_start c.requires c.min-limit.ensures c.in-Some.ensures.found) in
    is_body c.args.bytes.now _ _ (Err c.in-Err.field-0) end c.in-Err.ensures

pub returns-in-Err-clause-enough : goal.returns-in-Err-clause-enough
returns-in-Err-clause-enough c = λ test.
    let end = end_found c.args.bytes.now c.min-limit.ensures
    (from_start c.requires c.min-limit.ensures c.in-Some.ensures.found) in
    is_decided c.args.bytes.now _ _ (Err c.in-Err.field-0) end c.in-Err.ensures (omega arith)

pub returns-in-Ok-clause-still : goal.returns-in-Ok-clause-still
returns-in-Ok-clause-still c =
    let end = end_found c.args.bytes.now c.min-limit.ensures
    (from_start c.requires c.min-limit.ensures c.in-Some.ensures.found) in
    is_body c.args.bytes.now _ _ (Ok (outline_view c.in-Ok.outline)) end c.in-Ok.ensures

pub returns-in-Ok-clause-enough : goal.returns-in-Ok-clause-enough
returns-in-Ok-clause-enough c = λ test.
    let end = end_found c.args.bytes.now c.min-limit.ensures
    (from_start c.requires c.min-limit.ensures c.in-Some.ensures.found) in
    is_decided c.args.bytes.now _ _ (Ok (outline_view c.in-Ok.outline)) end c.in-Ok.ensures (grind arith)
