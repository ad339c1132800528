use Rattle.std.proofs.Common.{◌≡◌, true, rules}
use Rattle.std.specs.Prelude.{string_bytes}
use Rattle.club_orders.specs.Lines.{object_end, object_text}
use Rattle.club_orders.proofs.PrintedLemmas.{begun_first, begun_second, begun_third}
use Rattle.club_orders.proofs.explained.write_object.Goals as goal

pub returns-then-not-write_out : goal.returns-then-not-write_out
returns-then-not-write_out g c =
    let first : object_text c.args.object.now.kind ≡ c.as_bytes.result.now = search rules in
    begun_first _ _ _ _ _ first c.write_out.ensures.beginning

pub returns-then-not-write_out-2 : goal.returns-then-not-write_out-2
returns-then-not-write_out-2 g c =
    let first : object_text c.args.object.now.kind ≡ c.as_bytes.result.now = search rules in
    let wrote : c.write_out.result ≡ true = search rules in
    let second : string_bytes c.args.object.now.name ≡ c.as_bytes-2.result.now = search rules in
    begun_second _ _ _ _ _ _ _ _ first (c.write_out.ensures.whole wrote) second c.write_out-2.ensures.beginning

pub returns : goal.returns
returns g c =
    let first : object_text c.args.object.now.kind ≡ c.as_bytes.result.now = search rules in
    let wrote : c.write_out.result ≡ true = search rules in
    let second : string_bytes c.args.object.now.name ≡ c.as_bytes-2.result.now = search rules in
    let wrote_more : c.write_out-2.result ≡ true = search rules in
    let third : object_end ≡ c.as_bytes-3.result.now = search rules in
    begun_third _ _ _ _ _ _ _ _ _ _ first (c.write_out.ensures.whole wrote) second
    (c.write_out-2.ensures.whole wrote_more) third c.write_out-is_told.ensures.beginning
