use Rattle.std.proofs.Common.{[], ◌∷◌, ◌++◌, map, true, false, ap, ◌∙◌}
use Rattle.std.specs.Prelude.{string_bytes}
use Rattle.std.proofs.lemmas.List.{map-append}
use Rattle.club_rows.specs.Seen.{times_in, seen_row}
use Rattle.store_tables.specs.Cells.{seen_cells}
use Rattle.club_changes.specs.internal.MoveTexts.{bytes_of}
use Rattle.club_changes.proofs.SeenTexts.{drop-mapped, stood-is, seen-skipped, seen-put}
use Rattle.club_changes.proofs.imported.seen.add_text.Goals as goal

pub returns-then-stands_in : goal.returns-then-stands_in
returns-then-stands_in c =
    let texts = c.args.texts.now in
    let ply = c.args.ply in
    let text = string_bytes c.index-texts-ply.result in
    let here = drop-mapped (λ t. string_bytes t) texts ply c.index-texts-ply.result c.requires c.index-texts-ply.is in
    let stood = stood-is texts ply text _ _ true c.stands_in.ensures c.as_str.ensures.value c.if-stands_in.true in
    seen-skipped c.args.game (bytes_of texts) ply text here (map seen_cells c.args.rows.now.items) stood

pub returns : goal.returns
returns c =
    let texts = c.args.texts.now in
    let ply = c.args.ply in
    let text = string_bytes c.index-texts-ply.result in
    let row = c.in_ok-row.row in
    let here = drop-mapped (λ t. string_bytes t) texts ply c.index-texts-ply.result c.requires c.index-texts-ply.is in
    let stood = stood-is texts ply text _ _ false c.stands_in.ensures c.as_str.ensures.value c.if-stands_in.false in
    let times = c.times_in-times.ensures ∙ ap (times_in (bytes_of texts)) c.as_str-2.ensures.value in
    let row_is = c.in_ok-row.ensures ∙ ap (λ n. seen_row c.args.game text n ply) times in
    let pushed = ap (map seen_cells) c.in_ok-push.ensures.items
    ∙ (map-append seen_cells c.args.rows.now.items (row ∷ [])
    ∙ ap (λ r. map seen_cells c.args.rows.now.items ++ r ∷ []) row_is) in
    seen-put c.args.game (bytes_of texts) ply text here (map seen_cells c.args.rows.now.items)
    (map seen_cells c.push.new.self.items) stood pushed
