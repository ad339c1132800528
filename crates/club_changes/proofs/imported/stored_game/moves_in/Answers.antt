use Rattle.std.proofs.Common.{◌≡◌, ◌+◌, ◌++◌, ℕ, pos, [], ◌∷◌, Ok, inl, inr, length, map, take, ap, sym, subst, ◌∙◌, arith}
use Rattle.std.proofs.lemmas.List.{length-map, length-take-le, map-append, take_more}
use Rattle.sqlite.specs.Order.{column}
use Rattle.sqlite.specs.declared.types.Value.TheVariants.{Int, Text}
use Rattle.club_rules.specs.Line.{position_after}
use Rattle.club_rules.proofs.Proved.{position_after-append}
use Rattle.club_laws.proofs.Proved.{got-append}
use Rattle.club_rows.specs.Tables.{number}
use Rattle.store_tables.specs.Cells.{move_cells}
use Rattle.std.proofs.Math.Seq.{take-length}
use Rattle.club_changes.proofs.PlacedRows.{AreAtPlaces}
use Rattle.club_changes.proofs.StoredLemmas.{HaveTexts, texts-append, texts-line}
use Rattle.club_changes.proofs.imported.stored_game.moves_in.Goals as goal

pub loop-i-preserved : goal.loop-i-preserved
loop-i-preserved g c =
    let laws = g.R.Rules.rules in
    let now = c.loop-i.invariant in
    let i : ℕ = c.loop-i.i in
    let rows = c.args.rows.now in
    let row = c.index-rows-i.result in
    let made = c.in-Some.made in
    let ms = c.loop-i.moves.items in
    let items : c.push.new.self.items ≡ ms ++ made ∷ [] = c.in_ok-push.ensures.items in
    let cells : map move_cells (take (i + 1) rows) ≡ map move_cells (take i rows) ++ move_cells row ∷ [] =
    ap (map move_cells) (take_more rows i row c.loop-i-test.true ∙ ap (λ x. take i rows ++ x ∷ []) (sym c.index-rows-i.is))
    ∙ map-append move_cells (take i rows) (row ∷ []) in
    let legal : laws.check c.loop-i.position made ≡ Ok tt = rw c.in-Some.is at c.in_ok-made.ensures.legal in
    let text : c.as_str.result.now ≡ laws.write_move c.loop-i.position made =
    rw c.in-Some.is at c.in_ok-made.ensures.text in
    let written : column (move_cells row) 2 ≡ Text (laws.write_move (position_after laws laws.start ms) made) =
    ap Text (sym c.as_str.ensures.value ∙ (text ∙ ap (λ p. laws.write_move p made) now.position)) in
    let within = c.loop-i-test.true in
    let count : length (map move_cells (take i rows)) ≡ i =
    length-map (take i rows) move_cells ∙ length-take-le i rows (omega (arith, within)) in
    record {
      position = c.play-position.ensures
          ∙ (ap (λ p. laws.play p made) now.position
          ∙ (sym (position_after-append laws laws.start ms made) ∙ ap (position_after laws laws.start) (sym items)));
      texts = rw (items, cells)
          (texts-append laws laws.start ms (map move_cells (take i rows)) made (move_cells row) now.texts
          (rw now.position at legal) written);
      placed = λ n z at. elim (got-append (map move_cells (take i rows)) (move_cells row) n z (rw cells at at)) [
        | inl old ↦ now.placed n z old
        | inr is ↦
            let here : n ≡ i = is.0 ∙ count in
            subst (λ w. column w 1 ≡ number (1 + n)) is.1
            (ap Int (c.is_next.ensures c.if-not-is_next.false ∙ ap (λ k. pos (1 + k)) (sym here)))
      ];
    }

pub returns : goal.returns
returns g c terms id game line same =
    let laws = g.R.Rules.rules in
    let rows = c.args.rows.now in
    let end : c.loop-i.i ≡ length rows = omega (arith, c.loop-i-test.false, c.loop-i.auto.i-end) in
    let all : take c.loop-i.i rows ≡ rows = ap (λ n. take n rows) end ∙ take-length rows in
    texts-line laws g.met.R.Rules.reads_back terms id game c.loop-i.moves.items rows line
    (subst (λ l. AreAtPlaces 1 (map move_cells l)) all c.loop-i.invariant.placed)
    (subst (λ l. HaveTexts laws laws.start c.loop-i.moves.items (map move_cells l)) all c.loop-i.invariant.texts) same
