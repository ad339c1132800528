use Rattle.std.proofs.Common.{Option, ap, ◌∙◌}
use Rattle.std.specs.Option.{option_map}
use Rattle.club_core.specs.declared.rows.Offer.{Offer}
use Rattle.club_core.specs.Game.{clocks_of}
use Rattle.club_answers.specs.Viewed.{named}
use Rattle.club_answers.proofs.ViewedLemmas.{texts_are}
use Rattle.club_answers.proofs.viewed.played_by.Goals as goal

pub returns : goal.returns
returns g c = λ terms id game same legal shows rows.
    let laws = g.R.Rules.rules in
    let row = shows.row in
    let clocks = row.clocks ∙ ap (clocks_of game) same in
    record {
      ply = row.plies;
      left_first = ap (λ k. k.left_first) clocks;
      left_second = ap (λ k. k.left_second) clocks;
      position = row.position;
      moves = c.in_ok-moves.ensures.texts ∙ texts_are laws terms id game c.args.rows.now rows
          c.in_ok-moves.ensures.order;
      offer = c.offering.ensures ∙ ap (λ (o : Option Offer). option_map (λ (x : Offer). x.side) o) row.offer;
      end = c.named.ensures ∙ ap (option_map (named laws)) row.end;
      result = row.result;
    }
