use Rattle.std.proofs.Common.{◌≡◌, ◌++◌, ◌∷◌, [], ap, sym, ◌∙◌, rules}
use Rattle.club_rules.specs.Line.{position_after}
use Rattle.club_rules.proofs.Proved.{IsPlayedLine-append, position_after-append}
use Rattle.club_analysis.proofs.tried.with_move.Goals as goal

pub returns-clause-is_line : goal.returns-clause-is_line
returns-clause-is_line g c =
    let laws = g.R.Rules.rules in
    let line = c.args.line in
    let grown : c.push.new.self.items ≡ line.moves.items ++ c.args.made ∷ [] = search rules in
    let here = c.requires.line.last in
    record {
      played = rw grown (IsPlayedLine-append laws line.start line.moves.items c.args.made c.requires.line.played
          c.requires.running (rw here at c.requires.legal));
      last = c.play-last.ensures ∙ ap (λ p. laws.play p c.args.made) here
          ∙ sym (position_after-append laws line.start line.moves.items c.args.made)
          ∙ ap (position_after laws line.start) (sym grown);
    }
