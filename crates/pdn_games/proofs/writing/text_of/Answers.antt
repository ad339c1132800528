use Rattle.pdn_games.proofs.writing.text_of.Goals as goal

pub returns : goal.returns
returns c = (c.writes_one_text.ensures c.args.position.now c.args.played.now c.requires).1 _ c.in_ok-text.ensures
