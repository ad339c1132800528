use Rattle.std.proofs.Common.{◌≡◌, arith, pos, sym, ◌∙◌, true≢false}
use Rattle.std.proofs.lemmas.Int.{ints}
use Rattle.club_rows.specs.internal.Replay.{terms_given}
use Rattle.club_audit.proofs.GamePlaces.{given-last, last-given, late-end, late-game, none-late, own-rows, shown-by}
use Rattle.club_audit.proofs.GamePlaces.{wrong-moves, wrong-row, wrong-rulings, wrong-seen}
use Rattle.club_audit.proofs.game_audit.wrong_of_all.Goals as goal

pub returns-in-WrongMoves : goal.returns-in-WrongMoves
returns-in-WrongMoves g c =
    wrong-moves _ _ _ _ _ _ (c.in_ok-played.ensures.wrong c.requires.budget c.requires.increment) _ _ c.in-WrongMoves.is

pub returns-in-WrongRulings : goal.returns-in-WrongRulings
returns-in-WrongRulings g c =
    wrong-rulings _ _ _ _ _ _ (c.in_ok-played.ensures.wrong c.requires.budget c.requires.increment) _ _
    c.in-WrongRulings.is

pub returns-in-WrongGame : goal.returns-in-WrongGame
returns-in-WrongGame g c =
    wrong-row _ _ _ _ _ _ (c.in_ok-played.ensures.wrong c.requires.budget c.requires.increment) _ _ c.in-WrongGame.is

pub returns-then-not-is_within_given : goal.returns-then-not-is_within_given
returns-then-not-is_within_given g c =
    let shown = shown-by _ _ _ _ _ _ c.in-Game.played c.in-Game.is c.in_ok-played.ensures.sound
    c.in_ok-played.ensures.complete in
    late-game shown c.args.own.now.seen.now c.args.last (λ within.
    true≢false (sym (c.is_within_given.ensures.complete
    (given-last _ _ _ c.new.result c.new.ensures.value within)) ∙ c.if-not-is_within_given.true))

pub returns-then-not-branch : goal.returns-then-not-branch
returns-then-not-branch g c =
    let shown = shown-by _ _ _ _ _ _ c.in-Game.played c.in-Game.is c.in_ok-played.ensures.sound
    c.in_ok-played.ensures.complete in
    let within = last-given _ _ _ c.new.result (c.new.ensures.some.1 (omega arith))
    c.new.ensures.value (c.is_within_given.ensures.sound c.if-not-is_within_given.false) in
    let number : pos c.in-Some.number ≡ c.args.own.now.game.now.id = omega (arith, ints, c.in-Some.ensures.some) in
    wrong-seen shown c.args.own.now.seen.now c.args.last within c.in-Some.number number (λ other is once.
    let yes = c.in_ok-are_seen.ensures.complete (terms_given c.args.terms) other is.legal.plies is.moves once in
    true≢false (sym yes ∙ c.if-not-branch.true))

pub returns-then-not-is_within_given-2 : goal.returns-then-not-is_within_given-2
returns-then-not-is_within_given-2 g c =
    let shown = shown-by _ _ _ _ _ _ c.in-Game.played c.in-Game.is c.in_ok-played.ensures.sound
    c.in_ok-played.ensures.complete in
    let within = last-given _ _ _ c.new.result (c.new.ensures.some.1 (omega arith))
    c.new.ensures.value (c.is_within_given.ensures.sound c.if-not-is_within_given.false) in
    let number : pos c.in-Some.number ≡ c.args.own.now.game.now.id = omega (arith, ints, c.in-Some.ensures.some) in
    let are = own-rows shown c.in-Some.number number in
    late-end shown c.args.own.now.seen.now c.args.last within c.in-Some.number number
    (c.in_ok-are_seen.ensures.sound c.if-not-branch.false (terms_given c.args.terms) shown.game are.legal.plies
    are.moves) (λ given.
    true≢false (sym (c.is_within_given-2.ensures.complete given) ∙ c.if-not-is_within_given-2.true))

pub returns : goal.returns
returns g c =
    let shown = shown-by _ _ _ _ _ _ c.in-Game.played c.in-Game.is c.in_ok-played.ensures.sound
    c.in_ok-played.ensures.complete in
    let within = last-given _ _ _ c.new.result (c.new.ensures.some.1 (omega arith))
    c.new.ensures.value (c.is_within_given.ensures.sound c.if-not-is_within_given.false) in
    let number : pos c.in-Some.number ≡ c.args.own.now.game.now.id = omega (arith, ints, c.in-Some.ensures.some) in
    let are = own-rows shown c.in-Some.number number in
    none-late shown c.args.own.now.seen.now c.args.last within c.in-Some.number number
    (c.in_ok-are_seen.ensures.sound c.if-not-branch.false (terms_given c.args.terms) shown.game are.legal.plies
    are.moves)
    (c.is_within_given-2.ensures.sound c.if-not-is_within_given-2.false)
