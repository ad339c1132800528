use Rattle.std.proofs.Common.{◌≡◌, ℕ, List, length, true, true≢false, sym, ◌∙◌, subst, subst₂, arith}
use Rattle.std.specs.Prelude.{string_bytes}
use Rattle.std.specs.Option.{option_map}
use Rattle.store_tables.specs.declared.rows.RulingRow.{RulingRow}
use Rattle.club_rows.specs.LegalRows.{StartsAs}
use Rattle.club_rows.specs.internal.Columns.{columns_in}
use Rattle.club_rows.specs.internal.Replay.{IsCounted, IsReplayed, WasReplayed, terms_given}
use Rattle.club_rows.specs.internal.Ruled.{are_legal}
use Rattle.club_rows.specs.internal.Rulings.{AreRead, rulings_given}
use Rattle.club_rows.proofs.ColumnLemmas.{cells-told, none-read, same-pos}
use Rattle.club_rows.proofs.GrantLemmas.{increment-most}
use Rattle.club_rows.proofs.LegalRowsLemmas.{WasViewed, shown-complete, shown-sound, told-wrong}
use Rattle.club_rows.proofs.RightRows.{moves-none, moves-right, moves-wrong, read-possible, rows-tested, rulings-right}
use Rattle.club_rows.proofs.RightRows.{rulings-tested}
use Rattle.club_rows.proofs.view.view_from.Given as given
use Rattle.club_rows.proofs.view.view_from.Goals as goal

-- ---- what the replay gives

pub viewed-requires-clause-increment : goal.viewed-requires-clause-increment
viewed-requires-clause-increment g c = increment-most _ (rw c.in-Some.is at c.in_ok-game.ensures.terms).1

pub viewed-requires-clause-plies : goal.viewed-requires-clause-plies
viewed-requires-clause-plies g c =
    let safe = rw c.in-Some.is at c.in_ok-game.ensures.safe in
    let short = rw c.in-Some.is at c.in_ok-game.ensures.short in
    omega (arith, safe.plies_are, short)

pub viewed-requires-clause-game : goal.viewed-requires-clause-game
viewed-requires-clause-game g c =
    let safe = rw c.in-Some.is at c.in_ok-game.ensures.safe in
    subst (λ (n : ℕ). IsReplayed g.R.Rules.rules n c.in-Some.game) (sym safe.plies_are) safe

-- ---- moves that are no game's

pub returns-in-None-clause-complete : goal.returns-in-None-clause-complete
returns-in-None-clause-complete g c = λ rulings are id game is.
    let opening = c.args.opening in
    let opens : StartsAs c.args.row.now opening.id opening.start = search c.requires in
    absurd
    (moves-none g.R.Rules.rules (terms_given opening.terms) c.args.row.now c.args.moves.now rulings opening.id
    opening.start opens c.args.read.now are
    (λ other same played. c.in_ok-game.ensures.none c.in-None.is is.budget is.increment other
    (rw c.deref.ensures.value same) played) id game is)

pub returns-in-None-clause-wrong : goal.returns-in-None-clause-wrong
returns-in-None-clause-wrong g c = λ rulings are budget increment.
    let opening = c.args.opening in
    let opens : StartsAs c.args.row.now opening.id opening.start = search c.requires in (
      read-possible g.R.Rules.rules (terms_given opening.terms) c.args.row.now c.args.moves.now rulings opening.id
          opening.start opens c.args.read.now are,
      moves-wrong g.R.Rules.rules (terms_given opening.terms) c.args.row.now c.args.moves.now rulings opening.id
          opening.start opens c.args.read.now are
          (λ other same played. c.in_ok-game.ensures.none c.in-None.is budget increment other
          (rw c.deref.ensures.value same) played),
    )

-- ---- rulings that are wrong beside the moves

pub returns-then-not-are_legal-clause-complete : goal.returns-then-not-are_legal-clause-complete
returns-then-not-are_legal-clause-complete g c = λ rulings are id game is.
    let opening = c.args.opening in
    let opens : StartsAs c.args.row.now opening.id opening.start = search c.requires in
    let was = rw (c.in-Some.is, c.deref.ensures.value) at c.in_ok-game.ensures.some in
    absurd
    (true≢false
    (sym
    (rows-tested g.R.Rules.rules (terms_given opening.terms) c.args.row.now c.args.moves.now rulings opening.id
    opening.start opens c.args.read.now are c.in-Some.game was id game is)
    ∙ (sym c.are_legal.ensures ∙ c.if-not-are_legal.true)))

pub returns-then-not-are_legal-clause-wrong : goal.returns-then-not-are_legal-clause-wrong
returns-then-not-are_legal-clause-wrong g c = λ rulings are budget increment.
    let opening = c.args.opening in
    let opens : StartsAs c.args.row.now opening.id opening.start = search c.requires in
    let was = rw (c.in-Some.is, c.deref.ensures.value) at c.in_ok-game.ensures.some in (
      λ possible. moves-right g.R.Rules.rules (terms_given opening.terms) c.args.row.now c.args.moves.now rulings
          opening.id opening.start opens c.args.read.now are c.in-Some.game was,
      λ right. true≢false
          (sym
          (rulings-tested g.R.Rules.rules (terms_given opening.terms) c.args.row.now c.args.moves.now rulings opening.id
          opening.start opens c.args.read.now are c.in-Some.game was right)
          ∙ (sym c.are_legal.ensures ∙ c.if-not-are_legal.true)),
    )

-- ---- a row that is no game's

pub returns-in-None-stored_game-clause-complete : goal.returns-in-None-stored_game-clause-complete
returns-in-None-stored_game-clause-complete g c = λ rulings are id game is.
    absurd
    (none-read g.R.Rules.rules (terms_given c.args.opening.terms) id game c.args.row.now (assumption)
    g.met.R.Rules.numbers_are_few c.in-None-stored_game.ensures)

pub returns-in-None-stored_game-clause-wrong : goal.returns-in-None-stored_game-clause-wrong
returns-in-None-stored_game-clause-wrong g c = λ rulings are budget increment.
    let opening = c.args.opening in
    let opens : StartsAs c.args.row.now opening.id opening.start = search c.requires in
    let was = rw (c.in-Some.is, c.deref.ensures.value) at c.in_ok-game.ensures.some in (
      moves-right g.R.Rules.rules (terms_given opening.terms) c.args.row.now c.args.moves.now rulings
          opening.id opening.start opens c.args.read.now are c.in-Some.game was,
      rulings-right g.R.Rules.rules (terms_given opening.terms) c.args.row.now c.args.moves.now rulings opening.id
          opening.start opens c.args.read.now are c.in-Some.game was
          (sym c.are_legal.ensures ∙ c.if-not-are_legal.false),
      λ id game is. none-read g.R.Rules.rules (terms_given opening.terms) id game c.args.row.now (assumption)
          g.met.R.Rules.numbers_are_few c.in-None-stored_game.ensures,
    )

-- ---- what is shown of a game that was replayed

known : (g : given.Over) (c : goal.After-stands g) (rulings : List RulingRow)
    → AreRead c.args.opening.id rulings c.args.read.now
    → WasViewed g.R.Rules.rules (terms_given c.args.opening.terms) c.args.row.now c.args.moves.now rulings
    c.args.read.now (columns_in c.in-Some-stored_game.stored) c.in-Some.game c.in_ok-played.played
known g c rulings are =
    let opening = c.args.opening in
    let columns = columns_in c.in-Some-stored_game.stored in
    let limits = rw c.in-Some.is at c.in_ok-game.ensures.terms in
    let safe = rw c.in-Some.is at c.in_ok-game.ensures.safe in
    let counted : IsCounted g.R.Rules.rules c.in-Some.game = safe.counted in
    let told = cells-told c.args.row.now columns c.in-Some-stored_game.ensures.0 in
    let id_same : opening.id ≡ columns.id = same-pos _ _ (sym c.requires.id ∙ told.id) in
    let start_same : opening.start ≡ columns.start = same-pos _ _ (sym c.requires.start ∙ told.start) in
    let (outside, named, shows) = c.in_ok-played.ensures.shows in
    record {
      read = c.in-Some-stored_game.ensures.0;
      are = subst (λ i. AreRead i rulings c.args.read.now) id_same are;
      legal = subst (λ s. are_legal g.R.Rules.rules c.args.read.now c.in-Some.game s c.args.moves.now
          (option_map (λ s. string_bytes s) c.args.row.now.end) ≡ true) start_same
          (sym c.are_legal.ensures ∙ c.if-not-are_legal.false);
      budget = limits.0;
      increment = limits.1;
      fit = c.in-Some-stored_game.ensures.1;
      was = subst₂ (λ i s. WasReplayed g.R.Rules.rules (terms_given opening.terms) i
          (rulings_given c.args.read.now.given.items) s c.args.moves.now (length c.args.moves.now) c.in-Some.game)
          id_same start_same (rw (c.in-Some.is, c.deref.ensures.value) at c.in_ok-game.ensures.some);
      outside = outside;
      named = named;
      shows = shows;
      terms_are = c.in_ok-played.ensures.terms;
      sound = c.in_ok-played.ensures.sound;
      line = c.in_ok-played.ensures.line;
      tally = rw (← c.in_ok-played.ensures.tally) at counted.tally;
    }

pub returns-clause-sound : goal.returns-clause-sound
returns-clause-sound g c = λ rulings are. shown-sound (known g c rulings are) c.stands.result c.stands.ensures

pub returns-clause-complete : goal.returns-clause-complete
returns-clause-complete g c = λ rulings are id game is.
    shown-complete (known g c rulings are) id game is c.stands.result c.stands.ensures

pub returns-clause-wrong : goal.returns-clause-wrong
returns-clause-wrong g c = λ rulings are budget increment.
    told-wrong (known g c rulings are) c.stands.result c.stands.ensures
