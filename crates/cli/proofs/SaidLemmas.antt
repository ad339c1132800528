-- From the matches of the parser, and from its errors, to what the words say.
use Rattle.std.proofs.Common.{◌≡◌, ◌≢◌, ap, sym, ◌∙◌, subst, ◌&&◌, not, true, false, true≢false, refl}
use Rattle.std.proofs.Common.{Bool, inl, inr, arith}
use Rattle.std.proofs.Common.{List, [], ◌∷◌, length, Option, Some, None, is_some, option_map}
use Rattle.std.proofs.lemmas.Option.{none-some, same_Some}
use Rattle.clap.specs.Kinds.{HasKind, Kinds, check_kinds, or_else}
use Rattle.clap.specs.Facts.{explicit_source}
use Rattle.clap.specs.Faults.{check_fault, defaults_fault, entered_fault, level_fault, settle_fault, walk_fault}
use Rattle.clap.specs.Simple.{Shape, argument_words, built, names_of}
use Rattle.clap.specs.Takes.{is_given}
use Rattle.clap.specs.Walk.{Held, Names, Row, finished, nothing_held, settled, stop_after, walk, walk_from}
use Rattle.std.specs.List.{list_any}
use Rattle.clap.specs.Words.{App, HasMatchesOf, IsAmong, Text, app_of, fault_of, found_of, is_simple_and_free}
use Rattle.clap.specs.Words.{kind_of, subcommand_of}
use Rattle.clap.specs.declared.builder.command.Command.{Command}
use Rattle.clap.specs.declared.error.Error.{Error}
use Rattle.clap.specs.declared.error.kind.ErrorKind.{ErrorKind}
use Rattle.clap.specs.declared.error.kind.ErrorKind.TheVariants.{DisplayVersion, OutOfMemory}
use Rattle.clap.specs.declared.parser.matches.ArgMatches.{ArgMatches}
use Rattle.clap.specs.declared.parser.matches.Found.{Found}
use Rattle.cli.specs.App.{Names as GameNames, are_games}
use Rattle.cli.specs.internal.Asked.{IsTold, IsParserErrorFor}
use Rattle.cli.specs.Said.{AreRefusedBy, AreSaidBy, Finds}
use Rattle.cli.specs.internal.Said.{Enters, FindsNone, IsFound, IsParserErrorOf}
use Rattle.cli.specs.declared.words.BadWords.{BadWords}
use Rattle.cli.specs.declared.words.BadWords.TheVariants as bad

-- the name and the rows of what was entered, told apart
pub entered_at : {B : Type 0} (name_of : B → Text) (rows_in : B → List Row) (o : Option B) (name : Text)
    (rows : List Row) → Some name ≡ option_map name_of o
    → Some rows ≡ option_map (λ (p : Text × List Row). p.1)
    (option_map {U = Text × List Row} (λ b. (name_of b, rows_in b)) o)
    → option_map {U = Text × List Row} (λ b. (name_of b, rows_in b)) o ≡ Some (name, rows)
entered_at name_of rows_in None name rows named told = absurd (none-some _ (sym named))
entered_at name_of rows_in (Some b) name rows named told =
    let n : name_of b ≡ name = same_Some _ _ (sym named) in
    let r : rows_in b ≡ rows = same_Some _ _ (sym told) in
    λ i. Some (n i, r i)

-- what is told for a reason that stands
pub told_for : (why : Type 0) (told : BadWords) → IsTold told → why → IsParserErrorFor why told
told_for why (bad.Text text) is reason = reason
told_for why bad.Memory is reason = tt
told_for why (bad.Version line) is reason = absurd is

pub told_weaker : (why other : Type 0) (told : BadWords) → (why → other) → IsParserErrorFor why told → IsParserErrorFor other told
told_weaker why other (bad.Text text) weaker is = weaker is
told_weaker why other bad.Memory weaker is = is
told_weaker why other (bad.Version line) weaker is = is

some_kind : (k : ErrorKind) (ks : Kinds) → k ∷ ks ≡ [] → ⊥
some_kind k ks is = let lengths = ap length is in omega (arith, lengths)

last_step : (a b : Kinds) → or_else a b ≡ [] → b ≡ []
last_step [] b is = is
last_step (k ∷ ks) b is = absurd (some_kind k ks is)

check_passes : (has help needs missing : Bool) → check_kinds (not has && help) (not has && needs) missing ≡ []
    → needs ≡ true → has ≡ true
check_passes true help needs missing none is = refl
check_passes false true needs missing none is = absurd (some_kind _ _ none)
check_passes false false true missing none is = absurd (some_kind _ _ none)
check_passes false false false missing none is = absurd (true≢false (sym is))

-- a level of the parse that passes has a subcommand, where one has to be there
level_passes : (s : Shape) (names : Names) (h : Held) (words : List Text) (has : Bool) (below : Kinds)
    → level_fault s names h words has below ≡ [] → s.subcommand_required ≡ true → has ≡ true
level_passes s names h words has below passes needs =
    let end : Held = (walk s.rules names h words).held in
    let rows : List Row = finished s.rules end in
    check_passes has (s.arg_required_else_help && not (list_any (λ r. explicit_source r.source) rows))
    s.subcommand_required
    (not (s.subcommand_negates_reqs && has) && list_any (λ a. a.required && not (is_given a.id rows)) s.rules)
    (last_step (defaults_fault (settled s.rules end).rows s.rules) (check_fault s rows has)
    (last_step (settle_fault s.rules s.args_override_self end) _
    (last_step below _ (last_step (walk_fault s names (walk_from h) words) _ passes)))) needs

-- words that pass name a subcommand, where one has to be there
passed_enters : (app : App) (words : List Text) → (built app).top.subcommand_required ≡ true → fault_of app words ≡ []
    → is_some (subcommand_of app words) ≡ true
passed_enters app words needs passes =
    level_passes (built app).top (names_of (built app)) nothing_held (argument_words app words)
    (is_some (subcommand_of app words))
    (entered_fault (built app) (stop_after (built app).top.rules (names_of (built app)) (argument_words app words)))
    passes needs

simple_of : (simple free : Bool) → simple && free ≡ true → simple ≡ true
simple_of true free is = refl
simple_of false free is = absurd (true≢false (sym is))

-- what the matches have, the words have
pub finds : (app : App) (words : List Text) (matches : ArgMatches) (name : Text) (found : Found)
    → is_simple_and_free app ≡ true → HasMatchesOf app words matches → fault_of app words ≡ []
    → Enters matches name found
    → Finds app words (found_of matches) name found
finds app words matches name found simple has passes enters =
    let (before, behind) = has (simple_of _ _ simple) in
    record { passes = passes; before = before; behind = sym behind ∙ enters }

-- what the parser says of a command that is built so
pub passed : (app : App) (club : Command) (words : List Text) (matches : ArgMatches) → app_of club ≡ app
    → is_simple_and_free app ≡ true → HasMatchesOf (app_of club) words matches
    → (is_simple_and_free (app_of club) ≡ true → fault_of (app_of club) words ≡ [])
    → HasMatchesOf app words matches × (fault_of app words ≡ [])
passed app club words matches is simple has passes = (
  subst (λ a. HasMatchesOf a words matches) is has,
  subst (λ a. fault_of a words ≡ []) is (passes (ap is_simple_and_free is ∙ simple)),
)

pub failed : (app : App) (club : Command) (words : List Text) (error : Error) → app_of club ≡ app
    → is_simple_and_free app ≡ true
    → (is_simple_and_free (app_of club) ≡ true → HasKind (fault_of (app_of club) words) error)
    → HasKind (fault_of app words) error
failed app club words error is simple fails =
    subst (λ a. HasKind (fault_of a words) error) is (fails (ap is_simple_and_free is ∙ simple))

-- matches that ask for something
pub said_by : {S : Type 0} (app : GameNames → App) (asks : Found → Text → Found → S → Type 0) (words : List Text)
    (games : GameNames) (matches : ArgMatches) (said : S) → are_games games → is_simple_and_free (app games) ≡ true
    → HasMatchesOf (app games) words matches × (fault_of (app games) words ≡ []) → IsFound asks matches said
    → AreSaidBy app asks words said
said_by app asks words games matches said names simple (has, passes) is =
    record {
      games = games;
      names = names;
      all = found_of matches;
      name = is.name;
      found = is.found;
      finds = finds (app games) words matches is.name is.found simple has passes is.enters;
      asked = is.asked;
    }

pub none_mapped : {X Y : Type 0} (f : X → Y) (o : Option X) → None ≡ option_map f o → o ≡ None
none_mapped f None is = refl
none_mapped f (Some x) is = absurd (none-some _ is)

none_is_some : {X : Type 0} (o : Option X) → is_some o ≡ true → o ≡ None → ⊥
none_is_some None some none = true≢false (sym some)
none_is_some (Some x) some none = none-some _ (sym none)

-- matches that are no order
pub none_said : (app : GameNames → App) (is_none : Found → Text → Found → Type 0) (words : List Text)
    (games : GameNames) (matches : ArgMatches) (told : BadWords) → are_games games → is_simple_and_free (app games) ≡ true
    → (built (app games)).top.subcommand_required ≡ true
    → HasMatchesOf (app games) words matches × (fault_of (app games) words ≡ [])
    → IsParserErrorFor (FindsNone is_none matches) told → AreRefusedBy app is_none words told
none_said app is_none words games matches bad.Memory names simple needs (has, passes) is = tt
none_said app is_none words games matches (bad.Version line) names simple needs (has, passes) is = absurd is
none_said app is_none words games matches (bad.Text text) names simple needs (has, passes) (inl none) =
    absurd (none_is_some _ (passed_enters (app games) words needs passes) (sym (has (simple_of _ _ simple)).1 ∙ none))
none_said app is_none words games matches (bad.Text text) names simple needs (has, passes) (inr is) = (
  games,
  names,
  inr (record {
    all = found_of matches;
    name = is.name;
    found = is.found;
    finds = finds (app games) words matches is.name is.found simple has passes is.enters;
    is = is.is;
  }),
)

among : (kinds : Kinds) (error : Error) → kind_of error ≢ OutOfMemory → HasKind kinds error
    → IsAmong (kind_of error) kinds
among kinds error room (inl memory) = absurd (room memory)
among kinds error room (inr is) = is

not_memory : DisplayVersion ≢ OutOfMemory
not_memory is = cc

-- an error of the parser
pub error_said : (app : GameNames → App) (is_none : Found → Text → Found → Type 0) (words : List Text)
    (games : GameNames) (error : Error) (told : BadWords) → are_games games → HasKind (fault_of (app games) words) error
    → IsParserErrorOf (kind_of error) told → AreRefusedBy app is_none words told
error_said app is_none words games error bad.Memory names has is = tt
error_said app is_none words games error (bad.Version line) names has is =
    let here = among _ error (λ memory. not_memory (sym is ∙ memory)) has in
    (games, names, subst (λ kind. IsAmong kind (fault_of (app games) words)) is here)
error_said app is_none words games error (bad.Text text) names has is =
    (games, names, inl (kind_of error, among _ error is.1 has, is.0))
