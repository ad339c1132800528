-- What is built word by word.
use Rattle.std.proofs.Common.{◌≡◌, ap, ap₂, sym, ◌∙◌, ◌&&◌, not, true, false, true≢false, refl, Bool}
use Rattle.clap.specs.Words.{AddsArg, AddsSubcommand, App, Rule, is_simple_and_free, with_rule, with_subcommand}
use Rattle.clap.specs.Simple.{built}
use Rattle.clap.specs.declared.builder.arg.Arg.{Arg}
use Rattle.clap.specs.declared.builder.command.Command.{Command}
use Rattle.clap.proofs.OnLiterals.{clap_on_literals}
use Rattle.cli.specs.App.{Names, club_app, with_sub}
use Rattle.cli.specs.internal.App.{line_app}
use Rattle.cli.specs.internal.Built.{IsApp, IsRule}

pub arg_added : (app : App) (rule : Rule) (old new : Command) (a : Arg) → IsApp app old → IsRule rule a
    → AddsArg old a new → IsApp (with_rule app rule) new
arg_added app rule old new a before word adds = adds.shape word.is_local ∙ ap₂ with_rule before word.is

-- what is plain has no global argument, the third of its tests
not_global : (groups external globals others : Bool) → groups && (not external && (not globals && others)) ≡ true
    → globals ≡ false
not_global false external globals others is = absurd (true≢false (sym is))
not_global true true globals others is = absurd (true≢false (sym is))
not_global true false true others is = absurd (true≢false (sym is))
not_global true false false others is = refl

pub sub_added : (app sub : App) (old new s : Command) → sub.top.is_plain ≡ true → IsApp app old → IsApp sub s
    → AddsSubcommand old s new → IsApp (with_sub app sub) new
sub_added app sub old new s plain before word adds =
    adds.shape (not_global _ _ _ _ (ap (λ (a : App). a.top.is_plain) word ∙ plain))
    ∙ ap₂ with_subcommand before (ap (λ (a : App). a.top) word)

-- the parser gives the matches of the program's words, and the kinds of error
pub club_is_simple : (games : Names) → is_simple_and_free (club_app games) ≡ true
unfolding clap_on_literals
club_is_simple games = refl

pub club_needs_word : (games : Names) → (built (club_app games)).top.subcommand_required ≡ true
club_needs_word games = refl

pub line_is_simple : (games : Names) → is_simple_and_free (line_app games) ≡ true
unfolding clap_on_literals
line_is_simple games = refl

pub line_needs_word : (games : Names) → (built (line_app games)).top.subcommand_required ≡ true
line_needs_word games = refl
