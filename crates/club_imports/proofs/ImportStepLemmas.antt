-- An import is repeated, refused or added in this order; and what is read is a game by the rules.
use Rattle.std.proofs.Common.{◌≡◌, ℕ, Bool, List, Option, Some, None, sym, subst, refl}
use Rattle.club_rules.specs.GameRules.{GameRules}
use Rattle.club_rules.specs.Records as record_is
use Rattle.club_rules.specs.Records.{Reading, GameRecords, ReadsGames}
use Rattle.club_requests.specs.declared.refusals.Refusal.{Refusal}
use Rattle.club_core.specs.Game.{Game}
use Rattle.club_core.specs.Imports.{Import, Imported, reading_of_import, repeat_of_import, import_refusal, read_in}
use Rattle.club_core.specs.Imports.{import_between, import_step}
use Rattle.club_requests.specs.Outcome.{Reply, Outcome, repeated, refused, unless, unless_repeat}
use Rattle.club_core.specs.declared.seats.KeyedGame.{KeyedGame}
use Rattle.club_imports.specs.internal.Importing.{IsByRules}

-- the order, over plain outcomes
repeats-first : {S : Type 0} (repeat : Option Reply) (x : Outcome S) (reply : Reply) → Some reply ≡ repeat
    → repeated reply ≡ unless_repeat repeat x
repeats-first repeat x reply is = subst (λ o. repeated reply ≡ unless_repeat o x) is refl

refuses-next : {S : Type 0} (repeat : Option Reply) (refusal : Option Refusal) (x : Outcome S) (why : Refusal)
    → None ≡ repeat → Some why ≡ refusal → refused why ≡ unless_repeat repeat (unless refusal x)
refuses-next repeat refusal x why fresh is =
    subst (λ o. refused why ≡ unless_repeat o (unless refusal x)) fresh (subst (λ o. refused why ≡ unless o x) is refl)

adds-last : {S : Type 0} (repeat : Option Reply) (refusal : Option Refusal) (x o : Outcome S) → None ≡ repeat
    → None ≡ refusal → o ≡ x → o ≡ unless_repeat repeat (unless refusal x)
adds-last repeat refusal x o fresh allowed is =
    subst (λ r. o ≡ unless_repeat r (unless refusal x)) fresh (subst (λ r. o ≡ unless r x) allowed is)

module _ {P M E T : Type 0} (rules : GameRules P M E T) (records : GameRecords M) where
  module _ (given : Import) (event : ℕ) (first second : Option ℕ) (under_key : Option KeyedGame) (old : Option (Game M))
      (games : ℕ) (declares : Bool) where
    pub step-repeats : (reply : Reply) → Some reply ≡ repeat_of_import rules records given event first second under_key
        old games → repeated reply ≡ import_step rules records given event first second under_key old games declares
    step-repeats reply is = repeats-first _ _ reply is

    pub step-refuses : (why : Refusal) → None ≡ repeat_of_import rules records given event first second under_key old
        games → Some why ≡ import_refusal rules records given event first second under_key old games
        → refused why ≡ import_step rules records given event first second under_key old games declares
    step-refuses why fresh is = refuses-next _ _ _ why fresh is

    pub step-adds : (o : Outcome (Imported M)) (read : Reading M)
        → None ≡ repeat_of_import rules records given event first second under_key old games
        → None ≡ import_refusal rules records given event first second under_key old games
        → read ≡ reading_of_import rules records given
        → o ≡ import_between event first second games (read_in records.format declares read)
        → o ≡ import_step rules records given event first second under_key old games declares
    step-adds o read fresh allowed same is =
        adds-last _ _ _ o fresh allowed
        (subst (λ r. o ≡ import_between event first second games (read_in records.format declares r)) same is)

  pub read-by-rules : ReadsGames rules records → (text : List ℕ) (part : ℕ) (read : Reading M)
      → read ≡ records.read text part → IsByRules rules read
  read-by-rules reads text part (record_is.game r) is = reads text part r (sym is)
  read-by-rules reads text part record_is.no_part is = tt
  read-by-rules reads text part (record_is.refused refusal) is = tt
