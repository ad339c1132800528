-- An export, entry by entry.
use Rattle.std.proofs.Common.{◌≡◌, ℕ, ◌+◌, ◌-◌, ◌<◌, ◌^◌, List, [], ◌∷◌, ◌++◌, Option, Some, Ok, sym, ◌∙◌, arith}
use Rattle.std.proofs.lemmas.List.{length-append, map-append}
use Rattle.std.proofs.lemmas.Option.{same_Some}
use Rattle.club_rules.specs.GameRules.{GameRules}
use Rattle.club_rules.proofs.Proved.{position_after-append}
use Rattle.club_core.specs.Game.{Entry}
use Rattle.club_exports.specs.Title.{Title, timed}
use Rattle.club_exports.specs.internal.Title.{since_after}
use Rattle.club_exports.specs.internal.Written.{BeginsRecord, BeginsGames, MayFollowLegal}
use Rattle.club_exports.specs.internal.Exported.{IsWritten, IsNextText}
use Rattle.club_exports.specs.declared.export.Export.{Export}
use Rattle.club_exports.proofs.Timed.{timed-append, since-last, timed-made, timed-count}

module _ {R P M E T Rec : Type 0} {rules : GameRules P M E T}
    {HasWritten : Title E → List (M × ℕ) → Option (List ℕ) → Option (List ℕ) → Rec → Type 0} {title : Title E}
    {entries : List (Entry M)} {before held : Option (List ℕ)} {old : Export R Rec P M E T}
    (is : IsWritten rules HasWritten title entries before held old) where
  -- the move that was read of the next text is the next move
  pub made-is : {text : List ℕ} {found : Option M} {m n : M} → IsNextText rules entries text m
      → ((x : M) → rules.check old.position x ≡ Ok tt → text ≡ rules.write_move old.position x → found ≡ Some x)
      → found ≡ Some n → n ≡ m
  made-is {m = m} {n = n} next read found_is =
      same_Some n m (sym found_is ∙ read m (rw is.position next.legal) (rw is.position next.written))

  -- the export stands after the entry that was pushed
  pub push-writes : {new : Export R Rec P M E T} {now : Option (List ℕ)} {m n : M} {seconds moment : ℕ} → n ≡ m
      → seconds ≡ moment - old.since
      → ((title : Title E) (plies : List (M × ℕ)) (before : Option (List ℕ))
      → HasWritten title plies before held old.draft
      → HasWritten title (plies ++ (n, seconds) ∷ []) before now new.draft)
      → new.position ≡ rules.play old.position n → new.since ≡ moment → new.plies ≡ old.plies + 1
      → IsWritten rules HasWritten title (entries ++ record { made = m; moment = moment } ∷ []) before now new
  push-writes {m = m} {moment = moment} same lasted written position since plies =
      let e : Entry M = record { made = m; moment = moment } in
      record {
        written = rw (timed-append title.start entries (e ∷ []))
            (rw (same, lasted, is.since_is) at (written title (timed title.start entries) before is.written));
        position = rw (map-append (λ x. x.made) entries (e ∷ []), position_after-append rules rules.start)
            (rw (same, is.position) at position);
        since_is = since ∙ sym (since-last title.start entries e);
        count = rw (length-append entries (e ∷ [])) (rw is.count at plies);
      }

  -- a move that is legal in the export's position may follow
  pub follows : {m : M} (MayFollow : Rec → M → Type 0) → MayFollowLegal rules HasWritten MayFollow
      → old.plies < 2 ^ 32 → rules.check old.position m ≡ Ok tt → MayFollow old.draft m
  follows {m = m} MayFollow law few legal =
      let count = is.count in
      law title (timed title.start entries) before held old.draft m is.written
      (rw (timed-count title.start entries) (omega (arith, few, count)))
      (rw (timed-made title.start entries) (rw is.position at legal))

  module _ (IsText : Title E → List (M × ℕ) → List ℕ → Type 0) where
    -- what is written begins each game that goes on
    pub entries-begin : BeginsGames IsText HasWritten → (more : List (Entry M))
        → BeginsRecord IsText title (timed title.start (entries ++ more)) before held
    entries-begin law more =
        rw (timed-append title.start entries more)
        (law title (timed title.start entries) (timed (since_after title.start entries) more) before held old.draft
        is.written)

    -- a beginning of the record with the entry that was pushed was written
    pub push-begins : {now : Option (List ℕ)} {m n : M} {seconds : ℕ} (moment : ℕ) (more : List (Entry M)) → n ≡ m
        → seconds ≡ moment - old.since
        → ((title : Title E) (plies more : List (M × ℕ)) (before : Option (List ℕ))
        → HasWritten title plies before held old.draft
        → BeginsRecord IsText title (plies ++ (n, seconds) ∷ more) before now)
        → BeginsRecord IsText title (timed title.start (entries ++ record { made = m; moment = moment } ∷ more)) before
        now
    push-begins moment more same lasted begun =
        rw (timed-append title.start entries)
        (rw (same, lasted, is.since_is)
        at (begun title (timed title.start entries) (timed moment more) before is.written))
