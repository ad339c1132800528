-- The records of an event as they are written, one after another.
use Rattle.std.proofs.Common.{◌≡◌, ◌⊎◌, ℕ, ◌+◌, ◌<◌, List, [], ◌∷◌, ◌++◌, length, take, get_or, Bool, true, false}
use Rattle.std.proofs.Common.{refl, ap, sym, ◌∙◌, append_assoc, append-nil, Option, Some, None, inl, inr, arith}
use Rattle.std.specs.Io.KnownBytes.{Appends}
use Rattle.std.proofs.KnownBytes.{Appends-trans}
use Rattle.std.proofs.lemmas.List.{take_all, take_more}
use Rattle.record_writer.specs.Pieces.{AppendsSome}
use Rattle.club_requests.specs.declared.refusals.Refusal.{Refusal}
use Rattle.club_rules.specs.declared.names.GameKind.{GameKind}
use Rattle.club_core.specs.State.{draughts, shogi}
use Rattle.club_rows.specs.Club.{ClubState}
use Rattle.club_answers.specs.internal.Exported.{IsExported, IsWrittenSome}
use Rattle.club_requests.specs.declared.questions.Question.{Question}
use Rattle.club_requests.specs.declared.questions.Question.TheVariants.{EventRecords}
use Rattle.club_answers.specs.AnswerTexts.{BeginsShown, HasWrittenAnswer, HasShownSome, IsText}
use Rattle.club_answers.specs.EventRecords.{AreRecords, BeginsRecords, opening, parting}
use Rattle.club_answers.specs.internal.Found.{AsksRecords}
use Rattle.club_answers.specs.Records.{IsRecordAt}
use Rattle.club_answers.specs.internal.Writing.{AddsRecord, BeginsRecord, HasRecords}

-- ---- beginnings

some_wider : (before now : Option (List ℕ)) (text more : List ℕ) → AppendsSome before now text
    → AppendsSome before now (text ++ more)
some_wider before now text more some = record {
  done = some.done;
  left = some.left ++ more;
  parts = sym (append_assoc some.done some.left more) ∙ ap (λ t. t ++ more) some.parts;
  appended = some.appended;
}

some_after : (before mid now : Option (List ℕ)) (text more : List ℕ) → Appends before mid text
    → AppendsSome mid now more → AppendsSome before now (text ++ more)
some_after before mid now text more first some = record {
  done = text ++ some.done;
  left = some.left;
  parts = append_assoc text some.done some.left ∙ ap (λ t. text ++ t) some.parts;
  appended = Appends-trans before mid now text some.done first some.appended;
}

all_of : (before now : Option (List ℕ)) (text : List ℕ) → Appends before now text → AppendsSome before now text
all_of before now text added = record { done = text; left = []; parts = append-nil text; appended = added }

-- ---- one record more

-- whether the next of these is the first of all
abbrev pub opens : Bool → List ℕ → Bool
opens is_first [] = is_first
opens is_first (x ∷ xs) = false

opens_later : (ids : List ℕ) → opens false ids ≡ false
opens_later [] = refl
opens_later (x ∷ ids) = refl

opens_no_more : (ids : List ℕ) (id : ℕ) → opens true (ids ++ id ∷ []) ≡ false
opens_no_more [] id = refl
opens_no_more (x ∷ ids) id = refl

pub not_first : (ids : List ℕ) (k : ℕ) → k < length ids → false ≡ opens true (take (k + 1) ids)
not_first ids k within = rw (take_more ids k 0 within) (sym (opens_no_more (take k ids) (get_or ids k 0)))

-- ---- a record behind a text

-- the record of the game of this number
pub record_added : (s : ClubState) (id : ℕ) (before now : Option (List ℕ)) → IsExported s id true before now
    → (text : List ℕ) × IsRecordAt s id text × Appends before now text
record_added s id before now (draughts game, at, names, named, (title, its, (text, is, added))) =
    (text, (draughts game, at, names, named, (title, its, is)), added)
record_added s id before now (shogi game, at, names, named, (title, its, (text, is, added))) =
    (text, (shogi game, at, names, named, (title, its, is)), added)

-- a beginning of it
pub record_begun : (s : ClubState) (id : ℕ) (before now : Option (List ℕ)) → IsWrittenSome s id before now
    → (now ≡ before) ⊎ ((text : List ℕ) × IsRecordAt s id text × AppendsSome before now text)
record_begun s id before now (inl same) = inl same
record_begun s id before now (inr (draughts game, at, names, named, (title, its, (text, is, some)))) =
    inr (text, (draughts game, at, names, named, (title, its, is)), some)
record_begun s id before now (inr (shogi game, at, names, named, (title, its, (text, is, some)))) =
    inr (text, (shogi game, at, names, named, (title, its, is)), some)

module _ (s : ClubState) (id : ℕ) (front : List ℕ) (before mid now : Option (List ℕ)) (first : Appends before mid front)
  where
    pub behind_added : {asked : ℕ} {found : Bool} → asked ≡ id → found ≡ true → IsExported s asked found mid now
        → AddsRecord s id front before now
    behind_added same there exported =
        let (text, is, added) = record_added s id mid now (rw (same, there) at exported) in
        (text, is, Appends-trans before mid now front text first added)

    behind : (now ≡ mid) ⊎ ((text : List ℕ) × IsRecordAt s id text × AppendsSome mid now text)
        → BeginsRecord s id front before now
    behind (inl same) = inl (rw same (all_of before mid front first))
    behind (inr (text, is, some)) = inr (text, is, some_after before mid now front text first some)

    pub behind_begun : {asked : ℕ} → asked ≡ id → IsWrittenSome s asked mid now → BeginsRecord s id front before now
    behind_begun same written = behind (record_begun s id mid now (rw same at written))

-- ---- the records of an event

module _ (s : ClubState) (kind : GameKind) where
  one_more : (is_first : Bool) (ids : List ℕ) (id : ℕ) (text its : List ℕ) → AreRecords s kind is_first ids text
      → IsRecordAt s id its
      → AreRecords s kind is_first (ids ++ id ∷ []) (text ++ (opening (opens is_first ids) kind ++ its))
  one_more is_first [] id text its are at = (its, [], at, refl, rw (are, append-nil its) refl)
  one_more is_first (x ∷ ids) id text its (one, rest, at_one, are, is) at = (
    one,
    rest ++ (parting kind ++ its),
    at_one,
    rw (opens_later ids) at (one_more false ids id rest its are at),
    rw is (simp append_assoc),
  )

  -- what parts it, if anything, is within what parts a record from the next
  front_within : (is_first : Bool) (before now : Option (List ℕ)) (text : List ℕ)
      → AppendsSome before now (text ++ opening is_first kind) → AppendsSome before now (text ++ parting kind)
  front_within true before now text some =
      some_wider before now text (parting kind) (rw (append-nil text) at some)
  front_within false before now text some = some

  module _ (ids : List ℕ) (k d : ℕ) (is_first : Bool) (front : List ℕ) (before mid now : Option (List ℕ))
      (within : k < length ids) (first : is_first ≡ opens true (take k ids))
      (front_is : front ≡ opening is_first kind) where
    abbrev id : ℕ
    id = get_or ids k d

    more_records : (text its : List ℕ) → AreRecords s kind true (take k ids) text → IsRecordAt s id its
        → AreRecords s kind true (take (k + 1) ids) (text ++ (front ++ its))
    more_records text its are at =
        rw (take_more ids k d within, front_is, first) (one_more true (take k ids) id text its are at)

    pub more_written : HasRecords s kind (take k ids) None before mid → AddsRecord s (get_or ids k d) front mid now
        → HasRecords s kind (take (k + 1) ids) None before now
    more_written (text, are, added) (its, at, more) =
        let appended = Appends-trans before mid now text (front ++ its) added more in
        (text ++ (front ++ its), more_records text its are at, appended)

    pub more_begun : HasRecords s kind (take k ids) None before mid → BeginsRecord s (get_or ids k d) front mid now
        → BeginsRecords s kind ids before now
    more_begun (text, are, added) (inl some) = (
      k,
      text,
      are,
      front_within is_first before now text (rw front_is at (some_after before mid now text front added some)),
    )
    more_begun (text, are, added) (inr (its, at, some)) = (
      k + 1,
      text ++ (front ++ its),
      more_records text its are at,
      some_wider before now (text ++ (front ++ its)) (parting kind)
          (some_after before mid now text (front ++ its) added some),
    )

  -- the first so many are a beginning
  pub so_far : (ids : List ℕ) (k : ℕ) (before now : Option (List ℕ)) → HasRecords s kind (take k ids) None before now
      → BeginsRecords s kind ids before now
  so_far ids k before now (text, are, added) =
      (k, text, are, some_wider before now text (parting kind) (all_of before now text added))

  -- and so is a beginning of all
  pub records_begun : (ids text : List ℕ) (before now : Option (List ℕ)) → AreRecords s kind true ids text
      → AppendsSome before now text → BeginsRecords s kind ids before now
  records_begun ids text before now are some = (
    length ids,
    text,
    rw (take_all (length ids) ids (omega arith)) are,
    some_wider before now text (parting kind) some,
  )

-- ---- what is shown

-- a beginning of a text that is shown
pub text_begun : (s : ClubState) (moment : ℕ) (question : Question) (text : List ℕ) (before now : Option (List ℕ))
    → IsText s moment question text → AppendsSome before now text → BeginsShown s moment question before now
text_begun s moment (EventRecords name) text before now (there, are) some =
    (there, records_begun s _ _ text before now are some)
text_begun s moment question text before now is some = (text, is, some)

module _ (s : ClubState) (moment : ℕ) (asked : Question) (kind : GameKind) (ids given : List ℕ)
    (asks : AsksRecords s asked kind ids) (same : given ≡ ids) (before now : Option (List ℕ)) where
  pub records_shown : (refusal : Option Refusal) → HasRecords s kind given refusal before now
      → HasWrittenAnswer s moment asked refusal before now
  records_shown None (text, are, added) =
      rw asks.asked_is (text, (asks.there, rw (asks.kind_is, same ∙ asks.ids_are) at are), added)
  records_shown (Some refusal) none = absurd none

  pub some_records_shown : BeginsRecords s kind given before now → HasShownSome s moment asked before now
  some_records_shown begun =
      rw asks.asked_is (inr (asks.there, rw (asks.kind_is, same ∙ asks.ids_are) at begun))
