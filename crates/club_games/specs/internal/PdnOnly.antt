-- A part of a PDN text has exactly one reading, which is the computed one. No promise of the program rests on these
-- definitions.
use Rattle.std.proofs.Common.{◌≡◌, ℕ, List, Bool, true, false, nat_eq, Ok, Err, refl, sym, ap, ◌∙◌}
use Rattle.std.specs.Prelude.{if◌then◌else◌}
use Rattle.std.proofs.lemmas.Bool.{eqb-true, eq-eqb, false_from_ne_true}
use Rattle.squares.specs.declared.draughts.moves.DMove.{DMove}
use Rattle.club_rules.specs.Records.{Reading, game, no_part, refused}
use Rattle.club_games.specs.internal.PdnComplete.{part-read, part-refused}
use Rattle.club_games.specs.internal.PdnReading.{GameRead, pdn_reading, whole, pdn_part}
use Rattle.club_games.specs.PdnRecord.{IsPdnPart}
use Rattle.club_games.specs.internal.PdnSound.{IsPdnReading, pdn-read}
use Rattle.squares.specs.TheOnly.{TheOnly}

-- ---- the computed reading has the property

whole-is : (text : List ℕ) (part : ℕ) (read : GameRead) → part ≡ 1 → IsPdnReading text read
    → IsPdnPart text part (whole read)
whole-is text part (Ok r) one is = (one, is)
whole-is text part (Err f) one (no_memory, refuses) =
    (one, record { found = f; no_memory = no_memory; refuses = refuses; named = refl })

first-is : (text : List ℕ) (part : ℕ) (first : Bool) → nat_eq part 1 ≡ first
    → IsPdnPart text part (if first then whole (pdn_reading text) else no_part)
first-is text part true is = whole-is text part (pdn_reading text) (eqb-true part 1 is) (pdn-read text)
first-is text part false is = λ one. let never : false ≡ true = sym is ∙ eq-eqb part 1 one in cc

pub part-is : (text : List ℕ) (part : ℕ) → IsPdnPart text part (pdn_part text part)
part-is text part = first-is text part (nat_eq part 1) refl

-- ---- a reading with the property is the computed one

pub part-only : (text : List ℕ) (part : ℕ) (other : Reading DMove) → IsPdnPart text part other
    → other ≡ pdn_part text part
part-only text part (game r) (one, is) =
    ap (λ declared. game (record { moves = r.moves; score = r.score; declared = declared })) is.declared
    ∙ part-read text part r.moves r.score one is.read
part-only text part (refused refusal) (one, is) =
    ap refused is.named ∙ part-refused text part is.found one is.no_memory is.refuses
part-only text part no_part other =
    let first : nat_eq part 1 ≡ false = false_from_ne_true (nat_eq part 1) (λ e. other (eqb-true part 1 e)) in
    sym (ap (λ b. if b then whole (pdn_reading text) else no_part) first)

-- A part of a PDN text is a game, a refusal or no part, and only one of them.
abbrev pub pdn-part : (text : List ℕ) (part : ℕ) → TheOnly (IsPdnPart text part)
pdn-part text part = record { value = pdn_part text part; is = part-is text part; only = part-only text part }
