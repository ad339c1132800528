-- The lines of games, one after another.
use Rattle.std.proofs.Common.{◌≡◌, ◌≤◌, ℕ, List, [], ◌∷◌, ◌++◌, length, drop, refl, ap, sym, ◌∙◌, subst, append_assoc}
use Rattle.std.proofs.Common.{append-nil, Bool, true, false}
use Rattle.std.specs.Prelude.{if◌then◌else◌}
use Rattle.std.proofs.lemmas.List.{drop_all}
use Rattle.std.specs.Prelude.{string_bytes, Result, Ok, Err, IfOk}
use Rattle.std.specs.declared.alloc.Global.{Global}
use Rattle.std.specs.declared.string.String.{String}
use Rattle.club_core.specs.Events.{Event}
use Rattle.club_core.specs.Members.{Member}
use Rattle.club_requests.specs.declared.questions.Listing.{Listing}
use Rattle.club_lists.specs.declared.game_entry.GameEntry.{GameEntry}
use Rattle.club_lists.specs.Lines.{IsGameState, IsGameLine, game_line, AreGameLines}
use Rattle.club_lists.specs.Listing.{is_listed, listed_games}
use Rattle.club_lists.specs.GameSummary.{GameSummary}
use Rattle.club_lists.specs.internal.SummaryViews.{summary_of, summaries_of}

module _ (members : List Member) (events : List Event) where
  pub line_is : {E : Type 0} (told : GameSummary) (stands : List ℕ) (made : Result (String Global) E)
      → IsGameState members told told.over stands
      → IfOk made (λ line. string_bytes line ≡ game_line members events told stands)
      → IfOk made (λ line. IsGameLine members events told (string_bytes line))
  line_is told stands (Ok line) stood is = (stands, stood, is)
  line_is told stands (Err e) stood is = is

  module _ (listing : Listing) (moment : ℕ) where
    abbrev pub listed : List GameEntry → List GameSummary
    listed games = listed_games members events listing moment (summaries_of games)

    -- what is to come, put behind what is there, makes the whole
    abbrev pub Ahead : List GameEntry → List GameEntry → List ℕ → Type 0
    Ahead games left text = (rest : List ℕ) → AreGameLines members events (listed left) rest
        → AreGameLines members events (listed games) (text ++ rest)

    -- the games behind one, with it or without it
    abbrev with_first : Bool → GameEntry → List GameEntry → List GameSummary
    with_first b game next = if b then summary_of game ∷ listed next else listed next

    pub ahead_more : (games left next : List GameEntry) (game : GameEntry) (text line after : List ℕ)
        → left ≡ game ∷ next → is_listed members events listing moment (summary_of game) ≡ true
        → IsGameLine members events (summary_of game) line → after ≡ text ++ line → Ahead games left text
        → Ahead games next after
    ahead_more games left next game text line after at passes is grown ahead rest come =
        let first = subst (λ b. AreGameLines members events (with_first b game next) (line ++ rest)) (sym passes)
        (line, rest, is, come, refl) in
        let here = subst (λ l. AreGameLines members events (listed l) (line ++ rest)) (sym at) first in
        subst (AreGameLines members events (listed games))
        (sym (append_assoc text line rest) ∙ ap (λ t. t ++ rest) (sym grown))
        (ahead (line ++ rest) here)

    pub ahead_same : (games left next : List GameEntry) (game : GameEntry) (text : List ℕ) → left ≡ game ∷ next
        → is_listed members events listing moment (summary_of game) ≡ false → Ahead games left text
        → Ahead games next text
    ahead_same games left next game text at fails ahead rest come =
        let first = subst (λ b. AreGameLines members events (with_first b game next) rest) (sym fails) come in
        ahead rest (subst (λ l. AreGameLines members events (listed l) rest) (sym at) first)

    pub ahead_all : (games : List GameEntry) (k : ℕ) (text : List ℕ) → length games ≤ k
        → Ahead games (drop k games) text → AreGameLines members events (listed games) text
    ahead_all games k text past ahead =
        let none = subst (λ l. AreGameLines members events (listed l) []) (sym (drop_all k games past)) refl in
        subst (AreGameLines members events (listed games)) (append-nil text) (ahead [] none)
