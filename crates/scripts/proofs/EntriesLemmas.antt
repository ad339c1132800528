-- The moves of entries, where these were judged as a list of their own.
use Rattle.std.proofs.Common.{◌≡◌, List, ℕ, length, map, sym, subst}
use Rattle.std.specs.Prelude.{Option, Some, None}
use Rattle.std.proofs.lemmas.List.{length-map}
use Rattle.squares.specs.declared.shogi.moves.SMove.{SMove}
use Rattle.squares.specs.ShogiOpening.{opening}
use Rattle.squares.specs.ShogiSets.{ShogiPosition}
use Rattle.shogi_repetition.specs.declared.ends.SEnd.{SEnd}
use Rattle.shogi_repetition.specs.Ends.{EndsSo}
use Rattle.shogi_repetition.specs.Faults.{IsPlayed}
use Rattle.shogi_repetition.specs.Line.{last_position}
use Rattle.csa.specs.declared.head.CsaEnd.{CsaEnd}
use Rattle.csa.specs.declared.head.CsaEnd.TheVariants.{Resigned}
use Rattle.csa.specs.internal.WrittenGame.{FitsEnd, TellsEnd}

pub entries-played : (p : ShogiPosition) (es : List (SMove × ℕ)) (ms : List SMove) → p ≡ opening
    → ms ≡ map (λ e. e.0) es → IsPlayed p ms (length ms) → IsPlayed opening (map (λ e. e.0) es) (length es)
entries-played p es ms at same played =
    subst (λ n. IsPlayed opening (map (λ e. e.0) es) n) (length-map es (λ e. e.0))
    (subst (λ l. IsPlayed opening l (length l)) same (subst (λ q. IsPlayed q ms (length ms)) at played))

pub entries-fit : (p : ShogiPosition) (es : List (SMove × ℕ)) (ms : List SMove) (told : Option CsaEnd)
    (end : Option SEnd) → p ≡ opening → ms ≡ map (λ e. e.0) es → told ≡ Some Resigned → end ≡ None → EndsSo p ms end
    → FitsEnd told (map (λ e. e.0) es)
entries-fit p es ms told end at same resigned none ends =
    let here : EndsSo opening ms end = subst (λ q. EndsSo q ms end) at ends in
    let unended : EndsSo opening ms None = subst (λ e. EndsSo opening ms e) none here in (
      None,
      subst (λ l. EndsSo opening l None) same unended,
      subst (λ t. TellsEnd None t (last_position opening (map (λ e. e.0) es))) (sym resigned) tt,
    )
