use Rattle.std.proofs.Common.{◌≡◌, ◌+◌, length, Some, false, refl, sym, ap, subst, ◌∙◌, arith}
use Rattle.std.specs.Prelude.{string_bytes}
use Rattle.std.specs.List.{list_any}
use Rattle.std.specs.Option.{option_map}
use Rattle.std.specs.Str.{bytes_eq}
use Rattle.std.specs.HashSet.{contains}
use Rattle.std.proofs.lemmas.Bool.{not-true, not-false}
use Rattle.std.proofs.lemmas.Option.{slice_get_read}
use Rattle.club_audit.proofs.AuditLemmas.{key_in}
use Rattle.club_audit.proofs.KeyLemmas.{AreKept, bytes-told, kept-all, kept-clash, kept-more, kept-none, lent}
use Rattle.club_audit.proofs.audit.share_key.Goals.{in-Some+in_ok-insert-in-Some+else-not-branch, in-None}
use Rattle.club_audit.proofs.audit.share_key.Goals as goal

pub returns-then-not-branch-clause-shared : goal.returns-then-not-branch-clause-shared
returns-then-not-branch-clause-shared c = λ _.
    let rows = c.args.games.now in
    let k = c.loop-game.game-index in
    let at = slice_get_read rows (length rows) k c.game-item.result refl c.loop-game-test.true c.game-item.is in
    let key : key_in c.game-item.result ≡ Some c.as_str.result.now = ap (option_map (λ s. string_bytes s)) c.in-Some.is
    ∙ ap Some (sym c.as_str.ensures.value) in
    kept-clash key_in lent rows k _ c.game-item.result c.as_str.result c.loop-game.invariant at key
    (not-false _ (sym c.in_ok-insert-in-Some.ensures.added ∙ c.if-not-branch.true))

pub loop-game-preserved : goal.loop-game-preserved
loop-game-preserved c =
    let rows = c.args.games.now in
    let k = c.loop-game.game-index in
    let at = slice_get_read rows (length rows) k c.game-item.result refl c.loop-game-test.true c.game-item.is in
    elim c.match-game.branch [
      | in-Some+in_ok-insert-in-Some+else-not-branch w ↦
          let has = contains (λ x y. bytes_eq x.now y.now) c.loop-game.keys in
          let key : key_in c.game-item.result ≡ Some w.as_str.result.now =
          ap (option_map (λ s. string_bytes s)) w.in-Some.is ∙ ap Some (sym w.as_str.ensures.value) in
          let fresh : has w.as_str.result ≡ false =
          not-true _ (sym w.in_ok-insert-in-Some.ensures.added ∙ w.if-not-branch.false) in
          kept-more key_in lent rows bytes_eq bytes-told k has _ c.game-item.result w.as_str.result
          c.loop-game.invariant at key
          (λ q same. ap (λ bs. list_any (λ k. bytes_eq bs k.now) c.loop-game.keys.keys) same ∙ fresh)
          (λ q. ap (λ s. contains (λ x y. bytes_eq x.now y.now) s q) w.keys-is
          ∙ w.in_ok-insert-in-Some.ensures.updates.0 q)
      | in-None w ↦
          subst (λ s. AreKept key_in lent rows (k + 1) (contains (λ x y. bytes_eq x.now y.now) s)) (sym w.keys-is)
          (kept-none key_in lent rows k _ c.game-item.result c.loop-game.invariant at
          (ap (option_map (λ s. string_bytes s)) w.in-None.is))
    ]

pub returns-clause-apart : goal.returns-clause-apart
returns-clause-apart c = λ _. kept-all key_in lent c.args.games.now c.loop-game.game-index _ c.loop-game.invariant
    (omega (arith, c.loop-game-test.false))
