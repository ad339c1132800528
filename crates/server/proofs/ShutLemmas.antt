-- What was served while a club was unavailable.
use Rattle.std.proofs.Common.{◌≡◌, ◌++◌, List, [], ◌∷◌, append_assoc, subst, sym}
use Rattle.std.proofs.lemmas.List.{append-nil}
use Rattle.http_desk.specs.declared.faults.ClubFault.{ClubFault}
use Rattle.server.specs.declared.connections.Served.{Served}
use Rattle.server.specs.Visits.{AreShutServed}

-- from one moment to the other only such items were served
abbrev pub HasShutSince : {V : Type 0} → (V → List Served → Type 0) → ClubFault → V → V → Type 0
HasShutSince HasServed fault first last =
    (before : List Served) → HasServed first before
    → (more : List Served) × HasServed last (before ++ more) × AreShutServed fault more

shut_more : (fault : ClubFault) (items more : List Served) → AreShutServed fault items → AreShutServed fault more
    → AreShutServed fault (items ++ more)
shut_more fault [] more _ are = are
shut_more fault (item ∷ items) more (first, rest) are = (first, shut_more fault items more rest are)

pub none_shut : {V : Type 0} (HasServed : V → List Served → Type 0) (fault : ClubFault) (first : V)
    → HasShutSince HasServed fault first first
none_shut HasServed fault first before had = ([], subst (HasServed first) (sym (append-nil before)) had, tt)

pub next_shut : {V : Type 0} (HasServed : V → List Served → Type 0) (fault : ClubFault) (first last next : V)
    (items : List Served) → HasShutSince HasServed fault first last
    → ((before : List Served) → HasServed last before → HasServed next (before ++ items)) → AreShutServed fault items
    → HasShutSince HasServed fault first next
next_shut HasServed fault first last next items since adds are before had =
    let (more, has, shut) = since before had in (
      more ++ items,
      subst (HasServed next) (append_assoc before more items) (adds (before ++ more) has),
      shut_more fault more items shut are,
    )
