-- What was served, as steps of the club's state machine.
use Rattle.std.specs.Prelude.{◌≡◌, ◌⊎◌, List, [], ◌∷◌}
use Rattle.http_desk.specs.Served.{Club}
use Rattle.server.specs.declared.connections.Served.{Served}
use Rattle.server.specs.Visits.{IsServedBy}

-- One connection or order leads from the state `s` to the state `t`. If it was acknowledged, its reply is the one that
-- `s` determines, and `t` is the next state. If nothing was sent, or the reply reports a fault of the club, `t` is the
-- next state or `s`.
abbrev pub LeadsTo : {S : Type 0} → Club S → S → Served → S → Type 0
LeadsTo club s item t = IsServedBy club (λ u. t ≡ u) (λ u v. (t ≡ u) ⊎ (t ≡ v)) s item

-- these, in order, lead from one state to the other
abbrev pub LeadTo : {S : Type 0} → Club S → S → List Served → S → Type 0
LeadTo club s [] t = t ≡ s
LeadTo {S} club s (item ∷ items) t = (next : S) × LeadsTo club s item next × LeadTo club next items t
