use Rattle.std.proofs.Common.{◌≡◌, ◌++◌, ◌-◌, ◌≤◌, string_bytes}
use Rattle.sfen.specs.SfenGrammar.{cells_from}
use Rattle.sfen.specs.SfenText.{cells_text, rank_text}
use Rattle.sfen.proofs.writing.push_rank.Given as goal

pub record Written (IsWritten IsFew : Type 0) : Type 0 where
  pub written : IsWritten
  pub few : IsFew

abbrev pub invariant-loop-past : goal.invariant-loop-past
invariant-loop-past l =
    Written
    (string_bytes l.text ++ cells_text l.gap (cells_from l.board l.rank (9 - l.past)) ≡ string_bytes l.initial.text
    ++ rank_text l.board l.rank)
    (l.gap ≤ l.past)
