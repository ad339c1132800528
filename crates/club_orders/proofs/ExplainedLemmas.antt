-- A second line behind the first.
use Rattle.std.proofs.Common.{◌≡◌, ℕ, List, take, Option, Bool, subst}
use Rattle.std.proofs.KnownBytes.{Appends-trans}
use Rattle.std.specs.Io.KnownBytes.{Appends}
use Rattle.cli.specs.declared.words.Task.{Task}
use Rattle.club_orders.specs.declared.report.Report.{Report}
use Rattle.club_orders.specs.Batches.{IsBegunWith}
use Rattle.club_orders.specs.Report.{report_text}
use Rattle.club_orders.specs.internal.Report.{IsFaultTold}
use Rattle.club_orders.specs.Explained.{second_line, IsFaultExplained, IsRefusalExplained}
use Rattle.club_orders.proofs.PrintedLemmas.{begun_take}

-- a beginning of the second line is written behind what stands there
abbrev pub IsBehind : Bool → Task → Report → (status : ℕ) → Option (List ℕ) → Option (List ℕ) → Type 0
IsBehind explains task report status before now = IsBegunWith before now (second_line explains status task report)

pub refusal_explained : (a b c : Option (List ℕ)) (explains : Bool) (task : Task) (report : Report) (status : ℕ)
    → status ≡ 1 → ((n : ℕ) × Appends a b (take n (report_text report))) → IsBehind explains task report status b c
    → IsRefusalExplained explains task report a c
refusal_explained a b c explains task report status is first behind =
    let second = begun_take b c _ (subst (λ s. IsBehind explains task report s b c) is behind) in
    record { count = first.0; more = second.0; written = Appends-trans a b c _ _ first.1 second.1 }

pub fault_explained : (a b c : Option (List ℕ)) (explains : Bool) (task : Task) (report : Report) (status : ℕ)
    → status ≡ 3 → IsFaultTold report a b → IsBehind explains task report status b c
    → IsFaultExplained explains task report a c
fault_explained a b c explains task report status is told behind =
    let second = begun_take b c _ (subst (λ s. IsBehind explains task report s b c) is behind) in
    record {
      text = told.text;
      is_text = told.is_text;
      count = told.count;
      more = second.0;
      written = Appends-trans a b c _ _ told.written second.1;
    }
