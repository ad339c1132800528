-- The progress of reading a request. No promise of the program rests on these definitions.
use Rattle.std.specs.Prelude.{◌≡◌, ℕ, ◌-◌, ◌≤◌, List, ◌++◌, length, take, Option}
use Rattle.std.specs.Io.KnownBytes.{Consumes}
use Rattle.http_head.specs.declared.framing.Scan.{Scan}
use Rattle.http_head.specs.declared.intake.RequestReader.{RequestReader}
use Rattle.http_head.specs.declared.intake.RequestReader.TheVariants.{Head, Body}
use Rattle.http_head.specs.Framing.{scan_start, end_from}
use Rattle.http_head.specs.Request.{IsDecided}

-- the scan has passed bytes in which no head ends
pub record IsScanOf (scan : Scan) (bytes : List ℕ) : Type 0 where
  pub within : scan.at ≤ length bytes
  pub limit : scan.at ≤ 16384
  pub sane : scan.lines ≤ scan.at
  pub rest : (more : List ℕ) → end_from scan_start (take scan.at bytes ++ more) ≡ end_from scan more

-- so many bytes after the head decide the request
pub record IsBodyOf (start count : ℕ) (bytes : List ℕ) : Type 0 where
  pub within : start ≤ length bytes
  pub enough : (more : List ℕ) → count ≤ length (bytes ++ more) - start → IsDecided (bytes ++ more)

abbrev pub IsIntake : RequestReader → List ℕ → Type 0
IsIntake (Head scan) bytes = IsScanOf scan bytes
IsIntake (Body start count) bytes = IsBodyOf start count bytes

-- the result is the bytes received before and those that the reader gave
abbrev pub HasTaken : List ℕ → List ℕ → Option (List ℕ) → Option (List ℕ) → Type 0
HasTaken heard bytes old new = (further : List ℕ) × (bytes ≡ heard ++ further) × Consumes old new further
