-- The text of a fault. No promise of the program rests on these definitions.
use Rattle.std.specs.Prelude.{ℕ, Option, Some, None, List, codes}
use Rattle.record_writer.specs.declared.fault.WriteFault.{WriteFault}
use Rattle.record_writer.specs.declared.fault.WriteFault.TheVariants as fault

-- The text of a writer's own error is unknown.
abbrev pub fault_text : WriteFault → Option (List ℕ)
fault_text fault.Memory = Some (codes "out of memory")
fault_text (fault.Writer error) = None
