-- The mathematical value of the form that the parser of moves returns. No promise of the program rests on these
-- definitions.
use Rattle.std.specs.Prelude.{◌≡◌, Err}
use Rattle.pdn.specs.declared.faults.MoveFault.{MoveFault}
use Rattle.pdn.specs.declared.faults.MoveFault.TheVariants as fault
use Rattle.pdn.specs.declared.forms.Form as answer
use Rattle.pdn.specs.declared.forms.Form.TheVariants as named
use Rattle.pdn.specs.Forms.{Form, FormReading, quiet, capture}

abbrev pub form_of : answer.Form → Form
form_of (named.Quiet from to) = quiet from to
form_of (named.Capture from middle to) = capture from middle.items to

-- the fault of a text without a form
abbrev pub IsBadForm : FormReading → MoveFault → Type 0
IsBadForm reading fault.Memory = Unit {0}
IsBadForm reading (fault.BadText offset) = reading ≡ Err offset
IsBadForm reading fault.Ambiguous = ⊥
IsBadForm reading (fault.Illegal cause) = ⊥
