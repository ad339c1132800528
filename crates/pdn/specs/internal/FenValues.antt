-- The mathematical value of the form that the FEN parser returns. No promise of the program rests on these definitions.
use Rattle.pdn.specs.declared.fen_form.FenForm as answer
use Rattle.pdn.specs.FenForm.{FenForm}

abbrev pub form_value : answer.FenForm → FenForm
form_value form = record { turn = form.turn; items = form.items.items }
