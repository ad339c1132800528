use Rattle.std.proofs.Common.{refl}
use Rattle.control_socket.specs.declared.frames.Frame.TheVariants.{Part, File, Nothing}
use Rattle.control_socket.proofs.control_requests.parse_request.Goals as goal

pub returns-in-Part : goal.returns-in-Part
returns-in-Part c = record { said = Part; is_said = c.in-Part.ensures.is; is_wish = refl }

pub returns-in-File : goal.returns-in-File
returns-in-File c = record { said = File; is_said = c.in-File.ensures.is; is_wish = refl }

pub returns-in-Nothing : goal.returns-in-Nothing
returns-in-Nothing c = record { said = Nothing; is_said = c.in-Nothing.ensures.is; is_wish = refl }
