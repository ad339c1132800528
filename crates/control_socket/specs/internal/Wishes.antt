-- The request in a message: a lease, or an operation at the order's timestamp. No promise of the program rests on these
-- definitions.
use Rattle.std.specs.Prelude.{◌≡◌, ◌⊎◌, ℕ, List, Option, Some, None}
use Rattle.std.specs.Str.{IsUtf8}
use Rattle.cli.specs.declared.words.Invocation.{Invocation}
use Rattle.cli.specs.Said.{StatesInvocation}
use Rattle.control_socket.specs.internal.Asking.{IsOperationOf, parted}
use Rattle.control_socket.specs.internal.Said.{IsFrameOf}
use Rattle.control_socket.specs.declared.control_requests.ControlRequest.{ControlRequest}
use Rattle.control_socket.specs.declared.control_requests.ControlRequest.TheVariants as wish
use Rattle.control_socket.specs.declared.orders.Operation.{Operation}
use Rattle.control_socket.specs.declared.frames.Frame.{Frame}
use Rattle.control_socket.specs.declared.frames.Frame.TheVariants.{Part, File, Order, Nothing}

-- the operation of the command line in a message, parsed as by the program itself; no operation if it is not UTF-8
abbrev pub IsDecodedOperation : (words text : List ℕ) → Option Operation → Type 0
IsDecodedOperation words text errand =
    ((read : Invocation) × StatesInvocation (parted words) read × IsOperationOf read text errand)
    ⊎ ((IsUtf8 words → ⊥) × (errand ≡ None))

abbrev pub IsOrderRequest : (moment : ℕ) → (words text : List ℕ) → ControlRequest → Type 0
IsOrderRequest moment words text (wish.Order errand at) = (at ≡ moment) × IsDecodedOperation words text (Some errand)
IsOrderRequest moment words text wish.Nothing = IsDecodedOperation words text None
IsOrderRequest moment words text wish.File = ⊥
IsOrderRequest moment words text wish.Part = ⊥

abbrev pub IsWishBy : Frame → ControlRequest → Type 0
IsWishBy Part wanted = wanted ≡ wish.Part
IsWishBy File wanted = wanted ≡ wish.File
IsWishBy (Order given) wanted = IsOrderRequest given.moment given.words.now given.text.now wanted
IsWishBy Nothing wanted = wanted ≡ wish.Nothing

-- the request in a message
pub record IsControlRequest (bytes : List ℕ) (wanted : ControlRequest) : Type 0 where
  pub said : Frame
  pub is_said : IsFrameOf bytes said
  pub is_wish : IsWishBy said wanted

-- the request in the bytes received, or nothing if no more can be received
abbrev pub IsHeard : List ℕ → ControlRequest → Type 0
IsHeard bytes wanted = IsControlRequest bytes wanted ⊎ (wanted ≡ wish.Nothing)
