-- Numbers, names and HTTP statuses of the refusals of a head.
use Rattle.std.specs.Prelude.{ℕ, List, codes}
use Rattle.http_head.specs.declared.refusals.HeadRefusal.{HeadRefusal}
use Rattle.http_head.specs.declared.refusals.HeadRefusal.TheVariants.{HeadTooLong, BadHead, BadHost, NotImplemented}
use Rattle.http_head.specs.declared.refusals.HeadRefusal.TheVariants.{NoLength, TooLong}

-- the error number in the reply
abbrev pub head_number : HeadRefusal → ℕ
head_number HeadTooLong = 86
head_number BadHead = 80
head_number BadHost = 88
head_number NotImplemented = 87
head_number NoLength = 84
head_number TooLong = 85

-- the name of the error in the reply
abbrev pub head_name : HeadRefusal → List ℕ
head_name HeadTooLong = codes "HeadTooLong"
head_name BadHead = codes "BadHead"
head_name BadHost = codes "BadHost"
head_name NotImplemented = codes "NotImplemented"
head_name NoLength = codes "NoLength"
head_name TooLong = codes "TooLong"

-- the HTTP status of the reply
abbrev pub head_status : HeadRefusal → ℕ
head_status HeadTooLong = 431
head_status BadHead = 400
head_status BadHost = 400
head_status NotImplemented = 501
head_status NoLength = 411
head_status TooLong = 413
