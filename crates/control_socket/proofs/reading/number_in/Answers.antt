use Rattle.std.proofs.Common.{◌≡◌, ℕ, Err, ap, is_ok, sym, subst, true≢false}
use Rattle.std.proofs.lemmas.Fmt.{IsAscii-decimal, parse-decimal}
use Rattle.std.proofs.lemmas.Str.{IsUtf8-from_ascii}
use Rattle.std.specs.Str.{IsUtf8}
use Rattle.control_socket.proofs.ReadingLemmas.{padded_no_decimal, plain_parsed}
use Rattle.control_socket.proofs.reading.number_in.Goals as goal

pub returns-then-is_padded : goal.returns-then-is_padded
returns-then-is_padded c n fits = padded_no_decimal n _ fits (c.is_padded.ensures.padded c.if-is_padded.true)

pub returns-in-Err : goal.returns-in-Err
returns-in-Err c n fits is =
    c.in-Err.ensures.cases.0 (subst IsUtf8 (sym is) (IsUtf8-from_ascii _ (IsAscii-decimal n fits)))

pub returns-in-Ok-parse : goal.returns-in-Ok-parse
returns-in-Ok-parse c =
    let same : c.in-Ok.text.now ≡ c.args.bytes.now = c.in-Ok.ensures.cases.0 in
    let plain = c.is_padded.ensures.plain c.if-is_padded.false in
    plain_parsed ℕ c.args.bytes.now c.in-Ok-parse.number (rw same at c.in-Ok-parse.ensures.value.0) plain.0 plain.1

pub returns-in-Err-parse : goal.returns-in-Err-parse
returns-in-Err-parse c n fits is =
    let same : c.in-Ok.text.now ≡ c.args.bytes.now = c.in-Ok.ensures.cases.0 in
    let read = rw same at c.in-Err-parse.ensures.value.0 in
    true≢false (sym (ap is_ok (parse-decimal {E = ℕ} 64 n c.args.bytes.now (Err 0) fits fits is read)))
