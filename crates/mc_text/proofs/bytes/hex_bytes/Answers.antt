use Rattle.std.proofs.Common.{◌≡◌, None, true≢false, sym, ◌∙◌}
use Rattle.std.specs.Prelude.{IsSome, ◌↔◌}
use Rattle.std.proofs.lemmas.Result.{IfOk-weaker}
use Rattle.hex.specs.Hex.{encode_lower, decode_of}
use Rattle.mc_text.specs.Number.{AreSomeBytes, AreDigitPairs, Spelled, bytes_of_digits}
use Rattle.mc_text.specs.inner.Number.{value_of}
use Rattle.mc_text.proofs.HexPairs.{none-spelled, digits-spelled, spelled-found, spelled-read}
use Rattle.mc_text.proofs.bytes.hex_bytes.Goals as goal

pub returns-then-are_hex_digits-clause-spelled : goal.returns-then-are_hex_digits-clause-spelled
returns-then-are_hex_digits-clause-spelled c =
    let text = c.args.atom.now in
    let h = c.are_hex_digits.ensures.0 c.if-are_hex_digits.true in
    IfOk-weaker c.decoded.result (λ found. found ≡ value_of (decode_of text)) (λ found. Spelled AreSomeBytes encode_lower text found)
    (λ found e. digits-spelled text found h.0 h.1 e) c.decoded.ensures

pub returns-then-are_hex_digits-clause-found : goal.returns-then-are_hex_digits-clause-found
returns-then-are_hex_digits-clause-found c =
    let text = c.args.atom.now in
    let h = c.are_hex_digits.ensures.0 c.if-are_hex_digits.true in
    IfOk-weaker c.decoded.result (λ found. found ≡ value_of (decode_of text)) (λ found. IsSome found ↔ AreDigitPairs text)
    (λ found e. spelled-found text found (digits-spelled text found h.0 h.1 e)) c.decoded.ensures

pub returns-then-are_hex_digits-clause-read : goal.returns-then-are_hex_digits-clause-read
returns-then-are_hex_digits-clause-read c =
    let text = c.args.atom.now in
    let h = c.are_hex_digits.ensures.0 c.if-are_hex_digits.true in
    IfOk-weaker c.decoded.result (λ found. found ≡ value_of (decode_of text)) (λ found. found ≡ bytes_of_digits text)
    (λ found e. spelled-read text found (digits-spelled text found h.0 h.1 e)) c.decoded.ensures

pub returns-else-are_hex_digits : goal.returns-else-are_hex_digits
returns-else-are_hex_digits c =
    let text = c.args.atom.now in
    let s = none-spelled text (λ h. true≢false (sym (c.are_hex_digits.ensures.1 h) ∙ c.if-are_hex_digits.false)) in
    record { spelled = s; found = spelled-found text None s; read = spelled-read text None s }
