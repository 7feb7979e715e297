use Rattle.std.proofs.Common.{arith, subst, ◌∙◌, Option, Some, List, ℕ}
use Rattle.hex.specs.Hex.{encode_lower}
use Rattle.mc_text.specs.Number.{hex, IsNumber, AreSomeBytes, Spelled}
use Rattle.mcdec_answers.proofs.Givens.{no-colon, no-address, no-digits, past-the-end}
use Rattle.mcdec_answers.proofs.command.read_memory.Goals as goal

pub returns-in_default : goal.returns-in_default
returns-in_default c = no-colon c.args.value.now c.in_default.ensures

pub returns-in_default-hexnum : goal.returns-in_default-hexnum
returns-in_default-hexnum c =
    no-address c.args.value.now c.in-Some.address.now c.in-Some.digits.now c.in-Some.ensures (λ n h e. c.in_default-hexnum.ensures.spelled n h (c.as_bytes.ensures.value ∙ e))

pub returns-in_default-2 : goal.returns-in_default-2
returns-in_default-2 c =
    let none = subst (λ (o : Option (List ℕ)). Spelled AreSomeBytes encode_lower c.as_bytes-2.result.now o) c.in_default-2.is c.in_ok-bytes.ensures.spelled in
    no-digits c.args.value.now c.in-Some.address.now c.in-Some.digits.now c.in-Some.ensures (λ bytes h e. none bytes h (c.as_bytes-2.ensures.value ∙ e))

pub returns-else-from-len : goal.returns-else-from-len
returns-else-from-len c =
    let some = subst (λ (o : Option (List ℕ)). Spelled AreSomeBytes encode_lower c.as_bytes-2.result.now o) c.in-Some-2.is c.in_ok-bytes.ensures.spelled in
    past-the-end c.args.value.now c.in-Some.address.now c.in-Some.digits.now c.in-Some.ensures c.in-Some-hexnum.at c.in-Some-2.bytes
    (subst (λ (w : List ℕ). Spelled IsNumber hex w (Some c.in-Some-hexnum.at)) c.as_bytes.ensures.value c.in-Some-hexnum.ensures.spelled) (subst (λ (w : List ℕ). Spelled AreSomeBytes encode_lower w (Some c.in-Some-2.bytes)) c.as_bytes-2.ensures.value some)
    (λ fits. omega (arith, c.if-from-len.false, c.from.ensures, c.len.ensures, fits))
