use Rattle.std.proofs.Common.{arith, Ok, Err, ap, ◌∙◌, length, ◌≤◌}
use Rattle.std.specs.Prelude.{flat_map}
use Rattle.std.proofs.lemmas.List.{take_all}
use Rattle.mcdec_answers.proofs.Prints.{prints-as, prints-exit, items-more, items-broken, byte_text, encode-each}
use Rattle.mcdec_answers.proofs.print.put_bytes.Goals as goal

pub returns-in_err-put_text : goal.returns-in_err-put_text
returns-in_err-put_text g c =
    let e = c.in_err-put_text.field-0.0 in
    prints-exit _ e _ _ _ _ _ c.from_residual.ensures.1
    (prints-as (Err e) _ _ _ _ _ _ (encode-each c.args.bytes.now)
    (items-broken byte_text c.args.bytes.now c.loop-byte.byte-index _ c.loop-byte-test.true _ _ _ _ _ _ c.loop-byte.invariant e
    (prints-as (Err e) _ _ _ _ _ _ c.digit_pair.ensures c.in_err-put_text.ensures)))

pub loop-byte-preserved : goal.loop-byte-preserved
loop-byte-preserved g c =
    items-more byte_text c.args.bytes.now c.loop-byte.byte-index _ c.loop-byte-test.true _ _ _ _ _ _ c.loop-byte.invariant
    (prints-as (Ok tt) _ _ _ _ _ _ c.digit_pair.ensures c.in_ok-put_text.ensures)

pub returns : goal.returns
returns g c =
    let whole : length c.args.bytes.now ≤ c.loop-byte.byte-index = omega (arith, c.loop-byte-test.false) in
    prints-as (Ok tt) _ _ _ _ _ _ (ap (flat_map byte_text) (take_all c.loop-byte.byte-index c.args.bytes.now whole) ∙ encode-each c.args.bytes.now) c.loop-byte.invariant
