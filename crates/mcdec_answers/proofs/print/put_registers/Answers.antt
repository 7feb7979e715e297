use Rattle.std.proofs.Common.{length, ◌∙◌, ◌≡◌, add-one, rules}
use Rattle.std.proofs.lemmas.List.{length_push}
use Rattle.std.proofs.lemmas.Slice.Zip.{zip_turn, zip_end}
use Rattle.std.specs.Slice.Iter.{iter_rest}
use Rattle.std.specs.Iterator.Adapters.{zip_first, zip_second}
use Rattle.mcdec_answers.proofs.Prints.{prints-exit, prints-as, registers-more, registers-broken, lines-all}
use Rattle.mcdec_answers.proofs.print.put_registers.Goals as goal

pub loop-register-preserved : goal.loop-register-preserved
loop-register-preserved g c =
    let first : iter_rest (zip_first c.into_iter-register-iterator.result) ≡ c.args.registers.now = search rules in
    let second : iter_rest (zip_second c.into_iter-register-iterator.result) ≡ c.args.words.now = search rules in
    let t = zip_turn c.args.registers.now c.args.words.now c.loop-register.yielded c.into_iter-register-iterator.result c.loop-register.register-iterator c.next.new.self c.next.result first second c.loop-register.yielded_by _ c.in-Some.is c.next.ensures.steps in
    registers-more c.args.registers.now c.args.words.now (length c.loop-register.yielded) c.in-Some.register.now c.in-Some.word.now t.0 t.1 (t.2 0) (t.3 0) _ _ _ _ _ _ c.loop-register.invariant
    _ (length_push c.loop-register.yielded (c.in-Some.register, c.in-Some.word) ∙ add-one _) c.in_ok-put_register.ensures

pub returns-in_err-put_register : goal.returns-in_err-put_register
returns-in_err-put_register g c =
    let first : iter_rest (zip_first c.into_iter-register-iterator.result) ≡ c.args.registers.now = search rules in
    let second : iter_rest (zip_second c.into_iter-register-iterator.result) ≡ c.args.words.now = search rules in
    let t = zip_turn c.args.registers.now c.args.words.now c.loop-register.yielded c.into_iter-register-iterator.result c.loop-register.register-iterator c.next.new.self c.next.result first second c.loop-register.yielded_by _ c.in-Some.is c.next.ensures.steps in
    prints-exit _ c.in_err-put_register.field-0.0 _ _ _ _ _ c.from_residual.ensures.1
    (registers-broken c.args.registers.now c.args.words.now (length c.loop-register.yielded) c.in-Some.register.now c.in-Some.word.now t.0 t.1 (t.2 0) (t.3 0) _ _ _ _ _ _ c.loop-register.invariant
    c.in_err-put_register.field-0.0 c.in_err-put_register.ensures)

pub returns : goal.returns
returns g c =
    let first : iter_rest (zip_first c.into_iter-register-iterator.result) ≡ c.args.registers.now = search rules in
    let second : iter_rest (zip_second c.into_iter-register-iterator.result) ≡ c.args.words.now = search rules in
    let e = zip_end c.args.registers.now c.args.words.now c.loop-register.yielded c.into_iter-register-iterator.result c.loop-register.register-iterator c.next.new.self c.next.result first second c.loop-register.yielded_by c.in-None.is c.next.ensures.steps in
    prints-as _ _ _ _ _ _ _ (lines-all (length c.loop-register.yielded) c.args.registers.now c.args.words.now e) c.loop-register.invariant
