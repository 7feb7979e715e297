use Rattle.std.proofs.Common.{◌≡◌, ◌++◌, sym, ap, subst, ◌∙◌, append_assoc, arith, Err}
use Rattle.mc_shelf.specs.Fault.{WhereTold}
use Rattle.mcdec_commands.specs.inner.Writing.{AddsText}
use Rattle.mcdec_commands.proofs.Writing.{adds-exit, line-added, line-stopped}
use Rattle.mcdec_commands.proofs.output.append_lines.Goals as goal

pub returns-in_err-append-clause-added : goal.returns-in_err-append-clause-added
returns-in_err-append-clause-added g c =
    let e = c.in_err-append.field-0.0 in
    let before = c.loop-rest.invariant.added in
    let line = c.first_line.result.0.now in
    let behind = c.first_line.result.1.now in
    let parts : c.args.text.now ≡ (before.0 ++ line) ++ behind = before.1 ∙ ap (λ s. before.0 ++ s) c.first_line.ensures.parts ∙ sym (append_assoc before.0 line behind) in
    adds-exit _ e c.args.name.now c.args.text.now _ _ c.from_residual.ensures.1
    (subst (λ text. WhereTold (g.S.Shelf.contents c.args.shelf.now) (g.S.Shelf.contents c.append.new.self) (AddsText (Err e) c.args.name.now text)) (sym parts)
    (line-stopped e c.args.name.now before.0 line behind _ _ _ before.2 c.in_err-append.ensures.added))

pub loop-rest-preserved : goal.loop-rest-preserved
loop-rest-preserved g c =
    let before = c.loop-rest.invariant in
    let front = before.added.0 in
    let line = c.first_line.result.0.now in
    let behind = c.first_line.result.1.now in
    record {
      added = (front ++ line, before.added.1 ∙ ap (λ s. front ++ s) c.first_line.ensures.parts ∙ sym (append_assoc front line behind), line-added c.args.name.now front line _ _ _ before.added.2 c.in_ok-append.ensures.added);
      reads = c.append.ensures.reads ∙ before.reads;
      counted = omega (arith, before.counted, c.append.ensures.counted.1);
      stays_sure = λ s. c.append.ensures.stays_sure (before.stays_sure s);
      sure = λ s t. (c.in_ok-append.ensures.sure_counts (before.stays_sure s) (λ e. cc)).1 ∙ before.sure s t;
    }
