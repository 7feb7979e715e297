use Rattle.std.proofs.Common.{◌∙◌}
use Rattle.instr_axioms.specs.Terms.{pc_after}
use Rattle.path_walk.specs.inner.Writers.{standing_over}
use Rattle.path_walk.proofs.instruction_lines.named_triple.Goals as goal

pub returns : goal.returns
returns c =
    let known = c.in_ok-known.ensures in
    let pc = c.in_ok-pc.ensures ∙ (λ j. pc_after c.args.at.instr c.args.at.form c.args.at.addr (c.length_of-length.ensures j) (c.names_of-names.ensures j)) in
    let post = c.in_ok-post.ensures ∙ (λ j. standing_over (pc j) c.args.regs.now c.args.mems.now (c.after-next.ensures.is j)) in
    λ j. record { facts = known j; pre = c.in_ok-pre.ensures j; code = c.in_ok-code.ensures j; post = post j }
