use Rattle.std.proofs.Common.{refl, ◌∙◌, map}
use Rattle.tailrec_lang.specs.Tree.{step_tree}
use Rattle.triple_kernel.specs.declared.form.Form.TheVariants.{Next}
use Rattle.instr_axioms.specs.Terms.{pc_after}
use Rattle.code_parts.specs.Bodies.{needs, with_pc}
use Rattle.code_parts.specs.VariableMaps.{place_of}
use Rattle.code_parts.proofs.BuiltBodies.{left_after}
use Rattle.code_parts.proofs.bodies.returning_body.Goals as goal

pub returns : goal.returns
returns c =
    let pc = c.in_ok-pc.ensures ∙ (λ i. pc_after c.args.i Next c.args.addr c.args.length (c.names_of-names.ensures i)) in
    left_after _ 0 c.in_ok-values-2.values _ (map step_tree c.args.steps) (needs c.args.i c.args.q (place_of c.args.place.now)) c.in_ok-add_needs.ensures refl
    (c.in_ok-values-2.ensures ∙ (λ i. with_pc (pc i) (c.in_ok-values.ensures i)))
