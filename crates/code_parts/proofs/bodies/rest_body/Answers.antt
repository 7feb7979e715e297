use Rattle.std.proofs.Common.{◌≡◌, ℕ, IfOk, Option, sym, ◌∙◌, subst}
use Rattle.tailrec_lang.specs.Tree.{body_tree}
use Rattle.code_parts.specs.Bodies as spec
use Rattle.code_parts.specs.Kept.{flow_in}
use Rattle.code_parts.proofs.bodies.rest_body.Goals as goal

pub returns-in-Some : goal.returns-in-Some
returns-in-Some c =
    subst (λ (o : Option ℕ). IfOk c.head_body.result (λ b. body_tree b ≡ spec.rest_body 32 (flow_in c.args.flow.now) c.args.p c.args.node o))
    (sym (sym c.loop_of.ensures.is ∙ c.in-Some.is)) (c.head_body.ensures c.args.node)
