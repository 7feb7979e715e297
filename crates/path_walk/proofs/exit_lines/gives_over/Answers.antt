use Rattle.std.proofs.Common.{◌∙◌}
use Rattle.code_parts.specs.Kept.{flow_in}
use Rattle.path_walk.specs.inner.Writers.{standing_at}
use Rattle.path_walk.proofs.exit_lines.gives_over.Goals as goal

pub returns : goal.returns
returns c =
    let code = c.in_ok-code.ensures ∙ c.code.ensures.is in
    let post = c.in_ok-post.ensures ∙ (λ j. standing_at (flow_in c.args.flow.now) (c.pc_at.ensures j) (c.place_at-next.ensures.is j)) in
    λ j. record { facts = c.in_ok-facts.ensures j; pre = c.in_ok-pre.ensures j; code = code j; post = post j }
