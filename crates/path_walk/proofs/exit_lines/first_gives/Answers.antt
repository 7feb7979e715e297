use Rattle.std.proofs.Common.{◌∙◌}
use Rattle.code_parts.specs.Kept.{flow_in}
use Rattle.path_walk.specs.inner.Acts.{gives_over}
use Rattle.path_walk.proofs.exit_lines.first_gives.Goals as goal

pub returns : goal.returns
returns c = c.in_ok-triple.ensures ∙ (λ j. gives_over (flow_in c.args.flow.now) c.args.flow.now.code c.args.entry c.args.def c.args.exit c.args.x (c.fresh-start.ensures.is j))
