use Rattle.std.proofs.Common.{◌∙◌}
use Rattle.mc_text.proofs.Parentheses.{open-at}
use Rattle.mc_text.proofs.scan.Scan.is_at_left.Goals as goal

pub returns : goal.returns
returns c = c.is_some.ensures ∙ open-at (λ r. r.now) c.self.inside.before c.self.inside.rest.now c.self.inside.line c.args.self.now c.behind_left.result c.self.view_is c.behind_left.ensures.parts c.behind_left.ensures.none
