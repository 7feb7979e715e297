use Rattle.std.proofs.Common.{◌∙◌}
use Rattle.std.proofs.lemmas.Result.{on_ok_weaker}
use Rattle.mcdec_commands.proofs.run.place_ranges.Goals as goal

pub returns : goal.returns
returns c = on_ok_weaker c.place_each.result (λ e. e ∙ c.in_ok-place_rising.ensures) c.place_each.ensures
