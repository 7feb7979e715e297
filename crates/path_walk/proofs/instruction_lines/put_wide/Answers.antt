use Rattle.std.proofs.Common.{sym, ◌∙◌}
use Rattle.path_walk.proofs.instruction_lines.put_wide.Goals as goal

pub put_first-requires-clause-first : goal.put_first-requires-clause-first
put_first-requires-clause-first c = sym c.is_crossed.ensures ∙ c.if-not-is_crossed.true
