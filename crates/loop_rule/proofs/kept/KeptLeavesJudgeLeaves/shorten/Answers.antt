use Rattle.std.proofs.Common.{map, sym, ap, ◌∙◌}
use Rattle.std.proofs.lemmas.List.{take-map}
use Rattle.triple_kernel.specs.Tree.{fact_tree}
use Rattle.loop_rule.proofs.kept.KeptLeavesJudgeLeaves.shorten.Goals as goal

pub returns-clause-way : goal.returns-clause-way
returns-clause-way c = ap (map fact_tree) c.truncate.ensures ∙ sym (take-map fact_tree c.args.length c.args.self.now.way)
