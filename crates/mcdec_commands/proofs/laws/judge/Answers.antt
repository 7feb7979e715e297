use Rattle.std.proofs.Common.{ℕ, List, Some, subst}
use Rattle.tailrec_lang.specs.Tree.{group_tree}
use Rattle.mcdec_commands.specs.EvalAnswer.{IsNamed}
use Rattle.mcdec_commands.proofs.laws.judge.Goals as goal

pub returns-in-Ok : goal.returns-in-Ok
returns-in-Ok c text e =
    c.judge_of.ensures c.args.file.now text e (subst (λ (name : List ℕ). IsNamed c.args.file.now name (Some (group_tree c.in-Ok.g))) c.as_slice.ensures c.in-Ok.ensures.0)
