use Rattle.std.proofs.Common.{List, length, ap, ◌∙◌, arith}
use Rattle.tailrec_lang.specs.Tree.{group_tree}
use Rattle.smt_export.specs.declared.told.Told.{Told}
use Rattle.smt_export.proofs.Bodies.{results-length}
use Rattle.smt_export.proofs.body_terms.arm_around.Goals as goal

pub let_words-requires : goal.let_words-requires
let_words-requires c =
    let long = ap (λ (ts : List Told). length ts) (c.as_slice.ensures ∙ c.in_ok-words.ensures) in
    let few = results-length (group_tree c.args.g.now) c.args.exit in
    omega (arith, long, few, c.requires.words)
