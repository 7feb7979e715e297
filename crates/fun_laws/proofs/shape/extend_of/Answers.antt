-- The letters.
use Rattle.std.proofs.Common.{◌∙◌, refl}
use Rattle.word_terms.specs.Tree.{Extend, word_tree}
use Rattle.rv_words.specs.declared.operation.Op.TheVariants.{Add}
use Rattle.rv_words.specs.declared.extension.Ext.TheVariants.{Sx4}
use Rattle.fun_laws.proofs.Given.{letters}
use Rattle.fun_laws.proofs.shape.extend_of.Goals as goal

pub returns-in-Some-operands-clause-some : goal.returns-in-Some-operands-clause-some
returns-in-Some-operands-clause-some c =
    let h = c.in-Some-operands.ensures.some in
    let x = word_tree c.in-Some-operands.field-0.0.now in
    let y = word_tree c.in-Some-operands.field-0.1.now in
    (letters x y 0 0 Add Sx4, refl, c.in-Some.ensures.some ∙ (λ j. Extend Sx4 (h j)), h)
