-- The letters.
use Rattle.std.proofs.Common.{◌∙◌, refl}
use Rattle.word_terms.specs.Tree.{Neg, cond_tree}
use Rattle.fun_laws.proofs.Given.{cond_letters}
use Rattle.fun_laws.proofs.shape.not_not.Goals as goal

pub returns-in-Some-negated-clause-some : goal.returns-in-Some-negated-clause-some
returns-in-Some-negated-clause-some c =
    let h = c.in-Some-negated.ensures.some in
    (cond_letters (cond_tree c.in-Some-negated.b.now), c.in-Some.ensures.some ∙ (λ j. Neg (h j)), refl)
