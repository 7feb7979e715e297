-- The letter is the second operand.
use Rattle.std.proofs.Common.{◌≡◌, ◌∙◌, refl, rules}
use Rattle.word_terms.specs.Tree.{Bin, Const, word_tree}
use Rattle.rv_words.specs.declared.operation.Op.TheVariants.{Add}
use Rattle.fun_laws.proofs.Given.{with_x}
use Rattle.fun_laws.proofs.shape.left_unit.Goals as goal

pub returns-then-is_const-clause-some : goal.returns-then-is_const-clause-some
returns-then-is_const-clause-some c =
    let e : word_tree c.in-Some.a.now ≡ Const 0 = search rules in
    let f : word_tree c.args.t.now ≡ Bin Add (Const 0) (word_tree c.in-Some.b.now) = c.in-Some.ensures.some ∙ (λ j. Bin Add (e j) (word_tree c.in-Some.b.now)) in
    (with_x (word_tree c.in-Some.b.now), refl, f, refl)
