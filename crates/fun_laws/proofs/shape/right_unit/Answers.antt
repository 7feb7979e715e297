-- The letter is the first operand.
use Rattle.std.proofs.Common.{◌≡◌, ◌∙◌, refl, rules}
use Rattle.word_terms.specs.Tree.{Bin, Const, word_tree}
use Rattle.fun_laws.proofs.Given.{with_x}
use Rattle.fun_laws.proofs.shape.right_unit.Goals as goal

pub returns-then-is_const-clause-some : goal.returns-then-is_const-clause-some
returns-then-is_const-clause-some c =
    let e : word_tree c.in-Some.b.now ≡ Const c.args.c = search rules in
    let f : word_tree c.args.t.now ≡ Bin c.args.op (word_tree c.in-Some.a.now) (Const c.args.c) = c.in-Some.ensures.some ∙ (λ j. Bin c.args.op (word_tree c.in-Some.a.now) (e j)) in
    (with_x (word_tree c.in-Some.a.now), refl, f, refl)
