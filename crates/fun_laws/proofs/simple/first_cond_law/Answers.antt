use Rattle.std.proofs.Common.{◌≡◌, arith}
use Rattle.std.proofs.lemmas.Bool.Decides.{nat_tests}
use Rattle.word_terms.specs.Tree.{cond_tree}
use Rattle.fun_laws.specs.Laws.{OfCond}
use Rattle.fun_laws.proofs.SimpleLemmas.{all_free, free_more}
use Rattle.fun_laws.proofs.simple.first_cond_law.Goals as goal

pub loop-law-preserved : goal.loop-law-preserved
loop-law-preserved c = free_more c.loop-law.law (OfCond (cond_tree c.args.c.now)) c.loop-law.invariant c.in-None.ensures.none

pub returns-clause-none : goal.returns-clause-none
returns-clause-none c =
    let end : c.loop-law.law ≡ 32 = grind (arith, nat_tests, c.loop-law.auto.law-end, c.loop-law-test.false) in
    all_free (OfCond (cond_tree c.args.c.now)) (λ n h. c.loop-law.invariant n (omega (arith, h, end)))
