use Rattle.std.proofs.Common.{List, Option, refl, sym, subst}
use Rattle.std.proofs.lemmas.Result.{on_ok_weaker}
use Rattle.sep_assert.specs.declared.assertion.Assertion.{Assertion}
use Rattle.triple_kernel.specs.Tree.{triple_tree}
use Rattle.proof_text.specs.Line.{line_or_own, line_tree, triple_or_own}
use Rattle.proof_text.specs.declared.line.Line.{Line}
use Rattle.proof_text.specs.declared.line.Line.TheVariants as line
use Rattle.verdicts.specs.Instance.{after_line}
use Rattle.proof_v2.specs.Preconditions.{ArePreconditions}
use Rattle.proof_v2.proofs.Keeping.{kept-more}
use Rattle.proof_v2.proofs.preconditions.keep.Goals as goal

pub returns-in-States : goal.returns-in-States
returns-in-States c =
    on_ok_weaker c.push.result
    (λ more own all h keeps. subst (λ (l : Line). ArePreconditions c.push.new.self (after_line h (line_or_own own all (line_tree l)))) (sym c.in-States.is)
    (subst (λ (ks : List (Option Assertion)). ArePreconditions ks (after_line h (line_or_own own all (line_tree (line.States c.in-States.rule c.in-States.stated))))) (sym more)
    (kept-more c.args.kept.now h c.in-States.stated.pre (triple_or_own own all (triple_tree c.in-States.stated)) refl keeps)))
    c.push.ensures.ok

pub returns-in-Further : goal.returns-in-Further
returns-in-Further c =
    on_ok_weaker c.push-in-Further.result
    (λ more own all h keeps. subst (λ (l : Line). ArePreconditions c.push-in-Further.new.self (after_line h (line_or_own own all (line_tree l)))) (sym c.in-Further.is)
    (subst (λ (ks : List (Option Assertion)). ArePreconditions ks (after_line h (line_or_own own all (line_tree (line.Further c.in-Further.cited c.in-Further.stated))))) (sym more)
    (kept-more c.args.kept.now h c.in-Further.stated.pre (triple_or_own own all (triple_tree c.in-Further.stated)) refl keeps)))
    c.push-in-Further.ensures.ok

pub returns : goal.returns
returns c own all h keeps = subst (λ (l : Line). ArePreconditions c.forget.new.kept (after_line h (line_or_own own all (line_tree l)))) (sym c.in-Forget.is) (c.forget.ensures h keeps)
