use Rattle.std.proofs.Common.{sym, subst, ◌∙◌}
use Rattle.std.specs.Prelude.{slice_get}
use Rattle.tailrec_lang.specs.Tree.{exits_at}
use Rattle.tailrec_lang.specs.Eval.{Exited, arguments}
use Rattle.tailrec_lang.specs.inner.Walk.{ResultsFit, StopFits, Waits, stop_ending, unwound}
use Rattle.tailrec_lang.proofs.Waiting.{unwound-push, waits-pop}
use Rattle.tailrec_lang.proofs.evaluator.return_through.Goals as goal

pub resume-requires : goal.resume-requires
resume-requires c =
    let g = c.requires.0 in
    let first = c.requires.1 in
    let now = c.pops.invariant.fits g first c.requires.2 c.requires.3 c.requires.4 in
    let popped = waits-pop g first c.pop.new.self c.in-Some.frame c.pops.def (subst (λ fs. Waits g first fs c.pops.def) c.in-Some.ensures.items now.0) in
    let left = subst (λ s. StopFits g c.pops.def s c.pops.walk) c.in-Left.is now.1 in
    (g, popped.1, subst (λ d. ResultsFit g (slice_get (exits_at g d) c.in-Left.exit) c.in-Left.results) (sym popped.2) left)

pub pops-preserved : goal.pops-preserved
pops-preserved c = record {
  ending = λ call left.
      c.pops.invariant.ending call left
      ∙ (λ j. unwound call (c.in-Some.ensures.items j) (stop_ending call c.pops.def (c.in-Left.is j) c.pops.walk left))
      ∙ unwound-push call c.pop.new.self c.in-Some.frame (Exited c.in-Left.exit (arguments c.in-Left.results) left)
      ∙ (λ j. unwound call c.pop.new.self (c.in_ok-walk-in-Some.ensures.ending call left j));
  fits = λ g first waits walk lt.
      let now = c.pops.invariant.fits g first waits walk lt in
      let popped = waits-pop g first c.pop.new.self c.in-Some.frame c.pops.def (subst (λ fs. Waits g first fs c.pops.def) c.in-Some.ensures.items now.0) in
      let left = subst (λ s. StopFits g c.pops.def s c.pops.walk) c.in-Left.is now.1 in
      let results = subst (λ d. ResultsFit g (slice_get (exits_at g d) c.in-Left.exit) c.in-Left.results) (sym popped.2) left in
      (popped.0, c.in_ok-walk-in-Some.ensures.fits g popped.1 results, popped.1.0);
}
