use Rattle.std.proofs.Common.{◌≡◌, ℕ, ◌+◌, ◌≤◌, List, map, true≢false, ap, refl, sym, ◌∙◌, subst, arith}
use Rattle.std.specs.Prelude.{slice_get}
use Rattle.loop_rule.specs.Rule.{IsClosedBy}
use Rattle.short_text.specs.SpelledShort.{short_or_own}
use Rattle.checker.specs.Bench.{state_group, state_history, state_nodes}
use Rattle.checker.proofs.OwnLines.{spelled_forget, spelled_loop}
use Rattle.checker.proofs.StatingLemmas.{forget_left, loop_left, on_both, stated_only}
use Rattle.short_text.specs.declared.short.Short.{Short}
use Rattle.short_text.specs.declared.short.Short.TheVariants.{Loop, Forget}
use Rattle.checker.specs.LineTerms.{HasShort, is_copied}
use Rattle.held_definitions.specs.ClosingTerms.{closing_terms}
use Rattle.held_terms.specs.Terms.{nodes_of}
use Rattle.checker.proofs.bench.Bench.derive_spelled.Goals as goal

pub returns-in-Loop-clause-left : goal.returns-in-Loop-clause-left
returns-in-Loop-clause-left g c =
    let old = c.args.self.now in
    let h = state_history old in
    let d = c.in-Loop.def in
    let cited = c.in-Loop.cited in
    on_both c.close.result
    (λ i a. loop_left (state_group old) h (state_nodes old) (short_or_own (state_group old).code c.args.all c.args.line.now) d cited _ (ap (short_or_own (state_group old).code c.args.all) c.in-Loop.is) c.requires.line (subst (λ (l : List ℕ). IsClosedBy (state_group old) d (map h.theorem l)) c.as_slice.ensures i) a)
    c.close.ensures.instance c.close.ensures.after

pub returns-in-Forget-clause-left : goal.returns-in-Forget-clause-left
returns-in-Forget-clause-left g c =
    let old = c.args.self.now in
    on_both c.forget.result (λ i a. forget_left (state_group old) (state_history old) (state_nodes old) (short_or_own (state_group old).code c.args.all c.args.line.now) c.in-Forget.k _ (ap (short_or_own (state_group old).code c.args.all) c.in-Forget.is) c.requires.line i a) c.forget.ensures.instance c.forget.ensures.after

pub returns-in_default : goal.returns-in_default
returns-in_default g c =
    let old = c.args.self.now in
    let triple = c.derive_triple.ensures in
    record {
      group = triple.group;
      left = triple.left;
      no_instance = λ e x. stated_only (state_group old) (state_history old) (state_nodes old) (short_or_own (state_group old).code c.args.all c.args.line.now) (λ d cited e. c.in_default.not-Loop d cited (spelled_loop (state_group old).code c.args.all c.args.line.now d cited e)) (λ k e. c.in_default.not-Forget k (spelled_forget (state_group old).code c.args.all c.args.line.now k e)) (triple.no_instance e) x;
      same = triple.same;
      grows = triple.grows;
      steps = triple.steps;
      most = triple.most;
      closing = λ d cited e. absurd (c.in_default.not-Loop d cited e);
    }

pub returns-in-Loop-clause-steps : goal.returns-in-Loop-clause-steps
returns-in-Loop-clause-steps g c = λ e. absurd (true≢false (sym e ∙ ap is_copied c.in-Loop.is))

pub returns-in-Loop-clause-most : goal.returns-in-Loop-clause-most
returns-in-Loop-clause-most g c = λ ts has.
    let old = c.args.self.now in
    absurd (subst (λ (s : Short). HasShort (state_group old) (state_history old).theorem (state_nodes old) s ts) c.in-Loop.is has)

pub returns-in-Loop-clause-closing : goal.returns-in-Loop-clause-closing
returns-in-Loop-clause-closing g c = λ d cited e.
    let tree = state_group c.args.self.now in
    let both : Loop c.in-Loop.def c.in-Loop.cited ≡ Loop d cited = sym c.in-Loop.is ∙ e in
    let same : c.in-Loop.def ≡ d = cc in
    subst (λ (n : ℕ). c.close.new.steps ≤ c.args.steps.now + nodes_of (closing_terms tree (slice_get tree.defs n))) same c.close.ensures.steps

pub returns-in-Forget-clause-steps : goal.returns-in-Forget-clause-steps
returns-in-Forget-clause-steps g c = λ e. refl

pub returns-in-Forget-clause-most : goal.returns-in-Forget-clause-most
returns-in-Forget-clause-most g c = λ ts has. omega arith

pub returns-in-Forget-clause-closing : goal.returns-in-Forget-clause-closing
returns-in-Forget-clause-closing g c = λ d cited e.
    let both : Forget c.in-Forget.k ≡ Loop d cited = sym c.in-Forget.is ∙ e in
    absurd (cc)
