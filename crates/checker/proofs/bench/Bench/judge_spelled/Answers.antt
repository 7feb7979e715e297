use Rattle.checker.specs.Bench.{state_group, state_history, state_nodes}
use Rattle.held_terms.proofs.GrowthLemmas.{extends_same}
use Rattle.held_terms.proofs.PutSteps.{one_within}
use Rattle.std.proofs.Common.{◌≡◌, ◌+◌, ◌≤◌, length, true, true≢false, sym, ap, subst, ◌∙◌, arith}
use Rattle.proof_text.specs.declared.line.Line.{Line}
use Rattle.proof_text.specs.Line.{line_or_own, line_tree}
use Rattle.checker.specs.LineTerms.{HasLine, is_compared, is_loop, loop_terms, stated_triple_terms, whole_line_terms}
use Rattle.held_terms.specs.Terms.{nodes_of, pair_steps}
use Rattle.checker.proofs.bench.Bench.judge_spelled.Goals as goal

pub returns-in-Forget-clause-grows : goal.returns-in-Forget-clause-grows
returns-in-Forget-clause-grows g c = extends_same (state_nodes c.args.self.now) (state_nodes c.forget.new.self) c.forget.ensures.nodes

pub returns-in-States-clause-steps : goal.returns-in-States-clause-steps
returns-in-States-clause-steps g c =
    subst (λ (l : Line). is_compared (line_or_own (state_group c.args.self.now).code c.args.all (line_tree l)) ≡ true → c.state.new.steps ≤ c.args.steps.now + nodes_of (stated_triple_terms (line_or_own (state_group c.args.self.now).code c.args.all (line_tree l)))) (sym c.in-States.is) c.state.ensures.steps

pub returns-in-Loop-clause-steps : goal.returns-in-Loop-clause-steps
returns-in-Loop-clause-steps g c = λ e. absurd (true≢false (sym e ∙ ap (λ (l : Line). is_compared (line_or_own (state_group c.args.self.now).code c.args.all (line_tree l))) c.in-Loop.is))

pub returns-in-Forget-clause-steps : goal.returns-in-Forget-clause-steps
returns-in-Forget-clause-steps g c = λ e. omega arith

pub returns-in-Further-clause-steps : goal.returns-in-Further-clause-steps
returns-in-Further-clause-steps g c = λ e. absurd (true≢false (sym e ∙ ap (λ (l : Line). is_compared (line_or_own (state_group c.args.self.now).code c.args.all (line_tree l))) c.in-Further.is))

pub returns-in-States-clause-most : goal.returns-in-States-clause-most
returns-in-States-clause-most g c = λ e ts has.
    subst (λ (l : Line). HasLine (state_history c.args.self.now).theorem (line_or_own (state_group c.args.self.now).code c.args.all (line_tree l)) ts → c.state.new.steps ≤ c.args.steps.now + (nodes_of (whole_line_terms (line_or_own (state_group c.args.self.now).code c.args.all (line_tree l))) + pair_steps ts)) (sym c.in-States.is)
    (λ h. c.state.ensures.most ts h.0 h.1) has

pub returns-in-Loop-clause-most : goal.returns-in-Loop-clause-most
returns-in-Loop-clause-most g c = λ e. absurd (true≢false (sym (ap (λ (l : Line). is_loop (line_or_own (state_group c.args.self.now).code c.args.all (line_tree l))) c.in-Loop.is) ∙ e))

pub returns-in-Forget-clause-most : goal.returns-in-Forget-clause-most
returns-in-Forget-clause-most g c = λ e ts has. omega arith

pub returns-in-Further-clause-most : goal.returns-in-Further-clause-most
returns-in-Further-clause-most g c = λ e ts has.
    let within = one_within (length ts) in
    subst (λ (l : Line). c.state_further.new.steps ≤ c.args.steps.now + (nodes_of (whole_line_terms (line_or_own (state_group c.args.self.now).code c.args.all (line_tree l))) + pair_steps ts)) (sym c.in-Further.is)
    (let le = c.state_further.ensures.steps in omega (arith, le, within))

pub returns-in-Loop-clause-closing : goal.returns-in-Loop-clause-closing
returns-in-Loop-clause-closing g c = λ e.
    subst (λ (l : Line). c.close.new.steps ≤ c.args.steps.now + nodes_of (loop_terms (state_group c.args.self.now) (line_or_own (state_group c.args.self.now).code c.args.all (line_tree l)))) (sym c.in-Loop.is) c.close.ensures.steps

pub returns-in-States-clause-closing : goal.returns-in-States-clause-closing
returns-in-States-clause-closing g c = λ e. absurd (true≢false (sym e ∙ ap (λ (l : Line). is_loop (line_or_own (state_group c.args.self.now).code c.args.all (line_tree l))) c.in-States.is))

pub returns-in-Forget-clause-closing : goal.returns-in-Forget-clause-closing
returns-in-Forget-clause-closing g c = λ e. absurd (true≢false (sym e ∙ ap (λ (l : Line). is_loop (line_or_own (state_group c.args.self.now).code c.args.all (line_tree l))) c.in-Forget.is))

pub returns-in-Further-clause-closing : goal.returns-in-Further-clause-closing
returns-in-Further-clause-closing g c = λ e. absurd (true≢false (sym e ∙ ap (λ (l : Line). is_loop (line_or_own (state_group c.args.self.now).code c.args.all (line_tree l))) c.in-Further.is))
