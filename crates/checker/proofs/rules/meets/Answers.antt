use Rattle.std.proofs.Common.{◌+◌, ◌≤◌, length, true≢false, ap, refl, sym, ◌∙◌, subst, arith, IsTrue}
use Rattle.std.proofs.lemmas.Result.{IfOk-weaker}
use Rattle.tailrec_lang.specs.Tree.{group_tree}
use Rattle.triple_kernel.specs.Tree.{TripleTree, triple_tree}
use Rattle.proof_text.specs.declared.line.Rule.{Rule}
use Rattle.proof_text.specs.Line.{rule_tree, triple_or_own}
use Rattle.held_terms.specs.Held.{triple_of}
use Rattle.checker.specs.Bench.{history_from}
use Rattle.held_definitions.specs.Theorems.{theorem_at}
use Rattle.held_terms.specs.Terms.{HasSubterms, nodes_of, pair_steps, triple_terms}
use Rattle.checker.specs.LineTerms.{compares_numbers, premise_terms, put_in_terms}
use Rattle.held_terms.proofs.PutSteps.{looks_within, pairs_within, searches_within, terms_within}
use Rattle.checker.proofs.RuleLemmas.{rule_row}
use Rattle.checker.proofs.rules.meets.Goals as goal

pub returns-in-Frame-clause-answer : goal.returns-in-Frame-clause-answer
returns-in-Frame-clause-answer g c =
    let a = c.args in
    rule_row (group_tree a.g.now) (history_from 0 a.arena.now a.held.now.entries a.closed.now) (rule_tree a.rule.now) _ (triple_or_own a.g.now.code.ranges a.own (triple_tree a.stated.now)) (triple_of a.arena.now a.put.now) (IsTrue c.by_frame.result) (ap rule_tree c.in-Frame.is) c.requires.put.is c.by_frame.ensures

pub returns-in-Compose-clause-answer : goal.returns-in-Compose-clause-answer
returns-in-Compose-clause-answer g c =
    let a = c.args in
    rule_row (group_tree a.g.now) (history_from 0 a.arena.now a.held.now.entries a.closed.now) (rule_tree a.rule.now) _ (triple_or_own a.g.now.code.ranges a.own (triple_tree a.stated.now)) (triple_of a.arena.now a.put.now) (IsTrue c.by_compose.result) (ap rule_tree c.in-Compose.is) c.requires.put.is c.by_compose.ensures

pub returns-in-ExtendCode-clause-answer : goal.returns-in-ExtendCode-clause-answer
returns-in-ExtendCode-clause-answer g c =
    let a = c.args in
    rule_row (group_tree a.g.now) (history_from 0 a.arena.now a.held.now.entries a.closed.now) (rule_tree a.rule.now) _ (triple_or_own a.g.now.code.ranges a.own (triple_tree a.stated.now)) (triple_of a.arena.now a.put.now) (IsTrue c.by_extend_code.result) (ap rule_tree c.in-ExtendCode.is) c.requires.put.is c.by_extend_code.ensures

pub returns-in-Strengthen-clause-answer : goal.returns-in-Strengthen-clause-answer
returns-in-Strengthen-clause-answer g c =
    let a = c.args in
    IfOk-weaker c.by_strengthen.result _ _ (λ r is. rule_row (group_tree a.g.now) (history_from 0 a.arena.now a.held.now.entries a.closed.now) (rule_tree a.rule.now) _ (triple_or_own a.g.now.code.ranges a.own (triple_tree a.stated.now)) (triple_of a.arena.now a.put.now) (IsTrue r) (ap rule_tree c.in-Strengthen.is) c.requires.put.is is) c.by_strengthen.ensures.answer

pub returns-in-Weaken-clause-answer : goal.returns-in-Weaken-clause-answer
returns-in-Weaken-clause-answer g c =
    let a = c.args in
    IfOk-weaker c.by_weaken.result _ _ (λ r is. rule_row (group_tree a.g.now) (history_from 0 a.arena.now a.held.now.entries a.closed.now) (rule_tree a.rule.now) _ (triple_or_own a.g.now.code.ranges a.own (triple_tree a.stated.now)) (triple_of a.arena.now a.put.now) (IsTrue r) (ap rule_tree c.in-Weaken.is) c.requires.put.is is) c.by_weaken.ensures.answer

pub returns-in-Discharge-clause-answer : goal.returns-in-Discharge-clause-answer
returns-in-Discharge-clause-answer g c =
    let a = c.args in
    IfOk-weaker c.by_discharge.result _ _ (λ r is. rule_row (group_tree a.g.now) (history_from 0 a.arena.now a.held.now.entries a.closed.now) (rule_tree a.rule.now) _ (triple_or_own a.g.now.code.ranges a.own (triple_tree a.stated.now)) (triple_of a.arena.now a.put.now) (IsTrue r) (ap rule_tree c.in-Discharge.is) c.requires.put.is is) c.by_discharge.ensures.answer

pub returns-in-UseExit-clause-answer : goal.returns-in-UseExit-clause-answer
returns-in-UseExit-clause-answer g c =
    let a = c.args in
    rule_row (group_tree a.g.now) (history_from 0 a.arena.now a.held.now.entries a.closed.now) (rule_tree a.rule.now) _ (triple_or_own a.g.now.code.ranges a.own (triple_tree a.stated.now)) (triple_of a.arena.now a.put.now) (IsTrue c.by_use_exit.result) (ap rule_tree c.in-UseExit.is) c.requires.put.is c.by_use_exit.ensures.answer

pub returns-in-Inst-clause-answer : goal.returns-in-Inst-clause-answer
returns-in-Inst-clause-answer g c =
    let a = c.args in
    IfOk-weaker c.by_inst.result _ _ (λ r is. rule_row (group_tree a.g.now) (history_from 0 a.arena.now a.held.now.entries a.closed.now) (rule_tree a.rule.now) _ (triple_or_own a.g.now.code.ranges a.own (triple_tree a.stated.now)) (triple_of a.arena.now a.put.now) (IsTrue r) (ap rule_tree c.in-Inst.is) c.requires.put.is is) c.by_inst.ensures.answer

pub returns-in-Axiom-clause-steps : goal.returns-in-Axiom-clause-steps
returns-in-Axiom-clause-steps g c = λ e. absurd (true≢false (sym e ∙ ap (λ (r : Rule). compares_numbers (rule_tree r)) c.in-Axiom.is))

pub returns-in-Inst-clause-steps : goal.returns-in-Inst-clause-steps
returns-in-Inst-clause-steps g c = λ e. absurd (true≢false (sym e ∙ ap (λ (r : Rule). compares_numbers (rule_tree r)) c.in-Inst.is))

pub returns-in-Strengthen-clause-steps : goal.returns-in-Strengthen-clause-steps
returns-in-Strengthen-clause-steps g c = λ e. absurd (true≢false (sym e ∙ ap (λ (r : Rule). compares_numbers (rule_tree r)) c.in-Strengthen.is))

pub returns-in-Weaken-clause-steps : goal.returns-in-Weaken-clause-steps
returns-in-Weaken-clause-steps g c = λ e. absurd (true≢false (sym e ∙ ap (λ (r : Rule). compares_numbers (rule_tree r)) c.in-Weaken.is))

pub returns-in-Discharge-clause-steps : goal.returns-in-Discharge-clause-steps
returns-in-Discharge-clause-steps g c = λ e. absurd (true≢false (sym e ∙ ap (λ (r : Rule). compares_numbers (rule_tree r)) c.in-Discharge.is))

pub returns-in-UseExit-clause-steps : goal.returns-in-UseExit-clause-steps
returns-in-UseExit-clause-steps g c = λ e. absurd (true≢false (sym e ∙ ap (λ (r : Rule). compares_numbers (rule_tree r)) c.in-UseExit.is))

pub returns-in-Frame-clause-steps : goal.returns-in-Frame-clause-steps
returns-in-Frame-clause-steps g c = λ e. refl

pub returns-in-Compose-clause-steps : goal.returns-in-Compose-clause-steps
returns-in-Compose-clause-steps g c = λ e. refl

pub returns-in-ExtendCode-clause-steps : goal.returns-in-ExtendCode-clause-steps
returns-in-ExtendCode-clause-steps g c = λ e. refl

pub returns-in-Axiom-clause-most : goal.returns-in-Axiom-clause-most
returns-in-Axiom-clause-most g c = λ ts has cited. omega arith

pub returns-in-Frame-clause-most : goal.returns-in-Frame-clause-most
returns-in-Frame-clause-most g c = λ ts has cited. omega arith

pub returns-in-Compose-clause-most : goal.returns-in-Compose-clause-most
returns-in-Compose-clause-most g c = λ ts has cited. omega arith

pub returns-in-ExtendCode-clause-most : goal.returns-in-ExtendCode-clause-most
returns-in-ExtendCode-clause-most g c = λ ts has cited. omega arith

pub returns-in-Inst-clause-most : goal.returns-in-Inst-clause-most
returns-in-Inst-clause-most g c = λ ts has cited.
    let within = terms_within (length ts) in
    subst (λ (r : Rule). HasSubterms ts (premise_terms (theorem_at c.args.arena.now c.args.held.now.entries) (rule_tree r)) → c.by_inst.new.steps ≤ c.args.steps.now + (nodes_of (put_in_terms (rule_tree r)) + pair_steps ts)) (sym c.in-Inst.is)
    (λ h. let le = c.by_inst.ensures.steps ts h in omega (arith, le, within)) cited

pub returns-in-Strengthen-clause-most : goal.returns-in-Strengthen-clause-most
returns-in-Strengthen-clause-most g c = λ ts has cited.
    let stated = subst (λ (t : TripleTree). HasSubterms ts (triple_terms t)) (sym c.requires.put.is) has in
    let within = pairs_within (length ts) in
    subst (λ (r : Rule). HasSubterms ts (premise_terms (theorem_at c.args.arena.now c.args.held.now.entries) (rule_tree r)) → c.by_strengthen.new.steps ≤ c.args.steps.now + (nodes_of (put_in_terms (rule_tree r)) + pair_steps ts)) (sym c.in-Strengthen.is)
    (λ h. let le = c.by_strengthen.ensures.steps ts stated h in omega (arith, le, within)) cited

pub returns-in-Weaken-clause-most : goal.returns-in-Weaken-clause-most
returns-in-Weaken-clause-most g c = λ ts has cited.
    let stated = subst (λ (t : TripleTree). HasSubterms ts (triple_terms t)) (sym c.requires.put.is) has in
    let within = pairs_within (length ts) in
    subst (λ (r : Rule). HasSubterms ts (premise_terms (theorem_at c.args.arena.now c.args.held.now.entries) (rule_tree r)) → c.by_weaken.new.steps ≤ c.args.steps.now + (nodes_of (put_in_terms (rule_tree r)) + pair_steps ts)) (sym c.in-Weaken.is)
    (λ h. let le = c.by_weaken.ensures.steps ts stated h in omega (arith, le, within)) cited

pub returns-in-UseExit-clause-most : goal.returns-in-UseExit-clause-most
returns-in-UseExit-clause-most g c = λ ts has cited.
    let stated = subst (λ (t : TripleTree). HasSubterms ts (triple_terms t)) (sym c.requires.put.is) has in
    let within = looks_within (length ts) in
    subst (λ (r : Rule). HasSubterms ts (premise_terms (theorem_at c.args.arena.now c.args.held.now.entries) (rule_tree r)) → c.by_use_exit.new.steps ≤ c.args.steps.now + (nodes_of (put_in_terms (rule_tree r)) + pair_steps ts)) (sym c.in-UseExit.is)
    (λ h. let le = c.by_use_exit.ensures.steps ts stated in omega (arith, le, within)) cited

pub returns-in-Discharge-clause-most : goal.returns-in-Discharge-clause-most
returns-in-Discharge-clause-most g c = λ ts has cited.
    let stated = subst (λ (t : TripleTree). HasSubterms ts (triple_terms t)) (sym c.requires.put.is) has in
    let within = searches_within (length ts) in
    subst (λ (r : Rule). HasSubterms ts (premise_terms (theorem_at c.args.arena.now c.args.held.now.entries) (rule_tree r)) → c.by_discharge.new.steps ≤ c.args.steps.now + (nodes_of (put_in_terms (rule_tree r)) + pair_steps ts)) (sym c.in-Discharge.is)
    (λ h. let le = c.by_discharge.ensures.steps ts stated h in omega (arith, le, within)) cited
