use Rattle.std.proofs.Common.{ℕ, ◌+◌, ◌≤◌, List, Option, ap, sym, ◌∙◌, subst, arith}
use Rattle.tailrec_lang.specs.Tree.{group_tree}
use Rattle.triple_kernel.specs.Tree.{TripleTree, triple_tree}
use Rattle.proof_text.specs.Line.{States, rule_tree, triple_or_own}
use Rattle.term_arena.specs.declared.node.Node.{Node}
use Rattle.term_arena.specs.Arena.{Extends}
use Rattle.held_terms.specs.Held.{triple_of}
use Rattle.held_terms.proofs.GrowthLemmas.{extends_next, held_still, same_triple}
use Rattle.verdicts.specs.Instance.{History, Meets, with_theorem}
use Rattle.checker.specs.Bench.{state_group, state_history, state_nodes}
use Rattle.held_terms.specs.Terms.{HasSubterms, nodes_of, triple_terms}
use Rattle.checker.specs.LineTerms.{premise_terms, put_in_terms}
use Rattle.held_terms.proofs.PutSteps.{nodes_then}
use Rattle.checker.specs.inner.Sharing.{IsGiven}
use Rattle.checker.proofs.BenchLemmas.{meets_over, meets_same, same_with}
use Rattle.checker.proofs.OwnLines.{given_by}
use Rattle.group_text.specs.declared.version.Version.TheVariants.{One}
use Rattle.checker.proofs.bench.Bench.state.Goals as goal

pub keep_given-requires-clause-there : goal.keep_given-requires-clause-there
keep_given-requires-clause-there g c =
    held_still (state_nodes c.put.new.self) (state_nodes c.meets.new.self) c.meets.ensures.grows c.in_ok-put.put c.in_ok-put.ensures.put.at

pub keep_given-requires-clause-sound : goal.keep_given-requires-clause-sound
keep_given-requires-clause-sound g c =
    let old = c.args.self.now in
    let one = c.put.new.self in
    let two = c.meets.new.self in
    let by = rule_tree c.args.rule.now in
    let t = triple_or_own (state_group old).code c.args.own (triple_tree c.args.stated.now) in
    let so = (meets_over old.0 one.0 (state_history old) (state_history one) by (λ code. triple_or_own code c.args.own (triple_tree c.args.stated.now)) c.put.ensures.group c.put.ensures.same).0 (c.in_ok-so.ensures.answer.0 c.if-not-so.false) in
    let sound = c.law_of_lines.ensures One (state_group old) c.law_of_bench.ensures.well_formed (state_history old) c.law_of_bench.ensures.sound (States by t) so in
    same_with (state_group old) (state_group two) (state_history old) (state_history two) t (triple_of (state_nodes two) c.in_ok-put.put) sound
    (ap group_tree (c.meets.ensures.group ∙ c.put.ensures.group)) (c.meets.ensures.same ∙ c.put.ensures.same)
    (same_triple (state_nodes one) (state_nodes two) c.meets.ensures.grows c.in_ok-put.put c.in_ok-put.ensures.put.at ∙ c.in_ok-put.ensures.put.is)

pub keep_given-requires-clause-given : goal.keep_given-requires-clause-given
keep_given-requires-clause-given g c =
    let old = c.args.self.now in
    let one = c.put.new.self in
    let two = c.meets.new.self in
    let by = rule_tree c.args.rule.now in
    let t = triple_or_own (state_group c.args.self.now).code c.args.own (triple_tree c.args.stated.now) in
    let first = (meets_over old.0 one.0 (state_history old) (state_history one) by (λ code. triple_or_own code c.args.own (triple_tree c.args.stated.now)) c.put.ensures.group c.put.ensures.same).0 (c.in_ok-so.ensures.answer.0 c.if-not-so.false) in
    let so = (meets_same (state_group old) (state_group two) (state_history old) (state_history two) by t (ap group_tree (c.meets.ensures.group ∙ c.put.ensures.group)) (c.meets.ensures.same ∙ c.put.ensures.same)).1 first in
    let meets = subst (λ (u : TripleTree). Meets (state_group two) (state_history two) by u)
    (sym (same_triple (state_nodes one) (state_nodes two) c.meets.ensures.grows c.in_ok-put.put c.in_ok-put.ensures.put.at ∙ c.in_ok-put.ensures.put.is)) so in
    subst (λ (o : Option ℕ). IsGiven (state_history two) o c.in_ok-put.put.code.ranges) (sym c.code_giver.ensures)
    (given_by (state_group two) (state_history two) by (triple_of (state_nodes two) c.in_ok-put.put) meets)

pub returns-clause-instance : goal.returns-clause-instance
returns-clause-instance g c =
    let old = c.args.self.now in
    let one = c.put.new.self in
    (meets_over old.0 one.0 (state_history old) (state_history one) (rule_tree c.args.rule.now) (λ code. triple_or_own code c.args.own (triple_tree c.args.stated.now)) c.put.ensures.group c.put.ensures.same).0 (c.in_ok-so.ensures.answer.0 c.if-not-so.false)

pub returns-clause-after : goal.returns-clause-after
returns-clause-after g c =
    let one = c.put.new.self in
    let two = c.meets.new.self in
    let same = c.meets.ensures.same ∙ c.put.ensures.same in
    let t = same_triple (state_nodes one) (state_nodes two) c.meets.ensures.grows c.in_ok-put.put c.in_ok-put.ensures.put.at ∙ c.in_ok-put.ensures.put.is in
    c.in_ok-keep_given.ensures.after ∙ (λ i. with_theorem (t i) (same i))

pub returns-clause-grows : goal.returns-clause-grows
returns-clause-grows g c =
    let old = state_nodes c.args.self.now in
    let two = state_nodes c.meets.new.self in
    subst (λ (ns : List Node). Extends old ns) (sym c.keep_given.ensures.nodes) (extends_next old (state_nodes c.put.new.self) two c.put.ensures.grows c.meets.ensures.grows)

pub returns-then-not-so-clause-no_instance : goal.returns-then-not-so-clause-no_instance
returns-then-not-so-clause-no_instance g c = λ e m.
    let old = c.args.self.now in
    let one = c.put.new.self in
    let yes = c.in_ok-so.ensures.answer.1 ((meets_over old.0 one.0 (state_history old) (state_history one) (rule_tree c.args.rule.now) (λ code. triple_or_own code c.args.own (triple_tree c.args.stated.now)) c.put.ensures.group c.put.ensures.same).1 m) in
    absurd (cc)

pub returns-in_err-so-clause-steps : goal.returns-in_err-so-clause-steps
returns-in_err-so-clause-steps g c = λ e. subst (λ (n : ℕ). n ≤ c.args.steps.now + nodes_of (triple_terms (triple_or_own (state_group c.args.self.now).code c.args.own (triple_tree c.args.stated.now)))) (sym (c.meets.ensures.steps e)) c.put.ensures.steps

pub returns-then-not-so-clause-steps : goal.returns-then-not-so-clause-steps
returns-then-not-so-clause-steps g c = λ e. subst (λ (n : ℕ). n ≤ c.args.steps.now + nodes_of (triple_terms (triple_or_own (state_group c.args.self.now).code c.args.own (triple_tree c.args.stated.now)))) (sym (c.meets.ensures.steps e)) c.put.ensures.steps

pub returns-in_err-keep_given-clause-steps : goal.returns-in_err-keep_given-clause-steps
returns-in_err-keep_given-clause-steps g c = λ e. subst (λ (n : ℕ). n ≤ c.args.steps.now + nodes_of (triple_terms (triple_or_own (state_group c.args.self.now).code c.args.own (triple_tree c.args.stated.now)))) (sym (c.meets.ensures.steps e)) c.put.ensures.steps

pub returns-clause-steps : goal.returns-clause-steps
returns-clause-steps g c = λ e. subst (λ (n : ℕ). n ≤ c.args.steps.now + nodes_of (triple_terms (triple_or_own (state_group c.args.self.now).code c.args.own (triple_tree c.args.stated.now)))) (sym (c.meets.ensures.steps e)) c.put.ensures.steps

pub returns-in_err-put-clause-most : goal.returns-in_err-put-clause-most
returns-in_err-put-clause-most g c = λ ts has cited.
    let rule = rule_tree c.args.rule.now in
    let stated = triple_or_own (state_group c.args.self.now).code c.args.own (triple_tree c.args.stated.now) in
    let first = c.put.ensures.steps in
    let both = nodes_then (triple_terms stated) (put_in_terms rule) in
    omega (arith, first, both)

pub returns-in_err-so-clause-most : goal.returns-in_err-so-clause-most
returns-in_err-so-clause-most g c = λ ts has cited.
    let rule = rule_tree c.args.rule.now in
    let stated = triple_or_own (state_group c.args.self.now).code c.args.own (triple_tree c.args.stated.now) in
    let first = c.put.ensures.steps in
    let both = nodes_then (triple_terms stated) (put_in_terms rule) in
    let again = subst (λ (h : History). HasSubterms ts (premise_terms h.theorem rule)) (sym c.put.ensures.same) cited in
    let next = c.meets.ensures.most ts has again in
    omega (arith, first, next, both)

pub returns-then-not-so-clause-most : goal.returns-then-not-so-clause-most
returns-then-not-so-clause-most g c = λ ts has cited.
    let rule = rule_tree c.args.rule.now in
    let stated = triple_or_own (state_group c.args.self.now).code c.args.own (triple_tree c.args.stated.now) in
    let first = c.put.ensures.steps in
    let both = nodes_then (triple_terms stated) (put_in_terms rule) in
    let again = subst (λ (h : History). HasSubterms ts (premise_terms h.theorem rule)) (sym c.put.ensures.same) cited in
    let next = c.meets.ensures.most ts has again in
    omega (arith, first, next, both)

pub returns-in_err-keep_given-clause-most : goal.returns-in_err-keep_given-clause-most
returns-in_err-keep_given-clause-most g c = λ ts has cited.
    let rule = rule_tree c.args.rule.now in
    let stated = triple_or_own (state_group c.args.self.now).code c.args.own (triple_tree c.args.stated.now) in
    let first = c.put.ensures.steps in
    let both = nodes_then (triple_terms stated) (put_in_terms rule) in
    let again = subst (λ (h : History). HasSubterms ts (premise_terms h.theorem rule)) (sym c.put.ensures.same) cited in
    let next = c.meets.ensures.most ts has again in
    omega (arith, first, next, both)

pub returns-clause-most : goal.returns-clause-most
returns-clause-most g c = λ ts has cited.
    let rule = rule_tree c.args.rule.now in
    let stated = triple_or_own (state_group c.args.self.now).code c.args.own (triple_tree c.args.stated.now) in
    let first = c.put.ensures.steps in
    let both = nodes_then (triple_terms stated) (put_in_terms rule) in
    let again = subst (λ (h : History). HasSubterms ts (premise_terms h.theorem rule)) (sym c.put.ensures.same) cited in
    let next = c.meets.ensures.most ts has again in
    omega (arith, first, next, both)
