use Rattle.std.proofs.Common.{List, ap, sym, ◌∙◌, subst, IfOk, IsTrue}
use Rattle.std.specs.Prelude.{◌↔◌, Bool}
use Rattle.std.proofs.lemmas.Result.{IfOk-weaker}
use Rattle.rv_words.specs.declared.range.Range.{Range}
use Rattle.tailrec_lang.specs.Tree.{group_tree}
use Rattle.term_arena.specs.Arena.{Extends}
use Rattle.triple_kernel.specs.Tree.{triple_tree}
use Rattle.proof_text.specs.Line.{rule_tree, triple_or_own}
use Rattle.verdicts.specs.Instance.{Meets}
use Rattle.checker.specs.Bench.{BenchState, history_from, state_group, state_history, state_nodes}
use Rattle.held_terms.specs.Terms.{HasSubterms}
use Rattle.checker.specs.LineTerms.{premise_terms}
use Rattle.held_terms.specs.inner.Put.{IsHeldPut}
use Rattle.checker.proofs.BenchLemmas.{history_stays, sound_grown}
use Rattle.checker.proofs.RuleLemmas.{same_next}
use Rattle.checker.proofs.bench.Bench.meets.Goals as goal

pub meets-requires-clause-held : goal.meets-requires-clause-held
meets-requires-clause-held g c = c.self.invariant.0.there

pub meets-requires-clause-put : goal.meets-requires-clause-put
meets-requires-clause-put g c = subst (λ (k : BenchState). IsHeldPut (state_nodes k) c.args.put.now (triple_or_own (state_group k).code c.args.own (triple_tree c.args.stated.now))) (sym c.self.view_is) c.requires.put

pub meets-requires-clause-marked : goal.meets-requires-clause-marked
meets-requires-clause-marked g c = c.self.invariant.1.theorems

pub meets-requires-clause-own : goal.meets-requires-clause-own
meets-requires-clause-own g c = λ own. c.requires.own own ∙ sym (ap (λ (k : BenchState). (state_group k).code) c.self.view_is)

pub invariant_of-self : goal.invariant_of-self
invariant_of-self g c =
    let s = c.self.inside in
    let grows = c.meets.ensures.grows in
    (sound_grown s.arena c.meets.new.arena grows s.group.now s.held.entries s.next s.closed c.self.invariant.0, c.self.invariant.1)

pub returns-clause-same : goal.returns-clause-same
returns-clause-same g c =
    let s = c.self.inside in
    history_stays s.arena c.meets.new.arena c.meets.ensures.grows s.group.now s.held.entries s.next s.closed c.self.invariant.0.there ∙ ap state_history c.self.view_is

pub returns-clause-grows : goal.returns-clause-grows
returns-clause-grows g c = subst (λ (k : BenchState). Extends (state_nodes k) c.meets.new.arena) c.self.view_is c.meets.ensures.grows

pub returns-clause-answer : goal.returns-clause-answer
returns-clause-answer g c =
    let s = c.self.inside in
    let r = rule_tree c.args.rule.now in
    let t = λ (own : List Range). triple_or_own own c.args.own (triple_tree c.args.stated.now) in
    let answer = subst (λ (cs : List Bool). IfOk c.meets.result (λ b. IsTrue b ↔ Meets (group_tree s.group.now) (history_from 0 s.arena s.held.entries cs) r (t s.group.now.code.ranges))) c.as_slice.ensures c.meets.ensures.answer in
    subst (λ (k : BenchState). IfOk c.meets.result (λ b. IsTrue b ↔ Meets (state_group k) (state_history k) r (t (state_group k).code))) c.self.view_is
    (IfOk-weaker c.meets.result _ _ (λ b is. same_next (group_tree s.group.now) s.next s.arena s.held.entries s.closed r (t s.group.now.code.ranges) (IsTrue b) is) answer)

pub returns-clause-most : goal.returns-clause-most
returns-clause-most g c = λ ts has cited.
    c.meets.ensures.most ts has (subst (λ (k : BenchState). HasSubterms ts (premise_terms (state_history k).theorem (rule_tree c.args.rule.now))) (sym c.self.view_is) cited)
