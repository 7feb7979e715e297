use Rattle.std.proofs.Common.{List, ap, sym, ◌∙◌, subst}
use Rattle.tailrec_lang.specs.declared.group.Group.{Group}
use Rattle.tailrec_lang.specs.Tree.{group_tree}
use Rattle.triple_kernel.specs.Tree.{triple_tree}
use Rattle.proof_text.specs.Line.{Further, triple_or_own}
use Rattle.term_arena.specs.declared.node.Node.{Node}
use Rattle.term_arena.specs.Arena.{Extends}
use Rattle.held_terms.specs.Held.{triple_of}
use Rattle.held_terms.proofs.GrowthLemmas.{extends_next, held_still, same_triple}
use Rattle.verdicts.specs.Instance.{with_theorem}
use Rattle.checker.specs.Bench.{state_group, state_history, state_nodes}
use Rattle.checker.proofs.BenchLemmas.{further_same, same_with}
use Rattle.verdicts.specs.Further.{further_of}
use Rattle.checker.proofs.bench.Bench.state_further.Goals as goal

pub by_further-requires-clause-put : goal.by_further-requires-clause-put
by_further-requires-clause-put g c = c.in_ok-put.ensures.put.at

pub by_further-requires-clause-own : goal.by_further-requires-clause-own
by_further-requires-clause-own g c = λ own. c.in_ok-put.ensures.own own ∙ sym (ap (λ (k : Group). (group_tree k).code) c.put.ensures.group)

pub keep_given-requires-clause-there : goal.keep_given-requires-clause-there
keep_given-requires-clause-there g c =
    held_still (state_nodes c.put.new.self) (state_nodes c.by_further.new.self) c.by_further.ensures.grows c.in_ok-put.put c.in_ok-put.ensures.put.at

pub keep_given-requires-clause-sound : goal.keep_given-requires-clause-sound
keep_given-requires-clause-sound g c =
    let old = c.args.self.now in
    let one = c.put.new.self in
    let two = c.by_further.new.self in
    let t = triple_or_own (state_group c.args.self.now).code c.args.own (triple_tree c.args.stated.now) in
    let so = (further_same (further_of c.args.version) c.args.cited (state_history old) (state_history one) t (triple_of (state_nodes one) c.in_ok-put.put) c.put.ensures.same c.in_ok-put.ensures.put.is).0 (c.in_ok-so.ensures.answer.0 c.if-not-so.false) in
    let sound = c.law_of_lines.ensures c.args.version (state_group old) c.law_of_bench.ensures.well_formed (state_history old) c.law_of_bench.ensures.sound (Further c.args.cited t) so in
    same_with (state_group old) (state_group two) (state_history old) (state_history two) t (triple_of (state_nodes two) c.in_ok-put.put) sound
    (ap group_tree (c.by_further.ensures.group ∙ c.put.ensures.group)) (c.by_further.ensures.same ∙ c.put.ensures.same)
    (same_triple (state_nodes one) (state_nodes two) c.by_further.ensures.grows c.in_ok-put.put c.in_ok-put.ensures.put.at ∙ c.in_ok-put.ensures.put.is)

pub returns-clause-instance : goal.returns-clause-instance
returns-clause-instance g c =
    let one = c.put.new.self in
    (further_same (further_of c.args.version) c.args.cited (state_history c.args.self.now) (state_history one) (triple_or_own (state_group c.args.self.now).code c.args.own (triple_tree c.args.stated.now)) (triple_of (state_nodes one) c.in_ok-put.put) c.put.ensures.same c.in_ok-put.ensures.put.is).0 (c.in_ok-so.ensures.answer.0 c.if-not-so.false)

pub returns-clause-after : goal.returns-clause-after
returns-clause-after g c =
    let one = c.put.new.self in
    let two = c.by_further.new.self in
    let same = c.by_further.ensures.same ∙ c.put.ensures.same in
    let t = same_triple (state_nodes one) (state_nodes two) c.by_further.ensures.grows c.in_ok-put.put c.in_ok-put.ensures.put.at ∙ c.in_ok-put.ensures.put.is in
    c.in_ok-keep_given.ensures.after ∙ (λ i. with_theorem (t i) (same i))

pub returns-clause-grows : goal.returns-clause-grows
returns-clause-grows g c =
    let old = state_nodes c.args.self.now in
    let two = state_nodes c.by_further.new.self in
    subst (λ (ns : List Node). Extends old ns) (sym c.keep_given.ensures.nodes) (extends_next old (state_nodes c.put.new.self) two c.put.ensures.grows c.by_further.ensures.grows)

pub returns-then-not-so-clause-no_instance : goal.returns-then-not-so-clause-no_instance
returns-then-not-so-clause-no_instance g c = λ e m.
    let one = c.put.new.self in
    let yes = c.in_ok-so.ensures.answer.1 ((further_same (further_of c.args.version) c.args.cited (state_history c.args.self.now) (state_history one) (triple_or_own (state_group c.args.self.now).code c.args.own (triple_tree c.args.stated.now)) (triple_of (state_nodes one) c.in_ok-put.put) c.put.ensures.same c.in_ok-put.ensures.put.is).1 m) in
    absurd (cc)
