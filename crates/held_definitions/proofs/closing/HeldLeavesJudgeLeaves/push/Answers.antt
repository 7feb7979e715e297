use Rattle.std.proofs.Common.{List, [], ◌∷◌, ◌++◌, map, refl, sym, ap, ◌∙◌, subst, arith}
use Rattle.std.proofs.lemmas.List.{map-append}
use Rattle.triple_kernel.specs.declared.triple.Fact.{Fact}
use Rattle.triple_kernel.specs.Tree.{fact_tree}
use Rattle.tailrec_lang.specs.Tree.{def_tree, group_tree}
use Rattle.held_definitions.specs.Theorems.{theorem_at}
use Rattle.held_definitions.specs.inner.Asked.{closing_with}
use Rattle.held_definitions.proofs.AskedLemmas.{asked_put}
use Rattle.held_definitions.specs.inner.Leaves.{AreFirstOf}
use Rattle.held_terms.proofs.GrowthLemmas.{extends_none}
use Rattle.held_definitions.proofs.LeafLemmas.{first_pushed, held_went}
use Rattle.held_definitions.proofs.closing.HeldLeavesJudgeLeaves.push.Goals as goal

pub returns-clause-went : goal.returns-clause-went
returns-clause-went g c =
    let old = c.args.self.now in
    let group = group_tree old.group.now in
    let def = def_tree old.def.now in
    let theorem = theorem_at old.arena.now old.held.now.entries in
    held_went [] old _ refl refl refl (record { arena = refl; grows = extends_none old.arena.now; steps = refl }) c.requires
    (record {
      held = c.requires.held;
      marked = c.requires.marked;
      first = first_pushed old.arena.now old.put.now (map fact_tree old.way.now) (map fact_tree c.push.new.self) (fact_tree c.args.fact) c.requires.first
          (ap (map fact_tree) c.in_ok-push.ensures.ok ∙ map-append fact_tree old.way.now (c.args.fact ∷ []));
      asked = asked_put group def theorem theorem (map fact_tree old.way.now ++ fact_tree c.args.fact ∷ []) (map fact_tree c.push.new.self) c.push-2.new.self refl
          (ap (map fact_tree) c.in_ok-push.ensures.ok ∙ map-append fact_tree old.way.now (c.args.fact ∷ []))
          (c.push-2.ensures (closing_with group def theorem) (map fact_tree old.way.now) (fact_tree c.args.fact) c.requires.asked);
    }) (omega arith)

pub returns-in_err-push-clause-went : goal.returns-in_err-push-clause-went
returns-in_err-push-clause-went g c =
    let old = c.args.self.now in
    let group = group_tree old.group.now in
    let def = def_tree old.def.now in
    let theorem = theorem_at old.arena.now old.held.now.entries in
    held_went [] old _ refl refl refl (record { arena = refl; grows = extends_none old.arena.now; steps = refl }) c.requires
    (record {
      held = c.requires.held;
      marked = c.requires.marked;
      first = subst (λ (fs : List Fact). AreFirstOf old.arena.now old.put.now (map fact_tree fs)) (sym c.in_err-push.ensures.err) c.requires.first;
      asked = asked_put group def theorem theorem (map fact_tree old.way.now) (map fact_tree c.push.new.self) old.asked.now refl (ap (map fact_tree) c.in_err-push.ensures.err) c.requires.asked;
    }) (omega arith)
