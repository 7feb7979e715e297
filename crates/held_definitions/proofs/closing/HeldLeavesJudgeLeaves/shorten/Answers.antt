use Rattle.std.proofs.Common.{[], map, take, refl, sym, ap, ◌∙◌, arith}
use Rattle.std.proofs.lemmas.List.{take-map}
use Rattle.tailrec_lang.specs.Tree.{def_tree, group_tree}
use Rattle.triple_kernel.specs.Tree.{fact_tree}
use Rattle.held_definitions.specs.Theorems.{theorem_at}
use Rattle.held_definitions.specs.inner.Asked.{closing_with}
use Rattle.held_definitions.proofs.AskedLemmas.{asked_put}
use Rattle.held_terms.proofs.GrowthLemmas.{extends_none}
use Rattle.held_definitions.proofs.LeafLemmas.{first_short, held_went}
use Rattle.held_definitions.proofs.closing.HeldLeavesJudgeLeaves.shorten.Goals as goal

pub returns-clause-way : goal.returns-clause-way
returns-clause-way g c = ap (map fact_tree) c.truncate.ensures ∙ sym (take-map fact_tree c.args.length c.args.self.now.way.now)

pub returns-clause-went : goal.returns-clause-went
returns-clause-went g c =
    let old = c.args.self.now in
    let group = group_tree old.group.now in
    let def = def_tree old.def.now in
    let theorem = theorem_at old.arena.now old.held.now.entries in
    held_went [] old _ refl refl refl (record { arena = refl; grows = extends_none old.arena.now; steps = refl }) c.requires
    (record {
      held = c.requires.held;
      marked = c.requires.marked;
      first = first_short old.arena.now c.args.length old.put.now c.shorten.new.self (map fact_tree old.way.now) (map fact_tree c.truncate.new.self) c.requires.first c.shorten.ensures
          (ap (map fact_tree) c.truncate.ensures ∙ sym (take-map fact_tree c.args.length old.way.now));
      asked = asked_put group def theorem theorem (take c.args.length (map fact_tree old.way.now)) (map fact_tree c.truncate.new.self) c.shorten-2.new.self refl
          (ap (map fact_tree) c.truncate.ensures ∙ sym (take-map fact_tree c.args.length old.way.now))
          (c.shorten-2.ensures (closing_with group def theorem) (map fact_tree old.way.now) c.requires.asked);
    }) (omega arith)
