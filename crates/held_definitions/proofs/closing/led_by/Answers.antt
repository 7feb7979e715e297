use Rattle.std.proofs.Common.{map, sym}
use Rattle.tailrec_lang.specs.Tree.{def_tree, group_tree}
use Rattle.held_terms.specs.Held.{fact_of, triple_of}
use Rattle.held_definitions.specs.Theorems.{theorem_at}
use Rattle.held_definitions.proofs.AskedLemmas.{knows_of}
use Rattle.held_definitions.proofs.closing.led_by.Goals as goal

pub leads-requires-clause-known : goal.leads-requires-clause-known
leads-requires-clause-known g c =
    let ns = c.args.arena.now in
    knows_of (group_tree c.args.g.now) (def_tree c.args.def.now) (theorem_at ns c.args.held.now.entries) (map (fact_of ns) c.args.way.now) c.args.number c.args.asked.now (triple_of ns c.in-Some.p.now) (sym c.in-Some.ensures.theorem) c.requires.asked
