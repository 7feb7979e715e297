use Rattle.std.proofs.Common.{List, map, ap, ◌∙◌}
use Rattle.code_parts.specs.declared.order.Ranked.{Ranked}
use Rattle.code_parts.proofs.PartOrder.{are-parts, listed_all}
use Rattle.code_parts.proofs.order.parts_of.Goals as goal

pub returns : goal.returns
returns c =
    are-parts c.args.graph.now c.args.forest.now c.len.ensures.flow c.requires c.add_rests.new.all.items c.sort.new.all.items c.in_ok-parts.parts
    (listed_all c.args.graph.now c.args.forest.now c.new-all.result.items c.add_loops.new.all.items c.add_rests.new.all.items c.new-all.ensures.items c.in_ok-add_loops.ensures.parts c.in_ok-add_rests.ensures.parts)
    c.in_ok-add_rests.ensures.ranked c.sort.ensures.moved c.in_ok-sort.ensures.sorted
    (c.in_ok-parts.ensures ∙ ap (λ (rs : List Ranked). map (λ (r : Ranked). r.part) rs) c.deref.ensures.value)
