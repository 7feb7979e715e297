use Rattle.std.proofs.Common.{◌≤◌, List, Bool, length, subst, arith}
use Rattle.loop_forest.specs.inner.Found.{IsFound, heads}
use Rattle.loop_forest.specs.inner.Kept.{AreRegions}
use Rattle.loop_forest.specs.inner.Bases.{AreBases, ArePlaces}
use Rattle.loop_forest.specs.declared.heads.Found.{Found}
use Rattle.loop_forest.specs.declared.heads.LoopWithExits.{LoopWithExits}
use Rattle.loop_forest.proofs.BaseLemmas.{has_bases, head_below}
use Rattle.loop_forest.proofs.SmallestLoop.{loops_few}
use Rattle.loop_forest.proofs.ForestLemmas.{forest_is, kept, many_of_order}
use Rattle.loop_forest.proofs.forest.forest_from.Goals as goal

pub addr-requires : goal.addr-requires
addr-requires c =
    let m = subst (λ (z : Found). IsFound c.args.g.now z) c.in-TooManyExits.is c.in_ok-h.ensures in
    head_below c.args.g.now c.in-TooManyExits.h c.len-count.ensures.flow m.head

pub region_table-requires-clause-few : goal.region_table-requires-clause-few
region_table-requires-clause-few c =
    let a = subst (λ (z : Found). IsFound c.args.g.now z) c.in-Loops.is c.in_ok-h.ensures in
    let few = loops_few c.args.g.now c.in-Loops.loops.items a in
    let limit : length c.args.g.now.addrs ≤ 1024 = c.len-count.ensures.flow.few in
    rw c.deref-in-Loops.ensures.value (omega (arith, few, limit))

pub places-requires : goal.places-requires
places-requires c =
    let a = subst (λ (z : Found). IsFound c.args.g.now z) c.in-Loops.is c.in_ok-h.ensures in
    let t = subst (λ (z : List LoopWithExits). AreBases c.args.g.now z c.in_ok-base-in-Loops.base.items (length c.args.g.now.addrs)) c.deref-in-Loops-2.ensures.value c.in_ok-base-in-Loops.ensures in
    rw (c.deref-in-Loops-3.ensures.value, c.deref-in-Loops-4.ensures.value)
    (record { bases = has_bases c.args.g.now c.in-Loops.loops.items c.args.marks.items c.in_ok-base-in-Loops.base.items c.len-count.ensures.flow a t c.requires.in_post_order c.requires.few })

pub invariant_of-result : goal.invariant_of-result
invariant_of-result c =
    let a = subst (λ (z : Found). IsFound c.args.g.now z) c.in-Loops.is c.in_ok-h.ensures in
    let r = subst (λ (z : List LoopWithExits). AreRegions c.args.g.now (heads z) c.in_ok-regions-in-Loops.regions.items (length c.args.g.now.addrs)) c.deref-in-Loops.ensures.value c.in_ok-regions-in-Loops.ensures in
    kept c.args.g.now c.in-Loops.loops.items c.in_ok-regions-in-Loops.regions.items c.args.marks.items c.deref-in-Loops-4.result.now c.in_ok-places-in-Loops.places.items c.len-count.ensures.flow c.requires a r c.in_ok-places-in-Loops.ensures

pub returns-in-TooManyExits-clause-err : goal.returns-in-TooManyExits-clause-err
returns-in-TooManyExits-clause-err c =
    let m = subst (λ (z : Found). IsFound c.args.g.now z) c.in-TooManyExits.is c.in_ok-h.ensures in
    many_of_order c.args.g.now c.args.marks.items c.in-TooManyExits.h c.addr.result c.len-count.ensures.flow c.requires.in_post_order m c.addr.ensures

pub returns-in_ok-places-in-Loops-clause-ok : goal.returns-in_ok-places-in-Loops-clause-ok
returns-in_ok-places-in-Loops-clause-ok c =
    let a = subst (λ (z : Found). IsFound c.args.g.now z) c.in-Loops.is c.in_ok-h.ensures in
    let r = subst (λ (z : List LoopWithExits). AreRegions c.args.g.now (heads z) c.in_ok-regions-in-Loops.regions.items (length c.args.g.now.addrs)) c.deref-in-Loops.ensures.value c.in_ok-regions-in-Loops.ensures in
    let t = subst (λ (z : List LoopWithExits). AreBases c.args.g.now z c.in_ok-base-in-Loops.base.items (length c.args.g.now.addrs)) c.deref-in-Loops-2.ensures.value c.in_ok-base-in-Loops.ensures in
    let p = subst (λ (z : List Bool). ArePlaces c.args.g.now z c.in_ok-places-in-Loops.places.items (length c.args.g.now.addrs)) c.deref-in-Loops-4.ensures.value c.in_ok-places-in-Loops.ensures in
    forest_is c.args.g.now c.in-Loops.loops.items c.in_ok-regions-in-Loops.regions.items c.args.marks.items c.in_ok-base-in-Loops.base.items c.in_ok-places-in-Loops.places.items c.len-count.ensures.flow c.requires a r t p
