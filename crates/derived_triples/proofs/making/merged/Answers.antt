use Rattle.std.proofs.Common.{get_or, sym, subst}
use Rattle.std.proofs.lemmas.List.{get_or_default}
use Rattle.derived_triples.proofs.Merging.{Merged, merged_first, merged_none, merged_rise, merged_second}
use Rattle.derived_triples.proofs.making.merged.Goals as goal

pub loop-i-init : goal.loop-i-init
loop-i-init c = subst (Merged c.args.a.now c.args.b.now 0 0) (sym c.new-all.ensures) (merged_none c.args.a.now c.args.b.now c.requires.a c.requires.b)

pub loop-i-preserved-then-comes_first : goal.loop-i-preserved-then-comes_first
loop-i-preserved-then-comes_first c =
    let a = c.args.a.now in
    let b = c.args.b.now in
    let first = c.comes_first.ensures.yes c.if-comes_first.true in
    subst (Merged a b _ c.loop-i.j) (sym c.in_ok-push.ensures.ok)
    (merged_first a b c.loop-i.i c.loop-i.j c.loop-i.all (get_or a c.loop-i.i (0, 0)) c.loop-i.invariant (get_or_default a c.loop-i.i (0, 0) (get_or a c.loop-i.i (0, 0)) first.within) first)

pub loop-i-preserved : goal.loop-i-preserved
loop-i-preserved c =
    let a = c.args.a.now in
    let b = c.args.b.now in
    let first = c.comes_first.ensures.no c.if-comes_first.false in
    subst (Merged a b c.loop-i.i _) (sym c.in_ok-push-2.ensures.ok)
    (merged_second a b c.loop-i.i c.loop-i.j c.loop-i.all (get_or b c.loop-i.j (0, 0)) c.loop-i.invariant (get_or_default b c.loop-i.j (0, 0) (get_or b c.loop-i.j (0, 0)) first.within) first)

pub returns-clause-rise : goal.returns-clause-rise
returns-clause-rise c = merged_rise c.args.a.now c.args.b.now c.loop-i.i c.loop-i.j c.loop-i.all c.loop-i.invariant
