use Rattle.std.proofs.Common.{◌≡◌, ◌+◌, ◌<◌, ◌++◌, List, drop, get_or, length, map, refl, sym, ap, subst, ◌∙◌, arith}
use Rattle.std.proofs.lemmas.Bool.Decides.{nat_tests}
use Rattle.tailrec_lang.specs.declared.group.Def.{Def}
use Rattle.tailrec_lang.specs.Tree.{def_tree, group_tree}
use Rattle.fun_laws.specs.declared.log.Log.{Log}
use Rattle.fun_laws.specs.Rewriting.{AreRewritingSteps}
use Rattle.fun_laws.specs.inner.Simplified.{AreSimpleDefs, IsSimplifiedDef}
use Rattle.fun_laws.proofs.SimpleBodies.{defs_ended, defs_more, defs_simple, defs_simple_more, one-longer}
use Rattle.fun_laws.proofs.simplification.simplify.Goals as goal

pub loop-def-preserved : goal.loop-def-preserved
loop-def-preserved c =
    let defs = c.args.g.now.defs in
    let same = c.as_slice-def-items.ensures in
    let i = c.loop-def.def-index in
    let so = c.loop-def.invariant in
    let more = c.in_ok-push.ensures.ok in
    let log : Log = record { def = c.loop-def.log.def; term = 0; place = c.loop-def.log.place; steps = c.loop-def.log.steps } in
    let done : IsSimplifiedDef log c.simple_def.new.log (def_tree c.def-item.result) (def_tree c.in_ok-d.d) = c.in_ok-d.ensures in
    let low : i < length defs = subst (λ (zs : List Def). i < length zs) same c.loop-def-test.true in
    let is : c.def-item.result ≡ get_or defs i c.def-item.result = subst (λ (zs : List Def). c.def-item.result ≡ get_or zs i c.def-item.result) same c.def-item.is in (
      subst (λ (zs : List Def). AreRewritingSteps c.simple_def.new.log.steps (map def_tree defs) (map def_tree zs ++ map def_tree (drop (i + 1) defs))) (sym more)
          (defs_more def_tree defs c.loop-def.result i c.def-item.result c.in_ok-d.d c.loop-def.log log c.simple_def.new.log low is so.2 so.3 refl refl so.4 refl refl so.0 done),
      subst (λ (zs : List Def). AreSimpleDefs (map def_tree zs)) (sym more) (defs_simple_more c.loop-def.result c.in_ok-d.d so.1 done.simple),
      subst (λ (zs : List Def). length zs ≡ i + 1) (sym more) (one-longer c.loop-def.result c.in_ok-d.d ∙ ap (λ k. k + 1) so.2),
      c.in_ok-log.ensures ∙ ap (λ k. k + 1) (done.made.def ∙ so.3),
      done.made.place ∙ so.4,
    )

pub returns-clause-simple : goal.returns-clause-simple
returns-clause-simple c = defs_simple (map def_tree c.loop-def.result) c.loop-def.invariant.1

pub returns-clause-same : goal.returns-clause-same
returns-clause-same c =
    let end : c.loop-def.def-index ≡ length c.as_slice-def-items.result.now = grind (arith, nat_tests, c.loop-def.auto.def-index-end, c.loop-def-test.false) in
    let last : c.loop-def.def-index ≡ length c.args.g.now.defs = end ∙ ap (λ (zs : List Def). length zs) c.as_slice-def-items.ensures in
    c.law_of_rewriting.ensures c.loop-def.log.steps (group_tree c.args.g.now) (map def_tree c.loop-def.result) c.has_range.ensures
    (defs_ended def_tree c.args.g.now.defs c.loop-def.result c.loop-def.def-index c.loop-def.log.steps last c.loop-def.invariant.0)
