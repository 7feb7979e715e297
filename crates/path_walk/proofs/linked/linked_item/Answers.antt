use Rattle.std.proofs.Common.{◌≡◌, List, [], length, map, refl, sym, ap, ◌∙◌, subst, arith, Some}
use Rattle.std.proofs.lemmas.Option.{slice_get-get_or}
use Rattle.std.specs.Prelude.{slice_get}
use Rattle.std.specs.List.{sum_by}
use Rattle.tailrec_lang.specs.Tree.{DefTree, GroupTree, def_tree}
use Rattle.group_text.specs.declared.version.Version.TheVariants.{Three}
use Rattle.proof_text.specs.Line.{LineTree, line_tree}
use Rattle.verdicts.specs.Instance.{after_lines}
use Rattle.code_parts.specs.Functions.{size_of}
use Rattle.code_parts.specs.declared.linked.LinkedFunction.{LinkedFunction}
use Rattle.path_walk.specs.Closed.{AreClosedIn}
use Rattle.path_walk.specs.inner.LinkedWalks.{AreWalkedOf}
use Rattle.path_walk.proofs.FunctionsInOrder.{all-walked, can-be, group-same, none_of, one-of, walked_of_more}
use Rattle.path_walk.proofs.linked.linked_item.Goals as goal

pub loop-function-init : goal.loop-function-init
loop-function-init c =
    let defs : map def_tree c.new-defs.result ≡ [] = ap (map def_tree) c.new-defs.ensures in
    let lines : map line_tree c.new-lines.result ≡ [] = ap (map line_tree) c.new-lines.ensures in
    let none = none_of c.args.group.now c.args.name (c.law_of_walks.ensures c.args.name) c.requires.group.based (one-of c.args.group.now c.requires.group) in (
      subst (λ (ds : List DefTree). AreWalkedOf c.args.group.now 0 ds (map line_tree c.new-lines.result)) (sym defs) (subst (λ (ls : List LineTree). AreWalkedOf c.args.group.now 0 [] ls) (sym lines) none),
      sym (ap (λ (ls : List LineTree). (after_lines ls).next) lines),
      λ k. ap (λ (ls : List LineTree). (after_lines ls).theorem k) lines,
    )

pub walk_function-requires-clause-function : goal.walk_function-requires-clause-function
walk_function-requires-clause-function c =
    can-be c.args.group.now c.args.name (c.law_of_walks.ensures c.args.name) c.requires.group.based (one-of c.args.group.now c.requires.group) c.loop-function.function-index c.function-item.result
    ((λ i. slice_get (sym c.as_slice-function-items.ensures i) c.loop-function.function-index) ∙ slice_get-get_or c.as_slice-function-items.result.now c.loop-function.function-index c.function-item.result c.loop-function-test.true ∙ ap Some (sym c.function-item.is))

pub walk_function-requires-clause-first : goal.walk_function-requires-clause-first
walk_function-requires-clause-first c = c.loop-function.invariant.1

pub loop-function-preserved : goal.loop-function-preserved
loop-function-preserved c = (
  walked_of_more c.args.group.now c.args.name (c.law_of_walks.ensures c.args.name) c.requires.group.based (one-of c.args.group.now c.requires.group) c.loop-function.function-index c.function-item.result
      (map def_tree c.loop-function.defs) (map def_tree c.walk_function.new.defs) (map line_tree c.loop-function.lines) (map line_tree c.walk_function.new.lines)
      ((λ i. slice_get (sym c.as_slice-function-items.ensures i) c.loop-function.function-index) ∙ slice_get-get_or c.as_slice-function-items.result.now c.loop-function.function-index c.function-item.result c.loop-function-test.true ∙ ap Some (sym c.function-item.is))
      c.loop-function.invariant.0 c.in_ok-next.ensures.defs c.in_ok-next.ensures.lines,
  c.in_ok-next.ensures.next,
  c.in_ok-next.ensures.kept c.loop-function.invariant.2,
)

pub size_of-reached-requires : goal.size_of-reached-requires
size_of-reached-requires c =
    let few = c.requires.functions.are.few in
    let same = ap (λ (fs : List LinkedFunction). sum_by size_of (map (λ f. f.function.now) fs)) c.as_slice.ensures in
    omega (arith, few, same)

pub returns-clause-item : goal.returns-clause-item
returns-clause-item c =
    let all : c.loop-function.function-index ≡ length c.as_slice-function-items.result.now = omega arith in
    let count : c.loop-function.function-index ≡ length c.args.group.now.functions = all ∙ ap (λ (fs : List LinkedFunction). length fs) c.as_slice-function-items.ensures in
    let walked = all-walked c.args.group.now c.args.name (c.law_of_walks.ensures c.args.name) c.requires.group.based (one-of c.args.group.now c.requires.group) c.loop-function.function-index
    (map def_tree c.loop-function.defs) (map line_tree c.loop-function.lines) count c.loop-function.invariant.0 in
    let regs = c.in_ok-regs.ensures ∙ c.as_slice-2.ensures in
    let same = group-same c.args.group.now c.args.name (record { name = c.args.name; regs = c.in_ok-regs.regs; mems = c.args.group.now.mems; code = c.in_ok-code.code.ranges; defs = map def_tree c.loop-function.defs }) refl regs refl
    c.in_ok-code.ensures walked.1 in
    record {
      group = same;
      lines = subst (λ (g : GroupTree). AreClosedIn Three g (map line_tree c.loop-function.lines)) (sym same) walked.0;
      fine = c.loop-function.invariant.0.fine;
      reached = c.size_of-reached.ensures ∙ ap (λ (fs : List LinkedFunction). sum_by size_of (map (λ f. f.function.now) fs)) c.as_slice.ensures;
    }

pub returns-clause-kept : goal.returns-clause-kept
returns-clause-kept c = c.loop-function.invariant.2
