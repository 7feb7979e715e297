use Rattle.std.proofs.Common.{◌≡◌, ℕ, List, [], ◌∷◌, ◌++◌, get_or, map, refl, sym, ◌∙◌, subst, arith, None, Some}
use Rattle.std.proofs.lemmas.Option.{slice_get-get_or}
use Rattle.std.specs.Prelude.{slice_get}
use Rattle.word_terms.specs.Tree.{Const}
use Rattle.tailrec_lang.specs.declared.group.Exit.TheVariants.{At}
use Rattle.triple_kernel.specs.Tree.{Gives}
use Rattle.code_parts.specs.declared.part.Part.TheVariants.{Loop}
use Rattle.code_parts.specs.Bodies.{Flow, VariableMap, arms_over, current, end_at, fresh, start}
use Rattle.path_walk.specs.inner.Acts.{results_at}
use Rattle.code_parts.specs.Kept.{flow_in}
use Rattle.path_walk.specs.inner.Lines.{ArmsLead}
use Rattle.path_walk.specs.inner.Writers.{Leads, CitedTree, StepsBy, writer_tree, cited_tree}
use Rattle.code_parts.specs.VariableMaps.{place_of}
use Rattle.path_walk.proofs.ClosingLines.{left_next, left_none}
use Rattle.path_walk.proofs.PartWalks.{exit_end}
use Rattle.path_walk.proofs.cut_lines.head_lines.Goals as goal

pub end_lines-requires-clause-end : goal.end_lines-requires-clause-end
end_lines-requires-clause-end c =
    let f : Flow = flow_in c.args.flow.now in
    let targets = c.exits-targets.result.now in
    let k : ℕ = c.loop-x.x-index in
    let at : slice_get targets k ≡ Some (get_or targets k 0) = slice_get-get_or targets k 0 (omega arith) in
    exit_end f c.args.p c.args.l k (get_or targets k 0) c.law_of_graphs.ensures c.requires.loops c.requires.around ((λ i. slice_get (sym c.exits-targets.ensures.are i) k) ∙ at)

pub loop-x-preserved : goal.loop-x-preserved
loop-x-preserved c =
    let f : Flow = flow_in c.args.flow.now in
    let d : ℕ = f.number (Loop c.args.l) in
    let targets : List ℕ = c.exits-targets.result.now in
    let k : ℕ = c.loop-x.x-index in
    let x : ℕ = get_or targets k 0 in
    let at : slice_get targets k ≡ Some x = slice_get-get_or targets k 0 (omega arith) in
    let t : CitedTree = cited_tree c.in_ok-t.t in
    let first : place_of c.fresh-start.result ≡ start f = c.fresh-start.ensures.is in
    let next : place_of c.fresh-next.result ≡ fresh f (start f).words (start f).mems = c.fresh-next.ensures.is ∙ (λ i. fresh f (first i).words (first i).mems) in
    let steps = subst (λ (v : VariableMap). StepsBy f c.entry_of-entry.result c.args.flow.now.code d (writer_tree c.loop-x.log) (writer_tree c.exit_step.new.log) (Const (f.addr (f.head c.args.l))) v None (Const c.addr.result)
    (fresh f v.words v.mems) (Gives d c.loop-x.k (current f v) (results_at f (At c.addr.result) v.words v.mems) ∷ []) t) first c.in_ok-t.ensures.steps in
    let led = subst (λ (u : VariableMap). Leads f c.args.p c.args.flow.now.code (writer_tree c.exit_step.new.log) (writer_tree c.end_lines.new.log) (Const (f.addr x)) u (Some t) (end_at f c.args.p x u)) next c.in_ok-end_lines.ensures in
    record {
      count = omega arith;
      left = left_next _ _ _ _ _ _ _ _ _ _ _ _ _ _ c.entry_of-entry.result c.loop-x.k c.addr.result k x t
          c.entry_of-entry.ensures c.loop-x.invariant.count c.addr.ensures at c.loop-x.invariant.left steps led;
    }

pub returns : goal.returns
returns c =
    let f : Flow = flow_in c.args.flow.now in
    let p = c.args.p in
    let v : VariableMap = start f in
    let done = left_none _ _ _ _ _ _ _ _ _ _ _ _ c.loop-x.x-index (omega arith) refl c.loop-x.invariant.left in
    subst (λ (xs : List ℕ). ArmsLead f p c.args.flow.now.code (f.number (Loop c.args.l)) (writer_tree c.args.log.now) (writer_tree c.loop-x.log) (Const (f.addr (f.head c.args.l))) v None (map (λ x. At (f.addr x)) xs ++ []) 0
    (arms_over xs (λ x. end_at f p x (fresh f v.words v.mems)))) c.exits-targets.ensures.are done
