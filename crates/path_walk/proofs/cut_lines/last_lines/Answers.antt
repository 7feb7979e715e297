use Rattle.std.proofs.Common.{◌≡◌, ℕ, get_or, refl, sym, ◌∙◌, subst, arith, Some}
use Rattle.std.proofs.lemmas.Option.{slice_get-get_or}
use Rattle.std.specs.Prelude.{slice_get}
use Rattle.word_terms.specs.Tree.{Const}
use Rattle.code_parts.specs.Bodies.{Flow, VariableMap, fresh, last_at, own, rest_targets}
use Rattle.code_parts.specs.Kept.{flow_in}
use Rattle.path_walk.specs.inner.Writers.{Leads, WriterTree, writer_tree, cited_tree}
use Rattle.code_parts.specs.VariableMaps.{place_of}
use Rattle.path_walk.proofs.ClosingLines.{left_next, left_none}
use Rattle.path_walk.proofs.LeafCitations.{last_leads}
use Rattle.path_walk.proofs.cut_lines.last_lines.Goals as goal

pub loop-x-preserved : goal.loop-x-preserved
loop-x-preserved c =
    let f : Flow = flow_in c.args.flow.now in
    let v : VariableMap = place_of c.args.place.now in
    let k : ℕ = c.loop-x.x-index in
    let x : ℕ = get_or c.args.targets.now k 0 in
    let at : slice_get c.args.targets.now k ≡ Some x = slice_get-get_or c.args.targets.now k 0 (omega arith) in
    let own_at : slice_get (rest_targets f (own c.args.p)) k ≡ Some x = (λ i. slice_get (sym c.requires.targets i) k) ∙ at in
    let here : VariableMap = fresh f v.words v.mems in
    let led = subst (λ (l : WriterTree). Leads f c.args.p c.args.flow.now.code (writer_tree c.exit_step.new.log) l (Const (f.addr x)) here (Some (cited_tree c.in_ok-t.t)) (last_at f c.args.p x here))
    (sym c.in_ok-cite.ensures) (last_leads f c.args.p c.args.flow.now.code x k here (cited_tree c.in_ok-t.t) (writer_tree c.exit_step.new.log) own_at) in
    record {
      count = omega arith;
      left = left_next _ _ _ _ _ _ _ _ _ _ _ _ _ _ c.entry_of-entry.result c.loop-x.k c.addr.result k x (cited_tree c.in_ok-t.t)
          c.entry_of-entry.ensures c.loop-x.invariant.count c.addr.ensures at c.loop-x.invariant.left c.in_ok-t.ensures.steps led;
    }

pub returns : goal.returns
returns c = left_none _ _ _ _ _ _ _ _ _ _ _ _ c.loop-x.x-index (omega arith) refl c.loop-x.invariant.left
