use Rattle.std.proofs.Common.{◌≡◌, ℕ, OnOk, List, [], ◌++◌, Some, ap, map, sym, ◌∙◌, subst}
use Rattle.word_terms.specs.Tree.{Const}
use Rattle.tailrec_lang.specs.declared.group.Exit.TheVariants.{At}
use Rattle.code_parts.specs.declared.part.Part.TheVariants.{Rest}
use Rattle.code_parts.specs.Bodies.{Flow, VariableMap, arms_over, fresh, last_at, rest_targets}
use Rattle.code_parts.specs.Kept.{flow_in}
use Rattle.path_walk.specs.inner.Lines.{ArmsLead}
use Rattle.path_walk.specs.inner.Writers.{writer_tree, cited_tree}
use Rattle.code_parts.specs.VariableMaps.{place_of}
use Rattle.path_walk.proofs.cut_lines.loop_rest_lines.Goals as goal

pub last_lines-requires-clause-targets : goal.last_lines-requires-clause-targets
last_lines-requires-clause-targets c = c.as_slice.ensures ∙ c.in_ok-targets.ensures.are ∙ ap (rest_targets (flow_in c.args.flow.now)) (sym c.requires.own)

pub last_lines-requires-clause-exits : goal.last_lines-requires-clause-exits
last_lines-requires-clause-exits c = ap (λ (ts : List ℕ). map (λ x. At ((flow_in c.args.flow.now).addr x)) ts ++ []) (sym (c.as_slice.ensures ∙ c.in_ok-targets.ensures.are))

pub returns : goal.returns
returns c =
    let f : Flow = flow_in c.args.flow.now in
    let v : VariableMap = place_of c.args.place.now in
    let targets : c.as_slice.result.now ≡ rest_targets f (Some c.args.l) = c.as_slice.ensures ∙ c.in_ok-targets.ensures.are in
    subst (λ (ts : List ℕ). OnOk c.last_lines.result (ArmsLead f c.args.p c.args.flow.now.code (f.number (Rest (Some c.args.l) c.args.n)) (writer_tree c.args.log.now) (writer_tree c.last_lines.new.log) (Const (f.addr c.args.n)) v
    (Some (cited_tree c.args.at.now)) (map (λ x. At (f.addr x)) ts ++ []) 0 (arms_over ts (λ x. last_at f c.args.p x (fresh f v.words v.mems))))) targets c.last_lines.ensures
