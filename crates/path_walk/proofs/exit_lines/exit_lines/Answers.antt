use Rattle.std.proofs.Common.{map, sym, ◌∙◌, subst}
use Rattle.proof_text.specs.Line.{Inst, UseExit, word_put_in}
use Rattle.proof_text.specs.LineLimits.{IsRule}
use Rattle.path_walk.specs.inner.Acts.{call_mems}
use Rattle.code_parts.specs.Kept.{flow_in}
use Rattle.path_walk.specs.inner.Writers.{writer_tree, stating}
use Rattle.code_parts.specs.VariableMaps.{place_of}
use Rattle.path_walk.proofs.WriterLemmas.{restated_of}
use Rattle.path_walk.proofs.exit_lines.exit_lines.Goals as goal

pub restate-requires-clause-rule : goal.restate-requires-clause-rule
restate-requires-clause-rule c =
    subst (λ ms. IsRule (Inst c.in_ok-first.first (map word_put_in c.in_ok-put_in.put_in.words) ms)) (sym c.in_ok-put_in.ensures.mems)
    (subst (λ ws. IsRule (Inst c.in_ok-first.first ws (call_mems (flow_in c.args.flow.now) c.args.x (place_of c.args.place.now)))) (sym c.in_ok-put_in.ensures.words) (c.requires.fine.rule c.in_ok-first.first c.in_ok-first.ensures.fits))

pub returns-clause-exited : goal.returns-clause-exited
returns-clause-exited c =
    restated_of _ _ _ _ _ _ _ _ _ _ _ _ c.in_ok-first.ensures.number (λ j. Inst (c.in_ok-first.ensures.number j) (c.in_ok-put_in.ensures.words j) (c.in_ok-put_in.ensures.mems j)) c.in_ok-known.ensures c.in_ok-current.ensures
    (c.in_ok-first.ensures.log ∙ (λ j. stating (UseExit c.args.def c.args.exit) (c.in_ok-used.ensures j) (writer_tree c.args.log.now))) c.in_ok-number.ensures.restated
