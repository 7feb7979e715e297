use Rattle.std.proofs.Common.{map, sym, ◌∙◌, subst}
use Rattle.proof_text.specs.Line.{Axiom, Inst, word_put_in}
use Rattle.proof_text.specs.LineLimits.{IsRule}
use Rattle.code_parts.specs.VariableMaps.{place_of}
use Rattle.path_walk.specs.inner.Acts.{own_mems}
use Rattle.path_walk.specs.inner.Writers.{writer_tree, stating}
use Rattle.path_walk.proofs.WriterLemmas.{restated_of}
use Rattle.path_walk.proofs.instruction_lines.put_current.Goals as goal

pub restate-requires-clause-rule : goal.restate-requires-clause-rule
restate-requires-clause-rule c =
    subst (λ ms. IsRule (Inst c.in_ok-first.first (map word_put_in c.in_ok-put_in.put_in.words) ms)) (sym c.in_ok-put_in.ensures.mems)
    (subst (λ ws. IsRule (Inst c.in_ok-first.first ws (own_mems c.args.at.instr c.args.at.memory (place_of c.args.place.now)))) (sym c.in_ok-put_in.ensures.words) (c.requires.rule c.in_ok-first.first c.in_ok-first.ensures.fits))

pub returns : goal.returns
returns c =
    restated_of _ _ _ _ _ _ _ _ _ _ _ _ c.in_ok-first.ensures.number (λ j. Inst (c.in_ok-first.ensures.number j) (c.in_ok-put_in.ensures.words j) (c.in_ok-put_in.ensures.mems j)) c.in_ok-known.ensures c.in_ok-current.ensures
    (c.in_ok-first.ensures.log ∙ (λ j. stating (Axiom c.args.at.addr c.args.at.word c.args.at.form) (c.in_ok-own.ensures j) (writer_tree c.args.log.now))) c.in_ok-number.ensures.restated
