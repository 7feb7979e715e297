use Rattle.std.proofs.Common.{map, sym, ◌∙◌, List as Items}
use Rattle.mc_text.proofs.Star.{star-pushed, star-ends}
use Rattle.mc_text.proofs.StarReads.{star-stopped}
use Rattle.std.proofs.Common.{ℕ}
use Rattle.word_terms.specs.declared.term.Word.{Word}
use Rattle.sep_assert.specs.Tree.{register_tree}
use Rattle.mc_text.specs.Reading.{is_open}
use Rattle.proof_text.specs.inner.LineReading.{register_at}
use Rattle.proof_text.proofs.TripleLaws.{register-shrinks}
use Rattle.proof_text.proofs.line_triples.read_register_terms.Goals as goal

pub regs-smaller : goal.regs-smaller
regs-smaller c = register-shrinks _ _ _ c.in-Ok.ensures.gives

pub regs-preserved : goal.regs-preserved
regs-preserved c = record {
  told = star-pushed register_tree is_open register_at register-shrinks c.regs.regs _ _ _ _ _ c.in_ok-push-in-Ok.ensures.ok (sym c.regs-test.ensures) c.in-Ok.ensures.gives c.regs.invariant.told;
  last = c.in-Ok.ensures.last ∙ c.regs.invariant.last;
}

pub returns-in-Err-clause-gives : goal.returns-in-Err-clause-gives
returns-in-Err-clause-gives c = star-stopped register_tree (λ (regs : Items (ℕ × Word)). map register_tree regs) is_open register_at register-shrinks c.in-Err.stop (map register_tree c.regs.regs) c.args.scan.now c.regs.scan c.read_register_term.new.scan (sym c.regs-test.ensures) c.in-Err.ensures.gives c.regs.invariant.told

pub returns-clause-gives : goal.returns-clause-gives
returns-clause-gives c = star-ends is_open register_at register-shrinks (map register_tree c.regs.regs) _ _ (sym c.regs-test.ensures) c.regs.invariant.told
