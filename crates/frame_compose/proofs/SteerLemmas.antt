-- More facts, and a last program counter that is the same by one of them, keep a triple valid.
use Rattle.std.proofs.Common.{◌≡◌, sym, ◌∙◌, eqb-true}
use Rattle.rv_words.specs.declared.comparison.Cmp.TheVariants.{Eq}
use Rattle.word_terms.specs.Tree.{Compare}
use Rattle.word_terms.specs.Value.{word_value}
use Rattle.tailrec_lang.specs.Tree.{GroupTree}
use Rattle.sep_assert.specs.Part.{◌⊕◌, pc_part, registers_part, mems_part, code_part, part_of}
use Rattle.triple_kernel.specs.Tree.{So, TripleTree}
use Rattle.triple_kernel.specs.Valid.{Valid}
use Rattle.frame_compose.specs.Rules.{IsSteered}

pub valid_steered : (g : GroupTree) (p t : TripleTree) → IsSteered p t → Valid g p → Valid g t
valid_steered g p t is v = record {
  runs = λ e holds rest s whole.
      let equal : word_value p.post.pc e ≡ word_value t.post.pc e = eqb-true (word_value p.post.pc e) (word_value t.post.pc e) (holds (So (Compare Eq p.post.pc t.post.pc)) is.post_pc) in
      let r = v.runs e (λ f c. holds f (is.facts.each f c)) rest s (whole ∙ (λ i. part_of (sym is.pre i) e ⊕ (code_part (sym is.code i) ⊕ rest))) in
      (r.0, r.1, r.2 ∙ (λ i. (pc_part (equal i) ⊕ (registers_part (is.post_regs i) e ⊕ mems_part (is.post_mems i) e)) ⊕ (code_part (is.code i) ⊕ rest)));
}
