-- Two memories that are exchanged in both assertions keep a triple valid.
use Rattle.std.proofs.Common.{◌≡◌, List, [], ◌∷◌, sym, ◌∙◌, subst}
use Rattle.std.specs.List.{Contains}
use Rattle.word_terms.specs.Tree.{MemTree}
use Rattle.word_terms.specs.Environment.{Environment}
use Rattle.word_terms.specs.Value.{word_value, mem_value}
use Rattle.tailrec_lang.specs.Tree.{GroupTree}
use Rattle.sep_assert.specs.Part.{◌⊕◌, pc_part, registers_part, mems_part, bytes_part, code_part, part_of}
use Rattle.sep_assert.proofs.Unions.{union-comm, union-assoc}
use Rattle.triple_kernel.specs.Tree.{TripleTree}
use Rattle.triple_kernel.specs.Valid.{Valid}
use Rattle.frame_compose.specs.Rules.{AreExchanged, IsExchanged}

-- memories in the other order are the same part
exchanged-part : (e : Environment) (ms ns : List MemTree) → AreExchanged ms ns → mems_part ms e ≡ mems_part ns e
exchanged-part e (m ∷ n ∷ []) ns is =
    sym (union-assoc (bytes_part (mem_value m e)) (bytes_part (mem_value n e)) (mems_part [] e))
    ∙ (λ i. union-comm (bytes_part (mem_value m e)) (bytes_part (mem_value n e)) i ⊕ mems_part [] e)
    ∙ union-assoc (bytes_part (mem_value n e)) (bytes_part (mem_value m e)) (mems_part [] e)
    ∙ (λ i. mems_part (is i) e)
exchanged-part e [] ns is = absurd is
exchanged-part e (m ∷ []) ns is = absurd is
exchanged-part e (m ∷ n ∷ k ∷ ms) ns is = absurd is

pub valid_exchanged : (g : GroupTree) (p t : TripleTree) → IsExchanged p t → Valid g p → Valid g t
valid_exchanged g p t is v = record {
  runs = λ e holds rest s whole.
      let pre : part_of p.pre e ≡ part_of t.pre e = λ i. pc_part (word_value (is.pre_pc i) e) ⊕ (registers_part (is.pre_regs i) e ⊕ exchanged-part e p.pre.mems t.pre.mems is.pre_mems i) in
      let post : part_of p.post e ≡ part_of t.post e = λ i. pc_part (word_value (is.post_pc i) e) ⊕ (registers_part (is.post_regs i) e ⊕ exchanged-part e p.post.mems t.post.mems is.post_mems i) in
      let r = v.runs e (λ f c. holds f (subst (λ fs. Contains fs f) is.facts c)) rest s (whole ∙ (λ i. sym pre i ⊕ (code_part (sym is.code i) ⊕ rest))) in
      (r.0, r.1, r.2 ∙ (λ i. post i ⊕ (code_part (is.code i) ⊕ rest)));
}
