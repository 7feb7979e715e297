-- Facts and assertions with terms put in are those where each variable stands for its term's value.
use Rattle.std.proofs.Common.{◌≡◌, ℕ, List, [], ◌∷◌, map, refl, sym, ◌∙◌, subst, IsTrue}
use Rattle.std.specs.List.{Contains}
use Rattle.word_terms.specs.Tree.{WordTree, MemTree}
use Rattle.word_terms.specs.Environment.{Environment}
use Rattle.word_terms.specs.Value.{word_value, mem_value}
use Rattle.word_terms.specs.Substitution.{Substitution, put_in_word, put_in_mem, with_values_of}
use Rattle.word_terms.proofs.Substitutions.{word_value-put_in, mem_value-put_in, cond_holds-put_in}
use Rattle.tailrec_lang.specs.Tree.{ValuesTree, GroupTree}
use Rattle.tailrec_lang.specs.Eval.{arguments_of}
use Rattle.sep_assert.specs.Tree.{AssertionTree}
use Rattle.sep_assert.specs.Part.{◌⊕◌, pc_part, register_part, bytes_part, code_part, registers_part, mems_part, part_of}
use Rattle.triple_kernel.specs.Tree.{FactTree, WordIs, MemIs, So, Gives, TripleTree}
use Rattle.triple_kernel.specs.Fact.{Leaves, Holds}
use Rattle.triple_kernel.specs.Valid.{Valid}
use Rattle.triple_kernel.proofs.Among.{is_among}
use Rattle.triple_kernel.specs.Rules.{put_in_values, put_in_fact, put_in_register, put_in_assertion, IsInst}

module _ (s : Substitution) (e : Environment) where
  words-put_in : (ts : List WordTree) → map (λ t. word_value t e) (map (put_in_word s) ts) ≡ map (λ t. word_value t (with_values_of e s)) ts
  words-put_in [] = refl
  words-put_in (t ∷ ts) = λ i. word_value-put_in s e t i ∷ words-put_in ts i

  mems-put_in : (ms : List MemTree) → map (λ m. mem_value m e) (map (put_in_mem s) ms) ≡ map (λ m. mem_value m (with_values_of e s)) ms
  mems-put_in [] = refl
  mems-put_in (m ∷ ms) = λ i. mem_value-put_in s e m i ∷ mems-put_in ms i

  arguments-put_in : (v : ValuesTree) → arguments_of (put_in_values s v) e ≡ arguments_of v (with_values_of e s)
  arguments-put_in v = λ i. record { words = words-put_in v.words i; mems = mems-put_in v.mems i }

  holds-put_in : (g : GroupTree) (f : FactTree) → Holds g e (put_in_fact s f) → Holds g (with_values_of e s) f
  holds-put_in g (WordIs a b) h = sym (word_value-put_in s e a) ∙ h ∙ word_value-put_in s e b
  holds-put_in g (MemIs a b) h = sym (mem_value-put_in s e a) ∙ h ∙ mem_value-put_in s e b
  holds-put_in g (So c) h = subst IsTrue (cond_holds-put_in s e c) h
  holds-put_in g (Gives def exit args results) h =
      subst (Leaves g def exit (arguments_of args (with_values_of e s))) (arguments-put_in results)
      (subst (λ x. Leaves g def exit x (arguments_of (put_in_values s results) e)) (arguments-put_in args) h)

  registers-put_in : (rs : List (ℕ × WordTree)) → registers_part (map (put_in_register s) rs) e ≡ registers_part rs (with_values_of e s)
  registers-put_in [] = refl
  registers-put_in (r ∷ rs) = λ i. register_part r.0 (word_value-put_in s e r.1 i) ⊕ registers-put_in rs i

  mems_part-put_in : (ms : List MemTree) → mems_part (map (put_in_mem s) ms) e ≡ mems_part ms (with_values_of e s)
  mems_part-put_in [] = refl
  mems_part-put_in (m ∷ ms) = λ i. bytes_part (mem_value-put_in s e m i) ⊕ mems_part-put_in ms i

  part-put_in : (a : AssertionTree) → part_of (put_in_assertion s a) e ≡ part_of a (with_values_of e s)
  part-put_in a = λ i. pc_part (word_value-put_in s e a.pc i) ⊕ (registers-put_in a.regs i ⊕ mems_part-put_in a.mems i)

-- terms put in keep validity
pub valid_inst : (g : GroupTree) (s : Substitution) (p t : TripleTree) → IsInst s p t → Valid g p → Valid g t
valid_inst g s p t is v = record {
  runs = λ e holds rest state whole.
      let known = λ (f : FactTree) (c : Contains p.facts f).
      holds-put_in s e g f (holds (put_in_fact s f) (subst (λ fs. Contains fs (put_in_fact s f)) is.facts (is_among (put_in_fact s) p.facts c.0 f (put_in_fact s f) c.1 (sym c.2) refl))) in
      let before = (λ i. part_of (sym is.pre i) e) ∙ part-put_in s e p.pre in
      let after = sym (part-put_in s e p.post) ∙ (λ i. part_of (is.post i) e) in
      let r = v.runs (with_values_of e s) known rest state (whole ∙ (λ i. before i ⊕ (code_part (sym is.code i) ⊕ rest))) in
      (r.0, r.1, r.2 ∙ (λ i. after i ⊕ (code_part (is.code i) ⊕ rest)));
}
