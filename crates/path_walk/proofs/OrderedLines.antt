-- The lines by which an instruction's theorem is over further registers, and over all memories in order.
use Rattle.std.proofs.Common.{◌≡◌, ℕ, ◌<◌, List, [], ◌∷◌, true, false, refl, sym, ap, ◌∙◌, subst, inl, inr}
use Rattle.rv_decode.specs.declared.instruction.Instr.{Instr}
use Rattle.triple_kernel.specs.declared.form.Form.{Form}
use Rattle.triple_kernel.specs.Tree.{TripleTree}
use Rattle.instr_axioms.specs.Terms.{has_memory}
use Rattle.proof_text.specs.Line.{Frame}
use Rattle.code_parts.specs.Bodies.{VariableMap}
use Rattle.path_walk.specs.Further.{is_crossed}
use Rattle.path_walk.specs.inner.Acts.{Acted, Ordered, Widened, all_mems, mem_first, named_own, named_wide}
use Rattle.path_walk.specs.inner.Writers.{Restated, WriterTree, stating_further}
use Rattle.path_walk.proofs.Lines.{crossed-second, in-order}
use Rattle.path_walk.proofs.WriterLemmas.{restated-version}

module _ (regs : List ℕ) (mems : ℕ) (i : Instr) (form : Form) (a w q : ℕ) (v : VariableMap) (low : has_memory i ≡ true → q < mems) (named : ℕ) (known : TripleTree) (known_is : known ≡ named_own i form a w q v) where
  -- framed to these memories, which are those with its own in front
  framed_to : (ms : List ℕ) → ms ≡ mem_first i q mems → (t : TripleTree) → t ≡ named_wide regs i form a w ms q v → (old new : WriterTree) (k : ℕ) → Restated named (Frame named) known t old new k →
      Restated named (Frame named) (named_own i form a w q v) (named_wide regs i form a w (mem_first i q mems) q v) old new k
  framed_to ms ms_is t t_is old new k is =
      subst (λ (x : TripleTree). Restated named (Frame named) x (named_wide regs i form a w (mem_first i q mems) q v) old new k) known_is
      (subst (λ (x : TripleTree). Restated named (Frame named) known x old new k) (t_is ∙ ap (λ (xs : List ℕ). named_wide regs i form a w xs q v) ms_is) is)

  -- where its own memory is the first they are in order
  pub widened-first : is_crossed i q ≡ false → (t : TripleTree) → t ≡ named_wide regs i form a w (all_mems mems) q v → (old new : WriterTree) (k : ℕ) → Restated named (Frame named) known t old new k → Widened regs mems i form a w q v named old new k
  widened-first is t t_is old new k framed = record {
    framed = k;
    mid = new;
    wide = framed_to (all_mems mems) (sym (in-order i q mems low is)) t t_is old new k framed;
    order = inl (is, refl, refl);
  }

  -- .. else they are exchanged
  pub widened-crossed : is_crossed i q ≡ true → mems ≡ 2 → (t u : TripleTree) → t ≡ named_wide regs i form a w (1 ∷ 0 ∷ []) q v → u ≡ named_wide regs i form a w (all_mems mems) q v → (old mid new : WriterTree) (framed k : ℕ) →
      Restated named (Frame named) known t old mid framed → new ≡ stating_further framed u mid → k ≡ mid.next → Widened regs mems i form a w q v named old new k
  widened-crossed is two t u t_is u_is old mid new framed k front new_is k_is = record {
    framed = framed;
    mid = mid;
    wide = framed_to (1 ∷ 0 ∷ []) (sym (crossed-second i q mems low two is).1) t t_is old mid framed front;
    order = inr (is, new_is ∙ (λ j. stating_further framed (u_is j) mid), k_is);
  }

-- the text stays of its version
ordered-version : (regs : List ℕ) (mems : ℕ) (i : Instr) (form : Form) (a w q : ℕ) (v : VariableMap) (framed : ℕ) (old new : WriterTree) (k : ℕ) → Ordered regs mems i form a w q v framed old new k → new.version ≡ old.version
ordered-version regs mems i form a w q v framed old new k (inl is) = ap (λ (l : WriterTree). l.version) is.1
ordered-version regs mems i form a w q v framed old new k (inr is) = ap (λ (l : WriterTree). l.version) is.1

pub acted-version : (regs : List ℕ) (mems : ℕ) (i : Instr) (form : Form) (a w q : ℕ) (v : VariableMap) (old new : WriterTree) (k : ℕ) → Acted regs mems i form a w q v old new k → new.version ≡ old.version
acted-version regs mems i form a w q v old new k lines =
    ordered-version regs mems i form a w q v lines.widened.framed lines.widened.mid new k lines.widened.order
    ∙ restated-version _ _ _ _ _ _ _ lines.widened.wide
    ∙ restated-version _ _ _ _ _ _ _ lines.renamed
    ∙ restated-version _ _ _ _ _ _ _ lines.put
