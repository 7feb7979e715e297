-- The triple of an instruction over some names, with terms put in, is its triple over other names.
use Rattle.std.proofs.Common.{◌≡◌, ℕ, suc, ◌-◌, ◌^◌, Bool, true, false, cond, eqb, ℤ, List, [], ◌∷◌, map, Contains, refl, ap, ◌∙◌, arith}
use Rattle.std.proofs.lemmas.Bool.{eqb-false}
use Rattle.rv_words.specs.declared.width.Width.{Width}
use Rattle.rv_words.specs.declared.width.Width.TheVariants.{B1, B2, B4, B8}
use Rattle.rv_words.specs.declared.operation.Op.TheVariants.{Add, And}
use Rattle.rv_words.specs.Operation.{word_of}
use Rattle.rv_decode.specs.declared.instruction.Instr.{Instr}
use Rattle.rv_decode.specs.declared.instruction.Instr.TheVariants as instr
use Rattle.word_terms.specs.Tree.{WordTree, MemTree, CondTree, Const, Bin, Load, Store, Compare, Inside}
use Rattle.rv_words.specs.declared.range.Range.{Range}
use Rattle.word_terms.specs.Substitution.{Substitution, put_in_word, put_in_mem, put_in_cond}
use Rattle.triple_kernel.specs.Tree.{FactTree, So}
use Rattle.triple_kernel.specs.Rules.{IsInst, put_in_fact, put_in_register}
use Rattle.triple_kernel.specs.declared.form.Form.{Form}
use Rattle.triple_kernel.specs.declared.form.Form.TheVariants.{Next, Taken}
use Rattle.rv_decode.specs.Registers.{sources, destination}
use Rattle.instr_axioms.specs.Terms.{Names, has_memory, word_in, sum, loaded, branch_condition, conditions, result, word_after, memory_after, pc_after}
use Rattle.instr_axioms.specs.Axiom.{triple_over, register_with, memory_if}

-- what names over some registers, and a memory, become
pub record Becomes (s : Substitution) (n m : Names) (regs : List ℕ) (mem : Bool) : Type 0 where
  pub word : (r : ℕ) → Contains regs r → put_in_word s (n.word r) ≡ m.word r
  pub memory : mem ≡ true → put_in_mem s n.memory ≡ m.memory

by_zero : (s : Substitution) (t : Bool) (x y : WordTree) → (t ≡ false → put_in_word s x ≡ y) → put_in_word s (cond t (Const 0) x) ≡ cond t (Const 0) y
by_zero s true x y h = refl
by_zero s false x y h = h refl

by_place : (s : Substitution) (t : Bool) (x y u v : WordTree) → put_in_word s x ≡ u → put_in_word s y ≡ v → put_in_word s (cond t x y) ≡ cond t u v
by_place s true x y u v h k = h
by_place s false x y u v h k = k

in_loaded : (s : Substitution) (w : Width) (signed : Bool) (m k : MemTree) (a b : WordTree) → put_in_mem s m ≡ k → put_in_word s a ≡ b → put_in_word s (loaded w signed m a) ≡ loaded w signed k b
in_loaded s B1 true m k a b h e = λ i. loaded B1 true (h i) (e i)
in_loaded s B2 true m k a b h e = λ i. loaded B2 true (h i) (e i)
in_loaded s B4 true m k a b h e = λ i. loaded B4 true (h i) (e i)
in_loaded s B8 true m k a b h e = λ i. loaded B8 true (h i) (e i)
in_loaded s w false m k a b h e = λ i. Load w (h i) (e i)

in_branch : (s : Substitution) (form : Form) (c : CondTree) → put_in_cond s (branch_condition form c) ≡ branch_condition form (put_in_cond s c)
in_branch s Next c = refl
in_branch s Taken c = refl

facts_map : (s : Substitution) (cs ds : List CondTree) → map (put_in_cond s) cs ≡ ds → map (put_in_fact s) (map So cs) ≡ map So ds
facts_map s cs ds e = both cs ∙ ap (map So) e
  where
    both : (xs : List CondTree) → map (put_in_fact s) (map So xs) ≡ map So (map (put_in_cond s) xs)
    both [] = refl
    both (x ∷ xs) = ap (λ (l : List FactTree). So (put_in_cond s x) ∷ l) (both xs)

registers_map : (s : Substitution) (f g : ℕ → WordTree) (rs : List ℕ) → ((r : ℕ) → Contains rs r → put_in_word s (f r) ≡ g r) → map (put_in_register s) (map (register_with f) rs) ≡ map (register_with g) rs
registers_map s f g [] h = refl
registers_map s f g (r ∷ rs) h =
    let here = h r (0, omega arith, refl) in
    let rest = registers_map s f g rs (λ q c. h q (suc c.0, omega (arith, c.1), c.2)) in
    λ i. (r, here i) ∷ rest i

memory_map : (s : Substitution) (b : Bool) (m k : MemTree) → (b ≡ true → put_in_mem s m ≡ k) → map (put_in_mem s) (memory_if b m) ≡ memory_if b k
memory_map s true m k h = ap (λ x. x ∷ []) (h refl)
memory_map s false m k h = refl

module _ (s : Substitution) (n m : Names) (regs : List ℕ) (mem : Bool) (is : Becomes s n m regs mem) (a k : ℕ) where
  -- the registers that an instruction reads, and its memory, are among those
  pub record Reaches (i : Instr) : Type 0 where
    pub reads : (r : ℕ) → Contains (sources i) r → (r ≡ 0 → ⊥) → Contains regs r
    pub memory : has_memory i ≡ true → mem ≡ true

  in_word : (i : Instr) → Reaches i → (r : ℕ) → Contains (sources i) r → put_in_word s (word_in n r) ≡ word_in m r
  in_word i h r c = by_zero s (eqb r 0) (n.word r) (m.word r) (λ z. is.word r (h.reads r c (eqb-false r 0 z)))

  in_sum : (i : Instr) → Reaches i → (r : ℕ) (imm : ℤ) → Contains (sources i) r → put_in_word s (sum n r imm) ≡ sum m r imm
  in_sum i h r imm c = let one = in_word i h r c in λ j. Bin Add (one j) (Const (word_of imm))

  first : (r : ℕ) (rs : List ℕ) → Contains (r ∷ rs) r
  first r rs = (0, omega arith, refl)

  second : (r q : ℕ) → Contains (r ∷ q ∷ []) q
  second r q = (1, omega arith, refl)

  in_conditions : (i : Instr) (form : Form) → Reaches i → map (put_in_cond s) (conditions i form n) ≡ conditions i form m
  in_conditions (instr.Op o rd rs1 rs2) form h = refl
  in_conditions (instr.OpImm o rd rs1 imm) form h = refl
  in_conditions (instr.Lui rd imm) form h = refl
  in_conditions (instr.Auipc rd imm) form h = refl
  in_conditions (instr.Jal rd offset) form h = refl
  in_conditions (instr.Jalr rd rs1 imm) form h = refl
  in_conditions (instr.Branch c rs1 rs2 offset) form h =
      let one = in_word (instr.Branch c rs1 rs2 offset) h rs1 (first rs1 (rs2 ∷ [])) in
      let two = in_word (instr.Branch c rs1 rs2 offset) h rs2 (second rs1 rs2) in
      ap (λ x. x ∷ []) (in_branch s form (Compare c (word_in n rs1) (word_in n rs2))) ∙ (λ j. branch_condition form (Compare c (one j) (two j)) ∷ [])
  in_conditions (instr.Load w signed rd rs1 imm) form h =
      let one = in_sum (instr.Load w signed rd rs1 imm) h rs1 imm (first rs1 []) in
      let m = is.memory (h.memory refl) in λ j. Inside w (m j) (one j) ∷ []
  in_conditions (instr.Store w rs1 rs2 imm) form h =
      let one = in_sum (instr.Store w rs1 rs2 imm) h rs1 imm (first rs1 (rs2 ∷ [])) in
      let m = is.memory (h.memory refl) in λ j. Inside w (m j) (one j) ∷ []
  in_conditions (instr.Fence imm rs1 rd) form h = refl
  in_conditions instr.Ecall form h = refl
  in_conditions instr.Ebreak form h = refl

  in_result : (i : Instr) → Reaches i → put_in_word s (result i a k n) ≡ result i a k m
  in_result (instr.Op o rd rs1 rs2) h =
      let one = in_word (instr.Op o rd rs1 rs2) h rs1 (first rs1 (rs2 ∷ [])) in
      let two = in_word (instr.Op o rd rs1 rs2) h rs2 (second rs1 rs2) in λ j. Bin o (one j) (two j)
  in_result (instr.OpImm o rd rs1 imm) h = let one = in_word (instr.OpImm o rd rs1 imm) h rs1 (first rs1 []) in λ j. Bin o (one j) (Const (word_of imm))
  in_result (instr.Lui rd imm) h = refl
  in_result (instr.Auipc rd imm) h = refl
  in_result (instr.Jal rd offset) h = refl
  in_result (instr.Jalr rd rs1 imm) h = refl
  in_result (instr.Branch c rs1 rs2 offset) h = refl
  in_result (instr.Load w signed rd rs1 imm) h =
      in_loaded s w signed n.memory m.memory (sum n rs1 imm) (sum m rs1 imm) (is.memory (h.memory refl)) (in_sum (instr.Load w signed rd rs1 imm) h rs1 imm (first rs1 []))
  in_result (instr.Store w rs1 rs2 imm) h = refl
  in_result (instr.Fence imm rs1 rd) h = refl
  in_result instr.Ecall h = refl
  in_result instr.Ebreak h = refl

  in_memory_after : (i : Instr) → Reaches i → mem ≡ true → put_in_mem s (memory_after i n) ≡ memory_after i m
  in_memory_after (instr.Op o rd rs1 rs2) h t = is.memory t
  in_memory_after (instr.OpImm o rd rs1 imm) h t = is.memory t
  in_memory_after (instr.Lui rd imm) h t = is.memory t
  in_memory_after (instr.Auipc rd imm) h t = is.memory t
  in_memory_after (instr.Jal rd offset) h t = is.memory t
  in_memory_after (instr.Jalr rd rs1 imm) h t = is.memory t
  in_memory_after (instr.Branch c rs1 rs2 offset) h t = is.memory t
  in_memory_after (instr.Load w signed rd rs1 imm) h t = is.memory t
  in_memory_after (instr.Store w rs1 rs2 imm) h t =
      let one = in_sum (instr.Store w rs1 rs2 imm) h rs1 imm (first rs1 (rs2 ∷ [])) in
      let two = in_word (instr.Store w rs1 rs2 imm) h rs2 (second rs1 rs2) in
      let old = is.memory t in λ j. Store w (old j) (one j) (two j)
  in_memory_after (instr.Fence imm rs1 rd) h t = is.memory t
  in_memory_after instr.Ecall h t = is.memory t
  in_memory_after instr.Ebreak h t = is.memory t

  in_pc_after : (i : Instr) (form : Form) → Reaches i → put_in_word s (pc_after i form a k n) ≡ pc_after i form a k m
  in_pc_after (instr.Op o rd rs1 rs2) form h = refl
  in_pc_after (instr.OpImm o rd rs1 imm) form h = refl
  in_pc_after (instr.Lui rd imm) form h = refl
  in_pc_after (instr.Auipc rd imm) form h = refl
  in_pc_after (instr.Jal rd offset) form h = refl
  in_pc_after (instr.Jalr rd rs1 imm) form h = let one = in_sum (instr.Jalr rd rs1 imm) h rs1 imm (first rs1 []) in λ j. Bin And (one j) (Const (2 ^ 64 - 2))
  in_pc_after (instr.Branch c rs1 rs2 offset) form h = refl
  in_pc_after (instr.Load w signed rd rs1 imm) form h = refl
  in_pc_after (instr.Store w rs1 rs2 imm) form h = refl
  in_pc_after (instr.Fence imm rs1 rd) form h = refl
  in_pc_after instr.Ecall form h = refl
  in_pc_after instr.Ebreak form h = refl

  -- the triple over the first names, with the terms put in, is that over the second
  pub is_inst : (i : Instr) (form : Form) (code : List Range) → Reaches i → IsInst s (triple_over i form a k code regs mem n) (triple_over i form a k code regs mem m)
  is_inst i form code h =
      let words = registers_map s n.word m.word regs is.word in
      let memory = memory_map s mem n.memory m.memory is.memory in
      let pc = in_pc_after i form h in
      let later = registers_map s (word_after i a k n) (word_after i a k m) regs (λ r c. by_place s (eqb r (destination i)) (result i a k n) (n.word r) (result i a k m) (m.word r) (in_result i h) (is.word r c)) in
      let stored = memory_map s mem (memory_after i n) (memory_after i m) (in_memory_after i h) in
      record {
        facts = facts_map s (conditions i form n) (conditions i form m) (in_conditions i form h);
        pre = λ j. record { pc = Const a; regs = words j; mems = memory j };
        code = refl;
        post = λ j. record { pc = pc j; regs = later j; mems = stored j };
      }
