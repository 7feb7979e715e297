-- The terms of an axiom have no more nodes than its different terms allow steps.
use Rattle.std.proofs.Common.{◌≡◌, ℕ, zero, suc, ◌+◌, ◌*◌, ◌<◌, ◌≤◌, ◌||◌, Bool, true, false, cond, eqb, List, [], ◌∷◌, ◌++◌, Some, filter, flat_map, length, map, ap, sym, ◌∙◌, refl, subst, inl, inr, arith}
use Rattle.std.specs.Prelude.{Contains, slice_get}
use Rattle.std.specs.List.{list_any, position_or_len, range_with_len}
use Rattle.std.proofs.Math.Nat.{mul-suc}
use Rattle.std.proofs.lemmas.Bool.{cases_eq, eqb-true}
use Rattle.std.proofs.lemmas.List.Elements.{All-head, All-tail, filter_agree}
use Rattle.std.proofs.lemmas.Option.{same_Some, slice_get_within}
use Rattle.rv_words.specs.declared.width.Width.{Width}
use Rattle.rv_words.specs.declared.width.Width.TheVariants.{B1, B2, B4, B8}
use Rattle.rv_decode.specs.declared.instruction.Instr.{Instr}
use Rattle.rv_decode.specs.declared.instruction.Instr.TheVariants as instr
use Rattle.rv_decode.specs.Registers.{destination, registers_where, sources}
use Rattle.rvc.specs.Number.{length_of}
use Rattle.word_terms.specs.Tree.{WordTree, MemTree, Const, Var, MemVar}
use Rattle.sep_assert.specs.Tree.{AssertionTree}
use Rattle.triple_kernel.specs.declared.form.Form.{Form}
use Rattle.triple_kernel.specs.declared.form.Form.TheVariants.{Next, Taken}
use Rattle.triple_kernel.specs.Tree.{So, TripleTree}
use Rattle.instr_axioms.specs.Terms.{conditions, has_memory, loaded, memory_after, pc_after, result, sum, word_after, word_in}
use Rattle.instr_axioms.specs.Axiom.{after, axiom_of, before, is_own, memory_if, own, own_triple, register_with, variables_for}
use Rattle.instr_axioms.proofs.AxiomLemmas.{axiom-parts}
use Rattle.term_arena.specs.Arena.{Tree, OfWord, OfMem, mem_nodes, word_nodes}
use Rattle.held_terms.specs.Subterms.{HasTree}
use Rattle.term_arena.proofs.Places.{at_contains}
use Rattle.held_terms.specs.Terms.{HasSubterms, assertion_terms, fact_terms, nodes_of, pair_steps, triple_terms}
use Rattle.held_terms.proofs.PutSteps.{few_within, nodes_then, some_within}
use Rattle.held_terms.proofs.SubtermLemmas.{has_first, has_rest}

-- ---- it has three registers at most

filter-false : (xs : List ℕ) → length (filter (λ x. false) xs) ≤ 0
filter-false [] = omega arith
filter-false (x ∷ xs) = filter-false xs

filter-or : (p q : ℕ → Bool) (xs : List ℕ) → length (filter (λ x. p x || q x) xs) ≤ length (filter p xs) + length (filter q xs)
filter-or p q [] = omega arith
filter-or p q (x ∷ xs) = step (p x) (q x) (filter-or p q xs)
  where
    step : (a b : Bool) → length (filter (λ y. p y || q y) xs) ≤ length (filter p xs) + length (filter q xs)
        → length (cond (a || b) (x ∷ filter (λ y. p y || q y) xs) (filter (λ y. p y || q y) xs)) ≤ length (cond a (x ∷ filter p xs) (filter p xs)) + length (cond b (x ∷ filter q xs) (filter q xs))
    step true true h = omega (arith, h)
    step true false h = omega (arith, h)
    step false true h = omega (arith, h)
    step false false h = h

filter-none : (q a n : ℕ) → q < a → length (filter (λ r. eqb q r) (range_with_len a n)) ≤ 0
filter-none q a zero low = omega arith
filter-none q a (suc n) low = step (eqb q a) refl (filter-none q (a + 1) n (omega (arith, low)))
  where
    step : (b : Bool) → eqb q a ≡ b → length (filter (λ r. eqb q r) (range_with_len (a + 1) n)) ≤ 0
        → length (cond b (a ∷ filter (λ r. eqb q r) (range_with_len (a + 1) n)) (filter (λ r. eqb q r) (range_with_len (a + 1) n))) ≤ 0
    step true e h = let same : q ≡ a = eqb-true q a e in absurd (omega (arith, low, same))
    step false e h = h

filter-one : (q a n : ℕ) → length (filter (λ r. eqb q r) (range_with_len a n)) ≤ 1
filter-one q a zero = omega arith
filter-one q a (suc n) = step (eqb q a) refl (filter-one q (a + 1) n)
  where
    step : (b : Bool) → eqb q a ≡ b → length (filter (λ r. eqb q r) (range_with_len (a + 1) n)) ≤ 1
        → length (cond b (a ∷ filter (λ r. eqb q r) (range_with_len (a + 1) n)) (filter (λ r. eqb q r) (range_with_len (a + 1) n))) ≤ 1
    step true e h =
        let same : q ≡ a = eqb-true q a e in
        let low : q < a + 1 = omega (arith, same) in
        let none = filter-none q (a + 1) n low in
        omega (arith, none)
    step false e h = h

filter-any : (qs : List ℕ) (a n : ℕ) → length (filter (λ r. list_any (λ q. eqb q r) qs) (range_with_len a n)) ≤ length qs
filter-any [] a n = filter-false (range_with_len a n)
filter-any (q ∷ qs) a n =
    let both = filter-or (λ r. eqb q r) (λ r. list_any (λ x. eqb x r) qs) (range_with_len a n) in
    let one = filter-one q a n in
    let rest = filter-any qs a n in
    omega (arith, both, one, rest)

-- of the registers that are among some there are no more than of these
module _ (test : ℕ → Bool) (qs : List ℕ) (same : (r : ℕ) → test r ≡ list_any (λ q. eqb q r) qs) where
  few-in : (a n : ℕ) → length (filter test (range_with_len a n)) ≤ length qs
  few-in a n = subst (λ (xs : List ℕ). length xs ≤ length qs) (sym (filter_agree test (λ r. list_any (λ q. eqb q r) qs) same (range_with_len a n))) (filter-any qs a n)

  registers-few : length (registers_where test) ≤ length qs
  unfolding registers_where
  registers-few = few-in 1 31

own-few : (i : Instr) → length (own i) ≤ 1 + length (sources i)
own-few i = let few = registers-few (is_own i) (destination i ∷ sources i) (λ r. refl) in omega (arith, few)

sources-few : (i : Instr) → length (sources i) ≤ 2
sources-few (instr.Op o rd rs1 rs2) = omega arith
sources-few (instr.OpImm o rd rs1 imm) = omega arith
sources-few (instr.Lui rd imm) = omega arith
sources-few (instr.Auipc rd imm) = omega arith
sources-few (instr.Jal rd offset) = omega arith
sources-few (instr.Jalr rd rs1 imm) = omega arith
sources-few (instr.Branch c rs1 rs2 offset) = omega arith
sources-few (instr.Load w signed rd rs1 imm) = omega arith
sources-few (instr.Store w rs1 rs2 imm) = omega arith
sources-few (instr.Fence imm rs1 rd) = omega arith
sources-few instr.Ecall = omega arith
sources-few instr.Ebreak = omega arith

-- ---- how many nodes its terms have

leaf : (b : Bool) (k : ℕ) → word_nodes (cond b (Const 0) (Var k)) ≡ 1
leaf true k = refl
leaf false k = refl

either : (b : Bool) (x y : WordTree) (most : ℕ) → word_nodes x ≤ most → word_nodes y ≤ most → word_nodes (cond b x y) ≤ most
either true x y most h k = h
either false x y most h k = k

loaded-nodes : (w : Width) (signed : Bool) (m : MemTree) (a : WordTree) → word_nodes (loaded w signed m a) ≤ mem_nodes m + word_nodes a + 2
loaded-nodes B1 true m a = omega arith
loaded-nodes B2 true m a = omega arith
loaded-nodes B4 true m a = omega arith
loaded-nodes B8 true m a = omega arith
loaded-nodes w false m a = omega arith

module _ (regs : List ℕ) where
  one-node : (r : ℕ) → word_nodes (word_in (variables_for regs) r) ≡ 1
  one-node r = leaf (eqb r 0) (position_or_len (λ q. eqb q r) regs)

  result-nodes : (i : Instr) (a k : ℕ) → word_nodes (result i a k (variables_for regs)) ≤ 6
  result-nodes (instr.Op o rd rs1 rs2) a k = let x = one-node rs1 in let y = one-node rs2 in omega (arith, x, y)
  result-nodes (instr.OpImm o rd rs1 imm) a k = let x = one-node rs1 in omega (arith, x)
  result-nodes (instr.Lui rd imm) a k = omega arith
  result-nodes (instr.Auipc rd imm) a k = omega arith
  result-nodes (instr.Jal rd offset) a k = omega arith
  result-nodes (instr.Jalr rd rs1 imm) a k = omega arith
  result-nodes (instr.Branch c rs1 rs2 offset) a k = omega arith
  result-nodes (instr.Load w signed rd rs1 imm) a k =
      let x = one-node rs1 in
      let l = loaded-nodes w signed (MemVar 0) (sum (variables_for regs) rs1 imm) in
      omega (arith, x, l)
  result-nodes (instr.Store w rs1 rs2 imm) a k = omega arith
  result-nodes (instr.Fence imm rs1 rd) a k = omega arith
  result-nodes instr.Ecall a k = omega arith
  result-nodes instr.Ebreak a k = omega arith

  -- those of its conditions, of where it goes, and of the memory after it
  abbrev other_nodes : Instr → Form → ℕ → ℕ → ℕ
  other_nodes i form a k = nodes_of (flat_map fact_terms (map So (conditions i form (variables_for regs)))) + (word_nodes (pc_after i form a k (variables_for regs)) + mem_nodes (memory_after i (variables_for regs)))

  other-nodes : (i : Instr) (form : Form) (a k : ℕ) → other_nodes i form a k ≤ 12
  other-nodes (instr.Op o rd rs1 rs2) form a k = omega arith
  other-nodes (instr.OpImm o rd rs1 imm) form a k = omega arith
  other-nodes (instr.Lui rd imm) form a k = omega arith
  other-nodes (instr.Auipc rd imm) form a k = omega arith
  other-nodes (instr.Jal rd offset) form a k = omega arith
  other-nodes (instr.Jalr rd rs1 imm) form a k = let x = one-node rs1 in omega (arith, x)
  other-nodes (instr.Branch c rs1 rs2 offset) Next a k = let x = one-node rs1 in let y = one-node rs2 in omega (arith, x, y)
  other-nodes (instr.Branch c rs1 rs2 offset) Taken a k = let x = one-node rs1 in let y = one-node rs2 in omega (arith, x, y)
  other-nodes (instr.Load w signed rd rs1 imm) form a k = let x = one-node rs1 in omega (arith, x)
  other-nodes (instr.Store w rs1 rs2 imm) form a k = let x = one-node rs1 in let y = one-node rs2 in omega (arith, x, y)
  other-nodes (instr.Fence imm rs1 rd) form a k = omega arith
  other-nodes instr.Ecall form a k = omega arith
  other-nodes instr.Ebreak form a k = omega arith

register-nodes : (word : ℕ → WordTree) (most : ℕ) → ((r : ℕ) → word_nodes (word r) ≤ most) → (regs : List ℕ) → nodes_of (map (λ r. OfWord r.1) (map (register_with word) regs)) ≤ most * length regs
register-nodes word most each [] = omega arith
register-nodes word most each (r ∷ regs) =
    let here = each r in
    let rest = register-nodes word most each regs in
    let e = mul-suc most (length regs) in
    omega (arith, here, rest, e)

memory-nodes : (b : Bool) (m : MemTree) → nodes_of (map OfMem (memory_if b m)) ≤ mem_nodes m
memory-nodes true m = omega arith
memory-nodes false m = omega arith

side-nodes : (s : AssertionTree) → nodes_of (assertion_terms s) ≡ word_nodes s.pc + (nodes_of (map (λ r. OfWord r.1) s.regs) + nodes_of (map OfMem s.mems))
side-nodes s = let e = nodes_then (map (λ r. OfWord r.1) s.regs) (map OfMem s.mems) in omega (arith, e)

module _ (i : Instr) (form : Form) (a w : ℕ) where
  abbrev facts : List Tree
  facts = flat_map fact_terms (map So (conditions i form (variables_for (own i))))

  abbrev pre : AssertionTree
  pre = before a (own i) (has_memory i) (variables_for (own i))

  abbrev post : AssertionTree
  post = after i form a (length_of w) (own i) (has_memory i) (variables_for (own i))

  axiom-nodes : nodes_of (triple_terms (own_triple i form a w)) ≤ 14 + 7 * length (own i)
  axiom-nodes =
      let n = variables_for (own i) in
      let all = nodes_then facts (assertion_terms pre ++ assertion_terms post) in
      let sides = nodes_then (assertion_terms pre) (assertion_terms post) in
      let first = side-nodes pre in
      let second = side-nodes post in
      let before_regs = register-nodes n.word 1 (λ r. omega arith) (own i) in
      let after_regs = register-nodes (word_after i a (length_of w) n) 6 (λ r. either (eqb r (destination i)) (result i a (length_of w) n) (n.word r) 6 (result-nodes (own i) i a (length_of w)) (omega arith)) (own i) in
      let before_mem = memory-nodes (has_memory i) n.memory in
      let after_mem = memory-nodes (has_memory i) (memory_after i n) in
      let others = other-nodes (own i) i form a (length_of w) in
      omega (arith, all, sides, first, second, before_regs, after_regs, before_mem, after_mem, others)

-- ---- how many of them are different

one-there : (ts : List Tree) (x : Tree) → Contains ts x → 1 ≤ length ts
one-there ts x c = let p = at_contains ts x c in let low = slice_get_within ts p.0 x p.1 in omega (arith, low)

two-there : (ts : List Tree) (x y : Tree) → Contains ts x → Contains ts y → (x ≡ y → ⊥) → 2 ≤ length ts
two-there ts x y c d apart =
    let p = at_contains ts x c in
    let q = at_contains ts y d in
    let low = slice_get_within ts p.0 x p.1 in
    let also = slice_get_within ts q.0 y q.1 in
    elim (cases_eq p.0 q.0) [
      | inl same ↦ absurd (apart (same_Some x y (sym p.1 ∙ ap (slice_get ts) same ∙ q.1)))
      | inr other ↦ omega (arith, low, also, other)
    ]

module _ (ts : List Tree) where
  abbrev Has : Tree → Type 0
  Has t = HasTree ts (Some t)

  module _ (a n : ℕ) (var : ℕ → ℕ) where
    abbrev held_in : List ℕ → List Tree
    held_in regs = map (λ r. OfWord r.1) (map (register_with (λ r. Var (var r))) regs)

    within : (regs : List ℕ) → length regs ≤ 3 → n ≤ 14 + 7 * length regs → Contains ts (OfWord (Const a)) → HasSubterms ts (held_in regs) → n ≤ pair_steps ts
    within [] few le pc has = let one = one-there ts (OfWord (Const a)) pc in let enough = few_within (length ts) one in omega (arith, le, enough)
    within (r ∷ regs) few le pc has =
        let first : Contains ts (OfWord (Var (var r))) = All-head Has (OfWord (Var (var r))) (held_in regs) has in
        let two = two-there ts (OfWord (Const a)) (OfWord (Var (var r))) pc first (λ e. cc) in
        let enough = some_within (length ts) two in
        omega (arith, few, le, enough)

own-within : (ts : List Tree) (i : Instr) (form : Form) (a w : ℕ) → HasSubterms ts (triple_terms (own_triple i form a w)) → nodes_of (triple_terms (own_triple i form a w)) ≤ pair_steps ts
own-within ts i form a w has =
    let first = assertion_terms (pre i form a w) in
    let second = assertion_terms (post i form a w) in
    let regs = map (λ r. OfWord r.1) (pre i form a w).regs in
    let mems = map OfMem (pre i form a w).mems in
    let side : HasSubterms ts first = has_first ts first second (has_rest ts (facts i form a w) (first ++ second) has) in
    let few : length (own i) ≤ 3 = (let f = own-few i in let s = sources-few i in omega (arith, f, s)) in
    within ts a (nodes_of (triple_terms (own_triple i form a w))) (λ r. position_or_len (λ q. eqb q r) (own i)) (own i) few (axiom-nodes i form a w)
    (All-head (Has ts) (OfWord (Const a)) (regs ++ mems) side) (has_first ts regs mems (All-tail (Has ts) (OfWord (Const a)) (regs ++ mems) side))

pub axiom_within : (ts : List Tree) (a w : ℕ) (form : Form) (t : TripleTree) → axiom_of a w form ≡ Some t → HasSubterms ts (triple_terms t) → nodes_of (triple_terms t) ≤ pair_steps ts
axiom_within ts a w form t e has =
    let p = axiom-parts a w form t e in
    subst (λ (x : TripleTree). nodes_of (triple_terms x) ≤ pair_steps ts) p.same (own-within ts p.instruction form a w (subst (λ (x : TripleTree). HasSubterms ts (triple_terms x)) (sym p.same) has))
