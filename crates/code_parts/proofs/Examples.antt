-- The definitions of the parts of a small graph.
use Rattle.std.proofs.Common.{◌≡◌, ℕ, zero, suc, [], ◌∷◌, List, map, refl, sym, ap, subst, arith, ◌<◌, inl, inr, true, false, Option, Some, None, ◌-◌}
use Rattle.std.specs.Prelude.{◌==◌, if◌then◌else◌, slice_index_or, slice_get, pos, neg_ℤ}
use Rattle.rv_words.specs.declared.operation.Op.TheVariants.{Add, And}
use Rattle.rv_words.specs.declared.comparison.Cmp.TheVariants.{Ne}
use Rattle.rv_words.specs.declared.width.Width.TheVariants.{B8}
use Rattle.rv_decode.specs.declared.instruction.Instr.{Instr}
use Rattle.rv_decode.specs.declared.instruction.Instr.TheVariants as instr
use Rattle.rv_decode.specs.Decodes.{decoded}
use Rattle.word_terms.specs.Tree.{Const, Var, Bin, Compare, Inside, MemVar, Store}
use Rattle.tailrec_lang.specs.declared.group.Exit.TheVariants.{At, Ret}
use Rattle.tailrec_lang.specs.Tree.{ValuesTree, Bind, BindMem, Need, Do, Branch, Call, Again, Leave, NoArm, Arm, GroupTree}
use Rattle.triple_kernel.specs.declared.form.Form.{Form}
use Rattle.triple_kernel.specs.declared.form.Form.TheVariants.{Next, Taken}
use Rattle.code_parts.specs.declared.part.Part.{Part}
use Rattle.code_parts.specs.declared.part.Part.TheVariants.{Loop, Rest}
use Rattle.code_parts.specs.Bodies.{Flow, part_body, part_def}
use Rattle.code_parts.specs.Graph.{IsEdge, IsPart, IsPlaced, IsGraph, StandsAt, IsMade, CallsBelow, has_edge, is_jump_through}
use Rattle.code_parts.specs.Order.{AreParts, StandsBefore}
use Rattle.std.specs.List.{Contains}
use Rattle.rv_words.specs.declared.range.Range.{Range}
use Rattle.rv_words.specs.Ranges.{range_bytes}
use Rattle.sep_assert.specs.Code.{IsWithin}
use Rattle.instr_axioms.specs.Terms.{Names, has_form, pc_after}
use Rattle.instr_axioms.specs.Axiom.{word_code}

-- ---- 0x10000: add x10, x10, x11; addi x11, x11, -1; bne x11, x0, 0x10000; jalr x0, 0(x1)

abbrev instructions : ℕ → Instr
instructions n = slice_index_or (instr.Op Add 10 10 11 ∷ instr.OpImm Add 11 11 (neg_ℤ (pos 1)) ∷ instr.Branch Ne 11 0 (neg_ℤ (pos 8)) ∷ instr.Jalr 0 1 (pos 0) ∷ []) n instr.Ecall

abbrev goes_to : ℕ → Form → ℕ
goes_to n Next = suc n
goes_to n Taken = 0

abbrev numbers : Part → ℕ
numbers (Loop l) = 0
numbers (Rest r n) = if n == 3 then 1 else 2

abbrev loop_at : ℕ → Option ℕ
loop_at n = if n == 0 then Some 0 else None

abbrev summing_word : ℕ → ℕ
summing_word n = slice_index_or (0x00b5_0533 ∷ 0xfff5_8593 ∷ 0xfe05_9ce3 ∷ 0x0000_8067 ∷ []) n 0

abbrev summing : Flow
summing = record {
  nodes = 4;
  loops = 1;
  addr = λ n. slice_index_or (0x10000 ∷ 0x10004 ∷ 0x10008 ∷ 0x1000c ∷ []) n 0;
  word = summing_word;
  instr = instructions;
  to = goes_to;
  is_cut = λ n. slice_index_or (true ∷ false ∷ false ∷ true ∷ []) n false;
  loop_of = loop_at;
  around = λ n. slice_index_or (None ∷ Some 0 ∷ Some 0 ∷ None ∷ []) n None;
  head = λ l. 0;
  exits = λ l. 3 ∷ [];
  returns = true;
  number = numbers;
  regs = 1 ∷ 10 ∷ 11 ∷ [];
  mems = 0;
  uses = λ n. 0;
  callee = λ n. None;
}

abbrev variables : List ℕ → ValuesTree
variables is = record { words = map Var is; mems = [] }

summing-loop : part_def summing (Loop 0) ≡ record {
  entry = 0x10000;
  exits = At 0x1000c ∷ [];
  body = Do (Bind (Bin Add (Var 1) (Var 2))) (Do (Bind (Bin Add (Var 2) (Const 0xffff_ffff_ffff_ffff)))
      (Branch (Compare Ne (Var 4) (Const 0)) (Again (variables (0 ∷ 3 ∷ 4 ∷ []))) (Leave 0 (variables (0 ∷ 3 ∷ 4 ∷ [])))));
}
summing-loop = refl

summing-end : part_def summing (Rest None 3) ≡ record {
  entry = 0x1000c;
  exits = Ret ∷ [];
  body = Leave 0 (record { words = Bin And (Bin Add (Var 0) (Const 0)) (Const 0xffff_ffff_ffff_fffe) ∷ Var 0 ∷ Var 1 ∷ Var 2 ∷ []; mems = [] });
}
summing-end = refl

summing-whole : part_def summing (Rest None 0) ≡ record {
  entry = 0x10000;
  exits = Ret ∷ [];
  body = Call 0 (variables (0 ∷ 1 ∷ 2 ∷ [])) (Arm (Call 1 (variables (3 ∷ 4 ∷ 5 ∷ [])) (Arm (Leave 0 (variables (6 ∷ 7 ∷ 8 ∷ 9 ∷ []))) NoArm)) NoArm);
}
summing-whole = refl

-- ---- the laws that are asked of a graph hold of this one

summing-graph : IsGraph summing
summing-graph = record {
  inner = inner_at;
  rank = rank_at;
  stays = λ n m lt edge cut. stays n lt m edge cut;
  placed = λ n m lt edge cut. placed n lt m edge cut;
  near = near;
  returned = returned;
  cut_inner = cut_inner;
  head_is = head_is;
  loop_head = λ l lt. (omega arith, ap Some (let z : 0 ≡ l = omega (arith, lt) in z));
  calls = λ n c lt e. absurd (cc);
  loop_exit = λ l k x lt at. loop_exit k x at;
}
  where
    inner_at : ℕ → Option ℕ
    inner_at n = slice_index_or (Some 0 ∷ Some 0 ∷ Some 0 ∷ None ∷ []) n None

    rank_at : ℕ → ℕ
    rank_at n = slice_index_or (31 ∷ 30 ∷ 29 ∷ 31 ∷ []) n 0

    stays : (n : ℕ) → n < 4 → (m : ℕ) → IsEdge summing n m → summing.is_cut m ≡ false → (m < 4) × (inner_at m ≡ inner_at n) × (rank_at m < rank_at n)
    stays zero lt m (Next, e, at) cut = subst (λ m. (m < 4) × (inner_at m ≡ Some 0) × (rank_at m < 31)) at (omega arith, refl, omega arith)
    stays zero lt m (Taken, e, at) cut = absurd (cc)
    stays (suc zero) lt m (Next, e, at) cut = subst (λ m. (m < 4) × (inner_at m ≡ Some 0) × (rank_at m < 30)) at (omega arith, refl, omega arith)
    stays (suc zero) lt m (Taken, e, at) cut = absurd (cc)
    stays (suc (suc zero)) lt m (Next, e, at) cut = absurd (let is : true ≡ false = subst (λ m. summing.is_cut m ≡ false) (sym at) cut in cc)
    stays (suc (suc zero)) lt m (Taken, e, at) cut = absurd (let is : true ≡ false = subst (λ m. summing.is_cut m ≡ false) (sym at) cut in cc)
    stays (suc (suc (suc zero))) lt m (Next, e, at) cut = absurd (cc)
    stays (suc (suc (suc zero))) lt m (Taken, e, at) cut = absurd (cc)
    stays (suc (suc (suc (suc n)))) lt m edge cut = absurd (omega arith)

    placed : (n : ℕ) → n < 4 → (m : ℕ) → IsEdge summing n m → summing.is_cut m ≡ true → (m < 4) × IsPlaced summing (inner_at n) m
    placed zero lt m (Next, e, at) cut = absurd (let is : false ≡ true = subst (λ m. summing.is_cut m ≡ true) (sym at) cut in cc)
    placed zero lt m (Taken, e, at) cut = absurd (cc)
    placed (suc zero) lt m (Next, e, at) cut = absurd (let is : false ≡ true = subst (λ m. summing.is_cut m ≡ true) (sym at) cut in cc)
    placed (suc zero) lt m (Taken, e, at) cut = absurd (cc)
    placed (suc (suc zero)) lt m (Next, e, at) cut = subst (λ m. (m < 4) × IsPlaced summing (Some 0) m) at (omega arith, inl (1, refl))
    placed (suc (suc zero)) lt m (Taken, e, at) cut = subst (λ m. (m < 4) × IsPlaced summing (Some 0) m) at (omega arith, inl (0, refl))
    placed (suc (suc (suc zero))) lt m (Next, e, at) cut = absurd (cc)
    placed (suc (suc (suc zero))) lt m (Taken, e, at) cut = absurd (cc)
    placed (suc (suc (suc (suc n)))) lt m edge cut = absurd (omega arith)

    near : (n : ℕ) → n < 4 → rank_at n < 32
    near zero lt = omega arith
    near (suc zero) lt = omega arith
    near (suc (suc zero)) lt = omega arith
    near (suc (suc (suc zero))) lt = omega arith
    near (suc (suc (suc (suc n)))) lt = absurd (omega arith)

    returned : (n : ℕ) → n < 4 → is_jump_through (summing.instr n) ≡ true → (inner_at n ≡ None) × (summing.returns ≡ true)
    returned zero lt e = absurd (cc)
    returned (suc zero) lt e = absurd (cc)
    returned (suc (suc zero)) lt e = absurd (cc)
    returned (suc (suc (suc zero))) lt e = (refl, refl)
    returned (suc (suc (suc (suc n)))) lt e = absurd (omega arith)

    cut_inner : (n : ℕ) → n < 4 → summing.is_cut n ≡ true → summing.loop_of n ≡ None → inner_at n ≡ summing.around n
    cut_inner zero lt cut no_loop = absurd (cc)
    cut_inner (suc zero) lt cut no_loop = absurd (cc)
    cut_inner (suc (suc zero)) lt cut no_loop = absurd (cc)
    cut_inner (suc (suc (suc zero))) lt cut no_loop = refl
    cut_inner (suc (suc (suc (suc n)))) lt cut no_loop = absurd (omega arith)

    head_is : (n l : ℕ) → n < 4 → summing.loop_of n ≡ Some l → (l < 1) × (0 ≡ n)
    head_is zero l lt is = let z : 0 ≡ l = cc in (omega (arith, z), refl)
    head_is (suc zero) l lt is = absurd (cc)
    head_is (suc (suc zero)) l lt is = absurd (cc)
    head_is (suc (suc (suc zero))) l lt is = absurd (cc)
    head_is (suc (suc (suc (suc n)))) l lt is = absurd (omega arith)

    loop_exit : (k x : ℕ) → slice_get (3 ∷ []) k ≡ Some x → (x < 4) × (summing.is_cut x ≡ true) × IsPlaced summing None x
    loop_exit zero x at = let z : 3 ≡ x = cc in subst (λ x. (x < 4) × (summing.is_cut x ≡ true) × IsPlaced summing None x) z (omega arith, refl, inr refl)
    loop_exit (suc k) x at = absurd (cc)

-- ---- sd x10, 0(x11); jalr x0, 0(x1): with a memory

abbrev storing : Flow
storing = record {
  nodes = 2;
  loops = 0;
  addr = λ n. slice_index_or (0x10000 ∷ 0x10004 ∷ []) n 0;
  word = λ n. slice_index_or (0x00a5_b023 ∷ 0x0000_8067 ∷ []) n 0;
  instr = λ n. slice_index_or (instr.Store B8 11 10 (pos 0) ∷ instr.Jalr 0 1 (pos 0) ∷ []) n instr.Ecall;
  to = λ n form. suc n;
  is_cut = λ n. slice_index_or (true ∷ false ∷ []) n false;
  loop_of = λ n. None;
  around = λ n. None;
  head = λ l. 0;
  exits = λ l. [];
  returns = true;
  number = λ p. 0;
  regs = 1 ∷ 10 ∷ 11 ∷ [];
  mems = 1;
  uses = λ n. 0;
  callee = λ n. None;
}

storing-whole : part_def storing (Rest None 0) ≡ record {
  entry = 0x10000;
  exits = Ret ∷ [];
  body = Do (Need (Inside B8 (MemVar 0) (Bin Add (Var 2) (Const 0)))) (Do (BindMem (Store B8 (MemVar 0) (Bin Add (Var 2) (Const 0)) (Var 1)))
      (Leave 0 (record { words = Bin And (Bin Add (Var 0) (Const 0)) (Const 0xffff_ffff_ffff_fffe) ∷ Var 0 ∷ Var 1 ∷ Var 2 ∷ []; mems = MemVar 1 ∷ [] })));
}
storing-whole = refl

-- ---- a group of its parts, where each instruction's bytes are in the code

abbrev summing_parts : List Part
summing_parts = Loop 0 ∷ Rest None 3 ∷ Rest None 0 ∷ []

module _ (code : List Range) (bytes : (n : ℕ) → n < 4 → IsWithin (range_bytes (word_code (summing.addr n) (summing_word n))) (range_bytes code)) where
  one_of : (P : ℕ → Type 0) (a : ℕ) → P a → (r : ℕ) → Contains (a ∷ []) r → P r
  one_of P a h r (zero, lt, at) = subst P at h
  one_of P a h r (suc k, lt, at) = absurd (omega (arith, lt))

  two_of : (P : ℕ → Type 0) (a b : ℕ) → P a → P b → (r : ℕ) → Contains (a ∷ b ∷ []) r → P r
  two_of P a b h k r (zero, lt, at) = subst P at h
  two_of P a b h k r (suc zero, lt, at) = subst P at k
  two_of P a b h k r (suc (suc i), lt, at) = absurd (omega (arith, lt))

  abbrev IsListed : ℕ → Type 0
  IsListed r = (r ≡ 0 → ⊥) → Contains (1 ∷ 10 ∷ 11 ∷ []) r

  summing-stands : (n : ℕ) → n < 4 → StandsAt summing code n
  unfolding decoded
  summing-stands zero lt = record {
    address = omega arith;
    even = refl;
    room = omega arith;
    small = omega arith;
    is = refl;
    bytes = bytes 0 (omega arith);
    reads = λ r c. two_of IsListed 10 11 (λ ne. (1, omega arith, refl)) (λ ne. (2, omega arith, refl)) r c;
    writes = λ ne. (1, omega arith, refl);
    memory = λ e. absurd (cc);
    form = forms;
    goes = λ form v none e. goes form v e;
    calls = λ c e. absurd (let clash : None ≡ Some c = e in cc);
    return_is = λ e. absurd (cc);
  }
    where
      forms : (form : Form) → has_edge (summing.instr 0) form ≡ true → has_form (summing.instr 0) form ≡ true
      forms Next e = refl
      forms Taken e = absurd (cc)

      goes : (form : Form) (v : Names) → has_edge (summing.instr 0) form ≡ true → pc_after (summing.instr 0) form 0x10000 4 v ≡ Const (summing.addr (summing.to 0 form))
      goes Next v e = refl
      goes Taken v e = absurd (cc)
  summing-stands (suc zero) lt = record {
    address = omega arith;
    even = refl;
    room = omega arith;
    small = omega arith;
    is = refl;
    bytes = bytes 1 (omega arith);
    reads = λ r c. one_of IsListed 11 (λ ne. (2, omega arith, refl)) r c;
    writes = λ ne. (2, omega arith, refl);
    memory = λ e. absurd (cc);
    form = forms;
    goes = λ form v none e. goes form v e;
    calls = λ c e. absurd (let clash : None ≡ Some c = e in cc);
    return_is = λ e. absurd (cc);
  }
    where
      forms : (form : Form) → has_edge (summing.instr 1) form ≡ true → has_form (summing.instr 1) form ≡ true
      forms Next e = refl
      forms Taken e = absurd (cc)

      goes : (form : Form) (v : Names) → has_edge (summing.instr 1) form ≡ true → pc_after (summing.instr 1) form 0x10004 4 v ≡ Const (summing.addr (summing.to 1 form))
      goes Next v e = refl
      goes Taken v e = absurd (cc)
  summing-stands (suc (suc zero)) lt = record {
    address = omega arith;
    even = refl;
    room = omega arith;
    small = omega arith;
    is = refl;
    bytes = bytes 2 (omega arith);
    reads = λ r c. two_of IsListed 11 0 (λ ne. (2, omega arith, refl)) (λ ne. absurd (ne refl)) r c;
    writes = λ ne. absurd (ne refl);
    memory = λ e. absurd (cc);
    form = forms;
    goes = λ form v none e. goes form v e;
    calls = λ c e. absurd (let clash : None ≡ Some c = e in cc);
    return_is = λ e. absurd (cc);
  }
    where
      forms : (form : Form) → has_edge (summing.instr 2) form ≡ true → has_form (summing.instr 2) form ≡ true
      forms Next e = refl
      forms Taken e = refl

      goes : (form : Form) (v : Names) → has_edge (summing.instr 2) form ≡ true → pc_after (summing.instr 2) form 0x10008 4 v ≡ Const (summing.addr (summing.to 2 form))
      goes Next v e = refl
      goes Taken v e = refl
  summing-stands (suc (suc (suc zero))) lt = record {
    address = omega arith;
    even = refl;
    room = omega arith;
    small = omega arith;
    is = refl;
    bytes = bytes 3 (omega arith);
    reads = λ r c. one_of IsListed 1 (λ ne. (0, omega arith, refl)) r c;
    writes = λ ne. absurd (ne refl);
    memory = λ e. absurd (cc);
    form = forms;
    goes = λ form v none e. goes form v e;
    calls = λ c e. absurd (let clash : None ≡ Some c = e in cc);
    return_is = λ e. refl;
  }
    where
      forms : (form : Form) → has_edge (summing.instr 3) form ≡ true → has_form (summing.instr 3) form ≡ true
      forms Next e = refl
      forms Taken e = absurd (cc)

      goes : (form : Form) (v : Names) → has_edge (summing.instr 3) form ≡ true → pc_after (summing.instr 3) form 0x1000c 4 v ≡ Const (summing.addr (summing.to 3 form))
      goes Next v e = absurd (cc)
      goes Taken v e = absurd (cc)
  summing-stands (suc (suc (suc (suc n)))) lt = absurd (omega arith)

  abbrev summing_group : GroupTree
  summing_group = record { name = []; regs = 1 ∷ 10 ∷ 11 ∷ []; mems = 0; code = code; defs = map (part_def summing) summing_parts }

  summing-made : IsMade summing summing_group summing_parts
  summing-made = record {
    regs = refl;
    mems = refl;
    code = record { each = summing-stands; registers = (omega arith, omega arith, (omega arith, omega arith, (omega arith, omega arith, tt))) };
    defs = refl;
    listed = listed;
    part = part;
    below = below;
    callees = λ n c lt e. absurd (cc);
  }
    where
      listed : (q : Part) → IsPart summing q → slice_get summing_parts (numbers q) ≡ Some q
      listed (Loop l) lt = let z : 0 ≡ l = omega (arith, lt) in λ i. Some (Loop (z i))
      listed (Rest r zero) there = λ i. Some (Rest (there.2 i) 0)
      listed (Rest r (suc zero)) there = absurd (let cut = there.1 in cc)
      listed (Rest r (suc (suc zero))) there = absurd (let cut = there.1 in cc)
      listed (Rest r (suc (suc (suc zero)))) there = λ i. Some (Rest (there.2 i) 3)
      listed (Rest r (suc (suc (suc (suc n))))) there = absurd (let low = there.0 in omega (arith, low))

      part : (k : ℕ) (q : Part) → slice_get summing_parts k ≡ Some q → IsPart summing q × (numbers q ≡ k)
      part zero q e = let z : Loop 0 ≡ q = cc in subst (λ q. IsPart summing q × (numbers q ≡ 0)) z (omega arith, refl)
      part (suc zero) q e = let z : Rest None 3 ≡ q = cc in subst (λ q. IsPart summing q × (numbers q ≡ 1)) z ((omega arith, refl, refl), refl)
      part (suc (suc zero)) q e = let z : Rest None 0 ≡ q = cc in subst (λ q. IsPart summing q × (numbers q ≡ 2)) z ((omega arith, refl, refl), refl)
      part (suc (suc (suc k))) q e = absurd (cc)

      below : (k : ℕ) (q : Part) → slice_get summing_parts k ≡ Some q → CallsBelow k (part_body summing q)
      below zero q e = let z : Loop 0 ≡ q = cc in subst (λ q. CallsBelow 0 (part_body summing q)) z (tt, tt)
      below (suc zero) q e = let z : Rest None 3 ≡ q = cc in subst (λ q. CallsBelow 1 (part_body summing q)) z tt
      below (suc (suc zero)) q e = let z : Rest None 0 ≡ q = cc in subst (λ q. CallsBelow 2 (part_body summing q)) z (omega arith, ((omega arith, (tt, tt)), tt))
      below (suc (suc (suc k))) q e = absurd (cc)

-- ---- its parts are in their order, where a search left node 3 first and node 0 last

abbrev summing_depth : Option ℕ → ℕ
summing_depth None = 0
summing_depth (Some l) = 1

summing-ordered : AreParts summing (λ n. 3 - n) summing_parts
summing-ordered = record {
  depth = summing_depth;
  outside = refl;
  deeper = λ l lt. refl;
  all = λ p. (part p, listed p);
  ordered = ordered;
}
  where
    part : (p : Part) → Contains summing_parts p → IsPart summing p
    part p (zero, lt, at) = subst (IsPart summing) at (omega arith)
    part p (suc zero, lt, at) = subst (IsPart summing) at (omega arith, refl, refl)
    part p (suc (suc zero), lt, at) = subst (IsPart summing) at (omega arith, refl, refl)
    part p (suc (suc (suc k)), lt, at) = absurd (omega (arith, lt))

    listed : (p : Part) → IsPart summing p → Contains summing_parts p
    listed (Loop l) lt = let z : 0 ≡ l = omega (arith, lt) in (0, omega arith, λ i. Loop (z i))
    listed (Rest r zero) there = (2, omega arith, λ i. Rest (there.2 i) 0)
    listed (Rest r (suc zero)) there = absurd (let cut = there.1 in cc)
    listed (Rest r (suc (suc zero))) there = absurd (let cut = there.1 in cc)
    listed (Rest r (suc (suc (suc zero)))) there = (1, omega arith, λ i. Rest (there.2 i) 3)
    listed (Rest r (suc (suc (suc (suc n))))) there = absurd (let low = there.0 in omega (arith, low))

    pair : (p q a b : Part) → StandsBefore summing (λ n. 3 - n) summing_depth a b → Some a ≡ Some p → Some b ≡ Some q → StandsBefore summing (λ n. 3 - n) summing_depth p q
    pair p q a b h x y =
        let one : a ≡ p = cc in
        let two : b ≡ q = cc in
        subst (λ c. StandsBefore summing (λ n. 3 - n) summing_depth c q) one (subst (λ d. StandsBefore summing (λ n. 3 - n) summing_depth a d) two h)

    ordered : (j k : ℕ) (p q : Part) → j < k → slice_get summing_parts j ≡ Some p → slice_get summing_parts k ≡ Some q → StandsBefore summing (λ n. 3 - n) summing_depth p q
    ordered j zero p q lt x y = absurd (omega (arith, lt))
    ordered zero (suc zero) p q lt x y = pair p q (Loop 0) (Rest None 3) (inl (omega arith)) x y
    ordered zero (suc (suc zero)) p q lt x y = pair p q (Loop 0) (Rest None 0) (inl (omega arith)) x y
    ordered (suc zero) (suc (suc zero)) p q lt x y = pair p q (Rest None 3) (Rest None 0) (inr (refl, omega arith)) x y
    ordered (suc j) (suc zero) p q lt x y = absurd (omega (arith, lt))
    ordered (suc (suc j)) (suc (suc zero)) p q lt x y = absurd (omega (arith, lt))
    ordered j (suc (suc (suc k))) p q lt x y = absurd (cc)
