-- A function with a loop, of which nothing is lost.
-- 0x10000: add x10, x10, x11; addi x11, x11, -1; bne x11, x0, 0x10000; jalr x0, 0(x1)
use Rattle.std.proofs.Common.{◌≡◌, ℕ, zero, suc, ◌+◌, ◌-◌, ◌<◌, ◌≤◌, Bool, true, false, cond, ◌⊎◌, inl, inr, Option, Some, None, List, [], ◌∷◌, Contains, refl, sym, ap, subst, ◌∙◌, arith, leb}
use Rattle.std.specs.Prelude.{◌==◌, if◌then◌else◌, slice_get, slice_index_or, pos, neg_ℤ}
use Rattle.std.specs.Int.{w32, to_le_bytes}
use Rattle.std.specs.Option.{option_or, unwrap_or}
use Rattle.std.proofs.lemmas.Bool.Decides.{nat_tests}
use Rattle.rv_decode.specs.Decodes.{decoded}
use Rattle.word_terms.specs.Tree.{Const}
use Rattle.instr_axioms.specs.Terms.{Names, pc_after, has_form}
use Rattle.rv_words.specs.Bytes.{bytes_from}
use Rattle.rv_words.specs.declared.operation.Op.TheVariants.{Add}
use Rattle.rv_words.specs.declared.comparison.Cmp.TheVariants.{Ne}
use Rattle.rv_decode.specs.declared.instruction.Instr.{Instr}
use Rattle.rv_decode.specs.declared.instruction.Instr.TheVariants as instr
use Rattle.rvc.specs.Number.{bytes_of}
use Rattle.rv_machine.specs.State.{State}
use Rattle.rv_machine.specs.Step.{instruction_at, step}
use Rattle.rv_machine.specs.Run.{run, IsAtReturn}
use Rattle.rv_machine.specs.Touches.{IsTouched, touched, touches}
use Rattle.rv_machine.proofs.StepLemmas.{touches-at}
use Rattle.tailrec_lang.specs.declared.group.Exit.TheVariants.{Ret}
use Rattle.rv_words.specs.Ranges.{range_bytes}
use Rattle.sep_assert.specs.Code.{IsWithin}
use Rattle.elf_image.specs.Image.{code_of_file}
use Rattle.tailrec_lang.specs.Tree.{GroupTree}
use Rattle.tailrec_lang.specs.Eval.{Arguments, Done, Turns, eval}
use Rattle.triple_kernel.specs.declared.form.Form.{Form}
use Rattle.triple_kernel.specs.declared.form.Form.TheVariants.{Next, Taken}
use Rattle.instr_axioms.specs.Axiom.{word_code}
use Rattle.code_parts.specs.declared.part.Part.{Part}
use Rattle.code_parts.specs.declared.part.Part.TheVariants.{Loop, Rest}
use Rattle.code_parts.specs.Bodies.{Flow, part_def}
use Rattle.code_parts.specs.Graph.{IsAlone, has_edge, IsEdge, IsPart, IsPlaced, IsGraph, StandsAt, IsCode}
use Rattle.claims.specs.Headline.{Starts}
use Rattle.claims.specs.Exact.{FirstReturns, Exact}
use Rattle.decompiler.specs.Parts.{HasParts, LeavesAs, Meets}
use Rattle.claims.specs.Turns.{CountsSteps}
use Rattle.decompiler.proofs.Counts.{counts-of, exact-of}
use Rattle.decompiler.proofs.Runs.{gains, law-of-part}

abbrev instructions : ℕ → Instr
instructions n = slice_index_or (instr.Op Add 10 10 11 ∷ instr.OpImm Add 11 11 (neg_ℤ (pos 1)) ∷ instr.Branch Ne 11 0 (neg_ℤ (pos 8)) ∷ instr.Jalr 0 1 (pos 0) ∷ []) n instr.Ecall

abbrev goes_to : ℕ → Form → ℕ
goes_to n Next = suc n
goes_to n Taken = 0

abbrev numbers : Part → ℕ
numbers (Loop l) = 0
numbers (Rest r n) = if n == 3 then 1 else 2

abbrev loop_at : ℕ → Option ℕ
loop_at n = if n == 0 then Some 0 else None

abbrev words : ℕ → ℕ
words n = slice_index_or (0x00b5_0533 ∷ 0xfff5_8593 ∷ 0xfe05_9ce3 ∷ 0x0000_8067 ∷ []) n 0

abbrev summing : Flow
summing = record {
  nodes = 4;
  loops = 1;
  addr = λ n. slice_index_or (0x10000 ∷ 0x10004 ∷ 0x10008 ∷ 0x1000c ∷ []) n 0;
  word = words;
  instr = instructions;
  to = goes_to;
  is_cut = λ n. slice_index_or (true ∷ false ∷ false ∷ true ∷ []) n false;
  loop_of = loop_at;
  around = λ n. None;
  head = λ l. 0;
  exits = λ l. 3 ∷ [];
  returns = true;
  number = numbers;
  regs = 1 ∷ 10 ∷ 11 ∷ [];
  mems = 0;
  uses = λ n. 0;
  callee = λ n. None;
}

abbrev bytes : List ℕ
bytes = 0x33 ∷ 0x05 ∷ 0xb5 ∷ 0x00 ∷ 0x93 ∷ 0x85 ∷ 0xf5 ∷ 0xff ∷ 0xe3 ∷ 0x9c ∷ 0x05 ∷ 0xfe ∷ 0x67 ∷ 0x80 ∷ 0x00 ∷ 0x00 ∷ []

abbrev group : GroupTree
group = record {
  name = 0x70 ∷ [];
  regs = 1 ∷ 10 ∷ 11 ∷ [];
  mems = 0;
  code = record { at = 0x10000; bytes = bytes } ∷ [];
  defs = part_def summing (Loop 0) ∷ part_def summing (Rest None 3) ∷ part_def summing (Rest None 0) ∷ [];
}

-- ---- the graph

inner : ℕ → Option ℕ
inner n = slice_index_or (Some 0 ∷ Some 0 ∷ Some 0 ∷ []) n None

rank : ℕ → ℕ
rank n = slice_index_or (2 ∷ 1 ∷ []) n 0

pub no_cut : false ≡ true → ⊥
no_cut e = cc

stays : (n m : ℕ) → n < 4 → IsEdge summing n m → summing.is_cut m ≡ false → (m < 4) × (inner m ≡ inner n) × (rank m < rank n)
unfolding inner rank
stays zero m lt (Next, h, e) c = subst (λ k. (k < 4) × (inner k ≡ inner 0) × (rank k < rank 0)) e (omega arith, refl, omega arith)
stays zero m lt (Taken, h, e) c = absurd (no_cut h)
stays (suc zero) m lt (Next, h, e) c = subst (λ k. (k < 4) × (inner k ≡ inner 1) × (rank k < rank 1)) e (omega arith, refl, omega arith)
stays (suc zero) m lt (Taken, h, e) c = absurd (no_cut h)
stays (suc (suc zero)) m lt (Next, h, e) c = absurd (no_cut (sym (ap summing.is_cut e ∙ c)))
stays (suc (suc zero)) m lt (Taken, h, e) c = absurd (no_cut (sym (ap summing.is_cut e ∙ c)))
stays (suc (suc (suc zero))) m lt (Next, h, e) c = absurd (no_cut h)
stays (suc (suc (suc zero))) m lt (Taken, h, e) c = absurd (no_cut h)
stays (suc (suc (suc (suc n)))) m lt edge c = absurd (omega arith)

placed : (n m : ℕ) → n < 4 → IsEdge summing n m → summing.is_cut m ≡ true → (m < 4) × IsPlaced summing (inner n) m
unfolding inner
placed zero m lt (Next, h, e) c = absurd (no_cut (ap summing.is_cut e ∙ c))
placed zero m lt (Taken, h, e) c = absurd (no_cut h)
placed (suc zero) m lt (Next, h, e) c = absurd (no_cut (ap summing.is_cut e ∙ c))
placed (suc zero) m lt (Taken, h, e) c = absurd (no_cut h)
placed (suc (suc zero)) m lt (Next, h, e) c = subst (λ k. (k < 4) × IsPlaced summing (inner 2) k) e (omega arith, inl (1, refl))
placed (suc (suc zero)) m lt (Taken, h, e) c = subst (λ k. (k < 4) × IsPlaced summing (inner 2) k) e (omega arith, inl (0, refl))
placed (suc (suc (suc zero))) m lt (Next, h, e) c = absurd (no_cut h)
placed (suc (suc (suc zero))) m lt (Taken, h, e) c = absurd (no_cut h)
placed (suc (suc (suc (suc n)))) m lt edge c = absurd (omega arith)

near : (n : ℕ) → n < 4 → rank n < 32
unfolding rank
near zero lt = omega arith
near (suc zero) lt = omega arith
near (suc (suc n)) lt = omega arith

only_zero : (n : ℕ) → summing.loop_of n ≡ None → n ≡ 0 → ⊥
only_zero n h e = differ (sym (ap (λ (k : ℕ). loop_at k) e) ∙ h)
  where
    differ : loop_at 0 ≡ None → ⊥
    differ q = cc

is_graph : IsGraph summing
unfolding inner
is_graph = record {
  inner = inner;
  rank = rank;
  stays = stays;
  placed = placed;
  near = near;
  returned = returned;
  cut_inner = cut_inner;
  head_is = head_is;
  loop_head = loop_head;
  calls = λ n c lt e. absurd (cc);
  loop_exit = loop_exit;
}
  where
    returned : (n : ℕ) → n < 4 → Rattle.code_parts.specs.Graph.is_jump_through (summing.instr n) ≡ true → (inner n ≡ None) × (true ≡ true)
    returned zero lt h = absurd (no_cut h)
    returned (suc zero) lt h = absurd (no_cut h)
    returned (suc (suc zero)) lt h = absurd (no_cut h)
    returned (suc (suc (suc n))) lt h = (refl, refl)

    cut_inner : (n : ℕ) → n < 4 → summing.is_cut n ≡ true → summing.loop_of n ≡ None → inner n ≡ None
    cut_inner zero lt c h = absurd (only_zero 0 h refl)
    cut_inner (suc zero) lt c h = absurd (no_cut c)
    cut_inner (suc (suc zero)) lt c h = absurd (no_cut c)
    cut_inner (suc (suc (suc n))) lt c h = refl

    head_is : (n l : ℕ) → n < 4 → summing.loop_of n ≡ Some l → (l < 1) × (0 ≡ n)
    head_is zero l lt h = let q : 0 ≡ l = cc in (omega arith, refl)
    head_is (suc zero) l lt h = absurd (cc)
    head_is (suc (suc zero)) l lt h = absurd (cc)
    head_is (suc (suc (suc zero))) l lt h = absurd (cc)
    head_is (suc (suc (suc (suc n)))) l lt h = absurd (omega arith)

    loop_head : (l : ℕ) → l < 1 → (0 < 4) × (inner 0 ≡ Some l)
    loop_head zero lt = (omega arith, refl)
    loop_head (suc l) lt = absurd (omega arith)

    loop_exit : (l k x : ℕ) → l < 1 → slice_get (3 ∷ []) k ≡ Some x → (x < 4) × (summing.is_cut x ≡ true) × IsPlaced summing None x
    loop_exit l zero x lt h = let q : 3 ≡ x = cc in subst (λ y. (y < 4) × (summing.is_cut y ≡ true) × IsPlaced summing None y) q (omega arith, refl, inr refl)
    loop_exit l (suc k) x lt h = absurd (cc)

-- ---- its code

pub some_in : (a k : ℕ) (xs ys : List ℕ) → ((j b : ℕ) → slice_get xs j ≡ Some b → slice_get ys (k + j) ≡ Some b) → (q b : ℕ) → bytes_from (a + k) xs q ≡ Some b → bytes_from a ys q ≡ Some b
some_in a k xs ys at q b e = by (leb (a + k) q) refl e
  where
    by : (t : Bool) → leb (a + k) q ≡ t → cond t (slice_get xs (q - (a + k))) None ≡ Some b → cond (leb a q) (slice_get ys (q - a)) None ≡ Some b
    by true t h =
        let le : a + k ≤ q = grind (t, arith, nat_tests) in
        let test : leb a q ≡ true = grind (le, arith, nat_tests) in
        let place : k + (q - (a + k)) ≡ q - a = omega (arith, le) in
        (λ i. cond (test i) (slice_get ys (sym place i)) None) ∙ at (q - (a + k)) b h
    by false t h = absurd (cc)

pub or_none : (o : Option ℕ) → option_or o None ≡ o
or_none None = refl
or_none (Some b) = refl

-- four bytes of the code, from its k-th on
four_in : (k w : ℕ) → ((j b : ℕ) → slice_get (bytes_of w) j ≡ Some b → slice_get bytes (k + j) ≡ Some b) → IsWithin (range_bytes (word_code (0x10000 + k) w)) (range_bytes group.code)
four_in k w at q b e = or_none (bytes_from 0x10000 bytes q) ∙ some_in 0x10000 k (bytes_of w) bytes at q b (sym (or_none (bytes_from (0x10000 + k) (bytes_of w) q)) ∙ e)

first_four : (j b : ℕ) → slice_get (to_le_bytes w32 0x00b5_0533) j ≡ Some b → slice_get bytes (0 + j) ≡ Some b
first_four zero b e = e
first_four (suc zero) b e = e
first_four (suc (suc zero)) b e = e
first_four (suc (suc (suc zero))) b e = e
first_four (suc (suc (suc (suc j)))) b e = absurd (cc)

second_four : (j b : ℕ) → slice_get (to_le_bytes w32 0xfff5_8593) j ≡ Some b → slice_get bytes (4 + j) ≡ Some b
second_four zero b e = e
second_four (suc zero) b e = e
second_four (suc (suc zero)) b e = e
second_four (suc (suc (suc zero))) b e = e
second_four (suc (suc (suc (suc j)))) b e = absurd (cc)

third_four : (j b : ℕ) → slice_get (to_le_bytes w32 0xfe05_9ce3) j ≡ Some b → slice_get bytes (8 + j) ≡ Some b
third_four zero b e = e
third_four (suc zero) b e = e
third_four (suc (suc zero)) b e = e
third_four (suc (suc (suc zero))) b e = e
third_four (suc (suc (suc (suc j)))) b e = absurd (cc)

fourth_four : (j b : ℕ) → slice_get (to_le_bytes w32 0x0000_8067) j ≡ Some b → slice_get bytes (12 + j) ≡ Some b
fourth_four zero b e = e
fourth_four (suc zero) b e = e
fourth_four (suc (suc zero)) b e = e
fourth_four (suc (suc (suc zero))) b e = e
fourth_four (suc (suc (suc (suc j)))) b e = absurd (cc)

abbrev regs : List ℕ
regs = 1 ∷ 10 ∷ 11 ∷ []

adds : StandsAt summing group.code 0
unfolding decoded
adds = record {
  address = omega arith;
  even = refl;
  room = omega arith;
  small = omega arith;
  is = refl;
  bytes = four_in 0 0x00b5_0533 first_four;
  reads = reads;
  writes = λ ne. (1, omega arith, refl);
  memory = λ h. absurd (no_cut h);
  form = form;
  goes = λ form v none e. goes form v e;
  calls = λ c e. absurd (let clash : None ≡ Some c = e in cc);
  return_is = λ h. absurd (no_cut h);
}
  where
    reads : (r : ℕ) → Contains (10 ∷ 11 ∷ []) r → (r ≡ 0 → ⊥) → Contains regs r
    reads r (zero, l, e) ne = (1, omega arith, e)
    reads r (suc zero, l, e) ne = (2, omega arith, e)
    reads r (suc (suc k), l, e) ne = absurd (omega arith)

    form : (g : Form) → has_edge (instructions 0) g ≡ true → has_form (instructions 0) g ≡ true
    form Next h = refl
    form Taken h = absurd (no_cut h)

    goes : (g : Form) (v : Names) → has_edge (instructions 0) g ≡ true → pc_after (instructions 0) g 0x10000 4 v ≡ Const (summing.addr (goes_to 0 g))
    goes Next v h = refl
    goes Taken v h = absurd (no_cut h)

counts : StandsAt summing group.code 1
unfolding decoded
counts = record {
  address = omega arith;
  even = refl;
  room = omega arith;
  small = omega arith;
  is = refl;
  bytes = four_in 4 0xfff5_8593 second_four;
  reads = reads;
  writes = λ ne. (2, omega arith, refl);
  memory = λ h. absurd (no_cut h);
  form = form;
  goes = λ form v none e. goes form v e;
  calls = λ c e. absurd (let clash : None ≡ Some c = e in cc);
  return_is = λ h. absurd (no_cut h);
}
  where
    reads : (r : ℕ) → Contains (11 ∷ []) r → (r ≡ 0 → ⊥) → Contains regs r
    reads r (zero, l, e) ne = (2, omega arith, e)
    reads r (suc k, l, e) ne = absurd (omega arith)

    form : (g : Form) → has_edge (instructions 1) g ≡ true → has_form (instructions 1) g ≡ true
    form Next h = refl
    form Taken h = absurd (no_cut h)

    goes : (g : Form) (v : Names) → has_edge (instructions 1) g ≡ true → pc_after (instructions 1) g 0x10004 4 v ≡ Const (summing.addr (goes_to 1 g))
    goes Next v h = refl
    goes Taken v h = absurd (no_cut h)

branches : StandsAt summing group.code 2
unfolding decoded
branches = record {
  address = omega arith;
  even = refl;
  room = omega arith;
  small = omega arith;
  is = refl;
  bytes = four_in 8 0xfe05_9ce3 third_four;
  reads = reads;
  writes = λ ne. absurd (ne refl);
  memory = λ h. absurd (no_cut h);
  form = form;
  goes = λ form v none e. goes form v e;
  calls = λ c e. absurd (let clash : None ≡ Some c = e in cc);
  return_is = λ h. absurd (no_cut h);
}
  where
    reads : (r : ℕ) → Contains (11 ∷ 0 ∷ []) r → (r ≡ 0 → ⊥) → Contains regs r
    reads r (zero, l, e) ne = (2, omega arith, e)
    reads r (suc zero, l, e) ne = absurd (ne (sym e))
    reads r (suc (suc k), l, e) ne = absurd (omega arith)

    form : (g : Form) → has_edge (instructions 2) g ≡ true → has_form (instructions 2) g ≡ true
    form Next h = refl
    form Taken h = refl

    goes : (g : Form) (v : Names) → has_edge (instructions 2) g ≡ true → pc_after (instructions 2) g 0x10008 4 v ≡ Const (summing.addr (goes_to 2 g))
    goes Next v h = refl
    goes Taken v h = refl

comes_back : StandsAt summing group.code 3
unfolding decoded
comes_back = record {
  address = omega arith;
  even = refl;
  room = omega arith;
  small = omega arith;
  is = refl;
  bytes = four_in 12 0x0000_8067 fourth_four;
  reads = reads;
  writes = λ ne. absurd (ne refl);
  memory = λ h. absurd (no_cut h);
  form = form;
  goes = λ form v none e. goes form v e;
  calls = λ c e. absurd (let clash : None ≡ Some c = e in cc);
  return_is = λ h. refl;
}
  where
    reads : (r : ℕ) → Contains (1 ∷ []) r → (r ≡ 0 → ⊥) → Contains regs r
    reads r (zero, l, e) ne = (0, omega arith, e)
    reads r (suc k, l, e) ne = absurd (omega arith)

    form : (g : Form) → has_edge (instructions 3) g ≡ true → has_form (instructions 3) g ≡ true
    form g h = absurd (no_cut h)

    goes : (g : Form) (v : Names) → has_edge (instructions 3) g ≡ true → pc_after (instructions 3) g 0x1000c 4 v ≡ Const (summing.addr (goes_to 3 g))
    goes g v h = absurd (no_cut h)

is_code : IsCode summing group.code
is_code = record { each = each; registers = (omega arith, omega arith, (omega arith, omega arith, (omega arith, omega arith, tt))) }
  where
    each : (n : ℕ) → n < 4 → StandsAt summing group.code n
    each zero lt = adds
    each (suc zero) lt = counts
    each (suc (suc zero)) lt = branches
    each (suc (suc (suc zero))) lt = comes_back
    each (suc (suc (suc (suc n)))) lt = absurd (omega arith)

-- ---- its definitions

has_parts : HasParts summing 0 group
has_parts = record { regs = refl; mems = refl; defs = defs; whole = (omega arith, refl, refl); last = refl }
  where
    defs : (p : Part) → IsPart summing p → slice_get group.defs (numbers p) ≡ Some (part_def summing p)
    defs (Loop zero) lt = refl
    defs (Loop (suc l)) lt = absurd (omega (arith, lt))
    defs (Rest r zero) (lt, cut, at) = ap (λ q. Some (part_def summing (Rest q 0))) at
    defs (Rest r (suc zero)) (lt, cut, at) = absurd (no_cut cut)
    defs (Rest r (suc (suc zero))) (lt, cut, at) = absurd (no_cut cut)
    defs (Rest r (suc (suc (suc zero)))) (lt, cut, at) = ap (λ q. Some (part_def summing (Rest q 3))) at
    defs (Rest r (suc (suc (suc (suc n))))) (lt, cut, at) = absurd (omega arith)

by_itself : IsAlone summing
by_itself = record { mems = omega arith; uses = λ n lt. refl; calls = λ n lt. refl }

-- nothing is lost of it
pub exact-summing : (file : List ℕ) → IsWithin (range_bytes group.code) (code_of_file file) → Exact file group
exact-summing file in_file = exact-of FirstReturns file group (gains file group summing 0 is_graph is_code by_itself has_parts in_file)

-- its turns count the steps
pub counts-summing : (file : List ℕ) → IsWithin (range_bytes group.code) (code_of_file file) → CountsSteps 32 FirstReturns file group
counts-summing file in_file = counts-of FirstReturns file group (gains file group summing 0 is_graph is_code by_itself has_parts in_file)

-- ---- what it gives

abbrev arguments : ℕ → ℕ → ℕ → Arguments
arguments x1 x10 x11 = record { words = x1 ∷ x10 ∷ x11 ∷ []; mems = [] }

-- one pass takes four steps and three turns
one-pass : eval group 2 (arguments 0x2000 0 1) 3 ≡ Done 0 0x2000 (arguments 0x2000 1 0) 0
one-pass = refl

two-turns : eval group 2 (arguments 0x2000 0 1) 2 ≡ Turns
two-turns = refl

-- three passes take ten steps
three-passes : eval group 2 (arguments 0x2000 0 3) 20 ≡ Done 0 0x2000 (arguments 0x2000 6 0) 15
three-passes = refl

-- ---- a run of it

-- at the entry, with 0x2000 in x1 and 1 in x11
abbrev begins : State
begins = record { pc = 0x10000; reg = λ r. if r == 1 then 0x2000 else (if r == 11 then 1 else 0); mem = range_bytes group.code }

abbrev after : ℕ → State
after k = unwrap_or (run begins k) begins

ran : (k : ℕ) → k ≤ 4 → run begins k ≡ Some (after k)
unfolding run step decoded
ran zero le = refl
ran (suc zero) le = refl
ran (suc (suc zero)) le = refl
ran (suc (suc (suc zero))) le = refl
ran (suc (suc (suc (suc zero)))) le = refl
ran (suc (suc (suc (suc (suc k))))) le = absurd (omega arith)

is-after : (k : ℕ) (u : State) → k ≤ 4 → run begins k ≡ Some u → after k ≡ u
is-after k u le e = same (after k) u (sym (ran k le) ∙ e)
  where
    same : (s t : State) → Some s ≡ Some t → s ≡ t
    same s t h = cc

fetches : (k : ℕ) → k < 4 → instruction_at (after k) ≡ Some (instructions k)
unfolding run step decoded
fetches zero lt = refl
fetches (suc zero) lt = refl
fetches (suc (suc zero)) lt = refl
fetches (suc (suc (suc zero))) lt = refl
fetches (suc (suc (suc (suc k)))) lt = absurd (omega arith)

no-touch : (k : ℕ) → k < 4 → (a : ℕ) → IsTouched (touched (instructions k) (after k)) a → ⊥
no-touch zero lt a (j, l, e) = omega arith
no-touch (suc zero) lt a (j, l, e) = omega arith
no-touch (suc (suc zero)) lt a (j, l, e) = omega arith
no-touch (suc (suc (suc zero))) lt a (j, l, e) = omega arith
no-touch (suc (suc (suc (suc k)))) lt a t = omega arith

no-return : (k : ℕ) → k < 3 → Some (instructions k) ≡ Some (instr.Jalr 0 1 (pos 0)) → ⊥
no-return zero lt e = cc
no-return (suc zero) lt e = cc
no-return (suc (suc zero)) lt e = cc
no-return (suc (suc (suc k))) lt e = omega arith

-- it first returns after four steps
first-returns : FirstReturns [] begins 4 (after 4)
first-returns = record {
  some = omega arith;
  ran = ran 4 (omega arith);
  within = λ j u lt e a t. absurd (no-touch j lt a (subst (λ x. IsTouched x a) (touches-at (instructions j) (after j) (fetches j lt)) (subst (λ s. IsTouched (touches s) a) (sym (is-after j u (omega arith) e)) t)));
  last = λ u e. subst IsAtReturn (is-after 3 u (omega arith) e) (fetches 3 (omega arith));
  first = λ j u lt e r. no-return j lt (sym (fetches j (omega arith)) ∙ subst IsAtReturn (sym (is-after j u (omega arith) e)) r);
}

-- and so evaluation of the whole function gives what it returns with, as it does of each state in which the code is held
gives : LeavesAs group 2 [] begins 8 Ret 0 4 (after 4) ⊎ Meets group 2 [] begins 8 4
gives = law-of-part summing group 0 is_graph is_code by_itself has_parts (Rest None 0) (omega arith, refl, refl) [] begins (after 4) 4
    (record { count = refl; code = λ a b e. e; beside_code = λ a b e. refl }) refl first-returns 8 (omega arith)

-- ---- the constant

starts : (file : List ℕ) → IsWithin (range_bytes group.code) (code_of_file file) → Starts file group begins []
starts file in_file = record {
  entry = refl;
  code = λ a b e. e ∙ sym (in_file a b e);
  count = refl;
  present = λ a e. absurd (no_cut e);
  beside_code = λ a b e. refl;
  apart = λ i j d lt low. absurd (omega (arith, lt, low));
}

-- four steps in three turns: a turn isn't at most one step
pub more-than-one : (file : List ℕ) → IsWithin (range_bytes group.code) (code_of_file file) → CountsSteps 1 FirstReturns file group → ⊥
more-than-one file in_file counts =
    let one = (counts begins [] (starts file in_file) 4 (after 4) first-returns 3 0 0x2000 0 (arguments 0x2000 1 0) one-pass).0 in
    omega (arith, one)
