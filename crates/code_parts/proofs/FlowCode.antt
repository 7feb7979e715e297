-- The instructions of a graph stand in code that has their bytes.
use Rattle.std.proofs.Common.{◌≡◌, ℕ, zero, suc, ◌+◌, ◌-◌, ◌^◌, ◌<◌, ◌≤◌, List, [], ◌∷◌, length, get_or, Bool, true, false, cond, eqb, leb, ◌&&◌, ◌||◌, refl, sym, ap, subst, ◌∙◌, arith, Option, None, Some, option_map, Result, Ok, Err, ℤ, pos, negsuc, eq-eqb}
use Rattle.std.proofs.lemmas.Bool.{eqb-true, leb-true}
use Rattle.std.proofs.lemmas.Option.{slice_get-get_or, slice_get_within}
use Rattle.std.specs.Prelude.{slice_get}
use Rattle.std.specs.List.{Contains, list_any}
use Rattle.std.specs.Option.{option_or}
use Rattle.rv_words.specs.Bytes.{Bytes, AreBytes, bytes_from, away}
use Rattle.rvc.specs.Number.{bytes_of, instruction_of, is_word, length_of, number_at}
use Rattle.rvc.proofs.ByteLemmas.{bytes-long, number-bytes, number-small}
use Rattle.rvc.proofs.NumberLemmas.{instruction-named, number_in-is}
use Rattle.rv_words.specs.declared.range.Range.{Range}
use Rattle.rv_words.specs.Ranges.{range_bytes}
use Rattle.rv_decode.specs.declared.instruction.Instr.{Instr}
use Rattle.rv_decode.specs.declared.instruction.Instr.TheVariants as instr
use Rattle.rv_decode.specs.Decodes.{NamesRegisters}
use Rattle.rv_decode.specs.Registers.{destination, is_read, registers_where, sources}
use Rattle.word_terms.specs.Tree.{Const}
use Rattle.sep_assert.specs.Code.{IsWithin}
use Rattle.triple_kernel.specs.declared.form.Form.{Form}
use Rattle.triple_kernel.specs.declared.form.Form.TheVariants.{Next, Taken}
use Rattle.instr_axioms.specs.Terms.{Names, has_form, pc_after}
use Rattle.instr_axioms.specs.Axiom.{is_own, word_code}
use Rattle.flow_graph.specs.declared.outside.Outside.{Outside}
use Rattle.flow_graph.specs.declared.outside.Outside.TheVariants.{Call}
use Rattle.flow_graph.specs.Flow.{StandsIn, admitted, called_by, is_zero, target, targets}
use Rattle.flow_graph.specs.Graph.{GraphOf, IsGraphOf}
use Rattle.flow_graph.proofs.FlowLemmas.{is_flow}
use Rattle.flow_graph.proofs.ExactLemmas.{graph_numbers}
use Rattle.flow_graph.proofs.InstructionLemmas.{graph_stands, through_return}
use Rattle.loop_forest.specs.Forest.{ForestOf, IsForestOf}
use Rattle.tailrec_lang.specs.Registers.{AreRegistersFrom}
use Rattle.code_parts.specs.declared.callee.Callee.{Callee}
use Rattle.code_parts.specs.Graph.{IsCallTo, IsCode, StandsAt, has_edge, is_jump_through}
use Rattle.code_parts.specs.Flows.{HaveCode, IsSetFor, Context, edge_number, flow_of, registers_of}
use Rattle.code_parts.proofs.Lists.{in-true}
use Rattle.code_parts.proofs.Registers.{filter-has, filter-rise, or_left, or_right}
use Rattle.code_parts.proofs.FlowGraph.{any-at, edge-at}

-- ---- instructions that may stand in a function

if_so : (t : Bool) (x : Result Instr Outside) (why : Outside) (i : Instr) → cond t x (Err why) ≡ Ok i → t ≡ true
if_so true x why i e = refl
if_so false x why i e = absurd (cc)

form-is : (linked : Bool) (a : ℕ) (i : Instr) (form : Form) → admitted linked a i ≡ Ok i → has_edge i form ≡ true → has_form i form ≡ true
form-is linked a (instr.Branch c rs1 rs2 offset) Next fine e = refl
form-is linked a (instr.Branch c rs1 rs2 offset) Taken fine e = refl
form-is linked a (instr.Jal rd offset) Next fine e = refl
form-is linked a (instr.Jal rd offset) Taken fine e = absurd (cc)
form-is linked a (instr.Jalr rd rs1 imm) form fine e = absurd (cc)
form-is linked a (instr.Op o rd rs1 rs2) Next fine e = refl
form-is linked a (instr.Op o rd rs1 rs2) Taken fine e = absurd (cc)
form-is linked a (instr.OpImm o rd rs1 imm) Next fine e = refl
form-is linked a (instr.OpImm o rd rs1 imm) Taken fine e = absurd (cc)
form-is linked a (instr.Lui rd imm) Next fine e = refl
form-is linked a (instr.Lui rd imm) Taken fine e = absurd (cc)
form-is linked a (instr.Auipc rd imm) Next fine e = refl
form-is linked a (instr.Auipc rd imm) Taken fine e = absurd (cc)
form-is linked a (instr.Load w signed rd rs1 imm) Next fine e = refl
form-is linked a (instr.Load w signed rd rs1 imm) Taken fine e = absurd (cc)
form-is linked a (instr.Store w rs1 rs2 imm) Next fine e = refl
form-is linked a (instr.Store w rs1 rs2 imm) Taken fine e = absurd (cc)
form-is linked a (instr.Fence imm rs1 rd) Next fine e = refl
form-is linked a (instr.Fence imm rs1 rd) Taken fine e = absurd (cc)
form-is linked a instr.Ecall form fine e = absurd (cc)
form-is linked a instr.Ebreak form fine e = absurd (cc)

-- in each form it goes to that target
target-is : (linked : Bool) (a k : ℕ) (i : Instr) (form : Form) (v : Names) → admitted linked a i ≡ Ok i → called_by a i ≡ None → has_edge i form ≡ true → pc_after i form a k v ≡ Const (get_or (targets a k i) (edge_number form) 0)
target-is linked a k (instr.Branch c rs1 rs2 offset) Next v fine none e = refl
target-is linked a k (instr.Branch c rs1 rs2 offset) Taken v fine none e = refl
target-is linked a k (instr.Jalr rd rs1 imm) form v fine none e = absurd (cc)
target-is linked a k (instr.Jal rd offset) Next v fine none e =
    by (eqb rd 0) (eqb rd 1) refl refl (if_so (eqb rd 0 || (linked && eqb rd 1)) (Ok (instr.Jal rd offset)) (Call a) (instr.Jal rd offset) fine) none
  where
    by : (x y : Bool) → eqb rd 0 ≡ x → eqb rd 1 ≡ y → (x || (linked && y)) ≡ true → cond y (Some (target a offset)) None ≡ None →
        Const (target a offset) ≡ Const (get_or (cond (eqb rd 0) (target a offset) (away a k) ∷ []) 0 0)
    by true y t u h q = λ j. Const (get_or (cond (sym t j) (target a offset) (away a k) ∷ []) 0 0)
    by false true t u h q = absurd (cc)
    by false false t u h q = absurd (neither linked h)
      where
        neither : (l : Bool) → (l && false) ≡ true → ⊥
        neither true h = cc
        neither false h = cc
target-is linked a k (instr.Jal rd offset) Taken v fine none e = absurd (cc)
target-is linked a k (instr.Op o rd rs1 rs2) Next v fine none e = refl
target-is linked a k (instr.Op o rd rs1 rs2) Taken v fine none e = absurd (cc)
target-is linked a k (instr.OpImm o rd rs1 imm) Next v fine none e = refl
target-is linked a k (instr.OpImm o rd rs1 imm) Taken v fine none e = absurd (cc)
target-is linked a k (instr.Lui rd imm) Next v fine none e = refl
target-is linked a k (instr.Lui rd imm) Taken v fine none e = absurd (cc)
target-is linked a k (instr.Auipc rd imm) Next v fine none e = refl
target-is linked a k (instr.Auipc rd imm) Taken v fine none e = absurd (cc)
target-is linked a k (instr.Load w signed rd rs1 imm) Next v fine none e = refl
target-is linked a k (instr.Load w signed rd rs1 imm) Taken v fine none e = absurd (cc)
target-is linked a k (instr.Store w rs1 rs2 imm) Next v fine none e = refl
target-is linked a k (instr.Store w rs1 rs2 imm) Taken v fine none e = absurd (cc)
target-is linked a k (instr.Fence imm rs1 rd) Next v fine none e = refl
target-is linked a k (instr.Fence imm rs1 rd) Taken v fine none e = absurd (cc)
target-is linked a k instr.Ecall Next v fine none e = refl
target-is linked a k instr.Ecall Taken v fine none e = absurd (cc)
target-is linked a k instr.Ebreak Next v fine none e = refl
target-is linked a k instr.Ebreak Taken v fine none e = absurd (cc)

all_three : (x y z : Bool) → (x && y && z) ≡ true → (x ≡ true) × (y ≡ true) × (z ≡ true)
all_three true true true e = (refl, refl, refl)
all_three true true false e = absurd (cc)
all_three true false z e = absurd (cc)
all_three false y z e = absurd (cc)

zero-is : (z : ℤ) → is_zero z ≡ true → z ≡ pos 0
zero-is (pos n) e = ap pos (eqb-true n 0 e)
zero-is (negsuc n) e = absurd (cc)

return-is : (linked : Bool) (a : ℕ) (i : Instr) → admitted linked a i ≡ Ok i → is_jump_through i ≡ true → i ≡ instr.Jalr 0 1 (pos 0)
return-is linked a (instr.Jalr rd rs1 imm) fine e =
    let t = all_three (eqb rd 0) (eqb rs1 1) (is_zero imm) (through_return linked a rd rs1 imm fine) in
    let x = eqb-true rd 0 t.0 in
    let y = eqb-true rs1 1 t.1 in
    let z = zero-is imm t.2 in
    λ j. instr.Jalr (x j) (y j) (z j)
return-is linked a (instr.Branch c rs1 rs2 offset) fine e = absurd (cc)
return-is linked a (instr.Jal rd offset) fine e = absurd (cc)
return-is linked a (instr.Op o rd rs1 rs2) fine e = absurd (cc)
return-is linked a (instr.OpImm o rd rs1 imm) fine e = absurd (cc)
return-is linked a (instr.Lui rd imm) fine e = absurd (cc)
return-is linked a (instr.Auipc rd imm) fine e = absurd (cc)
return-is linked a (instr.Load w signed rd rs1 imm) fine e = absurd (cc)
return-is linked a (instr.Store w rs1 rs2 imm) fine e = absurd (cc)
return-is linked a (instr.Fence imm rs1 rd) fine e = absurd (cc)
return-is linked a instr.Ecall fine e = absurd (cc)
return-is linked a instr.Ebreak fine e = absurd (cc)

-- ---- registers

abbrev AreSmall : List ℕ → Type 0
AreSmall [] = Unit {0}
AreSmall (r ∷ rs) = (r < 32) × AreSmall rs

small-at : (rs : List ℕ) (r : ℕ) → AreSmall rs → Contains rs r → r < 32
small-at [] r h c = absurd (omega (arith, c.1))
small-at (q ∷ rs) r h (zero, lt, at) = subst (λ x. x < 32) at h.0
small-at (q ∷ rs) r h (suc k, lt, at) = small-at rs r h.1 (k, omega (arith, lt), at)

zero-small : 0 < 32
zero-small = omega arith

pub are-small : (i : Instr) → NamesRegisters i → AreSmall (destination i ∷ sources i)
are-small (instr.Op o rd rs1 rs2) h = (h.0, (h.1, (h.2, tt)))
are-small (instr.OpImm o rd rs1 imm) h = (h.0, (h.1, tt))
are-small (instr.Lui rd imm) h = (h, tt)
are-small (instr.Auipc rd imm) h = (h, tt)
are-small (instr.Jal rd offset) h = (h, tt)
are-small (instr.Jalr rd rs1 imm) h = (h.0, (h.1, tt))
are-small (instr.Branch c rs1 rs2 offset) h = (zero-small, (h.0, (h.1, tt)))
are-small (instr.Load w signed rd rs1 imm) h = (h.0, (h.1, tt))
are-small (instr.Store w rs1 rs2 imm) h = (zero-small, (h.0, (h.1, tt)))
are-small (instr.Fence imm rs1 rd) h = (zero-small, tt)
are-small instr.Ecall h = (zero-small, tt)
are-small instr.Ebreak h = (zero-small, tt)

above-zero : (r : ℕ) → (r ≡ 0 → ⊥) → 1 ≤ r
above-zero zero h = absurd (h refl)
above-zero (suc r) h = omega arith

-- a register that stands in one of the instructions is among theirs
pub registered : (instrs : List Instr) (n r : ℕ) (d : Instr) → n < length instrs → is_own (get_or instrs n d) r ≡ true → (r ≡ 0 → ⊥) → r < 32 → Contains (registers_of instrs) r
unfolding registers_where
registered instrs n r d lt own some low =
    filter-has (λ q. list_any (λ i. is_own i q) instrs) 1 31 r (above-zero r some) (omega (arith, low)) (any-at (λ i. is_own i r) instrs n d lt own)

pub registers-rise : (instrs : List Instr) → AreRegistersFrom 1 (registers_of instrs)
unfolding registers_where
registers-rise instrs = filter-rise (λ r. list_any (λ i. is_own i r) instrs) 1 31 (omega arith)

-- ---- bytes

-- a byte of a word's code is one of the word's bytes
pub code-byte : (a : ℕ) (bs : List ℕ) (q b : ℕ) → option_or (bytes_from a bs q) None ≡ Some b → (k : ℕ) × (q ≡ a + k) × (slice_get bs k ≡ Some b)
code-byte a bs q b e = go (leb a q) refl e
  where
    none : (o : Option ℕ) → option_or o None ≡ Some b → o ≡ Some b
    none None e = e
    none (Some c) e = e

    go : (t : Bool) → leb a q ≡ t → option_or (cond t (slice_get bs (q - a)) None) None ≡ Some b → (k : ℕ) × (q ≡ a + k) × (slice_get bs k ≡ Some b)
    go true le e = let low = leb-true a q le in (q - a, omega (arith, low), none (slice_get bs (q - a)) e)
    go false le e = absurd (cc)

within-code : (code : Bytes) (a w : ℕ) (ranges : List Range) → AreBytes code → a + length_of w ≤ 2 ^ 64 → number_at code a ≡ Some w →
    ((k b : ℕ) → k < length_of w → code (a + k) ≡ Some b → range_bytes ranges (a + k) ≡ Some b) → IsWithin (range_bytes (word_code a w)) (range_bytes ranges)
within-code code a w ranges bytes room there have q b e =
    let at = code-byte a (bytes_of w) q b e in
    let low : at.0 < length_of w = omega (arith, slice_get_within (bytes_of w) at.0 b at.2, bytes-long w) in
    subst (λ x. range_bytes ranges x ≡ Some b) (sym at.1) (have at.0 b low (number-bytes code a w bytes room there at.0 low ∙ at.2))

same-some : (a b : ℕ) → Some a ≡ Some b → a ≡ b
same-some a b e = cc

pub long-enough : (w : ℕ) → 2 ≤ length_of w
long-enough w = by_test (is_word w)
  where
    by_test : (t : Bool) → 2 ≤ cond t 4 2
    by_test true = omega arith
    by_test false = omega arith

-- ---- nodes

module _ (linked : Bool) (code : Bytes) (entry : ℕ) (g : GraphOf) (f : ForestOf) (s : Context) (ranges : List Range)
    (graph : IsGraphOf linked code entry g) (forest : IsForestOf g f) (bytes : AreBytes code) (have : HaveCode g code ranges) (fits : IsSetFor g s) where
  abbrev address : ℕ → ℕ
  address n = get_or g.addrs n 0

  abbrev instr_at : ℕ → Instr
  instr_at n = get_or g.instrs n instr.Ebreak

  instructed : (n : ℕ) → n < length g.addrs → n < length g.instrs
  instructed n lt = let same = (is_flow linked code entry g graph).as_long in omega (arith, lt, same)

  pub stands : (n : ℕ) → n < length g.addrs → StandsIn linked code (address n) (instr_at n)
  stands n lt = graph_stands linked code entry g n (instr_at n) graph lt (slice_get-get_or g.instrs n instr.Ebreak (instructed n lt))

  -- the number that stands at a node
  number-there : (n : ℕ) → n < length g.addrs → (number_at code (address n) ≡ Some (get_or g.numbers n 0)) × (address n + length_of (get_or g.numbers n 0) ≤ 2 ^ 64)
  number-there n lt = (number_in-is code (address n) (get_or g.numbers n 0)).0 (graph_numbers linked code entry g n graph lt)

  number-is : (n : ℕ) → n < length g.addrs → instruction_of (get_or g.numbers n 0) ≡ Some (instr_at n)
  number-is n lt = let at = stands n lt in let same : at.number ≡ get_or g.numbers n 0 = same-some at.number (get_or g.numbers n 0) (sym at.there ∙ graph_numbers linked code entry g n graph lt) in ap instruction_of (sym same) ∙ at.is

  no_map : (h : ℕ → Callee) (o : Option ℕ) → option_map h o ≡ None → o ≡ None
  no_map h None e = refl
  no_map h (Some t) e = absurd (cc)

  -- a call goes to the function at its target, and comes back
  calling : (n : ℕ) → n < length g.addrs → (i : Instr) → instr_at n ≡ i → (c : Callee) → option_map s.functions (called_by (address n) i) ≡ Some c → IsCallTo (flow_of g f s) c n
  calling n lt (instr.Jal rd offset) is c e = by (eqb rd 1) refl e
    where
      by : (y : Bool) → eqb rd 1 ≡ y → option_map s.functions (cond y (Some (target (address n) offset)) None) ≡ Some c → IsCallTo (flow_of g f s) c n
      by false u e = absurd (cc)
      by true u e =
          let one : rd ≡ 1 = eqb-true rd 1 u in
          let same : s.functions (target (address n) offset) ≡ c = cc in
          let jal : instr_at n ≡ instr.Jal 1 offset = is ∙ (λ j. instr.Jal (one j) offset) in
          let at = edge-at linked code entry g f s graph forest n Next lt (λ j. has_edge (jal j) Next) in
          record {
            offset = offset;
            instr = jal;
            entry = ap (λ (z : Callee). z.entry) (sym same) ∙ fits.functions (target (address n) offset);
            back = at.1 ∙ (λ j. get_or (targets (address n) (length_of (get_or g.numbers n 0)) (jal j)) 0 0);
          }
  calling n lt (instr.Op o rd rs1 rs2) is c e = absurd (cc)
  calling n lt (instr.OpImm o rd rs1 imm) is c e = absurd (cc)
  calling n lt (instr.Lui rd imm) is c e = absurd (cc)
  calling n lt (instr.Auipc rd imm) is c e = absurd (cc)
  calling n lt (instr.Jalr rd rs1 imm) is c e = absurd (cc)
  calling n lt (instr.Branch k rs1 rs2 offset) is c e = absurd (cc)
  calling n lt (instr.Load w signed rd rs1 imm) is c e = absurd (cc)
  calling n lt (instr.Store w rs1 rs2 imm) is c e = absurd (cc)
  calling n lt (instr.Fence imm rs1 rd) is c e = absurd (cc)
  calling n lt instr.Ecall is c e = absurd (cc)
  calling n lt instr.Ebreak is c e = absurd (cc)

  -- the instruction of a node, as what stands there
  node-stands : (n : ℕ) → n < length g.addrs → StandsAt (flow_of g f s) ranges n
  node-stands n lt =
      let at = stands n lt in
      let there = number-there n lt in
      let small = number-small code (address n) (get_or g.numbers n 0) bytes there.0 in
      let is = number-is n lt in
      let names = are-small (instr_at n) (instruction-named (get_or g.numbers n 0) (instr_at n) small is) in
      let room = there.1 in
      record {
        address = omega (arith, room, long-enough (get_or g.numbers n 0));
        even = at.even;
        room = room;
        small = small;
        is = is;
        bytes = within-code code (address n) (get_or g.numbers n 0) ranges bytes room there.0 (λ k b low e. have n k b lt low e);
        reads = λ r c some. fits.regs r (registered g.instrs n r instr.Ebreak (instructed n lt) (or_right (eqb (destination (instr_at n)) r) (is_read (instr_at n) r) (in-true (sources (instr_at n)) r c)) some
            (small-at (sources (instr_at n)) r names.1 c));
        writes = λ some. fits.regs (destination (instr_at n)) (registered g.instrs n (destination (instr_at n)) instr.Ebreak (instructed n lt)
            (or_left (eqb (destination (instr_at n)) (destination (instr_at n))) (is_read (instr_at n) (destination (instr_at n))) (eq-eqb (destination (instr_at n)) (destination (instr_at n)) refl)) some names.0);
        memory = λ e. fits.uses n lt e;
        form = λ form e. form-is linked (address n) (instr_at n) form at.fine e;
        goes = λ form v none e.
            target-is linked (address n) (length_of (get_or g.numbers n 0)) (instr_at n) form v at.fine (no_map s.functions (called_by (address n) (instr_at n)) none) e
            ∙ ap Const (sym (edge-at linked code entry g f s graph forest n form lt e).1);
        calls = λ c e. calling n lt (instr_at n) refl c e;
        return_is = λ e. return-is linked (address n) (instr_at n) at.fine e;
      }

  pub is-code : IsCode (flow_of g f s) ranges
  is-code = record {
    each = node-stands;
    registers = fits.rise;
  }
