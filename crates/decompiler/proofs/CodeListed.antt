-- The bytes, the registers and the memory of a group of a graph's parts are those of the code that is reached.
use Rattle.std.proofs.Common.{◌≡◌, ℕ, zero, suc, ◌+◌, ◌-◌, ◌<◌, ◌≤◌, Bool, true, false, cond, eqb, leb, ◌||◌, List, [], ◌∷◌, length, get_or, Ok, Option, None, Some, ◌⊎◌, inl, inr, refl, sym, ap, subst, ◌∙◌, arith, eqb-true, eq-eqb}
use Rattle.std.specs.Prelude.{◌↔◌, slice_get}
use Rattle.std.specs.List.{AllByRecursion, Contains, filter, list_any, range_with_len}
use Rattle.std.specs.Option.{option_or, unwrap_or}
use Rattle.std.proofs.lemmas.Bool.Decides.{nat_tests}
use Rattle.std.proofs.lemmas.List.Elements.{All-contains, filter_passes}
use Rattle.std.proofs.lemmas.Option.{slice_get-get_or}
use Rattle.rv_words.specs.Bytes.{bytes_from}
use Rattle.rv_words.specs.declared.range.Range.{Range}
use Rattle.rv_words.specs.Ranges.{AreRangesFrom, range_bytes}
use Rattle.rv_decode.specs.declared.instruction.Instr.{Instr}
use Rattle.rv_decode.specs.declared.instruction.Instr.TheVariants as instr
use Rattle.rv_decode.specs.Registers.{destination, registers_where, sources}
use Rattle.rvc.specs.Number.{bytes_of, length_of}
use Rattle.rvc.proofs.ByteLemmas.{bytes-long}
use Rattle.instr_axioms.specs.Axiom.{is_own}
use Rattle.instr_axioms.specs.Terms.{has_memory}
use Rattle.flow_graph.specs.Flow.{Next, admitted, is_return, length_in}
use Rattle.flow_graph.specs.Graph.{GraphOf}
use Rattle.flow_graph.specs.Walks.{Reaches}
use Rattle.flow_graph.proofs.ExactLemmas.{graph_numbers}
use Rattle.flow_graph.proofs.FlowLemmas.{is_flow}
use Rattle.flow_graph.proofs.InstructionLemmas.{graph_stands, through_return}
use Rattle.flow_graph.proofs.Ways.{node_at}
use Rattle.code_parts.specs.Flows.{AreCodeOf, HaveCode, IsReached, node_code, registers_of}
use Rattle.code_parts.specs.Graph.{is_jump_through}
use Rattle.code_parts.proofs.AnyOf.{slice-below}
use Rattle.code_parts.proofs.CodeOf.{have_code}
use Rattle.code_parts.proofs.GraphCode.{code_in}
use Rattle.code_parts.proofs.FlowCode.{code-byte}
use Rattle.code_parts.proofs.FlowGraph.{any-at}
use Rattle.code_parts.proofs.Lists.{in_range, in-contains, in-true}
use Rattle.code_parts.proofs.Registers.{filter-has, filter-rise}
use Rattle.decompiler.specs.Listing.{IsCodeIn, IsUsedIn, UsesMemoryIn}
use Rattle.decompiler.proofs.Graphs.{node_of, reached_node, reaches_node}

-- ---- tests

any_found : {A : Type 0} (p : A → Bool) (xs : List A) (d : A) → list_any p xs ≡ true → (k : ℕ) × (k < length xs) × (p (get_or xs k d) ≡ true)
any_found p [] d e = absurd (cc)
any_found p (x ∷ xs) d e = go (p x) refl e (λ h. any_found p xs d h)
  where
    go : (b : Bool) → p x ≡ b → (b || list_any p xs) ≡ true → (list_any p xs ≡ true → (k : ℕ) × (k < length xs) × (p (get_or xs k d) ≡ true)) → (k : ℕ) × (k < length (x ∷ xs)) × (p (get_or (x ∷ xs) k d) ≡ true)
    go true is e on = (0, omega arith, is)
    go false is e on = let rest = on e in (suc rest.0, omega (arith, rest.1), rest.2)

any_same : {A : Type 0} (p q : A → Bool) (xs : List A) → ((k : ℕ) (d : A) → k < length xs → p (get_or xs k d) ≡ q (get_or xs k d)) → list_any p xs ≡ list_any q xs
any_same p q [] same = refl
any_same p q (x ∷ xs) same = λ i. same 0 x (omega arith) i || any_same p q xs (λ k d lt. same (suc k) d (omega (arith, lt))) i

or_cases : (a b : Bool) → (a || b) ≡ true → (a ≡ true) ⊎ (b ≡ true)
or_cases true b e = inl refl
or_cases false b e = inr e

or_first : (a b : Bool) → a ≡ true → (a || b) ≡ true
or_first true b e = refl
or_first false b e = absurd (cc)

or_second : (a b : Bool) → b ≡ true → (a || b) ≡ true
or_second true b e = refl
or_second false b e = e

own_used : (i : Instr) (r : ℕ) → is_own i r ≡ true → Contains (sources i) r ⊎ (destination i ≡ r)
own_used i r e = elim (or_cases (eqb (destination i) r) (list_any (λ q. eqb q r) (sources i)) e) [
  | inl d ↦ inr (eqb-true (destination i) r d)
  | inr s ↦ inl (in-contains (sources i) r s)
]

used_own : (i : Instr) (r : ℕ) → Contains (sources i) r ⊎ (destination i ≡ r) → is_own i r ≡ true
used_own i r (inl c) = or_second (eqb (destination i) r) (list_any (λ q. eqb q r) (sources i)) (in-true (sources i) r c)
used_own i r (inr e) = or_first (eqb (destination i) r) (list_any (λ q. eqb q r) (sources i)) (eq-eqb (destination i) r e)

-- the return is the one jump through a register without a fault
same_return : (linked : Bool) (a : ℕ) (i : Instr) → admitted linked a i ≡ Ok i → is_jump_through i ≡ is_return i
same_return linked a (instr.Op o rd rs1 rs2) e = refl
same_return linked a (instr.OpImm o rd rs1 imm) e = refl
same_return linked a (instr.Lui rd imm) e = refl
same_return linked a (instr.Auipc rd imm) e = refl
same_return linked a (instr.Jal rd offset) e = refl
same_return linked a (instr.Jalr rd rs1 imm) e = sym (through_return linked a rd rs1 imm e)
same_return linked a (instr.Branch c rs1 rs2 offset) e = refl
same_return linked a (instr.Load w signed rd rs1 imm) e = refl
same_return linked a (instr.Store w rs1 rs2 imm) e = refl
same_return linked a (instr.Fence imm rs1 rd) e = refl
same_return linked a instr.Ecall e = refl
same_return linked a instr.Ebreak e = refl

-- how many memories there are
abbrev pub memories : Bool → ℕ
memories b = cond b 1 0

-- those of x1 to x31 with a test, where the test is what is claimed
pub registers_by : (test : ℕ → Bool) (r : ℕ) (P : Type 0) → (test r ≡ true → P) → (P → test r ≡ true) → Contains (registers_where test) r ↔ ((1 ≤ r) × (r ≤ 31) × P)
unfolding registers_where
registers_by test r P there back = (
  λ c. let within = in_range 1 (filter test (range_with_len 1 31)) r (filter-rise test 1 31 (omega arith)) c in
      (within.0, within.1, there (All-contains (λ q. test q ≡ true) (filter test (range_with_len 1 31)) r (filter_passes test (range_with_len 1 31)) c)),
  λ h. let low = h.0 in let high = h.1 in filter-has test 1 31 r (omega (arith, low)) (omega (arith, high)) (back h.2),
)

-- .. and how many memories
pub memory_by : (t : Bool) (P : Type 0) → (t ≡ true → P) → (P → t ≡ true) → ((memories t ≡ 1) × P) ⊎ ((memories t ≡ 0) × (P → ⊥))
memory_by true P there back = inl (refl, there refl)
memory_by false P there back = inr (refl, λ p. let e = back p in cc)

-- ---- the code

module _ (linked : Bool) (g : GraphOf) (reached : IsReached linked g) where
  long : length g.instrs ≡ length g.addrs
  long = (is_flow linked reached.code reached.entry g reached.is).as_long

  -- how many bytes a node's instruction has
  length_of_node : (n : ℕ) → n < length g.addrs → length_in reached.code (get_or g.addrs n 0) ≡ length_of (get_or g.numbers n 0)
  length_of_node n lt = ap (λ o. length_of (unwrap_or o 0)) (graph_numbers linked reached.code reached.entry g n reached.is lt)

  -- a byte of a node is one of the code
  pub byte_there : (a b n : ℕ) → n < length g.addrs → node_code g n a ≡ Some b → IsCodeIn reached.code (Reaches (Next linked reached.code) reached.entry) a
  byte_there a b n lt h =
      let w : ℕ = get_or g.numbers n 0 in
      let byte = code-byte (get_or g.addrs n 0) (bytes_of w) a b h in
      let low = slice-below (bytes_of w) byte.0 b byte.2 in
      record {
        from = get_or g.addrs n 0;
        place = byte.0;
        reached = reached.is.reach.reached (get_or g.addrs n 0) (node_at g.addrs n lt);
        within = omega (arith, low, bytes-long w, length_of_node n lt);
        is = byte.1;
      }

  -- .. and the other way, in ranges that have the code
  pub byte_back : (ranges : List Range) → HaveCode g reached.code ranges → (a b : ℕ) → IsCodeIn reached.code (Reaches (Next linked reached.code) reached.entry) a → reached.code a ≡ Some b → range_bytes ranges a ≡ Some b
  byte_back ranges have a b c e =
      let at = reaches_node linked reached.code reached.entry g reached.is c.from c.reached in
      let same : get_or g.addrs at.0 0 + c.place ≡ a = ap (λ n. n + c.place) at.2 ∙ sym c.is in
      let long : length_in reached.code c.from ≡ length_of (get_or g.numbers at.0 0) = ap (length_in reached.code) (sym at.2) ∙ length_of_node at.0 at.1 in
      subst (λ (x : ℕ). range_bytes ranges x ≡ Some b) same (have at.0 c.place b at.1 (omega (arith, c.within, long)) (subst (λ (x : ℕ). reached.code x ≡ Some b) (sym same) e))

  pub bytes_are : (ranges : List Range) → AreCodeOf g ranges → (a b : ℕ) → (range_bytes ranges a ≡ Some b) ↔ (IsCodeIn reached.code (Reaches (Next linked reached.code) reached.entry) a × (reached.code a ≡ Some b))
  bytes_are ranges whole a b = (
    λ h. let at = whole.only a b h in (byte_there a b at.0 at.1 at.2, code_in linked g reached ranges whole a b h),
    λ h. byte_back ranges (have_code linked g reached ranges whole) a b h.0 h.1,
  )

  -- the registers of the instructions are used
  pub used_there : (r : ℕ) → list_any (λ i. is_own i r) g.instrs ≡ true → IsUsedIn linked reached.code (Reaches (Next linked reached.code) reached.entry) r
  used_there r h =
      let at = any_found (λ i. is_own i r) g.instrs instr.Ebreak h in
      record {
        instr = get_or g.instrs at.0 instr.Ebreak;
        reached = reached_node linked reached.code reached.entry g reached.is at.0 (omega (arith, at.1, long));
        stands = own_used (get_or g.instrs at.0 instr.Ebreak) r at.2;
      }

  pub used_back : (r : ℕ) → IsUsedIn linked reached.code (Reaches (Next linked reached.code) reached.entry) r → list_any (λ i. is_own i r) g.instrs ≡ true
  used_back r used =
      let at = node_of linked reached.code reached.entry g reached.is used.instr used.reached in
      any-at (λ i. is_own i r) g.instrs at.0 instr.Ebreak (omega (arith, at.1, long)) (subst (λ (i : Instr). is_own i r ≡ true) (sym at.2) (used_own used.instr r used.stands))

  pub registers_are : (r : ℕ) → Contains (registers_of g.instrs) r ↔ ((1 ≤ r) × (r ≤ 31) × IsUsedIn linked reached.code (Reaches (Next linked reached.code) reached.entry) r)
  registers_are r = registers_by (λ q. list_any (λ i. is_own i q) g.instrs) r (IsUsedIn linked reached.code (Reaches (Next linked reached.code) reached.entry) r) (used_there r) (used_back r)

  -- an instruction loads or stores
  pub access_there : list_any has_memory g.instrs ≡ true → UsesMemoryIn linked reached.code (Reaches (Next linked reached.code) reached.entry)
  access_there h =
      let at = any_found has_memory g.instrs instr.Ebreak h in
      record { instr = get_or g.instrs at.0 instr.Ebreak; reached = reached_node linked reached.code reached.entry g reached.is at.0 (omega (arith, at.1, long)); uses = at.2 }

  pub access_back : UsesMemoryIn linked reached.code (Reaches (Next linked reached.code) reached.entry) → list_any has_memory g.instrs ≡ true
  access_back u =
      let at = node_of linked reached.code reached.entry g reached.is u.instr u.reached in
      any-at has_memory g.instrs at.0 instr.Ebreak (omega (arith, at.1, long)) (subst (λ (i : Instr). has_memory i ≡ true) (sym at.2) u.uses)

  pub memory_is : ((memories (list_any has_memory g.instrs) ≡ 1) × UsesMemoryIn linked reached.code (Reaches (Next linked reached.code) reached.entry))
      ⊎ ((memories (list_any has_memory g.instrs) ≡ 0) × (UsesMemoryIn linked reached.code (Reaches (Next linked reached.code) reached.entry) → ⊥))
  memory_is = memory_by (list_any has_memory g.instrs) (UsesMemoryIn linked reached.code (Reaches (Next linked reached.code) reached.entry)) access_there access_back

  pub returns_are : list_any is_jump_through g.instrs ≡ list_any is_return g.instrs
  returns_are = any_same is_jump_through is_return g.instrs (λ k d lt.
      let at = graph_stands linked reached.code reached.entry g k (get_or g.instrs k d) reached.is (omega (arith, lt, long)) (slice_get-get_or g.instrs k d lt) in
      same_return linked (get_or g.addrs k 0) (get_or g.instrs k d) at.fine)

-- ---- the bytes of ranges

each_small : (bs : List ℕ) → ((k b : ℕ) → slice_get bs k ≡ Some b → b < 256) → AllByRecursion (λ b. b < 256) bs
each_small [] h = tt
each_small (b ∷ bs) h = (h 0 b refl, each_small bs (λ k c e. h (suc k) c e))

place_of_byte : (a k b : ℕ) (bs : List ℕ) (o : Option ℕ) → slice_get bs k ≡ Some b → option_or (bytes_from a bs (a + k)) o ≡ Some b
place_of_byte a k b bs o e =
    let low : leb a (a + k) ≡ true = grind (arith, nat_tests) in
    let place : a + k - a ≡ k = omega arith in
    (λ i. option_or (cond (low i) (slice_get bs (place i)) None) o) ∙ ap (λ x. option_or x o) e

none_past : (bs : List ℕ) (k : ℕ) → length bs ≤ k → slice_get bs k ≡ None
none_past [] k le = refl
none_past (b ∷ bs) zero le = absurd (omega arith)
none_past (b ∷ bs) (suc k) le = none_past bs k (omega (arith, le))

past_range : (a q : ℕ) (bs : List ℕ) (o : Option ℕ) → a + length bs ≤ q → option_or (bytes_from a bs q) o ≡ o
past_range a q bs o le =
    let low : leb a q ≡ true = grind (arith, nat_tests) in
    (λ i. option_or (cond (low i) (slice_get bs (q - a)) None) o) ∙ ap (λ x. option_or x o) (none_past bs (q - a) (omega (arith, le)))

-- ranges of bytes at addresses
pub ranges_small : (least : ℕ) (rs : List Range) → AreRangesFrom least rs → ((a b : ℕ) → least ≤ a → range_bytes rs a ≡ Some b → b < 256) → AllByRecursion (λ r. AllByRecursion (λ b. b < 256) r.bytes) rs
ranges_small least [] are h = tt
ranges_small least (r ∷ rs) are h = (
  each_small r.bytes (λ k b e. h (r.at + k) b (omega (arith, are.0)) (place_of_byte r.at k b r.bytes (range_bytes rs (r.at + k)) e)),
  ranges_small (r.at + length r.bytes + 1) rs are.3 (λ a b le e. h a b (omega (arith, le, are.0)) (past_range r.at a r.bytes (range_bytes rs a) (omega (arith, le)) ∙ e)),
)
