-- What a flow tells of a graph that is reached, and its forest.
use Rattle.std.proofs.Common.{◌≡◌, ℕ, zero, suc, ◌+◌, ◌^◌, ◌<◌, ◌≤◌, Bool, true, false, cond, eqb, List, [], ◌∷◌, length, get_or, drop, None, Some, option_map, refl, sym, ap, subst, ◌∙◌, arith, eqb-true}
use Rattle.std.proofs.lemmas.Option.{get_or_from_slice_get, slice_get-get_or}
use Rattle.std.specs.Prelude.{slice_get}
use Rattle.std.specs.List.{All, list_any}
use Rattle.std.proofs.lemmas.List.Elements.{All-cons, All-nil}
use Rattle.rv_words.specs.declared.range.Range.{Range}
use Rattle.rv_decode.specs.declared.instruction.Instr.{Instr}
use Rattle.rv_decode.specs.declared.instruction.Instr.TheVariants.{Ebreak}
use Rattle.rv_decode.specs.Registers.{destination}
use Rattle.tailrec_lang.specs.Registers.{AreRegistersFrom}
use Rattle.instr_axioms.specs.Terms.{has_memory}
use Rattle.rvc.proofs.ByteLemmas.{number-small}
use Rattle.rvc.proofs.NumberLemmas.{instruction-named, number_in-is}
use Rattle.triple_kernel.specs.declared.form.Form.{Form}
use Rattle.triple_kernel.specs.declared.form.Form.TheVariants.{Next}
use Rattle.flow_graph.specs.Graph.{GraphOf, succs_of}
use Rattle.flow_graph.proofs.FlowLemmas.{is_flow}
use Rattle.flow_graph.proofs.InstructionLemmas.{graph_stands}
use Rattle.flow_graph.proofs.Ways.{node_at}
use Rattle.loop_forest.specs.Forest.{ForestOf, IsForestOf, exits_of, head_of}
use Rattle.loop_forest.specs.Walking.{index_in}
use Rattle.code_parts.specs.declared.part.Part.{Part}
use Rattle.code_parts.specs.declared.part.Part.TheVariants.{Loop, Rest}
use Rattle.code_parts.specs.Regions.{IsOfRegion}
use Rattle.code_parts.specs.Graph.{IsAlone, IsCode, IsGraph, IsPart, StandsAt, has_edge, is_jump_through}
use Rattle.code_parts.specs.Flows.{AreCodeOf, HaveInstructions, IsReached, IsSetFor, Context, ContextOf, alone, edge_number, flow_of, function_at, registers_of, context_of, unlinked}
use Rattle.code_parts.specs.declared.callee.Callee.{Callee}
use Rattle.code_parts.specs.Kept.{FlowOf, IsKept, flow_in}
use Rattle.code_parts.proofs.CodeOf.{have_bytes, instructions-in}
use Rattle.code_parts.proofs.FlowCode.{are-small, is-code}
use Rattle.code_parts.proofs.FlowGraph.{edge-at, is-graph, walks}
use Rattle.code_parts.proofs.FlowMade.{is-alone, set-alone}
use Rattle.code_parts.proofs.Lists.{rising-short}

-- ---- registers

named_registers : (least : ℕ) (rs : List ℕ) → 0 < least → AreRegistersFrom least rs → All (λ r. (0 < r) × (r < 32)) rs
named_registers least [] some h = All-nil (λ r. (0 < r) × (r < 32))
named_registers least (r ∷ rs) some h =
    let low = h.0 in
    let high = h.1 in
    All-cons (λ q. (0 < q) × (q < 32)) r rs (omega (arith, some, low), omega (arith, high)) (named_registers (r + 1) rs (omega arith) h.2)

-- the items of a list don't depend on what stands past its end
default : (xs : List ℕ) (k d e : ℕ) → k < length xs → get_or xs k e ≡ get_or xs k d
default [] k d e lt = absurd (omega arith)
default (x ∷ xs) zero d e lt = refl
default (x ∷ xs) (suc k) d e lt = default xs k d e (omega (arith, lt))

pub second_is : (xs : List ℕ) → get_or (drop 1 xs) 0 0 ≡ get_or xs 1 0
second_is [] = refl
second_is (x ∷ xs) = refl

-- ---- the flow of a graph that is reached

module _ (s : FlowOf) (linked : Bool) (reached : IsReached linked s.graph) (forest : IsForestOf s.graph s.forest) where
  abbrev g : GraphOf
  g = s.graph

  abbrev f : ForestOf
  f = s.forest

  graph_of : IsGraph (flow_in s)
  graph_of = is-graph linked reached.code reached.entry g f (context_of s.context) reached.is forest

  -- an instruction of the graph names registers
  writes_of : (n : ℕ) → n < length g.addrs → destination (get_or g.instrs n Ebreak) < 32
  writes_of n lt =
      let same = (is_flow linked reached.code reached.entry g reached.is).as_long in
      let at = graph_stands linked reached.code reached.entry g n (get_or g.instrs n Ebreak) reached.is lt (slice_get-get_or g.instrs n Ebreak (omega (arith, lt, same))) in
      let small = number-small reached.code (get_or g.addrs n 0) at.number reached.bytes ((number_in-is reached.code (get_or g.addrs n 0) at.number).0 at.there).0 in
      (are-small (get_or g.instrs n Ebreak) (instruction-named at.number (get_or g.instrs n Ebreak) small at.is)).0

  -- an edge leads to a node
  edge_of : (n : ℕ) (form : Form) → n < length g.addrs → has_edge (get_or g.instrs n Ebreak) form ≡ true → get_or (succs_of g.edges n) (edge_number form) 0 < length g.addrs
  edge_of n form lt has =
      let at = edge-at linked reached.code reached.entry g f (context_of s.context) reached.is forest n form lt has in
      (is_flow linked reached.code reached.entry g reached.is).within n (get_or (succs_of g.edges n) (edge_number form) 0) (node_at (succs_of g.edges n) (edge_number form) at.0)

  head_node : (l : ℕ) → l < length f.heads → head_of f l < length g.addrs
  head_node l lt = ((walks linked reached.code reached.entry g f (context_of s.context) reached.is forest).head l lt).0

  exit_nodes : (l : ℕ) → l < length f.heads → All (λ x. x < length g.addrs) (exits_of f l)
  exit_nodes l lt k d at = ((walks linked reached.code reached.entry g f (context_of s.context) reached.is forest).exit l (get_or (exits_of f l) k d) lt (k, at, default (exits_of f l) k d (get_or (exits_of f l) k d) at)).0

-- .. told by what a flow keeps
module _ (g : GraphOf) (f : ForestOf) (t : ContextOf) (ret : Bool) (code : List Range) (kept : IsKept g f t ret code)
    (s : FlowOf) (is : record { graph = g; forest = f; context = t; code = code } ≡ s) where
  abbrev linked : Bool
  linked = kept.reached.0

  reached : IsReached linked s.graph
  reached = subst (λ (z : FlowOf). IsReached linked z.graph) is kept.reached.1

  forest : IsForestOf s.graph s.forest
  forest = subst (λ (z : FlowOf). IsForestOf z.graph z.forest) is kept.forest

  fits : IsSetFor s.graph (context_of s.context)
  fits = subst (λ (z : FlowOf). IsSetFor z.graph (context_of z.context)) is kept.fits

  pub graph_is : IsGraph (flow_in s)
  graph_is = graph_of s linked reached forest

  pub whole_code : HaveInstructions s.graph s.code
  whole_code = subst (λ (z : FlowOf). HaveInstructions z.graph z.code) is kept.code_has

  pub code_stands : IsCode (flow_in s) s.code
  code_stands = is-code linked reached.code reached.entry s.graph s.forest (context_of s.context) s.code reached.is forest reached.bytes (have_bytes linked s.graph reached s.code whole_code) fits

  -- a call goes on to the next instruction
  pub call_edge : (n : ℕ) (c : Callee) → n < length s.graph.addrs → (flow_in s).callee n ≡ Some c → has_edge ((flow_in s).instr n) Next ≡ true
  call_edge n c lt calls = graph_is.calls n c lt calls

  pub word_stands : (n : ℕ) → n < length s.graph.addrs → StandsAt (flow_in s) s.code n
  word_stands n lt = code_stands.each n lt

  pub writes_register : (n : ℕ) (i : Instr) → n < length s.graph.addrs → Some i ≡ slice_get s.graph.instrs n → destination i < 32
  writes_register n i lt at = subst (λ (z : Instr). destination z < 32) (get_or_from_slice_get s.graph.instrs n i Ebreak (sym at)) (writes_of s linked reached forest n lt)

  pub edge_within : (n : ℕ) (form : Form) (m : ℕ) → n < length s.graph.addrs → m ≡ get_or (succs_of s.graph.edges n) (edge_number form) 0 → has_edge (get_or s.graph.instrs n Ebreak) form ≡ true → m < length s.graph.addrs
  edge_within n form m lt at has = let low = edge_of s linked reached forest n form lt has in omega (arith, low, at)

  pub head_within : (l h : ℕ) → l < length s.forest.heads → h ≡ head_of s.forest l → h < length s.graph.addrs
  head_within l h lt at = let low = head_node s linked reached forest l lt in omega (arith, low, at)

  pub exits_within : (l : ℕ) (xs : List ℕ) → l < length s.forest.heads → xs ≡ exits_of s.forest l → All (λ x. x < length s.graph.addrs) xs
  exits_within l xs lt are = subst (All (λ x. x < length s.graph.addrs)) (sym are) (exit_nodes s linked reached forest l lt)

  pub region_is : (p : Part) → IsPart (flow_in s) p → IsOfRegion (flow_in s) p
  region_is (Loop l) there = there
  region_is (Rest None n) there = tt
  region_is (Rest (Some l) n) there = forest.within n l there.0 there.2

  pub registers_few : length t.regs ≤ 31
  registers_few = let short = rising-short 1 t.regs (omega arith) kept.fits.rise in omega (arith, short)

  pub registers_named : All (λ r. (0 < r) × (r < 32)) t.regs
  registers_named = named_registers 1 t.regs (omega arith) kept.fits.rise

-- the flow of these
pub same_flow : (s : FlowOf) (g : GraphOf) (f : ForestOf) (t : Context) → s.graph ≡ g → s.forest ≡ f → context_of s.context ≡ t → flow_in s ≡ flow_of g f t
same_flow s g f t a b c = λ i. flow_of (a i) (b i) (c i)

-- the context of a function alone, as the code has it
pub alone_is : (g : GraphOf) (parts : List Part) (regs : List ℕ) (mem : Bool) (mems : ℕ) → regs ≡ registers_of g.instrs → mem ≡ list_any has_memory g.instrs → mems ≡ cond mem 1 0
    → context_of (record { base = 0; parts = parts; regs = regs; mems = mems; second = []; functions = [] }) ≡ alone g parts
alone_is g parts regs mem mems registers memory count = λ i. record {
  base = 0;
  parts = parts;
  regs = registers i;
  mems = (count ∙ ap (λ (b : Bool). cond b 1 0) memory) i;
  uses = λ a. 0;
  functions = unlinked;
}

-- what is kept of a function alone
pub kept_alone : (g : GraphOf) (f : ForestOf) (parts : List Part) (t : ContextOf) (ret : Bool) (code : List Range) → IsReached false g → IsForestOf g f → length parts < 2 ^ 32 → context_of t ≡ alone g parts → ret ≡ list_any is_jump_through g.instrs → AreCodeOf g code → IsKept g f t ret code
kept_alone g f parts t ret code reached forest few is returns whole = record {
  reached = (false, reached);
  forest = forest;
  few = (let none : t.base ≡ 0 = ap (λ (z : Context). z.base) is in let many : length t.parts ≡ length parts = ap (λ (z : Context). length z.parts) is in omega (arith, none, many, few));
  few_mems = (let two = at-most (list_any has_memory g.instrs) in let same : t.mems ≡ cond (list_any has_memory g.instrs) 1 0 = ap (λ (z : Context). z.mems) is in omega (arith, same, two));
  fits = subst (IsSetFor g) (sym is) (set-alone g parts);
  returns_is = returns;
  code_has = instructions-in g code whole;
}
  where
    at-most : (b : Bool) → cond b 1 0 ≤ 2
    at-most true = omega arith
    at-most false = omega arith

-- .. and its flow is alone
pub flow_alone : (g : GraphOf) (f : ForestOf) (parts : List Part) (s : FlowOf) → IsReached false g → s.graph ≡ g → s.forest ≡ f → context_of s.context ≡ alone g parts → IsAlone (flow_in s)
flow_alone g f parts s reached a b c = subst IsAlone (sym (same_flow s g f (alone g parts) a b c)) (is-alone reached.code reached.entry g f parts reached.is)

-- a function stands under its address
pub entered-at : (cs : List Callee) (a : ℕ) → (function_at cs a).entry ≡ a
entered-at [] a = refl
entered-at (c ∷ cs) a = go (eqb c.entry a) refl (entered-at cs a)
  where
    go : (b : Bool) → eqb c.entry a ≡ b → (function_at cs a).entry ≡ a → (cond b c (function_at cs a)).entry ≡ a
    go true is rest = eqb-true c.entry a is
    go false is rest = rest

-- a memory, where there is at most one
pub one_memory : (m : ℕ) → m ≤ 1 → m ≡ cond (eqb m 1) 1 0
one_memory zero le = refl
one_memory (suc zero) le = refl
one_memory (suc (suc m)) le = absurd (omega (arith, le))

-- ---- lists

-- the first place of a number
abbrev pub IsMissing : List ℕ → ℕ → ℕ → Type 0
IsMissing xs n l = (j : ℕ) → j < l → eqb (get_or xs j 0) n ≡ false

pub index_found : (xs : List ℕ) (n l : ℕ) → l < length xs → IsMissing xs n l → eqb (get_or xs l 0) n ≡ true → Some l ≡ index_in xs n
index_found [] n l lt missing at = absurd (omega arith)
index_found (x ∷ xs) n zero lt missing at = λ i. cond (sym at i) (Some 0) (option_map (λ k. k + 1) (index_in xs n))
index_found (x ∷ xs) n (suc l) lt missing at =
    let first : eqb x n ≡ false = missing 0 (omega arith) in
    let rest = index_found xs n l (omega (arith, lt)) (λ j low. missing (suc j) (omega (arith, low))) at in
    let next : suc l ≡ l + 1 = omega arith in
    ap Some next ∙ ap (option_map (λ k. k + 1)) rest ∙ (λ i. cond (sym first i) (Some 0) (option_map (λ k. k + 1) (index_in xs n)))

pub index_missing : (xs : List ℕ) (n l : ℕ) → l ≡ length xs → IsMissing xs n l → None ≡ index_in xs n
index_missing [] n l e missing = refl
index_missing (x ∷ xs) n zero e missing = absurd (omega arith)
index_missing (x ∷ xs) n (suc l) e missing =
    let first : eqb x n ≡ false = missing 0 (omega arith) in
    let rest = index_missing xs n l (omega (arith, e)) (λ j low. missing (suc j) (omega (arith, low))) in
    ap (option_map (λ k. k + 1)) rest ∙ (λ i. cond (sym first i) (Some 0) (option_map (λ k. k + 1) (index_in xs n)))
