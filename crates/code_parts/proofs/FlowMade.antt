-- A group of all parts of a graph, in their order, is made of the graph.
use Rattle.std.proofs.Common.{◌≡◌, ℕ, zero, suc, ◌<◌, ◌≤◌, List, [], ◌∷◌, length, get_or, Bool, true, false, cond, eqb, leb, ◌||◌, ◌&&◌, refl, sym, ap, subst, ◌∙◌, arith, None, Some, option_map, Ok, Err, zero-add}
use Rattle.std.proofs.lemmas.Bool.{eqb-true, leb-false, leb-true}
use Rattle.std.proofs.lemmas.Option.{slice_get-get_or}
use Rattle.std.specs.Prelude.{slice_get}
use Rattle.std.specs.List.{list_any}
use Rattle.rv_decode.specs.declared.instruction.Instr.{Instr}
use Rattle.rv_decode.specs.declared.instruction.Instr.TheVariants as instr
use Rattle.instr_axioms.specs.Terms.{has_memory}
use Rattle.flow_graph.specs.declared.outside.Outside.TheVariants.{Call}
use Rattle.flow_graph.specs.Flow.{admitted, called_by, target}
use Rattle.flow_graph.proofs.FlowLemmas.{is_flow}
use Rattle.flow_graph.proofs.InstructionLemmas.{graph_stands}
use Rattle.rv_words.specs.Bytes.{Bytes, AreBytes}
use Rattle.rv_words.specs.declared.range.Range.{Range}
use Rattle.flow_graph.specs.Graph.{GraphOf, IsGraphOf}
use Rattle.loop_forest.specs.Forest.{ForestOf, IsForestOf, number_of}
use Rattle.code_parts.specs.declared.part.Part.{Part}
use Rattle.code_parts.specs.Bodies.{part_body}
use Rattle.code_parts.specs.declared.callee.Callee.{Callee}
use Rattle.code_parts.specs.Graph.{CallsBelow, IsAlone, IsCode, IsMade}
use Rattle.code_parts.specs.Flows.{HaveCode, IsSetFor, alone, flow_of, group_of, place_in, unlinked}
use Rattle.code_parts.specs.Order.{AreParts}
use Rattle.code_parts.proofs.FlowCode.{is-code, registers-rise}
use Rattle.code_parts.proofs.FlowGraph.{any-at}
use Rattle.code_parts.proofs.FlowOrder.{calls-below, part-at, there-at}

-- where functions aren't linked there are no calls
pub uncalled-of : (a : ℕ) (i : Instr) → admitted false a i ≡ Ok i → called_by a i ≡ None
uncalled-of a (instr.Jal rd offset) e = go (eqb rd 0) refl (eqb rd 1) refl e
  where
    go : (z : Bool) → eqb rd 0 ≡ z → (o : Bool) → eqb rd 1 ≡ o → cond (z || (false && o)) (Ok (instr.Jal rd offset)) (Err (Call a)) ≡ Ok (instr.Jal rd offset) → cond o (Some (target a offset)) None ≡ None
    go z zero_is false one_is e = refl
    go true zero_is true one_is e = absurd (let z = eqb-true rd 0 zero_is in let o = eqb-true rd 1 one_is in omega (arith, z, o))
    go false zero_is true one_is e = absurd (cc)
uncalled-of a (instr.Op o rd rs1 rs2) e = refl
uncalled-of a (instr.OpImm o rd rs1 imm) e = refl
uncalled-of a (instr.Lui rd imm) e = refl
uncalled-of a (instr.Auipc rd imm) e = refl
uncalled-of a (instr.Jalr rd rs1 imm) e = refl
uncalled-of a (instr.Branch c rs1 rs2 offset) e = refl
uncalled-of a (instr.Load w signed rd rs1 imm) e = refl
uncalled-of a (instr.Store w rs1 rs2 imm) e = refl
uncalled-of a (instr.Fence imm rs1 rd) e = refl
uncalled-of a instr.Ecall e = refl
uncalled-of a instr.Ebreak e = refl

pub none-called : (code : Bytes) (entry : ℕ) (g : GraphOf) (f : ForestOf) (parts : List Part) → IsGraphOf false code entry g → (n : ℕ) → n < length g.addrs → (flow_of g f (alone g parts)).callee n ≡ None
none-called code entry g f parts graph n node =
    let long = (is_flow false code entry g graph).as_long in
    let stands = graph_stands false code entry g n (get_or g.instrs n instr.Ebreak) graph node (slice_get-get_or g.instrs n instr.Ebreak (omega (arith, node, long))) in
    ap (option_map unlinked) (uncalled-of (get_or g.addrs n 0) (get_or g.instrs n instr.Ebreak) stands.fine)

at-most-one : (b : Bool) → cond b 1 0 ≤ 1
at-most-one true = omega arith
at-most-one false = omega arith

pub is-alone : (code : Bytes) (entry : ℕ) (g : GraphOf) (f : ForestOf) (parts : List Part) → IsGraphOf false code entry g → IsAlone (flow_of g f (alone g parts))
is-alone code entry g f parts graph = record {
  mems = at-most-one (list_any has_memory g.instrs);
  uses = λ n lt. refl;
  calls = λ n lt. none-called code entry g f parts graph n lt;
}

uncalled : (code : Bytes) (entry : ℕ) (g : GraphOf) (f : ForestOf) (parts : List Part) → IsGraphOf false code entry g → (n : ℕ) (c : Callee) → n < length g.addrs → (flow_of g f (alone g parts)).callee n ≡ Some c → ⊥
uncalled code entry g f parts graph n c node e = let none = sym (none-called code entry g f parts graph n node) ∙ e in cc

-- what a function alone has
pub set-alone : (g : GraphOf) (parts : List Part) → IsSetFor g (alone g parts)
set-alone g parts = record {
  rise = registers-rise g.instrs;
  regs = λ r c. c;
  uses = λ n lt e. some (list_any has_memory g.instrs) (any-at has_memory g.instrs n instr.Ebreak (within n e (leb (length g.instrs) n) refl) e);
  functions = λ a. refl;
}
  where
    some : (t : Bool) → t ≡ true → 0 < cond t 1 0
    some true e = omega arith
    some false e = absurd (cc)

    past : (xs : List Instr) (n : ℕ) → length xs ≤ n → get_or xs n instr.Ebreak ≡ instr.Ebreak
    past [] n le = refl
    past (x ∷ xs) zero le = absurd (omega arith)
    past (x ∷ xs) (suc n) le = past xs n (omega (arith, le))

    within : (n : ℕ) → has_memory (get_or g.instrs n instr.Ebreak) ≡ true → (t : Bool) → leb (length g.instrs) n ≡ t → n < length g.instrs
    within n e true is = let none : has_memory instr.Ebreak ≡ true = (λ j. has_memory (sym (past g.instrs n (leb-true (length g.instrs) n is)) j)) ∙ e in absurd (cc)
    within n e false is = let lt = leb-false (length g.instrs) n is in omega (arith, lt)

pub made-over : (code : Bytes) (entry : ℕ) (g : GraphOf) (f : ForestOf) (parts : List Part) (name : List ℕ) (ranges : List Range) → IsGraphOf false code entry g → IsForestOf g f →
    IsCode (flow_of g f (alone g parts)) ranges → AreParts (flow_of g f (alone g parts)) (number_of f) parts → IsMade (flow_of g f (alone g parts)) (group_of (flow_of g f (alone g parts)) name ranges parts) parts
made-over code entry g f parts name ranges graph forest whole order = record {
  regs = refl;
  mems = refl;
  code = whole;
  defs = refl;
  listed = λ q there. ap (slice_get parts) (zero-add (place_in parts q)) ∙ there-at (flow_of g f (alone g parts)) (number_of f) parts order q there;
  part = λ k q at. let is = part-at (flow_of g f (alone g parts)) (number_of f) parts order k q at in (is.0, zero-add (place_in parts q) ∙ is.1);
  below = λ k q at.
      let is = part-at (flow_of g f (alone g parts)) (number_of f) parts order k q at in
      subst (λ d. CallsBelow d (part_body (flow_of g f (alone g parts)) q)) (zero-add (place_in parts q) ∙ is.1) (calls-below false code entry g f (alone g parts) graph forest order (λ n c node e. absurd (uncalled code entry g f parts graph n c node e)) q is.0);
  callees = λ n c node e. absurd (uncalled code entry g f parts graph n c node e);
}

pub is-made : (code : Bytes) (entry : ℕ) (g : GraphOf) (f : ForestOf) (parts : List Part) (name : List ℕ) (ranges : List Range) → IsGraphOf false code entry g → IsForestOf g f → AreBytes code →
    HaveCode g code ranges → AreParts (flow_of g f (alone g parts)) (number_of f) parts → IsMade (flow_of g f (alone g parts)) (group_of (flow_of g f (alone g parts)) name ranges parts) parts
is-made code entry g f parts name ranges graph forest bytes have order =
    made-over code entry g f parts name ranges graph forest (is-code false code entry g f (alone g parts) ranges graph forest bytes have (set-alone g parts)) order
