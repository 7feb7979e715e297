-- Where the actions of nodes lead, and where parts end.
use Rattle.std.proofs.Common.{◌≡◌, ℕ, suc, List, Bool, true, false, cond, eqb, refl, sym, ap, ◌∙◌, Option, Some, None, ◌⊎◌, inl, inr}
use Rattle.std.specs.Prelude.{option_map}
use Rattle.rv_decode.specs.declared.instruction.Instr.{Instr}
use Rattle.rv_decode.specs.declared.instruction.Instr.TheVariants as instr
use Rattle.tailrec_lang.specs.Tree.{ValuesTree, StepTree, Again, Leave}
use Rattle.triple_kernel.specs.declared.form.Form.{Form}
use Rattle.triple_kernel.specs.declared.form.Form.TheVariants.{Next, Taken}
use Rattle.code_parts.specs.declared.part.Part.{Part}
use Rattle.code_parts.specs.declared.part.Part.TheVariants.{Loop, Rest}
use Rattle.code_parts.specs.Bodies.{Flow, VariableMap, Action, Straight, Fork, Return, Enter, action_of, action_calling, own, rest_targets, index_of, end_of}
use Rattle.code_parts.specs.declared.callee.Callee.{Callee}
use Rattle.code_parts.specs.Graph.{has_edge, is_jump_through}

-- ---- edges of actions

abbrev pub Leads : Action → ℕ → Type 0
Leads (Straight ss u to) m = to ≡ m
Leads (Fork c a b) m = (a ≡ m) ⊎ (b ≡ m)
Leads (Return ss t) m = ⊥
Leads (Enter ss u c back to) m = to ≡ m

pub leads-edge : (i : Instr) (a k q : ℕ) (to : Form → ℕ) (v : VariableMap) (m : ℕ) → Leads (action_of i a k q to v) m → (form : Form) × (has_edge i form ≡ true) × (to form ≡ m)
leads-edge (instr.Op o rd rs1 rs2) a k q to v m h = (Next, refl, h)
leads-edge (instr.OpImm o rd rs1 imm) a k q to v m h = (Next, refl, h)
leads-edge (instr.Lui rd imm) a k q to v m h = (Next, refl, h)
leads-edge (instr.Auipc rd imm) a k q to v m h = (Next, refl, h)
leads-edge (instr.Jal rd offset) a k q to v m h = (Next, refl, h)
leads-edge (instr.Jalr rd rs1 imm) a k q to v m h = absurd h
leads-edge (instr.Branch c rs1 rs2 offset) a k q to v m (inl h) = (Taken, refl, h)
leads-edge (instr.Branch c rs1 rs2 offset) a k q to v m (inr h) = (Next, refl, h)
leads-edge (instr.Load w signed rd rs1 imm) a k q to v m h = (Next, refl, h)
leads-edge (instr.Store w rs1 rs2 imm) a k q to v m h = (Next, refl, h)
leads-edge (instr.Fence imm rs1 rd) a k q to v m h = (Next, refl, h)
leads-edge instr.Ecall a k q to v m h = (Next, refl, h)
leads-edge instr.Ebreak a k q to v m h = (Next, refl, h)

-- .. where a call goes on behind itself
pub leads-calling : (o : Option Callee) (i : Instr) (a k q : ℕ) (to : Form → ℕ) (v : VariableMap) (m : ℕ) → ((c : Callee) → o ≡ Some c → has_edge i Next ≡ true) → Leads (action_calling o i a k q to v) m
    → (form : Form) × (has_edge i form ≡ true) × (to form ≡ m)
leads-calling None i a k q to v m jal h = leads-edge i a k q to v m h
leads-calling (Some c) i a k q to v m jal h = (Next, jal c refl, h)

abbrev pub Returns : Action → Type 0
Returns (Straight ss u to) = ⊥
Returns (Fork c a b) = ⊥
Returns (Return ss t) = Unit {0}
Returns (Enter ss u c back to) = ⊥

pub returns-is : (i : Instr) (a k q : ℕ) (to : Form → ℕ) (v : VariableMap) → Returns (action_of i a k q to v) → is_jump_through i ≡ true
returns-is (instr.Op o rd rs1 rs2) a k q to v h = absurd h
returns-is (instr.OpImm o rd rs1 imm) a k q to v h = absurd h
returns-is (instr.Lui rd imm) a k q to v h = absurd h
returns-is (instr.Auipc rd imm) a k q to v h = absurd h
returns-is (instr.Jal rd offset) a k q to v h = absurd h
returns-is (instr.Jalr rd rs1 imm) a k q to v h = refl
returns-is (instr.Branch c rs1 rs2 offset) a k q to v h = absurd h
returns-is (instr.Load w signed rd rs1 imm) a k q to v h = absurd h
returns-is (instr.Store w rs1 rs2 imm) a k q to v h = absurd h
returns-is (instr.Fence imm rs1 rd) a k q to v h = absurd h
returns-is instr.Ecall a k q to v h = absurd h
returns-is instr.Ebreak a k q to v h = absurd h

pub returns-calling : (o : Option Callee) (i : Instr) (a k q : ℕ) (to : Form → ℕ) (v : VariableMap) → Returns (action_calling o i a k q to v) → is_jump_through i ≡ true
returns-calling None i a k q to v h = returns-is i a k q to v h
returns-calling (Some c) i a k q to v h = absurd h

-- ---- ends of parts

-- a part ends by itself where the rest of its region ends
pub end-some : (f : Flow) (p : Part) (n k : ℕ) (x : ValuesTree) → index_of (rest_targets f (own p)) n ≡ Some k → end_of f p n x ≡ None → ⊥
end-some f (Rest r c) n k x is none = let e : Some (Leave k x) ≡ None = ap (option_map (λ k. Leave k x)) (sym is) ∙ none in cc
end-some f (Loop l) n k x is none = go (eqb n (f.head l)) (index_of (f.exits l) n) is none
  where
    go : (b : Bool) (o : Option ℕ) → cond b (Some 0) (option_map suc o) ≡ Some k → cond b (Some (Again x)) (option_map (λ k. Leave k x) o) ≡ None → ⊥
    go true o is none = cc
    go false None is none = cc
    go false (Some j) is none = cc

-- ---- calls

-- what is no call enters no function
calls-none : (i : Instr) (a k q : ℕ) (to : Form → ℕ) (v : VariableMap) (ss : List StepTree) (w : VariableMap) (c : Callee) (back n : ℕ) → action_of i a k q to v ≡ Enter ss w c back n → ⊥
calls-none (instr.Op o rd rs1 rs2) a k q to v ss w c back n e = cc
calls-none (instr.OpImm o rd rs1 imm) a k q to v ss w c back n e = cc
calls-none (instr.Lui rd imm) a k q to v ss w c back n e = cc
calls-none (instr.Auipc rd imm) a k q to v ss w c back n e = cc
calls-none (instr.Jal rd offset) a k q to v ss w c back n e = cc
calls-none (instr.Jalr rd rs1 imm) a k q to v ss w c back n e = cc
calls-none (instr.Branch c2 rs1 rs2 offset) a k q to v ss w c back n e = cc
calls-none (instr.Load w' signed rd rs1 imm) a k q to v ss w c back n e = cc
calls-none (instr.Store w' rs1 rs2 imm) a k q to v ss w c back n e = cc
calls-none (instr.Fence imm rs1 rd) a k q to v ss w c back n e = cc
calls-none instr.Ecall a k q to v ss w c back n e = cc
calls-none instr.Ebreak a k q to v ss w c back n e = cc

-- a call alone enters a function
pub calls-row : (o : Option Callee) (i : Instr) (a k q : ℕ) (to : Form → ℕ) (v : VariableMap) (ss : List StepTree) (w : VariableMap) (c : Callee) (back n : ℕ) → action_calling o i a k q to v ≡ Enter ss w c back n → o ≡ Some c
calls-row None i a k q to v ss w c back n e = absurd (calls-none i a k q to v ss w c back n e)
calls-row (Some d) i a k q to v ss w c back n e = let same : d ≡ c = cc in ap Some same
