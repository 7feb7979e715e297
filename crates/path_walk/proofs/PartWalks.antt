-- Where a walk goes from the nodes of a part.
use Rattle.std.proofs.Common.{◌≡◌, ℕ, suc, ◌+◌, ◌-◌, ◌<◌, ◌≤◌, Bool, true, false, cond, eqb, List, refl, sym, ap, ◌∙◌, subst, arith, Option, None, Some}
use Rattle.std.specs.Prelude.{slice_get}
use Rattle.rv_words.specs.declared.range.Range.{Range}
use Rattle.rv_decode.specs.declared.instruction.Instr.{Instr}
use Rattle.rv_decode.specs.declared.instruction.Instr.TheVariants as instr
use Rattle.triple_kernel.specs.declared.form.Form.{Form}
use Rattle.triple_kernel.specs.declared.form.Form.TheVariants.{Next}
use Rattle.instr_axioms.specs.Terms.{has_form}
use Rattle.code_parts.specs.declared.part.Part.{Part}
use Rattle.code_parts.specs.declared.part.Part.TheVariants.{Loop, Rest}
use Rattle.rv_decode.specs.Registers.{destination}
use Rattle.code_parts.specs.Bodies.{Flow, VariableMap, is_store, own, place_after, stored}
use Rattle.code_parts.specs.Graph.{IsCode, IsEdge, IsGraph, IsPart, IsPlaced, has_edge, is_jump_through}
use Rattle.path_walk.specs.inner.Near.{IsEnd, IsNear, IsNext}

-- ---- forms

pub edge_form : (f : Flow) (ranges : List Range) (n : ℕ) (form : Form) → IsCode f ranges → n < f.nodes → has_edge (f.instr n) form ≡ true → has_form (f.instr n) form ≡ true
edge_form f ranges n form code node edge = (code.each n node).form form edge

return-has : (i : Instr) → is_jump_through i ≡ true → has_form i Next ≡ true
return-has (instr.Jalr rd rs1 imm) is = refl
return-has (instr.Op o rd rs1 rs2) is = absurd (cc)
return-has (instr.OpImm o rd rs1 imm) is = absurd (cc)
return-has (instr.Lui rd imm) is = absurd (cc)
return-has (instr.Auipc rd imm) is = absurd (cc)
return-has (instr.Jal rd offset) is = absurd (cc)
return-has (instr.Branch c rs1 rs2 offset) is = absurd (cc)
return-has (instr.Load w signed rd rs1 imm) is = absurd (cc)
return-has (instr.Store w rs1 rs2 imm) is = absurd (cc)
return-has (instr.Fence imm rs1 rd) is = absurd (cc)
return-has instr.Ecall is = absurd (cc)
return-has instr.Ebreak is = absurd (cc)

pub return_form : (f : Flow) (n : ℕ) → is_jump_through (f.instr n) ≡ true → has_form (f.instr n) Next ≡ true
return_form f n is = return-has (f.instr n) is

-- ---- variables

after-words : (i : Instr) (m : ℕ) (v : VariableMap) → (place_after i m v).words ≤ v.words + 1
after-words i m v = go (is_store i) (eqb (destination i) 0)
  where
    go : (s d : Bool) → (cond s (stored m v) (cond d v (record { words = suc v.words; mems = v.mems; reg = λ q. cond (eqb q (destination i)) v.words (v.reg q); memory = v.memory }))).words ≤ v.words + 1
    go true d = omega arith
    go false true = omega arith
    go false false = omega arith

after-mems : (i : Instr) (m : ℕ) (v : VariableMap) → (place_after i m v).mems ≤ v.mems + 1
after-mems i m v = go (is_store i) (eqb (destination i) 0)
  where
    go : (s d : Bool) → (cond s (stored m v) (cond d v (record { words = suc v.words; mems = v.mems; reg = λ q. cond (eqb q (destination i)) v.words (v.reg q); memory = v.memory }))).mems ≤ v.mems + 1
    go true d = omega arith
    go false true = omega arith
    go false false = omega arith

-- an instruction has one variable at most
pub few_more : (i : Instr) (m : ℕ) (v u : VariableMap) → u ≡ place_after i m v → (u.words ≤ v.words + 1) × (u.mems ≤ v.mems + 1)
few_more i m v u is = (subst (λ (w : VariableMap). w.words ≤ v.words + 1) (sym is) (after-words i m v), subst (λ (w : VariableMap). w.mems ≤ v.mems + 1) (sym is) (after-mems i m v))

-- ---- nodes

module _ (f : Flow) (p : Part) where
  -- an edge leads to the next cuts, or nearer to them
  pub next_is : (room n m : ℕ) (form : Form) → IsNear f p room n → (room ≡ 0 → ⊥) → has_edge (f.instr n) form ≡ true → m ≡ f.to n form → IsNext f p (room - 1) m
  next_is room n m form near some edge goes = record { node = node (f.is_cut m) refl; end = at_cut; inside = between }
    where
      leads : IsEdge f n m
      leads = (form, edge, sym goes)

      at_cut : f.is_cut m ≡ true → IsEnd f p m
      at_cut cut = let q = near.graph.placed n m near.node leads cut in record { node = q.0; cut = cut; placed = subst (λ (r : Option ℕ). IsPlaced f r m) near.region q.1 }

      between : f.is_cut m ≡ false → IsNear f p (room - 1) m
      between cut =
          let q = near.graph.stays n m near.node leads cut in
          record { graph = near.graph; node = q.0; region = q.1 ∙ near.region; near = omega (arith, q.2, near.near, some) }

      node : (b : Bool) → f.is_cut m ≡ b → m < f.nodes
      node true cut = (at_cut cut).node
      node false cut = (between cut).node

  pub loop_near : (l : ℕ) → IsGraph f → l < f.loops → p ≡ Loop l → IsNear f p 32 (f.head l)
  loop_near l graph loop is =
      let at = graph.loop_head l loop in
      record { graph = graph; node = at.0; region = at.1 ∙ (λ i. own (sym is i)); near = graph.near (f.head l) at.0 }

  part_is : (r : Option ℕ) (n : ℕ) → IsPart f p → p ≡ Rest r n → IsPart f (Rest r n)
  part_is r n part is = subst (IsPart f) is part

  pub rest_near : (r : Option ℕ) (n : ℕ) → IsGraph f → IsPart f p → p ≡ Rest r n → f.loop_of n ≡ None → IsNear f p 32 n
  rest_near r n graph part is none =
      let there = part_is r n part is in
      record { graph = graph; node = there.0; region = graph.cut_inner n there.0 there.1 none ∙ there.2 ∙ (λ i. own (sym is i)); near = graph.near n there.0 }

  -- a rest that begins with the head of a loop
  pub head_there : (r : Option ℕ) (n l : ℕ) → IsGraph f → IsPart f p → p ≡ Rest r n → f.loop_of n ≡ Some l → (l < f.loops) × (f.head l ≡ n) × (f.around (f.head l) ≡ own p)
  head_there r n l graph part is some =
      let there = part_is r n part is in
      let at = graph.head_is n l there.0 some in
      (at.0, at.1, ap f.around at.1 ∙ there.2 ∙ (λ i. own (sym is i)))

  -- after a loop
  pub exit_end : (l k x : ℕ) → IsGraph f → l < f.loops → f.around (f.head l) ≡ own p → slice_get (f.exits l) k ≡ Some x → IsEnd f p x
  exit_end l k x graph loop around at =
      let out = graph.loop_exit l k x loop at in
      record { node = out.0; cut = out.1; placed = subst (λ (r : Option ℕ). IsPlaced f r x) around out.2 }
