-- Bodies as they are built.
use Rattle.std.proofs.Common.{◌≡◌, ℕ, zero, suc, ◌-◌, ◌<◌, true, false, cond, eqb, List, [], ◌∷◌, ◌++◌, length, get_or, map, Option, None, Some, refl, sym, ap, ◌∙◌, arith}
use Rattle.std.specs.Prelude.{option_map, ℤ, Box}
use Rattle.rv_words.specs.declared.comparison.Cmp.{Cmp}
use Rattle.rv_decode.specs.declared.instruction.Instr.{Instr}
use Rattle.rv_decode.specs.declared.instruction.Instr.TheVariants as instr
use Rattle.tailrec_lang.specs.declared.group.Body.{Body}
use Rattle.tailrec_lang.specs.declared.group.Values.{Values}
use Rattle.tailrec_lang.specs.declared.group.End.TheVariants as end
use Rattle.tailrec_lang.specs.Tree.{ArmTrees, ValuesTree, StepTree, BodyTree, Do, Branch, Call, Leave, Arm, arms_of, body_tree, step_tree, values_tree, with_steps}
use Rattle.tailrec_lang.specs.inner.Tree.{end_tree}
use Rattle.tailrec_lang.proofs.Views.{view_body, view_branch, view_call, view_leave}
use Rattle.std.specs.declared.alloc.Global.{Global}
use Rattle.word_terms.specs.declared.term.Cond.{Cond}
use Rattle.word_terms.specs.Tree.{CondTree, Compare, cond_tree}
use Rattle.triple_kernel.specs.declared.form.Form.{Form}
use Rattle.triple_kernel.specs.declared.form.Form.TheVariants.{Next, Taken}
use Rattle.instr_axioms.specs.Terms.{word_in}
use Rattle.code_parts.specs.declared.callee.Callee.{Callee}
use Rattle.code_parts.specs.declared.part.Part.{Part}
use Rattle.code_parts.specs.declared.part.Part.TheVariants.{Loop, Rest}
use Rattle.code_parts.specs.Bodies.{Flow, VariableMap, size, Straight, action_body, action_calling, action_of, arms_over, body_at, index_of, names, needs, part_body, place_after, rest_body, start, writes}
use Rattle.code_parts.specs.Graph.{has_edge, is_jump_through}
use Rattle.code_parts.specs.inner.Ends.{body_on, called_body, returned_body}

-- ---- the first place of a number

abbrev pub IsMissing : List ℕ → ℕ → ℕ → Type 0
IsMissing xs n l = (j : ℕ) → j < l → eqb n (get_or xs j 0) ≡ false

pub index_found : (xs : List ℕ) (n l : ℕ) → l < length xs → IsMissing xs n l → eqb n (get_or xs l 0) ≡ true → Some l ≡ index_of xs n
index_found [] n l lt missing at = absurd (omega arith)
index_found (x ∷ xs) n zero lt missing at = λ i. cond (sym at i) (Some 0) (option_map suc (index_of xs n))
index_found (x ∷ xs) n (suc l) lt missing at =
    let first : eqb n x ≡ false = missing 0 (omega arith) in
    let rest = index_found xs n l (omega (arith, lt)) (λ j low. missing (suc j) (omega (arith, low))) at in
    ap (option_map suc) rest ∙ (λ i. cond (sym first i) (Some 0) (option_map suc (index_of xs n)))

pub index_missing : (xs : List ℕ) (n l : ℕ) → l ≡ length xs → IsMissing xs n l → None ≡ index_of xs n
index_missing [] n l e missing = refl
index_missing (x ∷ xs) n zero e missing = absurd (omega arith)
index_missing (x ∷ xs) n (suc l) e missing =
    let first : eqb n x ≡ false = missing 0 (omega arith) in
    let rest = index_missing xs n l (omega (arith, e)) (λ j low. missing (suc j) (omega (arith, low))) in
    ap (option_map suc) rest ∙ (λ i. cond (sym first i) (Some 0) (option_map suc (index_of xs n)))

-- ---- arms and steps

pub arms_are : (xs : List ℕ) (go : ℕ → BodyTree) → arms_of (map go xs) ≡ arms_over xs go
arms_are [] go = refl
arms_are (x ∷ xs) go = let rest = arms_are xs go in λ i. Arm (go x) (rest i)

steps-append : (ss ts : List StepTree) (b : BodyTree) → with_steps (ss ++ ts) b ≡ with_steps ss (with_steps ts b)
steps-append [] ts b = refl
steps-append (s ∷ ss) ts b = let rest = steps-append ss ts b in λ i. Do s (rest i)

-- a body that leaves at once
pub left_alone : (b : Body) (k : ℕ) (v : Values) (x : ValuesTree) → b.steps ≡ [] → b.end ≡ end.Leave k v → values_tree v ≡ x → body_tree b ≡ Leave k x
left_alone b k v x steps is values = view_body b ∙ (λ i. with_steps (map step_tree (steps i)) (end_tree (is i))) ∙ view_leave k v ∙ ap (Leave k) values

-- .. that leaves after some steps
pub left_after : (b : Body) (k : ℕ) (v : Values) (x : ValuesTree) (ss ts : List StepTree) → map step_tree b.steps ≡ ss ++ ts → b.end ≡ end.Leave k v → values_tree v ≡ x → body_tree b ≡ with_steps ss (with_steps ts (Leave k x))
left_after b k v x ss ts steps is values =
    view_body b ∙ (λ i. with_steps (steps i) (end_tree (is i))) ∙ (λ i. with_steps (ss ++ ts) (view_leave k v i)) ∙ (λ i. with_steps (ss ++ ts) (Leave k (values i))) ∙ steps-append ss ts (Leave k x)

-- .. that calls at once
pub called_alone : (b : Body) (d : ℕ) (v : Values) (arms : List Body) (x : ValuesTree) (bs : List BodyTree) → b.steps ≡ [] → b.end ≡ end.Call d v arms → values_tree v ≡ x → map body_tree arms ≡ bs → body_tree b ≡ Call d x (arms_of bs)
called_alone b d v arms x bs steps is values bodies =
    view_body b ∙ (λ i. with_steps (map step_tree (steps i)) (end_tree (is i))) ∙ view_call d v arms ∙ (λ i. Call d (values i) (arms_of (bodies i)))

-- ---- the body of a part

pub part_loop : (f : Flow) (p : Part) (l : ℕ) → p ≡ Loop l → body_at 32 f p (f.head l) (start f) ≡ part_body f p
part_loop f p l is = (λ i. body_at 32 f (is i) (f.head l) (start f)) ∙ (λ i. part_body f (sym is i))

pub part_node : (f : Flow) (p : Part) (r : Option ℕ) (n : ℕ) → p ≡ Rest r n → f.loop_of n ≡ None → body_at 32 f p n (start f) ≡ part_body f p
part_node f p r n is none = (λ i. rest_body 32 f p n (sym none i)) ∙ (λ i. rest_body 32 f (is i) n (f.loop_of n)) ∙ (λ i. part_body f (sym is i))

pub part_head : (f : Flow) (p : Part) (r : Option ℕ) (n l : ℕ) → p ≡ Rest r n → f.loop_of n ≡ Some l → rest_body 32 f p n (Some l) ≡ part_body f p
part_head f p r n l is some = (λ i. rest_body 32 f p n (sym some i)) ∙ (λ i. rest_body 32 f (is i) n (f.loop_of n)) ∙ (λ i. part_body f (sym is i))

-- ---- the body for an instruction

abbrev pub IsNoBranch : Instr → Type 0
IsNoBranch i = (c : Cmp) (rs1 rs2 : ℕ) (offset : ℤ) → i ≡ instr.Branch c rs1 rs2 offset → ⊥

straight : (i : Instr) → IsNoBranch i → is_jump_through i ≡ false → (a k q : ℕ) (to : Form → ℕ) (v : VariableMap) → action_of i a k q to v ≡ Straight (needs i q v ++ writes i a k q v) (place_after i q v) (to Next)
straight (instr.Op o rd rs1 rs2) b j a k q to v = refl
straight (instr.OpImm o rd rs1 imm) b j a k q to v = refl
straight (instr.Lui rd imm) b j a k q to v = refl
straight (instr.Auipc rd imm) b j a k q to v = refl
straight (instr.Jal rd offset) b j a k q to v = refl
straight (instr.Jalr rd rs1 imm) b j a k q to v = absurd (cc)
straight (instr.Branch c rs1 rs2 offset) b j a k q to v = absurd (b c rs1 rs2 offset refl)
straight (instr.Load w signed rd rs1 imm) b j a k q to v = refl
straight (instr.Store w rs1 rs2 imm) b j a k q to v = refl
straight (instr.Fence imm rs1 rd) b j a k q to v = refl
straight instr.Ecall b j a k q to v = refl
straight instr.Ebreak b j a k q to v = refl

pub straight_edge : (i : Instr) → IsNoBranch i → is_jump_through i ≡ false → has_edge i Next ≡ true
straight_edge (instr.Op o rd rs1 rs2) b j = refl
straight_edge (instr.OpImm o rd rs1 imm) b j = refl
straight_edge (instr.Lui rd imm) b j = refl
straight_edge (instr.Auipc rd imm) b j = refl
straight_edge (instr.Jal rd offset) b j = refl
straight_edge (instr.Jalr rd rs1 imm) b j = absurd (cc)
straight_edge (instr.Branch c rs1 rs2 offset) b j = refl
straight_edge (instr.Load w signed rd rs1 imm) b j = refl
straight_edge (instr.Store w rs1 rs2 imm) b j = refl
straight_edge (instr.Fence imm rs1 rd) b j = refl
straight_edge instr.Ecall b j = refl
straight_edge instr.Ebreak b j = refl

at-room : (room : ℕ) (f : Flow) (p : Part) (n : ℕ) (v : VariableMap) → f.callee n ≡ None → (room ≡ 0 → ⊥) → action_body f p (action_of (f.instr n) (f.addr n) (size f n) (f.uses n) (f.to n) v) v (body_at (room - 1) f p) ≡ body_at room f p n v
at-room zero f p n v none some = absurd (some refl)
at-room (suc room) f p n v none some =
    let less : suc room - 1 ≡ room = omega arith in
    (λ i. action_body f p (action_of (f.instr n) (f.addr n) (size f n) (f.uses n) (f.to n) v) v (body_at (less i) f p))
    ∙ (λ i. action_body f p (action_calling (sym none i) (f.instr n) (f.addr n) (size f n) (f.uses n) (f.to n) v) v (body_at room f p))

-- a body that goes on with one of two
pub two_ways : (b : Body) (c : Cond) (x y : Box Body Global) (ss : List StepTree) (d : CondTree) (p q : BodyTree) → map step_tree b.steps ≡ ss → b.end ≡ end.Branch c x y → cond_tree c ≡ d →
    body_tree x.value ≡ p → body_tree y.value ≡ q → body_tree b ≡ with_steps ss (Branch d p q)
two_ways b c x y ss d p q steps is test first second =
    view_body b ∙ (λ i. with_steps (steps i) (end_tree (is i))) ∙ (λ i. with_steps ss (view_branch c x y i)) ∙ (λ i. with_steps ss (Branch (test i) (first i) (second i)))

-- .. that goes on to one node, after these steps and its own
pub goes_straight : (f : Flow) (p : Part) (n room : ℕ) (v : VariableMap) (i : Instr) (steps all : List StepTree) → f.callee n ≡ None → i ≡ f.instr n → IsNoBranch i → is_jump_through i ≡ false → (room ≡ 0 → ⊥)
    → all ≡ steps ++ (needs i (f.uses n) v ++ writes i (f.addr n) (size f n) (f.uses n) v) → with_steps all (body_on (room - 1) f p (f.to n Next) (place_after i (f.uses n) v)) ≡ with_steps steps (body_at room f p n v)
goes_straight f p n room v i steps all none is b j some made =
    (λ k. with_steps (made k) (body_on (room - 1) f p (f.to n Next) (place_after i (f.uses n) v)))
    ∙ steps-append steps (needs i (f.uses n) v ++ writes i (f.addr n) (size f n) (f.uses n) v) (body_on (room - 1) f p (f.to n Next) (place_after i (f.uses n) v))
    ∙ ap (with_steps steps) ((λ k. action_body f p (sym (straight i b j (f.addr n) (size f n) (f.uses n) (f.to n) v) k) v (body_at (room - 1) f p))
    ∙ (λ k. action_body f p (action_of (is k) (f.addr n) (size f n) (f.uses n) (f.to n) v) v (body_at (room - 1) f p)) ∙ at-room room f p n v none some)

pub goes_two_ways : (f : Flow) (p : Part) (n room : ℕ) (v : VariableMap) (i : Instr) (c : Cmp) (rs1 rs2 : ℕ) (offset : ℤ) → f.callee n ≡ None → i ≡ f.instr n → i ≡ instr.Branch c rs1 rs2 offset → (room ≡ 0 → ⊥)
    → Branch (Compare c (word_in (names v (f.uses n)) rs1) (word_in (names v (f.uses n)) rs2)) (body_on (room - 1) f p (f.to n Taken) v) (body_on (room - 1) f p (f.to n Next) v) ≡ body_at room f p n v
goes_two_ways f p n room v i c rs1 rs2 offset none is branch some =
    (λ k. action_body f p (action_of (sym branch k) (f.addr n) (size f n) (f.uses n) (f.to n) v) v (body_at (room - 1) f p))
    ∙ (λ k. action_body f p (action_of (is k) (f.addr n) (size f n) (f.uses n) (f.to n) v) v (body_at (room - 1) f p)) ∙ at-room room f p n v none some

return-body : (f : Flow) (p : Part) (i : Instr) (a k q : ℕ) (to : Form → ℕ) (v : VariableMap) (go : ℕ → VariableMap → BodyTree) → is_jump_through i ≡ true → returned_body f i a k q v ≡ action_body f p (action_of i a k q to v) v go
return-body f p (instr.Jalr rd rs1 imm) a k q to v go is = refl
return-body f p (instr.Op o rd rs1 rs2) a k q to v go is = absurd (cc)
return-body f p (instr.OpImm o rd rs1 imm) a k q to v go is = absurd (cc)
return-body f p (instr.Lui rd imm) a k q to v go is = absurd (cc)
return-body f p (instr.Auipc rd imm) a k q to v go is = absurd (cc)
return-body f p (instr.Jal rd offset) a k q to v go is = absurd (cc)
return-body f p (instr.Branch c rs1 rs2 offset) a k q to v go is = absurd (cc)
return-body f p (instr.Load w signed rd rs1 imm) a k q to v go is = absurd (cc)
return-body f p (instr.Store w rs1 rs2 imm) a k q to v go is = absurd (cc)
return-body f p (instr.Fence imm rs1 rd) a k q to v go is = absurd (cc)
return-body f p instr.Ecall a k q to v go is = absurd (cc)
return-body f p instr.Ebreak a k q to v go is = absurd (cc)

pub goes_back : (f : Flow) (p : Part) (n room : ℕ) (v : VariableMap) (i : Instr) → f.callee n ≡ None → i ≡ f.instr n → is_jump_through i ≡ true → (room ≡ 0 → ⊥) → returned_body f i (f.addr n) (size f n) (f.uses n) v ≡ body_at room f p n v
goes_back f p n room v i none is jump some =
    return-body f p i (f.addr n) (size f n) (f.uses n) (f.to n) v (body_at (room - 1) f p) jump
    ∙ (λ k. action_body f p (action_of (is k) (f.addr n) (size f n) (f.uses n) (f.to n) v) v (body_at (room - 1) f p)) ∙ at-room room f p n v none some

-- .. that calls a function
pub goes_in : (f : Flow) (p : Part) (n room : ℕ) (v : VariableMap) (c : Callee) → f.callee n ≡ Some c → (room ≡ 0 → ⊥) → called_body (room - 1) f p n c v ≡ body_at room f p n v
goes_in f p n zero v c calls some = absurd (some refl)
goes_in f p n (suc room) v c calls some =
    let less : suc room - 1 ≡ room = omega arith in
    (λ i. called_body (less i) f p n c v) ∙ (λ i. action_body f p (action_calling (sym calls i) (f.instr n) (f.addr n) (size f n) (f.uses n) (f.to n) v) v (body_at room f p))

-- a body that calls after some steps
pub called_after : (b : Body) (d : ℕ) (v : Values) (arms : List Body) (x : ValuesTree) (ends : ArmTrees) (all ss ts : List StepTree) → map step_tree b.steps ≡ all → all ≡ ss ++ ts → b.end ≡ end.Call d v arms → values_tree v ≡ x
    → arms_of (map body_tree arms) ≡ ends → body_tree b ≡ with_steps ss (with_steps ts (Call d x ends))
called_after b d v arms x ends all ss ts steps made is values bodies =
    view_body b ∙ (λ i. with_steps ((steps ∙ made) i) (end_tree (is i))) ∙ (λ i. with_steps (ss ++ ts) (view_call d v arms i)) ∙ (λ i. with_steps (ss ++ ts) (Call d (values i) (bodies i)))
    ∙ steps-append ss ts (Call d x ends)
