-- The definitions of parts are within the limits of the grammar.
use Rattle.std.proofs.Common.{◌≡◌, ℕ, zero, suc, ◌+◌, ◌^◌, ◌<◌, ◌≤◌, ℤ, List, [], ◌∷◌, ◌++◌, map, length, Bool, true, false, cond, eqb, refl, ap, ◌∙◌, ◌*◌, ◌%◌, subst, arith, Option, Some, None, mod-lt}
use Rattle.std.specs.Prelude.{option_map, unwrap_or}
use Rattle.std.specs.List.{AllByRecursion, range_with_len}
use Rattle.rv_words.proofs.WordLemmas.{word_of_small}
use Rattle.rv_words.specs.declared.width.Width.{Width}
use Rattle.rv_words.specs.declared.width.Width.TheVariants.{B1, B2, B4, B8}
use Rattle.rv_decode.specs.declared.instruction.Instr.{Instr}
use Rattle.rv_decode.specs.declared.instruction.Instr.TheVariants as instr
use Rattle.rv_machine.specs.Step.{upper}
use Rattle.word_terms.specs.Tree.{CondTree, Const, Var, MemVar}
use Rattle.group_text.specs.TermLimits.{FitsWord, IsWord, IsMem, IsCond}
use Rattle.tailrec_lang.specs.declared.group.Exit.{Exit}
use Rattle.tailrec_lang.specs.declared.group.Exit.TheVariants.{At, Ret}
use Rattle.tailrec_lang.specs.Tree.{StepTree, Bind, BindMem, Need, BodyTree, Call, Again, Leave, NoArm, Arm, with_steps}
use Rattle.group_text.specs.Spelling.{arm_count}
use Rattle.group_text.specs.Limits.{IsValues, IsStep, IsBody, AreArms, nesting_limit, IsExit, IsDef, returns}
use Rattle.triple_kernel.specs.declared.form.Form.{Form}
use Rattle.triple_kernel.specs.declared.form.Form.TheVariants.{Next, Taken}
use Rattle.rv_decode.specs.Registers.{destination}
use Rattle.rv_words.specs.Bytes.{away}
use Rattle.instr_axioms.specs.Terms.{has_memory, word_in, sum, loaded, conditions, result, memory_after, pc_after}
use Rattle.code_parts.specs.declared.part.Part.{Part}
use Rattle.code_parts.specs.declared.part.Part.TheVariants.{Loop, Rest}
use Rattle.code_parts.specs.Bodies.{Enter, Flow, VariableMap, size, action_calling, return_arm, names, current, fresh, start, with_pc, is_store, stored, place_after, needs, writes, Straight, action_of, first, rest_targets, targets, returned, rest_from, index_of, end_of, arms_over, last_at, rest_arms, end_at, action_body, body_at, rest_body, part_body, part_def}
use Rattle.code_parts.specs.declared.callee.Callee.{Callee}
use Rattle.code_parts.specs.Graph.{IsSmall}
use Rattle.path_walk.proofs.Limits.{exits-few}
use Rattle.code_parts.proofs.VariableMaps.{position-most}

-- ---- terms

-- the variables of registers that a place names, and those that are in scope, have numbers up to n; those of so many memories have 32 bits
pub record IsLow (mem_count : ℕ) (v : VariableMap) (n : ℕ) : Type 0 where
  pub word : (r : ℕ) → v.reg r ≤ n
  pub memory : (q : ℕ) → q < mem_count → v.memory q < 2 ^ 32
  pub words : v.words ≤ n
  pub mems : v.mems ≤ n

module _ (mem_count : ℕ) (v : VariableMap) (n : ℕ) (low : IsLow mem_count v n) (few : n < 2 ^ 16) where
  abbrev Has : Instr → ℕ → Type 0
  Has i q = has_memory i ≡ true → q < mem_count

  module _ (q : ℕ) where
    -- a source and a sum fit wherever that much depth is left
    source-small : (d r : ℕ) → FitsWord (suc d) (word_in (names v q) r)
    source-small d r = go (eqb r 0)
      where
        go : (b : Bool) → FitsWord (suc d) (cond b (Const 0) (Var (v.reg r)))
        go true = omega arith
        go false = let most = low.word r in omega (arith, most, few)

    memory-small : q < mem_count → v.memory q < 2 ^ 32
    memory-small l = low.memory q l

    pub sum-small : (d r : ℕ) (imm : ℤ) → FitsWord (suc (suc d)) (sum (names v q) r imm)
    sum-small d r imm = (source-small d r, word_of_small imm)

    loaded-small : q < mem_count → (w : Width) (signed : Bool) (r : ℕ) (imm : ℤ) → IsWord (loaded w signed (MemVar (v.memory q)) (sum (names v q) r imm))
    loaded-small l B1 true r imm = (memory-small l, sum-small 60 r imm)
    loaded-small l B2 true r imm = (memory-small l, sum-small 60 r imm)
    loaded-small l B4 true r imm = (memory-small l, sum-small 60 r imm)
    loaded-small l B8 true r imm = (memory-small l, sum-small 61 r imm)
    loaded-small l w false r imm = (memory-small l, sum-small 61 r imm)

    pub result-small : (i : Instr) (a k : ℕ) → Has i q → IsWord (result i a k (names v q))
    result-small (instr.Op o rd rs1 rs2) a k has = (source-small 62 rs1, source-small 62 rs2)
    result-small (instr.OpImm o rd rs1 imm) a k has = (source-small 62 rs1, word_of_small imm)
    result-small (instr.Lui rd imm) a k has = word_of_small _
    result-small (instr.Auipc rd imm) a k has = mod-lt (a + upper imm) (omega arith)
    result-small (instr.Jal rd offset) a k has = mod-lt (a + k) (omega arith)
    result-small (instr.Jalr rd rs1 imm) a k has = mod-lt (a + k) (omega arith)
    result-small (instr.Branch c rs1 rs2 offset) a k has = omega arith
    result-small (instr.Load w signed rd rs1 imm) a k has = loaded-small (has refl) w signed rs1 imm
    result-small (instr.Store w rs1 rs2 imm) a k has = omega arith
    result-small (instr.Fence imm rs1 rd) a k has = omega arith
    result-small instr.Ecall a k has = omega arith
    result-small instr.Ebreak a k has = omega arith

    pub memory_after-small : (i : Instr) → is_store i ≡ true → Has i q → IsMem (memory_after i (names v q))
    memory_after-small (instr.Op o rd rs1 rs2) is has = absurd (cc)
    memory_after-small (instr.OpImm o rd rs1 imm) is has = absurd (cc)
    memory_after-small (instr.Lui rd imm) is has = absurd (cc)
    memory_after-small (instr.Auipc rd imm) is has = absurd (cc)
    memory_after-small (instr.Jal rd offset) is has = absurd (cc)
    memory_after-small (instr.Jalr rd rs1 imm) is has = absurd (cc)
    memory_after-small (instr.Branch c rs1 rs2 offset) is has = absurd (cc)
    memory_after-small (instr.Load w signed rd rs1 imm) is has = absurd (cc)
    memory_after-small (instr.Store w rs1 rs2 imm) is has = (memory-small (has refl), sum-small 61 rs1 imm, source-small 62 rs2)
    memory_after-small (instr.Fence imm rs1 rd) is has = absurd (cc)
    memory_after-small instr.Ecall is has = absurd (cc)
    memory_after-small instr.Ebreak is has = absurd (cc)

    pub conditions-small : (i : Instr) (form : Form) → Has i q → AllByRecursion IsCond (conditions i form (names v q))
    conditions-small (instr.Op o rd rs1 rs2) form has = tt
    conditions-small (instr.OpImm o rd rs1 imm) form has = tt
    conditions-small (instr.Lui rd imm) form has = tt
    conditions-small (instr.Auipc rd imm) form has = tt
    conditions-small (instr.Jal rd offset) form has = tt
    conditions-small (instr.Jalr rd rs1 imm) form has = tt
    conditions-small (instr.Branch c rs1 rs2 offset) Next has = ((source-small 61 rs1, source-small 61 rs2), tt)
    conditions-small (instr.Branch c rs1 rs2 offset) Taken has = ((source-small 62 rs1, source-small 62 rs2), tt)
    conditions-small (instr.Load w signed rd rs1 imm) form has = ((memory-small (has refl), sum-small 61 rs1 imm), tt)
    conditions-small (instr.Store w rs1 rs2 imm) form has = ((memory-small (has refl), sum-small 61 rs1 imm), tt)
    conditions-small (instr.Fence imm rs1 rd) form has = tt
    conditions-small instr.Ecall form has = tt
    conditions-small instr.Ebreak form has = tt

    needs-printed : (i : Instr) (form : Form) → Has i q → AllByRecursion IsStep (map Need (conditions i form (names v q)))
    needs-printed i form has = go (conditions i form (names v q)) (conditions-small i form has)
      where
        go : (cs : List CondTree) → AllByRecursion IsCond cs → AllByRecursion IsStep (map Need cs)
        go [] h = tt
        go (c ∷ cs) h = (h.0, go cs h.1)

    writes-printed : (i : Instr) (a k : ℕ) → Has i q → AllByRecursion IsStep (writes i a k q v)
    writes-printed i a k has = go (is_store i) refl (eqb (destination i) 0)
      where
        go : (s : Bool) → is_store i ≡ s → (d : Bool) → AllByRecursion IsStep (cond s (BindMem (memory_after i (names v q)) ∷ []) (cond d [] (Bind (result i a k (names v q)) ∷ [])))
        go true is d = (memory_after-small i is has, tt)
        go false is true = tt
        go false is false = (result-small i a k has, tt)

  pub values-printed : (f : Flow) → f.mems ≡ mem_count → IsValues (current f v)
  values-printed f count = (go f.regs, mems 0 f.mems (omega (arith, count)))
    where
      go : (rs : List ℕ) → AllByRecursion IsWord (map (λ r. Var (v.reg r)) rs)
      go [] = tt
      go (r ∷ rs) = let most = low.word r in (omega (arith, most, few), go rs)

      mems : (w k : ℕ) → w + k ≤ mem_count → AllByRecursion IsMem (map (λ q. MemVar (v.memory q)) (range_with_len w k))
      mems w zero le = tt
      mems w (suc k) le = (memory-small w (omega (arith, le)), mems (w + 1) k (omega (arith, le)))

  pub place-low : (i : Instr) (q : ℕ) → IsLow mem_count (place_after i q v) (suc n)
  place-low i q = go (is_store i) (eqb (destination i) 0)
    where
      one : (b : Bool) (x w : ℕ) → x ≤ n → w ≤ n → cond b w x ≤ suc n
      one true x w h k = omega (arith, k)
      one false x w h k = omega (arith, h)

      more : (x : ℕ) → x ≤ n → x ≤ suc n
      more x h = omega (arith, h)

      stored-low : (b : Bool) (x w : ℕ) → x < 2 ^ 32 → w ≤ n → cond b w x < 2 ^ 32
      stored-low true x w h k = omega (arith, k, few)
      stored-low false x w h k = h

      go : (s d : Bool) → IsLow mem_count (cond s (stored q v) (cond d v (record { words = suc v.words; mems = v.mems; reg = λ r. cond (eqb r (destination i)) v.words (v.reg r); memory = v.memory }))) (suc n)
      go true d = record { word = λ r. more (v.reg r) (low.word r); memory = λ p l. stored-low (eqb p q) (v.memory p) v.mems (low.memory p l) low.mems; words = more v.words low.words; mems = let most = low.mems in omega (arith, most) }
      go false true = record { word = λ r. more (v.reg r) (low.word r); memory = low.memory; words = more v.words low.words; mems = more v.mems low.mems }
      go false false = record { word = λ r. one (eqb r (destination i)) (v.reg r) v.words (low.word r) low.words; memory = low.memory; words = let most = low.words in omega (arith, most); mems = more v.mems low.mems }

steps-join : (ss ts : List StepTree) → AllByRecursion IsStep ss → AllByRecursion IsStep ts → AllByRecursion IsStep (ss ++ ts)
steps-join [] ts h k = k
steps-join (s ∷ ss) ts h k = (h.0, steps-join ss ts h.1 k)

steps-printed : (d : ℕ) (ss : List StepTree) (b : BodyTree) → AllByRecursion IsStep ss → IsBody (suc d) b → IsBody (suc d) (with_steps ss b)
steps-printed d [] b h k = k
steps-printed d (s ∷ ss) b h k = (h.0, steps-printed d ss b h.1 k)

index-most : (xs : List ℕ) (n k : ℕ) → index_of xs n ≡ Some k → k < length xs
index-most [] n k e = absurd (cc)
index-most (x ∷ xs) n k e = go (eqb n x) (index_of xs n) refl e (λ j h. index-most xs n j h)
  where
    go : (b : Bool) (o : Option ℕ) → index_of xs n ≡ o → cond b (Some 0) (option_map suc o) ≡ Some k → ((j : ℕ) → index_of xs n ≡ Some j → j < length xs) → k < suc (length xs)
    go true o is e on = let z : 0 ≡ k = cc in omega (arith, z)
    go false None is e on = absurd (cc)
    go false (Some j) is e on = let z : suc j ≡ k = cc in let low = on j is in omega (arith, z, low)

arms-count : (go : ℕ → BodyTree) (xs : List ℕ) → arm_count (arms_over xs go) ≡ length xs
arms-count go [] = refl
arms-count go (x ∷ xs) = ap suc (arms-count go xs)

arms-printed : (d : ℕ) (go : ℕ → BodyTree) → ((x : ℕ) → IsBody d (go x)) → (xs : List ℕ) → AreArms d (arms_over xs go)
arms-printed d go h [] = tt
arms-printed d go h (x ∷ xs) = (h x, arms-printed d go h xs)

either : (d : ℕ) (t : Bool) (a b : BodyTree) → IsBody d a → IsBody d b → IsBody d (cond t a b)
either d true a b h k = h
either d false a b h k = k

module _ (f : Flow) (small : IsSmall f) where
  fresh-low : (words mems n : ℕ) → words ≤ n → mems ≤ n → n < 2 ^ 16 → IsLow f.mems (fresh f words mems) (n + 31)
  fresh-low words mems n h k few =
      let regs = small.regs in
      let one = small.mems in
      record {
        word = λ r. (let low = position-most f.regs r in omega (arith, low, regs, h));
        memory = λ q l. omega (arith, k, l, one, few);
        words = omega (arith, regs, h);
        mems = omega (arith, one, k);
      }

  targets-few : (r : Option ℕ) → length (rest_targets f r) ≤ 9
  targets-few None = omega arith
  targets-few (Some l) = let few = small.exits l in omega (arith, few)

  leave-printed : (d : ℕ) (xs : List ℕ) (m : ℕ) (v : VariableMap) (b : BodyTree) → length xs ≤ 9 → IsValues (current f v) → IsBody (suc d) b → IsBody (suc d) (unwrap_or (option_map (λ k. Leave k (current f v)) (index_of xs m)) b)
  leave-printed d xs m v b few vals h = go (index_of xs m) refl
    where
      go : (o : Option ℕ) → index_of xs m ≡ o → IsBody (suc d) (unwrap_or (option_map (λ k. Leave k (current f v)) o) b)
      go None is = h
      go (Some k) is = let low = index-most xs m k is in (omega (arith, low, few), vals)

  end-printed : (d : ℕ) (p : Part) (m : ℕ) (v : VariableMap) (b : BodyTree) → IsValues (current f v) → IsBody (suc d) b → IsBody (suc d) (unwrap_or (end_of f p m (current f v)) b)
  end-printed d (Rest r c) m v b vals h = leave-printed d (rest_targets f r) m v b (targets-few r) vals h
  end-printed d (Loop l) m v b vals h = go (eqb m (f.head l))
    where
      few : length (f.exits l) ≤ 9
      few = let most = small.exits l in omega (arith, most)

      go : (t : Bool) → IsBody (suc d) (unwrap_or (cond t (Some (Again (current f v))) (option_map (λ k. Leave k (current f v)) (index_of (f.exits l) m))) b)
      go true = vals
      go false = leave-printed d (f.exits l) m v b few vals h

  -- at any nesting that is enough
  module _ (p : Part) where
    last-printed : (d m : ℕ) (v : VariableMap) (n : ℕ) → IsLow f.mems v n → n < 2 ^ 16 → IsBody (suc d) (last_at f p m v)
    last-printed d m v n low few = let vals = values-printed f.mems v n low few f refl in end-printed d p m v (Leave 0 (current f v)) vals (omega arith, vals)

    rest-printed : (d : ℕ) (r : Option ℕ) (v : VariableMap) (n : ℕ) → IsLow f.mems v n → n ≤ 2000 → (arm_count (rest_arms f p r v) ≤ 16) × AreArms (suc d) (rest_arms f p r v)
    rest-printed d None v n low few = go f.returns
      where
        u : VariableMap
        u = fresh f (suc v.words) v.mems

        vals : IsValues (current f u)
        vals = let w = low.words in let m = low.mems in values-printed f.mems u (n + 1 + 31) (fresh-low (suc v.words) v.mems (n + 1) (omega (arith, w)) (omega (arith, m)) (omega (arith, few))) (omega (arith, few)) f refl

        go : (b : Bool) → (arm_count (cond b (Arm (Leave 0 (with_pc (Var v.words) (current f u))) NoArm) NoArm) ≤ 16) × AreArms (suc d) (cond b (Arm (Leave 0 (with_pc (Var v.words) (current f u))) NoArm) NoArm)
        go true = let w = low.words in (omega arith, ((omega arith, ((omega (arith, w, few), vals.0), vals.1)), tt))
        go false = (omega arith, tt)
    rest-printed d (Some l) v n low few =
        let u : VariableMap = fresh f v.words v.mems in
        let count = arms-count (λ x. last_at f p x u) (rest_targets f (Some l)) in
        let most = targets-few (Some l) in
        (omega (arith, count, most), arms-printed (suc d) (λ x. last_at f p x u) (λ x. last-printed d x u (n + 31) (fresh-low v.words v.mems n low.words low.mems (omega (arith, few))) (omega (arith, few))) (rest_targets f (Some l)))

    at-printed : (d m : ℕ) (v : VariableMap) (n : ℕ) → IsLow f.mems v n → n ≤ 2000 → IsBody (suc (suc d)) (end_at f p m v)
    at-printed d m v n low few =
        let vals = values-printed f.mems v n low (omega (arith, few)) f refl in
        let arms = rest-printed d (f.around m) v n low few in
        end-printed (suc d) p m v (Call (f.number (rest_from f m)) (current f v) (rest_arms f p (f.around m) v)) vals (small.number (rest_from f m), arms.0, vals, arms.1)

    body-printed : (room d m : ℕ) (v : VariableMap) (n : ℕ) → room ≤ d → IsLow f.mems v n → n + 33 * room ≤ 2000 → IsBody (suc (suc d)) (body_at room f p m v)
    body-printed zero d m v n le low few = (omega arith, values-printed f.mems v n low (omega (arith, few)) f refl)
    body-printed (suc room) zero m v n le low few = absurd (omega (arith, le))
    body-printed (suc room) (suc d) m v n le low few = by (λ e m v n le low few. body-printed room e m v n le low few) (f.callee m) refl
      where
        few_now : n < 2 ^ 16
        few_now = omega (arith, few)

        cut_or : ((e m : ℕ) (v : VariableMap) (n : ℕ) → room ≤ e → IsLow f.mems v n → n + 33 * room ≤ 2000 → IsBody (suc (suc e)) (body_at room f p m v)) → (e k : ℕ) (u : VariableMap) (x : ℕ) → room ≤ e → IsLow f.mems u x → x + 33 * room ≤ 2000
            → IsBody (suc (suc e)) (cond (f.is_cut k) (end_at f p k u) (body_at room f p k u))
        cut_or on e k u x le low few = either (suc (suc e)) (f.is_cut k) (end_at f p k u) (body_at room f p k u) (at-printed e k u x low (omega (arith, few))) (on e k u x le low few)

        has_of : (i : Instr) → f.instr m ≡ i → has_memory i ≡ true → f.uses m < f.mems
        has_of i is e = small.uses m (ap has_memory is ∙ e)

        steps-printed_of : (i : Instr) → f.instr m ≡ i → AllByRecursion IsStep (needs i (f.uses m) v ++ writes i (f.addr m) (size f m) (f.uses m) v)
        steps-printed_of i is = steps-join (needs i (f.uses m) v) (writes i (f.addr m) (size f m) (f.uses m) v) (needs-printed f.mems v n low few_now (f.uses m) i Next (has_of i is)) (writes-printed f.mems v n low few_now (f.uses m) i (f.addr m) (size f m) (has_of i is))

        straight : ((e m : ℕ) (v : VariableMap) (n : ℕ) → room ≤ e → IsLow f.mems v n → n + 33 * room ≤ 2000 → IsBody (suc (suc e)) (body_at room f p m v)) → (i : Instr) → f.instr m ≡ i
            → IsBody (suc (suc (suc d))) (action_body f p (Straight (needs i (f.uses m) v ++ writes i (f.addr m) (size f m) (f.uses m) v) (place_after i (f.uses m) v) (f.to m Next)) v (body_at room f p))
        straight on i is = steps-printed (suc (suc d)) (needs i (f.uses m) v ++ writes i (f.addr m) (size f m) (f.uses m) v) _ (steps-printed_of i is)
            (cut_or on (suc d) (f.to m Next) (place_after i (f.uses m) v) (suc n) (omega (arith, le)) (place-low f.mems v n low few_now i (f.uses m)) (omega (arith, few)))

        go : ((e m : ℕ) (v : VariableMap) (n : ℕ) → room ≤ e → IsLow f.mems v n → n + 33 * room ≤ 2000 → IsBody (suc (suc e)) (body_at room f p m v)) → (i : Instr) → f.instr m ≡ i → IsBody (suc (suc (suc d))) (action_body f p (action_of i (f.addr m) (size f m) (f.uses m) (f.to m) v) v (body_at room f p))
        go on (instr.Op o rd rs1 rs2) is = straight on (instr.Op o rd rs1 rs2) is
        go on (instr.OpImm o rd rs1 imm) is = straight on (instr.OpImm o rd rs1 imm) is
        go on (instr.Lui rd imm) is = straight on (instr.Lui rd imm) is
        go on (instr.Auipc rd imm) is = straight on (instr.Auipc rd imm) is
        go on (instr.Jal rd offset) is = straight on (instr.Jal rd offset) is
        go on (instr.Load w signed rd rs1 imm) is = straight on (instr.Load w signed rd rs1 imm) is
        go on (instr.Store w rs1 rs2 imm) is = straight on (instr.Store w rs1 rs2 imm) is
        go on (instr.Fence imm rs1 rd) is = straight on (instr.Fence imm rs1 rd) is
        go on instr.Ecall is = straight on instr.Ecall is
        go on instr.Ebreak is = straight on instr.Ebreak is
        go on (instr.Branch c rs1 rs2 offset) is =
            let fork = (conditions-small f.mems v n low few_now (f.uses m) (instr.Branch c rs1 rs2 offset) Taken (has_of (instr.Branch c rs1 rs2 offset) is)).0 in
            (fork, cut_or on d (f.to m Taken) v n (omega (arith, le)) low (omega (arith, few)), cut_or on d (f.to m Next) v n (omega (arith, le)) low (omega (arith, few)))
        go on (instr.Jalr rd rs1 imm) is =
            let s = sum-small f.mems v n low few_now (f.uses m) 61 rs1 imm in
            let vals = values-printed f.mems v n low few_now f refl in
            steps-printed (suc (suc d)) (needs (instr.Jalr rd rs1 imm) (f.uses m) v) (Leave 0 (with_pc (pc_after (instr.Jalr rd rs1 imm) Next (f.addr m) (size f m) (names v (f.uses m))) (current f v))) (needs-printed f.mems v n low few_now (f.uses m) (instr.Jalr rd rs1 imm) Next (has_of (instr.Jalr rd rs1 imm) is))
            (omega arith, (((s, omega arith), vals.0), vals.1))

        -- a call of a function binds at most a word for each register and one more
        enter : ((e m : ℕ) (v : VariableMap) (n : ℕ) → room ≤ e → IsLow f.mems v n → n + 33 * room ≤ 2000 → IsBody (suc (suc e)) (body_at room f p m v)) → (c : Callee) → f.callee m ≡ Some c → (i : Instr) → f.instr m ≡ i
            → IsBody (suc (suc (suc d))) (action_body f p (Enter (needs i (f.uses m) v ++ writes i (f.addr m) (size f m) (f.uses m) v) (place_after i (f.uses m) v) c (away (f.addr m) (size f m)) (f.to m Next)) v (body_at room f p))
        enter on c calls i is =
            let u : VariableMap = place_after i (f.uses m) v in
            let low_u = place-low f.mems v n low few_now i (f.uses m) in
            let vals = values-printed f.mems u (suc n) low_u (omega (arith, few)) f refl in
            let arm = arm_of c.returns u low_u in
            steps-printed (suc (suc d)) (needs i (f.uses m) v ++ writes i (f.addr m) (size f m) (f.uses m) v) _ (steps-printed_of i is) (small.callee m c calls, arm.0, vals, arm.1)
          where
            arm_of : (b : Bool) (u : VariableMap) → IsLow f.mems u (suc n) →
                (arm_count (return_arm f b (away (f.addr m) (size f m)) u (λ w. cond (f.is_cut (f.to m Next)) (end_at f p (f.to m Next) w) (body_at room f p (f.to m Next) w))) ≤ 16)
                × AreArms (suc (suc d)) (return_arm f b (away (f.addr m) (size f m)) u (λ w. cond (f.is_cut (f.to m Next)) (end_at f p (f.to m Next) w) (body_at room f p (f.to m Next) w)))
            arm_of false u low_u = (omega arith, tt)
            arm_of true u low_u =
                let words = low_u.words in
                let mems = low_u.mems in
                let next = fresh-low (suc u.words) u.mems (suc (suc n)) (omega (arith, words)) (omega (arith, mems)) (omega (arith, few)) in
                let back : (f.addr m + size f m) % 2 ^ 64 < 2 ^ 64 = mod-lt (f.addr m + size f m) (omega arith) in
                (omega arith, (((omega (arith, words, few), back), cut_or on d (f.to m Next) (fresh f (suc u.words) u.mems) (suc (suc n) + 31) (omega (arith, le)) next (omega (arith, few))), tt))

        by : ((e m : ℕ) (v : VariableMap) (n : ℕ) → room ≤ e → IsLow f.mems v n → n + 33 * room ≤ 2000 → IsBody (suc (suc e)) (body_at room f p m v)) → (o : Option Callee) → f.callee m ≡ o
            → IsBody (suc (suc (suc d))) (action_body f p (action_calling o (f.instr m) (f.addr m) (size f m) (f.uses m) (f.to m) v) v (body_at room f p))
        by on None none = go on (f.instr m) refl
        by on (Some c) calls = enter on c calls (f.instr m) refl

  start-low : IsLow f.mems (start f) 31
  start-low = subst (IsLow f.mems (start f)) (let e : 0 + 31 ≡ 31 = omega arith in e) (fresh-low 0 0 0 (omega arith) (omega arith) (omega arith))

  part-body-printed : (p : Part) → IsBody nesting_limit (part_body f p)
  part-body-printed (Loop l) = body-printed (Loop l) 32 62 (f.head l) (start f) 31 (omega arith) start-low (omega arith)
  part-body-printed (Rest r n) = go (f.loop_of n)
    where
      go : (o : Option ℕ) → IsBody nesting_limit (rest_body 32 f (Rest r n) n o)
      go None = body-printed (Rest r n) 32 62 n (start f) 31 (omega arith) start-low (omega arith)
      go (Some l) =
          let u : VariableMap = fresh f (start f).words (start f).mems in
          let count = arms-count (λ x. end_at f (Rest r n) x u) (f.exits l) in
          let most = small.exits l in
          let low = start-low in (
            small.number (Loop l),
            omega (arith, count, most),
            values-printed f.mems (start f) 31 start-low (omega arith) f refl,
            arms-printed 63 (λ x. end_at f (Rest r n) x u) (λ x. at-printed (Rest r n) 61 x u (31 + 31) (fresh-low (start f).words (start f).mems 31 low.words low.mems (omega arith)) (omega arith)) (f.exits l),
          )

  exits-printed : (xs : List ℕ) (more : List Exit) → AllByRecursion IsExit more → AllByRecursion IsExit (map (λ n. At (f.addr n)) xs ++ more)
  exits-printed [] more h = h
  exits-printed (x ∷ xs) more h = (small.addr x, exits-printed xs more h)

  returned-printed : (p : Part) → AllByRecursion IsExit (returned f p)
  returned-printed (Loop l) = tt
  returned-printed (Rest (Some l) n) = tt
  returned-printed (Rest None n) = go f.returns
    where
      go : (b : Bool) → AllByRecursion IsExit (cond b (Ret ∷ []) [])
      go true = (tt, tt)
      go false = tt

  returns-of : (xs : List ℕ) (more : List Exit) → returns (map (λ n. At (f.addr n)) xs ++ more) ≡ returns more
  returns-of [] more = refl
  returns-of (x ∷ xs) more = returns-of xs more

  one-return : (p : Part) → returns (returned f p) ≤ 1
  one-return (Loop l) = omega arith
  one-return (Rest (Some l) n) = omega arith
  one-return (Rest None n) = go f.returns
    where
      go : (b : Bool) → returns (cond b (Ret ∷ []) []) ≤ 1
      go true = omega arith
      go false = omega arith

  pub part-printed : (p : Part) → IsDef (part_def f p)
  part-printed p =
      let few = exits-few f p small.exits in
      let ret = returns-of (targets f p) (returned f p) in
      let one = one-return p in
      record {
        entry = small.addr (first f p);
        exits = exits-printed (targets f p) (returned f p) (returned-printed p);
        few = omega (arith, few);
        one_return = omega (arith, ret, one);
        body = part-body-printed p;
      }
