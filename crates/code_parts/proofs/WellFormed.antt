-- The definitions of parts are well-formed.
use Rattle.std.proofs.Common.{◌≡◌, ℕ, zero, suc, ◌+◌, ◌<◌, List, [], ◌∷◌, ◌++◌, map, length, Bool, true, false, cond, eqb, refl, sym, ap, ◌∙◌, subst, arith, Option, Some, None, inl, inr, Contains}
use Rattle.std.specs.Prelude.{slice_get, option_map, unwrap_or}
use Rattle.std.proofs.lemmas.List.Elements.{All-cons}
use Rattle.rv_decode.specs.declared.instruction.Instr.{Instr}
use Rattle.rv_decode.specs.declared.instruction.Instr.TheVariants as instr
use Rattle.word_terms.specs.Tree.{CondTree, Var}
use Rattle.word_terms.specs.Scope.{WordInScope, CondInScope}
use Rattle.rv_words.specs.declared.range.Range.{Range}
use Rattle.tailrec_lang.specs.declared.group.Exit.TheVariants.{At, Ret}
use Rattle.tailrec_lang.specs.Tree.{ValuesTree, StepTree, Need, BodyTree, Branch, Call, Again, Leave, NoArm, Arm, GroupTree, with_steps}
use Rattle.tailrec_lang.specs.Tree as tree
use Rattle.tailrec_lang.specs.inner.WellFormed.{FitsExit, StepsInScope}
use Rattle.tailrec_lang.specs.WellFormed.{HasCounts, exit_words, words_after, mems_after, BodyIsWellFormed, ArmsAreWellFormed}
use Rattle.tailrec_lang.proofs.Definitions.{exits_there}
use Rattle.triple_kernel.specs.declared.form.Form.TheVariants.{Next, Taken}
use Rattle.rv_decode.specs.Registers.{sources}
use Rattle.instr_axioms.specs.Terms.{has_memory, conditions}
use Rattle.code_parts.specs.declared.part.Part.{Part}
use Rattle.code_parts.specs.declared.part.Part.TheVariants.{Loop, Rest}
use Rattle.code_parts.specs.Bodies.{Flow, VariableMap, size, names, current, fresh, start, with_pc, needs, writes, place_after, Action, Straight, Fork, Return, Enter, return_arm, action_of, action_calling, action, own, rest_targets, targets, returned, exits_of, rest_from, index_of, end_of, arms_over, last_at, rest_arms, end_at, action_body, body_at, rest_body, part_body}
use Rattle.code_parts.specs.declared.callee.Callee.{Callee}
use Rattle.code_parts.specs.Graph.{IsEdge, IsPart, IsPlaced, IsGraph, IsCode, StandsAt, HasPart, CallsBelow, ArmsBelow}
use Rattle.code_parts.proofs.Counts.{all_words_after, all_mems_after, all-words, all-mems, need-words, need-mems}
use Rattle.code_parts.proofs.Lists.{index-at, index-some, slice-map}
use Rattle.code_parts.proofs.Edges.{calls-row, Leads, leads-calling, Returns, returns-calling, end-some}
use Rattle.code_parts.proofs.VariableScope.{IsIn, fresh-in, current-scope, current-counts, needs-in, source-in, first, writes-in, place-in}

the_ret : (f : Flow) (q : Part) → own q ≡ None → f.returns ≡ true → slice_get (exits_of f q) 0 ≡ Some Ret
the_ret f (Loop l) e t = absurd (cc)
the_ret f (Rest None c) e t = λ i. slice_get (cond (t i) (Ret ∷ []) []) 0
the_ret f (Rest (Some l) c) e t = absurd (cc)

-- ---- steps

steps-append : (ss ts : List StepTree) (words mems : ℕ) → StepsInScope ss words mems → StepsInScope ts (all_words_after ss words) (all_mems_after ss mems) → StepsInScope (ss ++ ts) words mems
steps-append [] ts words mems h k = k
steps-append (s ∷ ss) ts words mems h k = (h.0, steps-append ss ts (words_after s words) (mems_after s mems) h.1 k)

below_steps : (d : ℕ) (ss : List StepTree) (b : BodyTree) → CallsBelow d (with_steps ss b) → CallsBelow d b
below_steps d [] b c = c
below_steps d (s ∷ ss) b c = below_steps d ss b c

steps-formed : (g : GroupTree) (d : ℕ) (ss : List StepTree) (b : BodyTree) (words mems : ℕ) → StepsInScope ss words mems → BodyIsWellFormed g d b (all_words_after ss words) (all_mems_after ss mems) → BodyIsWellFormed g d (with_steps ss b) words mems
steps-formed g d [] b words mems h k = k
steps-formed g d (s ∷ ss) b words mems h k = (h.0, steps-formed g d ss b (words_after s words) (mems_after s mems) h.1 k)

-- what an action needs to be well-formed
abbrev ActionInScope : Flow → Action → VariableMap → Type 0
ActionInScope f (Straight ss u to) v = StepsInScope ss v.words v.mems × (all_words_after ss v.words ≡ u.words) × (all_mems_after ss v.mems ≡ u.mems) × IsIn f u
ActionInScope f (Fork c a b) v = CondInScope c v.words v.mems
ActionInScope f (Enter ss u c back to) v = StepsInScope ss v.words v.mems × (all_words_after ss v.words ≡ u.words) × (all_mems_after ss v.mems ≡ u.mems) × IsIn f u
ActionInScope f (Return ss t) v = StepsInScope ss v.words v.mems × (all_words_after ss v.words ≡ v.words) × (all_mems_after ss v.mems ≡ v.mems) × WordInScope t v.words v.mems

module _ (f : Flow) (ranges : List Range) (n : ℕ) (at : StandsAt f ranges n) (v : VariableMap) (is : IsIn f v) where
  straight : (i : Instr) → f.instr n ≡ i → (to : ℕ) → ActionInScope f (Straight (needs i (f.uses n) v ++ writes i (f.addr n) (size f n) (f.uses n) v) (place_after i (f.uses n) v) to) v
  straight i e to =
      let reads = subst (λ j. (r : ℕ) → Contains (sources j) r → (r ≡ 0 → ⊥) → Contains f.regs r) e at.reads in
      let memory = subst (λ j. has_memory j ≡ true → f.uses n < f.mems) e at.memory in
      let cs : List CondTree = conditions i Next (names v (f.uses n)) in (
        steps-append (map Need cs) (writes i (f.addr n) (size f n) (f.uses n) v) v.words v.mems (needs-in f v is i reads (f.uses n) memory Next)
            (subst (λ q. StepsInScope (writes i (f.addr n) (size f n) (f.uses n) v) (all_words_after (map Need cs) v.words) q) (sym (need-mems cs v.mems))
            (subst (λ x. StepsInScope (writes i (f.addr n) (size f n) (f.uses n) v) x v.mems) (sym (need-words cs v.words)) (writes-in f v is i reads (f.uses n) memory (f.addr n) (size f n)))),
        all-words i (f.addr n) (size f n) (f.uses n) v,
        all-mems i (f.addr n) (size f n) (f.uses n) v,
        place-in f v is i (f.uses n),
      )

  action-in : ActionInScope f (action f n v) v
  action-in = by (f.callee n)
    where
      go : (i : Instr) → f.instr n ≡ i → ActionInScope f (action_of i (f.addr n) (size f n) (f.uses n) (f.to n) v) v
      go (instr.Op o rd rs1 rs2) e = straight (instr.Op o rd rs1 rs2) e (f.to n Next)
      go (instr.OpImm o rd rs1 imm) e = straight (instr.OpImm o rd rs1 imm) e (f.to n Next)
      go (instr.Lui rd imm) e = straight (instr.Lui rd imm) e (f.to n Next)
      go (instr.Auipc rd imm) e = straight (instr.Auipc rd imm) e (f.to n Next)
      go (instr.Jal rd offset) e = straight (instr.Jal rd offset) e (f.to n Next)
      go (instr.Load width signed rd rs1 imm) e = straight (instr.Load width signed rd rs1 imm) e (f.to n Next)
      go (instr.Store width rs1 rs2 imm) e = straight (instr.Store width rs1 rs2 imm) e (f.to n Next)
      go (instr.Fence imm rs1 rd) e = straight (instr.Fence imm rs1 rd) e (f.to n Next)
      go instr.Ecall e = straight instr.Ecall e (f.to n Next)
      go instr.Ebreak e = straight instr.Ebreak e (f.to n Next)
      go (instr.Branch c rs1 rs2 offset) e =
          let i : Instr = instr.Branch c rs1 rs2 offset in
          let reads = subst (λ j. (r : ℕ) → Contains (sources j) r → (r ≡ 0 → ⊥) → Contains f.regs r) e at.reads in
          let memory = subst (λ j. has_memory j ≡ true → f.uses n < f.mems) e at.memory in
          (needs-in f v is i reads (f.uses n) memory Taken).0
      go (instr.Jalr rd rs1 imm) e =
          let i : Instr = instr.Jalr rd rs1 imm in
          let reads = subst (λ j. (r : ℕ) → Contains (sources j) r → (r ≡ 0 → ⊥) → Contains f.regs r) e at.reads in
          let memory = subst (λ j. has_memory j ≡ true → f.uses n < f.mems) e at.memory in
          let steps = needs-in f v is i reads (f.uses n) memory Next in
          (steps, refl, refl, ((source-in f v is i reads (f.uses n) memory rs1 (first rs1 []), tt), tt))

      by : (o : Option Callee) → ActionInScope f (action_calling o (f.instr n) (f.addr n) (size f n) (f.uses n) (f.to n) v) v
      by None = go (f.instr n) refl
      by (Some c) = straight (f.instr n) refl (f.to n Next)

-- ---- the bodies of a part

module _ (f : Flow) (g : GroupTree) (p : Part) (d : ℕ) (regs : g.regs ≡ f.regs) (mems : g.mems ≡ f.mems)
    (graph : IsGraph f) (code : IsCode f g.code) (has : (q : Part) → IsPart f q → f.number q < d → HasPart f g q)
    (callees : (n : ℕ) (c : Callee) → n < f.nodes → f.callee n ≡ Some c → c.def < d → tree.exits_at g c.def ≡ cond c.returns (Ret ∷ []) []) (mine : tree.exits_at g d ≡ exits_of f p) where
  abbrev Formed : BodyTree → ℕ → ℕ → Type 0
  Formed = BodyIsWellFormed g d

  counts : (v : VariableMap) → HasCounts (current f v) (length g.regs) g.mems
  counts v = let c = current-counts f v in (c.0 ∙ (λ i. length (sym regs i)), c.1 ∙ sym mems)

  same-counts : (b : BodyTree) (words more : ℕ) (q : ℕ) → Formed b (words + length f.regs) (q + f.mems) → Formed b (words + exit_words g (At more)) (q + g.mems)
  same-counts b words more q h =
      subst (λ m. Formed b (words + length g.regs) (q + m)) (sym mems) (subst (λ rs. Formed b (words + length rs) (q + f.mems)) (sym regs) h)

  leave-formed : (n k : ℕ) (v : VariableMap) → IsIn f v → slice_get (targets f p) k ≡ Some n → Formed (Leave k (current f v)) v.words v.mems
  leave-formed n k v is at =
      let exit : slice_get (tree.exits_at g d) k ≡ Some (At (f.addr n)) = (λ i. slice_get (mine i) k) ∙ slice-map (λ n. At (f.addr n)) (returned f p) (targets f p) k n at in
      (subst (λ o. FitsExit g o (current f v)) (sym exit) (counts v), current-scope f v v.words v.mems is (omega arith) (omega arith))

  some_leave : (n : ℕ) (v : VariableMap) (b : BodyTree) → IsIn f v → (o : Option ℕ) → index_of (targets f p) n ≡ o → option_map (λ k. Leave k (current f v)) o ≡ Some b → Formed b v.words v.mems
  some_leave n v b is None e h = absurd (cc)
  some_leave n v b is (Some k) e h = let same : Leave k (current f v) ≡ b = cc in subst (λ c. Formed c v.words v.mems) same (leave-formed n k v is (index-at (targets f p) n k e))

  end_formed : (q : Part) → p ≡ q → (n : ℕ) (v : VariableMap) (b : BodyTree) → IsIn f v → end_of f q n (current f v) ≡ Some b → Formed b v.words v.mems
  end_formed (Rest r c) e n v b is h = some_leave n v b is (index_of (rest_targets f r) n) (λ i. index_of (targets f (e i)) n) h
  end_formed (Loop l) e n v b is h = go (eqb n (f.head l)) h
    where
      go : (t : Bool) → cond t (Some (Again (current f v))) (option_map (λ k. Leave k (current f v)) (index_of (f.exits l) n)) ≡ Some b → Formed b v.words v.mems
      go true h = let same : Again (current f v) ≡ b = cc in subst (λ c. Formed c v.words v.mems) same (counts v, current-scope f v v.words v.mems is (omega arith) (omega arith))
      go false h = some_leave n v b is (index_of (f.exits l) n) (λ i. index_of (targets f (e i)) n) h

  last_formed : (n k : ℕ) (v : VariableMap) → IsIn f v → slice_get (rest_targets f (own p)) k ≡ Some n → Formed (last_at f p n v) v.words v.mems
  last_formed n k v is at = go (end_of f p n (current f v)) refl
    where
      go : (o : Option BodyTree) → end_of f p n (current f v) ≡ o → Formed (unwrap_or o (Leave 0 (current f v))) v.words v.mems
      go None none = absurd (let found = index-some (rest_targets f (own p)) n k at in end-some f p n found.0 (current f v) found.1 none)
      go (Some b) some = end_formed p refl n v b is some

  arms_formed : (go : ℕ → BodyTree) (words mems : ℕ) (xs : List ℕ) → ((i x : ℕ) → slice_get xs i ≡ Some x → CallsBelow d (go x) → Formed (go x) (words + length f.regs) (mems + f.mems)) → ArmsBelow d (arms_over xs go) →
      ArmsAreWellFormed g d (map (λ n. At (f.addr n)) xs ++ []) (arms_over xs go) words mems
  arms_formed go words mems [] each ok = tt
  arms_formed go words mems (x ∷ xs) each ok = (same-counts (go x) words (f.addr x) mems (each 0 x refl ok.0), arms_formed go words mems xs (λ i y e. each (suc i) y e) ok.1)

  callee-exits : (q : Part) → IsPart f q → f.number q < d → tree.exits_at g (f.number q) ≡ exits_of f q
  callee-exits q there low = let h = has q there low in exits_there g (f.number q) h.def h.is ∙ h.exits

  call_formed : (n : ℕ) → n < f.nodes → f.is_cut n ≡ true → (r : Option ℕ) → own p ≡ r → f.around n ≡ r → (v : VariableMap) → IsIn f v → f.number (rest_from f n) < d → ArmsBelow d (rest_arms f p r v) →
      ArmsAreWellFormed g d (tree.exits_at g (f.number (rest_from f n))) (rest_arms f p r v) v.words v.mems
  call_formed n node cut (Some l) same there v is low ok =
      let their : tree.exits_at g (f.number (rest_from f n)) ≡ map (λ n. At (f.addr n)) (rest_targets f (Some l)) ++ [] = callee-exits (rest_from f n) (node, cut, refl) low ∙ (λ i. exits_of f (Rest (there i) n)) in
      subst (λ xs. ArmsAreWellFormed g d xs (rest_arms f p (Some l) v) v.words v.mems) (sym their)
      (arms_formed (λ x. last_at f p x (fresh f v.words v.mems)) v.words v.mems (rest_targets f (Some l))
      (λ i x e c. last_formed x i (fresh f v.words v.mems) (fresh-in f v.words v.mems) (subst (λ r. slice_get (rest_targets f r) i ≡ Some x) (sym same) e)) ok)
  call_formed n node cut None same there v is low ok = go f.returns refl
    where
      vals : ValuesTree
      vals = with_pc (Var v.words) (current f (fresh f (suc v.words) v.mems))

      their : (b : Bool) → f.returns ≡ b → tree.exits_at g (f.number (rest_from f n)) ≡ cond b (Ret ∷ []) []
      their b e = callee-exits (rest_from f n) (node, cut, refl) low ∙ (λ i. exits_of f (Rest (there i) n)) ∙ (λ i. cond (e i) (Ret ∷ []) [])

      go : (b : Bool) → f.returns ≡ b → ArmsAreWellFormed g d (tree.exits_at g (f.number (rest_from f n))) (cond b (Arm (Leave 0 vals) NoArm) NoArm) v.words v.mems
      go false e = subst (λ xs. ArmsAreWellFormed g d xs NoArm v.words v.mems) (sym (their false e)) tt
      go true e =
          let exit : slice_get (tree.exits_at g d) 0 ≡ Some Ret = (λ i. slice_get (mine i) 0) ∙ the_ret f p same e in
          let c = counts (fresh f (suc v.words) v.mems) in
          let fit : HasCounts vals (length g.regs + 1) g.mems = (let one : suc (length (current f (fresh f (suc v.words) v.mems)).words) ≡ length g.regs + 1 = omega (arith, c.0) in (one, c.1)) in
          let more : length g.regs ≡ length f.regs = ap length regs in
          let scope = current-scope f (fresh f (suc v.words) v.mems) (v.words + (length g.regs + 1)) (v.mems + g.mems) (fresh-in f (suc v.words) v.mems) (omega (arith, more)) (omega (arith, mems)) in
          let low : v.words < v.words + (length g.regs + 1) = omega arith in
          subst (λ xs. ArmsAreWellFormed g d xs (Arm (Leave 0 vals) NoArm) v.words v.mems) (sym (their true e)) (
            (
              subst (λ o. FitsExit g o vals) (sym exit) fit,
              (All-cons (λ t. WordInScope t (v.words + (length g.regs + 1)) (v.mems + g.mems)) (Var v.words) (current f (fresh f (suc v.words) v.mems)).words low scope.0, scope.1),
            ),
            tt,
          )

  at_formed : (n : ℕ) → n < f.nodes → f.is_cut n ≡ true → IsPlaced f (own p) n → (v : VariableMap) → IsIn f v → CallsBelow d (end_at f p n v) → Formed (end_at f p n v) v.words v.mems
  at_formed n node cut placed v is ok = go (end_of f p n (current f v)) refl ok
    where
      rest : BodyTree
      rest = Call (f.number (rest_from f n)) (current f v) (rest_arms f p (f.around n) v)

      inside : IsPlaced f (own p) n → end_of f p n (current f v) ≡ None → f.around n ≡ own p
      inside (inl q) none = absurd (end-some f p n q.0 (current f v) q.1 none)
      inside (inr q) none = q

      go : (o : Option BodyTree) → end_of f p n (current f v) ≡ o → CallsBelow d (unwrap_or o rest) → Formed (unwrap_or o rest) v.words v.mems
      go None none ok = (ok.0, counts v, current-scope f v v.words v.mems is (omega arith) (omega arith), call_formed n node cut (f.around n) (sym (inside placed none)) refl v is ok.0 ok.1)
      go (Some b) some ok = end_formed p refl n v b is some

  abbrev FormedFrom : ℕ → Type 0
  FormedFrom room = (n : ℕ) → n < f.nodes → graph.inner n ≡ own p → graph.rank n < room → (v : VariableMap) → IsIn f v → CallsBelow d (body_at room f p n v) → Formed (body_at room f p n v) v.words v.mems

  edge_formed : (room : ℕ) → FormedFrom room → (n : ℕ) → n < f.nodes → graph.inner n ≡ own p → graph.rank n < suc room → (m : ℕ) → IsEdge f n m → (v : VariableMap) → IsIn f v →
      CallsBelow d (cond (f.is_cut m) (end_at f p m v) (body_at room f p m v)) → Formed (cond (f.is_cut m) (end_at f p m v) (body_at room f p m v)) v.words v.mems
  edge_formed room on n node region near m edge v is ok = go (f.is_cut m) refl ok
    where
      go : (b : Bool) → f.is_cut m ≡ b → CallsBelow d (cond b (end_at f p m v) (body_at room f p m v)) → Formed (cond b (end_at f p m v) (body_at room f p m v)) v.words v.mems
      go true cut ok = let q = graph.placed n m node edge cut in at_formed m q.0 cut (subst (λ r. IsPlaced f r m) region q.1) v is ok
      go false cut ok = let q = graph.stays n m node edge cut in on m q.0 (q.1 ∙ region) (omega (arith, q.2)) v is ok

  body_formed : (room : ℕ) → FormedFrom room
  body_formed zero n node region near v is ok = absurd (omega arith)
  body_formed (suc room) n node region near v is ok =
      go (λ n node region near v is ok. body_formed room n node region near v is ok) (action f n v) refl (action-in f g.code n (code.each n node) v is) ok
    where
      edge : (y : Action) → action f n v ≡ y → (m : ℕ) → Leads y m → IsEdge f n m
      edge y e m leads = leads-calling (f.callee n) (f.instr n) (f.addr n) (size f n) (f.uses n) (f.to n) v m (λ c e. graph.calls n c node e) (subst (λ z. Leads z m) (sym e) leads)

      arm : (r : Bool) (u : VariableMap) (back to : ℕ) → ((w : VariableMap) → IsIn f w → CallsBelow d (cond (f.is_cut to) (end_at f p to w) (body_at room f p to w)) → Formed (cond (f.is_cut to) (end_at f p to w) (body_at room f p to w)) w.words w.mems)
          → ArmsBelow d (return_arm f r back u (λ w. cond (f.is_cut to) (end_at f p to w) (body_at room f p to w)))
          → ArmsAreWellFormed g d (cond r (Ret ∷ []) []) (return_arm f r back u (λ w. cond (f.is_cut to) (end_at f p to w) (body_at room f p to w))) u.words u.mems
      arm false u back to each ok = tt
      arm true u back to each ok =
          let q : VariableMap = fresh f (suc u.words) u.mems in
          let h = each q (fresh-in f (suc u.words) u.mems) ok.0 in
          let one : q.words ≡ u.words + (length g.regs + 1) = (let more : length g.regs ≡ length f.regs = ap length regs in omega (arith, more)) in
          let two : q.mems ≡ u.mems + g.mems = omega (arith, mems) in
          let low : u.words < u.words + (length g.regs + 1) = omega arith in
          (((low, tt), subst (λ x. Formed (cond (f.is_cut to) (end_at f p to q) (body_at room f p to q)) x (u.mems + g.mems)) one (subst (λ x. Formed (cond (f.is_cut to) (end_at f p to q) (body_at room f p to q)) q.words x) two h)), tt)

      go : FormedFrom room → (y : Action) → action f n v ≡ y → ActionInScope f y v → CallsBelow d (action_body f p y v (body_at room f p)) → Formed (action_body f p y v (body_at room f p)) v.words v.mems
      go on (Straight ss u to) e h ok =
          let b : BodyTree = cond (f.is_cut to) (end_at f p to u) (body_at room f p to u) in
          let rest = edge_formed room on n node region near to (edge (Straight ss u to) e to refl) u h.3 (below_steps d ss b ok) in
          steps-formed g d ss b v.words v.mems h.0 (subst (λ q. Formed b (all_words_after ss v.words) q) (sym h.2) (subst (λ x. Formed b x u.mems) (sym h.1) rest))
      go on (Fork c x y) e h ok =
          (h, edge_formed room on n node region near x (edge (Fork c x y) e x (inl refl)) v is ok.0, edge_formed room on n node region near y (edge (Fork c x y) e y (inr refl)) v is ok.1)
      go on (Enter ss u c back to) e h ok =
          let is_callee = calls-row (f.callee n) (f.instr n) (f.addr n) (size f n) (f.uses n) (f.to n) v ss u c back to e in
          let rest = λ (w : VariableMap). cond (f.is_cut to) (end_at f p to w) (body_at room f p to w) in
          let b : BodyTree = Call c.def (current f u) (return_arm f c.returns back u (λ w. cond (f.is_cut to) (end_at f p to w) (body_at room f p to w))) in
          let below = below_steps d ss b ok in
          let formed : Formed b u.words u.mems = (
            below.0,
            counts u,
            current-scope f u u.words u.mems h.3 (omega arith) (omega arith),
            subst (λ xs. ArmsAreWellFormed g d xs (return_arm f c.returns back u (λ w. cond (f.is_cut to) (end_at f p to w) (body_at room f p to w))) u.words u.mems) (sym (callees n c node is_callee below.0))
                (arm c.returns u back to (λ w iw ok. edge_formed room on n node region near to (edge (Enter ss u c back to) e to refl) w iw ok) below.1),
          ) in
          steps-formed g d ss b v.words v.mems h.0 (subst (λ q. Formed b (all_words_after ss v.words) q) (sym h.2) (subst (λ x. Formed b x u.mems) (sym h.1) formed))
      go on (Return ss t) e h ok =
          let q = graph.returned n node (returns-calling (f.callee n) (f.instr n) (f.addr n) (size f n) (f.uses n) (f.to n) v (subst Returns (sym e) tt)) in
          let exit : slice_get (tree.exits_at g d) 0 ≡ Some Ret = (λ i. slice_get (mine i) 0) ∙ the_ret f p (sym region ∙ q.0) q.1 in
          let vals : ValuesTree = with_pc t (current f v) in
          let c = counts v in
          let fit : HasCounts vals (length g.regs + 1) g.mems = (let one : suc (length (current f v).words) ≡ length g.regs + 1 = omega (arith, c.0) in (one, c.1)) in
          let scope = current-scope f v v.words v.mems is (omega arith) (omega arith) in
          let leaf : Formed (Leave 0 vals) v.words v.mems = (subst (λ o. FitsExit g o vals) (sym exit) fit, (All-cons (λ t. WordInScope t v.words v.mems) t (current f v).words h.3 scope.0, scope.1)) in
          steps-formed g d ss (Leave 0 vals) v.words v.mems h.0 (subst (λ q. Formed (Leave 0 vals) (all_words_after ss v.words) q) (sym h.2) (subst (λ x. Formed (Leave 0 vals) x v.mems) (sym h.1) leaf))

  pub part-formed : IsPart f p → CallsBelow d (part_body f p) → Formed (part_body f p) (length g.regs) g.mems
  part-formed part ok = subst (λ m. Formed (part_body f p) (length g.regs) m) (sym mems) (subst (λ rs. Formed (part_body f p) (length rs) f.mems) (sym regs) (go p refl part ok))
    where
      from_start : (b : BodyTree) → Formed b (start f).words (start f).mems → Formed b (length f.regs) f.mems
      from_start b h =
          let words : (start f).words ≡ length f.regs = omega arith in
          let ms : (start f).mems ≡ f.mems = omega arith in
          subst (λ m. Formed b (length f.regs) m) ms (subst (λ w. Formed b w (start f).mems) words h)

      from_node : (q : Part) → p ≡ q → (n : ℕ) → n < f.nodes → graph.inner n ≡ own p → CallsBelow d (body_at 32 f q n (start f)) → Formed (body_at 32 f q n (start f)) (length f.regs) f.mems
      from_node q e n node region ok = from_start (body_at 32 f q n (start f))
          (subst (λ q. CallsBelow d (body_at 32 f q n (start f)) → Formed (body_at 32 f q n (start f)) (start f).words (start f).mems) e (λ ok. body_formed 32 n node region (graph.near n node) (start f) (fresh-in f 0 0) ok) ok)

      from_head : (q : Part) → p ≡ q → (l n : ℕ) → l < f.loops → f.head l ≡ n → f.around n ≡ own p → CallsBelow d (rest_body 32 f q n (Some l)) → Formed (rest_body 32 f q n (Some l)) (length f.regs) f.mems
      from_head q e l n loop head region ok = from_start (rest_body 32 f q n (Some l)) (
        ok.0,
        counts (start f),
        current-scope f (start f) (start f).words (start f).mems (fresh-in f 0 0) (omega arith) (omega arith),
        subst (λ xs. ArmsAreWellFormed g d xs (arms_over (f.exits l) (λ x. end_at f q x (fresh f (start f).words (start f).mems))) (start f).words (start f).mems) (sym (callee-exits (Loop l) loop ok.0))
            (arms_formed (λ x. end_at f q x (fresh f (start f).words (start f).mems)) (start f).words (start f).mems (f.exits l)
            (λ i x at c. let out = graph.loop_exit l i x loop at in
            let placed : IsPlaced f (own p) x = subst (λ r. IsPlaced f r x) (ap f.around head ∙ region) out.2 in
            subst (λ y. CallsBelow d (end_at f y x (fresh f (start f).words (start f).mems)) → Formed (end_at f y x (fresh f (start f).words (start f).mems)) ((start f).words + length f.regs) ((start f).mems + f.mems)) e
            (λ ok. at_formed x out.0 out.1 placed (fresh f (start f).words (start f).mems) (fresh-in f (start f).words (start f).mems) ok) c) ok.1),
      )

      go : (q : Part) → p ≡ q → IsPart f q → CallsBelow d (part_body f q) → Formed (part_body f q) (length f.regs) f.mems
      go (Loop l) e loop ok = let at = graph.loop_head l loop in from_node (Loop l) e (f.head l) at.0 (at.1 ∙ (λ i. own (sym e i))) ok
      go (Rest r n) e there ok = by_head (f.loop_of n) refl ok
        where
          by_head : (o : Option ℕ) → f.loop_of n ≡ o → CallsBelow d (rest_body 32 f (Rest r n) n o) → Formed (rest_body 32 f (Rest r n) n o) (length f.regs) f.mems
          by_head None is ok = from_node (Rest r n) e n there.0 (graph.cut_inner n there.0 there.1 is ∙ there.2 ∙ (λ i. own (sym e i))) ok
          by_head (Some l) is ok = let at = graph.head_is n l there.0 is in from_head (Rest r n) e l n at.0 at.1 (there.2 ∙ (λ i. own (sym e i))) ok
