-- The law of a part: a run from the part's first node that first returns is an evaluation of the part's definition.
use Rattle.std.proofs.Common.{◌≡◌, ℕ, zero, suc, ◌+◌, ◌-◌, ◌*◌, ◌<◌, ◌≤◌, Bool, true, false, cond, eqb, eqb-true, eq-eqb, ◌⊎◌, inl, inr, Option, Some, None, option_map, [], ◌∷◌, length, refl, sym, ap, subst, ◌∙◌, arith}
use Rattle.std.specs.Prelude.{slice_get, unwrap_or}
use Rattle.word_terms.specs.Tree.{Var}
use Rattle.word_terms.specs.Environment.{Environment, no_variables}
use Rattle.word_terms.specs.Value.{word_value, cond_holds}
use Rattle.tailrec_lang.specs.Tree.{ValuesTree, BodyTree, Call, Again, Leave, NoArm, Arm}
use Rattle.tailrec_lang.specs.Eval.{Arguments, Meaning, Ending, Exited, NeedFalse, and_then, body_ending, arm_ending, arguments_of, with_arguments, needs}
use Rattle.code_parts.specs.declared.part.Part.{Part}
use Rattle.code_parts.specs.declared.part.Part.TheVariants.{Loop, Rest}
use Rattle.code_parts.specs.Bodies.{Flow, size, VariableMap, Action, Straight, Fork, Return, Enter, return_arm, action, fresh, start, current, with_pc, own, first, rest_targets, targets, rest_from, index_of, end_of, arms_over, last_at, rest_arms, end_at, action_body, body_at, rest_body, part_body}
use Rattle.code_parts.specs.declared.callee.Callee.{Callee}
use Rattle.decompiler.proofs.Returns.{Comes, split}
use Rattle.decompiler.proofs.StateVariables.{Stands, stands-fresh, stands-start, stands-returned, returned-values}
use Rattle.decompiler.proofs.BodyLemmas.{after_steps, AllHold, needs_passed, ending-steps, arm-over, is-found, found-at, contains-at}
use Rattle.tailrec_lang.specs.Registers.{AreRegistersFrom}
use Rattle.code_parts.specs.Graph.{IsPart, IsPlaced, IsGraph}
use Rattle.code_parts.proofs.Edges.{Leads, end-some, leads-calling}
use Rattle.code_parts.proofs.Edges.{calls-row}
use Rattle.decompiler.proofs.ReturnRows.{return-calling}

-- results with the returned address in front
abbrev pub with_address : ℕ → Arguments → Arguments
with_address pc x = record { words = pc ∷ x.words; mems = x.mems }

-- the entries into bodies that a part needs before its first step are two for the rest of a head, and one elsewhere
abbrev pub slack_at : Option ℕ → ℕ
slack_at None = 1
slack_at (Some l) = 0

abbrev pub slack : Flow → Part → ℕ
slack f (Loop l) = 1
slack f (Rest r n) = slack_at (f.loop_of n)

module _ (f : Flow) (State : Type 0) (pc : State → ℕ) (args : State → Arguments) (back : State → ℕ) (Returns Calls : State → Type 0) (Good : State → Type 0) (Steps : State → State → Type 0) where
  -- the step from s to u is what a definition has for the instruction
  abbrev pub IsDone : Action → VariableMap → Environment → State → State → Type 0
  IsDone (Straight ss w to) v e s u = AllHold ss e × Stands f w (after_steps ss e) (args u) × (pc u ≡ f.addr to) × (Returns s → ⊥) × (Calls s → ⊥)
  IsDone (Fork c a b) v e s u = (args u ≡ args s) × (pc u ≡ f.addr (cond (cond_holds c e) a b)) × (Returns s → ⊥) × (Calls s → ⊥)
  IsDone (Return ss t) v e s u = AllHold ss e × (word_value t (after_steps ss e) ≡ pc u) × (arguments_of (current f v) (after_steps ss e) ≡ args u) × Returns s × (Calls s → ⊥)
  IsDone (Enter ss w c to_back to) v e s u =
      AllHold ss e × Stands f w (after_steps ss e) (args u) × (pc u ≡ c.entry) × (back s ≡ to_back) × (to_back ≡ f.addr to) × Calls s × (Returns s → ⊥)

  -- the evaluation of a part within so many turns leaves by the return, in t, which is k steps on, at most 32 for each turn
  pub record LeavesIn (p : Part) (k turns : ℕ) (t : State) (o : Ending) : Type 0 where
    pub region : own p ≡ None
    pub returns : f.returns ≡ true
    pub good : Good t
    pub left : ℕ
    pub few : k + 32 * left ≤ 32 * turns
    pub ends : o ≡ Exited 0 (with_address (pc t) (args t)) left

  -- .. or by an exit that the run meets later, with two turns left for each step that it still has to go
  pub record LeavesAt (p : Part) (k turns : ℕ) (t : State) (o : Ending) : Type 0 where
    pub exit : ℕ
    pub node : ℕ
    pub there : slice_get (targets f p) exit ≡ Some node
    pub steps : ℕ
    pub fewer : steps < k
    pub state : State
    pub place : pc state ≡ f.addr node
    pub good : Good state
    pub comes : Comes State pc back Returns Calls Steps t [] steps state
    pub left : ℕ
    pub enough : 2 * steps ≤ left
    pub few : k + 32 * left ≤ 32 * turns + steps
    pub ends : o ≡ Exited exit (args state) left

  -- the evaluation of a function that is called leaves by the return, in t
  pub record ReturnsIn (c : Callee) (k turns : ℕ) (t : State) (o : Ending) : Type 0 where
    pub returns : c.returns ≡ true
    pub good : Good t
    pub left : ℕ
    pub few : k + 32 * left ≤ 32 * turns
    pub ends : o ≡ Exited 0 (with_address (pc t) (args t)) left

  abbrev pub Leaves : Part → ℕ → ℕ → State → Ending → Type 0
  Leaves p k turns t o = LeavesIn p k turns t o ⊎ LeavesAt p k turns t o

module _ (f : Flow) (graph : IsGraph f) (rise : AreRegistersFrom 1 f.regs)
    (State : Type 0) (pc : State → ℕ) (args : State → Arguments) (back : State → ℕ) (Returns Calls : State → Type 0) (Good : State → Type 0) (Steps : State → State → Type 0)
    (long : (s : State) → (length (args s).words ≡ length f.regs) × (length (args s).mems ≡ f.mems))
    (done : (n : ℕ) (v : VariableMap) (e : Environment) (s u : State) → n < f.nodes → Good s → pc s ≡ f.addr n → Stands f v e (args s) → Steps s u
    → Good u × IsDone f State pc args back Returns Calls Good Steps (action f n v) v e s u)
    (call : Meaning)
    (more : (d : ℕ) (x : Arguments) (m r i : ℕ) (y : Arguments) (left : ℕ) → call d x m ≡ Exited i y left → call d x (m + r) ≡ Exited i y (left + r))
    (enter : (p : Part) (x : Arguments) (m : ℕ) → IsPart f p → call (f.number p) x (suc m) ≡ body_ending call (f.number p) (part_body f p) (with_arguments no_variables x) 0 m)
  where
    abbrev Runs : ℕ → State → State → Type 0
    Runs k s t = Comes State pc back Returns Calls Steps t [] k s

    abbrev Gives : Part → ℕ → ℕ → State → Ending → Type 0
    Gives = Leaves f State pc args back Returns Calls Good Steps

    -- what is owed of a part and a number of steps, for each number of turns that is large enough
    abbrev pub Law : ℕ → Part → Type 0
    Law k p = (s t : State) (m : ℕ) → Good s → pc s ≡ f.addr (first f p) → Runs k s t → 2 * k ≤ m + slack f p → Gives p k m t (call (f.number p) (args s) m)

    -- .. and of a function that is called
    abbrev pub CallLaw : ℕ → Callee → Type 0
    CallLaw k c = (s t : State) (m : ℕ) → Good s → pc s ≡ c.entry → Runs k s t → 2 * k ≤ m → ReturnsIn f State pc args back Returns Calls Good Steps c k m t (call c.def (args s) m)

    abbrev pub LawsAt : ℕ → Type 0
    LawsAt k = ((p : Part) → IsPart f p → Law k p) × ((n : ℕ) (c : Callee) → n < f.nodes → f.callee n ≡ Some c → CallLaw k c)

    abbrev pub LawsBelow : ℕ → Type 0
    LawsBelow k = (j : ℕ) → j < k → LawsAt j

    -- Of k steps and w turns at an entry j and m are left. There were at most 32 steps for each turn, and there is room for some more in
    -- the last.
    abbrev Spent : (k w j m room : ℕ) → Type 0
    Spent k w j m room = k + 32 * m + room ≤ 32 * w + j

    along : (p : Part) (k w : ℕ) (t : State) (o o' : Ending) → o' ≡ o → Gives p k w t o → Gives p k w t o'
    along p k w t o o' e h = subst (Gives p k w t) (sym e) h

    longer : (p : Part) (j k w m : ℕ) (t : State) (o : Ending) → j ≤ k → Spent k w j m 0 → Gives p j m t o → Gives p k w t o
    longer p j k w m t o le spent (inl r) = inl (record {
      region = r.region;
      returns = r.returns;
      good = r.good;
      left = r.left;
      few = omega (arith, spent, r.few);
      ends = r.ends;
    })
    longer p j k w m t o le spent (inr l) = inr (record {
      exit = l.exit;
      node = l.node;
      there = l.there;
      steps = l.steps;
      fewer = omega (arith, l.fewer);
      state = l.state;
      place = l.place;
      good = l.good;
      comes = l.comes;
      left = l.left;
      enough = l.enough;
      few = omega (arith, spent, l.few);
      ends = l.ends;
    })

    -- ---- at an exit

    leaves : (k w : ℕ) (p : Part) (t : State) (n : ℕ) (x : ValuesTree) (e : Environment) (u : State) (j o m : ℕ) → j < k → Good u → pc u ≡ f.addr n → arguments_of x e ≡ args u → Runs j u t
        → 2 * j ≤ m → Spent k w j m 0 → (i : Option ℕ) → index_of (targets f p) n ≡ i → (b : BodyTree) → option_map (λ q. Leave q x) i ≡ Some b → Gives p k w t (body_ending call (f.number p) b e o m)
    leaves k w p t n x e u j o m lt good place same comes enough spent None is b h = absurd (cc)
    leaves k w p t n x e u j o m lt good place same comes enough spent (Some i) is b h =
        let q : Leave i x ≡ b = cc in
        subst (λ c. Gives p k w t (body_ending call (f.number p) c e o m)) q (inr (record {
          exit = i;
          node = n;
          there = found-at (targets f p) n i is;
          steps = j;
          fewer = lt;
          state = u;
          place = place;
          good = good;
          comes = comes;
          left = m;
          enough = enough;
          few = omega (arith, spent);
          ends = λ z. Exited i (same z) m;
        }))

    -- where the part ends by itself
    end-law : (k w : ℕ) → LawsBelow k → (p : Part) → IsPart f p → (t : State) (n : ℕ) (x : ValuesTree) (e : Environment) (u : State) (j o m : ℕ) → j < k → Good u → pc u ≡ f.addr n
        → arguments_of x e ≡ args u → Runs j u t → 2 * j ≤ m → Spent k w j m 0 → (b : BodyTree) → end_of f p n x ≡ Some b → Gives p k w t (body_ending call (f.number p) b e o m)
    end-law k w laws (Rest r c) there t n x e u j o m lt good place same comes enough spent b h =
        leaves k w (Rest r c) t n x e u j o m lt good place same comes enough spent (index_of (rest_targets f r) n) refl b h
    end-law k w laws (Loop l) there t n x e u j o m lt good place same comes enough spent b h =
        by (λ at. longer (Loop l) j k w m t _ (omega arith) spent
        (along (Loop l) j m t (call (f.number (Loop l)) (args u) m) (call (f.number (Loop l)) (arguments_of x e) m) (λ z. call (f.number (Loop l)) (same z) m)
        ((laws j lt).0 (Loop l) there u t m good (place ∙ ap f.addr at) comes (omega (arith, enough)))))
        (λ c g. leaves k w (Loop l) t n x e u j o m lt good place same comes enough spent (index_of (f.exits l) n) refl c g)
        (eqb n (f.head l)) refl h
      where
        by : (n ≡ f.head l → Gives (Loop l) k w t (call (f.number (Loop l)) (arguments_of x e) m))
            → ((c : BodyTree) → option_map (λ q. Leave q x) (index_of (f.exits l) n) ≡ Some c → Gives (Loop l) k w t (body_ending call (f.number (Loop l)) c e o m))
            → (q : Bool) → eqb n (f.head l) ≡ q → cond q (Some (Again x)) (option_map (λ q. Leave q x) (index_of (f.exits l) n)) ≡ Some b
            → Gives (Loop l) k w t (body_ending call (f.number (Loop l)) b e o m)
        by again out true is g = let q : Again x ≡ b = cc in subst (λ c. Gives (Loop l) k w t (body_ending call (f.number (Loop l)) c e o m)) q (again (eqb-true n (f.head l) is))
        by again out false is g = out b g

    -- at an exit of the own region, after a call
    last-law : (k w : ℕ) → LawsBelow k → (p : Part) → IsPart f p → (t : State) (n : ℕ) (v : VariableMap) (e : Environment) (u : State) (j o m i : ℕ) → j < k → Good u → pc u ≡ f.addr n
        → Stands f v e (args u) → Runs j u t → 2 * j ≤ m → Spent k w j m 0 → slice_get (rest_targets f (own p)) i ≡ Some n → Gives p k w t (body_ending call (f.number p) (last_at f p n v) e o m)
    last-law k w laws p there t n v e u j o m i lt good place is comes enough spent at =
        by (λ b h. end-law k w laws p there t n (current f v) e u j o m lt good place is.same comes enough spent b h) (end_of f p n (current f v)) refl
      where
        by : ((b : BodyTree) → end_of f p n (current f v) ≡ Some b → Gives p k w t (body_ending call (f.number p) b e o m))
            → (c : Option BodyTree) → end_of f p n (current f v) ≡ c → Gives p k w t (body_ending call (f.number p) (unwrap_or c (Leave 0 (current f v))) e o m)
        by ends None none = absurd (let q = is-found (rest_targets f (own p)) n (contains-at (rest_targets f (own p)) i n at) in end-some f p n q.place (current f v) q.found none)
        by ends (Some b) some = ends b some

    -- after the call of the rest from a node on, of the own region
    called : (k w : ℕ) → LawsBelow k → (p : Part) → IsPart f p → (t : State) (n : ℕ) (v : VariableMap) (e : Environment) (j o m : ℕ) → j < k → v.words ≡ e.words → v.mems ≡ e.mems → Spent k w j m 0
        → (r : Option ℕ) → own p ≡ r → (c : Ending) → Gives (Rest r n) j m t c
        → Gives p k w t (and_then c (λ i x m. arm_ending call (f.number p) (rest_arms f p r v) i (with_arguments e x) o m))
    called k w laws p there t n v e j o m lt ew em spent None q c (inl r) =
        let x = with_address (pc t) (args t) in
        let lens = long t in
        inl (record {
          region = q;
          returns = r.returns;
          good = r.good;
          left = r.left;
          few = omega (arith, spent, r.few);
          ends =
              (λ z. and_then (r.ends z) (λ i y m. arm_ending call (f.number p) (rest_arms f p None v) i (with_arguments e y) o m))
              ∙ (λ z. arm_ending call (f.number p) (cond (r.returns z) (Arm (Leave 0 (with_pc (Var v.words) (current f (fresh f (suc v.words) v.mems)))) NoArm) NoArm) 0 (with_arguments e x) o r.left)
              ∙ (λ z. Exited 0 (returned-values f rise e v.words v.mems x ew em (ap suc lens.0) lens.1 z) r.left);
        })
    called k w laws p there t n v e j o m lt ew em spent None q c (inr l) = let h : slice_get [] l.exit ≡ Some l.node = l.there in absurd (cc)
    called k w laws p there t n v e j o m lt ew em spent (Some i) q c (inl r) = let h : Some i ≡ None = r.region in absurd (cc)
    called k w laws p there t n v e j o m lt ew em spent (Some i) q c (inr l) =
        let lens = long l.state in
        let y = fresh f v.words v.mems in
        let d = with_arguments e (args l.state) in
        let arm = arm-over call (f.number p) (λ x. last_at f p x y) (rest_targets f (Some i)) l.exit l.node d o l.left l.there in
        along p k w t (body_ending call (f.number p) (last_at f p l.node y) d arm.ordinal l.left) _
        ((λ z. and_then (l.ends z) (λ a x m. arm_ending call (f.number p) (rest_arms f p (Some i) v) a (with_arguments e x) o m)) ∙ arm.ends)
        (last-law k w laws p there t l.node y d l.state l.steps arm.ordinal l.left l.exit (omega (arith, l.fewer)) l.good l.place
        (stands-fresh f rise e v.words v.mems (args l.state) ew em lens.0 lens.1) l.comes l.enough (omega (arith, spent, l.few))
        (subst (λ r. slice_get (rest_targets f r) l.exit ≡ Some l.node) (sym q) l.there))

    -- at a cut
    cut-law : (k w : ℕ) → LawsBelow k → (p : Part) → IsPart f p → (t : State) (n : ℕ) (v : VariableMap) (e : Environment) (u : State) (j o m : ℕ) → j < k → n < f.nodes → f.is_cut n ≡ true
        → IsPlaced f (own p) n → Good u → pc u ≡ f.addr n → Stands f v e (args u) → Runs j u t → 2 * j ≤ m → Spent k w j m 0 → Gives p k w t (body_ending call (f.number p) (end_at f p n v) e o m)
    cut-law k w laws p there t n v e u j o m lt node cut placed good place is comes enough spent =
        by (λ b h. end-law k w laws p there t n (current f v) e u j o m lt good place is.same comes enough spent b h)
        (λ r. called k w laws p there t n v e j o m lt is.words is.mems spent (f.around n) (sym r) (call (f.number (rest_from f n)) (arguments_of (current f v) e) m)
        (along (rest_from f n) j m t (call (f.number (rest_from f n)) (args u) m) _ (λ z. call (f.number (rest_from f n)) (is.same z) m)
        ((laws j lt).0 (rest_from f n) (node, cut, refl) u t m good place comes (omega (arith, enough)))))
        (end_of f p n (current f v)) refl
      where
        inside : IsPlaced f (own p) n → end_of f p n (current f v) ≡ None → f.around n ≡ own p
        inside (inl q) none = absurd (end-some f p n q.0 (current f v) q.1 none)
        inside (inr q) none = q

        by : ((b : BodyTree) → end_of f p n (current f v) ≡ Some b → Gives p k w t (body_ending call (f.number p) b e o m))
            → (f.around n ≡ own p → Gives p k w t (body_ending call (f.number p) (Call (f.number (rest_from f n)) (current f v) (rest_arms f p (f.around n) v)) e o m))
            → (c : Option BodyTree) → end_of f p n (current f v) ≡ c
            → Gives p k w t (body_ending call (f.number p) (unwrap_or c (Call (f.number (rest_from f n)) (current f v) (rest_arms f p (f.around n) v))) e o m)
        by ends calls None none = calls (inside placed none)
        by ends calls (Some b) some = ends b some

    -- ---- along a body

    -- the body from a node on, where fewer than b instructions stand before the next cut
    abbrev FromNode : ℕ → ℕ → ℕ → Part → State → Type 0
    FromNode b k w p t =
        (n : ℕ) (v : VariableMap) (e : Environment) (s : State) (j o m : ℕ) → graph.rank n < b → n < f.nodes → graph.inner n ≡ own p → j ≤ k → Good s → pc s ≡ f.addr n → Stands f v e (args s) → Runs j s t
        → 2 * j ≤ m + 2 → Spent k w j m b → Gives p k w t (body_ending call (f.number p) (body_at b f p n v) e o m)

    -- after an edge
    arrives : (b k w : ℕ) → LawsBelow k → (p : Part) → IsPart f p → (t : State) → FromNode b k w p t → (from : ℕ) (x : VariableMap) → from < f.nodes → graph.inner from ≡ own p → graph.rank from < suc b
        → (n : ℕ) → Leads (action f from x) n → (v : VariableMap) (e : Environment) (u : State) (j o m : ℕ) → j < k → Good u → pc u ≡ f.addr n → Stands f v e (args u) → Runs j u t → 2 * j ≤ m → Spent k w j m b
        → Gives p k w t (body_ending call (f.number p) (cond (f.is_cut n) (end_at f p n v) (body_at b f p n v)) e o m)
    arrives b k w laws p there t on from x node region near n leads v e u j o m lt good place is comes enough spent = by (f.is_cut n) refl
      where
        by : (c : Bool) → f.is_cut n ≡ c → Gives p k w t (body_ending call (f.number p) (cond c (end_at f p n v) (body_at b f p n v)) e o m)
        by true h =
            let q = graph.placed from n node (leads-calling (f.callee from) (f.instr from) (f.addr from) (size f from) (f.uses from) (f.to from) x n (λ c e. graph.calls from c node e) leads) h in
            cut-law k w laws p there t n v e u j o m lt q.0 h (subst (λ r. IsPlaced f r n) region q.1) good place is comes enough (omega (arith, spent))
        by false h =
            let q = graph.stays from n node (leads-calling (f.callee from) (f.instr from) (f.addr from) (size f from) (f.uses from) (f.to from) x n (λ c e. graph.calls from c node e) leads) h in
            on n v e u j o m (omega (arith, q.2)) q.0 (q.1 ∙ region) (omega arith) good place is comes (omega arith) spent

    -- one instruction
    acts : (b k w : ℕ) → LawsBelow k → (p : Part) → IsPart f p → (t : State) → FromNode b k w p t → (n : ℕ) (v : VariableMap) (e : Environment) (s u : State) (j o m : ℕ) → graph.rank n < suc b → n < f.nodes
        → graph.inner n ≡ own p → suc j ≤ k → (Returns s × ((j ≡ 0) × (u ≡ t))) ⊎ ((Calls s × Comes State pc back Returns Calls Steps t (back s ∷ []) j u) ⊎ ((Returns s → ⊥) × (Calls s → ⊥) × Runs j u t)) → 2 * suc j ≤ m + 2 → Spent k w j m b → Stands f v e (args s) → Good u
        → (y : Action) → action f n v ≡ y → IsDone f State pc args back Returns Calls Good Steps y v e s u → Gives p k w t (body_ending call (f.number p) (action_body f p y v (body_at b f p)) e o m)
    acts b k w laws p there t on n v e s u j o m near node region le (inl r) enough spent is good (Straight ss x to) has step = absurd (step.3 r.0)
    acts b k w laws p there t on n v e s u j o m near node region le (inr (inl r)) enough spent is good (Straight ss x to) has step = absurd (step.4 r.0)
    acts b k w laws p there t on n v e s u j o m near node region le (inr (inr r)) enough spent is good (Straight ss x to) has step =
        along p k w t _ _ (ending-steps call (f.number p) (cond (f.is_cut to) (end_at f p to x) (body_at b f p to x)) ss e o m step.0)
        (arrives b k w laws p there t on n v node region near to (subst (λ y. Leads y to) (sym has) refl) x (after_steps ss e) u j (needs_passed ss o) m (omega arith) good step.2 step.1 r.2 (omega arith) spent)
    acts b k w laws p there t on n v e s u j o m near node region le (inl r) enough spent is good (Fork c x y) has step = absurd (step.2 r.0)
    acts b k w laws p there t on n v e s u j o m near node region le (inr (inl r)) enough spent is good (Fork c x y) has step = absurd (step.3 r.0)
    acts b k w laws p there t on n v e s u j o m near node region le (inr (inr r)) enough spent is good (Fork c x y) has step = by (cond_holds c e) step.1
      where
        now : Stands f v e (args u)
        now = subst (λ z. Stands f v e z) (sym step.0) is

        by : (z : Bool) → pc u ≡ f.addr (cond z x y) → Gives p k w t (cond z (body_ending call (f.number p) (cond (f.is_cut x) (end_at f p x v) (body_at b f p x v)) e o m)
            (body_ending call (f.number p) (cond (f.is_cut y) (end_at f p y v) (body_at b f p y v)) e (o + needs (cond (f.is_cut x) (end_at f p x v) (body_at b f p x v))) m))
        by true h = arrives b k w laws p there t on n v node region near x (subst (λ z. Leads z x) (sym has) (inl refl)) v e u j o m (omega arith) good h now r.2 (omega arith) spent
        by false h =
            arrives b k w laws p there t on n v node region near y (subst (λ z. Leads z y) (sym has) (inr refl)) v e u j (o + needs (cond (f.is_cut x) (end_at f p x v) (body_at b f p x v))) m
            (omega arith) good h now r.2 (omega arith) spent
    acts b k w laws p there t on n v e s u j o m near node region le (inr (inr r)) enough spent is good (Return ss a) has step = absurd (r.0 step.3)
    acts b k w laws p there t on n v e s u j o m near node region le (inr (inl r)) enough spent is good (Return ss a) has step = absurd (step.4 r.0)
    acts b k w laws p there t on n v e s u j o m near node region le (inl r) enough spent is good (Return ss a) has step =
        let q = graph.returned n node (return-calling (f.callee n) (f.instr n) (f.addr n) (size f n) (f.uses n) (f.to n) v ss a has) in
        let results : arguments_of (with_pc a (current f v)) (after_steps ss e) ≡ with_address (pc u) (args u) = (λ z. record { words = step.1 z ∷ (step.2 z).words; mems = (step.2 z).mems }) in
        inl (record {
          region = sym region ∙ q.0;
          returns = q.1;
          good = subst Good r.1.1 good;
          left = m;
          few = omega (arith, spent, r.1.0);
          ends =
              ending-steps call (f.number p) (Leave 0 (with_pc a (current f v))) ss e o m step.0
              ∙ (λ z. Exited 0 (results z) m) ∙ (λ z. Exited 0 (with_address (pc (r.1.1 z)) (args (r.1.1 z))) m);
        })
    acts b k w laws p there t on n v e s u j o m near node region le (inl r) enough spent is good (Enter ss x c at to) has step = absurd (step.6 r.0)
    acts b k w laws p there t on n v e s u j o m near node region le (inr (inr r)) enough spent is good (Enter ss x c at to) has step = absurd (r.1 step.5)
    acts b k w laws p there t on n v e s u j o m near node region le (inr (inl r)) enough spent is good (Enter ss x c at to) has step =
        let parted = split State pc back Returns Calls Steps t (back s) [] j [] u r.1 in
        let came = parted.state in
        let i = parted.inner in
        let l = parted.outer in
        let enough_in : 2 * i + (m - 2 * i) ≡ m = omega (arith, parted.sum) in
        let callee = (laws i (omega (arith, parted.sum))).1 n c node (calls-row (f.callee n) (f.instr n) (f.addr n) (size f n) (f.uses n) (f.to n) v ss x c at to has) u came (2 * i) good step.2 parted.within (omega arith) in
        let left = callee.left + (m - 2 * i) in
        let d = after_steps ss e in
        let y = with_address (pc came) (args came) in
        let ends : call c.def (arguments_of (current f x) d) m ≡ Exited 0 y left =
        (λ z. call c.def (step.1.same z) (sym enough_in z)) ∙ more c.def (args u) (2 * i) (m - 2 * i) 0 y callee.left callee.ends in
        let lens = long came in
        let stands = stands-returned f rise d x.words x.mems (pc came) (args came) step.1.words step.1.mems lens.0 lens.1 in
        let q : VariableMap = fresh f (suc x.words) x.mems in
        let back_there : pc came ≡ at = parted.place ∙ step.3 in
        let rest = cond (f.is_cut to) (end_at f p to q) (body_at b f p to q) in
        let ok : eqb (word_value (Var x.words) (with_arguments d y)) at ≡ true = eq-eqb _ at (stands.1 ∙ back_there) in
        along p k w t (body_ending call (f.number p) rest (with_arguments d y) (needs_passed ss o + 1) left) _
        (ending-steps call (f.number p) (Call c.def (current f x) (return_arm f c.returns at x (λ q. cond (f.is_cut to) (end_at f p to q) (body_at b f p to q)))) ss e o m step.0
        ∙ (λ z. and_then (ends z) (λ i y m. arm_ending call (f.number p) (return_arm f c.returns at x (λ q. cond (f.is_cut to) (end_at f p to q) (body_at b f p to q))) i (with_arguments d y) (needs_passed ss o) m))
        ∙ (λ z. arm_ending call (f.number p) (return_arm f (callee.returns z) at x (λ q. cond (f.is_cut to) (end_at f p to q) (body_at b f p to q))) 0 (with_arguments d y) (needs_passed ss o) left)
        ∙ (λ z. cond (ok z) (body_ending call (f.number p) rest (with_arguments d y) (needs_passed ss o + 1) left) (NeedFalse (f.number p) (needs_passed ss o))))
        (arrives b k w laws p there t on n v node region near to (subst (λ y. Leads y to) (sym has) refl) q (with_arguments d y) came l (needs_passed ss o + 1) left (omega (arith, parted.sum)) callee.good (back_there ∙ step.4) stands.0 parted.behind (omega (arith, parted.sum)) (omega (arith, parted.sum, spent, callee.few)))

    body-law : (b k w : ℕ) → LawsBelow k → (p : Part) → IsPart f p → (t : State) → FromNode b k w p t
    body-law zero k w laws p there t n v e s j o m near node region le good place is comes enough spent = absurd (omega arith)
    body-law (suc b) k w laws p there t n v e s zero o m near node region le good place is comes enough spent = absurd comes
    body-law (suc b) k w laws p there t n v e s (suc j) o m near node region le good place is (u, steps, how) enough spent =
        let step = done n v e s u node good place is steps in
        acts b k w laws p there t (body-law b k w laws p there t) n v e s u j o m near node region le how enough (omega (arith, spent)) is step.0 (action f n v) refl step.1

    -- ---- parts

    starts : (s : State) → Stands f (start f) (with_arguments no_variables (args s)) (args s)
    starts s = let lens = long s in stands-start f rise (args s) lens.0 lens.1

    -- a part whose body begins with its first node
    plain-law : (k : ℕ) → LawsBelow k → (p : Part) → IsPart f p → (n : ℕ) → n < f.nodes → graph.inner n ≡ own p → part_body f p ≡ body_at 32 f p n (start f) → (s t : State) (m : ℕ)
        → Good s → pc s ≡ f.addr n → Runs k s t → 2 * k ≤ m + 1 → Gives p k m t (call (f.number p) (args s) m)
    plain-law zero laws p there n node region body s t m good place comes enough = absurd comes
    plain-law (suc k) laws p there n node region body s t zero good place comes enough = absurd (omega arith)
    plain-law (suc k) laws p there n node region body s t (suc m) good place comes enough =
        along p (suc k) (suc m) t _ _ (enter p (args s) m there ∙ (λ z. body_ending call (f.number p) (body z) (with_arguments no_variables (args s)) 0 m))
        (body-law 32 (suc k) (suc m) laws p there t n (start f) (with_arguments no_variables (args s)) s (suc k) 0 m (graph.near n node) node region (omega arith) good place (starts s) comes (omega arith) (omega arith))

    -- after the loop of the rest of a head
    looped : (k m : ℕ) → LawsBelow k → (r : Option ℕ) (n l : ℕ) → IsPart f (Rest r n) → l < f.loops → f.head l ≡ n → (t : State) (e : Environment) → (start f).words ≡ e.words
        → (start f).mems ≡ e.mems → (c : Ending) → Gives (Loop l) k m t c
        → Gives (Rest r n) k (suc m) t (and_then c (λ i x m. arm_ending call (f.number (Rest r n)) (arms_over (f.exits l) (λ x. end_at f (Rest r n) x (fresh f (start f).words (start f).mems))) i (with_arguments e x) 0 m))
    looped k m laws r n l there is_loop at t e ew em c (inl q) = let h : Some l ≡ None = q.region in absurd (cc)
    looped k m laws r n l there is_loop at t e ew em c (inr q) =
        let lens = long q.state in
        let exit = graph.loop_exit l q.exit q.node is_loop q.there in
        let v : VariableMap = fresh f (start f).words (start f).mems in
        let d = with_arguments e (args q.state) in
        let placed : IsPlaced f r q.node = subst (λ z. IsPlaced f z q.node) (ap f.around at ∙ there.2) exit.2 in
        let arm = arm-over call (f.number (Rest r n)) (λ x. end_at f (Rest r n) x v) (f.exits l) q.exit q.node d 0 q.left q.there in
        along (Rest r n) k (suc m) t (body_ending call (f.number (Rest r n)) (end_at f (Rest r n) q.node v) d arm.ordinal q.left) _
        ((λ z. and_then (q.ends z) (λ i x m. arm_ending call (f.number (Rest r n)) (arms_over (f.exits l) (λ x. end_at f (Rest r n) x v)) i (with_arguments e x) 0 m)) ∙ arm.ends)
        (cut-law k (suc m) laws (Rest r n) there t q.node v d q.state q.steps arm.ordinal q.left q.fewer exit.0 exit.1 placed q.good q.place
        (stands-fresh f rise e (start f).words (start f).mems (args q.state) ew em lens.0 lens.1) q.comes q.enough (omega (arith, q.few)))

    loop-law : (k : ℕ) → LawsBelow k → (l : ℕ) → l < f.loops → Law k (Loop l)
    loop-law k laws l is_loop s t m good place comes enough =
        let h = graph.loop_head l is_loop in
        plain-law k laws (Loop l) is_loop (f.head l) h.0 h.1 refl s t m good place comes enough

    rest-law : (k : ℕ) → LawsBelow k → (r : Option ℕ) (n : ℕ) → IsPart f (Rest r n) → (s t : State) (m : ℕ) → Good s → pc s ≡ f.addr n → Runs k s t
        → (o : Option ℕ) → f.loop_of n ≡ o → 2 * k ≤ m + slack_at o → Gives (Rest r n) k m t (call (f.number (Rest r n)) (args s) m)
    rest-law k laws r n there s t m good place comes None has enough =
        plain-law k laws (Rest r n) there n there.0 (graph.cut_inner n there.0 there.1 has ∙ there.2) (λ z. rest_body 32 f (Rest r n) n (has z)) s t m good place comes enough
    rest-law zero laws r n there s t m good place comes (Some l) has enough = absurd comes
    rest-law (suc k) laws r n there s t zero good place comes (Some l) has enough = absurd (omega arith)
    rest-law (suc k) laws r n there s t (suc m) good place comes (Some l) has enough =
        let h = graph.head_is n l there.0 has in
        let e : Environment = with_arguments no_variables (args s) in
        let is = starts s in
        along (Rest r n) (suc k) (suc m) t _ _ (enter (Rest r n) (args s) m there ∙ (λ z. body_ending call (f.number (Rest r n)) (rest_body 32 f (Rest r n) n (has z)) e 0 m))
        (looped (suc k) m laws r n l there h.0 h.1 t e is.words is.mems (call (f.number (Loop l)) (arguments_of (current f (start f)) e) m)
        (along (Loop l) (suc k) m t (call (f.number (Loop l)) (args s) m) _ (λ z. call (f.number (Loop l)) (is.same z) m)
        (loop-law (suc k) laws l h.0 s t m good (place ∙ ap f.addr (sym h.1)) comes (omega (arith, enough)))))

    one-law : (k : ℕ) → LawsBelow k → (p : Part) → IsPart f p → Law k p
    one-law k laws (Loop l) there = loop-law k laws l there
    one-law k laws (Rest r n) there = λ s t m good place comes enough. rest-law k laws r n there s t m good place comes (f.loop_of n) refl enough

    -- the laws of all parts for one number of steps, from those of calls, and from all laws for fewer steps
    pub part-law : (k : ℕ) → LawsBelow k → (p : Part) → IsPart f p → Law k p
    part-law k laws p there = one-law k laws p there

    -- the rest of a whole function has no other exit than the return
    pub whole-law : (n k : ℕ) (s t : State) (m : ℕ) → LawsBelow k → IsPart f (Rest None n) → Good s → pc s ≡ f.addr n → Runs k s t → 2 * k ≤ m
        → LeavesIn f State pc args back Returns Calls Good Steps (Rest None n) k m t (call (f.number (Rest None n)) (args s) m)
    whole-law n k s t m laws there good place comes enough = by (part-law k laws (Rest None n) there s t m good place comes (omega arith))
      where
        by : Gives (Rest None n) k m t (call (f.number (Rest None n)) (args s) m) → LeavesIn f State pc args back Returns Calls Good Steps (Rest None n) k m t (call (f.number (Rest None n)) (args s) m)
        by (inl r) = r
        by (inr l) = let h : slice_get [] l.exit ≡ Some l.node = l.there in absurd (cc)
