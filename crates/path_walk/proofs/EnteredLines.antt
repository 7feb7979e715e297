-- The lines of a call of a function lead from its entry to where the definition goes on after its return.
use Rattle.std.proofs.Common.{◌≡◌, ◌⊎◌, ℕ, suc, ◌+◌, ◌-◌, ◌<◌, List, [], ◌∷◌, ◌++◌, length, Bool, true, false, cond, refl, sym, ap, ◌∙◌, subst, Option, Some, inl, inr, append_assoc, append-nil, map, Contains, arith}
use Rattle.std.specs.Prelude.{slice_get}
use Rattle.std.proofs.lemmas.List.Elements.{Contains-append_cases, Contains-append_left, Contains-append_right}
use Rattle.rv_words.specs.declared.range.Range.{Range}
use Rattle.rv_words.specs.declared.comparison.Cmp.TheVariants.{Eq}
use Rattle.word_terms.specs.Tree.{WordTree, Compare, Const, Var}
use Rattle.tailrec_lang.specs.declared.group.Exit.{Exit}
use Rattle.tailrec_lang.specs.declared.group.Exit.TheVariants.{Ret}
use Rattle.tailrec_lang.specs.Tree.{StepTree, Need, BodyTree, with_steps, Do, Call, NoArm, Arm, GroupTree}
use Rattle.tailrec_lang.specs.Tree as tree
use Rattle.tailrec_lang.specs.WellFormed.{exit_words}
use Rattle.tailrec_lang.proofs.Definitions.{exits_there}
use Rattle.triple_kernel.specs.Tree.{FactTree, So, Gives, TripleTree}
use Rattle.triple_kernel.specs.declared.form.Form.TheVariants.{Next}
use Rattle.rv_words.specs.Bytes.{away}
use Rattle.instr_axioms.specs.Terms.{conditions, pc_after}
use Rattle.loop_rule.specs.Tree.{LeafTree}
use Rattle.loop_rule.specs.Leaves.{arm_leaves, body_leaves, variables_after}
use Rattle.group_text.specs.declared.version.Version.{Version as Known}
use Rattle.proof_text.specs.Line.{Further}
use Rattle.verdicts.specs.Instance.{InstanceBy}
use Rattle.code_parts.specs.declared.part.Part.{Part}
use Rattle.code_parts.specs.declared.callee.Callee.{Callee}
use Rattle.code_parts.specs.Bodies.{Flow, VariableMap, size, action_body, action_calling, body_at, current, fresh, names, needs, part_def, place_after, return_arm, start, writes}
use Rattle.code_parts.specs.inner.Ends.{body_on}
use Rattle.code_parts.proofs.Counts.{all-mems, all-words}
use Rattle.verdicts.specs.Further.{further_of}
use Rattle.path_walk.specs.inner.Acts.{Entered, Exited, GoesOn, LeftBy, exit_standing, new_facts, results_at, steered_standing, steered}
use Rattle.path_walk.specs.inner.Writers.{FromAs, IsReady, Leads, Led, WriterTree, Context, CitedTree, StandsAs, Steps, Stood, front, group_in, past, standing_at}
use Rattle.path_walk.proofs.CalledDefs.{below_steps, closed_more, closed_steps}
use Rattle.path_walk.proofs.CallLemmas.{exit_stood, left-version, left_made, results_are}
use Rattle.path_walk.proofs.Facts.{all-facts, facts_after, leaves-steps}
use Rattle.path_walk.proofs.Joins.{some_and}
use Rattle.path_walk.proofs.LeafCitations.{led_after, led_none}
use Rattle.path_walk.proofs.WriterLemmas.{grown_add, grown_join, held_add}

-- one more fact on both sides
among-more : (fs gs : List FactTree) (y : FactTree) → ((x : FactTree) → Contains fs x → Contains gs x) → (x : FactTree) → Contains (fs ++ y ∷ []) x → Contains (gs ++ y ∷ []) x
among-more fs gs y all x c = by (Contains-append_cases fs (y ∷ []) x c)
  where
    by : Contains fs x ⊎ Contains (y ∷ []) x → Contains (gs ++ y ∷ []) x
    by (inl d) = Contains-append_left gs (y ∷ []) x (all x d)
    by (inr d) = Contains-append_right gs (y ∷ []) x d

-- a way whose last program counter is a term goes on at an address, where the two are equal
pub steer_stood : (f : Flow) (ranges : List Range) (s : Context f ranges) (entry n : ℕ) (c : Callee) → n < f.nodes → f.callee n ≡ Some c → (pc : WordTree) (back : ℕ) (u : VariableMap) (l : WriterTree) (path : List FactTree) (t : CitedTree) → IsReady f ranges s l →
    StandsAs f (front f entry) ranges (past f ranges s l) pc u path t →
    Stood f (front f entry) ranges s l (steered f entry pc back u t l) (Const back) u (path ++ So (Compare Eq pc (Const back)) ∷ []) (steered_standing pc back t l)
steer_stood f ranges s entry n c node calls pc back u l path t ready here =
    let first : TripleTree = record { facts = t.facts; pre = standing_at f (Const entry) (start f); code = t.code; post = standing_at f pc u } in
    let check : FactTree = So (Compare Eq pc (Const back)) in
    let stated : TripleTree = record { facts = t.facts ++ check ∷ []; pre = standing_at f (Const entry) (start f); code = t.code; post = standing_at f (Const back) u } in
    let by_rule : further_of s.version first stated = subst (λ (v : Known). further_of v first stated) (sym (s.fits.calls n c node calls)) (record {
      pre = refl;
      code = refl;
      facts = record { each = λ x d. Contains-append_left t.facts (check ∷ []) x d };
      post_pc = Contains-append_right t.facts (check ∷ []) check (0, omega arith, refl);
      post_regs = refl;
      post_mems = refl;
    }) in
    let right : InstanceBy (further_of s.version) (group_in f ranges s) (past f ranges s l) (Further t.number stated) =
    some_and ((past f ranges s l).theorem t.number) first (λ p. further_of s.version p stated) here.held by_rule in
    record {
      grown = grown_add f ranges s (Further t.number stated) stated (λ h. refl) l ready right;
      cited = refl;
      stands = record {
        held = held_add f ranges s (Further t.number stated) stated (λ h. refl) l ready;
        facts = record { each = among-more t.facts path check here.facts.each };
        code = here.code;
      };
    }

module _ (f : Flow) (p : Part) (ranges : List Range) where
  -- what holds after the function's return
  abbrev back_at : VariableMap → VariableMap
  back_at u = fresh f (suc u.words) u.mems

  -- a function that returns: its exit, then the return to the address behind the call, and then the way from there on
  pub returned_leads : (n : ℕ) (c : Callee) → n < f.nodes → f.callee n ≡ Some c → c.returns ≡ true → (back : ℕ) (u : VariableMap) (from : Option CitedTree) (t : CitedTree) (old mid new : WriterTree) (body : BodyTree) →
      LeftBy f (part_def f p).entry ranges c.entry c.def 0 Ret u from old mid t →
      Leads f p ranges (steered f (part_def f p).entry (Var u.words) back (back_at u) t mid) new (Const back) (back_at u) (Some (steered_standing (Var u.words) back t mid)) body →
      Leads f p ranges old new (Const c.entry) u from (Call c.def (current f u) (Arm (Do (Need (Compare Eq (Var u.words) (Const back))) body) NoArm))
  returned_leads n c node calls returns back u from t old mid new body on rest = record {
    version = rest.version ∙ left-version f (part_def f p).entry ranges c.entry c.def 0 Ret u from old mid t on;
    each = λ s path ready here closed below.
        let g : GroupTree = group_in f ranges s in
        let entry : ℕ = (part_def f p).entry in
        let has = s.callees n c node calls below.0 in
        let exits : has.def.exits ≡ Ret ∷ [] = has.exits ∙ (λ i. cond (returns i) (Ret ∷ []) []) in
        let stood = exit_stood f ranges s c.def 0 has.def Ret has.is (ap (λ (xs : List Exit). slice_get xs 0) exits) u old ready closed.0 entry mid path from t
        (subst (λ (a : ℕ). FromAs f (front f entry) ranges (past f ranges s old) (Const a) u path from) (sym has.entry) here)
        (subst (λ (a : ℕ). LeftBy f entry ranges a c.def 0 Ret u from old mid t) (sym has.entry) on) in
        let ways : List FactTree = path ++ Gives c.def 0 (current f u) (results_at f Ret u.words u.mems) ∷ [] in
        let turned = steer_stood f ranges s entry n c node calls (Var u.words) back (back_at u) mid ways t stood.grown.ready stood.stands in
        let last : WriterTree = steered f entry (Var u.words) back (back_at u) t mid in
        let grown = grown_join f ranges s old mid last stood.grown turned.grown in
        let led = rest.each s (ways ++ So (Compare Eq (Var u.words) (Const back)) ∷ []) turned.grown.ready turned.stands (closed_more (past f ranges s old) (past f ranges s last) body grown.keeps closed.1.0) below.1.0 in
        let whole = led_after f p ranges s old last new (body_leaves g (part_def f p) body (back_at u).words (back_at u).mems (ways ++ So (Compare Eq (Var u.words) (Const back)) ∷ [])) grown (turned.cited ∙ stood.cited) led in
        let res : results_at f Ret u.words u.mems ≡ variables_after u.words u.mems (exit_words g Ret) f.mems = sym (results_are f g Ret u.words u.mems refl s.code.registers) in
        let words : suc u.words + length f.regs ≡ u.words + (length f.regs + 1) = omega arith in
        let leaves : body_leaves g (part_def f p) body (back_at u).words (back_at u).mems (ways ++ So (Compare Eq (Var u.words) (Const back)) ∷ [])
        ≡ arm_leaves g (part_def f p) c.def (Ret ∷ []) 0 (current f u) (Arm (Do (Need (Compare Eq (Var u.words) (Const back))) body) NoArm) u.words u.mems path =
        (λ i. body_leaves g (part_def f p) body (words i) (back_at u).mems ((path ++ Gives c.def 0 (current f u) (res i) ∷ []) ++ So (Compare Eq (Var u.words) (Const back)) ∷ []))
        ∙ sym (append-nil (body_leaves g (part_def f p) body (u.words + (length f.regs + 1)) (back_at u).mems
        ((path ++ Gives c.def 0 (current f u) (variables_after u.words u.mems (exit_words g Ret) f.mems) ∷ []) ++ So (Compare Eq (Var u.words) (Const back)) ∷ []))) in
        let their : tree.exits_at g c.def ≡ Ret ∷ [] = exits_there g c.def has.def has.is ∙ exits in
        subst (λ (xs : List Exit). Led f p ranges s old new (arm_leaves g (part_def f p) c.def xs 0 (current f u) (Arm (Do (Need (Compare Eq (Var u.words) (Const back))) body) NoArm) u.words u.mems path)) (sym their)
        (subst (λ ls. Led f p ranges s old new ls) leaves whole);
  }

  -- a function that never returns: nothing follows
  pub unreturned_leads : (c : Callee) (u : VariableMap) (from : Option CitedTree) (old : WriterTree) → Leads f p ranges old old (Const c.entry) u from (Call c.def (current f u) NoArm)
  unreturned_leads c u from old = record { version = refl; each = λ s path ready here closed below. led_none f p ranges s old ready }

  -- the body of a call of a function
  pub entered_leads : (n : ℕ) (c : Callee) → n < f.nodes → f.callee n ≡ Some c → (back : ℕ) (u : VariableMap) (from : Option CitedTree) (t : CitedTree) (old mid new : WriterTree) (go : VariableMap → BodyTree) →
      (c.returns ≡ true → LeftBy f (part_def f p).entry ranges c.entry c.def 0 Ret u from old mid t
      × Leads f p ranges (steered f (part_def f p).entry (Var u.words) back (back_at u) t mid) new (Const back) (back_at u) (Some (steered_standing (Var u.words) back t mid)) (go (back_at u))) →
      (c.returns ≡ false → new ≡ old) → Leads f p ranges old new (Const c.entry) u from (Call c.def (current f u) (return_arm f c.returns back u go))
  entered_leads n c node calls back u from t old mid new go one none = by c.returns refl
    where
      arm : Bool → tree.ArmTrees
      arm b = cond b (Arm (Do (Need (Compare Eq (Var u.words) (Const back))) (go (fresh f (suc u.words) u.mems))) NoArm) NoArm

      by : (b : Bool) → c.returns ≡ b → Leads f p ranges old new (Const c.entry) u from (Call c.def (current f u) (arm c.returns))
      by true is = let way = one is in subst (λ b. Leads f p ranges old new (Const c.entry) u from (Call c.def (current f u) (arm b))) (sym is)
          (returned_leads n c node calls is back u from t old mid new (go (back_at u)) way.0 way.1)
      by false is = subst (λ b. Leads f p ranges old new (Const c.entry) u from (Call c.def (current f u) (arm b))) (sym is)
          (subst (λ l. Leads f p ranges old l (Const c.entry) u from (Call c.def (current f u) NoArm)) (sym (none is)) (unreturned_leads c u from old))

  -- the body from a node with a call on: the lines of its instruction, those of the call, and the way from the next node on
  pub entering_leads : (n room : ℕ) (c : Callee) (v : VariableMap) (from : Option CitedTree) (t t1 : CitedTree) (old mid last new : WriterTree) → n < f.nodes → f.callee n ≡ Some c →
      Steps f (front f (part_def f p).entry) ranges old mid (Const (f.addr n)) v from (pc_after (f.instr n) Next (f.addr n) (size f n) (names v (f.uses n))) (place_after (f.instr n) (f.uses n) v)
      (map So (conditions (f.instr n) Next (names v (f.uses n))) ++ new_facts (f.instr n) (f.addr n) (size f n) (f.uses n) v) t →
      (c.returns ≡ true → LeftBy f (part_def f p).entry ranges c.entry c.def 0 Ret (place_after (f.instr n) (f.uses n) v) (Some t) mid last t1
      × Leads f p ranges (steered f (part_def f p).entry (Var (place_after (f.instr n) (f.uses n) v).words) (f.addr (f.to n Next)) (back_at (place_after (f.instr n) (f.uses n) v)) t1 last) new
      (Const (f.addr (f.to n Next))) (back_at (place_after (f.instr n) (f.uses n) v)) (Some (steered_standing (Var (place_after (f.instr n) (f.uses n) v).words) (f.addr (f.to n Next)) t1 last))
      (body_on room f p (f.to n Next) (back_at (place_after (f.instr n) (f.uses n) v)))) →
      (c.returns ≡ false → new ≡ mid) → Leads f p ranges old new (Const (f.addr n)) v from (body_at (suc room) f p n v)
  entering_leads n room c v from t t1 old mid last new node calls step one none =
      subst (λ (o : Option Callee). Leads f p ranges old new (Const (f.addr n)) v from (action_body f p (action_calling o (f.instr n) (f.addr n) (size f n) (f.uses n) (f.to n) v) v (body_at room f p))) (sym calls) (record {
        version = rest.version ∙ step.version;
        each = λ s path ready here closed below.
            let stood = step.each s path ready here in
            let at = s.code.each n node in
            let is = at.calls c calls in
            let back : f.addr (f.to n Next) ≡ away (f.addr n) (size f n) = is.back in
            let pc : pc_after (f.instr n) Next (f.addr n) (size f n) (names v (f.uses n)) ≡ Const c.entry = (λ j. pc_after (is.instr j) Next (f.addr n) (size f n) (names v (f.uses n))) ∙ ap Const (sym is.entry) in
            let facts : path ++ (map So (conditions (f.instr n) Next (names v (f.uses n))) ++ new_facts (f.instr n) (f.addr n) (size f n) (f.uses n) v) ≡ facts_after ss v.words v.mems path =
            sym (append_assoc path (map So (conditions (f.instr n) Next (names v (f.uses n)))) (new_facts (f.instr n) (f.addr n) (size f n) (f.uses n) v)) ∙ sym (all-facts (f.instr n) (f.addr n) (size f n) (f.uses n) v path) in
            let there = subst (λ (k : WordTree). StandsAs f (front f (part_def f p).entry) ranges (past f ranges s mid) k u (path ++ (map So (conditions (f.instr n) Next (names v (f.uses n))) ++ new_facts (f.instr n) (f.addr n) (size f n) (f.uses n) v)) t) pc stood.stands in
            let known = subst (λ (fs : List FactTree). StandsAs f (front f (part_def f p).entry) ranges (past f ranges s mid) (Const c.entry) u fs t) facts there in
            let on = subst (λ (k : ℕ). Leads f p ranges mid new (Const c.entry) u (Some t) (entered k)) back rest in
            let led = on.each s (facts_after ss v.words v.mems path) stood.grown.ready known
            (closed_more (past f ranges s old) (past f ranges s mid) (entered (away (f.addr n) (size f n))) stood.grown.keeps (closed_steps (past f ranges s old) ss (entered (away (f.addr n) (size f n))) closed))
            (below_steps s.bound ss (entered (away (f.addr n) (size f n))) below) in
            let g : GroupTree = group_in f ranges s in
            let leaves : body_leaves g (part_def f p) (with_steps ss (entered (away (f.addr n) (size f n)))) v.words v.mems path ≡ body_leaves g (part_def f p) (entered (away (f.addr n) (size f n))) u.words u.mems (facts_after ss v.words v.mems path) =
            leaves-steps g (part_def f p) ss (entered (away (f.addr n) (size f n))) v.words v.mems path
            ∙ (λ j. body_leaves g (part_def f p) (entered (away (f.addr n) (size f n))) (all-words (f.instr n) (f.addr n) (size f n) (f.uses n) v j) (all-mems (f.instr n) (f.addr n) (size f n) (f.uses n) v j) (facts_after ss v.words v.mems path)) in
            subst (λ (ls : List LeafTree). Led f p ranges s old new ls) (sym leaves)
            (led_after f p ranges s old mid new (body_leaves g (part_def f p) (entered (away (f.addr n) (size f n))) u.words u.mems (facts_after ss v.words v.mems path)) stood.grown stood.cited led);
      })
    where
      u : VariableMap
      u = place_after (f.instr n) (f.uses n) v

      ss : List StepTree
      ss = needs (f.instr n) (f.uses n) v ++ writes (f.instr n) (f.addr n) (size f n) (f.uses n) v

      entered : ℕ → BodyTree
      entered k = Call c.def (current f (place_after (f.instr n) (f.uses n) v)) (return_arm f c.returns k (place_after (f.instr n) (f.uses n) v) (body_on room f p (f.to n Next)))

      rest : Leads f p ranges mid new (Const c.entry) (place_after (f.instr n) (f.uses n) v) (Some t) (entered (f.addr (f.to n Next)))
      rest = entered_leads n c node calls (f.addr (f.to n Next)) (place_after (f.instr n) (f.uses n) v) (Some t) t1 mid last new (body_on room f p (f.to n Next)) one none

  -- .. as its lines are written, where the function returns
  pub entering_returned : (n room : ℕ) (c : Callee) (v : VariableMap) (from : Option CitedTree) (t there : CitedTree) (old mid last new : WriterTree) → n < f.nodes → f.callee n ≡ Some c → c.returns ≡ true →
      Steps f (front f (part_def f p).entry) ranges old mid (Const (f.addr n)) v from (pc_after (f.instr n) Next (f.addr n) (size f n) (names v (f.uses n))) (place_after (f.instr n) (f.uses n) v)
      (map So (conditions (f.instr n) Next (names v (f.uses n))) ++ new_facts (f.instr n) (f.addr n) (size f n) (f.uses n) v) t →
      Entered f (part_def f p).entry ranges c.entry c.def (f.addr (f.to n Next)) (place_after (f.instr n) (f.uses n) v) (Some t) mid last there →
      Leads f p ranges last new (Const (f.addr (f.to n Next))) (back_at (place_after (f.instr n) (f.uses n) v)) (Some there) (body_on room f p (f.to n Next) (back_at (place_after (f.instr n) (f.uses n) v))) →
      Leads f p ranges old new (Const (f.addr n)) v from (body_at (suc room) f p n v)
  entering_returned n room c v from t there old mid last new node calls returns step way rest =
      entering_leads n room c v from t way.last old mid way.mid new node calls step (λ is. (way.on, known)) (λ never. absurd (both returns never))
    where
      to : ℕ
      to = f.to n Next

      w : VariableMap
      w = back_at (place_after (f.instr n) (f.uses n) v)

      both : {b : Bool} → b ≡ true → b ≡ false → ⊥
      both is other = cc

      known : Leads f p ranges (steered f (part_def f p).entry (Var (place_after (f.instr n) (f.uses n) v).words) (f.addr (f.to n Next)) (back_at (place_after (f.instr n) (f.uses n) v)) way.last way.mid) new
          (Const (f.addr (f.to n Next))) (back_at (place_after (f.instr n) (f.uses n) v)) (Some (steered_standing (Var (place_after (f.instr n) (f.uses n) v).words) (f.addr (f.to n Next)) way.last way.mid))
          (body_on room f p (f.to n Next) (back_at (place_after (f.instr n) (f.uses n) v)))
      known = subst (λ (l : WriterTree). Leads f p ranges l new (Const (f.addr to)) w (Some (steered_standing (Var (place_after (f.instr n) (f.uses n) v).words) (f.addr (f.to n Next)) way.last way.mid)) (body_on room f p to w)) way.log
          (subst (λ (x : CitedTree). Leads f p ranges last new (Const (f.addr to)) w (Some x) (body_on room f p to w)) way.theorem rest)

  -- .. where it never returns
  pub entering_unreturned : (n room : ℕ) (c : Callee) (v : VariableMap) (from : Option CitedTree) (t : CitedTree) (old mid : WriterTree) → n < f.nodes → f.callee n ≡ Some c → c.returns ≡ false →
      Steps f (front f (part_def f p).entry) ranges old mid (Const (f.addr n)) v from (pc_after (f.instr n) Next (f.addr n) (size f n) (names v (f.uses n))) (place_after (f.instr n) (f.uses n) v)
      (map So (conditions (f.instr n) Next (names v (f.uses n))) ++ new_facts (f.instr n) (f.addr n) (size f n) (f.uses n) v) t →
      Leads f p ranges old mid (Const (f.addr n)) v from (body_at (suc room) f p n v)
  entering_unreturned n room c v from t old mid node calls never step = entering_leads n room c v from t t old mid mid mid node calls step (λ is. absurd (both is never)) (λ none. refl)
    where
      both : {b : Bool} → b ≡ true → b ≡ false → ⊥
      both is other = cc

  -- .. by the code, in a part's own terms
  pub called_made : (n room : ℕ) (c : Callee) (v next back : VariableMap) (entry to addr : ℕ) (from : Option CitedTree) (t there : CitedTree) (old mid last new : WriterTree) → n < f.nodes → f.callee n ≡ Some c → c.returns ≡ true → 0 < room →
      entry ≡ (part_def f p).entry → to ≡ f.to n Next → addr ≡ f.addr to → next ≡ place_after (f.instr n) (f.uses n) v → back ≡ fresh f (suc next.words) next.mems →
      Steps f (front f entry) ranges old mid (Const (f.addr n)) v from (pc_after (f.instr n) Next (f.addr n) (size f n) (names v (f.uses n))) (place_after (f.instr n) (f.uses n) v)
      (map So (conditions (f.instr n) Next (names v (f.uses n))) ++ new_facts (f.instr n) (f.addr n) (size f n) (f.uses n) v) t →
      Entered f entry ranges c.entry c.def addr next (Some t) mid last there →
      Leads f p ranges last new (Const (f.addr to)) back (Some there) (body_on (room - 1) f p to back) →
      Leads f p ranges old new (Const (f.addr n)) v from (body_at room f p n v)
  called_made n room c v next back entry to addr from t there old mid last new node calls returns some entry_is to_is addr_is next_is back_is step way rest =
      subst (λ (k : ℕ). Leads f p ranges old new (Const (f.addr n)) v from (body_at k f p n v)) whole (entering_returned n (room - 1) c v from t there old mid last new node calls returns
      (subst (λ (e : ℕ). Steps f (front f e) ranges old mid (Const (f.addr n)) v from (pc_after (f.instr n) Next (f.addr n) (size f n) (names v (f.uses n))) (place_after (f.instr n) (f.uses n) v)
      (map So (conditions (f.instr n) Next (names v (f.uses n))) ++ new_facts (f.instr n) (f.addr n) (size f n) (f.uses n) v) t) entry_is step) known on)
    where
      whole : suc (room - 1) ≡ room
      whole = omega (arith, some)

      known : Entered f (part_def f p).entry ranges c.entry c.def (f.addr (f.to n Next)) (place_after (f.instr n) (f.uses n) v) (Some t) mid last there
      known = subst (λ (e : ℕ). Entered f e ranges c.entry c.def (f.addr (f.to n Next)) (place_after (f.instr n) (f.uses n) v) (Some t) mid last there) entry_is
          (subst (λ (k : ℕ). Entered f entry ranges c.entry c.def k (place_after (f.instr n) (f.uses n) v) (Some t) mid last there) (addr_is ∙ ap f.addr to_is)
          (subst (λ (u : VariableMap). Entered f entry ranges c.entry c.def addr u (Some t) mid last there) next_is way))

      on : Leads f p ranges last new (Const (f.addr (f.to n Next))) (back_at (place_after (f.instr n) (f.uses n) v)) (Some there) (body_on (room - 1) f p (f.to n Next) (back_at (place_after (f.instr n) (f.uses n) v)))
      on = subst (λ (w : VariableMap). Leads f p ranges last new (Const (f.addr (f.to n Next))) w (Some there) (body_on (room - 1) f p (f.to n Next) w)) (back_is ∙ (λ i. fresh f (suc (next_is i).words) (next_is i).mems))
          (subst (λ (k : ℕ). Leads f p ranges last new (Const (f.addr k)) back (Some there) (body_on (room - 1) f p k back)) to_is rest)

  pub unreturned_made : (n room : ℕ) (c : Callee) (v : VariableMap) (entry : ℕ) (from : Option CitedTree) (t : CitedTree) (old mid : WriterTree) → n < f.nodes → f.callee n ≡ Some c → c.returns ≡ false → 0 < room → entry ≡ (part_def f p).entry →
      Steps f (front f entry) ranges old mid (Const (f.addr n)) v from (pc_after (f.instr n) Next (f.addr n) (size f n) (names v (f.uses n))) (place_after (f.instr n) (f.uses n) v)
      (map So (conditions (f.instr n) Next (names v (f.uses n))) ++ new_facts (f.instr n) (f.addr n) (size f n) (f.uses n) v) t →
      Leads f p ranges old mid (Const (f.addr n)) v from (body_at room f p n v)
  unreturned_made n room c v entry from t old mid node calls never some entry_is step =
      let whole : suc (room - 1) ≡ room = omega (arith, some) in
      subst (λ (k : ℕ). Leads f p ranges old mid (Const (f.addr n)) v from (body_at k f p n v)) whole (entering_unreturned n (room - 1) c v from t old mid node calls never
      (subst (λ (e : ℕ). Steps f (front f e) ranges old mid (Const (f.addr n)) v from (pc_after (f.instr n) Next (f.addr n) (size f n) (names v (f.uses n))) (place_after (f.instr n) (f.uses n) v)
      (map So (conditions (f.instr n) Next (names v (f.uses n))) ++ new_facts (f.instr n) (f.addr n) (size f n) (f.uses n) v) t) entry_is step))

-- the text stays of its version
pub entered-version : (f : Flow) (entry : ℕ) (ranges : List Range) (called d back : ℕ) (u : VariableMap) (from : Option CitedTree) (old new : WriterTree) (t : CitedTree) → Entered f entry ranges called d back u from old new t → new.version ≡ old.version
entered-version f entry ranges called d back u from old new t way =
    ap (λ (l : WriterTree). l.version) way.log ∙ left-version f entry ranges called d 0 Ret u from old way.mid way.last way.on

-- the lines as they were made
pub entered_made : (f : Flow) (entry : ℕ) (ranges : List Range) (called d back : ℕ) (u w : VariableMap) (from : Option CitedTree) (old left mid new : WriterTree) (j : ℕ) (exit last t : CitedTree) →
    exit ≡ exit_standing f ranges d 0 Ret u j → Exited f ranges called d 0 Ret u old left j → w ≡ fresh f (suc u.words) u.mems → GoesOn f (front f entry) from exit (Var u.words) w left mid last →
    new ≡ steered f entry (Var u.words) back w last mid → t ≡ steered_standing (Var u.words) back last mid → Entered f entry ranges called d back u from old new t
entered_made f entry ranges called d back u w from old left mid new j exit last t exit_is lines w_is on new_is t_is = record {
  mid = mid;
  last = last;
  on = left_made f ranges called d 0 Ret entry u old left mid j from exit last (Var u.words) w exit_is lines refl w_is on;
  log = new_is ∙ (λ i. steered f entry (Var u.words) back (w_is i) last mid);
  theorem = t_is;
}
