-- Lines after which a theorem is cited for each leaf: one way after another.
use Rattle.std.proofs.Common.{◌≡◌, ℕ, suc, ◌+◌, ◌-◌, ◌<◌, List, [], ◌∷◌, ◌++◌, map, length, Bool, true, false, cond, eqb, refl, sym, ap, ◌∙◌, subst, Option, Some, None, eqb-true, inl, inr, append_assoc, append-nil}
use Rattle.std.specs.Prelude.{ℤ, pos, slice_get, option_map, is_some, unwrap_or}
use Rattle.std.specs.List.{AllZip}
use Rattle.rv_words.specs.declared.range.Range.{Range}
use Rattle.rv_words.specs.declared.comparison.Cmp.{Cmp}
use Rattle.rv_decode.specs.declared.instruction.Instr.{Instr}
use Rattle.rv_decode.specs.declared.instruction.Instr.TheVariants as instr
use Rattle.word_terms.specs.Tree.{WordTree, CondTree, Compare, Const, Neg, Var}
use Rattle.tailrec_lang.specs.declared.group.Exit.{Exit}
use Rattle.tailrec_lang.specs.declared.group.Exit.TheVariants.{At, Ret}
use Rattle.tailrec_lang.specs.Tree.{ValuesTree, StepTree, BodyTree, Branch, Call, Again, Leave, ArmTrees, NoArm, Arm, DefTree, GroupTree, with_steps}
use Rattle.tailrec_lang.specs.Tree as tree
use Rattle.tailrec_lang.specs.WellFormed.{exit_words}
use Rattle.tailrec_lang.proofs.Definitions.{exits_there}
use Rattle.triple_kernel.specs.Tree.{FactTree, So, Gives, TripleTree}
use Rattle.triple_kernel.specs.declared.form.Form.{Form}
use Rattle.triple_kernel.specs.declared.form.Form.TheVariants.{Next, Taken}
use Rattle.instr_axioms.specs.Terms.{conditions, pc_after, word_in}
use Rattle.loop_rule.specs.Tree.{LeafTree}
use Rattle.loop_rule.specs.Leaves.{arm_leaves, at_exit, body_leaves, parameters, variables_after, with_values}
use Rattle.loop_rule.specs.Rule.{LeadsTo}
use Rattle.code_parts.specs.declared.part.Part.{Part}
use Rattle.code_parts.specs.declared.part.Part.TheVariants.{Loop, Rest}
use Rattle.code_parts.specs.Bodies.{size, Flow, VariableMap, body_at, current, end_at, end_of, exits_of, first, fresh, index_of, last_at, names, needs, own, part_def, place_after, rest_arms, rest_from, rest_targets, returned, start, targets, with_pc}
use Rattle.tailrec_lang.specs.Registers.{AreRegistersFrom}
use Rattle.code_parts.specs.Graph.{IsPart, IsPlaced, has_edge, is_jump_through}
use Rattle.path_walk.specs.inner.Acts.{new_facts, results_at}
use Rattle.path_walk.specs.inner.Blocks.{Reaches}
use Rattle.path_walk.specs.inner.Near.{IsEnd, IsNear}
use Rattle.code_parts.specs.inner.Ends.{body_on, returned_body, returning}
use Rattle.code_parts.specs.Regions.{ends_at}
use Rattle.path_walk.specs.inner.Lines.{ArmsLead}
use Rattle.path_walk.specs.inner.Writers.{FromAs, Grown, IsReady, Leads, Led, WriterTree, Context, CitedTree, StandsAs, Steps, StepsBy, citing, front, group_in, past, standing_at}
use Rattle.path_walk.proofs.Facts.{need-facts, facts_after, leaves-steps}
use Rattle.code_parts.proofs.BuiltBodies.{goes_back, goes_two_ways}
use Rattle.path_walk.proofs.CallLemmas.{results_are, standing_is}
use Rattle.path_walk.proofs.CalledDefs.{arms_closed_more, closed_more}
use Rattle.code_parts.proofs.Lists.{index-at, index-some, slice-map}
use Rattle.path_walk.proofs.WriterLemmas.{from_on, grown_join, grown_none}
use Rattle.path_walk.proofs.Lists.{current-fresh}
use Rattle.code_parts.proofs.Edges.{end-some}

module _ (f : Flow) (p : Part) (ranges : List Range) where
  abbrev def : DefTree
  def = part_def f p

  abbrev Here : Context f ranges → WriterTree → WordTree → VariableMap → List FactTree → CitedTree → Type 0
  Here s l = StandsAs f (front f (part_def f p).entry) ranges (past f ranges s l)

  abbrev Start : Context f ranges → WriterTree → WordTree → VariableMap → List FactTree → Option CitedTree → Type 0
  Start s l = FromAs f (front f (part_def f p).entry) ranges (past f ranges s l)

  -- ---- lines after lines

  module _ (s : Context f ranges) where
    pub led_none : (a : WriterTree) → IsReady f ranges s a → Led f p ranges s a a []
    led_none a ready = record { grown = grown_none f ranges s a ready; numbers = []; cited = sym (append-nil a.cited); each = tt }

    -- first lines without a leaf
    pub led_after : (a b c : WriterTree) (leaves : List LeafTree) → Grown f ranges s a b → b.cited ≡ a.cited → Led f p ranges s b c leaves → Led f p ranges s a c leaves
    led_after a b c leaves m same r = record {
      grown = grown_join f ranges s a b c m r.grown;
      numbers = r.numbers;
      cited = r.cited ∙ ap (λ ks. ks ++ r.numbers) same;
      each = r.each;
    }

    abbrev Is : WriterTree → LeafTree → ℕ → Type 0
    Is l leaf j = (t : TripleTree) × ((past f ranges s l).theorem j ≡ Some t) × LeadsTo (group_in f ranges s) (part_def f p) leaf t

    still : (b c : WriterTree) (leaves : List LeafTree) (js : List ℕ) → Grown f ranges s b c → AllZip (Is b) leaves js → AllZip (Is c) leaves js
    still b c [] [] m z = tt
    still b c [] (j ∷ js) m z = absurd z
    still b c (l ∷ ls) [] m z = absurd z
    still b c (l ∷ ls) (j ∷ js) m z = ((z.0.0, m.keeps.theorem j z.0.0 z.0.1, z.0.2), still b c ls js m z.1)

    both : (c : WriterTree) (ls ms : List LeafTree) (js ks : List ℕ) → AllZip (Is c) ls js → AllZip (Is c) ms ks → AllZip (Is c) (ls ++ ms) (js ++ ks)
    both c [] ms [] ks x y = y
    both c [] ms (j ∷ js) ks x y = absurd x
    both c (l ∷ ls) ms [] ks x y = absurd x
    both c (l ∷ ls) ms (j ∷ js) ks x y = (x.0, both c ls ms js ks x.1 y)

    pub led_join : (a b c : WriterTree) (ls ms : List LeafTree) → Led f p ranges s a b ls → Led f p ranges s b c ms → Led f p ranges s a c (ls ++ ms)
    led_join a b c ls ms m n = record {
      grown = grown_join f ranges s a b c m.grown n.grown;
      numbers = m.numbers ++ n.numbers;
      cited = n.cited ∙ ap (λ ks. ks ++ n.numbers) m.cited ∙ append_assoc a.cited m.numbers n.numbers;
      each = both c ls ms m.numbers n.numbers (still b c ls m.numbers n.grown m.each) n.each;
    }

    -- the theorem of this place is cited for a leaf that asks for the current variables
    cited_led : (old : WriterTree) (pc : WordTree) (v : VariableMap) (path : List FactTree) (t : CitedTree) → IsReady f ranges s old → Here s old pc v path t →
        Led f p ranges s old (citing t.number old) (record { facts = path; post = with_values (group_in f ranges s) pc (current f v) } ∷ [])
    cited_led old pc v path t ready here =
        let rise : AreRegistersFrom 1 f.regs = s.code.registers in
        let entry : ℕ = (part_def f p).entry in
        let theorem : TripleTree = record { facts = t.facts; pre = standing_at f (Const entry) (start f); code = t.code; post = standing_at f pc v } in
        let front : standing_at f (Const entry) (start f) ≡ with_values (group_in f ranges s) (Const entry) (parameters (group_in f ranges s)) =
        sym (standing_is f s.name ranges s.defs (Const entry) (start f)) ∙ ap (with_values (group_in f ranges s) (Const entry)) (sym (current-fresh f 0 0 rise)) in
        record {
          grown = record {
            added = [];
            lines = sym (append-nil old.lines);
            right = tt;
            keeps = record { theorem = λ j t e. e; closed = λ d e. e };
            ready = record { next = ready.next; counted = ready.counted };
          };
          numbers = t.number ∷ [];
          cited = refl;
          each = ((theorem, here.held, record { pre = front; post = sym (standing_is f s.name ranges s.defs pc v); facts = here.facts; code = here.code }), tt);
        }

  -- ---- leaves

  -- a body that is a leaf for the current variables
  leaf_leads : (old : WriterTree) (pc : WordTree) (v : VariableMap) (t : CitedTree) (body : BodyTree) →
      ((s : Context f ranges) (path : List FactTree) → body_leaves (group_in f ranges s) (part_def f p) body v.words v.mems path ≡ record { facts = path; post = with_values (group_in f ranges s) pc (current f v) } ∷ []) →
      Leads f p ranges old (citing t.number old) pc v (Some t) body
  leaf_leads old pc v t body same = record {
    version = refl;
    each = λ s path ready here closed below. subst (λ ls. Led f p ranges s old (citing t.number old) ls) (sym (same s path)) (cited_led s old pc v path t ready here);
  }

  leave_leads : (n k : ℕ) (v : VariableMap) (t : CitedTree) (old : WriterTree) → slice_get (targets f p) k ≡ Some n → Leads f p ranges old (citing t.number old) (Const (f.addr n)) v (Some t) (Leave k (current f v))
  leave_leads n k v t old at =
      let exit : slice_get (exits_of f p) k ≡ Some (At (f.addr n)) = slice-map (λ n. At (f.addr n)) (returned f p) (targets f p) k n at in
      leaf_leads old (Const (f.addr n)) v t (Leave k (current f v)) (λ s path i. record { facts = path; post = at_exit (group_in f ranges s) (exit i) (current f v) } ∷ [])

  some_leads : (n : ℕ) (v : VariableMap) (t : CitedTree) (old : WriterTree) (b : BodyTree) → (o : Option ℕ) → index_of (targets f p) n ≡ o →
      option_map (λ k. Leave k (current f v)) o ≡ Some b → Leads f p ranges old (citing t.number old) (Const (f.addr n)) v (Some t) b
  some_leads n v t old b None is e = absurd (cc)
  some_leads n v t old b (Some k) is e =
      let same : Leave k (current f v) ≡ b = cc in
      subst (λ c. Leads f p ranges old (citing t.number old) (Const (f.addr n)) v (Some t) c) same (leave_leads n k v t old (index-at (targets f p) n k is))

  -- where the part ends by itself
  own_leads : (q : Part) → p ≡ q → (n : ℕ) (v : VariableMap) (t : CitedTree) (old : WriterTree) (b : BodyTree) → end_of f q n (current f v) ≡ Some b →
      Leads f p ranges old (citing t.number old) (Const (f.addr n)) v (Some t) b
  own_leads (Rest r c) e n v t old b is = some_leads n v t old b (index_of (rest_targets f r) n) (λ i. index_of (targets f (e i)) n) is
  own_leads (Loop l) e n v t old b is = go (eqb n (f.head l)) refl is
    where
      go : (z : Bool) → eqb n (f.head l) ≡ z → cond z (Some (Again (current f v))) (option_map (λ k. Leave k (current f v)) (index_of (f.exits l) n)) ≡ Some b →
          Leads f p ranges old (citing t.number old) (Const (f.addr n)) v (Some t) b
      go true z is =
          let same : Again (current f v) ≡ b = cc in
          let at_head : f.addr n ≡ (part_def f p).entry = ap f.addr (eqb-true n (f.head l) z) ∙ (λ i. f.addr (first f (sym e i))) in
          subst (λ c. Leads f p ranges old (citing t.number old) (Const (f.addr n)) v (Some t) c) same
          (leaf_leads old (Const (f.addr n)) v t (Again (current f v)) (λ s path i. record { facts = path; post = with_values (group_in f ranges s) (Const (sym at_head i)) (current f v) } ∷ []))
      go false z is = some_leads n v t old b (index_of (f.exits l) n) (λ i. index_of (targets f (e i)) n) is

  pub last_leads : (n k : ℕ) (v : VariableMap) (t : CitedTree) (old : WriterTree) → slice_get (rest_targets f (own p)) k ≡ Some n →
      Leads f p ranges old (citing t.number old) (Const (f.addr n)) v (Some t) (last_at f p n v)
  last_leads n k v t old at = go (end_of f p n (current f v)) refl
    where
      go : (o : Option BodyTree) → end_of f p n (current f v) ≡ o → Leads f p ranges old (citing t.number old) (Const (f.addr n)) v (Some t) (unwrap_or o (Leave 0 (current f v)))
      go None none = absurd (let found = index-some (rest_targets f (own p)) n k at in end-some f p n found.0 (current f v) found.1 none)
      go (Some b) some = own_leads p refl n v t old b some

  -- ---- arms

  pub arms_none : (d k : ℕ) (l : WriterTree) (pc : WordTree) (v : VariableMap) (from : Option CitedTree) (exits : List Exit) → ArmsLead f p ranges d l l pc v from exits k NoArm
  arms_none d k l pc v from exits = record { version = refl; each = λ s path ready closed low here arms below. led_none s l ready }

  -- an arm, and those after it
  pub arms_more : (d k : ℕ) (old mid after new : WriterTree) (pc : WordTree) (v : VariableMap) (from : Option CitedTree) (x : ℕ) (t : CitedTree) (b : BodyTree) (exits : List Exit) (arms : ArmTrees) →
      StepsBy f (part_def f p).entry ranges d old mid pc v from (Const (f.addr x)) (fresh f v.words v.mems) (Gives d k (current f v) (results_at f (At (f.addr x)) v.words v.mems) ∷ []) t →
      Leads f p ranges mid after (Const (f.addr x)) (fresh f v.words v.mems) (Some t) b → ArmsLead f p ranges d after new pc v from exits (suc k) arms →
      ArmsLead f p ranges d old new pc v from (At (f.addr x) ∷ exits) k (Arm b arms)
  arms_more d k old mid after new pc v from x t b exits arms step one rest = record {
    version = rest.version ∙ one.version ∙ step.version;
    each = λ s path ready closed low here ok below.
        let g : GroupTree = group_in f ranges s in
        let res : results_at f (At (f.addr x)) v.words v.mems ≡ variables_after v.words v.mems (length f.regs) f.mems = sym (current-fresh f v.words v.mems s.code.registers) in
        let stood = step.each s path ready closed low here in
        let ways : List FactTree = path ++ Gives d k (current f v) (results_at f (At (f.addr x)) v.words v.mems) ∷ [] in
        let first = one.each s ways stood.grown.ready stood.stands (closed_more (past f ranges s old) (past f ranges s mid) b stood.grown.keeps ok.0) below.0 in
        let named = subst (λ (r : ValuesTree). Led f p ranges s mid after (body_leaves g (part_def f p) b (v.words + length f.regs) (v.mems + f.mems) (path ++ Gives d k (current f v) r ∷ []))) res first in
        let grown = grown_join f ranges s old mid after stood.grown named.grown in
        let more = rest.each s path grown.ready (grown.keeps.closed d closed) low (from_on f ranges s (front f (part_def f p).entry) old after pc v path from grown here) (arms_closed_more (past f ranges s old) (past f ranges s after) arms grown.keeps ok.1) below.1 in
        led_join s old after new
        (body_leaves g (part_def f p) b (v.words + length f.regs) (v.mems + f.mems) (path ++ Gives d k (current f v) (variables_after v.words v.mems (length f.regs) f.mems) ∷ []))
        (arm_leaves g (part_def f p) d exits (suc k) (current f v) arms v.words v.mems path)
        (led_after s old mid after (body_leaves g (part_def f p) b (v.words + length f.regs) (v.mems + f.mems) (path ++ Gives d k (current f v) (variables_after v.words v.mems (length f.regs) f.mems) ∷ [])) stood.grown stood.cited named) more;
  }

  ret_exit : (q : Part) → own q ≡ None → f.returns ≡ true → slice_get (exits_of f q) 0 ≡ Some Ret
  ret_exit (Loop l) e t = absurd (cc)
  ret_exit (Rest None c) e t = λ i. slice_get (cond (t i) (Ret ∷ []) []) 0
  ret_exit (Rest (Some l) c) e t = absurd (cc)

  -- the arm that returns to the address that a called rest returns to
  pub arm_back : (d : ℕ) (old mid : WriterTree) (pc : WordTree) (v : VariableMap) (from : Option CitedTree) (t : CitedTree) → own p ≡ None → f.returns ≡ true →
      StepsBy f (part_def f p).entry ranges d old mid pc v from (Var v.words) (fresh f (suc v.words) v.mems) (Gives d 0 (current f v) (results_at f Ret v.words v.mems) ∷ []) t →
      ArmsLead f p ranges d old (citing t.number mid) pc v from (Ret ∷ []) 0 (Arm (returning f v) NoArm)
  arm_back d old mid pc v from t region returns step = record {
    version = step.version;
    each = λ s path ready closed low here ok below.
        let stood = step.each s path ready closed low here in
        let g : GroupTree = group_in f ranges s in
        let own_exit : slice_get (exits_of f p) 0 ≡ Some Ret = ret_exit p region returns in
        let vals : ValuesTree = with_pc (Var v.words) (current f (fresh f (suc v.words) v.mems)) in
        let facts = λ (r : ValuesTree). path ++ Gives d 0 (current f v) r ∷ [] in
        let res : results_at f Ret v.words v.mems ≡ variables_after v.words v.mems (exit_words g Ret) f.mems = sym (results_are f g Ret v.words v.mems refl s.code.registers) in
        let one = led_after s old mid (citing t.number mid) (record { facts = facts (results_at f Ret v.words v.mems); post = with_values g (Var v.words) (current f (fresh f (suc v.words) v.mems)) } ∷ []) stood.grown stood.cited
        (cited_led s mid (Var v.words) (fresh f (suc v.words) v.mems) (facts (results_at f Ret v.words v.mems)) t stood.grown.ready stood.stands) in
        let same : record { facts = facts (results_at f Ret v.words v.mems); post = with_values g (Var v.words) (current f (fresh f (suc v.words) v.mems)) } ∷ []
        ≡ record { facts = facts (variables_after v.words v.mems (exit_words g Ret) f.mems); post = at_exit g (slice_get (exits_of f p) 0) vals } ∷ [] =
        (λ i. record { facts = facts (res i); post = at_exit g (sym own_exit i) vals } ∷ []) in
        subst (λ ls. Led f p ranges s old (citing t.number mid) ls) same one;
  }

  -- the arms of a call of the rest of the whole function
  pub back_leads : (n d entry : ℕ) (old mid new : WriterTree) (pc : WordTree) (v : VariableMap) (from : Option CitedTree) (t : CitedTree) → entry ≡ (part_def f p).entry → own p ≡ None → f.returns ≡ true →
      StepsBy f entry ranges d old mid pc v from (Var v.words) (fresh f (suc v.words) v.mems) (Gives d 0 (current f v) (results_at f Ret v.words v.mems) ∷ []) t → new ≡ citing t.number mid →
      ArmsLead f p ranges d old new pc v from (exits_of f (Rest None n)) 0 (rest_arms f p None v)
  back_leads n d entry old mid new pc v from t front region returns step is =
      let known = subst (λ (k : ℕ). StepsBy f k ranges d old mid pc v from (Var v.words) (fresh f (suc v.words) v.mems) (Gives d 0 (current f v) (results_at f Ret v.words v.mems) ∷ []) t) front step in
      subst (λ (b : Bool). ArmsLead f p ranges d old new pc v from (cond b (Ret ∷ []) []) 0 (cond b (Arm (returning f v) NoArm) NoArm)) (sym returns)
      (subst (λ (l : WriterTree). ArmsLead f p ranges d old l pc v from (Ret ∷ []) 0 (Arm (returning f v) NoArm)) (sym is) (arm_back d old mid pc v from t region returns known))

  pub back_none : (n d : ℕ) (l : WriterTree) (pc : WordTree) (v : VariableMap) (from : Option CitedTree) → f.returns ≡ false → ArmsLead f p ranges d l l pc v from (exits_of f (Rest None n)) 0 (rest_arms f p None v)
  back_none n d l pc v from none =
      subst (λ (b : Bool). ArmsLead f p ranges d l l pc v from (cond b (Ret ∷ []) []) 0 (cond b (Arm (returning f v) NoArm) NoArm)) (sym none) (arms_none d 0 l pc v from [])

  -- ---- calls

  -- a call of a part's definition, by the arms for its exits
  pub call_leads : (q : Part) → IsPart f q → (old new : WriterTree) (pc : WordTree) (v : VariableMap) (from : Option CitedTree) (arms : ArmTrees) →
      ArmsLead f p ranges (f.number q) old new pc v from (exits_of f q) 0 arms → Leads f p ranges old new pc v from (Call (f.number q) (current f v) arms)
  call_leads q there old new pc v from arms lead = record {
    version = lead.version;
    each = λ s path ready here closed below.
        let part = s.has q there below.0 in
        let their : tree.exits_at (group_in f ranges s) (f.number q) ≡ exits_of f q = exits_there (group_in f ranges s) (f.number q) part.def part.is ∙ part.exits in
        subst (λ (xs : List Exit). Led f p ranges s old new (arm_leaves (group_in f ranges s) (part_def f p) (f.number q) xs 0 (current f v) arms v.words v.mems path)) (sym their)
        (lead.each s path ready closed.0 below.0 here closed.1 below.1);
  }

  end-there : (q : Part) (n : ℕ) (x : ValuesTree) → ends_at f q n ≡ true → (b : BodyTree) × (end_of f q n x ≡ Some b)
  end-there (Rest r c) n x is = go (index_of (rest_targets f r) n) is
    where
      go : (o : Option ℕ) → is_some o ≡ true → (b : BodyTree) × (option_map (λ k. Leave k x) o ≡ Some b)
      go None is = absurd (cc)
      go (Some k) is = (Leave k x, refl)
  end-there (Loop l) n x is = go (eqb n (f.head l)) (index_of (f.exits l) n) is
    where
      go : (z : Bool) (o : Option ℕ) → cond z true (is_some o) ≡ true → (b : BodyTree) × (cond z (Some (Again x)) (option_map (λ k. Leave k x) o) ≡ Some b)
      go true o is = (Again x, refl)
      go false None is = absurd (cc)
      go false (Some k) is = (Leave k x, refl)

  end-missing : (q : Part) (n : ℕ) (x : ValuesTree) → ends_at f q n ≡ false → end_of f q n x ≡ None
  end-missing (Rest r c) n x is = go (index_of (rest_targets f r) n) is
    where
      go : (o : Option ℕ) → is_some o ≡ false → option_map (λ k. Leave k x) o ≡ None
      go None is = refl
      go (Some k) is = absurd (cc)
  end-missing (Loop l) n x is = go (eqb n (f.head l)) (index_of (f.exits l) n) is
    where
      go : (z : Bool) (o : Option ℕ) → cond z true (is_some o) ≡ false → cond z (Some (Again x)) (option_map (λ k. Leave k x) o) ≡ None
      go true o is = absurd (cc)
      go false None is = refl
      go false (Some k) is = absurd (cc)

  -- at a cut: the part ends by itself
  pub end_own : (n : ℕ) (v : VariableMap) (t : CitedTree) (old : WriterTree) → ends_at f p n ≡ true → Leads f p ranges old (citing t.number old) (Const (f.addr n)) v (Some t) (end_at f p n v)
  end_own n v t old is =
      let there = end-there p n (current f v) is in
      let rest : BodyTree = Call (f.number (rest_from f n)) (current f v) (rest_arms f p (f.around n) v) in
      subst (λ (o : Option BodyTree). Leads f p ranges old (citing t.number old) (Const (f.addr n)) v (Some t) (unwrap_or o rest)) (sym there.1) (own_leads p refl n v t old there.0 there.1)

  -- .. or it is of the region whose rest it calls
  pub around-own : (n : ℕ) → IsEnd f p n → ends_at f p n ≡ false → f.around n ≡ own p
  around-own n end is = go end.placed
    where
      go : IsPlaced f (own p) n → f.around n ≡ own p
      go (inl q) = absurd (end-some f p n q.0 (current f (start f)) q.1 (end-missing p n (current f (start f)) is))
      go (inr q) = q

  pub end_called : (n : ℕ) (v : VariableMap) (t : CitedTree) (old new : WriterTree) → IsEnd f p n → ends_at f p n ≡ false →
      ArmsLead f p ranges (f.number (rest_from f n)) old new (Const (f.addr n)) v (Some t) (exits_of f (rest_from f n)) 0 (rest_arms f p (f.around n) v) →
      Leads f p ranges old new (Const (f.addr n)) v (Some t) (end_at f p n v)
  end_called n v t old new end is lead =
      let rest : BodyTree = Call (f.number (rest_from f n)) (current f v) (rest_arms f p (f.around n) v) in
      subst (λ (o : Option BodyTree). Leads f p ranges old new (Const (f.addr n)) v (Some t) (unwrap_or o rest)) (sym (end-missing p n (current f v) is))
      (call_leads (rest_from f n) (end.node, end.cut, refl) old new (Const (f.addr n)) v (Some t) (rest_arms f p (f.around n) v) lead)

  -- ---- instructions

  pub steps_front : (entry : ℕ) (old new : WriterTree) (pc : WordTree) (v : VariableMap) (from : Option CitedTree) (to : WordTree) (u : VariableMap) (more : List FactTree) (t : CitedTree) → entry ≡ (part_def f p).entry →
      Steps f (front f entry) ranges old new pc v from to u more t → Steps f (front f (part_def f p).entry) ranges old new pc v from to u more t
  steps_front entry old new pc v from to u more t is steps = subst (λ (e : ℕ). Steps f (front f e) ranges old new pc v from to u more t) is steps

  -- after the lines of instructions that lead on to one node
  pub run_leads : (n room : ℕ) (v : VariableMap) (m : ℕ) (u : VariableMap) (left : ℕ) (from : Option CitedTree) (t : CitedTree) (old mid new : WriterTree) → Reaches f (front f (part_def f p).entry) ranges old mid n v room from m u left t →
      Leads f p ranges mid new (Const (f.addr m)) u (Some t) (body_on left f p m u) → Leads f p ranges old new (Const (f.addr n)) v from (body_at room f p n v)
  run_leads n room v m u left from t old mid new reaches rest = record {
    version = rest.version ∙ reaches.steps.version;
    each = λ s path ready here closed below.
        let over = reaches.runs.over p in
        let stood = reaches.steps.each s path ready here in
        let led = rest.each s (path ++ reaches.more) stood.grown.ready stood.stands (closed_more (past f ranges s old) (past f ranges s mid) (body_on left f p m u) stood.grown.keeps (over.closed (past f ranges s old) closed)) (over.below s.bound below) in
        subst (λ ls. Led f p ranges s old new ls) (sym (over.leaves (group_in f ranges s) path))
        (led_after s old mid new (body_leaves (group_in f ranges s) (part_def f p) (body_on left f p m u) u.words u.mems (path ++ reaches.more)) stood.grown stood.cited led);
  }

  -- after a branch, in both of its forms
  pub branch_leads : (n room : ℕ) (v : VariableMap) (i : Instr) (c : Cmp) (rs1 rs2 : ℕ) (offset : ℤ) (x y : ℕ) (from : Option CitedTree) (t1 t2 : CitedTree) (old a b d new : WriterTree) → n < f.nodes → f.callee n ≡ None → i ≡ f.instr n → i ≡ instr.Branch c rs1 rs2 offset → (room ≡ 0 → ⊥) →
      x ≡ f.to n Taken → y ≡ f.to n Next →
      Steps f (front f (part_def f p).entry) ranges old a (Const (f.addr n)) v from (pc_after (f.instr n) Taken (f.addr n) (size f n) (names v (f.uses n))) (place_after (f.instr n) (f.uses n) v) (map So (conditions (f.instr n) Taken (names v (f.uses n))) ++ new_facts (f.instr n) (f.addr n) (size f n) (f.uses n) v) t1 →
      Leads f p ranges a b (Const (f.addr x)) v (Some t1) (body_on (room - 1) f p x v) →
      Steps f (front f (part_def f p).entry) ranges b d (Const (f.addr n)) v from (pc_after (f.instr n) Next (f.addr n) (size f n) (names v (f.uses n))) (place_after (f.instr n) (f.uses n) v) (map So (conditions (f.instr n) Next (names v (f.uses n))) ++ new_facts (f.instr n) (f.addr n) (size f n) (f.uses n) v) t2 →
      Leads f p ranges d new (Const (f.addr y)) v (Some t2) (body_on (room - 1) f p y v) → Leads f p ranges old new (Const (f.addr n)) v from (body_at room f p n v)
  branch_leads n room v i c rs1 rs2 offset x y from t1 t2 old a b d new node none is branch some left right one go_one two go_two =
      subst (λ (z : BodyTree). Leads f p ranges old new (Const (f.addr n)) v from z) (goes_two_ways f p n room v i c rs1 rs2 offset none is branch some) (record {
        version = go_two.version ∙ two.version ∙ go_one.version ∙ one.version;
        each = λ s path ready here closed below.
            let g : GroupTree = group_in f ranges s in
            let at = s.code.each n node in
            let edge = λ (form : Form). ap (λ (j : Instr). has_edge j form) same in
            let first = one.each s path ready here in
            let there = subst (λ (j : Instr). Here s a (pc_after (f.instr n) Taken (f.addr n) (size f n) (names v (f.uses n))) (place_after j (f.uses n) v) (path ++ (map So (conditions j Taken (names v (f.uses n))) ++ new_facts j (f.addr n) (size f n) (f.uses n) v)) t1) same first.stands in
            let stands = subst (λ (pc : WordTree). Here s a pc v (path ++ So test ∷ []) t1) (at.goes Taken (names v (f.uses n)) none (edge Taken)) there in
            let led = on_one.each s (path ++ So test ∷ []) first.grown.ready stands (closed_more (past f ranges s old) (past f ranges s a) bx first.grown.keeps closed.0) below.0 in
            let half = led_after s old a b (body_leaves g (part_def f p) bx v.words v.mems (path ++ So test ∷ [])) first.grown first.cited led in
            let second = two.each s path half.grown.ready (from_on f ranges s (front f (part_def f p).entry) old b (Const (f.addr n)) v path from half.grown here) in
            let there2 = subst (λ (j : Instr). Here s d (pc_after (f.instr n) Next (f.addr n) (size f n) (names v (f.uses n))) (place_after j (f.uses n) v) (path ++ (map So (conditions j Next (names v (f.uses n))) ++ new_facts j (f.addr n) (size f n) (f.uses n) v)) t2) same second.stands in
            let stands2 = subst (λ (pc : WordTree). Here s d pc v (path ++ So (Neg test) ∷ []) t2) (at.goes Next (names v (f.uses n)) none (edge Next)) there2 in
            let led2 = on_two.each s (path ++ So (Neg test) ∷ []) second.grown.ready stands2
            (closed_more (past f ranges s b) (past f ranges s d) by second.grown.keeps (closed_more (past f ranges s old) (past f ranges s b) by half.grown.keeps closed.1)) below.1 in
            let half2 = led_after s b d new (body_leaves g (part_def f p) by v.words v.mems (path ++ So (Neg test) ∷ [])) second.grown second.cited led2 in
            led_join s old b new (body_leaves g (part_def f p) bx v.words v.mems (path ++ So test ∷ [])) (body_leaves g (part_def f p) by v.words v.mems (path ++ So (Neg test) ∷ [])) half half2;
      })
    where
      same : f.instr n ≡ instr.Branch c rs1 rs2 offset
      same = sym is ∙ branch

      test : CondTree
      test = Compare c (word_in (names v (f.uses n)) rs1) (word_in (names v (f.uses n)) rs2)

      bx : BodyTree
      bx = body_on (room - 1) f p (f.to n Taken) v

      by : BodyTree
      by = body_on (room - 1) f p (f.to n Next) v

      on_one : Leads f p ranges a b (Const (f.addr (f.to n Taken))) v (Some t1) bx
      on_one = subst (λ (k : ℕ). Leads f p ranges a b (Const (f.addr k)) v (Some t1) (body_on (room - 1) f p k v)) left go_one

      on_two : Leads f p ranges d new (Const (f.addr (f.to n Next))) v (Some t2) by
      on_two = subst (λ (k : ℕ). Leads f p ranges d new (Const (f.addr k)) v (Some t2) (body_on (room - 1) f p k v)) right go_two

  -- after a return
  pub return_leads : (n room : ℕ) (v : VariableMap) (from : Option CitedTree) (t : CitedTree) (old mid : WriterTree) → IsNear f p room n → f.callee n ≡ None → is_jump_through (f.instr n) ≡ true → (room ≡ 0 → ⊥) →
      Steps f (front f (part_def f p).entry) ranges old mid (Const (f.addr n)) v from (pc_after (f.instr n) Next (f.addr n) (size f n) (names v (f.uses n))) (place_after (f.instr n) (f.uses n) v) (map So (conditions (f.instr n) Next (names v (f.uses n))) ++ new_facts (f.instr n) (f.addr n) (size f n) (f.uses n) v) t →
      Leads f p ranges old (citing t.number mid) (Const (f.addr n)) v from (body_at room f p n v)
  return_leads n room v from t old mid near uncalled jump some step =
      subst (λ (z : BodyTree). Leads f p ranges old (citing t.number mid) (Const (f.addr n)) v from z) (goes_back f p n room v (f.instr n) uncalled refl jump some) (record {
        version = step.version;
        each = λ s path ready here closed below.
            let g : GroupTree = group_in f ranges s in
            let at = s.code.each n near.node in
            let is : f.instr n ≡ instr.Jalr 0 1 (pos 0) = at.return_is jump in
            let i : Instr = instr.Jalr 0 1 (pos 0) in
            let out = near.graph.returned n near.node jump in
            let own_exit : slice_get (exits_of f p) 0 ≡ Some Ret = ret_exit p (sym near.region ∙ out.0) out.1 in
            let stood = step.each s path ready here in
            let pc : WordTree = pc_after i Next (f.addr n) (size f n) (names v (f.uses n)) in
            let cs : List FactTree = map So (conditions i Next (names v (f.uses n))) in
            let there = subst (λ (j : Instr). Here s mid (pc_after j Next (f.addr n) (size f n) (names v (f.uses n))) (place_after j (f.uses n) v) (path ++ (map So (conditions j Next (names v (f.uses n))) ++ new_facts j (f.addr n) (size f n) (f.uses n) v)) t) is stood.stands in
            let none : cs ++ [] ≡ cs = append-nil cs in
            let facts : path ++ (cs ++ []) ≡ facts_after (needs i (f.uses n) v) v.words v.mems path = (λ j. path ++ none j) ∙ sym (need-facts (conditions i Next (names v (f.uses n))) v.words v.mems path) in
            let known = subst (λ (fs : List FactTree). Here s mid pc v fs t) facts there in
            let led = led_after s old mid (citing t.number mid) (record { facts = facts_after (needs i (f.uses n) v) v.words v.mems path; post = with_values g pc (current f v) } ∷ []) stood.grown stood.cited
            (cited_led s mid pc v (facts_after (needs i (f.uses n) v) v.words v.mems path) t stood.grown.ready known) in
            let vals : ValuesTree = with_pc pc (current f v) in
            let leaves : record { facts = facts_after (needs i (f.uses n) v) v.words v.mems path; post = with_values g pc (current f v) } ∷ [] ≡ body_leaves g (part_def f p) (returned_body f i (f.addr n) (size f n) (f.uses n) v) v.words v.mems path =
            (λ j. record { facts = facts_after (needs i (f.uses n) v) v.words v.mems path; post = at_exit g (sym own_exit j) vals } ∷ []) ∙ sym (leaves-steps g (part_def f p) (needs i (f.uses n) v) (Leave 0 vals) v.words v.mems path) in
            subst (λ (j : Instr). Led f p ranges s old (citing t.number mid) (body_leaves g (part_def f p) (returned_body f j (f.addr n) (size f n) (f.uses n) v) v.words v.mems path)) (sym is) (subst (λ ls. Led f p ranges s old (citing t.number mid) ls) leaves led);
      })
