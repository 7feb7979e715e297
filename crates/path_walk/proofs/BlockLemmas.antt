-- Instructions that follow one another, and their lines over the registers that they touch.
use Rattle.std.proofs.Common.{◌≡◌, ℕ, zero, suc, ◌-◌, ◌<◌, ◌≤◌, List, [], ◌∷◌, ◌++◌, map, length, drop, Bool, true, false, cond, ◌||◌, refl, sym, ap, ◌∙◌, subst, arith, Option, Some, None, Contains, append_assoc, append-nil}
use Rattle.std.specs.List.{range_with_len}
use Rattle.std.proofs.lemmas.List.Elements.{Contains-append_left, Contains-append_right}
use Rattle.rv_words.specs.declared.range.Range.{Range}
use Rattle.rv_decode.specs.declared.instruction.Instr.{Instr}
use Rattle.rv_decode.specs.declared.instruction.Instr.TheVariants as instr
use Rattle.rv_decode.specs.Registers.{registers_where}
use Rattle.word_terms.specs.Tree.{WordTree, Const, Var, MemVar}
use Rattle.tailrec_lang.specs.Registers.{AreRegistersFrom}
use Rattle.tailrec_lang.specs.Tree.{BodyTree, StepTree, with_steps}
use Rattle.triple_kernel.specs.Tree.{FactTree, So, TripleTree}
use Rattle.triple_kernel.specs.declared.form.Form.TheVariants.{Next, Taken}
use Rattle.frame_compose.specs.Rules.{IsFramed}
use Rattle.instr_axioms.specs.Axiom.{is_own, own}
use Rattle.instr_axioms.specs.Terms.{conditions, pc_after}
use Rattle.loop_rule.specs.Leaves.{body_leaves}
use Rattle.proof_text.specs.Line.{Frame}
use Rattle.verdicts.specs.Instance.{Meets}
use Rattle.code_parts.specs.declared.part.Part.{Part}
use Rattle.code_parts.specs.Bodies.{Flow, VariableMap, body_at, end_at, names, needs, part_def, place_after, size, writes}
use Rattle.code_parts.specs.Graph.{CallsBelow, IsCode, has_edge}
use Rattle.code_parts.specs.inner.Ends.{body_on}
use Rattle.code_parts.proofs.BuiltBodies.{IsNoBranch, goes_straight, straight_edge}
use Rattle.code_parts.proofs.Counts.{all-mems, all-words}
use Rattle.code_parts.proofs.Lists.{in_range, rising-short}
use Rattle.code_parts.proofs.Registers.{filter-has, filter-rise, or_left, or_right}
use Rattle.path_walk.specs.Closed.{AreClosed}
use Rattle.path_walk.specs.inner.Acts.{GoesOn, HasOwn, new_facts}
use Rattle.path_walk.specs.inner.Blocks.{GoesOver, HasEach, IsRun, IsStraight, Reaches, Runs, framed, framed_standing, is_touched, touched}
use Rattle.path_walk.specs.inner.Writers.{CitedTree, OriginTree, StandsAs, Steps, WriterTree, front, group_in, past, standing_at, standing_on}
use Rattle.path_walk.proofs.CalledDefs.{below_steps, closed_steps}
use Rattle.path_walk.proofs.Facts.{all-facts, facts_after, leaves-steps}
use Rattle.path_walk.proofs.InstructionLemmas.{has_own}
use Rattle.path_walk.proofs.JoinedLines.{goes-version, goes_on}
use Rattle.path_walk.proofs.Joins.{some_and}
use Rattle.path_walk.proofs.Lines.{filter-test, further-regs, kept-apart, not_in, own-has, own-rise, own-test, wider-regs}
use Rattle.path_walk.proofs.LowVariables.{after_few}
use Rattle.path_walk.proofs.PartWalks.{next_is}
use Rattle.path_walk.proofs.WriterLemmas.{from_on, grown_join, grown_state, held_now}

-- ---- straight instructions

no-branch : (i : Instr) → has_edge i Taken ≡ false → IsNoBranch i
no-branch i e c rs1 rs2 offset is = absurd (let clash : true ≡ false = ap (λ (j : Instr). has_edge j Taken) (sym is) ∙ e in cc)

pub no-taken : (i : Instr) → IsNoBranch i → has_edge i Taken ≡ false
no-taken (instr.Op o rd rs1 rs2) b = refl
no-taken (instr.OpImm o rd rs1 imm) b = refl
no-taken (instr.Lui rd imm) b = refl
no-taken (instr.Auipc rd imm) b = refl
no-taken (instr.Jal rd offset) b = refl
no-taken (instr.Jalr rd rs1 imm) b = refl
no-taken (instr.Branch c rs1 rs2 offset) b = absurd (b c rs1 rs2 offset refl)
no-taken (instr.Load w signed rd rs1 imm) b = refl
no-taken (instr.Store w rs1 rs2 imm) b = refl
no-taken (instr.Fence imm rs1 rd) b = refl
no-taken instr.Ecall b = refl
no-taken instr.Ebreak b = refl

pub straight-edge : (f : Flow) (n : ℕ) → IsStraight f n → has_edge (f.instr n) Next ≡ true
straight-edge f n s = straight_edge (f.instr n) (no-branch (f.instr n) s.branch) s.jump

pub run-first : (f : Flow) (n more : ℕ) → IsRun f n more → IsStraight f n
run-first f n zero run = run
run-first f n (suc more) run = run.0

pub each-first : (regs : List ℕ) (f : Flow) (n more : ℕ) → HasEach regs f n more → HasOwn regs (f.instr n)
each-first regs f n zero each = each
each-first regs f n (suc more) each = each.0

pub run-more : (f : Flow) (n more to : ℕ) → 0 < more → to ≡ f.to n Next → IsStraight f n → f.is_cut to ≡ false → IsRun f to (more - 1) → IsRun f n more
run-more f n zero to some is s cut run = absurd (omega (arith, some))
run-more f n (suc more) to some is s cut run =
    let less : suc more - 1 ≡ more = omega arith in
    (s, subst (λ (k : ℕ). f.is_cut k ≡ false) is cut, subst (λ (k : ℕ). IsRun f k more) is (subst (IsRun f to) less run))

pub run-rest : (f : Flow) (n more to : ℕ) → 0 < more → to ≡ f.to n Next → IsRun f n more → (f.is_cut to ≡ false) × IsRun f to (more - 1)
run-rest f n zero to some is run = absurd (omega (arith, some))
run-rest f n (suc more) to some is run =
    let less : more ≡ suc more - 1 = omega arith in
    (subst (λ (k : ℕ). f.is_cut k ≡ false) (sym is) run.1, subst (IsRun f to) less (subst (λ (k : ℕ). IsRun f k more) (sym is) run.2))

pub each-rest : (regs : List ℕ) (f : Flow) (n more to : ℕ) → 0 < more → to ≡ f.to n Next → HasEach regs f n more → HasEach regs f to (more - 1)
each-rest regs f n zero to some is each = absurd (omega (arith, some))
each-rest regs f n (suc more) to some is each =
    let less : more ≡ suc more - 1 = omega arith in
    subst (HasEach regs f to) less (subst (λ (k : ℕ). HasEach regs f k more) (sym is) each.1)

-- ---- the registers that they touch

pub touched-first : (f : Flow) (n more r : ℕ) → is_own (f.instr n) r ≡ true → is_touched f n more r ≡ true
touched-first f n zero r e = e
touched-first f n (suc more) r e = or_left (is_own (f.instr n) r) (is_touched f (f.to n Next) more r) e

pub touched-more : (f : Flow) (n more to r : ℕ) → 0 < more → to ≡ f.to n Next → is_own (f.instr n) r ≡ false → is_touched f to (more - 1) r ≡ is_touched f n more r
touched-more f n zero to r some is e = absurd (omega (arith, some))
touched-more f n (suc more) to r some is e =
    let less : suc more - 1 ≡ more = omega arith in
    (λ j. is_touched f (is j) (less j) r) ∙ (λ j. sym e j || is_touched f (f.to n Next) more r)

pub touched-rise : (f : Flow) (n more : ℕ) → AreRegistersFrom 1 (touched f n more)
unfolding registers_where
touched-rise f n more = filter-rise (is_touched f n more) 1 31 (omega arith)

pub touched-few : (f : Flow) (n more : ℕ) → length (touched f n more) ≤ 31
touched-few f n more = let short = rising-short 1 (touched f n more) (omega arith) (touched-rise f n more) in omega (arith, short)

has-each : (regs : List ℕ) (f : Flow) (n more : ℕ) → ((r : ℕ) → 1 ≤ r → r ≤ 31 → is_touched f n more r ≡ true → Contains regs r) → HasEach regs f n more
has-each regs f n zero h = λ r c. let range = in_range 1 (own (f.instr n)) r (own-rise (f.instr n)) c in h r range.0 range.1 (own-test (f.instr n) r c)
has-each regs f n (suc more) h = (
  λ r c. let range = in_range 1 (own (f.instr n)) r (own-rise (f.instr n)) c in h r range.0 range.1 (or_left (is_own (f.instr n) r) (is_touched f (f.to n Next) more r) (own-test (f.instr n) r c)),
  has-each regs f (f.to n Next) more (λ r low high e. h r low high (or_right (is_own (f.instr n) r) (is_touched f (f.to n Next) more r) e)),
)

pub touched-each : (f : Flow) (n more : ℕ) → HasEach (touched f n more) f n more
unfolding registers_where
touched-each f n more = has-each (touched f n more) f n more (λ r low high e. filter-has (is_touched f n more) 1 31 r low (omega (arith, high)) e)

touched-in : (f : Flow) (ranges : List Range) → IsCode f ranges → (n more : ℕ) → IsRun f n more → (r : ℕ) → 1 ≤ r → r ≤ 31 → is_touched f n more r ≡ true → Contains f.regs r
touched-in f ranges code n zero run r low high e = has_own f ranges n (code.each n run.node) r (own-has (f.instr n) r low high e)
touched-in f ranges code n (suc more) run r low high e = go (λ e. touched-in f ranges code (f.to n Next) more run.2 r low high e) (is_own (f.instr n) r) refl e
  where
    go : (is_touched f (f.to n Next) more r ≡ true → Contains f.regs r) → (b : Bool) → is_own (f.instr n) r ≡ b → (b || is_touched f (f.to n Next) more r) ≡ true → Contains f.regs r
    go rest true is e = has_own f ranges n (code.each n run.0.node) r (own-has (f.instr n) r low high is)
    go rest false is e = rest e

pub touched-within : (f : Flow) (ranges : List Range) → IsCode f ranges → (n more : ℕ) → IsRun f n more → (r : ℕ) → Contains (touched f n more) r → Contains f.regs r
unfolding registers_where
touched-within f ranges code n more run r c =
    let range = in_range 1 (touched f n more) r (touched-rise f n more) c in
    touched-in f ranges code n more run r range.0 range.1 (filter-test (is_touched f n more) (range_with_len 1 31) r c)

-- ---- leaves

module _ (f : Flow) (p : Part) where
  over-one : (n room : ℕ) (v : VariableMap) → IsStraight f n → (room ≡ 0 → ⊥) →
      GoesOver f p (body_at room f p n v) v (body_on (room - 1) f p (f.to n Next) (place_after (f.instr n) (f.uses n) v)) (place_after (f.instr n) (f.uses n) v)
      (map So (conditions (f.instr n) Next (names v (f.uses n))) ++ new_facts (f.instr n) (f.addr n) (size f n) (f.uses n) v)
  over-one n room v s some = record {
    leaves = λ g path.
        let facts : facts_after ss v.words v.mems path ≡ path ++ (map So (conditions i Next (names v q)) ++ new_facts i (f.addr n) (size f n) q v) =
        all-facts i (f.addr n) (size f n) q v path ∙ append_assoc path (map So (conditions i Next (names v q))) (new_facts i (f.addr n) (size f n) q v) in
        ap (λ (z : BodyTree). body_leaves g (part_def f p) z v.words v.mems path) (sym same)
        ∙ leaves-steps g (part_def f p) ss b v.words v.mems path
        ∙ (λ j. body_leaves g (part_def f p) b (all-words i (f.addr n) (size f n) q v j) (all-mems i (f.addr n) (size f n) q v j) (facts j));
    closed = λ h c. closed_steps h ss b (subst (AreClosed h) (sym same) c);
    below = λ d c. below_steps d ss b (subst (CallsBelow d) (sym same) c);
  }
    where
      i : Instr
      i = f.instr n

      q : ℕ
      q = f.uses n

      ss : List StepTree
      ss = needs i q v ++ writes i (f.addr n) (size f n) q v

      b : BodyTree
      b = body_on (room - 1) f p (f.to n Next) (place_after i q v)

      same : with_steps ss b ≡ body_at room f p n v
      same = goes_straight f p n room v i [] ss s.uncalled refl (no-branch i s.branch) s.jump some refl

  over-then : (a : BodyTree) (v : VariableMap) (b : BodyTree) (u : VariableMap) (c : BodyTree) (w : VariableMap) (one two : List FactTree) → GoesOver f p a v b u one → GoesOver f p b u c w two → GoesOver f p a v c w (one ++ two)
  over-then a v b u c w one two x y = record {
    leaves = λ g path. x.leaves g path ∙ y.leaves g (path ++ one) ∙ ap (body_leaves g (part_def f p) c w.words w.mems) (append_assoc path one two);
    closed = λ h k. y.closed h (x.closed h k);
    below = λ d k. y.below d (x.below d k);
  }

-- ---- places

module _ (f : Flow) (ranges : List Range) (code : IsCode f ranges) (regs : List ℕ) where
  runs-one : (n room : ℕ) (v : VariableMap) → IsStraight f n → HasOwn regs (f.instr n) → 0 < room → f.to n Next < f.nodes →
      Runs f regs n v room (f.to n Next) (place_after (f.instr n) (f.uses n) v) (room - 1) (map So (conditions (f.instr n) Next (names v (f.uses n))) ++ new_facts (f.instr n) (f.addr n) (size f n) (f.uses n) v)
  runs-one n room v s has some node =
      let few = after_few (f.instr n) (f.uses n) v in
      record {
        over = λ p. over-one f p n room v s (λ e. omega (arith, e, some));
        node = node;
        next = λ p near. next_is f p room n (f.to n Next) Next near (λ e. omega (arith, e, some)) (straight-edge f n s) refl;
        kept = λ r c none. let range = in_range 1 f.regs r code.registers c in kept-apart (f.instr n) (f.uses n) v r range.0 range.1 (λ d. none (has r d));
        fewer = omega (arith, some);
        words = (let more = few.0 in omega (arith, more, some));
        mems = (let more = few.1 in omega (arith, more, some));
      }

runs-then : (f : Flow) (regs : List ℕ) (n : ℕ) (v : VariableMap) (room m : ℕ) (u : VariableMap) (left k : ℕ) (w : VariableMap) (rest : ℕ) (one two : List FactTree) → Runs f regs n v room m u left one → f.is_cut m ≡ false → Runs f regs m u left k w rest two →
    Runs f regs n v room k w rest (one ++ two)
runs-then f regs n v room m u left k w rest one two x cut y = record {
  over = λ p.
      let same : body_on left f p m u ≡ body_at left f p m u = λ j. cond (cut j) (end_at f p m u) (body_at left f p m u) in
      over-then f p (body_at room f p n v) v (body_at left f p m u) u (body_on rest f p k w) w one two (subst (λ (b : BodyTree). GoesOver f p (body_at room f p n v) v b u one) same (x.over p)) (y.over p);
  node = y.node;
  next = λ p near. y.next p ((x.next p near).inside cut);
  kept = λ r c none. x.kept r c none ∙ y.kept r c none;
  fewer = (let a = x.fewer in let b = y.fewer in omega (arith, a, b));
  words = (let a = x.words in let b = y.words in omega (arith, a, b));
  mems = (let a = x.mems in let b = y.mems in omega (arith, a, b));
}

-- ---- lines

module _ (f : Flow) (ranges : List Range) where
  steps-to : (o : OriginTree) (old new : WriterTree) (n : ℕ) (v : VariableMap) (from : Option CitedTree) (u : VariableMap) (more : List FactTree) (t : CitedTree) → IsStraight f n →
      Steps f o ranges old new (Const (f.addr n)) v from (pc_after (f.instr n) Next (f.addr n) (size f n) (names v (f.uses n))) u more t →
      Steps f o ranges old new (Const (f.addr n)) v from (Const (f.addr (f.to n Next))) u more t
  steps-to o old new n v from u more t s steps = record {
    version = steps.version;
    each = λ c path ready here.
        let stood = steps.each c path ready here in
        record {
          grown = stood.grown;
          cited = stood.cited;
          stands = subst (λ (pc : WordTree). StandsAs f o ranges (past f ranges c new) pc u (path ++ more) t) ((c.code.each n s.node).goes Next (names v (f.uses n)) s.uncalled (straight-edge f n s)) stood.stands;
        };
  }

  steps-then : (o : OriginTree) (a b c : WriterTree) (pc : WordTree) (v : VariableMap) (from : Option CitedTree) (to : WordTree) (u : VariableMap) (one : List FactTree) (t : CitedTree) (there : WordTree) (w : VariableMap) (two : List FactTree) (x : CitedTree) →
      Steps f o ranges a b pc v from to u one t → Steps f o ranges b c to u (Some t) there w two x → Steps f o ranges a c pc v from there w (one ++ two) x
  steps-then o a b c pc v from to u one t there w two x first second = record {
    version = second.version ∙ first.version;
    each = λ s path ready here.
        let half = first.each s path ready here in
        let end = second.each s (path ++ one) half.grown.ready half.stands in
        record {
          grown = grown_join f ranges s a b c half.grown end.grown;
          cited = end.cited ∙ half.cited;
          stands = subst (λ (fs : List FactTree). StandsAs f o ranges (past f ranges s c) there w fs x) (append_assoc path one two) end.stands;
        };
  }

  pub reaches-one : (code : IsCode f ranges) (o : OriginTree) (old new : WriterTree) (n : ℕ) (v : VariableMap) (room : ℕ) (from : Option CitedTree) (m : ℕ) (u : VariableMap) (t : CitedTree) → IsStraight f n → HasOwn o.regs (f.instr n) → 0 < room → (has_edge (f.instr n) Next ≡ true → m < f.nodes) →
      m ≡ f.to n Next → u ≡ place_after (f.instr n) (f.uses n) v →
      Steps f o ranges old new (Const (f.addr n)) v from (pc_after (f.instr n) Next (f.addr n) (size f n) (names v (f.uses n))) (place_after (f.instr n) (f.uses n) v) (map So (conditions (f.instr n) Next (names v (f.uses n))) ++ new_facts (f.instr n) (f.addr n) (size f n) (f.uses n) v) t →
      Reaches f o ranges old new n v room from m u (room - 1) t
  reaches-one code o old new n v room from m u t s has some node m_is u_is steps =
      subst (λ (k : ℕ). Reaches f o ranges old new n v room from k u (room - 1) t) (sym m_is)
      (subst (λ (w : VariableMap). Reaches f o ranges old new n v room from (f.to n Next) w (room - 1) t) (sym u_is) (record {
        more = map So (conditions (f.instr n) Next (names v (f.uses n))) ++ new_facts (f.instr n) (f.addr n) (size f n) (f.uses n) v;
        runs = runs-one f ranges code o.regs n room v s has some (subst (λ (k : ℕ). k < f.nodes) m_is (node (straight-edge f n s)));
        steps = steps-to o old new n v from (place_after (f.instr n) (f.uses n) v) (map So (conditions (f.instr n) Next (names v (f.uses n))) ++ new_facts (f.instr n) (f.addr n) (size f n) (f.uses n) v) t s steps;
      }))

  pub reaches-then : (o : OriginTree) (a b c : WriterTree) (n : ℕ) (v : VariableMap) (room : ℕ) (from : Option CitedTree) (m : ℕ) (u : VariableMap) (left : ℕ) (t : CitedTree) (k : ℕ) (w : VariableMap) (rest : ℕ) (x : CitedTree) →
      Reaches f o ranges a b n v room from m u left t → f.is_cut m ≡ false → Reaches f o ranges b c m u left (Some t) k w rest x → Reaches f o ranges a c n v room from k w rest x
  reaches-then o a b c n v room from m u left t k w rest x first cut second = record {
    more = first.more ++ second.more;
    runs = runs-then f o.regs n v room m u left k w rest first.more second.more first.runs cut second.runs;
    steps = steps-then o a b c (Const (f.addr n)) v from (Const (f.addr m)) u first.more t (Const (f.addr k)) w second.more x first.steps second.steps;
  }

-- ---- a block

none-behind : {A : Type 0} (xs : List A) → drop (length xs) xs ≡ []
none-behind [] = refl
none-behind (x ∷ xs) = none-behind xs

same-behind : {A : Type 0} (xs ys : List A) → ys ++ drop (length xs) xs ≡ ys
same-behind xs ys = ap (λ zs. ys ++ zs) (none-behind xs) ∙ append-nil ys

module _ (f : Flow) (ranges : List Range) (code : IsCode f ranges) (regs : List ℕ) (rise : AreRegistersFrom 1 regs) (within : (r : ℕ) → Contains regs r → Contains f.regs r) (n : ℕ) (v : VariableMap) where
  abbrev block : OriginTree
  block = record { regs = regs; entry = f.addr n; place = v }

  block-framed : (facts : List FactTree) (own_code : List Range) (to : WordTree) (u : VariableMap) → ((r : ℕ) → Contains f.regs r → (Contains regs r → ⊥) → v.reg r ≡ u.reg r) →
      IsFramed (record { facts = facts; pre = standing_on f block (Const (f.addr n)) v; code = own_code; post = standing_on f block to u }) (record { facts = facts; pre = standing_at f (Const (f.addr n)) v; code = own_code; post = standing_at f to u })
  block-framed facts own_code to u kept = record {
    facts = refl;
    code = refl;
    pre_pc = refl;
    post_pc = refl;
    pre_regs = wider-regs regs f.regs rise code.registers within (λ r. Var (v.reg r));
    post_regs = wider-regs regs f.regs rise code.registers within (λ r. Var (u.reg r));
    further_regs = further-regs regs f.regs rise code.registers within (λ r. Var (v.reg r)) (λ r. Var (u.reg r)) (λ r c t. ap Var (kept r c (not_in regs r t)));
    pre_mems = same-behind (map (λ q. MemVar (v.memory q)) (range_with_len 0 f.mems)) (map (λ q. MemVar (v.memory q)) (range_with_len 0 f.mems));
    post_mems = same-behind (map (λ q. MemVar (v.memory q)) (range_with_len 0 f.mems)) (map (λ q. MemVar (u.memory q)) (range_with_len 0 f.mems));
  }

  -- its lines over its own registers, then over all, joined to the way to here
  pub block-reaches : (entry : ℕ) (old mid new : WriterTree) (room : ℕ) (from : Option CitedTree) (m : ℕ) (u : VariableMap) (left : ℕ) (t x : CitedTree) → Reaches f block ranges old mid n v room None m u left t →
      GoesOn f (front f entry) from (framed_standing t mid) (Const (f.addr m)) u (framed f (f.addr n) v (f.addr m) u t mid) new x → Reaches f (front f entry) ranges old new n v room from m u left x
  block-reaches entry old mid new room from m u left t x inner on = record {
    more = inner.more;
    runs = record { over = inner.runs.over; node = inner.runs.node; next = inner.runs.next; kept = λ r c none. absurd (none c); fewer = inner.runs.fewer; words = inner.runs.words; mems = inner.runs.mems };
    steps = record {
      version = goes-version f (front f entry) from (framed_standing t mid) x (Const (f.addr m)) u (framed f (f.addr n) v (f.addr m) u t mid) new on ∙ inner.steps.version;
      each = λ s path ready here.
          let wide : TripleTree = record { facts = t.facts; pre = standing_at f (Const (f.addr n)) v; code = t.code; post = standing_at f (Const (f.addr m)) u } in
          let narrow : TripleTree = record { facts = t.facts; pre = standing_on f block (Const (f.addr n)) v; code = t.code; post = standing_on f block (Const (f.addr m)) u } in
          let last : WriterTree = framed f (f.addr n) v (f.addr m) u t mid in
          let stood = inner.steps.each s [] ready (refl, refl, refl) in
          let meets : Meets (group_in f ranges s) (past f ranges s mid) (Frame t.number) wide =
          some_and ((past f ranges s mid).theorem t.number) narrow (λ p. IsFramed p wide) stood.stands.held (block-framed t.facts t.code (Const (f.addr m)) u inner.runs.kept) in
          let grown = grown_join f ranges s old mid last stood.grown (grown_state f ranges s (Frame t.number) wide mid stood.grown.ready meets) in
          let end = goes_on f ranges s (front f entry) last new (Const (f.addr n)) v path (path ++ inner.more) from (framed_standing t mid) x (Const (f.addr m)) u grown.ready
          (from_on f ranges s (front f entry) old last (Const (f.addr n)) v path from grown here) (held_now f ranges s (Frame t.number) wide mid stood.grown.ready) stood.stands.code
          (record { each = λ y c. Contains-append_right path inner.more y (stood.stands.facts.each y c) }) (record { each = λ y c. Contains-append_left path inner.more y c }) on in
          record { grown = grown_join f ranges s old last new grown end.grown; cited = end.cited ∙ stood.cited; stands = end.stands };
    };
  }

  -- .. as they were made
  pub block_made : (entry : ℕ) (old mid last new : WriterTree) (room : ℕ) (from : Option CitedTree) (m : ℕ) (u : VariableMap) (left : ℕ) (t y x : CitedTree) (a b : ℕ) → a ≡ f.addr n → b ≡ f.addr m →
      Reaches f (record { regs = regs; entry = a; place = v }) ranges old mid n v room None m u left t → y ≡ framed_standing t mid → last ≡ framed f a v b u t mid → GoesOn f (front f entry) from y (Const b) u last new x →
      Reaches f (front f entry) ranges old new n v room from m u left x
  block_made entry old mid last new room from m u left t y x a b a_is b_is inner y_is last_is on =
      block-reaches entry old mid new room from m u left t x (subst (λ (k : ℕ). Reaches f (record { regs = regs; entry = k; place = v }) ranges old mid n v room None m u left t) a_is inner)
      (subst (λ (k : ℕ). GoesOn f (front f entry) from (framed_standing t mid) (Const k) u (framed f (f.addr n) v k u t mid) new x) b_is
      (subst (λ (k : ℕ). GoesOn f (front f entry) from (framed_standing t mid) (Const b) u (framed f k v b u t mid) new x) a_is
      (subst (λ (l : WriterTree). GoesOn f (front f entry) from (framed_standing t mid) (Const b) u l new x) last_is (subst (λ (z : CitedTree). GoesOn f (front f entry) from z (Const b) u last new x) y_is on))))
