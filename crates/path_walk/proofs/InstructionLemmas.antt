-- The lines of one instruction lead from its place to the next.
use Rattle.std.proofs.Common.{◌≡◌, ℕ, ◌<◌, ◌≤◌, arith, List, ◌++◌, map, Bool, true, false, eqb, refl, sym, ap, ◌∙◌, subst, Option, Some, Contains, eqb-true, inl, inr, ◌||◌}
use Rattle.std.proofs.lemmas.List.Elements.{Contains-append_left, Contains-append_right}
use Rattle.rv_words.specs.declared.range.Range.{Range}
use Rattle.rv_decode.specs.declared.instruction.Instr.{Instr}
use Rattle.rv_decode.specs.Registers.{destination, is_read, sources}
use Rattle.word_terms.specs.Tree.{WordTree, Const}
use Rattle.triple_kernel.specs.declared.form.Form.{Form}
use Rattle.triple_kernel.specs.Rules.{IsInst, IsWeakened}
use Rattle.triple_kernel.specs.Tree.{FactTree, So, TripleTree}
use Rattle.frame_compose.specs.Rules.{IsFramed}
use Rattle.group_text.specs.declared.version.Version.{Version as Known}
use Rattle.proof_text.specs.Line.{Axiom, Frame, Further, Inst, Weaken}
use Rattle.verdicts.specs.Instance.{InstanceBy, Meets, put_for}
use Rattle.instr_axioms.specs.Terms.{conditions, has_form, has_memory, pc_after}
use Rattle.instr_axioms.specs.Axiom.{own, own_triple, triple_over, word_code}
use Rattle.code_parts.specs.Bodies.{Flow, VariableMap, size, names, place_after}
use Rattle.code_parts.specs.Graph.{StandsAt}
use Rattle.tailrec_lang.specs.Registers.{AreRegistersFrom}
use Rattle.verdicts.specs.Further.{further_of}
use Rattle.path_walk.specs.Further.{is_crossed}
use Rattle.path_walk.specs.inner.Acts.{Acted, GoesOn, HasOwn, Ordered, Put, Renamed, act_standing, all_mems, mem_first, named_own, named_wide, new_facts, own_mems, own_words}
use Rattle.path_walk.specs.inner.Writers.{FromAs, IsReady, Restated, WriterTree, Context, CitedTree, OriginTree, Steps, Stood, group_in, past, stating, stating_further}
use Rattle.path_walk.proofs.WriterLemmas.{Ends, ends_restated, ends_state, from_on, grown_add, grown_join, held_add}
use Rattle.path_walk.proofs.Joins.{some_and}
use Rattle.path_walk.proofs.Lines.{axiom-is, in-order, is_exchanged, is_framed, is_put, is_weakened, own-rise, own-test}
use Rattle.code_parts.proofs.Lists.{in_range, in-contains}
use Rattle.path_walk.proofs.JoinedLines.{goes-version, goes_on}
use Rattle.path_walk.proofs.OrderedLines.{acted-version}

module _ (f : Flow) (ranges : List Range) (n : ℕ) (at : StandsAt f ranges n) where
  -- all registers have an instruction's own
  pub has_own : HasOwn f.regs (f.instr n)
  has_own r c = go (eqb (destination (f.instr n)) r) refl (own-test (f.instr n) r c)
    where
      low : r ≡ 0 → ⊥
      low e = let range = in_range 1 (own (f.instr n)) r (own-rise (f.instr n)) c in absurd (omega (arith, e, range.0))

      go : (b : Bool) → eqb (destination (f.instr n)) r ≡ b → (b || is_read (f.instr n) r) ≡ true → Contains f.regs r
      go true is e = let same : destination (f.instr n) ≡ r = eqb-true (destination (f.instr n)) r is in subst (Contains f.regs) same (at.writes (λ z. low (sym same ∙ z)))
      go false is e = at.reads r (in-contains (sources (f.instr n)) r e) low

module _ (f : Flow) (ranges : List Range) (s : Context f ranges) (n : ℕ) (node : n < f.nodes) (at : StandsAt f ranges n) (regs : List ℕ) (rise : AreRegistersFrom 1 regs) (within : HasOwn regs (f.instr n)) where
  reads : (r : ℕ) → Contains (sources (f.instr n)) r → (r ≡ 0 → ⊥) → (1 ≤ r) × (r ≤ 31)
  reads r c ne = in_range 1 f.regs r s.code.registers (at.reads r c ne)

  module _ (form : Form) (has : has_form (f.instr n) form ≡ true) (v : VariableMap) (l : WriterTree) (ready : IsReady f ranges s l) where
    abbrev code : List Range
    code = word_code (f.addr n) (f.word n)

    abbrev t0 : TripleTree
    t0 = own_triple (f.instr n) form (f.addr n) (f.word n)

    abbrev t1 : TripleTree
    t1 = triple_over (f.instr n) form (f.addr n) (size f n) code (own (f.instr n)) (has_memory (f.instr n)) (names v (f.uses n))

    abbrev t2 : TripleTree
    t2 = named_own (f.instr n) form (f.addr n) (f.word n) (f.uses n) v

    abbrev t3 : TripleTree
    t3 = named_wide regs (f.instr n) form (f.addr n) (f.word n) (mem_first (f.instr n) (f.uses n) f.mems) (f.uses n) v

    abbrev t4 : TripleTree
    t4 = named_wide regs (f.instr n) form (f.addr n) (f.word n) (all_mems f.mems) (f.uses n) v

    abbrev l1 : WriterTree
    l1 = stating (Axiom (f.addr n) (f.word n) form) t0 l

    ends-first : Ends f ranges s l l1 l.next t0
    ends-first = ends_state f ranges s (Axiom (f.addr n) (f.word n) form) t0 l ready (at.address, at.small, axiom-is (f.instr n) (f.addr n) (f.word n) form at.even at.room at.is has)

    ends-put : (new : WriterTree) (k : ℕ) → Put (f.instr n) form (f.addr n) (f.word n) (f.uses n) v l new k → Ends f ranges s l new k t1
    ends-put new k is =
        let meets : Meets (group_in f ranges s) (past f ranges s l1) (Inst l.next (own_words (f.instr n) v) (own_mems (f.instr n) (f.uses n) v)) t1 =
        some_and ((past f ranges s l1).theorem l.next) t0 (λ p. IsInst (put_for (own_words (f.instr n) v) (own_mems (f.instr n) (f.uses n) v)) p t1) ends-first.held (is_put (f.instr n) (f.uses n) v reads form (f.addr n) (f.word n)) in
        ends_restated f ranges s l l1 new l.next k (Inst l.next (own_words (f.instr n) v) (own_mems (f.instr n) (f.uses n) v)) t0 t1 ends-first meets is

    ends-renamed : (mid new : WriterTree) (current k : ℕ) → Ends f ranges s l mid current t1 → Renamed (f.instr n) form (f.addr n) (f.word n) (f.uses n) v current mid new k → Ends f ranges s l new k t2
    ends-renamed mid new current k ends is =
        let meets : Meets (group_in f ranges s) (past f ranges s mid) (Weaken current) t2 =
        some_and ((past f ranges s mid).theorem current) t1 (λ p. IsWeakened p t2) ends.held (is_weakened (f.instr n) form (f.addr n) (f.word n) (f.uses n) v) in
        ends_restated f ranges s l mid new current k (Weaken current) t1 t2 ends meets is

    ends-framed : (mid new : WriterTree) (named k : ℕ) → Ends f ranges s l mid named t2 → Restated named (Frame named) t2 t3 mid new k → Ends f ranges s l new k t3
    ends-framed mid new named k ends is =
        let meets : Meets (group_in f ranges s) (past f ranges s mid) (Frame named) t3 =
        some_and ((past f ranges s mid).theorem named) t2 (λ p. IsFramed p t3) ends.held (is_framed regs f.mems (f.instr n) form (f.addr n) (f.word n) (f.uses n) rise within v) in
        ends_restated f ranges s l mid new named k (Frame named) t2 t3 ends meets is

    -- .. after the exchange of the two memories
    ends-exchanged : (mid : WriterTree) (framed : ℕ) → Ends f ranges s l mid framed t3 → is_crossed (f.instr n) (f.uses n) ≡ true → Ends f ranges s l (stating_further framed t4 mid) mid.next t4
    ends-exchanged mid framed ends is =
        let rule = s.fits.crossed n node is in
        let further : further_of s.version t3 t4 = subst (λ (k : Known). further_of k t3 t4) (sym rule.0) (is_exchanged regs f.mems (f.instr n) form (f.addr n) (f.word n) (f.uses n) v at.memory rule.1 is) in
        let right : InstanceBy (further_of s.version) (group_in f ranges s) (past f ranges s mid) (Further framed t4) =
        some_and ((past f ranges s mid).theorem framed) t3 (λ p. further_of s.version p t4) ends.held further in
        record {
          grown = grown_join f ranges s l mid (stating_further framed t4 mid) ends.grown (grown_add f ranges s (Further framed t4) t4 (λ h. refl) mid ends.grown.ready right);
          cited = ends.cited;
          held = held_add f ranges s (Further framed t4) t4 (λ h. refl) mid ends.grown.ready;
        }

    ends-ordered : (mid new : WriterTree) (framed k : ℕ) → Ends f ranges s l mid framed t3 → Ordered regs f.mems (f.instr n) form (f.addr n) (f.word n) (f.uses n) v framed mid new k → Ends f ranges s l new k t4
    ends-ordered mid new framed k ends (inl is) =
        let same : t3 ≡ t4 = ap (λ (ms : List ℕ). named_wide regs (f.instr n) form (f.addr n) (f.word n) ms (f.uses n) v) (in-order (f.instr n) (f.uses n) f.mems at.memory is.0) in
        subst (λ (x : WriterTree). Ends f ranges s l x k t4) (sym is.1) (record { grown = ends.grown; cited = ends.cited; held = ap (past f ranges s mid).theorem is.2 ∙ ends.held ∙ ap Some same })
    ends-ordered mid new framed k ends (inr is) =
        subst (λ (x : WriterTree). Ends f ranges s l x k t4) (sym is.1) (subst (λ (j : ℕ). Ends f ranges s l (stating_further framed t4 mid) j t4) (sym is.2) (ends-exchanged mid framed ends is.0))

    ends-acted : (new : WriterTree) (k : ℕ) → Acted regs f.mems (f.instr n) form (f.addr n) (f.word n) (f.uses n) v l new k → Ends f ranges s l new k t4
    ends-acted new k lines =
        let put = ends-put lines.second lines.current lines.put in
        let named = ends-renamed lines.second lines.third lines.current lines.named put lines.renamed in
        let framed = ends-framed lines.third lines.widened.mid lines.named lines.widened.framed named lines.widened.wide in
        ends-ordered lines.widened.mid new lines.widened.framed k framed lines.widened.order

    -- .. joined to the way to here
    abbrev from_here : ℕ → VariableMap → OriginTree
    from_here entry place = record { regs = regs; entry = entry; place = place }

    act_stood : (entry : ℕ) (place : VariableMap) (mid new : WriterTree) (k : ℕ) (path : List FactTree) (from : Option CitedTree) (t : CitedTree) → FromAs f (from_here entry place) ranges (past f ranges s l) (Const (f.addr n)) v path from →
        Acted regs f.mems (f.instr n) form (f.addr n) (f.word n) (f.uses n) v l mid k →
        GoesOn f (from_here entry place) from (act_standing (f.instr n) form (f.addr n) (f.word n) (f.uses n) v k) (pc_after (f.instr n) form (f.addr n) (size f n) (names v (f.uses n))) (place_after (f.instr n) (f.uses n) v) mid new t →
        Stood f (from_here entry place) ranges s l new (pc_after (f.instr n) form (f.addr n) (size f n) (names v (f.uses n))) (place_after (f.instr n) (f.uses n) v) (path ++ (map So (conditions (f.instr n) form (names v (f.uses n))) ++ new_facts (f.instr n) (f.addr n) (size f n) (f.uses n) v)) t
    act_stood entry place mid new k path from t here lines on =
        let ends = ends-acted mid k lines in
        let news : List FactTree = map So (conditions (f.instr n) form (names v (f.uses n))) ++ new_facts (f.instr n) (f.addr n) (size f n) (f.uses n) v in
        let end = goes_on f ranges s (from_here entry place) mid new (Const (f.addr n)) v path (path ++ news) from (act_standing (f.instr n) form (f.addr n) (f.word n) (f.uses n) v k) t (pc_after (f.instr n) form (f.addr n) (size f n) (names v (f.uses n))) (place_after (f.instr n) (f.uses n) v)
        ends.grown.ready (from_on f ranges s (from_here entry place) l mid (Const (f.addr n)) v path from ends.grown here) ends.held at.bytes
        (record { each = λ x c. Contains-append_right path news x c }) (record { each = λ x c. Contains-append_left path news x c }) on in
        record { grown = grown_join f ranges s l mid new ends.grown end.grown; cited = end.cited ∙ ends.cited; stands = end.stands }

-- they are steps to there
pub act_steps : (f : Flow) (ranges : List Range) (n : ℕ) (o : OriginTree) (form : Form) (v : VariableMap) (old mid new : WriterTree) (k : ℕ) (from : Option CitedTree) (t : CitedTree) → n < f.nodes → StandsAt f ranges n → AreRegistersFrom 1 o.regs → HasOwn o.regs (f.instr n) →
    has_form (f.instr n) form ≡ true → Acted o.regs f.mems (f.instr n) form (f.addr n) (f.word n) (f.uses n) v old mid k →
    GoesOn f o from (act_standing (f.instr n) form (f.addr n) (f.word n) (f.uses n) v k) (pc_after (f.instr n) form (f.addr n) (size f n) (names v (f.uses n))) (place_after (f.instr n) (f.uses n) v) mid new t →
    Steps f o ranges old new (Const (f.addr n)) v from (pc_after (f.instr n) form (f.addr n) (size f n) (names v (f.uses n))) (place_after (f.instr n) (f.uses n) v) (map So (conditions (f.instr n) form (names v (f.uses n))) ++ new_facts (f.instr n) (f.addr n) (size f n) (f.uses n) v) t
act_steps f ranges n o form v old mid new k from t node at rise within has lines on = record {
  version = goes-version f o from (act_standing (f.instr n) form (f.addr n) (f.word n) (f.uses n) v k) t (pc_after (f.instr n) form (f.addr n) (size f n) (names v (f.uses n))) (place_after (f.instr n) (f.uses n) v) mid new on
      ∙ acted-version o.regs f.mems (f.instr n) form (f.addr n) (f.word n) (f.uses n) v old mid k lines;
  each = λ s path ready here. act_stood f ranges s n node at o.regs rise within form has v old ready o.entry o.place mid new k path from t here lines on;
}

-- .. as they were made
pub steps_made : (f : Flow) (ranges : List Range) (n : ℕ) (o : OriginTree) (form : Form) (v : VariableMap) (old mid new : WriterTree) (k : ℕ) (from : Option CitedTree) (last t : CitedTree) (pc : WordTree) (u : VariableMap) → n < f.nodes → StandsAt f ranges n → AreRegistersFrom 1 o.regs → HasOwn o.regs (f.instr n) →
    has_form (f.instr n) form ≡ true → last ≡ act_standing (f.instr n) form (f.addr n) (f.word n) (f.uses n) v k → Acted o.regs f.mems (f.instr n) form (f.addr n) (f.word n) (f.uses n) v old mid k →
    pc ≡ pc_after (f.instr n) form (f.addr n) (size f n) (names v (f.uses n)) → u ≡ place_after (f.instr n) (f.uses n) v → GoesOn f o from last pc u mid new t →
    Steps f o ranges old new (Const (f.addr n)) v from (pc_after (f.instr n) form (f.addr n) (size f n) (names v (f.uses n))) (place_after (f.instr n) (f.uses n) v) (map So (conditions (f.instr n) form (names v (f.uses n))) ++ new_facts (f.instr n) (f.addr n) (size f n) (f.uses n) v) t
steps_made f ranges n o form v old mid new k from last t pc u node at rise within has last_is lines pc_is u_is on =
    act_steps f ranges n o form v old mid new k from t node at rise within has lines
    (subst (λ (x : CitedTree). GoesOn f o from x (pc_after (f.instr n) form (f.addr n) (size f n) (names v (f.uses n))) (place_after (f.instr n) (f.uses n) v) mid new t) last_is
    (subst (λ (x : WordTree). GoesOn f o from last x (place_after (f.instr n) (f.uses n) v) mid new t) pc_is (subst (λ (x : VariableMap). GoesOn f o from last pc x mid new t) u_is on)))

-- the lines of one instruction, where it and its address, its word and its memory are these
pub acted_of : (regs : List ℕ) (mems : ℕ) (i j : Instr) (form : Form) (a b w x q r : ℕ) (v : VariableMap) (old new : WriterTree) (k : ℕ) → i ≡ j → a ≡ b → w ≡ x → q ≡ r → Acted regs mems i form a w q v old new k → Acted regs mems j form b x r v old new k
acted_of regs mems i j form a b w x q r v old new k i_is a_is w_is q_is lines =
    subst (λ (y : Instr). Acted regs mems y form b x r v old new k) i_is
    (subst (λ (y : ℕ). Acted regs mems i form y x r v old new k) a_is
    (subst (λ (y : ℕ). Acted regs mems i form a y r v old new k) w_is (subst (λ (y : ℕ). Acted regs mems i form a w y v old new k) q_is lines)))
