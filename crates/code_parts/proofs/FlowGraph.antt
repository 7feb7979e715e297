-- A graph and its forest are what bodies of parts rest on.
use Rattle.std.proofs.Common.{◌≡◌, ◌≢◌, ℕ, zero, suc, ◌+◌, ◌-◌, ◌<◌, List, [], ◌∷◌, map, length, get_or, Bool, true, false, cond, eqb, ltb, ◌||◌, refl, sym, ap, subst, ◌∙◌, arith, Option, None, Some, option_map, inl, inr, eq-eqb}
use Rattle.std.proofs.lemmas.Bool.{eqb-false, lt-ltb}
use Rattle.std.specs.Option.{unwrap_or, option_or}
use Rattle.std.specs.Prelude.{slice_get}
use Rattle.std.specs.List.{Contains, list_any}
use Rattle.rv_words.specs.Bytes.{Bytes}
use Rattle.rv_decode.specs.declared.instruction.Instr.{Instr}
use Rattle.rv_decode.specs.declared.instruction.Instr.TheVariants as instr
use Rattle.triple_kernel.specs.declared.form.Form.{Form}
use Rattle.triple_kernel.specs.declared.form.Form.TheVariants.{Next, Taken}
use Rattle.rvc.specs.Number.{length_of}
use Rattle.flow_graph.specs.Flow.{called_by, leads, length_in, targets}
use Rattle.flow_graph.specs.Graph.{GraphOf, HasEdge, IsFlow, IsGraphOf, succs_of}
use Rattle.flow_graph.proofs.ExactLemmas.{graph_looks, graph_numbers}
use Rattle.flow_graph.proofs.FlowLemmas.{is_flow}
use Rattle.flow_graph.proofs.GraphLaws.{successors_are}
use Rattle.flow_graph.proofs.Ways.{node_at}
use Rattle.loop_forest.specs.Forest.{ForestOf, IsForestOf, exits_of, head_of, place_of, region_of}
use Rattle.loop_forest.specs.Walking.{IsPlacedIn, IsWalkable, inner_of, loop_of}
use Rattle.loop_forest.proofs.WalkLaws.{walkable}
use Rattle.code_parts.specs.Bodies.{Flow, index_of, rest_targets}
use Rattle.code_parts.specs.declared.callee.Callee.{Callee}
use Rattle.code_parts.specs.Graph.{IsEdge, IsGraph, IsPlaced, has_edge, is_jump_through}
use Rattle.code_parts.specs.Flows.{Context, edge_number, flow_of}
use Rattle.code_parts.proofs.Lists.{contains-cases}

-- ---- lists

index-found : (xs : List ℕ) (n : ℕ) → Contains xs n → (k : ℕ) × (index_of xs n ≡ Some k)
index-found [] n c = absurd (omega (arith, c.1))
index-found (x ∷ xs) n c = go (eqb n x) refl (λ d. index-found xs n d)
  where
    rest : eqb n x ≡ false → Contains xs n
    rest is = contains-cases x xs n c (λ e. absurd (eqb-false n x is (sym e))) (λ d. d)

    go : (b : Bool) → eqb n x ≡ b → (Contains xs n → (k : ℕ) × (index_of xs n ≡ Some k)) → (k : ℕ) × (cond b (Some 0) (option_map suc (index_of xs n)) ≡ Some k)
    go true is on = (0, refl)
    go false is on = let r = on (rest is) in (suc r.0, ap (option_map suc) r.1)

-- an item that passes a test
pub any-at : {A : Type 0} (p : A → Bool) (xs : List A) (n : ℕ) (d : A) → n < length xs → p (get_or xs n d) ≡ true → list_any p xs ≡ true
any-at p [] n d lt e = absurd (omega arith)
any-at p (x ∷ xs) zero d lt e = (λ i. e i || list_any p xs)
any-at p (x ∷ xs) (suc n) d lt e = go (p x) (any-at p xs n d (omega (arith, lt)) e)
  where
    go : (b : Bool) → list_any p xs ≡ true → (b || list_any p xs) ≡ true
    go true h = refl
    go false h = h

-- an item of a list that another is mapped to
pub mapped-at : (h : ℕ → ℕ) (ns ts : List ℕ) (k : ℕ) → map h ns ≡ ts → k < length ts → (k < length ns) × (h (get_or ns k 0) ≡ get_or ts k 0)
mapped-at h [] [] k e lt = absurd (omega arith)
mapped-at h [] (t ∷ ts) k e lt = absurd (cc)
mapped-at h (n ∷ ns) [] k e lt = absurd (omega arith)
mapped-at h (n ∷ ns) (t ∷ ts) zero e lt = let same : h n ≡ t = cc in (omega arith, same)
mapped-at h (n ∷ ns) (t ∷ ts) (suc k) e lt =
    let rest : map h ns ≡ ts = cc in
    let r = mapped-at h ns ts k rest (omega (arith, lt)) in
    (omega (arith, r.0), r.1)

mapped-none : (h : ℕ → ℕ) (ns : List ℕ) → map h ns ≡ [] → ns ≡ []
mapped-none h [] e = refl
mapped-none h (n ∷ ns) e = absurd (cc)

-- ---- edges

-- where an instruction has an edge in a form, it leads to a target
pub has-target : (a k : ℕ) (i : Instr) (form : Form) → has_edge i form ≡ true → edge_number form < length (targets a k i)
has-target a k (instr.Branch c rs1 rs2 offset) Next e = omega arith
has-target a k (instr.Branch c rs1 rs2 offset) Taken e = omega arith
has-target a k (instr.Jalr rd rs1 imm) form e = absurd (cc)
has-target a k (instr.Op o rd rs1 rs2) Next e = omega arith
has-target a k (instr.Op o rd rs1 rs2) Taken e = absurd (cc)
has-target a k (instr.OpImm o rd rs1 imm) Next e = omega arith
has-target a k (instr.OpImm o rd rs1 imm) Taken e = absurd (cc)
has-target a k (instr.Lui rd imm) Next e = omega arith
has-target a k (instr.Lui rd imm) Taken e = absurd (cc)
has-target a k (instr.Auipc rd imm) Next e = omega arith
has-target a k (instr.Auipc rd imm) Taken e = absurd (cc)
has-target a k (instr.Jal rd offset) Next e = omega arith
has-target a k (instr.Jal rd offset) Taken e = absurd (cc)
has-target a k (instr.Load w signed rd rs1 imm) Next e = omega arith
has-target a k (instr.Load w signed rd rs1 imm) Taken e = absurd (cc)
has-target a k (instr.Store w rs1 rs2 imm) Next e = omega arith
has-target a k (instr.Store w rs1 rs2 imm) Taken e = absurd (cc)
has-target a k (instr.Fence imm rs1 rd) Next e = omega arith
has-target a k (instr.Fence imm rs1 rd) Taken e = absurd (cc)
has-target a k instr.Ecall Next e = omega arith
has-target a k instr.Ecall Taken e = absurd (cc)
has-target a k instr.Ebreak Next e = omega arith
has-target a k instr.Ebreak Taken e = absurd (cc)

-- a return has none
no-target : (a k : ℕ) (i : Instr) → is_jump_through i ≡ true → targets a k i ≡ []
no-target a k (instr.Jalr rd rs1 imm) e = refl
no-target a k (instr.Branch c rs1 rs2 offset) e = absurd (cc)
no-target a k (instr.Op o rd rs1 rs2) e = absurd (cc)
no-target a k (instr.OpImm o rd rs1 imm) e = absurd (cc)
no-target a k (instr.Lui rd imm) e = absurd (cc)
no-target a k (instr.Auipc rd imm) e = absurd (cc)
no-target a k (instr.Jal rd offset) e = absurd (cc)
no-target a k (instr.Load w signed rd rs1 imm) e = absurd (cc)
no-target a k (instr.Store w rs1 rs2 imm) e = absurd (cc)
no-target a k (instr.Fence imm rs1 rd) e = absurd (cc)
no-target a k instr.Ecall e = absurd (cc)
no-target a k instr.Ebreak e = absurd (cc)

not_zero : (n : ℕ) → eqb n 0 ≡ false → n ≢ 0
not_zero n e = eqb-false n 0 e

module _ (linked : Bool) (code : Bytes) (entry : ℕ) (g : GraphOf) (f : ForestOf) (s : Context) (graph : IsGraphOf linked code entry g) (forest : IsForestOf g f) where
  abbrev the_flow : Flow
  the_flow = flow_of g f s

  abbrev Numbered : ℕ → Type 0
  Numbered l = l < length f.heads

  pub flow : IsFlow g
  flow = is_flow linked code entry g graph

  pub walks : IsWalkable g f
  walks = walkable g f flow forest

  abbrev address : ℕ → ℕ
  address n = get_or g.addrs n 0

  abbrev instr_at : ℕ → Instr
  instr_at n = get_or g.instrs n instr.Ebreak

  -- the edges of a node lead to the targets of its instruction
  pub successors : (n : ℕ) → n < length g.addrs → map (λ m. get_or g.addrs m 0) (succs_of g.edges n) ≡ targets (get_or g.addrs n 0) (length_of (get_or g.numbers n 0)) (get_or g.instrs n instr.Ebreak)
  successors n lt =
      successors_are linked code entry g n graph lt ∙ ap (leads (address n) (length_in code (address n))) (graph_looks linked code entry g graph n instr.Ebreak lt)
      ∙ (λ j. targets (address n) (length_of (unwrap_or (graph_numbers linked code entry g n graph lt j) 0)) (get_or g.instrs n instr.Ebreak))

  pub edge-at : (n : ℕ) (form : Form) → n < length g.addrs → has_edge (get_or g.instrs n instr.Ebreak) form ≡ true →
      (edge_number form < length (succs_of g.edges n)) × (get_or g.addrs (get_or (succs_of g.edges n) (edge_number form) 0) 0 ≡ get_or (targets (get_or g.addrs n 0) (length_of (get_or g.numbers n 0)) (get_or g.instrs n instr.Ebreak)) (edge_number form) 0)
  edge-at n form lt has = mapped-at (λ m. get_or g.addrs m 0) (succs_of g.edges n) (targets (address n) (length_of (get_or g.numbers n 0)) (instr_at n)) (edge_number form) (successors n lt) (has-target (address n) (length_of (get_or g.numbers n 0)) (instr_at n) form has)

  pub edge : (n m : ℕ) → n < length g.addrs → IsEdge (flow_of g f s) n m → HasEdge g n m
  edge n m lt x = subst (Contains (succs_of g.edges n)) x.2 (node_at (succs_of g.edges n) (edge_number x.0) (edge-at n x.0 lt x.1).0)

  -- ---- regions

  region-numbered : (n l : ℕ) → n < length g.addrs → region_of f n ≡ Some l → Numbered l
  region-numbered n l lt e = forest.within n l lt e

  pub inner-numbered : (n l : ℕ) → n < length g.addrs → inner_of f n ≡ Some l → Numbered l
  inner-numbered n l lt e = go (loop_of f n) refl e
    where
      go : (o : Option ℕ) → loop_of f n ≡ o → option_or o (region_of f n) ≡ Some l → Numbered l
      go None is e = forest.within n l lt e
      go (Some k) is e = let same : k ≡ l = cc in subst Numbered same (walks.own n k is).0

  pub exits-are : (l : ℕ) → l < length f.heads → cond (ltb l (length f.heads)) (exits_of f l) [] ≡ exits_of f l
  exits-are l lt = λ i. cond (lt-ltb l (length f.heads) lt i) (exits_of f l) []

  -- a place in a region is one of its targets, or a node of it
  pub placed-in : (r : Option ℕ) (m : ℕ) → ((l : ℕ) → r ≡ Some l → l < length f.heads) → IsPlacedIn f r m → IsPlaced (flow_of g f s) r m
  placed-in None m within p = inr p
  placed-in (Some l) m within (inl at) = inl (index-found (rest_targets the_flow (Some l)) m (0, omega arith, sym at))
  placed-in (Some l) m within (inr (inl c)) =
      let there : Contains (the_flow.exits l) m = subst (λ xs. Contains xs m) (sym (exits-are l (within l refl))) c in
      inl (index-found (rest_targets the_flow (Some l)) m (suc there.0, omega (arith, there.1), there.2))
  placed-in (Some l) m within (inr (inr at)) = inr at

  pub region-within : (n : ℕ) → n < length g.addrs → (l : ℕ) → region_of f n ≡ Some l → l < length f.heads
  region-within n lt l e = region-numbered n l lt e

  pub exit-there : (xs ys : List ℕ) (k x : ℕ) → xs ≡ ys → slice_get xs k ≡ Some x → Contains ys x
  exit-there xs ys k x same e = subst (λ zs. Contains zs x) same (from xs k x e)
    where
      from : (xs : List ℕ) (k x : ℕ) → slice_get xs k ≡ Some x → Contains xs x
      from [] k x e = absurd (cc)
      from (y ∷ xs) zero x e = let same : y ≡ x = cc in (0, omega arith, same)
      from (y ∷ xs) (suc k) x e = let r = from xs k x e in (suc r.0, omega (arith, r.1), r.2)

  pub is-graph : IsGraph (flow_of g f s)
  is-graph = record {
    inner = inner_of f;
    rank = λ n. 31 - place_of f n;
    stays = λ n m lt x cut.
        let there = edge n m lt x in
        let inside = flow.within n m there in
        let apart = not_zero (place_of f m) cut in
        (inside, walks.stays n m there apart, nearer n m (walks.next n m there apart) (walks.near m inside));
    placed = λ n m lt x cut.
        let there = edge n m lt x in
        (flow.within n m there, placed-in (inner_of f n) m (λ l e. inner-numbered n l lt e) (walks.placed n m there));
    near = λ n lt. omega arith;
    returned = λ n lt e. (walks.returned n lt (no-edges n lt e), any-at is_jump_through g.instrs n instr.Ebreak (instructed n lt) e);
    cut_inner = λ n lt cut none. (λ i. option_or (none i) (region_of f n));
    calls = λ n c lt e. jumps (address n) (instr_at n) c e;
    head_is = λ n l lt e. walks.own n l e;
    loop_head = λ l lt. let h = walks.head l lt in (h.0, h.2);
    loop_exit = λ l k x lt at.
        let there = exit-there (the_flow.exits l) (exits_of f l) k x (exits-are l lt) at in
        let h = walks.exit l x lt there in
        let head = walks.head l lt in
        (h.0, eq-eqb (place_of f x) 0 h.1, placed-in (region_of f (head_of f l)) x (λ j e. region-numbered (head_of f l) j head.0 e) h.2);
  }
    where
      nearer : (n m : ℕ) → place_of f m ≡ place_of f n + 1 → place_of f m < 32 → 31 - place_of f m < 31 - place_of f n
      nearer n m next low = omega (arith, next, low)

      instructed : (n : ℕ) → n < length g.addrs → n < length g.instrs
      instructed n lt = omega (arith, lt, flow.as_long)

      jumps : (a : ℕ) (i : Instr) (c : Callee) → option_map s.functions (called_by a i) ≡ Some c → has_edge i Next ≡ true
      jumps a (instr.Jal rd offset) c e = refl
      jumps a (instr.Op o rd rs1 rs2) c e = refl
      jumps a (instr.OpImm o rd rs1 imm) c e = refl
      jumps a (instr.Lui rd imm) c e = refl
      jumps a (instr.Auipc rd imm) c e = refl
      jumps a (instr.Jalr rd rs1 imm) c e = absurd (cc)
      jumps a (instr.Branch k rs1 rs2 offset) c e = refl
      jumps a (instr.Load w signed rd rs1 imm) c e = refl
      jumps a (instr.Store w rs1 rs2 imm) c e = refl
      jumps a (instr.Fence imm rs1 rd) c e = refl
      jumps a instr.Ecall c e = refl
      jumps a instr.Ebreak c e = refl

      no-edges : (n : ℕ) → n < length g.addrs → is_jump_through (instr_at n) ≡ true → succs_of g.edges n ≡ []
      no-edges n lt e = mapped-none (λ m. get_or g.addrs m 0) (succs_of g.edges n) (successors n lt ∙ no-target (address n) (length_of (get_or g.numbers n 0)) (instr_at n) e)
