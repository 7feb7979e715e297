-- In their order parts call only those before them.
use Rattle.std.proofs.Common.{◌≡◌, ◌≢◌, ℕ, zero, suc, ◌+◌, ◌*◌, ◌<◌, ◌≤◌, List, [], ◌∷◌, length, Bool, true, false, cond, eqb, ◌&&◌, refl, sym, ap, subst, ◌∙◌, arith, Option, None, Some, option_map, ◌⊎◌, inl, inr, eq-eqb}
use Rattle.std.proofs.lemmas.Bool.{eqb-false, eqb-true}
use Rattle.std.proofs.lemmas.Bool.Decides.{leb_tells}
use Rattle.std.specs.Prelude.{slice_get, unwrap_or}
use Rattle.std.specs.List.{Contains}
use Rattle.std.specs.Option.{option_or}
use Rattle.rv_words.specs.Bytes.{Bytes}
use Rattle.tailrec_lang.specs.Tree.{ValuesTree, StepTree, BodyTree, Call, Again, Leave, NoArm, Arm, with_steps}
use Rattle.word_terms.specs.Tree.{Var}
use Rattle.flow_graph.specs.Graph.{GraphOf, HasEdge, IsGraphOf}
use Rattle.loop_forest.specs.Forest.{ForestOf, IsForestOf, exits_of, head_of, number_of, place_of, region_of}
use Rattle.loop_forest.specs.Walking.{IsPlacedIn, inner_of, loop_of}
use Rattle.code_parts.specs.declared.part.Part.{Part}
use Rattle.code_parts.specs.declared.part.Part.TheVariants.{Loop, Rest}
use Rattle.code_parts.specs.Bodies.{size, Flow, VariableMap, Action, Straight, Fork, Return, Enter, return_arm, action, action_body, arms_over, body_at, current, end_at, end_of, first, fresh, index_of, last_at, own, part_body, rest_arms, rest_body, rest_from, rest_targets, start, with_pc}
use Rattle.code_parts.specs.declared.callee.Callee.{Callee}
use Rattle.code_parts.specs.Graph.{ArmsBelow, CallsBelow, IsPart, IsPlaced}
use Rattle.code_parts.specs.Flows.{Context, flow_of, place_in, same_part, same_region}
use Rattle.code_parts.specs.Order.{AreParts, StandsBefore, weight}
use Rattle.code_parts.proofs.Lists.{contains-cases}
use Rattle.code_parts.proofs.Edges.{Leads, calls-row, end-some, leads-calling}
use Rattle.code_parts.proofs.FlowGraph.{is-graph, edge, exit-there, exits-are, flow, inner-numbered, placed-in, region-within, walks}

-- ---- places of parts

region-is : (r q : Option ℕ) → same_region r q ≡ true → r ≡ q
region-is None None e = refl
region-is None (Some k) e = absurd (cc)
region-is (Some l) None e = absurd (cc)
region-is (Some l) (Some k) e = ap Some (eqb-true l k e)

region-self : (r : Option ℕ) → same_region r r ≡ true
region-self None = refl
region-self (Some l) = eq-eqb l l refl

both : (a b : Bool) → (a && b) ≡ true → (a ≡ true) × (b ≡ true)
both true true e = (refl, refl)
both true false e = absurd (cc)
both false b e = absurd (cc)

part-is : (p q : Part) → same_part p q ≡ true → p ≡ q
part-is (Loop l) (Loop k) e = ap Loop (eqb-true l k e)
part-is (Loop l) (Rest q m) e = absurd (cc)
part-is (Rest r n) (Loop k) e = absurd (cc)
part-is (Rest r n) (Rest q m) e =
    let t = both (same_region r q) (eqb n m) e in
    let x = region-is r q t.0 in
    let y = eqb-true n m t.1 in
    λ i. Rest (x i) (y i)

part-self : (p : Part) → same_part p p ≡ true
part-self (Loop l) = eq-eqb l l refl
part-self (Rest r n) = (λ i. region-self r i && eq-eqb n n refl i)

self-at : (q p : Part) → q ≡ p → same_part q p ≡ true
self-at q p e = (λ i. same_part (e i) p) ∙ part-self p

same-bool : (b : Bool) → b ≡ false → b ≡ true → ⊥
same-bool true e f = cc
same-bool false e f = cc

-- a part of the list stands at its place
place-there : (parts : List Part) (p : Part) → Contains parts p → slice_get parts (place_in parts p) ≡ Some p
place-there [] p c = absurd (omega (arith, c.1))
place-there (q ∷ qs) p c = go (same_part q p) refl (λ d. place-there qs p d)
  where
    rest : same_part q p ≡ false → Contains qs p
    rest is = contains-cases q qs p c (λ e. absurd (same-bool (same_part q p) is (self-at q p e))) (λ d. d)

    go : (b : Bool) → same_part q p ≡ b → (Contains qs p → slice_get qs (place_in qs p) ≡ Some p) → slice_get (q ∷ qs) (cond b 0 (suc (place_in qs p))) ≡ Some p
    go true is on = ap Some (part-is q p is)
    go false is on = on (rest is)

-- .. and nowhere before
place-first : (parts : List Part) (p : Part) (k : ℕ) → slice_get parts k ≡ Some p → place_in parts p ≤ k
place-first [] p k e = absurd (cc)
place-first (q ∷ qs) p zero e =
    let same : q ≡ p = cc in
    let none : cond (same_part q p) 0 (suc (place_in qs p)) ≡ 0 = (λ i. cond (self-at q p same i) 0 (suc (place_in qs p))) in
    omega (arith, none)
place-first (q ∷ qs) p (suc k) e = go (same_part q p) (place-first qs p k e)
  where
    go : (b : Bool) → place_in qs p ≤ k → cond b 0 (suc (place_in qs p)) ≤ suc k
    go true le = omega arith
    go false le = omega (arith, le)

pub place-below : (parts : List Part) (p : Part) → place_in parts p ≤ length parts
place-below [] p = omega arith
place-below (q ∷ qs) p = go (same_part q p) (place-below qs p)
  where
    go : (b : Bool) → place_in qs p ≤ length qs → cond b 0 (suc (place_in qs p)) ≤ suc (length qs)
    go true le = omega arith
    go false le = omega (arith, le)

slice-contains : (parts : List Part) (k : ℕ) (p : Part) → slice_get parts k ≡ Some p → Contains parts p
slice-contains [] k p e = absurd (cc)
slice-contains (q ∷ qs) zero p e = let same : q ≡ p = cc in (0, omega arith, same)
slice-contains (q ∷ qs) (suc k) p e = let r = slice-contains qs k p e in (suc r.0, omega (arith, r.1), r.2)

-- ---- the order

pub le_or : (a b : ℕ) → (a ≤ b) ⊎ (b < a)
le_or a b = elim (leb_tells a b) [ inl t ↦ inl t.1 | inr t ↦ inr t.1 ]

module _ (f : Flow) (left : ℕ → ℕ) (depth : Option ℕ → ℕ) where
  pub never-before : (p : Part) → StandsBefore f left depth p p → ⊥
  never-before p (inl lt) = omega (arith, lt)
  never-before p (inr h) = let lt = h.1 in omega (arith, lt)

  pub one-way : (p q : Part) → StandsBefore f left depth p q → StandsBefore f left depth q p → ⊥
  one-way p q (inl a) (inl b) = omega (arith, a, b)
  one-way p q (inl a) (inr b) = let same = b.0 in omega (arith, a, same)
  one-way p q (inr a) (inl b) = let same = a.0 in omega (arith, same, b)
  one-way p q (inr a) (inr b) = let x = a.1 in let y = b.1 in omega (arith, x, y)

same-item : (x y : Part) → Some x ≡ Some y → x ≡ y
same-item x y e = cc

module _ (f : Flow) (left : ℕ → ℕ) (parts : List Part) (order : AreParts f left parts) where
  pub there-at : (p : Part) → IsPart f p → slice_get parts (place_in parts p) ≡ Some p
  there-at p there = place-there parts p ((order.all p).1 there)

  pub part-at : (k : ℕ) (p : Part) → slice_get parts k ≡ Some p → IsPart f p × (place_in parts p ≡ k)
  part-at k p at = (there, last (le_or k (place_in parts p)))
    where
      there : IsPart f p
      there = (order.all p).0 (slice-contains parts k p at)

      low : place_in parts p ≤ k
      low = place-first parts p k at

      last : (k ≤ place_in parts p) ⊎ (place_in parts p < k) → place_in parts p ≡ k
      last (inl le) = omega (arith, low, le)
      last (inr lt) = absurd (never-before f left order.depth p (order.ordered (place_in parts p) k p p lt (there-at p there) at))

  pub rises : (p q : Part) → IsPart f p → IsPart f q → StandsBefore f left order.depth p q → place_in parts p < place_in parts q
  rises p q here there before = go (le_or (place_in parts q) (place_in parts p)) (le_or (place_in parts p) (place_in parts q))
    where
      go : (place_in parts q ≤ place_in parts p) ⊎ (place_in parts p < place_in parts q) → (place_in parts p ≤ place_in parts q) ⊎ (place_in parts q < place_in parts p) → place_in parts p < place_in parts q
      go (inr lt) other = lt
      go (inl le) (inr lt) = absurd (one-way f left order.depth p q before (order.ordered (place_in parts q) (place_in parts p) q p lt (there-at q there) (there-at p here)))
      go (inl le) (inl up) = absurd (
          let same : place_in parts p ≡ place_in parts q = omega (arith, le, up) in
          let one : p ≡ q = same-item p q (sym (there-at p here) ∙ ap (slice_get parts) same ∙ there-at q there) in
          never-before f left order.depth q (subst (λ x. StandsBefore f left order.depth x q) one before))

-- ---- calls

module _ (d : ℕ) where
  steps-below : (ss : List StepTree) (b : BodyTree) → CallsBelow d b → CallsBelow d (with_steps ss b)
  steps-below [] b h = h
  steps-below (s ∷ ss) b h = steps-below ss b h

  arms-below : (ns : List ℕ) (go : ℕ → BodyTree) → ((k x : ℕ) → slice_get ns k ≡ Some x → CallsBelow d (go x)) → ArmsBelow d (arms_over ns go)
  arms-below [] go h = tt
  arms-below (n ∷ ns) go h = (h 0 n refl, arms-below ns go (λ k x e. h (suc k) x e))

  -- by itself a part calls nothing
  end-below : (f : Flow) (p : Part) (n : ℕ) (x : ValuesTree) (c : BodyTree) → (end_of f p n x ≡ None → CallsBelow d c) → CallsBelow d (unwrap_or (end_of f p n x) c)
  end-below f (Rest r m) n x c h = by (index_of (rest_targets f r) n) h
    where
      by : (o : Option ℕ) → (option_map (λ k. Leave k x) o ≡ None → CallsBelow d c) → CallsBelow d (unwrap_or (option_map (λ k. Leave k x) o) c)
      by None g = g refl
      by (Some k) g = tt
  end-below f (Loop l) n x c h = by (eqb n (f.head l)) (index_of (f.exits l) n) h
    where
      by : (t : Bool) (o : Option ℕ) → (cond t (Some (Again x)) (option_map (λ k. Leave k x) o) ≡ None → CallsBelow d c) → CallsBelow d (unwrap_or (cond t (Some (Again x)) (option_map (λ k. Leave k x) o)) c)
      by true o g = tt
      by false None g = g refl
      by false (Some k) g = tt

  rest-arms-below : (f : Flow) (p : Part) (r : Option ℕ) (v : VariableMap) → ArmsBelow d (rest_arms f p r v)
  rest-arms-below f p None v = by f.returns
    where
      by : (t : Bool) → ArmsBelow d (cond t (Arm (Leave 0 (with_pc (Var v.words) (current f (fresh f (suc v.words) v.mems)))) NoArm) NoArm)
      by true = (tt, tt)
      by false = tt
  rest-arms-below f p (Some l) v = arms-below (rest_targets f (Some l)) (λ x. last_at f p x (fresh f v.words v.mems)) (λ k x e. end-below f p x (current f (fresh f v.words v.mems)) (Leave 0 (current f (fresh f v.words v.mems))) (λ none. tt))

  cut-below : (f : Flow) (p : Part) (n : ℕ) (v : VariableMap) → IsPlaced f (own p) n → (f.around n ≡ own p → f.number (rest_from f n) < d) → CallsBelow d (end_at f p n v)
  cut-below f p n v placed less =
      end-below f p n (current f v) (Call (f.number (rest_from f n)) (current f v) (rest_arms f p (f.around n) v)) (λ none. (less (inside placed none), rest-arms-below f p (f.around n) v))
    where
      inside : IsPlaced f (own p) n → end_of f p n (current f v) ≡ None → f.around n ≡ own p
      inside (inl q) none = absurd (end-some f p n q.0 (current f v) q.1 none)
      inside (inr q) none = q

module _ (linked : Bool) (code : Bytes) (entry : ℕ) (g : GraphOf) (f : ForestOf) (s : Context) (graph : IsGraphOf linked code entry g) (forest : IsForestOf g f)
    (order : AreParts (flow_of g f s) (number_of f) s.parts)
    (before : (n : ℕ) (c : Callee) → n < length g.addrs → (flow_of g f s).callee n ≡ Some c → c.def < s.base) where
  abbrev the_flow : Flow
  the_flow = flow_of g f s

  abbrev left : ℕ → ℕ
  left = number_of f

  abbrev first_node : Part → ℕ
  first_node p = first the_flow p

  lighter : (p : Part) (n : ℕ) → left n < left (first_node p) → 2 * left n + 1 < weight the_flow left p
  lighter (Loop l) n lt = omega (arith, lt)
  lighter (Rest r m) n lt = omega (arith, lt)

  -- the rest from a node of the own region, which was left before the part's first
  earlier : (p : Part) → IsPart the_flow p → (m : ℕ) → m < length g.addrs → eqb (place_of f m) 0 ≡ true → region_of f m ≡ own p → left m < left (first_node p) → the_flow.number (rest_from the_flow m) < the_flow.number p
  earlier p there m inside cut same less =
      let up = rises the_flow left s.parts order (rest_from the_flow m) p (inside, cut, refl) there (inr (ap order.depth same, lighter p m less)) in omega (arith, up)

  module _ (p : Part) (there : IsPart (flow_of g f s) p) where
    abbrev FromNode : ℕ → Type 0
    FromNode b = (n : ℕ) (v : VariableMap) → n < length g.addrs → inner_of f n ≡ own p → left n ≤ left (first_node p) → CallsBelow (the_flow.number p) (body_at b the_flow p n v)

    within : (n : ℕ) → n < length g.addrs → inner_of f n ≡ own p → (l : ℕ) → own p ≡ Some l → l < length f.heads
    within n node region l e = inner-numbered linked code entry g f s graph forest n l node (region ∙ e)

    arrives : (b : ℕ) → FromNode b → (n : ℕ) (w : VariableMap) → n < length g.addrs → inner_of f n ≡ own p → left n ≤ left (first_node p) → (m : ℕ) → Leads (action the_flow n w) m → (v : VariableMap)
        → CallsBelow (the_flow.number p) (cond (eqb (place_of f m) 0) (end_at the_flow p m v) (body_at b the_flow p m v))
    arrives b on n w node region near m leads v = by (eqb (place_of f m) 0) refl
      where
        step : HasEdge g n m
        step = edge linked code entry g f s graph forest n m node (leads-calling (the_flow.callee n) (the_flow.instr n) (the_flow.addr n) (size the_flow n) (the_flow.uses n) (the_flow.to n) w m (λ c e. (is-graph linked code entry g f s graph forest).calls n c node e) leads)

        inside : m < length g.addrs
        inside = (flow linked code entry g f s graph forest).within n m step

        placed : IsPlaced the_flow (own p) m
        placed = placed-in linked code entry g f s graph forest (own p) m (within n node region) (subst (λ r. IsPlacedIn f r m) region ((walks linked code entry g f s graph forest).placed n m step))

        by : (c : Bool) → eqb (place_of f m) 0 ≡ c → CallsBelow (the_flow.number p) (cond c (end_at the_flow p m v) (body_at b the_flow p m v))
        by true cut = cut-below (the_flow.number p) the_flow p m v placed (λ at.
            let less = (walks linked code entry g f s graph forest).falls_on n m step (at ∙ sym region) in
            earlier p there m inside cut at (omega (arith, less, near)))
        by false cut =
            let apart : place_of f m ≢ 0 = eqb-false (place_of f m) 0 cut in
            let less = (walks linked code entry g f s graph forest).falls n m step apart in
            on m v inside ((walks linked code entry g f s graph forest).stays n m step apart ∙ region) (omega (arith, less, near))

    acts : (b : ℕ) → FromNode b → (n : ℕ) (v : VariableMap) → n < length g.addrs → inner_of f n ≡ own p → left n ≤ left (first_node p) → (y : Action) → action the_flow n v ≡ y
        → CallsBelow (the_flow.number p) (action_body the_flow p y v (body_at b the_flow p))
    acts b on n v node region near (Straight ss w to) is =
        steps-below (the_flow.number p) ss (cond (eqb (place_of f to) 0) (end_at the_flow p to w) (body_at b the_flow p to w)) (arrives b on n v node region near to (subst (λ y. Leads y to) (sym is) refl) w)
    acts b on n v node region near (Fork c x y) is =
        (arrives b on n v node region near x (subst (λ z. Leads z x) (sym is) (inl refl)) v, arrives b on n v node region near y (subst (λ z. Leads z y) (sym is) (inr refl)) v)
    acts b on n v node region near (Return ss t) is = steps-below (the_flow.number p) ss (Leave 0 (with_pc t (current the_flow v))) tt
    acts b on n v node region near (Enter ss w c back to) is =
        steps-below (the_flow.number p) ss (Call c.def (current the_flow w) (return_arm the_flow c.returns back w (λ q. cond (eqb (place_of f to) 0) (end_at the_flow p to q) (body_at b the_flow p to q)))) (low, by c.returns)
      where
        callee : the_flow.callee n ≡ Some c
        callee = calls-row (the_flow.callee n) (the_flow.instr n) (the_flow.addr n) (size the_flow n) (the_flow.uses n) (the_flow.to n) v ss w c back to is

        low : c.def < the_flow.number p
        low = let h = before n c node callee in omega (arith, h)

        by : (r : Bool) → ArmsBelow (the_flow.number p) (return_arm the_flow r back w (λ q. cond (eqb (place_of f to) 0) (end_at the_flow p to q) (body_at b the_flow p to q)))
        by false = tt
        by true = (arrives b on n v node region near to (subst (λ y. Leads y to) (sym is) refl) (fresh the_flow (suc w.words) w.mems), tt)

    body-below : (b : ℕ) → FromNode b
    body-below zero n v node region near = tt
    body-below (suc b) n v node region near = acts b (body-below b) n v node region near (action the_flow n v) refl

  rest-below : (r : Option ℕ) (n : ℕ) (there : IsPart the_flow (Rest r n)) (o : Option ℕ) → loop_of f n ≡ o → CallsBelow (the_flow.number (Rest r n)) (rest_body 32 the_flow (Rest r n) n o)
  rest-below r n there None none = body-below (Rest r n) there 32 n (start the_flow) there.0 ((λ i. option_or (none i) (region_of f n)) ∙ there.2) (omega arith)
  rest-below r n there (Some l) some =
      let h = (walks linked code entry g f s graph forest).own n l some in
      let same : left (head_of f l) ≡ left n = ap left h.1 in
      let region : region_of f (head_of f l) ≡ r = ap (region_of f) h.1 ∙ there.2 in
      let deep = order.deeper l h.0 ∙ ap (λ x. order.depth x + 1) region in (
        (let up = rises the_flow left s.parts order (Loop l) (Rest r n) h.0 there (inl (omega (arith, deep))) in omega (arith, up)),
        arms-below (the_flow.number (Rest r n)) (the_flow.exits l) (λ x. end_at the_flow (Rest r n) x (fresh the_flow (start the_flow).words (start the_flow).mems)) (λ k x at.
            let c = exit-there linked code entry g f s graph forest (the_flow.exits l) (exits_of f l) k x (exits-are linked code entry g f s graph forest l h.0) at in
            let e = (walks linked code entry g f s graph forest).exit l x h.0 c in
            cut-below (the_flow.number (Rest r n)) the_flow (Rest r n) x (fresh the_flow (start the_flow).words (start the_flow).mems)
            (placed-in linked code entry g f s graph forest r x (λ j z. region-within linked code entry g f s graph forest n there.0 j (there.2 ∙ z)) (subst (λ q. IsPlacedIn f q x) region e.2))
            (λ around_x.
            let less = (walks linked code entry g f s graph forest).falls_behind l x h.0 c (around_x ∙ sym region) in
            earlier (Rest r n) there x e.0 (eq-eqb (place_of f x) 0 e.1) around_x (omega (arith, less, same)))),
      )

  -- each part calls parts before it
  pub calls-below : (p : Part) → IsPart (flow_of g f s) p → CallsBelow ((flow_of g f s).number p) (part_body (flow_of g f s) p)
  calls-below (Loop l) there = let h = (walks linked code entry g f s graph forest).head l there in body-below (Loop l) there 32 (head_of f l) (start the_flow) h.0 h.2 (omega arith)
  calls-below (Rest r n) there = rest-below r n there (loop_of f n) refl
