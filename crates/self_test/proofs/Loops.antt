-- A graph whose nodes are the places of drawn code: its loops are entered at their heads, and left at one place.
use Rattle.std.proofs.Common.{◌≡◌, ◌≢◌, ℕ, zero, suc, ◌+◌, ◌-◌, ◌<◌, ◌≤◌, inl, inr, length, refl, sym, ap, subst, ◌∙◌, arith}
use Rattle.std.specs.Prelude.{slice_index}
use Rattle.std.proofs.lemmas.Bool.Decides.{leb_tells}
use Rattle.flow_graph.specs.Graph.{GraphOf, HasEdge, IsFlow}
use Rattle.flow_graph.specs.Walks.{Way, Stop, Leave}
use Rattle.flow_graph.proofs.Ways.{node_at}
use Rattle.loop_forest.specs.Loops.{IsBackEdge, InLoop, AtHead, Inside, IsExit, IsPostOrder}
use Rattle.loop_forest.specs.Regions.{HasManyExits, loop_exit_limit}
use Rattle.loop_forest.proofs.BackEdgeLemmas.{back_iff}
use Rattle.code_gen.specs.Pieces.{Pieces}
use Rattle.code_gen.proofs.SizeLemmas.{count}
use Rattle.self_test.proofs.Edges.{Edge, Back, back-within, edge-forth, enters-at-head, stays-inside, leaves-at-end, one-back}

-- the nodes of a graph have places of the code of pieces or the one behind it, and its edges are theirs
pub record Laid (p : Pieces) (g : GraphOf) (place : ℕ → ℕ) : Type 0 where
  pub flow : IsFlow g
  pub most : (u : ℕ) → u < length g.addrs → place u ≤ count 0 p
  pub same : (u v : ℕ) → u < length g.addrs → v < length g.addrs → place u ≡ place v → u ≡ v
  pub edge : (u v : ℕ) → HasEdge g u v → Edge 0 p 0 (place u) (place v)
  pub on : (u : ℕ) → u < length g.addrs → place u < count 0 p → (v : ℕ) × HasEdge g u v × (place u < place v)
  pub entry : place g.entry ≡ 0

arrives : {E : ℕ → ℕ → Type 0} (h : ℕ) {c z : ℕ} → Way E (λ x. x ≢ h) c z → c ≡ h → z ≡ h
arrives h Stop e = e
arrives h (Leave {a = a} {c = c} away d w) e = absurd (away e)

-- a walk from outside a loop that doesn't leave its head never comes to the branch back
met : (p : Pieces) (g : GraphOf) (place : ℕ → ℕ) → Laid p g place → (u h : ℕ) → h < length g.addrs → Back 0 p 0 (place u) (place h)
    → {a z : ℕ} → Way (HasEdge g) (λ x. x ≢ h) a z → z ≡ u → (place h ≤ place a → place a ≤ place u → ⊥) → u ≡ h
met p g place l u h below q (Stop {a = a}) e out =
    let w = back-within 0 p 0 (place u) (place h) q in
    let at : place a ≡ place u = ap place e in
    absurd (out (omega (arith, at, w.falls)) (omega (arith, at)))
met p g place l u h below q (Leave {a = a} {c = c} {b = z} away d w) e out = elim (leb_tells (place h) (place c)) [
  | inr t ↦ met p g place l u h below q w e (λ x y. omega (arith, t.1, x))
  | inl t ↦ elim (leb_tells (place c) (place u)) [
    | inr t1 ↦ met p g place l u h below q w e (λ x y. omega (arith, t1.1, y))
    | inl t1 ↦ elim (enters-at-head 0 p 0 (place u) (place h) (place a) (place c) q (l.edge a c d) t.1 t1.1) [
      | inl r ↦ absurd (out r.0 r.1)
      | inr r ↦ sym e ∙ arrives h w (l.same c h (l.flow.within a c d) below r)
    ]
  ]
]

pub in_post_order : (p : Pieces) (g : GraphOf) (place : ℕ → ℕ) → Laid p g place → IsPostOrder (HasEdge g) g.entry (λ u. count 0 p - place u)
in_post_order p g place l = record {
  edge = λ u v r d.
      let mu : place u ≤ count 0 p = l.most u (l.flow.source u v d) in
      let mv : place v ≤ count 0 p = l.most v (l.flow.within u v d) in
      elim (edge-forth 0 p 0 (place u) (place v) (l.edge u v d)) [
        | inl h ↦ inl (omega (arith, h, mu, mv))
        | inr q ↦
            let w = back-within 0 p 0 (place u) (place v) q in
            inr (record { met = λ way. met p g place l u v (l.flow.within u v d) q way refl (λ x y. omega (arith, x, l.entry, w.first)) })
      ];
}

-- ---- loops

back-of : (p : Pieces) (g : GraphOf) (place : ℕ → ℕ) → Laid p g place → (u h : ℕ) → IsBackEdge (HasEdge g) g.entry u h → Back 0 p 0 (place u) (place h)
back-of p g place l u h b =
    let bu : u < length g.addrs = l.flow.source u h b.edge in
    let bh : h < length g.addrs = l.flow.within u h b.edge in
    let falls : count 0 p - place u ≤ count 0 p - place h =
    (back_iff (HasEdge g) g.entry (λ x. count 0 p - place x) (in_post_order p g place l) u h (l.flow.reached u bu) b.edge).0 b in
    elim (edge-forth 0 p 0 (place u) (place h) (l.edge u h b.edge)) [
      | inl t ↦ absurd (omega (arith, t, falls, l.most u bu, l.most h bh))
      | inr q ↦ q
    ]

-- the places of a loop
record InRange (g : GraphOf) (place : ℕ → ℕ) (u h x : ℕ) : Type 0 where
  from : place h ≤ place x
  to : place x ≤ place u
  node : x < length g.addrs

-- what reaches the branch back without the head lies within the loop
range : (p : Pieces) (g : GraphOf) (place : ℕ → ℕ) → Laid p g place → (u h : ℕ) → h < length g.addrs → Back 0 p 0 (place u) (place h)
    → {x z : ℕ} → Way (HasEdge g) (λ n. n ≢ h) x z → z ≢ h → InRange g place u h z → InRange g place u h x × (x ≢ h)
range p g place l u h below q Stop away r = (r, away)
range p g place l u h below q (Leave {a = a} {c = c} {b = z} apart d w) away r =
    let rest = range p g place l u h below q w away r in
    let bc : c < length g.addrs = rest.0.node in
    elim (enters-at-head 0 p 0 (place u) (place h) (place a) (place c) q (l.edge a c d) rest.0.from rest.0.to) [
      | inl t ↦ (record { from = t.0; to = t.1; node = l.flow.source a c d }, apart)
      | inr t ↦ absurd (rest.1 (l.same c h bc below t))
    ]

-- a loop with its branch back
record Loop (p : Pieces) (g : GraphOf) (place : ℕ → ℕ) (u h : ℕ) : Type 0 where
  laid : Laid p g place
  back : IsBackEdge (HasEdge g) g.entry u h
  is : Back 0 p 0 (place u) (place h)
  source : u < length g.addrs
  head : h < length g.addrs

in-range : (p : Pieces) (g : GraphOf) (place : ℕ → ℕ) (u h x : ℕ) → Loop p g place u h → InLoop (HasEdge g) g.entry h x → InRange g place u h x
in-range p g place u h _ o AtHead =
    let w = back-within 0 p 0 (place u) (place h) o.is in
    record { from = omega arith; to = omega (arith, w.falls); node = o.head }
in-range p g place u h x o (Inside {x = x1} {u = w} b r) =
    let q : Back 0 p 0 (place w) (place h) = back-of p g place o.laid w h b in
    let one : place w ≡ place u = one-back 0 p 0 (place w) (place u) (place h) q o.is in
    let f = back-within 0 p 0 (place w) (place h) q in
    let last : InRange g place u h w = record { from = omega (arith, f.falls); to = omega (arith, one); node = o.laid.flow.source w h b.edge } in
    (range p g place o.laid u h o.head o.is r.way r.last last).0

-- from each place of a loop the code leads on to its branch back
climb : (p : Pieces) (g : GraphOf) (place : ℕ → ℕ) (u h m v : ℕ) → Loop p g place u h → place u ≤ place v + m → v < length g.addrs → place h < place v → place v ≤ place u
    → Way (HasEdge g) (λ n. n ≢ h) v u
climb p g place u h zero v o far bv low high =
    let e : v ≡ u = o.laid.same v u bv o.source (omega (arith, far, high)) in
    subst (λ z. Way (HasEdge g) (λ n. n ≢ h) v z) e Stop
climb p g place u h (suc m) v o far bv low high = elim (leb_tells (place u) (place v)) [
  | inl t ↦
      let e : v ≡ u = o.laid.same v u bv o.source (omega (arith, t.1, high)) in
      subst (λ z. Way (HasEdge g) (λ n. n ≢ h) v z) e Stop
  | inr t ↦
      let w = back-within 0 p 0 (place u) (place h) o.is in
      let s = o.laid.on v bv (omega (arith, t.1, w.below)) in
      let inside = stays-inside 0 p 0 (place u) (place h) (place v) (place s.0) o.is (o.laid.edge v s.0 s.1) (omega (arith, low)) t.1 in
      let away : v ≢ h = (λ e. let same : place v ≡ place h = ap place e in omega (arith, same, low)) in
      Leave away s.1 (climb p g place u h m s.0 o (omega (arith, far, s.2)) (o.laid.flow.within v s.0 s.1) (omega (arith, low, s.2)) inside.1)
]

belongs : (p : Pieces) (g : GraphOf) (place : ℕ → ℕ) (u h v : ℕ) → Loop p g place u h → v < length g.addrs → place h ≤ place v → place v ≤ place u
    → InLoop (HasEdge g) g.entry h v
belongs p g place u h v o bv low high = elim (leb_tells (place v) (place h)) [
  | inl t ↦
      let e : h ≡ v = o.laid.same h v o.head bv (omega (arith, t.1, low)) in
      subst (λ z. InLoop (HasEdge g) g.entry h z) e AtHead
  | inr t ↦
      let w = back-within 0 p 0 (place u) (place h) o.is in
      let away : u ≢ h = (λ e. let same : place u ≡ place h = ap place e in omega (arith, same, w.falls)) in
      Inside o.back (record { way = climb p g place u h (place u) v o (omega arith) bv t.1 high; last = away })
]

-- a loop is left to the place behind its branch back
one-exit : (p : Pieces) (g : GraphOf) (place : ℕ → ℕ) (u h v : ℕ) → Loop p g place u h → IsExit (HasEdge g) g.entry h v → (place v ≡ place u + 1) × (v < length g.addrs)
one-exit p g place u h v o x =
    let r = in-range p g place u h x.from o x.inside in
    let bv : v < length g.addrs = o.laid.flow.within x.from v x.edge in
    let e = o.laid.edge x.from v x.edge in
    elim (leb_tells (place u) (place x.from)) [
      | inl t ↦ elim (leaves-at-end 0 p 0 (place u) (place h) (place x.from) (place v) o.is e (omega (arith, t.1, r.to))) [
        | inl q ↦
            let w = back-within 0 p 0 (place u) (place h) o.is in
            absurd (x.outside (belongs p g place u h v o bv (omega (arith, q)) (omega (arith, q, w.falls))))
        | inr q ↦ (q, bv)
      ]
      | inr t ↦
          let inside = stays-inside 0 p 0 (place u) (place h) (place x.from) (place v) o.is e r.from t.1 in
          absurd (x.outside (belongs p g place u h v o bv inside.0 inside.1))
    ]

pub few-exits : (p : Pieces) (g : GraphOf) (place : ℕ → ℕ) → Laid p g place → (h : ℕ) → HasManyExits (HasEdge g) g.entry h → ⊥
few-exits p g place l h m =
    let u : ℕ = m.head.source in
    let b = m.head.back in
    let o : Loop p g place u h = record { laid = l; back = b; is = back-of p g place l u h b; source = l.flow.source u h b.edge; head = l.flow.within u h b.edge } in
    let many : loop_exit_limit < length m.over.some = m.over.over in
    let first = one-exit p g place u h (slice_index m.over.some 0) o (m.over.exits (slice_index m.over.some 0) (node_at m.over.some 0 (omega (arith, many)))) in
    let second = one-exit p g place u h (slice_index m.over.some 1) o (m.over.exits (slice_index m.over.some 1) (node_at m.over.some 1 (omega (arith, many)))) in
    m.over.different 0 1 (omega arith) (omega (arith, many))
    (l.same (slice_index m.over.some 0) (slice_index m.over.some 1) first.1 second.1 (first.0 ∙ sym second.0))
