-- What a part of a function may lead to, from what loops and cuts are.
use Rattle.std.proofs.Common.{◌≡◌, ◌≢◌, ℕ, ◌⊎◌, inl, inr, refl, sym, subst, Option, Some, None}
use Rattle.std.proofs.lemmas.Bool.{cases_eq}
use Rattle.flow_graph.specs.Walks.{Way, Stop, Leave, AnyNode, Reaches}
use Rattle.loop_forest.specs.Loops.{IsBackEdge, IsHead, InLoop, AtHead, Inside, IsExit}
use Rattle.flow_graph.proofs.Ways.{apart_or_from, way-weaken}
use Rattle.loop_forest.specs.Regions.{IsAround}
use Rattle.loop_forest.specs.inner.Inner.{IsInner, IsPlaced}
use Rattle.loop_forest.proofs.LoopNesting.{inner_loop, loop_is_met, met_before_differ, nested_or_apart}
use Rattle.loop_forest.proofs.Regions.{entered_at_head}

-- edges whose sources are reached
module _ (E : ℕ → ℕ → Type 0) (e : ℕ) (reach : (a b : ℕ) → E a b → Reaches E e a) where
  pub head_reached : (h : ℕ) → IsHead E e h → Reaches E e h
  head_reached h k = let b = k.back in reach_target k.source h b.edge
    where
      reach_target : (a b : ℕ) → E a b → Reaches E e b
      reach_target a b d = step (reach a b d) d
        where
          step : {a b c : ℕ} → Way E AnyNode a b → E b c → Way E AnyNode a c
          step Stop d = Leave tt d Stop
          step (Leave p x w) d = Leave p x (step w d)

  -- the source of a back edge is in the loop
  pub source_in : (u h : ℕ) → IsBackEdge E e u h → InLoop E e h u
  source_in u h b = elim (cases_eq u h) [
    | inl q ↦ subst (λ (z : ℕ). InLoop E e h z) (sym q) AtHead
    | inr n ↦ Inside b (record { way = Stop; last = n })
  ]

  -- two loops that have each other's head are one
  pub one : (g h : ℕ) → Reaches E e h → InLoop E e g h → InLoop E e h g → g ≡ h
  one g h r a b = sym (met_before_differ e h g r (loop_is_met e h g b) (loop_is_met e g h a))

  -- a loop has all of a loop whose head it has
  pub holds_loop : (g h : ℕ) → Reaches E e g → InLoop E e g h → (n : ℕ) → InLoop E e h n → InLoop E e g n
  holds_loop g h r a n b = elim (cases_eq g h) [
    | inl q ↦ subst (λ (z : ℕ). InLoop E e z n) (sym q) b
    | inr d ↦ inner_loop e g h r d a n b
  ]

  -- of two loops with a common node one has the other's head
  pub nested : (g h n : ℕ) → Reaches E e g → Reaches E e h → Reaches E e n → InLoop E e g n → InLoop E e h n → InLoop E e g h ⊎ InLoop E e h g
  nested g h n rg rh rn a b = elim (nested_or_apart e g h rg rh n rn a b) [ inl f ↦ inr (f g AtHead) | inr f ↦ inl (f h AtHead) ]

  -- the smallest loop is one
  pub inner_one : (n m : ℕ) (a b : Option ℕ) → IsInner E e n a → IsInner E e m b → ((h : ℕ) → IsHead E e h → InLoop E e h n → InLoop E e h m) → ((h : ℕ) → IsHead E e h → InLoop E e h m → InLoop E e h n) → a ≡ b
  inner_one n m None None p q there back = refl
  inner_one n m None (Some b) p q there back = absurd (p b q.0 (back b q.0 q.1))
  inner_one n m (Some a) None p q there back = absurd (q a p.0 (there a p.0 p.1))
  inner_one n m (Some a) (Some b) p q there back = λ i. Some (one a b (head_reached b q.0) (q.2 a p.0 (there a p.0 p.1)) (p.2 b q.0 (back b q.0 q.1)) i)

  pub around_one : (n : ℕ) (a b : Option ℕ) → IsAround E e n a → IsAround E e n b → a ≡ b
  around_one n None None p q = refl
  around_one n None (Some b) p q = absurd (p b q.0 q.1 q.2)
  around_one n (Some a) None p q = absurd (q a p.0 p.1 p.2)
  around_one n (Some a) (Some b) p q = λ i. Some (one a b (head_reached b q.0) (q.3 a p.0 p.1 p.2) (p.3 b q.0 q.1 q.2) i)

  -- the smallest loop of a head is its own
  pub inner_head : (h : ℕ) → IsHead E e h → IsInner E e h (Some h)
  inner_head h k = (k, AtHead, λ g kg i. i)

  -- for a node that is no head the two are the same
  pub inner_around : (n : ℕ) (a b : Option ℕ) → (IsHead E e n → ⊥) → IsInner E e n a → IsAround E e n b → a ≡ b
  inner_around n None None plain p q = refl
  inner_around n (Some l) None plain p q = absurd (q l p.0 (λ z. plain (subst (λ (y : ℕ). IsHead E e y) z p.0)) p.1)
  inner_around n None (Some r) plain p q = absurd (p r q.0 q.2)
  inner_around n (Some l) (Some r) plain p q = λ i. Some (one l r (head_reached r q.0) (q.3 l p.0 (λ z. plain (subst (λ (y : ℕ). IsHead E e y) z p.0)) p.1) (p.2 r q.0 q.2) i)

  -- an edge to a node that is neither a head nor an exit stays in the region
  pub stays : (decides : (h n : ℕ) → IsHead E e h → InLoop E e h n ⊎ (InLoop E e h n → ⊥)) (u n : ℕ) (a b : Option ℕ) → E u n → (IsHead E e n → ⊥) → ((h : ℕ) → IsHead E e h → IsExit E e h n → ⊥)
      → IsInner E e n a → IsInner E e u b → a ≡ b
  stays decides u n a b d plain no_exit p q = inner_one n u a b p q
      (λ h k i. entered_at_head E e h u n d i (λ z. plain (subst (λ (y : ℕ). IsHead E e y) (sym z) k)))
      (λ h k i. elim (decides h n k) [ inl j ↦ j | inr out ↦ absurd (no_exit h k (record { from = u; inside = i; edge = d; outside = out })) ])

  -- an edge leads to an end of the region, or to where it goes on
  pub placed : (decides : (h n : ℕ) → IsHead E e h → InLoop E e h n ⊎ (InLoop E e h n → ⊥)) (u n : ℕ) (r : Option ℕ) → E u n → IsInner E e u r → IsPlaced E e r n
  placed decides u n None d p = λ h k ne i. p h k (entered_at_head E e h u n d i (λ z. ne (sym z)))
  placed decides u n (Some l) d p = elim (cases_eq n l) [
    | inl q ↦ inl q
    | inr ne ↦ elim (decides l n p.0) [
      | inr out ↦ inr (inl (record { from = u; inside = p.1; edge = d; outside = out }))
      | inl i ↦ inr (inr (p.0, (λ z. ne (sym z)), i, λ h k nh ih. p.2 h k (entered_at_head E e h u n d ih (λ z. nh (sym z)))))
    ]
  ]

  -- so does a loop's exit, in the region around the loop
  pub exit_placed : (decides : (h n : ℕ) → IsHead E e h → InLoop E e h n ⊎ (InLoop E e h n → ⊥)) (l x : ℕ) (r : Option ℕ) → IsHead E e l → IsExit E e l x → IsAround E e l r → IsPlaced E e r x
  exit_placed decides l x r head exit p = go r p
    where
      -- a loop that has the exit beyond its head has the whole inner loop
      outer : (h : ℕ) → IsHead E e h → h ≢ x → InLoop E e h x → (h ≢ l) × InLoop E e h l
      outer h k ne i =
          let from : InLoop E e h exit.from = entered_at_head E e h exit.from x exit.edge i (λ z. ne (sym z)) in (
            (λ z. exit.outside (subst (λ (y : ℕ). InLoop E e y x) z i)),
            elim (nested h l exit.from (head_reached h k) (head_reached l head) (reach exit.from x exit.edge) from exit.inside) [
              | inl q ↦ q
              | inr q ↦ absurd (exit.outside (holds_loop l h (head_reached l head) q x i))
            ],
          )

      go : (r : Option ℕ) → IsAround E e l r → IsPlaced E e r x
      go None p = λ h k ne i. let o = outer h k ne i in p h k o.0 o.1
      go (Some g) p = elim (cases_eq x g) [
        | inl q ↦ inl q
        | inr ne ↦ elim (decides g x p.0) [
          | inr out ↦ inr (inl (record { from = exit.from; inside = holds_loop g l (head_reached g p.0) p.2 exit.from exit.inside; edge = exit.edge; outside = out }))
          | inl i ↦ inr (inr (p.0, (λ z. ne (sym z)), i, λ h k nh ih. let o = outer h k nh ih in p.3 h k o.0 o.1))
        ]
      ]

  -- a node without successors is in no loop
  pub returned_outside : (n : ℕ) → ((m : ℕ) → E n m → ⊥) → IsInner E e n None
  returned_outside n none h k i = go h n k none i
    where
      from_walk : {a u h : ℕ} → Way E AnyNode a u → E u h → ((m : ℕ) → E a m → ⊥) → ⊥
      from_walk {h = h} Stop d none = none h d
      from_walk (Leave {c = c} p x w) d none = none c x

      go : (h n : ℕ) → IsHead E e h → ((m : ℕ) → E n m → ⊥) → InLoop E e h n → ⊥
      go h n k none (Inside b r) = from_walk (way-weaken (λ x d. tt) r.way) b.edge none
      go h _ k none AtHead = elim (apart_or_from h (reach k.source h k.back.edge)) [
        | inl v ↦ v.1 (k.back.met.met (way-weaken (λ x d. d.1) v.0))
        | inr v ↦ from_walk v k.back.edge none
      ]
