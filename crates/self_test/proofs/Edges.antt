-- Where the instructions of drawn code lead, from place to place, and the branches back of its loops.
use Rattle.std.proofs.Common.{◌≡◌, ℕ, suc, ◌+◌, ◌<◌, ◌≤◌, ◌⊎◌, inl, inr, arith}
use Rattle.code_gen.specs.Pieces.{Pieces, Done, Add, Mix, Choose, Repeat}
use Rattle.code_gen.proofs.SizeLemmas.{count, repeat-count}

-- the edge from u to v is that from a to b
abbrev pub Is : ℕ → ℕ → ℕ → ℕ → Type 0
Is a b u v = (u ≡ a) × (v ≡ b)

-- where a choice at place k leads
abbrev pub ChoiceEdge : ℕ → ℕ → ℕ → Type 0
ChoiceEdge k u v =
    Is k (k + 1) u v ⊎ (Is (k + 1) (k + 2) u v ⊎ (Is (k + 1) (k + 4) u v ⊎ (Is (k + 2) (k + 3) u v ⊎ (Is (k + 3) (k + 5) u v ⊎ Is (k + 4) (k + 5) u v))))

-- where pieces at depth d lead, which begin at place k
abbrev pub Edge : ℕ → Pieces → ℕ → ℕ → ℕ → Type 0
Edge d Done k u v = ⊥
Edge d (Add n rest) k u v = Is k (k + 1) u v ⊎ Edge d rest (k + 1) u v
Edge d (Mix rest) k u v = Is k (k + 1) u v ⊎ Edge d rest (k + 1) u v
Edge d (Choose n rest) k u v = ChoiceEdge k u v ⊎ Edge d rest (k + 5) u v
Edge d (Repeat n body rest) k u v =
    Is k (k + 1) u v
    ⊎ (Edge (d + 1) body (k + 1) u v
    ⊎ (Is (k + 1 + count (d + 1) body) (k + 2 + count (d + 1) body) u v
    ⊎ (Is (k + 2 + count (d + 1) body) (k + 1) u v
    ⊎ (Is (k + 2 + count (d + 1) body) (k + 3 + count (d + 1) body) u v
    ⊎ Edge d rest (k + 3 + count (d + 1) body) u v))))

-- the branch back from u to v is that of a loop
abbrev pub Back : ℕ → Pieces → ℕ → ℕ → ℕ → Type 0
Back d Done k u v = ⊥
Back d (Add n rest) k u v = Back d rest (k + 1) u v
Back d (Mix rest) k u v = Back d rest (k + 1) u v
Back d (Choose n rest) k u v = Back d rest (k + 5) u v
Back d (Repeat n body rest) k u v =
    Is (k + 2 + count (d + 1) body) (k + 1) u v ⊎ (Back (d + 1) body (k + 1) u v ⊎ Back d rest (k + 3 + count (d + 1) body) u v)

-- ---- places

pub record Within (k n u v : ℕ) : Type 0 where
  pub from : k ≤ u
  pub below : u < k + n
  pub to : k ≤ v
  pub last : v ≤ k + n

choice-within : (k u v : ℕ) → ChoiceEdge k u v → (k ≤ u) × (u < k + 5) × (u < v) × (v ≤ k + 5)
choice-within k u v (inl (a, b)) = (omega (arith, a), omega (arith, a), omega (arith, a, b), omega (arith, b))
choice-within k u v (inr (inl (a, b))) = (omega (arith, a), omega (arith, a), omega (arith, a, b), omega (arith, b))
choice-within k u v (inr (inr (inl (a, b)))) = (omega (arith, a), omega (arith, a), omega (arith, a, b), omega (arith, b))
choice-within k u v (inr (inr (inr (inl (a, b))))) = (omega (arith, a), omega (arith, a), omega (arith, a, b), omega (arith, b))
choice-within k u v (inr (inr (inr (inr (inl (a, b)))))) = (omega (arith, a), omega (arith, a), omega (arith, a, b), omega (arith, b))
choice-within k u v (inr (inr (inr (inr (inr (a, b)))))) = (omega (arith, a), omega (arith, a), omega (arith, a, b), omega (arith, b))

-- a part that begins at j, in one that begins at k
wider : (k n j m u v : ℕ) → k ≤ j → j + m ≤ k + n → Within j m u v → Within k n u v
wider k n j m u v a b w = record {
  from = omega (arith, a, w.from);
  below = omega (arith, b, w.below);
  to = omega (arith, a, w.to);
  last = omega (arith, b, w.last);
}

pub edge-within : (d : ℕ) (p : Pieces) (k u v : ℕ) → Edge d p k u v → Within k (count d p) u v
edge-within d Done k u v e = elim e [ ]
edge-within d (Add n rest) k u v (inl (a, b)) = record { from = omega (arith, a); below = omega (arith, a); to = omega (arith, b); last = omega (arith, b) }
edge-within d (Add n rest) k u v (inr e) =
    wider k (suc (count d rest)) (k + 1) (count d rest) u v (omega arith) (omega arith) (edge-within d rest (k + 1) u v e)
edge-within d (Mix rest) k u v (inl (a, b)) = record { from = omega (arith, a); below = omega (arith, a); to = omega (arith, b); last = omega (arith, b) }
edge-within d (Mix rest) k u v (inr e) =
    wider k (suc (count d rest)) (k + 1) (count d rest) u v (omega arith) (omega arith) (edge-within d rest (k + 1) u v e)
edge-within d (Choose n rest) k u v (inl c) =
    let w = choice-within k u v c in
    record { from = w.0; below = omega (arith, w.1); to = omega (arith, w.0, w.2); last = omega (arith, w.3) }
edge-within d (Choose n rest) k u v (inr e) =
    wider k (count d (Choose n rest)) (k + 5) (count d rest) u v (omega arith) (omega arith) (edge-within d rest (k + 5) u v e)
edge-within d (Repeat n body rest) k u v (inl (a, b)) =
    let l : ℕ = count (d + 1) body in
    let all : count d (Repeat n body rest) ≡ 3 + l + count d rest = repeat-count d n body rest in
    record { from = omega (arith, a, all); below = omega (arith, a, all); to = omega (arith, b, all); last = omega (arith, b, all) }
edge-within d (Repeat n body rest) k u v (inr (inl e)) =
    let l : ℕ = count (d + 1) body in
    let all : count d (Repeat n body rest) ≡ 3 + l + count d rest = repeat-count d n body rest in
    wider k (count d (Repeat n body rest)) (k + 1) l u v (omega arith) (omega (arith, all)) (edge-within (d + 1) body (k + 1) u v e)
edge-within d (Repeat n body rest) k u v (inr (inr (inl (a, b)))) =
    let l : ℕ = count (d + 1) body in
    let all : count d (Repeat n body rest) ≡ 3 + l + count d rest = repeat-count d n body rest in
    record { from = omega (arith, a, all); below = omega (arith, a, all); to = omega (arith, b, all); last = omega (arith, b, all) }
edge-within d (Repeat n body rest) k u v (inr (inr (inr (inl (a, b))))) =
    let l : ℕ = count (d + 1) body in
    let all : count d (Repeat n body rest) ≡ 3 + l + count d rest = repeat-count d n body rest in
    record { from = omega (arith, a, all); below = omega (arith, a, all); to = omega (arith, b, all); last = omega (arith, b, all) }
edge-within d (Repeat n body rest) k u v (inr (inr (inr (inr (inl (a, b)))))) =
    let l : ℕ = count (d + 1) body in
    let all : count d (Repeat n body rest) ≡ 3 + l + count d rest = repeat-count d n body rest in
    record { from = omega (arith, a, all); below = omega (arith, a, all); to = omega (arith, b, all); last = omega (arith, b, all) }
edge-within d (Repeat n body rest) k u v (inr (inr (inr (inr (inr (e)))))) =
    let l : ℕ = count (d + 1) body in
    let all : count d (Repeat n body rest) ≡ 3 + l + count d rest = repeat-count d n body rest in
    wider k (count d (Repeat n body rest)) (k + 3 + l) (count d rest) u v (omega arith) (omega (arith, all)) (edge-within d rest (k + 3 + l) u v e)

-- ---- the branches back

-- a branch back stays within its code, and never goes to its first instruction
pub record BackWithin (k n u v : ℕ) : Type 0 where
  pub first : k < v
  pub falls : v < u
  pub below : u < k + n

back-wider : (k n j m u v : ℕ) → k ≤ j → j + m ≤ k + n → BackWithin j m u v → BackWithin k n u v
back-wider k n j m u v a b w = record { first = omega (arith, a, w.first); falls = w.falls; below = omega (arith, b, w.below) }

pub back-within : (d : ℕ) (p : Pieces) (k u v : ℕ) → Back d p k u v → BackWithin k (count d p) u v
back-within d Done k u v e = elim e [ ]
back-within d (Add n rest) k u v e = back-wider k (suc (count d rest)) (k + 1) (count d rest) u v (omega arith) (omega arith) (back-within d rest (k + 1) u v e)
back-within d (Mix rest) k u v e = back-wider k (suc (count d rest)) (k + 1) (count d rest) u v (omega arith) (omega arith) (back-within d rest (k + 1) u v e)
back-within d (Choose n rest) k u v e =
    back-wider k (count d (Choose n rest)) (k + 5) (count d rest) u v (omega arith) (omega arith) (back-within d rest (k + 5) u v e)
back-within d (Repeat n body rest) k u v (inl (a, b)) =
    let l : ℕ = count (d + 1) body in
    let all : count d (Repeat n body rest) ≡ 3 + l + count d rest = repeat-count d n body rest in
    record { first = omega (arith, b); falls = omega (arith, a, b); below = omega (arith, a, all) }
back-within d (Repeat n body rest) k u v (inr (inl e)) =
    let l : ℕ = count (d + 1) body in
    let all : count d (Repeat n body rest) ≡ 3 + l + count d rest = repeat-count d n body rest in
    back-wider k (count d (Repeat n body rest)) (k + 1) l u v (omega arith) (omega (arith, all)) (back-within (d + 1) body (k + 1) u v e)
back-within d (Repeat n body rest) k u v (inr (inr e)) =
    let l : ℕ = count (d + 1) body in
    let all : count d (Repeat n body rest) ≡ 3 + l + count d rest = repeat-count d n body rest in
    back-wider k (count d (Repeat n body rest)) (k + 3 + l) (count d rest) u v (omega arith) (omega (arith, all)) (back-within d rest (k + 3 + l) u v e)

-- each edge goes on, or is a branch back
pub edge-forth : (d : ℕ) (p : Pieces) (k u v : ℕ) → Edge d p k u v → (u < v) ⊎ Back d p k u v
edge-forth d Done k u v e = elim e [ ]
edge-forth d (Add n rest) k u v (inl (a, b)) = inl (omega (arith, a, b))
edge-forth d (Add n rest) k u v (inr e) = edge-forth d rest (k + 1) u v e
edge-forth d (Mix rest) k u v (inl (a, b)) = inl (omega (arith, a, b))
edge-forth d (Mix rest) k u v (inr e) = edge-forth d rest (k + 1) u v e
edge-forth d (Choose n rest) k u v (inl c) = inl (choice-within k u v c).2
edge-forth d (Choose n rest) k u v (inr e) = edge-forth d rest (k + 5) u v e
edge-forth d (Repeat n body rest) k u v (inl (a, b)) = inl (omega (arith, a, b))
edge-forth d (Repeat n body rest) k u v (inr (inl e)) =
    elim (edge-forth (d + 1) body (k + 1) u v e) [ inl h ↦ inl h | inr h ↦ inr (inr (inl h)) ]
edge-forth d (Repeat n body rest) k u v (inr (inr (inl (a, b)))) = inl (omega (arith, a, b))
edge-forth d (Repeat n body rest) k u v (inr (inr (inr (inl h)))) = inr (inl h)
edge-forth d (Repeat n body rest) k u v (inr (inr (inr (inr (inl (a, b)))))) = inl (omega (arith, a, b))
edge-forth d (Repeat n body rest) k u v (inr (inr (inr (inr (inr e))))) =
    elim (edge-forth d rest (k + 3 + count (d + 1) body) u v e) [ inl h ↦ inl h | inr h ↦ inr (inr (inr h)) ]

-- what leads into a loop from outside leads to its first instruction
pub enters-at-head : (d : ℕ) (p : Pieces) (k u v x y : ℕ) → Back d p k u v → Edge d p k x y → v ≤ y → y ≤ u → ((v ≤ x) × (x ≤ u)) ⊎ (y ≡ v)
enters-at-head d Done k u v x y q e h g2 = elim q [ ]
enters-at-head d (Add n rest) k u v x y q (inl (a, b)) h g2 =
    let w = back-within d rest (k + 1) u v q in absurd (omega (arith, w.first, w.falls, a, b, h, g2))
enters-at-head d (Add n rest) k u v x y q (inr e) h g2 = enters-at-head d rest (k + 1) u v x y q e h g2
enters-at-head d (Mix rest) k u v x y q (inl (a, b)) h g2 =
    let w = back-within d rest (k + 1) u v q in absurd (omega (arith, w.first, w.falls, a, b, h, g2))
enters-at-head d (Mix rest) k u v x y q (inr e) h g2 = enters-at-head d rest (k + 1) u v x y q e h g2
enters-at-head d (Choose n rest) k u v x y q (inl c) h g2 =
    let w = back-within d rest (k + 5) u v q in
    let z = choice-within k x y c in
    absurd (omega (arith, w.first, w.falls, z.0, z.1, z.2, z.3, h, g2))
enters-at-head d (Choose n rest) k u v x y q (inr e) h g2 = enters-at-head d rest (k + 5) u v x y q e h g2
enters-at-head d (Repeat n body rest) k u v x y (inl (f, g)) (inl (a, b)) h g2 =
    let l : ℕ = count (d + 1) body in
    inr (omega (arith, f, g, a, b, h, g2))
enters-at-head d (Repeat n body rest) k u v x y (inl (f, g)) (inr (inl e)) h g2 =
    let l : ℕ = count (d + 1) body in
    let z = edge-within (d + 1) body (k + 1) x y e in
    inl (omega (arith, f, g, z.from, z.below, z.to, z.last, h, g2), omega (arith, f, g, z.from, z.below, z.to, z.last, h, g2))
enters-at-head d (Repeat n body rest) k u v x y (inl (f, g)) (inr (inr (inl (a, b)))) h g2 =
    let l : ℕ = count (d + 1) body in
    inl (omega (arith, f, g, a, b, h, g2), omega (arith, f, g, a, b, h, g2))
enters-at-head d (Repeat n body rest) k u v x y (inl (f, g)) (inr (inr (inr (inl (a, b))))) h g2 =
    let l : ℕ = count (d + 1) body in
    inl (omega (arith, f, g, a, b, h, g2), omega (arith, f, g, a, b, h, g2))
enters-at-head d (Repeat n body rest) k u v x y (inl (f, g)) (inr (inr (inr (inr (inl (a, b)))))) h g2 =
    let l : ℕ = count (d + 1) body in
    inl (omega (arith, f, g, a, b, h, g2), omega (arith, f, g, a, b, h, g2))
enters-at-head d (Repeat n body rest) k u v x y (inl (f, g)) (inr (inr (inr (inr (inr (e)))))) h g2 =
    let l : ℕ = count (d + 1) body in
    let z = edge-within d rest (k + 3 + l) x y e in
    absurd (omega (arith, f, g, z.from, z.below, z.to, z.last, h, g2))
enters-at-head d (Repeat n body rest) k u v x y (inr (inl q)) (inl (a, b)) h g2 =
    let l : ℕ = count (d + 1) body in
    let w = back-within (d + 1) body (k + 1) u v q in
    absurd (omega (arith, w.first, w.falls, w.below, a, b, h, g2))
enters-at-head d (Repeat n body rest) k u v x y (inr (inl q)) (inr (inl e)) h g2 = enters-at-head (d + 1) body (k + 1) u v x y q e h g2
enters-at-head d (Repeat n body rest) k u v x y (inr (inl q)) (inr (inr (inl (a, b)))) h g2 =
    let l : ℕ = count (d + 1) body in
    let w = back-within (d + 1) body (k + 1) u v q in
    absurd (omega (arith, w.first, w.falls, w.below, a, b, h, g2))
enters-at-head d (Repeat n body rest) k u v x y (inr (inl q)) (inr (inr (inr (inl (a, b))))) h g2 =
    let l : ℕ = count (d + 1) body in
    let w = back-within (d + 1) body (k + 1) u v q in
    absurd (omega (arith, w.first, w.falls, w.below, a, b, h, g2))
enters-at-head d (Repeat n body rest) k u v x y (inr (inl q)) (inr (inr (inr (inr (inl (a, b)))))) h g2 =
    let l : ℕ = count (d + 1) body in
    let w = back-within (d + 1) body (k + 1) u v q in
    absurd (omega (arith, w.first, w.falls, w.below, a, b, h, g2))
enters-at-head d (Repeat n body rest) k u v x y (inr (inl q)) (inr (inr (inr (inr (inr (e)))))) h g2 =
    let l : ℕ = count (d + 1) body in
    let w = back-within (d + 1) body (k + 1) u v q in
    let z = edge-within d rest (k + 3 + l) x y e in
    absurd (omega (arith, w.first, w.falls, w.below, z.from, z.below, z.to, z.last, h, g2))
enters-at-head d (Repeat n body rest) k u v x y (inr (inr (q))) (inl (a, b)) h g2 =
    let l : ℕ = count (d + 1) body in
    let w = back-within d rest (k + 3 + l) u v q in
    absurd (omega (arith, w.first, w.falls, w.below, a, b, h, g2))
enters-at-head d (Repeat n body rest) k u v x y (inr (inr (q))) (inr (inl e)) h g2 =
    let l : ℕ = count (d + 1) body in
    let w = back-within d rest (k + 3 + l) u v q in
    let z = edge-within (d + 1) body (k + 1) x y e in
    absurd (omega (arith, w.first, w.falls, w.below, z.from, z.below, z.to, z.last, h, g2))
enters-at-head d (Repeat n body rest) k u v x y (inr (inr (q))) (inr (inr (inl (a, b)))) h g2 =
    let l : ℕ = count (d + 1) body in
    let w = back-within d rest (k + 3 + l) u v q in
    absurd (omega (arith, w.first, w.falls, w.below, a, b, h, g2))
enters-at-head d (Repeat n body rest) k u v x y (inr (inr (q))) (inr (inr (inr (inl (a, b))))) h g2 =
    let l : ℕ = count (d + 1) body in
    let w = back-within d rest (k + 3 + l) u v q in
    absurd (omega (arith, w.first, w.falls, w.below, a, b, h, g2))
enters-at-head d (Repeat n body rest) k u v x y (inr (inr (q))) (inr (inr (inr (inr (inl (a, b)))))) h g2 =
    let l : ℕ = count (d + 1) body in
    let w = back-within d rest (k + 3 + l) u v q in
    absurd (omega (arith, w.first, w.falls, w.below, a, b, h, g2))
enters-at-head d (Repeat n body rest) k u v x y (inr (inr (q))) (inr (inr (inr (inr (inr (e)))))) h g2 = enters-at-head d rest (k + 3 + count (d + 1) body) u v x y q e h g2

-- what leads on within a loop stays in it
pub stays-inside : (d : ℕ) (p : Pieces) (k u v x y : ℕ) → Back d p k u v → Edge d p k x y → v ≤ x → x < u → (v ≤ y) × (y ≤ u)
stays-inside d Done k u v x y q e h g2 = elim q [ ]
stays-inside d (Add n rest) k u v x y q (inl (a, b)) h g2 =
    let w = back-within d rest (k + 1) u v q in absurd (omega (arith, w.first, w.falls, a, b, h, g2))
stays-inside d (Add n rest) k u v x y q (inr e) h g2 = stays-inside d rest (k + 1) u v x y q e h g2
stays-inside d (Mix rest) k u v x y q (inl (a, b)) h g2 =
    let w = back-within d rest (k + 1) u v q in absurd (omega (arith, w.first, w.falls, a, b, h, g2))
stays-inside d (Mix rest) k u v x y q (inr e) h g2 = stays-inside d rest (k + 1) u v x y q e h g2
stays-inside d (Choose n rest) k u v x y q (inl c) h g2 =
    let w = back-within d rest (k + 5) u v q in
    let z = choice-within k x y c in
    absurd (omega (arith, w.first, w.falls, z.0, z.1, z.2, z.3, h, g2))
stays-inside d (Choose n rest) k u v x y q (inr e) h g2 = stays-inside d rest (k + 5) u v x y q e h g2
stays-inside d (Repeat n body rest) k u v x y (inl (f, g)) (inl (a, b)) h g2 =
    let l : ℕ = count (d + 1) body in
    absurd (omega (arith, f, g, a, b, h, g2))
stays-inside d (Repeat n body rest) k u v x y (inl (f, g)) (inr (inl e)) h g2 =
    let l : ℕ = count (d + 1) body in
    let z = edge-within (d + 1) body (k + 1) x y e in
    (omega (arith, f, g, z.from, z.below, z.to, z.last, h, g2), omega (arith, f, g, z.from, z.below, z.to, z.last, h, g2))
stays-inside d (Repeat n body rest) k u v x y (inl (f, g)) (inr (inr (inl (a, b)))) h g2 =
    let l : ℕ = count (d + 1) body in
    (omega (arith, f, g, a, b, h, g2), omega (arith, f, g, a, b, h, g2))
stays-inside d (Repeat n body rest) k u v x y (inl (f, g)) (inr (inr (inr (inl (a, b))))) h g2 =
    let l : ℕ = count (d + 1) body in
    absurd (omega (arith, f, g, a, b, h, g2))
stays-inside d (Repeat n body rest) k u v x y (inl (f, g)) (inr (inr (inr (inr (inl (a, b)))))) h g2 =
    let l : ℕ = count (d + 1) body in
    absurd (omega (arith, f, g, a, b, h, g2))
stays-inside d (Repeat n body rest) k u v x y (inl (f, g)) (inr (inr (inr (inr (inr (e)))))) h g2 =
    let l : ℕ = count (d + 1) body in
    let z = edge-within d rest (k + 3 + l) x y e in
    absurd (omega (arith, f, g, z.from, z.below, z.to, z.last, h, g2))
stays-inside d (Repeat n body rest) k u v x y (inr (inl q)) (inl (a, b)) h g2 =
    let l : ℕ = count (d + 1) body in
    let w = back-within (d + 1) body (k + 1) u v q in
    absurd (omega (arith, w.first, w.falls, w.below, a, b, h, g2))
stays-inside d (Repeat n body rest) k u v x y (inr (inl q)) (inr (inl e)) h g2 = stays-inside (d + 1) body (k + 1) u v x y q e h g2
stays-inside d (Repeat n body rest) k u v x y (inr (inl q)) (inr (inr (inl (a, b)))) h g2 =
    let l : ℕ = count (d + 1) body in
    let w = back-within (d + 1) body (k + 1) u v q in
    absurd (omega (arith, w.first, w.falls, w.below, a, b, h, g2))
stays-inside d (Repeat n body rest) k u v x y (inr (inl q)) (inr (inr (inr (inl (a, b))))) h g2 =
    let l : ℕ = count (d + 1) body in
    let w = back-within (d + 1) body (k + 1) u v q in
    absurd (omega (arith, w.first, w.falls, w.below, a, b, h, g2))
stays-inside d (Repeat n body rest) k u v x y (inr (inl q)) (inr (inr (inr (inr (inl (a, b)))))) h g2 =
    let l : ℕ = count (d + 1) body in
    let w = back-within (d + 1) body (k + 1) u v q in
    absurd (omega (arith, w.first, w.falls, w.below, a, b, h, g2))
stays-inside d (Repeat n body rest) k u v x y (inr (inl q)) (inr (inr (inr (inr (inr (e)))))) h g2 =
    let l : ℕ = count (d + 1) body in
    let w = back-within (d + 1) body (k + 1) u v q in
    let z = edge-within d rest (k + 3 + l) x y e in
    absurd (omega (arith, w.first, w.falls, w.below, z.from, z.below, z.to, z.last, h, g2))
stays-inside d (Repeat n body rest) k u v x y (inr (inr (q))) (inl (a, b)) h g2 =
    let l : ℕ = count (d + 1) body in
    let w = back-within d rest (k + 3 + l) u v q in
    absurd (omega (arith, w.first, w.falls, w.below, a, b, h, g2))
stays-inside d (Repeat n body rest) k u v x y (inr (inr (q))) (inr (inl e)) h g2 =
    let l : ℕ = count (d + 1) body in
    let w = back-within d rest (k + 3 + l) u v q in
    let z = edge-within (d + 1) body (k + 1) x y e in
    absurd (omega (arith, w.first, w.falls, w.below, z.from, z.below, z.to, z.last, h, g2))
stays-inside d (Repeat n body rest) k u v x y (inr (inr (q))) (inr (inr (inl (a, b)))) h g2 =
    let l : ℕ = count (d + 1) body in
    let w = back-within d rest (k + 3 + l) u v q in
    absurd (omega (arith, w.first, w.falls, w.below, a, b, h, g2))
stays-inside d (Repeat n body rest) k u v x y (inr (inr (q))) (inr (inr (inr (inl (a, b))))) h g2 =
    let l : ℕ = count (d + 1) body in
    let w = back-within d rest (k + 3 + l) u v q in
    absurd (omega (arith, w.first, w.falls, w.below, a, b, h, g2))
stays-inside d (Repeat n body rest) k u v x y (inr (inr (q))) (inr (inr (inr (inr (inl (a, b)))))) h g2 =
    let l : ℕ = count (d + 1) body in
    let w = back-within d rest (k + 3 + l) u v q in
    absurd (omega (arith, w.first, w.falls, w.below, a, b, h, g2))
stays-inside d (Repeat n body rest) k u v x y (inr (inr (q))) (inr (inr (inr (inr (inr (e)))))) h g2 = stays-inside d rest (k + 3 + count (d + 1) body) u v x y q e h g2

-- the branch back goes to the first instruction, or on
pub leaves-at-end : (d : ℕ) (p : Pieces) (k u v x y : ℕ) → Back d p k u v → Edge d p k x y → x ≡ u → (y ≡ v) ⊎ (y ≡ u + 1)
leaves-at-end d Done k u v x y q e h = elim q [ ]
leaves-at-end d (Add n rest) k u v x y q (inl (a, b)) h =
    let w = back-within d rest (k + 1) u v q in absurd (omega (arith, w.first, w.falls, a, b, h))
leaves-at-end d (Add n rest) k u v x y q (inr e) h = leaves-at-end d rest (k + 1) u v x y q e h
leaves-at-end d (Mix rest) k u v x y q (inl (a, b)) h =
    let w = back-within d rest (k + 1) u v q in absurd (omega (arith, w.first, w.falls, a, b, h))
leaves-at-end d (Mix rest) k u v x y q (inr e) h = leaves-at-end d rest (k + 1) u v x y q e h
leaves-at-end d (Choose n rest) k u v x y q (inl c) h =
    let w = back-within d rest (k + 5) u v q in
    let z = choice-within k x y c in
    absurd (omega (arith, w.first, w.falls, z.0, z.1, z.2, z.3, h))
leaves-at-end d (Choose n rest) k u v x y q (inr e) h = leaves-at-end d rest (k + 5) u v x y q e h
leaves-at-end d (Repeat n body rest) k u v x y (inl (f, g)) (inl (a, b)) h =
    let l : ℕ = count (d + 1) body in
    absurd (omega (arith, f, g, a, b, h))
leaves-at-end d (Repeat n body rest) k u v x y (inl (f, g)) (inr (inl e)) h =
    let l : ℕ = count (d + 1) body in
    let z = edge-within (d + 1) body (k + 1) x y e in
    absurd (omega (arith, f, g, z.from, z.below, z.to, z.last, h))
leaves-at-end d (Repeat n body rest) k u v x y (inl (f, g)) (inr (inr (inl (a, b)))) h =
    let l : ℕ = count (d + 1) body in
    absurd (omega (arith, f, g, a, b, h))
leaves-at-end d (Repeat n body rest) k u v x y (inl (f, g)) (inr (inr (inr (inl (a, b))))) h =
    let l : ℕ = count (d + 1) body in
    inl (omega (arith, f, g, a, b, h))
leaves-at-end d (Repeat n body rest) k u v x y (inl (f, g)) (inr (inr (inr (inr (inl (a, b)))))) h =
    let l : ℕ = count (d + 1) body in
    inr (omega (arith, f, g, a, b, h))
leaves-at-end d (Repeat n body rest) k u v x y (inl (f, g)) (inr (inr (inr (inr (inr (e)))))) h =
    let l : ℕ = count (d + 1) body in
    let z = edge-within d rest (k + 3 + l) x y e in
    absurd (omega (arith, f, g, z.from, z.below, z.to, z.last, h))
leaves-at-end d (Repeat n body rest) k u v x y (inr (inl q)) (inl (a, b)) h =
    let l : ℕ = count (d + 1) body in
    let w = back-within (d + 1) body (k + 1) u v q in
    absurd (omega (arith, w.first, w.falls, w.below, a, b, h))
leaves-at-end d (Repeat n body rest) k u v x y (inr (inl q)) (inr (inl e)) h = leaves-at-end (d + 1) body (k + 1) u v x y q e h
leaves-at-end d (Repeat n body rest) k u v x y (inr (inl q)) (inr (inr (inl (a, b)))) h =
    let l : ℕ = count (d + 1) body in
    let w = back-within (d + 1) body (k + 1) u v q in
    absurd (omega (arith, w.first, w.falls, w.below, a, b, h))
leaves-at-end d (Repeat n body rest) k u v x y (inr (inl q)) (inr (inr (inr (inl (a, b))))) h =
    let l : ℕ = count (d + 1) body in
    let w = back-within (d + 1) body (k + 1) u v q in
    absurd (omega (arith, w.first, w.falls, w.below, a, b, h))
leaves-at-end d (Repeat n body rest) k u v x y (inr (inl q)) (inr (inr (inr (inr (inl (a, b)))))) h =
    let l : ℕ = count (d + 1) body in
    let w = back-within (d + 1) body (k + 1) u v q in
    absurd (omega (arith, w.first, w.falls, w.below, a, b, h))
leaves-at-end d (Repeat n body rest) k u v x y (inr (inl q)) (inr (inr (inr (inr (inr (e)))))) h =
    let l : ℕ = count (d + 1) body in
    let w = back-within (d + 1) body (k + 1) u v q in
    let z = edge-within d rest (k + 3 + l) x y e in
    absurd (omega (arith, w.first, w.falls, w.below, z.from, z.below, z.to, z.last, h))
leaves-at-end d (Repeat n body rest) k u v x y (inr (inr (q))) (inl (a, b)) h =
    let l : ℕ = count (d + 1) body in
    let w = back-within d rest (k + 3 + l) u v q in
    absurd (omega (arith, w.first, w.falls, w.below, a, b, h))
leaves-at-end d (Repeat n body rest) k u v x y (inr (inr (q))) (inr (inl e)) h =
    let l : ℕ = count (d + 1) body in
    let w = back-within d rest (k + 3 + l) u v q in
    let z = edge-within (d + 1) body (k + 1) x y e in
    absurd (omega (arith, w.first, w.falls, w.below, z.from, z.below, z.to, z.last, h))
leaves-at-end d (Repeat n body rest) k u v x y (inr (inr (q))) (inr (inr (inl (a, b)))) h =
    let l : ℕ = count (d + 1) body in
    let w = back-within d rest (k + 3 + l) u v q in
    absurd (omega (arith, w.first, w.falls, w.below, a, b, h))
leaves-at-end d (Repeat n body rest) k u v x y (inr (inr (q))) (inr (inr (inr (inl (a, b))))) h =
    let l : ℕ = count (d + 1) body in
    let w = back-within d rest (k + 3 + l) u v q in
    absurd (omega (arith, w.first, w.falls, w.below, a, b, h))
leaves-at-end d (Repeat n body rest) k u v x y (inr (inr (q))) (inr (inr (inr (inr (inl (a, b)))))) h =
    let l : ℕ = count (d + 1) body in
    let w = back-within d rest (k + 3 + l) u v q in
    absurd (omega (arith, w.first, w.falls, w.below, a, b, h))
leaves-at-end d (Repeat n body rest) k u v x y (inr (inr (q))) (inr (inr (inr (inr (inr (e)))))) h = leaves-at-end d rest (k + 3 + count (d + 1) body) u v x y q e h

-- each first instruction has one branch back
pub one-back : (d : ℕ) (p : Pieces) (k u w v : ℕ) → Back d p k u v → Back d p k w v → u ≡ w
one-back d Done k u w v q e = elim q [ ]
one-back d (Add n rest) k u w v q e = one-back d rest (k + 1) u w v q e
one-back d (Mix rest) k u w v q e = one-back d rest (k + 1) u w v q e
one-back d (Choose n rest) k u w v q e = one-back d rest (k + 5) u w v q e
one-back d (Repeat n body rest) k u w v (inl (f, g)) (inl (a, b)) = omega (arith, f, a)
one-back d (Repeat n body rest) k u w v (inl (f, g)) (inr (inl e)) =
    let z = back-within (d + 1) body (k + 1) w v e in
    absurd (omega (arith, f, g, z.first, z.falls, z.below))
one-back d (Repeat n body rest) k u w v (inl (f, g)) (inr (inr (e))) =
    let z = back-within d rest (k + 3 + count (d + 1) body) w v e in
    absurd (omega (arith, f, g, z.first, z.falls, z.below))
one-back d (Repeat n body rest) k u w v (inr (inl q)) (inl (a, b)) =
    let m = back-within (d + 1) body (k + 1) u v q in
    absurd (omega (arith, m.first, m.falls, m.below, a, b))
one-back d (Repeat n body rest) k u w v (inr (inl q)) (inr (inl e)) = one-back (d + 1) body (k + 1) u w v q e
one-back d (Repeat n body rest) k u w v (inr (inl q)) (inr (inr (e))) =
    let m = back-within (d + 1) body (k + 1) u v q in
    let z = back-within d rest (k + 3 + count (d + 1) body) w v e in
    absurd (omega (arith, m.first, m.falls, m.below, z.first, z.falls, z.below))
one-back d (Repeat n body rest) k u w v (inr (inr (q))) (inl (a, b)) =
    let m = back-within d rest (k + 3 + count (d + 1) body) u v q in
    absurd (omega (arith, m.first, m.falls, m.below, a, b))
one-back d (Repeat n body rest) k u w v (inr (inr (q))) (inr (inl e)) =
    let m = back-within d rest (k + 3 + count (d + 1) body) u v q in
    let z = back-within (d + 1) body (k + 1) w v e in
    absurd (omega (arith, m.first, m.falls, m.below, z.first, z.falls, z.below))
one-back d (Repeat n body rest) k u w v (inr (inr (q))) (inr (inr (e))) = one-back d rest (k + 3 + count (d + 1) body) u w v q e
