-- Drawn code begins with the piece of its kind, whatever bounds the number of pieces.
use Rattle.std.proofs.Common.{◌≡◌, ℕ, zero, suc, ◌+◌, ◌-◌, ◌<◌, ◌≤◌, min, refl, ap, ◌∙◌, arith}
use Rattle.code_gen.specs.Draws.{draw, next}
use Rattle.code_gen.specs.Pieces.{Done, Add, Mix, Choose, Repeat, Kind, Adds, Mixes, Chooses, Repeats, kind, Drawing, in_front, beginning, drawn_within, drawn}
use Rattle.code_gen.proofs.KindLemmas.{kind-repeats-size}

pub draw_below : (n s : ℕ) → 0 < n → draw n s < n
draw_below n s h = grind arith

-- a loop's body takes up no more than what its head and its end leave
pub body_within : (u s : ℕ) → 3 ≤ u → 1 + draw (min (u - 2) 64) s ≤ u - 2
body_within u s h =
    let b : draw (min (u - 2) 64) s < min (u - 2) 64 = draw_below (min (u - 2) 64) s (omega arith) in
    omega (arith, b)

-- two manners of drawing that agree on lesser sizes begin alike
begins-alike : (f g : Drawing) (k : Kind) (n d s : ℕ) → (k ≡ Repeats → 3 ≤ suc n)
    → ((v e t : ℕ) → v ≤ n → f v e t ≡ g v e t) → beginning f k (suc n) d s ≡ beginning g k (suc n) d s
begins-alike f g Adds n d s h e = ap (in_front (Add (suc n))) (e (suc n - 1) d s (omega arith))
begins-alike f g Mixes n d s h e = ap (in_front Mix) (e (suc n - 1) d s (omega arith))
begins-alike f g Chooses n d s h e = ap (in_front (Choose (suc n))) (e (suc n - 3) d s (omega arith))
begins-alike f g Repeats n d s h e =
    let turns : ℕ = 1 + draw 4 s in
    let t : ℕ = next s in
    let m : ℕ = 1 + draw (min (suc n - 2) 64) t in
    let within : m ≤ suc n - 2 = body_within (suc n) t (h refl) in
    let size : 3 ≤ suc n = h refl in
    let body : f m (d + 1) (next t) ≡ g m (d + 1) (next t) = e m (d + 1) (next t) (omega (arith, within, size)) in
    let rest : ℕ = suc n - (m + 2) in
    (λ i. in_front (Repeat turns (body i).pieces) (f rest d (body i).seed))
    ∙ (λ i. in_front (Repeat turns (g m (d + 1) (next t)).pieces) (e rest d (g m (d + 1) (next t)).seed (omega arith) i))

none_below : (n : ℕ) → suc n ≤ 0 → ⊥
none_below n h = omega (arith, h)

enough : (k l u d s : ℕ) → u ≤ k → u ≤ l → drawn_within k u d s ≡ drawn_within l u d s
enough zero zero zero d s a b = refl
enough zero (suc l) zero d s a b = refl
enough (suc k) zero zero d s a b = refl
enough (suc k) (suc l) zero d s a b = refl
enough zero l (suc n) d s a b = elim (none_below n a) [ ]
enough (suc k) zero (suc n) d s a b = elim (none_below n b) [ ]
enough (suc k) (suc l) (suc n) d s a b =
    begins-alike (drawn_within k) (drawn_within l) (kind (draw 4 s) (suc n) d) n d (next s)
    (kind-repeats-size (draw 4 s) (suc n) d)
    (λ v e t h. enough k l v e t (omega (arith, a, h)) (omega (arith, b, h)))

-- nothing is drawn for size 0
pub drawn-none : (d s : ℕ) → drawn 0 d s ≡ record { pieces = Done; seed = s }
unfolding drawn
drawn-none d s = refl

-- what is drawn begins with the piece of its kind
pub drawn-begins : (u d s : ℕ) → 0 < u → drawn u d s ≡ beginning drawn (kind (draw 4 s) u d) u d (next s)
unfolding drawn
drawn-begins zero d s h = elim (none_below 0 h) [ ]
drawn-begins (suc n) d s h =
    begins-alike (drawn_within n) drawn (kind (draw 4 s) (suc n) d) n d (next s)
    (kind-repeats-size (draw 4 s) (suc n) d)
    (λ v e t h. enough n v v e t h (omega arith))

-- the same where the kind is known
pub drawn-is : (u d s : ℕ) (k : Kind) → 0 < u → kind (draw 4 s) u d ≡ k → drawn u d s ≡ beginning drawn k u d (next s)
drawn-is u d s k h e = drawn-begins u d s h ∙ (λ i. beginning drawn (e i) u d (next s))
