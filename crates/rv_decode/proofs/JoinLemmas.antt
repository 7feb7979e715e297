-- Numbers made of fields: what stands in each field, and that a number is made of its own fields.
use Rattle.std.proofs.Common.{◌≡◌, ℕ, zero, suc, ◌+◌, ◌*◌, ◌/◌, ◌%◌, ◌^◌, ◌<◌, ◌≤◌, List, [], ◌∷◌, refl, sym, ap, ◌∙◌, arith}
use Rattle.std.proofs.Math.Nat.{div-one, mod-one, mod-lt, mod-eq_of_lt, div-eq_of_lt, add-mul-div_left, add-mul-mod_self_left, mul-le-mul_left}
use Rattle.std.proofs.lemmas.Nat.{pow_pos, pow-add, shr-shr, mod-pow-add}
use Rattle.rv_decode.specs.Fields.{bits}
use Rattle.rv_decode.specs.Encodes.{Field, in_bits, join}

-- the lowest bit of the field with that number, the number of its bits, and its value
abbrev pub low_of : List Field → ℕ → ℕ
low_of [] k = 0
low_of (f ∷ fs) zero = 0
low_of (f ∷ fs) (suc k) = f.count + low_of fs k

abbrev pub count_of : List Field → ℕ → ℕ
count_of [] k = 0
count_of (f ∷ fs) zero = f.count
count_of (f ∷ fs) (suc k) = count_of fs k

abbrev pub value_of : List Field → ℕ → ℕ
value_of [] k = 0
value_of (f ∷ fs) zero = f.value
value_of (f ∷ fs) (suc k) = value_of fs k

pub mod_twice : (n k : ℕ) → n % 2 ^ k % 2 ^ k ≡ n % 2 ^ k
mod_twice n k = mod-eq_of_lt (mod-lt n (pow_pos k))

first_bits : (v c j : ℕ) → (v % 2 ^ c + 2 ^ c * j) % 2 ^ c ≡ v % 2 ^ c
first_bits v c j = add-mul-mod_self_left (v % 2 ^ c) (2 ^ c) j ∙ mod_twice v c

other_bits : (v c j : ℕ) → (v % 2 ^ c + 2 ^ c * j) / 2 ^ c ≡ j
other_bits v c j = add-mul-div_left (v % 2 ^ c) j (pow_pos c) ∙ (λ i. small (v % 2 ^ c) c (mod-lt v (pow_pos c)) i + j) ∙ omega arith
  where
    small : (n c : ℕ) → n < 2 ^ c → n / 2 ^ c ≡ 0
    small n c h = div-eq_of_lt h

-- what stands in a field
pub bits_at : (fs : List Field) (k : ℕ) → bits (low_of fs k) (count_of fs k) (join fs) ≡ value_of fs k % 2 ^ count_of fs k
bits_at [] k = refl
bits_at (f ∷ fs) zero = ap (λ n. n % 2 ^ f.count) (div-one (join (f ∷ fs))) ∙ first_bits f.value f.count (join fs)
bits_at (f ∷ fs) (suc k) =
    ap (λ n. n % 2 ^ count_of fs k) (sym (shr-shr (join (f ∷ fs)) f.count (low_of fs k)) ∙ ap (λ n. n / 2 ^ low_of fs k) (other_bits f.value f.count (join fs)))
    ∙ bits_at fs k

-- the fields with so many bits, from the lowest bit on
abbrev pub cut : ℕ → List ℕ → ℕ → List Field
cut low [] w = []
cut low (c ∷ cs) w = in_bits c (bits low c w) ∷ cut (low + c) cs w

abbrev pub total : List ℕ → ℕ
total [] = 0
total (c ∷ cs) = total cs + c

join_cut : (low : ℕ) (cs : List ℕ) (w : ℕ) → join (cut low cs w) ≡ w / 2 ^ low % 2 ^ total cs
join_cut low [] w = sym (mod-one (w / 2 ^ low))
join_cut low (c ∷ cs) w =
    let rest : join (cut (low + c) cs w) ≡ w / 2 ^ low / 2 ^ c % 2 ^ total cs = join_cut (low + c) cs w ∙ ap (λ n. n % 2 ^ total cs) (sym (shr-shr w low c)) in
    (λ i. mod_twice (w / 2 ^ low) c i + 2 ^ c * rest i) ∙ turned (w / 2 ^ low % 2 ^ c) (2 ^ c) (w / 2 ^ low / 2 ^ c % 2 ^ total cs) ∙ sym (mod-pow-add (w / 2 ^ low) (total cs) c)
  where
    turned : (a b x : ℕ) → a + b * x ≡ x * b + a
    turned a b x = grind arith

-- a word is made of its fields
pub whole : (cs : List ℕ) (w : ℕ) → total cs ≡ 32 → w < 2 ^ 32 → join (cut 0 cs w) ≡ w
whole cs w h below = join_cut 0 cs w ∙ (λ i. div-one w i % 2 ^ h i) ∙ mod-eq_of_lt below

-- fields that have the same bits
abbrev pub Same : List Field → List Field → Type 0
Same [] [] = Unit {0}
Same [] (g ∷ gs) = ⊥
Same (f ∷ fs) [] = ⊥
Same (f ∷ fs) (g ∷ gs) = (f.count ≡ g.count) × (f.value % 2 ^ f.count ≡ g.value % 2 ^ g.count) × Same fs gs

pub join_same : (fs gs : List Field) → Same fs gs → join fs ≡ join gs
join_same [] [] h = refl
join_same [] (g ∷ gs) h = absurd h
join_same (f ∷ fs) [] h = absurd h
join_same (f ∷ fs) (g ∷ gs) h = let rest = join_same fs gs h.2 in λ i. h.1 i + 2 ^ h.0 i * rest i

abbrev pub counts_of : List Field → List ℕ
counts_of [] = []
counts_of (f ∷ fs) = f.count ∷ counts_of fs

pub join_below : (fs : List Field) → join fs < 2 ^ total (counts_of fs)
join_below [] = omega arith
join_below (f ∷ fs) =
    let rest = join_below fs in
    let here : f.value % 2 ^ f.count < 2 ^ f.count = mod-lt f.value (pow_pos f.count) in
    below (f.value % 2 ^ f.count) (2 ^ f.count) (join fs) (2 ^ total (counts_of fs)) (2 ^ total (counts_of (f ∷ fs))) here rest (pow-add 2 (total (counts_of fs)) f.count)
  where
    below : (v c j t n : ℕ) → v < c → j < t → n ≡ t * c → v + c * j < n
    below v c j t n h l e =
        let more : c * suc j ≤ c * t = mul-le-mul_left c l in
        omega (arith, e)
