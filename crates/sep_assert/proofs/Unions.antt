-- The union of parts is commutative and associative, and what its existence says.
use Rattle.std.proofs.Common.{◌≡◌, ℕ, refl, sym, ◌∙◌, subst, ◌⊎◌, inl, inr}
use Rattle.std.specs.Prelude.{◌↔◌}
use Rattle.sep_assert.specs.Part.{Key, Slot, Free, Has, Clash, both, Part, ◌⊕◌, Exists, Disjoint, MakeUp}

both-comm : (x y : Slot) → both x y ≡ both y x
both-comm Free Free = refl
both-comm Free (Has m) = refl
both-comm Free Clash = refl
both-comm (Has n) Free = refl
both-comm (Has n) (Has m) = refl
both-comm (Has n) Clash = refl
both-comm Clash Free = refl
both-comm Clash (Has m) = refl
both-comm Clash Clash = refl

both_clash : (x : Slot) → both x Clash ≡ Clash
both_clash Free = refl
both_clash (Has n) = refl
both_clash Clash = refl

both-assoc : (x y z : Slot) → both (both x y) z ≡ both x (both y z)
both-assoc Free y z = refl
both-assoc (Has n) Free z = refl
both-assoc (Has n) (Has m) Free = refl
both-assoc (Has n) (Has m) (Has l) = refl
both-assoc (Has n) (Has m) Clash = refl
both-assoc (Has n) Clash z = sym (both_clash (Has n))
both-assoc Clash y z = refl

pub union-comm : (p q : Part) → p ⊕ q ≡ q ⊕ p
union-comm p q = λ i k. both-comm (p k) (q k) i

pub union-assoc : (p q r : Part) → (p ⊕ q) ⊕ r ≡ p ⊕ (q ⊕ r)
union-assoc p q r = λ i k. both-assoc (p k) (q k) (r k) i

-- ---- what it says that a union exists

apart : (x y : Slot) → (both x y ≡ Clash → ⊥) → (x ≡ Clash → ⊥) × (y ≡ Clash → ⊥) × ((x ≡ Free) ⊎ (y ≡ Free))
apart Free y h = (λ e. cc, h, inl refl)
apart (Has n) Free h = (λ e. cc, λ e. cc, inr refl)
apart (Has n) (Has m) h = absurd (h refl)
apart (Has n) Clash h = absurd (h refl)
apart Clash y h = absurd (h refl)

together : (x y : Slot) → (x ≡ Clash → ⊥) → (y ≡ Clash → ⊥) → (x ≡ Free) ⊎ (y ≡ Free) → both x y ≡ Clash → ⊥
together Free y f g d e = g e
together (Has n) Free f g d e = cc
together (Has n) (Has m) f g (inl d) e = cc
together (Has n) (Has m) f g (inr d) e = cc
together (Has n) Clash f g d e = g refl
together Clash y f g d e = f refl

-- a union exists exactly where both parts do and they are disjoint
pub union-exists : (p q : Part) → Exists (p ⊕ q) ↔ (Exists p × Exists q × Disjoint p q)
union-exists p q = (
  λ h. (λ k. (apart (p k) (q k) (h k)).0, λ k. (apart (p k) (q k) (h k)).1, λ k. (apart (p k) (q k) (h k)).2),
  λ h k. together (p k) (q k) (h.0 k) (h.1 k) (h.2 k),
)

-- ---- a whole of three parts

free-both : (x y : Slot) → both x y ≡ Free → (x ≡ Free) × (y ≡ Free)
free-both Free y e = (refl, e)
free-both (Has n) Free e = absurd (cc)
free-both (Has n) (Has m) e = absurd (cc)
free-both (Has n) Clash e = absurd (cc)
free-both Clash y e = absurd (cc)

disjoint-both : (x y z : Slot) → (x ≡ Free) ⊎ (both y z ≡ Free) → ((x ≡ Free) ⊎ (y ≡ Free)) × ((x ≡ Free) ⊎ (z ≡ Free))
disjoint-both x y z (inl e) = (inl e, inl e)
disjoint-both x y z (inr e) = let h = free-both y z e in (inr h.0, inr h.1)

-- a number that is in one of two slots, one of which is free, is in both of them together, and the other way
has-both : (x y : Slot) (n : ℕ) → both x y ≡ Has n → (x ≡ Has n) ⊎ (y ≡ Has n)
has-both Free y n e = inr e
has-both (Has m) Free n e = inl e
has-both (Has m) (Has l) n e = absurd (cc)
has-both (Has m) Clash n e = absurd (cc)
has-both Clash y n e = absurd (cc)

both-has : (x y : Slot) (n : ℕ) → (x ≡ Free) ⊎ (y ≡ Free) → (x ≡ Has n) ⊎ (y ≡ Has n) → both x y ≡ Has n
both-has Free y n d (inl e) = absurd (cc)
both-has Free y n d (inr e) = e
both-has (Has m) Free n d (inl e) = e
both-has (Has m) Free n d (inr e) = absurd (cc)
both-has (Has m) (Has l) n (inl d) e = absurd (cc)
both-has (Has m) (Has l) n (inr d) e = absurd (cc)
both-has (Has m) Clash n (inl d) e = absurd (cc)
both-has (Has m) Clash n (inr d) e = absurd (cc)
both-has Clash y n (inl d) e = absurd (cc)
both-has Clash y n (inr d) (inl e) = absurd (cc)
both-has Clash y n (inr d) (inr e) = absurd (cc)

one_of : (x y z : Slot) (n : ℕ) → both x (both y z) ≡ Has n → (x ≡ Has n) ⊎ ((y ≡ Has n) ⊎ (z ≡ Has n))
one_of x y z n e = elim (has-both x (both y z) n e) [ inl h ↦ inl h | inr h ↦ inr (has-both y z n h) ]

-- the slots of three disjoint parts
module _ (x y z : Slot) (xy : (x ≡ Free) ⊎ (y ≡ Free)) (xz : (x ≡ Free) ⊎ (z ≡ Free)) (yz : (y ≡ Free) ⊎ (z ≡ Free)) where
  yz_free : (n : ℕ) → x ≡ Has n → both y z ≡ Free
  yz_free n e = elim xy [
    | inl f ↦ absurd (cc)
    | inr f ↦ elim xz [ inl g ↦ absurd (cc) | inr g ↦ (λ i. both (f i) (g i)) ]
  ]

  x_free : (n : ℕ) → (y ≡ Has n) ⊎ (z ≡ Has n) → x ≡ Free
  x_free n (inl e) = elim xy [ inl f ↦ f | inr f ↦ absurd (cc) ]
  x_free n (inr e) = elim xz [ inl f ↦ f | inr f ↦ absurd (cc) ]

  all_of : (n : ℕ) → (x ≡ Has n) ⊎ ((y ≡ Has n) ⊎ (z ≡ Has n)) → both x (both y z) ≡ Has n
  all_of n (inl e) = both-has x (both y z) n (inr (yz_free n e)) (inl e)
  all_of n (inr e) = both-has x (both y z) n (inl (x_free n e)) (inr (both-has y z n yz e))

free : (x : Slot) → (x ≡ Clash → ⊥) → ((n : ℕ) → x ≡ Has n → ⊥) → x ≡ Free
free Free h f = refl
free (Has n) h f = absurd (f n refl)
free Clash h f = absurd (h refl)

made_up : (w x y z : Slot) (xy : (x ≡ Free) ⊎ (y ≡ Free)) (xz : (x ≡ Free) ⊎ (z ≡ Free)) (yz : (y ≡ Free) ⊎ (z ≡ Free))
    → (w ≡ Clash → ⊥) → (x ≡ Clash → ⊥) → (y ≡ Clash → ⊥) → (z ≡ Clash → ⊥)
    → ((n : ℕ) → (w ≡ Has n) ↔ ((x ≡ Has n) ⊎ ((y ≡ Has n) ⊎ (z ≡ Has n)))) → w ≡ both x (both y z)
made_up Clash x y z xy xz yz hw hx hy hz told = absurd (hw refl)
made_up (Has n) x y z xy xz yz hw hx hy hz told = sym (all_of x y z xy xz yz n ((told n).0 refl))
made_up Free x y z xy xz yz hw hx hy hz told =
    let none : (n : ℕ) → (x ≡ Has n) ⊎ ((y ≡ Has n) ⊎ (z ≡ Has n)) → ⊥ = λ n h. let e = (told n).1 h in cc in
    let x_is = free x hx (λ n e. none n (inl e)) in
    let y_is = free y hy (λ n e. none n (inr (inl e))) in
    let z_is = free z hz (λ n e. none n (inr (inr e))) in
    λ i. both (sym x_is i) (both (sym y_is i) (sym z_is i))

-- an existing whole is the union of three parts exactly where these exist, share no key, and make it up
pub union-makes_up : (whole p q r : Part) → Exists whole → (whole ≡ p ⊕ (q ⊕ r)) ↔ MakeUp whole p q r
union-makes_up whole p q r exists = (
  λ e.
      let all = (union-exists p (q ⊕ r)).0 (subst Exists e exists) in
      let two = (union-exists q r).0 all.1 in
      record {
        first = all.0;
        second = two.0;
        third = two.1;
        first_second = λ k. (disjoint-both (p k) (q k) (r k) (all.2 k)).0;
        first_third = λ k. (disjoint-both (p k) (q k) (r k) (all.2 k)).1;
        second_third = two.2;
        together = λ k n. (
          λ h. one_of (p k) (q k) (r k) n ((λ i. sym e i k) ∙ h),
          λ h.
              let d = disjoint-both (p k) (q k) (r k) (all.2 k) in
              (λ i. e i k) ∙ all_of (p k) (q k) (r k) d.0 d.1 (two.2 k) n h,
        );
      },
  λ m.
      let at : (k : Key) → whole k ≡ both (p k) (both (q k) (r k)) =
      λ k. made_up (whole k) (p k) (q k) (r k) (m.first_second k) (m.first_third k) (m.second_third k) (exists k) (m.first k) (m.second k) (m.third k) (m.together k) in
      λ i k. at k i,
)
