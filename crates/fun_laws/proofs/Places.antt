-- A rewritten child, and so a term rewritten at a place, leaves the term's value.
use Rattle.std.proofs.Common.{◌≡◌, ℕ, zero, suc, List, [], ◌∷◌, Some, slice_get, refl, sym, subst}
use Rattle.rv_words.specs.Operation.{operation_value, extension_value, comparison_holds}
use Rattle.rv_words.specs.Bytes.{load, store, inside, bytes_of}
use Rattle.std.specs.Prelude.{not}
use Rattle.word_terms.specs.Tree.{Const, Var, Bin, Extend, Load, MemVar, Store, Compare, Neg, Inside}
use Rattle.word_terms.specs.Value.{word_value, mem_value}
use Rattle.fun_laws.specs.Laws.{Law, Term, OfWord, OfMem, OfCond}
use Rattle.fun_laws.specs.Places.{children, with_child, Rewrites}
use Rattle.fun_laws.specs.Values.{KeepsValue, SameValue}
use Rattle.fun_laws.proofs.LawLemmas.{Sound, sound}

same_value-refl : (t : Term) → SameValue t t
same_value-refl (OfWord t) = λ e r. refl
same_value-refl (OfMem m) = λ e r. refl
same_value-refl (OfCond c) = λ e r. refl

pub alike-refl : (t : Term) → KeepsValue t t
alike-refl t = record { range = λ h. h; same = λ h. same_value-refl t }

-- what is known of the child that stands there
of : (s t v : Term) → Some s ≡ Some t → KeepsValue t v → KeepsValue s v
of s t v is a = let e : t ≡ s = cc in subst (λ x. KeepsValue x v) e a

alike-child : (t : Term) (k : ℕ) (s v : Term) → slice_get (children t) k ≡ Some s → KeepsValue s v → KeepsValue t (with_child t k v)
alike-child (OfWord (Const n)) k s v is a = alike-refl (OfWord (Const n))
alike-child (OfWord (Var i)) k s v is a = alike-refl (OfWord (Var i))
alike-child (OfWord (Bin op x y)) zero s (OfWord z) is a =
    let h = of (OfWord x) s (OfWord z) is a in
    record { range = λ r. (h.range r.0, r.1); same = λ r e i j. operation_value op (h.same r.0 e i j) (word_value y e) }
alike-child (OfWord (Bin op x y)) (suc zero) s (OfWord z) is a =
    let h = of (OfWord y) s (OfWord z) is a in
    record { range = λ r. (r.0, h.range r.1); same = λ r e i j. operation_value op (word_value x e) (h.same r.1 e i j) }
alike-child (OfWord (Bin op x y)) (suc (suc k)) s v is a = absurd (cc)
alike-child (OfWord (Extend ext x)) zero s (OfWord z) is a =
    let h = of (OfWord x) s (OfWord z) is a in
    record { range = λ r. h.range r; same = λ r e i j. extension_value ext (h.same r e i j) }
alike-child (OfWord (Extend ext x)) (suc k) s v is a = absurd (cc)
alike-child (OfWord (Load width m x)) zero s (OfMem z) is a =
    let h = of (OfMem m) s (OfMem z) is a in
    record { range = λ r. (h.range r.0, r.1); same = λ r e i j. load (bytes_of width) (h.same r.0 e i j) (word_value x e) }
alike-child (OfWord (Load width m x)) (suc zero) s (OfWord z) is a =
    let h = of (OfWord x) s (OfWord z) is a in
    record { range = λ r. (r.0, h.range r.1); same = λ r e i j. load (bytes_of width) (mem_value m e) (h.same r.1 e i j) }
alike-child (OfWord (Load width m x)) (suc (suc k)) s v is a = absurd (cc)
alike-child (OfMem (MemVar n)) k s v is a = alike-refl (OfMem (MemVar n))
alike-child (OfMem (Store width m x y)) zero s (OfMem z) is a =
    let h = of (OfMem m) s (OfMem z) is a in
    record { range = λ r. (h.range r.0, r.1, r.2); same = λ r e i j. store (bytes_of width) (h.same r.0 e i j) (word_value x e) (word_value y e) }
alike-child (OfMem (Store width m x y)) (suc zero) s (OfWord z) is a =
    let h = of (OfWord x) s (OfWord z) is a in
    record { range = λ r. (r.0, h.range r.1, r.2); same = λ r e i j. store (bytes_of width) (mem_value m e) (h.same r.1 e i j) (word_value y e) }
alike-child (OfMem (Store width m x y)) (suc (suc zero)) s (OfWord z) is a =
    let h = of (OfWord y) s (OfWord z) is a in
    record { range = λ r. (r.0, r.1, h.range r.2); same = λ r e i j. store (bytes_of width) (mem_value m e) (word_value x e) (h.same r.2 e i j) }
alike-child (OfMem (Store width m x y)) (suc (suc (suc k))) s v is a = absurd (cc)
alike-child (OfCond (Compare cmp x y)) zero s (OfWord z) is a =
    let h = of (OfWord x) s (OfWord z) is a in
    record { range = λ r. (h.range r.0, r.1); same = λ r e i j. comparison_holds cmp (h.same r.0 e i j) (word_value y e) }
alike-child (OfCond (Compare cmp x y)) (suc zero) s (OfWord z) is a =
    let h = of (OfWord y) s (OfWord z) is a in
    record { range = λ r. (r.0, h.range r.1); same = λ r e i j. comparison_holds cmp (word_value x e) (h.same r.1 e i j) }
alike-child (OfCond (Compare cmp x y)) (suc (suc k)) s v is a = absurd (cc)
alike-child (OfCond (Neg c)) zero s (OfCond z) is a =
    let h = of (OfCond c) s (OfCond z) is a in
    record { range = λ r. h.range r; same = λ r e i j. not (h.same r e i j) }
alike-child (OfCond (Neg c)) (suc k) s v is a = absurd (cc)
alike-child (OfCond (Inside width m x)) zero s (OfMem z) is a =
    let h = of (OfMem m) s (OfMem z) is a in
    record { range = λ r. (h.range r.0, r.1); same = λ r e i j. inside (bytes_of width) (h.same r.0 e i j) (word_value x e) }
alike-child (OfCond (Inside width m x)) (suc zero) s (OfWord z) is a =
    let h = of (OfWord x) s (OfWord z) is a in
    record { range = λ r. (r.0, h.range r.1); same = λ r e i j. inside (bytes_of width) (mem_value m e) (h.same r.1 e i j) }
alike-child (OfCond (Inside width m x)) (suc (suc k)) s v is a = absurd (cc)
alike-child t k s v is a = alike-refl t

-- a term rewritten at a place
pub rewrites-alike : (law : Law) → Sound law → (place : List ℕ) (t u : Term) → Rewrites law place t u → KeepsValue t u
rewrites-alike law is [] t u g = sound law t u is g
rewrites-alike law is (k ∷ ks) t u (s, v, at, r, e) = subst (KeepsValue t) (sym e) (alike-child t k s v at (rewrites-alike law is ks s v r))
