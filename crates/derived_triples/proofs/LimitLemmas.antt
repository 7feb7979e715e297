-- Terms, facts and registers within limits, item by item.
use Rattle.std.proofs.Common.{◌≡◌, ℕ, ◌+◌, ◌<◌, List, [], ◌∷◌, ◌++◌, Bool, false, length, get_or, map, take, refl, sym, ap, subst, arith, suc, zero}
use Rattle.std.specs.Prelude.{◌↔◌, IsTrue}
use Rattle.std.specs.List.{AllByRecursion}
use Rattle.tailrec_lang.proofs.Lists.{map-take_more}
use Rattle.word_terms.specs.Tree.{WordTree}
use Rattle.held_terms.specs.Held.{register_of}
use Rattle.tailrec_lang.specs.Registers.{AreRegistersFrom}
use Rattle.term_arena.specs.declared.node.Node.{Node}
use Rattle.derived_triples.specs.inner.Making.{number}

pub false_true : {b : Bool} → b ≡ false → IsTrue b → ⊥
false_true {b} e t = let never : IsTrue false = subst IsTrue e t in cc

-- ---- item by item

all-both : {A : Type 0} (P : A → Type 0) (xs ys : List A) → AllByRecursion P xs → AllByRecursion P ys → AllByRecursion P (xs ++ ys)
all-both P [] ys p q = q
all-both P (x ∷ xs) ys p q = (p.0, all-both P xs ys p.1 q)

all-second : {A : Type 0} (P : A → Type 0) (xs ys : List A) → AllByRecursion P (xs ++ ys) → AllByRecursion P ys
all-second P [] ys p = p
all-second P (x ∷ xs) ys p = all-second P xs ys p.1

module _ {A T : Type 0} (P : T → Type 0) (f : A → T) where
  pub all_more : (xs : List A) (i : ℕ) (x : A) → i < length xs → x ≡ get_or xs i x → AllByRecursion P (map f (take i xs)) → P (f x) → AllByRecursion P (map f (take (i + 1) xs))
  all_more xs i x low is before here =
      subst (AllByRecursion P) (sym (map-take_more f xs i x low is)) (all-both P (map f (take i xs)) (f x ∷ []) before (here, tt))

  each-at : (xs : List A) (i : ℕ) (d : A) → i < length xs → AllByRecursion P (map f xs) → P (f (get_or xs i d))
  each-at [] i d low all = absurd (omega (arith, low))
  each-at (x ∷ xs) zero d low all = all.0
  each-at (x ∷ xs) (suc i) d low all = each-at xs i d (omega (arith, low)) all.1

  pub not_each : {b : Bool} (xs : List A) (i : ℕ) (d : A) → i < length xs → b ≡ false → (P (f (get_or xs i d)) → IsTrue b) → IsTrue false ↔ AllByRecursion P (map f xs)
  not_each xs i d low fails must = (λ e. absurd (false_true refl e), λ all. absurd (false_true fails (must (each-at xs i d low all))))

-- ---- registers

number-map : (ns : List Node) (rs : List (ℕ × ℕ)) → map (λ (r : ℕ × WordTree). r.0) (map (register_of ns) rs) ≡ map number rs
number-map ns [] = refl
number-map ns (r ∷ rs) = ap (λ (l : List ℕ). r.0 ∷ l) (number-map ns rs)

pub same_numbers : (ns : List Node) (rs : List (ℕ × ℕ)) → AreRegistersFrom 1 (map number rs) ↔ AreRegistersFrom 1 (map (λ (r : ℕ × WordTree). r.0) (map (register_of ns) rs))
same_numbers ns rs = (λ p. subst (AreRegistersFrom 1) (sym (number-map ns rs)) p, λ p. subst (AreRegistersFrom 1) (number-map ns rs) p)
