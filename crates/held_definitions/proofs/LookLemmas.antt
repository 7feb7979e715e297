-- Steps of looking whether terms are different leaves.
use Rattle.std.proofs.Common.{◌≡◌, ℕ, zero, suc, ◌+◌, ◌*◌, ◌<◌, ◌≤◌, Bool, false, List, [], ◌∷◌, Some, length, get_or, map, take, refl, ap, sym, ◌∙◌, subst, arith}
use Rattle.std.specs.Prelude.{All, IsTrue, slice_get}
use Rattle.std.specs.List.{Contains, range_with_len}
use Rattle.std.proofs.Math.Nat.{add-mul}
use Rattle.std.proofs.lemmas.List.{length-take-le}
use Rattle.std.proofs.lemmas.List.Elements.{All-get_or}
use Rattle.std.proofs.lemmas.List.FromFn.{get_or-map-range_with_len}
use Rattle.word_terms.specs.Tree.{Var, MemVar}
use Rattle.term_arena.specs.declared.node.Node.{Node}
use Rattle.term_arena.specs.Arena.{Tree, OfWord, OfMem, tree_of, word_of, mem_of, IsWordAt, IsMemAt}
use Rattle.term_arena.proofs.Places.{at_contains, map-at}
use Rattle.held_terms.specs.Held.{AreWordsAt, AreMemsAt, AreRegistersAt}
use Rattle.held_terms.specs.Subterms.{HasTree, HasTerms, HasRegisters}
use Rattle.held_terms.proofs.FewLemmas.{few, within, read-at}
use Rattle.held_terms.proofs.ChildLemmas.{has_top}
use Rattle.held_definitions.specs.Looks.{Looks}

-- ---- one look after another

pub looks_none : (n : ℕ) (P : List Tree → Type 0) (answer : Bool) (s t : ℕ) → t ≤ s → Looks n P answer s t
looks_none n P answer s t le = record { some = λ ts has. omega (arith, le); whole = λ found ts has. omega (arith, le) }

pub looks_under : (n : ℕ) (P Q : List Tree → Type 0) (answer : Bool) (s t : ℕ) → ((ts : List Tree) → P ts → Q ts) → Looks n Q answer s t → Looks n P answer s t
looks_under n P Q answer s t f l = record { some = λ ts has. l.some ts (f ts has); whole = λ found ts has. l.whole found ts (f ts has) }

-- where the answer is no, or more lists are looked at
pub looks_no : (n m : ℕ) (P : List Tree → Type 0) (answer : Bool) (s t : ℕ) → Looks n P answer s t → Looks (n + m) P answer s t
looks_no n m P answer s t l = record {
  some = λ ts has. let le = l.some ts has in let e = add-mul n m (length ts) in omega (arith, le, e);
  whole = λ found ts has. let le = l.whole found ts has in let e = add-mul n m (length ts) in omega (arith, le, e);
}

pub looks_both : (n m : ℕ) (P : List Tree → Type 0) (first answer : Bool) (s r t : ℕ) → Looks n P first s r → IsTrue first → Looks m P answer r t → Looks (n + m) P answer s t
looks_both n m P first answer s r t k found l = record {
  some = λ ts has. let a = k.whole found ts has in let b = l.some ts has in let e = add-mul n m (length ts) in omega (arith, a, b, e);
  whole = λ still ts has. let a = k.whole found ts has in let b = l.whole still ts has in let e = add-mul n m (length ts) in omega (arith, a, b, e);
}

-- .. where the first one ended it
pub looks_ended : (n m : ℕ) (P : List Tree → Type 0) (first : Bool) (s t : ℕ) → Looks n P first s t → Looks (n + m) P false s t
looks_ended n m P first s t l = record {
  some = λ ts has. let le = l.some ts has in let e = add-mul n m (length ts) in omega (arith, le, e);
  whole = λ found ts has. absurd (cc);
}

-- ---- different variables

has_at : {A : Type 0} (P : A → Type 0) (xs : List A) (k : ℕ) (x : A) → All P xs → slice_get xs k ≡ Some x → P x
has_at P xs k x all at = subst P (read-at xs k x x at) (All-get_or P xs k x (within xs k x at) all)

at-take : {A : Type 0} (xs : List A) (i k : ℕ) (x : A) → slice_get (take i xs) k ≡ Some x → slice_get xs k ≡ Some x
at-take [] zero k x e = e
at-take [] (suc i) k x e = e
at-take (y ∷ ys) zero k x e = absurd (cc)
at-take (y ∷ ys) (suc i) zero x e = e
at-take (y ∷ ys) (suc i) (suc k) x e = at-take ys i k x e

module _ {A B : Type 0} (f : A → B) (var : ℕ → B) (of : B → Tree) (one : (m n : ℕ) → of (var m) ≡ of (var n) → m ≡ n) (xs : List A) (first i : ℕ) where
  place : i ≤ length xs → map f (take i xs) ≡ map var (range_with_len first i) → (k : ℕ) (x : A) → slice_get (take i xs) k ≡ Some x → f x ≡ var (first + k)
  place le same k x at =
      let here : k < i = let w = within (take i xs) k x at in let l = length-take-le i xs le in omega (arith, w, l) in
      sym (read-at (map f (take i xs)) k (f x) (f x) (map-at f (take i xs) k x at)) ∙ (λ j. get_or (same j) k (f x)) ∙ get_or-map-range_with_len var first i k (first + k) (f x) here refl

  pub variables_few : (ts : List Tree) → i ≤ length xs → map f (take i xs) ≡ map var (range_with_len first i) → ((k : ℕ) (x : A) → slice_get xs k ≡ Some x → Contains ts (of (f x))) → i ≤ length ts
  variables_few ts le same has =
      let apart : (a b : ℕ) (x y : A) → slice_get (take i xs) a ≡ Some x → slice_get (take i xs) b ≡ Some y → of (f x) ≡ of (f y) → a ≡ b = λ a b x y ha hb e.
      let g : of (var (first + a)) ≡ of (var (first + b)) = ap of (sym (place le same a x ha)) ∙ e ∙ ap of (place le same b y hb) in
      let h : first + a ≡ first + b = one (first + a) (first + b) g in omega (arith, h) in
      let all = few (λ x. of (f x)) (take i xs) ts apart (λ x c. let at = at_contains (take i xs) x c in has at.0 x (at-take xs i at.0 x at.1)) in
      let l = length-take-le i xs le in
      omega (arith, all, l)

module _ (ns : List Node) where
  pub words_few : (xs : List ℕ) (first i : ℕ) (ts : List Tree) → AreWordsAt ns xs → HasTerms ns xs ts → i ≤ length xs → map (word_of ns) (take i xs) ≡ map Var (range_with_len first i) → i ≤ length ts
  words_few xs first i ts there has le same =
      variables_few (word_of ns) Var OfWord (λ m n e. cc) xs first i ts le same
      (λ k x at. has_top ts (OfWord (word_of ns x)) (let h = has_at (λ q. HasTree ts (tree_of ns q)) xs k x has at in let w = has_at (λ q. IsWordAt ns q) xs k x there at in subst (HasTree ts) w h))

  pub mems_few : (xs : List ℕ) (first i : ℕ) (ts : List Tree) → AreMemsAt ns xs → HasTerms ns xs ts → i ≤ length xs → map (mem_of ns) (take i xs) ≡ map MemVar (range_with_len first i) → i ≤ length ts
  mems_few xs first i ts there has le same =
      variables_few (mem_of ns) MemVar OfMem (λ m n e. cc) xs first i ts le same
      (λ k x at. has_top ts (OfMem (mem_of ns x)) (let h = has_at (λ q. HasTree ts (tree_of ns q)) xs k x has at in let w = has_at (λ q. IsMemAt ns q) xs k x there at in subst (HasTree ts) w h))

  pub registers_few : (xs : List (ℕ × ℕ)) (first i : ℕ) (ts : List Tree) → AreRegistersAt ns xs → HasRegisters ns xs ts → i ≤ length xs → map (λ (r : ℕ × ℕ). word_of ns r.1) (take i xs) ≡ map Var (range_with_len first i) → i ≤ length ts
  registers_few xs first i ts there has le same =
      variables_few (λ (r : ℕ × ℕ). word_of ns r.1) Var OfWord (λ m n e. cc) xs first i ts le same
      (λ k x at. has_top ts (OfWord (word_of ns x.1)) (let h = has_at (λ (q : ℕ × ℕ). HasTree ts (tree_of ns q.1)) xs k x has at in let w = has_at (λ (q : ℕ × ℕ). IsWordAt ns q.1) xs k x there at in subst (HasTree ts) w h))

-- the look at a list: all of the first ones were right
pub looked : (P : List Tree → Type 0) (answer : Bool) (i s t : ℕ) → ((ts : List Tree) → P ts → i ≤ length ts) → t ≤ s + i → Looks 1 P answer s t
looked P answer i s t f le = record { some = λ ts has. let h = f ts has in omega (arith, h, le); whole = λ found ts has. let h = f ts has in omega (arith, h, le) }

pub looked_no : (P : List Tree → Type 0) (i s t : ℕ) → ((ts : List Tree) → P ts → i ≤ length ts) → t ≤ s + i + 1 → Looks 1 P false s t
looked_no P i s t f le = record { some = λ ts has. let h = f ts has in omega (arith, h, le); whole = λ found ts has. absurd (cc) }

-- one step for one term
pub looks_one : (ns : List Node) (P : List Tree → Type 0) (k : ℕ) (x : Tree) (answer : Bool) (s t : ℕ) → tree_of ns k ≡ Some x → ((ts : List Tree) → P ts → HasTree ts (tree_of ns k)) → t ≡ s + 1 → Looks 1 P answer s t
looks_one ns P k x answer s t e f is =
    let le : (ts : List Tree) → P ts → t ≤ s + 1 * length ts = λ ts has.
    let at = at_contains ts x (has_top ts x (subst (HasTree ts) e (f ts has))) in
    let low = within ts at.0 x at.1 in
    omega (arith, low, is) in
    record { some = λ ts has. let h = le ts has in omega (arith, h); whole = λ found ts has. le ts has }
