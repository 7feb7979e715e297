-- Images that are made one after the other: which are being made, and how many steps it takes.
use Rattle.std.proofs.Common.{◌≡◌, ℕ, ◌+◌, ◌*◌, ◌<◌, ◌≤◌, true, false, true≢false, List, [], Option, Some, None, length, map, refl, ap, sym, ◌∙◌, subst, inl, inr, arith}
use Rattle.std.specs.Prelude.{IsSome, if◌then◌else◌, is_some, slice_get}
use Rattle.std.specs.Option.{option_flatten}
use Rattle.std.specs.List.{Contains}
use Rattle.std.specs.List.Sorted.{IsStrictlySortedBy}
use Rattle.std.specs.Map.{keys_of}
use Rattle.std.proofs.lemmas.List.{length-map}
use Rattle.std.proofs.lemmas.Cmp.{nat_eq_equiv}
use Rattle.std.proofs.lemmas.Map.Views.{IsSome-lookup_from_Contains}
use Rattle.term_arena.specs.declared.node.Node.{Node}
use Rattle.term_arena.specs.Arena.{Tree, tree_of, trees_of, Extends, IsArena}
use Rattle.term_arena.proofs.Places.{at_contains, at_place, contains_at, map-at}
use Rattle.term_arena.proofs.TreeLemmas.{length-trees, one_number}
use Rattle.held_terms.specs.Subterms.{HasTerm, IsIn}
use Rattle.held_terms.proofs.FewLemmas.{few, one-place}
use Rattle.held_terms.proofs.ChildLemmas.{has_number, has_still, in_still}
use Rattle.held_instances.specs.Image.{Known, image_at}
use Rattle.held_instances.specs.inner.Imaging.{AreAsked, AreEnded, AreMade, Imaged, IsFree, IsOrdered, Updates}
use Rattle.held_instances.proofs.ImageLemmas.{put_cases}

-- ---- which are being made

pub none_asked : (known : Known) → known ≡ [] → AreMade known
none_asked known e = record { none = λ k h. let f : None ≡ Some None = sym (ap (λ (es : List (ℕ × Option ℕ)). image_at es k) e) ∙ h in cc }

pub free_all : (known : Known) (n : ℕ) → AreMade known → IsFree known n
free_all known n m = record { above = λ k h. absurd (m.none k h) }

pub free_less : (known : Known) (a x : ℕ) → IsFree known a → x < a → IsFree known (x + 1)
free_less known a x f lt = record { above = λ k h. let le = f.above k h in omega (arith, le, lt) }

-- .. after images that ended
pub free_next : (old new : Known) (a x : ℕ) → IsFree old a → AreEnded old new → x < a → IsFree new (x + 1)
free_next old new a x f e lt = record { above = λ k h. let le = f.above k (e.before k h) in omega (arith, le, lt) }

pub free_after : (old mid new : Known) (a x : ℕ) → IsFree old a → AreEnded old mid → AreEnded mid new → x < a → IsFree new (x + 1)
free_after old mid new a x f e d lt = record { above = λ k h. let le = f.above k (e.before k (d.before k h)) in omega (arith, le, lt) }

pub free_begun : (old new : Known) (x : ℕ) → Updates old new x None → IsFree old (x + 1) → IsFree new x
free_begun old new x u f = record {
  above = λ k h. elim (put_cases old new x None k None u h) [
    | inl here ↦ (let e = here.0 in omega (arith, e))
    | inr there ↦ (let le = f.above k there.1 in omega (arith, le))
  ];
}

pub ended_none : (known : Known) → AreEnded known known
ended_none known = record { before = λ k h. h }

pub ended_both : (old mid new : Known) → AreEnded old mid → AreEnded mid new → AreEnded old new
ended_both old mid new e d = record { before = λ k h. e.before k (d.before k h) }

-- the one that was begun is kept
pub ended_kept : (old mid new last : Known) (x y : ℕ) → Updates old mid x None → AreEnded mid new → Updates new last x (Some y) → AreEnded old last
ended_kept old mid new last x y u e v = record {
  before = λ k h. elim (put_cases new last x (Some y) k None v h) [
    | inl here ↦ (let f : None ≡ Some y = here.1 in cc)
    | inr there ↦ elim (put_cases old mid x None k None u (e.before k there.1)) [
      | inl again ↦ absurd (there.0 again.0)
      | inr was ↦ was.1
    ]
  ];
}

pub made_still : (old new : Known) → AreMade old → AreEnded old new → AreMade new
made_still old new m e = record { none = λ k h. m.none k (e.before k h) }

-- ---- what lists have

module _ (ms ns : List Node) (e : Extends ms ns) where
  asked_still : (ts : List Tree) (known : Known) → AreAsked ms ts known → AreAsked ns ts known
  asked_still ts known a = record { each = λ k h. in_still ms ns e ts k (a.each k h) }

-- ---- steps

some_get : (o : Option (Option ℕ)) → IsSome o → (w : Option ℕ) × (o ≡ Some w)
some_get None h = absurd (cc)
some_get (Some w) h = (w, refl)

asked_put : (ns : List Node) (ts : List Tree) (old new : Known) (x : ℕ) (v : Option ℕ) → Updates old new x v → IsIn ns ts x → AreAsked ns ts old → AreAsked ns ts new
asked_put ns ts old new x v u i a = record {
  each = λ k h.
      let w = some_get (image_at new k) h in
      elim (put_cases old new x v k w.0 u w.1) [
        | inl here ↦ subst (IsIn ns ts) (sym here.0) i
        | inr there ↦ a.each k (ap (λ (o : Option (Option ℕ)). is_some o) there.1)
      ];
}

pub imaged_none : (ns : List Node) (P : List Tree → Type 0) (known : Known) (s t : ℕ) → t ≤ s → Imaged ns ns P known known s t
imaged_none ns P known s t le = record { steps = omega (arith, le); ordered = λ o. o; inside = λ ts has a. a }

-- where nothing more was kept
pub imaged_same : (ms ns : List Node) (P : List Tree → Type 0) (old mid new : Known) (s t : ℕ) → new ≡ mid → Imaged ms ns P old mid s t → Imaged ms ns P old new s t
imaged_same ms ns P old mid new s t e i = subst (λ (known : Known). Imaged ms ns P old known s t) (sym e) i

pub imaged_from : (ms ns : List Node) (P : List Tree → Type 0) (old new : Known) (s r t : ℕ) → r ≤ s → Imaged ms ns P old new r t → Imaged ms ns P old new s t
imaged_from ms ns P old new s r t le i = record { steps = let h = i.steps in omega (arith, h, le); ordered = i.ordered; inside = i.inside }

pub imaged_under : (ms ns : List Node) (P Q : List Tree → Type 0) (old new : Known) (s t : ℕ) → ((ts : List Tree) → P ts → Q ts) → Imaged ms ns Q old new s t → Imaged ms ns P old new s t
imaged_under ms ns P Q old new s t f i = record { steps = i.steps; ordered = i.ordered; inside = λ ts has a. i.inside ts (f ts has) a }

pub imaged_both : (ls ms ns : List Node) (P : List Tree → Type 0) (old mid new : Known) (s r t : ℕ) → Imaged ls ms P old mid s r → Imaged ms ns P mid new r t → Imaged ls ns P old new s t
imaged_both ls ms ns P old mid new s r t i j = record {
  steps = let a = i.steps in let b = j.steps in omega (arith, a, b);
  ordered = λ o. j.ordered (i.ordered o);
  inside = λ ts has a. j.inside ts has (i.inside ts has a);
}

-- .. of other terms, which stand in what P asks for
pub imaged_next : (ls ms ns : List Node) (P Q : List Tree → Type 0) (old mid new : Known) (s r t : ℕ) → Imaged ls ms P old mid s r → ((ts : List Tree) → P ts → Q ts) → Imaged ms ns Q mid new r t
    → Imaged ls ns P old new s t
imaged_next ls ms ns P Q old mid new s r t i f j = imaged_both ls ms ns P old mid new s r t i (imaged_under ms ns P Q mid new r t f j)

number-in : (ns : List Node) (ts : List Tree) (x : ℕ) → x < length ns → HasTerm ns x ts → IsIn ns ts x
number-in ns ts x low has =
    let l = length-trees ns in
    let here : x < length (trees_of ns) = omega (arith, low, l) in
    let at = at_place (trees_of ns) x here in
    has_number ns ts x at.0 at.1 has

-- from where the number was begun
pub imaged_begun : (ms ns : List Node) (x : ℕ) (old mid new : Known) (s t : ℕ) → x < length ms → Updates old mid x None → length mid ≡ length old + 1 → IsOrdered mid
    → Imaged ms ns (HasTerm ms x) mid new (s + 2) t → Imaged ms ns (HasTerm ms x) old new s t
imaged_begun ms ns x old mid new s t low u l o i = record {
  steps = let h = i.steps in omega (arith, h, l);
  ordered = λ _. i.ordered o;
  inside = λ ts has a. i.inside ts has (asked_put ms ts old mid x None u (number-in ms ts x low has) a);
}

-- .. to where it is kept
pub imaged_kept : (ms ns : List Node) (x y n : ℕ) (old new last : Known) (s t : ℕ) → x < length ms → Extends ms ns → Updates new last x (Some y) → length last ≡ length new + n
    → IsOrdered last → Imaged ms ns (HasTerm ms x) old new s t → Imaged ms ns (HasTerm ms x) old last s t
imaged_kept ms ns x y n old new last s t low g u l o i = record {
  steps = let h = i.steps in omega (arith, h, l);
  ordered = λ _. o;
  inside = λ ts has a. asked_put ns ts new last x (Some y) u (in_still ms ns g ts x (number-in ms ts x low has)) (i.inside ts has a);
}

-- what is known of a number
pub known_image : (o : Option (Option ℕ)) (y : ℕ) → option_flatten o ≡ Some y → o ≡ Some (Some y)
known_image None y e = cc
known_image (Some None) y e = cc
known_image (Some (Some z)) y e = ap (λ (w : Option ℕ). Some w) e

pub not_begun : (known : Known) (x : ℕ) → option_flatten (image_at known x) ≡ None → IsFree known (x + 1) → image_at known x ≡ None
not_begun known x e f = by (image_at known x) refl e
  where
    by : (o : Option (Option ℕ)) → image_at known x ≡ o → option_flatten o ≡ None → o ≡ None
    by None same n = refl
    by (Some None) same n = let le = f.above x same in absurd (omega (arith, le))
    by (Some (Some z)) same n = let no : Some z ≡ None = n in cc

-- one entry more, where there was none
pub one_longer : (was : Option (Option ℕ)) (l m : ℕ) → was ≡ None → m ≡ l + (if is_some was then 0 else 1) → m ≡ l + 1
one_longer None l m n h = h
one_longer (Some w) l m n h = let no : Some w ≡ None = n in cc

-- ---- how many

none_rise : IsOrdered []
unfolding IsStrictlySortedBy
none_rise = tt

-- no more than two steps for each different term
pub few_images : (ms ns : List Node) (P : List Tree → Type 0) (old new : Known) (s t : ℕ) (ts : List Tree) → old ≡ [] → IsArena ns → P ts → Imaged ms ns P old new s t
    → t ≤ s + 2 * length ts
few_images ms ns P old new s t ts none arena has i =
    let asked : AreAsked ms ts old = record { each = λ k h. let no : false ≡ true = sym (ap (λ (es : List (ℕ × Option ℕ)). is_some (image_at es k)) none) ∙ h in absurd (true≢false (sym no)) } in
    let all = i.inside ts has asked in
    let sorted = i.ordered (subst IsOrdered (sym none) none_rise) in
    let key : (k : ℕ) → Contains (keys_of new) k → IsIn ns ts k = λ k c. all.each k (IsSome-lookup_from_Contains nat_eq_equiv k new c) in
    let os : List (Option Tree) = map (λ (y : Tree). Some y) ts in
    let apart : (a b : ℕ) (k l : ℕ) → slice_get (keys_of new) a ≡ Some k → slice_get (keys_of new) b ≡ Some l → tree_of ns k ≡ tree_of ns l → a ≡ b = λ a b k l ha hb e.
    let ik = key k (contains_at (keys_of new) a k ha) in
    let same : k ≡ l = one_number ns k l ik.tree arena ik.at (sym e ∙ ik.at) in
    one-place (keys_of new) a b k sorted ha (hb ∙ ap (λ (q : ℕ). Some q) (sym same)) in
    let there : (k : ℕ) → Contains (keys_of new) k → Contains os (tree_of ns k) = λ k c.
    let ik = key k c in
    let at = at_contains ts ik.tree ik.here in
    subst (Contains os) (sym ik.at) (contains_at os at.0 (Some ik.tree) (map-at (λ (y : Tree). Some y) ts at.0 ik.tree at.1)) in
    let most = few (tree_of ns) (keys_of new) os apart there in
    let n : length (keys_of new) ≡ length new = length-map new _ in
    let m : length os ≡ length ts = length-map ts (λ (y : Tree). Some y) in
    let z : length old ≡ 0 = ap length none in
    let h = i.steps in
    omega (arith, most, n, m, z, h)

-- ---- of a node's children, one after the other

pub imaged_first : (ms ns : List Node) (x a : ℕ) (old new : Known) (s r t : ℕ) → r ≡ s + 1 → ((ts : List Tree) → HasTerm ms x ts → HasTerm ms a ts) → Imaged ms ns (HasTerm ms a) old new r t
    → Imaged ms ns (HasTerm ms x) old new (s + 1) t
imaged_first ms ns x a old new s r t e f i = record {
  steps = let h = i.steps in omega (arith, h, e);
  ordered = i.ordered;
  inside = λ ts has k. i.inside ts (f ts has) k;
}

pub imaged_child : (ls ms ns : List Node) (x a : ℕ) (old mid new : Known) (s r t : ℕ) → Extends ls ms → a < x → x < length ls → ((ts : List Tree) → HasTerm ls x ts → HasTerm ls a ts)
    → Imaged ls ms (HasTerm ls x) old mid s r → Imaged ms ns (HasTerm ms a) mid new r t → Imaged ls ns (HasTerm ls x) old new s t
imaged_child ls ms ns x a old mid new s r t e lt low f i j =
    let here : a < length ls = omega (arith, lt, low) in
    imaged_next ls ms ns (HasTerm ls x) (HasTerm ms a) old mid new s r t i (λ ts has. has_still ls ms e a ts here (f ts has)) j

-- .. where one failed
pub imaged_failed : (ms ns : List Node) (P : List Tree → Type 0) (old new : Known) (s t : ℕ) → Imaged ms ns P old new (s + 1) t → Imaged ms ns P old new (s + 2) t
imaged_failed ms ns P old new s t i = record { steps = let h = i.steps in omega (arith, h); ordered = i.ordered; inside = i.inside }

-- .. where all are made
pub imaged_made : (ls ms ns : List Node) (P : List Tree → Type 0) (old new : Known) (s r t : ℕ) → Extends ms ns → t ≡ r + 1 → Imaged ls ms P old new (s + 1) r → Imaged ls ns P old new (s + 2) t
imaged_made ls ms ns P old new s r t e is i = record {
  steps = let h = i.steps in omega (arith, h, is);
  ordered = i.ordered;
  inside = λ ts has a. asked_still ms ns e ts new (i.inside ts has a);
}
