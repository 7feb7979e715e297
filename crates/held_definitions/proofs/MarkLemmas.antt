-- Codes that are known to be the same, and theorems that are marked, since it is known how their code lies in the group's own.
use Rattle.std.proofs.Common.{◌≡◌, ℕ, Bool, true, false, true≢false, cond, Option, Some, None, List, [], refl, sym, ap, ◌∙◌, subst}
use Rattle.std.specs.Prelude.{◌↔◌, IfSome}
use Rattle.std.specs.BTreeSet.{BTreeSet, contains}
use Rattle.std.specs.BTreeMap.{is_at}
use Rattle.std.specs.List.{list_any}
use Rattle.std.specs.Option.{option_or}
use Rattle.std.specs.Ordering.{nat_cmp}
use Rattle.rv_words.specs.Bytes.{Bytes, over}
use Rattle.rv_words.specs.Ranges.{range_bytes}
use Rattle.rv_words.specs.declared.range.Range.{Range}
use Rattle.sep_assert.specs.Code.{Agree, IsWithin}
use Rattle.sep_assert.proofs.CodeLemmas as code
use Rattle.frame_compose.proofs.UnionLemmas.{covered_by_first, covered_by_second, union-within}
use Rattle.held_terms.specs.declared.held.Held.{Held}
use Rattle.held_definitions.specs.Theorems.{Theorems, held_by_number}
use Rattle.held_definitions.specs.inner.Marks.{AreAll, Changes, HasCode, HasWithin, HaveSameCode}

-- ---- codes that are the same

pub within_same : (xs zs : List Range) → xs ≡ zs → IsWithin (range_bytes xs) (range_bytes zs)
within_same xs zs e = code.within_same xs zs e

pub agree_same : (xs ys : List Range) → xs ≡ ys → Agree (range_bytes xs) (range_bytes ys)
agree_same xs ys e a b c x y =
    let one : range_bytes xs a ≡ range_bytes ys a = λ i. range_bytes (e i) a in
    cc

pub over_same : (xs ys : List Range) → xs ≡ ys → range_bytes xs ≡ over (range_bytes xs) (range_bytes ys)
over_same xs ys e = sym (λ i a. first (range_bytes xs a) (range_bytes ys a) (λ j. range_bytes (sym e j) a) i)
  where
    first : (o p : Option ℕ) → p ≡ o → option_or o p ≡ o
    first None p e = e
    first (Some x) p e = refl

-- theorems that have the same
pub marked_same : (own : List Range) (p q : Option Held) → IfSome p (λ h. h.code.ranges ≡ own) → IfSome q (λ h. h.code.ranges ≡ own) → HaveSameCode p q
marked_same own None q a b = tt
marked_same own (Some p) None a b = tt
marked_same own (Some p) (Some q) a b = a ∙ sym b

abbrev pub AreUnited : List Range → List Range → List Range → Type 0
AreUnited xs ys zs = Agree (range_bytes xs) (range_bytes ys) × (over (range_bytes xs) (range_bytes ys) ≡ range_bytes zs)

agree-back : (x y : Bytes) → Agree x y → Agree y x
agree-back x y agree a b c e f = sym (agree a c b f e)

agree-first : (x y z : Bytes) → x ≡ z → IsWithin y z → Agree x y
agree-first x y z same within a b c e f =
    let one : x a ≡ z a = λ i. same i a in
    let two : z a ≡ Some c = within a c f in
    cc

-- where the first has the bytes of both, the other's lie within it, and the other way round
pub union_first : (xs ys zs : List Range) → xs ≡ zs → IsWithin (range_bytes ys) (range_bytes zs) ↔ AreUnited xs ys zs
union_first xs ys zs e = (
  λ within. (
    agree-first (range_bytes xs) (range_bytes ys) (range_bytes zs) (ap range_bytes e) within,
    union-within (range_bytes xs) (range_bytes ys) (range_bytes zs) (code.within_same xs zs e) within (covered_by_first zs xs ys (sym e)),
  ),
  λ both. subst (λ (x : Bytes). IsWithin (range_bytes ys) x) both.1 (code.within_of_agree (range_bytes ys) (range_bytes xs) (agree-back (range_bytes xs) (range_bytes ys) both.0)),
)

agree-second : (x y z : Bytes) → y ≡ z → IsWithin x z → Agree x y
agree-second x y z same within a b c e f =
    let one : y a ≡ z a = λ i. same i a in
    let two : z a ≡ Some b = within a b e in
    cc

-- likewise where the second has them
pub union_second : (xs ys zs : List Range) → ys ≡ zs → IsWithin (range_bytes xs) (range_bytes zs) ↔ AreUnited xs ys zs
union_second xs ys zs e = (
  λ within. (
    agree-second (range_bytes xs) (range_bytes ys) (range_bytes zs) (ap range_bytes e) within,
    union-within (range_bytes xs) (range_bytes ys) (range_bytes zs) within (code.within_same ys zs e) (covered_by_second zs xs ys (sym e) within),
  ),
  λ both a b x. (λ i. sym both.1 i a) ∙ ap (λ o. option_or o (range_bytes ys a)) x,
)

-- ---- marked theorems

-- no theorem is marked
pub none_marked : (P : Held → Type 0) (held : Theorems) (marked : BTreeSet ℕ) → marked.keys ≡ [] → AreAll P held marked
none_marked P held marked none = λ k e. absurd (true≢false (sym e ∙ ap (λ (ks : List ℕ). list_any (is_at (nat_cmp k)) ks) none))

-- the code of a theorem that is marked lies within the group's own, where it has that too
pub own_within : (code : List Range) (o : Option Held) → IfSome o (HasCode code) → IfSome o (HasWithin code)
own_within code None is = tt
own_within code (Some h) is = within_same h.code.ranges code is

-- the set of marks after a change of one of them
abbrev pub MarkIs : BTreeSet ℕ → BTreeSet ℕ → ℕ → Bool → Type 0
MarkIs old new k b = (q : ℕ) → contains nat_cmp new q ≡ cond (is_at (nat_cmp k) q) b (contains nat_cmp old q)

module _ (P : Held → Type 0) where
  less-at : (b was now : Bool) (o p w : Option Held) → now ≡ cond b false was → p ≡ cond b w o → (was ≡ true → IfSome o P) → now ≡ true → IfSome p P
  less-at true was now o p w less change has e = absurd (true≢false (sym e ∙ less))
  less-at false was now o p w less change has e = subst (λ (x : Option Held). IfSome x P) (sym change) (has (sym less ∙ e))

  more-at : (b was now : Bool) (o p : Option Held) (h : Held) → now ≡ cond b true was → p ≡ cond b (Some h) o → P h → (was ≡ true → IfSome p P) → now ≡ true → IfSome p P
  more-at true was now o p h more change is has e = subst (λ (x : Option Held). IfSome x P) (sym change) is
  more-at false was now o p h more change is has e = has (sym more ∙ e)

  same-at : (b was now : Bool) (o : Option Held) → now ≡ cond b false was → (was ≡ true → IfSome o P) → now ≡ true → IfSome o P
  same-at true was now o less has e = absurd (true≢false (sym e ∙ less))
  same-at false was now o less has e = has (sym less ∙ e)

  -- one mark less, of the same theorems or of those that changed at that number
  pub unmarked : (held : Theorems) (old new : BTreeSet ℕ) (k : ℕ) → MarkIs old new k false → AreAll P held old → AreAll P held new
  unmarked held old new k less have = λ q. same-at (is_at (nat_cmp k) q) (contains nat_cmp old q) (contains nat_cmp new q) (held_by_number held q) (less q) (have q)

  pub unmarked_changed : (held more : Theorems) (old new : BTreeSet ℕ) (k : ℕ) (w : Option Held) → MarkIs old new k false → Changes held more k w → AreAll P held old → AreAll P more new
  unmarked_changed held more old new k w less change have = λ q.
      less-at (is_at (nat_cmp k) q) (contains nat_cmp old q) (contains nat_cmp new q) (held_by_number held q) (held_by_number more q) w (less q) (change q) (have q)

  -- one mark more, of the theorem that came
  pub marked_more : (held more : Theorems) (old new : BTreeSet ℕ) (k : ℕ) (h : Held) → MarkIs old new k true → Changes held more k (Some h) → P h → AreAll P more old → AreAll P more new
  marked_more held more old new k h mark change is have = λ q.
      more-at (is_at (nat_cmp k) q) (contains nat_cmp old q) (contains nat_cmp new q) (held_by_number held q) (held_by_number more q) h (mark q) (change q) is (have q)
