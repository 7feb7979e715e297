-- What the slots of a table of images keep.
use Rattle.std.proofs.Common.{◌≡◌, ◌≢◌, ℕ, zero, suc, ◌+◌, ◌<◌, ◌≤◌, Bool, true, false, cond, List, [], ◌∷◌, ◌++◌, Option, Some, None, Less, length, set, refl, ap, sym, ◌∙◌, subst, arith}
use Rattle.std.specs.Prelude.{◌==◌, All, if◌then◌else◌, is_some, slice_get}
use Rattle.std.specs.Option.{option_flatten}
use Rattle.std.specs.Map.{keys_of, lookup}
use Rattle.std.specs.Ordering.{nat_cmp}
use Rattle.std.specs.List.{AllByRecursion}
use Rattle.std.specs.List.Sorted.{IsStrictlySortedBy}
use Rattle.std.specs.Cmp.{nat_cmp_is}
use Rattle.std.proofs.lemmas.Bool.{eq-eqb, eqb-false, eqb-true, ne_eqb}
use Rattle.std.proofs.lemmas.List.{append_assoc, append-nil, length_push}
use Rattle.std.proofs.lemmas.List.Elements.{All-append, All-head, All-nil, All-push, All-set, All-tail}
use Rattle.term_arena.proofs.Places.{at-set_other, at-set_same}
use Rattle.held_instances.specs.declared.image_table.Slot.{Slot}
use Rattle.held_instances.specs.Image.{Known, image_at}
use Rattle.held_instances.specs.inner.Imaging.{IsOrdered, Updates}
use Rattle.held_instances.specs.inner.Slots.{AreSlots, IsGrown, entries_from}

-- the entries of a slot and of those behind it
abbrev with_first : Bool → ℕ × Option ℕ → Known → Known
with_first b e known = if b then e ∷ known else known

module _ (turn : ℕ) where
  -- what the slot at a place keeps
  abbrev pub slot_image : Option Slot → Option (Option ℕ)
  slot_image None = None
  slot_image (Some s) = if s.turn == turn then Some s.image else None

  -- ---- look-ups

  none-before : (slots : List Slot) (n k : ℕ) → k < n → image_at (entries_from turn n slots) k ≡ None
  none-before [] n k lt = refl
  none-before (s ∷ slots) n k lt = by (s.turn == turn) (none-before slots (suc n) k (omega (arith, lt)))
    where
      by : (b : Bool) → image_at (entries_from turn (suc n) slots) k ≡ None → image_at (with_first b (n, s.image) (entries_from turn (suc n) slots)) k ≡ None
      by true rest = ap (λ (c : Bool). cond c (Some s.image) (image_at (entries_from turn (suc n) slots) k)) (ne_eqb k n (λ e. omega (arith, e, lt))) ∙ rest
      by false rest = rest

  pub image-at : (slots : List Slot) (n i k : ℕ) → k ≡ n + i → image_at (entries_from turn n slots) k ≡ slot_image (slice_get slots i)
  image-at [] n i k e = refl
  image-at (s ∷ slots) n zero k e = by (s.turn == turn)
    where
      by : (b : Bool) → image_at (with_first b (n, s.image) (entries_from turn (suc n) slots)) k ≡ (if b then Some s.image else None)
      by true = ap (λ (c : Bool). cond c (Some s.image) (image_at (entries_from turn (suc n) slots) k)) (eq-eqb k n (omega (arith, e)))
      by false = none-before slots (suc n) k (omega (arith, e))
  image-at (s ∷ slots) n (suc i) k e = by (s.turn == turn) (image-at slots (suc n) i k (omega (arith, e)))
    where
      by : (b : Bool) → image_at (entries_from turn (suc n) slots) k ≡ slot_image (slice_get slots i)
          → image_at (with_first b (n, s.image) (entries_from turn (suc n) slots)) k ≡ slot_image (slice_get slots i)
      by true rest = ap (λ (c : Bool). cond c (Some s.image) (image_at (entries_from turn (suc n) slots) k)) (ne_eqb k n (λ f. omega (arith, e, f))) ∙ rest
      by false rest = rest

  -- ---- a slot that is written

  pub slots_put : (slots : List Slot) (x : ℕ) (v : Slot) → v.turn ≡ turn → x < length slots → Updates (entries_from turn 0 slots) (entries_from turn 0 (set slots x v)) x v.image
  slots_put slots x v now low k = by (k == x) refl
    where
      old : image_at (entries_from turn 0 slots) k ≡ slot_image (slice_get slots k)
      old = image-at slots 0 k k (omega arith)

      new : image_at (entries_from turn 0 (set slots x v)) k ≡ slot_image (slice_get (set slots x v) k)
      new = image-at (set slots x v) 0 k k (omega arith)

      by : (b : Bool) → (k == x) ≡ b → image_at (entries_from turn 0 (set slots x v)) k ≡ cond b (Some v.image) (image_at (entries_from turn 0 slots) k)
      by true e =
          let here : slice_get (set slots x v) k ≡ Some v = ap (slice_get (set slots x v)) (eqb-true k x e) ∙ at-set_same slots x v low in
          new ∙ ap slot_image here ∙ ap (λ (c : Bool). if c then Some v.image else None) (eq-eqb v.turn turn now)
      by false e = new ∙ ap slot_image (at-set_other slots x k v (eqb-false k x e)) ∙ sym old

  length-put : (slots : List Slot) (n x : ℕ) (v : Slot) → v.turn ≡ turn → x < length slots
      → length (entries_from turn n (set slots x v)) ≡ length (entries_from turn n slots) + (if is_some (slot_image (slice_get slots x)) then 0 else 1)
  length-put [] n x v now low = absurd (omega (arith, low))
  length-put (s ∷ slots) n zero v now low = ap (λ (b : Bool). length (with_first b (n, v.image) (entries_from turn (suc n) slots))) (eq-eqb v.turn turn now) ∙ by (s.turn == turn)
    where
      by : (b : Bool) → suc (length (entries_from turn (suc n) slots))
          ≡ length (with_first b (n, s.image) (entries_from turn (suc n) slots)) + (if is_some (if b then Some s.image else None) then 0 else 1)
      by true = omega arith
      by false = omega arith
  length-put (s ∷ slots) n (suc x) v now low = by (s.turn == turn) (length-put slots (suc n) x v now (omega (arith, low)))
    where
      by : (b : Bool) → length (entries_from turn (suc n) (set slots x v)) ≡ length (entries_from turn (suc n) slots) + (if is_some (slot_image (slice_get slots x)) then 0 else 1)
          → length (with_first b (n, s.image) (entries_from turn (suc n) (set slots x v)))
          ≡ length (with_first b (n, s.image) (entries_from turn (suc n) slots)) + (if is_some (slot_image (slice_get slots x)) then 0 else 1)
      by true rest = omega (arith, rest)
      by false rest = rest

  pub entries_put : (slots : List Slot) (x : ℕ) (v : Slot) → v.turn ≡ turn → x < length slots
      → length (entries_from turn 0 (set slots x v)) ≡ length (entries_from turn 0 slots) + (if is_some (image_at (entries_from turn 0 slots) x) then 0 else 1)
  entries_put slots x v now low =
      length-put slots 0 x v now low
      ∙ ap (λ (o : Option (Option ℕ)). length (entries_from turn 0 slots) + (if is_some o then 0 else 1)) (sym (image-at slots 0 x x (omega arith)))

  -- ---- order

  all-above : (slots : List Slot) (m n : ℕ) → m < n → AllByRecursion (λ y. nat_cmp m y ≡ Less) (keys_of (entries_from turn n slots))
  all-above [] m n lt = tt
  all-above (s ∷ slots) m n lt = by (s.turn == turn) (all-above slots m (suc n) (omega (arith, lt)))
    where
      by : (b : Bool) → AllByRecursion (λ y. nat_cmp m y ≡ Less) (keys_of (entries_from turn (suc n) slots))
          → AllByRecursion (λ y. nat_cmp m y ≡ Less) (keys_of (with_first b (n, s.image) (entries_from turn (suc n) slots)))
      by true rest = (sym (nat_cmp_is m n Less lt), rest)
      by false rest = rest

  pub entries_rise : (slots : List Slot) (n : ℕ) → IsOrdered (entries_from turn n slots)
  unfolding IsStrictlySortedBy
  entries_rise [] n = tt
  entries_rise (s ∷ slots) n = by (s.turn == turn) (entries_rise slots (suc n))
    where
      by : (b : Bool) → IsOrdered (entries_from turn (suc n) slots) → IsOrdered (with_first b (n, s.image) (entries_from turn (suc n) slots))
      by true rest = (all-above slots n (suc n) (omega arith), rest)
      by false rest = rest

  -- ---- other turns

  -- slots of other turns keep nothing
  pub others_none : (slots : List Slot) (n : ℕ) → All (λ s. s.turn ≢ turn) slots → entries_from turn n slots ≡ []
  others_none [] n other = refl
  others_none (s ∷ slots) n other =
      ap (λ (b : Bool). with_first b (n, s.image) (entries_from turn (suc n) slots)) (ne_eqb s.turn turn (All-head (λ (s : Slot). s.turn ≢ turn) s slots other))
      ∙ others_none slots (suc n) (All-tail (λ (s : Slot). s.turn ≢ turn) s slots other)

  entries-more : (slots more : List Slot) (n : ℕ) → All (λ s. s.turn ≢ turn) more → entries_from turn n (slots ++ more) ≡ entries_from turn n slots
  entries-more [] more n other = others_none more n other
  entries-more (s ∷ slots) more n other = ap (λ (known : Known). with_first (s.turn == turn) (n, s.image) known) (entries-more slots more (suc n) other)

-- ---- what the calls do

pub got : (turn x : ℕ) (slots : List Slot) (s : Slot) (r : Option ℕ) → Some s ≡ slice_get slots x → r ≡ (if s.turn == turn then s.image else None)
    → r ≡ option_flatten (image_at (entries_from turn 0 slots) x)
got turn x slots s r there is = is ∙ by (s.turn == turn) refl ∙ sym (ap option_flatten (image-at turn slots 0 x x (omega arith) ∙ ap (slot_image turn) (sym there)))
  where
    by : (b : Bool) → (s.turn == turn) ≡ b → (if b then s.image else None) ≡ option_flatten (if b then Some s.image else None)
    by true e = refl
    by false e = refl

pub got_none : (turn x : ℕ) (slots : List Slot) → None ≡ slice_get slots x → None ≡ option_flatten (image_at (entries_from turn 0 slots) x)
got_none turn x slots there = sym (ap option_flatten (image-at turn slots 0 x x (omega arith) ∙ ap (slot_image turn) (sym there)))

-- in the next turn there is nothing
pub cleared : (old turn : ℕ) (slots : List Slot) → AreSlots old slots → turn ≡ old + 1 → entries_from turn 0 slots ≡ []
cleared old turn slots a is = others_none turn slots 0 (λ k d low e. let le = a.each k d low in omega (arith, le, is, e))

pub still_slots : (old turn : ℕ) (slots : List Slot) → AreSlots old slots → turn ≡ old + 1 → AreSlots turn slots
still_slots old turn slots a is = record { begun = omega (arith, is); each = λ k d low. let le = a.each k d low in omega (arith, le, is) }

pub grown_none : (slots : List Slot) → IsGrown slots slots
grown_none slots = record { more = []; is = sym (append-nil slots); empty = All-nil (λ (s : Slot). s.turn ≡ 0) }

pub grown_push : (old mid new : List Slot) (s : Slot) → IsGrown old mid → s.turn ≡ 0 → new ≡ mid ++ s ∷ [] → IsGrown old new
grown_push old mid new s g none is = record {
  more = g.more ++ s ∷ [];
  is = is ∙ ap (λ (l : List Slot). l ++ s ∷ []) g.is ∙ append_assoc old g.more (s ∷ []);
  empty = All-push (λ (s : Slot). s.turn ≡ 0) g.more s g.empty none;
}

pub grown_slots : (turn : ℕ) (old new : List Slot) → AreSlots turn old → IsGrown old new → AreSlots turn new
grown_slots turn old new a g = record {
  begun = a.begun;
  each = subst (λ (l : List Slot). All (λ s. s.turn ≤ turn) l) (sym g.is) (
      All-append (λ (s : Slot). s.turn ≤ turn) old g.more a.each (λ k d low. let e = g.empty k d low in omega (arith, e)));
}

pub grown_same : (turn : ℕ) (old new : List Slot) → AreSlots turn old → IsGrown old new → entries_from turn 0 new ≡ entries_from turn 0 old
grown_same turn old new a g =
    ap (entries_from turn 0) g.is ∙ entries-more turn old g.more 0 (λ k d low e. let none = g.empty k d low in let begun = a.begun in omega (arith, none, e, begun))

pub put_slots : (turn x : ℕ) (old new : List Slot) (v : Slot) → AreSlots turn old → v.turn ≡ turn → new ≡ set old x v → AreSlots turn new
put_slots turn x old new v a now is = record {
  begun = a.begun;
  each = subst (λ (l : List Slot). All (λ s. s.turn ≤ turn) l) (sym is) (All-set (λ (s : Slot). s.turn ≤ turn) old x v (omega (arith, now)) a.each);
}

pub put_updates : (turn x : ℕ) (old mid new : List Slot) (v : Slot) → AreSlots turn old → IsGrown old mid → x < length mid → v.turn ≡ turn → new ≡ set mid x v
    → Updates (entries_from turn 0 old) (entries_from turn 0 new) x v.image
put_updates turn x old mid new v a g low now is =
    subst (λ (known : Known). Updates known (entries_from turn 0 new) x v.image) (grown_same turn old mid a g) (
    subst (λ (l : List Slot). Updates (entries_from turn 0 mid) (entries_from turn 0 l) x v.image) (sym is) (slots_put turn mid x v now low))

pub put_length : (turn x : ℕ) (old mid new : List Slot) (v : Slot) → AreSlots turn old → IsGrown old mid → x < length mid → v.turn ≡ turn → new ≡ set mid x v
    → length (entries_from turn 0 new) ≡ length (entries_from turn 0 old) + (if is_some (image_at (entries_from turn 0 old) x) then 0 else 1)
put_length turn x old mid new v a g low now is =
    subst (λ (known : Known). length (entries_from turn 0 new) ≡ length known + (if is_some (image_at known x) then 0 else 1)) (grown_same turn old mid a g) (
    ap (λ (l : List Slot). length (entries_from turn 0 l)) is ∙ entries_put turn mid x v now low)
