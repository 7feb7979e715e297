-- The bytes that rising pieces stand for.
use Rattle.std.proofs.Common.{◌≡◌, ℕ, zero, suc, ◌+◌, ◌-◌, ◌*◌, ◌/◌, ◌%◌, ◌^◌, ◌<◌, ◌≤◌, Option, Some, None, Bool, true, false, ◌&&◌, cond, List, [], ◌∷◌, ◌++◌, length, map, get_or, set, take, drop, replicate, min, Fits, w8, add-zero, refl, sym, ap, subst, ◌∙◌, ⊎_elim, arith, eqb, leb}
use Rattle.std.specs.Option.{option_or, option_map, is_some}
use Rattle.std.specs.List.{slice_get}
use Rattle.std.specs.Ordering.{nat_cmp, eq_by_cmp}
use Rattle.std.specs.Cmp.{nat_cmp_total}
use Rattle.std.specs.FinMap.{empty, get, find, from_entries, get-from_entries, same_map, nat_cmp-IsAntisymmetric}
use Rattle.std.proofs.lemmas.Bool.{le-leb, lt-leb, eq-eqb, ne_eqb, cases_lt, cases_order, eqb-true, cond-true, cond-false}
use Rattle.std.proofs.lemmas.List.{take-append-drop, length-take-le, drop_all, drop_more, length-drop, length-append, length-take, length-replicate, length-set, drop-drop, take_more_set, drop-set-lt, append_assoc, append-nil, get_or-drop, get_or-take, get_or-replicate, get_or-set_same, get_or_at}
use Rattle.std.proofs.lemmas.Bool.Decides.{nat_tests}
use Rattle.std.proofs.Math.Nat.{mod-eq_of_lt, pow-le-pow_right, pow-succ'}
use Rattle.std.proofs.lemmas.Option.{slice_get_past, slice_get-get_or}
use Rattle.rv_words.specs.declared.pieces.Piece.{Piece}
use Rattle.rv_words.specs.Bytes.{AreAt, Bytes, after, away, inside, number_of, store, bytes_from, over, put_byte}
use Rattle.rv_words.specs.inner.Pieces.{end, above, ArePiecesFrom, ArePieces, bytes_in, entries_from, entries_in, map_of, Holds}

-- ---- options

pub or_none : (x : Option ℕ) → option_or x None ≡ x
or_none None = refl
or_none (Some b) = refl

pub or_assoc : (x y z : Option ℕ) → option_or (option_or x y) z ≡ option_or x (option_or y z)
or_assoc None y z = refl
or_assoc (Some b) y z = refl

-- where one of them is none, the order does not matter
or_swap : (x y z : Option ℕ) → x ≡ None → option_or x (option_or y z) ≡ option_or y (option_or x z)
or_swap x y z e = (λ i. option_or (e i) (option_or y z)) ∙ (λ i. option_or y (option_or (sym e i) z))

or_swap-none : (x y z : Option ℕ) → y ≡ None → option_or x (option_or y z) ≡ option_or y (option_or x z)
or_swap-none x y z e = (λ i. option_or x (option_or (e i) z)) ∙ (λ i. option_or (sym e i) (option_or x z))

first_of : (b : Bool) (v : ℕ) (o p : Option ℕ) → cond b (Some v) (option_or o p) ≡ option_or (cond b (Some v) o) p
first_of true v o p = refl
first_of false v o p = refl

-- ---- bytes from an address on

pub bytes_before : (a : ℕ) (bs : List ℕ) (q : ℕ) → q < a → bytes_from a bs q ≡ None
bytes_before a bs q h = cond-false (leb a q) _ _ (lt-leb a q h)

pub bytes_within : (a : ℕ) (bs : List ℕ) (q : ℕ) → a ≤ q → bytes_from a bs q ≡ slice_get bs (q - a)
bytes_within a bs q h = cond-true (leb a q) _ _ (le-leb a q h)

pub bytes_past : (a : ℕ) (bs : List ℕ) (q : ℕ) → a + length bs ≤ q → bytes_from a bs q ≡ None
bytes_past a bs q h = bytes_within a bs q (omega arith) ∙ slice_get_past bs (q - a) (omega arith)

pub bytes_none : (a q : ℕ) → bytes_from a [] q ≡ None
bytes_none a q = ⊎_elim (λ h. bytes_before a [] q h) (λ h. bytes_past a [] q (omega arith)) (cases_lt q a)

-- the first byte, and the others from the next address on
bytes_more : (a b : ℕ) (bs : List ℕ) (q : ℕ) → bytes_from a (b ∷ bs) q ≡ cond (eqb q a) (Some b) (bytes_from (suc a) bs q)
bytes_more a b bs q =
    ⊎_elim
    (λ e. let d : q - a ≡ 0 = omega arith in
    bytes_within a (b ∷ bs) q (omega arith) ∙ ap (slice_get (b ∷ bs)) d ∙ sym (cond-true (eqb q a) _ _ (eq-eqb q a e)))
    (λ o. ⊎_elim
    (λ h. bytes_before a (b ∷ bs) q h ∙ sym (cond-false (eqb q a) _ _ (ne_eqb q a (λ e. omega arith)) ∙ bytes_before (suc a) bs q (omega arith)))
    (λ h. let d : q - a ≡ suc (q - suc a) = omega arith in
    bytes_within a (b ∷ bs) q (omega arith) ∙ ap (slice_get (b ∷ bs)) d
    ∙ sym (cond-false (eqb q a) _ _ (ne_eqb q a (λ e. omega arith)) ∙ bytes_within (suc a) bs q (omega arith)))
    o)
    (cases_order q a)

pub bytes_append : (a : ℕ) (xs ys : List ℕ) (q : ℕ) → bytes_from a (xs ++ ys) q ≡ option_or (bytes_from a xs q) (bytes_from (a + length xs) ys q)
bytes_append a [] ys q = let e : a ≡ a + 0 = omega arith in λ i. option_or (sym (bytes_none a q) i) (bytes_from (e i) ys q)
bytes_append a (x ∷ xs) ys q =
    let e : suc a + length xs ≡ a + suc (length xs) = omega arith in
    bytes_more a x (xs ++ ys) q ∙ (λ i. cond (eqb q a) (Some x) (bytes_append (suc a) xs ys q i))
    ∙ first_of (eqb q a) x _ _ ∙ (λ i. option_or (sym (bytes_more a x xs q) i) (bytes_from (e i) ys q))

-- the bytes before k places, and those from there on
bytes_parts : (a k : ℕ) (xs : List ℕ) (q : ℕ) → k ≤ length xs → bytes_from a xs q ≡ option_or (bytes_from a (take k xs) q) (bytes_from (a + k) (drop k xs) q)
bytes_parts a k xs q h =
    (λ i. bytes_from a (sym (take-append-drop k xs) i) q) ∙ bytes_append a (take k xs) (drop k xs) q
    ∙ (λ i. option_or (bytes_from a (take k xs) q) (bytes_from (a + length-take-le k xs h i) (drop k xs) q))

pub bytes_take : (a k : ℕ) (xs : List ℕ) (q : ℕ) → k ≤ length xs → q < a + k → bytes_from a (take k xs) q ≡ bytes_from a xs q
bytes_take a k xs q h l =
    sym (bytes_parts a k xs q h ∙ (λ i. option_or (bytes_from a (take k xs) q) (bytes_before (a + k) (drop k xs) q l i)) ∙ or_none _)

pub bytes_drop : (a k : ℕ) (xs : List ℕ) (q : ℕ) → a + k ≤ q → bytes_from (a + k) (drop k xs) q ≡ bytes_from a xs q
bytes_drop a k xs q l =
    ⊎_elim
    (λ h. let short : a + length (take k xs) ≤ q = omega (arith, length-take-le k xs (omega arith)) in
    sym (bytes_parts a k xs q (omega arith) ∙ (λ i. option_or (bytes_past a (take k xs) q short i) (bytes_from (a + k) (drop k xs) q))))
    (λ h. (λ i. bytes_from (a + k) (drop_all k xs h i) q) ∙ bytes_none (a + k) q ∙ sym (bytes_past a xs q (omega arith)))
    (cases_lt k (length xs))

-- ---- the finite map

find-entries_from : (a : ℕ) (bs : List ℕ) (q : ℕ) → find nat_cmp q (entries_from a bs) ≡ bytes_from a bs q
find-entries_from a [] q = sym (bytes_none a q)
find-entries_from a (b ∷ bs) q =
    let same : eq_by_cmp nat_cmp q a ≡ eqb q a = grind (arith, nat_tests) in
    (λ i. cond (same i) (Some b) (find-entries_from (suc a) bs q i)) ∙ sym (bytes_more a b bs q)

find-append : (q : ℕ) (xs ys : List (ℕ × ℕ)) → find nat_cmp q (xs ++ ys) ≡ option_or (find nat_cmp q xs) (find nat_cmp q ys)
find-append q [] ys = refl
find-append q (x ∷ xs) ys = (λ i. cond (eq_by_cmp nat_cmp q x.0) (Some x.1) (find-append q xs ys i))
    ∙ first_of (eq_by_cmp nat_cmp q x.0) x.1 (find nat_cmp q xs) (find nat_cmp q ys)

find-entries_in : (ps : List Piece) (q : ℕ) → find nat_cmp q (entries_in ps) ≡ bytes_in ps q
find-entries_in [] q = refl
find-entries_in (p ∷ ps) q =
    find-append q (entries_from p.at p.bytes.items) (entries_in ps)
    ∙ (λ i. option_or (find-entries_from p.at p.bytes.items q i) (find-entries_in ps q i))

pub get-map_of : (ps : List Piece) → get (map_of ps) ≡ bytes_in ps
unfolding map_of
get-map_of ps =
    let at : (q : ℕ) → get (map_of ps) q ≡ bytes_in ps q = λ q. get-from_entries nat_cmp_total (entries_in ps) q ∙ find-entries_in ps q in
    λ i q. at q i

pub map_of-none : (ps : List Piece) → ps ≡ [] → map_of ps ≡ empty
unfolding map_of
map_of-none ps e = λ i. from_entries (entries_in (e i))

pub same_map_of : (ps qs : List Piece) → bytes_in ps ≡ bytes_in qs → map_of ps ≡ map_of qs
same_map_of ps qs e =
    same_map nat_cmp_total nat_cmp-IsAntisymmetric (map_of ps) (map_of qs) (λ q i. (get-map_of ps ∙ e ∙ sym (get-map_of qs)) i q)

-- ---- rising pieces

pub above-le : (least : ℕ) (ps : List Piece) → ArePiecesFrom least ps → least ≤ above least ps
above-le least [] h = omega arith
above-le least (p ∷ ps) h = omega (arith, above-le (end p) ps h.3)

pub above-append : (least : ℕ) (ps qs : List Piece) → above least (ps ++ qs) ≡ above (above least ps) qs
above-append least [] qs = refl
above-append least (p ∷ ps) qs = above-append (end p) ps qs

pub front_rises : (least : ℕ) (ps qs : List Piece) → ArePiecesFrom least (ps ++ qs) → ArePiecesFrom least ps
front_rises least [] qs h = tt
front_rises least (p ∷ ps) qs h = (h.0, h.1, h.2, front_rises (end p) ps qs h.3)

pub back_rises : (least : ℕ) (ps qs : List Piece) → ArePiecesFrom least (ps ++ qs) → ArePiecesFrom (above least ps) qs
back_rises least [] qs h = h
back_rises least (p ∷ ps) qs h = back_rises (end p) ps qs h.3

pub both_rise : (least : ℕ) (ps qs : List Piece) → ArePiecesFrom least ps → ArePiecesFrom (above least ps) qs → ArePiecesFrom least (ps ++ qs)
both_rise least [] qs h k = k
both_rise least (p ∷ ps) qs h k = (h.0, h.1, h.2, both_rise (end p) ps qs h.3 k)

-- pieces whose first begins at or above b
pub raised : (least b : ℕ) (ps : List Piece) → ArePiecesFrom least ps → ((d : Piece) → 0 < length ps → b ≤ (get_or ps 0 d).at) → ArePiecesFrom b ps
raised least b [] h f = tt
raised least b (p ∷ ps) h f = (f p (omega arith), h.1, h.2, h.3)

pub none_below : (least : ℕ) (ps : List Piece) (q : ℕ) → ArePiecesFrom least ps → q < least → bytes_in ps q ≡ None
none_below least [] q h l = refl
none_below least (p ∷ ps) q h l =
    λ i. option_or (bytes_before p.at p.bytes.items q (omega arith) i) (none_below (end p) ps q h.3 (omega arith) i)

pub none_above : (least : ℕ) (ps : List Piece) (q : ℕ) → ArePiecesFrom least ps → above least ps ≤ q → bytes_in ps q ≡ None
none_above least [] q h l = refl
none_above least (p ∷ ps) q h l =
    let a = above-le (end p) ps h.3 in
    λ i. option_or (bytes_past p.at p.bytes.items q (omega arith) i) (none_above (end p) ps q h.3 l i)

pub bytes_in-append : (ps qs : List Piece) (q : ℕ) → bytes_in (ps ++ qs) q ≡ option_or (bytes_in ps q) (bytes_in qs q)
bytes_in-append [] qs q = refl
bytes_in-append (p ∷ ps) qs q =
    (λ i. option_or (bytes_from p.at p.bytes.items q) (bytes_in-append ps qs q i))
    ∙ sym (or_assoc (bytes_from p.at p.bytes.items q) (bytes_in ps q) (bytes_in qs q))

-- ---- the piece that has an address

least_at : (least : ℕ) (ps : List Piece) (k : ℕ) (d : Piece) → ArePiecesFrom least ps → k < length ps → least ≤ (get_or ps k d).at
least_at least [] k d h l = absurd (omega arith)
least_at least (p ∷ ps) zero d h l = h.0
least_at least (p ∷ ps) (suc k) d h l = omega (arith, least_at (end p) ps k d h.3 (omega arith))

pub at_rises : (least : ℕ) (ps : List Piece) (k l : ℕ) (d : Piece) → ArePiecesFrom least ps → k ≤ l → l < length ps → (get_or ps k d).at ≤ (get_or ps l d).at
at_rises least [] k l d h le lt = absurd (omega arith)
at_rises least (p ∷ ps) zero zero d h le lt = omega arith
at_rises least (p ∷ ps) zero (suc l) d h le lt = omega (arith, least_at (end p) ps l d h.3 (omega arith))
at_rises least (p ∷ ps) (suc k) zero d h le lt = absurd (omega arith)
at_rises least (p ∷ ps) (suc k) (suc l) d h le lt = at_rises (end p) ps k l d h.3 (omega arith) (omega arith)

-- no piece begins at or below a
pub found_none : (ps : List Piece) (begun a : ℕ) → ArePieces ps → begun ≡ 0 → ((d : Piece) → begun < length ps → a + 0 < (get_or ps begun d).at) → bytes_in ps a ≡ None
found_none ps begun a h z f =
    let first = subst (λ x. (d : Piece) → x < length ps → a + 0 < (get_or ps x d).at) z f in
    none_below (suc a) ps a (raised 0 (suc a) ps h (λ d l. omega (arith, first d l))) (omega arith)

-- piece k begins at or below a, and the next one doesn't
found_from : (least : ℕ) (ps : List Piece) (k a : ℕ) (d : Piece) → ArePiecesFrom least ps → k < length ps → (get_or ps k d).at ≤ a
    → ((d : Piece) → suc k < length ps → a < (get_or ps (suc k) d).at) → bytes_in ps a ≡ bytes_from (get_or ps k d).at (get_or ps k d).bytes.items a
found_from least [] k a d h l b n = absurd (omega arith)
found_from least (p ∷ ps) zero a d h l b n =
    (λ i. option_or (bytes_from p.at p.bytes.items a) (none_below (suc a) ps a (raised (end p) (suc a) ps h.3 (λ d l. n d (omega arith))) (omega arith) i))
    ∙ or_none (bytes_from p.at p.bytes.items a)
found_from least (p ∷ ps) (suc k) a d h l b n =
    let low = least_at (end p) ps k d h.3 (omega arith) in
    (λ i. option_or (bytes_past p.at p.bytes.items a (omega arith) i) (bytes_in ps a))
    ∙ found_from (end p) ps k a d h.3 (omega arith) b (λ d l. n d (omega arith))

-- the first `begun` pieces begin at or below a, and the next one doesn't
pub found : (ps : List Piece) (begun a : ℕ) (p : Piece) → ArePieces ps → 0 < begun → begun ≤ length ps
    → ((d : Piece) → 0 < begun → (get_or ps (begun - 1) d).at ≤ a + 0) → ((d : Piece) → begun < length ps → a + 0 < (get_or ps begun d).at)
    → p ≡ get_or ps (begun - 1) p → bytes_in ps a ≡ bytes_from p.at p.bytes.items a
found ps begun a p h pos l b n is =
    let e : begun ≡ suc (begun - 1) = omega arith in
    found_from 0 ps (begun - 1) a p h (omega arith) (omega (arith, b p pos)) (λ d l. let m = subst (λ x. x < length ps → a + 0 < (get_or ps x d).at) e (n d) in omega (arith, m l))
    ∙ (λ i. bytes_from (sym is i).at (sym is i).bytes.items a)

-- the next piece begins at or above the end of one
next_begins : (least : ℕ) (ps : List Piece) (k : ℕ) (c d : Piece) → ArePiecesFrom least ps → suc k < length ps → end (get_or ps k c) ≤ (get_or ps (suc k) d).at
next_begins least [] k c d h l = absurd (omega arith)
next_begins least (p ∷ ps) zero c d h l = least_at (end p) ps 0 d h.3 (omega arith)
next_begins least (p ∷ ps) (suc k) c d h l = next_begins (end p) ps k c d h.3 (omega arith)

-- ---- a piece with other bytes at the same addresses

pub put_rises : (least : ℕ) (ps : List Piece) (k : ℕ) (d p : Piece) → ArePiecesFrom least ps → k < length ps → p.at ≡ (get_or ps k d).at
    → length p.bytes.items ≡ length (get_or ps k d).bytes.items → ArePiecesFrom least (set ps k p)
put_rises least [] k d p h l e n = absurd (omega arith)
put_rises least (x ∷ ps) zero d p h l e n =
    let rest : ArePiecesFrom (end p) ps = raised (end x) (end p) ps h.3 (λ d l. omega (arith, least_at (end x) ps 0 d h.3 l)) in
    (omega arith, omega arith, omega arith, rest)
put_rises least (x ∷ ps) (suc k) d p h l e n = (h.0, h.1, h.2, put_rises (end x) ps k d p h.3 (omega arith) e n)

-- m lies in piece k, and the new bytes are m over the old ones
put_over : (least : ℕ) (ps : List Piece) (k : ℕ) (d p : Piece) (m : Bytes) (q : ℕ) → ArePiecesFrom least ps → k < length ps
    → bytes_from p.at p.bytes.items q ≡ option_or (m q) (bytes_from (get_or ps k d).at (get_or ps k d).bytes.items q)
    → (q < (get_or ps k d).at → m q ≡ None)
    → bytes_in (set ps k p) q ≡ option_or (m q) (bytes_in ps q)
put_over least [] k d p m q h l e o = absurd (omega arith)
put_over least (x ∷ ps) zero d p m q h l e o = (λ i. option_or (e i) (bytes_in ps q)) ∙ or_assoc (m q) (bytes_from x.at x.bytes.items q) (bytes_in ps q)
put_over least (x ∷ ps) (suc k) d p m q h l e o =
    let low = least_at (end x) ps k d h.3 (omega arith) in
    (λ i. option_or (bytes_from x.at x.bytes.items q) (put_over (end x) ps k d p m q h.3 (omega arith) e o i))
    ∙ ⊎_elim
    (λ below. or_swap-none (bytes_from x.at x.bytes.items q) (m q) (bytes_in ps q) (o (omega arith)))
    (λ after. or_swap (bytes_from x.at x.bytes.items q) (m q) (bytes_in ps q) (bytes_past x.at x.bytes.items q after))
    (cases_lt q (x.at + length x.bytes.items))

-- ---- the pieces before, the pieces that are touched and the pieces after

pub above-take-le : (least : ℕ) (ps : List Piece) (k : ℕ) (d : Piece) → ArePiecesFrom least ps → k < length ps → above least (take k ps) ≤ (get_or ps k d).at
above-take-le least [] k d h l = absurd (omega arith)
above-take-le least (p ∷ ps) zero d h l = h.0
above-take-le least (p ∷ ps) (suc k) d h l = above-take-le (end p) ps k d h.3 (omega arith)

pub above-take : (least : ℕ) (ps : List Piece) (k : ℕ) (d : Piece) → k < length ps → above least (take (suc k) ps) ≡ end (get_or ps k d)
above-take least [] k d l = absurd (omega arith)
above-take least (p ∷ ps) zero d l = refl
above-take least (p ∷ ps) (suc k) d l = above-take (end p) ps k d (omega arith)

pub drop_rises : (least : ℕ) (ps : List Piece) (k : ℕ) → ArePiecesFrom least ps → ArePiecesFrom (above least (take k ps)) (drop k ps)
drop_rises least ps k h = back_rises least (take k ps) (drop k ps) (subst (λ x. ArePiecesFrom least x) (sym (take-append-drop k ps)) h)

pub take_rises : (least : ℕ) (ps : List Piece) (k : ℕ) → ArePiecesFrom least ps → ArePiecesFrom least (take k ps)
take_rises least ps k h = front_rises least (take k ps) (drop k ps) (subst (λ x. ArePiecesFrom least x) (sym (take-append-drop k ps)) h)

-- the pieces from `k` on begin at or above b
pub drop_raised : (ps : List Piece) (k b : ℕ) → ArePieces ps → ((d : Piece) → k < length ps → b ≤ (get_or ps k d).at) → ArePiecesFrom b (drop k ps)
drop_raised ps k b h f =
    raised (above 0 (take k ps)) b (drop k ps) (drop_rises 0 ps k h)
    (λ d l. let n : k < length ps = omega (arith, length-drop k ps) in
    let e : get_or (drop k ps) 0 d ≡ get_or ps k d = get_or-drop k ps 0 d ∙ (λ i. get_or ps (add-zero k i) d) in
    subst (λ (p : Piece). b ≤ p.at) (sym e) (f d n))

-- the first `begun` pieces begin at or below a; where the last of these doesn't reach a, all end below it
pub front_apart : (ps : List Piece) (begun a : ℕ) (p : Piece) → begun ≤ length ps → 0 < begun → p ≡ get_or ps (begun - 1) p → (a ≤ end p → ⊥) → above 0 (take begun ps) ≤ a
front_apart ps begun a p l pos is e =
    let b : begun ≡ suc (begun - 1) = omega arith in
    let at : above 0 (take begun ps) ≡ end p = (λ i. above 0 (take (b i) ps)) ∙ above-take 0 ps (begun - 1) p (omega arith) ∙ (λ i. end (sym is i)) in
    ⊎_elim (λ apart. omega arith) (λ reached. absurd (e reached)) (cases_lt (end p) a)

pub front_none : (ps : List Piece) (begun a : ℕ) → begun ≡ 0 → above 0 (take begun ps) ≤ a
front_none ps begun a e = let at : above 0 (take begun ps) ≡ 0 = (λ i. above 0 (take (e i) ps)) in omega arith

pub front_reached : (ps : List Piece) (begun a : ℕ) (p : Piece) → ArePieces ps → begun ≤ length ps → 0 < begun → p ≡ get_or ps (begun - 1) p
    → ((d : Piece) → 0 < begun → (get_or ps (begun - 1) d).at ≤ a + 0) → above 0 (take (begun - 1) ps) ≤ a
front_reached ps begun a p h l pos is le =
    omega (arith, above-take-le 0 ps (begun - 1) p h (omega arith), le p pos)

-- the pieces behind one that begins at b
pub behind_rise : (ps : List Piece) (k b : ℕ) → ArePieces ps → k < length ps → ((d : Piece) → (get_or ps k d).at ≡ b) → ArePiecesFrom b (drop (k + 1) ps)
behind_rise ps k b h l e = drop_raised ps (k + 1) b h (λ d m. omega (arith, e d, at_rises 0 ps k (k + 1) d h (omega arith) m))

-- of two counts of the pieces that begin at or below a place, the higher place has no smaller count
pub counts_rise : (ps : List Piece) (a n begun last : ℕ) → ArePieces ps → begun ≤ length ps → ((d : Piece) → 0 < begun → (get_or ps (begun - 1) d).at ≤ a + 0)
    → ((d : Piece) → last < length ps → a + n < (get_or ps last d).at) → begun ≤ last
counts_rise [] a n begun last h l b f = omega arith
counts_rise (p ∷ ps) a n begun last h l b f =
    ⊎_elim
    (λ lt. absurd (omega (arith, at_rises 0 (p ∷ ps) last (begun - 1) p h (omega arith) (omega arith), b p (omega arith), f p (omega arith))))
    (λ le. le)
    (cases_lt last begun)

-- a new piece between those before and those after
pub placed_rise : (ps : List Piece) (first last : ℕ) (p : Piece) → ArePieces ps → above 0 (take first ps) ≤ p.at → 0 < length p.bytes.items → end p ≤ 2 ^ 64
    → ArePiecesFrom (end p) (drop last ps) → ArePieces (take first ps ++ p ∷ drop last ps)
placed_rise ps first last p h b n e r = both_rise 0 (take first ps) (p ∷ drop last ps) (take_rises 0 ps first h) (b, n, e, r)

-- its bytes are m over those of the touched pieces, and m has none before a
pub placed_bytes : (xs mid ys : List Piece) (p : Piece) (m : Bytes) (a q : ℕ) → ArePieces xs → above 0 xs ≤ a → (q < a → m q ≡ None)
    → bytes_from p.at p.bytes.items q ≡ option_or (m q) (bytes_in mid q)
    → bytes_in (xs ++ p ∷ ys) q ≡ option_or (m q) (bytes_in (xs ++ (mid ++ ys)) q)
placed_bytes xs mid ys p m a q h l o e =
    let x = bytes_in xs q in let y = bytes_in ys q in let z = bytes_in mid q in
    bytes_in-append xs (p ∷ ys) q ∙ (λ i. option_or x (option_or (e i) y)) ∙ (λ i. option_or x (or_assoc (m q) z y i))
    ∙ ⊎_elim
    (λ below. or_swap-none x (m q) (option_or z y) (o below))
    (λ after. or_swap x (m q) (option_or z y) (none_above 0 xs q h (omega arith)))
    (cases_lt q a)
    ∙ (λ i. option_or (m q) (option_or x (sym (bytes_in-append mid ys q) i))) ∙ (λ i. option_or (m q) (sym (bytes_in-append xs (mid ++ ys) q) i))

-- the first touched piece has all touched bytes up to its end, the last one all from its begin
mid_low : (least : ℕ) (ps : List Piece) (q : ℕ) (d : Piece) → ArePiecesFrom least ps → 0 < length ps → q < end (get_or ps 0 d)
    → bytes_in ps q ≡ bytes_from (get_or ps 0 d).at (get_or ps 0 d).bytes.items q
mid_low least [] q d h l b = absurd (omega arith)
mid_low least (p ∷ ps) q d h l b =
    (λ i. option_or (bytes_from p.at p.bytes.items q) (none_below (end p) ps q h.3 b i)) ∙ or_none (bytes_from p.at p.bytes.items q)

mid_high : (least : ℕ) (ps : List Piece) (q : ℕ) (d : Piece) → ArePiecesFrom least ps → 0 < length ps → (get_or ps (length ps - 1) d).at ≤ q
    → bytes_in ps q ≡ bytes_from (get_or ps (length ps - 1) d).at (get_or ps (length ps - 1) d).bytes.items q
mid_high least ps q d h l b = found_from least ps (length ps - 1) q d h (omega arith) b (λ d l. absurd (omega arith))

zeros_within : (a n q : ℕ) → a ≤ q → q < a + n → bytes_from a (replicate n 0) q ≡ Some 0
zeros_within a n q l b = bytes_within a (replicate n 0) q l ∙ slice_get-get_or (replicate n 0) (q - a) 0 (omega (arith, length-replicate {A = ℕ} n 0))
    ∙ (λ i. Some (get_or-replicate n (q - a) 0 0 (omega arith) i))

or_some : (x y z : Option ℕ) (b : ℕ) → x ≡ Some b → option_or x y ≡ option_or x z
or_some x y z b e = (λ i. option_or (e i) y) ∙ (λ i. option_or (sym e i) z)

-- the bytes of the first touched piece before a
head_bytes : (at a q : ℕ) (p : Piece) → at ≡ min a p.at → a ≤ end p → q < a → bytes_from at (take (a - p.at) p.bytes.items) q ≡ bytes_from p.at p.bytes.items q
head_bytes at a q p e r l =
    ⊎_elim
    (λ below. bytes_before at (take (a - p.at) p.bytes.items) q (omega arith) ∙ sym (bytes_before p.at p.bytes.items q (omega arith)))
    (λ within. let same : at ≡ p.at = omega arith in
    (λ i. bytes_from (same i) (take (a - p.at) p.bytes.items) q) ∙ bytes_take p.at (a - p.at) p.bytes.items q (omega arith) (omega arith))
    (cases_lt a p.at)

-- the bytes of the last touched piece from b on
tail_bytes : (b q : ℕ) (p : Piece) → p.at ≤ b → b ≤ q → bytes_from b (drop (b - p.at) p.bytes.items) q ≡ bytes_from p.at p.bytes.items q
tail_bytes b q p l r =
    let e : b ≡ p.at + (b - p.at) = omega arith in
    (λ i. bytes_from (e i) (drop (b - p.at) p.bytes.items) q) ∙ bytes_drop p.at (b - p.at) p.bytes.items q (omega arith)

three : (x y w z : Option ℕ) → x ≡ z → y ≡ None → w ≡ None → option_or (option_or x y) w ≡ option_or y z
three x y w z a b c = (λ i. option_or (option_or (a i) (b i)) (c i)) ∙ or_none (option_or z None) ∙ or_none z ∙ (λ i. option_or (sym b i) z)

-- the bytes before a of the first touched piece, n zeros from a on, and the bytes from a + n on of the last one
pub joined_bytes : (least : ℕ) (mid : List Piece) (a n q : ℕ) (head tail p : Piece) → ArePiecesFrom least mid → 0 < length mid
    → head ≡ get_or mid 0 head → tail ≡ get_or mid (length mid - 1) tail → a ≤ end head → tail.at ≤ a + n
    → p.at ≡ min a head.at → p.bytes.items ≡ take (a - head.at) head.bytes.items ++ replicate n 0 ++ drop (a + n - tail.at) tail.bytes.items
    → bytes_from p.at p.bytes.items q ≡ option_or (bytes_from a (replicate n 0) q) (bytes_in mid q)
joined_bytes least mid a n q head tail p h pos first last reach begin at is =
    let l = take (a - head.at) head.bytes.items in
    let z : List ℕ = replicate n 0 in
    let r = drop (a + n - tail.at) tail.bytes.items in
    let to_a : p.at + length l ≡ a = omega (arith, length-take (a - head.at) head.bytes.items) in
    let to_end : p.at + length (l ++ z) ≡ a + n = omega (arith, length-append l z, length-replicate {A = ℕ} n 0) in
    let x = bytes_from p.at l q in let y = bytes_from a z q in let w = bytes_from (a + n) r q in
    let parts : bytes_from p.at p.bytes.items q ≡ option_or (option_or x y) w =
    (λ i. bytes_from p.at (is i) q) ∙ bytes_append p.at (l ++ z) r q ∙ (λ i. option_or (bytes_append p.at l z q i) (bytes_from (to_end i) r q)) ∙ (λ i. option_or (option_or x (bytes_from (to_a i) z q)) w) in
    let low : q < end head → bytes_in mid q ≡ bytes_from head.at head.bytes.items q =
    λ lt. mid_low least mid q head h pos (subst (λ (p : Piece). q < end p) first lt) ∙ (λ i. bytes_from (sym first i).at (sym first i).bytes.items q) in
    let high : tail.at ≤ q → bytes_in mid q ≡ bytes_from tail.at tail.bytes.items q =
    λ le. mid_high least mid q tail h pos (subst (λ (p : Piece). p.at ≤ q) last le) ∙ (λ i. bytes_from (sym last i).at (sym last i).bytes.items q) in
    parts
    ∙ ⊎_elim
    (λ below. three x y w (bytes_in mid q) (head_bytes p.at a q head at reach below ∙ sym (low (omega arith))) (bytes_before a z q below) (bytes_before (a + n) r q (omega arith)))
    (λ from_a.
    let none : x ≡ None = bytes_past p.at l q (omega arith) in
    (λ i. option_or (option_or (none i) y) w)
    ∙ ⊎_elim
    (λ within. or_some y w (bytes_in mid q) 0 (zeros_within a n q from_a within))
    (λ from_end. let e : w ≡ bytes_in mid q = tail_bytes (a + n) q tail begin from_end ∙ sym (high (omega arith)) in λ i. option_or y (e i))
    (cases_lt q (a + n)))
    (cases_lt q a)

-- ---- what the calls leave

end_at : (least : ℕ) (ps : List Piece) (k : ℕ) (d : Piece) → ArePiecesFrom least ps → k < length ps → end (get_or ps k d) ≤ 2 ^ 64
end_at least [] k d h l = absurd (omega arith)
end_at least (p ∷ ps) zero d h l = h.2
end_at least (p ∷ ps) (suc k) d h l = end_at (end p) ps k d h.3 (omega arith)

-- the bytes at addresses that one piece has
pub part_at : (ps : List Piece) (k a n : ℕ) (p : Piece) (bytes : List ℕ) → ArePieces ps → k < length ps → p ≡ get_or ps k p → p.at ≤ a → a + n ≤ end p
    → bytes ≡ take n (drop (a - p.at) p.bytes.items) → (length bytes ≡ n) × AreAt bytes (bytes_in ps) a
part_at ps k a n p bytes h l is low high are =
    let rest = drop (a - p.at) p.bytes.items in
    let behind = length-drop (a - p.at) p.bytes.items in
    let taken = length-take n rest in
    let long : length bytes ≡ n = ap length are ∙ omega (arith, taken, behind) in (
      long,
      λ j m.
          let q = a + j in
          let same : end p ≡ end (get_or ps k p) = λ i. end (is i) in
          let at : p.at ≡ (get_or ps k p).at = λ i. (is i).at in
          let small = end_at 0 ps k p h l in
          let here : away a j ≡ q = mod-eq_of_lt (omega (arith, long, m, small, same, high)) in
          let there : bytes_in ps q ≡ bytes_from (get_or ps k p).at (get_or ps k p).bytes.items q =
          found_from 0 ps k q p h l (omega (arith, at, low)) (λ d r. let next = next_begins 0 ps k p d h r in omega (arith, next, same, high, m, long)) in
          let back : q - a ≡ j = omega arith in
          ap (bytes_in ps) here ∙ there ∙ (λ i. bytes_from (sym is i).at (sym is i).bytes.items q) ∙ sym (tail_bytes a q p low (omega arith))
          ∙ sym (bytes_take a n rest q (omega (arith, behind, high)) (omega (arith, m, long))) ∙ (λ i. bytes_from a (sym are i) q) ∙ bytes_within a bytes q (omega arith) ∙ (λ i. slice_get bytes (back i)),
    )

pub touched_split : (ps : List Piece) (first last : ℕ) → first ≤ last → take first ps ++ (take (last - first) (drop first ps) ++ drop last ps) ≡ ps
touched_split ps first last l =
    let e : first + (last - first) ≡ last = omega arith in
    let rest : drop last ps ≡ drop (last - first) (drop first ps) = (λ i. drop (sym e i) ps) ∙ sym (drop-drop (last - first) first ps) in
    (λ i. take first ps ++ (take (last - first) (drop first ps) ++ rest i)) ∙ (λ i. take first ps ++ take-append-drop (last - first) (drop first ps) i) ∙ take-append-drop first ps

-- m over the pieces, where the new piece has m over the touched ones
pub placed : (ps : List Piece) (first last : ℕ) (p : Piece) (m : Bytes) (a : ℕ) → ArePieces ps → first ≤ last → above 0 (take first ps) ≤ a → ((q : ℕ) → q < a → m q ≡ None)
    → ((q : ℕ) → bytes_from p.at p.bytes.items q ≡ option_or (m q) (bytes_in (take (last - first) (drop first ps)) q))
    → bytes_in (take first ps ++ p ∷ drop last ps) ≡ over m (bytes_in ps)
placed ps first last p m a h l b o e =
    let at : (q : ℕ) → bytes_in (take first ps ++ p ∷ drop last ps) q ≡ over m (bytes_in ps) q =
    λ q. placed_bytes (take first ps) (take (last - first) (drop first ps)) (drop last ps) p m a q (take_rises 0 ps first h) b (o q) (e q)
    ∙ (λ i. option_or (m q) (bytes_in (touched_split ps first last l i) q)) in
    λ i q. at q i

-- zeros that touch no piece
pub inserted_rise : (ps : List Piece) (i a n : ℕ) (p : Piece) → ArePieces ps → 0 < n → a + n ≤ 2 ^ 64 → above 0 (take i ps) ≤ a → ArePiecesFrom (a + n) (drop i ps)
    → p.at ≡ a → p.bytes.items ≡ replicate n 0 → ArePieces (take i ps ++ p ∷ drop i ps)
inserted_rise ps i a n p h pos fits before after at is =
    let len : length p.bytes.items ≡ n = (λ j. length (is j)) ∙ length-replicate n 0 in
    let next : a + n ≡ end p = omega arith in
    placed_rise ps i i p h (omega arith) (omega arith) (omega arith) (subst (λ x. ArePiecesFrom x (drop i ps)) next after)

pub inserted : (ps : List Piece) (i a n : ℕ) (p : Piece) → ArePieces ps → above 0 (take i ps) ≤ a → p.at ≡ a → p.bytes.items ≡ replicate n 0
    → bytes_in (take i ps ++ p ∷ drop i ps) ≡ over (bytes_from a (replicate n 0)) (bytes_in ps)
inserted ps i a n p h before at is =
    let none : (q : ℕ) → bytes_in (take (i - i) (drop i ps)) q ≡ None = let z : i - i ≡ 0 = omega arith in λ q j. bytes_in (take (z j) (drop i ps)) q in
    placed ps i i p (bytes_from a (replicate n 0)) a h (omega arith) before (λ q l. bytes_before a (replicate n 0) q l)
    (λ q. (λ j. bytes_from (at j) (is j) q) ∙ sym (or_none (bytes_from a (replicate n 0) q)) ∙ (λ j. option_or (bytes_from a (replicate n 0) q) (sym (none q) j)))

pub placed_holds : (ps : List Piece) (i last a n : ℕ) (p : Piece) → i ≤ length ps → p.at ≤ a → a + n ≤ end p → Holds (take i ps ++ p ∷ drop last ps) i a n
placed_holds ps i last a n p l b e =
    let at : (d : Piece) → p ≡ get_or (take i ps ++ p ∷ drop last ps) i d = λ d. sym (get_or_at (take i ps) p (drop last ps) d i (length-take-le i ps l)) in (
      omega (arith, length-append (take i ps) (p ∷ drop last ps), length-take-le i ps l),
      λ d. subst (λ (x : Piece). x.at ≤ a) (at d) b,
      λ d. subst (λ (x : Piece). a + n ≤ end x) (at d) e,
    )

module _ (ps : List Piece) (first last a n : ℕ) (head tail p : Piece)
    (h : ArePieces ps) (ordered : first < last) (within : last ≤ length ps) (pos : 0 < n) (fits : a + n ≤ 2 ^ 64)
    (before : above 0 (take first ps) ≤ a) (after : ArePiecesFrom (a + n) (drop last ps))
    (at_first : head ≡ get_or ps first head) (at_last : tail ≡ get_or ps (last - 1) tail) (reach : a ≤ end head) (begin : tail.at ≤ a + n)
    (at : p.at ≡ min a head.at) (is : p.bytes.items ≡ take (a - head.at) head.bytes.items ++ replicate n 0 ++ drop (a + n - tail.at) tail.bytes.items) where
  joined_length : p.at + length p.bytes.items ≡ a + n + (length tail.bytes.items - (a + n - tail.at))
  joined_length =
      omega (
        arith,
        ap length is,
        length-append (take (a - head.at) head.bytes.items ++ replicate n 0) (drop (a + n - tail.at) tail.bytes.items),
        length-append (take (a - head.at) head.bytes.items) (replicate n 0),
        length-replicate {A = ℕ} n 0,
        length-take (a - head.at) head.bytes.items,
        length-drop (a + n - tail.at) tail.bytes.items,
      )

  pub joined_rise : ArePieces (take first ps ++ p ∷ drop last ps)
  joined_rise =
      let head_at : above 0 (take first ps) ≤ head.at = subst (λ (x : Piece). above 0 (take first ps) ≤ x.at) (sym at_first) (above-take-le 0 ps first head h (omega arith)) in
      let tail_end : end tail ≤ 2 ^ 64 = subst (λ (x : Piece). end x ≤ 2 ^ 64) (sym at_last) (end_at 0 ps (last - 1) tail h (omega arith)) in
      let s : suc (last - 1) ≡ last = omega arith in
      let above_last : above 0 (take last ps) ≡ end tail = (λ i. above 0 (take (sym s i) ps)) ∙ above-take 0 ps (last - 1) tail (omega arith) ∙ (λ i. end (sym at_last i)) in
      let rest : ArePiecesFrom (end tail) (drop last ps) = subst (λ x. ArePiecesFrom x (drop last ps)) above_last (drop_rises 0 ps last h) in
      let next : ArePiecesFrom (end p) (drop last ps) =
      ⊎_elim
      (λ inside. let e : end tail ≡ end p = omega (arith, joined_length) in subst (λ x. ArePiecesFrom x (drop last ps)) e rest)
      (λ outside. let e : a + n ≡ end p = omega (arith, joined_length) in subst (λ x. ArePiecesFrom x (drop last ps)) e after)
      (cases_lt (a + n) (end tail)) in
      placed_rise ps first last p h (omega arith) (omega (arith, joined_length)) (omega (arith, joined_length)) next

  pub joined_in : bytes_in (take first ps ++ p ∷ drop last ps) ≡ over (bytes_from a (replicate n 0)) (bytes_in ps)
  joined_in =
      let mid = take (last - first) (drop first ps) in
      let len : length mid ≡ last - first = omega (arith, length-take (last - first) (drop first ps), length-drop first ps) in
      let at_mid : (k : ℕ) (d : Piece) → k < last - first → get_or mid k d ≡ get_or ps (first + k) d =
      λ (k : ℕ) (d : Piece) (l : k < last - first). get_or-take (last - first) (drop first ps) k d l ∙ get_or-drop first ps k d in
      let f : first + 0 ≡ first = omega arith in
      let g : first + (length mid - 1) ≡ last - 1 = omega arith in
      let head_is : head ≡ get_or mid 0 head = at_first ∙ sym (at_mid 0 head (omega arith) ∙ (λ i. get_or ps (f i) head)) in
      let tail_is : tail ≡ get_or mid (length mid - 1) tail = at_last ∙ sym (at_mid (length mid - 1) tail (omega arith) ∙ (λ i. get_or ps (g i) tail)) in
      let rises : ArePiecesFrom (above 0 (take first ps)) mid = take_rises (above 0 (take first ps)) (drop first ps) (last - first) (drop_rises 0 ps first h) in
      placed ps first last p (bytes_from a (replicate n 0)) a h (omega arith) before (λ q l. bytes_before a (replicate n 0) q l)
      (λ q. joined_bytes (above 0 (take first ps)) mid a n q head tail p rises (omega arith) head_is tail_is reach begin at is)

  pub joined_holds : Holds (take first ps ++ p ∷ drop last ps) first a n
  joined_holds = placed_holds ps first last a n p (omega arith) (omega arith) (omega (arith, joined_length))

-- what a write of the new piece and the removal of the others leave
pub replaced_range : (ps : List Piece) (first last : ℕ) (p : Piece) → first < last → last ≤ length ps
    → take (first + 1) (set ps first p) ++ drop last (set ps first p) ≡ take first ps ++ p ∷ drop last ps
replaced_range ps first last p l b =
    (λ i. take_more_set ps first p (omega arith) i ++ drop-set-lt last ps first p l i) ∙ append_assoc (take first ps) (p ∷ []) (drop last ps)

-- ---- a piece that grows

-- a piece with the same bytes at the same addresses
pub same_rise : (ps : List Piece) (i : ℕ) (old p : Piece) → ArePieces ps → i < length ps → old ≡ get_or ps i old → p.at ≡ old.at → p.bytes.items ≡ old.bytes.items → ArePieces (set ps i p)
same_rise ps i old p h l was at is = put_rises 0 ps i old p h l (at ∙ (λ j. (was j).at)) ((λ j. length (is j)) ∙ (λ j. length (was j).bytes.items))

pub same_bytes : (ps : List Piece) (i : ℕ) (old p : Piece) → ArePieces ps → i < length ps → old ≡ get_or ps i old → p.at ≡ old.at → p.bytes.items ≡ old.bytes.items
    → bytes_in (set ps i p) ≡ bytes_in ps
same_bytes ps i old p h l was at is =
    let one : (q : ℕ) → bytes_in (set ps i p) q ≡ bytes_in ps q =
    λ q. put_over 0 ps i old p (λ q. None) q h l ((λ j. bytes_from (at j) (is j) q) ∙ (λ j. bytes_from (was j).at (was j).bytes.items q)) (λ l. refl) in
    λ j q. one q j

module _ (ps : List Piece) (i a n : ℕ) (old p : Piece)
    (h : ArePieces ps) (within : i < length ps) (pos : 0 < n) (fits : a + n ≤ 2 ^ 64) (after : ArePiecesFrom (a + n) (drop (i + 1) ps))
    (was : old ≡ get_or ps i old) (begin : old.at ≤ a) (reach : a ≤ end old) (short : end old ≤ a + n)
    (at : p.at ≡ old.at) (is : p.bytes.items ≡ take (a - old.at) old.bytes.items ++ replicate n 0) where
  before : above 0 (take i ps) ≤ a
  before =
      let low : above 0 (take i ps) ≤ old.at = subst (λ (x : Piece). above 0 (take i ps) ≤ x.at) (sym was) (above-take-le 0 ps i old h within) in
      omega arith

  at_last : old ≡ get_or ps (i + 1 - 1) old
  at_last = let e : i ≡ i + 1 - 1 = omega arith in was ∙ (λ j. get_or ps (e j) old)

  begins_there : p.at ≡ min a old.at
  begins_there = omega arith

  nothing_behind : p.bytes.items ≡ take (a - old.at) old.bytes.items ++ replicate n 0 ++ drop (a + n - old.at) old.bytes.items
  nothing_behind = is ∙ sym (append-nil _) ∙ (λ j. take (a - old.at) old.bytes.items ++ replicate n 0 ++ sym (drop_all (a + n - old.at) old.bytes.items (omega arith)) j)

  one_piece : set ps i p ≡ take i ps ++ p ∷ drop (i + 1) ps
  one_piece = sym (take-append-drop (i + 1) (set ps i p)) ∙ replaced_range ps i (i + 1) p (omega arith) (omega arith)

  pub grown_rise : ArePieces (set ps i p)
  grown_rise = subst ArePieces (sym one_piece) (joined_rise ps i (i + 1) a n old old p h (omega arith) (omega arith) pos fits before after was at_last reach (omega arith) begins_there nothing_behind)

  pub grown_in : bytes_in (set ps i p) ≡ over (bytes_from a (replicate n 0)) (bytes_in ps)
  grown_in = (λ j. bytes_in (one_piece j)) ∙ joined_in ps i (i + 1) a n old old p h (omega arith) (omega arith) pos fits before after was at_last reach (omega arith) begins_there nothing_behind

  pub grown_holds : Holds (set ps i p) i a n
  grown_holds =
      subst (λ qs. Holds qs i a n) (sym one_piece)
      (joined_holds ps i (i + 1) a n old old p h (omega arith) (omega arith) pos fits before after was at_last reach (omega arith) begins_there nothing_behind)

-- ---- bytes written in place

-- the bytes of a piece after a write of bs from a on
written_bytes : (a q : ℕ) (bs : List ℕ) (old p : Piece) → old.at ≤ a → a + length bs ≤ end old → p.at ≡ old.at
    → p.bytes.items ≡ take (a - old.at) old.bytes.items ++ (bs ++ drop (a - old.at + length bs) old.bytes.items)
    → bytes_from p.at p.bytes.items q ≡ option_or (bytes_from a bs q) (bytes_from old.at old.bytes.items q)
written_bytes a q bs old p l e at is =
    let k = a - old.at in
    let t = take k old.bytes.items in
    let d = drop (k + length bs) old.bytes.items in
    let to_a : old.at + length t ≡ a = omega (arith, length-take-le k old.bytes.items (omega arith)) in
    let to_end : a + length bs ≡ old.at + (k + length bs) = omega arith in
    let x = bytes_from old.at t q in let y = bytes_from a bs q in let w = bytes_from (old.at + (k + length bs)) d q in let z = bytes_from old.at old.bytes.items q in
    let parts : bytes_from p.at p.bytes.items q ≡ option_or x (option_or y w) =
    (λ i. bytes_from (at i) (is i) q) ∙ bytes_append old.at t (bs ++ d) q ∙ (λ i. option_or x (bytes_from (to_a i) (bs ++ d) q))
    ∙ (λ i. option_or x (bytes_append a bs d q i)) ∙ (λ i. option_or x (option_or y (bytes_from (to_end i) d q))) in
    parts
    ∙ ⊎_elim
    (λ below. sym (or_assoc x y w) ∙ three x y w z (bytes_take old.at k old.bytes.items q (omega arith) (omega arith)) (bytes_before a bs q below) (bytes_before (old.at + (k + length bs)) d q (omega arith)))
    (λ from_a.
    (λ i. option_or (bytes_past old.at t q (omega arith) i) (option_or y w))
    ∙ ⊎_elim
    (λ within. or_some y w z (get_or bs (q - a) 0) (bytes_within a bs q from_a ∙ slice_get-get_or bs (q - a) 0 (omega arith)))
    (λ from_end. λ i. option_or y (bytes_drop old.at (k + length bs) old.bytes.items q (omega arith) i))
    (cases_lt q (a + length bs)))
    (cases_lt q a)

module _ (ps : List Piece) (k a : ℕ) (bs : List ℕ) (old p : Piece) (h : ArePieces ps) (holds : Holds ps k a (length bs)) (was : old ≡ get_or ps k old)
    (at : p.at ≡ old.at) (is : p.bytes.items ≡ take (a - old.at) old.bytes.items ++ (bs ++ drop (a - old.at + length bs) old.bytes.items)) where
  begins : old.at ≤ a
  begins = subst (λ (x : Piece). x.at ≤ a) (sym was) (holds.1 old)

  ends : a + length bs ≤ end old
  ends = subst (λ (x : Piece). a + length bs ≤ end x) (sym was) (holds.2 old)

  same_length : length p.bytes.items ≡ length old.bytes.items
  same_length =
      omega (
        arith,
        begins,
        ends,
        ap length is,
        length-append (take (a - old.at) old.bytes.items) (bs ++ drop (a - old.at + length bs) old.bytes.items),
        length-append bs (drop (a - old.at + length bs) old.bytes.items),
        length-take (a - old.at) old.bytes.items,
        length-drop (a - old.at + length bs) old.bytes.items,
      )

  pub written_rise : ArePieces (set ps k p)
  written_rise = put_rises 0 ps k old p h holds.0 (at ∙ (λ i. (was i).at)) (same_length ∙ (λ i. length (was i).bytes.items))

  pub written : bytes_in (set ps k p) ≡ over (bytes_from a bs) (bytes_in ps)
  written =
      let one : (q : ℕ) → bytes_in (set ps k p) q ≡ over (bytes_from a bs) (bytes_in ps) q =
      λ q. put_over 0 ps k old p (bytes_from a bs) q h holds.0
      (written_bytes a q bs old p begins ends at is ∙ (λ i. option_or (bytes_from a bs q) (bytes_from (was i).at (was i).bytes.items q)))
      (λ l. bytes_before a bs q (omega (arith, holds.1 old))) in
      λ i q. one q i

  pub written_holds : Holds (set ps k p) k a (length bs)
  written_holds =
      let put : (d : Piece) → p ≡ get_or (set ps k p) k d = λ d. sym (get_or-set_same ps k p d holds.0) in
      (omega (arith, holds.0, length-set ps k p), λ d. subst (λ (x : Piece). x.at ≤ a) (put d) (omega (arith, begins)), λ d. subst (λ (x : Piece). a + length bs ≤ end x) (put d) (omega (arith, ends, same_length)))

-- ---- one byte, and a number of bytes

one_over : (o : Option ℕ) (b : ℕ) (t : Bool) (c : Option ℕ) → (t ≡ true → is_some o ≡ true) → c ≡ cond t (Some b) None → option_or c o ≡ cond t (option_map (λ _. b) o) o
one_over None b true c h e = absurd (let f = h refl in cc)
one_over (Some x) b true c h e = λ i. option_or (e i) (Some x)
one_over o b false c h e = λ i. option_or (e i) o

-- a byte over those that are present is a byte put among them
pub put_byte-over : (m : Bytes) (a b : ℕ) → is_some (m a) ≡ true → over (bytes_from a (b ∷ [])) m ≡ put_byte m a b
put_byte-over m a b h =
    let one : (q : ℕ) → bytes_from a (b ∷ []) q ≡ cond (eqb q a) (Some b) None = λ q. bytes_more a b [] q ∙ (λ i. cond (eqb q a) (Some b) (bytes_none (suc a) q i)) in
    let at : (q : ℕ) → over (bytes_from a (b ∷ [])) m q ≡ put_byte m a b q =
    λ q. one_over (m q) b (eqb q a) (bytes_from a (b ∷ []) q) (λ t. let e : q ≡ a = eqb-true q a t in ap (λ x. is_some (m x)) e ∙ h) (one q) in
    λ i q. at q i

kept : (o : Option ℕ) (b : ℕ) (t : Bool) → (t ≡ true → o ≡ None) → o ≡ cond t (option_map (λ _. b) o) o
kept o b false h = refl
kept None b true h = refl
kept (Some x) b true h = absurd (let f = h refl in cc)

pub put_byte-absent : (m : Bytes) (a b : ℕ) → m a ≡ None → put_byte m a b ≡ m
put_byte-absent m a b h =
    let at : (q : ℕ) → m q ≡ put_byte m a b q = λ q. kept (m q) b (eqb q a) (λ t. let e : q ≡ a = eqb-true q a t in ap m e ∙ h) in
    λ i q. sym (at q) i

-- bytes over zeros at the same addresses hide them
pub over-over : (x z m : Bytes) → ((q : ℕ) → is_some (x q) ≡ is_some (z q)) → over x (over z m) ≡ over x m
over-over x z m h = let at : (q : ℕ) → over x (over z m) q ≡ over x m q = λ q. hidden (x q) (z q) (m q) (h q) in λ i q. at q i
  where
    hidden : (x z m : Option ℕ) → is_some x ≡ is_some z → option_or x (option_or z m) ≡ option_or x m
    hidden (Some b) z m e = refl
    hidden None None m e = refl
    hidden None (Some b) m e = absurd (cc)

some_from : (a : ℕ) (xs ys : List ℕ) (q : ℕ) → length xs ≡ length ys → is_some (bytes_from a xs q) ≡ is_some (bytes_from a ys q)
some_from a [] [] q e = refl
some_from a [] (y ∷ ys) q e = absurd (omega arith)
some_from a (x ∷ xs) [] q e = absurd (omega arith)
some_from a (x ∷ xs) (y ∷ ys) q e =
    (λ i. is_some (bytes_more a x xs q i)) ∙ either (eqb q a) x y (bytes_from (suc a) xs q) (bytes_from (suc a) ys q) (some_from (suc a) xs ys q (omega arith))
    ∙ (λ i. is_some (sym (bytes_more a y ys q) i))
  where
    either : (t : Bool) (x y : ℕ) (o p : Option ℕ) → is_some o ≡ is_some p → is_some (cond t (Some x) o) ≡ is_some (cond t (Some y) p)
    either true x y o p e = refl
    either false x y o p e = e

pub over_zeros : (a n : ℕ) (bs : List ℕ) (m : Bytes) → length bs ≡ n → over (bytes_from a bs) (over (bytes_from a (replicate n 0)) m) ≡ over (bytes_from a bs) m
over_zeros a n bs m e = over-over (bytes_from a bs) (bytes_from a (replicate n 0)) m (λ q. some_from a bs (replicate n 0) q (e ∙ sym (length-replicate n 0)))

-- a piece has the byte at an address, or not
pub held_some : (p : Piece) (a : ℕ) → p.at ≤ a → a + 1 ≤ end p → is_some (bytes_from p.at p.bytes.items a) ≡ true
held_some p a l e = ap is_some (bytes_within p.at p.bytes.items a l ∙ slice_get-get_or p.bytes.items (a - p.at) 0 (omega arith))

pub unheld_none : (p : Piece) (a : ℕ) → (p.at ≤ a → a + 1 ≤ end p → ⊥) → bytes_from p.at p.bytes.items a ≡ None
unheld_none p a h =
    ⊎_elim
    (λ below. bytes_before p.at p.bytes.items a below)
    (λ le. ⊎_elim (λ lt. absurd (h le (omega arith))) (λ past. bytes_past p.at p.bytes.items a past) (cases_lt a (end p)))
    (cases_lt a p.at)

-- ---- a number of bytes from an address on

pub inside-more : (n : ℕ) (m : Bytes) (a : ℕ) → 0 < n → inside n m a ≡ (is_some (m a) && inside (n - 1) m ((a + 1) % 2 ^ 64))
inside-more zero m a h = absurd (omega arith)
inside-more (suc n) m a h = let e : n ≡ suc n - 1 = omega arith in λ i. is_some (m a) && inside (e i) m (after a)

pub inside-none : (n : ℕ) (m : Bytes) (a : ℕ) → n ≡ 0 → inside n m a ≡ true
inside-none n m a e = λ i. inside (e i) m a

pub store-more : (n : ℕ) (m : Bytes) (a v : ℕ) → 0 < n → store n m a v ≡ put_byte (store (n - 1) m ((a + 1) % 2 ^ 64) (v / 256)) a (v % 256)
store-more zero m a v h = absurd (omega arith)
store-more (suc n) m a v h = let e : n ≡ suc n - 1 = omega arith in λ i. put_byte (store (e i) m (after a) (v / 256)) a (v % 256)

pub store-none : (n : ℕ) (m : Bytes) (a v : ℕ) → n ≡ 0 → store n m a v ≡ m
store-none n m a v e = λ i. store (e i) m a v

-- ---- copies

-- a piece's address and bytes, without their place in memory
abbrev pub block_of : Piece → ℕ × List ℕ
block_of p = (p.at, p.bytes.items)

abbrev bytes_in_blocks : List (ℕ × List ℕ) → Bytes
bytes_in_blocks [] = λ q. None
bytes_in_blocks (b ∷ bs) = over (bytes_from b.0 b.1) (bytes_in_blocks bs)

abbrev BlocksFrom : ℕ → List (ℕ × List ℕ) → Type 0
BlocksFrom least [] = Unit {0}
BlocksFrom least (b ∷ bs) = (least ≤ b.0) × (0 < length b.1) × (b.0 + length b.1 ≤ 2 ^ 64) × BlocksFrom (b.0 + length b.1) bs

of_blocks : (ps : List Piece) → bytes_in ps ≡ bytes_in_blocks (map block_of ps)
of_blocks [] = refl
of_blocks (p ∷ ps) = λ i. over (bytes_from p.at p.bytes.items) (of_blocks ps i)

pub copied_bytes : (ps qs : List Piece) → map block_of ps ≡ map block_of qs → bytes_in ps ≡ bytes_in qs
copied_bytes ps qs e = of_blocks ps ∙ (λ i. bytes_in_blocks (e i)) ∙ sym (of_blocks qs)

to_blocks : (least : ℕ) (ps : List Piece) → ArePiecesFrom least ps → BlocksFrom least (map block_of ps)
to_blocks least [] h = tt
to_blocks least (p ∷ ps) h = (h.0, h.1, h.2, to_blocks (end p) ps h.3)

from_blocks : (least : ℕ) (ps : List Piece) → BlocksFrom least (map block_of ps) → ArePiecesFrom least ps
from_blocks least [] h = tt
from_blocks least (p ∷ ps) h = (h.0, h.1, h.2, from_blocks (end p) ps h.3)

pub copied_rise : (ps qs : List Piece) → map block_of ps ≡ map block_of qs → ArePieces qs → ArePieces ps
copied_rise ps qs e h = from_blocks 0 ps (subst (λ bs. BlocksFrom 0 bs) (sym e) (to_blocks 0 qs h))

-- a byte in front of a number of n - 1 bytes
pub load_fits : (n high low : ℕ) → 0 < n → n ≤ 8 → high < 256 ^ (n - 1) → low < 256 → (256 * high + 256 ≤ 2 ^ 64) × (low + 256 * high < 256 ^ n)
load_fits n high low pos few h l =
    let e : 256 ^ n ≡ 256 * 256 ^ (n - 1) = (let s : n ≡ suc (n - 1) = omega arith in (λ i. 256 ^ s i) ∙ pow-succ' 256 (n - 1)) in
    let most : 256 ^ n ≤ 2 ^ 64 = pow-le-pow_right {n = 256} (omega arith) few in
    (omega arith, omega arith)

-- the number that the bytes from the i-th on make
pub record IsNumberFrom (bs : List ℕ) (i n : ℕ) : Type 0 where
  pub is : n ≡ number_of (drop i bs)
  pub small : n < 256 ^ (length bs - i)
  pub within : i ≤ length bs

pub number-none : (bs : List ℕ) → IsNumberFrom bs (length bs) 0
number-none bs = record {
  is = sym (ap number_of (drop_all (length bs) bs (omega arith)));
  small = (let z : length bs - length bs ≡ 0 = omega arith in subst (λ k. 0 < 256 ^ k) (sym z) (omega arith));
  within = omega arith;
}

-- .. with the byte in front of them
pub number-more : (bs : List ℕ) (i n b : ℕ) → length bs ≤ 8 → 0 < i → IsNumberFrom bs i n → b ≡ get_or bs (i - 1) 0 → Fits w8 b
    → (256 * n + 256 ≤ 2 ^ 64) × IsNumberFrom bs (i - 1) (256 * n + b)
number-more bs i n b few pos h e low =
    let within = h.within in
    let one : length bs - (i - 1) - 1 ≡ length bs - i = omega arith in
    let fits = load_fits (length bs - (i - 1)) n b (omega arith) (omega arith) (subst (λ k. n < 256 ^ k) (sym one) h.small) (omega (arith, low)) in
    let next : i - 1 + 1 ≡ i = omega arith in
    let split : drop (i - 1) bs ≡ b ∷ drop i bs = drop_more bs (i - 1) 0 (omega arith) ∙ (λ j. sym e j ∷ drop (next j) bs) in
    let turned : 256 * n + b ≡ b + 256 * n = omega arith in (
      fits.0,
      record {
        is = turned ∙ (λ j. b + 256 * h.is j) ∙ sym (ap number_of split);
        small = subst (λ k. k < 256 ^ (length bs - (i - 1))) (sym turned) fits.1;
        within = omega arith;
      },
    )
