-- Ranges joined one after the other.
use Rattle.std.proofs.Common.{◌≡◌, ℕ, zero, suc, ◌+◌, ◌-◌, ◌^◌, ◌<◌, ◌≤◌, Option, Some, None, List, [], ◌∷◌, ◌++◌, length, get_or, take, drop, refl, sym, ◌∙◌, ap, subst, arith, ⊎_elim, length-append, length-drop}
use Rattle.std.specs.Prelude.{All}
use Rattle.std.specs.Option.{option_or}
use Rattle.std.proofs.lemmas.Bool.{cases_lt}
use Rattle.std.proofs.lemmas.List.{take_all, take_more, take-append-drop}
use Rattle.std.proofs.lemmas.List.Elements.{All-push, All-pop}
use Rattle.std.proofs.lemmas.Option.{slice_get-get_or}
use Rattle.rv_words.proofs.PieceLemmas.{or_assoc, bytes_append, bytes_before, bytes_within, bytes_drop}
use Rattle.rv_words.specs.Bytes.{Bytes, bytes_from, over}
use Rattle.rv_words.specs.Ranges.{AreRanges, AreRangesFrom}
use Rattle.rv_words.specs.declared.range.Range.{Range}
use Rattle.rv_words.specs.Ranges.{range_bytes}
use Rattle.sep_assert.specs.Code.{Agree}
use Rattle.sep_assert.specs.inner.Code.{BeginsBy, BeginsFirst, IsRange, Joins}
use Rattle.sep_assert.proofs.CodeLemmas.{over_none}

-- ---- bytes

pub over-assoc : (x y z : Bytes) → over (over x y) z ≡ over x (over y z)
over-assoc x y z = λ i a. or_assoc (x a) (y a) (z a) i

pub range_bytes-append : (xs ys : List Range) → range_bytes (xs ++ ys) ≡ over (range_bytes xs) (range_bytes ys)
range_bytes-append [] ys = refl
range_bytes-append (x ∷ xs) ys = (λ i. over (bytes_from x.at x.bytes) (range_bytes-append xs ys i)) ∙ sym (over-assoc (bytes_from x.at x.bytes) (range_bytes xs) (range_bytes ys))

pub range_bytes-push : (xs : List Range) (x : Range) → range_bytes (xs ++ x ∷ []) ≡ over (range_bytes xs) (bytes_from x.at x.bytes)
range_bytes-push xs x = range_bytes-append xs (x ∷ []) ∙ (λ i. over (range_bytes xs) (over_none (bytes_from x.at x.bytes) i))

-- the bytes of the first i + 1 ranges
pub range_bytes-more : (xs : List Range) (i : ℕ) (x : Range) → i < length xs → x ≡ get_or xs i x → range_bytes (take (i + 1) xs) ≡ over (range_bytes (take i xs)) (bytes_from x.at x.bytes)
range_bytes-more xs i x lt is = ap range_bytes (take_more xs i x lt ∙ (λ k. take i xs ++ sym is k ∷ [])) ∙ range_bytes-push (take i xs) x

-- a byte of the first ranges is a byte of all
pub range_bytes-front : (xs : List Range) (i a b : ℕ) → range_bytes (take i xs) a ≡ Some b → range_bytes xs a ≡ Some b
range_bytes-front xs i a b e =
    ap (λ rs. range_bytes rs a) (sym (take-append-drop i xs)) ∙ (λ k. range_bytes-append (take i xs) (drop i xs) k a) ∙ (λ k. option_or (e k) (range_bytes (drop i xs) a))

or-exchange : (x y z : Option ℕ) → ((b c : ℕ) → x ≡ None → z ≡ Some b → y ≡ Some c → b ≡ c) → option_or (option_or x y) z ≡ option_or (option_or x z) y
or-exchange (Some b) y z same = refl
or-exchange None None None same = refl
or-exchange None None (Some b) same = refl
or-exchange None (Some c) None same = refl
or-exchange None (Some c) (Some b) same = ap Some (sym (same b c refl refl refl))

-- A range of xs goes over those of ys where both agree.
pub exchanged : (xs ys : List Range) (i j : ℕ) (x : Range) → i < length xs → x ≡ get_or xs i x → Agree (range_bytes xs) (range_bytes ys)
    → over (over (range_bytes (take i xs)) (range_bytes (take j ys))) (bytes_from x.at x.bytes) ≡ over (range_bytes (take (i + 1) xs)) (range_bytes (take j ys))
exchanged xs ys i j x lt is agree =
    let at : (a : ℕ) → option_or (option_or (range_bytes (take i xs) a) (range_bytes (take j ys) a)) (bytes_from x.at x.bytes a)
    ≡ option_or (option_or (range_bytes (take i xs) a) (bytes_from x.at x.bytes a)) (range_bytes (take j ys) a) =
    λ a. or-exchange (range_bytes (take i xs) a) (range_bytes (take j ys) a) (bytes_from x.at x.bytes a) (λ b c none has other.
    agree a b c
    (range_bytes-front xs (i + 1) a b ((λ k. range_bytes-more xs i x lt is k a) ∙ (λ k. option_or (none k) (bytes_from x.at x.bytes a)) ∙ has))
    (range_bytes-front ys j a c other)) in
    (λ k a. at a k) ∙ (λ k. over (sym (range_bytes-more xs i x lt is) k) (range_bytes (take j ys)))

or-some : (x y z : Option ℕ) (b : ℕ) → x ≡ Some b → option_or x y ≡ option_or x z
or-some x y z b e = (λ i. option_or (e i) y) ∙ (λ i. option_or (sym e i) z)

-- a range with those bytes behind it of another one, which begins in it or right behind it
pub lengthened-bytes : (a b : ℕ) (xs ys : List ℕ) → a ≤ b → b ≤ a + length xs
    → bytes_from a (xs ++ drop (a + length xs - b) ys) ≡ over (bytes_from a xs) (bytes_from b ys)
lengthened-bytes a b xs ys order touch =
    let known = a + length xs - b in
    let seam : a + length xs ≡ b + known = omega arith in
    let at : (q : ℕ) → option_or (bytes_from a xs q) (bytes_from (a + length xs) (drop known ys) q) ≡ option_or (bytes_from a xs q) (bytes_from b ys q) =
    λ q. ⊎_elim
    (λ (low : q < a).
    (λ i. option_or (bytes_from a xs q) (bytes_before (a + length xs) (drop known ys) q (omega arith) i))
    ∙ (λ i. option_or (bytes_from a xs q) (sym (bytes_before b ys q (omega arith)) i)))
    (λ (high : a ≤ q). ⊎_elim
    (λ (within : q < a + length xs).
    or-some _ _ _ (get_or xs (q - a) 0) (bytes_within a xs q high ∙ slice_get-get_or xs (q - a) 0 (omega arith)))
    (λ (past : a + length xs ≤ q).
    (λ i. option_or (bytes_from a xs q) (bytes_from (seam i) (drop known ys) q))
    ∙ (λ i. option_or (bytes_from a xs q) (bytes_drop b known ys q (omega arith) i)))
    (cases_lt q (a + length xs)))
    (cases_lt q a) in
    (λ i q. bytes_append a xs (drop known ys) q i) ∙ (λ i q. at q i)

-- ---- ranges

-- where the next range may begin
abbrev next : ℕ → List Range → ℕ
next least [] = least
next least (r ∷ rs) = next (r.at + length r.bytes + 1) rs

next-push : (least : ℕ) (rs : List Range) (r : Range) → next least (rs ++ r ∷ []) ≡ r.at + length r.bytes + 1
next-push least [] r = refl
next-push least (x ∷ rs) r = next-push (x.at + length x.bytes + 1) rs r

ranges-push : (least : ℕ) (rs : List Range) (r : Range) → AreRangesFrom least rs → next least rs ≤ r.at → IsRange r → AreRangesFrom least (rs ++ r ∷ [])
ranges-push least [] r are above is = (above, is.0, is.1, tt)
ranges-push least (x ∷ rs) r are above is = (are.0, are.1, are.2, ranges-push (x.at + length x.bytes + 1) rs r are.3 above is)

ranges-front : (least : ℕ) (rs : List Range) (r : Range) → AreRangesFrom least (rs ++ r ∷ []) → AreRangesFrom least rs × (next least rs ≤ r.at) × IsRange r
ranges-front least [] r are = (tt, are.0, (are.1, are.2))
ranges-front least (x ∷ rs) r are =
    let rest = ranges-front (x.at + length x.bytes + 1) rs r are.3 in
    ((are.0, are.1, are.2, rest.0), rest.1, rest.2)

range-at : (least : ℕ) (rs : List Range) (i : ℕ) (d : Range) → AreRangesFrom least rs → i < length rs → IsRange (get_or rs i d) × (least ≤ (get_or rs i d).at)
range-at least [] i d are lt = absurd (omega arith)
range-at least (r ∷ rs) zero d are lt = ((are.1, are.2), are.0)
range-at least (r ∷ rs) (suc i) d are lt =
    let rest = range-at (r.at + length r.bytes + 1) rs i d are.3 (omega arith) in
    (rest.0, omega (arith, rest.1, are.0))

-- each item of a list of ranges is a range
pub is_range-at : (rs : List Range) (i : ℕ) (r : Range) → AreRanges rs → i < length rs → r ≡ get_or rs i r → IsRange r
is_range-at rs i r are lt is = subst IsRange (sym is) (range-at 0 rs i r are lt).0

rises-from : (least : ℕ) (rs : List Range) (i : ℕ) (d e : Range) → AreRangesFrom least rs → i + 1 < length rs → (get_or rs i d).at ≤ (get_or rs (suc i) e).at
rises-from least [] i d e are lt = absurd (omega arith)
rises-from least (r ∷ rs) zero d e are lt = let rest = range-at (r.at + length r.bytes + 1) rs 0 e are.3 (omega arith) in omega (arith, rest.1)
rises-from least (r ∷ rs) (suc i) d e are lt = rises-from (r.at + length r.bytes + 1) rs i d e are.3 (omega arith)

-- the next range begins above
pub rises : (rs : List Range) (i : ℕ) (d e : Range) → AreRanges rs → i + 1 < length rs → (get_or rs i d).at ≤ (get_or rs (i + 1) e).at
rises rs i d e are lt = let more : suc i ≡ i + 1 = omega arith in subst (λ k. (get_or rs i d).at ≤ (get_or rs k e).at) more (rises-from 0 rs i d e are lt)

-- ranges that begin by an address begin by a later one
pub begin-by : (a b : ℕ) (rs : List Range) → a ≤ b → All (BeginsBy a) rs → All (BeginsBy b) rs
begin-by a b rs le all k d lt = let h : (get_or rs k d).at ≤ a = all k d lt in omega (arith, h)

-- ---- one range more

-- the first range
pub joins-none : (old new : List Range) (r : Range) → IsRange r → old ≡ [] → new ≡ old ++ r ∷ [] → Joins old r new
joins-none old new r is none same =
    let alone : new ≡ r ∷ [] = same ∙ (λ i. none i ++ r ∷ []) in
    record {
      ranges = subst AreRanges (sym alone) (omega arith, is.0, is.1, tt);
      order = subst (All (BeginsBy r.at)) (sym alone) (All-push (BeginsBy r.at) [] r (λ k d lt. absurd (omega arith)) (omega arith));
      bytes = ap range_bytes same ∙ range_bytes-push old r;
    }

module _ (kept old new : List Range) (last r : Range) (are : AreRanges old) (is : IsRange r) (order : All (BeginsBy r.at) old) (popped : old ≡ kept ++ last ∷ []) where
  were : AreRanges (kept ++ last ∷ [])
  were = subst AreRanges popped are

  begin : All (BeginsBy r.at) kept × (last.at ≤ r.at)
  begin = All-pop (BeginsBy r.at) old kept (Some last) popped order

  before : last.at ≤ r.at
  before = begin.1

  -- a range that doesn't touch the last one
  pub joins-apart : length last.bytes < r.at - last.at → new ≡ old ++ r ∷ [] → Joins old r new
  joins-apart far same = record {
    ranges = subst AreRanges (sym (same ∙ (λ i. popped i ++ r ∷ []))) (ranges-push 0 (kept ++ last ∷ []) r were (omega (arith, next-push 0 kept last)) is);
    order = subst (All (BeginsBy r.at)) (sym same) (All-push (BeginsBy r.at) old r order (omega arith));
    bytes = ap range_bytes same ∙ range_bytes-push old r;
  }

  -- a range that touches the last one, which becomes longer
  module _ (longer : Range) (near : r.at - last.at ≤ length last.bytes) (at : longer.at ≡ last.at) (bytes : longer.bytes ≡ last.bytes ++ drop (last.at + length last.bytes - r.at) r.bytes) where
    long : length longer.bytes ≡ length last.bytes + (length r.bytes - (last.at + length last.bytes - r.at))
    long = ap length bytes ∙ length-append last.bytes _ ∙ ap (λ n. length last.bytes + n) (length-drop (last.at + length last.bytes - r.at) r.bytes)

    are-longer : AreRanges (kept ++ longer ∷ [])
    are-longer =
        let front = ranges-front 0 kept last were in
        let has : 0 < length last.bytes = front.2.0 in
        let end : last.at + length last.bytes ≤ 2 ^ 64 = front.2.1 in
        let more : r.at + length r.bytes ≤ 2 ^ 64 = is.1 in
        ranges-push 0 kept longer front.0 (omega (arith, front.1, at)) (omega (arith, long), omega (arith, long, at, before, near))

    bytes-longer : bytes_from longer.at longer.bytes ≡ over (bytes_from last.at last.bytes) (bytes_from r.at r.bytes)
    bytes-longer = (λ i. bytes_from (at i) (bytes i)) ∙ lengthened-bytes last.at r.at last.bytes r.bytes before (omega (arith, near, before))

    pub joins-longer : new ≡ kept ++ longer ∷ [] → Joins old r new
    joins-longer same = record {
      ranges = subst AreRanges (sym same) are-longer;
      order = subst (All (BeginsBy r.at)) (sym same)
          (All-push (BeginsBy r.at) kept longer begin.0 (omega (arith, at, before)));
      bytes =
          ap range_bytes same ∙ range_bytes-push kept longer ∙ (λ i. over (range_bytes kept) (bytes-longer i))
          ∙ sym (over-assoc (range_bytes kept) (bytes_from last.at last.bytes) (bytes_from r.at r.bytes))
          ∙ (λ i. over (sym (ap range_bytes popped ∙ range_bytes-push kept last) i) (bytes_from r.at r.bytes));
    }

-- ---- the ranges of two codes

-- ranges with the bytes of the first i ranges of a and the first j of b, none of which begins behind the next one
pub record Merged (a b : List Range) (i j : ℕ) (ranges : List Range) : Type 0 where
  pub first : i ≤ length a
  pub second : j ≤ length b
  pub are : AreRanges ranges
  pub bytes : range_bytes ranges ≡ over (range_bytes (take i a)) (range_bytes (take j b))
  pub next_first : (d : Range) → i < length a → All (BeginsBy (get_or a i d).at) ranges
  pub next_second : (d : Range) → j < length b → All (BeginsBy (get_or b j d).at) ranges

module _ (a b : List Range) (i j : ℕ) (ranges new : List Range) (x : Range) (so_far : Merged a b i j ranges) (joins : Joins ranges x new) where
  pub merged-first : AreRanges a → Agree (range_bytes a) (range_bytes b) → x ≡ get_or a i x → BeginsFirst a i b j → Merged a b (i + 1) j new
  merged-first are agree is begins = record {
    first = omega (arith, begins.within);
    second = so_far.second;
    are = joins.ranges;
    bytes = joins.bytes ∙ (λ k. over (so_far.bytes k) (bytes_from x.at x.bytes)) ∙ exchanged a b i j x begins.within is agree;
    next_first = λ d lt. begin-by x.at (get_or a (i + 1) d).at new (omega (arith, rises a i x d are lt, ap (λ (r : Range). r.at) is)) joins.order;
    next_second = λ d lt. begin-by x.at (get_or b j d).at new (omega (arith, begins.first x d lt, ap (λ (r : Range). r.at) is)) joins.order;
  }

  pub merged-second : AreRanges b → x ≡ get_or b j x → BeginsFirst b j a i → Merged a b i (j + 1) new
  merged-second are is begins = record {
    first = so_far.first;
    second = omega (arith, begins.within);
    are = joins.ranges;
    bytes =
        joins.bytes ∙ (λ k. over (so_far.bytes k) (bytes_from x.at x.bytes))
        ∙ over-assoc (range_bytes (take i a)) (range_bytes (take j b)) (bytes_from x.at x.bytes)
        ∙ (λ k. over (range_bytes (take i a)) (sym (range_bytes-more b j x begins.within is) k));
    next_first = λ d lt. begin-by x.at (get_or a i d).at new (omega (arith, begins.first x d lt, ap (λ (r : Range). r.at) is)) joins.order;
    next_second = λ d lt. begin-by x.at (get_or b (j + 1) d).at new (omega (arith, rises b j x d are lt, ap (λ (r : Range). r.at) is)) joins.order;
  }

-- all of both
pub merged-all : (a b : List Range) (i j : ℕ) (ranges : List Range) → Merged a b i j ranges → length a ≤ i → length b ≤ j → range_bytes ranges ≡ over (range_bytes a) (range_bytes b)
merged-all a b i j ranges merged le ge = merged.bytes ∙ (λ k. over (range_bytes (take_all i a le k)) (range_bytes (take_all j b ge k)))
