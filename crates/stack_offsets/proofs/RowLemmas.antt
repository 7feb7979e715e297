-- Rows, and what remains to be lost.
use Rattle.std.proofs.Common.{◌≡◌, ℕ, ◌<◌, ◌≢◌, Bool, true, false, cond, eqb, eqb-true, List, Option, Some, None, length, get_or, replicate, inl, inr, refl, sym, ap, ◌∙◌, arith, count_by, get_or-set_same, get_or-set_other, is_some}
use Rattle.std.proofs.Math.ListN.{set, get_or-eq_default, length-set}
use Rattle.std.proofs.lemmas.List.{get_or-replicate, length-replicate}
use Rattle.std.proofs.lemmas.List.Sums.{sum_by-set, count_by-le-length}
use Rattle.std.proofs.lemmas.Bool.Decides.{eqb_tells, leb_tells}
use Rattle.stack_offsets.specs.declared.row.Row.{Row}
use Rattle.stack_offsets.specs.Offsets.{Offsets, entry_offsets}
use Rattle.stack_offsets.specs.inner.Rows.{Lowers, both_same, lowered, offsets_of, row_of, total, weight}

abbrev none_yet : Option ℕ
none_yet = None

no_offset : (n r : ℕ) → get_or (replicate n none_yet) r None ≡ None
no_offset n r = elim (leb_tells n r) [
  | inl t ↦ get_or-eq_default (replicate n none_yet) None {n = r} (let l = length-replicate n none_yet in omega (arith, t.1))
  | inr t ↦ get_or-replicate n r none_yet None t.1
]

pub entry_row : (r : ℕ) → get_or (set (replicate 32 none_yet) 2 (Some 0)) r None ≡ entry_offsets r
entry_row r = elim (eqb_tells r 2) [
  | inl t ↦ ap (λ z. get_or (set (replicate 32 none_yet) 2 (Some 0)) z None) t.1 ∙ sym (λ i. cond (t.0 i) (Some 0) None)
  | inr t ↦ get_or-set_other (replicate 32 none_yet) 2 r (Some 0) None t.1 ∙ no_offset 32 r ∙ sym (λ i. cond (t.0 i) (Some 0) None)
]

-- what both have, each has
pub both_some : (x y : Option ℕ) (c : ℕ) → both_same x y ≡ Some c → (x ≡ Some c) × (y ≡ Some c)
both_some None y c h = absurd (cc)
both_some (Some a) None c h = absurd (cc)
both_some (Some a) (Some b) c h = go (eqb a b) refl h
  where
    go : (t : Bool) → eqb a b ≡ t → cond t (Some a) None ≡ Some c → (Some a ≡ Some c) × (Some b ≡ Some c)
    go true e k = (k, ap Some (sym (eqb-true a b e)) ∙ k)
    go false e k = absurd (cc)

pub some_both : (x y : Option ℕ) (c : ℕ) → x ≡ Some c → y ≡ Some c → both_same x y ≡ Some c
some_both x y c p q = (λ i. both_same (p i) (q i)) ∙ (λ i. cond (same i) (Some c) None)
  where
    same : eqb c c ≡ true
    same = elim (eqb_tells c c) [ inl t ↦ t.0 | inr t ↦ absurd (t.1 refl) ]

-- ---- a row in the table is replaced

pub row_same : (rows : List (Option Row)) (v : ℕ) (row : Option Row) → v < length rows → row_of (set rows v row) v ≡ row
row_same rows v row l = get_or-set_same rows v row None l

pub row_other : (rows : List (Option Row)) (v n : ℕ) (row : Option Row) → n ≢ v → row_of (set rows v row) n ≡ row_of rows n
row_other rows v n row d = get_or-set_other rows v n row None d

total_less : (rows : List (Option Row)) (v : ℕ) (row : Option Row) → v < length rows → weight row < weight (row_of rows v) → total (set rows v row) < total rows
total_less rows v row l less =
    let e = sum_by-set weight rows v row None l in
    omega (arith, e, less)

-- the first walk to a node
pub lowers_first : (rows : List (Option Row)) (v : ℕ) (row : Row) → v < length rows → row_of rows v ≡ None → length row.offsets ≡ 32 → Lowers rows v (offsets_of row) (set rows v (Some row)) true
lowers_first rows v row l none few = record {
  as_long = length-set rows v (Some row);
  others = λ n d. row_other rows v n (Some row) d;
  row = row;
  here = row_same rows v (Some row) l;
  is = λ r. sym (λ i. lowered (none i) (offsets_of row) r);
  same = λ e. absurd (cc);
  less = λ e. (let n = count_by-le-length is_some row.offsets in let w : weight (row_of rows v) ≡ 33 = ap weight none in total_less rows v (Some row) l (omega (arith, n, w, few)));
}

-- a further walk, by which offsets are lost
pub lowers_more : (rows : List (Option Row)) (v : ℕ) (old row : Row) (from : Offsets) → v < length rows → row_of rows v ≡ Some old → ((r : ℕ) → offsets_of row r ≡ both_same (offsets_of old r) (from r))
    → count_by is_some row.offsets < count_by is_some old.offsets → Lowers rows v from (set rows v (Some row)) true
lowers_more rows v old row from l some kept less = record {
  as_long = length-set rows v (Some row);
  others = λ n d. row_other rows v n (Some row) d;
  row = row;
  here = row_same rows v (Some row) l;
  is = λ r. kept r ∙ sym (λ i. lowered (some i) from r);
  same = λ e. absurd (cc);
  less = λ e. (let w : weight (row_of rows v) ≡ count_by is_some old.offsets = ap weight some in total_less rows v (Some row) l (omega (arith, less, w)));
}

-- .. and by which none is
pub lowers_none : (rows : List (Option Row)) (v : ℕ) (old : Row) (from : Offsets) → row_of rows v ≡ Some old → ((r : ℕ) → offsets_of old r ≡ both_same (offsets_of old r) (from r)) → Lowers rows v from rows false
lowers_none rows v old from some kept = record {
  as_long = refl;
  others = λ n d. refl;
  row = old;
  here = some;
  is = λ r. kept r ∙ sym (λ i. lowered (some i) from r);
  same = λ e. refl;
  less = λ e. absurd (cc);
}
