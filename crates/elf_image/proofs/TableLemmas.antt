-- The table of program headers, one header after the other.
use Rattle.std.proofs.Common.{◌≡◌, ℕ, zero, suc, ◌+◌, ◌-◌, ◌^◌, ◌<◌, ◌≤◌, min, Option, Some, None, List, [], ◌∷◌, map, length, get_or, nat_lt, refl, sym, ◌∙◌, ⊎_elim, zero-add, arith}
use Rattle.std.specs.Option.{option_or}
use Rattle.std.specs.List.{range_with_len}
use Rattle.std.proofs.lemmas.Bool.{lt-ltb, le-ltb, cond-true, cond-false, cases_lt}
use Rattle.std.proofs.lemmas.Option.{none-some}
use Rattle.std.proofs.lemmas.List.FromFn.{get_or-range_with_len, length-range_with_len}
use Rattle.elf_image.specs.declared.fault.ElfFault.{ElfFault}
use Rattle.elf_image.specs.declared.fault.ElfFault.TheVariants.{Cut}
use Rattle.elf_image.specs.Header.{header_place, section_place}
use Rattle.elf_image.specs.Fault.{first, cut_at}
use Rattle.elf_image.specs.inner.Faults.{cut_header, cut_section}

pub both : (x y : Option ElfFault) → option_or x y ≡ None → (x ≡ None) × (y ≡ None)
both None y e = (refl, e)
both (Some f) y e = absurd (cc)

-- the first fault from i on is that of i, or else the first one after it
pub first_more : (f : ℕ → Option ElfFault) (i n : ℕ) → i < n → first (map f (range_with_len i (n - i))) ≡ option_or (f i) (first (map f (range_with_len (i + 1) (n - (i + 1)))))
first_more f i n l = let e : n - i ≡ suc (n - (i + 1)) = omega arith in λ j. first (map f (range_with_len i (e j)))

pub first_none : (f : ℕ → Option ElfFault) (i n : ℕ) → i < n → f i ≡ None → first (map f (range_with_len i (n - i))) ≡ first (map f (range_with_len (i + 1) (n - (i + 1))))
first_none f i n l e = first_more f i n l ∙ (λ j. option_or (e j) (first (map f (range_with_len (i + 1) (n - (i + 1))))))

pub first_some : (f : ℕ → Option ElfFault) (i n : ℕ) (x : ElfFault) → i < n → f i ≡ Some x → first (map f (range_with_len i (n - i))) ≡ Some x
first_some f i n x l e = first_more f i n l ∙ (λ j. option_or (e j) (first (map f (range_with_len (i + 1) (n - (i + 1))))))

module _ (file : List ℕ) (offset size p : ℕ) (is : p ≡ min offset (2 ^ 64 - 1)) (some : 0 < size) (long : size ≤ length file) (fits : length file < 2 ^ 64) where
  pub cut_some : length file - size < p → cut_at file offset size ≡ Some (Cut p)
  cut_some l =
      let past : length file < offset + size = omega arith in
      cond-true (nat_lt (length file) (offset + size)) _ _ (lt-ltb (length file) (offset + size) past) ∙ (λ j. Some (Cut (sym is j)))

  pub cut_none : p ≤ length file - size → cut_at file offset size ≡ None
  cut_none l =
      let inside : offset + size ≤ length file = omega arith in
      cond-false (nat_lt (length file) (offset + size)) _ _ (le-ltb (length file) (offset + size) inside)

-- where none of them has a fault, each has none
pub none_at : {X : Type 0} (f : X → Option ElfFault) (xs : List X) (i : ℕ) (d : X) → first (map f xs) ≡ None → i < length xs → f (get_or xs i d) ≡ None
none_at f [] i d e l = absurd (omega arith)
none_at f (x ∷ xs) zero d e l = (both (f x) (first (map f xs)) e).0
none_at f (x ∷ xs) (suc i) d e l = none_at f xs i d (both (f x) (first (map f xs)) e).1 (omega arith)

-- what isn't cut lies in the file
pub uncut : (file : List ℕ) (offset size : ℕ) → cut_at file offset size ≡ None → offset + size ≤ length file
uncut file offset size e =
    ⊎_elim
    (λ past. absurd (none-some (Cut (min offset (2 ^ 64 - 1))) (sym e ∙ cond-true (nat_lt (length file) (offset + size)) _ _ (lt-ltb (length file) (offset + size) past))))
    (λ le. le)
    (cases_lt (length file) (offset + size))

none_of : (f : ℕ → Option ElfFault) (n i : ℕ) → first (map f (range_with_len 0 n)) ≡ None → i < n → f i ≡ None
none_of f n i e l =
    let at : get_or (range_with_len 0 n) i 0 ≡ i = get_or-range_with_len 0 n i 0 l ∙ zero-add i in
    (λ j. f (sym at j)) ∙ none_at f (range_with_len 0 n) i 0 e (omega (arith, length-range_with_len 0 n))

pub whole_at : (file : List ℕ) (n i : ℕ) → first (map (cut_header file) (range_with_len 0 n)) ≡ None → i < n → header_place file i + 56 ≤ length file
whole_at file n i e l = uncut file (header_place file i) 56 (none_of (cut_header file) n i e l)

pub section_whole_at : (file : List ℕ) (n i : ℕ) → first (map (cut_section file) (range_with_len 0 n)) ≡ None → i < n → section_place file i + 64 ≤ length file
section_whole_at file n i e l = uncut file (section_place file i) 64 (none_of (cut_section file) n i e l)
