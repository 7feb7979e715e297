-- The symbol table, one entry after the other, and the strings of its names.
use Rattle.std.proofs.Common.{◌≡◌, ℕ, suc, ◌+◌, ◌-◌, ◌<◌, ◌≤◌, ◌==◌, Bool, true, false, cond, not, ◌||◌, Some, List, [], ◌∷◌, ◌++◌, map, get_or, length, take, drop, nat_eq, nat_lt, eqb, refl, sym, ◌∙◌, ⊎_elim, arith}
use Rattle.std.specs.Prelude.{filter, find, take_while, bytes_eq, slice_get, unwrap_or, ◌&&◌}
use Rattle.std.specs.BTreeSet.{insert_key}
use Rattle.std.specs.List.{fold, list_any, range_with_len, starts_with}
use Rattle.std.specs.Ordering.{nat_cmp}
use Rattle.std.proofs.lemmas.Bool.{eq-eqb, eqb-true, lt-ltb, le-ltb, cases_lt}
use Rattle.std.proofs.lemmas.List.{append-nil, take_more, get_or-drop, length-drop}
use Rattle.std.proofs.lemmas.List.Folds.{list_any_at}
use Rattle.std.proofs.lemmas.List.Sums.{take_while-cons}
use Rattle.std.proofs.lemmas.List.FromFn.{filter_of_map_range_with_len_more}
use Rattle.elf_image.specs.declared.section.SectionHeader.{SectionHeader}
use Rattle.elf_image.specs.declared.section.SymbolEntry.{SymbolEntry}
use Rattle.elf_image.specs.Symbol.{Symbol, entry_at, is_ended, is_function, string_at, symbol_of, values_of}

-- ---- the symbol table

-- what is left of a range is its first number and the rest
left_more : {X : Type 0} (F : List ℕ → X) (i n : ℕ) → i < n → F (range_with_len i (n - i)) ≡ F (i ∷ range_with_len (i + 1) (n - (i + 1)))
left_more F i n l = let e : n - i ≡ suc (n - (i + 1)) = omega arith in λ j. F (range_with_len i (e j))

pub found_here : {X : Type 0} (p : X → Bool) (f : ℕ → X) (i n : ℕ) → i < n → p (f i) ≡ true → find p (map f (range_with_len i (n - i))) ≡ Some (f i)
found_here p f i n l e =
    left_more (λ is. find p (map f is)) i n l ∙ (λ j. cond (e j) (Some (f i)) (find p (map f (range_with_len (i + 1) (n - (i + 1))))))

pub found_later : {X : Type 0} (p : X → Bool) (f : ℕ → X) (i n : ℕ) → i < n → p (f i) ≡ false
    → find p (map f (range_with_len i (n - i))) ≡ find p (map f (range_with_len (i + 1) (n - (i + 1))))
found_later p f i n l e =
    left_more (λ is. find p (map f is)) i n l ∙ (λ j. cond (e j) (Some (f i)) (find p (map f (range_with_len (i + 1) (n - (i + 1))))))

-- ---- the entries

pub any_here : {X : Type 0} (p q : X → Bool) (f : ℕ → X) (i n : ℕ) → i < n → q (f i) ≡ true → p (f i) ≡ true
    → list_any p (filter q (map f (range_with_len i (n - i)))) ≡ true
any_here p q f i n l e h =
    let rest = filter q (map f (range_with_len (i + 1) (n - (i + 1)))) in
    left_more (λ is. list_any p (filter q (map f is))) i n l ∙ (λ j. list_any p (cond (e j) (f i ∷ rest) rest)) ∙ (λ j. h j || list_any p rest)

pub any_later : {X : Type 0} (p q : X → Bool) (f : ℕ → X) (i n : ℕ) → i < n → (q (f i) ≡ true → p (f i) ≡ false)
    → list_any p (filter q (map f (range_with_len i (n - i)))) ≡ list_any p (filter q (map f (range_with_len (i + 1) (n - (i + 1)))))
any_later p q f i n l h = left_more (λ is. list_any p (filter q (map f is))) i n l ∙ step (q (f i)) h
  where
    step : (t : Bool) → (t ≡ true → p (f i) ≡ false)
        → list_any p (cond t (f i ∷ filter q (map f (range_with_len (i + 1) (n - (i + 1))))) (filter q (map f (range_with_len (i + 1) (n - (i + 1))))))
        ≡ list_any p (filter q (map f (range_with_len (i + 1) (n - (i + 1)))))
    step true h = λ j. h refl j || list_any p (filter q (map f (range_with_len (i + 1) (n - (i + 1)))))
    step false h = refl

-- the functions of the first i entries
abbrev pub functions_to : List ℕ → SectionHeader → ℕ → List SymbolEntry
functions_to file table i = filter is_function (map (entry_at file table) (range_with_len 0 i))

pub function_kept : (file : List ℕ) (table : SectionHeader) (i : ℕ) (es : List SymbolEntry) (e : SymbolEntry) → e ≡ entry_at file table i → is_function e ≡ true
    → es ≡ functions_to file table i → es ++ e ∷ [] ≡ functions_to file table (i + 1)
function_kept file table i es e is k h =
    let one : is_function (entry_at file table i) ≡ true = (λ j. is_function (sym is j)) ∙ k in
    (λ j. h j ++ is j ∷ []) ∙ (λ j. functions_to file table i ++ cond (sym one j) (entry_at file table i ∷ []) [])
    ∙ sym (filter_of_map_range_with_len_more is_function (entry_at file table) 0 i i (omega arith))

pub function_skipped : (file : List ℕ) (table : SectionHeader) (i : ℕ) (es : List SymbolEntry) (e : SymbolEntry) → e ≡ entry_at file table i → is_function e ≡ false
    → es ≡ functions_to file table i → es ≡ functions_to file table (i + 1)
function_skipped file table i es e is k h =
    let other : is_function (entry_at file table i) ≡ false = (λ j. is_function (sym is j)) ∙ k in
    h ∙ sym (append-nil (functions_to file table i)) ∙ (λ j. functions_to file table i ++ cond (sym other j) (entry_at file table i ∷ []) [])
    ∙ sym (filter_of_map_range_with_len_more is_function (entry_at file table) 0 i i (omega arith))

-- ---- the ends of strings

-- a zero byte at offset e - 1 ends the strings from below e, and no other does
pub last_zero : (strings : List ℕ) (e : ℕ) → 0 < e → e ≤ length strings → get_or strings (e - 1) 0 ≡ 0
    → ((offset : ℕ) → e ≤ offset → is_ended strings offset ≡ false) → (offset : ℕ) → is_ended strings offset ≡ nat_lt offset e
last_zero strings e pos within ends endless offset =
    ⊎_elim
    (λ lt.
    let k : ℕ = e - 1 - offset in
    let at : offset + k ≡ e - 1 = omega arith in
    let here : get_or (drop offset strings) k 0 ≡ 0 = get_or-drop offset strings k 0 ∙ (λ j. get_or strings (at j) 0) ∙ ends in
    list_any_at (λ b. b == 0) (drop offset strings) k 0 (omega (arith, length-drop offset strings)) (eq-eqb _ 0 here) ∙ sym (lt-ltb offset e lt))
    (λ le. endless offset le ∙ sym (le-ltb offset e le))
    (cases_lt offset e)

pub ended_name : (strings : List ℕ) (end : ℕ) → ((offset : ℕ) → is_ended strings offset ≡ nat_lt offset end)
    → (x e : SymbolEntry) → x ≡ e → x.name < end → not (is_ended strings e.name) ≡ false
ended_name strings end ends x e is l = (λ j. not (is_ended strings (sym is j).name)) ∙ (λ j. not (ends x.name j)) ∙ (λ j. not (lt-ltb x.name end l j))

pub no_function : (x e : SymbolEntry) → x ≡ e → is_function x ≡ false → is_function e ≡ true → ⊥
no_function x e is not_x so_e = let same : true ≡ false = sym so_e ∙ (λ j. is_function (sym is j)) ∙ not_x in cc

-- ---- the strings of names

both_fail : (f w s k n : Bool) → (f ≡ true → w ≡ true) → ((f && s) && (not (w || k) && n)) ≡ false
both_fail false w s k n h = refl
both_fail true true true k n h = refl
both_fail true true false k n h = refl
both_fail true false s k n h = absurd (let e = h refl in (cc))

-- a string is a name: its bytes begin with the name, which has no zero byte, and behind it is one or nothing
named : (s n : List ℕ) → bytes_eq (take_while (λ b. not (b == 0)) s) n ≡ (starts_with nat_eq s n && (not (list_any (λ b. b == 0) n) && (unwrap_or (slice_get s (length n)) 0 == 0)))
named [] [] = refl
named [] (m ∷ ms) = refl
named (x ∷ xs) [] = (λ j. bytes_eq (take_while-cons (λ b. not (b == 0)) x xs j) []) ∙ step (eqb x 0)
  where
    step : (t : Bool) → bytes_eq (cond (not t) (x ∷ take_while (λ b. not (b == 0)) xs) []) [] ≡ t
    step true = refl
    step false = refl
named (x ∷ xs) (m ∷ ms) = (λ j. bytes_eq (take_while-cons (λ b. not (b == 0)) x xs j) (m ∷ ms)) ∙ step (eqb x 0) (eqb x m) refl refl (named xs ms)
  where
    step : (z e : Bool) → eqb x 0 ≡ z → eqb x m ≡ e
        → bytes_eq (take_while (λ b. not (b == 0)) xs) ms ≡ (starts_with nat_eq xs ms && (not (list_any (λ b. b == 0) ms) && (unwrap_or (slice_get xs (length ms)) 0 == 0)))
        → bytes_eq (cond (not z) (x ∷ take_while (λ b. not (b == 0)) xs) []) (m ∷ ms)
        ≡ ((eqb m x && starts_with nat_eq xs ms) && (not (eqb m 0 || list_any (λ b. b == 0) ms) && (unwrap_or (slice_get xs (length ms)) 0 == 0)))
    step true e zero-x same h =
        sym (both_fail (eqb m x) (eqb m 0) (starts_with nat_eq xs ms) (list_any (λ b. b == 0) ms) (unwrap_or (slice_get xs (length ms)) 0 == 0) (λ f. eq-eqb m 0 (eqb-true m x f ∙ eqb-true x 0 zero-x)))
    step false false zero-x same h =
        (λ j. same j && bytes_eq (take_while (λ b. not (b == 0)) xs) ms)
        ∙ sym (both_fail (eqb m x) (eqb m 0) (starts_with nat_eq xs ms) (list_any (λ b. b == 0) ms) (unwrap_or (slice_get xs (length ms)) 0 == 0)
        (λ f. absurd (let e = sym same ∙ eq-eqb x m (sym (eqb-true m x f)) in (cc))))
    step false true zero-x same h =
        let is : x ≡ m = eqb-true x m same in
        let f : eqb m x ≡ true = eq-eqb m x (sym is) in
        let w : eqb m 0 ≡ false = (λ j. eqb (sym is j) 0) ∙ zero-x in
        (λ j. same j && bytes_eq (take_while (λ b. not (b == 0)) xs) ms) ∙ h
        ∙ (λ j. (sym f j && starts_with nat_eq xs ms) && (not (sym w j || list_any (λ b. b == 0) ms) && (unwrap_or (slice_get xs (length ms)) 0 == 0)))

module _ (strings name string : List ℕ) (offset : ℕ) (at : string ≡ drop offset strings) where
  named_at : bytes_eq (string_at strings offset) name ≡ (starts_with nat_eq string name && (not (list_any (λ b. b == 0) name) && (unwrap_or (slice_get string (length name)) 0 == 0)))
  named_at = (λ j. bytes_eq (take_while (λ b. not (b == 0)) (sym at j)) name) ∙ named string name

  pub other_start : starts_with nat_eq string name ≡ false → false ≡ bytes_eq (string_at strings offset) name
  other_start e = sym (named_at ∙ (λ j. e j && (not (list_any (λ b. b == 0) name) && (unwrap_or (slice_get string (length name)) 0 == 0))))

  pub zero_in_name : list_any (λ b. b == 0) name ≡ true → false ≡ bytes_eq (string_at strings offset) name
  zero_in_name e =
      sym (named_at ∙ (λ j. starts_with nat_eq string name && (not (e j) && (unwrap_or (slice_get string (length name)) 0 == 0))) ∙ never (starts_with nat_eq string name))
    where
      never : (t : Bool) → (t && false) ≡ false
      never true = refl
      never false = refl

  pub same_string : starts_with nat_eq string name ≡ true → list_any (λ b. b == 0) name ≡ false
      → (unwrap_or (slice_get string (length name)) 0 == 0) ≡ bytes_eq (string_at strings offset) name
  same_string e f = sym (named_at ∙ (λ j. e j && (not (f j) && (unwrap_or (slice_get string (length name)) 0 == 0))))

-- ---- the value of a name

abbrev pub has_name : List ℕ → List ℕ → SymbolEntry → Bool
has_name strings name e = bytes_eq (string_at strings e.name) name

-- these values, and those of the symbols of a name
abbrev values_from : List ℕ → List ℕ → List Symbol → List ℕ
values_from vs name symbols = fold (insert_key nat_cmp) vs (map (λ s. s.value) (filter (λ s. bytes_eq s.name name) symbols))

-- the same with a first symbol, which has the name or not
abbrev values_with : List ℕ → List ℕ → Symbol → List Symbol → Bool → List ℕ
values_with vs name s symbols t =
    let named = filter (λ s. bytes_eq s.name name) symbols in
    fold (insert_key nat_cmp) vs (map (λ s. s.value) (cond t (s ∷ named) named))

-- the values of the first i symbols of a name
abbrev pub values_to : List ℕ → List ℕ → List SymbolEntry → ℕ → List ℕ
values_to strings name es i = values_of name (map (symbol_of strings) (take i es))

values-push : (strings name : List ℕ) (es : List SymbolEntry) (e : SymbolEntry) (vs : List ℕ)
    → values_from vs name (map (symbol_of strings) (es ++ e ∷ []))
    ≡ (let before = values_from vs name (map (symbol_of strings) es) in cond (has_name strings name e) (insert_key nat_cmp before e.value) before)
values-push strings name [] e vs = step (has_name strings name e)
  where
    step : (t : Bool) → fold (insert_key nat_cmp) vs (map (λ (s : Symbol). s.value) (cond t (symbol_of strings e ∷ []) [])) ≡ cond t (insert_key nat_cmp vs e.value) vs
    step true = refl
    step false = refl
values-push strings name (x ∷ xs) e vs = step (has_name strings name x) (λ ws. values-push strings name xs e ws)
  where
    step : (t : Bool)
        → ((ws : List ℕ) → values_from ws name (map (symbol_of strings) (xs ++ e ∷ []))
        ≡ (let before = values_from ws name (map (symbol_of strings) xs) in cond (has_name strings name e) (insert_key nat_cmp before e.value) before))
        → values_with vs name (symbol_of strings x) (map (symbol_of strings) (xs ++ e ∷ [])) t
        ≡ (let before = values_with vs name (symbol_of strings x) (map (symbol_of strings) xs) t in cond (has_name strings name e) (insert_key nat_cmp before e.value) before)
    step true h = h (insert_key nat_cmp vs x.value)
    step false h = h vs

pub value_kept : (strings name : List ℕ) (es : List SymbolEntry) (i : ℕ) (d : SymbolEntry) → i < length es → has_name strings name (get_or es i d) ≡ true
    → insert_key nat_cmp (values_to strings name es i) (get_or es i d).value ≡ values_to strings name es (i + 1)
value_kept strings name es i d l h =
    (λ j. cond (sym h j) (insert_key nat_cmp (values_to strings name es i) (get_or es i d).value) (values_to strings name es i))
    ∙ sym ((λ j. values_of name (map (symbol_of strings) (take_more es i d l j))) ∙ values-push strings name (take i es) (get_or es i d) [])

pub value_skipped : (strings name : List ℕ) (es : List SymbolEntry) (i : ℕ) (d : SymbolEntry) → i < length es → has_name strings name (get_or es i d) ≡ false
    → values_to strings name es i ≡ values_to strings name es (i + 1)
value_skipped strings name es i d l h =
    (λ j. cond (sym h j) (insert_key nat_cmp (values_to strings name es i) (get_or es i d).value) (values_to strings name es i))
    ∙ sym ((λ j. values_of name (map (symbol_of strings) (take_more es i d l j))) ∙ values-push strings name (take i es) (get_or es i d) [])
