-- Registers of which a test is true, found one by one.
use Rattle.std.proofs.Common.{◌≡◌, ℕ, ◌+◌, ◌-◌, ◌≤◌, Bool, true, false, cond, List, [], ◌∷◌, ◌++◌, map, filter, refl, sym, ap, ◌∙◌, arith}
use Rattle.std.specs.List.{range_with_len}
use Rattle.std.proofs.lemmas.List.Elements.{filter-append}
use Rattle.std.proofs.lemmas.List.FromFn.{map-range_with_len_more}
use Rattle.rv_decode.specs.Registers.{registers_where}

map_same : (xs : List ℕ) → map (λ (x : ℕ). x) xs ≡ xs
map_same [] = refl
map_same (x ∷ xs) = ap (λ (l : List ℕ). x ∷ l) (map_same xs)

range-more : (a n j : ℕ) → a + n ≡ j → range_with_len a (n + 1) ≡ range_with_len a n ++ j ∷ []
range-more a n j e = sym (map_same (range_with_len a (n + 1))) ∙ map-range_with_len_more (λ x. x) a n j e ∙ ap (λ (l : List ℕ). l ++ j ∷ []) (map_same (range_with_len a n))

append_none : (xs : List ℕ) → xs ++ [] ≡ xs
append_none [] = refl
append_none (x ∷ xs) = ap (λ (l : List ℕ). x ∷ l) (append_none xs)

-- those below n of which the test is true
abbrev pub HaveFound : (ℕ → Bool) → List ℕ → ℕ → Type 0
HaveFound test found n = found ≡ filter test (range_with_len 1 (n - 1))

filter-more : (test : ℕ → Bool) (n : ℕ) (b : Bool) → 1 ≤ n → test n ≡ b → filter test (range_with_len 1 (n + 1 - 1)) ≡ filter test (range_with_len 1 (n - 1)) ++ cond b (n ∷ []) []
filter-more test n b low e =
    let up : n + 1 - 1 ≡ n - 1 + 1 = omega arith in
    (λ j. filter test (range_with_len 1 (up j))) ∙ ap (filter test) (range-more 1 (n - 1) n (omega arith))
    ∙ filter-append test (range_with_len 1 (n - 1)) (n ∷ []) ∙ (λ j. filter test (range_with_len 1 (n - 1)) ++ cond (e j) (n ∷ []) [])

pub one_more : (test : ℕ → Bool) (found more : List ℕ) (n : ℕ) → 1 ≤ n → HaveFound test found n → test n ≡ true → more ≡ found ++ n ∷ [] → HaveFound test more (n + 1)
one_more test found more n low h e new = new ∙ ap (λ (l : List ℕ). l ++ n ∷ []) h ∙ sym (filter-more test n true low e)

pub none_more : (test : ℕ → Bool) (found more : List ℕ) (n : ℕ) → 1 ≤ n → HaveFound test found n → test n ≡ false → more ≡ found → HaveFound test more (n + 1)
none_more test found more n low h e new = new ∙ h ∙ sym (append_none (filter test (range_with_len 1 (n - 1)))) ∙ sym (filter-more test n false low e)

pub all_found : (test : ℕ → Bool) (found : List ℕ) (n : ℕ) → n ≡ 32 → HaveFound test found n → found ≡ registers_where test
unfolding registers_where
all_found test found n e h = h ∙ (λ j. filter test (range_with_len 1 (e j - 1)))
