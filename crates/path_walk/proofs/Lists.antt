-- Lists of variables and of terms for them.
use Rattle.std.proofs.Common.{◌≡◌, ℕ, zero, suc, ◌+◌, ◌≤◌, List, [], ◌∷◌, ◌++◌, map, length, filter, zip, Bool, true, false, cond, not, eqb, refl, sym, ap, ◌∙◌, subst, arith, Some, eqb-true, eq-eqb, ne_eqb, Contains, ◌||◌, ◌<◌, take, get_or}
use Rattle.std.proofs.lemmas.List.{map_more, map_push}
use Rattle.std.proofs.lemmas.Bool.{eqb-false}
use Rattle.std.specs.Prelude.{slice_get, unwrap_or}
use Rattle.std.specs.List.{position_or_len, range_with_len}
use Rattle.word_terms.specs.Tree.{WordTree, MemTree, Var, MemVar}
use Rattle.word_terms.specs.Substitution.{Substitution, listed, put_in_word, put_in_mem}
use Rattle.tailrec_lang.specs.Registers.{AreRegistersFrom}
use Rattle.loop_rule.specs.Leaves.{variables_after}
use Rattle.code_parts.specs.Bodies.{Flow, current, fresh}
use Rattle.path_walk.specs.inner.Acts.{numbered}
use Rattle.code_parts.proofs.Lists.{contains-cases, here, in-false, in_range, is_in, later}

pub map_among : {B : Type 0} (f h : ℕ → B) (rs : List ℕ) → ((r : ℕ) → Contains rs r → f r ≡ h r) → map f rs ≡ map h rs
map_among f h [] same = refl
map_among f h (r ∷ rs) same = let first = same r (here r rs) in let rest = map_among f h rs (λ q c. same q (later r rs q c)) in λ i. first i ∷ rest i

pub zip-map : {B : Type 0} (h : ℕ → B) (rs : List ℕ) → zip rs (map h rs) ≡ map (λ r. (r, h r)) rs
zip-map h [] = refl
zip-map h (r ∷ rs) = let rest = zip-map h rs in λ i. (r, h r) ∷ rest i

-- the variables of registers in order
words-are : (least words : ℕ) (rs : List ℕ) → AreRegistersFrom least rs →
    map Var (range_with_len words (length rs)) ≡ map (λ r. Var (words + position_or_len (λ q. eqb q r) rs)) rs
words-are least words [] rise = refl
words-are least words (r ∷ rs) rise =
    let first : words ≡ words + position_or_len (λ q. eqb q r) (r ∷ rs) = (let none : words ≡ words + 0 = omega arith in none ∙ (λ i. words + cond (not (sym (eq-eqb r r refl) i)) (1 + position_or_len (λ q. eqb q r) rs) 0)) in
    let rest = words-are (r + 1) (words + 1) rs rise.2 in
    let moved = map_among (λ x. Var (words + 1 + position_or_len (λ q. eqb q x) rs)) (λ x. Var (words + position_or_len (λ q. eqb q x) (r ∷ rs))) rs
    (λ x c. let more = in_range (r + 1) rs x rise.2 c in
    let other : eqb r x ≡ false = ne_eqb r x (λ e. absurd (omega (arith, e, more.0))) in
    let sum : words + 1 + position_or_len (λ q. eqb q x) rs ≡ words + (1 + position_or_len (λ q. eqb q x) rs) = omega arith in
    ap Var (sum ∙ (λ i. words + cond (not (sym other i)) (1 + position_or_len (λ q. eqb q x) rs) 0))) in
    let all = rest ∙ moved in
    λ i. Var (first i) ∷ all i

mems-are : (from w n : ℕ) → map MemVar (range_with_len (from + w) n) ≡ map (λ q. MemVar (from + q)) (range_with_len w n)
mems-are from w zero = refl
mems-are from w (suc n) = let rest = mems-are from (w + 1) n in let sum : from + w + 1 ≡ from + (w + 1) = omega arith in λ i. MemVar (from + w) ∷ ((λ i. map MemVar (range_with_len (sum i) n)) ∙ rest) i

pub current-fresh : (f : Flow) (words mems : ℕ) → AreRegistersFrom 1 f.regs → variables_after words mems (length f.regs) f.mems ≡ current f (fresh f words mems)
current-fresh f words mems rise =
    let ws = words-are 1 words f.regs rise in
    let none : mems ≡ mems + 0 = omega arith in
    let ms = (λ i. map MemVar (range_with_len (none i) f.mems)) ∙ mems-are mems 0 f.mems in
    λ i. record { words = ws i; mems = ms i }

-- ---- terms listed for variables

pub listed-left : {A : Type 0} (i k : ℕ) (ts us : List A) (t : A) → slice_get ts k ≡ Some t → listed (numbered i (ts ++ us)) (i + k) ≡ Some t
listed-left i k [] us t e = absurd (cc)
listed-left i zero (x ∷ ts) us t e =
    let same : i ≡ i + 0 = omega arith in
    (λ j. cond (eq-eqb i (i + 0) same j) (Some x) (listed (numbered (suc i) (ts ++ us)) (i + 0))) ∙ e
listed-left i (suc k) (x ∷ ts) us t e =
    let other : eqb i (i + suc k) ≡ false = ne_eqb i (i + suc k) (λ z. absurd (omega (arith, z))) in
    let sum : suc i + k ≡ i + suc k = omega arith in
    (λ j. cond (other j) (Some x) (listed (numbered (suc i) (ts ++ us)) (i + suc k))) ∙ (λ j. listed (numbered (suc i) (ts ++ us)) (sym sum j)) ∙ listed-left (suc i) k ts us t e

pub listed-right : {A : Type 0} (i k : ℕ) (ts us : List A) (t : A) → slice_get us k ≡ Some t → listed (numbered i (ts ++ us)) (i + (length ts + k)) ≡ Some t
listed-right i k [] us t e =
    let same : i + (0 + k) ≡ i + k = omega arith in
    (λ j. listed (numbered i us) (same j)) ∙ (λ j. listed (numbered i (sym (append_none us) j)) (i + k)) ∙ listed-left i k us [] t e
  where
    append_none : {A : Type 0} (xs : List A) → xs ++ [] ≡ xs
    append_none [] = refl
    append_none (x ∷ xs) = let rest = append_none xs in λ i. x ∷ rest i
listed-right i k (x ∷ ts) us t e =
    let other : eqb i (i + (suc (length ts) + k)) ≡ false = ne_eqb i (i + (suc (length ts) + k)) (λ z. absurd (omega (arith, z))) in
    let sum : i + (suc (length ts) + k) ≡ suc i + (length ts + k) = omega arith in
    (λ j. cond (other j) (Some x) (listed (numbered (suc i) (ts ++ us)) (i + (suc (length ts) + k)))) ∙ (λ j. listed (numbered (suc i) (ts ++ us)) (sum j)) ∙ listed-right (suc i) k ts us t e

-- the term of a register in its place
pub listed-place : (h : ℕ → WordTree) (i : ℕ) (rs : List ℕ) (r : ℕ) → Contains rs r → listed (numbered i (map h rs)) (i + position_or_len (λ q. eqb q r) rs) ≡ Some (h r)
listed-place h i [] r c = absurd (omega (arith, c.1))
listed-place h i (x ∷ rs) r c = go (λ c. listed-place h (suc i) rs r c) (eqb x r) refl
  where
    rest : Contains (x ∷ rs) r → eqb x r ≡ false → Contains rs r
    rest c no_one = contains-cases x rs r c (λ e. absurd (eqb-false x r no_one e)) (λ c. c)

    go : (Contains rs r → listed (numbered (suc i) (map h rs)) (suc i + position_or_len (λ q. eqb q r) rs) ≡ Some (h r)) → (b : Bool) → eqb x r ≡ b →
        listed ((i, h x) ∷ numbered (suc i) (map h rs)) (i + cond (not b) (1 + position_or_len (λ q. eqb q r) rs) 0) ≡ Some (h r)
    go on true is =
        let same : i ≡ i + 0 = omega arith in
        (λ j. cond (eq-eqb i (i + 0) same j) (Some (h x)) (listed (numbered (suc i) (map h rs)) (i + 0))) ∙ ap (λ q. Some (h q)) (eqb-true x r is)
    go on false is =
        let p : ℕ = position_or_len (λ q. eqb q r) rs in
        let other : eqb i (i + (1 + p)) ≡ false = ne_eqb i (i + (1 + p)) (λ z. absurd (omega (arith, z))) in
        let sum : i + (1 + p) ≡ suc i + p = omega arith in
        (λ j. cond (other j) (Some (h x)) (listed (numbered (suc i) (map h rs)) (i + (1 + p)))) ∙ (λ j. listed (numbered (suc i) (map h rs)) (sum j)) ∙ on (rest c is)

-- variables in a row become these terms
pub put-words : (s : Substitution) (from : ℕ) (ts : List WordTree) → ((k : ℕ) (t : WordTree) → slice_get ts k ≡ Some t → s.word (from + k) ≡ Some t) → map (put_in_word s) (map Var (range_with_len from (length ts))) ≡ ts
put-words s from [] h = refl
put-words s from (t ∷ ts) h =
    let none : from ≡ from + 0 = omega arith in
    let first : put_in_word s (Var from) ≡ t = ap (λ o. unwrap_or o (Var from)) ((λ i. s.word (none i)) ∙ h 0 t refl) in
    let rest = put-words s (from + 1) ts (λ k u e. let sum : from + 1 + k ≡ from + suc k = omega arith in (λ i. s.word (sum i)) ∙ h (suc k) u e) in
    λ i. first i ∷ rest i

pub put-mems : (s : Substitution) (from : ℕ) (ts : List MemTree) → ((k : ℕ) (t : MemTree) → slice_get ts k ≡ Some t → s.mem (from + k) ≡ Some t) → map (put_in_mem s) (map MemVar (range_with_len from (length ts))) ≡ ts
put-mems s from [] h = refl
put-mems s from (t ∷ ts) h =
    let none : from ≡ from + 0 = omega arith in
    let first : put_in_mem s (MemVar from) ≡ t = ap (λ o. unwrap_or o (MemVar from)) ((λ i. s.mem (none i)) ∙ h 0 t refl) in
    let rest = put-mems s (from + 1) ts (λ k u e. let sum : from + 1 + k ≡ from + suc k = omega arith in (λ i. s.mem (sum i)) ∙ h (suc k) u e) in
    λ i. first i ∷ rest i

filter-same : (p q : ℕ → Bool) (xs : List ℕ) → ((x : ℕ) → Contains xs x → p x ≡ q x) → filter p xs ≡ filter q xs
filter-same p q [] h = refl
filter-same p q (x ∷ xs) h =
    let first = h x (here x xs) in
    let rest = filter-same p q xs (λ y c. h y (later x xs y c)) in
    λ i. cond (first i) (x ∷ rest i) (rest i)

filter-none : (xs : List ℕ) → filter (λ x. false) xs ≡ []
filter-none [] = refl
filter-none (x ∷ xs) = filter-none xs

weaker : (a b : ℕ) (xs : List ℕ) → a ≤ b → AreRegistersFrom b xs → AreRegistersFrom a xs
weaker a b [] le h = tt
weaker a b (x ∷ xs) le h = (omega (arith, h.0, le), h.1, h.2)

-- those of a rising list that are in a smaller one are the smaller one
pub smaller-is : (least : ℕ) (xs ys : List ℕ) → AreRegistersFrom least xs → AreRegistersFrom least ys → ((x : ℕ) → Contains xs x → Contains ys x) → filter (is_in xs) ys ≡ xs
smaller-is least [] ys low high all = filter-none ys
smaller-is least (x ∷ xs) [] low high all = absurd (let c = all x (here x xs) in omega (arith, c.1))
smaller-is least (x ∷ xs) (y ∷ ys) low high all =
    go (λ low high all. smaller-is (y + 1) xs ys low high all) (λ low high all. smaller-is (y + 1) (x ∷ xs) ys low high all) (eqb x y) refl
  where
    head_is : Contains (y ∷ ys) x
    head_is = all x (here x xs)

    go : (AreRegistersFrom (y + 1) xs → AreRegistersFrom (y + 1) ys → ((z : ℕ) → Contains xs z → Contains ys z) → filter (is_in xs) ys ≡ xs) →
        (AreRegistersFrom (y + 1) (x ∷ xs) → AreRegistersFrom (y + 1) ys → ((z : ℕ) → Contains (x ∷ xs) z → Contains ys z) → filter (is_in (x ∷ xs)) ys ≡ x ∷ xs) →
        (b : Bool) → eqb x y ≡ b → cond (b || is_in xs y) (y ∷ filter (is_in (x ∷ xs)) ys) (filter (is_in (x ∷ xs)) ys) ≡ x ∷ xs
    go same more true is =
        let e : x ≡ y = eqb-true x y is in
        let low_rest : AreRegistersFrom (y + 1) xs = subst (λ z. AreRegistersFrom (z + 1) xs) e low.2 in
        let tests = filter-same (is_in (x ∷ xs)) (is_in xs) ys (λ z c. let far = in_range (y + 1) ys z high.2 c in let other : eqb x z ≡ false = ne_eqb x z (λ d. absurd (omega (arith, d, e, far.0))) in λ i. other i || is_in xs z) in
        let rest = tests ∙ same low_rest high.2 (λ z c. let far = in_range (y + 1) xs z low_rest c in contains-cases y ys z (all z (later x xs z c)) (λ d. absurd (omega (arith, d, far.0))) (λ c. c)) in
        λ i. sym e i ∷ rest i
    go same more false is =
        let ne = eqb-false x y is in
        let inside : Contains ys x = contains-cases y ys x head_is (λ d. absurd (ne (sym d))) (λ c. c) in
        let far = in_range (y + 1) ys x high.2 inside in
        let low_all : AreRegistersFrom (y + 1) (x ∷ xs) = (far.0, low.1, low.2) in
        let none : is_in xs y ≡ false = in-false xs y (λ c. let up = in_range (x + 1) xs y low.2 c in absurd (omega (arith, up.0, far.0))) in
        (λ i. cond (none i) (y ∷ filter (is_in (x ∷ xs)) ys) (filter (is_in (x ∷ xs)) ys)) ∙
        more low_all high.2 (λ z c. let up = in_range (y + 1) (x ∷ xs) z low_all c in contains-cases y ys z (all z c) (λ d. absurd (omega (arith, d, up.0))) (λ c. c))

-- one item more of a list that is made of another, item by item
pub mapped-more : {A X Y : Type 0} (h : X → Y) (k : A → Y) (xs : List A) (i : ℕ) (d : A) (ms more : List X) (m : X) → i < length xs → map h ms ≡ map k (take i xs) → more ≡ ms ++ m ∷ [] → h m ≡ k (get_or xs i d) →
    map h more ≡ map k (take (i + 1) xs)
mapped-more h k xs i d ms more m lt is pushed one = ap (map h) pushed ∙ map_push h ms m ∙ (λ j. is j ++ one j ∷ []) ∙ sym (map_more k xs i d lt)
