-- Laws of graphs: there is one at most, its edges are the code's successors, and each edge is in both lists.
use Rattle.std.proofs.Common.{◌≡◌, ℕ, suc, ◌+◌, ◌<◌, List, [], ◌∷◌, inl, inr, length, get_or, map, refl, sym, ◌∙◌, ap, subst, arith, Bool, true, false, cond, eqb, IsTrue, Option, Some, Result, Ok, count_by, zero-add}
use Rattle.std.specs.List.{Contains}
use Rattle.std.proofs.lemmas.List.Sums.{sum_by-cons}
use Rattle.rv_words.specs.Bytes.{Bytes}
use Rattle.rv_decode.specs.declared.instruction.Instr.{Instr}
use Rattle.flow_graph.specs.declared.outside.Outside.{Outside}
use Rattle.rvc.specs.Number.{number_in}
use Rattle.flow_graph.specs.Flow.{look, next, Next}
use Rattle.flow_graph.specs.Walks.{Stop, Leave, Reaches}
use Rattle.flow_graph.specs.Graph.{GraphOf, IsGraphOf, IsRising, edges_from, number, preds_of, succs_of}
use Rattle.flow_graph.proofs.Ways.{Contains-cons, place_of, node_at}
use Rattle.flow_graph.proofs.NumberLemmas.{number_within}
use Rattle.flow_graph.proofs.BuildLemmas.{closed_from_reach}
use Rattle.flow_graph.proofs.FlowLemmas.{row_is}

-- ---- the least closed set

pub least_test : (linked : Bool) (code : Bytes) (has : ℕ → Bool) → ((x y : ℕ) → IsTrue (has x) → Next linked code x y → IsTrue (has y)) → {e a : ℕ} → Reaches (Next linked code) e a → IsTrue (has e) → IsTrue (has a)
least_test linked code has closed Stop t = t
least_test linked code has closed (Leave {a = a} {c = c} p d w) t = least_test linked code has closed w (closed a c t d)

-- ---- one graph

tail_rises : (x : ℕ) (xs : List ℕ) → IsRising (x ∷ xs) → IsRising xs
tail_rises x xs up = record { below = λ j k l h. up.below (suc j) (suc k) (omega arith) (omega arith) }

head_below : (x : ℕ) (xs : List ℕ) → IsRising (x ∷ xs) → (z : ℕ) → Contains xs z → x < z
head_below x xs up z c =
    let p = place_of xs z c in
    let lt : x < get_or xs p.0 0 = up.below 0 (suc p.0) (omega arith) (omega (arith, p.1)) in
    subst (λ (w : ℕ). x < w) p.2 lt

later : (x : ℕ) (xs : List ℕ) (z : ℕ) → Contains xs z → Contains (x ∷ xs) z
later x xs z c = (suc c.0, omega (arith, c.1), c.2)

in_tail : (x y : ℕ) (xs ys : List ℕ) → x ≡ y → IsRising (x ∷ xs) → ((z : ℕ) → Contains (x ∷ xs) z → Contains (y ∷ ys) z) → (z : ℕ) → Contains xs z → Contains ys z
in_tail x y xs ys same up sub z c = elim (Contains-cons y ys z (sub z (later x xs z c))) [
  | inl q ↦ (let lt = head_below x xs up z c in absurd (omega (arith, lt, q, same)))
  | inr d ↦ d
]

-- rising lists with the same members are one
pub rising_same : (xs ys : List ℕ) → IsRising xs → IsRising ys → ((z : ℕ) → Contains xs z → Contains ys z) → ((z : ℕ) → Contains ys z → Contains xs z) → xs ≡ ys
rising_same [] [] up vp there back = refl
rising_same [] (y ∷ ys) up vp there back = let c = back y (0, omega arith, refl) in absurd (omega (arith, c.1))
rising_same (x ∷ xs) [] up vp there back = let c = there x (0, omega arith, refl) in absurd (omega (arith, c.1))
rising_same (x ∷ xs) (y ∷ ys) up vp there back =
    let same : x ≡ y = elim (Contains-cons y ys x (there x (0, omega arith, refl))) [
      | inl q ↦ sym q
      | inr c ↦ elim (Contains-cons x xs y (back y (0, omega arith, refl))) [
        | inl q ↦ q
        | inr d ↦ (let a = head_below y ys vp x c in let b = head_below x xs up y d in absurd (omega (arith, a, b)))
      ]
    ] in
    let rest : xs ≡ ys = rising_same xs ys (tail_rises x xs up) (tail_rises y ys vp) (in_tail x y xs ys same up there) (in_tail y x ys xs (sym same) vp back) in
    λ i. same i ∷ rest i

pub fine_same : (is js : List Instr) → map {B = Result Instr Outside} (λ i. Ok i) is ≡ map (λ i. Ok i) js → is ≡ js
fine_same [] [] e = refl
fine_same [] (j ∷ js) e = absurd (cc)
fine_same (i ∷ is) [] e = absurd (cc)
fine_same (i ∷ is) (j ∷ js) e =
    let head : i ≡ j = cc in
    let rest : map {B = Result Instr Outside} (λ k. Ok k) is ≡ map (λ k. Ok k) js = cc in
    let tail : is ≡ js = fine_same is js rest in
    λ k. head k ∷ tail k

pub some_same : (ws vs : List ℕ) → map {B = Option ℕ} (λ w. Some w) ws ≡ map (λ w. Some w) vs → ws ≡ vs
some_same [] [] e = refl
some_same [] (v ∷ vs) e = absurd (cc)
some_same (w ∷ ws) [] e = absurd (cc)
some_same (w ∷ ws) (v ∷ vs) e =
    let head : w ≡ v = cc in
    let rest : map {B = Option ℕ} (λ k. Some k) ws ≡ map (λ k. Some k) vs = cc in
    let tail : ws ≡ vs = some_same ws vs rest in
    λ k. head k ∷ tail k

pub one_graph : (linked : Bool) (code : Bytes) (e : ℕ) (g h : GraphOf) → IsGraphOf linked code e g → IsGraphOf linked code e h → g ≡ h
one_graph linked code e g h r s =
    let addrs : g.addrs ≡ h.addrs = rising_same g.addrs h.addrs r.rising s.rising
    (λ z c. s.reach.all z (r.reach.reached z c)) (λ z c. r.reach.all z (s.reach.reached z c)) in
    let entry : g.entry ≡ h.entry = r.entry ∙ ap (λ ns. number ns e) addrs ∙ sym s.entry in
    let instrs : g.instrs ≡ h.instrs = fine_same g.instrs h.instrs (r.instrs ∙ ap (map (look linked code)) addrs ∙ sym s.instrs) in
    let numbers : g.numbers ≡ h.numbers = some_same g.numbers h.numbers (r.numbers ∙ ap (map (number_in code)) addrs ∙ sym s.numbers) in
    let edges : g.edges ≡ h.edges = r.edges ∙ ap (λ ns. edges_from (next linked code) ns 0 ns) addrs ∙ sym s.edges in
    λ i. record { entry = entry i; addrs = addrs i; numbers = numbers i; instrs = instrs i; edges = edges i }

-- ---- edges

map_back : (all bs : List ℕ) → ((b : ℕ) → Contains bs b → Contains all b) → map (λ m. get_or all m 0) (map (number all) bs) ≡ bs
map_back all [] sub = refl
map_back all (b ∷ bs) sub =
    let at : get_or all (number all b) 0 ≡ b = (number_within all b (sub b (0, omega arith, refl))).1 in
    let rest = map_back all bs (λ z c. sub z (later b bs z c)) in
    λ i. at i ∷ rest i

pub successors_are : (linked : Bool) (code : Bytes) (e : ℕ) (g : GraphOf) (n : ℕ) → IsGraphOf linked code e g → n < length g.addrs → map (λ m. get_or g.addrs m 0) (succs_of g.edges n) ≡ next linked code (get_or g.addrs n 0)
successors_are linked code e g n r l =
    ap (λ es. map (λ m. get_or g.addrs m 0) (succs_of es n)) r.edges
    ∙ ap (map (λ m. get_or g.addrs m 0)) (row_is (next linked code) g.addrs n l)
    ∙ map_back g.addrs (next linked code (get_or g.addrs n 0)) (λ b c. closed_from_reach linked code e g.addrs r.reach (get_or g.addrs n 0) b (node_at g.addrs n l) c)

count_more : (t : Bool) (p : ℕ → Bool) (x : ℕ) (xs : List ℕ) → count_by p (cond t (x ∷ xs) xs) ≡ cond t (cond (p x) 1 0 + count_by p xs) (count_by p xs)
count_more true p x xs = sum_by-cons (λ z. cond (p z) 1 0) x xs
count_more false p x xs = refl

cond_swap : (s t : Bool) (n : ℕ) → cond s (cond t 1 0 + n) n ≡ cond t (cond s 1 0 + n) n
cond_swap true true n = refl
cond_swap true false n = zero-add n
cond_swap false true n = sym (zero-add n)
cond_swap false false n = refl

pub both_lists : (es : List (ℕ × ℕ)) (u v : ℕ) → count_by (λ m. eqb m v) (succs_of es u) ≡ count_by (λ m. eqb m u) (preds_of es v)
both_lists [] u v = refl
both_lists (e ∷ es) u v =
    let rest : count_by (λ m. eqb m v) (succs_of es u) ≡ count_by (λ m. eqb m u) (preds_of es v) = both_lists es u v in
    count_more (eqb e.0 u) (λ m. eqb m v) e.1 (succs_of es u)
    ∙ (λ i. cond (eqb e.0 u) (cond (eqb e.1 v) 1 0 + rest i) (rest i))
    ∙ cond_swap (eqb e.0 u) (eqb e.1 v) (count_by (λ m. eqb m u) (preds_of es v))
    ∙ sym (count_more (eqb e.1 v) (λ m. eqb m u) e.0 (preds_of es v))
