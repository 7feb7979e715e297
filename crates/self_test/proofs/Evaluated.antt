-- The evaluation of a program's function.
use Rattle.std.proofs.Common.{◌≡◌, ◌≢◌, ℕ, zero, suc, ◌+◌, ◌-◌, ◌<◌, ◌≤◌, cond, eqb, true, false, inl, inr, None, List, [], ◌∷◌, ◌++◌, length, map, drop, get_or, replicate, Contains, refl, sym, ap, subst, ◌∙◌, arith}
use Rattle.std.proofs.lemmas.Bool.Decides.{eqb_tells}
use Rattle.std.proofs.Math.Seq.{drop-cons}
use Rattle.std.proofs.lemmas.List.{length-map, map-append}
use Rattle.std.specs.FinMap.{FinMap, get}
use Rattle.std.specs.Ordering.{nat_cmp}
use Rattle.rv_decode.proofs.RowLemmas.{neq-eqb}
use Rattle.rv_words.specs.Bytes.{Bytes}
use Rattle.rv_machine.specs.State.{State}
use Rattle.tailrec_lang.specs.declared.args.Args.{Args}
use Rattle.tailrec_lang.specs.declared.evaluator.Outcome.{Outcome as Answer}
use Rattle.tailrec_lang.specs.declared.evaluator.Outcome.TheVariants as answer
use Rattle.tailrec_lang.specs.declared.group.Group.{Group}
use Rattle.tailrec_lang.specs.Tree.{GroupTree, def_tree, group_tree, listed_def}
use Rattle.tailrec_lang.specs.Eval.{Arguments, Done, LeavesInScope, arguments, eval, outcome_of}
use Rattle.claims.specs.Headline.{cut, held_in}
use Rattle.claims.specs.Exact.{Gives}
use Rattle.self_test.specs.Start.{begin, empty_regions, given}
use Rattle.self_test.specs.Results.{Evaluates, result_of}

-- ---- what a register holds

-- a list begins with another register
pub result-other : (r i before : ℕ) (rs ws : List ℕ) → i < length rs → length ws ≡ length rs → get_or rs i 0 ≢ r
    → result_of r (drop i rs) (drop i ws) before ≡ result_of r (drop (i + 1) rs) (drop (i + 1) ws) before
result-other r i before rs ws h same other =
    let up : suc i ≡ i + 1 = omega arith in
    (λ k. result_of r (drop-cons rs i 0 h k) (drop-cons ws i 0 (omega (arith, h, same)) k) before)
    ∙ (λ k. cond (neq-eqb (get_or rs i 0) r other k) (get_or ws i 0) (result_of r (drop (suc i) rs) (drop (suc i) ws) before))
    ∙ (λ k. result_of r (drop (up k) rs) (drop (up k) ws) before)

-- a list begins with this one
pub result-here : (r i before : ℕ) (rs ws : List ℕ) → i < length rs → length ws ≡ length rs → eqb (get_or rs i 0) r ≡ true
    → result_of r (drop i rs) (drop i ws) before ≡ get_or ws i 0
result-here r i before rs ws h same here =
    (λ k. result_of r (drop-cons rs i 0 h k) (drop-cons ws i 0 (omega (arith, h, same)) k) before)
    ∙ (λ k. cond (here k) (get_or ws i 0) (result_of r (drop (suc i) rs) (drop (suc i) ws) before))

pub result-none : (r before n : ℕ) (rs ws : List ℕ) → length rs ≤ n → result_of r (drop n rs) (drop n ws) before ≡ before
result-none r before zero [] ws h = refl
result-none r before (suc n) [] ws h = refl
result-none r before zero (q ∷ rs) ws h = absurd (omega (arith, h))
result-none r before (suc n) (q ∷ rs) [] h = nothing n rs
  where
    nothing : (m : ℕ) (xs : List ℕ) → result_of r (drop m xs) [] before ≡ before
    nothing zero [] = refl
    nothing zero (x ∷ xs) = refl
    nothing (suc m) [] = refl
    nothing (suc m) (x ∷ xs) = nothing m xs
result-none r before (suc n) (q ∷ rs) (w ∷ ws) h = result-none r before n rs ws (omega (arith, h))

-- the words of all registers, where what isn't among these holds what it held before
pub result-held : (r before : ℕ) (reg : ℕ → ℕ) (rs : List ℕ) → ((Contains rs r → ⊥) → before ≡ reg r) → result_of r rs (map reg rs) before ≡ reg r
result-held r before reg [] other = other (λ c. none c)
  where
    none : Contains [] r → ⊥
    none (k, h, e) = omega (arith, h)
result-held r before reg (q ∷ rs) other = elim (eqb_tells q r) [
  | inl t ↦ (λ k. cond (t.0 k) (reg q) (result_of r rs (map reg rs) before)) ∙ ap reg t.1
  | inr f ↦
      (λ k. cond (f.0 k) (reg q) (result_of r rs (map reg rs) before))
      ∙ result-held r before reg rs (λ absent. other (λ c. later c f.1 absent))
]
  where
    later : Contains (q ∷ rs) r → (q ≡ r → ⊥) → (Contains rs r → ⊥) → ⊥
    later (zero, h, e) differ absent = differ e
    later (suc k, h, e) differ absent = absent (k, omega (arith, h), e)

-- ---- arguments

-- no byte is held in regions without an address
no-bytes : (m : Bytes) (n : ℕ) → map (cut m) (replicate n (λ q. false)) ≡ replicate n (λ a. None)
no-bytes m zero = refl
no-bytes m (suc n) = ap (λ (bs : List Bytes). (λ a. None) ∷ bs) (no-bytes m n)

pub held : (number size : ℕ) (g : GroupTree) (x : Arguments) → x.words ≡ map (given number size) g.regs → x.mems ≡ replicate g.mems (λ a. None)
    → x ≡ held_in (begin number size) g (empty_regions g)
held number size g x words mems = λ i. record { words = words i; mems = (mems ∙ sym (no-bytes (begin number size).mem g.mems)) i }

-- one empty memory more
replicate-more : (n : ℕ) (m : Bytes) → replicate n m ++ m ∷ [] ≡ replicate (n + 1) m
replicate-more zero m = refl
replicate-more (suc n) m =
    let up : suc (n + 1) ≡ suc n + 1 = omega arith in
    ap (λ (ms : List Bytes). m ∷ ms) (replicate-more n m) ∙ (λ i. replicate (up i) m)

pub empty-more : (ms : List (FinMap nat_cmp ℕ)) (n : ℕ) (m : FinMap nat_cmp ℕ) → map get ms ≡ replicate n (λ a. None) → ((a : ℕ) → get m a ≡ None)
    → map get (ms ++ m ∷ []) ≡ replicate (n + 1) (λ a. None)
empty-more ms n m before none =
    map-append get ms (m ∷ []) ∙ (λ i. before i ++ (λ a. none a i) ∷ []) ∙ replicate-more n (λ a. None)

-- ---- the evaluation

is-done : (o : Answer) (exit pc left : ℕ) (results : Arguments) → outcome_of o ≡ Done exit pc results left
    → ((e p : ℕ) (x : Args) (l : ℕ) → o ≡ answer.Done e p x l → ⊥) → ⊥
is-done (answer.Done e p x l) exit pc left results d f = f e p x l refl
is-done (answer.SideFalse def ordinal) exit pc left results d f = cc
is-done answer.Turns exit pc left results d f = cc

results-same : (e p l exit pc left : ℕ) (x results : Arguments) → Done e p x l ≡ Done exit pc results left → x ≡ results
results-same e p l exit pc left x results d = cc

module _ (number size : ℕ) (group : Group) (within : ℕ) (t : State) (gives : Gives (group_tree group) (empty_regions (group_tree group)) (begin number size) within t)
    (x : Args) (def : ℕ) (o : Answer) (last : def ≡ length group.defs - 1) (words : x.words ≡ map (given number size) group.regs)
    (mems : map get x.mems ≡ replicate group.mems (λ a. None)) (found : outcome_of o ≡ eval (group_tree group) def (arguments x) within)
  where
    evaluated : outcome_of o ≡ eval (group_tree group) (listed_def (group_tree group)) (held_in (begin number size) (group_tree group) (empty_regions (group_tree group))) within
    evaluated =
        let many : length (map def_tree group.defs) ≡ length group.defs = length-map group.defs def_tree in
        let listed : def ≡ listed_def (group_tree group) = omega (arith, last, many) in
        let same = held number size (group_tree group) (arguments x) words mems in
        found ∙ (λ i. eval (group_tree group) (listed i) (same i) within)

    -- it is done
    pub not-other : ((e p : ℕ) (y : Args) (l : ℕ) → o ≡ answer.Done e p y l → ⊥) → ⊥
    not-other f = is-done o gives.exit gives.pc gives.left gives.results (evaluated ∙ gives.done) f

    module _ (exit pc left value : ℕ) (y : Args) (is : o ≡ answer.Done exit pc y left) (result : value ≡ result_of 10 group.regs y.words number) where
      pub evaluates : LeavesInScope (group_tree group) def within (outcome_of o) → Evaluates number size (group_tree group) within (within - left) value
      evaluates scope =
          let few : left < within = (subst (λ a. LeavesInScope (group_tree group) def within (outcome_of a)) is scope).3 in
          record {
            exit = exit;
            pc = pc;
            results = arguments y;
            left = left;
            done = sym evaluated ∙ ap outcome_of is;
            turns = omega (arith, few);
            value = sym result;
          }

      -- x10 holds what it does at the end of the run
      pub value-same : value ≡ t.reg 10
      value-same =
          let all : arguments y ≡ gives.results =
          results-same exit pc left gives.exit gives.pc gives.left (arguments y) gives.results (sym (ap outcome_of is) ∙ evaluated ∙ gives.done) in
          let there : y.words ≡ map t.reg group.regs = ap (λ (z : Arguments). z.words) (all ∙ sym gives.ends.results) in
          result ∙ (λ i. result_of 10 group.regs (there i) number)
          ∙ result-held 10 number t.reg group.regs (λ absent. sym (gives.ends.registers 10 (omega arith) absent))
