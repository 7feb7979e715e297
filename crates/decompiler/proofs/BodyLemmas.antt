-- Steps and arms of bodies, and places in lists.
use Rattle.std.proofs.Common.{◌≡◌, ℕ, zero, suc, ◌+◌, Bool, true, false, cond, eqb, eqb-true, eq-eqb, Option, Some, None, option_map, List, [], ◌∷◌, ◌++◌, map, Contains, refl, sym, subst, ◌∙◌, arith}
use Rattle.std.specs.Prelude.{slice_get}
use Rattle.word_terms.specs.Tree.{CondTree}
use Rattle.word_terms.specs.Environment.{Environment}
use Rattle.tailrec_lang.specs.Tree.{StepTree, Need, BodyTree, ArmTrees, with_steps}
use Rattle.tailrec_lang.specs.Eval.{Meaning, NeedFalse, body_ending, arm_ending, after_step, step_holds, step_needs, needs}
use Rattle.instr_axioms.specs.Effects.{AreTrue}
use Rattle.code_parts.specs.Bodies.{arms_over, index_of}

-- ---- steps

-- the variables after steps
abbrev pub after_steps : List StepTree → Environment → Environment
after_steps [] e = e
after_steps (s ∷ ss) e = after_steps ss (after_step s e)

-- evaluation goes on after each of the steps
abbrev pub AllHold : List StepTree → Environment → Type 0
AllHold [] e = Unit {0}
AllHold (s ∷ ss) e = (step_holds s e ≡ true) × AllHold ss (after_step s e)

abbrev pub needs_passed : List StepTree → ℕ → ℕ
needs_passed [] o = o
needs_passed (s ∷ ss) o = needs_passed ss (o + step_needs s)

pub ending-steps : (call : Meaning) (d : ℕ) (b : BodyTree) (ss : List StepTree) (e : Environment) (o left : ℕ) → AllHold ss e
    → body_ending call d (with_steps ss b) e o left ≡ body_ending call d b (after_steps ss e) (needs_passed ss o) left
ending-steps call d b [] e o left h = refl
ending-steps call d b (s ∷ ss) e o left h =
    (λ i. cond (h.0 i) (body_ending call d (with_steps ss b) (after_step s e) (o + step_needs s) left) (NeedFalse d o))
    ∙ ending-steps call d b ss (after_step s e) (o + step_needs s) left h.1

-- needs change no variables
pub needs-hold : (cs : List CondTree) (ss : List StepTree) (e : Environment) → AreTrue cs e → AllHold ss e → AllHold (map Need cs ++ ss) e
needs-hold [] ss e h k = k
needs-hold (c ∷ cs) ss e h k = (h.0, needs-hold cs ss e h.1 k)

pub needs-after : (cs : List CondTree) (ss : List StepTree) (e : Environment) → after_steps (map Need cs ++ ss) e ≡ after_steps ss e
needs-after [] ss e = refl
needs-after (c ∷ cs) ss e = needs-after cs ss e

-- ---- arms

pub record ArmEnds (call : Meaning) (d : ℕ) (bs : ArmTrees) (k : ℕ) (b : BodyTree) (e : Environment) (o left : ℕ) : Type 0 where
  pub ordinal : ℕ
  pub ends : arm_ending call d bs k e o left ≡ body_ending call d b e ordinal left

-- the arm for a node is the body for it
pub arm-over : (call : Meaning) (d : ℕ) (go : ℕ → BodyTree) (ns : List ℕ) (k n : ℕ) (e : Environment) (o left : ℕ) → slice_get ns k ≡ Some n
    → ArmEnds call d (arms_over ns go) k (go n) e o left
arm-over call d go [] k n e o left h = absurd (cc)
arm-over call d go (y ∷ ns) zero n e o left h = let q : y ≡ n = cc in record { ordinal = o; ends = λ i. body_ending call d (go (q i)) e o left }
arm-over call d go (y ∷ ns) (suc k) n e o left h = let r = arm-over call d go ns k n e (o + needs (go y)) left h in record { ordinal = r.ordinal; ends = r.ends }

-- ---- where a node stands

pub record IsFound (xs : List ℕ) (x : ℕ) : Type 0 where
  pub place : ℕ
  pub found : index_of xs x ≡ Some place

-- what stands in a list is found
pub is-found : (xs : List ℕ) (x : ℕ) → Contains xs x → IsFound xs x
is-found [] x (k, l, e) = absurd (omega arith)
is-found (y ∷ ys) x (zero, l, e) = let t : eqb x y ≡ true = eq-eqb x y (sym e) in record { place = 0; found = λ i. cond (t i) (Some 0) (option_map suc (index_of ys x)) }
is-found (y ∷ ys) x (suc k, l, e) = by (eqb x y) (is-found ys x (k, omega arith, e)) refl
  where
    by : (b : Bool) → IsFound ys x → eqb x y ≡ b → IsFound (y ∷ ys) x
    by true r t = record { place = 0; found = λ i. cond (t i) (Some 0) (option_map suc (index_of ys x)) }
    by false r t = record { place = suc r.place; found = λ i. cond (t i) (Some 0) (option_map suc (r.found i)) }

-- and what is found stands there
pub found-at : (xs : List ℕ) (x k : ℕ) → index_of xs x ≡ Some k → slice_get xs k ≡ Some x
found-at [] x k h = absurd (cc)
found-at (y ∷ ys) x k h = by (λ j q. found-at ys x j q) (eqb x y) refl h
  where
    deep : (o : Option ℕ) → ((j : ℕ) → o ≡ Some j → slice_get ys j ≡ Some x) → option_map suc o ≡ Some k → slice_get (y ∷ ys) k ≡ Some x
    deep None at g = absurd (cc)
    deep (Some j) at g = let z : suc j ≡ k = cc in subst (λ i. slice_get (y ∷ ys) i ≡ Some x) z (at j refl)

    by : ((j : ℕ) → index_of ys x ≡ Some j → slice_get ys j ≡ Some x) → (b : Bool) → eqb x y ≡ b → cond b (Some 0) (option_map suc (index_of ys x)) ≡ Some k → slice_get (y ∷ ys) k ≡ Some x
    by at true t g = let z : 0 ≡ k = cc in let e : x ≡ y = eqb-true x y t in subst (λ j. slice_get (y ∷ ys) j ≡ Some x) z (λ i. Some (sym e i))
    by at false t g = deep (index_of ys x) at g

pub contains-at : (xs : List ℕ) (k x : ℕ) → slice_get xs k ≡ Some x → Contains xs x
contains-at [] k x h = absurd (cc)
contains-at (y ∷ ys) zero x h = let q : y ≡ x = cc in (0, omega arith, q)
contains-at (y ∷ ys) (suc k) x h = let r = contains-at ys k x h in (suc r.0, omega (arith, r.1), r.2)
