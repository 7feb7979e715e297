-- The bytes that words of memory put in place are there at the end of a run.
use Rattle.std.proofs.Common.{◌≡◌, ℕ, zero, suc, ◌+◌, ◌-◌, ◌<◌, true, cond, List, [], ◌∷◌, length, slice_get, is_some, Option, Some, None, refl, sym, ap, ◌∙◌, arith}
use Rattle.std.specs.List.{AllByRecursion}
use Rattle.std.specs.Option.{option_and_then, option_or}
use Rattle.std.proofs.lemmas.Bool.{le-leb}
use Rattle.rv_words.specs.Bytes.{Bytes, bytes_from, over}
use Rattle.rv_words.specs.declared.range.Range.{Range}
use Rattle.rv_machine.specs.State.{State}
use Rattle.rv_machine.specs.Step.{step}
use Rattle.rv_machine.specs.Run.{run}
use Rattle.rv_machine.proofs.StepLemmas.{step-present}
use Rattle.mcdec_answers.specs.declared.command.Memory.TheVariants.{First}
use Rattle.mcdec_answers.specs.Command.{Arg, ranges}
use Rattle.mcdec_commands.specs.Memory.{placed}
use Rattle.mcdec_commands.specs.RunAnswer.{state_given}

-- all addresses of the range have a byte
abbrev pub IsPresent : Bytes → Range → Type 0
IsPresent m r = (k : ℕ) → k < length r.bytes → is_some (m (r.at + k)) ≡ true

-- ---- runs

some_state : (s t : State) → Some s ≡ Some t → s ≡ t
some_state s t e = cc

-- a run changes no address from present to absent, nor back
run-present : (k : ℕ) (s t : State) → run s k ≡ Some t → (q : ℕ) → is_some (t.mem q) ≡ is_some (s.mem q)
unfolding run
run-present zero s t e q = ap (λ (x : State). is_some (x.mem q)) (sym (some_state s t e))
run-present (suc k) s t e q = after-step (step s) refl e (λ u rest. run-present k u t rest q)
  where
    after-step : (o : Option State) → step s ≡ o → option_and_then (λ u. run u k) o ≡ Some t → ((u : State) → run u k ≡ Some t → is_some (t.mem q) ≡ is_some (u.mem q)) → is_some (t.mem q) ≡ is_some (s.mem q)
    after-step None is e rest = absurd cc
    after-step (Some u) is e rest = rest u e ∙ step-present s u is q

-- ---- ranges

or-keeps : (x y : Option ℕ) → is_some y ≡ true → is_some (option_or x y) ≡ true
or-keeps None y h = h
or-keeps (Some v) y h = refl

or-has : (x y : Option ℕ) → is_some x ≡ true → is_some (option_or x y) ≡ true
or-has None y h = absurd cc
or-has (Some v) y h = refl

placed-keeps : (rs : List Range) (m : Bytes) (q : ℕ) → is_some (m q) ≡ true → is_some (placed rs m q) ≡ true
placed-keeps [] m q h = h
placed-keeps (r ∷ rs) m q h = placed-keeps rs (over (bytes_from r.at r.bytes) m) q (or-keeps (bytes_from r.at r.bytes q) (m q) h)

item-there : (bs : List ℕ) (k : ℕ) → k < length bs → is_some (slice_get bs k) ≡ true
item-there [] k lt = absurd (omega arith)
item-there (b ∷ bs) zero lt = refl
item-there (b ∷ bs) (suc k) lt = item-there bs k (omega arith)

range-there : (a : ℕ) (bs : List ℕ) (k : ℕ) → k < length bs → is_some (bytes_from a bs (a + k)) ≡ true
range-there a bs k lt =
    let place : a + k - a ≡ k = omega arith in
    (λ i. is_some (cond (le-leb a (a + k) (omega arith) i) (slice_get bs (place i)) None)) ∙ item-there bs k lt

placed-has : (rs : List Range) (m : Bytes) → AllByRecursion (IsPresent (placed rs m)) rs
placed-has [] m = tt
placed-has (r ∷ rs) m =
    let more = over (bytes_from r.at r.bytes) m in
    ((λ k lt. placed-keeps rs more (r.at + k) (or-has (bytes_from r.at r.bytes (r.at + k)) (m (r.at + k)) (range-there r.at r.bytes k lt))), placed-has rs more)

still-there : (m n : Bytes) → ((q : ℕ) → is_some (n q) ≡ is_some (m q)) → (rs : List Range) → AllByRecursion (IsPresent m) rs → AllByRecursion (IsPresent n) rs
still-there m n same [] all = tt
still-there m n same (r ∷ rs) all = ((λ k lt. same (r.at + k) ∙ all.0 k lt), still-there m n same rs all.1)

-- no byte of the lines of memory is one that is absent
pub asked-present : (file : List ℕ) (args : List Arg) (a k : ℕ) (t : State) → run (state_given file args a) k ≡ Some t → AllByRecursion (IsPresent t.mem) (ranges First args)
asked-present file args a k t e =
    let s = state_given file args a in
    still-there s.mem t.mem (run-present k s t e) (ranges First args) (placed-has (ranges First args) _)
