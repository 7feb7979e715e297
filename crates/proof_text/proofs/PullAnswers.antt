-- Answers of calls, from those of the calls that they make.
use Rattle.std.proofs.Common.{◌≡◌, ℕ, List, Option, Some, None, IfSome, IfNone, Result, Ok, Err, subst}
use Rattle.std.specs.Prelude.{IfOk, IfErr}
use Rattle.mc_shelf.specs.Shelf.{Contents}
use Rattle.proof_text.specs.declared.pull_fault.PullFault.{PullFault}
use Rattle.proof_text.specs.declared.pull_fault.PullFault.TheVariants as pull
use Rattle.proof_text.specs.Pulling.{IfBad}
use Rattle.proof_text.specs.inner.PulledRows.{IfFile}

module _ {X E : Type 0} where
  pub ok_so : (r : Result X E) (P Q : X → Type 0) → ((x : X) → P x → Q x) → IfOk r P → IfOk r Q
  ok_so (Ok x) P Q so h = so x h
  ok_so (Err e) P Q so h = tt

module _ {X : Type 0} where
  pub some_so : (o : Option X) (P Q : X → Type 0) → ((x : X) → P x → Q x) → IfSome o P → IfSome o Q
  some_so None P Q so h = tt
  some_so (Some x) P Q so h = so x h

  pub none_so : (o : Option X) (A B : Type 0) → (A → B) → IfNone o A → IfNone o B
  none_so None A B so h = so h
  none_so (Some x) A B so h = tt

module _ {X E : Type 0} where
  -- none was found
  pub none_given : (r : Result (Option X) E) (P : X → Type 0) → IfOk r (λ found. found ≡ None) → IfOk r (λ found. IfSome found P)
  none_given (Ok None) P h = tt
  none_given (Ok (Some x)) P h = absurd (some x h)
    where
      some : (x : X) → Some x ≡ None → ⊥
      some x h = cc
  none_given (Err e) P h = tt

  pub none_ended : (r : Result (Option X) E) (A B : Type 0) → (A → B) → IfOk r (λ _. A) → IfOk r (λ found. IfNone found B)
  none_ended (Ok None) A B so h = so h
  none_ended (Ok (Some x)) A B so h = tt
  none_ended (Err e) A B so h = tt

pub bad_so : (f : PullFault) (P Q : ℕ → Type 0) → ((n : ℕ) → P n → Q n) → IfBad f P → IfBad f Q
bad_so (pull.Bad n) P Q so h = so n h
bad_so pull.Fault P Q so h = tt
bad_so pull.NoMemory P Q so h = tt

pub bad_all : (f : PullFault) (P : ℕ → Type 0) → ((n : ℕ) → P n) → IfBad f P
bad_all (pull.Bad n) P all = all n
bad_all pull.Fault P all = tt
bad_all pull.NoMemory P all = tt

pub err_bad_so : {X : Type 0} (r : Result X PullFault) (P Q : ℕ → Type 0) → ((n : ℕ) → P n → Q n) → IfErr r (λ f. IfBad f P) → IfErr r (λ f. IfBad f Q)
err_bad_so (Ok x) P Q so h = tt
err_bad_so (Err f) P Q so h = bad_so f P Q so h

-- what is said of the file that the name holds
pub held_at : (told : Option Contents) (name : List ℕ) (P : List ℕ → Type 0) (files : Contents) (file : List ℕ) → told ≡ Some files → files name ≡ Some file → IfFile told name P → P file
held_at told name P files file is held h = subst (λ (o : Option (List ℕ)). IfSome o P) held (subst (λ (t : Option Contents). IfFile t name P) is h)
