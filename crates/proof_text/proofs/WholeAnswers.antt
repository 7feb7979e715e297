-- What calls answer for lines that state whole triples, from what they answer behind each list of lines.
use Rattle.std.proofs.Common.{ℕ, List, Option, Some, None, IfSome, Result, Ok, Err}
use Rattle.std.specs.Prelude.{IfOk, IfErr}
use Rattle.mc_shelf.specs.Shelf.{Contents}
use Rattle.group_text.specs.declared.read_error.TextFault.{TextFault}
use Rattle.group_text.specs.declared.read_error.TextFault.TheVariants as text
use Rattle.proof_text.specs.declared.pull_fault.PullFault.{PullFault}
use Rattle.proof_text.specs.declared.pull_fault.PullFault.TheVariants as pull
use Rattle.proof_text.specs.Answers.{OnBad, OnGiven}
use Rattle.proof_text.specs.Pulling.{IfBad}
use Rattle.proof_text.specs.inner.PulledRows.{IfFile}

module _ {A X : Type 0} where
  pub given_all : (r : Result (Option X) TextFault) (Q : A → X → Type 0) (P : X → Type 0) → ((x : X) → ((a : A) → Q a x) → P x) → ((a : A) → OnGiven r (Q a)) → OnGiven r P
  given_all (Ok (Some x)) Q P so h = so x h
  given_all (Ok None) Q P so h = tt
  given_all (Err e) Q P so h = tt

  pub text_bad_all : (r : Result (Option X) TextFault) (Q : A → ℕ → Type 0) (P : ℕ → Type 0) → ((n : ℕ) → ((a : A) → Q a n) → P n) → ((a : A) → OnBad r (Q a)) → OnBad r P
  text_bad_all (Ok o) Q P so h = tt
  text_bad_all (Err (text.Bad n)) Q P so h = so n h
  text_bad_all (Err text.NoMemory) Q P so h = tt

module _ {A : Type 0} (F : A → Type 0) where
  -- what is said of the file that the name holds
  where_all : (told : Option Contents) (name : List ℕ) (Q : A → List ℕ → Type 0) (P : List ℕ → Type 0) → ((file : List ℕ) → ((a : A) → F a → Q a file) → P file) → ((a : A) → F a → IfFile told name (Q a)) → IfFile told name P
  where_all None name Q P so h = tt
  where_all (Some files) name Q P so h = by (files name) h
    where
      by : (held : Option (List ℕ)) → ((a : A) → F a → IfSome held (Q a)) → IfSome held P
      by None h = tt
      by (Some file) h = so file h

  bad_one : (fault : PullFault) (G : Type 0) (told : Option Contents) (name : List ℕ) (Q : A → ℕ → List ℕ → Type 0) (P : ℕ → List ℕ → Type 0) → ((n : ℕ) (file : List ℕ) → ((a : A) → F a → Q a n file) → P n file)
      → ((a : A) → F a → IfBad fault (λ n. G → IfFile told name (Q a n))) → IfBad fault (λ n. G → IfFile told name (P n))
  bad_one (pull.Bad n) G told name Q P so h = λ going. where_all told name (λ a. Q a n) (P n) (so n) (λ a f. h a f going)
  bad_one pull.Fault G told name Q P so h = tt
  bad_one pull.NoMemory G told name Q P so h = tt

  module _ {X : Type 0} where
    pub pulled_all : (r : Result (Option X) PullFault) (told : Option Contents) (name : List ℕ) (Q : A → X → List ℕ → Type 0) (P : X → List ℕ → Type 0) → ((x : X) (file : List ℕ) → ((a : A) → F a → Q a x file) → P x file)
        → ((a : A) → F a → IfOk r (λ found. IfSome found (λ x. IfFile told name (Q a x)))) → IfOk r (λ found. IfSome found (λ x. IfFile told name (P x)))
    pulled_all (Ok (Some x)) told name Q P so h = where_all told name (λ a. Q a x) (P x) (so x) h
    pulled_all (Ok None) told name Q P so h = tt
    pulled_all (Err e) told name Q P so h = tt

    pub refused_all : (r : Result (Option X) PullFault) (G : Type 0) (told : Option Contents) (name : List ℕ) (Q : A → ℕ → List ℕ → Type 0) (P : ℕ → List ℕ → Type 0) → ((n : ℕ) (file : List ℕ) → ((a : A) → F a → Q a n file) → P n file)
        → ((a : A) → F a → IfErr r (λ fault. IfBad fault (λ n. G → IfFile told name (Q a n)))) → IfErr r (λ fault. IfBad fault (λ n. G → IfFile told name (P n)))
    refused_all (Ok o) G told name Q P so h = tt
    refused_all (Err fault) G told name Q P so h = bad_one fault G told name Q P so h
