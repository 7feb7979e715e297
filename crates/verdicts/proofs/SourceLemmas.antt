-- The calls of a text in memory or in a file: their exits, and what the next group is.
use Rattle.std.proofs.Common.{◌≡◌, ℕ, Bool, List, Option, Some, None, IfSome, IsSome, Result, Ok, Err, refl, sym, subst}
use Rattle.std.specs.Prelude.{IfErr, IfOk, OnOk}
use Rattle.std.specs.Result.{IsErrAnd}
use Rattle.mc_shelf.specs.Shelf.{Contents}
use Rattle.tailrec_lang.specs.declared.group.Group.{Group}
use Rattle.tailrec_lang.specs.Tree.{group_tree}
use Rattle.tailrec_lang.specs.WellFormed.{IsFirstIllFormed, IsWellFormed}
use Rattle.group_text.specs.declared.version.Version.{Version as Known}
use Rattle.group_text.specs.Version.{version_of}
use Rattle.proof_text.specs.declared.pull_fault.PullFault.{PullFault}
use Rattle.proof_text.specs.declared.pull_fault.PullFault.TheVariants as pull
use Rattle.proof_text.specs.FirstProofs.{Progress}
use Rattle.proof_text.specs.Pulling.{IfBad, is_fault}
use Rattle.proof_text.specs.Sources.{BadGroupAt, Both, GivesGroup}
use Rattle.proof_text.specs.inner.LineReaders.{LineReaders, ReadsLines}
use Rattle.proof_text.specs.inner.PulledRows.{IfFile}
use Rattle.verdicts.specs.declared.verdict.Pulled.{Pulled}
use Rattle.verdicts.specs.declared.verdict.Pulled.TheVariants as pulled
use Rattle.verdicts.specs.declared.verdict.Verdict.{Verdict}
use Rattle.verdicts.specs.declared.verdict.Verdict.TheVariants as verdict
use Rattle.verdicts.specs.Pulled.{IfVerdict, as_verdict, is_outside}
use Rattle.verdicts.specs.inner.Checking.{NextGroup}
use Rattle.verdicts.specs.inner.Sourced.{pulled_by, stops_outside, verdicts}
use Rattle.verdicts.proofs.JudgedLemmas.{bad-after}
use Rattle.verdicts.proofs.Told.{both-one, both-told, some-all, some-two}

-- ---- the exits of a `?`

module _ {X : Type 0} where
  pub err-exit : (G : Pulled → Type 0) (result : Result X Pulled) (e : Pulled) → IsErrAnd result (λ y. y ≡ e) → G e → IfErr result G
  err-exit G (Ok x) e is h = absurd is
  err-exit G (Err f) e is h = subst G (sym is) h

  pub outside-exit : (L : Bool → Type 0) (result : Result X Pulled) (e : Pulled) → IsErrAnd result (λ y. y ≡ e) → L (is_outside e) → L (stops_outside result)
  outside-exit L (Ok x) e is h = absurd is
  outside-exit L (Err f) e is h = subst (λ (y : Pulled). L (is_outside y)) (sym is) h

  pub verdicts-exit : (G : Result X Verdict → Type 0) (result : Result X Pulled) (e : Pulled) → IsErrAnd result (λ y. y ≡ e) → G (Err (as_verdict e)) → G (verdicts result)
  verdicts-exit G (Ok x) e is h = absurd is
  verdicts-exit G (Err f) e is h = subst (λ (y : Pulled). G (Err (as_verdict y))) (sym is) h

-- ---- a group

module _ (R : LineReaders) (o n : Option Progress) (number : ℕ) where
  pub group-given : (g : Group) → Both o n (GivesGroup R.grammar (group_tree g)) → IsWellFormed (group_tree g) → Both o n (λ old new. NextGroup R.grammar number old new (Ok (Some g)))
  group-given g given well = both-one o n (GivesGroup R.grammar (group_tree g)) _ (λ old new k. ((k.on.text, k.on.version), well, k.given)) given

  pub group-ill : (g : Group) (d : ℕ) → Both o n (GivesGroup R.grammar (group_tree g)) → IsFirstIllFormed (group_tree g) d
      → Both o n (λ old new. NextGroup R.grammar number old new (Err (verdict.BadDef number d)))
  group-ill g d given ill = both-one o n (GivesGroup R.grammar (group_tree g)) _ (λ old new k. (refl, group_tree g, ill, (k.on.text, k.on.version), k.given)) given

  pub group-bad : (known : Known) → ReadsLines R (version_of known) → (fault : PullFault) → IfSome o (λ r. r.version ≡ known) → IfBad fault (λ k. IfSome o (BadGroupAt R.grammar k)) → IfSome o (λ _. IsSome n)
      → Both o n (λ old new. NextGroup R.grammar number old new (Err (as_verdict (pulled_by fault))))
  group-bad known laws (pull.Bad k) of bad tells =
      both-told o n (λ r. (r.version ≡ known) × BadGroupAt R.grammar k r) _
      (λ old new at ps h may. let is = at.1 ps h may in bad-after R ps old k (subst (λ (x : Known). ReadsLines R (version_of x)) (sym at.0) laws) h is.0 is.1) tells
      (some-two o (λ r. r.version ≡ known) (BadGroupAt R.grammar k) _ (λ r is b. (is, b)) of bad)
  group-bad known laws pull.Fault of bad tells = both-told o n (λ _. Unit {0}) _ (λ old new at. tt) tells (some-all o (λ _. Unit {0}) (λ a. tt))
  group-bad known laws pull.NoMemory of bad tells = both-told o n (λ _. Unit {0}) _ (λ old new at. tt) tells (some-all o (λ _. Unit {0}) (λ a. tt))

-- ---- a text in a file

pub verdict-held : (told : Option Contents) (name : List ℕ) (result : Pulled) (P : Verdict → List ℕ → Type 0) → IfFile told name (P (as_verdict result)) → IfVerdict result (λ v. IfFile told name (P v))
verdict-held told name (pulled.Verdict v) P h = h
verdict-held told name pulled.Fault P h = tt

-- ---- where a call is passed on

module _ {X : Type 0} where
  pub ok-so : (result : Result X Pulled) (A B : Type 0) → (A → B) → OnOk result A → OnOk result B
  ok-so (Ok x) A B so h = so h
  ok-so (Err e) A B so h = tt

  pub ok-all : (result : Result X Pulled) (A : Type 0) → A → OnOk result A
  ok-all (Ok x) A a = a
  ok-all (Err e) A a = tt

pub fault-outside : (X : Type 0) (fault : PullFault) → is_fault {X = X} (Err fault) ≡ is_outside (pulled_by fault)
fault-outside X (pull.Bad n) = refl
fault-outside X pull.Fault = refl
fault-outside X pull.NoMemory = refl

-- where one is given
pub some-all-of : {Y : Type 0} (result : Result (Option Y) Pulled) (A : Type 0) → A → IfOk result (λ found. IfSome found (λ _. A))
some-all-of (Ok (Some y)) A a = a
some-all-of (Ok None) A a = tt
some-all-of (Err e) A a = tt

pub held-so : (told : Option Contents) (name : List ℕ) (result : Pulled) (P Q : Verdict → List ℕ → Type 0) → ((v : Verdict) (file : List ℕ) → P v file → Q v file) → IfVerdict result (λ v. IfFile told name (P v)) → IfVerdict result (λ v. IfFile told name (Q v))
held-so told name (pulled.Verdict v) P Q so h = by told h
  where
    in-name : (held : Option (List ℕ)) → IfSome held (P v) → IfSome held (Q v)
    in-name None h = tt
    in-name (Some file) h = so v file h

    by : (told : Option Contents) → IfFile told name (P v) → IfFile told name (Q v)
    by None h = tt
    by (Some files) h = in-name (files name) h
held-so told name pulled.Fault P Q so h = tt
