-- What the calls of a reader, or of a text in a file, give of a source of groups and lines.
use Rattle.std.proofs.Common.{◌≡◌, ℕ, ◌<◌, ◌≤◌, true, false, true≢false, List, [], ◌∷◌, ◌++◌, length, take, Option, Some, None, IfSome, IfNone, Result, Ok, Err, refl, sym, ap, subst, ◌∙◌, arith}
use Rattle.std.specs.Prelude.{◌↔◌, IfOk}
use Rattle.mc_shelf.specs.Shelf.{Contents}
use Rattle.mc_shelf.proofs.OnlyReadsLemmas.{reads_so}
use Rattle.tailrec_lang.specs.Tree.{GroupTree}
use Rattle.group_text.specs.declared.read_error.TextFault.{TextFault}
use Rattle.group_text.specs.declared.read_error.TextFault.TheVariants as text
use Rattle.proof_text.specs.declared.pull_fault.PullFault.{PullFault}
use Rattle.proof_text.specs.declared.pull_fault.PullFault.TheVariants as pull
use Rattle.proof_text.specs.Line.{ProofOf}
use Rattle.proof_text.specs.LineGrammar.{LineGrammar}
use Rattle.proof_text.specs.Proofs.{bare}
use Rattle.proof_text.specs.FirstProofs.{Progress, HasGivenOver, ProofEnds, with_line}
use Rattle.proof_text.specs.Answers.{IsEnd, OnBad, OnEnd, OnGiven}
use Rattle.proof_text.specs.Pulling.{IfBad, PullState, Pulls, is_fault, progress_in}
use Rattle.proof_text.specs.Sources.{Both, EndsLines, GivesGroup, GivesLine, GoesOnIn, held_progress, pull_fault, told_progress}
use Rattle.proof_text.specs.inner.PulledRows.{IfFile}
use Rattle.proof_text.specs.inner.Sourcing.{PullsSo}

-- ---- a text in memory

module _ {X : Type 0} where
  pub some_of : (found : Option X) (P : X → Type 0) → OnGiven (Ok found) P → IfSome found P
  some_of None P h = tt
  some_of (Some x) P h = h

  pub some_both : (found : Option X) (P Q R : X → Type 0) → ((x : X) → P x → Q x → R x) → OnGiven (Ok found) P → OnGiven (Ok found) Q → IfSome found R
  some_both None P Q R so h k = tt
  some_both (Some x) P Q R so h k = so x h k

  pub none_of : (found : Option X) (A B : Type 0) → (A → B) → OnEnd (Ok found) A → IfNone found B
  none_of None A B so h = so h
  none_of (Some x) A B so h = tt

  pub ended_of : (found : Option X) (A B : Type 0) → OnEnd (Ok found) A → (IsEnd (Ok found) ↔ B) → IfNone found (A × B)
  ended_of None A B a b = (a, b.0 tt)
  ended_of (Some x) A B a b = tt

  pub fewer_of : (found : Option X) (old new : Progress) → OnEnd (Ok found) (new ≡ old) → OnGiven (Ok found) (λ _. length new.rest < length old.rest) → length new.rest ≤ length old.rest
  fewer_of None old new same less = let e = ap (λ (r : Progress). length r.rest) same in omega (arith, e)
  fewer_of (Some x) old new same less = omega (arith, less)

pub bad_of : (X : Type 0) (fault : TextFault) (P Q R : ℕ → Type 0) → ((n : ℕ) → P n → Q n → R n) → OnBad {X = X} (Err fault) P → OnBad {X = X} (Err fault) Q → IfBad (pull_fault fault) R
bad_of X (text.Bad n) P Q R so h k = so n h k
bad_of X text.NoMemory P Q R so h k = tt

pub no_fault : (X : Type 0) (fault : TextFault) → is_fault {X = X} (Err (pull_fault fault)) ≡ false
no_fault X (text.Bad n) = refl
no_fault X text.NoMemory = refl

-- ---- a text in a file

module _ {X : Type 0} where
  pub ok_some : (result : Result (Option X) PullFault) (P Q R : X → Type 0) → ((x : X) → P x → Q x → R x) → IfOk result (λ found. IfSome found P) → IfOk result (λ found. IfSome found Q) → IfOk result (λ found. IfSome found R)
  ok_some (Ok None) P Q R so h k = tt
  ok_some (Ok (Some x)) P Q R so h k = so x h k
  ok_some (Err e) P Q R so h k = tt

  pub ok_none : (result : Result (Option X) PullFault) (A B : Type 0) → (A → B) → IfOk result (λ found. IfNone found A) → IfOk result (λ found. IfNone found B)
  ok_none (Ok None) A B so h = so h
  ok_none (Ok (Some x)) A B so h = tt
  ok_none (Err e) A B so h = tt

  -- what holds of all that is given, where something holds of each answer
  pub ok_given : (result : Result (Option X) PullFault) (A : Type 0) (P : Option X → Type 0) (Q : X → Type 0) → ((x : X) → A → P (Some x) → Q x) → IfOk result (λ _. A) → IfOk result P → IfOk result (λ found. IfSome found Q)
  ok_given (Ok None) A P Q so h k = tt
  ok_given (Ok (Some x)) A P Q so h k = so x h k
  ok_given (Err e) A P Q so h k = tt

  pub fault_is : (result : Result (Option X) PullFault) → is_fault result ≡ true → result ≡ Err pull.Fault
  fault_is (Ok x) e = absurd (true≢false (sym e))
  fault_is (Err (pull.Bad n)) e = absurd (true≢false (sym e))
  fault_is (Err pull.Fault) e = refl
  fault_is (Err pull.NoMemory) e = absurd (true≢false (sym e))

none-fault : (fault : PullFault) → None ≡ Some fault → ⊥
none-fault f e = cc

pub pulls_so : {Store : Type 0} (contents : Store → Option Contents) (reads writes : Store → ℕ) (Sure : Store → Type 0) {X : Type 0} (result : Result (Option X) PullFault) (old : PullState) (d : Store) (new : PullState) (e : Store)
    → old.refused ≡ None → Pulls contents reads writes Sure result old d new e → PullsSo contents reads writes Sure (is_fault result) old d new e
pulls_so contents reads writes Sure result old d new e going pulls = record {
  shelf = reads_so (λ (failed : is_fault result ≡ true). (fault_is result failed, λ was. none-fault pull.Fault (sym going ∙ was))) pulls.shelf;
  name = pulls.name;
  size = pulls.size;
}

module _ (s : PullState) where
  pub told_all : (told : Option Contents) (P : Progress → Type 0) → ((file : List ℕ) → P (progress_in s file)) → IfSome (told_progress told s) P
  told_all None P all = tt
  told_all (Some files) P all = by (files s.rows.lines.name)
    where
      by : (held : Option (List ℕ)) → IfSome (held_progress held s) P
      by None = tt
      by (Some file) = all file

  pub told_held : (told : Option Contents) (P : Progress → Type 0) → IfSome (told_progress told s) P → IfFile told s.rows.lines.name (λ file. P (progress_in s file))
  told_held None P h = tt
  told_held (Some files) P h = by (files s.rows.lines.name) h
    where
      by : (held : Option (List ℕ)) → IfSome (held_progress held s) P → IfSome held (λ file. P (progress_in s file))
      by None h = tt
      by (Some file) h = h

  pub held_told : (told : Option Contents) (P : Progress → Type 0) → IfFile told s.rows.lines.name (λ file. P (progress_in s file)) → IfSome (told_progress told s) P
  held_told None P h = tt
  held_told (Some files) P h = by (files s.rows.lines.name) h
    where
      by : (held : Option (List ℕ)) → IfSome held (λ file. P (progress_in s file)) → IfSome (held_progress held s) P
      by None h = tt
      by (Some file) h = h

module _ (told now : Option Contents) (old new : PullState) (kept : now ≡ told) (named : new.rows.lines.name ≡ old.rows.lines.name) where
  -- what is told of the file before and afterwards
  pub held_both : (A B : List ℕ → Type 0) (P : Progress → Progress → Type 0) → ((file : List ℕ) → A file → B file → P (progress_in old file) (progress_in new file))
      → IfFile told old.rows.lines.name A → IfFile told old.rows.lines.name B → Both (told_progress told old) (told_progress now new) P
  held_both A B P so a b = subst (λ (t : Option Contents). Both (told_progress told old) (told_progress t new) P) (sym kept) (by told a b)
    where
      in-name : (held : Option (List ℕ)) → IfSome held A → IfSome held B → Both (held_progress held old) (held_progress held new) P
      in-name None a b = tt
      in-name (Some file) a b = so file a b

      by : (told : Option Contents) → IfFile told old.rows.lines.name A → IfFile told old.rows.lines.name B → Both (told_progress told old) (told_progress told new) P
      by None a b = tt
      by (Some files) a b =
          subst (λ (n : List ℕ). Both (held_progress (files old.rows.lines.name) old) (held_progress (files n) new) P) (sym named) (in-name (files old.rows.lines.name) a b)

  module _ (version : new.version ≡ old.version) (size : new.rows.lines.size ≡ old.rows.lines.size) where
    goes-on : (file : List ℕ) → length (progress_in new file).rest < length (progress_in old file).rest → GoesOnIn (progress_in old file) (progress_in new file)
    goes-on file shorter = record { text = λ i. take (size i) file; version = version; shorter = shorter }

    pub gives_group : (L : LineGrammar) (g : GroupTree)
        → IfFile told old.rows.lines.name (λ file. (ps : List (ProofOf L.Line)) → HasGivenOver L ps (progress_in old file) → HasGivenOver L (ps ++ bare g ∷ []) (progress_in new file))
        → IfFile told old.rows.lines.name (λ file. length (progress_in new file).rest < length (progress_in old file).rest)
        → Both (told_progress told old) (told_progress now new) (GivesGroup L g)
    gives_group L g given shorter = held_both _ _ (GivesGroup L g) (λ file is less. record { on = goes-on file less; given = is }) given shorter

    pub gives_line : (L : LineGrammar) (g : GroupTree) (before : List L.Line) (l : L.Line)
        → IfFile told old.rows.lines.name (λ file. (ps : List (ProofOf L.Line)) (p : ProofOf L.Line) → HasGivenOver L (ps ++ p ∷ []) (progress_in old file) → p.group ≡ g → p.lines ≡ before → HasGivenOver L (ps ++ with_line p l ∷ []) (progress_in new file))
        → IfFile told old.rows.lines.name (λ file. length (progress_in new file).rest < length (progress_in old file).rest)
        → Both (told_progress told old) (told_progress now new) (GivesLine L g before l)
    gives_line L g before l given shorter = held_both _ _ (GivesLine L g before l) (λ file is less. record { on = goes-on file less; given = is }) given shorter

    pub ends_lines : IfFile told old.rows.lines.name (λ file. (progress_in new file ≡ progress_in old file) × ProofEnds (progress_in old file).rest) → Both (told_progress told old) (told_progress now new) EndsLines
    ends_lines h = held_both _ _ EndsLines (λ file is same. is) h h
