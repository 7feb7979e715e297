-- Calls on a text in a file, one after the other.
use Rattle.std.proofs.Common.{◌≡◌, ℕ, Bool, true, false, true≢false, List, Option, Some, None, IfSome, IsSome, refl, sym, subst, ◌∙◌}
use Rattle.mc_shelf.specs.Shelf.{Contents}
use Rattle.mc_shelf.specs.inner.OnlyReads.{OnlyReads}
use Rattle.mc_shelf.proofs.OnlyReadsLemmas.{reads_none, reads_then, reads_so}
use Rattle.proof_text.specs.FirstProofs.{Progress}
use Rattle.proof_text.specs.Pulling.{PullState}
use Rattle.proof_text.specs.Sources.{held_progress, told_progress}

-- what calls do to the text and to the shelf, by whether the outside failed in the last of them
pub record PullsSo {Store : Type 0} (contents : Store → Option Contents) (read_faults write_faults : Store → ℕ) (IsSure : Store → Type 0)
    (failed : Bool) (old : PullState) (before : Store) (new : PullState) (after : Store) : Type 0 where
  pub shelf : OnlyReads contents read_faults write_faults IsSure (failed ≡ true) old.rows.lines.name before after
  pub name : new.rows.lines.name ≡ old.rows.lines.name
  pub size : new.rows.lines.size ≡ old.rows.lines.size

pub pulls_nothing : {Store : Type 0} (contents : Store → Option Contents) (reads writes : Store → ℕ) (Sure : Store → Type 0) (s : PullState) (e : Store) → PullsSo contents reads writes Sure false s e s e
pulls_nothing contents reads writes Sure s e = record {
  shelf = reads_so (λ failed. true≢false (sym failed)) (reads_none contents reads writes Sure s.rows.lines.name e);
  name = refl;
  size = refl;
}

pub pulls_then : {Store : Type 0} {contents : Store → Option Contents} {reads writes : Store → ℕ} {Sure : Store → Type 0} {failed : Bool} {a b c : PullState} {d e f : Store}
    → PullsSo contents reads writes Sure false a d b e → PullsSo contents reads writes Sure failed b e c f → PullsSo contents reads writes Sure failed a d c f
pulls_then {contents} {reads} {writes} {Sure} {failed} {a} {b} {c} {d} {e} {f} first further = record {
  shelf = reads_then first.shelf (subst (λ (n : List ℕ). OnlyReads contents reads writes Sure (failed ≡ true) n e f) first.name further.shelf);
  name = further.name ∙ first.name;
  size = further.size ∙ first.size;
}

tells : (told now : Option Contents) (a b : PullState) → now ≡ told → b.rows.lines.name ≡ a.rows.lines.name → IfSome (told_progress told a) (λ _. IsSome (told_progress now b))
tells told now a b same named = subst (λ (t : Option Contents). IfSome (told_progress told a) (λ _. IsSome (told_progress t b))) (sym same) (by told)
  where
    by-held : (held : Option (List ℕ)) → IfSome (held_progress held a) (λ _. IsSome (held_progress held b))
    by-held None = tt
    by-held (Some file) = refl

    by : (told : Option Contents) → IfSome (told_progress told a) (λ _. IsSome (told_progress told b))
    by None = tt
    by (Some files) = subst (λ (n : List ℕ). IfSome (held_progress (files a.rows.lines.name) a) (λ _. IsSome (held_progress (files n) b))) (sym named) (by-held (files a.rows.lines.name))

pub pulls_tell : {Store : Type 0} {contents : Store → Option Contents} {reads writes : Store → ℕ} {Sure : Store → Type 0} {failed : Bool} {a b : PullState} {d e : Store}
    → PullsSo contents reads writes Sure failed a d b e → IfSome (told_progress (contents d) a) (λ _. IsSome (told_progress (contents e) b))
pulls_tell {contents} {a} {b} {d} {e} calls = tells (contents d) (contents e) a b calls.shelf.kept calls.name

pub told_of_version : (told : Option Contents) (s : PullState) → IfSome (told_progress told s) (λ (r : Progress). r.version ≡ s.version)
told_of_version None s = tt
told_of_version (Some files) s = by (files s.rows.lines.name)
  where
    by : (held : Option (List ℕ)) → IfSome (held_progress held s) (λ (r : Progress). r.version ≡ s.version)
    by None = tt
    by (Some file) = refl
