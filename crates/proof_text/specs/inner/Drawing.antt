-- Calls on rows that are pulled, one after the other.
use Rattle.std.proofs.Common.{◌≡◌, ℕ, List, Option, Some, None, IfSome, ◌⊎◌, inl, inr, refl, sym, subst, ◌∙◌, arith}
use Rattle.mc_shelf.specs.Shelf.{Contents}
use Rattle.mc_shelf.specs.inner.OnlyReads.{OnlyReads}
use Rattle.mc_shelf.proofs.OnlyReadsLemmas.{reads_none, reads_then, reads_so}
use Rattle.group_text.specs.declared.read_error.RowError.{RowError}
use Rattle.group_text.specs.declared.read_error.RowError.TheVariants as row
use Rattle.proof_text.specs.inner.PulledRows.{PulledState, Draws, FailsFirst, IfFile}

nothing-lost : (e : RowError) → None ≡ Some e → ⊥
nothing-lost e h = absurd cc

other-error : Some row.NoMemory ≡ Some row.Fault → ⊥
other-error h = absurd cc

held-then : (told now : Option Contents) (name next : List ℕ) (P Q R : List ℕ → Type 0) → now ≡ told → next ≡ name → ((file : List ℕ) → P file → Q file → R file)
    → IfFile told name P → IfFile now next Q → IfFile told name R
held-then told now name next P Q R same named both p q = by told name p (subst (λ (t : Option Contents). IfFile t name Q) same (subst (λ (n : List ℕ). IfFile now n Q) named q))
  where
    in-name : (held : Option (List ℕ)) → IfSome held P → IfSome held Q → IfSome held R
    in-name None p q = tt
    in-name (Some file) p q = both file p q

    by : (told : Option Contents) (name : List ℕ) → IfFile told name P → IfFile told name Q → IfFile told name R
    by None name p q = tt
    by (Some files) name p q = in-name (files name) p q

pub if_file : (told : Option Contents) (name : List ℕ) (P : List ℕ → Type 0) → ((file : List ℕ) → P file) → IfFile told name P
if_file None name P h = tt
if_file (Some files) name P h = in-name (files name)
  where
    in-name : (held : Option (List ℕ)) → IfSome held P
    in-name None = tt
    in-name (Some file) = h file

pub draws_nothing : {Store : Type 0} (contents : Store → Option Contents) (reads writes : Store → ℕ) (Sure : Store → Type 0) (s : PulledState) (e : Store) → Draws contents reads writes Sure None s e s e
draws_nothing contents reads writes Sure s e = record {
  shelf = reads_so (λ fails. nothing-lost row.Fault fails.0) (reads_none contents reads writes Sure s.lines.name e);
  name = refl;
  size = refl;
  taken = omega arith;
  going = λ _. refl;
  last = λ _. if_file (contents e) s.lines.name _ (λ file. refl);
}

pub draws_then : {Store : Type 0} {contents : Store → Option Contents} {reads writes : Store → ℕ} {Sure : Store → Type 0} {lost : Option RowError} {a b c : PulledState} {d e f : Store}
    → Draws contents reads writes Sure None a d b e → Draws contents reads writes Sure lost b e c f → Draws contents reads writes Sure lost a d c f
draws_then {contents} {reads} {writes} {Sure} {lost} {a} {b} {c} {d} {e} {f} first further =
    let reads_on : OnlyReads contents reads writes Sure (FailsFirst lost b.lines) a.lines.name e f = subst (λ (n : List ℕ). OnlyReads contents reads writes Sure (FailsFirst lost b.lines) n e f) first.name further.shelf in
    record {
      shelf = reads_so (λ (fails : FailsFirst lost a.lines). (fails.0, λ was. fails.1 (sym (first.going refl) ∙ was))) (reads_then first.shelf reads_on);
      name = further.name ∙ first.name;
      size = further.size ∙ first.size;
      taken = omega (arith, first.taken, further.taken);
      going = λ none. further.going none ∙ first.going refl;
      last = λ none. held-then (contents d) (contents e) a.lines.name b.lines.name _ _ _ first.shelf.kept first.name (λ file p q. q ∙ p) (first.last refl) (further.last none);
    }

pub draws_full : {Store : Type 0} {contents : Store → Option Contents} {reads writes : Store → ℕ} {Sure : Store → Type 0} {a b : PulledState} {d e : Store}
    → Draws contents reads writes Sure None a d b e → Draws contents reads writes Sure (Some row.NoMemory) a d b e
draws_full first = record {
  shelf = reads_so (λ fails. absurd (other-error fails.0)) first.shelf;
  name = first.name;
  size = first.size;
  taken = first.taken;
  going = λ none. absurd (nothing-lost row.NoMemory (sym none));
  last = λ none. absurd (nothing-lost row.NoMemory (sym none));
}

-- by what a row was lost may be told less exactly, where memory was missing
pub draws_as : {Store : Type 0} {contents : Store → Option Contents} {reads writes : Store → ℕ} {Sure : Store → Type 0} {a b : PulledState} {d e : Store} (first lost : Option RowError)
    → (lost ≡ first) ⊎ ((first ≡ None) × (lost ≡ Some row.NoMemory)) → Draws contents reads writes Sure first a d b e → Draws contents reads writes Sure lost a d b e
draws_as {contents} {reads} {writes} {Sure} {a} {b} {d} {e} first lost (inl same) h = subst (λ (o : Option RowError). Draws contents reads writes Sure o a d b e) (sym same) h
draws_as {contents} {reads} {writes} {Sure} {a} {b} {d} {e} first lost (inr full) h =
    subst (λ (o : Option RowError). Draws contents reads writes Sure o a d b e) (sym full.1) (draws_full (subst (λ (o : Option RowError). Draws contents reads writes Sure o a d b e) full.0 h))
