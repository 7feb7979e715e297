-- What a call does over every shelf, from what it did to the rows.
use Rattle.std.proofs.Common.{◌≡◌, ℕ, ◌≤◌, ◌<◌, false, true≢false, Option, Some, None, IfSome, Result, Ok, Err, refl, sym, ap, subst, ◌∙◌, arith}
use Rattle.std.specs.Prelude.{IfOk, IfErr}
use Rattle.mc_shelf.specs.Shelf.{Contents}
use Rattle.mc_shelf.specs.declared.lines.LineFault.{LineFault}
use Rattle.mc_shelf.specs.declared.lines.LineFault.TheVariants as line
use Rattle.mc_shelf.proofs.OnlyReadsLemmas.{reads_none, reads_so}
use Rattle.proof_text.specs.declared.pull_fault.PullFault.{PullFault}
use Rattle.proof_text.specs.declared.pull_fault.PullFault.TheVariants as pull
use Rattle.proof_text.specs.Pulling.{PullState, Pulls, FailedNow, left_of}
use Rattle.proof_text.specs.inner.PulledRows.{Draws}
use Rattle.proof_text.specs.inner.Pulling.{pull_lost}

none-some : (f : LineFault) → None ≡ Some f → ⊥
none-some f e = cc

none-fault : (f : PullFault) → None ≡ Some f → ⊥
none-fault f e = cc

module _ {Store : Type 0} (contents : Store → Option Contents) (reads writes : Store → ℕ) (Sure : Store → Type 0) {X : Type 0} (result : Result (Option X) PullFault) (old : PullState) (d : Store) where
  -- a call that drew from the rows
  pub pulls_drawn : (new : PullState) (e : Store) → old.refused ≡ None → old.ended ≡ false → old.rows.lines.refused ≡ None → new.version ≡ old.version
      → Draws contents reads writes Sure (pull_lost result) old.rows d new.rows e
      → IfErr result (λ fault. new.refused ≡ Some fault) → IfOk result (λ _. new.refused ≡ None)
      → left_of new ≤ left_of old → IfOk result (λ found. IfSome found (λ _. left_of new < left_of old)) → Pulls contents reads writes Sure result old d new e
  pulls_drawn new e going open_ lines version draws refuses goes_on left fewer = record {
    shelf = reads_so (λ (failed : FailedNow result old). (ap pull_lost failed.0, λ was. none-some line.Fault (sym lines ∙ was))) draws.shelf;
    version = version;
    name = draws.name;
    size = draws.size;
    again = subst (λ (o : Option PullFault). IfSome o (λ fault. result ≡ Err fault)) (sym going) tt;
    refuses = refuses;
    goes_on = goes_on;
    still_ended = λ _ ended. absurd (true≢false (sym ended ∙ open_));
    left = left;
    fewer = fewer;
  }

  fault-some : (fault : PullFault) → Some fault ≡ None → ⊥
  fault-some f e = cc

  error-same : (a b : PullFault) → result ≡ Err a → result ≡ Err b → a ≡ b
  error-same a b e f = cc

  -- a refusal that is answered again
  pub pulls_refused : (fault : PullFault) → old.refused ≡ Some fault → result ≡ Err fault → Pulls contents reads writes Sure result old d old d
  pulls_refused fault was is = record {
    shelf = reads_so (λ (failed : FailedNow result old). absurd (failed.1 (was ∙ ap (λ (f : PullFault). Some f) (error-same fault pull.Fault is failed.0)))) (reads_none contents reads writes Sure old.rows.lines.name d);
    version = refl;
    name = refl;
    size = refl;
    again = subst (λ (o : Option PullFault). IfSome o (λ fault. result ≡ Err fault)) (sym was) is;
    refuses = subst (λ (r : Result (Option X) PullFault). IfErr r (λ fault. old.refused ≡ Some fault)) (sym is) was;
    goes_on = subst (λ (r : Result (Option X) PullFault). IfOk r (λ _. old.refused ≡ None)) (sym is) tt;
    still_ended = λ none _. absurd (fault-some fault (sym was ∙ none));
    left = omega arith;
    fewer = subst (λ (r : Result (Option X) PullFault). IfOk r (λ found. IfSome found (λ _. left_of old < left_of old))) (sym is) tt;
  }

  nothing-failed : result ≡ Ok None → result ≡ Err pull.Fault → ⊥
  nothing-failed e f = cc

  -- the end that is answered again
  pub pulls_ended : old.refused ≡ None → result ≡ Ok None → Pulls contents reads writes Sure result old d old d
  pulls_ended going is = record {
    shelf = reads_so (λ (failed : FailedNow result old). absurd (nothing-failed is failed.0)) (reads_none contents reads writes Sure old.rows.lines.name d);
    version = refl;
    name = refl;
    size = refl;
    again = subst (λ (o : Option PullFault). IfSome o (λ fault. result ≡ Err fault)) (sym going) tt;
    refuses = subst (λ (r : Result (Option X) PullFault). IfErr r (λ fault. old.refused ≡ Some fault)) (sym is) tt;
    goes_on = subst (λ (r : Result (Option X) PullFault). IfOk r (λ _. old.refused ≡ None)) (sym is) going;
    still_ended = λ _ _. is;
    left = omega arith;
    fewer = subst (λ (r : Result (Option X) PullFault). IfOk r (λ found. IfSome found (λ _. left_of old < left_of old))) (sym is) tt;
  }
