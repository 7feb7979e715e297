-- Reads of a name, one after the other.
use Rattle.std.proofs.Common.{ℕ, ◌≤◌, List, Option, refl, sym, subst, ◌∙◌, inl, inr, arith}
use Rattle.mc_shelf.specs.Fault.{Rose}
use Rattle.mc_shelf.specs.Shelf.{Contents, TellsName}
use Rattle.mc_shelf.specs.inner.OnlyReads.{OnlyReads}

rose-from : (a b c : ℕ) → a ≤ b → Rose b c → Rose a c
rose-from a b c h (inl rose) = inl (omega (arith, h, rose))
rose-from a b c h (inr last) = inr last

-- no read
pub reads_none : {Store : Type 0} (contents : Store → Option Contents) (reads writes : Store → ℕ) (Sure : Store → Type 0) (name : List ℕ) (s : Store)
    → OnlyReads contents reads writes Sure ⊥ name s s
reads_none contents reads writes Sure name s = record {
  kept = refl;
  reads = omega arith;
  writes = refl;
  cause = λ f. absurd f;
  stays_sure = λ sure. sure;
  sure_fault = λ sure tells f. f;
  sure_counts = λ sure tells. refl;
}

-- further reads, of which the last may have failed
pub reads_then : {Store : Type 0} {contents : Store → Option Contents} {reads writes : Store → ℕ} {Sure : Store → Type 0} {F G : Type 0} {name : List ℕ} {a b c : Store}
    → OnlyReads contents reads writes Sure F name a b → OnlyReads contents reads writes Sure G name b c → OnlyReads contents reads writes Sure G name a c
reads_then {contents} {reads} {name} {a} {b} {c} first further =
    let still_told : TellsName (contents a) name → TellsName (contents b) name = λ tells. subst (λ (t : Option Contents). TellsName t name) (sym first.kept) tells in
    record {
      kept = further.kept ∙ first.kept;
      reads = omega (arith, first.reads, further.reads);
      writes = further.writes ∙ first.writes;
      cause = λ failing. rose-from (reads a) (reads b) (reads c) first.reads (further.cause failing);
      stays_sure = λ sure. further.stays_sure (first.stays_sure sure);
      sure_fault = λ sure tells failing. further.sure_fault (first.stays_sure sure) (still_told tells) failing;
      sure_counts = λ sure tells. further.sure_counts (first.stays_sure sure) (still_told tells) ∙ first.sure_counts sure tells;
    }

-- the same reads, of which it is asked whether they failed in this way
pub reads_so : {Store : Type 0} {contents : Store → Option Contents} {reads writes : Store → ℕ} {Sure : Store → Type 0} {F G : Type 0} {name : List ℕ} {a b : Store}
    → (G → F) → OnlyReads contents reads writes Sure F name a b → OnlyReads contents reads writes Sure G name a b
reads_so is r = record {
  kept = r.kept;
  reads = r.reads;
  writes = r.writes;
  cause = λ failing. r.cause (is failing);
  stays_sure = r.stays_sure;
  sure_fault = λ sure tells failing. r.sure_fault sure tells (is failing);
  sure_counts = r.sure_counts;
}
