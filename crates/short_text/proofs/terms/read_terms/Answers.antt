use Rattle.std.proofs.Common.{ℕ, ap, sym, ◌∙◌, List as Items}
use Rattle.mc_text.specs.Reading.{star}
use Rattle.mc_text.specs.inner.Reading.{with_prefix}
use Rattle.mc_text.specs.Scanning.{tokens_at}
use Rattle.mc_text.proofs.Star.{star-more, star-ends}
use Rattle.mc_text.proofs.StarReads.{star-stopped}
use Rattle.group_text.specs.inner.Reading.{has_atom}
use Rattle.short_text.specs.inner.ShortReading.{term_at}
use Rattle.short_text.proofs.TermRefs.{term-shrinks}
use Rattle.short_text.proofs.terms.read_terms.Goals as goal

pub each-smaller : goal.each-smaller
each-smaller c = term-shrinks c.args.table.now c.args.kind _ _ _ c.in-Ok.ensures.gives

pub each-preserved : goal.each-preserved
each-preserved c = record {
  told = ap (λ (front : Items ℕ). with_prefix front (star has_atom (term_at c.args.table.now c.args.kind) (tokens_at c.read_term.new.scan))) c.in_ok-push-in-Ok.ensures.ok
      ∙ star-more has_atom (term_at c.args.table.now c.args.kind) (term-shrinks c.args.table.now c.args.kind) c.each.numbers _ _ _ _ (sym c.each-test.ensures) c.in-Ok.ensures.gives c.each.invariant.told;
  last = c.in-Ok.ensures.last ∙ c.each.invariant.last;
}

pub returns-in-Err-clause-gives : goal.returns-in-Err-clause-gives
returns-in-Err-clause-gives c = star-stopped (λ (x : ℕ). x) (λ (xs : Items ℕ). xs) has_atom (term_at c.args.table.now c.args.kind) (term-shrinks c.args.table.now c.args.kind) c.in-Err.stop c.each.numbers c.args.scan.now c.each.scan c.read_term.new.scan (sym c.each-test.ensures) c.in-Err.ensures.gives c.each.invariant.told

pub returns-clause-gives : goal.returns-clause-gives
returns-clause-gives c = star-ends has_atom (term_at c.args.table.now c.args.kind) (term-shrinks c.args.table.now c.args.kind) c.each.numbers _ _ (sym c.each-test.ensures) c.each.invariant.told
