use Rattle.std.proofs.Common.{ap, sym, ◌∙◌, List as Items}
use Rattle.mc_text.specs.Reading.{star, atom_of, one}
use Rattle.mc_text.specs.inner.Reading.{with_prefix}
use Rattle.mc_text.specs.Scanning.{tokens_at}
use Rattle.mc_text.proofs.Star.{star-more, star-ends}
use Rattle.mc_text.proofs.StarReads.{star-stopped}
use Rattle.group_text.specs.inner.Reading.{has_atom, exit_of}
use Rattle.tailrec_lang.specs.declared.group.Exit.{Exit}
use Rattle.group_text.proofs.HeadLaws.{exit-shrinks}
use Rattle.group_text.proofs.heads.read_exits.Goals as goal

pub each-smaller : goal.each-smaller
each-smaller c = exit-shrinks _ _ _ c.in-Ok.ensures.gives

pub each-preserved : goal.each-preserved
each-preserved c = record {
  told = ap (λ (front : Items Exit). with_prefix front (star has_atom (one (atom_of exit_of)) (tokens_at c.read_exit.new.scan))) c.in_ok-push-in-Ok.ensures.ok
      ∙ star-more has_atom (one (atom_of exit_of)) exit-shrinks c.each.exits _ _ _ _ (sym c.each-test.ensures) c.in-Ok.ensures.gives c.each.invariant.told;
  last = c.in-Ok.ensures.last ∙ c.each.invariant.last;
}

pub returns-in-Err-clause-gives : goal.returns-in-Err-clause-gives
returns-in-Err-clause-gives c = star-stopped (λ (x : Exit). x) (λ (xs : Items Exit). xs) has_atom (one (atom_of exit_of)) exit-shrinks c.in-Err.stop c.each.exits c.args.scan.now c.each.scan c.read_exit.new.scan (sym c.each-test.ensures) c.in-Err.ensures.gives c.each.invariant.told

pub returns-clause-gives : goal.returns-clause-gives
returns-clause-gives c = star-ends has_atom (one (atom_of exit_of)) exit-shrinks c.each.exits _ _ (sym c.each-test.ensures) c.each.invariant.told
