use Rattle.std.proofs.Common.{map, sym, ◌∙◌, Vec}
use Rattle.std.specs.declared.alloc.Global.{Global}
use Rattle.mc_text.proofs.Star.{star-pushed, star-ends}
use Rattle.mc_text.proofs.StarReads.{star-stopped}
use Rattle.proof_text.specs.declared.line_subs.Put.{Put}
use Rattle.proof_text.specs.inner.Subs.{put_tree}
use Rattle.mc_text.specs.Reading.{is_open}
use Rattle.proof_text.specs.inner.LineReading.{sub_at}
use Rattle.proof_text.proofs.RuleLaws.{sub-shrinks}
use Rattle.proof_text.proofs.line_subs.read_subs.Goals as goal

pub puts-smaller : goal.puts-smaller
puts-smaller c = sub-shrinks _ _ _ c.in-Ok.ensures.gives

pub puts-preserved : goal.puts-preserved
puts-preserved c = record {
  told = star-pushed put_tree is_open sub_at sub-shrinks c.puts.puts.items _ _ _ _ _ c.in_ok-push-in-Ok.ensures.items (sym c.puts-test.ensures) c.in-Ok.ensures.gives c.puts.invariant.told;
  last = c.in-Ok.ensures.last ∙ c.puts.invariant.last;
}

pub returns-in-Err-clause-gives : goal.returns-in-Err-clause-gives
returns-in-Err-clause-gives c = star-stopped put_tree (λ (puts : Vec Put Global). map put_tree puts.items) is_open sub_at sub-shrinks c.in-Err.stop (map put_tree c.puts.puts.items) c.args.scan.now c.puts.scan c.read_sub.new.scan (sym c.puts-test.ensures) c.in-Err.ensures.gives c.puts.invariant.told

pub returns-clause-gives : goal.returns-clause-gives
returns-clause-gives c = star-ends is_open sub_at sub-shrinks (map put_tree c.puts.puts.items) _ _ (sym c.puts-test.ensures) c.puts.invariant.told
