use Rattle.std.proofs.Common.{map, sym, ◌∙◌, List as Items}
use Rattle.mc_text.proofs.Star.{star-pushed, star-ends}
use Rattle.word_terms.specs.declared.term.Mem.{Mem}
use Rattle.word_terms.specs.Tree.{mem_tree}
use Rattle.group_text.specs.TermLimits.{depth_limit}
use Rattle.group_text.specs.TermReading.{begins_mem, mem_at}
use Rattle.group_text.proofs.TermLaws.{mem-shrinks}
use Rattle.mc_text.proofs.StarReads.{star-stopped}
use Rattle.group_text.proofs.term_lists.read_mems.Goals as goal

pub mems-smaller : goal.mems-smaller
mems-smaller c = (mem-shrinks depth_limit) _ _ _ c.in-Ok.ensures.gives

pub mems-preserved : goal.mems-preserved
mems-preserved c = record {
  told = star-pushed mem_tree begins_mem (mem_at depth_limit) (mem-shrinks depth_limit) c.mems.mems _ _ _ _ _ c.in_ok-push-in-Ok.ensures.ok (sym c.mems-test.ensures) c.in-Ok.ensures.gives c.mems.invariant.told;
  last = c.in-Ok.ensures.last ∙ c.mems.invariant.last;
}

pub returns-in-Err-clause-gives : goal.returns-in-Err-clause-gives
returns-in-Err-clause-gives c = star-stopped mem_tree (λ (mems : Items Mem). map mem_tree mems) begins_mem (mem_at depth_limit) (mem-shrinks depth_limit) c.in-Err.stop (map mem_tree c.mems.mems) c.args.scan.now c.mems.scan c.read_mem.new.scan (sym c.mems-test.ensures) c.in-Err.ensures.gives c.mems.invariant.told

pub returns-clause-gives : goal.returns-clause-gives
returns-clause-gives c = star-ends begins_mem (mem_at depth_limit) (mem-shrinks depth_limit) (map mem_tree c.mems.mems) _ _ (sym c.mems-test.ensures) c.mems.invariant.told
