use Rattle.std.proofs.Common.{ap}
use Rattle.word_terms.specs.Tree.{MemVar, mem_tree}
use Rattle.code_parts.specs.VariableMaps.{place_of}
use Rattle.path_walk.proofs.Lists.{mapped-more}
use Rattle.path_walk.proofs.instruction_lines.mems_before.Goals as goal

pub loop-p-preserved : goal.loop-p-preserved
loop-p-preserved c =
    mapped-more mem_tree (λ p. MemVar ((place_of c.args.place.now).memory p)) c.args.mems.now c.loop-p.p-index _ c.loop-p.before c.push.new.self _ c.loop-p-test.true c.loop-p.invariant c.in_ok-push.ensures.ok (ap MemVar c.memory.ensures)
