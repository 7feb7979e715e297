use Rattle.std.proofs.Common.{◌∙◌, ◌++◌, ◌-◌, ◌+◌, ◌/◌}
use Rattle.code_gen.specs.ElfFile.{little}
use Rattle.code_gen.proofs.BytesLemmas.{little-next}
use Rattle.code_gen.proofs.elf.put_number.Goals as goal

pub loop-preserved : goal.loop-preserved
loop-preserved c =
    (λ j. c.in_ok-push.ensures.ok j ++ little (c.args.size - (c.loop.counter + 1)) (c.loop.rest / 256))
    ∙ little-next c.loop.bytes c.args.size c.loop.counter c.loop.rest c.loop-test.true
    ∙ c.loop.invariant
