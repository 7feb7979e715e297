use Rattle.std.proofs.Common.{◌∙◌, map}
use Rattle.std.specs.List.{range_with_len}
use Rattle.elf_image.specs.Fault.{first}
use Rattle.elf_image.specs.inner.Faults.{cut_header}
use Rattle.elf_image.proofs.TableLemmas.{whole_at}
use Rattle.elf_image.proofs.ImageLemmas.{loads_kept, loads_skipped}
use Rattle.elf_image.proofs.reader.read_loads.Goals as goal
use Rattle.elf_image.proofs.reader.read_loads.Goals.{then-header-eq-PT_LOAD+in_ok-push, else-header-eq-PT_LOAD}

pub read_header-header-requires-clause-whole : goal.read_header-header-requires-clause-whole
read_header-header-requires-clause-whole c =
    whole_at c.args.file.now c.from-count.result c.loop-i.i
    ((λ j. first (map (cut_header c.args.file.now) (range_with_len 0 ((c.from-count.ensures ∙ c.half_at.ensures) j)))) ∙ c.requires.whole) c.loop-i-test.true

pub loop-i-preserved : goal.loop-i-preserved
loop-i-preserved c =
    let header = c.read_header-header in
    elim c.if-header-eq-PT_LOAD.branch [
      | then-header-eq-PT_LOAD+in_ok-push w ↦ (λ j. (w.headers-is j).items) ∙ w.in_ok-push.ensures.items
          ∙ loads_kept c.args.file.now c.loop-i.i c.loop-i.headers.items header.result header.ensures w.if-header-eq-PT_LOAD.true c.loop-i.invariant
      | else-header-eq-PT_LOAD w ↦ (λ j. (w.headers-is j).items) ∙ loads_skipped c.args.file.now c.loop-i.i c.loop-i.headers.items header.result header.ensures w.if-header-eq-PT_LOAD.false c.loop-i.invariant
    ]
