use Rattle.std.proofs.Common.{◌≡◌, ℕ, ◌+◌, ◌*◌, ◌-◌, ◌^◌, min, Option, sym, ◌∙◌, arith}
use Rattle.elf_image.specs.declared.fault.ElfFault.{ElfFault}
use Rattle.elf_image.specs.Fault.{cut_at}
use Rattle.elf_image.proofs.TableLemmas.{first_none, first_some, cut_none, cut_some}
use Rattle.elf_image.proofs.checks.first_cut.Goals as goal

pub returns-then-offset-last : goal.returns-then-offset-last
returns-then-offset-last c =
    let file = c.args.file.now in
    let i = c.loop-i.i in
    let size = c.args.size in
    let cut : ℕ → Option ElfFault = λ k. cut_at file (c.args.table + size * k) size in
    let p = c.saturating_add-offset.result in
    let offset : p ≡ min (c.args.table + size * i) (2 ^ 64 - 1) = c.saturating_add-offset.ensures ∙ omega (arith, c.saturating_mul.ensures) in
    sym (sym c.loop-i.invariant ∙ first_some cut i c.args.count _ c.loop-i-test.true (cut_some file (c.args.table + size * i) size p offset (omega arith) (omega arith) (omega arith) c.if-offset-last.true))

pub loop-i-preserved : goal.loop-i-preserved
loop-i-preserved c =
    let file = c.args.file.now in
    let i = c.loop-i.i in
    let size = c.args.size in
    let cut : ℕ → Option ElfFault = λ k. cut_at file (c.args.table + size * k) size in
    let p = c.saturating_add-offset.result in
    let offset : p ≡ min (c.args.table + size * i) (2 ^ 64 - 1) = c.saturating_add-offset.ensures ∙ omega (arith, c.saturating_mul.ensures) in
    sym (first_none cut i c.args.count c.loop-i-test.true (cut_none file (c.args.table + size * i) size p offset (omega arith) (omega arith) (omega arith) c.if-offset-last.false)) ∙ c.loop-i.invariant
