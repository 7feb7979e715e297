use Rattle.std.proofs.Common.{sym, ◌∙◌}
use Rattle.elf_image.proofs.SymbolLemmas.{other_start, zero_in_name, same_string}
use Rattle.elf_image.proofs.symbol.is_named.Goals as goal
use Rattle.elf_image.proofs.symbol.is_named.Goals.{then-not-starts_with-via-then-not-starts_with, then-not-starts_with-via-else-not-starts_with+then-contains}

pub returns-then-not-starts_with : goal.returns-then-not-starts_with
returns-then-not-starts_with c =
    elim c.then-not-starts_with.branch [
      | then-not-starts_with-via-then-not-starts_with w ↦
          other_start c.args.strings.now c.args.name.now _ c.args.offset c.from_offset-string.ensures (sym c.starts_with.ensures.value ∙ w.if-not-starts_with.true)
      | then-not-starts_with-via-else-not-starts_with+then-contains w ↦
          zero_in_name c.args.strings.now c.args.name.now _ c.args.offset c.from_offset-string.ensures (sym w.contains.ensures.value ∙ w.if-contains.true)
    ]

pub returns : goal.returns
returns c =
    c.ends_at.ensures
    ∙ same_string c.args.strings.now c.args.name.now _ c.args.offset c.from_offset-string.ensures
    (sym c.starts_with.ensures.value ∙ c.if-not-starts_with.false) (sym c.contains.ensures.value ∙ c.if-contains.false)
