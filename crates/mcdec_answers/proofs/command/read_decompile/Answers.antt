use Rattle.std.proofs.Common.{refl, sym, ◌∙◌}
use Rattle.std.proofs.lemmas.Slice.Eq.{bytes_eq-Decides}
use Rattle.mcdec_answers.proofs.ArgWords.{exit-with}
use Rattle.mcdec_answers.proofs.CommandNames.{other-name}
use Rattle.mcdec_answers.proofs.Words.{bad-names, decompile-read, emptied, filled, no-elf, no-names, no-out, none-further, one-file, some-further}
use Rattle.mcdec_answers.proofs.command.read_decompile.Goals as goal
use Rattle.mcdec_answers.proofs.command.read_decompile.Goals.{
  then-is_empty-via-then-is_empty,
  then-is_empty-via-else-is_empty+then-is_empty-2,
  then-is_empty-via-else-is_empty+else-is_empty-2+then-eq,
  then-is_empty-via-else-is_empty+else-is_empty-2+else-eq+then-is_empty-3,
}

pub returns-then-is_empty : goal.returns-then-is_empty
returns-then-is_empty c =
    let elf = c.elf-item.result in
    let out = c.out-item.result in
    elim c.then-is_empty.branch [
      | then-is_empty-via-then-is_empty w ↦
          no-elf c.args.words.now elf out c.in-len2-up.len_at_least c.elf-item.is c.out-item.is c.args.form (emptied elf (sym c.is_empty.ensures ∙ w.if-is_empty.true))
      | then-is_empty-via-else-is_empty+then-is_empty-2 w ↦
          no-out c.args.words.now elf out c.in-len2-up.len_at_least c.elf-item.is c.out-item.is c.args.form (emptied out (sym w.is_empty-else-is_empty.ensures ∙ w.if-is_empty-2.true))
      | then-is_empty-via-else-is_empty+else-is_empty-2+then-eq w ↦
          one-file c.args.words.now elf out c.in-len2-up.len_at_least c.elf-item.is c.out-item.is c.args.form
          (sym w.as_str.ensures.value ∙ (bytes_eq-Decides w.as_str.result.now w.as_str-else-is_empty-2.result.now).0 (sym w.eq.ensures ∙ w.if-eq.true) ∙ w.as_str-else-is_empty-2.ensures.value)
      | then-is_empty-via-else-is_empty+else-is_empty-2+else-eq+then-is_empty-3 w ↦
          no-names c.args.words.now elf out c.in-len2-up.len_at_least c.elf-item.is c.out-item.is c.args.form
          (none-further c.args.words.now elf out c.in-len2-up.len_at_least c.elf-item.is c.out-item.is (sym w.is_empty-else-eq.ensures ∙ w.if-is_empty-3.true))
    ]

pub returns-in_err-names : goal.returns-in_err-names
returns-in_err-names c =
    exit-with _ c.in_err-names.field-0.0 _ _ c.from_residual.ensures.1
    (bad-names c.args.words.now c.elf-item.result c.out-item.result c.in-len2-up.len_at_least c.elf-item.is c.out-item.is c.args.form c.in_err-names.field-0.0 c.in_err-names.ensures)

pub returns : goal.returns
returns c =
    let elf = c.elf-item.result in
    let out = c.out-item.result in (
      refl,
      decompile-read c.args.words.now elf out c.in-len2-up.len_at_least c.elf-item.is c.out-item.is c.args.form c.as_str-2.result.now c.as_str-3.result.now c.in_ok-names.names c.as_str-2.ensures.value c.as_str-3.ensures.value
          c.in_ok-names.ensures.0 (filled elf (sym c.is_empty.ensures ∙ c.if-is_empty.false)) (filled out (sym c.is_empty-else-is_empty.ensures ∙ c.if-is_empty-2.false))
          (λ same. other-name c.as_str.result.now c.as_str-else-is_empty-2.result.now (sym c.eq.ensures ∙ c.if-eq.false) (c.as_str.ensures.value ∙ same ∙ sym c.as_str-else-is_empty-2.ensures.value))
          (some-further c.args.words.now elf out c.in-len2-up.len_at_least c.elf-item.is c.out-item.is (sym c.is_empty-else-eq.ensures ∙ c.if-is_empty-3.false)) c.in_ok-names.ensures.1,
    )
