use Rattle.std.proofs.Common.{◌≡◌, length, sym, ◌∙◌, arith}
use Rattle.std.proofs.lemmas.Slice.Eq.{bytes_eq-Decides}
use Rattle.mcdec_answers.proofs.CommandNames.{other-name}
use Rattle.mcdec_answers.proofs.Words.{filled, migrate-over-elf, migrate-over-proof, migrate-read}
use Rattle.mcdec_answers.proofs.command.read_migrate.Goals as goal
use Rattle.mcdec_answers.proofs.command.read_migrate.Goals.{then-eq-via-then-eq, then-eq-via-else-eq+then-eq-2}

pub returns-then-eq : goal.returns-then-eq
returns-then-eq c =
    let elf = c.elf-item.result in
    let proof = c.proof-item.result in
    let out = c.out-item.result in
    let three : length c.args.words.now ≡ 3 = omega (arith, c.in-len3.len_at_least, c.in-len3.len_below) in
    elim c.then-eq.branch [
      | then-eq-via-then-eq w ↦
          migrate-over-elf c.args.words.now elf proof out three c.elf-item.is c.proof-item.is c.out-item.is
          (sym c.as_str.ensures.value ∙ (bytes_eq-Decides c.as_str.result.now c.as_str-2.result.now).0 (sym c.eq.ensures ∙ w.if-eq.true) ∙ c.as_str-2.ensures.value)
      | then-eq-via-else-eq+then-eq-2 w ↦
          migrate-over-proof c.args.words.now elf proof out three c.elf-item.is c.proof-item.is c.out-item.is
          (sym w.as_str-else-eq.ensures.value ∙ (bytes_eq-Decides w.as_str-else-eq.result.now w.as_str-else-eq-2.result.now).0 (sym w.eq-else-eq.ensures ∙ w.if-eq-2.true) ∙ w.as_str-else-eq-2.ensures.value)
    ]

pub returns : goal.returns
returns c =
    let elf = c.elf-item.result in
    let proof = c.proof-item.result in
    let out = c.out-item.result in
    let three : length c.args.words.now ≡ 3 = omega (arith, c.in-len3.len_at_least, c.in-len3.len_below) in
    migrate-read c.args.words.now elf proof out three c.elf-item.is c.proof-item.is c.out-item.is c.as_str-3.result.now c.as_str-4.result.now c.as_str-5.result.now c.as_str-3.ensures.value c.as_str-4.ensures.value
    c.as_str-5.ensures.value (filled elf (sym c.is_empty.ensures ∙ c.if-is_empty.false)) (filled proof (sym c.is_empty-else-is_empty.ensures ∙ c.if-is_empty-2.false))
    (filled out (sym c.is_empty-else-is_empty-2.ensures ∙ c.if-is_empty-3.false))
    (λ same. other-name c.as_str.result.now c.as_str-2.result.now (sym c.eq.ensures ∙ c.if-eq.false) (c.as_str.ensures.value ∙ same ∙ sym c.as_str-2.ensures.value))
    (λ same. other-name c.as_str-else-eq.result.now c.as_str-else-eq-2.result.now (sym c.eq-else-eq.ensures ∙ c.if-eq-2.false) (c.as_str-else-eq.ensures.value ∙ same ∙ sym c.as_str-else-eq-2.ensures.value))
