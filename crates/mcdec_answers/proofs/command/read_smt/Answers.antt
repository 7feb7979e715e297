use Rattle.std.proofs.Common.{◌≡◌, ◌^◌, ◌<◌, ℕ, List, length, sym, subst, true≢false, ◌∙◌, arith}
use Rattle.std.specs.Fmt.{decimal}
use Rattle.std.proofs.lemmas.Slice.Eq.{bytes_eq-Decides}
use Rattle.group_text.specs.Limits.{IsName}
use Rattle.mcdec_answers.proofs.CommandNames.{other-name}
use Rattle.mcdec_answers.proofs.Words.{emptied, filled, smt-no-name, smt-no-proof, smt-no-output, smt-read, smt-same-file}
use Rattle.mcdec_answers.proofs.command.read_smt.Goals as goal
use Rattle.mcdec_answers.proofs.command.read_smt.Goals.{
  then-is_empty-via-then-is_empty,
  then-is_empty-via-else-is_empty+then-not-is_name,
  then-is_empty-2-via-then-is_empty-2,
  then-is_empty-2-via-else-is_empty-2+then-eq,
}

pub returns-then-is_empty : goal.returns-then-is_empty
returns-then-is_empty c =
    let proof = c.proof-item.result in
    let name = c.name-item.result in
    let def = c.def-item.result in
    let out = c.out-item.result in
    let four : length c.args.words.now ≡ 4 = omega (arith, c.in-len4.len_at_least, c.in-len4.len_below) in
    elim c.then-is_empty.branch [
      | then-is_empty-via-then-is_empty w ↦
          smt-no-proof c.args.words.now proof name def out four c.proof-item.is c.name-item.is c.def-item.is c.out-item.is (emptied proof (sym c.is_empty.ensures ∙ w.if-is_empty.true))
      | then-is_empty-via-else-is_empty+then-not-is_name w ↦
          smt-no-name c.args.words.now proof name def out four c.proof-item.is c.name-item.is c.def-item.is c.out-item.is
          (λ is. true≢false (sym (w.is_name.ensures.1 (subst IsName (sym w.as_bytes.ensures.value) is)) ∙ w.if-not-is_name.true))
    ]

pub returns-then-is_empty-2 : goal.returns-then-is_empty-2
returns-then-is_empty-2 c =
    let proof = c.proof-item.result in
    let name = c.name-item.result in
    let def = c.def-item.result in
    let out = c.out-item.result in
    let four : length c.args.words.now ≡ 4 = omega (arith, c.in-len4.len_at_least, c.in-len4.len_below) in
    elim c.then-is_empty-2.branch [
      | then-is_empty-2-via-then-is_empty-2 w ↦
          smt-no-output c.args.words.now proof name def out four c.proof-item.is c.name-item.is c.def-item.is c.out-item.is (emptied out (sym c.is_empty-2.ensures ∙ w.if-is_empty-2.true))
      | then-is_empty-2-via-else-is_empty-2+then-eq w ↦
          smt-same-file c.args.words.now proof name def out four c.proof-item.is c.name-item.is c.def-item.is c.out-item.is
          (sym w.as_str.ensures.value ∙ (bytes_eq-Decides w.as_str.result.now w.as_str-else-is_empty-2.result.now).0 (sym w.eq.ensures ∙ w.if-eq.true) ∙ w.as_str-else-is_empty-2.ensures.value)
    ]

pub returns : goal.returns
returns c =
    let proof = c.proof-item.result in
    let name = c.name-item.result in
    let def = c.def-item.result in
    let out = c.out-item.result in
    let four : length c.args.words.now ≡ 4 = omega (arith, c.in-len4.len_at_least, c.in-len4.len_below) in
    smt-read c.args.words.now proof name def out four c.proof-item.is c.name-item.is c.def-item.is c.out-item.is c.as_str-2.result.now c.as_bytes-3.result.now c.in-Some.def c.as_str-3.result.now
    c.as_str-2.ensures.value c.as_bytes-3.ensures.value (subst (λ (s : List ℕ). (c.in-Some.def < 2 ^ 64) × (s ≡ decimal c.in-Some.def)) c.as_bytes-2.ensures.value c.in-Some.ensures.spelled)
    c.as_str-3.ensures.value (filled proof (sym c.is_empty.ensures ∙ c.if-is_empty.false)) (subst IsName c.as_bytes.ensures.value (c.is_name.ensures.0 c.if-not-is_name.false))
    (filled out (sym c.is_empty-2.ensures ∙ c.if-is_empty-2.false))
    (λ same. other-name c.as_str.result.now c.as_str-else-is_empty-2.result.now (sym c.eq.ensures ∙ c.if-eq.false) (c.as_str.ensures.value ∙ same ∙ sym c.as_str-else-is_empty-2.ensures.value))
