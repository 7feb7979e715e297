use Rattle.std.proofs.Common.{◌≡◌, ap, ◌∙◌}
use Rattle.rvc.specs.Number.{length_of}
use Rattle.instr_axioms.specs.Axiom.{own, triple_over, variables_for, word_code}
use Rattle.instr_axioms.specs.Variables.{names_of}
use Rattle.instr_axioms.proofs.Numbered.{named_for}
use Rattle.path_walk.proofs.instruction_lines.first_triple.Goals as goal

pub returns : goal.returns
returns c =
    let regs : c.as_slice-regs.result.now ≡ own c.args.at.instr = c.as_slice-regs.ensures ∙ c.in_ok-regs.ensures.own in
    let names : names_of c.numbered-names.result ≡ variables_for (own c.args.at.instr) =
    named_for c.numbered-names.result c.as_slice-regs.result.now c.numbered-names.ensures.words c.numbered-names.ensures.memory ∙ ap variables_for regs in
    c.in_ok-triple.ensures ∙ (λ j. triple_over c.args.at.instr c.args.at.form c.args.at.addr (length_of c.args.at.word) (word_code c.args.at.addr c.args.at.word) (regs j) (c.has_memory.ensures j) (names j))
