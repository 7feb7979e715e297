use Rattle.std.proofs.Common.{◌≡◌, ◌∙◌}
use Rattle.rvc.specs.Number.{length_of}
use Rattle.instr_axioms.specs.Axiom.{own, triple_over, word_code}
use Rattle.path_walk.proofs.instruction_lines.current_triple.Goals as goal

pub returns : goal.returns
returns c =
    let regs : c.as_slice-regs.result.now ≡ own c.args.at.instr = c.as_slice-regs.ensures ∙ c.in_ok-regs.ensures.own in
    c.in_ok-triple.ensures ∙ (λ j. triple_over c.args.at.instr c.args.at.form c.args.at.addr (length_of c.args.at.word) (word_code c.args.at.addr c.args.at.word) (regs j) (c.has_memory.ensures j) (c.names_of-names.ensures j))
