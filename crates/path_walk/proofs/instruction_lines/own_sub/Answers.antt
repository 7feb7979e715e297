use Rattle.std.proofs.Common.{◌≡◌, map, ◌∙◌}
use Rattle.instr_axioms.specs.Axiom.{own}
use Rattle.code_parts.specs.Bodies.{names}
use Rattle.code_parts.specs.VariableMaps.{place_of}
use Rattle.path_walk.specs.inner.Acts.{numbered}
use Rattle.path_walk.proofs.instruction_lines.own_sub.Goals as goal

pub returns-clause-words : goal.returns-clause-words
returns-clause-words c =
    let regs : c.as_slice-regs.result.now ≡ own c.args.i = c.as_slice-regs.ensures ∙ c.in_ok-regs.ensures.own in
    c.in_ok-words.ensures ∙ (λ j. numbered 0 (map (names (place_of c.args.place.now) 0).word (regs j)))
