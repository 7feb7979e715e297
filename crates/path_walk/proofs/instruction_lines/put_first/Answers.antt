use Rattle.std.proofs.Common.{sym, subst, ◌∙◌}
use Rattle.proof_text.specs.LineLimits.{IsTriple}
use Rattle.code_parts.specs.Bodies.{Flow}
use Rattle.code_parts.specs.Kept.{flow_in}
use Rattle.code_parts.specs.VariableMaps.{place_of}
use Rattle.path_walk.specs.inner.Acts.{named_wide}
use Rattle.path_walk.proofs.OrderedLines.{widened-first}
use Rattle.path_walk.proofs.instruction_lines.put_first.Goals as goal

pub restate-requires-clause-stated : goal.restate-requires-clause-stated
restate-requires-clause-stated c =
    let wide = c.in_ok-wide.ensures ∙ (λ j. named_wide c.args.regs.now c.args.at.instr c.args.at.form c.args.at.addr c.args.at.word (c.all_mems.ensures.are j) c.args.at.memory (place_of c.args.place.now)) in
    subst IsTriple (sym wide) c.requires.in_order

pub returns-clause-widened : goal.returns-clause-widened
returns-clause-widened c =
    let f : Flow = flow_in c.args.flow.now in
    let wide = c.in_ok-wide.ensures ∙ (λ j. named_wide c.args.regs.now c.args.at.instr c.args.at.form c.args.at.addr c.args.at.word (c.all_mems.ensures.are j) c.args.at.memory (place_of c.args.place.now)) in
    widened-first c.args.regs.now f.mems c.args.at.instr c.args.at.form c.args.at.addr c.args.at.word c.args.at.memory (place_of c.args.place.now) c.requires.low c.args.named _ c.in_ok-known.ensures c.requires.first _ wide _ _ _ c.in_ok-number.ensures.restated
