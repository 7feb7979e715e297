use Rattle.std.proofs.Common.{◌≡◌, ◌∙◌, sym, subst, refl, true}
use Rattle.std.specs.Prelude.{is_some}
use Rattle.group_text.specs.declared.version.Version.{Version as Known}
use Rattle.group_text.specs.Version.{version_of}
use Rattle.proof_text.specs.LineLimits.{IsTriple}
use Rattle.code_parts.specs.Bodies.{Flow}
use Rattle.code_parts.specs.Kept.{flow_in}
use Rattle.code_parts.specs.VariableMaps.{place_of}
use Rattle.path_walk.specs.inner.Acts.{named_wide}
use Rattle.path_walk.proofs.Lines.{crossed-second}
use Rattle.path_walk.proofs.OrderedLines.{widened-crossed}
use Rattle.path_walk.proofs.WriterLemmas.{restated-version}
use Rattle.path_walk.proofs.instruction_lines.put_crossed.Goals as goal

pub restate-requires-clause-stated : goal.restate-requires-clause-stated
restate-requires-clause-stated c =
    let f : Flow = flow_in c.args.flow.now in
    let front = (crossed-second c.args.at.instr c.args.at.memory f.mems c.requires.low c.requires.two c.requires.crossed).1 in
    let same = c.in_ok-crossed.ensures ∙ (λ j. named_wide c.args.regs.now c.args.at.instr c.args.at.form c.args.at.addr c.args.at.word (sym front j) c.args.at.memory (place_of c.args.place.now)) in
    subst IsTriple (sym same) c.requires.wide

pub state_further-requires-clause-further : goal.state_further-requires-clause-further
state_further-requires-clause-further c =
    subst (λ (v : Known). is_some (version_of v).further ≡ true) (sym (restated-version _ _ _ _ _ _ _ c.in_ok-framed.ensures.restated ∙ c.requires.version)) refl

pub state_further-requires-clause-stated : goal.state_further-requires-clause-stated
state_further-requires-clause-stated c =
    let wide = c.in_ok-wide.ensures ∙ (λ j. named_wide c.args.regs.now c.args.at.instr c.args.at.form c.args.at.addr c.args.at.word (c.all_mems.ensures.are j) c.args.at.memory (place_of c.args.place.now)) in
    subst IsTriple (sym wide) c.requires.in_order

pub returns-clause-widened : goal.returns-clause-widened
returns-clause-widened c =
    let f : Flow = flow_in c.args.flow.now in
    let wide = c.in_ok-wide.ensures ∙ (λ j. named_wide c.args.regs.now c.args.at.instr c.args.at.form c.args.at.addr c.args.at.word (c.all_mems.ensures.are j) c.args.at.memory (place_of c.args.place.now)) in
    widened-crossed c.args.regs.now f.mems c.args.at.instr c.args.at.form c.args.at.addr c.args.at.word c.args.at.memory (place_of c.args.place.now) c.requires.low c.args.named _ c.in_ok-known.ensures c.requires.crossed c.requires.two _ _ c.in_ok-crossed.ensures wide _ _ _ _ _
    c.in_ok-framed.ensures.restated c.in_ok-number.ensures.log c.in_ok-number.ensures.number
