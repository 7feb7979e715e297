use Rattle.std.proofs.Common.{◌∙◌, ◌-◌, option_copied, option_map, sym, subst, arith}
use Rattle.group_text.specs.declared.version.Version.{Version as Known}
use Rattle.code_parts.specs.Bodies.{Flow, VariableMap, place_after}
use Rattle.code_parts.specs.Kept.{flow_in}
use Rattle.code_parts.specs.VariableMaps.{place_of}
use Rattle.path_walk.specs.Further.{IsVersionFor}
use Rattle.path_walk.specs.inner.Writers.{cited_tree, origin_of, writer_tree}
use Rattle.path_walk.proofs.BlockLemmas.{each-first, each-rest, reaches-one, reaches-then, run-first, run-rest}
use Rattle.path_walk.proofs.blocks.+run_lines.Goals as goal

pub returns-then-more-eq0-clause-reaches : goal.returns-then-more-eq0-clause-reaches
returns-then-more-eq0-clause-reaches t c =
    let f : Flow = flow_in c.args.flow.now in
    let v : VariableMap = place_of c.args.place.now in
    reaches-one f c.args.flow.now.code c.law_of_code.ensures (origin_of c.args.origin.now) (writer_tree c.args.log.now) (writer_tree c.step_from.new.log) c.args.n v c.args.room (option_map cited_tree (option_copied c.args.from)) c.to-to.result
    (place_of c.after-next.result) (cited_tree c.in_ok-t.t) (run-first f c.args.n c.args.more c.requires.run) (each-first c.args.origin.now.regs.now f c.args.n c.args.more c.requires.each) (omega (arith, c.requires.some)) c.to-to.ensures.node c.to-to.ensures.is
    (c.after-next.ensures.is ∙ (λ j. place_after (c.instr.ensures.is j) (c.uses.ensures.is j) v)) c.in_ok-t.ensures.steps

pub run_lines-requires : goal.run_lines-requires
run_lines-requires t c =
    let f : Flow = flow_in c.args.flow.now in (
      omega (arith, c.decreases, c.if-more-eq0.false),
      (c.requires.origin, ((run-rest f c.args.n c.args.more c.to-to.result (omega (arith, c.if-more-eq0.false)) c.to-to.ensures.is c.requires.run).1, (each-rest c.args.origin.now.regs.now f c.args.n c.args.more c.to-to.result (omega (arith, c.if-more-eq0.false)) c.to-to.ensures.is c.requires.each, (omega (arith, c.requires.some, c.if-more-eq0.false), (omega (arith, c.requires.words, c.requires.some, c.after-next.ensures.words), (omega (arith, c.requires.mems, c.requires.some, c.after-next.ensures.mems), (c.in_ok-t.ensures.code, subst (λ (k : Known). IsVersionFor f k) (sym c.in_ok-t.ensures.steps.version) c.requires.version))))))),
    )

pub returns-clause-reaches : goal.returns-clause-reaches
returns-clause-reaches t c =
    let f : Flow = flow_in c.args.flow.now in
    let v : VariableMap = place_of c.args.place.now in
    reaches-then f c.args.flow.now.code (origin_of c.args.origin.now) (writer_tree c.args.log.now) (writer_tree c.step_from.new.log) (writer_tree c.run_lines.new.log) c.args.n v c.args.room (option_map cited_tree (option_copied c.args.from)) c.to-to.result
    (place_of c.after-next.result) (c.args.room - 1) (cited_tree c.in_ok-t.t) c.in_ok-end.end.node (place_of c.in_ok-end.end.place) c.in_ok-end.end.room (cited_tree c.in_ok-end.end.theorem)
    (reaches-one f c.args.flow.now.code c.law_of_code.ensures (origin_of c.args.origin.now) (writer_tree c.args.log.now) (writer_tree c.step_from.new.log) c.args.n v c.args.room (option_map cited_tree (option_copied c.args.from)) c.to-to.result
    (place_of c.after-next.result) (cited_tree c.in_ok-t.t) (run-first f c.args.n c.args.more c.requires.run) (each-first c.args.origin.now.regs.now f c.args.n c.args.more c.requires.each) (omega (arith, c.requires.some)) c.to-to.ensures.node c.to-to.ensures.is
    (c.after-next.ensures.is ∙ (λ j. place_after (c.instr.ensures.is j) (c.uses.ensures.is j) v)) c.in_ok-t.ensures.steps)
    (run-rest f c.args.n c.args.more c.to-to.result (omega (arith, c.if-more-eq0.false)) c.to-to.ensures.is c.requires.run).0 c.in_ok-end.ensures.reaches
