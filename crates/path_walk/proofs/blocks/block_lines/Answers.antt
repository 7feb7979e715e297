use Rattle.std.proofs.Common.{◌≡◌, ℕ, ◌<◌, ◌^◌, ◌∙◌, List, Contains, option_copied, option_map, sym, subst, arith}
use Rattle.tailrec_lang.specs.Registers.{AreRegistersFrom}
use Rattle.code_parts.specs.Bodies.{Flow}
use Rattle.code_parts.specs.Kept.{flow_in}
use Rattle.code_parts.specs.VariableMaps.{place_of}
use Rattle.path_walk.specs.inner.Blocks.{HasEach, touched}
use Rattle.path_walk.specs.inner.Writers.{cited_tree, writer_tree}
use Rattle.path_walk.proofs.BlockLemmas.{block_made, touched-each, touched-rise, touched-within}
use Rattle.path_walk.proofs.blocks.block_lines.Goals as goal

pub run_lines-requires-clause-origin : goal.run_lines-requires-clause-origin
run_lines-requires-clause-origin c =
    let f : Flow = flow_in c.args.flow.now in
    record {
      registers = subst (AreRegistersFrom 1) (sym (c.as_slice.ensures ∙ c.requires.regs)) (touched-rise f c.args.n c.args.block.now.more);
      entry = subst (λ (a : ℕ). a < 2 ^ 64) (sym c.addr.ensures) (c.law_of_code.ensures.each c.args.n c.requires.node).address;
      words = omega (arith, c.requires.words);
      mems = omega (arith, c.requires.mems);
    }

pub run_lines-requires-clause-each : goal.run_lines-requires-clause-each
run_lines-requires-clause-each c =
    let f : Flow = flow_in c.args.flow.now in
    subst (λ (regs : List ℕ). HasEach regs f c.args.n c.args.block.now.more) (sym (c.as_slice.ensures ∙ c.requires.regs)) (touched-each f c.args.n c.args.block.now.more)

pub addr-to-requires : goal.addr-to-requires
addr-to-requires c = c.in_ok-end.ensures.reaches.runs.node

pub put_framed-requires-clause-origin : goal.put_framed-requires-clause-origin
put_framed-requires-clause-origin c =
    let f : Flow = flow_in c.args.flow.now in
    record {
      registers = subst (AreRegistersFrom 1) (sym (c.as_slice.ensures ∙ c.requires.regs)) (touched-rise f c.args.n c.args.block.now.more);
      entry = subst (λ (a : ℕ). a < 2 ^ 64) (sym c.addr.ensures) (c.law_of_code.ensures.each c.args.n c.requires.node).address;
      words = omega (arith, c.requires.words);
      mems = omega (arith, c.requires.mems);
    }

pub returns-clause-reaches : goal.returns-clause-reaches
returns-clause-reaches c =
    let f : Flow = flow_in c.args.flow.now in
    let more : ℕ = c.args.block.now.more in
    let regs_are : c.as_slice.result.now ≡ touched f c.args.n more = c.as_slice.ensures ∙ c.requires.regs in
    let end = c.in_ok-end.end in
    block_made f c.args.flow.now.code c.law_of_code.ensures c.as_slice.result.now (subst (AreRegistersFrom 1) (sym regs_are) (touched-rise f c.args.n more))
    (λ r d. touched-within f c.args.flow.now.code c.law_of_code.ensures c.args.n more c.requires.run r (subst (λ (regs : List ℕ). Contains regs r) regs_are d)) c.args.n (place_of c.args.place.now) c.args.entry
    (writer_tree c.args.log.now) (writer_tree c.run_lines.new.log) (writer_tree c.put_framed.new.log) (writer_tree c.go_on.new.log) c.args.room (option_map cited_tree (option_copied c.args.from)) end.node (place_of end.place) end.room
    (cited_tree end.theorem) (cited_tree c.in_ok-last.last) (cited_tree c.in_ok-there.there) c.addr.result c.addr-to.result c.addr.ensures c.addr-to.ensures c.in_ok-end.ensures.reaches c.in_ok-last.ensures.is c.in_ok-last.ensures.log c.in_ok-there.ensures.on
