use Rattle.std.proofs.Common.{ap, ◌∙◌, arith}
use Rattle.std.specs.Option.{unwrap_or}
use Rattle.elf_image.specs.Image.{code_in}
use Rattle.flow_graph.proofs.InstructionLemmas.{number_more}
use Rattle.flow_graph.proofs.graph.numbers.Goals as goal

pub nodes-preserved : goal.nodes-preserved
nodes-preserved c = (
  omega (arith, c.len.ensures.len),
  number_more c.requires.0 (code_in c.args.image.now.pieces) c.args.nodes.now c.nodes.numbers.items c.push.new.self.items c.requires.1 c.nodes.i c.get.result c.unwrap_or.result c.requires.2 (omega (arith, c.len.ensures.len)) c.get.ensures
      c.nodes.invariant.1 (c.unwrap_or.ensures ∙ ap (λ o. unwrap_or o 0) c.number_at.ensures) c.in_ok-push.ensures.items,
)
