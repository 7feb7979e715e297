use Rattle.term_arena.specs.declared.node.Node.TheVariants as node
use Rattle.term_arena.proofs.PlaceLemmas.{placed_none}
use Rattle.term_arena.proofs.leaves.FirstLeaves.new.Goals as goal

pub returns : goal.returns
returns c = record {
  consts = placed_none (λ n. node.Const n) 64;
  words = placed_none (λ i. node.WordVar i) 64;
  mems = placed_none (λ i. node.MemVar i) 16;
}
