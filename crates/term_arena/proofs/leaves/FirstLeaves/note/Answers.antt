use Rattle.std.proofs.Common.{[], ◌∷◌, ◌++◌, sym, subst}
use Rattle.term_arena.specs.declared.node.Node.{Node}
use Rattle.term_arena.specs.declared.node.Node.TheVariants as node
use Rattle.term_arena.specs.inner.Chains.{IsPlaced}
use Rattle.term_arena.proofs.PlaceLemmas.{placed_more}
use Rattle.term_arena.proofs.leaves.FirstLeaves.note.Goals as goal

pub returns-in-Const : goal.returns-in-Const
returns-in-Const c = λ ns p is. record {
  consts = subst (λ (m : Node). IsPlaced (λ n. node.Const n) (ns ++ m ∷ []) c.note_at.new.places) (sym c.in-Const.is)
      (c.note_at.ensures (λ n. node.Const n) ns p.consts is);
  words = placed_more (λ i. node.WordVar i) ns c.args.n c.args.self.now.words p.words;
  mems = placed_more (λ i. node.MemVar i) ns c.args.n c.args.self.now.mems p.mems;
}

pub returns-in-WordVar : goal.returns-in-WordVar
returns-in-WordVar c = λ ns p is. record {
  consts = placed_more (λ n. node.Const n) ns c.args.n c.args.self.now.consts p.consts;
  words = subst (λ (m : Node). IsPlaced (λ i. node.WordVar i) (ns ++ m ∷ []) c.note_at-in-WordVar.new.places) (sym c.in-WordVar.is)
      (c.note_at-in-WordVar.ensures (λ i. node.WordVar i) ns p.words is);
  mems = placed_more (λ i. node.MemVar i) ns c.args.n c.args.self.now.mems p.mems;
}

pub returns-in-MemVar : goal.returns-in-MemVar
returns-in-MemVar c = λ ns p is. record {
  consts = placed_more (λ n. node.Const n) ns c.args.n c.args.self.now.consts p.consts;
  words = placed_more (λ i. node.WordVar i) ns c.args.n c.args.self.now.words p.words;
  mems = subst (λ (m : Node). IsPlaced (λ i. node.MemVar i) (ns ++ m ∷ []) c.note_at-in-MemVar.new.places) (sym c.in-MemVar.is)
      (c.note_at-in-MemVar.ensures (λ i. node.MemVar i) ns p.mems is);
}

pub returns-in_default : goal.returns-in_default
returns-in_default c = λ ns p is. record {
  consts = placed_more (λ n. node.Const n) ns c.args.n c.args.self.now.consts p.consts;
  words = placed_more (λ i. node.WordVar i) ns c.args.n c.args.self.now.words p.words;
  mems = placed_more (λ i. node.MemVar i) ns c.args.n c.args.self.now.mems p.mems;
}
