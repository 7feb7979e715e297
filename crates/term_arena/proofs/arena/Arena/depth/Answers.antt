use Rattle.std.proofs.Common.{◌≡◌, ℕ, List, length, ap, ◌∙◌, subst, arith}
use Rattle.std.specs.Prelude.{IfSome, slice_index}
use Rattle.word_terms.specs.Tree.{told_depth}
use Rattle.term_arena.specs.declared.node.Node.{Node}
use Rattle.term_arena.specs.Arena.{tree_depth, tree_of}
use Rattle.term_arena.specs.inner.Chains.{nodes_of}
use Rattle.term_arena.proofs.DepthLemmas.{as_many, depth-told}
use Rattle.term_arena.proofs.arena.Arena.depth.Goals as goal

pub depth_at-requires : goal.depth_at-requires
depth_at-requires c =
    let s = c.self.inside in
    let many = as_many (nodes_of s.entries) s.depths c.self.invariant.measured in
    let all : length (nodes_of s.entries) ≡ length c.args.self.now = ap length c.self.view_is in
    let is : length c.as_slice.result.now ≡ length s.depths = ap length c.as_slice.ensures in
    omega (arith, many, all, is, c.requires)

pub returns : goal.returns
returns c =
    let s = c.self.inside in
    subst (λ (ns : List Node). IfSome (tree_of ns c.args.k) (λ t. c.depth_at.result ≡ told_depth (tree_depth t))) c.self.view_is
    (depth-told (nodes_of s.entries) s.depths c.self.invariant.measured c.args.k c.depth_at.result (c.depth_at.ensures ∙ ap (λ (ds : List ℕ). slice_index ds c.args.k) c.as_slice.ensures))
