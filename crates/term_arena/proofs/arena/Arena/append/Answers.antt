use Rattle.std.proofs.Common.{◌≡◌, ℕ, ◌+◌, List, [], ◌∷◌, ◌++◌, length, ap, ◌∙◌, sym, subst, length-append}
use Rattle.std.proofs.lemmas.List.{length-map}
use Rattle.word_terms.specs.Tree.{told_depth}
use Rattle.term_arena.specs.declared.node.Node.{Node}
use Rattle.term_arena.specs.declared.chains.Entry.{Entry}
use Rattle.term_arena.specs.Arena.{AreBelow, IsArena}
use Rattle.term_arena.specs.inner.Chains.{ArePlaced, nodes_of}
use Rattle.term_arena.specs.inner.Depths.{AreMeasured, depth_over}
use Rattle.term_arena.proofs.DepthLemmas.{are_there, measured-push}
use Rattle.term_arena.proofs.TreeLemmas.{arena-push}
use Rattle.term_arena.proofs.arena.Arena.append.Goals as goal

pub depth_over-depth-requires : goal.depth_over-depth-requires
depth_over-depth-requires c =
    let s = c.self.inside in
    let measured = subst (λ (ms : List Node). AreMeasured ms s.depths) c.self.view_is c.self.invariant.measured in
    subst (λ (ds : List ℕ). AreBelow (length ds) c.args.n) (sym c.as_slice.ensures) (are_there c.args.self.now s.depths measured c.args.n c.requires.children)

pub invariant_of-self-2 : goal.invariant_of-self-2
invariant_of-self-2 c =
    let s = c.self.inside in
    let ns = c.args.self.now in
    let n = c.args.n in
    let e : nodes_of c.push_both.new.entries ≡ ns ++ n ∷ [] =
    c.in_ok-push_both.ensures.nodes ∙ ap (λ (ms : List Node). ms ++ n ∷ []) (c.in_ok-make_room.ensures.nodes ∙ c.self.view_is) in
    let count : length c.push_both.new.entries ≡ length ns + 1 =
    sym (length-map c.push_both.new.entries (λ (x : Entry). x.node)) ∙ ap length e ∙ length-append ns (n ∷ []) in
    let measured = subst (λ (ms : List Node). AreMeasured ms s.depths) c.self.view_is c.self.invariant.measured in
    let depth = c.depth_over-depth.ensures.depth ∙ ap (λ (ds : List ℕ). told_depth (depth_over ds n)) c.as_slice.ensures in
    record {
      arena = subst IsArena (sym e) (arena-push ns n (subst IsArena c.self.view_is c.self.invariant.arena) c.requires.children c.requires.new);
      measured = subst (λ (ms : List Node). AreMeasured ms c.push_both.new.depths) (sym e) (subst (AreMeasured (ns ++ n ∷ [])) (sym c.in_ok-push_both.ensures.depths)
          (measured-push ns s.depths measured n c.depth_over-depth.result c.requires.children c.depth_over-depth.ensures.range depth));
      chained = c.in_ok-push_both.ensures.chained;
      placed = subst (λ (ms : List Node). ArePlaced ms c.note.new.self) (sym e)
          (c.note.ensures ns (subst (λ (ms : List Node). ArePlaced ms s.leaves) c.self.view_is c.self.invariant.placed) (c.len.ensures ∙ count));
    }
