use Rattle.std.proofs.Common.{◌≡◌, Option, subst}
use Rattle.std.specs.Prelude.{IfSome}
use Rattle.word_terms.specs.Tree.{told_depth}
use Rattle.term_arena.specs.Arena.{Tree, tree_depth}
use Rattle.derived_triples.proofs.DepthLemmas.{depth_tells}
use Rattle.derived_triples.proofs.limits.fits.Goals as goal

pub returns : goal.returns
returns c = λ t at.
    depth_tells t c.depth.result (c.law_of_ranges.ensures c.args.k t at) (subst (λ (o : Option Tree). IfSome o (λ u. c.depth.result ≡ told_depth (tree_depth u))) at c.depth.ensures)
