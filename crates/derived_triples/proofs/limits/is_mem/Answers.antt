use Rattle.term_arena.proofs.TreeLemmas.{number_within}
use Rattle.derived_triples.proofs.limits.is_mem.Goals as goal

pub fits-requires : goal.fits-requires
fits-requires c = number_within c.args.arena.now c.args.k _ c.requires

pub returns : goal.returns
returns c = c.fits.ensures _ c.requires
