use Rattle.std.proofs.Common.{ap}
use Rattle.std.proofs.lemmas.Bool.{eqb-true, eq-eqb}
use Rattle.term_arena.specs.Arena.{OfWord, word_of}
use Rattle.held_terms.proofs.same.same_word.Goals as goal

pub returns : goal.returns
returns c =
    let of = word_of c.args.arena.now in (
      λ h. ap of (eqb-true c.args.a c.args.b h),
      λ e. eq-eqb c.args.a c.args.b ((c.law_of_arenas.ensures.equal c.args.arena.now c.args.a c.args.b (OfWord (of c.args.a)) (OfWord (of c.args.b)) c.law_of_nodes.ensures c.requires.a c.requires.b).1 (ap OfWord e)),
    )
