use Rattle.group_text.specs.TermLimits.{IsWord}
use Rattle.term_arena.specs.Arena.{word_of}
use Rattle.derived_triples.proofs.LimitLemmas.{not_each}
use Rattle.derived_triples.proofs.limits.are_words.Goals as goal

pub returns-then-not-is_word : goal.returns-then-not-is_word
returns-then-not-is_word c =
    let ns = c.args.arena.now in
    not_each IsWord (word_of ns) c.args.words.now c.loop-k.k-index _ c.loop-k-test.true (c.if-not-is_word.true) c.is_word.ensures.1
