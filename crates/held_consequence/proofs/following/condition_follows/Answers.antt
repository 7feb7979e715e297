use Rattle.term_arena.specs.Arena.{cond_of}
use Rattle.held_consequence.specs.inner.Following.{HasCondAnd}
use Rattle.held_terms.specs.Subterms.{HasTerm}
use Rattle.held_consequence.proofs.ClassLemmas.{some_at, some_has, some_like}
use Rattle.held_consequence.proofs.SeekLemmas.{sought_both, sought_finds, sought_under}
use Rattle.held_consequence.proofs.following.condition_follows.Goals as goal

pub returns-in_err-always-clause-sought : goal.returns-in_err-always-clause-sought
returns-in_err-always-clause-sought g c =
    sought_finds c.args.arena.now (HasCondAnd c.args.arena.now c.args.c c.args.others.now) (HasTerm c.args.arena.now c.args.c) c.args.known.now c.args.found.now c.is_always_true.new.found c.args.steps.now c.is_always_true.new.steps (λ ts h. h.0) c.is_always_true.ensures.searched

pub returns-then-always-clause-sought : goal.returns-then-always-clause-sought
returns-then-always-clause-sought g c =
    sought_finds c.args.arena.now (HasCondAnd c.args.arena.now c.args.c c.args.others.now) (HasTerm c.args.arena.now c.args.c) c.args.known.now c.args.found.now c.is_always_true.new.found c.args.steps.now c.is_always_true.new.steps (λ ts h. h.0) c.is_always_true.ensures.searched

pub returns-in_err-like-clause-sought : goal.returns-in_err-like-clause-sought
returns-in_err-like-clause-sought g c =
    sought_both c.args.arena.now (HasCondAnd c.args.arena.now c.args.c c.args.others.now) c.args.known.now c.args.known.now c.is_like_some.new.known c.args.found.now c.is_always_true.new.found c.is_like_some.new.found c.args.steps.now c.is_always_true.new.steps c.is_like_some.new.steps
    (sought_finds c.args.arena.now (HasCondAnd c.args.arena.now c.args.c c.args.others.now) (HasTerm c.args.arena.now c.args.c) c.args.known.now c.args.found.now c.is_always_true.new.found c.args.steps.now c.is_always_true.new.steps (λ ts h. h.0) c.is_always_true.ensures.searched)
    (sought_under c.args.arena.now (HasCondAnd c.args.arena.now c.args.c c.args.others.now) (HasCondAnd c.args.arena.now c.args.c c.candidates_of-given.result.now) c.args.known.now c.is_like_some.new.known c.is_always_true.new.found c.is_like_some.new.found c.is_always_true.new.steps c.is_like_some.new.steps
    (λ ts h. (h.0, some_has c.args.arena.now c.candidates_of-given.result.now c.as_slice.result.now c.args.others.now c.as_slice.ensures c.candidates_of-given.ensures.among ts h.1)) c.is_like_some.ensures.sought)

pub returns-clause-sought : goal.returns-clause-sought
returns-clause-sought g c =
    sought_both c.args.arena.now (HasCondAnd c.args.arena.now c.args.c c.args.others.now) c.args.known.now c.args.known.now c.is_like_some.new.known c.args.found.now c.is_always_true.new.found c.is_like_some.new.found c.args.steps.now c.is_always_true.new.steps c.is_like_some.new.steps
    (sought_finds c.args.arena.now (HasCondAnd c.args.arena.now c.args.c c.args.others.now) (HasTerm c.args.arena.now c.args.c) c.args.known.now c.args.found.now c.is_always_true.new.found c.args.steps.now c.is_always_true.new.steps (λ ts h. h.0) c.is_always_true.ensures.searched)
    (sought_under c.args.arena.now (HasCondAnd c.args.arena.now c.args.c c.args.others.now) (HasCondAnd c.args.arena.now c.args.c c.candidates_of-given.result.now) c.args.known.now c.is_like_some.new.known c.is_always_true.new.found c.is_like_some.new.found c.is_always_true.new.steps c.is_like_some.new.steps
    (λ ts h. (h.0, some_has c.args.arena.now c.candidates_of-given.result.now c.as_slice.result.now c.args.others.now c.as_slice.ensures c.candidates_of-given.ensures.among ts h.1)) c.is_like_some.ensures.sought)

pub is_like_some-requires-clause-given : goal.is_like_some-requires-clause-given
is_like_some-requires-clause-given g c =
    some_at c.args.arena.now c.candidates_of-given.result.now c.as_slice.result.now c.args.others.now c.as_slice.ensures c.candidates_of-given.ensures.among c.requires.others

pub returns-clause-answer : goal.returns-clause-answer
returns-clause-answer g c =
    some_like c.args.arena.now c.candidates_of-given.result.now c.as_slice.result.now c.args.others.now c.as_slice.ensures c.candidates_of-given.ensures.among (cond_of c.args.arena.now c.args.c) _ _ c.candidates_of-given.ensures.all
    (λ always. let yes = c.in_ok-always.ensures.answer.1 always in absurd (cc))
    c.in_ok-like.ensures.answer
