use Rattle.std.proofs.Common.{subst}
use Rattle.held_terms.specs.declared.held.HeldFact.{HeldFact}
use Rattle.held_terms.specs.Subterms.{HasFact}
use Rattle.held_consequence.specs.inner.Following.{HasCondAnd, HasFactAnd}
use Rattle.held_consequence.specs.inner.Table.{HasBoth}
use Rattle.held_consequence.proofs.SeekLemmas.{sought_pairs, sought_under}
use Rattle.held_consequence.proofs.following.follows.Goals as goal

pub returns-in_err-same-in-WordIs-clause-sought : goal.returns-in_err-same-in-WordIs-clause-sought
returns-in_err-same-in-WordIs-clause-sought g c =
    sought_pairs c.args.arena.now (HasFactAnd c.args.arena.now c.args.fact.now c.args.others.now) (HasBoth c.args.arena.now c.in-WordIs.a c.in-WordIs.b) c.args.known.now c.swap_words.new.known c.args.found.now c.args.steps.now c.swap_words.new.steps (λ ts h. subst (λ (f : HeldFact). HasFact c.args.arena.now f ts) c.in-WordIs.is h.0) c.swap_words.ensures.went

pub returns-in_ok-same-in-WordIs-clause-sought : goal.returns-in_ok-same-in-WordIs-clause-sought
returns-in_ok-same-in-WordIs-clause-sought g c =
    sought_pairs c.args.arena.now (HasFactAnd c.args.arena.now c.args.fact.now c.args.others.now) (HasBoth c.args.arena.now c.in-WordIs.a c.in-WordIs.b) c.args.known.now c.swap_words.new.known c.args.found.now c.args.steps.now c.swap_words.new.steps (λ ts h. subst (λ (f : HeldFact). HasFact c.args.arena.now f ts) c.in-WordIs.is h.0) c.swap_words.ensures.went

pub returns-in_err-same-in-MemIs-clause-sought : goal.returns-in_err-same-in-MemIs-clause-sought
returns-in_err-same-in-MemIs-clause-sought g c =
    sought_pairs c.args.arena.now (HasFactAnd c.args.arena.now c.args.fact.now c.args.others.now) (HasBoth c.args.arena.now c.in-MemIs.a c.in-MemIs.b) c.args.known.now c.swap_memories.new.known c.args.found.now c.args.steps.now c.swap_memories.new.steps (λ ts h. subst (λ (f : HeldFact). HasFact c.args.arena.now f ts) c.in-MemIs.is h.0) c.swap_memories.ensures.went

pub returns-in_ok-same-in-MemIs-clause-sought : goal.returns-in_ok-same-in-MemIs-clause-sought
returns-in_ok-same-in-MemIs-clause-sought g c =
    sought_pairs c.args.arena.now (HasFactAnd c.args.arena.now c.args.fact.now c.args.others.now) (HasBoth c.args.arena.now c.in-MemIs.a c.in-MemIs.b) c.args.known.now c.swap_memories.new.known c.args.found.now c.args.steps.now c.swap_memories.new.steps (λ ts h. subst (λ (f : HeldFact). HasFact c.args.arena.now f ts) c.in-MemIs.is h.0) c.swap_memories.ensures.went

pub returns-in_err-holds-in-So-clause-sought : goal.returns-in_err-holds-in-So-clause-sought
returns-in_err-holds-in-So-clause-sought g c =
    sought_under c.args.arena.now (HasFactAnd c.args.arena.now c.args.fact.now c.args.others.now) (HasCondAnd c.args.arena.now c.in-So.c c.args.others.now) c.args.known.now c.condition_follows.new.known c.args.found.now c.condition_follows.new.found c.args.steps.now c.condition_follows.new.steps (λ ts h. (subst (λ (f : HeldFact). HasFact c.args.arena.now f ts) c.in-So.is h.0, h.1)) c.condition_follows.ensures.sought

pub returns-in_ok-holds-in-So-clause-sought : goal.returns-in_ok-holds-in-So-clause-sought
returns-in_ok-holds-in-So-clause-sought g c =
    sought_under c.args.arena.now (HasFactAnd c.args.arena.now c.args.fact.now c.args.others.now) (HasCondAnd c.args.arena.now c.in-So.c c.args.others.now) c.args.known.now c.condition_follows.new.known c.args.found.now c.condition_follows.new.found c.args.steps.now c.condition_follows.new.steps (λ ts h. (subst (λ (f : HeldFact). HasFact c.args.arena.now f ts) c.in-So.is h.0, h.1)) c.condition_follows.ensures.sought
