use Rattle.std.proofs.Common.{◌+◌, ◌≤◌, arith}
use Rattle.held_terms.specs.Subterms.{HasTerm}
use Rattle.held_consequence.specs.inner.Table.{HasBoth}
use Rattle.held_consequence.proofs.CondLemmas.{addresses_before}
use Rattle.held_consequence.proofs.FindLemmas.{found_still}
use Rattle.held_consequence.proofs.SeekLemmas.{sought_both, sought_finds, sought_pairs}
use Rattle.held_consequence.proofs.TableLemmas.{decided_both, known_kept, known_less}
use Rattle.held_consequence.proofs.conditions.have_same_addresses.Goals as goal

pub returns-in_err-same-clause-sought : goal.returns-in_err-same-clause-sought
returns-in_err-same-clause-sought g c =
    sought_pairs c.args.arena.now (HasBoth c.args.arena.now c.args.m c.args.n) (HasBoth c.args.arena.now c.args.m c.args.n) c.args.known.now c.swap_mem.new.known c.args.found.now c.args.steps.now c.swap_mem.new.steps (λ ts h. h) c.swap_mem.ensures.went

pub returns-then-same-clause-sought : goal.returns-then-same-clause-sought
returns-then-same-clause-sought g c =
    sought_pairs c.args.arena.now (HasBoth c.args.arena.now c.args.m c.args.n) (HasBoth c.args.arena.now c.args.m c.args.n) c.args.known.now c.swap_mem.new.known c.args.found.now c.args.steps.now c.swap_mem.new.steps (λ ts h. h) c.swap_mem.ensures.went

pub returns-in_err-p-clause-sought : goal.returns-in_err-p-clause-sought
returns-in_err-p-clause-sought g c =
    sought_both c.args.arena.now (HasBoth c.args.arena.now c.args.m c.args.n) c.args.known.now c.swap_mem.new.known c.swap_mem.new.known c.args.found.now c.args.found.now c.before_stores.new.found c.args.steps.now c.swap_mem.new.steps c.before_stores.new.steps
    (sought_pairs c.args.arena.now (HasBoth c.args.arena.now c.args.m c.args.n) (HasBoth c.args.arena.now c.args.m c.args.n) c.args.known.now c.swap_mem.new.known c.args.found.now c.args.steps.now c.swap_mem.new.steps (λ ts h. h) c.swap_mem.ensures.went)
    (sought_finds c.args.arena.now (HasBoth c.args.arena.now c.args.m c.args.n) (HasTerm c.args.arena.now c.args.m) c.swap_mem.new.known c.args.found.now c.before_stores.new.found c.swap_mem.new.steps c.before_stores.new.steps (λ ts h. h.0) c.before_stores.ensures.searched)

pub returns-in_err-q-clause-sought : goal.returns-in_err-q-clause-sought
returns-in_err-q-clause-sought g c =
    sought_both c.args.arena.now (HasBoth c.args.arena.now c.args.m c.args.n) c.args.known.now c.swap_mem.new.known c.swap_mem.new.known c.args.found.now c.before_stores.new.found c.before_stores-2.new.found c.args.steps.now c.before_stores.new.steps c.before_stores-2.new.steps
    (sought_both c.args.arena.now (HasBoth c.args.arena.now c.args.m c.args.n) c.args.known.now c.swap_mem.new.known c.swap_mem.new.known c.args.found.now c.args.found.now c.before_stores.new.found c.args.steps.now c.swap_mem.new.steps c.before_stores.new.steps
    (sought_pairs c.args.arena.now (HasBoth c.args.arena.now c.args.m c.args.n) (HasBoth c.args.arena.now c.args.m c.args.n) c.args.known.now c.swap_mem.new.known c.args.found.now c.args.steps.now c.swap_mem.new.steps (λ ts h. h) c.swap_mem.ensures.went)
    (sought_finds c.args.arena.now (HasBoth c.args.arena.now c.args.m c.args.n) (HasTerm c.args.arena.now c.args.m) c.swap_mem.new.known c.args.found.now c.before_stores.new.found c.swap_mem.new.steps c.before_stores.new.steps (λ ts h. h.0) c.before_stores.ensures.searched))
    (sought_finds c.args.arena.now (HasBoth c.args.arena.now c.args.m c.args.n) (HasTerm c.args.arena.now c.args.n) c.swap_mem.new.known c.before_stores.new.found c.before_stores-2.new.found c.before_stores.new.steps c.before_stores-2.new.steps (λ ts h. h.1) c.before_stores-2.ensures.searched)

pub returns-in_err-before-clause-sought : goal.returns-in_err-before-clause-sought
returns-in_err-before-clause-sought g c =
    sought_both c.args.arena.now (HasBoth c.args.arena.now c.args.m c.args.n) c.args.known.now c.swap_mem.new.known c.swap_mem-2.new.known c.args.found.now c.before_stores-2.new.found c.before_stores-2.new.found c.args.steps.now c.before_stores-2.new.steps c.swap_mem-2.new.steps
    (sought_both c.args.arena.now (HasBoth c.args.arena.now c.args.m c.args.n) c.args.known.now c.swap_mem.new.known c.swap_mem.new.known c.args.found.now c.before_stores.new.found c.before_stores-2.new.found c.args.steps.now c.before_stores.new.steps c.before_stores-2.new.steps
    (sought_both c.args.arena.now (HasBoth c.args.arena.now c.args.m c.args.n) c.args.known.now c.swap_mem.new.known c.swap_mem.new.known c.args.found.now c.args.found.now c.before_stores.new.found c.args.steps.now c.swap_mem.new.steps c.before_stores.new.steps
    (sought_pairs c.args.arena.now (HasBoth c.args.arena.now c.args.m c.args.n) (HasBoth c.args.arena.now c.args.m c.args.n) c.args.known.now c.swap_mem.new.known c.args.found.now c.args.steps.now c.swap_mem.new.steps (λ ts h. h) c.swap_mem.ensures.went)
    (sought_finds c.args.arena.now (HasBoth c.args.arena.now c.args.m c.args.n) (HasTerm c.args.arena.now c.args.m) c.swap_mem.new.known c.args.found.now c.before_stores.new.found c.swap_mem.new.steps c.before_stores.new.steps (λ ts h. h.0) c.before_stores.ensures.searched))
    (sought_finds c.args.arena.now (HasBoth c.args.arena.now c.args.m c.args.n) (HasTerm c.args.arena.now c.args.n) c.swap_mem.new.known c.before_stores.new.found c.before_stores-2.new.found c.before_stores.new.steps c.before_stores-2.new.steps (λ ts h. h.1) c.before_stores-2.ensures.searched))
    (sought_pairs c.args.arena.now (HasBoth c.args.arena.now c.args.m c.args.n) (HasBoth c.args.arena.now c.in_ok-p.p c.in_ok-q.q) c.swap_mem.new.known c.swap_mem-2.new.known c.before_stores-2.new.found c.before_stores-2.new.steps c.swap_mem-2.new.steps
    (λ ts h. (c.in_ok-p.ensures.base.under ts h.0, c.in_ok-q.ensures.base.under ts h.1)) c.swap_mem-2.ensures.went)

pub returns-clause-sought : goal.returns-clause-sought
returns-clause-sought g c =
    sought_both c.args.arena.now (HasBoth c.args.arena.now c.args.m c.args.n) c.args.known.now c.swap_mem.new.known c.swap_mem-2.new.known c.args.found.now c.before_stores-2.new.found c.before_stores-2.new.found c.args.steps.now c.before_stores-2.new.steps c.swap_mem-2.new.steps
    (sought_both c.args.arena.now (HasBoth c.args.arena.now c.args.m c.args.n) c.args.known.now c.swap_mem.new.known c.swap_mem.new.known c.args.found.now c.before_stores.new.found c.before_stores-2.new.found c.args.steps.now c.before_stores.new.steps c.before_stores-2.new.steps
    (sought_both c.args.arena.now (HasBoth c.args.arena.now c.args.m c.args.n) c.args.known.now c.swap_mem.new.known c.swap_mem.new.known c.args.found.now c.args.found.now c.before_stores.new.found c.args.steps.now c.swap_mem.new.steps c.before_stores.new.steps
    (sought_pairs c.args.arena.now (HasBoth c.args.arena.now c.args.m c.args.n) (HasBoth c.args.arena.now c.args.m c.args.n) c.args.known.now c.swap_mem.new.known c.args.found.now c.args.steps.now c.swap_mem.new.steps (λ ts h. h) c.swap_mem.ensures.went)
    (sought_finds c.args.arena.now (HasBoth c.args.arena.now c.args.m c.args.n) (HasTerm c.args.arena.now c.args.m) c.swap_mem.new.known c.args.found.now c.before_stores.new.found c.swap_mem.new.steps c.before_stores.new.steps (λ ts h. h.0) c.before_stores.ensures.searched))
    (sought_finds c.args.arena.now (HasBoth c.args.arena.now c.args.m c.args.n) (HasTerm c.args.arena.now c.args.n) c.swap_mem.new.known c.before_stores.new.found c.before_stores-2.new.found c.before_stores.new.steps c.before_stores-2.new.steps (λ ts h. h.1) c.before_stores-2.ensures.searched))
    (sought_pairs c.args.arena.now (HasBoth c.args.arena.now c.args.m c.args.n) (HasBoth c.args.arena.now c.in_ok-p.p c.in_ok-q.q) c.swap_mem.new.known c.swap_mem-2.new.known c.before_stores-2.new.found c.before_stores-2.new.steps c.swap_mem-2.new.steps
    (λ ts h. (c.in_ok-p.ensures.base.under ts h.0, c.in_ok-q.ensures.base.under ts h.1)) c.swap_mem-2.ensures.went)

pub returns-then-same-clause-decided : goal.returns-then-same-clause-decided
returns-then-same-clause-decided g c =
    c.in_ok-same.ensures.decided

pub returns-clause-decided : goal.returns-clause-decided
returns-clause-decided g c =
    decided_both _ _ _ _ _ c.in_ok-same.ensures.decided c.in_ok-before.ensures.decided

pub returns-clause-found : goal.returns-clause-found
returns-clause-found g c =
    found_still c.args.arena.now c.before_stores.new.found c.before_stores-2.new.found (found_still c.args.arena.now c.args.found.now c.before_stores.new.found c.requires.found c.in_ok-p.ensures.found) c.in_ok-q.ensures.found

pub swap_mem-requires-2-clause-known : goal.swap_mem-requires-2-clause-known
swap_mem-requires-2-clause-known g c =
    let low = c.in_ok-p.ensures.base.low in
    let le : c.in_ok-p.p + 1 ≤ c.args.m + 1 = omega (arith, low) in
    known_less c.args.arena.now _ c.swap_mem.new.known (c.args.m + 1) (c.in_ok-p.p + 1) (known_kept c.args.arena.now _ c.args.known.now c.swap_mem.new.known (c.args.m + 1) c.requires.known c.in_ok-same.ensures.decided) le

pub returns-clause-answer : goal.returns-clause-answer
returns-clause-answer g c =
    addresses_before c.args.arena.now _ c.args.m c.args.n c.in_ok-p.p c.in_ok-q.q _ c.in_ok-p.ensures.base.same c.in_ok-q.ensures.base.same
    c.in_ok-before.ensures.answer (λ s. let yes = c.in_ok-same.ensures.answer.1 s in absurd (cc))
