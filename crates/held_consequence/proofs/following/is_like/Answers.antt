use Rattle.std.proofs.Common.{◌≡◌, map, ap, sym, ◌∙◌, subst}
use Rattle.word_terms.specs.Tree.{CondTree}
use Rattle.term_arena.specs.Arena.{cond_of}
use Rattle.triple_kernel.specs.Tree.{So}
use Rattle.triple_kernel.specs.Rules.{Alike}
use Rattle.held_terms.specs.declared.held.HeldFact.{HeldFact}
use Rattle.held_terms.specs.Held.{fact_of}
use Rattle.held_terms.specs.Subterms.{HasFact}
use Rattle.held_consequence.specs.inner.Following.{HasCondAndFact}
use Rattle.held_consequence.specs.inner.Table.{HasBoth}
use Rattle.held_consequence.proofs.SeekLemmas.{sought_under}
use Rattle.held_consequence.proofs.SideLemmas.{right_kept, right_known}
use Rattle.held_consequence.proofs.following.is_like.Goals as goal

pub returns-in_ok-alike-in-So-clause-answer : goal.returns-in_ok-alike-in-So-clause-answer
returns-in_ok-alike-in-So-clause-answer g c =
    let f = fact_of c.args.arena.now in
    let d = cond_of c.args.arena.now c.in-So.d in
    let says : f c.args.fact.now ≡ So d = ap f c.in-So.is in (
      λ y. (d, says, c.in_ok-alike-in-So.ensures.answer.0 y),
      λ x.
          let both : So d ≡ So x.0 = sym says ∙ x.1 in
          let same : d ≡ x.0 = cc in
          c.in_ok-alike-in-So.ensures.answer.1 (subst (λ (q : CondTree). Alike (map f c.args.facts.now) (cond_of c.args.arena.now c.args.c) q) (sym same) x.2),
    )

pub returns-in_err-alike-in-So-clause-sought : goal.returns-in_err-alike-in-So-clause-sought
returns-in_err-alike-in-So-clause-sought g c =
    sought_under c.args.arena.now (HasCondAndFact c.args.arena.now c.args.c c.args.fact.now) (HasBoth c.args.arena.now c.args.c c.in-So.d) c.args.known.now c.are_alike.new.known c.args.found.now c.are_alike.new.found c.args.steps.now c.are_alike.new.steps (λ ts h. (h.0, subst (λ (f : HeldFact). HasFact c.args.arena.now f ts) c.in-So.is h.1)) c.are_alike.ensures.sought

pub returns-in_ok-alike-in-So-clause-sought : goal.returns-in_ok-alike-in-So-clause-sought
returns-in_ok-alike-in-So-clause-sought g c =
    sought_under c.args.arena.now (HasCondAndFact c.args.arena.now c.args.c c.args.fact.now) (HasBoth c.args.arena.now c.args.c c.in-So.d) c.args.known.now c.are_alike.new.known c.args.found.now c.are_alike.new.found c.args.steps.now c.are_alike.new.steps (λ ts h. (h.0, subst (λ (f : HeldFact). HasFact c.args.arena.now f ts) c.in-So.is h.1)) c.are_alike.ensures.sought

pub returns-in_ok-alike-in-So-clause-right : goal.returns-in_ok-alike-in-So-clause-right
returns-in_ok-alike-in-So-clause-right g c =
    right_kept c.args.arena.now _ c.args.known.now c.are_alike.new.known c.requires.right c.in_ok-alike-in-So.ensures.decided

pub are_alike-requires-clause-known : goal.are_alike-requires-clause-known
are_alike-requires-clause-known g c =
    right_known c.args.arena.now _ c.args.known.now _ c.requires.right
