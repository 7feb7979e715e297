use Rattle.std.proofs.Common.{ℕ, List, Option, sym, subst, arith}
use Rattle.std.specs.Prelude.{IsSomeAnd}
use Rattle.triple_kernel.specs.Rules.{IsInst}
use Rattle.triple_kernel.specs.Tree.{TripleTree}
use Rattle.held_terms.specs.Held.{triple_of}
use Rattle.held_instances.specs.Image.{put_for_numbers}
use Rattle.derived_triples.specs.inner.Making.{MadeIf}
use Rattle.held_terms.specs.Terms.{HasSubterms, theorem_terms}
use Rattle.checker.proofs.stating.by_inst.Goals as goal

pub returns-in_ok-made-in-Some-clause-made : goal.returns-in_ok-made-in-Some-clause-made
returns-in_ok-made-in-Some-clause-made g c =
    let old = c.args.arena.now in
    let new = c.put_in.new.arena in
    let made = c.in_ok-made-in-Some.made in
    let p = triple_of old c.in-Some.q.now in
    let words = subst (λ (l : List (ℕ × ℕ)). MadeIf new (λ t. IsInst (put_for_numbers old l c.as_slice.result.now) p t) made) c.as_slice-words.ensures c.in_ok-made-in-Some.ensures.made in
    let both = subst (λ (l : List (ℕ × ℕ)). MadeIf new (λ t. IsInst (put_for_numbers old c.args.words.now l) p t) made) c.as_slice.ensures words in
    subst (λ (o : Option TripleTree). MadeIf new (λ t. IsSomeAnd o (λ q. IsInst (put_for_numbers old c.args.words.now c.args.mems.now) q t)) made) c.in-Some.ensures.theorem both

pub returns-in_err-made-in-Some-clause-steps : goal.returns-in_err-made-in-Some-clause-steps
returns-in_err-made-in-Some-clause-steps g c = λ ts cited.
    c.put_in.ensures.steps ts (subst (λ (o : Option TripleTree). HasSubterms ts (theorem_terms o)) (sym c.in-Some.ensures.theorem) cited)

pub returns-in_ok-made-in-Some-clause-steps : goal.returns-in_ok-made-in-Some-clause-steps
returns-in_ok-made-in-Some-clause-steps g c = λ ts cited.
    c.put_in.ensures.steps ts (subst (λ (o : Option TripleTree). HasSubterms ts (theorem_terms o)) (sym c.in-Some.ensures.theorem) cited)

pub returns-in-None-clause-steps : goal.returns-in-None-clause-steps
returns-in-None-clause-steps g c = λ ts cited. omega arith
