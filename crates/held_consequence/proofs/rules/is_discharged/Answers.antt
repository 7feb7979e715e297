use Rattle.std.proofs.Common.{List, sym, subst, ◌∙◌}
use Rattle.held_terms.specs.declared.held.HeldFact.{HeldFact}
use Rattle.held_terms.specs.Subterms.{HasFacts}
use Rattle.held_consequence.proofs.rules.is_discharged.Goals as goal

pub returns-in_err-follow-clause-steps : goal.returns-in_err-follow-clause-steps
returns-in_err-follow-clause-steps g c = λ ts one two.
    c.are_among_or_follow.ensures.steps ts (subst (λ (l : List HeldFact). HasFacts c.args.arena.now l ts) (sym c.as_slice-2.ensures) one)
    (subst (λ (l : List HeldFact). HasFacts c.args.arena.now l ts) (sym (c.new-facts.ensures ∙ c.as_slice.ensures)) two)

pub returns-clause-steps : goal.returns-clause-steps
returns-clause-steps g c = λ ts one two.
    c.are_among_or_follow.ensures.steps ts (subst (λ (l : List HeldFact). HasFacts c.args.arena.now l ts) (sym c.as_slice-2.ensures) one)
    (subst (λ (l : List HeldFact). HasFacts c.args.arena.now l ts) (sym (c.new-facts.ensures ∙ c.as_slice.ensures)) two)
