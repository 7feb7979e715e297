use Rattle.std.proofs.Common.{List, map, sym, ◌∙◌, subst}
use Rattle.std.specs.List.{Contains}
use Rattle.triple_kernel.specs.Tree.{So}
use Rattle.held_terms.specs.declared.held.HeldFact.{HeldFact}
use Rattle.held_terms.specs.Held.{fact_of}
use Rattle.held_consequence.proofs.candidates.candidates_of.Goals as goal

pub returns-in-Some-clause-among : goal.returns-in-Some-clause-among
returns-in-Some-clause-among c =
    λ f h. c.requires.narrows.among.each c.in-Some.k f (subst (λ (l : List HeldFact). Contains l f) c.list_in.ensures h)

pub returns-in-Some-clause-all : goal.returns-in-Some-clause-all
returns-in-Some-clause-all c =
    λ d has alike. subst (λ (l : List HeldFact). Contains (map (fact_of c.args.arena.now) l) (So d)) (sym c.list_in.ensures) (c.requires.narrows.all c.args.c c.in-Some.k d c.requires.there (sym c.class_in.ensures ∙ c.in-Some.is) has alike)
