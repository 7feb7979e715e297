use Rattle.std.proofs.Common.{◌<◌, length, refl, sym, inl, ◌∙◌, arith}
use Rattle.std.proofs.lemmas.Bool.{eqb-true}
use Rattle.mc_text.proofs.Lines.{none-at, done-at, found-passes}
use Rattle.mc_text.proofs.scan.Scan.next.Goals as goal

pub returns-then-is_empty-clause-tokens : goal.returns-then-is_empty-clause-tokens
returns-then-is_empty-clause-tokens c =
    let empty = c.if-is_empty.ensures in
    let none : length c.self.inside.rest.now < 1 = omega (arith, eqb-true (length c.self.inside.rest.now) 0 (sym empty)) in
    inl (refl, done-at c.self.inside.before c.self.inside.rest.now c.self.inside.line c.args.self.now c.self.view_is (c.begins_line.ensures.0 c.if-begins_line.true) none, refl)

pub returns-in-None-clause-none : goal.returns-in-None-clause-none
returns-in-None-clause-none c = none-at c.self.inside.before c.self.inside.rest.now c.self.inside.line c.args.self.now c.self.view_is (sym c.skip_space-spaced.ensures.same ∙ c.in-None.ensures.found)

pub returns-in-Some-clause-ok : goal.returns-in-Some-clause-ok
returns-in-Some-clause-ok c =
    found-passes c.self.inside.before c.skip_space-spaced.result.1 c.self.inside.rest.now c.skip_space-spaced.result.0.now c.in-Some.token c.in-Some.rest.now _ c.self.inside.line c.ends_line.result c.before_next-self-inside.result c.args.self.now c.self.view_is
    c.skip_space-spaced.ensures.spaced c.skip_space-spaced.ensures.settled c.in-Some.ensures.shorter c.skip_space-spaced.ensures.parts c.in-Some.ensures.parts c.in-Some.ensures.found c.in-Some.ensures.whole
    c.before_next-self-inside.ensures c.ends_line.ensures.count
