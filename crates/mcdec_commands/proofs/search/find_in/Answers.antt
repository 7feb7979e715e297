use Rattle.std.proofs.Common.{arith, subst, Option, Ok}
use Rattle.tailrec_lang.specs.declared.group.Group.{Group}
use Rattle.proof_text.specs.Proofs.{groups_of}
use Rattle.mcdec_commands.specs.EvalAnswer.{IsNamed}
use Rattle.mcdec_commands.specs.inner.Search.{FoundSo, NextIs}
use Rattle.mcdec_commands.proofs.Groups.{stopped, ended, count-fits, more, found-exit}
use Rattle.mcdec_commands.proofs.search.find_in.Goals as goal

pub returns-in_err-g : goal.returns-in_err-g
returns-in_err-g c =
    let e = c.in_err-g.field-0.0 in
    found-exit c.args.reader.now.progress.text c.args.name.now c.from_residual.result e c.from_residual.ensures.1
    (stopped c.args.reader.now c.args.name.now c.loop-found.reader c.loop-found.count c.loop-found.found c.loop-found.invariant c.requires.version c.next_group.new.reader e c.in_err-g.ensures)

pub overflow_add-count : goal.overflow_add-count
overflow_add-count c =
    omega (arith, count-fits c.args.reader.now c.args.name.now c.loop-found.reader c.loop-found.count c.loop-found.found c.loop-found.invariant c.requires.within)

pub loop-found-preserved : goal.loop-found-preserved
loop-found-preserved c =
    more c.args.reader.now c.args.name.now c.loop-found.reader c.loop-found.count c.loop-found.found c.loop-found.invariant c.next_group.new.reader c.in-Some.g c.first_named-found.result
    (subst (λ (o : Option Group). NextIs c.loop-found.count c.loop-found.reader c.next_group.new.reader (Ok o)) c.in-Some.is c.in_ok-g.ensures) c.first_named-found.ensures

pub loop-found-smaller : goal.loop-found-smaller
loop-found-smaller c =
    let next = subst (λ (o : Option Group). NextIs c.loop-found.count c.loop-found.reader c.next_group.new.reader (Ok o)) c.in-Some.is c.in_ok-g.ensures in
    omega (arith, next.1)

pub returns-in-Some-found : goal.returns-in-Some-found
returns-in-Some-found c =
    let so = subst (FoundSo c.args.name.now (groups_of c.loop-found.invariant.proofs)) c.in-Some-found.is c.loop-found.invariant.so in (
      subst (IsNamed c.args.reader.now.progress.text c.args.name.now) so.0
          (ended c.args.reader.now c.args.name.now c.loop-found.reader c.loop-found.count c.loop-found.found c.loop-found.invariant c.requires.version c.next_group.new.reader c.in_ok-g.field-0 c.in_default.not-Some c.in_ok-g.ensures),
      so.1,
    )

pub returns-in-None : goal.returns-in-None
returns-in-None c =
    let so = subst (FoundSo c.args.name.now (groups_of c.loop-found.invariant.proofs)) c.in-None.is c.loop-found.invariant.so in
    subst (IsNamed c.args.reader.now.progress.text c.args.name.now) so
    (ended c.args.reader.now c.args.name.now c.loop-found.reader c.loop-found.count c.loop-found.found c.loop-found.invariant c.requires.version c.next_group.new.reader c.in_ok-g.field-0 c.in_default.not-Some c.in_ok-g.ensures)
