use Rattle.std.proofs.Common.{◌<◌, length, map, arith}
use Rattle.triple_kernel.specs.Swap.{SwapRegister}
use Rattle.triple_kernel.proofs.Zips.{zip-at, zip-more}
use Rattle.held_terms.specs.Held.{fact_of, register_of}
use Rattle.held_terms.proofs.Indices.{read_at}
use Rattle.held_consequence.proofs.SideLemmas.{registers_next}
use Rattle.held_consequence.proofs.sides.swap_registers.Goals as goal

pub returns-in_err-same-clause-went : goal.returns-in_err-same-clause-went
returns-in_err-same-clause-went g c =
    let la : c.loop-i.i < length c.args.a.now = omega arith in
    let lb : c.loop-i.i < length c.args.b.now = omega arith in
    registers_next c.args.arena.now c.args.a.now c.args.b.now c.loop-i.i c.args.known.now c.loop-i.known c.swap_register.new.known c.args.steps.now c.loop-i.steps c.swap_register.new.steps la lb c.loop-i.invariant.went c.swap_register.ensures.went

pub returns-then-not-same-clause-went : goal.returns-then-not-same-clause-went
returns-then-not-same-clause-went g c =
    let la : c.loop-i.i < length c.args.a.now = omega arith in
    let lb : c.loop-i.i < length c.args.b.now = omega arith in
    registers_next c.args.arena.now c.args.a.now c.args.b.now c.loop-i.i c.args.known.now c.loop-i.known c.swap_register.new.known c.args.steps.now c.loop-i.steps c.swap_register.new.steps la lb c.loop-i.invariant.went c.swap_register.ensures.went

pub returns-then-not-same-clause-right : goal.returns-then-not-same-clause-right
returns-then-not-same-clause-right g c = c.in_ok-same.ensures.right

pub returns-then-not-same-clause-answer : goal.returns-then-not-same-clause-answer
returns-then-not-same-clause-answer g c = (
  λ e. absurd (cc),
  λ all.
      let a = c.args.a.now in
      let b = c.args.b.now in
      let i = c.loop-i.i in
      let la : i < length a = omega arith in
      let lb : i < length b = omega arith in
      let yes = c.in_ok-same.ensures.answer.1 (zip-at (register_of c.args.arena.now) (SwapRegister (map (fact_of c.args.arena.now) c.args.facts.now)) a b i _ _ la (read_at a i (0, 0) _ la) (read_at b i (0, 0) _ lb) lb all) in
      absurd (cc),
)

pub loop-i-preserved : goal.loop-i-preserved
loop-i-preserved g c =
    let a = c.args.a.now in
    let b = c.args.b.now in
    let i = c.loop-i.i in
    let la : i < length a = omega arith in
    let lb : i < length b = omega arith in
    record {
      zip = zip-more (register_of c.args.arena.now) (SwapRegister (map (fact_of c.args.arena.now) c.args.facts.now)) a b i _ _ la (read_at a i (0, 0) _ la) (read_at b i (0, 0) _ lb) lb c.loop-i.invariant.zip (c.in_ok-same.ensures.answer.0 c.if-not-same.false);
      right = c.in_ok-same.ensures.right;
      went = registers_next c.args.arena.now a b i c.args.known.now c.loop-i.known c.swap_register.new.known c.args.steps.now c.loop-i.steps c.swap_register.new.steps la lb c.loop-i.invariant.went c.swap_register.ensures.went;
    }
