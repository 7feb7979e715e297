use Rattle.std.proofs.Common.{◌≡◌, ◌+◌, refl, arith}
use Rattle.held_definitions.proofs.AskedLemmas.{asked_push, asked_unstamped}
use Rattle.held_definitions.proofs.asked.Asked.push.Goals as goal

pub returns-in_default : goal.returns-in_default
returns-in_default c = λ d way f a. asked_unstamped d way f c.args.self.now c.args.self.now refl refl refl a

pub returns-in_err-push : goal.returns-in_err-push
returns-in_err-push c = λ d way f a. asked_unstamped d way f c.args.self.now _ c.in_err-push.ensures.err refl refl a

pub returns : goal.returns
returns c =
    let next : c.in-Some.next ≡ c.args.self.now.next + 1 = omega (arith, c.in-Some.ensures) in
    λ d way f a. asked_push d way f c.args.self.now _ c.in_ok-push.ensures.ok next refl a
