use Rattle.std.proofs.Common.{◌≡◌, ◌+◌, ◌≤◌, [], length, take, drop, ap, sym, arith, rules}
use Rattle.std.proofs.lemmas.List.{length-take}
use Rattle.mc_shelf.specs.inner.Ahead.{AheadState}
use Rattle.mc_shelf.proofs.AheadLemmas.{takes_block}
use Rattle.mc_shelf.proofs.ahead.Ahead.fill.Goals as goal

pub returns-clause-takes : goal.returns-clause-takes
returns-clause-takes g c =
    let at : c.args.self.now.place ≡ c.self.inside.place = ap (λ (s : AheadState). s.place) (sym c.self.view_is) in
    let empty : c.args.self.now.waiting ≡ [] = search rules in
    let fits : c.in_ok-count.count ≤ length c.read.new.into = omega (arith, c.in_ok-count.ensures.fits, c.read.auto.into) in
    let room : c.in_ok-count.count ≤ c.min-room.result = omega (arith, c.in_ok-count.ensures.fits, length-take c.min-room.result c.self.inside.block) in
    let within : c.self.inside.place + c.in_ok-count.count ≤ c.args.size = omega (arith, room, c.min-room.ensures, c.requires.within, at) in
    takes_block c.args.size c.self.inside.place c.in_ok-count.count (g.S.Shelf.contents c.args.shelf.now) c.args.name.now (take c.min-room.result c.self.inside.block) c.read.new.into (drop c.min-room.result c.self.inside.block) c.args.self.now
    empty c.requires.going at fits within c.in_ok-count.ensures.copied
