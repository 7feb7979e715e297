use Rattle.std.proofs.Common.{◌≡◌, ◌+◌, ◌≤◌, ◌-◌, ◌++◌, List, ℕ, length, take, drop, ap, sym, ◌∙◌, arith}
use Rattle.std.proofs.lemmas.List.{length-take}
use Rattle.mc_shelf.specs.Lines.{up_to_newline}
use Rattle.mc_shelf.specs.inner.Ahead.{AheadState}
use Rattle.mc_shelf.proofs.LineLemmas.{length-line, line_taken}
use Rattle.mc_shelf.proofs.ahead.Ahead.take_line.Goals as goal

pub invariant_of-self : goal.invariant_of-self
invariant_of-self c =
    let a = c.self.inside in
    let w = take (a.end - a.start) (drop a.start a.block) in
    let part = c.split_line-ends.result.0.now in
    let size : length part ≡ length (up_to_newline w) = ap length c.split_line-ends.ensures.line in
    let short : length w ≤ a.end - a.start = grind (arith, length-take) in
    (omega (arith, size, length-line w, short, c.self.invariant.0), c.self.invariant.1)

pub returns-clause-rest : goal.returns-clause-rest
returns-clause-rest c =
    let a = c.self.inside in
    let part = c.split_line-ends.result.0.now in
    let before : take (a.end - a.start) (drop a.start a.block) ≡ c.args.self.now.waiting = ap (λ (s : AheadState). s.waiting) c.self.view_is in
    let same : part ≡ up_to_newline c.args.self.now.waiting = c.split_line-ends.ensures.line ∙ ap up_to_newline before in
    sym before
    ∙ line_taken a.block part a.start a.end c.self.invariant.0 c.split_line-ends.ensures.line
    ∙ ap (λ (v : List ℕ). v ++ take (a.end - (a.start + length part)) (drop (a.start + length part) a.block)) same
