use Rattle.std.proofs.Common.{rules, ◌≡◌, ◌<◌, min, sym, ◌∙◌, ap, length, arith, ◌++◌, ◌∷◌, [], get_or, List, ℕ}
use Rattle.loop_rule.proofs.Pushed.{zip-all}
use Rattle.held_definitions.proofs.ExitParts.{zip_more}
use Rattle.held_definitions.proofs.exit_triples.registers_with.Goals as goal

pub loop-i-preserved : goal.loop-i-preserved
loop-i-preserved c =
    let rs = c.args.regs.now in
    let ws = c.args.words.now in
    let i = c.loop-i.i in
    let least : c.min-count.result ≡ min (length rs) (length ws) = search rules in
    let lx : i < length rs = omega (arith, c.loop-i-test.true, least) in
    let lw : i < length ws = omega (arith, c.loop-i-test.true, least) in
    c.in_ok-push.ensures.ok ∙ ap (λ (l : List (ℕ × ℕ)). l ++ (get_or rs i 0, get_or ws i 0) ∷ []) c.loop-i.invariant ∙ sym (zip_more rs ws i 0 0 lx lw)

pub returns : goal.returns
returns c =
    let rs = c.args.regs.now in
    let ws = c.args.words.now in
    let least : c.min-count.result ≡ min (length rs) (length ws) = search rules in
    c.loop-i.invariant ∙ zip-all rs ws c.loop-i.i (omega (arith, c.loop-i-test.false, least))
