use Rattle.std.proofs.Common.{◌≡◌, ◌<◌, ℕ, ◌∷◌, ◌+◌, drop, length, get_or, sym, ap, not, ◌∙◌, arith}
use Rattle.std.proofs.lemmas.List.{drop_more}
use Rattle.std.proofs.lemmas.Option.{slice_get_within, get_or_from_slice_get}
use Rattle.frame_compose.specs.Rules.{is_listed}
use Rattle.frame_compose.proofs.Walks.{stops}
use Rattle.held_terms.proofs.further.next_further.Goals as goal

pub returns-then-not-is_listed-clause-first : goal.returns-then-not-is_listed-clause-first
returns-then-not-is_listed-clause-first c = λ q at.
    let same : get_or c.args.all.now c.loop-i.i (0, 0) ≡ q = get_or_from_slice_get c.args.all.now c.loop-i.i q (0, 0) at in
    (λ j. is_listed c.args.own.now (sym same j).0) ∙ sym c.is_listed.ensures ∙ c.if-not-is_listed.true

pub loop-i-preserved : goal.loop-i-preserved
loop-i-preserved c =
    let own = c.args.own.now in
    let all = c.args.all.now in
    let i = c.loop-i.i in
    let low : i < length all = omega arith in
    let from : drop i all ≡ get_or all i (0, 0) ∷ drop (i + 1) all = drop_more all i (0, 0) low in
    c.loop-i.invariant ∙ stops (λ (q : ℕ × ℕ). not (is_listed own q.0)) all i (get_or all i (0, 0)) from (ap not (sym c.is_listed.ensures ∙ c.if-not-is_listed.false))

pub returns-clause-first : goal.returns-clause-first
returns-clause-first c = λ q at. absurd (let low = slice_get_within c.args.all.now (length c.args.all.now) q at in omega (arith, low))
