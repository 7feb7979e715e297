use Rattle.std.proofs.Common.{get_or, arith, ◌+◌, drop, map, sym, ◌∙◌, refl}
use Rattle.std.proofs.lemmas.Bool.{leb-true, le-leb}
use Rattle.held_terms.specs.Held.{register_of}
use Rattle.frame_compose.specs.Rules.{is_listed, listed}
use Rattle.held_terms.proofs.Registers.{listed-same}
use Rattle.term_arena.specs.Arena.{word_of}
use Rattle.held_terms.proofs.Indices.{read_at}
use Rattle.frame_compose.proofs.Walks.{images-from, items-from, item-at, none-from, done-from, both-next, none-next, passes, stops}
use Rattle.held_terms.proofs.further.are_listed.Goals as goal

pub loop-i-preserved-then-not-is_listed : goal.loop-i-preserved-then-not-is_listed
loop-i-preserved-then-not-is_listed c =
    let own = map (register_of c.args.arena.now) c.args.own.now in
    let all = map (register_of c.args.arena.now) c.args.all.now in
    let i = c.loop-i.i in
    let from = images-from (register_of c.args.arena.now) c.args.all.now i (get_or c.args.all.now c.loop-i.i (0, 0)) (omega arith) (read_at c.args.all.now c.loop-i.i (0, 0) _ (omega arith)) in
    none-next _ _ _ _ _ refl (stops (λ q. is_listed own q.0) all i ((register_of c.args.arena.now) (get_or c.args.all.now c.loop-i.i (0, 0))) from (listed-same (word_of c.args.arena.now) c.args.own.now _ ∙ sym c.is_listed.ensures ∙ c.if-not-is_listed.true)) c.loop-i.invariant

pub returns-then-not-is_at : goal.returns-then-not-is_at
returns-then-not-is_at c = (
  λ e. absurd (cc),
  λ w.
      let own = map (register_of c.args.arena.now) c.args.own.now in
      let all = map (register_of c.args.arena.now) c.args.all.now in
      let i = c.loop-i.i in
      let from = images-from (register_of c.args.arena.now) c.args.all.now i (get_or c.args.all.now c.loop-i.i (0, 0)) (omega arith) (read_at c.args.all.now c.loop-i.i (0, 0) _ (omega arith)) in
      let next = passes (λ q. is_listed own q.0) all i ((register_of c.args.arena.now) (get_or c.args.all.now c.loop-i.i (0, 0))) from (listed-same (word_of c.args.arena.now) c.args.own.now _ ∙ sym c.is_listed.ensures ∙ c.if-not-is_listed.false) in
      let yes = c.is_at.ensures.is.1 (item-at own (listed own (drop (i + 1) all)) c.loop-i.place ((register_of c.args.arena.now) (get_or c.args.all.now c.loop-i.i (0, 0))) (c.loop-i.invariant.1 w ∙ next)) in
      absurd (cc),
)

pub loop-i-preserved : goal.loop-i-preserved
loop-i-preserved c =
    let own = map (register_of c.args.arena.now) c.args.own.now in
    let all = map (register_of c.args.arena.now) c.args.all.now in
    let i = c.loop-i.i in
    let from = images-from (register_of c.args.arena.now) c.args.all.now i (get_or c.args.all.now c.loop-i.i (0, 0)) (omega arith) (read_at c.args.all.now c.loop-i.i (0, 0) _ (omega arith)) in
    both-next _ _ _ _ _ ((register_of c.args.arena.now) (get_or c.args.all.now c.loop-i.i (0, 0)))
    (items-from own c.loop-i.place ((register_of c.args.arena.now) (get_or c.args.all.now c.loop-i.i (0, 0))) (c.is_at.ensures.is.0 c.if-not-is_at.false))
    (passes (λ q. is_listed own q.0) all i ((register_of c.args.arena.now) (get_or c.args.all.now c.loop-i.i (0, 0))) from (listed-same (word_of c.args.arena.now) c.args.own.now _ ∙ sym c.is_listed.ensures ∙ c.if-not-is_listed.false))
    c.loop-i.invariant

pub returns : goal.returns
returns c =
    let own = map (register_of c.args.arena.now) c.args.own.now in
    let none = none-from (register_of c.args.arena.now) c.args.all.now c.loop-i.i (omega arith) in (
      λ le. c.loop-i.invariant.0 (none-from (register_of c.args.arena.now) c.args.own.now c.loop-i.place (leb-true _ _ le) ∙ (λ k. listed own (sym none k))),
      λ w. le-leb _ _ (done-from (register_of c.args.arena.now) c.args.own.now c.loop-i.place (sym (c.loop-i.invariant.1 w ∙ (λ k. listed own (none k))))),
    )
