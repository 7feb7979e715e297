use Rattle.std.proofs.Common.{get_or, arith, ◌≡◌, ◌+◌, [], map, drop, sym, ap, not, refl, ◌∙◌}
use Rattle.held_terms.specs.Held.{register_of}
use Rattle.frame_compose.specs.Rules.{is_listed, further}
use Rattle.held_terms.proofs.Registers.{listed-same}
use Rattle.term_arena.specs.Arena.{word_of}
use Rattle.held_terms.proofs.Registers.{further-drop, first-image}
use Rattle.held_terms.proofs.Indices.{read_at}
use Rattle.frame_compose.proofs.Walks.{images-from, items-from, none-from, both-next, none-next, passes, stops, first-passing, none-passing, none-left}
use Rattle.std.proofs.lemmas.Bool.{leb-true, le-leb}
use Rattle.held_terms.proofs.further.same_further.Goals as goal

pub loop-i-preserved-then-is_listed : goal.loop-i-preserved-then-is_listed
loop-i-preserved-then-is_listed c =
    let own = map (register_of c.args.arena.now) c.args.own_a.now in
    let a = map (register_of c.args.arena.now) c.args.a.now in
    let i = c.loop-i.i in
    let from = images-from (register_of c.args.arena.now) c.args.a.now i (get_or c.args.a.now c.loop-i.i (0, 0)) (omega arith) (read_at c.args.a.now c.loop-i.i (0, 0) _ (omega arith)) in
    none-next _ _ _ _ _ (stops (λ q. not (is_listed own q.0)) a i ((register_of c.args.arena.now) (get_or c.args.a.now c.loop-i.i (0, 0))) from (ap not (listed-same (word_of c.args.arena.now) c.args.own_a.now _ ∙ sym c.is_listed.ensures ∙ c.if-is_listed.true))) refl c.loop-i.invariant

pub returns-then-not-is_at : goal.returns-then-not-is_at
returns-then-not-is_at c = (
  λ e. absurd (cc),
  λ w.
      let own = map (register_of c.args.arena.now) c.args.own_a.now in
      let other = map (register_of c.args.arena.now) c.args.own_b.now in
      let a = map (register_of c.args.arena.now) c.args.a.now in
      let b = map (register_of c.args.arena.now) c.args.b.now in
      let i = c.loop-i.i in
      let from = images-from (register_of c.args.arena.now) c.args.a.now i (get_or c.args.a.now c.loop-i.i (0, 0)) (omega arith) (read_at c.args.a.now c.loop-i.i (0, 0) _ (omega arith)) in
      let here = passes (λ q. not (is_listed own q.0)) a i ((register_of c.args.arena.now) (get_or c.args.a.now c.loop-i.i (0, 0))) from (ap not (listed-same (word_of c.args.arena.now) c.args.own_a.now _ ∙ sym c.is_listed.ensures ∙ c.if-is_listed.false)) in
      let yes = c.is_at.ensures.is.1
      (first-passing (λ q. not (is_listed other q.0)) b (further own (drop (i + 1) a)) c.next_further-next.result ((register_of c.args.arena.now) (get_or c.args.a.now c.loop-i.i (0, 0)))
      (λ q at. ap not (first-image (word_of c.args.arena.now) c.args.own_b.now c.args.b.now _ c.next_further-next.ensures.first q at))
      (sym (further-drop (word_of c.args.arena.now) c.args.own_b.now c.args.b.now _ _ c.next_further-next.ensures.same) ∙ sym (c.loop-i.invariant.1 w) ∙ here)) in
      absurd (cc),
)

pub loop-i-preserved : goal.loop-i-preserved
loop-i-preserved c =
    let own = map (register_of c.args.arena.now) c.args.own_a.now in
    let other = map (register_of c.args.arena.now) c.args.own_b.now in
    let a = map (register_of c.args.arena.now) c.args.a.now in
    let b = map (register_of c.args.arena.now) c.args.b.now in
    let i = c.loop-i.i in
    let item = (register_of c.args.arena.now) (get_or c.args.a.now c.loop-i.i (0, 0)) in
    let from = images-from (register_of c.args.arena.now) c.args.a.now i (get_or c.args.a.now c.loop-i.i (0, 0)) (omega arith) (read_at c.args.a.now c.loop-i.i (0, 0) _ (omega arith)) in
    let at = c.is_at.ensures.is.0 c.if-not-is_at.false in
    both-next _ _ _ _ _ item
    (passes (λ q. not (is_listed own q.0)) a i item from (ap not (listed-same (word_of c.args.arena.now) c.args.own_a.now _ ∙ sym c.is_listed.ensures ∙ c.if-is_listed.false)))
    ((further-drop (word_of c.args.arena.now) c.args.own_b.now c.args.b.now _ _ c.next_further-next.ensures.same) ∙ passes (λ q. not (is_listed other q.0)) b c.next_further-next.result item (items-from b c.next_further-next.result item at) (ap not (first-image (word_of c.args.arena.now) c.args.own_b.now c.args.b.now _ c.next_further-next.ensures.first item at)))
    c.loop-i.invariant

pub returns : goal.returns
returns c =
    let own = map (register_of c.args.arena.now) c.args.own_a.now in
    let other = map (register_of c.args.arena.now) c.args.own_b.now in
    let b = map (register_of c.args.arena.now) c.args.b.now in
    let end = none-from (register_of c.args.arena.now) c.args.a.now c.loop-i.i (omega arith) in
    let none : further own (drop c.loop-i.i (map (register_of c.args.arena.now) c.args.a.now)) ≡ [] = λ k. further own (end k) in (
      λ le. c.loop-i.invariant.0 (none ∙ sym ((further-drop (word_of c.args.arena.now) c.args.own_b.now c.args.b.now _ _ c.next_further.ensures.same) ∙ (λ k. further other (none-from (register_of c.args.arena.now) c.args.b.now c.next_further.result (leb-true _ _ le) k)))),
      λ w. le-leb _ _ (none-left (register_of c.args.arena.now) c.args.b.now c.next_further.result
          (none-passing (λ q. not (is_listed other q.0)) b c.next_further.result (λ q at. ap not (first-image (word_of c.args.arena.now) c.args.own_b.now c.args.b.now _ c.next_further.ensures.first q at))
          (sym none ∙ c.loop-i.invariant.1 w ∙ (further-drop (word_of c.args.arena.now) c.args.own_b.now c.args.b.now _ _ c.next_further.ensures.same)))),
    )
