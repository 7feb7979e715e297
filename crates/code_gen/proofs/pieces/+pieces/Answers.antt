use Rattle.std.proofs.Common.{rules, ◌≡◌, ℕ, ◌+◌, ◌-◌, ◌<◌, min, [], ◌∷◌, ◌++◌, ◌∙◌, sym, List, length, arith, Result, Ok, Err, IfOk}
use Rattle.std.proofs.lemmas.List.{append-nil as append_nil_at}
use Rattle.rv_decode.specs.Encodes.{word_of}
use Rattle.code_gen.specs.Draws.{draw, next}
use Rattle.code_gen.specs.Pieces.{Adds, Mixes, Chooses, Repeats, kind, Drawn, drawn}
use Rattle.code_gen.specs.Program.{code, counting}
use Rattle.code_gen.specs.inner.Written.{drawn_loop, with_drawn}
use Rattle.code_gen.proofs.KindLemmas.{kind-adds, kind-mixes, kind-chooses, kind-repeats}
use Rattle.code_gen.proofs.DrawnLemmas.{draw_below, drawn-none, drawn-is}
use Rattle.code_gen.proofs.SizeLemmas.{drawn-count}
use Rattle.code_gen.proofs.WrittenLemmas.{written-is, written-adds, written-mixes, written-chooses, written-count, written-repeats}
use Rattle.code_gen.proofs.pieces.+pieces.Goals as goal
use Rattle.code_gen.proofs.pieces.+pieces.Goals.{add_piece-else-drawn-eq2-via-then-drawn-eq2+else-size-ge3, add_piece-else-drawn-eq2-via-else-drawn-eq2, add_piece-else-drawn-eq3-via-then-drawn-eq3+then-size-ge3-2+else-depth-lt4, add_piece-else-drawn-eq3-via-then-drawn-eq3+else-size-ge3-2, add_piece-else-drawn-eq3-via-else-drawn-eq3}

pub add_piece-returns-in_ok-add_choice-clause-words : goal.add_piece-returns-in_ok-add_choice-clause-words
add_piece-returns-in_ok-add_choice-clause-words t c =
    let s : ℕ = c.args.draws.now.seed in
    let is : kind (draw 4 s) c.args.size c.args.depth ≡ Chooses =
    kind-chooses (draw 4 s) c.args.size c.args.depth (sym c.draw-drawn.ensures.number ∙ c.if-drawn-eq2.true) c.if-size-ge3.true in
    (λ i. with_drawn (c.in_ok-add_choice.ensures i) c.args.depth (drawn (c.args.size - 3) c.args.depth (c.draw-drawn.ensures.seed i)))
    ∙ written-chooses c.args.words.now c.args.size c.args.depth (next s)
    ∙ written-is c.args.words.now c.args.size c.args.depth s Chooses c.requires.size.0 is

pub add_piece-returns-in_ok-add_choice-clause-seed : goal.add_piece-returns-in_ok-add_choice-clause-seed
add_piece-returns-in_ok-add_choice-clause-seed t c =
    let s : ℕ = c.args.draws.now.seed in
    let is : kind (draw 4 s) c.args.size c.args.depth ≡ Chooses =
    kind-chooses (draw 4 s) c.args.size c.args.depth (sym c.draw-drawn.ensures.number ∙ c.if-drawn-eq2.true) c.if-size-ge3.true in
    (λ i. (drawn (c.args.size - 3) c.args.depth (c.draw-drawn.ensures.seed i)).seed)
    ∙ sym (λ i. (drawn-is c.args.size c.args.depth s Chooses c.requires.size.0 is i).seed)

pub add_piece-returns-in_ok-add_instruction-clause-words : goal.add_piece-returns-in_ok-add_instruction-clause-words
add_piece-returns-in_ok-add_instruction-clause-words t c =
    let s : ℕ = c.args.draws.now.seed in
    let is : kind (draw 4 s) c.args.size c.args.depth ≡ Mixes =
    kind-mixes (draw 4 s) c.args.size c.args.depth (sym c.draw-drawn.ensures.number ∙ c.if-drawn-eq1.true) in
    (λ i. with_drawn (c.in_ok-add_instruction.ensures i) c.args.depth (drawn (c.args.size - 1) c.args.depth (c.draw-drawn.ensures.seed i)))
    ∙ (λ i. with_drawn (c.args.words.now ++ word_of (c.mixing.ensures i) ∷ []) c.args.depth (drawn (c.args.size - 1) c.args.depth (next s)))
    ∙ written-mixes c.args.words.now c.args.size c.args.depth (next s)
    ∙ written-is c.args.words.now c.args.size c.args.depth s Mixes c.requires.size.0 is

pub add_piece-returns-in_ok-add_instruction-clause-seed : goal.add_piece-returns-in_ok-add_instruction-clause-seed
add_piece-returns-in_ok-add_instruction-clause-seed t c =
    let s : ℕ = c.args.draws.now.seed in
    let is : kind (draw 4 s) c.args.size c.args.depth ≡ Mixes =
    kind-mixes (draw 4 s) c.args.size c.args.depth (sym c.draw-drawn.ensures.number ∙ c.if-drawn-eq1.true) in
    (λ i. (drawn (c.args.size - 1) c.args.depth (c.draw-drawn.ensures.seed i)).seed)
    ∙ sym (λ i. (drawn-is c.args.size c.args.depth s Mixes c.requires.size.0 is i).seed)

-- the facts of the tests that failed: no choice, no loop, no mixing
pub add_piece-returns-in_ok-add_instruction-2-clause-words : goal.add_piece-returns-in_ok-add_instruction-2-clause-words
add_piece-returns-in_ok-add_instruction-2-clause-words t c =
    let s : ℕ = c.args.draws.now.seed in
    let is : kind (draw 4 s) c.args.size c.args.depth ≡ Adds =
    kind-adds (draw 4 s) c.args.size c.args.depth
    (λ e h. elim c.else-drawn-eq2.branch [
      | add_piece-else-drawn-eq2-via-then-drawn-eq2+else-size-ge3 w ↦ omega (arith, w.if-size-ge3.false, h)
      | add_piece-else-drawn-eq2-via-else-drawn-eq2 w ↦ grind (arith, w.if-drawn-eq2.false, c.draw-drawn.ensures.number, e)
    ])
    (λ e h k. elim c.else-drawn-eq3.branch [
      | add_piece-else-drawn-eq3-via-then-drawn-eq3+then-size-ge3-2+else-depth-lt4 w ↦ omega (arith, w.if-depth-lt4.false, k)
      | add_piece-else-drawn-eq3-via-then-drawn-eq3+else-size-ge3-2 w ↦ omega (arith, w.if-size-ge3-2.false, h)
      | add_piece-else-drawn-eq3-via-else-drawn-eq3 w ↦ grind (arith, w.if-drawn-eq3.false, c.draw-drawn.ensures.number, e)
    ])
    (λ e. grind (arith, c.if-drawn-eq1.false, c.draw-drawn.ensures.number, e)) in
    (λ i. with_drawn (c.in_ok-add_instruction-2.ensures i) c.args.depth (drawn (c.args.size - 1) c.args.depth (c.draw-drawn.ensures.seed i)))
    ∙ (λ i. with_drawn (c.args.words.now ++ word_of (c.adding.ensures i) ∷ []) c.args.depth (drawn (c.args.size - 1) c.args.depth (next s)))
    ∙ written-adds c.args.words.now c.args.size c.args.depth (next s)
    ∙ written-is c.args.words.now c.args.size c.args.depth s Adds c.requires.size.0 is

pub add_piece-returns-in_ok-add_instruction-2-clause-seed : goal.add_piece-returns-in_ok-add_instruction-2-clause-seed
add_piece-returns-in_ok-add_instruction-2-clause-seed t c =
    let s : ℕ = c.args.draws.now.seed in
    let is : kind (draw 4 s) c.args.size c.args.depth ≡ Adds =
    kind-adds (draw 4 s) c.args.size c.args.depth
    (λ e h. elim c.else-drawn-eq2.branch [
      | add_piece-else-drawn-eq2-via-then-drawn-eq2+else-size-ge3 w ↦ omega (arith, w.if-size-ge3.false, h)
      | add_piece-else-drawn-eq2-via-else-drawn-eq2 w ↦ grind (arith, w.if-drawn-eq2.false, c.draw-drawn.ensures.number, e)
    ])
    (λ e h k. elim c.else-drawn-eq3.branch [
      | add_piece-else-drawn-eq3-via-then-drawn-eq3+then-size-ge3-2+else-depth-lt4 w ↦ omega (arith, w.if-depth-lt4.false, k)
      | add_piece-else-drawn-eq3-via-then-drawn-eq3+else-size-ge3-2 w ↦ omega (arith, w.if-size-ge3-2.false, h)
      | add_piece-else-drawn-eq3-via-else-drawn-eq3 w ↦ grind (arith, w.if-drawn-eq3.false, c.draw-drawn.ensures.number, e)
    ])
    (λ e. grind (arith, c.if-drawn-eq1.false, c.draw-drawn.ensures.number, e)) in
    (λ i. (drawn (c.args.size - 1) c.args.depth (c.draw-drawn.ensures.seed i)).seed)
    ∙ sym (λ i. (drawn-is c.args.size c.args.depth s Adds c.requires.size.0 is i).seed)

if_ok : {A E : Type 0} {P Q : A → Type 0} (r : Result A E) → ((a : A) → P a → Q a) → IfOk r P → IfOk r Q
if_ok (Ok a) f p = f a p
if_ok (Err e) f p = p

pub add_piece-returns-then-depth-lt4-clause-words : goal.add_piece-returns-then-depth-lt4-clause-words
add_piece-returns-then-depth-lt4-clause-words t c =
    let s : ℕ = c.args.draws.now.seed in
    let is : kind (draw 4 s) c.args.size c.args.depth ≡ Repeats =
    kind-repeats (draw 4 s) c.args.size c.args.depth (sym c.draw-drawn.ensures.number ∙ c.if-drawn-eq3.true) c.if-size-ge3-2.true c.if-depth-lt4.true in
    if_ok {P = λ left. with_drawn c.add_loop.new.words c.args.depth (drawn left c.args.depth c.add_loop.new.draws.seed) ≡ with_drawn c.args.words.now c.args.depth (drawn_loop c.args.size c.args.depth c.draw-drawn.new.self.seed)} c.add_loop.result
    (λ left p. p
    ∙ (λ i. with_drawn c.args.words.now c.args.depth (drawn_loop c.args.size c.args.depth (c.draw-drawn.ensures.seed i)))
    ∙ written-is c.args.words.now c.args.size c.args.depth s Repeats c.requires.size.0 is)
    c.add_loop.ensures.words

pub add_piece-returns-then-depth-lt4-clause-seed : goal.add_piece-returns-then-depth-lt4-clause-seed
add_piece-returns-then-depth-lt4-clause-seed t c =
    let s : ℕ = c.args.draws.now.seed in
    let is : kind (draw 4 s) c.args.size c.args.depth ≡ Repeats =
    kind-repeats (draw 4 s) c.args.size c.args.depth (sym c.draw-drawn.ensures.number ∙ c.if-drawn-eq3.true) c.if-size-ge3-2.true c.if-depth-lt4.true in
    if_ok c.add_loop.result
    (λ left p. p
    ∙ (λ i. (drawn_loop c.args.size c.args.depth (c.draw-drawn.ensures.seed i)).seed)
    ∙ sym (λ i. (drawn-is c.args.size c.args.depth s Repeats c.requires.size.0 is i).seed))
    c.add_loop.ensures.seed

pub add_pieces-returns-clause-words : goal.add_pieces-returns-clause-words
add_pieces-returns-clause-words t c =
    let none : c.loop-left.left ≡ 0 = omega (arith, c.loop-left-test.false) in
    sym (append_nil_at c.loop-left.words)
    ∙ sym (λ i. with_drawn c.loop-left.words c.args.depth (drawn-none c.args.depth c.loop-left.draws.seed i))
    ∙ sym (λ i. with_drawn c.loop-left.words c.args.depth (drawn (none i) c.args.depth c.loop-left.draws.seed))
    ∙ c.loop-left.invariant.words

pub add_pieces-returns-clause-seed : goal.add_pieces-returns-clause-seed
add_pieces-returns-clause-seed t c =
    let none : c.loop-left.left ≡ 0 = omega (arith, c.loop-left-test.false) in
    sym (λ i. (drawn-none c.args.depth c.loop-left.draws.seed i).seed)
    ∙ sym (λ i. (drawn (none i) c.args.depth c.loop-left.draws.seed).seed)
    ∙ c.loop-left.invariant.seed

pub add_loop-add_loop_end-requires-clause-length : goal.add_loop-add_loop_end-requires-clause-length
add_loop-add_loop_end-requires-clause-length t c =
    let x : Drawn = drawn (1 + c.draw-body.result) (c.args.depth + 1) c.draw-body.new.self.seed in
    let w1 : List ℕ = c.add_instruction.new.words in
    let least : c.min.result ≡ min (c.args.size - 2) 64 = search rules in
    let few : draw c.min.result c.draw-turns.new.self.seed < c.min.result =
    draw_below c.min.result c.draw-turns.new.self.seed (omega (arith, least, c.requires.size)) in
    let count : c.len.result - c.len-start.result ≡ length (code (c.args.depth + 1) x.pieces) =
    (λ i. c.len.ensures i - c.len-start.ensures i)
    ∙ (λ i. length (c.in_ok-add_pieces.ensures.words i) - length w1)
    ∙ written-count w1 (code (c.args.depth + 1) x.pieces) in
    omega (arith, count, drawn-count (1 + c.draw-body.result) (c.args.depth + 1) c.draw-body.new.self.seed, c.draw-body.ensures.number, few, least)

pub add_loop-returns-clause-words : goal.add_loop-returns-clause-words
add_loop-returns-clause-words t c =
    let s : ℕ = c.args.draws.now.seed in
    let words : List ℕ = c.args.words.now in
    let least : c.min.result ≡ min (c.args.size - 2) 64 = search rules in
    let head : c.add_instruction.new.words ≡ words ++ word_of (counting c.args.depth (1 + draw 4 s)) ∷ [] =
    c.in_ok-add_instruction.ensures
    ∙ (λ i. words ++ word_of (c.counting.ensures i) ∷ [])
    ∙ (λ i. words ++ word_of (counting c.args.depth (1 + c.draw-turns.ensures.number i)) ∷ []) in
    let size : c.draw-body.result ≡ draw (min (c.args.size - 2) 64) (next s) =
    c.draw-body.ensures.number ∙ (λ i. draw (least i) (c.draw-turns.ensures.seed i)) in
    let seed : c.draw-body.new.self.seed ≡ next (next s) = c.draw-body.ensures.seed ∙ (λ i. next (c.draw-turns.ensures.seed i)) in
    written-repeats words c.add_instruction.new.words c.add_pieces.new.words c.add_loop_end.new.words
    c.args.size c.args.depth s (c.len.result - c.len-start.result) (c.args.size - (1 + c.draw-body.result + 2)) c.add_pieces.new.draws.seed
    (drawn (1 + c.draw-body.result) (c.args.depth + 1) c.draw-body.new.self.seed)
    head
    (λ i. drawn (1 + size i) (c.args.depth + 1) (seed i))
    c.in_ok-add_pieces.ensures.words
    (λ i. c.len.ensures i - c.len-start.ensures i)
    c.in_ok-add_loop_end.ensures
    (λ i. c.args.size - (1 + size i + 2))
    c.in_ok-add_pieces.ensures.seed
