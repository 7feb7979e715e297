use Rattle.std.proofs.Common.{ℕ, ◌+◌, ◌≤◌, List, map, sym, subst, IsTrue, arith}
use Rattle.std.specs.Prelude.{◌↔◌}
use Rattle.word_terms.specs.Tree.{MemTree, WordTree}
use Rattle.term_arena.specs.Arena.{OfMem, OfWord}
use Rattle.word_terms.specs.declared.term.Word.{Word}
use Rattle.word_terms.specs.declared.term.Mem.{Mem}
use Rattle.proof_text.specs.Line.{mem_put_in, word_put_in}
use Rattle.triple_kernel.specs.Rules.{IsInst}
use Rattle.held_terms.specs.Held.{triple_of}
use Rattle.held_instances.specs.Image.{IsSubAt, put_for_numbers}
use Rattle.held_terms.proofs.GrowthLemmas.{extends_next, held_still}
use Rattle.held_instances.proofs.AskedLemmas.{held_asked}
use Rattle.held_terms.specs.Terms.{nodes_of}
use Rattle.held_terms.specs.inner.Put.{AreMemTermsPut, AreRegistersPut}
use Rattle.held_terms.proofs.PutSteps.{nodes_then}
use Rattle.held_terms.proofs.SubtermLemmas.{held_at}
use Rattle.held_terms.proofs.PutLemmas.{registers_stay}
use Rattle.checker.proofs.RuleLemmas.{inst_row, sub_put}
use Rattle.checker.proofs.rules.is_instance_by.Goals as goal

pub is_instance-requires-clause-p : goal.is_instance-requires-clause-p
is_instance-requires-clause-p g c =
    let one = c.put_word_terms.new.arena in
    let two = c.put_mem_terms.new.arena in
    held_still c.args.arena.now two (extends_next c.args.arena.now one two c.put_word_terms.ensures.grows c.put_mem_terms.ensures.grows) c.args.p.now c.requires.p

pub is_instance-requires-clause-stated : goal.is_instance-requires-clause-stated
is_instance-requires-clause-stated g c =
    let one = c.put_word_terms.new.arena in
    let two = c.put_mem_terms.new.arena in
    held_still c.args.arena.now two (extends_next c.args.arena.now one two c.put_word_terms.ensures.grows c.put_mem_terms.ensures.grows) c.args.stated.now c.requires.stated

pub is_instance-requires-clause-sub : goal.is_instance-requires-clause-sub
is_instance-requires-clause-sub g c =
    let one = c.put_word_terms.new.arena in
    let two = c.put_mem_terms.new.arena in
    let ws = c.in_ok-words.words in
    let ms = c.in_ok-mems.mems in
    let words = registers_stay one two c.put_mem_terms.ensures.grows ws _ (subst (λ (ts : List (ℕ × Word)). AreRegistersPut one ws (map word_put_in ts)) c.as_slice.ensures c.in_ok-words.ensures.put) in
    let mems = subst (λ (ts : List (ℕ × Mem)). AreMemTermsPut two ms (map mem_put_in ts)) c.as_slice-2.ensures c.in_ok-mems.ensures.put in
    subst (λ (l : List (ℕ × ℕ)). IsSubAt two l c.as_slice-4.result.now) (sym c.as_slice-3.ensures) (subst (λ (l : List (ℕ × ℕ)). IsSubAt two ws l) (sym c.as_slice-4.ensures) (sub_put two ws ms _ _ words mems))

pub returns-clause-answer : goal.returns-clause-answer
returns-clause-answer g c =
    let old = c.args.arena.now in
    let one = c.put_word_terms.new.arena in
    let two = c.put_mem_terms.new.arena in
    let ws = c.in_ok-words.words in
    let ms = c.in_ok-mems.mems in
    let p = c.args.p.now in
    let t = c.args.stated.now in
    let words = registers_stay one two c.put_mem_terms.ensures.grows ws _ (subst (λ (ts : List (ℕ × Word)). AreRegistersPut one ws (map word_put_in ts)) c.as_slice.ensures c.in_ok-words.ensures.put) in
    let mems = subst (λ (ts : List (ℕ × Mem)). AreMemTermsPut two ms (map mem_put_in ts)) c.as_slice-2.ensures c.in_ok-mems.ensures.put in
    let is = subst (λ (l : List (ℕ × ℕ)). IsTrue c.in_ok-same.same ↔ IsInst (put_for_numbers two ws l) (triple_of two p) (triple_of two t)) c.as_slice-4.ensures
    (subst (λ (l : List (ℕ × ℕ)). IsTrue c.in_ok-same.same ↔ IsInst (put_for_numbers two l c.as_slice-4.result.now) (triple_of two p) (triple_of two t)) c.as_slice-3.ensures c.in_ok-same.ensures.answer) in
    inst_row old two ws ms _ _ p t (IsTrue c.in_ok-same.same) (extends_next old one two c.put_word_terms.ensures.grows c.put_mem_terms.ensures.grows) words mems c.requires.p c.requires.stated is

pub returns-in_err-words-clause-steps : goal.returns-in_err-words-clause-steps
returns-in_err-words-clause-steps g c ts has =
    let ws = map (λ (q : ℕ × WordTree). OfWord q.1) (map word_put_in c.args.terms.now.words) in
    let ms = map (λ (q : ℕ × MemTree). OfMem q.1) (map mem_put_in c.args.terms.now.mems) in
    let both = nodes_then ws ms in
    let one : c.put_word_terms.new.steps ≤ c.args.steps.now + nodes_of ws =
    subst (λ (l : List (ℕ × Word)). c.put_word_terms.new.steps ≤ c.args.steps.now + nodes_of (map (λ (q : ℕ × WordTree). OfWord q.1) (map word_put_in l))) c.as_slice.ensures c.put_word_terms.ensures.steps in
    omega (arith, one, both)

pub returns-in_err-mems-clause-steps : goal.returns-in_err-mems-clause-steps
returns-in_err-mems-clause-steps g c ts has =
    let ws = map (λ (q : ℕ × WordTree). OfWord q.1) (map word_put_in c.args.terms.now.words) in
    let ms = map (λ (q : ℕ × MemTree). OfMem q.1) (map mem_put_in c.args.terms.now.mems) in
    let both = nodes_then ws ms in
    let one : c.put_word_terms.new.steps ≤ c.args.steps.now + nodes_of ws =
    subst (λ (l : List (ℕ × Word)). c.put_word_terms.new.steps ≤ c.args.steps.now + nodes_of (map (λ (q : ℕ × WordTree). OfWord q.1) (map word_put_in l))) c.as_slice.ensures c.put_word_terms.ensures.steps in
    let two : c.put_mem_terms.new.steps ≤ c.put_word_terms.new.steps + nodes_of ms =
    subst (λ (l : List (ℕ × Mem)). c.put_mem_terms.new.steps ≤ c.put_word_terms.new.steps + nodes_of (map (λ (q : ℕ × MemTree). OfMem q.1) (map mem_put_in l))) c.as_slice-2.ensures c.put_mem_terms.ensures.steps in
    omega (arith, one, two, both)

pub returns-in_err-same-clause-steps : goal.returns-in_err-same-clause-steps
returns-in_err-same-clause-steps g c ts has =
    let ws = map (λ (q : ℕ × WordTree). OfWord q.1) (map word_put_in c.args.terms.now.words) in
    let ms = map (λ (q : ℕ × MemTree). OfMem q.1) (map mem_put_in c.args.terms.now.mems) in
    let both = nodes_then ws ms in
    let one : c.put_word_terms.new.steps ≤ c.args.steps.now + nodes_of ws =
    subst (λ (l : List (ℕ × Word)). c.put_word_terms.new.steps ≤ c.args.steps.now + nodes_of (map (λ (q : ℕ × WordTree). OfWord q.1) (map word_put_in l))) c.as_slice.ensures c.put_word_terms.ensures.steps in
    let two : c.put_mem_terms.new.steps ≤ c.put_word_terms.new.steps + nodes_of ms =
    subst (λ (l : List (ℕ × Mem)). c.put_mem_terms.new.steps ≤ c.put_word_terms.new.steps + nodes_of (map (λ (q : ℕ × MemTree). OfMem q.1) (map mem_put_in l))) c.as_slice-2.ensures c.put_mem_terms.ensures.steps in
    let arena = c.put_mem_terms.new.arena in
    let grown = extends_next c.args.arena.now c.put_word_terms.new.arena arena c.put_word_terms.ensures.grows c.put_mem_terms.ensures.grows in
    let three = c.is_instance.ensures.steps ts (held_asked c.args.arena.now arena grown ts c.args.p.now c.requires.p (held_at ts c.args.arena.now c.args.p.now c.requires.p has)) in
    omega (arith, one, two, three, both)

pub returns-clause-steps : goal.returns-clause-steps
returns-clause-steps g c ts has =
    let ws = map (λ (q : ℕ × WordTree). OfWord q.1) (map word_put_in c.args.terms.now.words) in
    let ms = map (λ (q : ℕ × MemTree). OfMem q.1) (map mem_put_in c.args.terms.now.mems) in
    let both = nodes_then ws ms in
    let one : c.put_word_terms.new.steps ≤ c.args.steps.now + nodes_of ws =
    subst (λ (l : List (ℕ × Word)). c.put_word_terms.new.steps ≤ c.args.steps.now + nodes_of (map (λ (q : ℕ × WordTree). OfWord q.1) (map word_put_in l))) c.as_slice.ensures c.put_word_terms.ensures.steps in
    let two : c.put_mem_terms.new.steps ≤ c.put_word_terms.new.steps + nodes_of ms =
    subst (λ (l : List (ℕ × Mem)). c.put_mem_terms.new.steps ≤ c.put_word_terms.new.steps + nodes_of (map (λ (q : ℕ × MemTree). OfMem q.1) (map mem_put_in l))) c.as_slice-2.ensures c.put_mem_terms.ensures.steps in
    let arena = c.put_mem_terms.new.arena in
    let grown = extends_next c.args.arena.now c.put_word_terms.new.arena arena c.put_word_terms.ensures.grows c.put_mem_terms.ensures.grows in
    let three = c.is_instance.ensures.steps ts (held_asked c.args.arena.now arena grown ts c.args.p.now c.requires.p (held_at ts c.args.arena.now c.args.p.now c.requires.p has)) in
    omega (arith, one, two, three, both)
