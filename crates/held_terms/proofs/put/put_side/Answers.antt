use Rattle.std.proofs.Common.{ℕ, ◌+◌, ◌≤◌, List, [], ◌∷◌, ◌++◌, map, sym, subst}
use Rattle.std.proofs.lemmas.Result.{IfOk-weaker}
use Rattle.word_terms.specs.declared.term.Word.{Word}
use Rattle.word_terms.specs.declared.term.Mem.{Mem}
use Rattle.word_terms.specs.Tree.{mem_tree, word_tree}
use Rattle.sep_assert.specs.Tree.{assertion_tree, register_tree}
use Rattle.held_terms.proofs.GrowthLemmas.{extends_next}
use Rattle.term_arena.specs.Arena.{OfMem, OfWord}
use Rattle.held_terms.specs.Terms.{AreTermsPutIn, nodes_of}
use Rattle.held_terms.specs.declared.held.HeldSide.{HeldSide}
use Rattle.held_terms.specs.inner.Put.{AreMemsPut, AreRegistersPut, IsSidePut}
use Rattle.held_terms.proofs.PutLemmas.{registers_stay, side_put, word_stays}
use Rattle.held_terms.proofs.PutOrder.{terms-then}
use Rattle.held_terms.proofs.PutSteps.{both_steps, first_steps, one_step}
use Rattle.held_terms.proofs.put.put_side.Goals as goal

pub returns-clause-put : goal.returns-clause-put
returns-clause-put g c =
    let one = c.put_word.new.arena in
    let two = c.put_registers.new.arena in
    let three = c.put_mems.new.arena in
    let pc = word_stays one three (extends_next one two three c.put_registers.ensures.grows c.put_mems.ensures.grows) c.in_ok-pc.pc _ c.in_ok-pc.ensures.put in
    let regs = subst (λ (rs : List (ℕ × Word)). AreRegistersPut two c.in_ok-regs.regs (map register_tree rs)) c.as_slice.ensures c.in_ok-regs.ensures.put in
    let mems = subst (λ (ms : List Mem). AreMemsPut three c.in_ok-mems.mems (map mem_tree ms)) c.as_slice-2.ensures c.in_ok-mems.ensures.put in
    let put = side_put three c.in_ok-pc.pc c.in_ok-regs.regs c.in_ok-mems.mems _ _ _ pc (registers_stay two three c.put_mems.ensures.grows c.in_ok-regs.regs _ regs) mems in
    IfOk-weaker c.new.result _ _ (λ s e. subst (λ (q : HeldSide). IsSidePut three q (assertion_tree c.args.side.now)) (sym e) put) c.new.ensures

pub returns-clause-order : goal.returns-clause-order
returns-clause-order g c =
    let start = c.args.arena.now in
    let one = c.put_word.new.arena in
    let two = c.put_registers.new.arena in
    let three = c.put_mems.new.arena in
    let side = c.args.side.now in
    let regs = subst (λ (rs : List (ℕ × Word)). AreTermsPutIn one (map (λ r. OfWord r.1) (map register_tree rs)) two) c.as_slice.ensures c.in_ok-regs.ensures.order in
    let mems = subst (λ (ms : List Mem). AreTermsPutIn two (map OfMem (map mem_tree ms)) three) c.as_slice-2.ensures c.in_ok-mems.ensures.order in
    let order = terms-then start (OfWord (word_tree side.pc) ∷ []) one (map (λ r. OfWord r.1) (map register_tree side.regs) ++ map OfMem (map mem_tree side.mems)) three c.in_ok-pc.ensures.order
    (terms-then one (map (λ r. OfWord r.1) (map register_tree side.regs)) two (map OfMem (map mem_tree side.mems)) three regs mems) in
    IfOk-weaker c.new.result _ _ (λ s e. order) c.new.ensures

pub returns-in_err-pc-clause-steps : goal.returns-in_err-pc-clause-steps
returns-in_err-pc-clause-steps g c = first_steps c.args.steps.now c.put_word.new.steps (OfWord (word_tree c.args.side.now.pc) ∷ []) (map (λ r. OfWord r.1) (map register_tree c.args.side.now.regs) ++ map OfMem (map mem_tree c.args.side.now.mems)) (one_step c.args.steps.now c.put_word.new.steps (OfWord (word_tree c.args.side.now.pc)) c.put_word.ensures.steps)

pub returns-in_err-regs-clause-steps : goal.returns-in_err-regs-clause-steps
returns-in_err-regs-clause-steps g c =
    both_steps c.args.steps.now c.put_word.new.steps c.put_registers.new.steps (OfWord (word_tree c.args.side.now.pc) ∷ []) (map (λ r. OfWord r.1) (map register_tree c.args.side.now.regs) ++ map OfMem (map mem_tree c.args.side.now.mems)) (one_step c.args.steps.now c.put_word.new.steps (OfWord (word_tree c.args.side.now.pc)) c.put_word.ensures.steps)
    (first_steps c.put_word.new.steps c.put_registers.new.steps (map (λ r. OfWord r.1) (map register_tree c.args.side.now.regs)) (map OfMem (map mem_tree c.args.side.now.mems))
    (subst (λ (rs : List (ℕ × Word)). c.put_registers.new.steps ≤ c.put_word.new.steps + nodes_of (map (λ r. OfWord r.1) (map register_tree rs))) c.as_slice.ensures c.put_registers.ensures.steps))

pub returns-in_err-mems-clause-steps : goal.returns-in_err-mems-clause-steps
returns-in_err-mems-clause-steps g c =
    both_steps c.args.steps.now c.put_word.new.steps c.put_mems.new.steps (OfWord (word_tree c.args.side.now.pc) ∷ []) (map (λ r. OfWord r.1) (map register_tree c.args.side.now.regs) ++ map OfMem (map mem_tree c.args.side.now.mems)) (one_step c.args.steps.now c.put_word.new.steps (OfWord (word_tree c.args.side.now.pc)) c.put_word.ensures.steps)
    (both_steps c.put_word.new.steps c.put_registers.new.steps c.put_mems.new.steps (map (λ r. OfWord r.1) (map register_tree c.args.side.now.regs)) (map OfMem (map mem_tree c.args.side.now.mems))
    (subst (λ (rs : List (ℕ × Word)). c.put_registers.new.steps ≤ c.put_word.new.steps + nodes_of (map (λ r. OfWord r.1) (map register_tree rs))) c.as_slice.ensures c.put_registers.ensures.steps)
    (subst (λ (ms : List Mem). c.put_mems.new.steps ≤ c.put_registers.new.steps + nodes_of (map OfMem (map mem_tree ms))) c.as_slice-2.ensures c.put_mems.ensures.steps))

pub returns-clause-steps : goal.returns-clause-steps
returns-clause-steps g c =
    both_steps c.args.steps.now c.put_word.new.steps c.put_mems.new.steps (OfWord (word_tree c.args.side.now.pc) ∷ []) (map (λ r. OfWord r.1) (map register_tree c.args.side.now.regs) ++ map OfMem (map mem_tree c.args.side.now.mems)) (one_step c.args.steps.now c.put_word.new.steps (OfWord (word_tree c.args.side.now.pc)) c.put_word.ensures.steps)
    (both_steps c.put_word.new.steps c.put_registers.new.steps c.put_mems.new.steps (map (λ r. OfWord r.1) (map register_tree c.args.side.now.regs)) (map OfMem (map mem_tree c.args.side.now.mems))
    (subst (λ (rs : List (ℕ × Word)). c.put_registers.new.steps ≤ c.put_word.new.steps + nodes_of (map (λ r. OfWord r.1) (map register_tree rs))) c.as_slice.ensures c.put_registers.ensures.steps)
    (subst (λ (ms : List Mem). c.put_mems.new.steps ≤ c.put_registers.new.steps + nodes_of (map OfMem (map mem_tree ms))) c.as_slice-2.ensures c.put_mems.ensures.steps))
