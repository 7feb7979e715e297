use Rattle.std.proofs.Common.{ℕ, List, map, subst}
use Rattle.word_terms.specs.Tree.{MemTree, WordTree, mem_tree}
use Rattle.sep_assert.specs.Tree.{assertion_tree, register_tree}
use Rattle.triple_kernel.specs.Tree.{triple_tree}
use Rattle.frame_compose.specs.Rules.{further, rest_after}
use Rattle.term_arena.specs.Arena.{OfMem, OfWord}
use Rattle.held_terms.specs.Terms.{AreTermsPutIn}
use Rattle.held_terms.specs.inner.Put.{AreMemsPut, AreRegistersPut}
use Rattle.held_terms.proofs.PutLemmas.{registers_stay}
use Rattle.held_terms.proofs.PutOrder.{terms-then}
use Rattle.proof_text.specs.Line.{triple_or_own}
use Rattle.proof_v2.proofs.ShortOf.{short_frame}
use Rattle.proof_v2.proofs.lines.short_further.Goals as goal

pub returns-clause-line : goal.returns-clause-line
returns-clause-line g c h all is code fits =
    let one = c.put_further_registers.new.arena in
    let two = c.put_further_mems.new.arena in
    let regs = subst (λ (rs : List (ℕ × WordTree)). AreRegistersPut one c.in_ok-regs.regs rs) (λ i. further (map register_tree (c.as_slice.ensures i)) (map register_tree (c.as_slice-2.ensures i))) c.in_ok-regs.ensures.put in
    let mems = subst (λ (ms : List MemTree). AreMemsPut two c.in_ok-mems.mems ms) (λ i. rest_after (map mem_tree (c.as_slice-3.ensures i)) (map mem_tree (c.as_slice-4.ensures i))) c.in_ok-mems.ensures.put in
    short_frame h two (triple_or_own code all (triple_tree c.args.stated.now)) c.args.p (assertion_tree c.args.own.now) c.in_ok-regs.regs c.in_ok-mems.mems is fits (registers_stay one two c.put_further_mems.ensures.grows c.in_ok-regs.regs _ regs) mems

pub returns-clause-order : goal.returns-clause-order
returns-clause-order g c =
    let start = c.args.arena.now in
    let one = c.put_further_registers.new.arena in
    let two = c.put_further_mems.new.arena in
    let own = c.args.own.now in
    let stated = c.args.stated.now in
    let regs = subst (λ (rs : List (ℕ × WordTree)). AreTermsPutIn start (map (λ r. OfWord r.1) rs) one) (λ i. further (map register_tree (c.as_slice.ensures i)) (map register_tree (c.as_slice-2.ensures i))) c.in_ok-regs.ensures.order in
    let mems = subst (λ (ms : List MemTree). AreTermsPutIn one (map OfMem ms) two) (λ i. rest_after (map mem_tree (c.as_slice-3.ensures i)) (map mem_tree (c.as_slice-4.ensures i))) c.in_ok-mems.ensures.order in
    terms-then start (map (λ r. OfWord r.1) (further (map register_tree own.regs) (map register_tree stated.pre.regs))) one (map OfMem (rest_after (map mem_tree own.mems) (map mem_tree stated.pre.mems))) two regs mems
