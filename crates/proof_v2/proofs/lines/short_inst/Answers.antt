use Rattle.std.proofs.Common.{ℕ, List, map, subst}
use Rattle.word_terms.specs.declared.term.Word.{Word}
use Rattle.word_terms.specs.declared.term.Mem.{Mem}
use Rattle.proof_text.specs.Line.{mem_put_in, triple_or_own, word_put_in}
use Rattle.term_arena.specs.Arena.{OfMem, OfWord}
use Rattle.held_terms.specs.Terms.{AreTermsPutIn}
use Rattle.held_terms.specs.inner.Put.{AreMemTermsPut, AreRegistersPut}
use Rattle.held_terms.proofs.PutLemmas.{registers_stay}
use Rattle.held_terms.proofs.PutOrder.{terms-then}
use Rattle.proof_v2.proofs.ShortOf.{short_inst}
use Rattle.proof_v2.proofs.lines.short_inst.Goals as goal

pub returns-clause-line : goal.returns-clause-line
returns-clause-line g c h all t own fits =
    let one = c.put_word_terms.new.arena in
    let two = c.put_mem_terms.new.arena in
    let words = subst (λ (ws : List (ℕ × Word)). AreRegistersPut one c.in_ok-words.words (map word_put_in ws)) c.as_slice.ensures c.in_ok-words.ensures.put in
    let mems = subst (λ (ms : List (ℕ × Mem)). AreMemTermsPut two c.in_ok-mems.mems (map mem_put_in ms)) c.as_slice-2.ensures c.in_ok-mems.ensures.put in
    short_inst h two (triple_or_own own all t) c.args.p _ _ c.in_ok-words.words c.in_ok-mems.mems fits (registers_stay one two c.put_mem_terms.ensures.grows c.in_ok-words.words _ words) mems

pub returns-clause-order : goal.returns-clause-order
returns-clause-order g c =
    let start = c.args.arena.now in
    let one = c.put_word_terms.new.arena in
    let two = c.put_mem_terms.new.arena in
    let sub = c.args.sub.now in
    let words = subst (λ (ws : List (ℕ × Word)). AreTermsPutIn start (map (λ x. OfWord x.1) (map word_put_in ws)) one) c.as_slice.ensures c.in_ok-words.ensures.order in
    let mems = subst (λ (ms : List (ℕ × Mem)). AreTermsPutIn one (map (λ x. OfMem x.1) (map mem_put_in ms)) two) c.as_slice-2.ensures c.in_ok-mems.ensures.order in
    terms-then start (map (λ x. OfWord x.1) (map word_put_in sub.words)) one (map (λ x. OfMem x.1) (map mem_put_in sub.mems)) two words mems
