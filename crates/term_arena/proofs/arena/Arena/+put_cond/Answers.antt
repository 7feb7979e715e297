use Rattle.std.proofs.Common.{◌++◌, [], ◌∷◌, ◌∙◌, sym, subst}
use Rattle.std.proofs.lemmas.Result.{IfOk-weaker}
use Rattle.word_terms.specs.declared.term.Word.{Word}
use Rattle.word_terms.specs.declared.term.Mem.{Mem}
use Rattle.word_terms.specs.declared.term.Cond.{Cond}
use Rattle.word_terms.specs.Tree.{Compare, Inside, Neg, cond_tree, mem_tree, word_tree}
use Rattle.term_arena.specs.Arena.{ArePutIn, OfCond, as_cond, as_mem, as_word, cond_subterms, mem_subterms, trees_of, word_subterms}
use Rattle.term_arena.proofs.PutLemmas.{tree_stays}
use Rattle.term_arena.proofs.PutOrder.{put-last, put-then}
use Rattle.term_arena.proofs.arena.Arena.+put_cond.Goals as goal

pub returns-in_ok-b-in-Compare-clause-order : goal.returns-in_ok-b-in-Compare-clause-order
returns-in_ok-b-in-Compare-clause-order g t c =
    let before = trees_of c.args.self.now in
    let n = c.put_word-in-Compare.new.self in
    let a = tree_stays _ n _ _ c.in_ok-b-in-Compare.ensures.grows c.in_ok-a-in-Compare.ensures.tree in
    let b = c.in_ok-b-in-Compare.ensures.tree in
    let a_in = subst (λ (x : Word). ArePutIn before (word_subterms (word_tree x)) (trees_of c.put_word.new.self)) c.deref.ensures c.in_ok-a-in-Compare.ensures.order in
    let b_in = subst (λ (x : Word). ArePutIn (trees_of c.put_word.new.self) (word_subterms (word_tree x)) (trees_of n)) c.deref-in-Compare.ensures c.in_ok-b-in-Compare.ensures.order in
    let same = (λ i. OfCond (Compare c.in-Compare.cmp (as_word (a i)) (as_word (b i)))) ∙ (λ i. OfCond (Compare c.in-Compare.cmp (word_tree (c.deref.ensures i)) (word_tree (c.deref-in-Compare.ensures i)))) in
    IfOk-weaker c.add.result _ _ (λ k h. subst (λ (x : Cond). ArePutIn before (cond_subterms (cond_tree x)) (trees_of c.add.new.self)) (sym c.in-Compare.is)
    (put-then before (word_subterms (word_tree c.in-Compare.a.value)) (trees_of c.put_word.new.self) (word_subterms (word_tree c.in-Compare.b.value) ++ OfCond (Compare c.in-Compare.cmp (word_tree c.in-Compare.a.value) (word_tree c.in-Compare.b.value)) ∷ []) (trees_of c.add.new.self) a_in (put-last (trees_of c.put_word.new.self) (word_subterms (word_tree c.in-Compare.b.value)) (trees_of n) (trees_of c.add.new.self) _ _ same b_in h))) c.add.ensures.order

pub returns-in_ok-c-in-Neg-clause-order : goal.returns-in_ok-c-in-Neg-clause-order
returns-in_ok-c-in-Neg-clause-order g t c =
    let before = trees_of c.args.self.now in
    let n = c.put_cond.new.self in
    let child = c.in_ok-c-in-Neg.ensures.tree in
    let child_in = subst (λ (x : Cond). ArePutIn before (cond_subterms (cond_tree x)) (trees_of n)) c.deref-in-Neg.ensures c.in_ok-c-in-Neg.ensures.order in
    let same = (λ i. OfCond (Neg (as_cond (child i)))) ∙ (λ i. OfCond (Neg (cond_tree (c.deref-in-Neg.ensures i)))) in
    IfOk-weaker c.add-in-Neg.result _ _ (λ k h. subst (λ (x : Cond). ArePutIn before (cond_subterms (cond_tree x)) (trees_of c.add-in-Neg.new.self)) (sym c.in-Neg.is)
    (put-last before (cond_subterms (cond_tree c.in-Neg.c.value)) (trees_of n) (trees_of c.add-in-Neg.new.self) _ _ same child_in h)) c.add-in-Neg.ensures.order

pub returns-in_ok-a-in-Inside-clause-order : goal.returns-in_ok-a-in-Inside-clause-order
returns-in_ok-a-in-Inside-clause-order g t c =
    let before = trees_of c.args.self.now in
    let n = c.put_word-in-Inside.new.self in
    let m = tree_stays _ n _ _ c.in_ok-a-in-Inside.ensures.grows c.in_ok-m-in-Inside.ensures.tree in
    let a = c.in_ok-a-in-Inside.ensures.tree in
    let m_in = subst (λ (x : Mem). ArePutIn before (mem_subterms (mem_tree x)) (trees_of c.put_mem.new.self)) c.deref-in-Inside.ensures c.in_ok-m-in-Inside.ensures.order in
    let a_in = subst (λ (x : Word). ArePutIn (trees_of c.put_mem.new.self) (word_subterms (word_tree x)) (trees_of n)) c.deref-in-Inside-2.ensures c.in_ok-a-in-Inside.ensures.order in
    let same = (λ i. OfCond (Inside c.in-Inside.width (as_mem (m i)) (as_word (a i)))) ∙ (λ i. OfCond (Inside c.in-Inside.width (mem_tree (c.deref-in-Inside.ensures i)) (word_tree (c.deref-in-Inside-2.ensures i)))) in
    IfOk-weaker c.add-in-Inside.result _ _ (λ k h. subst (λ (x : Cond). ArePutIn before (cond_subterms (cond_tree x)) (trees_of c.add-in-Inside.new.self)) (sym c.in-Inside.is)
    (put-then before (mem_subterms (mem_tree c.in-Inside.m.value)) (trees_of c.put_mem.new.self) (word_subterms (word_tree c.in-Inside.a.value) ++ OfCond (Inside c.in-Inside.width (mem_tree c.in-Inside.m.value) (word_tree c.in-Inside.a.value)) ∷ []) (trees_of c.add-in-Inside.new.self) m_in (put-last (trees_of c.put_mem.new.self) (word_subterms (word_tree c.in-Inside.a.value)) (trees_of n) (trees_of c.add-in-Inside.new.self) _ _ same a_in h))) c.add-in-Inside.ensures.order
