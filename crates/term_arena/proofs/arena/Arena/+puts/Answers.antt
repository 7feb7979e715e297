use Rattle.std.proofs.Common.{Some, ◌++◌, [], ◌∷◌, ap, ◌∙◌, sym, subst}
use Rattle.std.proofs.lemmas.Result.{IfOk-weaker}
use Rattle.word_terms.specs.declared.term.Word.{Word}
use Rattle.word_terms.specs.declared.term.Mem.{Mem}
use Rattle.word_terms.specs.Tree.{Bin, Extend, Load, Store, mem_tree, word_tree}
use Rattle.term_arena.specs.Arena.{ArePutIn, OfMem, OfWord, as_mem, as_word, mem_subterms, trees_of, word_subterms}
use Rattle.term_arena.proofs.PutLemmas.{tree_stays}
use Rattle.term_arena.proofs.PutOrder.{put-last, put-then}
use Rattle.term_arena.proofs.TreeLemmas.{mem_there, word_there}
use Rattle.term_arena.proofs.arena.Arena.+puts.Goals as goal

pub put_mem-add-requires : goal.put_mem-add-requires
put_mem-add-requires g t c =
    let n = c.put_parts-in-Store.new.self in (
      mem_there n _ _ (tree_stays _ n _ _ c.in_ok-v-in-Store.ensures.grows (tree_stays _ _ _ _ c.in_ok-a-in-Store.ensures.grows c.in_ok-m-in-Store.ensures.tree)),
      word_there n _ _ (tree_stays _ n _ _ c.in_ok-v-in-Store.ensures.grows c.in_ok-a-in-Store.ensures.tree),
      word_there n _ _ c.in_ok-v-in-Store.ensures.tree,
    )

pub put_mem-returns-in_ok-v-in-Store-clause-tree : goal.put_mem-returns-in_ok-v-in-Store-clause-tree
put_mem-returns-in_ok-v-in-Store-clause-tree g t c =
    let n = c.put_parts-in-Store.new.self in
    let m = tree_stays _ n _ _ c.in_ok-v-in-Store.ensures.grows (tree_stays _ _ _ _ c.in_ok-a-in-Store.ensures.grows c.in_ok-m-in-Store.ensures.tree) in
    let a = tree_stays _ n _ _ c.in_ok-v-in-Store.ensures.grows c.in_ok-a-in-Store.ensures.tree in
    let v = c.in_ok-v-in-Store.ensures.tree in
    IfOk-weaker c.add.result _ _ (λ k h. h ∙ (λ i. Some (OfMem (Store c.in-Store.width (as_mem (m i)) (as_word (a i)) (as_word (v i)))))
    ∙ (λ i. Some (OfMem (Store c.in-Store.width (mem_tree (c.deref.ensures i)) (word_tree (c.deref-in-Store.ensures i)) (word_tree (c.deref-in-Store-2.ensures i))))) ∙ ap (λ t. Some (OfMem (mem_tree t))) (sym c.in-Store.is)) c.add.ensures.tree

pub put_mem-returns-in_ok-v-in-Store-clause-order : goal.put_mem-returns-in_ok-v-in-Store-clause-order
put_mem-returns-in_ok-v-in-Store-clause-order g t c =
    let before = trees_of c.args.self.now in
    let n = c.put_parts-in-Store.new.self in
    let m = tree_stays _ n _ _ c.in_ok-v-in-Store.ensures.grows (tree_stays _ _ _ _ c.in_ok-a-in-Store.ensures.grows c.in_ok-m-in-Store.ensures.tree) in
    let a = tree_stays _ n _ _ c.in_ok-v-in-Store.ensures.grows c.in_ok-a-in-Store.ensures.tree in
    let v = c.in_ok-v-in-Store.ensures.tree in
    let m_in = subst (λ (x : Mem). ArePutIn before (mem_subterms (mem_tree x)) (trees_of c.put_mem.new.self)) c.deref.ensures c.in_ok-m-in-Store.ensures.order in
    let a_in = subst (λ (x : Word). ArePutIn (trees_of c.put_mem.new.self) (word_subterms (word_tree x)) (trees_of c.put_parts.new.self)) c.deref-in-Store.ensures c.in_ok-a-in-Store.ensures.order in
    let v_in = subst (λ (x : Word). ArePutIn (trees_of c.put_parts.new.self) (word_subterms (word_tree x)) (trees_of n)) c.deref-in-Store-2.ensures c.in_ok-v-in-Store.ensures.order in
    let same = (λ i. OfMem (Store c.in-Store.width (as_mem (m i)) (as_word (a i)) (as_word (v i)))) ∙ (λ i. OfMem (Store c.in-Store.width (mem_tree (c.deref.ensures i)) (word_tree (c.deref-in-Store.ensures i)) (word_tree (c.deref-in-Store-2.ensures i)))) in
    IfOk-weaker c.add.result _ _ (λ k h. subst (λ (x : Mem). ArePutIn before (mem_subterms (mem_tree x)) (trees_of c.add.new.self)) (sym c.in-Store.is)
    (put-then before (mem_subterms (mem_tree c.in-Store.m.value)) (trees_of c.put_mem.new.self) (word_subterms (word_tree c.in-Store.a.value) ++ (word_subterms (word_tree c.in-Store.v.value) ++ OfMem (Store c.in-Store.width (mem_tree c.in-Store.m.value) (word_tree c.in-Store.a.value) (word_tree c.in-Store.v.value)) ∷ [])) (trees_of c.add.new.self) m_in (put-then (trees_of c.put_mem.new.self) (word_subterms (word_tree c.in-Store.a.value)) (trees_of c.put_parts.new.self) (word_subterms (word_tree c.in-Store.v.value) ++ OfMem (Store c.in-Store.width (mem_tree c.in-Store.m.value) (word_tree c.in-Store.a.value) (word_tree c.in-Store.v.value)) ∷ []) (trees_of c.add.new.self) a_in (put-last (trees_of c.put_parts.new.self) (word_subterms (word_tree c.in-Store.v.value)) (trees_of n) (trees_of c.add.new.self) _ _ same v_in h)))) c.add.ensures.order

pub put_parts-returns-in_ok-b-in-Bin-clause-order : goal.put_parts-returns-in_ok-b-in-Bin-clause-order
put_parts-returns-in_ok-b-in-Bin-clause-order g t c =
    let before = trees_of c.args.self.now in
    let n = c.put_parts-in-Bin.new.self in
    let a = tree_stays _ n _ _ c.in_ok-b-in-Bin.ensures.grows c.in_ok-a-in-Bin.ensures.tree in
    let b = c.in_ok-b-in-Bin.ensures.tree in
    let a_in = subst (λ (x : Word). ArePutIn before (word_subterms (word_tree x)) (trees_of c.put_parts.new.self)) c.deref.ensures c.in_ok-a-in-Bin.ensures.order in
    let b_in = subst (λ (x : Word). ArePutIn (trees_of c.put_parts.new.self) (word_subterms (word_tree x)) (trees_of n)) c.deref-in-Bin.ensures c.in_ok-b-in-Bin.ensures.order in
    let same = (λ i. OfWord (Bin c.in-Bin.op (as_word (a i)) (as_word (b i)))) ∙ (λ i. OfWord (Bin c.in-Bin.op (word_tree (c.deref.ensures i)) (word_tree (c.deref-in-Bin.ensures i)))) in
    IfOk-weaker c.add.result _ _ (λ k h. subst (λ (x : Word). ArePutIn before (word_subterms (word_tree x)) (trees_of c.add.new.self)) (sym c.in-Bin.is)
    (put-then before (word_subterms (word_tree c.in-Bin.a.value)) (trees_of c.put_parts.new.self) (word_subterms (word_tree c.in-Bin.b.value) ++ OfWord (Bin c.in-Bin.op (word_tree c.in-Bin.a.value) (word_tree c.in-Bin.b.value)) ∷ []) (trees_of c.add.new.self) a_in (put-last (trees_of c.put_parts.new.self) (word_subterms (word_tree c.in-Bin.b.value)) (trees_of n) (trees_of c.add.new.self) _ _ same b_in h))) c.add.ensures.order

pub put_parts-returns-in_ok-a-in-Extend-clause-order : goal.put_parts-returns-in_ok-a-in-Extend-clause-order
put_parts-returns-in_ok-a-in-Extend-clause-order g t c =
    let before = trees_of c.args.self.now in
    let n = c.put_parts-in-Extend.new.self in
    let a = c.in_ok-a-in-Extend.ensures.tree in
    let a_in = subst (λ (x : Word). ArePutIn before (word_subterms (word_tree x)) (trees_of n)) c.deref-in-Extend.ensures c.in_ok-a-in-Extend.ensures.order in
    let same = (λ i. OfWord (Extend c.in-Extend.ext (as_word (a i)))) ∙ (λ i. OfWord (Extend c.in-Extend.ext (word_tree (c.deref-in-Extend.ensures i)))) in
    IfOk-weaker c.add-in-Extend.result _ _ (λ k h. subst (λ (x : Word). ArePutIn before (word_subterms (word_tree x)) (trees_of c.add-in-Extend.new.self)) (sym c.in-Extend.is)
    (put-last before (word_subterms (word_tree c.in-Extend.a.value)) (trees_of n) (trees_of c.add-in-Extend.new.self) _ _ same a_in h)) c.add-in-Extend.ensures.order

pub put_parts-returns-in_ok-a-in-Load-clause-order : goal.put_parts-returns-in_ok-a-in-Load-clause-order
put_parts-returns-in_ok-a-in-Load-clause-order g t c =
    let before = trees_of c.args.self.now in
    let n = c.put_parts-in-Load.new.self in
    let m = tree_stays _ n _ _ c.in_ok-a-in-Load.ensures.grows c.in_ok-m-in-Load.ensures.tree in
    let a = c.in_ok-a-in-Load.ensures.tree in
    let m_in = subst (λ (x : Mem). ArePutIn before (mem_subterms (mem_tree x)) (trees_of c.put_mem.new.self)) c.deref-in-Load.ensures c.in_ok-m-in-Load.ensures.order in
    let a_in = subst (λ (x : Word). ArePutIn (trees_of c.put_mem.new.self) (word_subterms (word_tree x)) (trees_of n)) c.deref-in-Load-2.ensures c.in_ok-a-in-Load.ensures.order in
    let same = (λ i. OfWord (Load c.in-Load.width (as_mem (m i)) (as_word (a i)))) ∙ (λ i. OfWord (Load c.in-Load.width (mem_tree (c.deref-in-Load.ensures i)) (word_tree (c.deref-in-Load-2.ensures i)))) in
    IfOk-weaker c.add-in-Load.result _ _ (λ k h. subst (λ (x : Word). ArePutIn before (word_subterms (word_tree x)) (trees_of c.add-in-Load.new.self)) (sym c.in-Load.is)
    (put-then before (mem_subterms (mem_tree c.in-Load.m.value)) (trees_of c.put_mem.new.self) (word_subterms (word_tree c.in-Load.a.value) ++ OfWord (Load c.in-Load.width (mem_tree c.in-Load.m.value) (word_tree c.in-Load.a.value)) ∷ []) (trees_of c.add-in-Load.new.self) m_in (put-last (trees_of c.put_mem.new.self) (word_subterms (word_tree c.in-Load.a.value)) (trees_of n) (trees_of c.add-in-Load.new.self) _ _ same a_in h))) c.add-in-Load.ensures.order

pub put_parts-returns-in_ok-a-in-Load-clause-tree : goal.put_parts-returns-in_ok-a-in-Load-clause-tree
put_parts-returns-in_ok-a-in-Load-clause-tree g t c =
    let n = c.put_parts-in-Load.new.self in
    let m = tree_stays _ n _ _ c.in_ok-a-in-Load.ensures.grows c.in_ok-m-in-Load.ensures.tree in
    let a = c.in_ok-a-in-Load.ensures.tree in
    IfOk-weaker c.add-in-Load.result _ _ (λ k h. h ∙ (λ i. Some (OfWord (Load c.in-Load.width (as_mem (m i)) (as_word (a i)))))
    ∙ (λ i. Some (OfWord (Load c.in-Load.width (mem_tree (c.deref-in-Load.ensures i)) (word_tree (c.deref-in-Load-2.ensures i))))) ∙ ap (λ t. Some (OfWord (word_tree t))) (sym c.in-Load.is)) c.add-in-Load.ensures.tree
