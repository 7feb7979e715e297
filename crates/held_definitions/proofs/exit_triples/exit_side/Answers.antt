use Rattle.std.proofs.Common.{ℕ, List, Some, IfOk, drop, map, ap, sym, ◌∙◌, subst}
use Rattle.std.specs.Prelude.{slice_index_or, zip}
use Rattle.word_terms.specs.Tree.{Const}
use Rattle.tailrec_lang.specs.declared.group.Exit.{Exit}
use Rattle.tailrec_lang.specs.Tree.{group_tree}
use Rattle.loop_rule.specs.Leaves.{at_exit}
use Rattle.term_arena.specs.Arena.{word_of}
use Rattle.held_terms.specs.Held.{values_over}
use Rattle.held_terms.specs.inner.Put.{IsSidePut, IsWordPut}
use Rattle.held_definitions.proofs.ExitParts.{mems_put, ok_as, others_put, values_put, with_put, words_put}
use Rattle.held_definitions.proofs.exit_triples.exit_side.Goals as goal

pub returns-in_ok-pc-in-At-clause-put : goal.returns-in_ok-pc-in-At-clause-put
returns-in_ok-pc-in-At-clause-put g c =
    let new = c.constant.new.arena in
    let tree = group_tree c.args.g.now in
    let v = c.args.values.now in
    let t = values_over c.args.arena.now v in
    let p = values_put c.args.arena.now new v c.constant.ensures.grows c.requires in
    subst (λ (e : Exit). IfOk c.side_with.result (λ s. IsSidePut new s (at_exit tree (Some e) t))) (sym c.in-At.is)
    (ok_as c.side_with.result _ _
    (λ s h. with_put new tree c.in_ok-pc-in-At.pc (Const c.in-At.a) v.words v.mems t.words t.mems s
    (h.0, h.1 ∙ ap (zip c.args.g.now.regs) c.as_slice-words.ensures, h.2 ∙ c.as_slice-mems.ensures) c.in_ok-pc-in-At.ensures.put (words_put new v t p) (mems_put new v t p)) c.side_with.ensures)

pub returns-in_ok-pc-in-Ret-clause-put : goal.returns-in_ok-pc-in-Ret-clause-put
returns-in_ok-pc-in-Ret-clause-put g c =
    let old = c.args.arena.now in
    let new = c.first_word.new.arena in
    let tree = group_tree c.args.g.now in
    let v = c.args.values.now in
    let t = values_over old v in
    let p = values_put old new v c.first_word.ensures.grows c.requires in
    let first = subst (λ (ws : List ℕ). IsWordPut new c.in_ok-pc-in-Ret.pc (slice_index_or (map (word_of old) ws) 0 (Const 0))) c.as_slice-words.ensures c.in_ok-pc-in-Ret.ensures.put in
    subst (λ (e : Exit). IfOk c.side_with-in-Ret.result (λ s. IsSidePut new s (at_exit tree (Some e) t))) (sym c.in-Ret.is)
    (ok_as c.side_with-in-Ret.result _ _
    (λ s h. with_put new tree c.in_ok-pc-in-Ret.pc (slice_index_or t.words 0 (Const 0)) (drop 1 v.words) v.mems (drop 1 t.words) t.mems s
    (h.0, h.1 ∙ ap (zip c.args.g.now.regs) (c.other_words.ensures ∙ ap (drop 1) c.as_slice-words.ensures), h.2 ∙ c.as_slice-mems.ensures) first (others_put new v.words t.words (words_put new v t p)) (mems_put new v t p))
    c.side_with-in-Ret.ensures)
