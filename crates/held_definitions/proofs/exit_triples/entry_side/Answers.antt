use Rattle.std.proofs.Common.{ap, ◌∙◌}
use Rattle.std.specs.Prelude.{zip}
use Rattle.word_terms.specs.Tree.{Const}
use Rattle.tailrec_lang.specs.Tree.{group_tree}
use Rattle.held_terms.specs.Held.{values_over}
use Rattle.held_definitions.proofs.ExitParts.{mems_put, ok_as, values_put, with_put, words_put}
use Rattle.held_definitions.proofs.exit_triples.entry_side.Goals as goal

pub returns-clause-put : goal.returns-clause-put
returns-clause-put g c =
    let new = c.constant.new.arena in
    let v = c.args.values.now in
    let t = values_over c.args.arena.now v in
    let p = values_put c.args.arena.now new v c.constant.ensures.grows c.requires in
    ok_as c.side_with.result _ _
    (λ s h. with_put new (group_tree c.args.g.now) c.in_ok-pc.pc (Const c.args.def.now.entry) v.words v.mems t.words t.mems s
    (h.0, h.1 ∙ ap (zip c.args.g.now.regs) c.as_slice.ensures, h.2 ∙ c.as_slice-2.ensures) c.in_ok-pc.ensures.put (words_put new v t p) (mems_put new v t p)) c.side_with.ensures
