use Rattle.std.proofs.Common.{◌≡◌, true, true≢false, List, Option, Some, None, ap, sym, subst, ◌∙◌}
use Rattle.std.specs.Prelude.{is_some, option_map}
use Rattle.std.specs.Option.{option_copied}
use Rattle.std.proofs.lemmas.Result.{IfOk-weaker}
use Rattle.sep_assert.specs.Tree.{AssertionTree, assertion_tree}
use Rattle.term_arena.specs.Arena.{Tree}
use Rattle.triple_kernel.specs.Tree.{triple_tree}
use Rattle.held_terms.specs.Terms.{AreTermsPutIn}
use Rattle.proof_v2.specs.Preconditions.{pre_at}
use Rattle.proof_v2.proofs.ShortOf.{framed_terms}
use Rattle.proof_v2.proofs.lines.short_frame.Goals as goal

pub unreachable-requires : goal.unreachable-requires
unreachable-requires g c =
    let none : pre_at c.args.kept.now c.args.p ≡ None = sym c.precondition.ensures ∙ ap (λ o. option_map assertion_tree (option_copied o)) c.in-None.is in
    absurd (true≢false (sym (subst (λ (o : Option AssertionTree). is_some o ≡ true) none c.requires)))

pub returns-clause-line : goal.returns-clause-line
returns-clause-line g c =
    let is : pre_at c.args.kept.now c.args.p ≡ Some (assertion_tree c.in-Some.own.now) = sym c.precondition.ensures ∙ ap (λ o. option_map assertion_tree (option_copied o)) c.in-Some.is in
    IfOk-weaker c.short_further.result _ _ (λ s x h all keeps. x h all (sym (keeps.each c.args.p) ∙ is)) c.short_further.ensures.line

pub returns-clause-order : goal.returns-clause-order
returns-clause-order g c =
    let start = c.args.arena.now in
    let now = c.short_further.new.arena in
    let own = assertion_tree c.in-Some.own.now in
    let t = triple_tree c.args.stated.now in
    let is : pre_at c.args.kept.now c.args.p ≡ Some own = sym c.precondition.ensures ∙ ap (λ o. option_map assertion_tree (option_copied o)) c.in-Some.is in
    IfOk-weaker c.short_further.result _ _ (λ s x h keeps. subst (λ (ts : List Tree). AreTermsPutIn start ts now) (sym (framed_terms h c.args.p own t (sym (keeps.each c.args.p) ∙ is))) x) c.short_further.ensures.order
