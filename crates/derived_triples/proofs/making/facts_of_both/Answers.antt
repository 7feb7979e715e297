use Rattle.std.proofs.Common.{List, ◌++◌, map, sym, ap, ◌∙◌, subst}
use Rattle.std.proofs.lemmas.List.{append-nil}
use Rattle.std.proofs.lemmas.Result.{IfOk-weaker}
use Rattle.frame_compose.specs.Rules.{AreMissing}
use Rattle.held_terms.specs.Held.{fact_of}
use Rattle.held_terms.specs.declared.held.HeldFact.{HeldFact}
use Rattle.derived_triples.specs.Fine.{AreFineFacts}
use Rattle.derived_triples.proofs.MakingLemmas.{both_put, fine_both}
use Rattle.derived_triples.proofs.making.facts_of_both.Goals as goal

pub returns-then-is_empty-clause-both : goal.returns-then-is_empty-clause-both
returns-then-is_empty-clause-both c =
    let ns = c.args.arena.now in
    let first = c.args.first.now in
    let second = c.args.second.now in
    let more = c.in_ok-more.more in
    let missing = subst (λ (l : List HeldFact). AreMissing (map (fact_of ns) l) (map (fact_of ns) second) (map (fact_of ns) more)) c.as_slice.ensures c.in_ok-more.ensures.missing in
    let none = c.is_empty.ensures.0 c.if-is_empty.true in
    IfOk-weaker c.share.result _ _ (λ all e. both_put ns first second more all missing (e ∙ sym (append-nil first) ∙ ap (λ (l : List HeldFact). first ++ l) (sym none))) c.share.ensures

pub returns-then-is_empty-clause-fine : goal.returns-then-is_empty-clause-fine
returns-then-is_empty-clause-fine c = IfOk-weaker c.share.result _ _ (λ all e. subst (AreFineFacts c.args.arena.now) (sym e) c.requires.first) c.share.ensures

pub returns-clause-both : goal.returns-clause-both
returns-clause-both c =
    let ns = c.args.arena.now in
    let first = c.args.first.now in
    let second = c.args.second.now in
    let more = c.in_ok-more.more in
    let missing = subst (λ (l : List HeldFact). AreMissing (map (fact_of ns) l) (map (fact_of ns) second) (map (fact_of ns) more)) c.as_slice.ensures c.in_ok-more.ensures.missing in
    let whole = c.in_ok-append.ensures.ok ∙ ap (λ (l : List HeldFact). l ++ more) (c.in_ok-all.ensures ∙ c.as_slice-2.ensures) in
    IfOk-weaker c.new.result _ _ (λ all e. both_put ns first second more all missing (e ∙ whole)) c.new.ensures

pub returns-clause-fine : goal.returns-clause-fine
returns-clause-fine c =
    let ns = c.args.arena.now in
    let first = c.args.first.now in
    let more = c.in_ok-more.more in
    let whole = c.in_ok-append.ensures.ok ∙ ap (λ (l : List HeldFact). l ++ more) (c.in_ok-all.ensures ∙ c.as_slice-2.ensures) in
    IfOk-weaker c.new.result _ _ (λ all e. subst (AreFineFacts ns) (sym (e ∙ whole)) (fine_both ns first more c.requires.first c.in_ok-more.ensures.fine)) c.new.ensures
