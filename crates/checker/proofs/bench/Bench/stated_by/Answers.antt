use Rattle.std.proofs.Common.{Bool, List, ap, sym, ◌∙◌, subst, IfOk}
use Rattle.tailrec_lang.specs.Tree.{group_tree}
use Rattle.term_arena.specs.Arena.{Extends}
use Rattle.proof_text.specs.inner.OwnCode.{IsOwnCode}
use Rattle.short_text.specs.SpelledShort.{short_or_own}
use Rattle.checker.specs.Bench.{BenchState, history_from, is_closed_in, state_group, state_history, state_nodes}
use Rattle.held_definitions.specs.Theorems.{theorem_at}
use Rattle.checker.specs.Short.{AreWithin, IsFineShort, IsStatedBy}
use Rattle.derived_triples.specs.inner.Making.{MadeIf}
use Rattle.checker.proofs.BenchLemmas.{history_stays, sound_grown}
use Rattle.checker.proofs.StatingLemmas.{fine_held, made_ok, stated_next}
use Rattle.checker.specs.LineTerms.{HasShort}
use Rattle.checker.proofs.bench.Bench.stated_by.Goals as goal

pub stated_by-requires-clause-code : goal.stated_by-requires-clause-code
stated_by-requires-clause-code g c = subst (λ (k : BenchState). IsOwnCode (state_group k).code) (sym c.self.view_is) c.requires.code

pub stated_by-requires-clause-shared : goal.stated_by-requires-clause-shared
stated_by-requires-clause-shared g c = c.self.invariant.1.code

pub stated_by-requires-clause-held : goal.stated_by-requires-clause-held
stated_by-requires-clause-held g c =
    let s = c.self.inside in
    fine_held s.group.now s.arena s.held.entries s.next s.closed c.self.invariant.0.there (subst (λ (k : BenchState). AreWithin (state_history k)) (sym c.self.view_is) c.requires.within)

pub stated_by-requires-clause-marked : goal.stated_by-requires-clause-marked
stated_by-requires-clause-marked g c = c.self.invariant.1.theorems

pub stated_by-requires-clause-line : goal.stated_by-requires-clause-line
stated_by-requires-clause-line g c = subst (λ (k : BenchState). IsFineShort (state_nodes k) (short_or_own (state_group k).code c.args.all c.args.line.now)) (sym c.self.view_is) c.requires.line

pub invariant_of-self : goal.invariant_of-self
invariant_of-self g c =
    let s = c.self.inside in
    (sound_grown s.arena c.stated_by.new.arena c.stated_by.ensures.grows s.group.now s.held.entries s.next s.closed c.self.invariant.0, c.self.invariant.1)

pub returns-clause-same : goal.returns-clause-same
returns-clause-same g c =
    let s = c.self.inside in
    history_stays s.arena c.stated_by.new.arena c.stated_by.ensures.grows s.group.now s.held.entries s.next s.closed c.self.invariant.0.there ∙ ap state_history c.self.view_is

pub returns-clause-grows : goal.returns-clause-grows
returns-clause-grows g c = subst (λ (k : BenchState). Extends (state_nodes k) c.stated_by.new.arena) c.self.view_is c.stated_by.ensures.grows

pub returns-clause-made : goal.returns-clause-made
returns-clause-made g c =
    let s = c.self.inside in
    let new = c.stated_by.new.arena in
    let tree = group_tree s.group.now in
    let line = short_or_own tree.code c.args.all c.args.line.now in
    let theorems = theorem_at s.arena s.held.entries in
    let closed = is_closed_in s.closed in
    let made = subst (λ (cs : List Bool). IfOk c.stated_by.result (MadeIf new (IsStatedBy tree (history_from 0 s.arena s.held.entries cs) s.arena line))) c.as_slice.ensures c.stated_by.ensures.made in
    subst (λ (k : BenchState). IfOk c.stated_by.result (MadeIf new (IsStatedBy (state_group k) (state_history k) (state_nodes k) (short_or_own (state_group k).code c.args.all c.args.line.now)))) c.self.view_is
    (made_ok c.stated_by.result new _ _ (λ t fits x. stated_next 0 s.next theorems closed s.arena tree line t x) (λ t fits x. stated_next s.next 0 theorems closed s.arena tree line t x) made)

pub returns-clause-most : goal.returns-clause-most
returns-clause-most g c = λ ts has.
    c.stated_by.ensures.most ts (subst (λ (k : BenchState). HasShort (state_group k) (state_history k).theorem (state_nodes k) c.args.line.now ts) (sym c.self.view_is) has)
