use Rattle.std.proofs.Common.{◌≡◌, List, Some, ap, ◌∙◌, sym, subst}
use Rattle.std.specs.Prelude.{slice_get}
use Rattle.term_arena.specs.declared.node.Node.{Node}
use Rattle.term_arena.specs.declared.chains.Entry.{Entry}
use Rattle.term_arena.proofs.Places.{map-at}
use Rattle.term_arena.proofs.arena.Arena.node.Goals as goal

pub returns-clause-children : goal.returns-clause-children
returns-clause-children g c =
    let k = c.args.k in
    let n = c.entry_at-entry.result.node in
    c.law_of_arenas.ensures.children c.args.self.now k n c.law_of_nodes.ensures
    (subst (λ (ns : List Node). slice_get ns k ≡ Some n) c.self.view_is
    (map-at (λ (e : Entry). e.node) c.self.inside.entries k c.entry_at-entry.result (ap (λ (es : List Entry). slice_get es k) (sym c.as_slice.ensures) ∙ c.entry_at-entry.ensures)))

pub returns-clause-below : goal.returns-clause-below
returns-clause-below g c =
    let k = c.args.k in
    let n = c.entry_at-entry.result.node in
    c.law_of_arenas.ensures.below c.args.self.now k n c.law_of_nodes.ensures
    (subst (λ (ns : List Node). slice_get ns k ≡ Some n) c.self.view_is
    (map-at (λ (e : Entry). e.node) c.self.inside.entries k c.entry_at-entry.result (ap (λ (es : List Entry). slice_get es k) (sym c.as_slice.ensures) ∙ c.entry_at-entry.ensures)))
