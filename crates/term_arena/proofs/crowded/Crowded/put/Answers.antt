use Rattle.std.proofs.Common.{Some, ◌∙◌, sym, subst}
use Rattle.std.specs.BTreeMap.{Updates}
use Rattle.term_arena.specs.inner.Crowded.{Key, key_order}
use Rattle.term_arena.proofs.CrowdedLemmas.{has_put, is_none}
use Rattle.term_arena.proofs.crowded.Crowded.put.Goals as goal

pub returns-in-Ok : goal.returns-in-Ok
returns-in-Ok c =
    has_put c.args.self.now.numbers c.insert.new.self c.args.n c.args.k (sym c.number_of.ensures ∙ is_none _ c.if-is_some.false c.is_some.ensures)
    (subst (λ (k : Key). Updates key_order c.args.self.now.numbers c.insert.new.self k (Some c.args.k)) c.key_of.ensures c.in-Ok.ensures.updates)
