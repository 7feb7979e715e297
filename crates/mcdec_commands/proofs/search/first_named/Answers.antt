use Rattle.std.proofs.Common.{sym, ap, ◌∙◌, ℕ, List}
use Rattle.std.specs.Str.{bytes_eq}
use Rattle.tailrec_lang.specs.Tree.{group_tree}
use Rattle.mcdec_commands.proofs.Groups.{found-kept, found-now, none-more}
use Rattle.mcdec_commands.proofs.search.first_named.Goals as goal

pub returns-in-Some : goal.returns-in-Some
returns-in-Some c gs h = found-kept c.args.name.now gs (group_tree c.args.next) c.args.found c.in-Some.first c.in-Some.is h

pub returns-then-eq : goal.returns-then-eq
returns-then-eq c gs h =
    found-now c.args.name.now gs c.args.next c.args.found c.in-None.is h
    (sym (c.eq.ensures ∙ ap (λ (w : List ℕ). bytes_eq w c.args.name.now) c.as_slice.ensures) ∙ c.if-eq.true) c.requires

pub returns-else-eq : goal.returns-else-eq
returns-else-eq c gs h =
    none-more c.args.name.now gs c.args.next c.args.found c.in-None.is h
    (sym (c.eq.ensures ∙ ap (λ (w : List ℕ). bytes_eq w c.args.name.now) c.as_slice.ensures) ∙ c.if-eq.false)
