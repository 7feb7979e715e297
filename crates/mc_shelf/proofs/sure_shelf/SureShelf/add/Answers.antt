use Rattle.std.proofs.Common.{◌≡◌, None, Ok, IsSome, ap, ◌∙◌, subst, sym, rules}
use Rattle.std.proofs.lemmas.Result.{on_ok_weaker}
use Rattle.mc_shelf.specs.Files.{Files, held, with_file, with_more}
use Rattle.mc_shelf.specs.Shelf.{Appends}
use Rattle.mc_shelf.specs.SureShelf.{sure_contents}
use Rattle.mc_shelf.proofs.HeldLemmas.{surely_appends, surely_begins}
use Rattle.mc_shelf.proofs.sure_shelf.SureShelf.add.Goals as goal

pub returns-then-is_none-clause-ok : goal.returns-then-is_none-clause-ok
returns-then-is_none-clause-ok c =
    let name = c.args.name.now in
    let piece = c.args.piece.now in
    let none : held c.args.self.now name ≡ None = search rules in
    let set_is : c.set.new.self ≡ with_file c.self.inside.files name piece → Appends (Ok tt) name piece (sure_contents c.args.self.now) (sure_contents c.set.new.self) =
    λ is.
    let after : c.set.new.self ≡ with_file c.args.self.now name piece = is ∙ ap (λ (fs : Files). with_file fs name piece) c.self.view_is in
    subst (λ (fs : Files). Appends (Ok tt) name piece (sure_contents c.args.self.now) (sure_contents fs)) (sym after) (surely_begins c.args.self.now name piece none) in
    on_ok_weaker c.set.result set_is c.set.ensures.ok

pub returns-clause-ok : goal.returns-clause-ok
returns-clause-ok c =
    let name = c.args.name.now in
    let piece = c.args.piece.now in
    let there : IsSome (held c.args.self.now name) = search rules in
    let set_is : c.append.new.self ≡ with_more c.self.inside.files name piece → Appends (Ok tt) name piece (sure_contents c.args.self.now) (sure_contents c.append.new.self) =
    λ is.
    let after : c.append.new.self ≡ with_more c.args.self.now name piece = is ∙ ap (λ (fs : Files). with_more fs name piece) c.self.view_is in
    subst (λ (fs : Files). Appends (Ok tt) name piece (sure_contents c.args.self.now) (sure_contents fs)) (sym after) (surely_appends c.args.self.now name piece there) in
    on_ok_weaker c.append.result set_is c.append.ensures.ok
