use Rattle.std.proofs.Common.{◌≡◌, ap, ◌∙◌}
use Rattle.std.proofs.lemmas.Result.{on_ok_weaker}
use Rattle.mc_shelf.specs.Files.{Files, with_file}
use Rattle.mc_shelf.specs.Shelf.{KeepsOthers}
use Rattle.mc_shelf.specs.SureShelf.{sure_contents, surely_held}
use Rattle.mc_shelf.proofs.HeldLemmas.{surely-with_file, surely-with_file_other}
use Rattle.mc_shelf.proofs.sure_shelf.SureShelf.set.Goals as goal

pub returns-clause-holds : goal.returns-clause-holds
returns-clause-holds c =
    let name = c.args.name.now in
    let bytes = c.args.bytes.now in
    let set_is : c.set.new.self ≡ with_file c.self.inside.files name bytes → surely_held c.set.new.self name ≡ bytes =
    λ is. ap (λ (fs : Files). surely_held fs name) is ∙ surely-with_file c.self.inside.files name bytes in
    on_ok_weaker c.set.result set_is c.set.ensures.ok

pub returns-clause-others : goal.returns-clause-others
returns-clause-others c =
    let name = c.args.name.now in
    let bytes = c.args.bytes.now in
    let before = c.self.view_is in
    let set_is : c.set.new.self ≡ with_file c.self.inside.files name bytes → KeepsOthers name (sure_contents c.args.self.now) (sure_contents c.set.new.self) =
    λ is other apart. ap (λ (fs : Files). sure_contents fs other) is ∙ surely-with_file_other c.self.inside.files name bytes other apart ∙ ap (λ (fs : Files). sure_contents fs other) before in
    on_ok_weaker c.set.result set_is c.set.ensures.ok
