use Rattle.std.proofs.Common.{◌≡◌, [], ap, ◌∙◌}
use Rattle.mc_shelf.specs.Files.{Files, with_file}
use Rattle.mc_shelf.proofs.HeldLemmas.{surely_creates}
use Rattle.mc_shelf.proofs.sure_shelf.SureShelfShelf.create.Goals as goal

pub returns-clause-emptied : goal.returns-clause-emptied
returns-clause-emptied c =
    let name = c.args.name.now in
    let after : c.set.new.self ≡ with_file c.args.self.now name [] = c.in_ok-set.ensures.ok ∙ ap (λ (fs : Files). with_file fs name []) c.self.view_is in
    rw after (surely_creates c.args.self.now name)
