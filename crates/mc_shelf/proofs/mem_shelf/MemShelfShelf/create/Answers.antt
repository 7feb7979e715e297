use Rattle.std.proofs.Common.{◌≡◌, [], ap, ◌∙◌}
use Rattle.mc_shelf.specs.Files.{with_file}
use Rattle.mc_shelf.specs.MemShelf.{ShelfState}
use Rattle.mc_shelf.proofs.HeldLemmas.{creates_empty}
use Rattle.mc_shelf.proofs.mem_shelf.MemShelfShelf.create.Goals as goal

pub returns-clause-emptied : goal.returns-clause-emptied
returns-clause-emptied c =
    let name = c.args.name.now in
    let before = ap (λ (s : ShelfState). s.files) c.self.view_is in
    let after : c.set.new.self ≡ with_file c.args.self.now.files name [] = c.in_ok-set.ensures.ok ∙ (λ i. with_file (before i) name []) in
    rw after (creates_empty c.args.self.now.files name)
