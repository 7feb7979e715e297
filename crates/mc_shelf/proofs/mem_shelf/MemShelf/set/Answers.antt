use Rattle.std.proofs.Common.{◌≡◌, ap, ◌∙◌, Some}
use Rattle.std.proofs.lemmas.Result.{on_ok_weaker}
use Rattle.mc_shelf.specs.Files.{Files, held, with_file}
use Rattle.mc_shelf.specs.Shelf.{KeepsOthers}
use Rattle.mc_shelf.specs.MemShelf.{ShelfState}
use Rattle.mc_shelf.proofs.HeldLemmas.{held-with_file, held-with_file_other}
use Rattle.mc_shelf.proofs.mem_shelf.MemShelf.set.Goals as goal

pub returns-clause-holds : goal.returns-clause-holds
returns-clause-holds c =
    let name = c.args.name.now in
    let bytes = c.args.bytes.now in
    let set_is : c.set.new.self ≡ with_file c.self.inside.files name bytes → held c.set.new.self name ≡ Some bytes =
    λ is. rw is (held-with_file c.self.inside.files name bytes) in
    on_ok_weaker c.set.result set_is c.set.ensures.ok

pub returns-clause-others : goal.returns-clause-others
returns-clause-others c =
    let name = c.args.name.now in
    let bytes = c.args.bytes.now in
    let before = ap (λ (s : ShelfState). s.files) c.self.view_is in
    let set_is : c.set.new.self ≡ with_file c.self.inside.files name bytes → KeepsOthers name (held c.args.self.now.files) (held c.set.new.self) =
    λ is other apart. ap (λ (fs : Files). held fs other) is ∙ held-with_file_other c.self.inside.files name bytes other apart ∙ ap (λ (fs : Files). held fs other) before in
    on_ok_weaker c.set.result set_is c.set.ensures.ok
