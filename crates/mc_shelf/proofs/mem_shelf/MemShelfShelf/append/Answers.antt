use Rattle.std.proofs.Common.{◌≡◌, ap, ◌∙◌, IsSome, rules}
use Rattle.mc_shelf.specs.Files.{held, with_more}
use Rattle.mc_shelf.specs.Plan.{kept_of}
use Rattle.mc_shelf.specs.MemShelf.{ShelfState}
use Rattle.mc_shelf.proofs.HeldLemmas.{appends_all, appends_kept}
use Rattle.mc_shelf.proofs.mem_shelf.MemShelfShelf.append.Goals as goal

pub returns-then-missing-clause-added : goal.returns-then-missing-clause-added
returns-then-missing-clause-added c =
    let name = c.args.name.now in
    let piece = c.args.bytes.now in
    let before = ap (λ (s : ShelfState). s.files) c.self.view_is in
    let after : c.append.new.self ≡ with_more c.args.self.now.files name (kept_of c.kept-kept.result piece) =
    c.in_ok-append.ensures.ok ∙ (λ i. with_more (before i) name (c.kept_part.ensures i)) in
    rw after (appends_kept c.args.self.now.files name piece c.kept-kept.result)

pub returns-clause-added : goal.returns-clause-added
returns-clause-added c =
    let name = c.args.name.now in
    let piece = c.args.bytes.now in
    let before = ap (λ (s : ShelfState). s.files) c.self.view_is in
    let there : IsSome (held c.args.self.now.files name) = search rules in
    let after : c.append.new.self ≡ with_more c.args.self.now.files name piece = search rules in
    rw after (appends_all c.args.self.now.files name piece there)
