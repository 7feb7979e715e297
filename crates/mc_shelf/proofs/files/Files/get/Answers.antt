use Rattle.std.proofs.Common.{◌≡◌, ap, sym, subst, ◌∙◌, get_or, refl, Some}
use Rattle.mc_shelf.proofs.FilesLemmas.{File, found_at, found_missing}
use Rattle.mc_shelf.proofs.files.Files.get.Goals as goal

pub returns-in_err-place : goal.returns-in_err-place
returns-in_err-place c =
    let missing = found_missing c.args.self.now c.args.name.now c.in_err-place.ensures.first in
    rw (c.from_residual.ensures, missing.held_is) refl

pub returns : goal.returns
returns c =
    let at = found_at c.args.self.now c.args.name.now c.in_ok-place.place c.in_ok-place.ensures.first in
    let entry = c.index-entry.result.now in
    let read : entry ≡ get_or c.args.self.now c.in_ok-place.place entry = subst (λ fs. entry ≡ get_or fs c.in_ok-place.place entry) c.self.view_is c.index-entry.ensures in
    ap Some (c.as_slice.ensures.value ∙ ap (λ (f : File). f.1) (c.entry.view_is ∙ read)) ∙ sym (at.held_is entry)
