use Rattle.std.proofs.Common.{◌≡◌, sym, subst, ◌∙◌, ◌++◌, get_or, set, string_bytes}
use Rattle.mc_shelf.proofs.FilesLemmas.{found_at, found_missing}
use Rattle.mc_shelf.proofs.files.Files.append.Goals as goal

pub returns-in_ok-extend_from_slice-clause-ok : goal.returns-in_ok-extend_from_slice-clause-ok
returns-in_ok-extend_from_slice-clause-ok c =
    let at = found_at c.args.self.now c.args.name.now c.in-Some.place c.in-Some.ensures.first in
    let entry = c.index_mut-entry.result.now in
    let piece = c.args.piece.now in
    let read : entry ≡ get_or c.args.self.now c.in-Some.place entry = subst (λ fs. entry ≡ get_or fs c.in-Some.place entry) c.self.view_is c.index_mut-entry.ensures.value in
    let same = c.entry.view_is ∙ read in
    (λ i. set (c.self.view_is i) c.in-Some.place (string_bytes c.entry.inside.name, c.in_ok-extend_from_slice.ensures.items i))
    ∙ (λ i. set c.args.self.now c.in-Some.place ((same i).0, (same i).1 ++ piece))
    ∙ sym (at.more_is piece entry)

pub returns-in_default-clause-ok : goal.returns-in_default-clause-ok
returns-in_default-clause-ok c =
    let missing = found_missing c.args.self.now c.args.name.now c.in_default.ensures.first in
    sym (missing.more_is c.args.piece.now)
