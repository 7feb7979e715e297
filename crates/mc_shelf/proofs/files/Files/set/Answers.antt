use Rattle.std.proofs.Common.{◌≡◌, [], ◌∷◌, sym, subst, ◌∙◌, ◌++◌, get_or, set, string_bytes}
use Rattle.mc_shelf.proofs.FilesLemmas.{found_at, found_missing}
use Rattle.mc_shelf.proofs.files.Files.set.Goals as goal

pub returns-in-Some-clause-ok : goal.returns-in-Some-clause-ok
returns-in-Some-clause-ok c =
    let at = found_at c.args.self.now c.args.name.now c.in-Some.place c.in-Some.ensures.first in
    let entry = c.index_mut-entry.result.now in
    let bytes = c.args.bytes.now in
    let read : entry ≡ get_or c.args.self.now c.in-Some.place entry = subst (λ fs. entry ≡ get_or fs c.in-Some.place entry) c.self.view_is c.index_mut-entry.ensures.value in
    let same = c.entry.view_is ∙ read in
    (λ i. set (c.self.view_is i) c.in-Some.place (string_bytes c.entry.inside.name, c.in_ok-bytes.ensures.items i))
    ∙ (λ i. set c.args.self.now c.in-Some.place ((same i).0, bytes))
    ∙ sym (at.file_is bytes entry)

pub returns-in_ok-push-in-None-clause-ok : goal.returns-in_ok-push-in-None-clause-ok
returns-in_ok-push-in-None-clause-ok c =
    let missing = found_missing c.args.self.now c.args.name.now c.in-None.ensures.first in
    c.in_ok-push-in-None.ensures.items
    ∙ (λ i. c.self.view_is i ++ (c.in_ok-name-in-None.ensures.ok i, c.in_ok-bytes.ensures.items i) ∷ [])
    ∙ sym (missing.file_is c.args.bytes.now)
