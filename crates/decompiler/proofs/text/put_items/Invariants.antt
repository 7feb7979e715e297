use Rattle.std.proofs.Common.{◌≡◌, ◌++◌, map, take}
use Rattle.proof_text.specs.Proofs.{proof_texts_in}
use Rattle.group_text.specs.Version.{version_of}
use Rattle.decompiler.specs.Listing.{proof_of}
use Rattle.decompiler.proofs.text.put_items.Given as goal

abbrev pub invariant-loop-item : goal.invariant-loop-item
invariant-loop-item l = l.out ≡ l.initial.out ++ proof_texts_in (version_of l.version) (map proof_of (take l.item-index l.items))
