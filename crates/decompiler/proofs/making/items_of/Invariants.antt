use Rattle.std.proofs.Common.{◌≡◌, ℕ, List, take, ◌-◌, length}
use Rattle.std.specs.List.{AllZip}
use Rattle.elf_image.specs.Image.{image_of}
use Rattle.decompiler.specs.Listing.{IsItemBy}
use Rattle.decompiler.proofs.making.items_of.Given as goal

abbrev pub invariant-names : goal.invariant-names
invariant-names g l = (file : List ℕ) → l.image ≡ image_of file → AllZip (IsItemBy g.M.MakeItems.form file) (take l.i l.names) l.items

abbrev pub decreases-names : goal.decreases-names
decreases-names g l = length l.names - l.i
