use Rattle.std.proofs.Common.{◌≡◌, ℕ, List, take, ◌-◌, length}
use Rattle.elf_image.specs.Image.{image_of}
use Rattle.group_text.specs.Version.{version_of}
use Rattle.mcdec_commands.specs.inner.Decompiling.{HasItems}
use Rattle.mcdec_commands.proofs.Decompiling.{begun}
use Rattle.mcdec_commands.proofs.decompile.text_of_items.Given as goal

-- the names so far
abbrev pub invariant-names : goal.invariant-names
invariant-names g l = (file : List ℕ) → l.image ≡ image_of file → HasItems g.M.MakeItems.form file (take l.i l.names) (begun (version_of l.version)) l.text l.listed

abbrev pub decreases-names : goal.decreases-names
decreases-names g l = length l.names - l.i
