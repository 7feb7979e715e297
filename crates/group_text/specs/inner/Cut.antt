-- Whole lines, and the bytes after lines.
use Rattle.std.specs.Prelude.{◌≡◌, ℕ, zero, suc, List, [], ◌∷◌, Some, ◌==◌, if◌then◌else◌}
use Rattle.mc_text.specs.Fault.{first_lines, newlines}

-- nothing, or bytes up to a newline
abbrev pub AreWholeLines : List ℕ → Type 0
AreWholeLines bytes = first_lines (newlines bytes) bytes ≡ Some bytes

-- the bytes after the first n lines
unfoldable pub drop_lines : ℕ → List ℕ → List ℕ
drop_lines zero bytes = bytes
drop_lines (suc n) [] = []
drop_lines (suc n) (b ∷ bs) = if b == 10 then drop_lines n bs else drop_lines (suc n) bs
