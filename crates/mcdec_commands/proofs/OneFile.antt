-- What is told of a file is told of one.
use Rattle.std.proofs.Common.{◌≡◌, ℕ, ◌<◌, ◌≤◌, List, Some, None, arith}
use Rattle.elf_image.specs.declared.fault.ElfFault.{ElfFault}

-- a file over the limit isn't within it
pub over : (n limit : ℕ) → limit < n → n ≤ limit → ⊥
over n limit a b = omega arith

pub some_fault : (x y : ElfFault) → Some x ≡ Some y → x ≡ y
some_fault x y e = cc

pub none_fault : (x : ElfFault) → None ≡ Some x → ⊥
none_fault x e = cc

pub some_file : (x y : List ℕ) → Some x ≡ Some y → x ≡ y
some_file x y e = cc
