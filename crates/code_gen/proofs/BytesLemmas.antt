-- A number's bytes, one after the other.
use Rattle.std.proofs.Common.{◌≡◌, ℕ, suc, ◌+◌, ◌-◌, ◌<◌, ◌/◌, ◌%◌, List, [], ◌∷◌, ◌++◌, ap, sym, ◌∙◌, append_assoc, arith}
use Rattle.code_gen.specs.ElfFile.{little}

-- the bytes that are left after some are those of a byte and what is left after it
pub little-next : (bytes : List ℕ) (n i v : ℕ) → i < n → (bytes ++ v % 256 ∷ []) ++ little (n - (i + 1)) (v / 256) ≡ bytes ++ little (n - i) v
little-next bytes n i v h =
    let e : n - i ≡ suc (n - (i + 1)) = omega arith in
    append_assoc bytes (v % 256 ∷ []) (little (n - (i + 1)) (v / 256)) ∙ ap (λ (k : ℕ). bytes ++ little k v) (sym e)
