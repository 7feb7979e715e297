-- Why there is no proof for some names of a file.
use Rattle.std.specs.Prelude.{ℕ, List}
use Rattle.code_parts.specs.declared.call_fault.LinkWhy.TheVariants.{Outside}
use Rattle.path_walk.specs.declared.proof.DecompileFault.{DecompileFault}
use Rattle.path_walk.specs.declared.proof.DecompileFault.TheVariants.{Refused, NoMemory}
use Rattle.decompiler.specs.declared.fault.LinkFault.{LinkFault}
use Rattle.decompiler.specs.declared.fault.LinkFault.TheVariants as fault
use Rattle.decompiler.specs.Listing.{IsRefusedBy, ItemForm}

-- where functions are made in that form
abbrev pub IsNoProofBy : ItemForm → List ℕ → List (List ℕ) → LinkFault → Type 0
IsNoProofBy form file names (fault.Refused number why) = IsRefusedBy form file names number why
IsNoProofBy form file names fault.NoMemory = Unit {0}

-- .. of which each stands alone
abbrev pub IsFaultBy : ItemForm → List ℕ → List (List ℕ) → DecompileFault → Type 0
IsFaultBy form file names (Refused number why) = IsRefusedBy form file names number (Outside why)
IsFaultBy form file names NoMemory = Unit {0}
