-- What is answered where a file isn't read, or there is no image of an ELF file.
use Rattle.std.proofs.Common.{◌≡◌, ℕ, ◌<◌, ◌≤◌, List, length, Option, Some, Result, Err, sym, subst}
use Rattle.std.specs.Prelude.{IfSome, IsSomeAnd}
use Rattle.mc_shelf.specs.Shelf.{Contents}
use Rattle.mc_shelf.specs.declared.reading.ReadEnd.{ReadEnd}
use Rattle.mc_shelf.specs.declared.reading.ReadEnd.TheVariants as end
use Rattle.elf_image.specs.Fault.{fault_of}
use Rattle.elf_image.specs.declared.fault.ElfFault.{ElfFault}
use Rattle.mcdec_answers.specs.declared.answer.Answer.{Answer}
use Rattle.mcdec_answers.specs.declared.answer.Answer.TheVariants as answer
use Rattle.mcdec_commands.specs.declared.load.LoadFault.{LoadFault}
use Rattle.mcdec_commands.specs.declared.load.LoadFault.TheVariants as load
use Rattle.mcdec_commands.specs.Held.{HasFile}
use Rattle.mcdec_commands.specs.RunAnswer.{elf_limit}
use Rattle.mcdec_commands.specs.inner.Loading.{IsNotLoaded, IsNotRead, not_loaded, not_read}
use Rattle.mcdec_commands.proofs.Answers.{held-such}

module _ (told : Option Contents) (name : List ℕ) (rose : Type 0) where
  -- why a file isn't read, by what the call that reads it says of that
  pub unread : {X : Type 0} (limit : ℕ) (result : Result X ReadEnd) (e : ReadEnd) → result ≡ Err e → (result ≡ Err end.Fault → rose)
      → (result ≡ Err end.TooLong → IfSome told (λ files. IsSomeAnd (files name) (λ file. limit < length file))) → IsNotRead told name limit rose e
  unread limit result end.Fault is failed long = failed is
  unread limit result end.TooLong is failed long = held-such told name (λ file. limit < length file) (long is)
  unread limit result end.NoMemory is failed long = tt

  module _ (P : Answer → Type 0) (failed : rose → P answer.ReadFault) (none : P answer.NoMemory) (over_limit : Answer) where
    -- what is so of the answers to that
    pub unread-so : (limit : ℕ) → (HasFile told name (λ file. limit < length file) → P over_limit) → (e : ReadEnd) → IsNotRead told name limit rose e → (a : Answer) → a ≡ not_read over_limit e → P a
    unread-so limit long end.Fault h a is = subst P (sym is) (failed h)
    unread-so limit long end.TooLong h a is = subst P (sym is) (long h)
    unread-so limit long end.NoMemory h a is = subst P (sym is) none

    pub unloaded-so : (unreadable : ElfFault → Answer) → (HasFile told name (λ file. elf_limit < length file) → P over_limit)
        → ((why : ElfFault) → HasFile told name (λ file. (length file ≤ elf_limit) × (fault_of file ≡ Some why)) → P (unreadable why))
        → (fault : LoadFault) → IsNotLoaded told name rose fault → (a : Answer) → a ≡ not_loaded over_limit unreadable fault → P a
    unloaded-so unreadable long bad (load.Unread e) h a is = unread-so elf_limit long e h a is
    unloaded-so unreadable long bad (load.Unreadable why) h a is = subst P (sym is) (bad why h)
