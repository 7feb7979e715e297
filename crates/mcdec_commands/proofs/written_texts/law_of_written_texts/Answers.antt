use Rattle.std.proofs.Common.{ℕ, List}
use Rattle.elf_image.specs.Fault.{IsReadable}
use Rattle.verdicts.specs.Accepts.{AcceptsBy}
use Rattle.path_walk.specs.declared.proof.Proof.{Proof}
use Rattle.proof_text.specs.Proofs.{AreProofsIn}
use Rattle.decompiler.specs.Listing.{proofs_of}
use Rattle.mcdec_commands.specs.DecompileAnswer.{AreItemsIn, item_form, version_in}
use Rattle.mcdec_commands.proofs.WrittenTexts.{AreAcceptedItems, in-each-form, written-accepted}
use Rattle.mcdec_commands.proofs.written_texts.law_of_written_texts.Goals as goal

pub returns : goal.returns
returns c =
    let law : AreAcceptedItems = record {
      accepted = in-each-form (λ form. (file : List ℕ) (names : List (List ℕ)) (p : Proof) → IsReadable file → AreItemsIn form file names p → AcceptsBy (item_form form).rule file (proofs_of p))
          c.law_of_items.ensures.accepted c.law_of_linked_items.ensures.accepted c.law_of_split_items.ensures.accepted;
      text = in-each-form (λ form. (file : List ℕ) (names : List (List ℕ)) (p : Proof) → AreItemsIn form file names p → AreProofsIn (version_in form) (proofs_of p))
          c.law_of_items.ensures.text c.law_of_linked_items.ensures.text c.law_of_split_items.ensures.text;
    } in
    written-accepted law
