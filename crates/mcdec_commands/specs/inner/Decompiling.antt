-- What the commands `decompile`, `link` and `split` come to, part by part.
use Rattle.std.specs.Prelude.{ℕ, ◌≡◌, ◌≤◌, List, length, map}
use Rattle.std.specs.List.{AllZip}
use Rattle.tailrec_lang.specs.Tree.{group_tree}
use Rattle.proof_text.specs.Line.{ProofTree}
use Rattle.path_walk.specs.declared.item.Item.{Item}
use Rattle.decompiler.specs.Listing.{IsItemBy, ItemForm, proof_of}
use Rattle.mcdec_answers.specs.declared.command.Form.{Form}
use Rattle.mcdec_answers.specs.declared.answer.Answer.{Answer}
use Rattle.mcdec_answers.specs.declared.answer.Answer.TheVariants as answer
use Rattle.mcdec_answers.specs.declared.answer.Listed.{Listed}
use Rattle.decompiler.specs.Refusals.{IsNoProofBy}
use Rattle.decompiler.specs.declared.fault.LinkFault.{LinkFault}
use Rattle.mcdec_commands.specs.DecompileAnswer.{DecompileGives, all_listed, item_form}

-- the item's group has a definition
abbrev pub HasDef : Item → Type 0
HasDef item = 1 ≤ length (group_tree item.group).defs

-- the text is that of items for the names, where proofs are spelled so, and this is what is told of them
pub record HasItems (form : ItemForm) (file : List ℕ) (names : List (List ℕ)) (spelled : List ProofTree → List ℕ) (text : List ℕ) (listed : List Listed) : Type 0 where
  pub items : List Item
  pub each : AllZip (IsItemBy form file) names items
  pub is : text ≡ spelled (map proof_of items)
  pub told : listed ≡ all_listed names items

-- why there is no proof for these names
abbrev pub IsNoProofIn : Form → (file : List ℕ) (names : List (List ℕ)) → LinkFault → Type 0
IsNoProofIn form file names why = IsNoProofBy (item_form form) file names why

-- what is answered of these names, where the ELF file has these bytes and can be read
abbrev pub FileGives : Form → (file : List ℕ) (names : List (List ℕ)) → Answer → Type 0
FileGives form file names answer.NotACommand = ⊥
FileGives form file names answer.ReadFault = ⊥
FileGives form file names answer.WriteFault = Unit {0}
FileGives form file names answer.NoMemory = Unit {0}
FileGives form file names (answer.Eval a) = ⊥
FileGives form file names (answer.Run a) = ⊥
FileGives form file names (answer.Check a) = ⊥
FileGives form file names (answer.Decompile a) = DecompileGives form file names a
FileGives form file names (answer.SelfTest a) = ⊥
FileGives form file names (answer.Simplify a) = ⊥
FileGives form file names (answer.Laws a) = ⊥
FileGives form file names (answer.Smt a) = ⊥
FileGives form file names (answer.Migrate a) = ⊥
