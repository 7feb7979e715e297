-- When each answer to `decompile`, `link` and `split` comes, and what text they write.
use Rattle.std.specs.Prelude.{◌≡◌, ℕ, ◌<◌, ◌≤◌, List, [], ◌∷◌, length, slice_get, Some, unwrap_or}
use Rattle.mc_shelf.specs.Shelf.{Contents}
use Rattle.elf_image.specs.Fault.{fault_of}
use Rattle.flow_graph.specs.declared.outside.Outside.TheVariants.{TwoEntries}
use Rattle.tailrec_lang.specs.Tree.{group_tree, listed_def}
use Rattle.group_text.specs.Version.{Version}
use Rattle.proof_text.specs.Proofs.{text_of_proofs_in}
use Rattle.mcdec_answers.specs.declared.command.Form.{Form}
use Rattle.mcdec_answers.specs.declared.command.Form.TheVariants.{Alone, Linked, Split}
use Rattle.code_parts.specs.declared.call_fault.LinkWhy.{LinkWhy}
use Rattle.code_parts.specs.declared.call_fault.LinkWhy.TheVariants as link
use Rattle.claims.specs.Headline.{entry_at}
use Rattle.path_walk.specs.declared.item.Item.{Item}
use Rattle.path_walk.specs.declared.proof.Proof.{Proof}
use Rattle.decompiler.specs.Listing.{AreItemsBy, IsRefusedBy, ItemForm, alone_form, proofs_of}
use Rattle.call_link.specs.Listing.{linked_form}
use Rattle.stack_split.specs.Listing.{split_form}
use Rattle.mcdec_answers.specs.declared.answer.Answer.{Answer}
use Rattle.mcdec_answers.specs.declared.answer.Answer.TheVariants.{Decompile}
use Rattle.mcdec_answers.specs.declared.answer.DecompileAnswer.{DecompileAnswer}
use Rattle.mcdec_answers.specs.declared.answer.DecompileAnswer.TheVariants as answer
use Rattle.mcdec_answers.specs.declared.answer.Listed.{Listed}
use Rattle.mcdec_commands.specs.RunAnswer.{elf_limit, IsLoaded}

-- what is told of a name: where its function is entered, how many instructions are reached from there, and how many definitions it has
abbrev pub listed_of : List ℕ → Item → Listed
listed_of name item = record {
  name = name;
  entry = unwrap_or (entry_at (group_tree item.group) (listed_def (group_tree item.group))) 0;
  reached = item.reached;
  defs = length (group_tree item.group).defs;
}

-- the same of each name with its item
abbrev pub all_listed : List (List ℕ) → List Item → List Listed
all_listed [] items = []
all_listed (name ∷ names) [] = []
all_listed (name ∷ names) (item ∷ items) = listed_of name item ∷ all_listed names items

-- ---- functions by themselves, with those that they call, or with a memory for the stack

abbrev pub item_form : Form → ItemForm
item_form Alone = alone_form
item_form Linked = linked_form
item_form Split = split_form

abbrev pub AreItemsIn : Form → (file : List ℕ) (names : List (List ℕ)) → Proof → Type 0
AreItemsIn form file names p = AreItemsBy (item_form form) file names p

abbrev pub IsRefusedIn : Form → (file : List ℕ) (names : List (List ℕ)) → ℕ → LinkWhy → Type 0
IsRefusedIn form file names number why = IsRefusedBy (item_form form) file names number why

-- the version of the text that is written
abbrev pub version_in : Form → Version
version_in form = (item_form form).version

-- What the command comes to, where the ELF file has these bytes.
abbrev pub DecompileGives : Form → (file : List ℕ) (names : List (List ℕ)) → DecompileAnswer → Type 0
DecompileGives form file names answer.OverLimit = elf_limit < length file
DecompileGives form file names (answer.Unreadable why) = (length file ≤ elf_limit) × (fault_of file ≡ Some why)
DecompileGives form file names (answer.Refused name why) = IsLoaded file × (number : ℕ) × (slice_get names number ≡ Some name) × IsRefusedIn form file names number why
DecompileGives form file names (answer.Decompiled told listed) =
    (told ≡ form) × IsLoaded file × (proof : Proof) × AreItemsIn form file names proof × (listed ≡ all_listed names proof.items)

-- The answer without the walks that show a cycle with two entries: there may be other walks, and other cycles.
abbrev pub without_walks : DecompileAnswer → DecompileAnswer
without_walks (answer.Refused name (link.Outside (TwoEntries cycle first second))) = answer.Refused name (link.Outside (TwoEntries [] [] []))
without_walks a = a

-- ---- the text that it writes

-- The text of proofs with an item for each name, where the name ELF holds a file: each item is accepted for the file, lists what it should,
-- and is exact. The answer tells of these items.
pub record IsTextFor (form : Form) (files : Contents) (elf : List ℕ) (names : List (List ℕ)) (a : Answer) (text : List ℕ) : Type 0 where
  pub file : List ℕ
  pub holds : files elf ≡ Some file
  pub loaded : IsLoaded file
  pub proof : Proof
  pub items : AreItemsIn form file names proof
  pub spelled : text ≡ text_of_proofs_in (version_in form) (proofs_of proof)
  pub told : a ≡ Decompile (answer.Decompiled form (all_listed names proof.items))
