-- Why a name of a file is refused.
use Rattle.std.specs.Prelude.{ℕ, List, Ok, Err, false}
use Rattle.rv_words.specs.Bytes.{Bytes}
use Rattle.elf_image.specs.Image.{code_of_file}
use Rattle.elf_image.specs.declared.symbol.NameFault.TheVariants as name_fault
use Rattle.flow_graph.specs.declared.outside.Outside.{Outside}
use Rattle.flow_graph.specs.declared.outside.Outside.TheVariants.{NoSuch, Ambiguous, TwoEntries, ManyExits}
use Rattle.flow_graph.specs.Flow.{Next}
use Rattle.flow_graph.specs.Reach.{IsFault}
use Rattle.flow_graph.specs.Graph.{GraphOf, IsGraphOf}
use Rattle.code_parts.specs.declared.call_fault.LinkWhy.{LinkWhy}
use Rattle.code_parts.specs.declared.call_fault.LinkWhy.TheVariants as link
use Rattle.loop_forest.specs.Cycles.{ShowsTwoEntries}
use Rattle.loop_forest.specs.Forest.{IsMany}
use Rattle.decompiler.specs.Names.{StandsFor}

-- The first reason for which the function at e, alone, is outside the fragment: a fault of the code that is reached from there; where that has
-- none, a cycle with two entries and a walk to each; where there is none, a loop with too many exits.
pub data IsOutside (code : Bytes) (e : ℕ) : Outside → Type 0 where
  InCode : {why : Outside} → IsFault false code e why → IsOutside code e why
  InCycle : {cycle first second : List ℕ} (g : GraphOf) → IsGraphOf false code e g → ShowsTwoEntries (Next false code) e cycle first second
      → IsOutside code e (TwoEntries cycle first second)
  InLoop : {a : ℕ} (g : GraphOf) → IsGraphOf false code e g → IsMany g a → IsOutside code e (ManyExits a)

-- .. as one of the reasons for which functions can't be linked
abbrev pub IsCauseAlone : Bytes → ℕ → LinkWhy → Type 0
IsCauseAlone code e (link.Outside why) = IsOutside code e why
IsCauseAlone code e (link.Recursive a) = ⊥

-- The first fault of a name, by the reasons for which the function at an address is refused: that no function has the name; that functions of
-- the name have different values; else the reason of the function at its address.
pub data IsFirst (Causes : Bytes → ℕ → LinkWhy → Type 0) (file name : List ℕ) : LinkWhy → Type 0 where
  Missing : StandsFor file name (Err name_fault.NoSuch) → IsFirst Causes file name (link.Outside NoSuch)
  Doubled : {a b : ℕ} → StandsFor file name (Err (name_fault.Ambiguous a b)) → IsFirst Causes file name (link.Outside (Ambiguous a b))
  InFunction : {e : ℕ} {why : LinkWhy} → StandsFor file name (Ok e) → Causes (code_of_file file) e why → IsFirst Causes file name why
