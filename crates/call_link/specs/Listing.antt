-- What is made of a name of a file where functions are linked.
use Rattle.std.specs.Prelude.{ℕ, List, true}
use Rattle.rv_words.specs.Bytes.{Bytes}
use Rattle.group_text.specs.Version.{version_3}
use Rattle.frame_compose.specs.Rules.{IsSteered}
use Rattle.claims.specs.LinkExact.{LinkExact}
use Rattle.claims.specs.Turns.{InFirstMemory, RunsBack}
use Rattle.flow_graph.specs.Flow.{Next}
use Rattle.flow_graph.specs.Walks.{Reaches}
use Rattle.code_parts.specs.Calls.{CallsTo, IsFunction}
use Rattle.code_parts.specs.Causes.{IsCause}
use Rattle.path_walk.specs.declared.item.Item.{Item}
use Rattle.decompiler.specs.Listing.{HasMemory, IsItemBy, ItemForm}

-- an address that a function of e reaches
abbrev pub IsLinkedCode : Bytes → ℕ → ℕ → Type 0
IsLinkedCode code e a = (f : ℕ) × IsFunction code e f × Reaches (Next true code) f a

-- a function with all functions to which calls lead from it, as a text of version 3
abbrev pub linked_form : ItemForm
linked_form = record {
  linked = true;
  Calls = CallsTo;
  Causes = IsCause;
  Reached = IsLinkedCode;
  HasMemories = HasMemory;
  Uses = λ code e. InFirstMemory;
  version = version_3;
  rule = IsSteered;
  Exact = λ file e. LinkExact InFirstMemory file;
  Runs = λ code e. RunsBack InFirstMemory;
}

abbrev pub IsLinkedItemFor : List ℕ → List ℕ → Item → Type 0
IsLinkedItemFor file name item = IsItemBy linked_form file name item
