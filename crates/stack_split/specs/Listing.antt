-- What is made of a name of a file where the stack is a memory of its own.
use Rattle.std.specs.Prelude.{◌≡◌, ℕ, List, false}
use Rattle.group_text.specs.Version.{version_4}
use Rattle.frame_compose.specs.Rules.{IsExchanged}
use Rattle.flow_graph.specs.Flow.{Next}
use Rattle.flow_graph.specs.Walks.{Reaches}
use Rattle.stack_offsets.specs.SplitExact.{SplitExact, UsesSplit}
use Rattle.path_walk.specs.declared.item.Item.{Item}
use Rattle.decompiler.specs.Faults.{IsCauseAlone}
use Rattle.decompiler.specs.Listing.{IsItemBy, ItemForm}
use Rattle.claims.specs.LinkExact.{FirstReturnsIn}

-- a function that calls none, with two memories, whether or not it loads or stores, as a text of version 4
abbrev pub split_form : ItemForm
split_form = record {
  linked = false;
  Calls = λ code a b. ⊥;
  Causes = IsCauseAlone;
  Reached = λ code e. Reaches (Next false code) e;
  HasMemories = λ Uses mems. mems ≡ 2;
  Uses = UsesSplit;
  version = version_4;
  rule = IsExchanged;
  Exact = SplitExact;
  Runs = λ code e. FirstReturnsIn (UsesSplit code e);
}

abbrev pub IsSplitItemFor : List ℕ → List ℕ → Item → Type 0
IsSplitItemFor file name item = IsItemBy split_form file name item
