-- What the decompiler finds at an address, and for a name.
use Rattle.std.specs.Prelude.{ℕ, ◌⊎◌, List, false}
use Rattle.rv_words.specs.Bytes.{Bytes}
use Rattle.elf_image.specs.declared.symbol.NameFault.{NameFault}
use Rattle.elf_image.specs.declared.symbol.NameFault.TheVariants as name_fault
use Rattle.flow_graph.specs.Graph.{GraphOf, IsGraphOf}
use Rattle.flow_graph.specs.Reach.{IsFault}
use Rattle.flow_graph.specs.declared.outside.FlowFault.{FlowFault}
use Rattle.flow_graph.specs.declared.outside.FlowFault.TheVariants.{Outside, NoMemory}
use Rattle.flow_graph.specs.declared.outside.Outside.{Outside as Fault}
use Rattle.flow_graph.specs.declared.outside.Outside.TheVariants.{NoSuch, Ambiguous, Call}
use Rattle.loop_forest.specs.Forest.{IsForestFault}
use Rattle.path_walk.specs.declared.proof.DecompileFault.{DecompileFault}
use Rattle.path_walk.specs.declared.proof.DecompileFault.TheVariants as refused
use Rattle.code_parts.specs.declared.call_fault.CallGraphFault.{CallGraphFault}
use Rattle.code_parts.specs.declared.call_fault.CallGraphFault.TheVariants as graph
use Rattle.code_parts.specs.declared.call_fault.LinkWhy.TheVariants as link
use Rattle.decompiler.specs.declared.fault.LinkFault.{LinkFault}
use Rattle.decompiler.specs.declared.fault.LinkFault.TheVariants as fault
use Rattle.decompiler.specs.Faults.{IsFirst}
use Rattle.decompiler.specs.Listing.{ItemForm}

-- why there is no function at e: a fault of the code that is reached from there, or of its graph
abbrev pub IsNoFunction : Bytes → ℕ → FlowFault → Type 0
IsNoFunction code e (Outside why) = IsFault false code e why ⊎ ((g : GraphOf) × IsGraphOf false code e g × IsForestFault g why)
IsNoFunction code e NoMemory = Unit {0}

-- .. in that form
abbrev pub IsRefusedAt : ItemForm → Bytes → ℕ → CallGraphFault → Type 0
IsRefusedAt form code e (graph.Refused why) = form.Causes code e why
IsRefusedAt form code e graph.NoMemory = Unit {0}

-- why there is no item of a name
abbrev pub IsNoItem : ItemForm → (file name : List ℕ) → CallGraphFault → Type 0
IsNoItem form file name (graph.Refused why) = IsFirst form.Causes file name why
IsNoItem form file name graph.NoMemory = Unit {0}

-- the fault that a name has where it has no address
abbrev pub outside_of : NameFault → Fault
outside_of name_fault.NoSuch = NoSuch
outside_of (name_fault.Ambiguous a b) = Ambiguous a b

-- why there is no item, as one of the reasons for linked functions
abbrev pub cause_of : FlowFault → CallGraphFault
cause_of (Outside why) = graph.Refused (link.Outside why)
cause_of NoMemory = graph.NoMemory

-- why there is no proof, where this is why there is no item of the name of that number
abbrev pub refusal : ℕ → CallGraphFault → LinkFault
refusal number (graph.Refused why) = fault.Refused number why
refusal number graph.NoMemory = fault.NoMemory

-- .. of functions each alone, of which none calls itself
abbrev pub fault_alone : LinkFault → DecompileFault
fault_alone (fault.Refused number (link.Outside why)) = refused.Refused number why
fault_alone (fault.Refused number (link.Recursive entry)) = refused.Refused number (Call entry)
fault_alone fault.NoMemory = refused.NoMemory
