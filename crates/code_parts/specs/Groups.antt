-- The functions that calls lead to, as one group.
use Rattle.std.specs.Prelude.{◌≡◌, ℕ, ◌+◌, ◌<◌, if◌then◌else◌, Bool, Some, None, List, [], map, length}
use Rattle.std.specs.List.{All, Contains, list_any}
use Rattle.rv_words.specs.Bytes.{Bytes, AreBytes}
use Rattle.rv_words.specs.declared.range.Range.{Range}
use Rattle.rv_words.specs.Ranges.{AreRanges, range_bytes}
use Rattle.rv_decode.specs.Registers.{registers_where}
use Rattle.sep_assert.specs.Code.{IsWithin}
use Rattle.tailrec_lang.specs.Tree.{GroupTree}
use Rattle.instr_axioms.specs.Axiom.{is_own}
use Rattle.instr_axioms.specs.Terms.{has_memory}
use Rattle.loop_forest.specs.Forest.{number_of}
use Rattle.code_parts.specs.Functions.{AreFunctions}
use Rattle.code_parts.specs.declared.linked_function.Function.{Function}
use Rattle.code_parts.specs.declared.callee.Callee.{Callee}
use Rattle.code_parts.specs.declared.part.Part.TheVariants.{Rest}
use Rattle.code_parts.specs.Graph.{is_jump_through}
use Rattle.code_parts.specs.Flows.{ContextOf, alone, flow_of, node_code, place_in, context_of}
use Rattle.code_parts.specs.Members.{AreBased, Member, defs_of}
use Rattle.code_parts.specs.Order.{AreParts}
use Rattle.code_parts.specs.declared.linked.LinkedFunction.{LinkedFunction}
use Rattle.code_parts.specs.declared.linked.LinkedGroup.{LinkedGroup}

-- the functions of some entry of some code
pub record AreSomeFunctions (fs : List Function) : Type 0 where
  pub code : Bytes
  pub entry : ℕ
  pub bytes : AreBytes code
  pub are : AreFunctions code entry fs

-- ---- what they have together

-- the register stands in an instruction of one of these functions
abbrev pub is_register_of : List Function → ℕ → Bool
is_register_of fs r = list_any (λ f. list_any (λ i. is_own i r) f.graph.instrs) fs

-- an instruction of one of these functions loads or stores
abbrev pub load_or_store : List Function → Bool
load_or_store fs = list_any (λ f. list_any has_memory f.graph.instrs) fs

-- Exactly the bytes of these functions' instructions, in order. Functions may share instructions, or bytes of them.
pub record AreCodeOfAll (fs : List Function) (ranges : List Range) : Type 0 where
  pub order : AreRanges ranges
  pub each : (f : Function) (n : ℕ) → Contains fs f → n < length f.graph.addrs → IsWithin (node_code f.graph n) (range_bytes ranges)
  pub only : (a b : ℕ) → range_bytes ranges a ≡ Some b → (f : Function) × Contains fs f × ((n : ℕ) × (n < length f.graph.addrs) × (node_code f.graph n a ≡ Some b))

-- ---- what each of them has

-- its parts in their order
abbrev pub HasOrderedParts : LinkedFunction → Type 0
HasOrderedParts f = AreParts (flow_of f.function.now.graph f.function.now.forest (alone f.function.now.graph f.parts)) (number_of f.function.now.forest) f.parts

-- how it is called: by the rest of the whole from its entry on
abbrev pub called_as : LinkedFunction → Callee
called_as f = record {
  entry = f.function.now.entry;
  def = f.base + place_in f.parts (Rest None f.function.now.graph.entry);
  returns = list_any is_jump_through f.function.now.graph.instrs;
}

-- what its flow has beside its graph
abbrev pub context_in : LinkedGroup → LinkedFunction → ContextOf
context_in s f = record { base = f.base; parts = f.parts; regs = s.regs; mems = s.mems; second = []; functions = s.callees }

abbrev pub member_in : LinkedGroup → LinkedFunction → Member
member_in s f = record { at = f.function.now.entry; graph = f.function.now.graph; forest = f.function.now.forest; context = context_of (context_in s f) }

-- ---- the group

abbrev pub functions_of : LinkedGroup → List Function
functions_of s = map (λ f. f.function.now) s.functions

abbrev pub members_of : LinkedGroup → List Member
members_of s = map (member_in s) s.functions

-- the definitions of all parts stand one behind the other, and the registers, the memories and the code are those of all functions
pub record IsLinkedGroup (s : LinkedGroup) : Type 0 where
  pub parts : All HasOrderedParts s.functions
  pub based : AreBased 0 (members_of s)
  pub callees : s.callees ≡ map called_as s.functions
  pub regs : s.regs ≡ registers_where (is_register_of (functions_of s))
  pub mems : s.mems ≡ (if load_or_store (functions_of s) then 1 else 0)
  pub code : AreCodeOfAll (functions_of s) s.code.ranges

-- the group of that name
abbrev pub group_in : LinkedGroup → List ℕ → GroupTree
group_in s name = record { name = name; regs = s.regs; mems = s.mems; code = s.code.ranges; defs = defs_of (members_of s) }
