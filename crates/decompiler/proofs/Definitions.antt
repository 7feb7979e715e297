-- The definitions of a group of parts are those of its parts.
use Rattle.std.proofs.Common.{◌≡◌, ℕ, zero, suc, ◌<◌, false, List, [], ◌∷◌, map, length, get_or, Some, None, refl, sym, subst, ◌∙◌, arith}
use Rattle.std.specs.Prelude.{slice_get}
use Rattle.std.specs.List.{Contains}
use Rattle.std.proofs.lemmas.Option.{slice_get-get_or}
use Rattle.rv_words.specs.Bytes.{Bytes}
use Rattle.rv_decode.specs.declared.instruction.Instr.TheVariants.{Ebreak}
use Rattle.tailrec_lang.specs.Tree.{DefTree, GroupTree}
use Rattle.flow_graph.specs.Flow.{called_by}
use Rattle.flow_graph.specs.Graph.{GraphOf, IsGraphOf}
use Rattle.flow_graph.specs.Walks.{Reaches, Leave, Stop}
use Rattle.flow_graph.proofs.FlowLemmas.{is_flow}
use Rattle.flow_graph.proofs.InstructionLemmas.{graph_stands}
use Rattle.loop_forest.specs.Forest.{ForestOf, IsForestOf, number_of}
use Rattle.code_parts.specs.declared.part.Part.{Part}
use Rattle.code_parts.specs.Bodies.{Flow, part_def}
use Rattle.code_parts.specs.Flows.{Context, flow_of}
use Rattle.code_parts.specs.Members.{Member, callee_at}
use Rattle.code_parts.specs.Order.{AreParts}
use Rattle.code_parts.proofs.FlowMade.{uncalled-of}
use Rattle.code_parts.proofs.FlowOrder.{part-at}
use Rattle.decompiler.specs.Listing.{AreDefsOf, AreEntries, HasDefs, HaveDefs, IsMemberOf}
use Rattle.decompiler.proofs.PartsListed.{append_none}

-- parts that are ordered stand once
pub parts-once : (f : Flow) (left : ℕ → ℕ) (parts : List Part) → AreParts f left parts → (j k : ℕ) (p : Part) → slice_get parts j ≡ Some p → slice_get parts k ≡ Some p → j ≡ k
parts-once f left parts order j k p a b = sym (part-at f left parts order j p a).1 ∙ (part-at f left parts order k p b).1

-- an instruction of a function alone calls nothing
uncalled : (code : Bytes) (e : ℕ) (g : GraphOf) → IsGraphOf false code e g → (n : ℕ) → n < length g.addrs → called_by (get_or g.addrs n 0) (get_or g.instrs n Ebreak) ≡ None
uncalled code e g graph n node =
    let long = (is_flow false code e g graph).as_long in
    let stands = graph_stands false code e g n (get_or g.instrs n Ebreak) graph node (slice_get-get_or g.instrs n Ebreak (omega (arith, node, long))) in
    uncalled-of (get_or g.addrs n 0) (get_or g.instrs n Ebreak) stands.fine

pub defs_alone : (Uses : ℕ → ℕ → Type 0) (code : Bytes) (e : ℕ) (g : GraphOf) (f : ForestOf) (s : Context) (group : GroupTree) → IsGraphOf false code e g → IsForestOf g f
    → AreParts (flow_of g f s) (number_of f) s.parts → s.base ≡ 0 → s.regs ≡ group.regs → s.mems ≡ group.mems → ((n : ℕ) → n < length g.addrs → Uses (get_or g.addrs n 0) (s.uses (get_or g.addrs n 0)))
    → group.defs ≡ map (part_def (flow_of g f s)) s.parts → AreDefsOf false Uses code (record { at = e; graph = g; forest = f; context = s } ∷ []) group
defs_alone Uses code e g f s group graph forest order base regs mems uses defs = all
  where
    own : Member
    own = record { at = e; graph = g; forest = f; context = s }

    only : (m : Member) → Contains (own ∷ []) m → own ≡ m
    only m (zero, lt, at) = at
    only m (suc k, lt, at) = absurd (omega (arith, lt))

    member : IsMemberOf false Uses code group own
    member = record { graph = graph; forest = forest; parts = order.all; once = parts-once (flow_of g f s) (number_of f) s.parts order; regs = regs; mems = mems; uses = uses }

    all : AreDefsOf false Uses code (own ∷ []) group
    all = record {
      each = λ m c. subst (IsMemberOf false Uses code group) (only m c) member;
      based = (base, tt);
      called = λ m n t c. subst (λ (m : Member). n < length m.graph.addrs → called_by (get_or m.graph.addrs n 0) (get_or m.graph.instrs n Ebreak) ≡ Some t
          → (y : Member) × Contains (own ∷ []) y × (y.at ≡ t) × (m.context.functions t ≡ callee_at y)) (only m c) (λ node calls. absurd (let none = sym (uncalled code e g graph n node) ∙ calls in cc));
      defs = defs ∙ sym (append_none (map (part_def (flow_of g f s)) s.parts));
    }

-- ---- a function alone

-- .. is the only one of its functions
pub entry-alone : (e : ℕ) → AreEntries (λ a b. ⊥) e (e ∷ [])
entry-alone e = record {
  functions = record {
    reached = λ x c. subst (λ (y : ℕ). Reaches (λ a b. ⊥) e y) (only x c) Stop;
    all = λ x way. subst (λ (y : ℕ). Contains (e ∷ []) y) (stays x way) (0, omega arith, refl);
    different = λ j k lt within. absurd (omega (arith, lt, within));
  };
  before = λ j k low high calls. absurd calls;
  last = refl;
}
  where
    only : (x : ℕ) → Contains (e ∷ []) x → e ≡ x
    only x (zero, lt, at) = at
    only x (suc k, lt, at) = absurd (omega (arith, lt))

    stays : (x : ℕ) → Reaches (λ a b. ⊥) e x → e ≡ x
    stays _ Stop = refl
    stays x (Leave any calls way) = absurd calls

-- .. and has one definition for each of its parts
pub defs-of-one : (m : Member) (defs : List DefTree) → HasDefs m.graph defs → HaveDefs (m ∷ []) defs
defs-of-one m defs has = record { rows = defs ∷ []; each = (has, tt); all = sym (append_none defs) }
