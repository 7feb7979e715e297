-- The parts of a function alone, with two memories.
use Rattle.std.proofs.Common.{◌≡◌, ℕ, ◌<◌, Bool, true, false, cond, eqb, List, [], length, get_or, sym, ap, subst, ◌∙◌, refl, arith, Some, zero-add}
use Rattle.std.specs.Prelude.{slice_get}
use Rattle.std.specs.List.{list_any}
use Rattle.rv_words.specs.Bytes.{Bytes}
use Rattle.rv_words.specs.declared.range.Range.{Range}
use Rattle.group_text.specs.declared.version.Version.TheVariants.{Four}
use Rattle.flow_graph.specs.Graph.{GraphOf, IsGraphOf}
use Rattle.loop_forest.specs.Forest.{ForestOf, IsForestOf, number_of}
use Rattle.code_parts.specs.declared.callee.Callee.{Callee}
use Rattle.code_parts.specs.declared.part.Part.{Part}
use Rattle.code_parts.specs.Bodies.{Flow, part_body}
use Rattle.code_parts.specs.Flows.{IsSetFor, Context, ContextOf, alone, flow_of, group_of, place_in, registers_of, context_of}
use Rattle.code_parts.specs.Graph.{CallsBelow, IsCode, IsMade}
use Rattle.code_parts.specs.Kept.{FlowOf, flow_in}
use Rattle.code_parts.specs.Order.{AreParts}
use Rattle.code_parts.proofs.FlowMade.{none-called, set-alone}
use Rattle.code_parts.proofs.FlowOrder.{calls-below, part-at, there-at}
use Rattle.code_parts.proofs.Contexts.{same_flow}
use Rattle.path_walk.specs.Further.{IsVersionFor}
use Rattle.path_walk.specs.Split.{split}

-- a memory of two
one-of-two : (b : Bool) → cond b 1 0 < 2
one-of-two true = omega arith
one-of-two false = omega arith

pub set-split : (g : GraphOf) (second : List ℕ) (parts : List Part) → IsSetFor g (context_of (split g second parts))
set-split g second parts =
    let set = set-alone g parts in
    record {
      rise = set.rise;
      regs = set.regs;
      uses = λ n lt e. one-of-two (list_any (λ b. eqb b (get_or g.addrs n 0)) second);
      functions = λ a. refl;
    }

-- the context, where the registers are those of the function alone
pub split_is : (g : GraphOf) (second : List ℕ) (parts qs : List Part) (regs : List ℕ) (s : FlowOf) → qs ≡ parts → regs ≡ s.context.regs → context_of s.context ≡ alone g qs →
    record { base = 0; parts = qs; regs = regs; mems = 2; second = second; functions = [] } ≡ split g second parts
split_is g second parts qs regs s are regs_are is =
    let own : regs ≡ registers_of g.instrs = regs_are ∙ ap (λ (t : Context). t.regs) is in
    λ i. record { base = 0; parts = are i; regs = own i; mems = 2; second = second; functions = [] }

-- .. and its flow
pub flow_split : (g : GraphOf) (f : ForestOf) (second : List ℕ) (parts : List Part) (s : FlowOf) (t : ContextOf) → s.graph ≡ g → s.forest ≡ f → s.context ≡ t → t ≡ split g second parts →
    flow_in s ≡ flow_of g f (context_of (split g second parts))
flow_split g f second parts s t graph forest context is = same_flow s g f (context_of (split g second parts)) graph forest (ap context_of (context ∙ is))

module _ (code : Bytes) (entry : ℕ) (g : GraphOf) (f : ForestOf) (second : List ℕ) (parts : List Part) (graph : IsGraphOf false code entry g) where
  abbrev the_flow : Flow
  the_flow = flow_of g f (context_of (split g second parts))

  -- it calls no function
  pub split-uncalled : (n : ℕ) (c : Callee) → n < length g.addrs → (flow_of g f (context_of (split g second parts))).callee n ≡ Some c → ⊥
  split-uncalled n c node e = let none = sym (none-called code entry g f parts graph n node) ∙ e in cc

  pub version-split : IsVersionFor (flow_of g f (context_of (split g second parts))) Four
  version-split = record { calls = λ n c node e. absurd (split-uncalled n c node e); crossed = λ n node is. (refl, refl) }

  pub made-split : (name : List ℕ) (ranges : List Range) → IsForestOf g f → IsCode (flow_of g f (context_of (split g second parts))) ranges →
      AreParts (flow_of g f (context_of (split g second parts))) (number_of f) parts → IsMade (flow_of g f (context_of (split g second parts))) (group_of (flow_of g f (context_of (split g second parts))) name ranges parts) parts
  made-split name ranges forest whole order = record {
    regs = refl;
    mems = refl;
    code = whole;
    defs = refl;
    listed = λ q there. ap (slice_get parts) (zero-add (place_in parts q)) ∙ there-at the_flow (number_of f) parts order q there;
    part = λ k q at. let is = part-at the_flow (number_of f) parts order k q at in (is.0, zero-add (place_in parts q) ∙ is.1);
    below = λ k q at.
        let is = part-at the_flow (number_of f) parts order k q at in
        subst (λ d. CallsBelow d (part_body the_flow q)) (zero-add (place_in parts q) ∙ is.1)
        (calls-below false code entry g f (context_of (split g second parts)) graph forest order (λ n c node e. absurd (split-uncalled n c node e)) q is.0);
    callees = λ n c node e. absurd (split-uncalled n c node e);
  }
