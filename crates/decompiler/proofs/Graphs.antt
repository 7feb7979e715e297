-- What a graph and its forest hold, in terms of the code.
use Rattle.std.proofs.Common.{◌≡◌, ℕ, ◌<◌, ◌≤◌, List, [], ◌∷◌, length, get_or, Result, Ok, Option, refl, ap, subst, arith, Bool}
use Rattle.std.specs.Prelude.{option_map}
use Rattle.std.specs.List.{Contains}
use Rattle.rv_words.specs.Bytes.{Bytes}
use Rattle.rv_decode.specs.declared.instruction.Instr.{Instr}
use Rattle.rv_decode.specs.declared.instruction.Instr.TheVariants.{Ebreak}
use Rattle.flow_graph.specs.declared.outside.Outside.{Outside}
use Rattle.flow_graph.specs.Flow.{Next, look}
use Rattle.flow_graph.specs.Graph.{GraphOf, HasEdge, IsFlow, IsGraphOf, preds_of}
use Rattle.flow_graph.specs.Walks.{Reaches}
use Rattle.flow_graph.proofs.ExactLemmas.{graph_looks, preds_iff}
use Rattle.flow_graph.proofs.FlowLemmas.{is_flow}
use Rattle.flow_graph.proofs.Ways.{node_at, place_of}
use Rattle.loop_forest.specs.Loops.{IsHead}
use Rattle.loop_forest.specs.Regions.{IsAround}
use Rattle.loop_forest.specs.Cuts.{IsBase, Entry, Head, Exit, Joined, IsCut, StepsSinceCut, AtBase, After}
use Rattle.loop_forest.specs.Forest.{ForestOf, IsForestOf, incoming, place_of as cut_place, region_of, head_of}
use Rattle.loop_forest.specs.Walking.{IsWalkable}
use Rattle.loop_forest.proofs.BaseLemmas.{single}
use Rattle.loop_forest.proofs.CutLemmas.{stands_once}
use Rattle.loop_forest.proofs.RegionLaws.{around_one}
use Rattle.loop_forest.proofs.WalkLaws.{walkable}
use Rattle.decompiler.specs.Listing.{IsInstructionIn}

fine : (i j : Instr) (r s : Result Instr Outside) → r ≡ Ok i → s ≡ Ok j → r ≡ s → i ≡ j
fine i j r s p q e = cc

module _ (linked : Bool) (code : Bytes) (e : ℕ) (g : GraphOf) (graph : IsGraphOf linked code e g) where
  flow : IsFlow g
  flow = is_flow linked code e g graph

  -- the graph's instructions are those that are reached
  pub reached_node : (n : ℕ) → n < length g.addrs → IsInstructionIn linked code (Reaches (Next linked code) e) (get_or g.instrs n Ebreak)
  reached_node n lt = record {
    at = get_or g.addrs n 0;
    reached = graph.reach.reached (get_or g.addrs n 0) (node_at g.addrs n lt);
    is = graph_looks linked code e g graph n Ebreak lt;
  }

  pub node_of : (i : Instr) → IsInstructionIn linked code (Reaches (Next linked code) e) i → (n : ℕ) × (n < length g.addrs) × (get_or g.instrs n Ebreak ≡ i)
  node_of i r =
      let at = place_of g.addrs r.at (graph.reach.all r.at r.reached) in
      (at.0, at.1, fine (get_or g.instrs at.0 Ebreak) i (look linked code (get_or g.addrs at.0 0)) (look linked code r.at) (graph_looks linked code e g graph at.0 Ebreak at.1) r.is (ap (look linked code) at.2))

  pub reaches_node : (a : ℕ) → Reaches (Next linked code) e a → (n : ℕ) × (n < length g.addrs) × (get_or g.addrs n 0 ≡ a)
  reaches_node a r = place_of g.addrs a (graph.reach.all a r)

  module _ (f : ForestOf) (forest : IsForestOf g f) where
    walks : IsWalkable g f
    walks = walkable g f flow forest

    head_node : (h : ℕ) → IsHead (HasEdge g) g.entry h → h < length g.addrs
    head_node h head =
        let at = place_of f.heads h ((forest.heads h).1 head) in
        subst (λ (x : ℕ). x < length g.addrs) at.2 (walks.head at.0 at.1).0

    some_pred : (ns : List ℕ) → 2 ≤ length ns → (u : ℕ) × Contains ns u
    some_pred [] le = absurd (omega arith)
    some_pred (u ∷ ns) le = (u, (0, omega arith, refl))

    pub cut_node : (c : ℕ) → IsCut (HasEdge g) g.entry (incoming g) c → c < length g.addrs
    cut_node c (AtBase Entry) = flow.entry
    cut_node c (AtBase (Head h)) = head_node c h
    cut_node c (AtBase (Exit h x)) = flow.within x.from c x.edge
    cut_node c (AtBase (Joined two)) = (let p = some_pred (preds_of g.edges c) two in flow.within p.0 c ((preds_iff g.edges c p.0).0 p.1))
    cut_node c (After {u = u} base edge before is) = flow.within u c edge

    -- a cut has place 0, and one region
    pub cut_at : (c : ℕ) → IsCut (HasEdge g) g.entry (incoming g) c → cut_place f c ≡ 0
    cut_at c cut = stands_once (single g) c (cut_place f c) 0 (forest.places c (cut_node c cut)) cut

    pub cut_of : (c : ℕ) → c < length g.addrs → cut_place f c ≡ 0 → IsCut (HasEdge g) g.entry (incoming g) c
    cut_of c lt none = subst (StepsSinceCut (HasEdge g) (IsBase (HasEdge g) g.entry (incoming g)) c) none (forest.places c lt)

    pub region_at : (c : ℕ) (region : Option ℕ) → c < length g.addrs → IsAround (HasEdge g) g.entry c region → option_map (head_of f) (region_of f c) ≡ region
    region_at c region lt around =
        around_one (HasEdge g) g.entry (λ a b d. flow.reached a (flow.source a b d)) c (option_map (head_of f) (region_of f c)) region (forest.regions c lt) around
