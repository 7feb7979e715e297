-- Walks between nodes are walks between their addresses.
use Rattle.std.proofs.Common.{◌≡◌, ℕ, ◌<◌, ◌↔◌, false, length, get_or, Some, Result, Ok, refl, sym, ap, ◌∙◌, subst, arith}
use Rattle.std.specs.List.{Contains}
use Rattle.std.specs.Prelude.{slice_get}
use Rattle.std.proofs.lemmas.Option.{get_or_from_slice_get, slice_get-get_or, slice_get_within}
use Rattle.rv_words.specs.Bytes.{AreBytes, Bytes}
use Rattle.rv_decode.specs.declared.instruction.Instr.{Instr}
use Rattle.rvc.proofs.ByteLemmas.{number-small}
use Rattle.rvc.proofs.NumberLemmas.{instruction-named, number_in-is}
use Rattle.flow_graph.specs.declared.outside.Outside.{Outside}
use Rattle.flow_graph.specs.Flow.{Next, leads, length_in, look, targets}
use Rattle.flow_graph.specs.Graph.{GraphOf, IsFlow, IsGraphOf, number}
use Rattle.flow_graph.proofs.Ways.{node_at}
use Rattle.flow_graph.proofs.NumberLemmas.{different_from_rising, number_at, number_within}
use Rattle.flow_graph.proofs.FlowLemmas.{edge_is, edge_of, is_flow}
use Rattle.flow_graph.proofs.BuildLemmas.{closed_from_reach}
use Rattle.flow_graph.proofs.ExactLemmas.{graph_looks}
use Rattle.flow_graph.proofs.InstructionLemmas.{graph_stands}
use Rattle.loop_forest.proofs.AddressLemmas.{entry_is}
use Rattle.stack_offsets.specs.Offsets.{Offsets, entry_offsets, IsFollowed, AtEntry, Behind, HasOffset, IsStackAccess, LeadsIn}
use Rattle.stack_offsets.specs.inner.Settling.{IsStackNode, LeadsTo, NamesAll}

abbrev fine : Instr → Result Instr Outside
fine i = Ok i

ok_same : (i j : Instr) → fine i ≡ fine j → i ≡ j
ok_same i j h = cc

module _ (code : Bytes) (e : ℕ) (g : GraphOf) (r : IsGraphOf false code e g) where
  flow : IsFlow g
  flow = is_flow false code e g r

  abbrev addr : ℕ → ℕ
  addr n = get_or g.addrs n 0

  addr_same : (u v : ℕ) → u < length g.addrs → v < length g.addrs → addr u ≡ addr v → u ≡ v
  addr_same u v l h q =
      let d = different_from_rising g.addrs r.rising in
      sym (number_at g.addrs d u (addr u) l refl) ∙ number_at g.addrs d v (addr u) h (sym q)

  -- the instruction of a node stands at its address
  looked : (n : ℕ) (i : Instr) → n < length g.addrs → slice_get g.instrs n ≡ Some i → look false code (addr n) ≡ Ok i
  looked n i l at = graph_looks false code e g r n i l ∙ ap (λ j. Ok j) (get_or_from_slice_get g.instrs n i i at)

  found : (n : ℕ) (i : Instr) → n < length g.addrs → look false code (addr n) ≡ Ok i → slice_get g.instrs n ≡ Some i
  found n i l at =
      let same : get_or g.instrs n i ≡ i = ok_same (get_or g.instrs n i) i (sym (graph_looks false code e g r n i l) ∙ at) in
      slice_get-get_or g.instrs n i (omega (arith, flow.as_long)) ∙ ap Some same

  pub to_address : (n : ℕ) (o : Offsets) → IsFollowed (LeadsTo g) g.entry n o → IsFollowed (LeadsIn code) e (addr n) o
  to_address n o AtEntry = subst (λ (z : ℕ). IsFollowed (LeadsIn code) e z entry_offsets) (sym (entry_is false code e g r)) AtEntry
  to_address b o (Behind a b' i o' f l) =
      let before = to_address a o' f in
      let d = edge_is false code e g r a b l.1 in
      let at = looked a i d.0 l.0 in
      let there = closed_from_reach false code e g.addrs r.reach (addr a) d.1 (node_at g.addrs a d.0) d.2 in
      let q : d.1 ≡ addr b = sym (number_within g.addrs d.1 there).1 ∙ ap addr d.3 in
      Behind (addr a) (addr b) i o' before (
        at,
        subst (λ (z : ℕ). Contains (targets (addr a) (length_in code (addr a)) i) z) q
            (subst (λ (z : Result Instr _). Contains (leads (addr a) (length_in code (addr a)) z) d.1) at d.2),
      )

  pub record IsNodeWalk (a : ℕ) (o : Offsets) : Type 0 where
    pub node : ℕ
    pub within : node < length g.addrs
    pub at : addr node ≡ a
    pub walk : IsFollowed (LeadsTo g) g.entry node o

  pub to_node : (a : ℕ) (o : Offsets) → IsFollowed (LeadsIn code) e a o → IsNodeWalk a o
  to_node a o AtEntry = record { node = g.entry; within = flow.entry; at = entry_is false code e g r; walk = AtEntry }
  to_node b o (Behind a b' i o' f l) =
      let w = to_node a o' f in
      let look_at : look false code (addr w.node) ≡ Ok i = ap (look false code) w.at ∙ l.0 in
      let in_targets : Contains (targets (addr w.node) (length_in code (addr w.node)) i) b = subst (λ (z : ℕ). Contains (targets z (length_in code z) i) b) (sym w.at) l.1 in
      let d : Next false code (addr w.node) b = subst (λ (z : Result Instr _). Contains (leads (addr w.node) (length_in code (addr w.node)) z) b) (sym look_at) in_targets in
      let there = number_within g.addrs b (closed_from_reach false code e g.addrs r.reach (addr w.node) b (node_at g.addrs w.node w.within) d) in
      record {
        node = number g.addrs b;
        within = there.0;
        at = there.1;
        walk = Behind w.node (number g.addrs b) i o' w.walk (found w.node i w.within look_at, edge_of false code e g r w.node b w.within d);
      }

  pub offset_at : (n x c : ℕ) → n < length g.addrs → HasOffset (LeadsTo g) g.entry n x c ↔ HasOffset (LeadsIn code) e (addr n) x c
  offset_at n x c l = (
    λ has o f.
        let w = to_node (addr n) o f in
        has o (subst (λ (z : ℕ). IsFollowed (LeadsTo g) g.entry z o) (addr_same w.node n w.within l w.at) w.walk),
    λ has o f. has o (to_address n o f),
  )

  pub access_at : (n : ℕ) → n < length g.addrs → IsStackNode g n ↔ IsStackAccess code e (addr n)
  access_at n l = (
    λ s. record { instruction = s.instruction; is = looked n s.instruction l s.is; base = s.base; has_base = s.has_base; offset = s.offset; has_offset = (offset_at n s.base s.offset l).0 s.has_offset },
    λ s. record { instruction = s.instruction; is = found n s.instruction l s.is; base = s.base; has_base = s.has_base; offset = s.offset; has_offset = (offset_at n s.base s.offset l).1 s.has_offset },
  )

  -- decoded instructions name registers
  pub names_all : AreBytes code → NamesAll g
  names_all bytes n i at =
      let l : n < length g.addrs = omega (arith, slice_get_within g.instrs n i at, flow.as_long) in
      let stands = graph_stands false code e g n i r l at in
      let small = number-small code (addr n) stands.number bytes ((number_in-is code (addr n) stands.number).0 stands.there).0 in
      instruction-named stands.number i small stands.is
