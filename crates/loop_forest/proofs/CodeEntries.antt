-- Two entries of the code are two entries of its graph.
use Rattle.std.proofs.Common.{◌≡◌, ℕ, zero, suc, ◌+◌, ◌-◌, ◌<◌, List, length, get_or, sym, ◌∙◌, subst, arith, Bool}
use Rattle.std.specs.List.{Contains}
use Rattle.rv_words.specs.Bytes.{Bytes}
use Rattle.flow_graph.specs.Flow.{Next}
use Rattle.flow_graph.specs.Graph.{GraphOf, IsGraphOf, number}
use Rattle.flow_graph.specs.Walks.{Way, Stop, Leave}
use Rattle.flow_graph.proofs.Ways.{node_at}
use Rattle.flow_graph.proofs.NumberLemmas.{number_within}
use Rattle.flow_graph.proofs.FlowLemmas.{edge_of}
use Rattle.flow_graph.proofs.BuildLemmas.{closed_from_reach}
use Rattle.loop_forest.specs.Addresses.{GoesTo, entry_at}
use Rattle.loop_forest.specs.Cycles.{Enters, IsCycle, TwoEntries, last_of}
use Rattle.loop_forest.proofs.AddressLemmas.{entry_is}
use Rattle.loop_forest.proofs.OneEntry.{way_round}

module _ (linked : Bool) (code : Bytes) (e : ℕ) (g : GraphOf) (r : IsGraphOf linked code e g) where
  on : (a b : ℕ) → Contains g.addrs a → Next linked code a b → Contains g.addrs b
  on a b c d = closed_from_reach linked code e g.addrs r.reach a b c d

  goes : (a b : ℕ) → Contains g.addrs a → Next linked code a b → GoesTo g a b
  goes a b c d =
      let at = number_within g.addrs a c in
      record {
        from = number g.addrs a;
        to = number g.addrs b;
        edge = edge_of linked code e g r (number g.addrs a) b at.0 (subst (λ (z : ℕ). Next linked code z b) (sym at.1) d);
        at_from = at.1;
        at_to = (number_within g.addrs b (on a b c d)).1;
      }

  way_on : {P : ℕ → Type 0} {a b : ℕ} → Way (Next linked code) P a b → Contains g.addrs a → Contains g.addrs b
  way_on Stop c = c
  way_on (Leave {a = a} {c = m} p d w) c = way_on w (on a m c d)

  walk_on : (c w : List ℕ) → Enters (Next linked code) c e w → (k : ℕ) → k < length w → Contains g.addrs (get_or w k 0)
  walk_on c w t zero l = subst (λ (z : ℕ). Contains g.addrs z) (sym t.starts) (r.reach.all e Stop)
  walk_on c w t (suc k) l =
      let d : Next linked code (get_or w k 0) (get_or w (k + 1) 0) = t.linked k (omega arith) in
      let same : k + 1 ≡ suc k = omega arith in
      subst (λ (z : ℕ). Contains g.addrs (get_or w z 0)) same (on _ _ (walk_on c w t k (omega arith)) d)

  enters_back : (c w : List ℕ) → Enters (Next linked code) c e w → Enters (GoesTo g) c (entry_at g) w
  enters_back c w t = record {
    some = t.some;
    starts = t.starts ∙ sym (entry_is linked code e g r);
    linked = λ k h. goes _ _ (walk_on c w t k (omega arith)) (t.linked k h);
    apart = t.apart;
    ends = t.ends;
  }

  pub two_entries_back : TwoEntries (Next linked code) e → TwoEntries (GoesTo g) (entry_at g)
  two_entries_back t = record {
    cycle = t.cycle;
    first = t.first;
    second = t.second;
    shows = record {
      cycle_is = record {
        some = i.some;
        linked = λ k h. goes _ _ (around (get_or t.cycle k 0) (node_at t.cycle k (omega arith))) (i.linked k h);
        closed = goes _ _ (around (last_of t.cycle) (node_at t.cycle (length t.cycle - 1) (omega (arith, i.some)))) i.closed;
        different = i.different;
      };
      enters_first = enters_back t.cycle t.first t.shows.enters_first;
      enters_second = enters_back t.cycle t.second t.shows.enters_second;
      differ = t.shows.differ;
    };
  }
    where
      i : IsCycle (Next linked code) t.cycle
      i = t.shows.cycle_is

      around : (q : ℕ) → Contains t.cycle q → Contains g.addrs q
      around q c =
          let f : Enters (Next linked code) t.cycle e t.first = t.shows.enters_first in
          way_on (way_round t.cycle i (last_of t.first) q f.ends c) (walk_on t.cycle t.first f (length t.first - 1) (omega (arith, f.some)))
