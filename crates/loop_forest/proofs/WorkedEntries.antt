-- Worked value: a small program at 0x10000 has a cycle with two entries.
use Rattle.std.proofs.Common.{◌≡◌, ◌≢◌, ℕ, zero, suc, ◌+◌, ◌<◌, List, [], ◌∷◌, refl, sym, subst, arith, false}
use Rattle.std.specs.Prelude.{slice_index}
use Rattle.std.specs.List.{Contains}
use Rattle.flow_graph.specs.Flow.{next, Next}
use Rattle.flow_graph.proofs.WorkedGraphs.{two_entries, two_entries-0, two_entries-4, two_entries-8}
use Rattle.loop_forest.specs.Cycles.{IsCycle, Enters, ShowsTwoEntries}

steps : (a b : ℕ) (bs : List ℕ) → next false two_entries a ≡ bs → Contains bs b → Next false two_entries a b
steps a b bs e c = subst (λ (xs : List ℕ). Contains xs b) (sym e) c

step-04 : Next false two_entries 0x10000 0x10004
step-04 = steps 0x10000 0x10004 (0x10004 ∷ 0x10008 ∷ []) two_entries-0 (0, omega arith, refl)

step-08 : Next false two_entries 0x10000 0x10008
step-08 = steps 0x10000 0x10008 (0x10004 ∷ 0x10008 ∷ []) two_entries-0 (1, omega arith, refl)

step-48 : Next false two_entries 0x10004 0x10008
step-48 = steps 0x10004 0x10008 (0x10008 ∷ []) two_entries-4 (0, omega arith, refl)

step-84 : Next false two_entries 0x10008 0x10004
step-84 = steps 0x10008 0x10004 (0x1000c ∷ 0x10004 ∷ []) two_entries-8 (1, omega arith, refl)

-- its two entries: the cycle of 0x10004 and 0x10008, and two walks from 0x10000
enters : (a : ℕ) (w : ℕ) → Contains {X = ℕ} (0x10004 ∷ 0x10008 ∷ []) w → Next false two_entries a w → (Contains (0x10004 ∷ 0x10008 ∷ []) a → ⊥) → Enters (Next false two_entries) (0x10004 ∷ 0x10008 ∷ []) a (a ∷ w ∷ [])
enters a w on d out = record { some = omega arith; starts = refl; linked = linked; apart = apart; ends = on }
  where
    linked : (k : ℕ) → k + 1 < 2 → Next false two_entries (slice_index (a ∷ w ∷ []) k) (slice_index (a ∷ w ∷ []) (k + 1))
    linked zero h = d
    linked (suc k) h = absurd (omega arith)

    apart : (k : ℕ) → k + 1 < 2 → Contains (0x10004 ∷ 0x10008 ∷ []) (slice_index (a ∷ w ∷ []) k) → ⊥
    apart zero h c = out c
    apart (suc k) h c = absurd (omega arith)

outside_cycle : Contains {X = ℕ} (0x10004 ∷ 0x10008 ∷ []) 0x10000 → ⊥
outside_cycle (zero, l, e) = absurd (omega (arith, e))
outside_cycle (suc zero, l, e) = absurd (omega (arith, e))
outside_cycle (suc (suc k), l, e) = absurd (omega (arith, l))

cycle : IsCycle (Next false two_entries) (0x10004 ∷ 0x10008 ∷ [])
cycle = record {
  some = omega arith;
  linked = linked;
  closed = step-84;
  different = different;
}
  where
    linked : (k : ℕ) → k + 1 < 2 → Next false two_entries (slice_index (0x10004 ∷ 0x10008 ∷ []) k) (slice_index (0x10004 ∷ 0x10008 ∷ []) (k + 1))
    linked zero h = step-48
    linked (suc k) h = absurd (omega arith)

    different : (j k : ℕ) → j < k → k < 2 → slice_index (0x10004 ∷ 0x10008 ∷ []) j ≢ slice_index (0x10004 ∷ 0x10008 ∷ []) k
    different zero (suc zero) l h e = absurd (omega (arith, e))
    different zero zero l h e = absurd (omega arith)
    different (suc j) zero l h e = absurd (omega arith)
    different (suc j) (suc zero) l h e = absurd (omega arith)
    different j (suc (suc k)) l h e = absurd (omega arith)

-- one has two entries
pub shows : ShowsTwoEntries (Next false two_entries) 0x10000 (0x10004 ∷ 0x10008 ∷ []) (0x10000 ∷ 0x10004 ∷ []) (0x10000 ∷ 0x10008 ∷ [])
shows = record {
  cycle_is = cycle;
  enters_first = enters 0x10000 0x10004 (0, omega arith, refl) step-04 outside_cycle;
  enters_second = enters 0x10000 0x10008 (1, omega arith, refl) step-08 outside_cycle;
  differ = λ e. absurd (omega (arith, e));
}
