-- The second law of proofs: what they say of the addresses of memories. A valid triple alone doesn't say which of two memories
-- lies where: one with the memories `m0 m1` before and `m1 m0` after, and all else the same, is valid with no step at all.
use Rattle.std.specs.Prelude.{◌≡◌, ℕ, true, List, Some, map, is_some, slice_get}
use Rattle.std.specs.List.{AllZip}
use Rattle.rv_words.specs.Bytes.{Bytes}
use Rattle.word_terms.specs.Environment.{Environment}
use Rattle.word_terms.specs.Value.{mem_value}
use Rattle.tailrec_lang.specs.declared.group.Exit.{Exit}
use Rattle.tailrec_lang.specs.Tree.{DefTree, GroupTree}
use Rattle.sep_assert.specs.Tree.{AssertionTree}
use Rattle.triple_kernel.specs.Tree.{TripleTree}
use Rattle.triple_kernel.specs.Fact.{AllHold}
use Rattle.loop_rule.specs.Rule.{exit_triple}
use Rattle.verdicts.specs.Instance.{History}

-- the bytes of the assertion's memories
abbrev pub memories_of : AssertionTree → Environment → List Bytes
memories_of a e = map (λ m. mem_value m e) a.mems

-- the same addresses are present in both
abbrev pub HaveSameAddresses : Bytes → Bytes → Type 0
HaveSameAddresses m n = (a : ℕ) → is_some (m a) ≡ is_some (n a)

-- Where the facts are true, there are equally many memories before and after, and those of one place have the same addresses.
pub record KeepsAddresses (g : GroupTree) (t : TripleTree) : Type 0 where
  pub same : (e : Environment) → AllHold g e t.facts → AllZip HaveSameAddresses (memories_of t.pre e) (memories_of t.post e)

-- ---- what holds of a proof

-- P holds of the triple of each exit of the definition
abbrev pub ExitsHave : (TripleTree → Type 0) → GroupTree → ℕ → Type 0
ExitsHave P g d =
    (def : DefTree) → slice_get g.defs d ≡ Some def → (exit : ℕ) (x : Exit) → slice_get def.exits exit ≡ Some x → P (exit_triple g d def exit x)

-- P holds of each theorem, and of the triple of each exit of a closed definition
pub record AllHave (P : TripleTree → Type 0) (g : GroupTree) (h : History) : Type 0 where
  pub theorems : (k : ℕ) (t : TripleTree) → h.theorem k ≡ Some t → P t
  pub closed : (d : ℕ) → h.closed d ≡ true → ExitsHave P g d
