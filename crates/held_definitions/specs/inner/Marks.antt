-- Which theorems are marked, since it is known how their code lies in the group's own; and triples over other code.
use Rattle.std.specs.Prelude.{◌≡◌, ℕ, true, cond, List, Option, IfSome}
use Rattle.std.specs.BTreeMap.{is_at}
use Rattle.std.specs.BTreeSet.{BTreeSet, contains}
use Rattle.std.specs.Ordering.{nat_cmp}
use Rattle.rv_words.specs.Ranges.{range_bytes}
use Rattle.rv_words.specs.declared.range.Range.{Range}
use Rattle.sep_assert.specs.Code.{IsWithin}
use Rattle.word_terms.specs.declared.code.Code.{Code}
use Rattle.tailrec_lang.specs.declared.group.Group.{Group}
use Rattle.triple_kernel.specs.Tree.{TripleTree}
use Rattle.held_terms.specs.declared.held.Held.{Held}
use Rattle.held_definitions.specs.Theorems.{Theorems, held_by_number}
use Rattle.held_definitions.specs.declared.marks.Marks.{Marks}

-- each theorem whose number is in the set is so
abbrev pub AreAll : (Held → Type 0) → Theorems → BTreeSet ℕ → Type 0
AreAll P held marked = (k : ℕ) → contains nat_cmp marked k ≡ true → IfSome (held_by_number held k) P

-- it has that code
abbrev pub HasCode : List Range → Held → Type 0
HasCode code h = h.code.ranges ≡ code

-- its code lies within that
abbrev pub HasWithin : List Range → Held → Type 0
HasWithin code h = IsWithin (range_bytes h.code.ranges) (range_bytes code)

-- the marks are right of theorems, where that code is the group's own
pub record AreMarked (code : List Range) (held : Theorems) (marks : Marks) : Type 0 where
  pub own : AreAll (HasCode code) held marks.own
  pub within : AreAll (HasWithin code) held marks.within

-- both have the same code, where there are both
abbrev pub HaveSameCode : Option Held → Option Held → Type 0
HaveSameCode p q = IfSome p (λ a. IfSome q (λ b. a.code.ranges ≡ b.code.ranges))

-- the look-ups after a change at one number
abbrev pub Changes : Theorems → Theorems → ℕ → Option Held → Type 0
Changes old new k w = (q : ℕ) → held_by_number new q ≡ cond (is_at (nat_cmp k) q) w (held_by_number old q)

-- the code that is kept for theorems to share is the group's own, and the marks are right
pub record IsOwnKept (g : Group) (kept : Code) (held : Theorems) (marks : Marks) : Type 0 where
  pub code : kept.ranges ≡ g.code.ranges
  pub theorems : AreMarked g.code.ranges held marks

-- the triple over that code, by the numbers of its terms and by these
abbrev pub held_over : Code → Held → Held
held_over code h = record { facts = h.facts; pre = h.pre; code = code; post = h.post }

abbrev pub over_code : List Range → TripleTree → TripleTree
over_code code t = record { facts = t.facts; pre = t.pre; code = code; post = t.post }
