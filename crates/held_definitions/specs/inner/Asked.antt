-- What is known of theorems that were asked for leaves of a definition.
use Rattle.std.specs.Prelude.{◌≡◌, ◌⊎◌, ℕ, ◌<◌, ◌≤◌, List, Option, Some, IsSome, length, slice_get}
use Rattle.std.specs.List.{Contains}
use Rattle.std.specs.Ordering.{nat_cmp}
use Rattle.std.specs.BTreeMap.{BTreeMap, get}
use Rattle.rv_words.specs.Ranges.{range_bytes}
use Rattle.sep_assert.specs.Code.{IsWithin}
use Rattle.tailrec_lang.specs.Tree.{DefTree, GroupTree}
use Rattle.triple_kernel.specs.Tree.{FactTree, TripleTree}
use Rattle.triple_kernel.specs.Rules.{AreAmong}
use Rattle.loop_rule.specs.Judge.{Closing}
use Rattle.loop_rule.specs.Leaves.{at_entry, parameters}
use Rattle.held_definitions.specs.declared.asked.Found.{Found}
use Rattle.held_definitions.specs.declared.asked.Asked.{Asked}

-- the triple begins at the definition's entry, within the group's code
pub record Begins (g : GroupTree) (def : DefTree) (t : TripleTree) : Type 0 where
  pub pre : t.pre ≡ at_entry g def (parameters g)
  pub code : IsWithin (range_bytes t.code) (range_bytes g.code)

-- .. and supposes facts of the way alone
pub record LeadsOver (g : GroupTree) (def : DefTree) (way : List FactTree) (t : TripleTree) : Type 0 where
  pub begins : Begins g def t
  pub facts : AreAmong t.facts way

-- ---- the places at which facts of a theorem were found

-- not before p there is one that still has its stamp
pub record StandsFrom (stamps : List ℕ) (places : BTreeMap ℕ Found) (p : ℕ) : Type 0 where
  pub place : ℕ
  pub found : Found
  pub le : p ≤ place
  pub is : get nat_cmp places place ≡ Some found
  pub stands : slice_get stamps place ≡ Some found.stamp

-- the last one has, if there is one
pub record IsStanding (stamps : List ℕ) (places : BTreeMap ℕ Found) : Type 0 where
  pub each : (p : ℕ) (e : Found) → get nat_cmp places p ≡ Some e → StandsFrom stamps places p

-- what was found stands there
pub record IsThere (stamps : List ℕ) (way facts : List FactTree) (p : ℕ) (e : Found) : Type 0 where
  pub fact : FactTree
  pub is : slice_get facts e.fact ≡ Some fact
  pub there : slice_get way p ≡ Some fact
  pub stands : slice_get stamps p ≡ Some e.stamp

-- the fact was found at a place
pub record IsFound (places : BTreeMap ℕ Found) (facts : List FactTree) (f : FactTree) : Type 0 where
  pub place : ℕ
  pub found : Found
  pub is : get nat_cmp places place ≡ Some found
  pub fact : slice_get facts found.fact ≡ Some f

-- it is one of those of these numbers
pub record IsLeft (facts : List FactTree) (numbers : List ℕ) (f : FactTree) : Type 0 where
  pub number : ℕ
  pub is : Contains numbers number
  pub fact : slice_get facts number ≡ Some f

-- each fact was found and is there, but for those of these numbers
pub record AreFound (stamps : List ℕ) (way facts : List FactTree) (places : BTreeMap ℕ Found) (left : List ℕ) : Type 0 where
  pub there : (p : ℕ) (e : Found) → get nat_cmp places p ≡ Some e → IsThere stamps way facts p e
  pub low : (i : ℕ) → Contains left i → i < length facts
  pub all : (i : ℕ) (f : FactTree) → slice_get facts i ≡ Some f → IsFound places facts f ⊎ IsLeft facts left f

-- the numbers below that one
pub record AreUpTo (many : ℕ) (numbers : List ℕ) : Type 0 where
  pub each : (i : ℕ) → i < many → Contains numbers i
  pub low : (i : ℕ) → Contains numbers i → i < many

-- the number is that of a fact that was found
pub record IsFoundAs (places : BTreeMap ℕ Found) (i : ℕ) : Type 0 where
  pub place : ℕ
  pub found : Found
  pub is : get nat_cmp places place ≡ Some found
  pub fact : found.fact ≡ i

-- some of the places, and the facts that were found at the others
pub record IsParted (old new : BTreeMap ℕ Found) (gone : List ℕ) : Type 0 where
  pub kept : (p : ℕ) (e : Found) → get nat_cmp new p ≡ Some e → get nat_cmp old p ≡ Some e
  pub each : (p : ℕ) (e : Found) → get nat_cmp old p ≡ Some e → (get nat_cmp new p ≡ Some e) ⊎ Contains gone e.fact
  pub were : (i : ℕ) → Contains gone i → IsFoundAs old i

-- ---- what is kept of theorems

-- each fact was found; where one is still there, so are those before it
pub record HavePlaces (way : List FactTree) (k : Asked) (facts : List FactTree) (places : BTreeMap ℕ Found) : Type 0 where
  pub low : (p : ℕ) (e : Found) → get nat_cmp places p ≡ Some e → (e.stamp < k.next) × (e.fact < length facts)
  pub first : (p q : ℕ) (e d : Found) → p ≤ q → get nat_cmp places p ≡ Some e → get nat_cmp places q ≡ Some d → slice_get k.stamps q ≡ Some d.stamp → IsThere k.stamps way facts p e
  pub all : (i : ℕ) (f : FactTree) → slice_get facts i ≡ Some f → IsFound places facts f

-- .. of the theorem of that number
pub record KnowsPlaces (way : List FactTree) (number : ℕ) (k : Asked) (facts : List FactTree) : Type 0 where
  pub each : (places : BTreeMap ℕ Found) → get nat_cmp k.theorems number ≡ Some places → HavePlaces way k facts places

-- .. and it begins at the entry
pub record KnowsOf (g : GroupTree) (def : DefTree) (way : List FactTree) (number : ℕ) (k : Asked) (t : TripleTree) : Type 0 where
  pub begins : IsSome (get nat_cmp k.theorems number) → Begins g def t
  pub places : KnowsPlaces way number k t.facts

-- the places are kept of the theorem, and the last one still has its stamp
pub record HasStanding (k : Asked) (number : ℕ) : Type 0 where
  pub places : BTreeMap ℕ Found
  pub is : get nat_cmp k.theorems number ≡ Some places
  pub stands : IsStanding k.stamps places

-- what is kept of a theorem
pub record IsAsked (c : Closing) (way : List FactTree) (k : Asked) (number : ℕ) (kept : BTreeMap ℕ Found) : Type 0 where
  pub t : TripleTree
  pub is : c.theorem number ≡ Some t
  pub begins : Begins c.group c.def t
  pub places : HavePlaces way k t.facts kept

-- .. of each one; stamps are below the next
pub record AreAsked (c : Closing) (way : List FactTree) (k : Asked) : Type 0 where
  pub stamps : (i s : ℕ) → slice_get k.stamps i ≡ Some s → s < k.next
  pub each : (number : ℕ) (places : BTreeMap ℕ Found) → get nat_cmp k.theorems number ≡ Some places → IsAsked c way k number places

-- the definition that is to be closed, with its theorems
abbrev pub closing_with : GroupTree → DefTree → (ℕ → Option TripleTree) → Closing
closing_with g def theorem = record { group = g; def = def; theorem = theorem }

-- what is kept stays right, where that is the theorem of the number
pub record StaysAsked (g : GroupTree) (def : DefTree) (way : List FactTree) (number : ℕ) (t : TripleTree) (old new : Asked) : Type 0 where
  pub each : (theorem : ℕ → Option TripleTree) → theorem number ≡ Some t → AreAsked (closing_with g def theorem) way old → AreAsked (closing_with g def theorem) way new

-- .. and begins at the entry
pub record StaysFor (way : List FactTree) (number : ℕ) (t : TripleTree) (old new : Asked) : Type 0 where
  pub each : (c : Closing) → c.theorem number ≡ Some t → Begins c.group c.def t → AreAsked c way old → AreAsked c way new
