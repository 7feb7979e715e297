-- Triples that a rule makes of theorems and of what a line states.
use Rattle.std.specs.Prelude.{◌≡◌, ◌++◌, ◌+◌, ◌<◌, ◌≤◌, ◌⊎◌, ℕ, List, [], ◌∷◌, map, Option, Some, None, length, slice_index_or}
use Rattle.std.specs.List.{Contains}
use Rattle.rv_words.specs.declared.range.Range.{Range}
use Rattle.triple_kernel.specs.Tree.{FactTree, TripleTree}
use Rattle.frame_compose.specs.Rules.{AreMissing}
use Rattle.term_arena.specs.declared.node.Node.{Node}
use Rattle.held_terms.specs.declared.held.Held.{Held}
use Rattle.held_terms.specs.declared.held.HeldFact.{HeldFact}
use Rattle.held_terms.specs.declared.held.HeldSide.{HeldSide}
use Rattle.held_terms.specs.Held.{fact_of, triple_of}
use Rattle.proof_text.specs.LineLimits.{IsTriple}
use Rattle.derived_triples.specs.Fine.{IsFineHeld}

-- the triple that was made is within the limits of version 1 and has P; or no triple within them has
abbrev pub MadeIf : List Node → (TripleTree → Type 0) → Option Held → Type 0
MadeIf ns P (Some h) = IsFineHeld ns h × P (triple_of ns h)
MadeIf ns P None = (t : TripleTree) → IsTriple t → P t → ⊥

-- the triple has those parts
abbrev pub HasParts : Held → List HeldFact → HeldSide → List Range → HeldSide → Type 0
HasParts t facts pre code post = (t.facts ≡ facts) × (t.pre ≡ pre) × (t.code.ranges ≡ code) × (t.post ≡ post)

-- all facts are the first ones and then those of the second that aren't among them, in order
abbrev pub AreFactsOfBoth : List FactTree → List FactTree → List FactTree → Type 0
AreFactsOfBoth first second all = (more : List FactTree) × (all ≡ first ++ more) × AreMissing first second more

-- a register's number
abbrev pub number : ℕ × ℕ → ℕ
number r = r.0

-- there is a register of xs at i, and its number is below that of ys at j, if there is one
pub record ComesFirst (xs : List (ℕ × ℕ)) (i : ℕ) (ys : List (ℕ × ℕ)) (j : ℕ) : Type 0 where
  pub within : i < length xs
  pub before : (x y : ℕ × ℕ) → j < length ys → (slice_index_or xs i x).0 + 1 ≤ (slice_index_or ys j y).0

-- one more fact of the second ones: it is known, or it is added
abbrev pub AddedIfNew : List Node → List HeldFact → HeldFact → List HeldFact → List HeldFact → Type 0
AddedIfNew ns first f old new = (Contains (map (fact_of ns) first) (fact_of ns f) × (new ≡ old)) ⊎ ((Contains (map (fact_of ns) first) (fact_of ns f) → ⊥) × (new ≡ old ++ f ∷ []))
