-- Facts by the numbers that tell them apart.
use Rattle.std.specs.Prelude.{◌↔◌, ℕ, List, [], ◌∷◌, ◌++◌, length, map}
use Rattle.std.specs.List.{Contains}
use Rattle.held_terms.specs.declared.held.HeldFact.{HeldFact}
use Rattle.held_terms.specs.declared.held.HeldFact.TheVariants as held

-- the form of a fact and its numbers; of lists also how many there are
abbrev pub numbers_of : HeldFact → List ℕ
numbers_of (held.WordIs a b) = 0 ∷ a ∷ b ∷ []
numbers_of (held.MemIs a b) = 1 ∷ a ∷ b ∷ []
numbers_of (held.So c) = 2 ∷ c ∷ []
numbers_of (held.Gives def exit args results) =
    3 ∷ def ∷ exit ∷ length args.words ∷ length args.mems ∷ length results.words ∷ (args.words ++ (args.mems ++ (results.words ++ results.mems)))

-- the keys are the numbers of the facts
pub record AreListed (facts : List HeldFact) (keys : List (List ℕ)) : Type 0 where
  pub each : (k : List ℕ) → Contains keys k ↔ Contains (map numbers_of facts) k
