-- Functions with their parts, one behind the other.
use Rattle.std.specs.Prelude.{◌≡◌, ℕ, ◌+◌, List, [], ◌∷◌, map, length}
use Rattle.std.specs.List.{All}
use Rattle.code_parts.specs.declared.linked_function.Function.{Function}
use Rattle.code_parts.specs.declared.callee.Callee.{Callee}
use Rattle.code_parts.specs.Groups.{HasOrderedParts, called_as}
use Rattle.code_parts.specs.declared.linked.LinkedFunction.{LinkedFunction}

-- as many definitions stand before a function's as those before it have, and `base` more; behind all of them stand `end`
abbrev pub ArePlacedFrom : ℕ → ℕ → List LinkedFunction → Type 0
ArePlacedFrom base end [] = base ≡ end
ArePlacedFrom base end (f ∷ fs) = (f.base ≡ base) × ArePlacedFrom (base + length f.parts) end fs

-- these functions, each with its parts, and how they are called; behind them stand so many definitions
pub record ArePlaced (fs : List Function) (placed : List LinkedFunction) (callees : List Callee) (end : ℕ) : Type 0 where
  pub functions : map (λ f. f.function.now) placed ≡ fs
  pub parts : All HasOrderedParts placed
  pub based : ArePlacedFrom 0 end placed
  pub calls : callees ≡ map called_as placed
