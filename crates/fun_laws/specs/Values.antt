-- Terms of one value, wherever words are 64-bit words and memories bytes at 64-bit addresses.
use Rattle.std.specs.Prelude.{◌≡◌}
use Rattle.word_terms.specs.Environment.{Environment, IsInRange}
use Rattle.word_terms.specs.Scope.{WordInRange, MemInRange, CondInRange}
use Rattle.word_terms.specs.Value.{word_value, mem_value, cond_holds}
use Rattle.fun_laws.specs.Laws.{Term, OfWord, OfMem, OfCond}

-- constants are 64-bit words
abbrev pub InRange : Term → Type 0
InRange (OfWord t) = WordInRange t
InRange (OfMem m) = MemInRange m
InRange (OfCond c) = CondInRange c

-- of one kind and of one value
abbrev pub SameValue : Term → Term → Type 0
SameValue (OfWord t) (OfWord u) = (e : Environment) → IsInRange e → word_value t e ≡ word_value u e
SameValue (OfMem m) (OfMem n) = (e : Environment) → IsInRange e → mem_value m e ≡ mem_value n e
SameValue (OfCond c) (OfCond d) = (e : Environment) → IsInRange e → cond_holds c e ≡ cond_holds d e
SameValue _ _ = ⊥

-- from a term with such constants to one that has them too, of the same value
pub record KeepsValue (t u : Term) : Type 0 where
  pub range : InRange t → InRange u
  pub same : InRange t → SameValue t u
