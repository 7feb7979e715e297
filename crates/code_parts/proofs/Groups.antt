-- A group of all parts of a graph is well-formed.
use Rattle.std.proofs.Common.{◌≡◌, ℕ, zero, suc, List, [], ◌∷◌, map, refl, sym, ◌∙◌, subst, Some}
use Rattle.std.specs.Prelude.{slice_get}
use Rattle.tailrec_lang.specs.Tree.{GroupTree, exits_at}
use Rattle.tailrec_lang.specs.WellFormed.{DefIsWellFormed, IsWellFormed}
use Rattle.tailrec_lang.proofs.Definitions.{exits_there}
use Rattle.code_parts.specs.declared.part.Part.{Part}
use Rattle.code_parts.specs.Bodies.{Flow, exits_of, part_def}
use Rattle.code_parts.specs.Graph.{IsGraph, IsFor, IsMade}
use Rattle.code_parts.proofs.Lists.{slice-mapped}
use Rattle.code_parts.proofs.WellFormed.{part-formed}

module _ (f : Flow) (g : GroupTree) (parts : List Part) (graph : IsGraph f) (made : IsMade f g parts) where
  pub for : (d : ℕ) → IsFor f d g
  for d = record {
    regs = made.regs;
    mems = made.mems;
    code = made.code;
    has = λ q there low. record {
      def = part_def f q;
      is = (λ i. slice_get (made.defs i) (f.number q)) ∙ slice-mapped (part_def f) parts (f.number q) q (made.listed q there);
      entry = refl;
      exits = refl;
    };
    callees = λ n c node e low. made.callees n c node e;
  }

slice-unmapped : {A B : Type 0} (h : A → B) (xs : List A) (k : ℕ) (y : B) → slice_get (map h xs) k ≡ Some y → (x : A) × (slice_get xs k ≡ Some x) × (h x ≡ y)
slice-unmapped h [] k y e = absurd (cc)
slice-unmapped h (x ∷ xs) zero y e = let same : h x ≡ y = cc in (x, refl, same)
slice-unmapped h (x ∷ xs) (suc k) y e = slice-unmapped h xs k y e

-- all definitions are well-formed
pub group-formed : (f : Flow) (g : GroupTree) (parts : List Part) → IsGraph f → IsMade f g parts → IsWellFormed g
group-formed f g parts graph made d def is =
    let q = slice-unmapped (part_def f) parts d def ((λ i. slice_get (sym made.defs i) d) ∙ is) in
    let there = made.part d q.0 q.1 in
    let exits : exits_at g d ≡ exits_of f q.0 = exits_there g d def is ∙ (λ i. (sym q.2 i).exits) in
    subst (λ x. DefIsWellFormed g d x) q.2
    (part-formed f g q.0 d made.regs made.mems graph made.code (for f g parts graph made d).has (λ n c node e low. let h = made.callees n c node e in exits_there g c.def h.def h.is ∙ h.exits) exits there.0 (made.below d q.0 q.1))
