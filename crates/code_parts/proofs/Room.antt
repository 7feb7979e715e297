-- The definitions of linked functions have numbers of 32 bits.
use Rattle.std.proofs.Common.{◌≡◌, ℕ, zero, suc, ◌+◌, ◌*◌, ◌^◌, ◌<◌, ◌≤◌, true, List, [], ◌∷◌, ◌++◌, map, take, length, get_or, refl, arith, subst}
use Rattle.std.specs.List.{Contains, sum_by}
use Rattle.std.proofs.lemmas.List.Sums.{sum_by-cons}
use Rattle.code_parts.specs.Functions.{IsLinkedFunction, size_of}
use Rattle.code_parts.specs.declared.linked_function.Function.{Function}
use Rattle.code_parts.specs.declared.callee.Callee.{Callee}
use Rattle.code_parts.specs.Flows.{alone}
use Rattle.code_parts.proofs.FlowSize.{parts-twice}
use Rattle.code_parts.proofs.LinkedContexts.{parts_of_all, sum-low}
use Rattle.code_parts.proofs.ListItems.{held, in-map, in-taken}
use Rattle.code_parts.proofs.Placing.{placed-more}
use Rattle.code_parts.specs.Groups.{AreSomeFunctions, HasOrderedParts, called_as}
use Rattle.code_parts.specs.inner.Placing.{ArePlaced, ArePlacedFrom}
use Rattle.code_parts.specs.declared.linked.LinkedFunction.{LinkedFunction}

sum-taken : (fs : List Function) (i : ℕ) → sum_by size_of (take i fs) ≤ sum_by size_of fs
sum-taken [] zero = omega arith
sum-taken [] (suc i) = omega arith
sum-taken (x ∷ fs) zero = omega arith
sum-taken (x ∷ fs) (suc i) =
    let rest = sum-taken fs i in
    let front = sum_by-cons size_of x (take i fs) in
    let all = sum_by-cons size_of x fs in
    omega (arith, rest, front, all)

placed-end : (base end : ℕ) (fs : List LinkedFunction) → ArePlacedFrom base end fs → end ≡ base + parts_of_all fs
placed-end base end [] h = omega (arith, h)
placed-end base end (x ∷ fs) h =
    let rest = placed-end (base + length x.parts) end fs h.1 in
    let sum = sum_by-cons (λ (f : LinkedFunction). length f.parts) x fs in
    omega (arith, rest, sum)

-- as many as the first of some functions have
pub placed-few : (fs : List Function) → AreSomeFunctions fs → (i : ℕ) (placed : List LinkedFunction) (calls : List Callee) (end : ℕ) → ArePlaced (take i fs) placed calls end → end ≤ 2048
placed-few fs some i placed calls end h =
    let all = placed-end 0 end placed h.based in
    let low = sum-low placed (λ f c. twice f c) in
    let same : sum_by size_of (map (λ f. f.function.now) placed) ≡ sum_by size_of (take i fs) = λ j. sum_by size_of (h.functions j) in
    let front = sum-taken fs i in
    let few = some.are.few in
    omega (arith, all, low, same, front, few)
  where
    linked : (f : LinkedFunction) → Contains placed f → IsLinkedFunction some.code f.function.now
    linked f c =
        held (IsLinkedFunction some.code) fs f.function.now some.are.linked
        (in-taken fs i f.function.now (subst (λ (gs : List Function). Contains gs f.function.now) h.functions (in-map (λ z. z.function.now) placed f c)))

    twice : (f : LinkedFunction) → Contains placed f → length f.parts ≤ 2 * length f.function.now.graph.addrs
    twice f c =
        parts-twice true some.code f.function.now.entry f.function.now.graph f.function.now.forest (alone f.function.now.graph f.parts) (linked f c).graph (linked f c).forest (held HasOrderedParts placed f h.parts c)

-- behind one more there are fewer than 2^32
pub behind-fits : (fs : List Function) → AreSomeFunctions fs → (i : ℕ) (xs : List LinkedFunction) (cs : List Callee) (n : ℕ) (f : LinkedFunction) (d : Function) → ArePlaced (take i fs) xs cs n → i < length fs
    → f.function.now ≡ get_or fs i d → HasOrderedParts f → f.base ≡ n → f.base + length f.parts < 2 ^ 32
behind-fits fs some i xs cs n f d h lt is parts at =
    let more = placed-more fs i xs (xs ++ f ∷ []) cs (cs ++ called_as f ∷ []) n (f.base + length f.parts) f (called_as f) d h lt is parts at refl refl refl refl in
    let few = placed-few fs some (i + 1) (xs ++ f ∷ []) (cs ++ called_as f ∷ []) (f.base + length f.parts) more in
    omega (arith, few)
