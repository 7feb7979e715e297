-- A list that grows and shrinks at its end.
use Rattle.std.proofs.Common.{◌≡◌, ℕ, ◌+◌, ◌<◌, min, List, [], ◌∷◌, ◌++◌, length, drop, take, sym, ap, ◌∙◌, arith, Option, Some, None}
use Rattle.std.specs.Prelude.{IfNone, option_to_list}
use Rattle.std.proofs.lemmas.List.{length-append, length-take, take-append-drop, take-append-le}
use Rattle.std.proofs.Math.Seq.{take-length}

-- what stands in front stays there
pub front-pushed : {A : Type 0} (front list new : List A) (x : A) → new ≡ list ++ x ∷ [] → take (length front) list ≡ front → take (length front) new ≡ front
front-pushed front list new x pushed before =
    let least : min (length front) (length list) ≡ length front = sym (length-take (length front) list) ∙ ap length before in
    ap (take (length front)) pushed ∙ take-append-le (length front) list (x ∷ []) (omega (arith, least)) ∙ before

-- where a list goes on with what begins as another, it begins as that one
pub front-then : {A : Type 0} (old mid new : List A) → take (length old) mid ≡ old → take (length mid) new ≡ mid → take (length old) new ≡ old
front-then old mid new first then =
    let least : min (length old) (length mid) ≡ length old = sym (length-take (length old) mid) ∙ ap length first in
    let parts : new ≡ mid ++ drop (length mid) new = sym (take-append-drop (length mid) new) ∙ (λ i. then i ++ drop (length mid) new) in
    ap (take (length old)) parts ∙ take-append-le (length old) mid (drop (length mid) new) (omega (arith, least)) ∙ first

pub front-same : {A : Type 0} (old new : List A) → new ≡ old → take (length old) new ≡ old
front-same old new same = ap (take (length old)) same ∙ take-length old

-- shortened to what it was before an item was pushed, it is that
pub front-back : {A : Type 0} (old mid new back : List A) (x : A) (n : ℕ) → mid ≡ old ++ x ∷ [] → take (length mid) new ≡ mid → n ≡ length old → back ≡ take n new → back ≡ old
front-back old mid new back x n pushed grown was shortened =
    shortened ∙ (λ i. take (was i) new) ∙ front-then old mid new (front-pushed old old mid x pushed (take-length old)) grown

module _ {A : Type 0} (n : ℕ) (old new : List A) where
  pub front-popped : (last : Option A) → old ≡ new ++ option_to_list last → IfNone last (old ≡ []) → n < length old → take n new ≡ take n old
  front-popped None items none lt = absurd (omega (arith, lt, ap length none))
  front-popped (Some x) items none lt =
      let more : length old ≡ length new + 1 = ap length items ∙ length-append new (x ∷ []) in
      sym (ap (take n) items ∙ take-append-le n new (x ∷ []) (omega (arith, lt, more)))

  pub shorter-popped : (last : Option A) → old ≡ new ++ option_to_list last → IfNone last (old ≡ []) → n < length old → length new < length old
  shorter-popped None items none lt = absurd (omega (arith, lt, ap length none))
  shorter-popped (Some x) items none lt =
      let more : length old ≡ length new + 1 = ap length items ∙ length-append new (x ∷ []) in
      omega (arith, more)
