-- Theorems that are cited for leaves, one after the other.
use Rattle.std.proofs.Common.{◌≡◌, ℕ, zero, suc, ◌+◌, ◌<◌, ◌≤◌, List, [], ◌∷◌, ◌++◌, length, map, drop, refl, sym, ◌∙◌, arith, subst, append_assoc, Option, Some, None, ◌↔◌, inl, inr}
use Rattle.std.specs.Prelude.{slice_get}
use Rattle.std.specs.List.{AllZip, Contains}
use Rattle.std.proofs.Math.Seq.{drop-cons}
use Rattle.std.proofs.Math.ListN.{drop_of_length-le}
use Rattle.std.proofs.lemmas.List.{append-nil}
use Rattle.std.proofs.lemmas.List.Elements.{Contains-append_cases}
use Rattle.std.proofs.lemmas.Option.{get_or_from_slice_get, slice_get_within}
use Rattle.tailrec_lang.specs.Tree.{DefTree, GroupTree}
use Rattle.triple_kernel.specs.Tree.{TripleTree}
use Rattle.loop_rule.specs.Tree.{LeafTree}
use Rattle.loop_rule.specs.Rule.{IsLedTo}
use Rattle.loop_rule.specs.inner.Rule.{AreLed, AreNotLed, IsLed}

module _ (K : TripleTree → Type 0) (g : GroupTree) (def : DefTree) where
  -- ---- some leaves and others

  pub led-then : (a b : List LeafTree) (s t u : List (Option TripleTree)) → AreLed K g def a s t → AreLed K g def b t u → AreLed K g def (a ++ b) s u
  led-then a b s t u first then = record {
    row = λ more.
        let same : (a ++ b) ++ more ≡ a ++ (b ++ more) = append_assoc a b more in (
          λ h. (then.row more).0 ((first.row (b ++ more)).0 (subst (λ ls. AllZip (IsLedTo g def) ls s) same h)),
          λ h. subst (λ ls. AllZip (IsLedTo g def) ls s) (sym same) ((first.row (b ++ more)).1 ((then.row more).1 h)),
        );
    led = λ leaf c. elim (Contains-append_cases a b leaf c) [
      | inl h ↦ first.led leaf h
      | inr h ↦ then.led leaf h
    ];
  }

  pub not_led-first : (a b : List LeafTree) (s : List (Option TripleTree)) → AreNotLed g def a s → AreNotLed g def (a ++ b) s
  not_led-first a b s first = record { row = λ more h. first.row (b ++ more) (subst (λ ls. AllZip (IsLedTo g def) ls s) (append_assoc a b more) h) }

  pub not_led-then : (a b : List LeafTree) (s t : List (Option TripleTree)) → AreLed K g def a s t → AreNotLed g def b t → AreNotLed g def (a ++ b) s
  not_led-then a b s t first then = record { row = λ more h. then.row more ((first.row (b ++ more)).0 (subst (λ ls. AllZip (IsLedTo g def) ls s) (append_assoc a b more) h)) }

  -- ---- one leaf

  module _ (leaf : LeafTree) (theorem : ℕ → Option TripleTree) (cited : List ℕ) (place : ℕ) where
    from_place : (number : ℕ) → slice_get cited place ≡ Some number → drop place cited ≡ number ∷ drop (place + 1) cited
    from_place number is =
        let next : suc place ≡ place + 1 = omega arith in
        drop-cons cited place number (slice_get_within cited place number is) ∙ (λ i. get_or_from_slice_get cited place number number is i ∷ drop (next i) cited)

    pub leaf-led : (number : ℕ) → slice_get cited place ≡ Some number → IsLedTo g def leaf (theorem number) → IsLed K g def leaf
        → AreLed K g def (leaf ∷ []) (map theorem (drop place cited)) (map theorem (drop (place + 1) cited))
    leaf-led number is leads led = record {
      row = λ more. subst (λ ns. AllZip (IsLedTo g def) (leaf ∷ more) (map theorem ns) ↔ AllZip (IsLedTo g def) more (map theorem (drop (place + 1) cited))) (sym (from_place number is))
          (λ h. h.1, λ h. (leads, h));
      led = only;
    }
      where
        only : (other : LeafTree) → Contains (leaf ∷ []) other → IsLed K g def other
        only other (zero, lt, same) = subst (IsLed K g def) same led
        only other (suc k, lt, same) = absurd (omega (arith, lt))

    pub leaf-not_led : (number : ℕ) → slice_get cited place ≡ Some number → (IsLedTo g def leaf (theorem number) → ⊥) → AreNotLed g def (leaf ∷ []) (map theorem (drop place cited))
    leaf-not_led number is apart = record { row = λ more h. apart (subst (λ ns. AllZip (IsLedTo g def) (leaf ∷ more) (map theorem ns)) (from_place number is) h).0 }

  nothing_from : (cited : List ℕ) (place : ℕ) → slice_get cited place ≡ None → drop place cited ≡ []
  nothing_from [] zero is = refl
  nothing_from [] (suc place) is = refl
  nothing_from (n ∷ ns) zero is = absurd (cc)
  nothing_from (n ∷ ns) (suc place) is = nothing_from ns place is

  pub leaf-not_cited : (leaf : LeafTree) (theorem : ℕ → Option TripleTree) (cited : List ℕ) (place : ℕ) → slice_get cited place ≡ None → AreNotLed g def (leaf ∷ []) (map theorem (drop place cited))
  leaf-not_cited leaf theorem cited place is = record { row = λ more h. subst (λ ns. AllZip (IsLedTo g def) (leaf ∷ more) (map theorem ns)) (nothing_from cited place is) h }

  -- ---- all leaves

  module _ (leaves : List LeafTree) (theorem : ℕ → Option TripleTree) (cited : List ℕ) (n : ℕ) (led : AreLed K g def leaves (map theorem cited) (map theorem (drop n cited))) where
    -- and no theorem is left
    pub all-led : length cited ≤ n → AllZip (IsLedTo g def) leaves (map theorem cited)
    all-led le = subst (λ ls. AllZip (IsLedTo g def) ls (map theorem cited)) (append-nil leaves)
        ((led.row []).1 (subst (λ ns. AllZip (IsLedTo g def) [] (map theorem ns)) (sym (drop_of_length-le cited le)) tt))

    -- and a theorem is left
    pub cited-more : n < length cited → AllZip (IsLedTo g def) leaves (map theorem cited) → ⊥
    cited-more lt all =
        let number : ℕ = 0 in
        subst (λ ns. AllZip (IsLedTo g def) [] (map theorem ns)) (drop-cons cited n number lt)
        ((led.row []).0 (subst (λ ls. AllZip (IsLedTo g def) ls (map theorem cited)) (sym (append-nil leaves)) all))

  pub all-not_led : (leaves : List LeafTree) (cited : List (Option TripleTree)) → AreNotLed g def leaves cited → AllZip (IsLedTo g def) leaves cited → ⊥
  all-not_led leaves cited apart all = apart.row [] (subst (λ ls. AllZip (IsLedTo g def) ls cited) (sym (append-nil leaves)) all)
