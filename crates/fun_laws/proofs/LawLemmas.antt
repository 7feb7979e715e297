-- Each law gives a term of the same value.
use Rattle.std.proofs.Common.{◌≡◌, ℕ, zero, suc, List, [], ◌∷◌, Some, slice_get, refl, sym, subst, arith}
use Rattle.std.specs.List.{AllByRecursion}
use Rattle.rv_words.specs.Operation.{signed}
use Rattle.rv_words.proofs.WordLemmas.{operation_small, extension_small, sx4_again, sx4-addw, sx4-subw}
use Rattle.word_terms.specs.Tree.{WordTree, CondTree}
use Rattle.word_terms.specs.Environment.{Environment, IsInRange}
use Rattle.word_terms.specs.Scope.{WordInRange, CondInRange}
use Rattle.word_terms.specs.Value.{word_value, cond_holds}
use Rattle.word_terms.proofs.Ranges.{word_in_range}
use Rattle.fun_laws.specs.Laws.{Letters, Law, OfWords, OfConds, laws, law_at, LawGives, Term, OfWord, OfMem, OfCond}
use Rattle.fun_laws.specs.Values.{KeepsValue}
use Rattle.fun_laws.proofs.WordLaws.{add_zero, zero_add, sub_zero, or_zero, xor_zero, mul_one, and_top, and_zero, mul_zero, xor_same, sub_same, and_same, or_same, add_twice, sll_zero, srl_zero, sra_zero, addw_zero, add_turned, not_not, not_lt, not_le, not_int_lt, not_int_le}

abbrev pub SameWords : WordTree → WordTree → Type 0
SameWords t u = (e : Environment) → IsInRange e → word_value t e ≡ word_value u e

abbrev pub SameConds : CondTree → CondTree → Type 0
SameConds t u = (e : Environment) → IsInRange e → cond_holds t e ≡ cond_holds u e

abbrev pub Sound : Law → Type 0
Sound (OfWords asks left right) = (l : Letters) → WordInRange (left l) → WordInRange (right l) × SameWords (left l) (right l)
Sound (OfConds left right) = (l : Letters) → CondInRange (left l) → CondInRange (right l) × SameConds (left l) (right l)

sound_rows : AllByRecursion Sound laws
sound_rows = (
  λ l h. (h.0, λ e r. add_zero _ (word_in_range e r l.x h.0)),
  (
    λ l h. (h.1, λ e r. zero_add _ (word_in_range e r l.x h.1)),
    (
      λ l h. (h.0, λ e r. sub_zero _ (word_in_range e r l.x h.0)),
      (
        λ l h. (h.0, λ e r. or_zero (word_value l.x e)),
        (
          λ l h. (h.0, λ e r. xor_zero (word_value l.x e)),
          (
            λ l h. (h.0, λ e r. mul_one _ (word_in_range e r l.x h.0)),
            (
              λ l h. (h.0, λ e r. and_top _ (word_in_range e r l.x h.0)),
              (
                λ l h. (h.1, λ e r. and_zero (word_value l.x e)),
                (
                  λ l h. (h.1, λ e r. mul_zero (word_value l.x e)),
                  (
                    λ l h. (omega arith, λ e r. xor_same (word_value l.x e)),
                    (
                      λ l h. (omega arith, λ e r. sub_same (word_value l.x e) (word_in_range e r l.x h.0)),
                      (
                        λ l h. (h.0, λ e r. and_same (word_value l.x e)),
                        (
                          λ l h. (h.0, λ e r. or_same (word_value l.x e)),
                          (
                            λ l h. (operation_small l.op l.c l.d h.0 h.1, λ e r. refl),
                            (
                              λ l h. (extension_small l.ext l.c, λ e r. refl),
                              (
                                λ l h. ((h.0.0, omega arith), λ e r. add_twice (word_value l.x e) l.c l.d),
                                (
                                  λ l h. (h.0, λ e r. sll_zero _ (word_in_range e r l.x h.0)),
                                  (
                                    λ l h. (h.0, λ e r. srl_zero (word_value l.x e)),
                                    (
                                      λ l h. (h.0, λ e r. sra_zero _ (word_in_range e r l.x h.0)),
                                      (
                                        λ l h. (h, λ e r. sx4_again (word_value l.x e)),
                                        (
                                          λ l h. (h, λ e r. sx4-addw (word_value l.x e) (word_value l.y e)),
                                          (
                                            λ l h. (h, λ e r. sx4-subw (word_value l.x e) (word_value l.y e)),
                                            (
                                              λ l h. (h.0, λ e r. addw_zero (word_value l.x e)),
                                              (
                                                λ l h. ((h.1, h.0), λ e r. add_turned l.c (word_value l.x e)),
                                                (
                                                  λ l h. (h, λ e r. refl),
                                                  (
                                                    λ l h. (h, λ e r. not_not _),
                                                    (
                                                      λ l h. (h, λ e r. not_int_lt (signed (word_value l.x e)) (signed (word_value l.y e))),
                                                      (
                                                        λ l h. (h, λ e r. not_int_le (signed (word_value l.x e)) (signed (word_value l.y e))),
                                                        (
                                                          λ l h. (h, λ e r. not_lt (word_value l.x e) (word_value l.y e)),
                                                          (
                                                            λ l h. (h, λ e r. not_le (word_value l.x e) (word_value l.y e)),
                                                            (
                                                              λ l h. (h, λ e r. not_not _),
                                                              tt,
                                                            ),
                                                          ),
                                                        ),
                                                      ),
                                                    ),
                                                  ),
                                                ),
                                              ),
                                            ),
                                          ),
                                        ),
                                      ),
                                    ),
                                  ),
                                ),
                              ),
                            ),
                          ),
                        ),
                      ),
                    ),
                  ),
                ),
              ),
            ),
          ),
        ),
      ),
    ),
  ),
)

pub each-at : {A : Type 0} (P : A → Type 0) (xs : List A) (k : ℕ) (x : A) → AllByRecursion P xs → slice_get xs k ≡ Some x → P x
each-at P [] k x all is = absurd (cc)
each-at P (y ∷ ys) zero x all is = let e : y ≡ x = cc in subst P e all.0
each-at P (y ∷ ys) (suc k) x all is = each-at P ys k x all.1 is

pub sound : (law : Law) (t u : Term) → Sound law → LawGives law t u → KeepsValue t u
sound (OfWords asks left right) (OfWord t) (OfWord u) s (l, a, p, q) =
    subst (λ v. KeepsValue (OfWord v) (OfWord u)) (sym p) (subst (λ v. KeepsValue (OfWord (left l)) (OfWord v)) (sym q) (record { range = λ h. (s l h).0; same = λ h. (s l h).1 }))
sound (OfConds left right) (OfCond t) (OfCond u) s (l, p, q) =
    subst (λ v. KeepsValue (OfCond v) (OfCond u)) (sym p) (subst (λ v. KeepsValue (OfCond (left l)) (OfCond v)) (sym q) (record { range = λ h. (s l h).0; same = λ h. (s l h).1 }))
sound (OfWords asks left right) (OfMem m) u s g = absurd g
sound (OfWords asks left right) (OfCond c) u s g = absurd g
sound (OfWords asks left right) (OfWord t) (OfMem m) s g = absurd g
sound (OfWords asks left right) (OfWord t) (OfCond c) s g = absurd g
sound (OfConds left right) (OfWord t) u s g = absurd g
sound (OfConds left right) (OfMem m) u s g = absurd g
sound (OfConds left right) (OfCond c) (OfWord t) s g = absurd g
sound (OfConds left right) (OfCond c) (OfMem m) s g = absurd g

-- each law gives a term of the same value
pub sound_number : (n : ℕ) (law : Law) → law_at n ≡ Some law → Sound law
sound_number zero law is = absurd (cc)
sound_number (suc n) law is = each-at Sound laws n law sound_rows is
