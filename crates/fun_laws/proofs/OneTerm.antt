-- A law rewrites a term at a place to one term at most.
use Rattle.std.proofs.Common.{◌≡◌, ℕ, zero, suc, List, [], ◌∷◌, Some, sym, ap, subst, ◌∙◌}
use Rattle.std.specs.List.{AllByRecursion}
use Rattle.fun_laws.specs.Laws.{Letters, Law, OfWords, OfConds, laws, law_at, LawGives, Term, OfWord, OfMem, OfCond}
use Rattle.fun_laws.specs.Places.{with_child, Rewrites}
use Rattle.fun_laws.proofs.LawLemmas.{each-at}

abbrev IsFunction : Law → Type 0
IsFunction (OfWords asks left right) = (l m : Letters) → left l ≡ left m → right l ≡ right m
IsFunction (OfConds left right) = (l m : Letters) → left l ≡ left m → right l ≡ right m

function_rows : AllByRecursion IsFunction laws
function_rows = (
  λ l m e. cc,
  (
    λ l m e. cc,
    (
      λ l m e. cc,
      (
        λ l m e. cc,
        (
          λ l m e. cc,
          (
            λ l m e. cc,
            (
              λ l m e. cc,
              (
                λ l m e. cc,
                (
                  λ l m e. cc,
                  (
                    λ l m e. cc,
                    (
                      λ l m e. cc,
                      (
                        λ l m e. cc,
                        (
                          λ l m e. cc,
                          (
                            λ l m e. cc,
                            (
                              λ l m e. cc,
                              (
                                λ l m e. cc,
                                (
                                  λ l m e. cc,
                                  (
                                    λ l m e. cc,
                                    (
                                      λ l m e. cc,
                                      (
                                        λ l m e. cc,
                                        (
                                          λ l m e. cc,
                                          (
                                            λ l m e. cc,
                                            (
                                              λ l m e. cc,
                                              (
                                                λ l m e. cc,
                                                (
                                                  λ l m e. cc,
                                                  (
                                                    λ l m e. cc,
                                                    (
                                                      λ l m e. cc,
                                                      (
                                                        λ l m e. cc,
                                                        (
                                                          λ l m e. cc,
                                                          (
                                                            λ l m e. cc,
                                                            (
                                                              λ l m e. cc,
                                                              tt,
                                                            ),
                                                          ),
                                                        ),
                                                      ),
                                                    ),
                                                  ),
                                                ),
                                              ),
                                            ),
                                          ),
                                        ),
                                      ),
                                    ),
                                  ),
                                ),
                              ),
                            ),
                          ),
                        ),
                      ),
                    ),
                  ),
                ),
              ),
            ),
          ),
        ),
      ),
    ),
  ),
)

one_given : (law : Law) (t u v : Term) → IsFunction law → LawGives law t u → LawGives law t v → u ≡ v
one_given (OfWords asks left right) (OfWord t) (OfWord u) (OfWord v) f (l, a, p, q) (m, b, r, s) = ap OfWord (q ∙ f l m (sym p ∙ r) ∙ sym s)
one_given (OfConds left right) (OfCond t) (OfCond u) (OfCond v) f (l, p, q) (m, r, s) = ap OfCond (q ∙ f l m (sym p ∙ r) ∙ sym s)
one_given (OfWords asks left right) (OfWord t) (OfWord u) (OfMem v) f g h = absurd h
one_given (OfWords asks left right) (OfWord t) (OfWord u) (OfCond v) f g h = absurd h
one_given (OfConds left right) (OfCond t) (OfCond u) (OfWord v) f g h = absurd h
one_given (OfConds left right) (OfCond t) (OfCond u) (OfMem v) f g h = absurd h
one_given (OfWords asks left right) (OfWord t) (OfMem u) v f g h = absurd g
one_given (OfWords asks left right) (OfWord t) (OfCond u) v f g h = absurd g
one_given (OfWords asks left right) (OfMem t) u v f g h = absurd g
one_given (OfWords asks left right) (OfCond t) u v f g h = absurd g
one_given (OfConds left right) (OfCond t) (OfWord u) v f g h = absurd g
one_given (OfConds left right) (OfCond t) (OfMem u) v f g h = absurd g
one_given (OfConds left right) (OfWord t) u v f g h = absurd g
one_given (OfConds left right) (OfMem t) u v f g h = absurd g

pub function_number : (n : ℕ) (law : Law) → law_at n ≡ Some law → IsFunction law
function_number zero law is = absurd (cc)
function_number (suc n) law is = each-at IsFunction laws n law function_rows is

pub one_rewritten : (law : Law) → IsFunction law → (place : List ℕ) (t u v : Term) → Rewrites law place t u → Rewrites law place t v → u ≡ v
one_rewritten law f [] t u v g h = one_given law t u v f g h
one_rewritten law f (k ∷ ks) t u v (s, x, at, r, e) (s', x', at', r', e') =
    let same : s' ≡ s = cc in
    let one = one_rewritten law f ks s x x' r (subst (λ z. Rewrites law ks z x') same r') in
    e ∙ ap (with_child t k) one ∙ sym e'
