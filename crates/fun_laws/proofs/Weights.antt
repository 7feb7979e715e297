-- Each law makes the term lighter.
use Rattle.std.proofs.Common.{◌≡◌, ℕ, zero, suc, ◌<◌, ◌≤◌, true, not, Some, refl, ap, arith}
use Rattle.std.specs.List.{AllByRecursion}
use Rattle.word_terms.specs.Tree.{WordTree, Const, Var, Bin, Extend, Load, CondTree}
use Rattle.fun_laws.specs.Laws.{Letters, Law, OfWords, OfConds, laws, law_at, is_constant, LawGives, Term, OfWord, OfMem, OfCond}
use Rattle.fun_laws.specs.inner.Steps.{GivesBy}
use Rattle.fun_laws.specs.inner.Weights.{one_const, word_weight, cond_weight}
use Rattle.fun_laws.proofs.LawLemmas.{each-at}

-- ---- laws

abbrev pub Lightens : Law → Type 0
Lightens (OfWords asks left right) = (l : Letters) → asks l ≡ true → word_weight (right l) < word_weight (left l)
Lightens (OfConds left right) = (l : Letters) → cond_weight (right l) < cond_weight (left l)

pub some : (t : WordTree) → 2 ≤ word_weight t
some (Const n) = omega arith
some (Var i) = omega arith
some (Bin op a b) = omega arith
some (Extend ext a) = omega arith
some (Load width m a) = omega arith

no_const : (t : WordTree) → not (is_constant t) ≡ true → one_const t ≡ 0
no_const (Const n) e = absurd (cc)
no_const (Var i) e = refl
no_const (Bin op a b) e = refl
no_const (Extend ext a) e = refl
no_const (Load width m a) e = refl

lighten_rows : AllByRecursion Lightens laws
lighten_rows = (
  λ l a. omega arith,
  (
    λ l a. omega arith,
    (
      λ l a. omega arith,
      (
        λ l a. omega arith,
        (
          λ l a. omega arith,
          (
            λ l a. omega arith,
            (
              λ l a. omega arith,
              (
                λ l a. omega arith,
                (
                  λ l a. omega arith,
                  (
                    λ l a. omega (arith, some l.x),
                    (
                      λ l a. omega (arith, some l.x),
                      (
                        λ l a. omega arith,
                        (
                          λ l a. omega arith,
                          (
                            λ l a. omega arith,
                            (
                              λ l a. omega arith,
                              (
                                λ l a. omega arith,
                                (
                                  λ l a. omega arith,
                                  (
                                    λ l a. omega arith,
                                    (
                                      λ l a. omega arith,
                                      (
                                        λ l a. omega arith,
                                        (
                                          λ l a. omega arith,
                                          (
                                            λ l a. omega arith,
                                            (
                                              λ l a. omega arith,
                                              (
                                                λ l a. omega (arith, no_const l.x a),
                                                (
                                                  λ l. omega arith,
                                                  (
                                                    λ l. omega arith,
                                                    (
                                                      λ l. omega arith,
                                                      (
                                                        λ l. omega arith,
                                                        (
                                                          λ l. omega arith,
                                                          (
                                                            λ l. omega arith,
                                                            (
                                                              λ l. omega arith,
                                                              tt,
                                                            ),
                                                          ),
                                                        ),
                                                      ),
                                                    ),
                                                  ),
                                                ),
                                              ),
                                            ),
                                          ),
                                        ),
                                      ),
                                    ),
                                  ),
                                ),
                              ),
                            ),
                          ),
                        ),
                      ),
                    ),
                  ),
                ),
              ),
            ),
          ),
        ),
      ),
    ),
  ),
)

lighten_number : (n : ℕ) (law : Law) → law_at n ≡ Some law → Lightens law
lighten_number zero law is = absurd (cc)
lighten_number (suc n) law is = each-at Lightens laws n law lighten_rows is

lighter : (law : Law) (t u : WordTree) → Lightens law → LawGives law (OfWord t) (OfWord u) → word_weight u < word_weight t
lighter (OfWords asks left right) t u s (l, a, p, q) = let f = ap word_weight p in let g = ap word_weight q in omega (arith, s l a, f, g)
lighter (OfConds left right) t u s g = absurd g

lighter-cond : (law : Law) (c d : CondTree) → Lightens law → LawGives law (OfCond c) (OfCond d) → cond_weight d < cond_weight c
lighter-cond (OfWords asks left right) c d s g = absurd g
lighter-cond (OfConds left right) c d s (l, p, q) = let f = ap cond_weight p in let g = ap cond_weight q in omega (arith, s l, f, g)

-- what a law gives is lighter
pub word_lighter : (n : ℕ) (t u v : WordTree) → GivesBy n (OfWord t) (OfWord u) → v ≡ u → word_weight v < word_weight t
word_lighter n t u v (law, is, g) e = let f = ap word_weight e in omega (arith, f, lighter law t u (lighten_number n law is) g)

pub cond_lighter : (n : ℕ) (c d e : CondTree) → GivesBy n (OfCond c) (OfCond d) → e ≡ d → cond_weight e < cond_weight c
cond_lighter n c d e (law, is, g) h = let f = ap cond_weight h in omega (arith, f, lighter-cond law c d (lighten_number n law is) g)

light : (law : Law) (t : WordTree) (u : Term) → Lightens law → LawGives law (OfWord t) u → 2 < word_weight t
light (OfWords asks left right) t (OfWord u) s (l, a, p, q) = let f = ap word_weight p in omega (arith, s l a, f, some (right l))
light (OfWords asks left right) t (OfMem u) s g = absurd g
light (OfWords asks left right) t (OfCond u) s g = absurd g
light (OfConds left right) t u s g = absurd g

-- no law gives anything of a constant or a variable
pub not_lightest : (n : ℕ) (t : WordTree) (u : Term) → GivesBy n (OfWord t) u → 2 < word_weight t
not_lightest n t u (law, is, g) = light law t u (lighten_number n law is) g
