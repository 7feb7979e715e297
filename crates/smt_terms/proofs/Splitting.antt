-- The parts of bindings and literals.
use Rattle.std.proofs.Common.{◌≡◌, ℕ, zero, suc, ◌%◌, ◌^◌, ◌<◌, ◌≤◌, min, Bool, true, false, cond, List, [], ◌∷◌, length, map, Option, Some, None, option_map, refl, sym, ap, ◌∙◌, ⊎_elim, arith}
use Rattle.std.specs.Prelude.{nat_lt, nat_le, ◌&&◌, MatchOption}
use Rattle.std.proofs.lemmas.Bool.{le-leb, lt-leb, cases_lt}
use Rattle.std.proofs.Math.Nat.{min-eq_left, min-eq_right}
use Rattle.smt_terms.specs.declared.sort.Sort.{Sort}
use Rattle.smt_terms.specs.declared.sort.Sort.TheVariants as sort
use Rattle.smt_terms.specs.declared.tree.Tree.{Tree}
use Rattle.smt_terms.specs.Expression.{Expr, Atom, Node, Exprs, End, Then, exprs}
use Rattle.smt_terms.specs.Operators.{Bits, is_width, vector_sort}
use Rattle.smt_terms.specs.Meaning.{literal_of}
use Rattle.smt_terms.specs.Sorts.{Rules, Sorts, literal_sort, literal_sort_of, binding_sort}
use Rattle.smt_terms.specs.Views.{expr}
use Rattle.smt_terms.specs.declared.datum.Datum.{Datum}
use Rattle.smt_terms.specs.declared.datum.Datum.TheVariants as datum
use Rattle.smt_terms.specs.declared.vector.Vector.{Vector}
use Rattle.smt_terms.specs.inner.Datum.{StandsFor}
use Rattle.smt_terms.proofs.ReadNumerals.{told-small}
use Rattle.smt_terms.proofs.Vectors.{low_wrapped}

module _ (fs : Rules) (s : Sorts) where
  -- a binding's list with more than one pair
  more-pairs : (e k : Expr) (ks es : Exprs) → binding_sort fs s (Then (Node (Then e (Then k ks))) es) ≡ None
  more-pairs (Atom a) k ks es = refl
  more-pairs (Node End) k ks es = refl
  more-pairs (Node (Then (Node n) u)) k ks es = refl
  more-pairs (Node (Then (Atom y) End)) k ks es = refl
  more-pairs (Node (Then (Atom y) (Then e (Then f fs)))) k ks es = refl
  more-pairs (Node (Then (Atom y) (Then e End))) k ks es = refl

  pub no_pair : (xs : List Tree) (body : Expr) → (length xs ≡ 1 → ⊥) → binding_sort fs s (Then (Node (exprs (map expr xs))) (Then body End)) ≡ None
  no_pair [] body h = refl
  no_pair (x ∷ []) body h = absurd (h refl)
  no_pair (x ∷ y ∷ xs) body h = more-pairs (expr x) (expr y) (exprs (map expr xs)) (Then body End)

  -- a pair of other than two
  one-alone : (e : Expr) (es : Exprs) → binding_sort fs s (Then (Node (Then (Node (Then e End)) End)) es) ≡ None
  one-alone (Atom a) es = refl
  one-alone (Node n) es = refl

  three-bound : (e f g : Expr) (gs es : Exprs) → binding_sort fs s (Then (Node (Then (Node (Then e (Then f (Then g gs)))) End)) es) ≡ None
  three-bound (Atom a) f g gs es = refl
  three-bound (Node n) f g gs es = refl

  pub no_two : (xs : List Tree) (body : Expr) → (length xs ≡ 2 → ⊥) → binding_sort fs s (Then (Node (Then (Node (exprs (map expr xs))) End)) (Then body End)) ≡ None
  no_two [] body h = refl
  no_two (x ∷ []) body h = one-alone (expr x) (Then body End)
  no_two (x ∷ y ∷ []) body h = absurd (h refl)
  no_two (x ∷ y ∷ z ∷ xs) body h = three-bound (expr x) (expr y) (expr z) (exprs (map expr xs)) (Then body End)

  -- a binding without a body, or with more than one
  abbrev HasNoBody : Exprs → Type 0
  HasNoBody es = (e : Expr) → binding_sort fs s (Then e es) ≡ None

  no-end : HasNoBody End
  no-end (Atom a) = refl
  no-end (Node End) = refl
  no-end (Node (Then (Atom a) t)) = refl
  no-end (Node (Then (Node End) t)) = refl
  no-end (Node (Then (Node (Then (Node n) u)) t)) = refl
  no-end (Node (Then (Node (Then (Atom y) End)) t)) = refl
  no-end (Node (Then (Node (Then (Atom y) (Then e (Then k ks)))) t)) = refl
  no-end (Node (Then (Node (Then (Atom y) (Then e End))) (Then k ks))) = refl
  no-end (Node (Then (Node (Then (Atom y) (Then e End))) End)) = refl

  two-ends : (f g : Expr) (gs : Exprs) → HasNoBody (Then f (Then g gs))
  two-ends f g gs (Atom a) = refl
  two-ends f g gs (Node End) = refl
  two-ends f g gs (Node (Then (Atom a) t)) = refl
  two-ends f g gs (Node (Then (Node End) t)) = refl
  two-ends f g gs (Node (Then (Node (Then (Node n) u)) t)) = refl
  two-ends f g gs (Node (Then (Node (Then (Atom y) End)) t)) = refl
  two-ends f g gs (Node (Then (Node (Then (Atom y) (Then e (Then k ks)))) t)) = refl
  two-ends f g gs (Node (Then (Node (Then (Atom y) (Then e End))) (Then k ks))) = refl
  two-ends f g gs (Node (Then (Node (Then (Atom y) (Then e End))) End)) = refl

  pub no_body : (xs : List Tree) → (length xs ≡ 2 → ⊥) → binding_sort fs s (exprs (map expr xs)) ≡ None
  no_body [] h = refl
  no_body (x ∷ []) h = no-end (expr x)
  no_body (x ∷ y ∷ []) h = absurd (h refl)
  no_body (x ∷ y ∷ z ∷ xs) h = two-ends (expr y) (expr z) (exprs (map expr xs)) (expr x)

-- ---- literals

lone : (e : Expr) → literal_sort (Then e End) ≡ None
lone (Atom a) = refl
lone (Node n) = refl

many : (e f g : Expr) (gs : Exprs) → literal_sort (Then e (Then f (Then g gs))) ≡ None
many (Node n) f g gs = refl
many (Atom a) (Node n) g gs = refl
many (Atom a) (Atom b) g gs = refl

pub no_literal : (xs : List Tree) → (length xs ≡ 2 → ⊥) → literal_sort (exprs (map expr xs)) ≡ None
no_literal [] h = refl
no_literal (x ∷ []) h = lone (expr x)
no_literal (x ∷ y ∷ []) h = absurd (h refl)
no_literal (x ∷ y ∷ z ∷ xs) h = many (expr x) (expr y) (expr z) (exprs (map expr xs))

is-width : (w : ℕ) → 0 < w → w ≤ 128 → is_width w ≡ true
is-width w h g = let one : 1 ≤ w = omega arith in λ j. le-leb 1 w one j && le-leb w 128 g j

has-number : (o r : Option ℕ) (n : ℕ) → r ≡ option_map (λ (n : ℕ). n % 2 ^ 128) o → r ≡ Some n → (k : ℕ) × (o ≡ Some k) × (n ≡ k % 2 ^ 128)
has-number None r n e h = absurd (cc)
has-number (Some k) r n e h = let same : Some n ≡ Some (k % 2 ^ 128) = sym h ∙ e in (k, refl, (cc))

pub literal_stands : (o p r q : Option ℕ) (n w : ℕ) (v : Vector) → r ≡ option_map (λ (n : ℕ). n % 2 ^ 128) o → r ≡ Some n → q ≡ option_map (λ (n : ℕ). min n 129) p → q ≡ Some w → 0 < w → w ≤ 128
    → v.width ≡ w → v.number ≡ n % 2 ^ w → StandsFor (literal_sort_of o p) (literal_of o p) (datum.Bits v)
literal_stands o p r q n w v e f g h some most width number s t =
    let i = has-number o r n e f in
    let j = told-small p q w g h in
    let small : w ≡ j.0 = least j.0 j.2 in
    let wide : is_width w ≡ true = is-width w some most in
    let sorts : vector_sort j.0 ≡ Some (sort.Bits w) = (λ k. vector_sort (sym small k)) ∙ (λ k. cond (wide k) (Some (sort.Bits w)) None) in
    let same : Some (sort.Bits w) ≡ Some s = sym sorts ∙ within (nat_lt i.0 (2 ^ j.0)) (vector_sort j.0) s (sym (λ k. literal_sort_of (i.1 k) (j.1 k)) ∙ t) in
    let is : sort.Bits w ≡ s = cc in
    let low : n % 2 ^ w ≡ i.0 % 2 ^ w = ap (λ (k : ℕ). k % 2 ^ w) i.2 ∙ low_wrapped i.0 w wide in (
      ap sort.Bits width ∙ is,
      (λ k. Bits (width k) (number k)) ∙ (λ k. Bits w (low k)) ∙ (λ k. Bits (small k) (i.0 % 2 ^ small k)) ∙ sym (λ k. literal_of (i.1 k) (j.1 k)),
    )
  where
    within : (b : Bool) (q : Option Sort) (r : Sort) → cond b q None ≡ Some r → q ≡ Some r
    within true q r h = h
    within false q r h = absurd (cc)

    least : (m : ℕ) → w ≡ min m 129 → w ≡ m
    least m e = ⊎_elim (λ lt. let le : 129 ≤ m = omega arith in let big : w ≡ 129 = e ∙ min-eq_right le in absurd (omega arith)) (λ le. let le2 : m ≤ 129 = omega arith in e ∙ min-eq_left le2) (cases_lt 128 m)

-- ---- literals without a width or a numeral

never : (a b : Bool) → b ≡ false → (a && b) ≡ false
never true b h = h
never false b h = refl

no-width : (b : Bool) (m : ℕ) (s : Sort) → vector_sort m ≡ None → cond b (vector_sort m) None ≡ Some s → ⊥
no-width true m s e h = let same : None ≡ Some s = sym e ∙ h in absurd (cc)
no-width false m s e h = absurd (cc)

far-sort : (m w : ℕ) → min m 129 ≡ w → 128 < w → vector_sort m ≡ None
far-sort m w e far =
    let long : 128 < m = ⊎_elim (λ lt. lt) (λ le. let same : m ≡ w = sym (min-eq_left (omega (arith, le))) ∙ e in omega (arith, same, far)) (cases_lt 128 m) in
    λ j. cond (never (nat_le 1 m) (nat_le m 128) (lt-leb m 128 long) j) (Some (sort.Bits m)) None

none-sort : (m w : ℕ) → min m 129 ≡ w → w ≤ 0 → vector_sort m ≡ None
none-sort zero w e le = refl
none-sort (suc m) w e le =
    absurd (⊎_elim (λ lt. let big : min (suc m) 129 ≡ 129 = min-eq_right (omega (arith, lt)) in omega (arith, big, e, le)) (λ few. let same : min (suc m) 129 ≡ suc m = min-eq_left (omega (arith, few)) in omega (arith, same, e, le)) (cases_lt 128 (suc m)))

unsorted-stands : (o p q : Option ℕ) (w : ℕ) (d : Datum) → q ≡ option_map (λ (n : ℕ). min n 129) p → q ≡ Some w → ((m : ℕ) → min m 129 ≡ w → vector_sort m ≡ None) → StandsFor (literal_sort_of o p) (literal_of o p) d
unsorted-stands None None q w d e h none s t = absurd (cc)
unsorted-stands None (Some m) q w d e h none s t = absurd (cc)
unsorted-stands (Some n) None q w d e h none s t = absurd (cc)
unsorted-stands (Some n) (Some m) q w d e h none s t =
    let same : Some (min m 129) ≡ Some w = sym e ∙ h in
    let is : min m 129 ≡ w = cc in
    absurd (no-width (nat_lt n (2 ^ m)) m s (none m is) t)

pub far_stands : (o p q : Option ℕ) (w : ℕ) (d : Datum) → q ≡ option_map (λ (n : ℕ). min n 129) p → q ≡ Some w → 128 < w → StandsFor (literal_sort_of o p) (literal_of o p) d
far_stands o p q w d e h far = unsorted-stands o p q w d e h (λ m is. far-sort m w is far)

pub none_stands : (o p q : Option ℕ) (w : ℕ) (d : Datum) → q ≡ option_map (λ (n : ℕ). min n 129) p → q ≡ Some w → w ≤ 0 → StandsFor (literal_sort_of o p) (literal_of o p) d
none_stands o p q w d e h le = unsorted-stands o p q w d e h (λ m is. none-sort m w is le)

pub no_numeral_stands : (o p q : Option ℕ) (d : Datum) → q ≡ option_map (λ (n : ℕ). min n 129) p → q ≡ None → StandsFor (literal_sort_of o p) (literal_of o p) d
no_numeral_stands None None q d e h s t = absurd (cc)
no_numeral_stands None (Some m) q d e h s t = absurd (cc)
no_numeral_stands (Some n) None q d e h s t = absurd (cc)
no_numeral_stands (Some n) (Some m) q d e h s t = let same : Some (min m 129) ≡ None = sym e ∙ h in absurd (cc)

pub match-weaker : {T : Type 0} (o : Option T) (A B : Type 0) (P Q : T → Type 0) → (A → B) → ((x : T) → P x → Q x) → MatchOption o A P → MatchOption o B Q
match-weaker None A B P Q f g h = f h
match-weaker (Some x) A B P Q f g h = g x h
