-- A valid triple and another one that begins where it ends make a valid one.
use Rattle.std.proofs.Common.{◌≡◌, zero, suc, List, [], ◌∷◌, ◌++◌, ◌⊎◌, inl, inr, sym, ◌∙◌, subst, arith, ⊎_elim}
use Rattle.std.specs.List.{Contains}
use Rattle.std.proofs.lemmas.List.Elements.{Contains-append_left, Contains-append_right}
use Rattle.rv_words.specs.Bytes.{Bytes, over}
use Rattle.tailrec_lang.specs.Tree.{GroupTree}
use Rattle.rv_words.specs.Ranges.{range_bytes}
use Rattle.sep_assert.specs.Code.{IsWithin, Agree}
use Rattle.sep_assert.specs.Part.{◌⊕◌, code_part, part_of}
use Rattle.triple_kernel.specs.Tree.{FactTree, TripleTree}
use Rattle.triple_kernel.specs.Valid.{Valid}
use Rattle.frame_compose.specs.Rules.{IsComposed, AreMissing, rest_after}
use Rattle.sep_assert.proofs.Parted.{within-first, within-second}
use Rattle.triple_kernel.proofs.MoreCode.{valid_more_code}
use Rattle.triple_kernel.proofs.Reaching.{reaches-on}

-- ---- facts

pub among-first : {A : Type 0} (xs ys zs : List A) (x : A) → xs ++ ys ≡ zs → Contains xs x → Contains zs x
among-first xs ys zs x is c = subst (λ l. Contains l x) is (Contains-append_left xs ys x c)

pub among-rest : {A : Type 0} (xs ys zs : List A) (x : A) → xs ++ ys ≡ zs → Contains ys x → Contains zs x
among-rest xs ys zs x is c = subst (λ l. Contains l x) is (Contains-append_right xs ys x c)

later : {A : Type 0} (known more : List A) (m x : A) → Contains known x ⊎ Contains more x → Contains known x ⊎ Contains (m ∷ more) x
later known more m x (inl c) = inl c
later known more m x (inr c) = inr (suc c.0, omega (arith, c.1), c.2)

-- what is in a list is among what is known or among what is missing
pub among-missing : {A : Type 0} (known xs more : List A) (x : A) → AreMissing known xs more → Contains xs x → Contains known x ⊎ Contains more x
among-missing known [] more x are c = absurd (omega (arith, c.1))
among-missing known (y ∷ ys) more x (inl are) (zero, lt, e) = inl (subst (Contains known) e are.0)
among-missing known (y ∷ ys) more x (inl are) (suc k, lt, e) = among-missing known ys more x are.1 (k, omega arith, e)
among-missing known (y ∷ ys) [] x (inr are) c = absurd are.1
among-missing known (y ∷ ys) (m ∷ more) x (inr are) (zero, lt, e) = inr (0, omega arith, sym are.1.0 ∙ e)
among-missing known (y ∷ ys) (m ∷ more) x (inr are) (suc k, lt, e) = later known more m x (among-missing known ys more x are.1.1 (k, omega arith, e))

-- ---- the law

within-union : (x y z : Bytes) → over x y ≡ z → IsWithin x z
within-union x y z is = subst (IsWithin x) is (within-first x y)

other-within-union : (x y z : Bytes) → Agree x y → over x y ≡ z → IsWithin y z
other-within-union x y z agree is = subst (IsWithin y) is (within-second x y agree)

pub valid_composition : (g : GroupTree) (p q t : TripleTree) → IsComposed p q t → Valid g p → Valid g q → Valid g t
valid_composition g p q t is v w = record {
  runs = λ e holds rest s whole.
      let first = valid_more_code g p t.code (within-union (range_bytes p.code) (range_bytes q.code) (range_bytes t.code) is.code) v in
      let second = valid_more_code g q t.code (other-within-union (range_bytes p.code) (range_bytes q.code) (range_bytes t.code) is.agree is.code) w in
      let more_facts = rest_after p.facts t.facts in
      let known = λ (f : FactTree) (c : Contains p.facts f). holds f (among-first p.facts more_facts t.facts f is.first_facts c) in
      let known_later = λ (f : FactTree) (c : Contains q.facts f).
      ⊎_elim (known f) (λ h. holds f (among-rest p.facts more_facts t.facts f is.first_facts h)) (among-missing p.facts q.facts more_facts f is.further_facts c) in
      let a = first.runs e known rest s (whole ∙ (λ i. part_of (sym is.pre i) e ⊕ (code_part t.code ⊕ rest))) in
      let b = second.runs e known_later rest a.0 (a.2 ∙ (λ i. part_of (is.middle i) e ⊕ (code_part t.code ⊕ rest))) in
      (b.0, reaches-on s a.0 b.0 a.1 b.1, b.2 ∙ (λ i. part_of (is.post i) e ⊕ (code_part t.code ⊕ rest)));
}
