-- What is right of proofs is right of the first of them, and what is wrong stands last.
use Rattle.std.proofs.Common.{◌≡◌, ℕ, zero, suc, ◌<◌, List, [], ◌∷◌, ◌++◌, length, map, slice_get, Option, Some, None, refl, sym, subst, ◌∙◌, ◌⊎◌, ⊎_elim, inl, inr, append_assoc, arith}
use Rattle.std.specs.Prelude.{IsSomeAnd, fold}
use Rattle.std.specs.List.{AllByRecursion}
use Rattle.std.proofs.lemmas.List.{append-nil}
use Rattle.tailrec_lang.specs.Tree.{DefTree, GroupTree}
use Rattle.tailrec_lang.specs.WellFormed.{IsWellFormed, IsFirstIllFormed}
use Rattle.proof_text.specs.Line.{LineTree, ProofOf}
use Rattle.proof_text.specs.LineGrammar.{LineGrammar}
use Rattle.proof_text.specs.Proofs.{bare}
use Rattle.verdicts.specs.Instance.{History, after_line, no_lines}
use Rattle.proof_text.specs.FirstProofs.{Adds, BeginsWithItems, ItemOf, Opens, items, with_line}
use Rattle.verdicts.specs.LineRules.{AllLeave, IsProvedOver, IsRightOver, LineRules}

-- these are the first proofs of those, and the last of them may have further lines there
abbrev pub AreFirst : {L : Type 0} → List (ProofOf L) → List (ProofOf L) → Type 0
AreFirst {L} [] qs = Unit {0}
AreFirst {L} (p ∷ ps) [] = ⊥
AreFirst {L} (p ∷ []) (q ∷ qs) = (p.group ≡ q.group) × (more : List L) × (p.lines ++ more ≡ q.lines)
AreFirst {L} (p ∷ r ∷ ps) (q ∷ qs) = (p ≡ q) × AreFirst (r ∷ ps) qs

-- ---- lines

-- what whole lines leave, with one more
pub after-more : (h : History) (ls : List LineTree) (l : LineTree) → fold after_line h (ls ++ l ∷ []) ≡ after_line (fold after_line h ls) l
after-more h [] l = refl
after-more h (k ∷ ls) l = after-more (after_line h k) ls l

module _ {L : LineGrammar} (J : LineRules L) (g : GroupTree) where
  -- a line more, behind those before
  pub leave-more : (before : List L.Line) (h : History) (ls : List L.Line) (middle : History) (l : L.Line) (after : History) → AllLeave J g before h ls middle → J.Leaves g (before ++ ls) middle l after
      → AllLeave J g before h (ls ++ l ∷ []) after
  leave-more before h [] middle l after all here =
      (after, subst (λ (b : List L.Line). J.Leaves g b h l after) (append-nil before) (subst (λ (x : History). J.Leaves g (before ++ []) x l after) all here), refl)
  leave-more before h (k ∷ ls) middle l after all here =
      (all.0, all.1, leave-more (before ++ k ∷ []) all.0 ls middle l after all.2 (subst (λ (b : List L.Line). J.Leaves g b middle l after) (sym (append_assoc before (k ∷ []) ls)) here))

  -- the first of lines
  pub first-leave : (before : List L.Line) (h : History) (ls ms : List L.Line) (after : History) → AllLeave J g before h (ls ++ ms) after → (middle : History) × AllLeave J g before h ls middle
  first-leave before h [] ms after all = (h, refl)
  first-leave before h (l ∷ ls) ms after all = let k = first-leave (before ++ l ∷ []) all.0 ls ms after all.2 in (k.0, (all.0, all.1, k.1))

  -- the last of them, behind those before it
  pub last-leave : (before : List L.Line) (h : History) (ls : List L.Line) (l : L.Line) (after : History) → AllLeave J g before h (ls ++ l ∷ []) after
      → (middle : History) × (next : History) × AllLeave J g before h ls middle × J.Leaves g (before ++ ls) middle l next
  last-leave before h [] l after all = (h, all.0, refl, subst (λ (b : List L.Line). J.Leaves g b h l all.0) (sym (append-nil before)) all.1)
  last-leave before h (k ∷ ls) l after all =
      let rest = last-leave (before ++ k ∷ []) all.0 ls l after all.2 in
      (rest.0, rest.1, (all.0, all.1, rest.2), subst (λ (b : List L.Line). J.Leaves g b rest.0 l rest.1) (append_assoc before (k ∷ []) ls) rest.3)

-- ---- proofs

none-first : {L : Type 0} (p : ProofOf L) (ps : List (ProofOf L)) → AreFirst (p ∷ ps) [] → ⊥
none-first p [] e = e
none-first p (r ∷ ps) e = e

module _ {L : LineGrammar} (J : LineRules L) where
  -- the first of proofs in which nothing is wrong
  pub first-right : (ps qs : List (ProofOf L.Line)) → AreFirst ps qs → AllByRecursion (IsRightOver J) qs → AllByRecursion (IsRightOver J) ps
  first-right [] qs first right = tt
  first-right (p ∷ ps) [] first right = absurd (none-first p ps first)
  first-right (p ∷ []) (q ∷ qs) first right =
      let r = right.0 in
      let same : AllLeave J p.group [] no_lines (p.lines ++ first.1) r.0 = subst (λ (ls : List L.Line). AllLeave J p.group [] no_lines ls r.0) (sym first.2) (subst (λ (g : GroupTree). AllLeave J g [] no_lines q.lines r.0) (sym first.0) r.1.lines) in
      let front = first-leave J p.group [] no_lines p.lines first.1 r.0 same in
      ((front.0, record { well_formed = subst IsWellFormed (sym first.0) r.1.well_formed; lines = front.1 }), tt)
  first-right (p ∷ r ∷ ps) (q ∷ qs) first right = (subst (IsRightOver J) (sym first.0) right.0, first-right (r ∷ ps) qs first.1 right.1)

  -- what is proved is right
  pub proved-right : (file : List ℕ) (ps : List (ProofOf L.Line)) → AllByRecursion (IsProvedOver J file) ps → AllByRecursion (IsRightOver J) ps
  proved-right file [] all = tt
  proved-right file (p ∷ ps) all = ((all.0.0, all.0.1), proved-right file ps all.1)

-- what is there
pub that-some : {A : Type 0} (o : Option A) (P : A → Type 0) → IsSomeAnd o P → (x : A) × (o ≡ Some x) × P x
that-some None P h = absurd h
that-some (Some x) P h = (x, refl, h)

pub all-more : {A : Type 0} (F : A → Type 0) (xs : List A) (x : A) → AllByRecursion F xs → F x → AllByRecursion F (xs ++ x ∷ [])
all-more F [] x all here = (here, tt)
all-more F (y ∷ xs) x all here = (all.0, all-more F xs x all.1 here)

pub all-last : {A : Type 0} (F : A → Type 0) (xs : List A) (x : A) → AllByRecursion F (xs ++ x ∷ []) → F x
all-last F [] x all = all.0
all-last F (y ∷ xs) x all = all-last F xs x all.1

def-there : (ds : List DefTree) (n : ℕ) → n < length ds → (d : DefTree) × (slice_get ds n ≡ Some d)
def-there [] n lt = absurd (omega arith)
def-there (d ∷ ds) zero lt = (d, refl)
def-there (d ∷ ds) (suc n) lt = def-there ds n (omega arith)

pub ill-formed : (g : GroupTree) (d : ℕ) → IsFirstIllFormed g d → IsWellFormed g → ⊥
ill-formed g d first well = let x = def-there g.defs d first.there in first.here x.0 x.1 (well d x.0 x.1)

not-earlier : (g : GroupTree) (c d : ℕ) → IsFirstIllFormed g c → IsFirstIllFormed g d → c < d → ⊥
not-earlier g c d h k lt = let x = def-there g.defs c h.there in h.here x.0 x.1 (k.before c x.0 lt x.1)

pub first-def : (g : GroupTree) (c d : ℕ) → IsFirstIllFormed g c → IsFirstIllFormed g d → c ≡ d
first-def g c d h k = omega (arith, not-earlier g c d h k, not-earlier g d c k h)

-- ---- items

module _ {L : Type 0} where
  no-line-first : (qs : List (ProofOf L)) (l : L) (more : List (ItemOf L)) → items qs ≡ Adds l ∷ more → ⊥
  no-line-first [] l more e = cc
  no-line-first (q ∷ qs) l more e = cc

  -- lines that begin other lines, behind which a group may stand
  lines-begin : (ls ks : List L) (qs : List (ProofOf L)) (more : List (ItemOf L)) → map Adds ks ++ items qs ≡ map Adds ls ++ more → (rest : List L) × (ls ++ rest ≡ ks)
  lines-begin [] ks qs more e = (ks, refl)
  lines-begin (l ∷ ls) [] qs more e = absurd (no-line-first qs l (map Adds ls ++ more) e)
  lines-begin (l ∷ ls) (k ∷ ks) qs more e =
      let head : ◌≡◌ {A = ItemOf L} (Adds k) (Adds l) = cc in
      let same : l ≡ k = cc in
      let tail : map Adds ks ++ items qs ≡ map Adds ls ++ more = cc in
      let rest = lines-begin ls ks qs more tail in
      (rest.0, λ i. same i ∷ rest.1 i)

  -- the same, where a group stands behind the first of them
  lines-same : (ls ks : List L) (qs : List (ProofOf L)) (g : GroupTree) (more : List (ItemOf L)) → map Adds ks ++ items qs ≡ map Adds ls ++ Opens g ∷ more → (ls ≡ ks) × (items qs ≡ Opens g ∷ more)
  lines-same [] [] qs g more e = (refl, e)
  lines-same [] (k ∷ ks) qs g more e = absurd cc
  lines-same (l ∷ ls) [] qs g more e = absurd (no-line-first qs l (map Adds ls ++ Opens g ∷ more) e)
  lines-same (l ∷ ls) (k ∷ ks) qs g more e =
      let head : ◌≡◌ {A = ItemOf L} (Adds k) (Adds l) = cc in
      let same : l ≡ k = cc in
      let tail : map Adds ks ++ items qs ≡ map Adds ls ++ Opens g ∷ more = cc in
      let rest = lines-same ls ks qs g more tail in
      ((λ i. same i ∷ rest.0 i), rest.1)

  group-behind : (p r : ProofOf L) (ps : List (ProofOf L)) (more : List (ItemOf L))
      → items (p ∷ r ∷ ps) ++ more ≡ Opens p.group ∷ (map Adds p.lines ++ (Opens r.group ∷ ((map Adds r.lines ++ items ps) ++ more)))
  group-behind p r ps more = λ i. Opens p.group ∷ append_assoc (map Adds p.lines) (items (r ∷ ps)) more i

  -- proofs whose items begin with those of others
  pub begins-first : (ps qs : List (ProofOf L)) → BeginsWithItems qs ps → AreFirst ps qs
  begins-first [] qs (more, e) = tt
  begins-first (p ∷ []) [] (more, e) = absurd cc
  begins-first (p ∷ r ∷ ps) [] (more, e) = absurd cc
  begins-first (p ∷ []) (q ∷ qs) (more, e) =
      let e' : Opens q.group ∷ (map Adds q.lines ++ items qs) ≡ Opens p.group ∷ (map Adds p.lines ++ more) = e ∙ (λ i. Opens p.group ∷ (append-nil (map Adds p.lines) i ++ more)) in
      let head : ◌≡◌ {A = ItemOf L} (Opens q.group) (Opens p.group) = cc in
      let group : p.group ≡ q.group = cc in
      let tail : map Adds q.lines ++ items qs ≡ map Adds p.lines ++ more = cc in
      let rest = lines-begin p.lines q.lines qs more tail in
      (group, rest.0, rest.1)
  begins-first (p ∷ r ∷ ps) (q ∷ qs) (more, e) =
      let e' = e ∙ group-behind p r ps more in
      let head : ◌≡◌ {A = ItemOf L} (Opens q.group) (Opens p.group) = cc in
      let group : p.group ≡ q.group = cc in
      let tail : map Adds q.lines ++ items qs ≡ map Adds p.lines ++ (Opens r.group ∷ ((map Adds r.lines ++ items ps) ++ more)) = cc in
      let rest = lines-same p.lines q.lines qs r.group ((map Adds r.lines ++ items ps) ++ more) tail in
      ((λ i. record { group = group i; lines = rest.0 i }), begins-first (r ∷ ps) qs (more, rest.1))

  -- ---- the last thing of proofs

  none-left : (xs ys : List L) → xs ++ ys ≡ [] → xs ≡ []
  none-left [] ys e = refl
  none-left (x ∷ xs) ys e = absurd cc

  -- lines that begin others with one more are all of them, or begin the others
  begin-or-all : (xs ys zs : List L) (l : L) → xs ++ ys ≡ zs ++ l ∷ [] → (xs ≡ zs ++ l ∷ []) ⊎ ((more : List L) × (xs ++ more ≡ zs))
  begin-or-all [] ys zs l e = inr (zs, refl)
  begin-or-all (x ∷ xs) ys [] l e =
      let head : x ≡ l = cc in
      let tail : xs ++ ys ≡ [] = cc in
      inl (λ i. head i ∷ none-left xs ys tail i)
  begin-or-all (x ∷ xs) ys (z ∷ zs) l e =
      let head : x ≡ z = cc in
      let tail : xs ++ ys ≡ zs ++ l ∷ [] = cc in
      ⊎_elim (λ (h : xs ≡ zs ++ l ∷ []). inl (λ i. head i ∷ h i)) (λ (h : (more : List L) × (xs ++ more ≡ zs)). inr (h.0, λ i. head i ∷ h.1 i)) (begin-or-all xs ys zs l tail)

  -- the first of proofs with one more group
  pub group-last : (ps b : List (ProofOf L)) (g : GroupTree) → AreFirst ps (b ++ bare g ∷ []) → (ps ≡ b ++ bare g ∷ []) ⊎ AreFirst ps b
  group-last [] b g first = inr tt
  group-last (p ∷ []) [] g first = inl (λ i. record { group = first.0 i; lines = none-left p.lines first.1 first.2 i } ∷ [])
  group-last (p ∷ r ∷ ps) [] g first = absurd (none ps first.1)
    where
      none : (ps : List (ProofOf L)) → AreFirst (r ∷ ps) [] → ⊥
      none [] e = e
      none (s ∷ ps) e = e
  group-last (p ∷ []) (q ∷ b) g first = inr first
  group-last (p ∷ r ∷ ps) (q ∷ b) g first =
      ⊎_elim (λ (h : r ∷ ps ≡ b ++ bare g ∷ []). inl (λ i. first.0 i ∷ h i)) (λ (h : AreFirst (r ∷ ps) b). inr (first.0, h)) (group-last (r ∷ ps) b g first.1)

  -- the first of proofs with one more line
  pub line-last : (ps b : List (ProofOf L)) (q : ProofOf L) (l : L) → AreFirst ps (b ++ with_line q l ∷ []) → (ps ≡ b ++ with_line q l ∷ []) ⊎ AreFirst ps (b ++ q ∷ [])
  line-last [] b q l first = inr tt
  line-last (p ∷ []) [] q l first =
      ⊎_elim (λ (h : p.lines ≡ q.lines ++ l ∷ []). inl (λ i. record { group = first.0 i; lines = h i } ∷ [])) (λ (h : (more : List L) × (p.lines ++ more ≡ q.lines)). inr (first.0, h.0, h.1)) (begin-or-all p.lines first.1 q.lines l first.2)
  line-last (p ∷ r ∷ ps) [] q l first = absurd (none ps first.1)
    where
      none : (ps : List (ProofOf L)) → AreFirst (r ∷ ps) [] → ⊥
      none [] e = e
      none (s ∷ ps) e = e
  line-last (p ∷ []) (x ∷ b) q l first = inr first
  line-last (p ∷ r ∷ ps) (x ∷ b) q l first =
      ⊎_elim (λ (h : r ∷ ps ≡ b ++ with_line q l ∷ []). inl (λ i. first.0 i ∷ h i)) (λ (h : AreFirst (r ∷ ps) (b ++ q ∷ [])). inr (first.0, h)) (line-last (r ∷ ps) b q l first.1)

  -- the same list with the same last item
  pub same-last : (b c : List (ProofOf L)) (p q : ProofOf L) → b ++ p ∷ [] ≡ c ++ q ∷ [] → (b ≡ c) × (p ≡ q)
  same-last [] [] p q e = (refl, cc)
  same-last [] (x ∷ c) p q e = absurd (none c cc)
    where
      none : (c : List (ProofOf L)) → [] ≡ c ++ q ∷ [] → ⊥
      none [] e = cc
      none (y ∷ c) e = cc
  same-last (x ∷ b) [] p q e = absurd (none b cc)
    where
      none : (b : List (ProofOf L)) → b ++ p ∷ [] ≡ [] → ⊥
      none [] e = cc
      none (y ∷ b) e = cc
  same-last (x ∷ b) (y ∷ c) p q e =
      let head : x ≡ y = cc in
      let tail : b ++ p ∷ [] ≡ c ++ q ∷ [] = cc in
      let rest = same-last b c p q tail in
      (λ i. head i ∷ rest.0 i, rest.1)
