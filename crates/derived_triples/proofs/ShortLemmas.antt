-- The triple that a rule states is one alone, where what a short line states of it is given.
use Rattle.std.proofs.Common.{◌≡◌, ℕ, ◌+◌, ◌≤◌, Bool, true, false, cond, not, Option, Some, None, List, [], ◌∷◌, ◌++◌, map, filter, refl, sym, ap, ◌∙◌, subst, arith, inl, inr}
use Rattle.std.specs.Prelude.{IsSomeAnd, slice_get}
use Rattle.std.proofs.lemmas.Option.{same_Some}
use Rattle.rv_words.specs.declared.range.Range.{Range}
use Rattle.rv_words.specs.Ranges.{AreRanges, range_bytes}
use Rattle.word_terms.specs.Tree.{WordTree, MemTree}
use Rattle.word_terms.specs.Substitution.{Substitution}
use Rattle.tailrec_lang.specs.Tree.{DefTree, GroupTree}
use Rattle.tailrec_lang.specs.Registers.{AreRegistersFrom}
use Rattle.sep_assert.specs.Tree.{AssertionTree}
use Rattle.triple_kernel.specs.Tree.{FactTree, TripleTree}
use Rattle.triple_kernel.specs.Rules.{IsInst, IsStrengthened, IsWeakened, IsDischarged}
use Rattle.frame_compose.specs.Rules.{IsFramed, IsExtended, IsComposed, AreMissing, further, is_listed, rest_after}
use Rattle.loop_rule.specs.Rule.{IsExit, exit_triple}
use Rattle.proof_text.specs.LineLimits.{IsTriple}

-- ---- lists

-- the first item that passes has at least that number
least-passing : {A : Type 0} (p : ℕ × A → Bool) (least : ℕ) (xs : List (ℕ × A)) (y : ℕ × A) (ys : List (ℕ × A)) → AreRegistersFrom least (map (λ r. r.0) xs) → filter p xs ≡ y ∷ ys → least ≤ y.0
least-passing p least [] y ys rise e = absurd (cc)
least-passing {A} p least (x ∷ xs) y ys rise e = go (p x) e (least-passing p (x.0 + 1) xs y ys rise.2)
  where
    go : (b : Bool) → cond b (x ∷ filter p xs) (filter p xs) ≡ y ∷ ys → (filter p xs ≡ y ∷ ys → x.0 + 1 ≤ y.0) → least ≤ y.0
    go true same later =
        let first : x ≡ y = cc in
        subst (λ (z : ℕ × A). least ≤ z.0) first rise.0
    go false same later =
        let low : x.0 + 1 ≤ y.0 = later same in
        omega (arith, low, rise.0)

-- lists that rise are the same where those are that pass a test, and those that don't
pub same_rising : {A : Type 0} (test : ℕ → Bool) (a b : ℕ) (xs ys : List (ℕ × A)) → AreRegistersFrom a (map (λ r. r.0) xs) → AreRegistersFrom b (map (λ r. r.0) ys)
    → filter (λ q. test q.0) xs ≡ filter (λ q. test q.0) ys → filter (λ q. not (test q.0)) xs ≡ filter (λ q. not (test q.0)) ys → xs ≡ ys
same_rising test a b [] [] rx ry pass stop = refl
same_rising {A} test a b [] (y ∷ ys) rx ry pass stop = absurd (go (test y.0) pass stop)
  where
    go : (t : Bool) → [] ≡ cond t (y ∷ filter (λ q. test q.0) ys) (filter (λ q. test q.0) ys) → [] ≡ cond (not t) (y ∷ filter (λ q. not (test q.0)) ys) (filter (λ q. not (test q.0)) ys) → ⊥
    go true e f = cc
    go false e f = cc
same_rising {A} test a b (x ∷ xs) [] rx ry pass stop = absurd (go (test x.0) pass stop)
  where
    go : (t : Bool) → cond t (x ∷ filter (λ q. test q.0) xs) (filter (λ q. test q.0) xs) ≡ [] → cond (not t) (x ∷ filter (λ q. not (test q.0)) xs) (filter (λ q. not (test q.0)) xs) ≡ [] → ⊥
    go true e f = cc
    go false e f = cc
same_rising {A} test a b (x ∷ xs) (y ∷ ys) rx ry pass stop = go (test x.0) (test y.0) pass stop (same_rising test (x.0 + 1) (y.0 + 1) xs ys rx.2 ry.2)
  where
    passing : List (ℕ × A) → List (ℕ × A)
    passing zs = filter (λ q. test q.0) zs

    stopping : List (ℕ × A) → List (ℕ × A)
    stopping zs = filter (λ q. not (test q.0)) zs

    go : (s t : Bool) → cond s (x ∷ passing xs) (passing xs) ≡ cond t (y ∷ passing ys) (passing ys) → cond (not s) (x ∷ stopping xs) (stopping xs) ≡ cond (not t) (y ∷ stopping ys) (stopping ys)
        → (passing xs ≡ passing ys → stopping xs ≡ stopping ys → xs ≡ ys) → x ∷ xs ≡ y ∷ ys
    go true true e f more =
        let first : x ≡ y = cc in
        let rest : passing xs ≡ passing ys = cc in
        let same : xs ≡ ys = more rest f in
        λ i. first i ∷ same i
    go false false e f more =
        let first : x ≡ y = cc in
        let rest : stopping xs ≡ stopping ys = cc in
        let same : xs ≡ ys = more e rest in
        λ i. first i ∷ same i
    go true false e f more =
        let above : y.0 + 1 ≤ x.0 = least-passing (λ q. test q.0) (y.0 + 1) ys x (passing xs) ry.2 (sym e) in
        let below : x.0 + 1 ≤ y.0 = least-passing (λ q. not (test q.0)) (x.0 + 1) xs y (stopping ys) rx.2 f in
        absurd (omega (arith, above, below))
    go false true e f more =
        let above : x.0 + 1 ≤ y.0 = least-passing (λ q. test q.0) (x.0 + 1) xs y (passing ys) rx.2 e in
        let below : y.0 + 1 ≤ x.0 = least-passing (λ q. not (test q.0)) (y.0 + 1) ys x (stopping xs) ry.2 (sym f) in
        absurd (omega (arith, above, below))

-- what is missing is one list
pub same_missing : {A : Type 0} (known xs a b : List A) → AreMissing known xs a → AreMissing known xs b → a ≡ b
same_missing known [] a b p q = sym p ∙ q
same_missing known (x ∷ xs) a b (inl p) (inl q) = same_missing known xs a b p.1 q.1
same_missing known (x ∷ xs) a b (inl p) (inr q) = absurd (q.0 p.0)
same_missing known (x ∷ xs) a b (inr p) (inl q) = absurd (p.0 q.0)
same_missing known (x ∷ xs) [] b (inr p) (inr q) = absurd p.1
same_missing known (x ∷ xs) (y ∷ a) [] (inr p) (inr q) = absurd q.1
same_missing known (x ∷ xs) (y ∷ a) (z ∷ b) (inr p) (inr q) =
    let first : y ≡ z = sym p.1.0 ∙ q.1.0 in
    let rest : a ≡ b = same_missing known xs a b p.1.1 q.1.1 in
    λ i. first i ∷ rest i

-- ---- triples by their parts

abbrev pub AreSameParts : TripleTree → TripleTree → Type 0
AreSameParts t u = (t.facts ≡ u.facts) × (t.pre ≡ u.pre) × (t.code ≡ u.code) × (t.post ≡ u.post)

pub same_parts : (t u : TripleTree) → AreSameParts t u → t ≡ u
same_parts t u p = λ i. record { facts = p.0 i; pre = p.1 i; code = p.2 i; post = p.3 i }

pub same_assertions : (a b : AssertionTree) → a.pc ≡ b.pc → a.regs ≡ b.regs → a.mems ≡ b.mems → a ≡ b
same_assertions a b pc regs mems = λ i. record { pc = pc i; regs = regs i; mems = mems i }

-- ---- the rows have one triple

module _ (p t u : TripleTree) where
  pub one_inst : (s : Substitution) → IsInst s p t → IsInst s p u → t ≡ u
  one_inst s a b = same_parts t u (sym a.facts ∙ b.facts, sym a.pre ∙ b.pre, sym a.code ∙ b.code, sym a.post ∙ b.post)

  pub one_extended : (code : List Range) → IsExtended p t → IsExtended p u → code ≡ t.code → code ≡ u.code → t ≡ u
  one_extended code a b ca cb = same_parts t u (sym a.facts ∙ b.facts, sym a.pre ∙ b.pre, sym ca ∙ cb, sym a.post ∙ b.post)

  pub one_strengthened : (facts : List FactTree) (pre : AssertionTree) → IsStrengthened p t → IsStrengthened p u → facts ≡ t.facts → facts ≡ u.facts → pre ≡ t.pre → pre ≡ u.pre → t ≡ u
  one_strengthened facts pre a b fa fb pa pb = same_parts t u (sym fa ∙ fb, sym pa ∙ pb, sym a.code ∙ b.code, sym a.post ∙ b.post)

  pub one_weakened : (facts : List FactTree) (post : AssertionTree) → IsWeakened p t → IsWeakened p u → facts ≡ t.facts → facts ≡ u.facts → post ≡ t.post → post ≡ u.post → t ≡ u
  one_weakened facts post a b fa fb pa pb = same_parts t u (sym fa ∙ fb, sym a.pre ∙ b.pre, sym a.code ∙ b.code, sym pa ∙ pb)

  pub one_discharged : (facts : List FactTree) → IsDischarged p t → IsDischarged p u → facts ≡ t.facts → facts ≡ u.facts → t ≡ u
  one_discharged facts a b fa fb = same_parts t u (sym fa ∙ fb, sym a.pre ∙ b.pre, sym a.code ∙ b.code, sym a.post ∙ b.post)

  pub one_framed : (regs : List (ℕ × WordTree)) (mems : List MemTree) → IsFramed p t → IsFramed p u → further p.pre.regs t.pre.regs ≡ regs → further p.pre.regs u.pre.regs ≡ regs
      → rest_after p.pre.mems t.pre.mems ≡ mems → rest_after p.pre.mems u.pre.mems ≡ mems → IsTriple t → IsTriple u → t ≡ u
  one_framed regs mems a b ra rb ma mb wa wb =
      let rest : rest_after p.pre.mems t.pre.mems ≡ rest_after p.pre.mems u.pre.mems = ma ∙ sym mb in
      let pre : t.pre ≡ u.pre = same_assertions t.pre u.pre (sym a.pre_pc ∙ b.pre_pc)
      (same_rising (is_listed p.pre.regs) 1 1 t.pre.regs u.pre.regs wa.pre.registers wb.pre.registers (sym a.pre_regs ∙ b.pre_regs) (ra ∙ sym rb))
      (sym a.pre_mems ∙ (λ i. p.pre.mems ++ rest i) ∙ b.pre_mems) in
      let post : t.post ≡ u.post = same_assertions t.post u.post (sym a.post_pc ∙ b.post_pc)
      (same_rising (is_listed p.post.regs) 1 1 t.post.regs u.post.regs wa.post.registers wb.post.registers (sym a.post_regs ∙ b.post_regs) (sym a.further_regs ∙ ra ∙ sym rb ∙ b.further_regs))
      (sym a.post_mems ∙ (λ i. p.post.mems ++ rest i) ∙ b.post_mems) in
      same_parts t u (sym a.facts ∙ b.facts, pre, sym a.code ∙ b.code, post)

  pub one_composed : (q : TripleTree) → ((xs ys : List Range) → AreRanges xs → AreRanges ys → range_bytes xs ≡ range_bytes ys → xs ≡ ys) → IsComposed p q t → IsComposed p q u → IsTriple t → IsTriple u → t ≡ u
  one_composed q ranges a b wa wb =
      let more : rest_after p.facts t.facts ≡ rest_after p.facts u.facts = same_missing p.facts q.facts _ _ a.further_facts b.further_facts in
      let facts : t.facts ≡ u.facts = sym a.first_facts ∙ (λ i. p.facts ++ more i) ∙ b.first_facts in
      let code : t.code ≡ u.code = ranges t.code u.code wa.code wb.code (sym a.code ∙ b.code) in
      same_parts t u (facts, sym a.pre ∙ b.pre, code, sym a.post ∙ b.post)

pub one_exit : (g : GroupTree) (d exit : ℕ) (t u : TripleTree) → IsExit g d exit t → IsExit g d exit u → t ≡ u
one_exit g d exit t u a b =
    let def : a.def ≡ b.def = same_Some a.def b.def (sym a.is ∙ b.is) in
    let x : a.x ≡ b.x = same_Some a.x b.x (sym a.at ∙ ap (λ (e : DefTree). slice_get e.exits exit) def ∙ b.at) in
    a.same ∙ (λ i. exit_triple g d (def i) exit (x i)) ∙ sym b.same

-- of two things that are said of what an option holds, both are said of one
pub of_both : {A T : Type 0} (o : Option A) (R S : A → Type 0) → IsSomeAnd o R → IsSomeAnd o S → ((p : A) → R p → S p → T) → T
of_both None R S a b f = absurd a
of_both (Some p) R S a b f = f p a b
