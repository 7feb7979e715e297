-- Registers of two lists merged so that they rise, and triples with further registers.
use Rattle.std.proofs.Common.{◌≡◌, ℕ, ◌+◌, ◌<◌, ◌≤◌, ◌==◌, ◌||◌, Bool, true, false, cond, not, eq-eqb, ⊎_elim, Some, None, List, [], ◌∷◌, ◌++◌, length, drop, filter, get_or, map, take, refl, sym, ap, ◌∙◌, subst, arith}
use Rattle.std.specs.Prelude.{All}
use Rattle.std.specs.List.{AllByRecursion}
use Rattle.std.proofs.Math.Seq.{drop-append_seam}
use Rattle.std.proofs.lemmas.Bool.{cases_lt}
use Rattle.std.proofs.lemmas.List.{drop_all, drop_more, get_or_default, map-append, take_all, take_more}
use Rattle.std.proofs.lemmas.List.Folds.{list_any_at}
use Rattle.std.proofs.lemmas.List.Elements.{All-head, All-tail, All-cons, All-nil}
use Rattle.word_terms.specs.Tree.{WordTree}
use Rattle.tailrec_lang.specs.Registers.{AreRegistersFrom, last_register}
use Rattle.triple_kernel.specs.Tree.{TripleTree}
use Rattle.frame_compose.specs.Rules.{AreWith, IsFramed, Merges, first, further, is_listed, none, rest_after, second}
use Rattle.frame_compose.proofs.FurtherLemmas.{are_with}
use Rattle.term_arena.specs.declared.node.Node.{Node}
use Rattle.term_arena.specs.Arena.{IsMemAt, IsWordAt, mem_of, word_of}
use Rattle.held_terms.specs.declared.held.Held.{Held}
use Rattle.held_terms.specs.declared.held.HeldSide.{HeldSide}
use Rattle.held_terms.specs.Held.{fact_of, register_of, triple_of, AreMemsAt}
use Rattle.group_text.specs.TermLimits.{IsWord, IsMem}
use Rattle.derived_triples.specs.Fine.{AreFineMems, AreFineRegisters, IsFineHeld, IsFineSide}
use Rattle.derived_triples.specs.inner.Making.{ComesFirst, MadeIf, number}
use Rattle.derived_triples.proofs.MakingLemmas.{fine_code, fine_facts, parts_fine}

-- ---- one more at the end

module _ {A : Type 0} where
  merges-first : (x : A) (xs ys zs : List A) → Merges xs ys zs → Merges (xs ++ x ∷ []) ys (zs ++ x ∷ [])
  merges-first x _ _ _ none = first x [] [] [] none
  merges-first x _ _ _ (first y xs ys zs m) = first y (xs ++ x ∷ []) ys (zs ++ x ∷ []) (merges-first x xs ys zs m)
  merges-first x _ _ _ (second y xs ys zs m) = second y (xs ++ x ∷ []) ys (zs ++ x ∷ []) (merges-first x xs ys zs m)

  merges-second : (x : A) (xs ys zs : List A) → Merges xs ys zs → Merges xs (ys ++ x ∷ []) (zs ++ x ∷ [])
  merges-second x _ _ _ none = second x [] [] [] none
  merges-second x _ _ _ (first y xs ys zs m) = first y xs (ys ++ x ∷ []) (zs ++ x ∷ []) (merges-second x xs ys zs m)
  merges-second x _ _ _ (second y xs ys zs m) = second y xs (ys ++ x ∷ []) (zs ++ x ∷ []) (merges-second x xs ys zs m)

  merges-map : {B : Type 0} (f : A → B) (xs ys zs : List A) → Merges xs ys zs → Merges (map f xs) (map f ys) (map f zs)
  merges-map f _ _ _ none = none
  merges-map f _ _ _ (first y xs ys zs m) = first (f y) (map f xs) (map f ys) (map f zs) (merges-map f xs ys zs m)
  merges-map f _ _ _ (second y xs ys zs m) = second (f y) (map f xs) (map f ys) (map f zs) (merges-map f xs ys zs m)

  -- what holds of both holds of all
  merges-all : (P : A → Type 0) (xs ys zs : List A) → Merges xs ys zs → AllByRecursion P xs → AllByRecursion P ys → AllByRecursion P zs
  merges-all P _ _ _ none p q = tt
  merges-all P _ _ _ (first y xs ys zs m) p q = (p.0, merges-all P xs ys zs m p.1 q)
  merges-all P _ _ _ (second y xs ys zs m) p q = (q.0, merges-all P xs ys zs m p q.1)

  merges-each : (P : A → Type 0) (xs ys zs : List A) → Merges xs ys zs → All P xs → All P ys → All P zs
  merges-each P _ _ _ none p q = All-nil P
  merges-each P _ _ _ (first y xs ys zs m) p q = All-cons P y zs (All-head P y xs p) (merges-each P xs ys zs m (All-tail P y xs p) q)
  merges-each P _ _ _ (second y xs ys zs m) p q = All-cons P y zs (All-head P y ys q) (merges-each P xs ys zs m p (All-tail P y ys q))

-- ---- numbers that rise

-- the registers rise from `least` on, and are below `limit`
abbrev RiseTo : {A : Type 0} → ℕ → List (ℕ × A) → ℕ → Type 0
RiseTo least [] limit = least ≤ limit
RiseTo least (r ∷ rs) limit = (least ≤ r.0) × (r.0 ≤ last_register) × RiseTo (r.0 + 1) rs limit

rise-more : {A : Type 0} (least limit : ℕ) (rs : List (ℕ × A)) (x : ℕ × A) → RiseTo least rs limit → limit ≤ x.0 → x.0 ≤ last_register → RiseTo least (rs ++ x ∷ []) (x.0 + 1)
rise-more least limit [] x p le low = let from : least ≤ x.0 = omega (arith, p, le) in (from, low, omega arith)
rise-more least limit (r ∷ rs) x p le low = (p.0, p.1, rise-more (r.0 + 1) limit rs x p.2 le low)

rises : (least limit : ℕ) (rs : List (ℕ × ℕ)) → RiseTo least rs limit → AreRegistersFrom least (map number rs)
rises least limit [] p = tt
rises least limit (r ∷ rs) p = (p.0, p.1, rises (r.0 + 1) limit rs p.2)

-- .. from a number below the first one
rises-from : (a b : ℕ) (r : ℕ × ℕ) (rs : List (ℕ × ℕ)) → AreRegistersFrom a (map number (r ∷ rs)) → b ≤ r.0 → AreRegistersFrom b (map number (r ∷ rs))
rises-from a b r rs p le = (le, p.1, p.2)

-- what is merged of the first i and j, and that the others rise behind them
pub record Merged (a b : List (ℕ × ℕ)) (i j : ℕ) (all : List (ℕ × ℕ)) : Type 0 where
  pub first_within : i ≤ length a
  pub second_within : j ≤ length b
  pub merged : Merges (take i a) (take j b) all
  pub limit : ℕ
  pub rise : RiseTo 1 all limit
  pub first_behind : AreRegistersFrom limit (map number (drop i a))
  pub second_behind : AreRegistersFrom limit (map number (drop j b))

pub merged_none : (a b : List (ℕ × ℕ)) → AreRegistersFrom 1 (map number a) → AreRegistersFrom 1 (map number b) → Merged a b 0 0 []
merged_none a b p q = record { first_within = omega arith; second_within = omega arith; merged = none; limit = 1; rise = omega arith; first_behind = p; second_behind = q }

-- a register's place behind the limit, and what stands behind it
head-behind : (a : List (ℕ × ℕ)) (i limit : ℕ) (x : ℕ × ℕ) → i < length a → x ≡ get_or a i x → AreRegistersFrom limit (map number (drop i a)) → AreRegistersFrom limit (map number (x ∷ drop (i + 1) a))
head-behind a i limit x low is behind =
    let split : drop i a ≡ x ∷ drop (i + 1) a = drop_more a i x low ∙ (λ k. sym is k ∷ drop (i + 1) a) in
    subst (λ (l : List (ℕ × ℕ)). AreRegistersFrom limit (map number l)) split behind

-- those from a place on rise behind a number below the first of them, if there is one
behind-less : (b : List (ℕ × ℕ)) (j limit n : ℕ) → AreRegistersFrom limit (map number (drop j b)) → ((y : ℕ × ℕ) → j < length b → n ≤ (get_or b j y).0) → AreRegistersFrom n (map number (drop j b))
behind-less b j limit n behind above = ⊎_elim
    (λ (low : j < length b).
    let split : drop j b ≡ get_or b j (0, 0) ∷ drop (j + 1) b = drop_more b j (0, 0) low in
    subst (λ (l : List (ℕ × ℕ)). AreRegistersFrom n (map number l)) (sym split)
    (rises-from limit n (get_or b j (0, 0)) (drop (j + 1) b) (subst (λ (l : List (ℕ × ℕ)). AreRegistersFrom limit (map number l)) split behind) (above (0, 0) low)))
    (λ (past : length b ≤ j). subst (λ (l : List (ℕ × ℕ)). AreRegistersFrom n (map number l)) (sym (drop_all j b past)) tt)
    (cases_lt j (length b))

-- one more, which comes first
module _ (a b : List (ℕ × ℕ)) (i j : ℕ) (all : List (ℕ × ℕ)) (x : ℕ × ℕ) (m : Merged a b i j all) where
  pub merged_first : x ≡ get_or a i x → ComesFirst a i b j → Merged a b (i + 1) j (all ++ x ∷ [])
  merged_first is f =
      let behind = head-behind a i m.limit x f.within is m.first_behind in
      let more : take (i + 1) a ≡ take i a ++ x ∷ [] = take_more a i x f.within ∙ (λ k. take i a ++ sym is k ∷ []) in
      record {
        first_within = omega (arith, f.within);
        second_within = m.second_within;
        merged = subst (λ (l : List (ℕ × ℕ)). Merges l (take j b) (all ++ x ∷ [])) (sym more) (merges-first x (take i a) (take j b) all m.merged);
        limit = x.0 + 1;
        rise = rise-more 1 m.limit all x m.rise behind.0 behind.1;
        first_behind = behind.2;
        second_behind = behind-less b j m.limit (x.0 + 1) m.second_behind (λ y low. subst (λ (z : ℕ × ℕ). z.0 + 1 ≤ (get_or b j y).0) (sym is) (f.before x y low));
      }

  pub merged_second : x ≡ get_or b j x → ComesFirst b j a i → Merged a b i (j + 1) (all ++ x ∷ [])
  merged_second is f =
      let behind = head-behind b j m.limit x f.within is m.second_behind in
      let more : take (j + 1) b ≡ take j b ++ x ∷ [] = take_more b j x f.within ∙ (λ k. take j b ++ sym is k ∷ []) in
      record {
        first_within = m.first_within;
        second_within = omega (arith, f.within);
        merged = subst (λ (l : List (ℕ × ℕ)). Merges (take i a) l (all ++ x ∷ [])) (sym more) (merges-second x (take i a) (take j b) all m.merged);
        limit = x.0 + 1;
        rise = rise-more 1 m.limit all x m.rise behind.0 behind.1;
        first_behind = behind-less a i m.limit (x.0 + 1) m.first_behind (λ y low. subst (λ (z : ℕ × ℕ). z.0 + 1 ≤ (get_or a i y).0) (sym is) (f.before x y low));
        second_behind = behind.2;
      }

pub merged_rise : (a b : List (ℕ × ℕ)) (i j : ℕ) (all : List (ℕ × ℕ)) → Merged a b i j all → AreRegistersFrom 1 (map number all)
merged_rise a b i j all m = rises 1 m.limit all m.rise

pub merged_with : (a b : List (ℕ × ℕ)) (i j : ℕ) (all : List (ℕ × ℕ)) → length a ≤ i → length b ≤ j → All (λ r. is_listed a r.0 ≡ false) b → Merged a b i j all → AreWith a b all
merged_with a b i j all p q apart m = record {
  merged = subst (λ (l : List (ℕ × ℕ)). Merges l b all) (take_all i a p) (subst (λ (l : List (ℕ × ℕ)). Merges (take i a) l all) (take_all j b q) m.merged);
  apart = apart;
}

-- of two with different numbers, where the first doesn't come first the second does
pub comes_second : (a b : List (ℕ × ℕ)) (i j : ℕ) → All (λ r. is_listed a r.0 ≡ false) b → i < length a → j < length b → (get_or b j (0, 0)).0 ≤ (get_or a i (0, 0)).0 → ComesFirst b j a i
comes_second a b i j apart p q le = record {
  within = q;
  before = λ y x low.
      let first : (get_or b j y).0 ≤ (get_or a i x).0 = subst (λ (z : ℕ × ℕ). z.0 ≤ (get_or a i x).0) (get_or_default b j (0, 0) y q) (subst (λ (z : ℕ × ℕ). (get_or b j (0, 0)).0 ≤ z.0) (get_or_default a i (0, 0) x p) le) in
      let other = differ y x in
      omega (arith, first, other);
}
  where
    differ : (y x : ℕ × ℕ) → (get_or a i x).0 ≡ (get_or b j y).0 → ⊥
    differ y x e =
        let here : is_listed a (get_or b j y).0 ≡ true = list_any_at (λ (r : ℕ × ℕ). r.0 == (get_or b j y).0) a i x p (eq-eqb (get_or a i x).0 (get_or b j y).0 e) in
        let there : is_listed a (get_or b j y).0 ≡ false = apart j y q in
        cc

-- ---- over the trees

listed-map : (ns : List Node) (own : List (ℕ × ℕ)) (r : ℕ) → is_listed (map (register_of ns) own) r ≡ is_listed own r
listed-map ns [] r = refl
listed-map ns (q ∷ own) r = ap (λ (b : Bool). (q.0 == r) || b) (listed-map ns own r)

apart-map : (ns : List Node) (own more : List (ℕ × ℕ)) → All (λ r. is_listed own r.0 ≡ false) more → All (λ r. is_listed (map (register_of ns) own) r.0 ≡ false) (map (register_of ns) more)
apart-map ns own [] all = All-nil (λ (r : ℕ × WordTree). is_listed (map (register_of ns) own) r.0 ≡ false)
apart-map ns own (r ∷ more) all =
    All-cons (λ (q : ℕ × WordTree). is_listed (map (register_of ns) own) q.0 ≡ false) (register_of ns r) (map (register_of ns) more)
    (listed-map ns own r.0 ∙ All-head (λ (q : ℕ × ℕ). is_listed own q.0 ≡ false) r more all)
    (apart-map ns own more (All-tail (λ (q : ℕ × ℕ). is_listed own q.0 ≡ false) r more all))

with-map : (ns : List Node) (own more all : List (ℕ × ℕ)) → AreWith own more all → AreWith (map (register_of ns) own) (map (register_of ns) more) (map (register_of ns) all)
with-map ns own more all w = record { merged = merges-map (register_of ns) own more all w.merged; apart = apart-map ns own more w.apart }

number-map : (ns : List Node) (rs : List (ℕ × ℕ)) → map (λ (r : ℕ × WordTree). r.0) (map (register_of ns) rs) ≡ map number rs
number-map ns [] = refl
number-map ns (r ∷ rs) = ap (λ (l : List ℕ). r.0 ∷ l) (number-map ns rs)

pub own_numbers : (ns : List Node) (rs : List (ℕ × ℕ)) → AreRegistersFrom 1 (map (λ (r : ℕ × WordTree). r.0) (map (register_of ns) rs)) → AreRegistersFrom 1 (map number rs)
own_numbers ns rs p = subst (AreRegistersFrom 1) (number-map ns rs) p

-- ---- an assertion with further registers and memories

-- it is another one with these
pub record IsWithFurther (s : HeldSide) (regs : List (ℕ × ℕ)) (mems : List ℕ) (t : HeldSide) : Type 0 where
  pub pc : t.pc ≡ s.pc
  pub registers : AreWith s.regs regs t.regs
  pub rise : AreRegistersFrom 1 (map number t.regs)
  pub memories : t.mems ≡ s.mems ++ mems

all-both : {A : Type 0} (P : A → Type 0) (xs ys : List A) → AllByRecursion P xs → AllByRecursion P ys → AllByRecursion P (xs ++ ys)
all-both P [] ys p q = q
all-both P (x ∷ xs) ys p q = (p.0, all-both P xs ys p.1 q)

each-both : {A : Type 0} (P : A → Type 0) (xs ys : List A) → All P xs → All P ys → All P (xs ++ ys)
each-both P [] ys p q = q
each-both P (x ∷ xs) ys p q = All-cons P x (xs ++ ys) (All-head P x xs p) (each-both P xs ys (All-tail P x xs p) q)

further_fine : (ns : List Node) (s t : HeldSide) (regs : List (ℕ × ℕ)) (mems : List ℕ) → IsFineSide ns s → AreFineRegisters ns regs → AreFineMems ns mems → IsWithFurther s regs mems t → IsFineSide ns t
further_fine ns s t regs mems f r m w =
    let all-mems : map (mem_of ns) t.mems ≡ map (mem_of ns) s.mems ++ map (mem_of ns) mems = ap (map (mem_of ns)) w.memories ∙ map-append (mem_of ns) s.mems mems in
    let merged = merges-map (register_of ns) s.regs regs t.regs w.registers.merged in (
      record {
        pc = subst (λ (k : ℕ). IsWordAt ns k) (sym w.pc) f.0.pc;
        regs = merges-each (λ (q : ℕ × ℕ). IsWordAt ns q.1) s.regs regs t.regs w.registers.merged f.0.regs r.there;
        mems = subst (λ (l : List ℕ). AreMemsAt ns l) (sym w.memories) (each-both (λ (k : ℕ). IsMemAt ns k) s.mems mems f.0.mems m.0);
      },
      record {
        pc = subst (λ (k : ℕ). IsWord (word_of ns k)) (sym w.pc) f.1.pc;
        registers = subst (AreRegistersFrom 1) (sym (number-map ns t.regs)) w.rise;
        words = merges-all (λ (q : ℕ × WordTree). IsWord q.1) (map (register_of ns) s.regs) (map (register_of ns) regs) (map (register_of ns) t.regs) merged f.1.words r.words;
        mems = subst (AllByRecursion IsMem) (sym all-mems) (all-both IsMem (map (mem_of ns) s.mems) (map (mem_of ns) mems) f.1.mems m.1);
      },
    )

-- ---- a triple with further registers and memories

pub never : {b : Bool} → b ≡ true → b ≡ false → ⊥
never t f = cc

module _ (ns : List Node) (p : Held) (fine : IsFineHeld ns p) (regs : List (ℕ × ℕ)) (mems : List ℕ) where
  abbrev was : TripleTree
  was = triple_of ns p

  -- the triple that is made
  abbrev IsMade : TripleTree → Type 0
  IsMade u = IsFramed was u × (further was.pre.regs u.pre.regs ≡ map (register_of ns) regs) × (rest_after was.pre.mems u.pre.mems ≡ map (mem_of ns) mems)

  pub framed_made : (t : Held) → AreFineRegisters ns regs → AreFineMems ns mems → t.facts ≡ p.facts → IsWithFurther p.pre regs mems t.pre → t.code.ranges ≡ p.code.ranges → IsWithFurther p.post regs mems t.post → MadeIf ns IsMade (Some t)
  framed_made t r m facts pre code post =
      let before = (are_with (map (register_of ns) p.pre.regs) (map (register_of ns) regs) (map (register_of ns) t.pre.regs)).0 (with-map ns p.pre.regs regs t.pre.regs pre.registers) in
      let after = (are_with (map (register_of ns) p.post.regs) (map (register_of ns) regs) (map (register_of ns) t.post.regs)).0 (with-map ns p.post.regs regs t.post.regs post.registers) in
      let more = map (mem_of ns) mems in
      let pre-mems : map (mem_of ns) t.pre.mems ≡ map (mem_of ns) p.pre.mems ++ more = ap (map (mem_of ns)) pre.memories ∙ map-append (mem_of ns) p.pre.mems mems in
      let post-mems : map (mem_of ns) t.post.mems ≡ map (mem_of ns) p.post.mems ++ more = ap (map (mem_of ns)) post.memories ∙ map-append (mem_of ns) p.post.mems mems in
      let rest : rest_after (map (mem_of ns) p.pre.mems) (map (mem_of ns) t.pre.mems) ≡ more =
      ap (drop (length (map (mem_of ns) p.pre.mems))) pre-mems ∙ drop-append_seam (map (mem_of ns) p.pre.mems) more in (
        parts_fine ns t p.facts t.pre p.code.ranges t.post (facts, refl, code, refl) (fine_facts ns p fine) (further_fine ns p.pre t.pre regs mems (fine.there.pre, fine.fits.pre) r m pre) (fine_code ns p fine)
            (further_fine ns p.post t.post regs mems (fine.there.post, fine.fits.post) r m post),
        (
          record {
            facts = sym (ap (map (fact_of ns)) facts);
            code = sym code;
            pre_pc = sym (ap (word_of ns) pre.pc);
            post_pc = sym (ap (word_of ns) post.pc);
            pre_regs = before.0;
            post_regs = after.0;
            further_regs = sym before.1 ∙ after.1;
            pre_mems = (λ i. map (mem_of ns) p.pre.mems ++ rest i) ∙ sym pre-mems;
            post_mems = (λ i. map (mem_of ns) p.post.mems ++ rest i) ∙ sym post-mems;
          },
          sym before.1,
          rest,
        ),
      )

  -- none, where one of the registers is there
  lacks : {A : Type 0} (test : A → Bool) (xs : List A) → All (λ x. test x ≡ false) (filter (λ x. not (test x)) xs)
  lacks test [] = All-nil (λ x. test x ≡ false)
  lacks {A} test (x ∷ xs) = here (test x) refl (lacks test xs)
    where
      here : (b : Bool) → test x ≡ b → All (λ y. test y ≡ false) (filter (λ y. not (test y)) xs)
          → All (λ y. test y ≡ false) (cond (not b) (x ∷ filter (λ y. not (test y)) xs) (filter (λ y. not (test y)) xs))
      here true e rest = rest
      here false e rest = All-cons (λ y. test y ≡ false) x (filter (λ y. not (test y)) xs) e rest

  further-apart : (own all : List (ℕ × WordTree)) → All (λ r. is_listed own r.0 ≡ false) (further own all)
  further-apart own all = lacks (λ (r : ℕ × WordTree). is_listed own r.0) all

  apart-back : (own more : List (ℕ × ℕ)) → All (λ r. is_listed (map (register_of ns) own) r.0 ≡ false) (map (register_of ns) more) → All (λ r. is_listed own r.0 ≡ false) more
  apart-back own [] all = All-nil (λ (r : ℕ × ℕ). is_listed own r.0 ≡ false)
  apart-back own (r ∷ more) all =
      All-cons (λ (q : ℕ × ℕ). is_listed own q.0 ≡ false) r more
      (sym (listed-map ns own r.0) ∙ All-head (λ (q : ℕ × WordTree). is_listed (map (register_of ns) own) q.0 ≡ false) (register_of ns r) (map (register_of ns) more) all)
      (apart-back own more (All-tail (λ (q : ℕ × WordTree). is_listed (map (register_of ns) own) q.0 ≡ false) (register_of ns r) (map (register_of ns) more) all))

  pub none_framed_before : (All (λ r. is_listed p.pre.regs r.0 ≡ false) regs → ⊥) → MadeIf ns IsMade None
  none_framed_before lacks_none = λ u fits e. lacks_none (apart-back p.pre.regs regs (subst (λ (l : List (ℕ × WordTree)). All (λ r. is_listed was.pre.regs r.0 ≡ false) l) e.1 (further-apart was.pre.regs u.pre.regs)))

  pub none_framed_after : (All (λ r. is_listed p.post.regs r.0 ≡ false) regs → ⊥) → MadeIf ns IsMade None
  none_framed_after lacks_none =
      λ u fits e. lacks_none (apart-back p.post.regs regs (subst (λ (l : List (ℕ × WordTree)). All (λ r. is_listed was.post.regs r.0 ≡ false) l) (sym e.0.further_regs ∙ e.1) (further-apart was.post.regs u.post.regs)))
