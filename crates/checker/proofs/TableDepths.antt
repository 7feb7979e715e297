-- The terms of a table are within the limits, and so is a short line beside one.
use Rattle.std.proofs.Common.{◌≡◌, ℕ, ◌+◌, ◌≤◌, Option, Some, List, [], ◌∷◌, ◌++◌, map, max, refl, sym, ap, ◌∙◌, subst, append_assoc, inl, inr}
use Rattle.std.specs.Prelude.{All, slice_get, unwrap_or}
use Rattle.std.specs.List.{AllByRecursion}
use Rattle.std.proofs.lemmas.List.{append-nil, map-append}
use Rattle.std.proofs.lemmas.List.Elements.{All-nil, All-cons}
use Rattle.std.proofs.lemmas.List.Sums.{fold-append}
use Rattle.word_terms.specs.Tree.{WordTree}
use Rattle.group_text.specs.TermLimits.{IsMem, IsWord, depth_limit}
use Rattle.term_arena.specs.declared.node.Node.{Node}
use Rattle.term_arena.specs.declared.node.Node.TheVariants as node
use Rattle.term_arena.specs.Arena.{AreChildren, Tree, TreeInRange, tree_depth, mem_of, tree_of, tree_over, trees_of, word_of}
use Rattle.term_arena.specs.inner.Depths.{NodeInRange}
use Rattle.term_arena.proofs.Places.{at-push_cases, map-at}
use Rattle.term_arena.proofs.DepthLemmas.{ranges-push}
use Rattle.term_arena.proofs.TreeLemmas.{trees-none, trees-push}
use Rattle.group_text.specs.Limits.{IsValues}
use Rattle.held_terms.specs.declared.held.HeldFact.{HeldFact}
use Rattle.held_terms.specs.declared.held.HeldFact.TheVariants as held
use Rattle.held_terms.specs.declared.held.HeldSide.{HeldSide}
use Rattle.held_terms.specs.declared.held.HeldValues.{HeldValues}
use Rattle.held_terms.specs.Held.{AreMemsAt, AreValuesAt, AreWordsAt, IsFactAt, fact_of, register_of, values_over}
use Rattle.proof_text.specs.LineLimits.{AreRisingFrom, IsFact}
use Rattle.short_text.specs.declared.short.Short.{Short}
use Rattle.short_text.specs.declared.short.Short.TheVariants as short
use Rattle.short_text.specs.ShortLimits.{AreHeldRegisters, AreHeldValues, IsHeldFact, IsHeldSide, IsMemNumber, IsShort, IsWordNumber}
use Rattle.short_text.specs.Table.{AreNextTerms, HasNumbers, IsNextTerm, IsTable, depth_in, depth_over, depths_of, with_depth}
use Rattle.derived_triples.specs.Fine.{AreFineFacts, AreFineMems, AreFineRegisters, IsFineSide}
use Rattle.checker.specs.Short.{IsFineShort}
use Rattle.derived_triples.specs.inner.Depths.{FitsTree}
use Rattle.derived_triples.proofs.DepthLemmas.{tree_fits}
use Rattle.derived_triples.proofs.LimitLemmas.{same_numbers}

-- ---- depths by a table's own reckoning

depth-at : (ds : List ℕ) (ts : List Tree) (k : ℕ) (t : Tree) → ds ≡ map tree_depth ts → slice_get ts k ≡ Some t → depth_in ds k ≡ tree_depth t
depth-at ds ts k t e at = ap (λ (l : List ℕ). depth_in l k) e ∙ ap (λ (o : Option ℕ). unwrap_or o 0) (map-at tree_depth ts k t at)

depths-none : depths_of [] ≡ []
unfolding depths_of
depths-none = refl

depths-push : (ns : List Node) (n : Node) → depths_of (ns ++ n ∷ []) ≡ with_depth (depths_of ns) n
unfolding depths_of
depths-push ns n = fold-append with_depth [] ns (n ∷ [])

node-range : (n : Node) → HasNumbers n → NodeInRange n
node-range (node.Const n) h = h
node-range (node.WordVar i) h = h
node-range (node.Bin op a b) h = tt
node-range (node.Extend ext a) h = tt
node-range (node.Load width m a) h = tt
node-range (node.MemVar i) h = h
node-range (node.Store width m a v) h = tt
node-range (node.Compare cmp a b) h = tt
node-range (node.Neg c) h = tt
node-range (node.Inside width m a) h = tt

-- it is the depth of each tree, and within the limit
record IsLow (ns : List Node) : Type 0 where
  depths : depths_of ns ≡ map tree_depth (trees_of ns)
  ranges : (k : ℕ) (t : Tree) → tree_of ns k ≡ Some t → TreeInRange t
  low : (k : ℕ) (t : Tree) → tree_of ns k ≡ Some t → tree_depth t ≤ depth_limit

no-depths : IsLow []
no-depths = record {
  depths = depths-none ∙ sym (ap (map tree_depth) trees-none);
  ranges = λ k t e. let bad = ap (λ (ts : List Tree). slice_get ts k) (sym trees-none) ∙ e in absurd (cc);
  low = λ k t e. let bad = ap (λ (ts : List Tree). slice_get ts k) (sym trees-none) ∙ e in absurd (cc);
}

module _ (ns : List Node) (h : IsLow ns) where
  at : (k : ℕ) (t : Tree) → tree_of ns k ≡ Some t → depth_in (depths_of ns) k ≡ tree_depth t
  at k t e = depth-at (depths_of ns) (trees_of ns) k t h.depths e

  over : (n : Node) → AreChildren ns n → depth_over (depths_of ns) n ≡ tree_depth (tree_over (trees_of ns) n)
  over (node.Const n) cs = refl
  over (node.WordVar i) cs = refl
  over (node.Bin op a b) cs = λ i. max (at a _ cs.0 i) (at b _ cs.1 i) + 1
  over (node.Extend ext a) cs = λ i. at a _ cs i + 1
  over (node.Load width m a) cs = λ i. max (at m _ cs.0 i) (at a _ cs.1 i) + 1
  over (node.MemVar i) cs = refl
  over (node.Store width m a v) cs = λ i. max (at m _ cs.0 i) (max (at a _ cs.1 i) (at v _ cs.2 i)) + 1
  over (node.Compare cmp a b) cs = λ i. max (at a _ cs.0 i) (at b _ cs.1 i) + 1
  over (node.Neg c) cs = λ i. at c _ cs i + 1
  over (node.Inside width m a) cs = λ i. max (at m _ cs.0 i) (at a _ cs.1 i) + 1

  low-next : (n : Node) → IsNextTerm ns n → IsLow (ns ++ n ∷ [])
  low-next n next = record {
    depths = depths-push ns n ∙ (λ i. h.depths i ++ over n next.children i ∷ []) ∙ sym (map-append tree_depth (trees_of ns) (tree_over (trees_of ns) n ∷ [])) ∙ ap (map tree_depth) (sym (trees-push ns n));
    ranges = ranges-push ns h.ranges n next.children (node-range n next.numbers);
    low = λ k t e. elim (at-push_cases (trees_of ns) (tree_over (trees_of ns) n) k t (ap (λ (ts : List Tree). slice_get ts k) (sym (trees-push ns n)) ∙ e)) [
      | inl old ↦ h.low k t old.1
      | inr last ↦ subst (λ (u : Tree). tree_depth u ≤ depth_limit) last.1 (subst (λ (d : ℕ). d ≤ depth_limit) (over n next.children) next.depth)
    ];
  }

low-all : (before more : List Node) → IsLow before → AreNextTerms before more → IsLow (before ++ more)
low-all before [] h next = subst IsLow (sym (append-nil before)) h
low-all before (n ∷ ns) h next = subst IsLow (append_assoc before (n ∷ []) ns) (low-all (before ++ n ∷ []) ns (low-next before h n next.0) next.1)

-- each term of a table is within the limits
table-fits : (ns : List Node) → IsTable ns → (k : ℕ) (t : Tree) → tree_of ns k ≡ Some t → FitsTree depth_limit t
table-fits ns table k t e = let h = low-all [] ns no-depths table in tree_fits depth_limit t (h.ranges k t e) (h.low k t e)

-- ---- items

all-as : {A B : Type 0} (P : A → Type 0) (Q : B → Type 0) (f : A → B) → ((x : A) → P x → Q (f x)) → (xs : List A) → AllByRecursion P xs → AllByRecursion Q (map f xs)
all-as P Q f to [] h = tt
all-as P Q f to (x ∷ xs) h = (to x h.0, all-as P Q f to xs h.1)

all-at : {A : Type 0} (P R : A → Type 0) → ((x : A) → P x → R x) → (xs : List A) → AllByRecursion P xs → All R xs
all-at P R to [] h = All-nil R
all-at P R to (x ∷ xs) h = All-cons R x xs (to x h.0) (all-at P R to xs h.1)

-- ---- parts of lines

module _ (ns : List Node) (fits : (k : ℕ) (t : Tree) → tree_of ns k ≡ Some t → FitsTree depth_limit t) where
  word-fits : (k : ℕ) → IsWordNumber ns k → IsWord (word_of ns k)
  word-fits k n = fits k _ n.1

  mem-fits : (k : ℕ) → IsMemNumber ns k → IsMem (mem_of ns k)
  mem-fits k n = fits k _ n.1

  words-at : (ks : List ℕ) → AllByRecursion (IsWordNumber ns) ks → AreWordsAt ns ks
  words-at ks h = all-at (IsWordNumber ns) _ (λ k n. n.1) ks h

  mems-at : (ks : List ℕ) → AllByRecursion (IsMemNumber ns) ks → AreMemsAt ns ks
  mems-at ks h = all-at (IsMemNumber ns) _ (λ k n. n.1) ks h

  mems-fit : (ks : List ℕ) → AllByRecursion (IsMemNumber ns) ks → AllByRecursion IsMem (map (mem_of ns) ks)
  mems-fit ks h = all-as (IsMemNumber ns) IsMem (mem_of ns) mem-fits ks h

  fine-mems : (ks : List ℕ) → AllByRecursion (IsMemNumber ns) ks → AreFineMems ns ks
  fine-mems ks h = (mems-at ks h, mems-fit ks h)

  values-at : (v : HeldValues) → AreHeldValues ns v → AreValuesAt ns v
  values-at v h = record { words = words-at v.words h.0; mems = mems-at v.mems h.1 }

  values-fit : (v : HeldValues) → AreHeldValues ns v → IsValues (values_over ns v)
  values-fit v h = (all-as (IsWordNumber ns) IsWord (word_of ns) word-fits v.words h.0, mems-fit v.mems h.1)

  fact-at : (f : HeldFact) → IsHeldFact ns f → IsFactAt ns f
  fact-at (held.WordIs a b) h = (h.0.1, h.1.1)
  fact-at (held.MemIs a b) h = (h.0.1, h.1.1)
  fact-at (held.So c) h = h.1
  fact-at (held.Gives def exit args results) h = (values-at args h.2, values-at results h.3)

  fact-fits : (f : HeldFact) → IsHeldFact ns f → IsFact (fact_of ns f)
  fact-fits (held.WordIs a b) h = (word-fits a h.0, word-fits b h.1)
  fact-fits (held.MemIs a b) h = (mem-fits a h.0, mem-fits b h.1)
  fact-fits (held.So c) h = fits c _ h.1
  fact-fits (held.Gives def exit args results) h = (h.0, h.1, values-fit args h.2, values-fit results h.3)

  fine-facts : (fs : List HeldFact) → AllByRecursion (IsHeldFact ns) fs → AreFineFacts ns fs
  fine-facts fs h = (all-at (IsHeldFact ns) _ fact-at fs h, all-as (IsHeldFact ns) IsFact (fact_of ns) fact-fits fs h)

  fine-registers : (regs : List (ℕ × ℕ)) → AreHeldRegisters ns regs → AreFineRegisters ns regs
  fine-registers regs h = record {
    there = all-at (λ (r : ℕ × ℕ). IsWordNumber ns r.1) _ (λ r n. n.1) regs h.words;
    rise = h.rise;
    words = all-as (λ (r : ℕ × ℕ). IsWordNumber ns r.1) (λ (r : ℕ × WordTree). IsWord r.1) (register_of ns) (λ r n. word-fits r.1 n) regs h.words;
  }

  fine-side : (s : HeldSide) → IsHeldSide ns s → IsFineSide ns s
  fine-side s h =
      let regs = fine-registers s.regs h.regs in (
        record { pc = h.pc.1; regs = regs.there; mems = mems-at s.mems h.mems },
        record { pc = word-fits s.pc h.pc; registers = (same_numbers ns s.regs).0 h.regs.rise; words = regs.words; mems = mems-fit s.mems h.mems },
      )

  -- terms for variables, which rise
  rising-at : (there : ℕ → Type 0) (R : ℕ × ℕ → Type 0) → ((p : ℕ × ℕ) → there p.1 → R p) → (least : ℕ) (ps : List (ℕ × ℕ)) → AreRisingFrom there least ps → All R ps
  rising-at there R to least [] h = All-nil R
  rising-at there R to least (p ∷ ps) h = All-cons R p ps (to p h.2) (rising-at there R to (p.0 + 1) ps h.3)

  rising-fit : {T : Type 0} (there : ℕ → Type 0) (Fits : T → Type 0) (of : ℕ → T) → ((k : ℕ) → there k → Fits (of k)) → (least : ℕ) (ps : List (ℕ × ℕ)) → AreRisingFrom there least ps
      → AreRisingFrom Fits least (map (λ (p : ℕ × ℕ). (p.0, of p.1)) ps)
  rising-fit there Fits of to least [] h = tt
  rising-fit there Fits of to least (p ∷ ps) h = (h.0, h.1, to p.1 h.2, rising-fit there Fits of to (p.0 + 1) ps h.3)

  fine-line : (s : Short) → IsShort ns s → IsFineShort ns s
  fine-line (short.Axiom a word form) h = h
  fine-line (short.Inst p words mems) h = (
    h.0,
    record { each_word = rising-at (IsWordNumber ns) _ (λ p n. n.1) 0 words h.1; each_mem = rising-at (IsMemNumber ns) _ (λ p n. n.1) 0 mems h.2 },
    rising-fit (IsWordNumber ns) IsWord (word_of ns) word-fits 0 words h.1,
    rising-fit (IsMemNumber ns) IsMem (mem_of ns) mem-fits 0 mems h.2,
  )
  fine-line (short.Frame p regs mems) h = (h.0, fine-registers regs h.1, fine-mems mems h.2)
  fine-line (short.ExtendCode p code) h = (h.0, (h.1, h.2))
  fine-line (short.Compose p q) h = h
  fine-line (short.Strengthen p facts pre) h = (h.0, fine-facts facts h.1, fine-side pre h.2)
  fine-line (short.Weaken p facts post) h = (h.0, fine-facts facts h.1, fine-side post h.2)
  fine-line (short.Discharge p facts) h = (h.0, fine-facts facts h.1)
  fine-line (short.UseExit def exit) h = h
  fine-line (short.Loop def cited) h = h
  fine-line (short.Forget k) h = h

pub fine_beside_table : (ns : List Node) (s : Short) → IsTable ns → IsShort ns s → IsFineShort ns s
fine_beside_table ns s table h = fine-line ns (table-fits ns table) s h
