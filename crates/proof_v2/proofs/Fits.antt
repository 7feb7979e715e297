-- A short line that is within the limits has a text beside its table, if that has fewer than 2 ^ 64 terms.
use Rattle.std.proofs.Common.{◌≡◌, ℕ, ◌+◌, ◌≤◌, ◌<◌, ◌^◌, Bool, true, false, cond, List, [], ◌∷◌, length, map, filter, ap, subst, refl, arith}
use Rattle.std.specs.Prelude.{All}
use Rattle.std.specs.List.{AllByRecursion}
use Rattle.std.proofs.lemmas.Option.{slice_get_within}
use Rattle.std.proofs.lemmas.List.Elements.{All-head, All-tail, All-weaker, recursion_from_All}
use Rattle.tailrec_lang.specs.Registers.{AreRegistersFrom}
use Rattle.group_text.specs.TermLimits.{IsMem, IsWord}
use Rattle.proof_text.specs.LineLimits.{AreRisingFrom, IsAssertion, IsFact}
use Rattle.term_arena.specs.declared.node.Node.{Node}
use Rattle.term_arena.specs.Arena.{OfCond, OfMem, OfWord, IsCondAt, IsMemAt, IsWordAt, cond_of, mem_of, trees_of, word_of}
use Rattle.term_arena.proofs.TreeLemmas.{length-trees}
use Rattle.held_terms.specs.declared.held.HeldFact.{HeldFact}
use Rattle.held_terms.specs.declared.held.HeldFact.TheVariants as held
use Rattle.held_terms.specs.declared.held.HeldSide.{HeldSide}
use Rattle.held_terms.specs.declared.held.HeldValues.{HeldValues}
use Rattle.held_terms.specs.Held.{AreValuesAt, IsFactAt, IsSideAt, fact_of, register_of, side_of}
use Rattle.short_text.specs.ShortLimits.{AreHeldRegisters, AreHeldValues, IsCondNumber, IsHeldFact, IsHeldSide, IsMemNumber, IsShort, IsWordNumber}
use Rattle.short_text.specs.declared.short.Short.{Short}
use Rattle.short_text.specs.declared.short.Short.TheVariants as short
use Rattle.checker.specs.Short.{IsFineShort}

-- ---- numbers of a list that rises

-- the numbers beside which things stand are the same for other things
pub numbers_same : (ns : List Node) (rs : List (ℕ × ℕ)) → map (λ r. r.0) (map (register_of ns) rs) ≡ map (λ r. r.0) rs
numbers_same ns [] = refl
numbers_same ns (r ∷ rs) = ap (λ (ks : List ℕ). r.0 ∷ ks) (numbers_same ns rs)

-- what rises from a number on rises from each smaller one on
rises-lower : (low high : ℕ) (rs : List ℕ) → low ≤ high → AreRegistersFrom high rs → AreRegistersFrom low rs
rises-lower low high [] le h = h
rises-lower low high (r ∷ rs) le h = let first = h.0 in (omega (arith, le, first), h.1, h.2)

-- some of what rises rises
pub rises-some : {A : Type 0} (test : ℕ × A → Bool) (least : ℕ) (rs : List (ℕ × A)) → AreRegistersFrom least (map (λ r. r.0) rs) → AreRegistersFrom least (map (λ r. r.0) (filter test rs))
rises-some test least [] h = h
rises-some test least (r ∷ rs) h = by (rises-some test (r.0 + 1) rs h.2) (test r)
  where
    by : AreRegistersFrom (r.0 + 1) (map (λ q. q.0) (filter test rs)) → (b : Bool) → AreRegistersFrom least (map (λ q. q.0) (cond b (r ∷ filter test rs) (filter test rs)))
    by more true = (h.0, h.1, more)
    by more false = let first = h.0 in rises-lower least (r.0 + 1) (map (λ q. q.0) (filter test rs)) (omega (arith, first)) more

-- ---- numbers of an arena that has fewer than 2 ^ 64

module _ (ns : List Node) (few : length ns < 2 ^ 64) where
  pub word_number : (k : ℕ) → IsWordAt ns k → IsWordNumber ns k
  word_number k at = let low : k < length (trees_of ns) = slice_get_within (trees_of ns) k (OfWord (word_of ns k)) at in (omega (arith, low, few, length-trees ns), at)

  pub mem_number : (k : ℕ) → IsMemAt ns k → IsMemNumber ns k
  mem_number k at = let low : k < length (trees_of ns) = slice_get_within (trees_of ns) k (OfMem (mem_of ns k)) at in (omega (arith, low, few, length-trees ns), at)

  pub cond_number : (k : ℕ) → IsCondAt ns k → IsCondNumber ns k
  cond_number k at = let low : k < length (trees_of ns) = slice_get_within (trees_of ns) k (OfCond (cond_of ns k)) at in (omega (arith, low, few, length-trees ns), at)

  pub word_numbers : (ks : List ℕ) → All (IsWordAt ns) ks → AllByRecursion (IsWordNumber ns) ks
  word_numbers ks at = recursion_from_All (IsWordNumber ns) ks (All-weaker (IsWordAt ns) (IsWordNumber ns) word_number ks at)

  pub mem_numbers : (ks : List ℕ) → All (IsMemAt ns) ks → AllByRecursion (IsMemNumber ns) ks
  mem_numbers ks at = recursion_from_All (IsMemNumber ns) ks (All-weaker (IsMemAt ns) (IsMemNumber ns) mem_number ks at)

  -- ---- beside the numbers of registers and variables

  pub registers_fit : (rs : List (ℕ × ℕ)) → AreRegistersFrom 1 (map (λ r. r.0) rs) → All (λ r. IsWordAt ns r.1) rs → AreHeldRegisters ns rs
  registers_fit rs rise at = record {
    rise = rise;
    words = recursion_from_All (λ (r : ℕ × ℕ). IsWordNumber ns r.1) rs (All-weaker (λ (r : ℕ × ℕ). IsWordAt ns r.1) (λ r. IsWordNumber ns r.1) (λ r here. word_number r.1 here) rs at);
  }

  module _ {X : Type 0} (fits : X → Type 0) (of : ℕ → X) (there number : ℕ → Type 0) (numbered : (k : ℕ) → there k → number k) where
    pub rising_fit : (least : ℕ) (ps : List (ℕ × ℕ)) → AreRisingFrom fits least (map (λ p. (p.0, of p.1)) ps) → All (λ p. there p.1) ps → AreRisingFrom number least ps
    rising_fit least [] rise at = rise
    rising_fit least (p ∷ ps) rise at = (rise.0, rise.1, numbered p.1 (All-head (λ (q : ℕ × ℕ). there q.1) p ps at), rising_fit (p.0 + 1) ps rise.3 (All-tail (λ (q : ℕ × ℕ). there q.1) p ps at))

  -- ---- facts and assertions

  pub values_fit : (v : HeldValues) → AreValuesAt ns v → AreHeldValues ns v
  values_fit v at = (word_numbers v.words at.words, mem_numbers v.mems at.mems)

  pub fact_fits : (f : HeldFact) → IsFact (fact_of ns f) → IsFactAt ns f → IsHeldFact ns f
  fact_fits (held.WordIs a b) h at = (word_number a at.0, word_number b at.1)
  fact_fits (held.MemIs a b) h at = (mem_number a at.0, mem_number b at.1)
  fact_fits (held.So c) h at = cond_number c at
  fact_fits (held.Gives def exit args results) h at = (h.0, h.1, values_fit args at.0, values_fit results at.1)

  pub facts_fit : (fs : List HeldFact) → AllByRecursion IsFact (map (fact_of ns) fs) → All (IsFactAt ns) fs → AllByRecursion (IsHeldFact ns) fs
  facts_fit [] h at = h
  facts_fit (f ∷ fs) h at = (fact_fits f h.0 (All-head (IsFactAt ns) f fs at), facts_fit fs h.1 (All-tail (IsFactAt ns) f fs at))

  pub side_fits : (s : HeldSide) → IsAssertion (side_of ns s) → IsSideAt ns s → IsHeldSide ns s
  side_fits s h at = record { pc = word_number s.pc at.pc; regs = registers_fit s.regs (subst (λ (ks : List ℕ). AreRegistersFrom 1 ks) (numbers_same ns s.regs) h.registers) at.regs; mems = mem_numbers s.mems at.mems }

  -- ---- a short line that is within the limits

  pub line_fits : (s : Short) → IsFineShort ns s → IsShort ns s
  line_fits (short.Axiom a word form) f = f
  line_fits (short.Inst p words mems) f = (
    f.0,
    rising_fit IsWord (word_of ns) (IsWordAt ns) (IsWordNumber ns) word_number 0 words f.2 f.1.each_word,
    rising_fit IsMem (mem_of ns) (IsMemAt ns) (IsMemNumber ns) mem_number 0 mems f.3 f.1.each_mem,
  )
  line_fits (short.Frame p regs mems) f = (f.0, registers_fit regs f.1.rise f.1.there, mem_numbers mems f.2.0)
  line_fits (short.ExtendCode p code) f = (f.0, f.1.0, f.1.1)
  line_fits (short.Compose p q) f = f
  line_fits (short.Strengthen p facts pre) f = (f.0, facts_fit facts f.1.1 f.1.0, side_fits pre f.2.1 f.2.0)
  line_fits (short.Weaken p facts post) f = (f.0, facts_fit facts f.1.1 f.1.0, side_fits post f.2.1 f.2.0)
  line_fits (short.Discharge p facts) f = (f.0, facts_fit facts f.1.1 f.1.0)
  line_fits (short.UseExit def exit) f = f
  line_fits (short.Loop def cited) f = f
  line_fits (short.Forget k) f = f
