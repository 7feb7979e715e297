-- Lines that state a triple with the code of theorems that have the group's own.
use Rattle.std.proofs.Common.{◌≡◌, ℕ, Bool, true, false, true≢false, Option, Some, None, List, refl, sym, ap, ◌∙◌}
use Rattle.std.specs.Prelude.{◌&&◌, IfSome, IsSomeAnd, option_map}
use Rattle.rv_words.specs.declared.range.Range.{Range}
use Rattle.rv_words.specs.Ranges.{range_bytes}
use Rattle.tailrec_lang.specs.Tree.{GroupTree}
use Rattle.sep_assert.proofs.SameCode.{same_ranges}
use Rattle.triple_kernel.specs.Tree.{TripleTree}
use Rattle.frame_compose.specs.Rules.{IsComposed}
use Rattle.proof_text.specs.LineLimits.{IsTriple}
use Rattle.proof_text.specs.inner.OwnCode.{IsOwnCode}
use Rattle.proof_text.specs.Line.{Axiom, Compose, Discharge, ExtendCode, Frame, Inst, RuleTree, Strengthen, UseExit, Weaken, code_or_own}
use Rattle.term_arena.specs.declared.node.Node.{Node}
use Rattle.held_terms.specs.declared.held.Held.{Held}
use Rattle.held_terms.specs.Held.{triple_of}
use Rattle.short_text.specs.declared.short.Short.{Short}
use Rattle.short_text.specs.declared.short.Short.TheVariants as short
use Rattle.short_text.specs.FullLine.{mems_for, words_for}
use Rattle.short_text.specs.SpelledShort.{short_or_own}
use Rattle.verdicts.specs.Instance.{History, Meets}
use Rattle.held_definitions.specs.Theorems.{Theorems, held_by_number, theorem_at}
use Rattle.checker.specs.Short.{IsStatedBy}
use Rattle.checker.specs.inner.Sharing.{IsGiven, IsOwnStated, code_giver, short_giver, states_own}
use Rattle.held_definitions.proofs.MarkLemmas.{over_same}
use Rattle.checker.proofs.StatingLemmas.{rule_of}

and-both : (a b : Bool) → a && b ≡ true → (a ≡ true) × (b ≡ true)
and-both true b e = (refl, e)
and-both false b e = absurd (true≢false (sym e))

-- the triple that a theorem's numbers stand for has its code
pub theorem_code : (ns : List Node) (held : Theorems) (k : ℕ) (own : List Range) → IfSome (held_by_number held k) (λ h. h.code.ranges ≡ own) → IfSome (theorem_at ns held k) (λ q. q.code ≡ own)
theorem_code ns held k own has = go (held_by_number held k) has
  where
    go : (o : Option Held) → IfSome o (λ h. h.code.ranges ≡ own) → IfSome (option_map (triple_of ns) o) (λ q. q.code ≡ own)
    go None is = is
    go (Some h) is = is

module _ (g : GroupTree) (h : History) (ns : List Node) (marked : ℕ → Bool) (have : (k : ℕ) → marked k ≡ true → IfSome (h.theorem k) (λ q. q.code ≡ g.code)) (own : IsOwnCode g.code) where
  code-of : (o : Option TripleTree) (R : TripleTree → Type 0) (t : TripleTree) → IfSome o (λ q. q.code ≡ g.code) → IsSomeAnd o R → ((q : TripleTree) → R q → q.code ≡ t.code) → t.code ≡ g.code
  code-of None R t has so same = absurd so
  code-of (Some q) R t has so same = sym (same q so) ∙ has

  -- both have it, so it is that of both together
  union-of : (o r : Option TripleTree) (t : TripleTree) → IsTriple t → IfSome o (λ q. q.code ≡ g.code) → IfSome r (λ q. q.code ≡ g.code) → IsSomeAnd o (λ p. IsSomeAnd r (λ q. IsComposed p q t)) → t.code ≡ g.code
  union-of None r t fits has second so = absurd so
  union-of (Some p) None t fits has second so = absurd so
  union-of (Some p) (Some q) t fits has second so =
      same_ranges t.code g.code fits.code own.0 (sym so.code ∙ sym (over_same p.code q.code (has ∙ sym second)) ∙ ap range_bytes has)

  pub own_stated : (all : Bool) (s : Short) → states_own marked all s ≡ true → IsOwnStated g h ns (short_or_own g.code all s)
  own_stated all (short.Axiom a w form) e = absurd (true≢false (sym e))
  own_stated all (short.Inst p words mems) e = record {
    each = λ t x. code-of (h.theorem p) _ t (have p e) (rule_of g h ns (short.Inst p words mems) t (Inst p (words_for ns words) (mems_for ns mems)) x x.1.full.0) (λ q i. i.code);
  }
  own_stated all (short.Frame p regs mems) e = record { each = λ t x. code-of (h.theorem p) _ t (have p e) (rule_of g h ns (short.Frame p regs mems) t (Frame p) x x.1.full.0) (λ q i. i.code) }
  own_stated all (short.ExtendCode p code) e = record { each = λ t x. x.1.full.1 ∙ ap (λ (b : Bool). code_or_own g.code b code.ranges) e }
  own_stated all (short.Compose p q) e = record {
    each = λ t x.
        let both = and-both (marked p) (marked q) e in
        union-of (h.theorem p) (h.theorem q) t x.1.fits.1 (have p both.0) (have q both.1) (rule_of g h ns (short.Compose p q) t (Compose p q) x x.1.full.0);
  }
  own_stated all (short.Strengthen p facts pre) e = record { each = λ t x. code-of (h.theorem p) _ t (have p e) (rule_of g h ns (short.Strengthen p facts pre) t (Strengthen p) x x.1.full.0) (λ q i. i.code) }
  own_stated all (short.Weaken p facts post) e = record { each = λ t x. code-of (h.theorem p) _ t (have p e) (rule_of g h ns (short.Weaken p facts post) t (Weaken p) x x.1.full.0) (λ q i. i.code) }
  own_stated all (short.Discharge p facts) e = record { each = λ t x. code-of (h.theorem p) _ t (have p e) (rule_of g h ns (short.Discharge p facts) t (Discharge p) x x.1.full.0) (λ q i. i.code) }
  own_stated all (short.UseExit d exit) e = record { each = λ t x. ap (λ (q : TripleTree). q.code) (rule_of g h ns (short.UseExit d exit) t (UseExit d exit) x x.1.full.0).1.same }
  own_stated all (short.Loop d cited) e = absurd (true≢false (sym e))
  own_stated all (short.Forget k) e = absurd (true≢false (sym e))

-- ---- the theorem that gives its code

given-as : {S : TripleTree → Type 0} (o : Option TripleTree) (R : TripleTree → Type 0) → IsSomeAnd o R → ((q : TripleTree) → R q → S q) → IsSomeAnd o S
given-as None R so same = absurd so
given-as (Some q) R so same = same q so

-- .. by a rule
pub given_by : (g : GroupTree) (h : History) (r : RuleTree) (t : TripleTree) → Meets g h r t → IsGiven h (code_giver r) t.code
given_by g h (Axiom a w form) t m = tt
given_by g h (Inst p words mems) t m = given-as (h.theorem p) _ m (λ q i. i.code)
given_by g h (Frame p) t m = given-as (h.theorem p) _ m (λ q i. i.code)
given_by g h (Compose p q) t m = tt
given_by g h (ExtendCode p) t m = tt
given_by g h (Strengthen p) t m = given-as (h.theorem p) _ m (λ q i. i.code)
given_by g h (Weaken p) t m = given-as (h.theorem p) _ m (λ q i. i.code)
given_by g h (Discharge p) t m = given-as (h.theorem p) _ m (λ q i. i.code)
given_by g h (UseExit def exit) t m = tt

-- .. by a short line
pub given_stated : (g : GroupTree) (h : History) (ns : List Node) (all : Bool) (s : Short) (t : TripleTree) → IsStatedBy g h ns (short_or_own g.code all s) t → IsGiven h (short_giver s) t.code
given_stated g h ns all (short.Axiom a w form) t x = tt
given_stated g h ns all (short.Inst p words mems) t x = given_by g h (Inst p (words_for ns words) (mems_for ns mems)) t (rule_of g h ns (short.Inst p words mems) t (Inst p (words_for ns words) (mems_for ns mems)) x x.1.full.0)
given_stated g h ns all (short.Frame p regs mems) t x = given_by g h (Frame p) t (rule_of g h ns (short.Frame p regs mems) t (Frame p) x x.1.full.0)
given_stated g h ns all (short.ExtendCode p code) t x = tt
given_stated g h ns all (short.Compose p q) t x = tt
given_stated g h ns all (short.Strengthen p facts pre) t x = given_by g h (Strengthen p) t (rule_of g h ns (short.Strengthen p facts pre) t (Strengthen p) x x.1.full.0)
given_stated g h ns all (short.Weaken p facts post) t x = given_by g h (Weaken p) t (rule_of g h ns (short.Weaken p facts post) t (Weaken p) x x.1.full.0)
given_stated g h ns all (short.Discharge p facts) t x = given_by g h (Discharge p) t (rule_of g h ns (short.Discharge p facts) t (Discharge p) x x.1.full.0)
given_stated g h ns all (short.UseExit d exit) t x = tt
given_stated g h ns all (short.Loop d cited) t x = tt
given_stated g h ns all (short.Forget k) t x = tt

-- ---- lines as they are spelled

pub not_own : (own : List Range) (s : Short) → short_or_own own false s ≡ s
not_own own (short.Axiom a w form) = refl
not_own own (short.Inst p words mems) = refl
not_own own (short.Frame p regs mems) = refl
not_own own (short.ExtendCode p code) = refl
not_own own (short.Compose p q) = refl
not_own own (short.Strengthen p facts pre) = refl
not_own own (short.Weaken p facts post) = refl
not_own own (short.Discharge p facts) = refl
not_own own (short.UseExit d exit) = refl
not_own own (short.Loop d cited) = refl
not_own own (short.Forget k) = refl

-- a line that closes a definition or forgets a theorem is spelled so
pub spelled_loop : (own : List Range) (all : Bool) (s : Short) (d : ℕ) (cited : List ℕ) → short_or_own own all s ≡ short.Loop d cited → s ≡ short.Loop d cited
spelled_loop own all (short.Axiom a w form) d cited e = absurd cc
spelled_loop own all (short.Inst p words mems) d cited e = absurd cc
spelled_loop own all (short.Frame p regs mems) d cited e = absurd cc
spelled_loop own all (short.ExtendCode p code) d cited e = absurd cc
spelled_loop own all (short.Compose p q) d cited e = absurd cc
spelled_loop own all (short.Strengthen p facts pre) d cited e = absurd cc
spelled_loop own all (short.Weaken p facts post) d cited e = absurd cc
spelled_loop own all (short.Discharge p facts) d cited e = absurd cc
spelled_loop own all (short.UseExit j exit) d cited e = absurd cc
spelled_loop own all (short.Loop j ks) d cited e = e
spelled_loop own all (short.Forget k) d cited e = absurd cc

pub spelled_forget : (own : List Range) (all : Bool) (s : Short) (k : ℕ) → short_or_own own all s ≡ short.Forget k → s ≡ short.Forget k
spelled_forget own all (short.Axiom a w form) k e = absurd cc
spelled_forget own all (short.Inst p words mems) k e = absurd cc
spelled_forget own all (short.Frame p regs mems) k e = absurd cc
spelled_forget own all (short.ExtendCode p code) k e = absurd cc
spelled_forget own all (short.Compose p q) k e = absurd cc
spelled_forget own all (short.Strengthen p facts pre) k e = absurd cc
spelled_forget own all (short.Weaken p facts post) k e = absurd cc
spelled_forget own all (short.Discharge p facts) k e = absurd cc
spelled_forget own all (short.UseExit d exit) k e = absurd cc
spelled_forget own all (short.Loop d cited) k e = absurd cc
spelled_forget own all (short.Forget j) k e = e
