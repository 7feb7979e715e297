-- The terms of a line that has a text have a text.
use Rattle.std.proofs.Common.{ℕ, ◌+◌, List, [], ◌∷◌, ◌++◌, Option, Some, None, length, map, flat_map}
use Rattle.std.specs.Prelude.{All, not, option_map, unwrap_or}
use Rattle.std.specs.List.{AllByRecursion}
use Rattle.std.proofs.lemmas.List.Elements.{All-append, All-cons, All-from_recursion, All-map, All-nil}
use Rattle.word_terms.specs.Tree.{WordTree, MemTree}
use Rattle.tailrec_lang.specs.Tree.{ValuesTree}
use Rattle.sep_assert.specs.Tree.{AssertionTree}
use Rattle.triple_kernel.specs.Tree.{FactTree, WordIs, MemIs, So, Gives, TripleTree}
use Rattle.group_text.specs.TermLimits.{IsMem, IsWord}
use Rattle.group_text.specs.Limits.{IsValues}
use Rattle.frame_compose.specs.Rules.{is_listed}
use Rattle.term_arena.specs.Arena.{Tree, OfWord, OfMem, OfCond}
use Rattle.proof_text.specs.Line.{RuleTree, Axiom, Inst, Frame, Compose, ExtendCode, Strengthen, Weaken, Discharge, UseExit, LineTree, States, Loop, Forget, Further}
use Rattle.proof_text.specs.LineLimits.{AreRisingFrom, IsAssertion, IsFact, IsLine, IsRule, IsTriple}
use Rattle.verdicts.specs.Instance.{History, after_line}
use Rattle.held_terms.specs.Terms.{assertion_terms, fact_terms, values_terms}
use Rattle.proof_v2.specs.ShortTerms.{IsTerm, further_terms, line_terms, lines_terms, stated_terms}
use Rattle.proof_v2.proofs.ShortOf.{rest-fits, some-fit}

both : (xs ys : List Tree) → All IsTerm xs → All IsTerm ys → All IsTerm (xs ++ ys)
both xs ys h k = All-append IsTerm xs ys h k

first : (x : Tree) (xs : List Tree) → IsTerm x → All IsTerm xs → All IsTerm (x ∷ xs)
first x xs h k = All-cons IsTerm x xs h k

none : All IsTerm []
none = All-nil IsTerm

words-fit : (ts : List WordTree) → AllByRecursion IsWord ts → All IsTerm (map OfWord ts)
words-fit ts h = All-map IsTerm OfWord ts (All-from_recursion IsWord ts h)

mems-fit : (ms : List MemTree) → AllByRecursion IsMem ms → All IsTerm (map OfMem ms)
mems-fit ms h = All-map IsTerm OfMem ms (All-from_recursion IsMem ms h)

-- .. beside numbers
registers-fit : (rs : List (ℕ × WordTree)) → AllByRecursion (λ r. IsWord r.1) rs → All IsTerm (map (λ r. OfWord r.1) rs)
registers-fit rs h = All-map IsTerm (λ (r : ℕ × WordTree). OfWord r.1) rs (All-from_recursion (λ (r : ℕ × WordTree). IsWord r.1) rs h)

each-rising : {X : Type 0} (P : X → Type 0) (least : ℕ) (xs : List (ℕ × X)) → AreRisingFrom P least xs → AllByRecursion (λ x. P x.1) xs
each-rising P least [] h = tt
each-rising P least (x ∷ xs) h = (h.2, each-rising P (x.0 + 1) xs h.3)

put-words-fit : (xs : List (ℕ × WordTree)) → AreRisingFrom IsWord 0 xs → All IsTerm (map (λ x. OfWord x.1) xs)
put-words-fit xs h = registers-fit xs (each-rising IsWord 0 xs h)

put-mems-fit : (xs : List (ℕ × MemTree)) → AreRisingFrom IsMem 0 xs → All IsTerm (map (λ x. OfMem x.1) xs)
put-mems-fit xs h = All-map IsTerm (λ (x : ℕ × MemTree). OfMem x.1) xs (All-from_recursion (λ (x : ℕ × MemTree). IsMem x.1) xs (each-rising IsMem 0 xs h))

values-fit : (v : ValuesTree) → IsValues v → All IsTerm (values_terms v)
values-fit v h = both (map OfWord v.words) (map OfMem v.mems) (words-fit v.words h.0) (mems-fit v.mems h.1)

fact-fits : (f : FactTree) → IsFact f → All IsTerm (fact_terms f)
fact-fits (WordIs a b) h = first (OfWord a) (OfWord b ∷ []) h.0 (first (OfWord b) [] h.1 none)
fact-fits (MemIs a b) h = first (OfMem a) (OfMem b ∷ []) h.0 (first (OfMem b) [] h.1 none)
fact-fits (So c) h = first (OfCond c) [] h none
fact-fits (Gives def exit args results) h = both (values_terms args) (values_terms results) (values-fit args h.2) (values-fit results h.3)

facts-fit : (fs : List FactTree) → AllByRecursion IsFact fs → All IsTerm (flat_map fact_terms fs)
facts-fit [] h = none
facts-fit (f ∷ fs) h = both (fact_terms f) (flat_map fact_terms fs) (fact-fits f h.0) (facts-fit fs h.1)

side-fits : (a : AssertionTree) → IsAssertion a → All IsTerm (assertion_terms a)
side-fits a h = first (OfWord a.pc) (map (λ r. OfWord r.1) a.regs ++ map OfMem a.mems) h.pc (both (map (λ r. OfWord r.1) a.regs) (map OfMem a.mems) (registers-fit a.regs h.words) (mems-fit a.mems h.mems))

further-fit : (own a : AssertionTree) → IsAssertion a → All IsTerm (further_terms own a)
further-fit own a h = both _ _
    (registers-fit _ (some-fit (λ (r : ℕ × WordTree). IsWord r.1) (λ r. not (is_listed own.regs r.0)) a.regs h.words))
    (mems-fit _ (rest-fits IsMem (length own.mems) a.mems h.mems))

framed-fit : (o : Option TripleTree) (a : AssertionTree) → IsAssertion a → All IsTerm (unwrap_or (option_map (λ p. further_terms p.pre a) o) [])
framed-fit None a h = none
framed-fit (Some q) a h = further-fit q.pre a h

stated-fit : (h : History) (rule : RuleTree) (t : TripleTree) → IsRule rule → IsTriple t → All IsTerm (stated_terms h rule t)
stated-fit h (Axiom a w form) t r f = none
stated-fit h (Inst p words mems) t r f = both (map (λ x. OfWord x.1) words) (map (λ x. OfMem x.1) mems) (put-words-fit words r.1) (put-mems-fit mems r.2)
stated-fit h (Frame p) t r f = framed-fit (h.theorem p) t.pre f.pre
stated-fit h (Compose p q) t r f = none
stated-fit h (ExtendCode p) t r f = none
stated-fit h (Strengthen p) t r f = both (flat_map fact_terms t.facts) (assertion_terms t.pre) (facts-fit t.facts f.facts) (side-fits t.pre f.pre)
stated-fit h (Weaken p) t r f = both (flat_map fact_terms t.facts) (assertion_terms t.post) (facts-fit t.facts f.facts) (side-fits t.post f.post)
stated-fit h (Discharge p) t r f = facts-fit t.facts f.facts
stated-fit h (UseExit d e) t r f = none

pub line-fits : (h : History) (l : LineTree) → IsLine l → All IsTerm (line_terms h l)
line-fits h (States rule t) f = stated-fit h rule t f.0 f.1
line-fits h (Loop d cited) f = none
line-fits h (Forget k) f = none
line-fits h (Further p t) f = none

pub lines-fit : (h : History) (ls : List LineTree) → AllByRecursion IsLine ls → All IsTerm (lines_terms h ls)
lines-fit h [] f = none
lines-fit h (l ∷ ls) f = both (line_terms h l) (lines_terms (after_line h l) ls) (line-fits h l f.0) (lines-fit (after_line h l) ls f.1)
