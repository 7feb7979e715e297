-- Which terms the short line of a line of version 1 has. Put into a table in this order, each with its subterms, children first, they are
-- the terms of version 2 in the order in which they are first used.
use Rattle.std.specs.Prelude.{ℕ, List, [], ◌∷◌, ◌++◌, flat_map, map, option_map, unwrap_or}
use Rattle.group_text.specs.TermLimits.{FitsCond, FitsMem, FitsWord, depth_limit}
use Rattle.term_arena.specs.Arena.{Tree, OfWord, OfMem, OfCond}
use Rattle.sep_assert.specs.Tree.{AssertionTree}
use Rattle.triple_kernel.specs.Tree.{TripleTree}
use Rattle.frame_compose.specs.Rules.{further, rest_after}
use Rattle.proof_text.specs.Line.{RuleTree, Axiom, Inst, Frame, Compose, ExtendCode, Strengthen, Weaken, Discharge, UseExit, LineTree, States, Loop, Forget, Further}
use Rattle.verdicts.specs.Instance.{History, after_line}
use Rattle.held_terms.specs.Terms.{assertion_terms, fact_terms}

-- what a precondition has besides one that a theorem has
abbrev pub further_terms : AssertionTree → AssertionTree → List Tree
further_terms own all = map (λ r. OfWord r.1) (further own.regs all.regs) ++ map OfMem (rest_after own.mems all.mems)

-- of a triple by a rule, after lines that left that history
abbrev pub stated_terms : History → RuleTree → TripleTree → List Tree
stated_terms h (Axiom address word form) t = []
stated_terms h (Inst p words mems) t = map (λ x. OfWord x.1) words ++ map (λ x. OfMem x.1) mems
stated_terms h (Frame p) t = unwrap_or (option_map (λ p. further_terms p.pre t.pre) (h.theorem p)) []
stated_terms h (Compose p q) t = []
stated_terms h (ExtendCode p) t = []
stated_terms h (Strengthen p) t = flat_map fact_terms t.facts ++ assertion_terms t.pre
stated_terms h (Weaken p) t = flat_map fact_terms t.facts ++ assertion_terms t.post
stated_terms h (Discharge p) t = flat_map fact_terms t.facts
stated_terms h (UseExit def exit) t = []

-- of a line
abbrev pub line_terms : History → LineTree → List Tree
line_terms h (States rule t) = stated_terms h rule t
line_terms h (Loop def cited) = []
line_terms h (Forget k) = []
line_terms h (Further p t) = []

-- of lines, one after the other
abbrev pub lines_terms : History → List LineTree → List Tree
lines_terms h [] = []
lines_terms h (l ∷ ls) = line_terms h l ++ lines_terms (after_line h l) ls

-- ---- terms that have a text

-- a term that is at most that deep, and whose numbers fit
abbrev pub FitsTerm : ℕ → Tree → Type 0
FitsTerm d (OfWord t) = FitsWord d t
FitsTerm d (OfMem m) = FitsMem d m
FitsTerm d (OfCond c) = FitsCond d c

-- .. at most as deep as terms of a text are
abbrev pub IsTerm : Tree → Type 0
IsTerm x = FitsTerm depth_limit x
