-- The terms of lines: those that judging them looks at.
use Rattle.std.specs.Prelude.{ℕ, Bool, true, false, List, [], ◌++◌, Option, map, slice_get}
use Rattle.term_arena.specs.declared.node.Node.{Node}
use Rattle.term_arena.specs.Arena.{Tree, OfWord, OfMem}
use Rattle.tailrec_lang.specs.Tree.{GroupTree}
use Rattle.loop_rule.specs.Rule.{IsExit}
use Rattle.triple_kernel.specs.Tree.{TripleTree}
use Rattle.instr_axioms.specs.Axiom.{axiom_of}
use Rattle.short_text.specs.declared.short.Short.{Short}
use Rattle.short_text.specs.declared.short.Short.TheVariants as short
use Rattle.proof_text.specs.Line.{Axiom, Compose, Discharge, ExtendCode, Forget, Frame, Further, Inst, LineTree, Loop, RuleTree, States, Strengthen, UseExit, Weaken}
use Rattle.held_terms.specs.Subterms.{HasFacts, HasSide}
use Rattle.held_terms.specs.Terms.{triple_terms, HasSubterms, theorem_terms}
use Rattle.held_definitions.specs.ClosingTerms.{closing_terms}

-- ---- how many nodes they have

-- whether the numbers of a stated triple are compared with those of the theorems that the rule cites, and no term is looked at
abbrev pub compares_numbers : RuleTree → Bool
compares_numbers (Axiom address word form) = false
compares_numbers (Inst p words mems) = false
compares_numbers (Frame p) = true
compares_numbers (Compose p q) = true
compares_numbers (ExtendCode p) = true
compares_numbers (Strengthen p) = false
compares_numbers (Weaken p) = false
compares_numbers (Discharge p) = false
compares_numbers (UseExit def exit) = false

-- whether judging the line only compares numbers of terms, or forgets a theorem
abbrev pub is_compared : LineTree → Bool
is_compared (States rule stated) = compares_numbers rule
is_compared (Loop def cited) = false
is_compared (Forget k) = true
is_compared (Further p stated) = false

-- the terms of the triple that a line states
abbrev pub stated_triple_terms : LineTree → List Tree
stated_triple_terms (States rule stated) = triple_terms stated
stated_triple_terms (Loop def cited) = []
stated_triple_terms (Forget k) = []
stated_triple_terms (Further p stated) = triple_terms stated

-- the terms that a rule puts in for variables
abbrev pub put_in_terms : RuleTree → List Tree
put_in_terms (Axiom address word form) = []
put_in_terms (Inst p words mems) = map (λ q. OfWord q.1) words ++ map (λ q. OfMem q.1) mems
put_in_terms (Frame p) = []
put_in_terms (Compose p q) = []
put_in_terms (ExtendCode p) = []
put_in_terms (Strengthen p) = []
put_in_terms (Weaken p) = []
put_in_terms (Discharge p) = []
put_in_terms (UseExit def exit) = []

-- the terms of a line: those of the triple that it states, and those that its rule puts in for variables
abbrev pub whole_line_terms : LineTree → List Tree
whole_line_terms (States rule stated) = triple_terms stated ++ put_in_terms rule
whole_line_terms (Loop def cited) = []
whole_line_terms (Forget k) = []
whole_line_terms (Further p stated) = triple_terms stated

-- the terms of what the theorems have to state by which a line closes a definition
abbrev pub loop_terms : GroupTree → LineTree → List Tree
loop_terms g (States rule stated) = []
loop_terms g (Loop def cited) = closing_terms g (slice_get g.defs def)
loop_terms g (Forget k) = []
loop_terms g (Further p stated) = []

-- whether the line closes a definition
abbrev pub is_loop : LineTree → Bool
is_loop (States rule stated) = false
is_loop (Loop def cited) = true
is_loop (Forget k) = false
is_loop (Further p stated) = false

-- ---- the different ones

-- the terms of the theorems from which a rule goes on
abbrev pub premise_terms : (ℕ → Option TripleTree) → RuleTree → List Tree
premise_terms theorem (Axiom address word form) = []
premise_terms theorem (Inst p words mems) = theorem_terms (theorem p)
premise_terms theorem (Frame p) = theorem_terms (theorem p)
premise_terms theorem (Compose p q) = theorem_terms (theorem p) ++ theorem_terms (theorem q)
premise_terms theorem (ExtendCode p) = theorem_terms (theorem p)
premise_terms theorem (Strengthen p) = theorem_terms (theorem p)
premise_terms theorem (Weaken p) = theorem_terms (theorem p)
premise_terms theorem (Discharge p) = theorem_terms (theorem p)
premise_terms theorem (UseExit def exit) = []

-- the list has each subterm of the triple that a line states and of the theorems from which its rule goes on
abbrev pub HasLine : (ℕ → Option TripleTree) → LineTree → List Tree → Type 0
HasLine theorem (States rule stated) ts = HasSubterms ts (triple_terms stated) × HasSubterms ts (premise_terms theorem rule)
HasLine theorem (Loop def cited) ts = Unit {0}
HasLine theorem (Forget k) ts = Unit {0}
HasLine theorem (Further p stated) ts = Unit {0}

-- ---- short lines

-- whether judging the line only compares and copies numbers of terms, or forgets a theorem
abbrev pub is_copied : Short → Bool
is_copied (short.Frame p regs mems) = true
is_copied (short.ExtendCode p code) = true
is_copied (short.Compose p q) = true
is_copied (short.Forget k) = true
is_copied s = false

-- the list has each subterm of the theorem from which the line's rule goes on, of what the line states in place of what that has
-- there, and of the triple that is computed of no theorem. None has what is looked at where a line closes a definition.
abbrev pub HasShort : GroupTree → (ℕ → Option TripleTree) → List Node → Short → List Tree → Type 0
HasShort g theorem ns (short.Axiom a word form) ts = HasSubterms ts (theorem_terms (axiom_of a word form))
HasShort g theorem ns (short.Inst p words mems) ts = HasSubterms ts (theorem_terms (theorem p))
HasShort g theorem ns (short.Strengthen p facts pre) ts = HasSubterms ts (theorem_terms (theorem p)) × HasSide ns pre ts
HasShort g theorem ns (short.Weaken p facts post) ts = HasSubterms ts (theorem_terms (theorem p)) × HasSide ns post ts
HasShort g theorem ns (short.Discharge p facts) ts = HasSubterms ts (theorem_terms (theorem p)) × HasFacts ns facts ts
HasShort g theorem ns (short.UseExit def exit) ts = (t : TripleTree) → IsExit g def exit t → HasSubterms ts (triple_terms t)
HasShort g theorem ns (short.Loop def cited) ts = ⊥
HasShort g theorem ns s ts = Unit {0}
