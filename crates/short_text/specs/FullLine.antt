-- Which full line, of version 1, a short line over a table stands for: one by the same rule, which cites the same theorems and states a
-- triple with the parts that the short line has. The triple's other parts can be computed from the theorems that are cited.
use Rattle.std.specs.Prelude.{◌≡◌, ℕ, List, map, Option, Some, None}
use Rattle.word_terms.specs.Tree.{WordTree, MemTree}
use Rattle.term_arena.specs.declared.node.Node.{Node}
use Rattle.term_arena.specs.Arena.{word_of, mem_of}
use Rattle.triple_kernel.specs.Tree.{TripleTree}
use Rattle.frame_compose.specs.Rules.{further, rest_after}
use Rattle.held_terms.specs.Held.{fact_of, register_of, side_of}
use Rattle.proof_text.specs.Line.{RuleTree, Axiom, Inst, Frame, Compose, ExtendCode, Strengthen, Weaken, Discharge, UseExit, LineTree, States, Loop, Forget, Further}
use Rattle.short_text.specs.declared.short.Short.{Short}
use Rattle.short_text.specs.declared.short.Short.TheVariants as short

-- the terms for variables of words, for variables of memories
abbrev pub words_for : List Node → List (ℕ × ℕ) → List (ℕ × WordTree)
words_for ns ps = map (λ p. (p.0, word_of ns p.1)) ps

abbrev pub mems_for : List Node → List (ℕ × ℕ) → List (ℕ × MemTree)
mems_for ns ps = map (λ p. (p.0, mem_of ns p.1)) ps

-- the rule, with the theorems that it cites
abbrev pub rule_over : List Node → Short → Option RuleTree
rule_over ns (short.Axiom a word form) = Some (Axiom a word form)
rule_over ns (short.Inst p words mems) = Some (Inst p (words_for ns words) (mems_for ns mems))
rule_over ns (short.Frame p regs mems) = Some (Frame p)
rule_over ns (short.ExtendCode p code) = Some (ExtendCode p)
rule_over ns (short.Compose p q) = Some (Compose p q)
rule_over ns (short.Strengthen p facts pre) = Some (Strengthen p)
rule_over ns (short.Weaken p facts post) = Some (Weaken p)
rule_over ns (short.Discharge p facts) = Some (Discharge p)
rule_over ns (short.UseExit def exit) = Some (UseExit def exit)
rule_over ns (short.Loop def cited) = None
rule_over ns (short.Forget k) = None

-- the triple has the parts that the short line states
abbrev pub HasStated : List Node → Short → TripleTree → Type 0
HasStated ns (short.Axiom a word form) t = Unit {0}
HasStated ns (short.Inst p words mems) t = Unit {0}
HasStated ns (short.Frame p regs mems) t = Unit {0}
HasStated ns (short.ExtendCode p code) t = t.code ≡ code.ranges
HasStated ns (short.Compose p q) t = Unit {0}
HasStated ns (short.Strengthen p facts pre) t = (t.facts ≡ map (fact_of ns) facts) × (t.pre ≡ side_of ns pre)
HasStated ns (short.Weaken p facts post) t = (t.facts ≡ map (fact_of ns) facts) × (t.post ≡ side_of ns post)
HasStated ns (short.Discharge p facts) t = t.facts ≡ map (fact_of ns) facts
HasStated ns (short.UseExit def exit) t = Unit {0}
HasStated ns (short.Loop def cited) t = Unit {0}
HasStated ns (short.Forget k) t = Unit {0}

-- a frame's triple has just the listed registers and memories besides those of the theorem p that it cites
abbrev pub HasFurther : List Node → Short → TripleTree → TripleTree → Type 0
HasFurther ns (short.Frame _ regs mems) p t = (further p.pre.regs t.pre.regs ≡ map (register_of ns) regs) × (rest_after p.pre.mems t.pre.mems ≡ map (mem_of ns) mems)
HasFurther ns _ p t = Unit {0}

-- the full line has the short line's rule, citations and stated parts
abbrev pub IsFullLine : List Node → Short → LineTree → Type 0
IsFullLine ns s (States rule t) = (rule_over ns s ≡ Some rule) × HasStated ns s t
IsFullLine ns s (Loop def cited) = s ≡ short.Loop def cited
IsFullLine ns s (Forget k) = s ≡ short.Forget k
IsFullLine ns s (Further p t) = ⊥
