-- Which short lines have a text beside a table.
use Rattle.std.specs.Prelude.{ℕ, ◌<◌, ◌^◌, map, List}
use Rattle.std.specs.List.{AllByRecursion}
use Rattle.mc_text.specs.Number.{IsNumber}
use Rattle.rv_words.specs.Ranges.{AreRanges}
use Rattle.tailrec_lang.specs.Registers.{AreRegistersFrom}
use Rattle.term_arena.specs.declared.node.Node.{Node}
use Rattle.term_arena.specs.Arena.{IsWordAt, IsMemAt, IsCondAt}
use Rattle.group_text.specs.Limits.{index_limit}
use Rattle.proof_text.specs.LineLimits.{AreRisingFrom}
use Rattle.held_terms.specs.declared.held.HeldValues.{HeldValues}
use Rattle.held_terms.specs.declared.held.HeldFact.{HeldFact}
use Rattle.held_terms.specs.declared.held.HeldFact.TheVariants as held
use Rattle.held_terms.specs.declared.held.HeldSide.{HeldSide}
use Rattle.short_text.specs.declared.short.Short.{Short}
use Rattle.short_text.specs.declared.short.Short.TheVariants as short

-- the number of a term of the table for a word, for a memory, of a condition of the table
abbrev pub IsWordNumber : List Node → ℕ → Type 0
IsWordNumber ns k = IsNumber k × IsWordAt ns k

abbrev pub IsMemNumber : List Node → ℕ → Type 0
IsMemNumber ns k = IsNumber k × IsMemAt ns k

abbrev pub IsCondNumber : List Node → ℕ → Type 0
IsCondNumber ns k = IsNumber k × IsCondAt ns k

abbrev pub AreHeldValues : List Node → HeldValues → Type 0
AreHeldValues ns v = AllByRecursion (IsWordNumber ns) v.words × AllByRecursion (IsMemNumber ns) v.mems

abbrev pub IsHeldFact : List Node → HeldFact → Type 0
IsHeldFact ns (held.WordIs a b) = IsWordNumber ns a × IsWordNumber ns b
IsHeldFact ns (held.MemIs a b) = IsMemNumber ns a × IsMemNumber ns b
IsHeldFact ns (held.So c) = IsCondNumber ns c
IsHeldFact ns (held.Gives def exit args results) = (def < index_limit) × (exit < index_limit) × AreHeldValues ns args × AreHeldValues ns results

-- the registers rise
pub record AreHeldRegisters (ns : List Node) (regs : List (ℕ × ℕ)) : Type 0 where
  pub rise : AreRegistersFrom 1 (map (λ r. r.0) regs)
  pub words : AllByRecursion (λ r. IsWordNumber ns r.1) regs

pub record IsHeldSide (ns : List Node) (s : HeldSide) : Type 0 where
  pub pc : IsWordNumber ns s.pc
  pub regs : AreHeldRegisters ns s.regs
  pub mems : AllByRecursion (IsMemNumber ns) s.mems

abbrev pub IsShort : List Node → Short → Type 0
IsShort ns (short.Axiom a word form) = (a < 2 ^ 64) × (word < 2 ^ 32)
IsShort ns (short.Inst p words mems) = IsNumber p × AreRisingFrom (IsWordNumber ns) 0 words × AreRisingFrom (IsMemNumber ns) 0 mems
IsShort ns (short.Frame p regs mems) = IsNumber p × AreHeldRegisters ns regs × AllByRecursion (IsMemNumber ns) mems
IsShort ns (short.ExtendCode p code) = IsNumber p × AreRanges code.ranges × AllByRecursion (λ r. AllByRecursion (λ b. b < 256) r.bytes) code.ranges
IsShort ns (short.Compose p q) = IsNumber p × IsNumber q
IsShort ns (short.Strengthen p facts pre) = IsNumber p × AllByRecursion (IsHeldFact ns) facts × IsHeldSide ns pre
IsShort ns (short.Weaken p facts post) = IsNumber p × AllByRecursion (IsHeldFact ns) facts × IsHeldSide ns post
IsShort ns (short.Discharge p facts) = IsNumber p × AllByRecursion (IsHeldFact ns) facts
IsShort ns (short.UseExit def exit) = (def < index_limit) × (exit < index_limit)
IsShort ns (short.Loop def cited) = (def < index_limit) × AllByRecursion IsNumber cited
IsShort ns (short.Forget k) = IsNumber k
