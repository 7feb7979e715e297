-- Which lines of a proof have a text.
use Rattle.std.specs.Prelude.{◌≡◌, ℕ, ◌+◌, ◌≤◌, ◌<◌, ◌^◌, true, map, List, [], ◌∷◌, is_some}
use Rattle.std.specs.List.{AllByRecursion}
use Rattle.mc_text.specs.Number.{IsNumber}
use Rattle.rv_words.specs.Ranges.{AreRanges}
use Rattle.group_text.specs.TermLimits.{IsWord, IsMem, IsCond}
use Rattle.sep_assert.specs.Tree.{AssertionTree}
use Rattle.triple_kernel.specs.Tree.{FactTree, WordIs, MemIs, So, Gives, TripleTree}
use Rattle.proof_text.specs.Line.{RuleTree, Axiom, Inst, Frame, Compose, ExtendCode, Strengthen, Weaken, Discharge, UseExit, LineTree, States, Loop, Forget, Further}
use Rattle.group_text.specs.Version.{Version, version_1}
use Rattle.tailrec_lang.specs.Registers.{AreRegistersFrom}
use Rattle.group_text.specs.Limits.{index_limit, IsValues}

abbrev pub IsFact : FactTree → Type 0
IsFact (WordIs a b) = IsWord a × IsWord b
IsFact (MemIs a b) = IsMem a × IsMem b
IsFact (So c) = IsCond c
IsFact (Gives def exit args results) = (def < index_limit) × (exit < index_limit) × IsValues args × IsValues results

-- the registers rise
pub record IsAssertion (a : AssertionTree) : Type 0 where
  pub pc : IsWord a.pc
  pub registers : AreRegistersFrom 1 (map (λ r. r.0) a.regs)
  pub words : AllByRecursion (λ r. IsWord r.1) a.regs
  pub mems : AllByRecursion IsMem a.mems

pub record IsTriple (t : TripleTree) : Type 0 where
  pub facts : AllByRecursion IsFact t.facts
  pub pre : IsAssertion t.pre
  pub code : AreRanges t.code
  pub bytes : AllByRecursion (λ r. AllByRecursion (λ b. b < 256) r.bytes) t.code
  pub post : IsAssertion t.post

-- terms for variables from `least` on, which rise, so that none stands twice
abbrev pub AreRisingFrom : {X : Type 0} → (X → Type 0) → ℕ → List (ℕ × X) → Type 0
AreRisingFrom Fits least [] = Unit {0}
AreRisingFrom Fits least (s ∷ ss) = (least ≤ s.0) × (s.0 < index_limit) × Fits s.1 × AreRisingFrom Fits (s.0 + 1) ss

abbrev pub IsRule : RuleTree → Type 0
IsRule (Axiom address word form) = (address < 2 ^ 64) × (word < 2 ^ 32)
IsRule (Inst p words mems) = IsNumber p × AreRisingFrom IsWord 0 words × AreRisingFrom IsMem 0 mems
IsRule (Frame p) = IsNumber p
IsRule (Compose p q) = IsNumber p × IsNumber q
IsRule (ExtendCode p) = IsNumber p
IsRule (Strengthen p) = IsNumber p
IsRule (Weaken p) = IsNumber p
IsRule (Discharge p) = IsNumber p
IsRule (UseExit def exit) = (def < index_limit) × (exit < index_limit)

-- in texts of that version
abbrev pub IsLineIn : Version → LineTree → Type 0
IsLineIn v (States rule t) = IsRule rule × IsTriple t
IsLineIn v (Loop def cited) = (def < index_limit) × AllByRecursion IsNumber cited
IsLineIn v (Forget k) = IsNumber k
IsLineIn v (Further p t) = (is_some v.further ≡ true) × IsNumber p × IsTriple t

-- ---- the version without a further rule

abbrev pub IsLine : LineTree → Type 0
IsLine l = IsLineIn version_1 l
