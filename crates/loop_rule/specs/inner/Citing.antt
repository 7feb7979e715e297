-- Theorems cited for the leaves of a definition, one after the other.
use Rattle.std.specs.Prelude.{◌≡◌, ℕ, List, map, drop, All, IfSome, Result, Ok, Err, Option, ⊤}
use Rattle.tailrec_lang.specs.Tree.{def_tree, group_tree}
use Rattle.sep_assert.specs.Tree.{assertion_tree}
use Rattle.triple_kernel.specs.declared.fault.RuleFault.{RuleFault}
use Rattle.triple_kernel.specs.declared.fault.RuleFault.TheVariants.{NoInstance, NoMemory}
use Rattle.triple_kernel.specs.Tree.{FactTree, TripleTree, fact_tree}
use Rattle.triple_kernel.specs.Valid.{Valid}
use Rattle.loop_rule.specs.declared.leading.Citing.{Citing}
use Rattle.loop_rule.specs.declared.kept.KeptLeaves.{KeptLeaves}
use Rattle.loop_rule.specs.Tree.{LeafTree}
use Rattle.loop_rule.specs.Leaves.{parameters, at_entry}
use Rattle.loop_rule.specs.Rule.{kept_at}
use Rattle.loop_rule.specs.Judge.{Judge, Went}
use Rattle.loop_rule.specs.inner.Rule.{AreLed, AreNotLed}

-- the judge may be asked, and judges the leaves of this definition
pub record IsOf {J : Type 0} (j : Judge J) (w : Citing) (a : J) : Type 0 where
  pub ready : j.IsReady a
  pub group : (j.closing a).group ≡ group_tree w.group.now
  pub def : (j.closing a).def ≡ def_tree w.def.now

module _ {J : Type 0} (j : Judge J) (w : Citing) (theorem : ℕ → Option TripleTree) where
  -- the theorems that are cited from that place on lead to these leaves, one to each, and those from place n on are left
  abbrev pub Cites : List LeafTree → ℕ → ℕ → Type 0
  Cites leaves place n = AreLed (j.Holds (group_tree w.group.now)) (group_tree w.group.now) (def_tree w.def.now) leaves (map theorem (drop place w.cited.now)) (map theorem (drop n w.cited.now))

  -- those from that place on don't
  abbrev pub CitesNone : List LeafTree → ℕ → Type 0
  CitesNone leaves place = AreNotLed (group_tree w.group.now) (def_tree w.def.now) leaves (map theorem (drop place w.cited.now))

  -- what a walk over these leaves answers: the theorems that are cited from that place on lead to them, those from place n on are
  -- left, and the way is what it was; or they don't
  abbrev pub Answers : List LeafTree → ℕ → List FactTree → List FactTree → Result ℕ RuleFault → Type 0
  Answers leaves place way now (Ok n) = Cites leaves place n × (now ≡ way)
  Answers leaves place way now (Err NoInstance) = CitesNone leaves place
  Answers leaves place way now (Err NoMemory) = ⊤

-- what a walk over these leaves does with a judge, and what it answers
pub record Walks {J : Type 0} (j : Judge J) (w : Citing) (leaves : List LeafTree) (place : ℕ) (old new : J) (r : Result ℕ RuleFault) : Type 0 where
  pub went : Went j leaves old new
  pub answers : Answers j w (j.closing old).theorem leaves place (j.way old) (j.way new) r

-- ---- theorems in a list

-- the entry is that of the definition with its parameters, and the theorems are of its group
pub record AreOfGroup (k : KeptLeaves) : Type 0 where
  pub entry : assertion_tree k.entry ≡ at_entry (group_tree k.group.now) (def_tree k.def.now) (parameters (group_tree k.group.now))
  pub groups : All (λ o. IfSome o (λ t. group_tree t.0 ≡ group_tree k.group.now)) k.kept.now

-- leaves that are judged by theorems in a list, some of which were forgotten. Each theorem is valid.
abbrev pub kept_judge : Judge KeptLeaves
kept_judge = record {
  closing = λ k. record { group = group_tree k.group.now; def = def_tree k.def.now; theorem = kept_at k.kept.now };
  way = λ k. map fact_tree k.way;
  IsReady = AreOfGroup;
  Since = λ a b. Unit {0};
  steps = λ k. 0;
  most = λ c l. 0;
  Holds = Valid;
}
