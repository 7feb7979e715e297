-- Certificates of rewriting.
use Rattle.std.specs.Prelude.{◌≡◌, ℕ, List, map, take, slice_get, Some}
use Rattle.tailrec_lang.specs.Tree.{DefTree, GroupTree, def_tree, group_tree}
use Rattle.fun_laws.specs.declared.step.Rw.{Rw}
use Rattle.fun_laws.specs.declared.cert.Cert.{Cert}
use Rattle.fun_laws.specs.declared.judge.CertFault.{CertFault}
use Rattle.fun_laws.specs.declared.judge.CertFault.TheVariants as fault
use Rattle.fun_laws.specs.Rewriting.{AreRewritingSteps, IsRewritingStep}

-- the old group is the group, and the steps rewrite its definitions to the stated ones
pub record IsCertOf (g : GroupTree) (c : Cert) : Type 0 where
  pub old : group_tree c.old ≡ g
  pub steps : AreRewritingSteps c.steps g.defs (map def_tree c.result)

-- the steps before that one rewrite the definitions, and that one doesn't rewrite what they give
pub record IsFirstBad (rs : List Rw) (ds : List DefTree) (i : ℕ) : Type 0 where
  pub step : Rw
  pub there : slice_get rs i ≡ Some step
  pub before : List DefTree
  pub steps : AreRewritingSteps (take i rs) ds before
  pub bad : (es : List DefTree) → IsRewritingStep step before es → ⊥

-- the steps rewrite the group's definitions to others than the stated ones
pub record HasOtherResult (g : GroupTree) (c : Cert) : Type 0 where
  pub old : group_tree c.old ≡ g
  pub result : List DefTree
  pub steps : AreRewritingSteps c.steps g.defs result
  pub others : result ≡ map def_tree c.result → ⊥

-- why a certificate isn't accepted; no two of the first three can hold of one, since steps have one result
abbrev pub IsCertFault : GroupTree → Cert → CertFault → Type 0
IsCertFault g c fault.Group = group_tree c.old ≡ g → ⊥
IsCertFault g c (fault.Step i) = (group_tree c.old ≡ g) × IsFirstBad c.steps g.defs i
IsCertFault g c fault.Result = HasOtherResult g c
IsCertFault g c fault.NoMemory = Unit {0}
