-- When names have the sorts that terms and bodies ask for.
use Rattle.std.specs.Prelude.{◌≡◌, ℕ, ◌<◌, List, codes, true, Option, Some, None}
use Rattle.tailrec_lang.specs.Tree.{GroupTree}
use Rattle.smt_terms.specs.declared.sort.Sort.{Sort}
use Rattle.smt_terms.specs.Operators.{Rule}
use Rattle.smt_terms.specs.Meaning.{FunTree}
use Rattle.smt_terms.specs.Sorts.{Rules, Sorts, rule_of, sorts_fit}
use Rattle.smt_export.specs.declared.told.Told.{Told}
use Rattle.smt_export.specs.Told.{word_name, mem_name, dom_name, fun_name, params, told_sort}
use Rattle.smt_export.specs.Telling.{IsToldOf}
use Rattle.smt_terms.specs.Knowing.{word_sort, bytes_sort, domain_sort}

-- so many words and memories have their sorts, and other names have none
pub record InSort (n m : ℕ) (s : Sorts) : Type 0 where
  pub words : (i : ℕ) → i < n → s (word_name i) ≡ word_sort
  pub bytes : (i : ℕ) → i < m → s (mem_name i) ≡ bytes_sort
  pub domains : (i : ℕ) → i < m → s (dom_name i) ≡ domain_sort
  pub truth : s (codes "true") ≡ None
  pub functions : (d : ℕ) (t : Told) → s (fun_name d t) ≡ None

-- each rule is that of a function
abbrev pub AreRules : Rules → Type 0
AreRules fs = (name : List ℕ) (rule : Rule) → fs name ≡ Some rule → (f : FunTree) × (rule ≡ rule_of f)

-- the functions of definition d take what the group's definitions are entered with, and have the sort of what they tell
pub record HasRules (g : GroupTree) (fs : Rules) (d : ℕ) : Type 0 where
  pub there : (t : Told) → IsToldOf g t → (rule : Rule) × (fs (fun_name d t) ≡ Some rule) × ((ss : List (Option Sort)) → sorts_fit (params g) ss ≡ true → rule ss ≡ Some (told_sort t))
