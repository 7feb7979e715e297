-- What is exported, all together.
use Rattle.std.proofs.Common.{◌≡◌, ℕ, ◌+◌, ◌<◌, ◌^◌, Bool, List, length, sym, subst, arith}
use Rattle.std.proofs.lemmas.List.{length-map}
use Rattle.tailrec_lang.specs.declared.group.Group.{Group}
use Rattle.tailrec_lang.specs.Tree.{def_tree, group_tree}
use Rattle.tailrec_lang.specs.WellFormed.{IsWellFormed}
use Rattle.smt_terms.specs.Meaning.{FunTree}
use Rattle.smt_terms.specs.Sorts.{IsScript}
use Rattle.group_terms.specs.Range.{GroupInRange}
use Rattle.smt_export.specs.Reach.{EntersAgain, ReachesByCalls}
use Rattle.smt_export.specs.Telling.{HasFuns, TellsEval}
use Rattle.smt_export.specs.Scripts.{script}
use Rattle.smt_export.specs.inner.Exported.{HasRange, IsClosed}
use Rattle.smt_export.specs.inner.Reach.{AreMarks, is_marked}
use Rattle.smt_export.specs.inner.Room.{HasRoom}
use Rattle.smt_export.proofs.Fits.{fits}
use Rattle.smt_export.proofs.Outcomes.{script_tells}
use Rattle.smt_export.proofs.Reached.{marks-closed, reached-below, reached-marked}
use Rattle.smt_export.proofs.Listed.{script-has}
use Rattle.smt_export.proofs.SortedScripts.{script-is}

module _ (g : Group) (def : ℕ) (marks : List Bool) (funs : List FunTree) (wf : IsWellFormed (group_tree g)) (lt : def < length g.defs) (few : length g.defs < 2 ^ 64)
    (range : GroupInRange (group_tree g)) (room : HasRoom (group_tree g)) (count : length marks ≡ def + 1) (are : AreMarks (group_tree g) def marks)
    (none : (d : ℕ) → ReachesByCalls (group_tree g) def d → EntersAgain (group_tree g) d → ⊥) (is : funs ≡ script (group_tree g) (is_marked def marks) def) where
  has : HasRange (group_tree g)
  has = fits (group_tree g) wf range room (let same = length-map g.defs def_tree in omega (arith, same, few))

  closed : IsClosed (group_tree g) (is_marked def marks)
  closed = marks-closed (group_tree g) wf def marks are count none

  there : def < length (group_tree g).defs
  there = let same = length-map g.defs def_tree in omega (arith, same, lt)

  pub exported_script : IsScript funs
  exported_script = subst IsScript (sym is) (script-is (group_tree g) (is_marked def marks) has closed def)

  pub exported_sorts : (d : ℕ) → ReachesByCalls (group_tree g) def d → HasFuns (group_tree g) funs d
  exported_sorts d r =
      subst (λ fs. HasFuns (group_tree g) fs d) (sym is)
      (script-has (group_tree g) (is_marked def marks) def d there (reached-below (group_tree g) wf def d r) (reached-marked (group_tree g) wf def marks are count d r))

  pub exported_tells : (d : ℕ) → ReachesByCalls (group_tree g) def d → TellsEval (group_tree g) d funs
  exported_tells d r =
      subst (TellsEval (group_tree g) d) (sym is)
      (script_tells (group_tree g) (is_marked def marks) def d has closed there (reached-below (group_tree g) wf def d r) (reached-marked (group_tree g) wf def marks are count d r))
