-- When a definition is closed by theorems, and what follows of it then.
use Rattle.std.specs.Prelude.{◌≡◌, ℕ, List, [], ◌∷◌, length, slice_get, Option, Some, None}
use Rattle.std.specs.List.{AllZip}
use Rattle.tailrec_lang.specs.declared.group.Exit.{Exit}
use Rattle.tailrec_lang.specs.declared.group.Group.{Group}
use Rattle.tailrec_lang.specs.Tree.{ValuesTree, DefTree, GroupTree}
use Rattle.tailrec_lang.specs.WellFormed.{exit_words}
use Rattle.rv_words.specs.Ranges.{range_bytes}
use Rattle.sep_assert.specs.Code.{IsWithin}
use Rattle.triple_kernel.specs.declared.triple.Triple.{Triple}
use Rattle.triple_kernel.specs.Tree.{Gives, TripleTree, triple_tree}
use Rattle.triple_kernel.specs.Rules.{AreAmong}
use Rattle.triple_kernel.specs.Valid.{Valid}
use Rattle.loop_rule.specs.Tree.{LeafTree}
use Rattle.loop_rule.specs.Leaves.{variables_after, parameters, at_entry, at_exit, leaves_of}

-- the triple leads from the definition's entry to the leaf: it supposes no more than the facts of the way there
pub record LeadsTo (g : GroupTree) (def : DefTree) (leaf : LeafTree) (p : TripleTree) : Type 0 where
  pub pre : p.pre ≡ at_entry g def (parameters g)
  pub post : p.post ≡ leaf.post
  pub facts : AreAmong p.facts leaf.facts
  pub code : IsWithin (range_bytes p.code) (range_bytes g.code)

-- the theorem that is cited leads to the leaf, if there is one
abbrev pub IsLedTo : GroupTree → DefTree → LeafTree → Option TripleTree → Type 0
IsLedTo g def leaf None = ⊥
IsLedTo g def leaf (Some p) = LeadsTo g def leaf p

--     for each leaf of d, with its path's facts:   facts ⊢ {entry of d, arguments} code {what the leaf asks for}
--   ──────────────────────────────────────────────────────────────────────────────────────────────────────────────
--     for each exit k of d:   d on the arguments gives the results by k ⊢ {entry of d, arguments} code {exit k, results}
--
-- There is such a definition, and one theorem is cited for each of its leaves, in their order, that leads to it.
pub record IsClosedBy (g : GroupTree) (d : ℕ) (cited : List (Option TripleTree)) : Type 0 where
  pub def : DefTree
  pub is : slice_get g.defs d ≡ Some def
  pub each : AllZip (IsLedTo g def) (leaves_of g def) cited

-- the words and memories that an exit is left with, as the variables after the parameters
abbrev pub results : GroupTree → Exit → ValuesTree
results g x = variables_after (length g.regs) g.mems (exit_words g x) g.mems

-- the triple of an exit: where evaluation of definition d on what is in the registers and memories leaves by that exit,
-- the group's code leads from the definition's entry to the exit, with evaluation's results
abbrev pub exit_triple : GroupTree → ℕ → DefTree → ℕ → Exit → TripleTree
exit_triple g d def exit x = record {
  facts = Gives d exit (parameters g) (results g x) ∷ [];
  pre = at_entry g def (parameters g);
  code = g.code;
  post = at_exit g (Some x) (results g x);
}

-- the triple of each exit of the definition is valid
abbrev pub IsClosed : GroupTree → ℕ → Type 0
IsClosed g d = (def : DefTree) → slice_get g.defs d ≡ Some def → (exit : ℕ) (x : Exit) → slice_get def.exits exit ≡ Some x → Valid g (exit_triple g d def exit x)

-- the triple is that of exit `exit` of definition d, and there are such
pub record IsExit (g : GroupTree) (d exit : ℕ) (t : TripleTree) : Type 0 where
  pub def : DefTree
  pub is : slice_get g.defs d ≡ Some def
  pub x : Exit
  pub at : slice_get def.exits exit ≡ Some x
  pub same : t ≡ exit_triple g d def exit x

-- ---- theorems in a list, some of which were forgotten

abbrev pub tree_of : Option (Option (Group × Triple)) → Option TripleTree
tree_of None = None
tree_of (Some None) = None
tree_of (Some (Some t)) = Some (triple_tree t.1)

-- the theorem of that number, if it was made and not forgotten
abbrev pub kept_at : List (Option (Group × Triple)) → ℕ → Option TripleTree
kept_at kept n = tree_of (slice_get kept n)
