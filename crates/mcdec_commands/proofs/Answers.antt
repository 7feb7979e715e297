-- What is answered is what the words and the files give, and nothing else.
use Rattle.std.proofs.Common.{◌≡◌, ◌≢◌, ℕ, Bool, true, false, cond, ◌+◌, ◌-◌, ◌<◌, ◌≤◌, List, [], ◌∷◌, length, map, Option, Some, None, Result, Ok, Err, refl, sym, ap, subst, ◌∙◌, arith}
use Rattle.std.specs.Prelude.{IfOk, IfSome, IsSomeAnd, bytes_eq, slice_get}
use Rattle.std.specs.List.{AllByRecursion}
use Rattle.std.specs.Ordering.{nat_cmp}
use Rattle.std.specs.FinMap.{FinMap, get}
use Rattle.std.proofs.lemmas.List.{length-map, length-take}
use Rattle.rv_words.specs.declared.memory.NoMemory.{NoMemory}
use Rattle.mc_shelf.specs.Shelf.{Contents}
use Rattle.rv_words.specs.declared.range.Range.{Range}
use Rattle.tailrec_lang.specs.declared.group.Group.{Group}
use Rattle.tailrec_lang.specs.Tree.{GroupTree, group_tree, def_tree, listed_def}
use Rattle.tailrec_lang.specs.WellFormed.{IsWellFormed}
use Rattle.tailrec_lang.specs.Eval.{Arguments, Outcome, Done, HasFewNeeds, eval}
use Rattle.tailrec_lang.specs.Registers.{AreRegistersFrom}
use Rattle.group_text.specs.declared.version.Version.{Version as Known}
use Rattle.group_text.specs.declared.version.Version.TheVariants.{One, Two, Three, Four}
use Rattle.group_text.specs.Version.{version_of}
use Rattle.proof_text.specs.LineGrammar.{AreProofsOver}
use Rattle.proof_text.specs.Proofs.{groups_of}
use Rattle.proof_v2.specs.AnyText.{AnyProof, any_lines}
use Rattle.proof_v2.specs.Titles.{named_version}
use Rattle.mcdec_answers.specs.declared.answer.EvalAnswer.{EvalAnswer}
use Rattle.mcdec_answers.specs.declared.answer.EvalAnswer.TheVariants as answer
use Rattle.mcdec_answers.specs.Command.{Arg, Given, value_of, givens, ranges}
use Rattle.mcdec_answers.specs.declared.command.Memory.TheVariants.{First, Second}
use Rattle.mcdec_answers.specs.CommandReading.{Holds, HoldsArgs, value_in}
use Rattle.mcdec_commands.specs.Memory.{placed, ranges_in}
use Rattle.mcdec_commands.specs.EvalAnswer.{proof_limit, arguments_given, memories_given, EvalGives}
use Rattle.mcdec_commands.specs.inner.Search.{Finds, GroupGives, HasText, first_named}
use Rattle.mcdec_commands.specs.Held.{HasFile}

-- ---- arguments

value-same : (gs : List Given) (values : List (Option ℕ)) → Holds gs values → (n : ℕ) → n < 32 → value_in values n ≡ value_of gs n
value-same gs values h n low = rw (h n low) refl

values-same : (gs : List Given) (values : List (Option ℕ)) → Holds gs values → (least : ℕ) (rs : List ℕ) → AreRegistersFrom least rs → map (value_in values) rs ≡ map (value_of gs) rs
values-same gs values h least [] are = refl
values-same gs values h least (r ∷ rs) are = rw (value-same gs values h r (omega (arith, are.1))) (ap (λ (ws : List ℕ). value_of gs r ∷ ws) (values-same gs values h (r + 1) rs are.2))

-- ---- groups

-- the last definition's number
pub last-def : (g : Group) → HasText (group_tree g) → (n : ℕ) → n ≡ length g.defs → (1 ≤ n) × (n ≤ 4096) × (n - 1 ≡ listed_def (group_tree g))
last-def g is n len = let same = length-map g.defs def_tree in (omega (arith, len, same, is.1.some), omega (arith, len, same, is.1.few), omega (arith, len, same))

-- a group that has a text has two memories at most
pub two-memories : (g : GroupTree) → HasText g → g.mems ≤ 2
two-memories g (One, is) = omega (arith, is.memories.1)
two-memories g (Two, is) = omega (arith, is.memories.1)
two-memories g (Three, is) = omega (arith, is.memories.1)
two-memories g (Four, is) = is.memories.1

pub words-there : (values : List (Option ℕ)) (rs ws : List ℕ) → ws ≡ map (value_in values) rs → length ws ≡ length rs
words-there values rs ws e = ap length e ∙ length-map rs (value_in values)

pub mems-there : (maps : List (FinMap nat_cmp ℕ)) (n : ℕ) (memory stack : List Range) → n ≤ 2 → map get maps ≡ memories_given n memory stack → length maps ≡ n
mems-there maps n memory stack few e =
    let two : length (memories_given 2 memory stack) ≡ 2 = refl in
    sym (length-map maps get) ∙ ap length e ∙ length-take n (placed memory (λ a. None) ∷ placed stack (λ a. None) ∷ []) ∙ omega (arith, few)

module _ (g : GroupTree) (is : HasText g) (args : List Arg) (values : List (Option ℕ)) (memory stack : List Range) (h : HoldsArgs args values memory stack)
    (x : Arguments) (words : x.words ≡ map (value_in values) g.regs) (mems : x.mems ≡ memories_given g.mems memory stack) where
  arguments-same : x ≡ arguments_given args g
  arguments-same =
      let ms : x.mems ≡ memories_given g.mems (ranges First args) (ranges Second args) = mems ∙ (λ i. memories_given g.mems (h.1 i) (h.2 i)) in
      λ i. record { words = (words ∙ values-same (givens args) values h.0 1 g.regs is.1.registers) i; mems = ms i }

  pub listed-outcome : (def : ℕ) → def ≡ listed_def g → (turns : ℕ) (o : Outcome) → o ≡ eval g def x turns → eval g (listed_def g) (arguments_given args g) turns ≡ o
  listed-outcome def last turns o e = sym (e ∙ ap (λ (d : ℕ). eval g d x turns) last ∙ ap (λ (y : Arguments). eval g (listed_def g) y turns) arguments-same)

  pub evaluated : (def : ℕ) → def ≡ listed_def g → (turns exit pc left : ℕ) (results : Arguments) → Done exit pc results left ≡ eval g def x turns
      → (shown : List Range) → shown ≡ ranges_in (slice_get results.mems 0) memory → (behind : List Range) → behind ≡ ranges_in (slice_get results.mems 1) stack
      → GroupGives g turns args (answer.Done (record { count = turns - left; pc = pc; registers = g.regs; words = results.words; memory = shown; stack = behind }))
  evaluated def last turns exit pc left results e shown is-shown behind is-behind =
      let all : shown ≡ ranges_in (slice_get results.mems 0) (ranges First args) = is-shown ∙ ap (ranges_in (slice_get results.mems 0)) h.1 in
      let others : behind ≡ ranges_in (slice_get results.mems 1) (ranges Second args) = is-behind ∙ ap (ranges_in (slice_get results.mems 1)) h.2 in (
        exit,
        pc,
        left,
        results,
        listed-outcome def last turns (Done exit pc results left) e,
        λ i. record { count = turns - left; pc = pc; registers = g.regs; words = results.words; memory = all i; stack = others i },
      )

-- ---- texts

module _ (text name : List ℕ) (turns : ℕ) (args : List Arg) (small : length text ≤ proof_limit) where
  -- an answer that the group of the name gives
  pub found-gives : (g : Group) → Finds text name (Ok g) → (result : Result EvalAnswer NoMemory) → IfOk result (λ a. GroupGives (group_tree g) turns args a) → IfOk result (λ a. EvalGives text name turns args a)
  found-gives g f (Err e) h = tt
  found-gives g f (Ok a) h = of-group a h
    where
      of-group : (a : EvalAnswer) → GroupGives (group_tree g) turns args a → EvalGives text name turns args a
      of-group answer.OverLimit h = absurd h
      of-group (answer.Unreadable line) h = absurd h
      of-group (answer.IllFormed group def) h = absurd h
      of-group answer.NoFunction h = absurd h
      of-group (answer.SideFalse def ordinal) h = (small, group_tree g, f.0, h)
      of-group answer.TurnsUsed h = (small, group_tree g, f.0, h)
      of-group (answer.Done shown) (exit, pc, left, results, e, is) = (small, group_tree g, f.0, exit, pc, left, results, e, is)

-- what holds of all groups of a list holds of the first of a name
all-first : (F : GroupTree → Type 0) (name : List ℕ) (gs : List GroupTree) (g : GroupTree) → first_named name gs ≡ Some g → AllByRecursion F gs → F g
all-first F name [] g e h = absurd cc
all-first F name (x ∷ gs) g e h = here (bytes_eq x.name name) e (λ k. all-first F name gs g k h.1)
  where
    here : (b : Bool) → cond b (Some x) (first_named name gs) ≡ Some g → (first_named name gs ≡ Some g → F g) → F g
    here true e behind = let same : x ≡ g = cc in subst F same h.0
    here false e behind = behind e

-- the groups of proofs that have a text
groups-fit : (k : Known) (ps : List (AnyProof k)) → AreProofsOver (any_lines k) (version_of k) ps → AllByRecursion HasText (groups_of ps)
groups-fit k [] h = tt
groups-fit k (p ∷ ps) h = ((k, h.0.group), groups-fit k ps h.1)

pub found-fits : (text name : List ℕ) (g : Group) → Finds text name (Ok g) → HasText (group_tree g) × IsWellFormed (group_tree g) × HasFewNeeds (group_tree g)
found-fits text name g f =
    let n = f.0 in (
      all-first HasText name n.groups (group_tree g) n.first (subst (AllByRecursion HasText) (sym n.listed.groups) (groups-fit (named_version text) n.listed.proofs n.listed.spelled.fit)),
      all-first IsWellFormed name n.groups (group_tree g) n.first n.well_formed,
      f.1,
    )

-- ---- files

-- what is so of the file that a name holds is so of it as far as it is told
pub held-with : (told : Option Contents) (name file : List ℕ) (P : List ℕ → Type 0) → IfSome told (λ files. files name ≡ Some file) → P file → HasFile told name P
held-with None name file P h is = tt
held-with (Some files) name file P h is = (file, h, is)

-- a name of which it is told that it holds such a file
pub held-such : (told : Option Contents) (name : List ℕ) (P : List ℕ → Type 0) → IfSome told (λ files. IsSomeAnd (files name) P) → HasFile told name P
held-such None name P h = tt
held-such (Some files) name P h = at (files name) refl h
  where
    at : (held : Option (List ℕ)) → files name ≡ held → IsSomeAnd held P → (file : List ℕ) × (files name ≡ Some file) × P file
    at None e k = absurd k
    at (Some file) e k = (file, e, k)

-- a command that reads a file
pub one-file : (name : List ℕ) → name ∷ [] ≢ []
one-file name e = cc
