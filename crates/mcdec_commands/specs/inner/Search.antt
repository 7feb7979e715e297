-- What is found in the text of a proof file, group by group, and what evaluation of a group's function comes to.
use Rattle.std.specs.Prelude.{◌≡◌, ℕ, Bool, true, false, List, [], ◌∷◌, ◌++◌, ◌-◌, ◌<◌, ◌≤◌, bytes_eq, find, length, Option, Some, None, Result, Ok, Err}
use Rattle.std.specs.List.{AllByRecursion}
use Rattle.mc_text.specs.Fault.{IsBadAt}
use Rattle.group_text.specs.declared.version.Version.{Version as Known}
use Rattle.group_text.specs.Limits.{IsGroupIn}
use Rattle.group_text.specs.Version.{version_of}
use Rattle.tailrec_lang.specs.declared.group.Group.{Group}
use Rattle.tailrec_lang.specs.Tree.{GroupTree, group_tree, listed_def}
use Rattle.tailrec_lang.specs.WellFormed.{IsWellFormed, IsFirstIllFormed}
use Rattle.tailrec_lang.specs.Eval.{Arguments, Done, SideFalse, Turns, HasFewNeeds, eval}
use Rattle.proof_text.specs.Proofs.{groups_of}
use Rattle.proof_text.specs.FirstProofs.{MayOpen, ProofEnds}
use Rattle.proof_text.specs.LineGrammar.{text_over}
use Rattle.proof_text.specs.Answers.{NoItemOver}
use Rattle.verdicts.specs.inner.Checking.{IsSameText}
use Rattle.proof_v2.specs.AnyReading.{AnyState, HasGivenAny}
use Rattle.proof_v2.specs.AnyText.{AnyProof, BeginsIn, any_lines, any_texts}
use Rattle.mcdec_commands.specs.declared.search.Refusal.{Refusal}
use Rattle.mcdec_commands.specs.declared.search.Refusal.TheVariants as refusal
use Rattle.mcdec_answers.specs.declared.answer.EvalAnswer.{EvalAnswer}
use Rattle.mcdec_answers.specs.declared.answer.EvalAnswer.TheVariants as answer
use Rattle.mcdec_answers.specs.Command.{Arg}
use Rattle.mcdec_commands.specs.Memory.{shown_at}
use Rattle.mcdec_commands.specs.EvalAnswer.{HasBadDef, HasBadLine, IsNamed, arguments_given}

-- ---- reading on

-- the text, of that version, is bad at this line, and the groups before it are well-formed
abbrev pub HasBadLineIn : (k : Known) (text : List ℕ) (line : ℕ) → Type 0
HasBadLineIn k text line = IsBadAt (any_texts k) text line × ((gs : List GroupTree) → BeginsIn k text gs → AllByRecursion IsWellFormed gs)

-- these proofs were given of a text of that version, and the lines of the last one have ended
pub record HasPassed (k : Known) (ps : List (AnyProof k)) (r : AnyState) : Type 0 where
  pub given : HasGivenAny k ps r
  pub over : MayOpen ps r.progress.rest

-- something was given behind the last group, which is that one
abbrev pub GoesOnBehind : GroupTree → AnyState → AnyState → Type 0
GoesOnBehind g old new = (k : Known) (ps : List (AnyProof k)) (p : AnyProof k) → HasGivenAny k (ps ++ p ∷ []) old → p.group ≡ g
    → (q : AnyProof k) × (q.group ≡ g) × HasGivenAny k (ps ++ q ∷ []) new

-- whether there was a next line of a group's proof, or why none can be read
abbrev pub LineIs : GroupTree → AnyState → AnyState → Result Bool Refusal → Type 0
LineIs g old new (Ok false) = IsSameText new.progress old.progress × (length new.progress.rest ≤ length old.progress.rest) × GoesOnBehind g old new × ProofEnds new.progress.rest
LineIs g old new (Ok true) = IsSameText new.progress old.progress × (length new.progress.rest < length old.progress.rest) × GoesOnBehind g old new
LineIs g old new (Err (refusal.Text line)) = IsSameText new.progress old.progress
    × ((k : Known) (ps : List (AnyProof k)) (p : AnyProof k) → HasGivenAny k (ps ++ p ∷ []) old → p.group ≡ g
    → IsBadAt (any_texts k) old.progress.text line × (q : AnyProof k) × (q.group ≡ g) × HasGivenAny k (ps ++ q ∷ []) new × NoItemOver (any_lines k) (ps ++ q ∷ []) new.progress)
LineIs g old new (Err (refusal.IllFormed m def)) = ⊥
LineIs g old new (Err refusal.NoFunction) = ⊥
LineIs g old new (Err refusal.NoMemory) = Unit {0}

-- the lines of a group's proof were passed over, or why not
abbrev pub LinesArePassed : GroupTree → AnyState → AnyState → Result (Unit {0}) Refusal → Type 0
LinesArePassed g old new (Ok done) = IsSameText new.progress old.progress × (length new.progress.rest ≤ length old.progress.rest)
    × ((k : Known) (ps : List (AnyProof k)) (p : AnyProof k) → HasGivenAny k (ps ++ p ∷ []) old → p.group ≡ g → (q : AnyProof k) × (q.group ≡ g) × HasPassed k (ps ++ q ∷ []) new)
LinesArePassed g old new (Err (refusal.Text line)) = (k : Known) (ps : List (AnyProof k)) (p : AnyProof k) → HasGivenAny k (ps ++ p ∷ []) old → p.group ≡ g
    → AllByRecursion IsWellFormed (groups_of (ps ++ p ∷ [])) → HasBadLineIn k old.progress.text line
LinesArePassed g old new (Err (refusal.IllFormed m def)) = ⊥
LinesArePassed g old new (Err refusal.NoFunction) = ⊥
LinesArePassed g old new (Err refusal.NoMemory) = Unit {0}

-- so far the lines of a group's proof were passed over
pub record Passing (g : GroupTree) (start now : AnyState) : Type 0 where
  pub text : IsSameText now.progress start.progress
  pub no_longer : length now.progress.rest ≤ length start.progress.rest
  pub given : GoesOnBehind g start now

-- the next group, or why there is none
abbrev pub NextIs : ℕ → AnyState → AnyState → Result (Option Group) Refusal → Type 0
NextIs n old new (Ok None) = (k : Known) (ps : List (AnyProof k)) → HasPassed k ps old → old.progress.text ≡ text_over (any_lines k) (version_of k) ps
NextIs n old new (Ok (Some g)) = IsSameText new.progress old.progress × (length new.progress.rest < length old.progress.rest) × IsWellFormed (group_tree g) × HasFewNeeds (group_tree g)
    × ((k : Known) (ps : List (AnyProof k)) → HasPassed k ps old → (q : AnyProof k) × (q.group ≡ group_tree g) × HasPassed k (ps ++ q ∷ []) new)
NextIs n old new (Err (refusal.Text line)) = (k : Known) (ps : List (AnyProof k)) → HasPassed k ps old → AllByRecursion IsWellFormed (groups_of ps) → HasBadLineIn k old.progress.text line
NextIs n old new (Err (refusal.IllFormed m def)) = (m ≡ n) × (g : GroupTree) × IsFirstIllFormed g def
    × ((k : Known) (ps : List (AnyProof k)) → HasPassed k ps old → BeginsIn k old.progress.text (groups_of ps ++ g ∷ []))
NextIs n old new (Err refusal.NoFunction) = ⊥
NextIs n old new (Err refusal.NoMemory) = Unit {0}

-- ---- what was found

-- what a text has for a name
abbrev pub Finds : List ℕ → List ℕ → Result Group Refusal → Type 0
Finds text name (Ok g) = IsNamed text name (Some (group_tree g)) × HasFewNeeds (group_tree g)
Finds text name (Err (refusal.Text line)) = HasBadLine text line
Finds text name (Err (refusal.IllFormed n def)) = HasBadDef text n def
Finds text name (Err refusal.NoFunction) = IsNamed text name None
Finds text name (Err refusal.NoMemory) = Unit {0}

-- the first group of the name, if there is one
abbrev pub first_named : List ℕ → List GroupTree → Option GroupTree
first_named name gs = find (λ g. bytes_eq g.name name) gs

-- what was found of a name among these groups
abbrev pub FoundSo : List ℕ → List GroupTree → Option Group → Type 0
FoundSo name gs None = first_named name gs ≡ None
FoundSo name gs (Some g) = (first_named name gs ≡ Some (group_tree g)) × HasFewNeeds (group_tree g)

-- proofs that a reader has given since its start, whose groups are well-formed and as many as were counted, and what was found among them
pub record Searched (start : AnyState) (name : List ℕ) (r : AnyState) (count : ℕ) (found : Option Group) : Type 0 where
  pub proofs : List (AnyProof start.progress.version)
  pub passed : HasPassed start.progress.version proofs r
  pub same : IsSameText r.progress start.progress
  pub well_formed : AllByRecursion IsWellFormed (groups_of proofs)
  pub counted : count ≡ length proofs
  pub so : FoundSo name (groups_of proofs) found

-- the group has a text in some version
abbrev pub HasText : GroupTree → Type 0
HasText g = (k : Known) × IsGroupIn (version_of k) g

-- what `eval` of a group's function within turns comes to
abbrev pub GroupGives : GroupTree → ℕ → List Arg → EvalAnswer → Type 0
GroupGives g turns args answer.OverLimit = ⊥
GroupGives g turns args (answer.Unreadable line) = ⊥
GroupGives g turns args (answer.IllFormed group def) = ⊥
GroupGives g turns args answer.NoFunction = ⊥
GroupGives g turns args (answer.SideFalse def ordinal) = eval g (listed_def g) (arguments_given args g) turns ≡ SideFalse def ordinal
GroupGives g turns args answer.TurnsUsed = eval g (listed_def g) (arguments_given args g) turns ≡ Turns
GroupGives g turns args (answer.Done shown) = (exit pc left : ℕ) × (results : Arguments)
    × (eval g (listed_def g) (arguments_given args g) turns ≡ Done exit pc results left) × (shown ≡ shown_at args (turns - left) pc g.regs results.words results.mems)
