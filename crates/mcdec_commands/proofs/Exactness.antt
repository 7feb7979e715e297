-- The words and the files give one answer at most, but for what they leave open in it.
use Rattle.std.proofs.Common.{◌≡◌, ℕ, zero, suc, codes, ◌-◌, ◌<◌, ◌≤◌, List, [], ◌∷◌, ◌++◌, length, slice_get, Option, Some, None, refl, sym, ap, subst, ◌∙◌, ◌⊎◌, ⊎_elim, inl, inr, Ok, Err, arith}
use Rattle.std.specs.Prelude.{IfSome}
use Rattle.std.specs.List.{AllByRecursion, AllZip}
use Rattle.mc_shelf.specs.Shelf.{Contents}
use Rattle.mc_text.specs.Fault.{Grammar, InGrammar, IsBadAt}
use Rattle.std.proofs.lemmas.List.{length-map}
use Rattle.tailrec_lang.specs.Tree.{DefTree, GroupTree, def_tree, group_tree, listed_def}
use Rattle.tailrec_lang.specs.WellFormed.{IsWellFormed, IsFirstIllFormed}
use Rattle.tailrec_lang.specs.Eval.{Done, SideFalse, Turns, NoOutcome, Outcome, eval}
use Rattle.proof_v2.specs.AnyText.{any_texts}
use Rattle.proof_v2.specs.Titles.{named_version}
use Rattle.proof_v2.proofs.AnyVerdicts.{accepted-in, accepted-lists, verdict-comes-in}
use Rattle.proof_v2.specs.AnyVerdicts.{IsTextListing, SaysOf}
use Rattle.mcdec_answers.specs.declared.answer.Answer.{Answer}
use Rattle.mcdec_answers.specs.declared.answer.Answer.TheVariants as answer
use Rattle.mcdec_answers.specs.declared.answer.EvalAnswer.{EvalAnswer}
use Rattle.mcdec_answers.specs.declared.answer.EvalAnswer.TheVariants as ev
use Rattle.mcdec_answers.specs.declared.answer.RunAnswer.{RunAnswer}
use Rattle.mcdec_answers.specs.declared.answer.RunAnswer.TheVariants as ra
use Rattle.verdicts.specs.declared.verdict.Verdict.{Verdict}
use Rattle.verdicts.specs.declared.verdict.Verdict.TheVariants as verdict
use Rattle.mcdec_answers.specs.declared.answer.CheckAnswer.{CheckAnswer}
use Rattle.mcdec_answers.specs.declared.answer.CheckAnswer.TheVariants as ca
use Rattle.mcdec_commands.specs.CheckAnswer.{CheckGives, AreRightFiles}
use Rattle.path_walk.specs.declared.item.Item.{Item}
use Rattle.mcdec_answers.specs.declared.command.Form.{Form}
use Rattle.mcdec_answers.specs.declared.command.Form.TheVariants.{Alone}
use Rattle.code_parts.specs.declared.call_fault.LinkWhy.{LinkWhy}
use Rattle.mcdec_answers.specs.declared.answer.DecompileAnswer.{DecompileAnswer}
use Rattle.mcdec_answers.specs.declared.answer.DecompileAnswer.TheVariants as de
use Rattle.mcdec_commands.specs.DecompileAnswer.{DecompileGives, IsRefusedIn, all_listed, item_form, without_walks}
use Rattle.mcdec_answers.specs.declared.answer.Listed.{Listed}
use Rattle.mcdec_answers.specs.declared.answer.SelfTestAnswer.{SelfTestAnswer}
use Rattle.mcdec_commands.specs.SelfTestAnswer.{SelfTestGives, without_turns}
use Rattle.self_test.specs.Runs.{behind}
use Rattle.self_test.specs.Results.{most_steps}
use Rattle.self_test.specs.Start.{begin, file_of, function_name}
use Rattle.mcdec_answers.specs.declared.answer.SimplifyAnswer.{SimplifyAnswer}
use Rattle.mcdec_answers.specs.declared.answer.SimplifyAnswer.TheVariants as si
use Rattle.mcdec_answers.specs.declared.answer.LawsAnswer.{LawsAnswer}
use Rattle.mcdec_answers.specs.declared.answer.LawsAnswer.TheVariants as la
use Rattle.mcdec_answers.specs.declared.answer.SmtAnswer.{SmtAnswer}
use Rattle.mcdec_answers.specs.declared.answer.SmtAnswer.TheVariants as sm
use Rattle.mcdec_answers.specs.declared.answer.MigrateAnswer.{MigrateAnswer}
use Rattle.smt_export.specs.Reach.{IsLeastLoop, IsLoopFree}
use Rattle.mcdec_commands.specs.SmtAnswer.{SmtGives}
use Rattle.fun_laws.specs.Rewriting.{AreRewritingSteps}
use Rattle.fun_laws.specs.Certs.{IsFirstBad}
use Rattle.fun_laws.proofs.OneResult.{no_result, one_first_bad, one_result}
use Rattle.fun_laws.specs.Limits.{cert_texts}
use Rattle.fun_laws.specs.Spelling.{CertTree}
use Rattle.fun_laws.proofs.Whole.{certs-once}
use Rattle.mcdec_commands.specs.Held.{HasFile}
use Rattle.mcdec_commands.specs.SimplifyAnswer.{SimplifyGives, without_steps}
use Rattle.mcdec_commands.specs.LawsAnswer.{IsCertText, LawsGives, TextsGive, cert_limit, step_line}
use Rattle.mcdec_answers.specs.CommandReading.{operands_of}
use Rattle.mcdec_answers.specs.Command.{Command, Eval, Run, Check, Decompile, SelfTest, Simplify, Laws, Smt, Migrate, Arg, Words, IsNoCommand}
use Rattle.elf_image.specs.declared.fault.ElfFault.{ElfFault}
use Rattle.elf_image.specs.Fault.{IsReadable, fault_of}
use Rattle.elf_image.specs.declared.symbol.NameFault.{NameFault}
use Rattle.rv_machine.specs.State.{State}
use Rattle.rv_machine.specs.declared.running.RunEnd.TheVariants as end
use Rattle.rv_machine.proofs.RunLemmas.{ends-once}
use Rattle.decompiler.specs.Listing.{IsItemBy}
use Rattle.decompiler.specs.Names.{StandsFor}
use Rattle.mcdec_commands.specs.Memory.{shown_at}
use Rattle.mcdec_commands.specs.RunAnswer.{elf_limit, IsLoaded, answer_at, state_given, RunGives}
use Rattle.mcdec_commands.specs.EvalAnswer.{HasBadDef, HasBadLine, IsNamed, proof_limit, arguments_given, EvalGives}
use Rattle.mcdec_commands.specs.inner.Running.{MachineGives}
use Rattle.mcdec_commands.specs.inner.Search.{GroupGives, first_named}
use Rattle.mcdec_commands.specs.Answer.{Gives, IsHindered, Like, determined}
use Rattle.mcdec_answers.specs.Printed.{IsPrinted, IsDelivered, status}
use Rattle.mcdec_answers.proofs.OneCommand.{words-unique}
use Rattle.mcdec_answers.proofs.CommandNames.{name_of, named-words, not-a-form, other-name}
use Rattle.mc_text.proofs.FaultOnce.{bad-once}
use Rattle.mcdec_commands.proofs.Groups.{begins-alike, listed-front, listed-once}
use Rattle.mcdec_commands.proofs.Listed.{groups-fit, groups-left}
use Rattle.mcdec_commands.proofs.OneFile.{none_fault, over, some_fault, some_file}
use Rattle.mcdec_commands.proofs.OneMigration.{MigrateCase, migrate-case, migrate-unique}
use Rattle.mcdec_commands.proofs.OneListing.{all-told-once, err_is, none-refused, ok_err, ok_is, refused-once, stands-once, told-once}
use Rattle.std.proofs.lemmas.Bool.{cases_order}

-- ---- groups

abbrev answer_for : GroupTree → ℕ → List Arg → Outcome → EvalAnswer
answer_for g turns args (Done exit pc results left) = ev.Done (shown_at args (turns - left) pc g.regs results.words results.mems)
answer_for g turns args Turns = ev.TurnsUsed
answer_for g turns args (SideFalse def ordinal) = ev.SideFalse def ordinal
answer_for g turns args NoOutcome = ev.NoFunction

group-case : (g : GroupTree) (turns : ℕ) (args : List Arg) (a : EvalAnswer) → GroupGives g turns args a → a ≡ answer_for g turns args (eval g (listed_def g) (arguments_given args g) turns)
group-case g turns args ev.OverLimit h = absurd h
group-case g turns args (ev.Unreadable line) h = absurd h
group-case g turns args (ev.IllFormed group def) h = absurd h
group-case g turns args ev.NoFunction h = absurd h
group-case g turns args (ev.SideFalse def ordinal) h = rw h refl
group-case g turns args ev.TurnsUsed h = rw h refl
group-case g turns args (ev.Done shown) h = rw h.4 (ap ev.Done h.5)

group-unique : (g : GroupTree) (turns : ℕ) (args : List Arg) (a b : EvalAnswer) → GroupGives g turns args a → GroupGives g turns args b → a ≡ b
group-unique g turns args a b h k = group-case g turns args a h ∙ sym (group-case g turns args b k)

-- ---- names

-- what an answer says of the first group of a name, if there is one
abbrev Named : ℕ → List Arg → Option GroupTree → EvalAnswer → Type 0
Named turns args None a = a ≡ ev.NoFunction
Named turns args (Some g) a = GroupGives g turns args a

named-unique : (turns : ℕ) (args : List Arg) (found : Option GroupTree) (a b : EvalAnswer) → Named turns args found a → Named turns args found b → a ≡ b
named-unique turns args None a b h k = h ∙ sym k
named-unique turns args (Some g) a b h k = group-unique g turns args a b h k

-- ---- texts

-- a group that isn't well-formed isn't among those that are
last-of : (F : GroupTree → Type 0) (gs : List GroupTree) (g : GroupTree) → AllByRecursion F (gs ++ g ∷ []) → F g
last-of F [] g h = h.0
last-of F (x ∷ gs) g h = last-of F gs g h.1

def-there : (ds : List DefTree) (n : ℕ) → n < length ds → (d : DefTree) × (slice_get ds n ≡ Some d)
def-there [] n lt = absurd (omega arith)
def-there (d ∷ ds) zero lt = (d, refl)
def-there (d ∷ ds) (suc n) lt = def-there ds n (omega arith)

ill : (g : GroupTree) (def : ℕ) → IsFirstIllFormed g def → IsWellFormed g → ⊥
ill g def first well = let d = def-there g.defs def first.there in first.here d.0 d.1 (well def d.0 d.1)

not-earlier : (g : GroupTree) (c d : ℕ) → IsFirstIllFormed g c → IsFirstIllFormed g d → c < d → ⊥
not-earlier g c d h k lt = let x = def-there g.defs c h.there in h.here x.0 x.1 (k.before c x.0 lt x.1)

first-def : (g : GroupTree) (c d : ℕ) → IsFirstIllFormed g c → IsFirstIllFormed g d → c ≡ d
first-def g c d h k = omega (arith, not-earlier g c d h k, not-earlier g d c k h)

-- a list of groups all of which are well-formed doesn't begin with one that ends otherwise
not-front : (gs : List GroupTree) (g : GroupTree) (def : ℕ) (more hs : List GroupTree) → IsFirstIllFormed g def → hs ≡ (gs ++ g ∷ []) ++ more → AllByRecursion IsWellFormed hs → ⊥
not-front gs g def more hs first e well = ill g def first (last-of IsWellFormed gs g (front IsWellFormed (gs ++ g ∷ []) more (subst (AllByRecursion IsWellFormed) e well)))
  where
    front : (F : GroupTree → Type 0) (xs ys : List GroupTree) → AllByRecursion F (xs ++ ys) → AllByRecursion F xs
    front F [] ys h = tt
    front F (x ∷ xs) ys h = (h.0, front F xs ys h.1)

-- two lists one of which begins with the other, each with one that isn't well-formed behind others that are
same-last : (gs hs more : List GroupTree) (g h : GroupTree) → hs ++ h ∷ [] ≡ (gs ++ g ∷ []) ++ more → (c : ℕ) → IsFirstIllFormed g c → AllByRecursion IsWellFormed hs → (length gs ≡ length hs) × (g ≡ h)
same-last [] [] [] g h e c first well = (refl, cc)
same-last [] [] (m ∷ more) g h e c first well = absurd cc
same-last [] (x ∷ hs) more g h e c first well = let same : x ≡ g = cc in absurd (ill g c first (subst IsWellFormed same well.0))
same-last (y ∷ gs) [] more g h e c first well = absurd (too-long gs (cc))
  where
    too-long : (gs : List GroupTree) → [] ≡ (gs ++ g ∷ []) ++ more → ⊥
    too-long [] e = cc
    too-long (z ∷ gs) e = cc
same-last (y ∷ gs) (x ∷ hs) more g h e c first well =
    let rest : hs ++ h ∷ [] ≡ (gs ++ g ∷ []) ++ more = cc in
    let r = same-last gs hs more g h rest c first well.1 in
    (omega (arith, r.0), r.1)

-- a text of a grammar isn't bad at a line
not-bad : {X : Type 0} (g : Grammar X) (p : List ℕ) (n : ℕ) → IsBadAt g p n → InGrammar g p → ⊥
not-bad g p zero h k = absurd h
not-bad g p (suc n) h k = h.0 k

-- what is so of the first group of a name, if there is one
named-case : (p name : List ℕ) (found : Option GroupTree) (F : Option GroupTree → Type 0) → IsNamed p name found → F found
    → (gs : List GroupTree) × IsTextListing p gs × AllByRecursion IsWellFormed gs × F (first_named name gs)
named-case p name found F n h = (n.groups, n.listed, n.well_formed, subst F (sym n.first) h)

-- Answers of any kind to a text: a bad line, a definition that isn't well-formed, or what is said of its groups.
abbrev BadText : {A : Type 0} → (ℕ → A) → List ℕ → A → Type 0
BadText unreadable p a = (n : ℕ) × HasBadLine p n × (a ≡ unreadable n)

abbrev BadDef : {A : Type 0} → (ℕ → ℕ → A) → List ℕ → A → Type 0
BadDef ill_formed p a = (n def : ℕ) × HasBadDef p n def × (a ≡ ill_formed n def)

abbrev GoodText : {A : Type 0} → (List GroupTree → A → Type 0) → List ℕ → A → Type 0
GoodText Says p a = (gs : List GroupTree) × IsTextListing p gs × AllByRecursion IsWellFormed gs × Says gs a

abbrev TextCase : {A : Type 0} → (ℕ → A) → (ℕ → ℕ → A) → (List GroupTree → A → Type 0) → List ℕ → A → Type 0
TextCase unreadable ill_formed Says p a = BadText unreadable p a ⊎ (BadDef ill_formed p a ⊎ GoodText Says p a)

-- two that say something of the same groups are told alike
module _ {A : Type 0} (unreadable : ℕ → A) (ill_formed : ℕ → ℕ → A) (Says : List GroupTree → A → Type 0) (told : A → A)
    (says-once : (gs : List GroupTree) (a b : A) → Says gs a → Says gs b → told a ≡ told b) where
  bad-texts : (p : List ℕ) (a b : A) → BadText unreadable p a → BadText unreadable p b → a ≡ b
  bad-texts p a b (n, h, is) (m, k, this) = is ∙ ap unreadable (bad-once (any_texts (named_version p)) p n m h.0 k.0) ∙ sym this

  bad-defs : (p : List ℕ) (a b : A) → BadDef ill_formed p a → BadDef ill_formed p b → a ≡ b
  bad-defs p a b (n, c, (gs, g, read, well, count, first), is) (m, d, (hs, h, read', well', count', first'), is') =
      elim (begins-alike (named_version p) p (gs ++ g ∷ []) (hs ++ h ∷ []) read read') [
        | inl f ↦ let r = same-last hs gs f.0 h g f.1 d first' well in same (sym r.0, sym r.1)
        | inr f ↦ same (same-last gs hs f.0 g h f.1 c first well')
      ]
    where
      same : (length gs ≡ length hs) × (g ≡ h) → a ≡ b
      same r =
          let number : n ≡ m = count ∙ r.0 ∙ sym count' in
          is ∙ (λ i. ill_formed (number i) (first-def h c d (subst (λ (x : GroupTree). IsFirstIllFormed x c) r.1 first) first' i)) ∙ sym is'

  bad-or-def : (p : List ℕ) (a b : A) → BadText unreadable p a → BadDef ill_formed p b → ⊥
  bad-or-def p a b (m, h, this) (n, c, (gs, g, read, well, count, first), is) = ill g c first (last-of IsWellFormed gs g (h.1 (gs ++ g ∷ []) read))

  def-or-good : (p : List ℕ) (a b : A) → BadDef ill_formed p a → GoodText Says p b → ⊥
  def-or-good p a b (n, c, (gs, g, read, well, count, first), is) (hs, text, fine, said) =
      let f = listed-front (named_version p) p hs (gs ++ g ∷ []) text read in
      not-front gs g c f.0 hs first f.1 fine

  bad-or-good : (p : List ℕ) (a b : A) → BadText unreadable p a → GoodText Says p b → ⊥
  bad-or-good p a b (n, h, is) (gs, text, fine, said) = not-bad (any_texts (named_version p)) p n h.0 (text.proofs, text.spelled.fit, text.spelled.spelled)

  text-once : (p : List ℕ) (a b : A) → TextCase unreadable ill_formed Says p a → TextCase unreadable ill_formed Says p b → told a ≡ told b
  text-once p a b (inl h) (inl k) = ap told (bad-texts p a b h k)
  text-once p a b (inl h) (inr (inl k)) = absurd (bad-or-def p a b h k)
  text-once p a b (inl h) (inr (inr k)) = absurd (bad-or-good p a b h k)
  text-once p a b (inr (inl h)) (inl k) = absurd (bad-or-def p b a k h)
  text-once p a b (inr (inl h)) (inr (inl k)) = ap told (bad-defs p a b h k)
  text-once p a b (inr (inl h)) (inr (inr k)) = absurd (def-or-good p a b h k)
  text-once p a b (inr (inr h)) (inl k) = absurd (bad-or-good p b a k h)
  text-once p a b (inr (inr h)) (inr (inl k)) = absurd (def-or-good p b a k h)
  text-once p a b (inr (inr (gs, text, fine, said))) (inr (inr (hs, other, well, says))) =
      says-once hs a b (subst (λ (xs : List GroupTree). Says xs a) (listed-once (named_version p) p gs hs text other) said) says

-- ---- files

-- what an answer to `eval` says of groups
abbrev EvalSays : List ℕ → ℕ → List Arg → List GroupTree → EvalAnswer → Type 0
EvalSays name turns args gs a = Named turns args (first_named name gs) a

eval-once : (name : List ℕ) (turns : ℕ) (args : List Arg) (gs : List GroupTree) (a b : EvalAnswer) → EvalSays name turns args gs a → EvalSays name turns args gs b → a ≡ b
eval-once name turns args gs a b h k = named-unique turns args (first_named name gs) a b h k

abbrev EvalCase : List ℕ → List ℕ → ℕ → List Arg → EvalAnswer → Type 0
EvalCase p name turns args a = TextCase ev.Unreadable ev.IllFormed (EvalSays name turns args) p a

abbrev FileCase : List ℕ → List ℕ → ℕ → List Arg → EvalAnswer → Type 0
FileCase p name turns args a = ((proof_limit < length p) × (a ≡ ev.OverLimit)) ⊎ ((length p ≤ proof_limit) × EvalCase p name turns args a)

good-eval : (p name : List ℕ) (turns : ℕ) (args : List Arg) (found : Option GroupTree) (a : EvalAnswer) → IsNamed p name found → Named turns args found a → EvalCase p name turns args a
good-eval p name turns args found a named h = inr (inr (named-case p name found (λ o. Named turns args o a) named h))

file-case : (p name : List ℕ) (turns : ℕ) (args : List Arg) (a : EvalAnswer) → EvalGives p name turns args a → FileCase p name turns args a
file-case p name turns args ev.OverLimit h = inl (h, refl)
file-case p name turns args (ev.Unreadable line) (small, bad) = inr (small, inl (line, bad, refl))
file-case p name turns args (ev.IllFormed group def) (small, bad) = inr (small, inr (inl (group, def, bad, refl)))
file-case p name turns args ev.NoFunction (small, named) = inr (small, good-eval p name turns args None ev.NoFunction named refl)
file-case p name turns args (ev.SideFalse def ordinal) (small, g, named, e) = inr (small, good-eval p name turns args (Some g) (ev.SideFalse def ordinal) named e)
file-case p name turns args ev.TurnsUsed (small, g, named, e) = inr (small, good-eval p name turns args (Some g) ev.TurnsUsed named e)
file-case p name turns args (ev.Done shown) (small, g, named, exit, pc, left, results, e, is) =
    inr (small, good-eval p name turns args (Some g) (ev.Done shown) named (exit, pc, left, results, e, is))

file-unique : (p name : List ℕ) (turns : ℕ) (args : List Arg) (a b : EvalAnswer) → FileCase p name turns args a → FileCase p name turns args b → a ≡ b
file-unique p name turns args a b (inl h) (inl k) = h.1 ∙ sym k.1
file-unique p name turns args a b (inl h) (inr k) = absurd (over (length p) proof_limit h.0 k.0)
file-unique p name turns args a b (inr h) (inl k) = absurd (over (length p) proof_limit k.0 h.0)
file-unique p name turns args a b (inr h) (inr k) =
    text-once ev.Unreadable ev.IllFormed (EvalSays name turns args) (λ b. b) (eval-once name turns args) p a b h.1 k.1

-- ---- runs

machine-unique : (until steps : ℕ) (args : List Arg) (s : State) (a b : RunAnswer) → MachineGives until steps args s a → MachineGives until steps args s b → a ≡ b
machine-unique until steps args s a b h k =
    let p = ends-once until steps s h.0 k.0 h.1 k.1 h.2 k.2 in h.3 ∙ (λ i. answer_at args (p.0 i) (p.1 i)) ∙ sym k.3

abbrev StartCase : List ℕ → List ℕ → ℕ → ℕ → List Arg → RunAnswer → Type 0
StartCase file start until steps args a =
    ((f : NameFault) × StandsFor file start (Err f) × (a ≡ ra.StartRefused start f)) ⊎ ((n : ℕ) × StandsFor file start (Ok n) × MachineGives until steps args (state_given file args n) a)

start-unique : (file start : List ℕ) (until steps : ℕ) (args : List Arg) (a b : RunAnswer) → StartCase file start until steps args a → StartCase file start until steps args b → a ≡ b
start-unique file start until steps args a b (inl h) (inl k) = h.2 ∙ ap (ra.StartRefused start) (err_is h.0 k.0 (stands-once file start (Err h.0) (Err k.0) h.1 k.1)) ∙ sym k.2
start-unique file start until steps args a b (inl h) (inr k) = absurd (ok_err k.0 h.0 (stands-once file start (Ok k.0) (Err h.0) k.1 h.1))
start-unique file start until steps args a b (inr h) (inl k) = absurd (ok_err h.0 k.0 (stands-once file start (Ok h.0) (Err k.0) h.1 k.1))
start-unique file start until steps args a b (inr h) (inr k) =
    let n : h.0 ≡ k.0 = ok_is h.0 k.0 (stands-once file start (Ok h.0) (Ok k.0) h.1 k.1) in
    machine-unique until steps args (state_given file args k.0) a b (subst (λ (x : ℕ). MachineGives until steps args (state_given file args x) a) n h.2) k.2

abbrev ImageCase : List ℕ → List ℕ → ℕ → ℕ → List Arg → RunAnswer → Type 0
ImageCase file start until steps args a = ((why : ElfFault) × (fault_of file ≡ Some why) × (a ≡ ra.Unreadable why)) ⊎ (IsReadable file × StartCase file start until steps args a)

image-unique : (file start : List ℕ) (until steps : ℕ) (args : List Arg) (a b : RunAnswer) → ImageCase file start until steps args a → ImageCase file start until steps args b → a ≡ b
image-unique file start until steps args a b (inl h) (inl k) = h.2 ∙ ap ra.Unreadable (some_fault h.0 k.0 (sym h.1 ∙ k.1)) ∙ sym k.2
image-unique file start until steps args a b (inl h) (inr k) = absurd (none_fault h.0 (sym k.0 ∙ h.1))
image-unique file start until steps args a b (inr h) (inl k) = absurd (none_fault k.0 (sym h.0 ∙ k.1))
image-unique file start until steps args a b (inr h) (inr k) = start-unique file start until steps args a b h.1 k.1

abbrev RunCase : List ℕ → List ℕ → ℕ → ℕ → List Arg → RunAnswer → Type 0
RunCase file start until steps args a = ((elf_limit < length file) × (a ≡ ra.OverLimit)) ⊎ ((length file ≤ elf_limit) × ImageCase file start until steps args a)

run-case : (file start : List ℕ) (until steps : ℕ) (args : List Arg) (a : RunAnswer) → RunGives file start until steps args a → RunCase file start until steps args a
run-case file start until steps args ra.OverLimit h = inl (h, refl)
run-case file start until steps args (ra.Unreadable why) h = inr (h.0, inl (why, h.1, refl))
run-case file start until steps args (ra.StartRefused name why) (loaded, same, stands) = inr (loaded.0, inr (loaded.1, inl (why, stands, ap (λ (n : List ℕ). ra.StartRefused n why) same)))
run-case file start until steps args (ra.Stuck k why) (loaded, at, t, how, stands, ends, is) = inr (loaded.0, inr (loaded.1, inr (at, stands, (t, how, ends, is))))
run-case file start until steps args ra.StepsUsed (loaded, at, t, how, stands, ends, is) = inr (loaded.0, inr (loaded.1, inr (at, stands, (t, how, ends, is))))
run-case file start until steps args (ra.Met shown) (loaded, at, t, how, stands, ends, is) = inr (loaded.0, inr (loaded.1, inr (at, stands, (t, how, ends, is))))

run-unique : (file start : List ℕ) (until steps : ℕ) (args : List Arg) (a b : RunAnswer) → RunCase file start until steps args a → RunCase file start until steps args b → a ≡ b
run-unique file start until steps args a b (inl h) (inl k) = h.1 ∙ sym k.1
run-unique file start until steps args a b (inl h) (inr k) = absurd (over (length file) elf_limit h.0 k.0)
run-unique file start until steps args a b (inr h) (inl k) = absurd (over (length file) elf_limit k.0 h.0)
run-unique file start until steps args a b (inr h) (inr k) = image-unique file start until steps args a b h.1 k.1

-- ---- checks

abbrev VerdictCase : List ℕ → List ℕ → CheckAnswer → Type 0
VerdictCase file text a = (v : Verdict) × (v ≡ verdict.NoMemory → ⊥) × SaysOf file text v × (a ≡ ca.Judged v)

abbrev JudgedCase : List ℕ → List ℕ → CheckAnswer → Type 0
JudgedCase file text a = ((proof_limit < length text) × (a ≡ ca.ProofOverLimit)) ⊎ ((length text ≤ proof_limit) × VerdictCase file text a)

judged-unique : (file text : List ℕ) (a b : CheckAnswer) → JudgedCase file text a → JudgedCase file text b → a ≡ b
judged-unique file text a b (inl h) (inl k) = h.1 ∙ sym k.1
judged-unique file text a b (inl h) (inr k) = absurd (over (length text) proof_limit h.0 k.0)
judged-unique file text a b (inr h) (inl k) = absurd (over (length text) proof_limit k.0 h.0)
judged-unique file text a b (inr (short, (v, some, says, is))) (inr (less, (w, other, said, this))) =
    is ∙ ap ca.Judged (elim (verdict-comes-in (named_version text) file text v says w said) [ inl same ↦ same | inr never ↦ absurd (elim never [ inl none ↦ other none | inr none ↦ some none ]) ]) ∙ sym this

abbrev TextHeld : Contents → List ℕ → List ℕ → CheckAnswer → Type 0
TextHeld files proof file a = (text : List ℕ) × (files proof ≡ Some text) × JudgedCase file text a

abbrev LoadedCase : Contents → List ℕ → List ℕ → CheckAnswer → Type 0
LoadedCase files proof file a = ((why : ElfFault) × (fault_of file ≡ Some why) × (a ≡ ca.Judged (verdict.BadElf why))) ⊎ (IsReadable file × TextHeld files proof file a)

loaded-unique : (files : Contents) (proof file : List ℕ) (a b : CheckAnswer) → LoadedCase files proof file a → LoadedCase files proof file b → a ≡ b
loaded-unique files proof file a b (inl h) (inl k) = h.2 ∙ ap (λ (why : ElfFault). ca.Judged (verdict.BadElf why)) (some_fault h.0 k.0 (sym h.1 ∙ k.1)) ∙ sym k.2
loaded-unique files proof file a b (inl h) (inr k) = absurd (none_fault h.0 (sym k.0 ∙ h.1))
loaded-unique files proof file a b (inr h) (inl k) = absurd (none_fault k.0 (sym h.0 ∙ k.1))
loaded-unique files proof file a b (inr (r, (text, held, h))) (inr (s, (other, holds, k))) =
    let same : text ≡ other = some_file text other (sym held ∙ holds) in
    judged-unique file other a b (subst (λ (t : List ℕ). JudgedCase file t a) same h) k

abbrev CheckCase : Contents → List ℕ → List ℕ → CheckAnswer → Type 0
CheckCase files proof file a = ((elf_limit < length file) × (a ≡ ca.ElfOverLimit)) ⊎ ((length file ≤ elf_limit) × LoadedCase files proof file a)

judged-text : (files : Contents) (proof file : List ℕ) → IsLoaded file → (text : List ℕ) → files proof ≡ Some text → length text ≤ proof_limit → (v : Verdict) → (v ≡ verdict.NoMemory → ⊥) → SaysOf file text v
    → CheckCase files proof file (ca.Judged v)
judged-text files proof file loaded text held short v some says = inr (loaded.0, inr (loaded.1, (text, held, inr (short, (v, some, says, refl)))))

check-case : (files : Contents) (proof file : List ℕ) (a : CheckAnswer) → CheckGives (Some files) proof file a → CheckCase files proof file a
check-case files proof file ca.ElfOverLimit h = inl (h, refl)
check-case files proof file ca.ProofOverLimit (loaded, (text, held, long)) = inr (loaded.0, inr (loaded.1, (text, held, inl (long, refl))))
check-case files proof file (ca.Judged (verdict.BadElf why)) h = inr (h.0, inl (why, h.1, refl))
check-case files proof file (ca.Judged verdict.NoMemory) h = absurd h
check-case files proof file (ca.Judged (verdict.Accepted functions lines)) (loaded, (text, held, (short, says))) = judged-text files proof file loaded text held short (verdict.Accepted functions lines) (λ e. cc) says
check-case files proof file (ca.Judged (verdict.BadText line)) (loaded, (text, held, (short, says))) = judged-text files proof file loaded text held short (verdict.BadText line) (λ e. cc) says
check-case files proof file (ca.Judged (verdict.BadDef group def)) (loaded, (text, held, (short, says))) = judged-text files proof file loaded text held short (verdict.BadDef group def) (λ e. cc) says
check-case files proof file (ca.Judged (verdict.BadLine line)) (loaded, (text, held, (short, says))) = judged-text files proof file loaded text held short (verdict.BadLine line) (λ e. cc) says
check-case files proof file (ca.Judged (verdict.NotProved group)) (loaded, (text, held, (short, says))) = judged-text files proof file loaded text held short (verdict.NotProved group) (λ e. cc) says

check-unique : (files : Contents) (proof file : List ℕ) (a b : CheckAnswer) → CheckCase files proof file a → CheckCase files proof file b → a ≡ b
check-unique files proof file a b (inl h) (inl k) = h.1 ∙ sym k.1
check-unique files proof file a b (inl h) (inr k) = absurd (over (length file) elf_limit h.0 k.0)
check-unique files proof file a b (inr h) (inl k) = absurd (over (length file) elf_limit k.0 h.0)
check-unique files proof file a b (inr h) (inr k) = loaded-unique files proof file a b h.1 k.1

-- ---- what is decompiled

abbrev NamesCase : Form → List ℕ → List (List ℕ) → DecompileAnswer → Type 0
NamesCase form file names a = ((number : ℕ) × (name : List ℕ) × (why : LinkWhy) × (slice_get names number ≡ Some name) × IsRefusedIn form file names number why × (a ≡ de.Refused name why))
    ⊎ ((items : List Item) × AllZip (IsItemBy (item_form form) file) names items × (a ≡ de.Decompiled form (all_listed names items)))

abbrev GoodFile : Form → List ℕ → List (List ℕ) → DecompileAnswer → Type 0
GoodFile form file names a = ((why : ElfFault) × (fault_of file ≡ Some why) × (a ≡ de.Unreadable why)) ⊎ (IsReadable file × NamesCase form file names a)

abbrev DecompileCase : Form → List ℕ → List (List ℕ) → DecompileAnswer → Type 0
DecompileCase form file names a = ((elf_limit < length file) × (a ≡ de.OverLimit)) ⊎ ((length file ≤ elf_limit) × GoodFile form file names a)

decompile-case : (form : Form) (file : List ℕ) (names : List (List ℕ)) (a : DecompileAnswer) → DecompileGives form file names a → DecompileCase form file names a
decompile-case form file names de.OverLimit h = inl (h, refl)
decompile-case form file names (de.Unreadable why) h = inr (h.0, inl (why, h.1, refl))
decompile-case form file names (de.Refused name why) (loaded, number, at, refused) = inr (loaded.0, inr (loaded.1, inl (number, name, why, at, refused, refl)))
decompile-case form file names (de.Decompiled told listed) (one, loaded, proof, items, same) =
    inr (loaded.0, inr (loaded.1, inr (proof.items, items, (λ i. de.Decompiled (one i) (same i)))))

-- two answers are the same but for the walks that show two entries
module _ (form : Form) (file : List ℕ) (names : List (List ℕ)) (a b : DecompileAnswer) where
  names-alike : NamesCase form file names a → NamesCase form file names b → without_walks a ≡ without_walks b
  names-alike (inl (n, name, why, at, h, is)) (inl (m, other, cause, there, k, this)) =
      let same = refused-once form file names n m why cause h k in
      let some : Some name ≡ Some other = sym at ∙ ap (λ i. slice_get names i) same.0 ∙ there in
      let word : name ≡ other = cc in
      ap without_walks is ∙ (λ i. without_walks (de.Refused (word i) why)) ∙ same.1 other ∙ sym (ap without_walks this)
  names-alike (inl (n, name, why, at, h, is)) (inr (items, k, this)) = absurd (none-refused form file names items k n why h)
  names-alike (inr (items, h, is)) (inl (m, other, cause, there, k, this)) = absurd (none-refused form file names items h m cause k)
  names-alike (inr (items, h, is)) (inr (others, k, this)) =
      ap without_walks (is ∙ ap (de.Decompiled form) (all-told-once form file names items others h k) ∙ sym this)

  good-alike : GoodFile form file names a → GoodFile form file names b → without_walks a ≡ without_walks b
  good-alike (inl h) (inl k) = ap without_walks (h.2 ∙ ap de.Unreadable (some_fault h.0 k.0 (sym h.1 ∙ k.1)) ∙ sym k.2)
  good-alike (inl h) (inr k) = absurd (none_fault h.0 (sym k.0 ∙ h.1))
  good-alike (inr h) (inl k) = absurd (none_fault k.0 (sym h.0 ∙ k.1))
  good-alike (inr h) (inr k) = names-alike h.1 k.1

  decompile-alike : DecompileCase form file names a → DecompileCase form file names b → without_walks a ≡ without_walks b
  decompile-alike (inl h) (inl k) = ap without_walks (h.1 ∙ sym k.1)
  decompile-alike (inl h) (inr k) = absurd (over (length file) elf_limit h.0 k.0)
  decompile-alike (inr h) (inl k) = absurd (over (length file) elf_limit k.0 h.0)
  decompile-alike (inr h) (inr k) = good-alike h.1 k.1

-- ---- what a test comes to

-- how many definitions an item has, in its group or in that as a tree
defs-of : (i : Item) → length (group_tree i.group).defs ≡ length i.group.defs
defs-of i = length-map i.group.defs def_tree

-- two outcomes are the same but for the turns
tests-alike : (number size : ℕ) (a b : SelfTestAnswer) → SelfTestGives number size a → SelfTestGives number size b → without_turns a ≡ without_turns b
tests-alike number size a b (n, s, h) (m, t, k) =
    let file = file_of number size in
    let listed = told-once Alone file function_name h.item k.item h.is_item k.is_item in
    let instructions : a.outcome.instructions ≡ b.outcome.instructions = h.instructions ∙ ap (λ (l : Listed). l.reached) listed ∙ sym k.instructions in
    let defs : a.outcome.defs ≡ b.outcome.defs = h.defs ∙ sym (defs-of h.item) ∙ ap (λ (l : Listed). l.defs) listed ∙ defs-of k.item ∙ sym k.defs in
    let ends = ends-once behind most_steps (begin number size) h.run.last k.run.last (end.Met a.outcome.steps) (end.Met b.outcome.steps) h.run.met k.run.met in
    let steps : a.outcome.steps ≡ b.outcome.steps = met-steps-once a.outcome.steps b.outcome.steps ends.1 in
    let value : a.outcome.value ≡ b.outcome.value = sym h.run.value ∙ ap (λ (l : State). l.reg 10) ends.0 ∙ k.run.value in
    let numbers : a.number ≡ b.number = n ∙ sym m in
    let sizes : a.size ≡ b.size = s ∙ sym t in
    λ i. record { number = numbers i; size = sizes i; outcome = record { instructions = instructions i; defs = defs i; steps = steps i; turns = 0; value = value i } }
  where
    met-steps-once : (j k : ℕ) → (end.Met j) ≡ (end.Met k) → j ≡ k
    met-steps-once j k e = cc

-- ---- what is simplified

-- what an answer says of the first group of a name, if there is one
abbrev SimplifiedFirst : Option GroupTree → SimplifyAnswer → Type 0
SimplifiedFirst None a = a ≡ si.NoFunction
SimplifiedFirst (Some g) a = (steps : ℕ) × (a ≡ si.Simplified steps)

abbrev SimplifySays : List ℕ → List GroupTree → SimplifyAnswer → Type 0
SimplifySays name gs a = SimplifiedFirst (first_named name gs) a

simplify-once : (name : List ℕ) (gs : List GroupTree) (a b : SimplifyAnswer) → SimplifySays name gs a → SimplifySays name gs b → without_steps a ≡ without_steps b
simplify-once name gs a b h k = of-first (first_named name gs) h k
  where
    of-first : (found : Option GroupTree) → SimplifiedFirst found a → SimplifiedFirst found b → without_steps a ≡ without_steps b
    of-first None h k = ap without_steps (h ∙ sym k)
    of-first (Some g) h k = ap without_steps h.1 ∙ sym (ap without_steps k.1)

abbrev SimplifyCase : List ℕ → List ℕ → SimplifyAnswer → Type 0
SimplifyCase p name a =
    ((proof_limit < length p) × (a ≡ si.OverLimit)) ⊎ ((length p ≤ proof_limit) × TextCase si.Unreadable si.IllFormed (SimplifySays name) p a)

simplify-case : (p name : List ℕ) (a : SimplifyAnswer) → SimplifyGives p name a → SimplifyCase p name a
simplify-case p name si.OverLimit h = inl (h, refl)
simplify-case p name (si.Unreadable line) (small, bad) = inr (small, inl (line, bad, refl))
simplify-case p name (si.IllFormed group def) (small, bad) = inr (small, inr (inl (group, def, bad, refl)))
simplify-case p name si.NoFunction (small, named) = inr (small, inr (inr (named-case p name None (λ o. SimplifiedFirst o si.NoFunction) named refl)))
simplify-case p name (si.Simplified steps) (small, g, c, named, simplifies, count) =
    inr (small, inr (inr (named-case p name (Some g) (λ o. SimplifiedFirst o (si.Simplified steps)) named (steps, refl))))

simplify-alike : (p name : List ℕ) (a b : SimplifyAnswer) → SimplifyCase p name a → SimplifyCase p name b → without_steps a ≡ without_steps b
simplify-alike p name a b (inl h) (inl k) = ap without_steps (h.1 ∙ sym k.1)
simplify-alike p name a b (inl h) (inr k) = absurd (over (length p) proof_limit h.0 k.0)
simplify-alike p name a b (inr h) (inl k) = absurd (over (length p) proof_limit k.0 h.0)
simplify-alike p name a b (inr h) (inr k) = text-once si.Unreadable si.IllFormed (SimplifySays name) without_steps (simplify-once name) p a b h.1 k.1

-- ---- what is judged

-- what an answer says of a certificate that is of its group: of the steps, and of what they give
abbrev ResultSays : CertTree → List DefTree → LawsAnswer → Type 0
ResultSays c es a = ((es ≡ c.result → ⊥) × (a ≡ la.OtherResult)) ⊎ ((es ≡ c.result) × (a ≡ la.Accepted (length c.steps)))

abbrev StepsSay : CertTree → LawsAnswer → Type 0
StepsSay c a = ((i : ℕ) × IsFirstBad c.steps c.old.defs i × (a ≡ la.BadStep (step_line c.old i)))
    ⊎ ((es : List DefTree) × AreRewritingSteps c.steps c.old.defs es × ResultSays c es a)

-- what it says of the first group of the certificate's name, if there is one
abbrev CertSays : Option GroupTree → CertTree → LawsAnswer → Type 0
CertSays None c a = a ≡ la.NoFunction
CertSays (Some g) c a = ((c.old ≡ g → ⊥) × (a ≡ la.OtherGroup)) ⊎ ((c.old ≡ g) × StepsSay c a)

-- what it says of the certificate's text
abbrev LawsSays : List ℕ → List GroupTree → LawsAnswer → Type 0
LawsSays text gs a = ((n : ℕ) × IsBadAt cert_texts text n × (a ≡ la.UnreadableCert n))
    ⊎ ((c : CertTree) × IsCertText text c × CertSays (first_named c.old.name gs) c a)

result-once : (c : CertTree) (es fs : List DefTree) (a b : LawsAnswer) → es ≡ fs → ResultSays c es a → ResultSays c fs b → a ≡ b
result-once c es fs a b same (inl h) (inl k) = h.1 ∙ sym k.1
result-once c es fs a b same (inl h) (inr k) = absurd (h.0 (same ∙ k.0))
result-once c es fs a b same (inr h) (inl k) = absurd (k.0 (sym same ∙ h.0))
result-once c es fs a b same (inr h) (inr k) = h.1 ∙ sym k.1

steps-once : (c : CertTree) (a b : LawsAnswer) → StepsSay c a → StepsSay c b → a ≡ b
steps-once c a b (inl (i, h, is)) (inl (j, k, this)) = is ∙ ap (λ n. la.BadStep (step_line c.old n)) (one_first_bad c.steps c.old.defs i j h k) ∙ sym this
steps-once c a b (inl (i, h, is)) (inr (es, k, more)) = absurd (no_result c.steps c.old.defs es i h k)
steps-once c a b (inr (es, h, more)) (inl (j, k, this)) = absurd (no_result c.steps c.old.defs es j k h)
steps-once c a b (inr (es, h, more)) (inr (fs, k, others)) = result-once c es fs a b (one_result c.steps c.old.defs es fs h k) more others

cert-says-once : (found : Option GroupTree) (c : CertTree) (a b : LawsAnswer) → CertSays found c a → CertSays found c b → a ≡ b
cert-says-once None c a b h k = h ∙ sym k
cert-says-once (Some g) c a b (inl h) (inl k) = h.1 ∙ sym k.1
cert-says-once (Some g) c a b (inl h) (inr k) = absurd (h.0 k.0)
cert-says-once (Some g) c a b (inr h) (inl k) = absurd (k.0 h.0)
cert-says-once (Some g) c a b (inr h) (inr k) = steps-once c a b h.1 k.1

cert-there : (text : List ℕ) (c : CertTree) → IsCertText text c → InGrammar cert_texts text
cert-there text c h = (c, h.0, h.1)

laws-once : (text : List ℕ) (gs : List GroupTree) (a b : LawsAnswer) → LawsSays text gs a → LawsSays text gs b → a ≡ b
laws-once text gs a b (inl (n, h, is)) (inl (m, k, this)) = is ∙ ap la.UnreadableCert (bad-once cert_texts text n m h k) ∙ sym this
laws-once text gs a b (inl (n, h, is)) (inr (c, k, more)) = absurd (not-bad cert_texts text n h (cert-there text c k))
laws-once text gs a b (inr (c, h, more)) (inl (m, k, this)) = absurd (not-bad cert_texts text m k (cert-there text c h))
laws-once text gs a b (inr (c, h, more)) (inr (d, k, others)) =
    let same : c ≡ d = certs-once c d h.0 k.0 (sym h.1 ∙ k.1) in
    cert-says-once (first_named d.old.name gs) d a b (subst (λ (x : CertTree). CertSays (first_named x.old.name gs) x a) same more) others

abbrev TextsCase : List ℕ → List ℕ → LawsAnswer → Type 0
TextsCase file text a = TextCase la.Unreadable la.IllFormed (LawsSays text) file a

-- what is said of a certificate, by the first group of its name
cert-case : (file text : List ℕ) (c : CertTree) (found : Option GroupTree) (a : LawsAnswer) → IsCertText text c → IsNamed file c.old.name found → CertSays found c a → TextsCase file text a
cert-case file text c found a is named h =
    let n = named-case file c.old.name found (λ o. CertSays o c a) named h in
    inr (inr (n.0, n.1, n.2, inr (c, is, n.3)))

texts-case : (file text : List ℕ) (a : LawsAnswer) → TextsGive file text a → TextsCase file text a
texts-case file text la.ProofOverLimit h = absurd h
texts-case file text la.CertOverLimit h = absurd h
texts-case file text (la.Unreadable line) h = inl (line, h, refl)
texts-case file text (la.IllFormed group def) h = inr (inl (group, def, h, refl))
texts-case file text (la.UnreadableCert line) ((ps, is, well), bad) = inr (inr (ps, is, well, inl (line, bad, refl)))
texts-case file text la.NoFunction (c, is, named) = cert-case file text c None la.NoFunction is named refl
texts-case file text la.OtherGroup (c, g, is, named, other) = cert-case file text c (Some g) la.OtherGroup is named (inl (other, refl))
texts-case file text (la.BadStep line) (c, i, is, named, bad, at) =
    cert-case file text c (Some c.old) (la.BadStep line) is named (inr (refl, inl (i, bad, ap la.BadStep at)))
texts-case file text la.OtherResult (c, es, is, named, are, other) =
    cert-case file text c (Some c.old) la.OtherResult is named (inr (refl, inr (es, are, inl (other, refl))))
texts-case file text (la.Accepted steps) (c, is, named, are, same, count) =
    cert-case file text c (Some c.old) (la.Accepted steps) is named (inr (refl, inr (c.result, are, inr (refl, ap la.Accepted count))))

-- the certificate's text is over the limit, or the two texts are looked at
abbrev LimitCase : List ℕ → List ℕ → LawsAnswer → Type 0
LimitCase file text a = ((cert_limit < length text) × (a ≡ la.CertOverLimit)) ⊎ ((length text ≤ cert_limit) × TextsCase file text a)

abbrev CertCase : Contents → List ℕ → List ℕ → LawsAnswer → Type 0
CertCase files cert file a = (text : List ℕ) × (files cert ≡ Some text) × LimitCase file text a

abbrev LawsCase : Contents → List ℕ → List ℕ → LawsAnswer → Type 0
LawsCase files cert file a = ((proof_limit < length file) × (a ≡ la.ProofOverLimit)) ⊎ ((length file ≤ proof_limit) × CertCase files cert file a)

held-case : (files : Contents) (cert file : List ℕ) (a : LawsAnswer) → length file ≤ proof_limit → HasFile (Some files) cert (λ text. (length text ≤ cert_limit) × TextsGive file text a)
    → LawsCase files cert file a
held-case files cert file a small (text, held, (within, h)) = inr (small, (text, held, inr (within, texts-case file text a h)))

laws-case : (files : Contents) (cert file : List ℕ) (a : LawsAnswer) → LawsGives (Some files) cert file a → LawsCase files cert file a
laws-case files cert file la.ProofOverLimit h = inl (h, refl)
laws-case files cert file la.CertOverLimit (small, (text, held, long)) = inr (small, (text, held, inl (long, refl)))
laws-case files cert file (la.Unreadable line) h = held-case files cert file (la.Unreadable line) h.0 h.1
laws-case files cert file (la.IllFormed group def) h = held-case files cert file (la.IllFormed group def) h.0 h.1
laws-case files cert file (la.UnreadableCert line) h = held-case files cert file (la.UnreadableCert line) h.0 h.1
laws-case files cert file la.NoFunction h = held-case files cert file la.NoFunction h.0 h.1
laws-case files cert file la.OtherGroup h = held-case files cert file la.OtherGroup h.0 h.1
laws-case files cert file (la.BadStep line) h = held-case files cert file (la.BadStep line) h.0 h.1
laws-case files cert file la.OtherResult h = held-case files cert file la.OtherResult h.0 h.1
laws-case files cert file (la.Accepted steps) h = held-case files cert file (la.Accepted steps) h.0 h.1

cert-unique : (files : Contents) (cert file : List ℕ) (a b : LawsAnswer) → CertCase files cert file a → CertCase files cert file b → a ≡ b
cert-unique files cert file a b (text, held, h) (other, holds, k) =
    let same : text ≡ other = some_file text other (sym held ∙ holds) in
    of-text other (subst (λ (t : List ℕ). LimitCase file t a) same h) k
  where
    of-text : (t : List ℕ) → LimitCase file t a → LimitCase file t b → a ≡ b
    of-text t (inl h) (inl k) = h.1 ∙ sym k.1
    of-text t (inl h) (inr k) = absurd (over (length t) cert_limit h.0 k.0)
    of-text t (inr h) (inl k) = absurd (over (length t) cert_limit k.0 h.0)
    of-text t (inr h) (inr k) = text-once la.Unreadable la.IllFormed (LawsSays t) (λ b. b) (laws-once t) file a b h.1 k.1

laws-unique : (files : Contents) (cert file : List ℕ) (a b : LawsAnswer) → LawsCase files cert file a → LawsCase files cert file b → a ≡ b
laws-unique files cert file a b (inl h) (inl k) = h.1 ∙ sym k.1
laws-unique files cert file a b (inl h) (inr k) = absurd (over (length file) proof_limit h.0 k.0)
laws-unique files cert file a b (inr h) (inl k) = absurd (over (length file) proof_limit k.0 h.0)
laws-unique files cert file a b (inr h) (inr k) = cert-unique files cert file a b h.1 k.1

-- ---- what is exported

-- what an answer says of a definition that is there
abbrev LoopSays : GroupTree → ℕ → SmtAnswer → Type 0
LoopSays g def a = ((least : ℕ) × IsLeastLoop g def least × (a ≡ sm.Loop least)) ⊎ (IsLoopFree g def × (a ≡ sm.Exported def))

-- what it says of the first group of a name, if there is one
abbrev DefSays : Option GroupTree → ℕ → SmtAnswer → Type 0
DefSays None def a = a ≡ sm.NoFunction
DefSays (Some g) def a = ((length g.defs ≤ def) × (a ≡ sm.NoDef)) ⊎ ((def < length g.defs) × LoopSays g def a)

loop-once : (g : GroupTree) (def l m : ℕ) → IsLeastLoop g def l → IsLeastLoop g def m → l ≡ m
loop-once g def l m h k = ⊎_elim (λ e. e) (⊎_elim (λ lt. absurd (k.least l lt h.reached h.enters)) (λ gt. absurd (h.least m gt k.reached k.enters))) (cases_order l m)

loop-says-once : (g : GroupTree) (def : ℕ) (a b : SmtAnswer) → LoopSays g def a → LoopSays g def b → a ≡ b
loop-says-once g def a b (inl (l, h, is)) (inl (m, k, this)) = is ∙ ap sm.Loop (loop-once g def l m h k) ∙ sym this
loop-says-once g def a b (inl (l, h, is)) (inr k) = absurd (k.0 l h.reached h.enters)
loop-says-once g def a b (inr h) (inl (m, k, this)) = absurd (h.0 m k.reached k.enters)
loop-says-once g def a b (inr h) (inr k) = h.1 ∙ sym k.1

def-says-once : (found : Option GroupTree) (def : ℕ) (a b : SmtAnswer) → DefSays found def a → DefSays found def b → a ≡ b
def-says-once None def a b h k = h ∙ sym k
def-says-once (Some g) def a b (inl h) (inl k) = h.1 ∙ sym k.1
def-says-once (Some g) def a b (inl h) (inr k) = absurd (over (length g.defs) def k.0 h.0)
def-says-once (Some g) def a b (inr h) (inl k) = absurd (over (length g.defs) def h.0 k.0)
def-says-once (Some g) def a b (inr h) (inr k) = loop-says-once g def a b h.1 k.1

abbrev SmtSays : List ℕ → ℕ → List GroupTree → SmtAnswer → Type 0
SmtSays name def gs a = DefSays (first_named name gs) def a

smt-once : (name : List ℕ) (def : ℕ) (gs : List GroupTree) (a b : SmtAnswer) → SmtSays name def gs a → SmtSays name def gs b → a ≡ b
smt-once name def gs a b h k = def-says-once (first_named name gs) def a b h k

abbrev SmtCase : List ℕ → List ℕ → ℕ → SmtAnswer → Type 0
SmtCase p name def a =
    ((proof_limit < length p) × (a ≡ sm.OverLimit)) ⊎ ((length p ≤ proof_limit) × TextCase sm.Unreadable sm.IllFormed (SmtSays name def) p a)

good-def : (p name : List ℕ) (def : ℕ) (found : Option GroupTree) (a : SmtAnswer) → IsNamed p name found → DefSays found def a → TextCase sm.Unreadable sm.IllFormed (SmtSays name def) p a
good-def p name def found a named h = inr (inr (named-case p name found (λ o. DefSays o def a) named h))

smt-case : (p name : List ℕ) (def : ℕ) (a : SmtAnswer) → SmtGives p name def a → SmtCase p name def a
smt-case p name def sm.OverLimit h = inl (h, refl)
smt-case p name def (sm.Unreadable line) (small, bad) = inr (small, inl (line, bad, refl))
smt-case p name def (sm.IllFormed group d) (small, bad) = inr (small, inr (inl (group, d, bad, refl)))
smt-case p name def sm.NoFunction (small, named) = inr (small, good-def p name def None sm.NoFunction named refl)
smt-case p name def sm.NoDef (small, g, named, high) = inr (small, good-def p name def (Some g) sm.NoDef named (inl (high, refl)))
smt-case p name def (sm.Loop least) (small, g, named, low, is) = inr (small, good-def p name def (Some g) (sm.Loop least) named (inr (low, inl (least, is, refl))))
smt-case p name def (sm.Exported d) (small, g, named, low, free, same) =
    inr (small, good-def p name def (Some g) (sm.Exported d) named (inr (low, inr (free, ap sm.Exported same))))

smt-unique : (p name : List ℕ) (def : ℕ) (a b : SmtAnswer) → SmtCase p name def a → SmtCase p name def b → a ≡ b
smt-unique p name def a b (inl h) (inl k) = h.1 ∙ sym k.1
smt-unique p name def a b (inl h) (inr k) = absurd (over (length p) proof_limit h.0 k.0)
smt-unique p name def a b (inr h) (inl k) = absurd (over (length p) proof_limit k.0 h.0)
smt-unique p name def a b (inr h) (inr k) = text-once sm.Unreadable sm.IllFormed (SmtSays name def) (λ b. b) (smt-once name def) p a b h.1 k.1

-- the answer of a command, where the names hold these files
abbrev CommandGives : Contents → Command → Answer → Type 0
CommandGives files (Eval proof name turns args) a = (x : EvalAnswer) × (a ≡ answer.Eval x) × ((p : List ℕ) × (files proof ≡ Some p) × EvalGives p name turns args x)
CommandGives files (Run elf start until steps args) a = (x : RunAnswer) × (a ≡ answer.Run x) × ((p : List ℕ) × (files elf ≡ Some p) × RunGives p start until steps args x)
CommandGives files (Check elf proof) a = (x : CheckAnswer) × (a ≡ answer.Check x) × ((p : List ℕ) × (files elf ≡ Some p) × CheckGives (Some files) proof p x)
CommandGives files (Decompile form elf out names) a = (x : DecompileAnswer) × (a ≡ answer.Decompile x) × ((p : List ℕ) × (files elf ≡ Some p) × DecompileCase form p names x)
CommandGives files (SelfTest number size) a = (x : SelfTestAnswer) × (a ≡ answer.SelfTest x) × SelfTestGives number size x
CommandGives files (Simplify proof name out) a = (x : SimplifyAnswer) × (a ≡ answer.Simplify x) × ((p : List ℕ) × (files proof ≡ Some p) × SimplifyCase p name x)
CommandGives files (Laws proof cert) a = (x : LawsAnswer) × (a ≡ answer.Laws x) × ((p : List ℕ) × (files proof ≡ Some p) × LawsCase files cert p x)
CommandGives files (Smt proof name def out) a = (x : SmtAnswer) × (a ≡ answer.Smt x) × ((p : List ℕ) × (files proof ≡ Some p) × SmtCase p name def x)
CommandGives files (Migrate elf proof out) a = (x : MigrateAnswer) × (a ≡ answer.Migrate x) × ((p : List ℕ) × (files elf ≡ Some p) × MigrateCase files proof p x)

command-alike : (files : Contents) (c : Command) (a b : Answer) → CommandGives files c a → CommandGives files c b → Like a b
command-alike files (Eval proof name turns args) a b (x, ax, (p, held, h)) (y, by, (q, holds, k)) =
    let same : p ≡ q = some_file p q (sym held ∙ holds) in
    ap determined
    (ax ∙ ap answer.Eval (file-unique q name turns args x y (file-case q name turns args x (subst (λ (r : List ℕ). EvalGives r name turns args x) same h)) (file-case q name turns args y k)) ∙ sym by)
command-alike files (Run elf start until steps gs) a b (x, ax, (p, held, h)) (y, by, (q, holds, k)) =
    let same : p ≡ q = some_file p q (sym held ∙ holds) in
    ap determined
    (ax ∙ ap answer.Run (run-unique q start until steps gs x y (run-case q start until steps gs x (subst (λ (r : List ℕ). RunGives r start until steps gs x) same h)) (run-case q start until steps gs y k)) ∙ sym by)
command-alike files (Check elf proof) a b (x, ax, (p, held, h)) (y, by, (q, holds, k)) =
    let same : p ≡ q = some_file p q (sym held ∙ holds) in
    ap determined
    (ax ∙ ap answer.Check (check-unique files proof q x y (check-case files proof q x (subst (λ (r : List ℕ). CheckGives (Some files) proof r x) same h)) (check-case files proof q y k)) ∙ sym by)
command-alike files (Decompile form elf out names) a b (x, ax, (p, held, h)) (y, by, (q, holds, k)) =
    let same : p ≡ q = some_file p q (sym held ∙ holds) in
    ap determined ax ∙ ap answer.Decompile (decompile-alike form q names x y (subst (λ (r : List ℕ). DecompileCase form r names x) same h) k) ∙ sym (ap determined by)
command-alike files (SelfTest number size) a b (x, ax, h) (y, by, k) = ap determined ax ∙ ap answer.SelfTest (tests-alike number size x y h k) ∙ sym (ap determined by)
command-alike files (Simplify proof name out) a b (x, ax, (p, held, h)) (y, by, (q, holds, k)) =
    let same : p ≡ q = some_file p q (sym held ∙ holds) in
    ap determined ax ∙ ap answer.Simplify (simplify-alike q name x y (subst (λ (r : List ℕ). SimplifyCase r name x) same h) k) ∙ sym (ap determined by)
command-alike files (Laws proof cert) a b (x, ax, (p, held, h)) (y, by, (q, holds, k)) =
    let same : p ≡ q = some_file p q (sym held ∙ holds) in
    ap determined (ax ∙ ap answer.Laws (laws-unique files cert q x y (subst (λ (r : List ℕ). LawsCase files cert r x) same h) k) ∙ sym by)
command-alike files (Smt proof name def out) a b (x, ax, (p, held, h)) (y, by, (q, holds, k)) =
    let same : p ≡ q = some_file p q (sym held ∙ holds) in
    ap determined (ax ∙ ap answer.Smt (smt-unique q name def x y (subst (λ (r : List ℕ). SmtCase r name def x) same h) k) ∙ sym by)
command-alike files (Migrate elf proof out) a b (x, ax, (p, held, h)) (y, by, (q, holds, k)) =
    let same : p ≡ q = some_file p q (sym held ∙ holds) in
    ap determined (ax ∙ ap answer.Migrate (migrate-unique files proof q x y (subst (λ (r : List ℕ). MigrateCase files proof r x) same h) k) ∙ sym by)

-- ---- answers

abbrev WordsCase : Contents → List (List ℕ) → Answer → Type 0
WordsCase files ws a = (IsNoCommand ws × (a ≡ answer.NotACommand)) ⊎ ((c : Command) × Words ws c × CommandGives files c a)

-- an answer is that of a command or says that there is none, but for faults of the outside and lack of memory
words-case : (files : Contents) (ws : List (List ℕ)) (rose wrote : Type 0) (a : Answer) → Gives (Some files) ws rose wrote a → WordsCase files ws a ⊎ IsHindered (status a)
words-case files ws rose wrote answer.NotACommand h = inl (inl (h, refl))
words-case files ws rose wrote answer.ReadFault h = inr (inl refl)
words-case files ws rose wrote answer.WriteFault h = inr (inr (inl refl))
words-case files ws rose wrote answer.NoMemory h = inr (inr (inr refl))
words-case files ws rose wrote (answer.Eval x) (proof, name, turns, args, w, h) = inl (inr (Eval proof name turns args, w, (x, refl, h)))
words-case files ws rose wrote (answer.Run x) (elf, start, until, steps, args, w, h) = inl (inr (Run elf start until steps args, w, (x, refl, h)))
words-case files ws rose wrote (answer.Check x) (elf, proof, w, h) = inl (inr (Check elf proof, w, (x, refl, h)))
words-case files ws rose wrote (answer.Decompile x) (form, elf, out, names, w, (file, held, h)) =
    inl (inr (Decompile form elf out names, w, (x, refl, (file, held, decompile-case form file names x h))))
words-case files ws rose wrote (answer.SelfTest x) (number, size, w, h) = inl (inr (SelfTest number size, w, (x, refl, h)))
words-case files ws rose wrote (answer.Simplify x) (proof, name, out, w, (file, held, h)) = inl (inr (Simplify proof name out, w, (x, refl, (file, held, simplify-case file name x h))))
words-case files ws rose wrote (answer.Laws x) (proof, cert, w, (file, held, h)) = inl (inr (Laws proof cert, w, (x, refl, (file, held, laws-case files cert file x h))))
words-case files ws rose wrote (answer.Smt x) (proof, name, def, out, w, (file, held, h)) = inl (inr (Smt proof name def out, w, (x, refl, (file, held, smt-case file name def x h))))
words-case files ws rose wrote (answer.Migrate x) (elf, proof, out, w, (file, held, h)) = inl (inr (Migrate elf proof out, w, (x, refl, (file, held, migrate-case files proof file x h))))

words-alike : (files : Contents) (ws : List (List ℕ)) (a b : Answer) → WordsCase files ws a → WordsCase files ws b → Like a b
words-alike files ws a b (inl h) (inl k) = ap determined (h.1 ∙ sym k.1)
words-alike files ws a b (inl h) (inr k) = absurd (h.0 k.0 k.1)
words-alike files ws a b (inr h) (inl k) = absurd (k.0 h.0 h.1)
words-alike files ws a b (inr h) (inr k) = command-alike files k.0 a b (subst (λ (c : Command). CommandGives files c a) (words-unique ws h.0 k.0 h.1 k.1) h.2) k.2

-- ---- the top call

-- an answer that is like the given one is printed, or one of the two statuses is that of a fault or of lack of memory
abbrev pub ComesBut : Answer → ℕ → Option (List ℕ) → Option (List ℕ) → Type 0
ComesBut a result old new = ((b : Answer) × Like a b × IsPrinted b result old new) ⊎ (IsHindered (status a) ⊎ IsHindered result)

module _ (files : Contents) (ws : List (List ℕ)) (a b : Answer) (result : ℕ) (old new : Option (List ℕ)) where
  printed-exact : IsPrinted b result old new → WordsCase files ws a ⊎ IsHindered (status a) → WordsCase files ws b ⊎ IsHindered (status b) → ComesBut a result old new
  printed-exact p (inr h) k = inr (inl h)
  printed-exact p (inl h) (inr k) = inr (inr (subst IsHindered (sym p.0) k))
  printed-exact p (inl h) (inl k) = inl (b, words-alike files ws a b h k, p)

  delivered-exact : (rose wrote failed : Type 0) → Gives (Some files) ws rose wrote b → IsDelivered b result failed old new → Gives (Some files) ws rose wrote a → ComesBut a result old new
  delivered-exact rose wrote failed g (inl p) k = printed-exact p (words-case files ws rose wrote a k) (words-case files ws rose wrote b g)
  delivered-exact rose wrote failed g (inr (inl (five, f), h)) k = inr (inr (inr (inl five)))
  delivered-exact rose wrote failed g (inr (inr six, h)) k = inr (inr (inr (inr six)))

pub exact-given : (told : Option Contents) (ws : List (List ℕ)) (rose wrote : Type 0) (b : Answer) (result : ℕ) (failed : Type 0) (old new : Option (List ℕ))
    → Gives told ws rose wrote b → IsDelivered b result failed old new → IfSome told (λ files. (a : Answer) → Gives (Some files) ws rose wrote a → ComesBut a result old new)
exact-given None ws rose wrote b result failed old new g h = tt
exact-given (Some files) ws rose wrote b result failed old new g h = λ a k. delivered-exact files ws a b result old new rose wrote failed g h k

-- ---- what status 0 of `check` says

pub given-status : (b : Answer) (result : ℕ) (failed : Type 0) (old new : Option (List ℕ)) → IsDelivered b result failed old new → result ≡ 0 → status b ≡ 0
given-status b result failed old new (inl h) none = sym h.0 ∙ none
given-status b result failed old new (inr (inl (five, f), h)) none = absurd (omega (arith, five, none))
given-status b result failed old new (inr (inr six, h)) none = absurd (omega (arith, six, none))

-- a command whose words are those of `check`
check-words : (ws : List (List ℕ)) (c : Command) (elf proof : List ℕ) → Words ws c → ws ≡ codes "check" ∷ elf ∷ proof ∷ [] → (name_of c ≡ codes "check") × (elf ∷ proof ∷ [] ≡ operands_of c)
check-words ws c elf proof v w = named-words ws (elf ∷ proof ∷ []) (codes "check") c w v

pub same-words : (elf proof elf' proof' : List ℕ) → elf ∷ proof ∷ [] ≡ elf' ∷ proof' ∷ [] → (elf' ≡ elf) × (proof' ≡ proof)
same-words elf proof elf' proof' e = (cc, cc)

accepted-files : (files : Contents) (elf proof file : List ℕ) (functions lines : ℕ) → files elf ≡ Some file → CheckGives (Some files) proof file (ca.Judged (verdict.Accepted functions lines)) → AreRightFiles files elf proof
accepted-files files elf proof file functions lines holds (loaded, (text, held, (short, good))) =
    let l = accepted-lists (named_version text) file text functions lines good in
    record {
      file = file;
      text = text;
      holds_file = holds;
      holds_text = held;
      version = named_version text;
      groups = l.0;
      fit = groups-fit (named_version text) text l.0 l.1;
      listed = groups-left (named_version text) text l.0 l.1;
      right = accepted-in (named_version text) file text (verdict.Accepted functions lines) good tt l.0 l.1;
    }

status-zero : (files : Contents) (elf proof file : List ℕ) (a : CheckAnswer) → files elf ≡ Some file → CheckGives (Some files) proof file a → status (answer.Check a) ≡ 0 → AreRightFiles files elf proof
status-zero files elf proof file ca.ElfOverLimit holds h e = absurd (omega (arith, e))
status-zero files elf proof file ca.ProofOverLimit holds h e = absurd (omega (arith, e))
status-zero files elf proof file (ca.Judged (verdict.BadElf why)) holds h e = absurd (omega (arith, e))
status-zero files elf proof file (ca.Judged (verdict.BadText line)) holds h e = absurd (omega (arith, e))
status-zero files elf proof file (ca.Judged (verdict.BadDef group def)) holds h e = absurd (omega (arith, e))
status-zero files elf proof file (ca.Judged (verdict.BadLine line)) holds h e = absurd (omega (arith, e))
status-zero files elf proof file (ca.Judged (verdict.NotProved group)) holds h e = absurd (omega (arith, e))
status-zero files elf proof file (ca.Judged verdict.NoMemory) holds h e = absurd (omega (arith, e))
status-zero files elf proof file (ca.Judged (verdict.Accepted functions lines)) holds h e = accepted-files files elf proof file functions lines holds h

answered : (files : Contents) (ws : List (List ℕ)) (rose wrote : Type 0) (b : Answer) (elf proof : List ℕ) → Gives (Some files) ws rose wrote b → ws ≡ codes "check" ∷ elf ∷ proof ∷ [] → status b ≡ 0 → AreRightFiles files elf proof
answered files ws rose wrote answer.NotACommand elf proof g w e = absurd (omega (arith, e))
answered files ws rose wrote answer.ReadFault elf proof g w e = absurd (omega (arith, e))
answered files ws rose wrote answer.WriteFault elf proof g w e = absurd (omega (arith, e))
answered files ws rose wrote answer.NoMemory elf proof g w e = absurd (omega (arith, e))
answered files ws rose wrote (answer.Eval x) elf proof (p, n, t, args, v, h) w e = absurd (other-name (codes "eval") (codes "check") refl (check-words ws (Eval p n t args) elf proof v w).0)
answered files ws rose wrote (answer.Run x) elf proof (f, s, u, k, args, v, h) w e = absurd (other-name (codes "run") (codes "check") refl (check-words ws (Run f s u k args) elf proof v w).0)
answered files ws rose wrote (answer.Check x) elf proof (elf', proof', v, (file, holds, h)) w e =
    let same = same-words elf proof elf' proof' (check-words ws (Check elf' proof') elf proof v w).1 in
    status-zero files elf proof file x (ap files (sym same.0) ∙ holds) (subst (λ (p : List ℕ). CheckGives (Some files) p file x) same.1 h) e
answered files ws rose wrote (answer.Decompile x) elf proof (form, f, o, names, v, h) w e = absurd (not-a-form (codes "check") refl refl refl form (sym (check-words ws (Decompile form f o names) elf proof v w).0))
answered files ws rose wrote (answer.SelfTest x) elf proof (n, s, v, h) w e = absurd (other-name (codes "selftest") (codes "check") refl (check-words ws (SelfTest n s) elf proof v w).0)
answered files ws rose wrote (answer.Simplify x) elf proof (p, n, o, v, h) w e = absurd (other-name (codes "simplify") (codes "check") refl (check-words ws (Simplify p n o) elf proof v w).0)
answered files ws rose wrote (answer.Laws x) elf proof (p, c, v, h) w e = absurd (other-name (codes "laws") (codes "check") refl (check-words ws (Laws p c) elf proof v w).0)
answered files ws rose wrote (answer.Smt x) elf proof (p, n, d, o, v, h) w e = absurd (other-name (codes "smt") (codes "check") refl (check-words ws (Smt p n d o) elf proof v w).0)
answered files ws rose wrote (answer.Migrate x) elf proof (f, p, o, v, h) w e = absurd (other-name (codes "migrate") (codes "check") refl (check-words ws (Migrate f p o) elf proof v w).0)

pub headline-given : (told : Option Contents) (ws : List (List ℕ)) (rose wrote : Type 0) (b : Answer) (result : ℕ) (failed : Type 0) (old new : Option (List ℕ))
    → Gives told ws rose wrote b → IsDelivered b result failed old new
    → IfSome told (λ files. (elf proof : List ℕ) → ws ≡ codes "check" ∷ elf ∷ proof ∷ [] → result ≡ 0 → AreRightFiles files elf proof)
headline-given None ws rose wrote b result failed old new g d = tt
headline-given (Some files) ws rose wrote b result failed old new g d = λ elf proof w none. answered files ws rose wrote b elf proof g w (given-status b result failed old new d none)
