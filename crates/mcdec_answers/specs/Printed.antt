-- How an answer is printed: its status, and its lines.
use Rattle.std.specs.Prelude.{◌≡◌, ℕ, List, [], ◌∷◌, ◌++◌, take, flat_map, codes, min, max, Option, ◌⊎◌}
use Rattle.std.specs.Fmt.{decimal}
use Rattle.hex.specs.Hex.{encode_lower}
use Rattle.rv_words.specs.declared.range.Range.{Range}
use Rattle.mc_shelf.specs.Fault.{WhereTold}
use Rattle.elf_image.specs.declared.fault.ElfFault.{ElfFault}
use Rattle.elf_image.specs.declared.fault.ElfFault.TheVariants as fault
use Rattle.rv_machine.specs.declared.state.Stuck.{Stuck}
use Rattle.rv_machine.specs.declared.state.Stuck.TheVariants as stuck
use Rattle.elf_image.specs.declared.symbol.NameFault.{NameFault}
use Rattle.elf_image.specs.declared.symbol.NameFault.TheVariants as name
use Rattle.verdicts.specs.declared.verdict.Verdict.{Verdict}
use Rattle.verdicts.specs.declared.verdict.Verdict.TheVariants as verdict
use Rattle.mcdec_answers.specs.declared.answer.Answer.{Answer}
use Rattle.mcdec_answers.specs.declared.answer.Answer.TheVariants as answer
use Rattle.mcdec_answers.specs.declared.answer.EvalAnswer.{EvalAnswer}
use Rattle.mcdec_answers.specs.declared.answer.EvalAnswer.TheVariants as eval
use Rattle.mcdec_answers.specs.declared.answer.RunAnswer.{RunAnswer}
use Rattle.mcdec_answers.specs.declared.answer.RunAnswer.TheVariants as run
use Rattle.mcdec_answers.specs.declared.answer.CheckAnswer.{CheckAnswer}
use Rattle.mcdec_answers.specs.declared.answer.CheckAnswer.TheVariants as check
use Rattle.flow_graph.specs.declared.outside.Outside.{Outside}
use Rattle.flow_graph.specs.declared.outside.Outside.TheVariants as outside
use Rattle.loop_forest.specs.Cycles.{last_of}
use Rattle.code_parts.specs.declared.call_fault.LinkWhy.{LinkWhy}
use Rattle.code_parts.specs.declared.call_fault.LinkWhy.TheVariants as link
use Rattle.mcdec_answers.specs.Command.{memory_name}
use Rattle.mcdec_answers.specs.declared.command.Memory.{Memory}
use Rattle.mcdec_answers.specs.declared.command.Memory.TheVariants.{First, Second}
use Rattle.mcdec_answers.specs.declared.command.Form.{Form}
use Rattle.mcdec_answers.specs.declared.command.Form.TheVariants.{Alone, Linked, Split}
use Rattle.mcdec_answers.specs.declared.answer.DecompileAnswer.{DecompileAnswer}
use Rattle.mcdec_answers.specs.declared.answer.DecompileAnswer.TheVariants as decompile
use Rattle.mcdec_answers.specs.declared.answer.Listed.{Listed}
use Rattle.mcdec_answers.specs.declared.answer.SelfTestAnswer.{SelfTestAnswer}
use Rattle.mcdec_answers.specs.declared.answer.SimplifyAnswer.{SimplifyAnswer}
use Rattle.mcdec_answers.specs.declared.answer.SimplifyAnswer.TheVariants as simplify
use Rattle.mcdec_answers.specs.declared.answer.LawsAnswer.{LawsAnswer}
use Rattle.mcdec_answers.specs.declared.answer.LawsAnswer.TheVariants as laws
use Rattle.mcdec_answers.specs.declared.answer.SmtAnswer.{SmtAnswer}
use Rattle.mcdec_answers.specs.declared.answer.SmtAnswer.TheVariants as smt
use Rattle.mcdec_answers.specs.declared.answer.MigrateAnswer.{MigrateAnswer}
use Rattle.mcdec_answers.specs.declared.answer.MigrateAnswer.TheVariants as migrate
use Rattle.mcdec_answers.specs.declared.answer.Shown.{Shown}
use Rattle.mc_text.specs.Number.{hex}

-- xN V
abbrev pub register_line : ℕ → ℕ → List ℕ
register_line r w = codes "x" ++ decimal r ++ codes " " ++ hex w ++ codes "\n"

-- a line for each register
abbrev pub register_lines : List ℕ → List ℕ → List ℕ
register_lines (r ∷ rs) (w ∷ ws) = register_line r w ++ register_lines rs ws
register_lines _ _ = []

-- mem A H · stk A H
abbrev pub range_line : Memory → Range → List ℕ
range_line m r = memory_name m ++ codes " " ++ hex r.at ++ codes " " ++ encode_lower r.bytes ++ codes "\n"

-- those of each memory
abbrev pub memory_lines : (memory stack : List Range) → List ℕ
memory_lines memory stack = flat_map (range_line First) memory ++ flat_map (range_line Second) stack

-- done T or met K, and pc A
abbrev pub count_lines : List ℕ → ℕ → ℕ → List ℕ
count_lines word count pc = word ++ decimal count ++ codes "\npc " ++ hex pc ++ codes "\n"

-- these, and the lines of registers and of memories
abbrev pub shown_lines : List ℕ → Shown → List ℕ
shown_lines word s = count_lines word s.count s.pc ++ register_lines s.registers s.words ++ memory_lines s.memory s.stack

-- why there is no step
abbrev pub stuck_words : Stuck → List ℕ
stuck_words (stuck.Misaligned a) = codes "misaligned " ++ hex a
stuck_words stuck.NoFetch = codes "no-fetch"
stuck_words (stuck.NotDecoded w) = codes "not-decoded " ++ hex w
stuck_words stuck.Environment = codes "environment"
stuck_words (stuck.NoByte a) = codes "no-byte " ++ hex a

-- why an ELF file isn't read
abbrev pub fault_words : ElfFault → List ℕ
fault_words fault.NotElf = codes "not-elf"
fault_words fault.Class = codes "class"
fault_words fault.Order = codes "order"
fault_words (fault.Kind n) = codes "kind " ++ decimal n
fault_words (fault.Machine n) = codes "machine " ++ decimal n
fault_words (fault.Cut place) = codes "cut " ++ decimal place
fault_words (fault.Overlap i j) = codes "overlap " ++ decimal i ++ codes " " ++ decimal j
fault_words (fault.Wraps i) = codes "wraps " ++ decimal i
fault_words (fault.TooMany n) = codes "too-many " ++ decimal n
fault_words fault.Symbols = codes "symbols"
fault_words (fault.Entry n) = codes "entry " ++ decimal n
fault_words (fault.Sizes i) = codes "sizes " ++ decimal i
fault_words (fault.TooBig n) = codes "too-big " ++ decimal n
fault_words fault.NoMemory = codes "no memory"

-- why a name has no one value
abbrev pub name_words : NameFault → List ℕ
name_words name.NoSuch = codes "no-such"
name_words (name.Ambiguous low high) = codes "ambiguous " ++ hex low ++ codes " " ++ hex high

-- Why a name is outside the fragment. Two entries are told by the nodes at which two walks meet the cycle, the lesser first.
abbrev pub outside_words : Outside → List ℕ
outside_words outside.NoSuch = codes "no-such"
outside_words (outside.Ambiguous low high) = codes "ambiguous " ++ hex low ++ codes " " ++ hex high
outside_words outside.TooLarge = codes "too-large"
outside_words (outside.OutsideCode a) = codes "outside-code " ++ hex a
outside_words (outside.NotDecoded a w) = codes "not-decoded " ++ hex a ++ codes " " ++ hex w
outside_words (outside.Environment a) = codes "environment " ++ hex a
outside_words (outside.Call a) = codes "call " ++ hex a
outside_words (outside.JumpThrough a) = codes "jump-through " ++ hex a
outside_words (outside.Misaligned a target) = codes "misaligned " ++ hex a ++ codes " " ++ hex target
outside_words (outside.TwoEntries cycle first second) =
    codes "two-entries " ++ hex (min (last_of first) (last_of second)) ++ codes " " ++ hex (max (last_of first) (last_of second))
outside_words (outside.ManyExits a) = codes "many-exits " ++ hex a

-- .. or, with the functions that it calls, can't be linked
abbrev pub link_words : LinkWhy → List ℕ
link_words (link.Outside why) = outside_words why
link_words (link.Recursive a) = codes "recursive " ++ hex a

abbrev pub done_word : Form → List ℕ
done_word Alone = codes "decompiled "
done_word Linked = codes "linked "
done_word Split = codes "split "

-- decompiled NAME A I D · linked NAME A I D · split NAME A I D
abbrev pub listed_line : Form → Listed → List ℕ
listed_line form l = done_word form ++ l.name ++ codes " " ++ hex l.entry ++ codes " " ++ decimal l.reached ++ codes " " ++ decimal l.defs ++ codes "\n"

-- selftest NUMBER SIZE instructions I defs D steps K turns T x10 V
abbrev pub self_test_line : SelfTestAnswer → List ℕ
self_test_line a =
    codes "selftest " ++ decimal a.number ++ codes " " ++ decimal a.size ++ codes " instructions " ++ decimal a.outcome.instructions ++ codes " defs " ++ decimal a.outcome.defs
    ++ codes " steps " ++ decimal a.outcome.steps ++ codes " turns " ++ decimal a.outcome.turns ++ codes " x10 " ++ hex a.outcome.value ++ codes "\n"

-- the status and the lines of what `eval` comes to
abbrev pub eval_printed : EvalAnswer → ℕ × List ℕ
eval_printed eval.OverLimit = (7, codes "over limit proof\n")
eval_printed (eval.Unreadable line) = (3, codes "unreadable text " ++ decimal line ++ codes "\n")
eval_printed (eval.IllFormed group def) = (1, codes "refused def " ++ decimal group ++ codes " " ++ decimal def ++ codes "\n")
eval_printed eval.NoFunction = (1, codes "refused no function\n")
eval_printed (eval.SideFalse def ordinal) = (1, codes "refused side " ++ decimal def ++ codes " " ++ decimal ordinal ++ codes "\n")
eval_printed eval.TurnsUsed = (7, codes "turns used\n")
eval_printed (eval.Done shown) = (0, shown_lines (codes "done ") shown)

-- the status and the lines of what `run` comes to
abbrev pub run_printed : RunAnswer → ℕ × List ℕ
run_printed run.OverLimit = (7, codes "over limit elf\n")
run_printed (run.Unreadable why) = (3, codes "unreadable elf " ++ fault_words why ++ codes "\n")
run_printed (run.StartRefused start why) = (1, codes "refused " ++ start ++ codes " " ++ name_words why ++ codes "\n")
run_printed (run.Stuck steps why) = (1, codes "refused stuck " ++ decimal steps ++ codes " " ++ stuck_words why ++ codes "\n")
run_printed run.StepsUsed = (7, codes "steps used\n")
run_printed (run.Met shown) = (0, shown_lines (codes "met ") shown)

-- the status and the lines of a verdict
abbrev pub verdict_printed : Verdict → ℕ × List ℕ
verdict_printed (verdict.Accepted functions lines) = (0, codes "accepted " ++ decimal functions ++ codes " " ++ decimal lines ++ codes "\n")
verdict_printed (verdict.BadElf why) = (3, codes "unreadable elf " ++ fault_words why ++ codes "\n")
verdict_printed (verdict.BadText line) = (3, codes "unreadable text " ++ decimal line ++ codes "\n")
verdict_printed (verdict.BadDef group def) = (1, codes "refused def " ++ decimal group ++ codes " " ++ decimal def ++ codes "\n")
verdict_printed (verdict.BadLine line) = (1, codes "refused line " ++ decimal line ++ codes "\n")
verdict_printed (verdict.NotProved group) = (1, codes "refused group " ++ decimal group ++ codes "\n")
verdict_printed verdict.NoMemory = (6, codes "no memory\n")

-- the status and the lines of what `check` comes to
abbrev pub check_printed : CheckAnswer → ℕ × List ℕ
check_printed check.ElfOverLimit = (7, codes "over limit elf\n")
check_printed check.ProofOverLimit = (7, codes "over limit proof\n")
check_printed (check.Judged v) = verdict_printed v

-- the status and the lines of what `decompile`, `link` and `split` come to
abbrev pub decompile_printed : DecompileAnswer → ℕ × List ℕ
decompile_printed decompile.OverLimit = (7, codes "over limit elf\n")
decompile_printed (decompile.Unreadable why) = (3, codes "unreadable elf " ++ fault_words why ++ codes "\n")
decompile_printed (decompile.Refused name why) = (1, codes "refused " ++ name ++ codes " " ++ link_words why ++ codes "\n")
decompile_printed (decompile.Decompiled form listed) = (0, flat_map (listed_line form) listed)

-- the status and the lines of what `simplify` comes to
abbrev pub simplify_printed : SimplifyAnswer → ℕ × List ℕ
simplify_printed simplify.OverLimit = (7, codes "over limit proof\n")
simplify_printed (simplify.Unreadable line) = (3, codes "unreadable text " ++ decimal line ++ codes "\n")
simplify_printed (simplify.IllFormed group def) = (1, codes "refused def " ++ decimal group ++ codes " " ++ decimal def ++ codes "\n")
simplify_printed simplify.NoFunction = (1, codes "refused no function\n")
simplify_printed (simplify.Simplified steps) = (0, codes "simplified " ++ decimal steps ++ codes "\n")

-- the status and the lines of what `laws` comes to
abbrev pub laws_printed : LawsAnswer → ℕ × List ℕ
laws_printed laws.ProofOverLimit = (7, codes "over limit proof\n")
laws_printed laws.CertOverLimit = (7, codes "over limit laws\n")
laws_printed (laws.Unreadable line) = (3, codes "unreadable text " ++ decimal line ++ codes "\n")
laws_printed (laws.IllFormed group def) = (1, codes "refused def " ++ decimal group ++ codes " " ++ decimal def ++ codes "\n")
laws_printed (laws.UnreadableCert line) = (3, codes "unreadable laws " ++ decimal line ++ codes "\n")
laws_printed laws.NoFunction = (1, codes "refused no function\n")
laws_printed laws.OtherGroup = (1, codes "refused group\n")
laws_printed (laws.BadStep line) = (1, codes "refused step " ++ decimal line ++ codes "\n")
laws_printed laws.OtherResult = (1, codes "refused result\n")
laws_printed (laws.Accepted steps) = (0, codes "accepted " ++ decimal steps ++ codes "\n")

-- the status and the lines of what `smt` comes to
abbrev pub smt_printed : SmtAnswer → ℕ × List ℕ
smt_printed smt.OverLimit = (7, codes "over limit proof\n")
smt_printed (smt.Unreadable line) = (3, codes "unreadable text " ++ decimal line ++ codes "\n")
smt_printed (smt.IllFormed group def) = (1, codes "refused def " ++ decimal group ++ codes " " ++ decimal def ++ codes "\n")
smt_printed smt.NoFunction = (1, codes "refused no function\n")
smt_printed smt.NoDef = (1, codes "refused no def\n")
smt_printed (smt.Loop def) = (1, codes "refused loop " ++ decimal def ++ codes "\n")
smt_printed (smt.Exported def) = (0, codes "exported " ++ decimal def ++ codes "\n")

-- the status and the lines of what `migrate` comes to
abbrev pub migrate_printed : MigrateAnswer → ℕ × List ℕ
migrate_printed migrate.ElfOverLimit = (7, codes "over limit elf\n")
migrate_printed migrate.ProofOverLimit = (7, codes "over limit proof\n")
migrate_printed (migrate.Refused v) = verdict_printed v
migrate_printed (migrate.Migrated functions lines) = (0, codes "migrated " ++ decimal functions ++ codes " " ++ decimal lines ++ codes "\n")

-- the status and the lines of each answer
abbrev pub printed : Answer → ℕ × List ℕ
printed answer.NotACommand = (2, codes "not a command\n")
printed answer.ReadFault = (4, codes "read fault\n")
printed answer.WriteFault = (5, codes "write fault\n")
printed answer.NoMemory = (6, codes "no memory\n")
printed (answer.Eval a) = eval_printed a
printed (answer.Run a) = run_printed a
printed (answer.Check a) = check_printed a
printed (answer.Decompile a) = decompile_printed a
printed (answer.SelfTest a) = (0, self_test_line a)
printed (answer.Simplify a) = simplify_printed a
printed (answer.Laws a) = laws_printed a
printed (answer.Smt a) = smt_printed a
printed (answer.Migrate a) = migrate_printed a

abbrev pub status : Answer → ℕ
status a = (printed a).0

abbrev pub lines : Answer → List ℕ
lines a = (printed a).1

-- the sink gained the text, or a front of it
abbrev pub GainsFront : List ℕ → List ℕ → List ℕ → Type 0
GainsFront text old new = (kept : ℕ) × (new ≡ old ++ take kept text)

-- the sink gained all lines of the answer, and the status is the answer's
abbrev pub IsPrinted : Answer → ℕ → Option (List ℕ) → Option (List ℕ) → Type 0
IsPrinted a result old new = (result ≡ status a) × WhereTold old new (λ o n. n ≡ o ++ lines a)

-- It was printed, or a front of its lines was, where the sink failed, with status 5, or found no memory, with status 6. `failed` says that
-- the sink's count of faults rose.
abbrev pub IsDelivered : Answer → ℕ → (failed : Type 0) → Option (List ℕ) → Option (List ℕ) → Type 0
IsDelivered a result failed old new =
    IsPrinted a result old new ⊎ ((((result ≡ 5) × failed) ⊎ (result ≡ 6)) × WhereTold old new (GainsFront (lines a)))
