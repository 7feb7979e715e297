-- How groups of definitions are written: the tokens of each form, a line a rule.
--
--   TEXT   = mcproof V eol GROUP* end eol
--   GROUP  = group NAME eol regs REG* eol mems D eol code RANGE* eol DEF+
--   DEF    = def N EXIT* eol BODY                the entry, the exits
--   EXIT   = N | ret
--   BODY   = STEP* END
--   STEP   = let W eol | letm M eol | need C eol
--   END    = if C eol BODY else eol BODY
--          | call D D VALUES eol ARM*            the definition, how many arms, the arguments
--          | again VALUES eol
--          | leave D VALUES eol                  the exit's number, the results
--   ARM    = arm eol BODY
--   VALUES = W* ; M*
--
-- V is the number of the version, D and REG are decimals, N is a hexadecimal number, eol the end of a line; W, M, C and
-- RANGE are those of terms.
use Rattle.std.specs.Prelude.{ℕ, suc, List, [], ◌∷◌, ◌++◌, codes, flat_map}
use Rattle.std.specs.Fmt.{decimal}
use Rattle.mc_text.specs.Number.{hex}
use Rattle.mc_text.specs.Tokens.{Tok, Semi, Atom, Eol, spell}
use Rattle.mc_text.specs.declared.token.Before.TheVariants.{Start}
use Rattle.group_text.specs.TermSpelling.{joined, word_tokens, mem_tokens, cond_tokens, range_tokens}
use Rattle.tailrec_lang.specs.Tree.{ValuesTree, StepTree, Bind, BindMem, Need, BodyTree, Do, Branch, Call, Again, Leave, ArmTrees, NoArm, Arm, DefTree, GroupTree}
use Rattle.group_text.specs.Version.{Version, version_1}
use Rattle.tailrec_lang.specs.declared.group.Exit.{Exit}
use Rattle.tailrec_lang.specs.declared.group.Exit.TheVariants.{At, Ret}

-- a line: a word, and the parts after it
abbrev pub line : List ℕ → List (List Tok) → List Tok
line word parts = Atom word ∷ joined parts (Eol ∷ [])

abbrev pub number : ℕ → List Tok
number n = Atom (decimal n) ∷ []

abbrev pub address : ℕ → List Tok
address a = Atom (hex a) ∷ []

abbrev pub exit_tokens : Exit → List Tok
exit_tokens (At a) = address a
exit_tokens Ret = Atom (codes "ret") ∷ []

abbrev pub values_tokens : ValuesTree → List Tok
values_tokens v = flat_map word_tokens v.words ++ (Semi ∷ flat_map mem_tokens v.mems)

abbrev pub step_tokens : StepTree → List Tok
step_tokens (Bind t) = line (codes "let") (word_tokens t ∷ [])
step_tokens (BindMem m) = line (codes "letm") (mem_tokens m ∷ [])
step_tokens (Need c) = line (codes "need") (cond_tokens c ∷ [])

abbrev pub arm_count : ArmTrees → ℕ
arm_count NoArm = 0
arm_count (Arm b bs) = suc (arm_count bs)

abbrev mutual
  pub body_tokens : BodyTree → List Tok
  body_tokens (Do step rest) = step_tokens step ++ body_tokens rest
  body_tokens (Branch c a b) = line (codes "if") (cond_tokens c ∷ []) ++ (body_tokens a ++ (line (codes "else") [] ++ body_tokens b))
  body_tokens (Call def v arms) = line (codes "call") (number def ∷ number (arm_count arms) ∷ values_tokens v ∷ []) ++ arm_tokens arms
  body_tokens (Again v) = line (codes "again") (values_tokens v ∷ [])
  body_tokens (Leave exit v) = line (codes "leave") (number exit ∷ values_tokens v ∷ [])

  pub arm_tokens : ArmTrees → List Tok
  arm_tokens NoArm = []
  arm_tokens (Arm b bs) = line (codes "arm") [] ++ (body_tokens b ++ arm_tokens bs)

abbrev pub def_tokens : DefTree → List Tok
def_tokens d = line (codes "def") (address d.entry ∷ flat_map exit_tokens d.exits ∷ []) ++ body_tokens d.body

abbrev pub group_tokens : GroupTree → List Tok
group_tokens g =
    line (codes "group") ((Atom g.name ∷ []) ∷ []) ++
    (line (codes "regs") (flat_map number g.regs ∷ []) ++
    (line (codes "mems") (number g.mems ∷ []) ++
    (line (codes "code") (flat_map range_tokens g.code ∷ []) ++
    flat_map def_tokens g.defs)))

abbrev pub end_tokens : List Tok
end_tokens = line (codes "end") []

-- the first line of a text of that version
abbrev pub title_tokens : Version → List Tok
title_tokens v = line (codes "mcproof") ((Atom v.title ∷ []) ∷ [])

-- the text of a list of groups in that version
abbrev pub text_in : Version → List GroupTree → List ℕ
text_in v gs = spell Start (title_tokens v ++ (flat_map group_tokens gs ++ end_tokens))

-- ---- the version that is written

abbrev pub head_tokens : List Tok
head_tokens = title_tokens version_1

abbrev pub text_of : List GroupTree → List ℕ
text_of gs = text_in version_1 gs
