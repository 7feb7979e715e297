-- Reading the lines of proofs from tokens, by computing: a line a rule of the grammar. A list of items is read with what
-- stands behind it, so the words between the parts of a triple are read with the part before them.
use Rattle.std.specs.Prelude.{ℕ, ◌+◌, ◌^◌, Bool, true, false, ◌&&◌, not, nat_le, List, [], ◌∷◌, map, codes, Option, option_map, if◌then◌else◌}
use Rattle.mc_text.specs.Number.{hex_of, number_of}
use Rattle.mc_text.specs.Tokens.{Atom}
use Rattle.mc_text.specs.Reading.{Reader, pair, with, made, one, atom_of, below, star, is_left, is_right, is_open, address_at}
use Rattle.mc_text.specs.inner.Reading.{is_semi, eol, word, keyed, checked, number_at}
use Rattle.rv_words.specs.declared.range.Range.{Range}
use Rattle.word_terms.specs.Tree.{WordTree, MemTree}
use Rattle.group_text.specs.TermLimits.{depth_limit}
use Rattle.group_text.specs.TermReading.{named, or_option, variable_of, form_of, word_at, mem_at, cond_at, range_at, begins_word, begins_mem}
use Rattle.tailrec_lang.specs.Tree.{ValuesTree}
use Rattle.sep_assert.specs.Tree.{AssertionTree}
use Rattle.triple_kernel.specs.Tree.{FactTree, WordIs, MemIs, So, Gives, TripleTree}
use Rattle.triple_kernel.specs.declared.form.Form.{Form}
use Rattle.triple_kernel.specs.declared.form.Form.TheVariants.{Next, Taken}
use Rattle.proof_text.specs.declared.line_heads.FactHead.{FactHead}
use Rattle.proof_text.specs.declared.line_heads.FactHead.TheVariants as fact_head
use Rattle.proof_text.specs.declared.line_heads.RuleHead.{RuleHead}
use Rattle.proof_text.specs.declared.line_heads.RuleHead.TheVariants as rule_head
use Rattle.proof_text.specs.declared.line_heads.SubHead.{SubHead}
use Rattle.proof_text.specs.declared.line_heads.SubHead.TheVariants as sub_head
use Rattle.proof_text.specs.Line.{RuleTree, Axiom, Inst, Frame, Compose, ExtendCode, Strengthen, Weaken, Discharge, UseExit, LineTree, States, Loop, Forget, Further}
use Rattle.group_text.specs.Version.{Version, is_further}
use Rattle.proof_text.specs.LineSpelling.{same_ranges}
use Rattle.proof_text.specs.LineLimits.{IsLineIn}
use Rattle.proof_text.specs.LineGrammar.{whole_lines}
use Rattle.group_text.specs.inner.Reading.{has_atom, registers_rise, ranges_rise}
use Rattle.proof_text.specs.inner.LineReaders.{LineReaders}

-- ---- numbers

-- the number of a definition, an exit or a variable
abbrev pub index_at : Reader ℕ
index_at = number_at (2 ^ 32)

-- the number of a theorem
abbrev pub theorem_at : Reader ℕ
theorem_at = one (atom_of (λ a. number_of 10 a))

-- an instruction word
abbrev pub instruction_of : List ℕ → Option ℕ
instruction_of a = below (2 ^ 32) (hex_of a)

-- ---- facts

abbrev pub fact_name : FactHead → List ℕ
fact_name fact_head.WordIs = codes "is"
fact_name fact_head.MemIs = codes "mis"
fact_name fact_head.So = codes "so"
fact_name fact_head.Gives = codes "gives"

abbrev pub fact_heads : List FactHead
fact_heads = fact_head.WordIs ∷ fact_head.MemIs ∷ fact_head.So ∷ fact_head.Gives ∷ []

unfoldable pub fact_head_of : List ℕ → Option FactHead
fact_head_of text = named fact_name fact_heads text

-- the values, with what stands behind them
abbrev pub values_with : Reader (Unit {0}) → Reader ValuesTree
values_with end = made (λ x. record { words = x.0; mems = x.1.1.0 }) (pair (star begins_word (word_at depth_limit)) (pair (one is_semi) (pair (star begins_mem (mem_at depth_limit)) end)))

-- what stands after the name of a form, with the parenthesis at its end
abbrev pub fact_parts : FactHead → Reader FactTree
fact_parts fact_head.WordIs = made (λ x. WordIs x.0 x.1.0) (pair (word_at depth_limit) (pair (word_at depth_limit) (one is_right)))
fact_parts fact_head.MemIs = made (λ x. MemIs x.0 x.1.0) (pair (mem_at depth_limit) (pair (mem_at depth_limit) (one is_right)))
fact_parts fact_head.So = made (λ x. So x.0) (pair (cond_at depth_limit) (one is_right))
fact_parts fact_head.Gives = made (λ x. Gives x.0 x.1.0 x.1.1.0 x.1.1.1) (pair index_at (pair index_at (pair (values_with (one is_semi)) (values_with (one is_right)))))

unfoldable pub fact_at : Reader FactTree
fact_at = form_of fact_head_of fact_parts

-- ---- assertions

unfoldable pub register_at : Reader (ℕ × WordTree)
register_at = made (λ x. (x.1.0, x.1.1.0)) (pair (one is_left) (pair (number_at 32) (pair (word_at depth_limit) (one is_right))))

abbrev pub has_rising : AssertionTree → Bool
has_rising a = registers_rise 1 (map (λ r. r.0) a.regs)

unfoldable pub assertion_at : Reader AssertionTree
assertion_at = checked has_rising
    (made (λ x. record { pc = x.1.0; regs = x.1.1.0; mems = x.1.1.1.1.0 })
    (pair (one is_left) (pair (word_at depth_limit) (pair (star is_open register_at) (pair (one is_semi) (pair (star begins_mem (mem_at depth_limit)) (one is_right)))))))

-- ---- triples

-- rising ranges other than the group's own
abbrev pub is_other_code : List Range → List Range → Bool
is_other_code own ranges = ranges_rise 0 ranges && not (same_ranges ranges own)

abbrev pub ranges_to_post : Reader (List Range)
ranges_to_post = made (λ x. x.0) (pair (star is_open range_at) (word (codes "post")))

-- code, by the group's own, with the word behind it
unfoldable pub code_at : List Range → Reader (List Range)
code_at own = keyed (codes "all") (made (λ _. own) (word (codes "post"))) (checked (is_other_code own) ranges_to_post)

-- a triple, after its first word
unfoldable pub triple_at : List Range → Reader TripleTree
triple_at own =
    made (λ x. record { facts = x.0; pre = x.1.1.0; code = x.1.1.1.1.0; post = x.1.1.1.1.1 })
    (pair (star is_open fact_at) (pair (word (codes "pre")) (pair assertion_at (pair (word (codes "code")) (pair (code_at own) assertion_at)))))

-- ---- substitutions

-- a term for a variable
pub data SubTree : Type 0 where
  ForWord : (i : ℕ) (t : WordTree) → SubTree
  ForMem : (i : ℕ) (m : MemTree) → SubTree

unfoldable pub sub_head_of : List ℕ → Option SubHead
sub_head_of text = or_option (option_map sub_head.Word (variable_of 118 text)) (option_map sub_head.Mem (variable_of 109 text))

abbrev pub sub_parts : SubHead → Reader SubTree
sub_parts (sub_head.Word i) = made (λ x. ForWord i x.0) (pair (word_at depth_limit) (one is_right))
sub_parts (sub_head.Mem i) = made (λ x. ForMem i x.0) (pair (mem_at depth_limit) (one is_right))

unfoldable pub sub_at : Reader SubTree
sub_at = form_of sub_head_of sub_parts

-- memories alone follow, with variables from `least` on, rising
abbrev pub mems_rise : ℕ → List SubTree → Bool
mems_rise least [] = true
mems_rise least (ForWord i t ∷ ss) = false
mems_rise least (ForMem i m ∷ ss) = nat_le least i && mems_rise (i + 1) ss

-- words with variables from `least` on, rising, and then memories likewise from 0 on
abbrev pub subs_rise : ℕ → List SubTree → Bool
subs_rise least [] = true
subs_rise least (ForWord i t ∷ ss) = nat_le least i && subs_rise (i + 1) ss
subs_rise least (ForMem i m ∷ ss) = mems_rise 0 (ForMem i m ∷ ss)

-- the words among them, and the memories
abbrev pub words_of : List SubTree → List (ℕ × WordTree)
words_of [] = []
words_of (ForWord i t ∷ ss) = (i, t) ∷ words_of ss
words_of (ForMem i m ∷ ss) = words_of ss

abbrev pub mems_of : List SubTree → List (ℕ × MemTree)
mems_of [] = []
mems_of (ForWord i t ∷ ss) = mems_of ss
mems_of (ForMem i m ∷ ss) = (i, m) ∷ mems_of ss

-- ---- rules

abbrev pub rule_name : RuleHead → List ℕ
rule_name rule_head.Axiom = codes "axiom"
rule_name rule_head.Inst = codes "inst"
rule_name rule_head.Frame = codes "frame"
rule_name rule_head.Compose = codes "compose"
rule_name rule_head.ExtendCode = codes "extend"
rule_name rule_head.Strengthen = codes "strengthen"
rule_name rule_head.Weaken = codes "weaken"
rule_name rule_head.Discharge = codes "discharge"
rule_name rule_head.UseExit = codes "use"

abbrev pub rule_heads : List RuleHead
rule_heads =
    rule_head.Axiom ∷ rule_head.Inst ∷ rule_head.Frame ∷ rule_head.Compose ∷ rule_head.ExtendCode ∷ rule_head.Strengthen ∷ rule_head.Weaken
    ∷ rule_head.Discharge ∷ rule_head.UseExit ∷ []

unfoldable pub rule_head_of : List ℕ → Option RuleHead
rule_head_of text = named rule_name rule_heads text

abbrev pub axiom_form_name : Form → List ℕ
axiom_form_name Next = codes "next"
axiom_form_name Taken = codes "taken"

abbrev pub axiom_forms : List Form
axiom_forms = Next ∷ Taken ∷ []

unfoldable pub axiom_form_of : List ℕ → Option Form
axiom_form_of text = named axiom_form_name axiom_forms text

-- the first word of a triple
abbrev pub facts_word : Reader (Unit {0})
facts_word = word (codes "facts")

-- a theorem, and the first word of a triple
abbrev pub cited_at : Reader (ℕ × Unit {0})
cited_at = pair theorem_at facts_word

abbrev pub inst_parts : Reader (ℕ × (List SubTree × Unit {0}))
inst_parts = checked (λ x. subs_rise 0 x.1.0) (pair theorem_at (pair (star is_open sub_at) facts_word))

-- what stands after a rule's name, with the first word of the triple
abbrev pub rule_parts : RuleHead → Reader RuleTree
rule_parts rule_head.Axiom = made (λ x. Axiom x.0 x.1.0 x.1.1.0) (pair address_at (pair (one (atom_of instruction_of)) (pair (one (atom_of axiom_form_of)) facts_word)))
rule_parts rule_head.Inst = made (λ x. Inst x.0 (words_of x.1.0) (mems_of x.1.0)) inst_parts
rule_parts rule_head.Frame = made (λ x. Frame x.0) cited_at
rule_parts rule_head.Compose = made (λ x. Compose x.0 x.1.0) (pair theorem_at cited_at)
rule_parts rule_head.ExtendCode = made (λ x. ExtendCode x.0) cited_at
rule_parts rule_head.Strengthen = made (λ x. Strengthen x.0) cited_at
rule_parts rule_head.Weaken = made (λ x. Weaken x.0) cited_at
rule_parts rule_head.Discharge = made (λ x. Discharge x.0) cited_at
rule_parts rule_head.UseExit = made (λ x. UseExit x.0 x.1.0) (pair index_at (pair index_at facts_word))

-- a rule, with the first word of the triple
unfoldable pub rule_at : Reader RuleTree
rule_at = made (λ x. x.1) (with (one (atom_of rule_head_of)) rule_parts)

-- ---- lines

abbrev pub loop_row : Reader LineTree
loop_row = made (λ x. Loop x.0 x.1.0) (pair index_at (pair (star has_atom theorem_at) eol))

abbrev pub forget_row : Reader LineTree
forget_row = made (λ x. Forget x.0) (pair theorem_at eol)

-- a triple by the further rule, after its word
abbrev pub further_row : List Range → Reader LineTree
further_row own = made (λ x. Further x.0.0 x.1.0) (pair cited_at (pair (triple_at own) eol))

abbrev pub stated_row : List Range → Reader LineTree
stated_row own = made (λ x. States x.0 x.1.0) (pair rule_at (pair (triple_at own) eol))

-- what a word that passes the test leads to, and else
abbrev pub keyed_where : {X : Type 0} → (List ℕ → Bool) → Reader X → Reader X → Reader X
keyed_where test r other [] = other []
keyed_where test r other (Atom a ∷ ts) = if test a then r ts else other (Atom a ∷ ts)
keyed_where test r other (t ∷ ts) = other (t ∷ ts)

-- a line of texts of that version, by the group's own code
unfoldable pub line_at : Version → List Range → Reader LineTree
line_at v own = keyed (codes "loop") loop_row (keyed (codes "forget") forget_row (keyed_where (is_further v) (further_row own) (stated_row own)))

-- lines that state whole triples
abbrev pub whole_readers : LineReaders
whole_readers = record { grammar = whole_lines; Fits = λ v ls l. IsLineIn v l; line_at = λ v own ls. line_at v own }
