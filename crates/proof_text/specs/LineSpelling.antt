-- How the lines of a proof are written: the tokens of each form, a line a rule.
--
--   LINE   = RULE TRIPLE eol
--          | loop D K* eol                       the definition, a theorem for each leaf
--          | forget K eol
--          | FURTHER K TRIPLE eol                in versions with a further rule
--   RULE   = axiom N N FORM                      the address, the instruction
--          | inst K SUB*
--          | frame K | extend K | compose K K
--          | strengthen K | weaken K | discharge K
--          | use D D                             the definition, the exit
--   FURTHER = steer                            in version 3
--           | exchange                          in version 4
--   FORM   = next | taken
--   SUB    = ( vD W ) | ( mD M )
--   TRIPLE = facts F* pre A code CODE post A
--   F      = ( is W W ) | ( mis M M ) | ( so C )
--          | ( gives D D VALUES ; VALUES )       the definition, the exit, the arguments, the results
--   A      = ( W X* ; M* )                       the program counter, the registers, the memories
--   X      = ( REG W )
--   CODE   = all | RANGE*                        `all` where it is the group's code, and only there
--
-- K is a decimal, the number of a theorem; D, N, REG, VALUES and eol are those of groups, W, M, C and RANGE those of terms.
use lib.Pointwise.{pointwise}
use Rattle.std.specs.Prelude.{ℕ, Bool, ◌&&◌, ◌==◌, if◌then◌else◌, List, [], ◌∷◌, ◌++◌, codes, flat_map, unwrap_or}
use Rattle.std.specs.Str.{bytes_eq}
use Rattle.std.specs.Fmt.{decimal}
use Rattle.mc_text.specs.Tokens.{Tok, Left, Right, Semi, Atom, Eol}
use Rattle.rv_words.specs.declared.range.Range.{Range}
use Rattle.word_terms.specs.Tree.{WordTree, MemTree}
use Rattle.group_text.specs.TermSpelling.{form, joined, word_tokens, mem_tokens, cond_tokens, range_tokens}
use Rattle.sep_assert.specs.Tree.{AssertionTree}
use Rattle.triple_kernel.specs.Tree.{FactTree, WordIs, MemIs, So, Gives, TripleTree}
use Rattle.triple_kernel.specs.declared.form.Form.{Form}
use Rattle.triple_kernel.specs.declared.form.Form.TheVariants.{Next, Taken}
use Rattle.proof_text.specs.Line.{RuleTree, Axiom, Inst, Frame, Compose, ExtendCode, Strengthen, Weaken, Discharge, UseExit, LineTree, States, Loop, Forget, Further}
use Rattle.group_text.specs.Version.{Version, version_1}
use Rattle.group_text.specs.Spelling.{line, number, address, values_tokens}

-- a word, and the parts after it
abbrev pub keyed_tokens : List ℕ → List (List Tok) → List Tok
keyed_tokens word parts = Atom word ∷ joined parts []

abbrev pub fact_tokens : FactTree → List Tok
fact_tokens (WordIs a b) = form (codes "is") (word_tokens a ∷ word_tokens b ∷ [])
fact_tokens (MemIs a b) = form (codes "mis") (mem_tokens a ∷ mem_tokens b ∷ [])
fact_tokens (So c) = form (codes "so") (cond_tokens c ∷ [])
fact_tokens (Gives def exit args results) = form (codes "gives") (number def ∷ number exit ∷ values_tokens args ∷ (Semi ∷ []) ∷ values_tokens results ∷ [])

abbrev pub register_tokens : ℕ × WordTree → List Tok
register_tokens r = form (decimal r.0) (word_tokens r.1 ∷ [])

abbrev pub assertion_tokens : AssertionTree → List Tok
assertion_tokens a = Left ∷ joined (word_tokens a.pc ∷ flat_map register_tokens a.regs ∷ (Semi ∷ []) ∷ flat_map mem_tokens a.mems ∷ []) (Right ∷ [])

-- whether two codes are the same ranges
abbrev pub same_ranges : List Range → List Range → Bool
same_ranges rs ss = pointwise (λ (r s : Range). r.at == s.at && bytes_eq r.bytes s.bytes) rs ss

-- code, beside the group's own
abbrev pub code_tokens : List Range → List Range → List Tok
code_tokens own code = if same_ranges code own then Atom (codes "all") ∷ [] else flat_map range_tokens code

-- a triple, beside the group's own code
abbrev pub triple_tokens : List Range → TripleTree → List Tok
triple_tokens own t =
    Atom (codes "facts") ∷ (flat_map fact_tokens t.facts ++
    (Atom (codes "pre") ∷ (assertion_tokens t.pre ++
    (Atom (codes "code") ∷ (code_tokens own t.code ++
    (Atom (codes "post") ∷ assertion_tokens t.post))))))

abbrev pub form_tokens : Form → List Tok
form_tokens Next = Atom (codes "next") ∷ []
form_tokens Taken = Atom (codes "taken") ∷ []

abbrev pub word_sub_tokens : ℕ × WordTree → List Tok
word_sub_tokens s = form (codes "v" ++ decimal s.0) (word_tokens s.1 ∷ [])

abbrev pub mem_sub_tokens : ℕ × MemTree → List Tok
mem_sub_tokens s = form (codes "m" ++ decimal s.0) (mem_tokens s.1 ∷ [])

abbrev pub rule_tokens : RuleTree → List Tok
rule_tokens (Axiom a word form) = keyed_tokens (codes "axiom") (address a ∷ address word ∷ form_tokens form ∷ [])
rule_tokens (Inst p words mems) = keyed_tokens (codes "inst") (number p ∷ flat_map word_sub_tokens words ∷ flat_map mem_sub_tokens mems ∷ [])
rule_tokens (Frame p) = keyed_tokens (codes "frame") (number p ∷ [])
rule_tokens (Compose p q) = keyed_tokens (codes "compose") (number p ∷ number q ∷ [])
rule_tokens (ExtendCode p) = keyed_tokens (codes "extend") (number p ∷ [])
rule_tokens (Strengthen p) = keyed_tokens (codes "strengthen") (number p ∷ [])
rule_tokens (Weaken p) = keyed_tokens (codes "weaken") (number p ∷ [])
rule_tokens (Discharge p) = keyed_tokens (codes "discharge") (number p ∷ [])
rule_tokens (UseExit def exit) = keyed_tokens (codes "use") (number def ∷ number exit ∷ [])

-- a line in texts of that version, beside the group's own code
abbrev pub line_tokens_in : Version → List Range → LineTree → List Tok
line_tokens_in v own (States rule t) = rule_tokens rule ++ (triple_tokens own t ++ Eol ∷ [])
line_tokens_in v own (Loop def cited) = line (codes "loop") (number def ∷ flat_map number cited ∷ [])
line_tokens_in v own (Forget k) = line (codes "forget") (number k ∷ [])
line_tokens_in v own (Further p t) = keyed_tokens (unwrap_or v.further []) (number p ∷ []) ++ (triple_tokens own t ++ Eol ∷ [])

-- ---- the version without a further rule

abbrev pub line_tokens : List Range → LineTree → List Tok
line_tokens own l = line_tokens_in version_1 own l
