-- How tables of terms and short lines are written: the tokens of each form, a line a rule.
--
--   TERM  = term NODE eol
--   NODE  = N | vD | mD | ( OP T T ) | ( EXT T ) | ( LOAD T T ) | ( STORE T T T )
--         | ( CMP T T ) | ( not T ) | ( IN T T )
--   LINE  = axiom N N FORM eol
--         | inst K SUB* eol
--         | frame K X* ; T* eol                   the further registers and memories
--         | extend K code CODE eol
--         | compose K K eol
--         | strengthen K facts F* pre A eol
--         | weaken K facts F* post A eol
--         | discharge K facts F* eol
--         | use D D eol
--         | loop D K* eol
--         | forget K eol
--   SUB   = ( vD T ) | ( mD T )
--   F     = ( is T T ) | ( mis T T ) | ( so T ) | ( gives D D T* ; T* ; T* ; T* )
--   A     = ( T X* ; T* )
--   X     = ( REG T )
--
-- T is `t` with the number of a term of the table, which has the kind that version 1 has in this place. D, N, K, REG, FORM, CODE and
-- the names of forms are those of version 1.
use Rattle.std.specs.Prelude.{ℕ, List, [], ◌∷◌, ◌++◌, codes, flat_map}
use Rattle.std.specs.Fmt.{decimal}
use Rattle.mc_text.specs.Number.{hex}
use Rattle.mc_text.specs.Tokens.{Tok, Left, Right, Semi, Atom}
use Rattle.rv_words.specs.Operation.{operation_name, comparison_name}
use Rattle.rv_words.specs.declared.range.Range.{Range}
use Rattle.group_text.specs.TermSpelling.{extension_name, access_name, form, joined}
use Rattle.term_arena.specs.declared.node.Node.{Node}
use Rattle.term_arena.specs.declared.node.Node.TheVariants as node
use Rattle.group_text.specs.Spelling.{line, number, address}
use Rattle.proof_text.specs.LineSpelling.{code_tokens, form_tokens}
use Rattle.held_terms.specs.declared.held.HeldValues.{HeldValues}
use Rattle.held_terms.specs.declared.held.HeldFact.{HeldFact}
use Rattle.held_terms.specs.declared.held.HeldFact.TheVariants as held
use Rattle.held_terms.specs.declared.held.HeldSide.{HeldSide}
use Rattle.short_text.specs.declared.short.Short.{Short}
use Rattle.short_text.specs.declared.short.Short.TheVariants as short

-- the term of that number
abbrev pub term_number : ℕ → List Tok
term_number k = Atom (codes "t" ++ decimal k) ∷ []

abbrev pub node_tokens : Node → List Tok
node_tokens (node.Const n) = Atom (hex n) ∷ []
node_tokens (node.WordVar i) = Atom (codes "v" ++ decimal i) ∷ []
node_tokens (node.Bin op a b) = form (operation_name op) (term_number a ∷ term_number b ∷ [])
node_tokens (node.Extend ext a) = form (extension_name ext) (term_number a ∷ [])
node_tokens (node.Load width m a) = form (access_name (codes "ld") width) (term_number m ∷ term_number a ∷ [])
node_tokens (node.MemVar i) = Atom (codes "m" ++ decimal i) ∷ []
node_tokens (node.Store width m a v) = form (access_name (codes "st") width) (term_number m ∷ term_number a ∷ term_number v ∷ [])
node_tokens (node.Compare cmp a b) = form (comparison_name cmp) (term_number a ∷ term_number b ∷ [])
node_tokens (node.Neg c) = form (codes "not") (term_number c ∷ [])
node_tokens (node.Inside width m a) = form (access_name (codes "in") width) (term_number m ∷ term_number a ∷ [])

-- a line of the table
abbrev pub table_line : Node → List Tok
table_line n = line (codes "term") (node_tokens n ∷ [])

abbrev pub held_values_tokens : HeldValues → List Tok
held_values_tokens v = flat_map term_number v.words ++ (Semi ∷ flat_map term_number v.mems)

abbrev pub held_fact_tokens : HeldFact → List Tok
held_fact_tokens (held.WordIs a b) = form (codes "is") (term_number a ∷ term_number b ∷ [])
held_fact_tokens (held.MemIs a b) = form (codes "mis") (term_number a ∷ term_number b ∷ [])
held_fact_tokens (held.So c) = form (codes "so") (term_number c ∷ [])
held_fact_tokens (held.Gives def exit args results) = form (codes "gives") (number def ∷ number exit ∷ held_values_tokens args ∷ (Semi ∷ []) ∷ held_values_tokens results ∷ [])

abbrev pub held_register_tokens : ℕ × ℕ → List Tok
held_register_tokens r = form (decimal r.0) (term_number r.1 ∷ [])

abbrev pub held_side_tokens : HeldSide → List Tok
held_side_tokens s = Left ∷ joined (term_number s.pc ∷ flat_map held_register_tokens s.regs ∷ (Semi ∷ []) ∷ flat_map term_number s.mems ∷ []) (Right ∷ [])

-- a term for a variable of a word, of a memory
abbrev pub word_place_tokens : ℕ × ℕ → List Tok
word_place_tokens s = form (codes "v" ++ decimal s.0) (term_number s.1 ∷ [])

abbrev pub mem_place_tokens : ℕ × ℕ → List Tok
mem_place_tokens s = form (codes "m" ++ decimal s.0) (term_number s.1 ∷ [])

-- a word, and items behind it
abbrev pub list_tokens : {X : Type 0} → List ℕ → (X → List Tok) → List X → List Tok
list_tokens word tokens xs = Atom word ∷ flat_map tokens xs

-- a line, beside the group's own code
abbrev pub short_tokens : List Range → Short → List Tok
short_tokens own (short.Axiom a word form) = line (codes "axiom") (address a ∷ address word ∷ form_tokens form ∷ [])
short_tokens own (short.Inst p words mems) = line (codes "inst") (number p ∷ flat_map word_place_tokens words ∷ flat_map mem_place_tokens mems ∷ [])
short_tokens own (short.Frame p regs mems) = line (codes "frame") (number p ∷ flat_map held_register_tokens regs ∷ (Semi ∷ []) ∷ flat_map term_number mems ∷ [])
short_tokens own (short.ExtendCode p code) = line (codes "extend") (number p ∷ (Atom (codes "code") ∷ code_tokens own code.ranges) ∷ [])
short_tokens own (short.Compose p q) = line (codes "compose") (number p ∷ number q ∷ [])
short_tokens own (short.Strengthen p facts pre) = line (codes "strengthen") (number p ∷ list_tokens (codes "facts") held_fact_tokens facts ∷ (Atom (codes "pre") ∷ held_side_tokens pre) ∷ [])
short_tokens own (short.Weaken p facts post) = line (codes "weaken") (number p ∷ list_tokens (codes "facts") held_fact_tokens facts ∷ (Atom (codes "post") ∷ held_side_tokens post) ∷ [])
short_tokens own (short.Discharge p facts) = line (codes "discharge") (number p ∷ list_tokens (codes "facts") held_fact_tokens facts ∷ [])
short_tokens own (short.UseExit def exit) = line (codes "use") (number def ∷ number exit ∷ [])
short_tokens own (short.Loop def cited) = line (codes "loop") (number def ∷ flat_map number cited ∷ [])
short_tokens own (short.Forget k) = line (codes "forget") (number k ∷ [])
