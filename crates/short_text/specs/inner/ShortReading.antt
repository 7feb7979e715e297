-- Reading tables and short lines from tokens, by computing: a line a rule of the grammar.
use Rattle.std.specs.Prelude.{ℕ, ◌+◌, Bool, true, false, ◌&&◌, not, nat_le, ◌==◌, if◌then◌else◌, List, [], ◌∷◌, map, codes, Option, Some, None, option_map}
use Rattle.std.specs.Str.{bytes_eq}
use Rattle.mc_text.specs.Number.{number_of, hex_of}
use Rattle.mc_text.specs.Tokens.{Tok, Atom, spell}
use Rattle.mc_text.specs.declared.token.Before.TheVariants.{Start}
use Rattle.mc_text.specs.Reading.{Reader, pair, with, made, one, atom_of, star, choice, is_left, is_right, is_open, address_at}
use Rattle.mc_text.specs.inner.Reading.{is_semi, eol, word, keyed, checked, number_at}
use Rattle.rv_words.specs.Operation.{operation_name, comparison_name}
use Rattle.rv_words.specs.declared.operation.Op.TheVariants.{Add, Sub, Sll, Slt, Sltu, Xor, Srl, Sra, Or, And, Mul, Mulh, Mulhsu, Mulhu, Div, Divu, Rem, Remu, Addw, Subw, Sllw, Srlw, Sraw, Mulw, Divw, Divuw, Remw, Remuw}
use Rattle.rv_words.specs.declared.extension.Ext.TheVariants.{Sx1, Sx2, Sx4}
use Rattle.rv_words.specs.declared.comparison.Cmp.TheVariants.{Eq, Ne, Lt, Ge, Ltu, Geu}
use Rattle.rv_words.specs.declared.width.Width.TheVariants.{B1, B2, B4, B8}
use Rattle.rv_words.specs.declared.range.Range.{Range}
use Rattle.group_text.specs.TermLimits.{depth_limit}
use Rattle.group_text.specs.TermSpelling.{extension_name, access_name}
use Rattle.group_text.specs.TermReading.{named, or_option, variable_of, form_of, range_at}
use Rattle.term_arena.specs.declared.node.Node.{Node}
use Rattle.term_arena.specs.declared.node.Node.TheVariants as node
use Rattle.group_text.specs.inner.Reading.{has_atom, registers_rise}
use Rattle.proof_text.specs.inner.LineReading.{index_at, theorem_at, instruction_of, axiom_form_of, is_other_code}
use Rattle.triple_kernel.specs.declared.form.Form.{Form}
use Rattle.held_terms.specs.declared.held.HeldValues.{HeldValues}
use Rattle.held_terms.specs.declared.held.HeldFact.{HeldFact}
use Rattle.held_terms.specs.declared.held.HeldFact.TheVariants as held
use Rattle.held_terms.specs.declared.held.HeldSide.{HeldSide}
use Rattle.short_text.specs.declared.kind.Kind.{Kind}
use Rattle.short_text.specs.declared.kind.Kind.TheVariants.{Word, Mem, Cond}
use Rattle.short_text.specs.declared.heads.NodeHead.{NodeHead}
use Rattle.short_text.specs.declared.heads.NodeHead.TheVariants as node_head
use Rattle.short_text.specs.declared.heads.FactName.{FactName}
use Rattle.short_text.specs.declared.heads.FactName.TheVariants as fact_name
use Rattle.short_text.specs.declared.heads.ShortHead.{ShortHead}
use Rattle.short_text.specs.declared.heads.ShortHead.TheVariants as short_head
use Rattle.short_text.specs.declared.places.Place.{Place}
use Rattle.short_text.specs.declared.places.Place.TheVariants as place
use Rattle.short_text.specs.declared.short.Short.{Short}
use Rattle.short_text.specs.declared.short.Short.TheVariants as short
use Rattle.short_text.specs.Table.{depth_over, depths_of}
use Rattle.short_text.specs.ShortSpelling.{table_line}
use Rattle.short_text.specs.inner.Kinds.{has_kind}

-- ---- numbers of terms

-- the number behind a term's letter
abbrev pub lettered : List ℕ → Option ℕ
lettered [] = None
lettered (b ∷ text) = if b == 116 then number_of 10 text else None

-- .. where the table has a term of that kind there
abbrev pub where_kind : List Node → Kind → Option ℕ → Option ℕ
where_kind ns kind None = None
where_kind ns kind (Some k) = if has_kind ns kind k then Some k else None

unfoldable pub number_of_kind : List Node → Kind → List ℕ → Option ℕ
number_of_kind ns kind text = where_kind ns kind (lettered text)

-- a term of that kind
abbrev pub term_at : List Node → Kind → Reader ℕ
term_at ns kind = one (atom_of (number_of_kind ns kind))

-- a term's number, whatever the table has there
abbrev pub any_term_at : Reader ℕ
any_term_at = one (atom_of lettered)

-- ---- nodes

abbrev pub node_head_name : NodeHead → List ℕ
node_head_name (node_head.Bin op) = operation_name op
node_head_name (node_head.Extend ext) = extension_name ext
node_head_name (node_head.Load width) = access_name (codes "ld") width
node_head_name (node_head.Store width) = access_name (codes "st") width
node_head_name (node_head.Compare cmp) = comparison_name cmp
node_head_name node_head.Neg = codes "not"
node_head_name (node_head.Inside width) = access_name (codes "in") width

abbrev pub node_heads : List NodeHead
node_heads =
    node_head.Bin Add ∷ node_head.Bin Sub ∷ node_head.Bin Sll ∷ node_head.Bin Slt ∷ node_head.Bin Sltu ∷ node_head.Bin Xor ∷ node_head.Bin Srl ∷ node_head.Bin Sra ∷ node_head.Bin Or
    ∷ node_head.Bin And ∷ node_head.Bin Mul ∷ node_head.Bin Mulh ∷ node_head.Bin Mulhsu ∷ node_head.Bin Mulhu ∷ node_head.Bin Div ∷ node_head.Bin Divu ∷ node_head.Bin Rem ∷ node_head.Bin Remu
    ∷ node_head.Bin Addw ∷ node_head.Bin Subw ∷ node_head.Bin Sllw ∷ node_head.Bin Srlw ∷ node_head.Bin Sraw ∷ node_head.Bin Mulw ∷ node_head.Bin Divw ∷ node_head.Bin Divuw ∷ node_head.Bin Remw
    ∷ node_head.Bin Remuw ∷ node_head.Extend Sx1 ∷ node_head.Extend Sx2 ∷ node_head.Extend Sx4 ∷ node_head.Load B1 ∷ node_head.Load B2 ∷ node_head.Load B4 ∷ node_head.Load B8 ∷ node_head.Store B1
    ∷ node_head.Store B2 ∷ node_head.Store B4 ∷ node_head.Store B8 ∷ node_head.Compare Eq ∷ node_head.Compare Ne ∷ node_head.Compare Lt ∷ node_head.Compare Ge ∷ node_head.Compare Ltu
    ∷ node_head.Compare Geu ∷ node_head.Neg ∷ node_head.Inside B1 ∷ node_head.Inside B2 ∷ node_head.Inside B4 ∷ node_head.Inside B8 ∷ []

unfoldable pub node_head_of : List ℕ → Option NodeHead
node_head_of text = named node_head_name node_heads text

-- a variable or a constant
unfoldable pub node_leaf_of : List ℕ → Option Node
node_leaf_of text = or_option (option_map node.WordVar (variable_of 118 text)) (or_option (option_map node.MemVar (variable_of 109 text)) (option_map node.Const (hex_of text)))

-- one term, two, three, with the parenthesis behind them
abbrev pub one_part : Reader (ℕ × Unit {0})
one_part = pair any_term_at (one is_right)

abbrev pub two_parts : Reader (ℕ × (ℕ × Unit {0}))
two_parts = pair any_term_at one_part

abbrev pub three_parts : Reader (ℕ × (ℕ × (ℕ × Unit {0})))
three_parts = pair any_term_at two_parts

-- what stands after the name of a form
abbrev pub node_parts : NodeHead → Reader Node
node_parts (node_head.Bin op) = made (λ x. node.Bin op x.0 x.1.0) two_parts
node_parts (node_head.Extend ext) = made (λ x. node.Extend ext x.0) one_part
node_parts (node_head.Load width) = made (λ x. node.Load width x.0 x.1.0) two_parts
node_parts (node_head.Store width) = made (λ x. node.Store width x.0 x.1.0 x.1.1.0) three_parts
node_parts (node_head.Compare cmp) = made (λ x. node.Compare cmp x.0 x.1.0) two_parts
node_parts node_head.Neg = made (λ x. node.Neg x.0) one_part
node_parts (node_head.Inside width) = made (λ x. node.Inside width x.0 x.1.0) two_parts

unfoldable pub node_at : Reader Node
node_at = choice is_open (form_of node_head_of node_parts) (one (atom_of node_leaf_of))

-- ---- tables

-- whether the children of a node are there, each of its kind
abbrev pub has_children : List Node → Node → Bool
has_children ns (node.Const n) = true
has_children ns (node.WordVar i) = true
has_children ns (node.Bin op a b) = has_kind ns Word a && has_kind ns Word b
has_children ns (node.Extend ext a) = has_kind ns Word a
has_children ns (node.Load width m a) = has_kind ns Mem m && has_kind ns Word a
has_children ns (node.MemVar i) = true
has_children ns (node.Store width m a v) = has_kind ns Mem m && (has_kind ns Word a && has_kind ns Word v)
has_children ns (node.Compare cmp a b) = has_kind ns Word a && has_kind ns Word b
has_children ns (node.Neg c) = has_kind ns Cond c
has_children ns (node.Inside width m a) = has_kind ns Mem m && has_kind ns Word a

abbrev pub node_text : Node → List ℕ
node_text n = spell Start (table_line n)

-- whether a term is written as one of these
abbrev pub is_written_in : List Node → Node → Bool
is_written_in [] n = false
is_written_in (m ∷ ms) n = if bytes_eq (node_text m) (node_text n) then true else is_written_in ms n

-- whether a term may stand behind these
unfoldable pub may_follow : List Node → Node → Bool
may_follow ns n = has_children ns n && (not (is_written_in ns n) && nat_le (depth_over (depths_of ns) n) depth_limit)

-- a line of a table, behind those terms
unfoldable pub term_row : List Node → Reader Node
term_row ns = made (λ x. x.1.0) (pair (word (codes "term")) (pair (checked (may_follow ns) node_at) eol))

abbrev pub is_term : Tok → Bool
is_term (Atom a) = bytes_eq a (codes "term")
is_term _ = false

-- ---- facts

abbrev pub fact_word : FactName → List ℕ
fact_word fact_name.WordIs = codes "is"
fact_word fact_name.MemIs = codes "mis"
fact_word fact_name.So = codes "so"
fact_word fact_name.Gives = codes "gives"

abbrev pub fact_names : List FactName
fact_names = fact_name.WordIs ∷ fact_name.MemIs ∷ fact_name.So ∷ fact_name.Gives ∷ []

unfoldable pub fact_name_of : List ℕ → Option FactName
fact_name_of text = named fact_word fact_names text

-- memories of the table, with what stands behind them
abbrev pub held_mems_with : List Node → Reader (Unit {0}) → Reader (List ℕ × Unit {0})
held_mems_with ns end = pair (star has_atom (term_at ns Mem)) end

-- words and memories of the table, with what stands behind them
abbrev pub held_values_with : List Node → Reader (Unit {0}) → Reader HeldValues
held_values_with ns end = made (λ x. record { words = x.0; mems = x.1.1.0 }) (pair (star has_atom (term_at ns Word)) (pair (one is_semi) (held_mems_with ns end)))

-- what stands after the name of a fact
abbrev pub held_fact_parts : List Node → FactName → Reader HeldFact
held_fact_parts ns fact_name.WordIs = made (λ x. held.WordIs x.0 x.1.0) (pair (term_at ns Word) (pair (term_at ns Word) (one is_right)))
held_fact_parts ns fact_name.MemIs = made (λ x. held.MemIs x.0 x.1.0) (pair (term_at ns Mem) (pair (term_at ns Mem) (one is_right)))
held_fact_parts ns fact_name.So = made (λ x. held.So x.0) (pair (term_at ns Cond) (one is_right))
held_fact_parts ns fact_name.Gives = made (λ x. held.Gives x.0 x.1.0 x.1.1.0 x.1.1.1) (pair index_at (pair index_at (pair (held_values_with ns (one is_semi)) (held_values_with ns (one is_right)))))

unfoldable pub held_fact_at : List Node → Reader HeldFact
held_fact_at ns = form_of fact_name_of (held_fact_parts ns)

-- facts, with the word behind them
abbrev pub facts_to : List Node → List ℕ → Reader (List HeldFact × Unit {0})
facts_to ns name = pair (star is_open (held_fact_at ns)) (word name)

-- ---- sides

unfoldable pub held_register_at : List Node → Reader (ℕ × ℕ)
held_register_at ns = made (λ x. (x.1.0, x.1.1.0)) (pair (one is_left) (pair (number_at 32) (pair (term_at ns Word) (one is_right))))

abbrev pub numbers_rise : List (ℕ × ℕ) → Bool
numbers_rise regs = registers_rise 1 (map (λ r. r.0) regs)

abbrev pub side_rises : HeldSide → Bool
side_rises s = numbers_rise s.regs

-- registers, a semicolon and memories, with what stands behind them
abbrev pub further_with : List Node → Reader (Unit {0}) → Reader (List (ℕ × ℕ) × (Unit {0} × (List ℕ × Unit {0})))
further_with ns end = pair (star is_open (held_register_at ns)) (pair (one is_semi) (held_mems_with ns end))

unfoldable pub held_side_at : List Node → Reader HeldSide
held_side_at ns = checked side_rises (made (λ x. record { pc = x.1.0; regs = x.1.1.0; mems = x.1.1.1.1.0 }) (pair (one is_left) (pair (term_at ns Word) (further_with ns (one is_right)))))

-- ---- terms for variables

unfoldable pub place_of : List ℕ → Option Place
place_of text = or_option (option_map place.ForWord (variable_of 118 text)) (option_map place.ForMem (variable_of 109 text))

-- the term for a variable, with the parenthesis behind it
abbrev pub place_parts : List Node → Place → Reader (Place × ℕ)
place_parts ns (place.ForWord i) = made (λ x. (place.ForWord i, x.0)) (pair (term_at ns Word) (one is_right))
place_parts ns (place.ForMem i) = made (λ x. (place.ForMem i, x.0)) (pair (term_at ns Mem) (one is_right))

unfoldable pub place_at : List Node → Reader (Place × ℕ)
place_at ns = form_of place_of (place_parts ns)

-- variables of memories alone follow, from `least` on, rising
abbrev pub mem_places_rise : ℕ → List (Place × ℕ) → Bool
mem_places_rise least [] = true
mem_places_rise least ((place.ForWord i, k) ∷ ps) = false
mem_places_rise least ((place.ForMem i, k) ∷ ps) = nat_le least i && mem_places_rise (i + 1) ps

-- variables of words from `least` on, rising, and then those of memories likewise from 0 on
abbrev pub places_rise : ℕ → List (Place × ℕ) → Bool
places_rise least [] = true
places_rise least ((place.ForWord i, k) ∷ ps) = nat_le least i && places_rise (i + 1) ps
places_rise least ((place.ForMem i, k) ∷ ps) = mem_places_rise 0 ((place.ForMem i, k) ∷ ps)

-- the variables of words among them with their terms, and those of memories
abbrev pub word_places : List (Place × ℕ) → List (ℕ × ℕ)
word_places [] = []
word_places ((place.ForWord i, k) ∷ ps) = (i, k) ∷ word_places ps
word_places ((place.ForMem i, k) ∷ ps) = word_places ps

abbrev pub mem_places : List (Place × ℕ) → List (ℕ × ℕ)
mem_places [] = []
mem_places ((place.ForWord i, k) ∷ ps) = mem_places ps
mem_places ((place.ForMem i, k) ∷ ps) = (i, k) ∷ mem_places ps

-- ---- names of lines, and code

abbrev pub short_name : ShortHead → List ℕ
short_name short_head.Axiom = codes "axiom"
short_name short_head.Inst = codes "inst"
short_name short_head.Frame = codes "frame"
short_name short_head.ExtendCode = codes "extend"
short_name short_head.Compose = codes "compose"
short_name short_head.Strengthen = codes "strengthen"
short_name short_head.Weaken = codes "weaken"
short_name short_head.Discharge = codes "discharge"
short_name short_head.UseExit = codes "use"
short_name short_head.Loop = codes "loop"
short_name short_head.Forget = codes "forget"

abbrev pub short_heads : List ShortHead
short_heads =
    short_head.Axiom ∷ short_head.Inst ∷ short_head.Frame ∷ short_head.ExtendCode ∷ short_head.Compose ∷ short_head.Strengthen ∷ short_head.Weaken ∷ short_head.Discharge
    ∷ short_head.UseExit ∷ short_head.Loop ∷ short_head.Forget ∷ []

unfoldable pub short_head_of : List ℕ → Option ShortHead
short_head_of text = named short_name short_heads text

-- code, by the group's own, with the end of the line
abbrev pub ranges_to_end : List Range → Reader (List Range)
ranges_to_end own = made (λ x. x.0) (pair (checked (is_other_code own) (star is_open range_at)) eol)

unfoldable pub code_to_end : List Range → Reader (List Range)
code_to_end own = keyed (codes "all") (made (λ _. own) eol) (ranges_to_end own)

-- ---- the parts of lines

abbrev pub AxiomParts : Type 0
AxiomParts = ℕ × (ℕ × (Form × Unit {0}))

abbrev pub axiom_line : Reader Short
axiom_line = made (λ (x : AxiomParts). short.Axiom x.0 x.1.0 x.1.1.0) (pair address_at (pair (one (atom_of instruction_of)) (pair (one (atom_of axiom_form_of)) eol)))

-- a theorem, and terms for variables
abbrev pub InstParts : Type 0
InstParts = ℕ × (List (Place × ℕ) × Unit {0})

abbrev pub inst_row : List Node → Reader InstParts
inst_row ns = pair theorem_at (pair (checked (places_rise 0) (star is_open (place_at ns))) eol)

-- registers that rise, with the semicolon behind them
abbrev pub rising_registers : List (ℕ × ℕ) × Unit {0} → Bool
rising_registers x = numbers_rise x.0

abbrev pub registers_to_semi : List Node → Reader (List (ℕ × ℕ) × Unit {0})
registers_to_semi ns = checked rising_registers (pair (star is_open (held_register_at ns)) (one is_semi))

abbrev pub FrameParts : Type 0
FrameParts = ℕ × ((List (ℕ × ℕ) × Unit {0}) × (List ℕ × Unit {0}))

abbrev pub frame_line : List Node → Reader Short
frame_line ns = made (λ (x : FrameParts). short.Frame x.0 x.1.0.0 x.1.1.0) (pair theorem_at (pair (registers_to_semi ns) (held_mems_with ns eol)))

abbrev pub ExtensionParts : Type 0
ExtensionParts = ℕ × (Unit {0} × List Range)

abbrev pub extension_line : List Range → Reader Short
extension_line own = made (λ (x : ExtensionParts). short.ExtendCode x.0 (record { ranges = x.1.1 })) (pair theorem_at (pair (word (codes "code")) (code_to_end own)))

abbrev pub TwoNumbers : Type 0
TwoNumbers = ℕ × (ℕ × Unit {0})

abbrev pub composition_line : Reader Short
composition_line = made (λ (x : TwoNumbers). short.Compose x.0 x.1.0) (pair theorem_at (pair theorem_at eol))

-- a theorem, facts, and the side behind that word
abbrev pub ChangedParts : Type 0
ChangedParts = ℕ × (Unit {0} × ((List HeldFact × Unit {0}) × (HeldSide × Unit {0})))

abbrev pub changed_row : List Node → List ℕ → Reader ChangedParts
changed_row ns name = pair theorem_at (pair (word (codes "facts")) (pair (facts_to ns name) (pair (held_side_at ns) eol)))

abbrev pub DischargeParts : Type 0
DischargeParts = ℕ × (Unit {0} × (List HeldFact × Unit {0}))

abbrev pub discharge_line : List Node → Reader Short
discharge_line ns = made (λ (x : DischargeParts). short.Discharge x.0 x.1.1.0) (pair theorem_at (pair (word (codes "facts")) (pair (star is_open (held_fact_at ns)) eol)))

abbrev pub use_line : Reader Short
use_line = made (λ (x : TwoNumbers). short.UseExit x.0 x.1.0) (pair index_at (pair index_at eol))

abbrev pub ClosingParts : Type 0
ClosingParts = ℕ × (List ℕ × Unit {0})

abbrev pub closing_line : Reader Short
closing_line = made (λ (x : ClosingParts). short.Loop x.0 x.1.0) (pair index_at (pair (star has_atom theorem_at) eol))

abbrev pub forget_line : Reader Short
forget_line = made (λ (x : ℕ × Unit {0}). short.Forget x.0) (pair theorem_at eol)

-- ---- lines

-- what stands after the first word of a line
abbrev pub short_parts : List Node → List Range → ShortHead → Reader Short
short_parts ns own short_head.Axiom = axiom_line
short_parts ns own short_head.Inst = made (λ x. short.Inst x.0 (word_places x.1.0) (mem_places x.1.0)) (inst_row ns)
short_parts ns own short_head.Frame = frame_line ns
short_parts ns own short_head.ExtendCode = extension_line own
short_parts ns own short_head.Compose = composition_line
short_parts ns own short_head.Strengthen = made (λ x. short.Strengthen x.0 x.1.1.0.0 x.1.1.1.0) (changed_row ns (codes "pre"))
short_parts ns own short_head.Weaken = made (λ x. short.Weaken x.0 x.1.1.0.0 x.1.1.1.0) (changed_row ns (codes "post"))
short_parts ns own short_head.Discharge = discharge_line ns
short_parts ns own short_head.UseExit = use_line
short_parts ns own short_head.Loop = closing_line
short_parts ns own short_head.Forget = forget_line

-- a line, by the table and the group's own code
unfoldable pub short_at : List Node → List Range → Reader Short
short_at ns own = made (λ x. x.1) (with (one (atom_of short_head_of)) (short_parts ns own))

-- the variables rise, behind one of a memory or not
abbrev pub rise_behind : Bool → ℕ → List (Place × ℕ) → Bool
rise_behind true least ps = mem_places_rise least ps
rise_behind false least ps = places_rise least ps
