-- Nodes are read as they are spelled.
use Rattle.std.proofs.Common.{◌≡◌, ℕ, ◌^◌, ◌<◌, true, false, List, [], ◌∷◌, ◌++◌, codes, Some, refl, ap, subst, inl, inr, ◌⊎◌}
use Rattle.std.specs.Prelude.{option_map}
use Rattle.std.specs.Fmt.{decimal, digits}
use Rattle.mc_text.specs.Number.{IsNumber, hex, hex_of}
use Rattle.mc_text.specs.Tokens.{Tok, Left, Right, Atom, Eol}
use Rattle.mc_text.specs.Reading.{pair, one, atom_of, goes_on, choice, is_right, is_open}
use Rattle.mc_text.specs.inner.Reading.{eol, word, checked}
use Rattle.mc_text.proofs.ReaderLaws.{Reads, IsFlat, flat-append, Reads-one, Reads-pair}
use Rattle.mc_text.proofs.Choices.{reads-as, reads-choice, reads-told, reads-put, reads-checked}
use Rattle.mc_text.proofs.Shown.{Always, shows-atom, shows-hex}
use Rattle.rv_words.specs.declared.operation.Op.{Op}
use Rattle.rv_words.specs.declared.operation.Op.TheVariants.{Add, Sub, Sll, Slt, Sltu, Xor, Srl, Sra, Or, And, Mul, Mulh, Mulhsu, Mulhu, Div, Divu, Rem, Remu, Addw, Subw, Sllw, Srlw, Sraw, Mulw, Divw, Divuw, Remw, Remuw}
use Rattle.rv_words.specs.declared.extension.Ext.{Ext}
use Rattle.rv_words.specs.declared.extension.Ext.TheVariants.{Sx1, Sx2, Sx4}
use Rattle.rv_words.specs.declared.comparison.Cmp.{Cmp}
use Rattle.rv_words.specs.declared.comparison.Cmp.TheVariants.{Eq, Ne, Lt, Ge, Ltu, Geu}
use Rattle.rv_words.specs.declared.width.Width.{Width}
use Rattle.rv_words.specs.declared.width.Width.TheVariants.{B1, B2, B4, B8}
use Rattle.group_text.specs.TermReading.{variable_of, or_option, form_of, opened}
use Rattle.group_text.proofs.NameTests.{mapped, either}
use Rattle.group_text.proofs.TermLeaves.{variable, variable-back}
use Rattle.term_arena.specs.declared.node.Node.{Node}
use Rattle.term_arena.specs.declared.node.Node.TheVariants as node
use Rattle.group_text.proofs.StepLaws.{atom-flat, name-law, eol-law}
use Rattle.proof_text.proofs.Keyed.{Image, reads-image, reads-forms, named-law, opened-law, opened-flat, right-law, right-flat}
use Rattle.short_text.specs.declared.heads.NodeHead.{NodeHead}
use Rattle.short_text.specs.declared.heads.NodeHead.TheVariants as node_head
use Rattle.short_text.specs.Table.{HasNumbers}
use Rattle.short_text.specs.ShortSpelling.{term_number, node_tokens, table_line}
use Rattle.short_text.specs.inner.ShortReading.{any_term_at, one_part, two_parts, three_parts, node_head_name, node_heads, node_head_of, node_leaf_of, node_parts, node_at, may_follow, term_row}
use Rattle.short_text.proofs.TermRefs.{any-term-law, term-flat}

abbrev close : List Tok
close = Right ∷ []

-- ---- names

pub node-named : (h : NodeHead) → node_head_of (node_head_name h) ≡ Some h
unfolding node_head_of digits
node-named (node_head.Bin Add) = refl
node-named (node_head.Bin Sub) = refl
node-named (node_head.Bin Sll) = refl
node-named (node_head.Bin Slt) = refl
node-named (node_head.Bin Sltu) = refl
node-named (node_head.Bin Xor) = refl
node-named (node_head.Bin Srl) = refl
node-named (node_head.Bin Sra) = refl
node-named (node_head.Bin Or) = refl
node-named (node_head.Bin And) = refl
node-named (node_head.Bin Mul) = refl
node-named (node_head.Bin Mulh) = refl
node-named (node_head.Bin Mulhsu) = refl
node-named (node_head.Bin Mulhu) = refl
node-named (node_head.Bin Div) = refl
node-named (node_head.Bin Divu) = refl
node-named (node_head.Bin Rem) = refl
node-named (node_head.Bin Remu) = refl
node-named (node_head.Bin Addw) = refl
node-named (node_head.Bin Subw) = refl
node-named (node_head.Bin Sllw) = refl
node-named (node_head.Bin Srlw) = refl
node-named (node_head.Bin Sraw) = refl
node-named (node_head.Bin Mulw) = refl
node-named (node_head.Bin Divw) = refl
node-named (node_head.Bin Divuw) = refl
node-named (node_head.Bin Remw) = refl
node-named (node_head.Bin Remuw) = refl
node-named (node_head.Extend Sx1) = refl
node-named (node_head.Extend Sx2) = refl
node-named (node_head.Extend Sx4) = refl
node-named (node_head.Load B1) = refl
node-named (node_head.Load B2) = refl
node-named (node_head.Load B4) = refl
node-named (node_head.Load B8) = refl
node-named (node_head.Store B1) = refl
node-named (node_head.Store B2) = refl
node-named (node_head.Store B4) = refl
node-named (node_head.Store B8) = refl
node-named (node_head.Compare Eq) = refl
node-named (node_head.Compare Ne) = refl
node-named (node_head.Compare Lt) = refl
node-named (node_head.Compare Ge) = refl
node-named (node_head.Compare Ltu) = refl
node-named (node_head.Compare Geu) = refl
node-named node_head.Neg = refl
node-named (node_head.Inside B1) = refl
node-named (node_head.Inside B2) = refl
node-named (node_head.Inside B4) = refl
node-named (node_head.Inside B8) = refl

node-head-law : Reads (opened node_head_of) Always (λ h. Left ∷ Atom (node_head_name h) ∷ [])
unfolding node_head_of
node-head-law = opened-law node_head_of Always node_head_name (named-law node_head_name node_heads node-named)

-- ---- parts

abbrev One : Type 0
One = ℕ × Unit {0}

abbrev Two : Type 0
Two = ℕ × One

abbrev Three : Type 0
Three = ℕ × Two

abbrev FitOne : One → Type 0
FitOne x = IsNumber x.0 × Always x.1

abbrev FitTwo : Two → Type 0
FitTwo x = IsNumber x.0 × FitOne x.1

abbrev FitThree : Three → Type 0
FitThree x = IsNumber x.0 × FitTwo x.1

one-law : Reads one_part FitOne (λ x. term_number x.0 ++ close)
one-law = Reads-pair any_term_at IsNumber term_number any-term-law (λ k h. term-flat k) (one is_right) Always (λ _. close) right-law

two-law : Reads two_parts FitTwo (λ x. term_number x.0 ++ (term_number x.1.0 ++ close))
two-law = Reads-pair any_term_at IsNumber term_number any-term-law (λ k h. term-flat k) one_part FitOne _ one-law

three-law : Reads three_parts FitThree (λ x. term_number x.0 ++ (term_number x.1.0 ++ (term_number x.1.1.0 ++ close)))
three-law = Reads-pair any_term_at IsNumber term_number any-term-law (λ k h. term-flat k) two_parts FitTwo _ two-law

abbrev bin : Op → Two → Node
bin op x = node.Bin op x.0 x.1.0

abbrev extend : Ext → One → Node
extend ext x = node.Extend ext x.0

abbrev load : Width → Two → Node
load width x = node.Load width x.0 x.1.0

abbrev store : Width → Three → Node
store width x = node.Store width x.0 x.1.0 x.1.1.0

abbrev compare : Cmp → Two → Node
compare cmp x = node.Compare cmp x.0 x.1.0

abbrev neg : One → Node
neg x = node.Neg x.0

abbrev inside : Width → Two → Node
inside width x = node.Inside width x.0 x.1.0

abbrev NodeOf : NodeHead → Node → Type 0
NodeOf (node_head.Bin op) = Image (bin op) FitTwo
NodeOf (node_head.Extend ext) = Image (extend ext) FitOne
NodeOf (node_head.Load width) = Image (load width) FitTwo
NodeOf (node_head.Store width) = Image (store width) FitThree
NodeOf (node_head.Compare cmp) = Image (compare cmp) FitTwo
NodeOf node_head.Neg = Image neg FitOne
NodeOf (node_head.Inside width) = Image (inside width) FitTwo

-- the tokens behind a form's name
abbrev node_rest : Node → List Tok
node_rest (node.Const n) = []
node_rest (node.WordVar i) = []
node_rest (node.MemVar i) = []
node_rest (node.Bin op a b) = term_number a ++ (term_number b ++ close)
node_rest (node.Extend ext a) = term_number a ++ close
node_rest (node.Load width m a) = term_number m ++ (term_number a ++ close)
node_rest (node.Store width m a v) = term_number m ++ (term_number a ++ (term_number v ++ close))
node_rest (node.Compare cmp a b) = term_number a ++ (term_number b ++ close)
node_rest (node.Neg c) = term_number c ++ close
node_rest (node.Inside width m a) = term_number m ++ (term_number a ++ close)

node-parts-law : (h : NodeHead) → Reads (node_parts h) (NodeOf h) node_rest
node-parts-law (node_head.Bin op) = reads-image (bin op) two_parts FitTwo _ two-law node_rest (λ x f. refl)
node-parts-law (node_head.Extend ext) = reads-image (extend ext) one_part FitOne _ one-law node_rest (λ x f. refl)
node-parts-law (node_head.Load width) = reads-image (load width) two_parts FitTwo _ two-law node_rest (λ x f. refl)
node-parts-law (node_head.Store width) = reads-image (store width) three_parts FitThree _ three-law node_rest (λ x f. refl)
node-parts-law (node_head.Compare cmp) = reads-image (compare cmp) two_parts FitTwo _ two-law node_rest (λ x f. refl)
node-parts-law node_head.Neg = reads-image neg one_part FitOne _ one-law node_rest (λ x f. refl)
node-parts-law (node_head.Inside width) = reads-image (inside width) two_parts FitTwo _ two-law node_rest (λ x f. refl)

-- ---- forms and leaves

abbrev IsNodeForm : Node → Type 0
IsNodeForm (node.Const n) = ⊥
IsNodeForm (node.WordVar i) = ⊥
IsNodeForm (node.MemVar i) = ⊥
IsNodeForm (node.Bin op a b) = IsNumber a × IsNumber b
IsNodeForm (node.Extend ext a) = IsNumber a
IsNodeForm (node.Load width m a) = IsNumber m × IsNumber a
IsNodeForm (node.Store width m a v) = IsNumber m × IsNumber a × IsNumber v
IsNodeForm (node.Compare cmp a b) = IsNumber a × IsNumber b
IsNodeForm (node.Neg c) = IsNumber c
IsNodeForm (node.Inside width m a) = IsNumber m × IsNumber a

abbrev IsNodeLeaf : Node → Type 0
IsNodeLeaf (node.Const n) = IsNumber n
IsNodeLeaf (node.WordVar i) = i < 2 ^ 32
IsNodeLeaf (node.MemVar i) = i < 2 ^ 32
IsNodeLeaf (node.Bin op a b) = ⊥
IsNodeLeaf (node.Extend ext a) = ⊥
IsNodeLeaf (node.Load width m a) = ⊥
IsNodeLeaf (node.Store width m a v) = ⊥
IsNodeLeaf (node.Compare cmp a b) = ⊥
IsNodeLeaf (node.Neg c) = ⊥
IsNodeLeaf (node.Inside width m a) = ⊥

node-into : (h : NodeHead) (x : Node) → NodeOf h x → IsNodeForm x
node-into (node_head.Bin op) x f = subst IsNodeForm f.1 (f.2.0, f.2.1.0)
node-into (node_head.Extend ext) x f = subst IsNodeForm f.1 f.2.0
node-into (node_head.Load width) x f = subst IsNodeForm f.1 (f.2.0, f.2.1.0)
node-into (node_head.Store width) x f = subst IsNodeForm f.1 (f.2.0, f.2.1.0, f.2.1.1.0)
node-into (node_head.Compare cmp) x f = subst IsNodeForm f.1 (f.2.0, f.2.1.0)
node-into node_head.Neg x f = subst IsNodeForm f.1 f.2.0
node-into (node_head.Inside width) x f = subst IsNodeForm f.1 (f.2.0, f.2.1.0)

abbrev NodeNamed : NodeHead → Node → Type 0
NodeNamed h x = node_tokens x ≡ (Left ∷ Atom (node_head_name h) ∷ []) ++ node_rest x

node-same : (h : NodeHead) (x : Node) → NodeOf h x → NodeNamed h x
node-same (node_head.Bin op) x f = subst (NodeNamed (node_head.Bin op)) f.1 refl
node-same (node_head.Extend ext) x f = subst (NodeNamed (node_head.Extend ext)) f.1 refl
node-same (node_head.Load width) x f = subst (NodeNamed (node_head.Load width)) f.1 refl
node-same (node_head.Store width) x f = subst (NodeNamed (node_head.Store width)) f.1 refl
node-same (node_head.Compare cmp) x f = subst (NodeNamed (node_head.Compare cmp)) f.1 refl
node-same node_head.Neg x f = subst (NodeNamed node_head.Neg) f.1 refl
node-same (node_head.Inside width) x f = subst (NodeNamed (node_head.Inside width)) f.1 refl

node-from : (x : Node) → IsNodeForm x → (h : NodeHead) × Always h × NodeOf h x
node-from (node.Const n) f = absurd f
node-from (node.WordVar i) f = absurd f
node-from (node.MemVar i) f = absurd f
node-from (node.Bin op a b) f = (node_head.Bin op, tt, ((a, (b, tt)), refl, (f.0, (f.1, tt))))
node-from (node.Extend ext a) f = (node_head.Extend ext, tt, ((a, tt), refl, (f, tt)))
node-from (node.Load width m a) f = (node_head.Load width, tt, ((m, (a, tt)), refl, (f.0, (f.1, tt))))
node-from (node.Store width m a v) f = (node_head.Store width, tt, ((m, (a, (v, tt))), refl, (f.0, (f.1, (f.2, tt)))))
node-from (node.Compare cmp a b) f = (node_head.Compare cmp, tt, ((a, (b, tt)), refl, (f.0, (f.1, tt))))
node-from (node.Neg c) f = (node_head.Neg, tt, ((c, tt), refl, (f, tt)))
node-from (node.Inside width m a) f = (node_head.Inside width, tt, ((m, (a, tt)), refl, (f.0, (f.1, tt))))

node-form-law : Reads (form_of node_head_of node_parts) IsNodeForm node_tokens
node-form-law = reads-forms (opened node_head_of) Always (λ h. Left ∷ Atom (node_head_name h) ∷ []) node-head-law (λ h f. opened-flat (node_head_name h)) node_parts NodeOf node_rest node-parts-law
    IsNodeForm node_tokens (λ h x k f. node-into h x f) node-same node-from

abbrev leaf_text : Node → List ℕ
leaf_text (node.Const n) = hex n
leaf_text (node.WordVar i) = codes "v" ++ decimal i
leaf_text (node.MemVar i) = codes "m" ++ decimal i
leaf_text (node.Bin op a b) = []
leaf_text (node.Extend ext a) = []
leaf_text (node.Load width m a) = []
leaf_text (node.Store width m a v) = []
leaf_text (node.Compare cmp a b) = []
leaf_text (node.Neg c) = []
leaf_text (node.Inside width m a) = []

abbrev LeafIs : List ℕ → Node → Type 0
LeafIs text n = (text ≡ leaf_text n) × IsNodeLeaf n

leaf-there : (text : List ℕ) (n : Node) → node_leaf_of text ≡ Some n → LeafIs text n
unfolding node_leaf_of
leaf-there text n e =
    either (option_map (λ i. node.WordVar i) (variable_of 118 text)) (or_option (option_map (λ i. node.MemVar i) (variable_of 109 text)) (option_map (λ k. node.Const k) (hex_of text))) n (LeafIs text n)
    (λ v. let m = mapped (λ i. node.WordVar i) (variable_of 118 text) n v in subst (LeafIs text) m.2 (variable 118 text m.0 m.1))
    (either (option_map (λ i. node.MemVar i) (variable_of 109 text)) (option_map (λ k. node.Const k) (hex_of text)) n (LeafIs text n)
    (λ v. let m = mapped (λ i. node.MemVar i) (variable_of 109 text) n v in subst (LeafIs text) m.2 (variable 109 text m.0 m.1))
    (λ c. let m = mapped (λ k. node.Const k) (hex_of text) n c in
    let h = shows-hex.there (Atom text) m.0 m.1 in
    let same : text ≡ hex m.0 = cc in
    subst (LeafIs text) m.2 (same, h.1))) e

leaf-back : (n : Node) → IsNodeLeaf n → node_leaf_of (leaf_text n) ≡ Some n
unfolding node_leaf_of
leaf-back (node.Const n) h = ap (option_map (λ k. node.Const k)) (shows-hex.back n h)
leaf-back (node.WordVar i) h = rw (variable-back i h) refl
leaf-back (node.MemVar i) h = rw (variable-back i h) refl
leaf-back (node.Bin op a b) h = absurd h
leaf-back (node.Extend ext a) h = absurd h
leaf-back (node.Load width m a) h = absurd h
leaf-back (node.Store width m a v) h = absurd h
leaf-back (node.Compare cmp a b) h = absurd h
leaf-back (node.Neg c) h = absurd h
leaf-back (node.Inside width m a) h = absurd h

leaf-spelled : (n : Node) → IsNodeLeaf n → node_tokens n ≡ Atom (leaf_text n) ∷ []
leaf-spelled (node.Const n) h = refl
leaf-spelled (node.WordVar i) h = refl
leaf-spelled (node.MemVar i) h = refl
leaf-spelled (node.Bin op a b) h = absurd h
leaf-spelled (node.Extend ext a) h = absurd h
leaf-spelled (node.Load width m a) h = absurd h
leaf-spelled (node.Store width m a v) h = absurd h
leaf-spelled (node.Compare cmp a b) h = absurd h
leaf-spelled (node.Neg c) h = absurd h
leaf-spelled (node.Inside width m a) h = absurd h

leaf-law : Reads (one (atom_of node_leaf_of)) IsNodeLeaf node_tokens
leaf-law = reads-told (one (atom_of node_leaf_of)) IsNodeLeaf IsNodeLeaf (λ n. Atom (leaf_text n) ∷ []) node_tokens
    (Reads-one (atom_of node_leaf_of) IsNodeLeaf (λ n. Atom (leaf_text n)) (shows-atom node_leaf_of IsNodeLeaf leaf_text leaf-there leaf-back)) (λ n h. h) (λ n h. h) leaf-spelled

form-begins : (n : Node) → IsNodeForm n → (us : List Tok) → goes_on is_open (node_tokens n ++ us) ≡ true
form-begins (node.Const n) h us = absurd h
form-begins (node.WordVar i) h us = absurd h
form-begins (node.MemVar i) h us = absurd h
form-begins (node.Bin op a b) h us = refl
form-begins (node.Extend ext a) h us = refl
form-begins (node.Load width m a) h us = refl
form-begins (node.Store width m a v) h us = refl
form-begins (node.Compare cmp a b) h us = refl
form-begins (node.Neg c) h us = refl
form-begins (node.Inside width m a) h us = refl

leaf-begins : (n : Node) → IsNodeLeaf n → (us : List Tok) → goes_on is_open (node_tokens n ++ us) ≡ false
leaf-begins (node.Const n) h us = refl
leaf-begins (node.WordVar i) h us = refl
leaf-begins (node.MemVar i) h us = refl
leaf-begins (node.Bin op a b) h us = absurd h
leaf-begins (node.Extend ext a) h us = absurd h
leaf-begins (node.Load width m a) h us = absurd h
leaf-begins (node.Store width m a v) h us = absurd h
leaf-begins (node.Compare cmp a b) h us = absurd h
leaf-begins (node.Neg c) h us = absurd h
leaf-begins (node.Inside width m a) h us = absurd h

node-up : (n : Node) → IsNodeForm n ⊎ IsNodeLeaf n → HasNumbers n
node-up (node.Const n) (inl h) = absurd h
node-up (node.Const n) (inr h) = h
node-up (node.WordVar i) (inl h) = absurd h
node-up (node.WordVar i) (inr h) = h
node-up (node.MemVar i) (inl h) = absurd h
node-up (node.MemVar i) (inr h) = h
node-up (node.Bin op a b) (inl h) = h
node-up (node.Bin op a b) (inr h) = absurd h
node-up (node.Extend ext a) (inl h) = h
node-up (node.Extend ext a) (inr h) = absurd h
node-up (node.Load width m a) (inl h) = h
node-up (node.Load width m a) (inr h) = absurd h
node-up (node.Store width m a v) (inl h) = h
node-up (node.Store width m a v) (inr h) = absurd h
node-up (node.Compare cmp a b) (inl h) = h
node-up (node.Compare cmp a b) (inr h) = absurd h
node-up (node.Neg c) (inl h) = h
node-up (node.Neg c) (inr h) = absurd h
node-up (node.Inside width m a) (inl h) = h
node-up (node.Inside width m a) (inr h) = absurd h

node-down : (n : Node) → HasNumbers n → IsNodeForm n ⊎ IsNodeLeaf n
node-down (node.Const n) h = inr h
node-down (node.WordVar i) h = inr h
node-down (node.MemVar i) h = inr h
node-down (node.Bin op a b) h = inl h
node-down (node.Extend ext a) h = inl h
node-down (node.Load width m a) h = inl h
node-down (node.Store width m a v) h = inl h
node-down (node.Compare cmp a b) h = inl h
node-down (node.Neg c) h = inl h
node-down (node.Inside width m a) h = inl h

pub node-law : Reads node_at HasNumbers node_tokens
unfolding node_at
node-law = reads-as (choice is_open (form_of node_head_of node_parts) (one (atom_of node_leaf_of))) (λ n. IsNodeForm n ⊎ IsNodeLeaf n) HasNumbers node_tokens
    (reads-choice is_open (form_of node_head_of node_parts) (one (atom_of node_leaf_of)) IsNodeForm IsNodeLeaf node_tokens node-form-law leaf-law form-begins leaf-begins) node-up node-down

-- ---- lines of a table

one-flat : (a : ℕ) → IsFlat (term_number a ++ close)
one-flat a = flat-append (term_number a) close (term-flat a) right-flat

two-flat : (a b : ℕ) → IsFlat (term_number a ++ (term_number b ++ close))
two-flat a b = flat-append (term_number a) (term_number b ++ close) (term-flat a) (one-flat b)

named-flat : (name : List ℕ) (rest : List Tok) → IsFlat rest → IsFlat ((Left ∷ Atom name ∷ []) ++ rest)
named-flat name rest h = flat-append (Left ∷ Atom name ∷ []) rest (opened-flat name) h

node-flat : (n : Node) → IsFlat (node_tokens n)
node-flat (node.Const n) = atom-flat (leaf_text (node.Const n))
node-flat (node.WordVar i) = atom-flat (leaf_text (node.WordVar i))
node-flat (node.MemVar i) = atom-flat (leaf_text (node.MemVar i))
node-flat (node.Bin op a b) = named-flat (node_head_name (node_head.Bin op)) (term_number a ++ (term_number b ++ close)) (two-flat a b)
node-flat (node.Extend ext a) = named-flat (node_head_name (node_head.Extend ext)) (term_number a ++ close) (one-flat a)
node-flat (node.Load width m a) = named-flat (node_head_name (node_head.Load width)) (term_number m ++ (term_number a ++ close)) (two-flat m a)
node-flat (node.Store width m a v) = named-flat (node_head_name (node_head.Store width)) (term_number m ++ (term_number a ++ (term_number v ++ close))) (flat-append (term_number m) (term_number a ++ (term_number v ++ close)) (term-flat m) (two-flat a v))
node-flat (node.Compare cmp a b) = named-flat (node_head_name (node_head.Compare cmp)) (term_number a ++ (term_number b ++ close)) (two-flat a b)
node-flat (node.Neg c) = named-flat (node_head_name node_head.Neg) (term_number c ++ close) (one-flat c)
node-flat (node.Inside width m a) = named-flat (node_head_name (node_head.Inside width)) (term_number m ++ (term_number a ++ close)) (two-flat m a)

-- what is read of a line of a table: a node that may follow
abbrev pub IsRead : List Node → Node → Type 0
IsRead ns n = HasNumbers n × (may_follow ns n ≡ true)

abbrev TermParts : Type 0
TermParts = Unit {0} × (Node × Unit {0})

pub term-row-law : (ns : List Node) → Reads (term_row ns) (IsRead ns) table_line
unfolding term_row
term-row-law ns = reads-put (λ (x : TermParts). x.1.0) _ _ _
    (Reads-pair (word (codes "term")) Always (λ _. Atom (codes "term") ∷ []) (name-law (codes "term")) (λ x h. atom-flat (codes "term")) (pair (checked (may_follow ns) node_at) eol) _ _
    (Reads-pair (checked (may_follow ns) node_at) (IsRead ns) node_tokens (reads-checked (may_follow ns) node_at HasNumbers node_tokens node-law (λ n h. node-flat n)) (λ n h. node-flat n) eol Always (λ _. Eol ∷ []) eol-law))
    (IsRead ns) table_line (λ x h. h.1.0) (λ x h. refl) (λ n h. ((tt, (n, tt)), refl, (tt, (h, tt))))
