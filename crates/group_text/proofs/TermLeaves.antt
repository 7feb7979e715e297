-- Constants and variables are read as they are spelled.
use Rattle.std.proofs.Common.{◌≡◌, ℕ, ◌^◌, ◌<◌, Bool, true, false, cond, eqb, List, [], ◌∷◌, ◌++◌, codes, Option, Some, None, refl, ap, subst, ◌∙◌, arith}
use Rattle.std.specs.Prelude.{option_map}
use Rattle.std.specs.Fmt.{decimal}
use Rattle.std.proofs.lemmas.Bool.{eqb-true}
use Rattle.mc_text.specs.Number.{hex, number_of, hex_of}
use Rattle.mc_text.specs.Tokens.{Atom}
use Rattle.mc_text.specs.Reading.{one, atom_of, below}
use Rattle.mc_text.proofs.ReaderLaws.{Reads, Reads-one}
use Rattle.mc_text.proofs.Choices.{reads-told}
use Rattle.mc_text.proofs.Shown.{shows-atom, shows-hex, shows-below}
use Rattle.word_terms.specs.Tree.{WordTree, Const, Var, Bin, Extend, Load, MemTree, MemVar, Store}
use Rattle.group_text.specs.TermSpelling.{word_tokens, mem_tokens}
use Rattle.group_text.specs.TermReading.{variable_of, word_leaf_of, mem_leaf_of}
use Rattle.group_text.proofs.NameTests.{mapped, either}

abbrev some : {X : Type 0} → X → Option X
some x = Some x

-- ---- variables

variable-there : (letter b : ℕ) (text : List ℕ) (v : Bool) (i : ℕ) → eqb b letter ≡ v → cond v (below (2 ^ 32) (number_of 10 text)) None ≡ some i → (b ∷ text ≡ letter ∷ decimal i) × (i < 2 ^ 32)
variable-there letter b text true i t e =
    let h = (shows-below (2 ^ 32) (omega arith)).there (Atom text) i e in
    let digits : text ≡ decimal i = cc in
    (ap (λ (c : ℕ). c ∷ text) (eqb-true b letter t) ∙ ap (λ (ds : List ℕ). letter ∷ ds) digits, h.1)
variable-there letter b text false i t e = absurd cc

pub variable : (letter : ℕ) (text : List ℕ) (i : ℕ) → variable_of letter text ≡ some i → (text ≡ letter ∷ decimal i) × (i < 2 ^ 32)
variable letter [] i e = absurd cc
variable letter (b ∷ text) i e = variable-there letter b text (eqb b letter) i refl e

pub variable-back : (i : ℕ) → i < 2 ^ 32 → below (2 ^ 32) (number_of 10 (decimal i)) ≡ some i
variable-back i h = (shows-below (2 ^ 32) (omega arith)).back i h

-- ---- leaves of words

abbrev pub IsWordLeaf : WordTree → Type 0
IsWordLeaf (Const n) = n < 2 ^ 64
IsWordLeaf (Var i) = i < 2 ^ 32
IsWordLeaf (Bin op a b) = ⊥
IsWordLeaf (Extend ext a) = ⊥
IsWordLeaf (Load width m a) = ⊥

abbrev word_leaf_text : WordTree → List ℕ
word_leaf_text (Const n) = hex n
word_leaf_text (Var i) = codes "v" ++ decimal i
word_leaf_text (Bin op a b) = []
word_leaf_text (Extend ext a) = []
word_leaf_text (Load width m a) = []

word-leaf-there : (text : List ℕ) (t : WordTree) → word_leaf_of text ≡ Some t → (text ≡ word_leaf_text t) × IsWordLeaf t
unfolding word_leaf_of
word-leaf-there text t e =
    either (option_map Var (variable_of 118 text)) (option_map Const (hex_of text)) t ((text ≡ word_leaf_text t) × IsWordLeaf t)
    (λ v. let m = mapped (λ i. Var i) (variable_of 118 text) t v in let h = variable 118 text m.0 m.1 in subst (λ (u : WordTree). (text ≡ word_leaf_text u) × IsWordLeaf u) m.2 h)
    (λ c. let m = mapped (λ n. Const n) (hex_of text) t c in
    let h = shows-hex.there (Atom text) m.0 m.1 in
    let digits : text ≡ hex m.0 = cc in
    subst (λ (u : WordTree). (text ≡ word_leaf_text u) × IsWordLeaf u) m.2 (digits, h.1)) e

word-leaf-back : (t : WordTree) → IsWordLeaf t → word_leaf_of (word_leaf_text t) ≡ Some t
unfolding word_leaf_of
word-leaf-back (Const n) h = ap (option_map (λ k. Const k)) (shows-hex.back n h)
word-leaf-back (Var i) h = rw (variable-back i h) refl
word-leaf-back (Bin op a b) h = absurd h
word-leaf-back (Extend ext a) h = absurd h
word-leaf-back (Load width m a) h = absurd h

pub word-leaf-law : Reads (one (atom_of word_leaf_of)) IsWordLeaf word_tokens
word-leaf-law = reads-told (one (atom_of word_leaf_of)) IsWordLeaf IsWordLeaf (λ t. Atom (word_leaf_text t) ∷ []) word_tokens
    (Reads-one (atom_of word_leaf_of) IsWordLeaf (λ t. Atom (word_leaf_text t)) (shows-atom word_leaf_of IsWordLeaf word_leaf_text word-leaf-there word-leaf-back)) (λ t h. h) (λ t h. h)
    (elim [ Const n ↦ λ h. refl | Var i ↦ λ h. refl | Bin op a b ↦ λ h. absurd h | Extend ext a ↦ λ h. absurd h | Load width m a ↦ λ h. absurd h ])

-- ---- leaves of memories

abbrev pub IsMemLeaf : MemTree → Type 0
IsMemLeaf (MemVar i) = i < 2 ^ 32
IsMemLeaf (Store width m a v) = ⊥

abbrev mem_leaf_text : MemTree → List ℕ
mem_leaf_text (MemVar i) = codes "m" ++ decimal i
mem_leaf_text (Store width m a v) = []

mem-leaf-there : (text : List ℕ) (m : MemTree) → mem_leaf_of text ≡ Some m → (text ≡ mem_leaf_text m) × IsMemLeaf m
unfolding mem_leaf_of
mem-leaf-there text m e =
    let k = mapped (λ i. MemVar i) (variable_of 109 text) m e in
    subst (λ (u : MemTree). (text ≡ mem_leaf_text u) × IsMemLeaf u) k.2 (variable 109 text k.0 k.1)

mem-leaf-back : (m : MemTree) → IsMemLeaf m → mem_leaf_of (mem_leaf_text m) ≡ Some m
unfolding mem_leaf_of
mem-leaf-back (MemVar i) h = rw (variable-back i h) refl
mem-leaf-back (Store width m a v) h = absurd h

pub mem-leaf-law : Reads (one (atom_of mem_leaf_of)) IsMemLeaf mem_tokens
mem-leaf-law = reads-told (one (atom_of mem_leaf_of)) IsMemLeaf IsMemLeaf (λ m. Atom (mem_leaf_text m) ∷ []) mem_tokens
    (Reads-one (atom_of mem_leaf_of) IsMemLeaf (λ m. Atom (mem_leaf_text m)) (shows-atom mem_leaf_of IsMemLeaf mem_leaf_text mem-leaf-there mem-leaf-back)) (λ m h. h) (λ m h. h)
    (elim [ MemVar i ↦ λ h. refl | Store width m a v ↦ λ h. absurd h ])
