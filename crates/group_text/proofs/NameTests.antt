-- The tests of names take each name, and nothing else.
use Rattle.std.proofs.Common.{◌≡◌, ℕ, zero, suc, ◌+◌, ◌<◌, arith, length, drop, get_or, Bool, true, false, cond, List, [], ◌∷◌, ◌++◌, codes, Option, Some, None, refl, sym, ap, ◌∙◌}
use Rattle.std.specs.Prelude.{option_map}
pub use Rattle.std.specs.Fmt.{digits}
use Rattle.std.specs.Str.{bytes_eq}
use Rattle.std.proofs.lemmas.Slice.Eq.{bytes_eq-Decides}
use Rattle.mc_text.specs.Tokens.{Tok, Left, Atom}
use Rattle.mc_text.specs.Reading.{atom_of, one, is_left, pair}
use Rattle.mc_text.proofs.ReaderLaws.{Reads, Reads-one, Reads-pair}
use Rattle.mc_text.proofs.Choices.{reads-made}
use Rattle.mc_text.proofs.Shown.{Always, shows-left, shows-atom}
use Rattle.rv_words.specs.Operation.{operation_name, comparison_name}
use Rattle.rv_words.specs.declared.operation.Op.{Op}
use Rattle.rv_words.specs.declared.operation.Op.TheVariants.{Add, Sub, Sll, Slt, Sltu, Xor, Srl, Sra, Or, And, Mul, Mulh, Mulhsu, Mulhu, Div, Divu, Rem, Remu, Addw, Subw, Sllw, Srlw, Sraw, Mulw, Divw, Divuw, Remw, Remuw}
use Rattle.rv_words.specs.declared.extension.Ext.TheVariants.{Sx1, Sx2, Sx4}
use Rattle.rv_words.specs.declared.comparison.Cmp.TheVariants.{Eq, Ne, Lt, Ge, Ltu, Geu}
use Rattle.rv_words.specs.declared.width.Width.{Width}
use Rattle.rv_words.specs.declared.width.Width.TheVariants.{B1, B2, B4, B8}
use Rattle.group_text.specs.declared.term_heads.WordHead.{WordHead}
use Rattle.group_text.specs.declared.term_heads.WordHead.TheVariants as word_head
use Rattle.group_text.specs.declared.term_heads.CondHead.{CondHead}
use Rattle.group_text.specs.declared.term_heads.CondHead.TheVariants as cond_head
use Rattle.group_text.specs.TermSpelling.{extension_name, access_name}
use Rattle.group_text.specs.TermReading.{named, or_option, operations, widths, operation_of, extension_of, comparison_of, load_of, store_of, inside_of, word_head_of, cond_head_of, opened}

abbrev some : {X : Type 0} → X → Option X
some x = Some x

-- ---- tests of names

module _ {X : Type 0} (name : X → List ℕ) where
  pick : (x y : X) (text : List ℕ) (b : Bool) (others : Option X) → (others ≡ some x → text ≡ name x) → bytes_eq text (name y) ≡ b → cond b (some y) others ≡ some x → text ≡ name x
  pick x y text true others behind t e = let same : y ≡ x = cc in (bytes_eq-Decides text (name y)).0 t ∙ ap name same
  pick x y text false others behind t e = behind e

  pub named-there : (xs : List X) (text : List ℕ) (x : X) → named name xs text ≡ some x → text ≡ name x
  named-there [] text x e = absurd cc
  named-there (y ∷ ys) text x e = pick x y text (bytes_eq text (name y)) (named name ys text) (named-there ys text x) refl e

  miss : (y : X) (text : List ℕ) (others : Option X) → bytes_eq (name y) text ≡ false → cond (bytes_eq text (name y)) (some y) others ≡ others
  miss y text others e = pass (bytes_eq text (name y)) refl
    where
      pass : (b : Bool) → bytes_eq text (name y) ≡ b → cond b (some y) others ≡ others
      pass true t = absurd (let same : text ≡ name y = (bytes_eq-Decides text (name y)).0 t in let other : bytes_eq (name y) text ≡ true = (bytes_eq-Decides (name y) text).1 (sym same) in cc)
      pass false t = refl

  -- an item of another name is passed over
  pub named-next : (xs : List X) (i : ℕ) (d : X) (text : List ℕ) → i < length xs → bytes_eq (name (get_or xs i d)) text ≡ false → named name (drop (i + 1) xs) text ≡ named name (drop i xs) text
  named-next [] i d text lt e = absurd (omega arith)
  named-next (y ∷ ys) zero d text lt e = sym (miss y text (named name ys text) e)
  named-next (y ∷ ys) (suc i) d text lt e = let next : suc i + 1 ≡ suc (i + 1) = omega arith in ap (λ (n : ℕ). named name (drop n (y ∷ ys)) text) next ∙ named-next ys i d text (omega arith) e

operation-back : (op : Op) → operation_of (operation_name op) ≡ Some op
unfolding operation_of
operation-back Add = refl
operation-back Sub = refl
operation-back Sll = refl
operation-back Slt = refl
operation-back Sltu = refl
operation-back Xor = refl
operation-back Srl = refl
operation-back Sra = refl
operation-back Or = refl
operation-back And = refl
operation-back Mul = refl
operation-back Mulh = refl
operation-back Mulhsu = refl
operation-back Mulhu = refl
operation-back Div = refl
operation-back Divu = refl
operation-back Rem = refl
operation-back Remu = refl
operation-back Addw = refl
operation-back Subw = refl
operation-back Sllw = refl
operation-back Srlw = refl
operation-back Sraw = refl
operation-back Mulw = refl
operation-back Divw = refl
operation-back Divuw = refl
operation-back Remw = refl
operation-back Remuw = refl

-- ---- tests of forms

pub mapped : {X Y : Type 0} (f : X → Y) (o : Option X) (y : Y) → option_map f o ≡ some y → (x : X) × (o ≡ some x) × (f x ≡ y)
mapped f (Some x) y e = (x, refl, cc)
mapped f None y e = absurd cc

pub either : {X : Type 0} (a b : Option X) (x : X) (P : Type 0) → (a ≡ some x → P) → (b ≡ some x → P) → or_option a b ≡ some x → P
either (Some y) b x P f g e = f e
either None b x P f g e = g e

abbrev pub word_head_name : WordHead → List ℕ
word_head_name (word_head.Bin op) = operation_name op
word_head_name (word_head.Extend ext) = extension_name ext
word_head_name (word_head.Load width) = access_name (codes "ld") width

abbrev pub cond_head_name : CondHead → List ℕ
cond_head_name (cond_head.Compare cmp) = comparison_name cmp
cond_head_name cond_head.Neg = codes "not"
cond_head_name (cond_head.Inside width) = access_name (codes "in") width

-- a name of one kind is the name of a form
kind-there : {X Y : Type 0} (name : X → List ℕ) (xs : List X) (form : X → Y) (form_name : Y → List ℕ) → ((x : X) → name x ≡ form_name (form x)) → (text : List ℕ) (y : Y) → option_map form (named name xs text) ≡ some y → text ≡ form_name y
kind-there name xs form form_name same text y e =
    let m = mapped form (named name xs text) y e in
    named-there name xs text m.0 m.1 ∙ same m.0 ∙ ap form_name m.2

word-head-there : (text : List ℕ) (h : WordHead) → word_head_of text ≡ Some h → (text ≡ word_head_name h) × Always h
unfolding word_head_of operation_of extension_of load_of
word-head-there text h e = (
  either (option_map word_head.Bin (operation_of text)) (or_option (option_map word_head.Extend (extension_of text)) (option_map word_head.Load (load_of text))) h (text ≡ word_head_name h)
      (kind-there operation_name operations (λ op. word_head.Bin op) word_head_name (λ op. refl) text h)
      (either (option_map word_head.Extend (extension_of text)) (option_map word_head.Load (load_of text)) h (text ≡ word_head_name h)
      (kind-there extension_name (Sx1 ∷ Sx2 ∷ Sx4 ∷ []) (λ ext. word_head.Extend ext) word_head_name (λ ext. refl) text h)
      (kind-there (access_name (codes "ld")) widths (λ width. word_head.Load width) word_head_name (λ width. refl) text h)) e,
  tt,
)

word-head-back : (h : WordHead) → word_head_of (word_head_name h) ≡ Some h
unfolding word_head_of operation_of extension_of load_of digits
word-head-back (word_head.Bin op) = rw (operation-back op) refl
word-head-back (word_head.Extend Sx1) = refl
word-head-back (word_head.Extend Sx2) = refl
word-head-back (word_head.Extend Sx4) = refl
word-head-back (word_head.Load B1) = refl
word-head-back (word_head.Load B2) = refl
word-head-back (word_head.Load B4) = refl
word-head-back (word_head.Load B8) = refl

not-there : (text : List ℕ) (b : Bool) (h : CondHead) → bytes_eq text (codes "not") ≡ b → cond b (some cond_head.Neg) None ≡ some h → text ≡ cond_head_name h
not-there text true h t e = let same : cond_head.Neg ≡ h = cc in (bytes_eq-Decides text (codes "not")).0 t ∙ ap cond_head_name same
not-there text false h t e = absurd cc

cond-head-there : (text : List ℕ) (h : CondHead) → cond_head_of text ≡ Some h → (text ≡ cond_head_name h) × Always h
unfolding cond_head_of comparison_of inside_of
cond-head-there text h e = (
  either (option_map cond_head.Compare (comparison_of text)) (or_option (option_map cond_head.Inside (inside_of text)) (cond (bytes_eq text (codes "not")) (some cond_head.Neg) None)) h (text ≡ cond_head_name h)
      (kind-there comparison_name (Eq ∷ Ne ∷ Lt ∷ Ge ∷ Ltu ∷ Geu ∷ []) (λ cmp. cond_head.Compare cmp) cond_head_name (λ cmp. refl) text h)
      (either (option_map cond_head.Inside (inside_of text)) (cond (bytes_eq text (codes "not")) (some cond_head.Neg) None) h (text ≡ cond_head_name h)
      (kind-there (access_name (codes "in")) widths (λ width. cond_head.Inside width) cond_head_name (λ width. refl) text h)
      (not-there text (bytes_eq text (codes "not")) h refl)) e,
  tt,
)

cond-head-back : (h : CondHead) → cond_head_of (cond_head_name h) ≡ Some h
unfolding cond_head_of comparison_of inside_of digits
cond-head-back (cond_head.Compare Eq) = refl
cond-head-back (cond_head.Compare Ne) = refl
cond-head-back (cond_head.Compare Lt) = refl
cond-head-back (cond_head.Compare Ge) = refl
cond-head-back (cond_head.Compare Ltu) = refl
cond-head-back (cond_head.Compare Geu) = refl
cond-head-back cond_head.Neg = refl
cond-head-back (cond_head.Inside B1) = refl
cond-head-back (cond_head.Inside B2) = refl
cond-head-back (cond_head.Inside B4) = refl
cond-head-back (cond_head.Inside B8) = refl

store-back : (width : Width) → store_of (access_name (codes "st") width) ≡ Some width
unfolding store_of digits
store-back B1 = refl
store-back B2 = refl
store-back B4 = refl
store-back B8 = refl

store-there : (text : List ℕ) (width : Width) → store_of text ≡ Some width → (text ≡ access_name (codes "st") width) × Always width
unfolding store_of
store-there text width e = (named-there (access_name (codes "st")) widths text width e, tt)

-- ---- names behind a parenthesis

module _ {H : Type 0} (head : List ℕ → Option H) (name : H → List ℕ) (there : (text : List ℕ) (h : H) → head text ≡ some h → (text ≡ name h) × Always h) (back : (h : H) → head (name h) ≡ some h) where
  abbrev name_tokens : H → List Tok
  name_tokens h = Left ∷ Atom (name h) ∷ []

  opened-law : Reads (opened head) Always name_tokens
  opened-law = reads-made (λ (x : Unit {0} × H). x.1) (pair (one is_left) (one (atom_of head))) (λ x. Always x.0 × Always x.1) (λ x. (Left ∷ []) ++ (Atom (name x.1) ∷ []))
      (Reads-pair (one is_left) Always (λ x. Left ∷ []) (Reads-one is_left Always (λ x. Left) shows-left) (λ x h. (λ e. absurd cc, tt))
      (one (atom_of head)) Always (λ h. Atom (name h) ∷ []) (Reads-one (atom_of head) Always (λ h. Atom (name h)) (shows-atom head Always name there (λ h f. back h))))
      Always name_tokens (λ x h. tt) (λ x. refl) (λ y h. ((tt, y), refl, (tt, tt)))

pub word-head-law : Reads (opened word_head_of) Always (λ h. Left ∷ Atom (word_head_name h) ∷ [])
word-head-law = opened-law word_head_of word_head_name word-head-there word-head-back

pub cond-head-law : Reads (opened cond_head_of) Always (λ h. Left ∷ Atom (cond_head_name h) ∷ [])
cond-head-law = opened-law cond_head_of cond_head_name cond-head-there cond-head-back

pub store-head-law : Reads (opened store_of) Always (λ width. Left ∷ Atom (access_name (codes "st") width) ∷ [])
store-head-law = opened-law store_of (access_name (codes "st")) store-there store-back
