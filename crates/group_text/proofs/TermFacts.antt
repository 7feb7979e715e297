-- The tokens of terms: none ends a line, each is a token of a text, and the first shows what follows.
use Rattle.std.proofs.Common.{◌≡◌, ℕ, zero, suc, ◌^◌, ◌<◌, true, List, [], ◌∷◌, ◌++◌, length, codes, refl, arith}
use Rattle.std.specs.Fmt.{decimal, digits}
use Rattle.mc_text.specs.Number.{AreSomeBytes}
use Rattle.mc_text.specs.Tokens.{Tok, Left, Right, Atom, is_atom_byte, IsAtom}
use Rattle.mc_text.specs.Reading.{goes_on, is_open}
use Rattle.mc_text.proofs.Atoms.{letter-atom, word-atom}
use Rattle.mc_text.proofs.Lines.{AreTokens}
use Rattle.mc_text.proofs.ReaderLaws.{IsFlat, flat-append}
use Rattle.mc_text.proofs.Shown.{decimal-atom, hex-atom, bytes-atom, tokens-append}
use Rattle.rv_words.specs.Operation.{operation_name, comparison_name}
use Rattle.rv_words.specs.declared.operation.Op.{Op}
use Rattle.rv_words.specs.declared.operation.Op.TheVariants.{Add, Sub, Sll, Slt, Sltu, Xor, Srl, Sra, Or, And, Mul, Mulh, Mulhsu, Mulhu, Div, Divu, Rem, Remu, Addw, Subw, Sllw, Srlw, Sraw, Mulw, Divw, Divuw, Remw, Remuw}
use Rattle.rv_words.specs.declared.extension.Ext.{Ext}
use Rattle.rv_words.specs.declared.extension.Ext.TheVariants.{Sx1, Sx2, Sx4}
use Rattle.rv_words.specs.declared.comparison.Cmp.{Cmp}
use Rattle.rv_words.specs.declared.comparison.Cmp.TheVariants.{Eq, Ne, Lt, Ge, Ltu, Geu}
use Rattle.rv_words.specs.declared.width.Width.{Width}
use Rattle.rv_words.specs.declared.width.Width.TheVariants.{B1, B2, B4, B8}
use Rattle.rv_words.specs.declared.range.Range.{Range}
use Rattle.word_terms.specs.Tree.{WordTree, Const, Var, Bin, Extend, Load, MemTree, MemVar, Store, CondTree, Compare, Neg, Inside}
use Rattle.group_text.specs.TermLimits.{FitsWord, FitsMem, FitsCond, depth_limit, IsWord, IsMem, IsCond}
use Rattle.group_text.specs.TermSpelling.{extension_name, access_name, joined, word_tokens, mem_tokens, cond_tokens, range_tokens}
use Rattle.group_text.specs.TermReading.{begins_word, begins_mem}

-- ---- within a line

joined-flat-1 : (p : List Tok) → IsFlat p → IsFlat (joined (p ∷ []) (Right ∷ []))
joined-flat-1 p h = flat-append p (Right ∷ []) h (λ e. absurd cc, tt)

joined-flat-2 : (p q : List Tok) → IsFlat p → IsFlat q → IsFlat (joined (p ∷ q ∷ []) (Right ∷ []))
joined-flat-2 p q h k = flat-append p (q ++ Right ∷ []) h (joined-flat-1 q k)

opened-flat : (name : List ℕ) (rest : List Tok) → IsFlat rest → IsFlat (Left ∷ Atom name ∷ rest)
opened-flat name rest h = (λ e. absurd cc, (λ e. absurd cc, h))

mutual
  pub word-flat : (t : WordTree) → IsFlat (word_tokens t)
  word-flat (Const n) = (λ e. absurd cc, tt)
  word-flat (Var i) = (λ e. absurd cc, tt)
  word-flat (Bin op a b) = opened-flat (operation_name op) (word_tokens a ++ (word_tokens b ++ Right ∷ [])) (joined-flat-2 (word_tokens a) (word_tokens b) (word-flat a) (word-flat b))
  word-flat (Extend ext a) = opened-flat (extension_name ext) (word_tokens a ++ Right ∷ []) (joined-flat-1 (word_tokens a) (word-flat a))
  word-flat (Load width m a) = opened-flat (access_name (codes "ld") width) (mem_tokens m ++ (word_tokens a ++ Right ∷ [])) (joined-flat-2 (mem_tokens m) (word_tokens a) (mem-flat m) (word-flat a))

  pub mem-flat : (m : MemTree) → IsFlat (mem_tokens m)
  mem-flat (MemVar i) = (λ e. absurd cc, tt)
  mem-flat (Store width m a v) = opened-flat (access_name (codes "st") width) (mem_tokens m ++ (word_tokens a ++ (word_tokens v ++ Right ∷ []))) (flat-append (mem_tokens m) (word_tokens a ++ (word_tokens v ++ Right ∷ [])) (mem-flat m) (joined-flat-2 (word_tokens a) (word_tokens v) (word-flat a) (word-flat v)))

pub cond-flat : (c : CondTree) → IsFlat (cond_tokens c)
cond-flat (Compare cmp a b) = opened-flat (comparison_name cmp) (word_tokens a ++ (word_tokens b ++ Right ∷ [])) (joined-flat-2 (word_tokens a) (word_tokens b) (word-flat a) (word-flat b))
cond-flat (Neg c) = opened-flat (codes "not") (cond_tokens c ++ Right ∷ []) (joined-flat-1 (cond_tokens c) (cond-flat c))
cond-flat (Inside width m a) = opened-flat (access_name (codes "in") width) (mem_tokens m ++ (word_tokens a ++ Right ∷ [])) (joined-flat-2 (mem_tokens m) (word_tokens a) (mem-flat m) (word-flat a))

pub range-flat : (r : Range) → IsFlat (range_tokens r)
range-flat r = (λ e. absurd cc, (λ e. absurd cc, (λ e. absurd cc, (λ e. absurd cc, tt))))

-- ---- the first token

pub word-begins : (t : WordTree) (us : List Tok) → goes_on begins_word (word_tokens t ++ us) ≡ true
word-begins (Const n) us = refl
word-begins (Var i) us = refl
word-begins (Bin op a b) us = refl
word-begins (Extend ext a) us = refl
word-begins (Load width m a) us = refl

pub mem-begins : (m : MemTree) (us : List Tok) → goes_on begins_mem (mem_tokens m ++ us) ≡ true
mem-begins (MemVar i) us = refl
mem-begins (Store width m a v) us = refl

pub range-begins : (r : Range) (us : List Tok) → goes_on is_open (range_tokens r ++ us) ≡ true
range-begins r us = refl

pub some-word : (t : WordTree) → 0 < length (word_tokens t)
some-word (Const n) = omega arith
some-word (Var i) = omega arith
some-word (Bin op a b) = omega arith
some-word (Extend ext a) = omega arith
some-word (Load width m a) = omega arith

pub some-mem : (m : MemTree) → 0 < length (mem_tokens m)
some-mem (MemVar i) = omega arith
some-mem (Store width m a v) = omega arith

pub some-cond : (c : CondTree) → 0 < length (cond_tokens c)
some-cond (Compare cmp a b) = omega arith
some-cond (Neg c) = omega arith
some-cond (Inside width m a) = omega arith

-- ---- tokens of a text

operation-atom : (op : Op) → IsAtom (operation_name op)
operation-atom Add = word-atom (codes "add") refl
operation-atom Sub = word-atom (codes "sub") refl
operation-atom Sll = word-atom (codes "sll") refl
operation-atom Slt = word-atom (codes "slt") refl
operation-atom Sltu = word-atom (codes "sltu") refl
operation-atom Xor = word-atom (codes "xor") refl
operation-atom Srl = word-atom (codes "srl") refl
operation-atom Sra = word-atom (codes "sra") refl
operation-atom Or = word-atom (codes "or") refl
operation-atom And = word-atom (codes "and") refl
operation-atom Mul = word-atom (codes "mul") refl
operation-atom Mulh = word-atom (codes "mulh") refl
operation-atom Mulhsu = word-atom (codes "mulhsu") refl
operation-atom Mulhu = word-atom (codes "mulhu") refl
operation-atom Div = word-atom (codes "div") refl
operation-atom Divu = word-atom (codes "divu") refl
operation-atom Rem = word-atom (codes "rem") refl
operation-atom Remu = word-atom (codes "remu") refl
operation-atom Addw = word-atom (codes "addw") refl
operation-atom Subw = word-atom (codes "subw") refl
operation-atom Sllw = word-atom (codes "sllw") refl
operation-atom Srlw = word-atom (codes "srlw") refl
operation-atom Sraw = word-atom (codes "sraw") refl
operation-atom Mulw = word-atom (codes "mulw") refl
operation-atom Divw = word-atom (codes "divw") refl
operation-atom Divuw = word-atom (codes "divuw") refl
operation-atom Remw = word-atom (codes "remw") refl
operation-atom Remuw = word-atom (codes "remuw") refl

extension-atom : (ext : Ext) → IsAtom (extension_name ext)
extension-atom Sx1 = word-atom (codes "sx1") refl
extension-atom Sx2 = word-atom (codes "sx2") refl
extension-atom Sx4 = word-atom (codes "sx4") refl

comparison-atom : (cmp : Cmp) → IsAtom (comparison_name cmp)
comparison-atom Eq = word-atom (codes "eq") refl
comparison-atom Ne = word-atom (codes "ne") refl
comparison-atom Lt = word-atom (codes "lt") refl
comparison-atom Ge = word-atom (codes "ge") refl
comparison-atom Ltu = word-atom (codes "ltu") refl
comparison-atom Geu = word-atom (codes "geu") refl

load-atom : (width : Width) → IsAtom (access_name (codes "ld") width)
unfolding digits
load-atom B1 = word-atom (codes "ld1") refl
load-atom B2 = word-atom (codes "ld2") refl
load-atom B4 = word-atom (codes "ld4") refl
load-atom B8 = word-atom (codes "ld8") refl

store-atom : (width : Width) → IsAtom (access_name (codes "st") width)
unfolding digits
store-atom B1 = word-atom (codes "st1") refl
store-atom B2 = word-atom (codes "st2") refl
store-atom B4 = word-atom (codes "st4") refl
store-atom B8 = word-atom (codes "st8") refl

inside-atom : (width : Width) → IsAtom (access_name (codes "in") width)
unfolding digits
inside-atom B1 = word-atom (codes "in1") refl
inside-atom B2 = word-atom (codes "in2") refl
inside-atom B4 = word-atom (codes "in4") refl
inside-atom B8 = word-atom (codes "in8") refl

variable-atom : (letter i : ℕ) → is_atom_byte letter ≡ true → i < 2 ^ 32 → IsAtom (letter ∷ decimal i)
variable-atom letter i e h = letter-atom letter (decimal i) e (decimal-atom i (omega arith))

joined-tokens-1 : (p : List Tok) → AreTokens p → AreTokens (joined (p ∷ []) (Right ∷ []))
joined-tokens-1 p h = tokens-append p (Right ∷ []) h (tt, tt)

joined-tokens-2 : (p q : List Tok) → AreTokens p → AreTokens q → AreTokens (joined (p ∷ q ∷ []) (Right ∷ []))
joined-tokens-2 p q h k = tokens-append p (q ++ Right ∷ []) h (joined-tokens-1 q k)

mutual
  word-tokens-at : (d : ℕ) (t : WordTree) → FitsWord d t → AreTokens (word_tokens t)
  word-tokens-at zero t h = absurd h
  word-tokens-at (suc d) (Const n) h = (hex-atom n, tt)
  word-tokens-at (suc d) (Var i) h = (variable-atom 118 i refl h, tt)
  word-tokens-at (suc d) (Bin op a b) h = (tt, (operation-atom op, joined-tokens-2 (word_tokens a) (word_tokens b) (word-tokens-at d a h.0) (word-tokens-at d b h.1)))
  word-tokens-at (suc d) (Extend ext a) h = (tt, (extension-atom ext, joined-tokens-1 (word_tokens a) (word-tokens-at d a h)))
  word-tokens-at (suc d) (Load width m a) h = (tt, (load-atom width, joined-tokens-2 (mem_tokens m) (word_tokens a) (mem-tokens-at d m h.0) (word-tokens-at d a h.1)))

  mem-tokens-at : (d : ℕ) (m : MemTree) → FitsMem d m → AreTokens (mem_tokens m)
  mem-tokens-at zero m h = absurd h
  mem-tokens-at (suc d) (MemVar i) h = (variable-atom 109 i refl h, tt)
  mem-tokens-at (suc d) (Store width m a v) h = (tt, (store-atom width, tokens-append (mem_tokens m) (word_tokens a ++ (word_tokens v ++ Right ∷ [])) (mem-tokens-at d m h.0) (joined-tokens-2 (word_tokens a) (word_tokens v) (word-tokens-at d a h.1) (word-tokens-at d v h.2))))

cond-tokens-at : (d : ℕ) (c : CondTree) → FitsCond d c → AreTokens (cond_tokens c)
cond-tokens-at zero c h = absurd h
cond-tokens-at (suc d) (Compare cmp a b) h = (tt, (comparison-atom cmp, joined-tokens-2 (word_tokens a) (word_tokens b) (word-tokens-at d a h.0) (word-tokens-at d b h.1)))
cond-tokens-at (suc d) (Neg c) h = (tt, (word-atom (codes "not") refl, joined-tokens-1 (cond_tokens c) (cond-tokens-at d c h)))
cond-tokens-at (suc d) (Inside width m a) h = (tt, (inside-atom width, joined-tokens-2 (mem_tokens m) (word_tokens a) (mem-tokens-at d m h.0) (word-tokens-at d a h.1)))

pub word-tokens : (t : WordTree) → IsWord t → AreTokens (word_tokens t)
word-tokens t h = word-tokens-at depth_limit t h

pub mem-tokens : (m : MemTree) → IsMem m → AreTokens (mem_tokens m)
mem-tokens m h = mem-tokens-at depth_limit m h

pub cond-tokens : (c : CondTree) → IsCond c → AreTokens (cond_tokens c)
cond-tokens c h = cond-tokens-at depth_limit c h

pub range-tokens : (r : Range) → AreSomeBytes r.bytes → AreTokens (range_tokens r)
range-tokens r h = (tt, (hex-atom r.at, (bytes-atom r.bytes h, (tt, tt))))
