-- What is read of a line of a table may stand there: it is none of the terms above it, and each of its children is one.
use Rattle.std.proofs.Common.{◌≡◌, ℕ, zero, suc, ◌^◌, ◌<◌, Bool, true, false, cond, not, List, [], ◌∷◌, ◌++◌, length, codes, Some, refl, sym, ap, subst, ◌∙◌, arith, append_assoc}
use Rattle.std.specs.Prelude.{nat_le, ◌&&◌, Contains, slice_get, slice_index_or}
use Rattle.std.specs.Fmt.{decimal, digits}
use Rattle.std.specs.Str.{bytes_eq}
use Rattle.std.specs.List.{AllByRecursion, fold}
use Rattle.std.proofs.lemmas.List.{append-nil}
use Rattle.std.proofs.lemmas.Bool.{and_parts, and_from}
use Rattle.std.proofs.lemmas.Slice.Eq.{bytes_eq-Decides}
use Rattle.mc_text.specs.Number.{IsNumber}
use Rattle.mc_text.specs.Tokens.{Tok, Right, Atom, Eol, IsAtom}
use Rattle.mc_text.proofs.Atoms.{letter-atom, word-atom}
use Rattle.mc_text.proofs.Items.{item-once}
use Rattle.mc_text.proofs.Lines.{AreTokens}
use Rattle.mc_text.proofs.OneSpelling.{lines-once}
use Rattle.mc_text.proofs.Shown.{decimal-atom, hex-atom}
use Rattle.rv_words.specs.declared.operation.Op.TheVariants.{Add, Sub, Sll, Slt, Sltu, Xor, Srl, Sra, Or, And, Mul, Mulh, Mulhsu, Mulhu, Div, Divu, Rem, Remu, Addw, Subw, Sllw, Srlw, Sraw, Mulw, Divw, Divuw, Remw, Remuw}
use Rattle.rv_words.specs.declared.extension.Ext.TheVariants.{Sx1, Sx2, Sx4}
use Rattle.rv_words.specs.declared.comparison.Cmp.TheVariants.{Eq, Ne, Lt, Ge, Ltu, Geu}
use Rattle.rv_words.specs.declared.width.Width.TheVariants.{B1, B2, B4, B8}
use Rattle.group_text.specs.TermLimits.{depth_limit}
use Rattle.term_arena.specs.declared.node.Node.{Node}
use Rattle.term_arena.specs.declared.node.Node.TheVariants as node
use Rattle.term_arena.specs.Arena.{AreChildren}
use Rattle.group_text.proofs.HeadLaws.{le-true, true-le}
use Rattle.group_text.proofs.Parts.{line-whole}
use Rattle.group_text.proofs.Real.{eol-tokens}
use Rattle.short_text.specs.declared.kind.Kind.TheVariants.{Word, Mem, Cond}
use Rattle.short_text.specs.declared.heads.NodeHead.{NodeHead}
use Rattle.short_text.specs.declared.heads.NodeHead.TheVariants as node_head
use Rattle.short_text.specs.Table.{depth_over, with_depth, depths_of, HasNumbers, IsNextTerm, AreNextTerms, IsTable}
use Rattle.short_text.specs.ShortSpelling.{term_number, node_tokens, table_line}
use Rattle.short_text.specs.inner.Kinds.{has_kind}
use Rattle.short_text.specs.inner.ShortReading.{node_head_name, node_at, node_text, has_children, is_written_in, may_follow}
use Rattle.short_text.proofs.KindLaws.{kind-is, is-kind}
use Rattle.short_text.proofs.NodeLaws.{IsRead, node-law}

abbrev close : List Tok
close = Right ∷ []

-- ---- a node is written in tokens

name-atom : (h : NodeHead) → IsAtom (node_head_name h)
unfolding digits
name-atom (node_head.Bin Add) = word-atom (node_head_name (node_head.Bin Add)) refl
name-atom (node_head.Bin Sub) = word-atom (node_head_name (node_head.Bin Sub)) refl
name-atom (node_head.Bin Sll) = word-atom (node_head_name (node_head.Bin Sll)) refl
name-atom (node_head.Bin Slt) = word-atom (node_head_name (node_head.Bin Slt)) refl
name-atom (node_head.Bin Sltu) = word-atom (node_head_name (node_head.Bin Sltu)) refl
name-atom (node_head.Bin Xor) = word-atom (node_head_name (node_head.Bin Xor)) refl
name-atom (node_head.Bin Srl) = word-atom (node_head_name (node_head.Bin Srl)) refl
name-atom (node_head.Bin Sra) = word-atom (node_head_name (node_head.Bin Sra)) refl
name-atom (node_head.Bin Or) = word-atom (node_head_name (node_head.Bin Or)) refl
name-atom (node_head.Bin And) = word-atom (node_head_name (node_head.Bin And)) refl
name-atom (node_head.Bin Mul) = word-atom (node_head_name (node_head.Bin Mul)) refl
name-atom (node_head.Bin Mulh) = word-atom (node_head_name (node_head.Bin Mulh)) refl
name-atom (node_head.Bin Mulhsu) = word-atom (node_head_name (node_head.Bin Mulhsu)) refl
name-atom (node_head.Bin Mulhu) = word-atom (node_head_name (node_head.Bin Mulhu)) refl
name-atom (node_head.Bin Div) = word-atom (node_head_name (node_head.Bin Div)) refl
name-atom (node_head.Bin Divu) = word-atom (node_head_name (node_head.Bin Divu)) refl
name-atom (node_head.Bin Rem) = word-atom (node_head_name (node_head.Bin Rem)) refl
name-atom (node_head.Bin Remu) = word-atom (node_head_name (node_head.Bin Remu)) refl
name-atom (node_head.Bin Addw) = word-atom (node_head_name (node_head.Bin Addw)) refl
name-atom (node_head.Bin Subw) = word-atom (node_head_name (node_head.Bin Subw)) refl
name-atom (node_head.Bin Sllw) = word-atom (node_head_name (node_head.Bin Sllw)) refl
name-atom (node_head.Bin Srlw) = word-atom (node_head_name (node_head.Bin Srlw)) refl
name-atom (node_head.Bin Sraw) = word-atom (node_head_name (node_head.Bin Sraw)) refl
name-atom (node_head.Bin Mulw) = word-atom (node_head_name (node_head.Bin Mulw)) refl
name-atom (node_head.Bin Divw) = word-atom (node_head_name (node_head.Bin Divw)) refl
name-atom (node_head.Bin Divuw) = word-atom (node_head_name (node_head.Bin Divuw)) refl
name-atom (node_head.Bin Remw) = word-atom (node_head_name (node_head.Bin Remw)) refl
name-atom (node_head.Bin Remuw) = word-atom (node_head_name (node_head.Bin Remuw)) refl
name-atom (node_head.Extend Sx1) = word-atom (node_head_name (node_head.Extend Sx1)) refl
name-atom (node_head.Extend Sx2) = word-atom (node_head_name (node_head.Extend Sx2)) refl
name-atom (node_head.Extend Sx4) = word-atom (node_head_name (node_head.Extend Sx4)) refl
name-atom (node_head.Load B1) = word-atom (node_head_name (node_head.Load B1)) refl
name-atom (node_head.Load B2) = word-atom (node_head_name (node_head.Load B2)) refl
name-atom (node_head.Load B4) = word-atom (node_head_name (node_head.Load B4)) refl
name-atom (node_head.Load B8) = word-atom (node_head_name (node_head.Load B8)) refl
name-atom (node_head.Store B1) = word-atom (node_head_name (node_head.Store B1)) refl
name-atom (node_head.Store B2) = word-atom (node_head_name (node_head.Store B2)) refl
name-atom (node_head.Store B4) = word-atom (node_head_name (node_head.Store B4)) refl
name-atom (node_head.Store B8) = word-atom (node_head_name (node_head.Store B8)) refl
name-atom (node_head.Compare Eq) = word-atom (node_head_name (node_head.Compare Eq)) refl
name-atom (node_head.Compare Ne) = word-atom (node_head_name (node_head.Compare Ne)) refl
name-atom (node_head.Compare Lt) = word-atom (node_head_name (node_head.Compare Lt)) refl
name-atom (node_head.Compare Ge) = word-atom (node_head_name (node_head.Compare Ge)) refl
name-atom (node_head.Compare Ltu) = word-atom (node_head_name (node_head.Compare Ltu)) refl
name-atom (node_head.Compare Geu) = word-atom (node_head_name (node_head.Compare Geu)) refl
name-atom node_head.Neg = word-atom (node_head_name node_head.Neg) refl
name-atom (node_head.Inside B1) = word-atom (node_head_name (node_head.Inside B1)) refl
name-atom (node_head.Inside B2) = word-atom (node_head_name (node_head.Inside B2)) refl
name-atom (node_head.Inside B4) = word-atom (node_head_name (node_head.Inside B4)) refl
name-atom (node_head.Inside B8) = word-atom (node_head_name (node_head.Inside B8)) refl

pub term-atom : (k : ℕ) → IsNumber k → IsAtom (codes "t" ++ decimal k)
term-atom k h = letter-atom 116 (decimal k) refl (decimal-atom k h)

pub small : (n : ℕ) → n < 2 ^ 32 → IsNumber n
small n h = omega (arith, h)

pub one-tokens : (a : ℕ) → IsNumber a → AreTokens (term_number a ++ close)
one-tokens a h = (term-atom a h, (tt, tt))

pub two-tokens : (a b : ℕ) → IsNumber a → IsNumber b → AreTokens (term_number a ++ (term_number b ++ close))
two-tokens a b h k = (term-atom a h, one-tokens b k)

node-tokens : (n : Node) → HasNumbers n → AreTokens (node_tokens n)
node-tokens (node.Const n) h = (hex-atom n, tt)
node-tokens (node.WordVar i) h = (letter-atom 118 (decimal i) refl (decimal-atom i (small i h)), tt)
node-tokens (node.Bin op a b) h = (tt, (name-atom (node_head.Bin op), two-tokens a b h.0 h.1))
node-tokens (node.Extend ext a) h = (tt, (name-atom (node_head.Extend ext), one-tokens a h))
node-tokens (node.Load width m a) h = (tt, (name-atom (node_head.Load width), two-tokens m a h.0 h.1))
node-tokens (node.MemVar i) h = (letter-atom 109 (decimal i) refl (decimal-atom i (small i h)), tt)
node-tokens (node.Store width m a v) h = (tt, (name-atom (node_head.Store width), (term-atom m h.0, two-tokens a v h.1 h.2)))
node-tokens (node.Compare cmp a b) h = (tt, (name-atom (node_head.Compare cmp), two-tokens a b h.0 h.1))
node-tokens (node.Neg c) h = (tt, (name-atom node_head.Neg, one-tokens c h))
node-tokens (node.Inside width m a) h = (tt, (name-atom (node_head.Inside width), two-tokens m a h.0 h.1))

pub table-line-tokens : (n : Node) → HasNumbers n → AreTokens (table_line n)
table-line-tokens n h = (word-atom (codes "term") refl, eol-tokens (node_tokens n) (node-tokens n h))

-- ---- two nodes that are written alike are the same

behind : (x y : Tok) (us vs : List Tok) → x ∷ us ≡ y ∷ vs → us ≡ vs
behind x y us vs e = cc

pub node-once : (m n : Node) → HasNumbers m → HasNumbers n → node_text m ≡ node_text n → m ≡ n
node-once m n hm hn e =
    let same : table_line m ≡ table_line n = lines-once (table_line m) (table_line n) (table-line-tokens m hm) (table-line-tokens n hn) (line-whole (codes "term") (node_tokens m ∷ [])) (line-whole (codes "term") (node_tokens n ∷ [])) e in
    (item-once node_at HasNumbers node_tokens node-law m n (Eol ∷ []) (Eol ∷ []) hm hn (behind (Atom (codes "term")) (Atom (codes "term")) (node_tokens m ++ Eol ∷ []) (node_tokens n ++ Eol ∷ []) same)).0

there-first : (m : Node) (ms : List Node) (n : Node) → m ≡ n → Contains (m ∷ ms) n
there-first m ms n e = (0, omega arith, e)

there-later : (m : Node) (ms : List Node) (n : Node) → Contains ms n → Contains (m ∷ ms) n
there-later m ms n w = (suc w.0, (let lt = w.1 in omega (arith, lt)), w.2)

written-there : (ns : List Node) (n : Node) → AllByRecursion HasNumbers ns → HasNumbers n → is_written_in ns n ≡ true → Contains ns n
written-there [] n h k e = absurd cc
written-there (m ∷ ms) n h k e = by (bytes_eq (node_text m) (node_text n)) refl (λ f. written-there ms n h.1 k f) e
  where
    by : (b : Bool) → bytes_eq (node_text m) (node_text n) ≡ b → (is_written_in ms n ≡ true → Contains ms n) → cond b true (is_written_in ms n) ≡ true → Contains (m ∷ ms) n
    by true t later e = there-first m ms n (node-once m n h.0 k ((bytes_eq-Decides (node_text m) (node_text n)).0 t))
    by false t later e = there-later m ms n (later e)

or-later : (b c : Bool) → c ≡ true → cond b true c ≡ true
or-later true c e = refl
or-later false c e = e

first-written : (m : Node) (ms : List Node) (n : Node) → m ≡ n → is_written_in (m ∷ ms) n ≡ true
first-written m ms n e = ap (λ (b : Bool). cond b true (is_written_in ms n)) ((bytes_eq-Decides (node_text m) (node_text n)).1 (ap node_text e))

at-written : (ns : List Node) (n : Node) (k : ℕ) → k < length ns → slice_index_or ns k n ≡ n → is_written_in ns n ≡ true
at-written [] n k lt e = absurd (omega (arith, lt))
at-written (m ∷ ms) n zero lt e = first-written m ms n e
at-written (m ∷ ms) n (suc k) lt e = or-later (bytes_eq (node_text m) (node_text n)) (is_written_in ms n) (at-written ms n k (omega (arith, lt)) e)

there-written : (ns : List Node) (n : Node) → Contains ns n → is_written_in ns n ≡ true
there-written ns n w = at-written ns n w.0 w.1 w.2

-- ---- children

pub children-are : (ns : List Node) (n : Node) → has_children ns n ≡ true → AreChildren ns n
children-are ns (node.Const n) e = tt
children-are ns (node.WordVar i) e = tt
children-are ns (node.Bin op a b) e = let k = and_parts (has_kind ns Word a) (has_kind ns Word b) e in (kind-is ns Word a k.0, kind-is ns Word b k.1)
children-are ns (node.Extend ext a) e = kind-is ns Word a e
children-are ns (node.Load width m a) e = let k = and_parts (has_kind ns Mem m) (has_kind ns Word a) e in (kind-is ns Mem m k.0, kind-is ns Word a k.1)
children-are ns (node.MemVar i) e = tt
children-are ns (node.Store width m a v) e =
    let k = and_parts (has_kind ns Mem m) (has_kind ns Word a && has_kind ns Word v) e in
    let l = and_parts (has_kind ns Word a) (has_kind ns Word v) k.1 in
    (kind-is ns Mem m k.0, kind-is ns Word a l.0, kind-is ns Word v l.1)
children-are ns (node.Compare cmp a b) e = let k = and_parts (has_kind ns Word a) (has_kind ns Word b) e in (kind-is ns Word a k.0, kind-is ns Word b k.1)
children-are ns (node.Neg c) e = kind-is ns Cond c e
children-are ns (node.Inside width m a) e = let k = and_parts (has_kind ns Mem m) (has_kind ns Word a) e in (kind-is ns Mem m k.0, kind-is ns Word a k.1)

are-children : (ns : List Node) (n : Node) → AreChildren ns n → has_children ns n ≡ true
are-children ns (node.Const n) h = refl
are-children ns (node.WordVar i) h = refl
are-children ns (node.Bin op a b) h = and_from (has_kind ns Word a) (has_kind ns Word b) (is-kind ns Word a h.0) (is-kind ns Word b h.1)
are-children ns (node.Extend ext a) h = is-kind ns Word a h
are-children ns (node.Load width m a) h = and_from (has_kind ns Mem m) (has_kind ns Word a) (is-kind ns Mem m h.0) (is-kind ns Word a h.1)
are-children ns (node.MemVar i) h = refl
are-children ns (node.Store width m a v) h =
    and_from (has_kind ns Mem m) (has_kind ns Word a && has_kind ns Word v) (is-kind ns Mem m h.0) (and_from (has_kind ns Word a) (has_kind ns Word v) (is-kind ns Word a h.1) (is-kind ns Word v h.2))
are-children ns (node.Compare cmp a b) h = and_from (has_kind ns Word a) (has_kind ns Word b) (is-kind ns Word a h.0) (is-kind ns Word b h.1)
are-children ns (node.Neg c) h = is-kind ns Cond c h
are-children ns (node.Inside width m a) h = and_from (has_kind ns Mem m) (has_kind ns Word a) (is-kind ns Mem m h.0) (is-kind ns Word a h.1)

-- ---- the next term

not-true : (b : Bool) → not b ≡ true → b ≡ false
not-true true e = absurd cc
not-true false e = refl

clash : (b : Bool) → b ≡ false → b ≡ true → ⊥
clash b e f = cc

pub read-next : (ns : List Node) (n : Node) → IsRead ns n → IsNextTerm ns n
unfolding may_follow
read-next ns n r =
    let k = and_parts (has_children ns n) (not (is_written_in ns n) && nat_le (depth_over (depths_of ns) n) depth_limit) r.1 in
    let l = and_parts (not (is_written_in ns n)) (nat_le (depth_over (depths_of ns) n) depth_limit) k.1 in
    record {
      children = children-are ns n k.0;
      numbers = r.0;
      other = λ w. clash (is_written_in ns n) (not-true (is_written_in ns n) l.0) (there-written ns n w);
      depth = le-true (depth_over (depths_of ns) n) depth_limit l.1;
    }

pub other-unwritten : (ns : List Node) (n : Node) → AllByRecursion HasNumbers ns → HasNumbers n → (Contains ns n → ⊥) → (b : Bool) → is_written_in ns n ≡ b → not b ≡ true
other-unwritten ns n h k none true e = absurd (none (written-there ns n h k e))
other-unwritten ns n h k none false e = refl

pub next-read : (ns : List Node) (n : Node) → AllByRecursion HasNumbers ns → IsNextTerm ns n → IsRead ns n
unfolding may_follow
next-read ns n h t = (
  t.numbers,
  and_from (has_children ns n) (not (is_written_in ns n) && nat_le (depth_over (depths_of ns) n) depth_limit) (are-children ns n t.children)
      (and_from (not (is_written_in ns n)) (nat_le (depth_over (depths_of ns) n) depth_limit) (other-unwritten ns n h t.numbers t.other (is_written_in ns n) refl) (true-le (depth_over (depths_of ns) n) depth_limit t.depth)),
)

-- ---- tables

pub next-numbers : (ns ms : List Node) → AreNextTerms ns ms → AllByRecursion HasNumbers ms
next-numbers ns [] h = tt
next-numbers ns (m ∷ ms) h = (h.0.numbers, next-numbers (ns ++ m ∷ []) ms h.1)

next-more : (ns ms : List Node) (n : Node) → AreNextTerms ns ms → IsNextTerm (ns ++ ms) n → AreNextTerms ns (ms ++ n ∷ [])
next-more ns [] n h k = (subst (λ (v : List Node). IsNextTerm v n) (append-nil ns) k, tt)
next-more ns (m ∷ ms) n h k = (h.0, next-more (ns ++ m ∷ []) ms n h.1 (subst (λ (v : List Node). IsNextTerm v n) (sym (append_assoc ns (m ∷ []) ms)) k))

next-fewer : (ns ms : List Node) (n : Node) → AreNextTerms ns (ms ++ n ∷ []) → AreNextTerms ns ms × IsNextTerm (ns ++ ms) n
next-fewer ns [] n h = (tt, subst (λ (v : List Node). IsNextTerm v n) (sym (append-nil ns)) h.0)
next-fewer ns (m ∷ ms) n h = let k = next-fewer (ns ++ m ∷ []) ms n h.1 in ((h.0, k.0), subst (λ (v : List Node). IsNextTerm v n) (append_assoc ns (m ∷ []) ms) k.1)

pub table-more : (ns : List Node) (n : Node) → IsTable ns → IsNextTerm ns n → IsTable (ns ++ n ∷ [])
table-more ns n h k = next-more [] ns n h k

pub table-fewer : (ns : List Node) (n : Node) → IsTable (ns ++ n ∷ []) → IsTable ns × IsNextTerm ns n
table-fewer ns n h = next-fewer [] ns n h

depths-from : (ds : List ℕ) (ns : List Node) (n : Node) → fold with_depth ds (ns ++ n ∷ []) ≡ with_depth (fold with_depth ds ns) n
depths-from ds [] n = refl
depths-from ds (m ∷ ns) n = depths-from (with_depth ds m) ns n

pub depths-more : (ns : List Node) (n : Node) → depths_of (ns ++ n ∷ []) ≡ depths_of ns ++ depth_over (depths_of ns) n ∷ []
unfolding depths_of
depths-more ns n = depths-from [] ns n

-- ---- a term that the table may go on with

there-at : (ns : List Node) (n : Node) (k : ℕ) → slice_get ns k ≡ Some n → is_written_in ns n ≡ true
there-at [] n k e = absurd cc
there-at (m ∷ ms) n zero e = first-written m ms n cc
there-at (m ∷ ms) n (suc k) e = or-later (bytes_eq (node_text m) (node_text n)) (is_written_in ms n) (there-at ms n k e)

pub childless : (ns : List Node) (n : Node) → has_children ns n ≡ false → may_follow ns n ≡ false
unfolding may_follow
childless ns n e = ap (λ (b : Bool). b && (not (is_written_in ns n) && nat_le (depth_over (depths_of ns) n) depth_limit)) e

and-none : (b : Bool) → (b && false) ≡ false
and-none true = refl
and-none false = refl

pub too-deep : (ns : List Node) (n : Node) → nat_le (depth_over (depths_of ns) n) depth_limit ≡ false → may_follow ns n ≡ false
unfolding may_follow
too-deep ns n e =
    ap (λ (b : Bool). has_children ns n && (not (is_written_in ns n) && b)) e
    ∙ ap (λ (b : Bool). has_children ns n && b) (and-none (not (is_written_in ns n)))
    ∙ and-none (has_children ns n)

pub there-already : (ns : List Node) (n : Node) (k : ℕ) → slice_get ns k ≡ Some n → may_follow ns n ≡ false
unfolding may_follow
there-already ns n k e =
    ap (λ (b : Bool). has_children ns n && (not b && nat_le (depth_over (depths_of ns) n) depth_limit)) (there-at ns n k e)
    ∙ and-none (has_children ns n)
