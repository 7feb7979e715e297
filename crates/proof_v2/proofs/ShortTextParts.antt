-- The texts of a group's table and short lines, one after the other.
use Rattle.std.proofs.Common.{◌≡◌, ℕ, ◌+◌, ◌<◌, ◌≤◌, List, [], ◌∷◌, ◌++◌, get_or, length, map, take, refl, sym, ap, ◌∙◌, append_assoc, append-nil}
use Rattle.std.proofs.lemmas.List.{take_all, take_more}
use Rattle.mc_text.specs.Tokens.{Tok, spell}
use Rattle.mc_text.specs.declared.token.Before.TheVariants.{Start}
use Rattle.rv_words.specs.declared.range.Range.{Range}
use Rattle.tailrec_lang.specs.Tree.{GroupTree}
use Rattle.group_text.specs.Limits.{IsGroupIn}
use Rattle.group_text.specs.Spelling.{group_tokens}
use Rattle.group_text.specs.Version.{version_1, version_2}
use Rattle.term_arena.specs.declared.node.Node.{Node}
use Rattle.proof_text.specs.Line.{ProofOf}
use Rattle.proof_text.specs.Proofs.{line_texts_by, proof_texts_by}
use Rattle.short_text.specs.declared.short.Short.{Short}
use Rattle.short_text.specs.declared.short.ShortLine.{ShortLine}
use Rattle.short_text.specs.declared.short.ShortLine.TheVariants.{Term, Proof}
use Rattle.short_text.specs.ShortSpelling.{short_tokens, table_line}
use Rattle.short_text.specs.ShortProofs.{short_line_tokens}

-- the texts of lines, and of one more
pub texts-more : {L : Type 0} (tokens : L → List Tok) (xs : List L) (x : L) → line_texts_by tokens (xs ++ x ∷ []) ≡ line_texts_by tokens xs ++ spell Start (tokens x)
texts-more tokens [] x = append-nil (spell Start (tokens x))
texts-more {L} tokens (y ∷ xs) x = ap (λ (zs : List ℕ). spell Start (tokens y) ++ zs) (texts-more tokens xs x) ∙ sym (append_assoc (spell Start (tokens y)) (line_texts_by tokens xs) (spell Start (tokens x)))

-- .. of proofs
pub proofs-more : {L : Type 0} (tokens : List Range → L → List Tok) (ps : List (ProofOf L)) (p : ProofOf L) → proof_texts_by tokens (ps ++ p ∷ []) ≡ proof_texts_by tokens ps ++ (spell Start (group_tokens p.group) ++ line_texts_by (tokens p.group.code) p.lines)
proofs-more tokens [] p = append-nil (spell Start (group_tokens p.group) ++ line_texts_by (tokens p.group.code) p.lines)
proofs-more {L} tokens (q ∷ ps) p =
    let first : List ℕ = spell Start (group_tokens q.group) ++ line_texts_by (tokens q.group.code) q.lines in
    let last : List ℕ = spell Start (group_tokens p.group) ++ line_texts_by (tokens p.group.code) p.lines in
    ap (λ (zs : List ℕ). first ++ zs) (proofs-more tokens ps p) ∙ sym (append_assoc first (proof_texts_by tokens ps) last)

module _ (own : List Range) where
  lines-apart : (ss : List Short) → line_texts_by (short_line_tokens own) (map Proof ss) ≡ line_texts_by (short_tokens own) ss
  lines-apart [] = refl
  lines-apart (s ∷ ss) = ap (λ (zs : List ℕ). spell Start (short_tokens own s) ++ zs) (lines-apart ss)

  terms-apart : (ns : List Node) (ls : List ShortLine) → line_texts_by (short_line_tokens own) (map Term ns ++ ls) ≡ line_texts_by table_line ns ++ line_texts_by (short_line_tokens own) ls
  terms-apart [] ls = refl
  terms-apart (n ∷ ns) ls = ap (λ (zs : List ℕ). spell Start (table_line n) ++ zs) (terms-apart ns ls) ∙ sym (append_assoc (spell Start (table_line n)) (line_texts_by table_line ns) (line_texts_by (short_line_tokens own) ls))

  -- the table's, and then those of the lines
  pub table-and-lines : (ns : List Node) (ss : List Short) → line_texts_by (short_line_tokens own) (map Term ns ++ map Proof ss) ≡ line_texts_by table_line ns ++ line_texts_by (short_tokens own) ss
  table-and-lines ns ss = terms-apart ns (map Proof ss) ∙ ap (λ (zs : List ℕ). line_texts_by table_line ns ++ zs) (lines-apart ss)

-- a group of version 1 is one of version 2
pub group-of-2 : (g : GroupTree) → IsGroupIn version_1 g → IsGroupIn version_2 g
group-of-2 g h = record { name = h.name; registers = h.registers; memories = h.memories; code = h.code; bytes = h.bytes; defs = h.defs; some = h.some; few = h.few }

-- ---- one more of a list

pub next-text : {L : Type 0} (tokens : L → List Tok) (xs : List L) (i : ℕ) (x : L) (old out new : List ℕ) → i < length xs → x ≡ get_or xs i x → out ≡ old ++ line_texts_by tokens (take i xs) → new ≡ out ++ spell Start (tokens x)
    → new ≡ old ++ line_texts_by tokens (take (i + 1) xs)
next-text {L} tokens xs i x old out new low is so more =
    let items : take (i + 1) xs ≡ take i xs ++ x ∷ [] = take_more xs i x low ∙ ap (λ (y : L). take i xs ++ y ∷ []) (sym is) in
    more ∙ ap (λ (zs : List ℕ). zs ++ spell Start (tokens x)) so ∙ append_assoc old (line_texts_by tokens (take i xs)) (spell Start (tokens x))
    ∙ ap (λ (zs : List ℕ). old ++ zs) (sym (texts-more tokens (take i xs) x) ∙ ap (line_texts_by tokens) (sym items))

pub all-texts : {L : Type 0} (tokens : L → List Tok) (xs : List L) (i : ℕ) (old out : List ℕ) → length xs ≤ i → out ≡ old ++ line_texts_by tokens (take i xs) → out ≡ old ++ line_texts_by tokens xs
all-texts {L} tokens xs i old out le so = so ∙ ap (λ (ys : List L). old ++ line_texts_by tokens ys) (take_all i xs le)
