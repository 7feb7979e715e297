-- Texts of lines and of proofs, one after the other.
use Rattle.std.proofs.Common.{◌≡◌, ℕ, zero, suc, ◌+◌, ◌<◌, List, [], ◌∷◌, ◌++◌, map, length, get_or, take, refl, sym, ap, ◌∙◌, arith, append_assoc}
use Rattle.std.specs.List.{AllByRecursion}
use Rattle.std.proofs.lemmas.List.{map_more}
use Rattle.rv_words.specs.declared.range.Range.{Range}
use Rattle.mc_text.specs.Tokens.{spell}
use Rattle.mc_text.specs.declared.token.Before.TheVariants.{Start}
use Rattle.proof_text.specs.Line.{LineTree, ProofTree}
use Rattle.proof_text.specs.LineSpelling.{line_tokens_in}
use Rattle.proof_text.specs.Proofs.{line_texts_in, proof_texts_in, text_of_proofs_in}
use Rattle.proof_text.specs.LineGrammar.{whole_lines}
use Rattle.proof_text.proofs.ProofParts.{proof-text-apart, whole-line}
use Rattle.group_text.specs.Spelling.{end_tokens, group_tokens, title_tokens}
use Rattle.group_text.specs.Version.{Version}

pub each_at : {A B : Type 0} (P : B → Type 0) (h : A → B) (xs : List A) (i : ℕ) (d : A) → AllByRecursion P (map h xs) → i < length xs → P (h (get_or xs i d))
each_at P h [] i d all lt = absurd (omega arith)
each_at P h (x ∷ xs) zero d all lt = all.0
each_at P h (x ∷ xs) (suc i) d all lt = each_at P h xs i d all.1 (omega (arith, lt))

append_none : (xs : List ℕ) → xs ++ [] ≡ xs
append_none [] = refl
append_none (x ∷ xs) = ap (λ zs. x ∷ zs) (append_none xs)

line_more : (v : Version) (own : List Range) (ls : List LineTree) (l : LineTree) → line_texts_in v own (ls ++ l ∷ []) ≡ line_texts_in v own ls ++ spell Start (line_tokens_in v own l)
line_more v own [] l = append_none (spell Start (line_tokens_in v own l))
line_more v own (k ∷ ls) l =
    ap (λ zs. spell Start (line_tokens_in v own k) ++ zs) (line_more v own ls l) ∙ sym (append_assoc (spell Start (line_tokens_in v own k)) (line_texts_in v own ls) (spell Start (line_tokens_in v own l)))

pub next_line : {A : Type 0} (v : Version) (h : A → LineTree) (own : List Range) (xs : List A) (i : ℕ) (d : A) (old out new : List ℕ) → i < length xs → out ≡ old ++ line_texts_in v own (map h (take i xs)) →
    new ≡ out ++ spell Start (line_tokens_in v own (h (get_or xs i d))) → new ≡ old ++ line_texts_in v own (map h (take (i + 1) xs))
next_line v h own xs i d old out new lt is more =
    more ∙ ap (λ (zs : List ℕ). zs ++ spell Start (line_tokens_in v own (h (get_or xs i d)))) is
    ∙ append_assoc old (line_texts_in v own (map h (take i xs))) (spell Start (line_tokens_in v own (h (get_or xs i d))))
    ∙ ap (λ (zs : List ℕ). old ++ zs) (sym (line_more v own (map h (take i xs)) (h (get_or xs i d))) ∙ ap (line_texts_in v own) (sym (map_more h xs i d lt)))

-- the text of a group with its lines
abbrev pub item_text : Version → ProofTree → List ℕ
item_text v p = spell Start (group_tokens p.group) ++ line_texts_in v p.group.code p.lines

pub proof_more : (v : Version) (ps : List ProofTree) (p : ProofTree) → proof_texts_in v (ps ++ p ∷ []) ≡ proof_texts_in v ps ++ item_text v p
proof_more v [] p = append_none (item_text v p)
proof_more v (q ∷ ps) p = ap (λ zs. item_text v q ++ zs) (proof_more v ps p) ∙ sym (append_assoc (item_text v q) (proof_texts_in v ps) (item_text v p))

pub next_item : {A : Type 0} (v : Version) (h : A → ProofTree) (xs : List A) (i : ℕ) (d : A) (old out new : List ℕ) → i < length xs → out ≡ old ++ proof_texts_in v (map h (take i xs)) →
    new ≡ out ++ item_text v (h (get_or xs i d)) → new ≡ old ++ proof_texts_in v (map h (take (i + 1) xs))
next_item v h xs i d old out new lt is more =
    more ∙ ap (λ (zs : List ℕ). zs ++ item_text v (h (get_or xs i d))) is ∙ append_assoc old (proof_texts_in v (map h (take i xs))) (item_text v (h (get_or xs i d)))
    ∙ ap (λ (zs : List ℕ). old ++ zs) (sym (proof_more v (map h (take i xs)) (h (get_or xs i d))) ∙ ap (proof_texts_in v) (sym (map_more h xs i d lt)))

-- the text by its parts
pub text_parts : (v : Version) (ps : List ProofTree) → text_of_proofs_in v ps ≡ spell Start (title_tokens v) ++ (proof_texts_in v ps ++ spell Start end_tokens)
text_parts v ps = proof-text-apart whole_lines v (whole-line v) ps
