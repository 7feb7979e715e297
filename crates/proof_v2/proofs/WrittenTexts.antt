-- Groups are read one after the other, and written with what their proofs become.
use Rattle.std.proofs.Common.{◌≡◌, ℕ, Option, List, [], ◌∷◌, ◌++◌, Some, None, refl, sym, ap, ◌∙◌, subst, append_assoc}
use Rattle.std.specs.List.{AllZip}
use Rattle.mc_text.specs.Tokens.{spell}
use Rattle.mc_text.specs.declared.token.Before.TheVariants.{Start}
use Rattle.tailrec_lang.specs.declared.group.Group.{Group}
use Rattle.tailrec_lang.specs.Tree.{group_tree}
use Rattle.group_text.specs.Spelling.{end_tokens, title_tokens}
use Rattle.group_text.specs.Version.{version_2}
use Rattle.proof_text.specs.Line.{ProofTree}
use Rattle.proof_text.specs.LineGrammar.{IsProofOver}
use Rattle.proof_text.specs.FirstProofs.{MayOpen, Progress, ProofEnds}
use Rattle.proof_text.specs.Proofs.{proof_texts_by}
use Rattle.verdicts.specs.Verdicts.{IsTextOf}
use Rattle.verdicts.proofs.FirstLemmas.{all-more}
use Rattle.short_text.specs.ShortProofs.{ShortProof, short_line_tokens, short_lines, text_of_short_proofs}
use Rattle.proof_v2.specs.MigratedText.{IsMigratedProof}
use Rattle.proof_v2.specs.inner.Rewriting.{BecomesText, GroupIsNext, GroupsSoFar, ProofIsPut, text_of_short_proof, with_lines}
use Rattle.proof_v2.proofs.ShortTextParts.{proofs-more}

may-open : (ps : List ProofTree) (p : ProofTree) (rest : List ℕ) → ProofEnds rest → MayOpen (ps ++ p ∷ []) rest
may-open [] p rest h = h
may-open (q ∷ ps) p rest h = h

zip-more : {A B : Type 0} (R : A → B → Type 0) (xs : List A) (ys : List B) (x : A) (y : B) → AllZip R xs ys → R x y → AllZip R (xs ++ x ∷ []) (ys ++ y ∷ [])
zip-more R [] [] x y h k = (k, tt)
zip-more R [] (b ∷ ys) x y h k = absurd h
zip-more R (a ∷ xs) [] x y h k = absurd h
zip-more R (a ∷ xs) (b ∷ ys) x y h k = (h.0, zip-more R xs ys x y h.1 k)

module _ (of title : List ℕ) where
  pub groups-next : (before opened after : Progress) (out more : List ℕ) (g : Group) → GroupsSoFar of before title out → GroupIsNext before opened (Some g) → ProofIsPut (group_tree g) opened after out more → GroupsSoFar of after title more
  groups-next before opened after out more g so next p = record {
    old = so.old ++ with_lines (group_tree g) p.lines ∷ [];
    text = p.goes.text ∙ next.0.text ∙ so.text;
    version = p.goes.version ∙ next.0.version ∙ so.version;
    given = p.given so.old (next.3 so.old so.given);
    over = may-open so.old (with_lines (group_tree g) p.lines) after.rest p.over;
    new = so.new ++ p.short ∷ [];
    migrated = zip-more IsMigratedProof so.old so.new (with_lines (group_tree g) p.lines) p.short so.migrated p.migrated;
    fit = all-more (IsProofOver short_lines version_2) so.new p.short so.fit p.fit;
    put = p.put ∙ ap (λ (zs : List ℕ). zs ++ text_of_short_proof p.short) so.put ∙ append_assoc title (proof_texts_by short_line_tokens so.new) (text_of_short_proof p.short)
        ∙ ap (λ (zs : List ℕ). title ++ zs) (sym (proofs-more short_line_tokens so.new p.short));
  }

-- no group, so the text ends
pub no-more : (before after : Progress) (found : Option Group) → ((g : Group) → found ≡ Some g → ⊥) → GroupIsNext before after found → GroupIsNext before after None
no-more before after None none end = end
no-more before after (Some g) none next = absurd (none g refl)

-- all groups
pub text-written : (of : List ℕ) (before after : Progress) (out more : List ℕ) → ((ps : List ShortProof) → text_of_short_proofs ps ≡ spell Start (title_tokens version_2) ++ (proof_texts_by short_line_tokens ps ++ spell Start end_tokens))
    → GroupsSoFar of before (spell Start (title_tokens version_2)) out → GroupIsNext before after None → more ≡ out ++ spell Start end_tokens → BecomesText of more
text-written of before after out more parts so end last = record {
  old = so.old;
  spelled = subst (λ (t : List ℕ). IsTextOf t so.old) so.text (end so.old so.given);
  new = so.new;
  migrated = so.migrated;
  fit = so.fit;
  is = last ∙ ap (λ (zs : List ℕ). zs ++ spell Start end_tokens) so.put ∙ append_assoc (spell Start (title_tokens version_2)) (proof_texts_by short_line_tokens so.new) (spell Start end_tokens) ∙ sym (parts so.new);
}
