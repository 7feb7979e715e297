-- What is answered to the commands `decompile`, `link` and `split`, and what its output file holds then.
use Rattle.std.proofs.Common.{◌≡◌, ℕ, ◌+◌, ◌<◌, ◌≤◌, get_or, List, [], ◌∷◌, ◌++◌, length, map, take, take_all, Option, Some, None, refl, sym, ap, subst, ◌∙◌, inl, inr, append-nil, append_assoc, arith}
use Rattle.std.proofs.lemmas.List.{take_more, map-append}
use Rattle.std.specs.List.{AllZip}
use Rattle.std.specs.Prelude.{IfSome}
use Rattle.mc_shelf.specs.Shelf.{Contents}
use Rattle.mc_text.specs.Tokens.{spell}
use Rattle.mc_text.specs.declared.token.Before.TheVariants.{Start}
use Rattle.group_text.specs.Spelling.{end_tokens, title_tokens}
use Rattle.group_text.specs.Version.{Version}
use Rattle.proof_text.specs.Line.{ProofTree}
use Rattle.proof_text.specs.Proofs.{proof_texts_in, text_of_proofs_in}
use Rattle.path_walk.specs.declared.item.Item.{Item}
use Rattle.decompiler.specs.Listing.{IsItemBy, ItemForm, proof_of}
use Rattle.decompiler.proofs.InOrder.{items-more}
use Rattle.decompiler.proofs.Texts.{item_text, proof_more, text_parts}
use Rattle.mcdec_answers.specs.declared.command.Form.{Form}
use Rattle.verdicts.specs.declared.verdict.Verdict.TheVariants as ve
use Rattle.mcdec_answers.specs.declared.answer.Answer.{Answer}
use Rattle.mcdec_answers.specs.declared.answer.Answer.TheVariants as answer
use Rattle.mcdec_answers.specs.declared.answer.DecompileAnswer.TheVariants as de
use Rattle.mcdec_answers.specs.declared.answer.EvalAnswer.TheVariants as ev
use Rattle.mcdec_answers.specs.declared.answer.RunAnswer.TheVariants as ra
use Rattle.mcdec_answers.specs.declared.answer.CheckAnswer.TheVariants as ca
use Rattle.mcdec_answers.specs.declared.answer.SimplifyAnswer.TheVariants as si
use Rattle.mcdec_answers.specs.declared.answer.LawsAnswer.TheVariants as la
use Rattle.mcdec_answers.specs.declared.answer.SmtAnswer.TheVariants as sm
use Rattle.mcdec_answers.specs.declared.answer.MigrateAnswer.TheVariants as mi
use Rattle.mcdec_answers.specs.declared.answer.Listed.{Listed}
use Rattle.mcdec_answers.specs.Command.{Command, Decompile, Words, output_of}
use Rattle.mcdec_commands.specs.RunAnswer.{IsLoaded}
use Rattle.mcdec_commands.specs.DecompileAnswer.{DecompileGives, IsTextFor, all_listed, item_form, listed_of, version_in}
use Rattle.mcdec_commands.specs.Answer.{Gives}
use Rattle.mcdec_answers.specs.Printed.{status}
use Rattle.mcdec_commands.specs.inner.Decompiling.{FileGives, HasItems}
use Rattle.mcdec_commands.specs.inner.Writing.{ToldOrFault}
use Rattle.mcdec_commands.proofs.Answers.{held-with}
use Rattle.mcdec_commands.proofs.Leaving.{has-output}
use Rattle.mcdec_answers.proofs.OneCommand.{words-unique}

-- ---- the file that it reads

-- what is answered of the file's bytes is what the command comes to
pub file-gives : (told : Option Contents) (ws : List (List ℕ)) (form : Form) (elf out : List ℕ) (names : List (List ℕ)) (file : List ℕ) (rose wrote : Type 0) → Words ws (Decompile form elf out names) → IfSome told (λ files. files elf ≡ Some file)
    → (a : Answer) → (status a ≡ 5 → wrote) → FileGives form file names a → Gives told ws rose wrote a
file-gives told ws form elf out names file rose wrote w held answer.NotACommand since h = absurd h
file-gives told ws form elf out names file rose wrote w held answer.ReadFault since h = absurd h
file-gives told ws form elf out names file rose wrote w held answer.WriteFault since h = (Decompile form elf out names, w, has-output out, since refl)
file-gives told ws form elf out names file rose wrote w held answer.NoMemory since h = tt
file-gives told ws form elf out names file rose wrote w held (answer.Eval a) since h = absurd h
file-gives told ws form elf out names file rose wrote w held (answer.Run a) since h = absurd h
file-gives told ws form elf out names file rose wrote w held (answer.Check a) since h = absurd h
file-gives told ws form elf out names file rose wrote w held (answer.SelfTest a) since h = absurd h
file-gives told ws form elf out names file rose wrote w held (answer.Simplify a) since h = absurd h
file-gives told ws form elf out names file rose wrote w held (answer.Laws a) since h = absurd h
file-gives told ws form elf out names file rose wrote w held (answer.Smt a) since h = absurd h
file-gives told ws form elf out names file rose wrote w held (answer.Migrate a) since h = absurd h
file-gives told ws form elf out names file rose wrote w held (answer.Decompile a) since h = (form, elf, out, names, w, held-with told elf file (λ f. DecompileGives form f names a) held h)

-- ---- the text that is written

module _ (form : Form) (file : List ℕ) (names : List (List ℕ)) (loaded : IsLoaded file) (text : List ℕ) (listed : List Listed) (h : HasItems (item_form form) file names (text_of_proofs_in (version_in form)) text listed) where
  -- it is that of items for the names, of which the answer tells
  pub text-for : (elf : List ℕ) (files : Contents) → files elf ≡ Some file → IsTextFor form files elf names (answer.Decompile (de.Decompiled form listed)) text
  text-for elf files holds = record {
    file = file;
    holds = holds;
    loaded = loaded;
    proof = record { items = h.items };
    items = h.each;
    spelled = h.is;
    told = ap (λ (ls : List Listed). answer.Decompile (de.Decompiled form ls)) h.told;
  }

  -- what is answered of it
  pub names-told : (a : Answer) → ToldOrFault (answer.Decompile (de.Decompiled form listed)) a → FileGives form file names a
  names-told a (inl e) = subst (FileGives form file names) (sym e) (refl, loaded, record { items = h.items }, h.each, h.told)
  names-told a (inr (inl e)) = subst (FileGives form file names) (sym e) tt
  names-told a (inr (inr e)) = subst (FileGives form file names) (sym e) tt

-- ---- the names one after the other

listed-more : (R : List ℕ → Item → Type 0) (names : List (List ℕ)) (items : List Item) (name : List ℕ) (item : Item) → AllZip R names items
    → all_listed (names ++ name ∷ []) (items ++ item ∷ []) ≡ all_listed names items ++ listed_of name item ∷ []
listed-more R [] [] name item h = refl
listed-more R [] (y ∷ items) name item h = absurd h
listed-more R (x ∷ names) [] name item h = absurd h
listed-more R (x ∷ names) (y ∷ items) name item h = ap (λ ls. listed_of x y ∷ ls) (listed-more R names items name item h.1)

items-after : (v : Version) (items : List Item) (item : Item) → proof_texts_in v (map proof_of (items ++ item ∷ [])) ≡ proof_texts_in v (map proof_of items) ++ item_text v (proof_of item)
items-after v items item = ap (proof_texts_in v) (map-append proof_of items (item ∷ [])) ∙ proof_more v (map proof_of items) (proof_of item)

-- the texts behind the title
abbrev pub begun : Version → List ProofTree → List ℕ
begun v ps = spell Start (title_tokens v) ++ proof_texts_in v ps

pub at-first : (form : ItemForm) (v : Version) (file none text : List ℕ) (listed : List Listed) → none ≡ [] → listed ≡ [] → text ≡ none ++ spell Start (title_tokens v) → HasItems form file [] (begun v) text listed
at-first form v file none text listed nothing told is = record {
  items = [];
  each = tt;
  is = is ∙ ap (λ (zs : List ℕ). zs ++ spell Start (title_tokens v)) nothing ∙ sym (append-nil (spell Start (title_tokens v)));
  told = told;
}

module _ (form : ItemForm) (v : Version) (file : List ℕ) (names : List (List ℕ)) (i : ℕ) (text new : List ℕ) (listed : List Listed) where
  pub one-more : (told : List Listed) → i < length names → HasItems form file (take i names) (begun v) text listed → (item : Item) → IsItemBy form file (get_or names i []) item
      → new ≡ text ++ item_text v (proof_of item) → told ≡ listed ++ listed_of item.group.name item ∷ [] → HasItems form file (take (i + 1) names) (begun v) new told
  one-more told low h item is more tells = record {
    items = h.items ++ item ∷ [];
    each = items-more form file names i low h.items h.each item (h.items ++ item ∷ []) is refl;
    is = more ∙ ap (λ (zs : List ℕ). zs ++ item_text v (proof_of item)) h.is
        ∙ append_assoc (spell Start (title_tokens v)) (proof_texts_in v (map proof_of h.items)) (item_text v (proof_of item))
        ∙ ap (λ (zs : List ℕ). spell Start (title_tokens v) ++ zs) (sym (items-after v h.items item));
    told = tells ∙ (λ j. h.told j ++ listed_of (is.lists.named j) item ∷ [])
        ∙ sym (listed-more (IsItemBy form file) (take i names) h.items (get_or names i []) item h.each)
        ∙ (λ j. all_listed (sym (take_more names i [] low) j) (h.items ++ item ∷ []));
  }

  -- .. up to the last
  pub all-of-them : length names ≤ i → HasItems form file (take i names) (begun v) text listed → new ≡ text ++ spell Start end_tokens → HasItems form file names (text_of_proofs_in v) new listed
  all-of-them past h ends =
      let all : take i names ≡ names = take_all i names past in
      record {
        items = h.items;
        each = subst (λ (ns : List (List ℕ)). AllZip (IsItemBy form file) ns h.items) all h.each;
        is = ends ∙ ap (λ (zs : List ℕ). zs ++ spell Start end_tokens) h.is ∙ append_assoc (spell Start (title_tokens v)) (proof_texts_in v (map proof_of h.items)) (spell Start end_tokens)
            ∙ sym (text_parts v (map proof_of h.items));
        told = h.told ∙ (λ j. all_listed (all j) h.items);
      }

-- ---- the words of another command

-- of the words of a command that writes no file no answer is that a write failed
pub no-write-fault : (told : Option Contents) (ws : List (List ℕ)) (rose wrote : Type 0) (c : Command) → Words ws c → output_of c ≡ None → (a : Answer) → Gives told ws rose wrote a → status a ≡ 5 → ⊥
no-write-fault told ws rose wrote c w none answer.NotACommand h e = omega (arith, e)
no-write-fault told ws rose wrote c w none answer.ReadFault h e = omega (arith, e)
no-write-fault told ws rose wrote c w none answer.WriteFault (d, v, some, more) e = some (ap output_of (words-unique ws d c v w) ∙ none)
no-write-fault told ws rose wrote c w none answer.NoMemory h e = omega (arith, e)
no-write-fault told ws rose wrote c w none (answer.Eval ev.OverLimit) h e = omega (arith, e)
no-write-fault told ws rose wrote c w none (answer.Eval (ev.Unreadable n)) h e = omega (arith, e)
no-write-fault told ws rose wrote c w none (answer.Eval (ev.IllFormed n d)) h e = omega (arith, e)
no-write-fault told ws rose wrote c w none (answer.Eval ev.NoFunction) h e = omega (arith, e)
no-write-fault told ws rose wrote c w none (answer.Eval (ev.SideFalse d i)) h e = omega (arith, e)
no-write-fault told ws rose wrote c w none (answer.Eval ev.TurnsUsed) h e = omega (arith, e)
no-write-fault told ws rose wrote c w none (answer.Eval (ev.Done s)) h e = omega (arith, e)
no-write-fault told ws rose wrote c w none (answer.Run ra.OverLimit) h e = omega (arith, e)
no-write-fault told ws rose wrote c w none (answer.Run (ra.Unreadable why)) h e = omega (arith, e)
no-write-fault told ws rose wrote c w none (answer.Run (ra.StartRefused s why)) h e = omega (arith, e)
no-write-fault told ws rose wrote c w none (answer.Run (ra.Stuck n why)) h e = omega (arith, e)
no-write-fault told ws rose wrote c w none (answer.Run ra.StepsUsed) h e = omega (arith, e)
no-write-fault told ws rose wrote c w none (answer.Run (ra.Met s)) h e = omega (arith, e)
no-write-fault told ws rose wrote c w none (answer.Check ca.ElfOverLimit) h e = omega (arith, e)
no-write-fault told ws rose wrote c w none (answer.Check ca.ProofOverLimit) h e = omega (arith, e)
no-write-fault told ws rose wrote c w none (answer.Check (ca.Judged (ve.Accepted n m))) h e = omega (arith, e)
no-write-fault told ws rose wrote c w none (answer.Check (ca.Judged (ve.BadElf why))) h e = omega (arith, e)
no-write-fault told ws rose wrote c w none (answer.Check (ca.Judged (ve.BadText n))) h e = omega (arith, e)
no-write-fault told ws rose wrote c w none (answer.Check (ca.Judged (ve.BadDef n d))) h e = omega (arith, e)
no-write-fault told ws rose wrote c w none (answer.Check (ca.Judged (ve.BadLine n))) h e = omega (arith, e)
no-write-fault told ws rose wrote c w none (answer.Check (ca.Judged (ve.NotProved n))) h e = omega (arith, e)
no-write-fault told ws rose wrote c w none (answer.Check (ca.Judged ve.NoMemory)) h e = omega (arith, e)
no-write-fault told ws rose wrote c w none (answer.Decompile de.OverLimit) h e = omega (arith, e)
no-write-fault told ws rose wrote c w none (answer.Decompile (de.Unreadable why)) h e = omega (arith, e)
no-write-fault told ws rose wrote c w none (answer.Decompile (de.Refused n why)) h e = omega (arith, e)
no-write-fault told ws rose wrote c w none (answer.Decompile (de.Decompiled form l)) h e = omega (arith, e)
no-write-fault told ws rose wrote c w none (answer.SelfTest a) h e = omega (arith, e)
no-write-fault told ws rose wrote c w none (answer.Simplify si.OverLimit) h e = omega (arith, e)
no-write-fault told ws rose wrote c w none (answer.Simplify (si.Unreadable n)) h e = omega (arith, e)
no-write-fault told ws rose wrote c w none (answer.Simplify (si.IllFormed n d)) h e = omega (arith, e)
no-write-fault told ws rose wrote c w none (answer.Simplify si.NoFunction) h e = omega (arith, e)
no-write-fault told ws rose wrote c w none (answer.Simplify (si.Simplified n)) h e = omega (arith, e)
no-write-fault told ws rose wrote c w none (answer.Laws la.ProofOverLimit) h e = omega (arith, e)
no-write-fault told ws rose wrote c w none (answer.Laws la.CertOverLimit) h e = omega (arith, e)
no-write-fault told ws rose wrote c w none (answer.Laws (la.Unreadable n)) h e = omega (arith, e)
no-write-fault told ws rose wrote c w none (answer.Laws (la.IllFormed n d)) h e = omega (arith, e)
no-write-fault told ws rose wrote c w none (answer.Laws (la.UnreadableCert n)) h e = omega (arith, e)
no-write-fault told ws rose wrote c w none (answer.Laws la.NoFunction) h e = omega (arith, e)
no-write-fault told ws rose wrote c w none (answer.Laws la.OtherGroup) h e = omega (arith, e)
no-write-fault told ws rose wrote c w none (answer.Laws (la.BadStep n)) h e = omega (arith, e)
no-write-fault told ws rose wrote c w none (answer.Laws la.OtherResult) h e = omega (arith, e)
no-write-fault told ws rose wrote c w none (answer.Laws (la.Accepted n)) h e = omega (arith, e)
no-write-fault told ws rose wrote c w none (answer.Smt sm.OverLimit) h e = omega (arith, e)
no-write-fault told ws rose wrote c w none (answer.Smt (sm.Unreadable n)) h e = omega (arith, e)
no-write-fault told ws rose wrote c w none (answer.Smt (sm.IllFormed n d)) h e = omega (arith, e)
no-write-fault told ws rose wrote c w none (answer.Smt sm.NoFunction) h e = omega (arith, e)
no-write-fault told ws rose wrote c w none (answer.Smt sm.NoDef) h e = omega (arith, e)
no-write-fault told ws rose wrote c w none (answer.Smt (sm.Loop n)) h e = omega (arith, e)
no-write-fault told ws rose wrote c w none (answer.Smt (sm.Exported n)) h e = omega (arith, e)
no-write-fault told ws rose wrote c w none (answer.Migrate mi.ElfOverLimit) h e = omega (arith, e)
no-write-fault told ws rose wrote c w none (answer.Migrate mi.ProofOverLimit) h e = omega (arith, e)
no-write-fault told ws rose wrote c w none (answer.Migrate (mi.Refused (ve.Accepted n m))) h e = omega (arith, e)
no-write-fault told ws rose wrote c w none (answer.Migrate (mi.Refused (ve.BadElf why))) h e = omega (arith, e)
no-write-fault told ws rose wrote c w none (answer.Migrate (mi.Refused (ve.BadText n))) h e = omega (arith, e)
no-write-fault told ws rose wrote c w none (answer.Migrate (mi.Refused (ve.BadDef n d))) h e = omega (arith, e)
no-write-fault told ws rose wrote c w none (answer.Migrate (mi.Refused (ve.BadLine n))) h e = omega (arith, e)
no-write-fault told ws rose wrote c w none (answer.Migrate (mi.Refused (ve.NotProved n))) h e = omega (arith, e)
no-write-fault told ws rose wrote c w none (answer.Migrate (mi.Refused ve.NoMemory)) h e = omega (arith, e)
no-write-fault told ws rose wrote c w none (answer.Migrate (mi.Migrated n m)) h e = omega (arith, e)
