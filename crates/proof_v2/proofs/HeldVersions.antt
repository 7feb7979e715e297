-- The first line of a text that a name holds, and what a verdict says of that text.
use Rattle.std.proofs.Common.{◌≡◌, ℕ, ◌-◌, ◌≤◌, Bool, true, false, ◌&&◌, not, eqb, cond, nat_eq, List, [], ◌∷◌, length, take, drop, Option, Some, None, IfSome, Result, ◌⊎◌, inl, inr, refl, sym, ap, subst, ◌∙◌, if◌then◌else◌, arith}
use Rattle.std.specs.Prelude.{IsErrOf}
use Rattle.std.proofs.lemmas.Bool.{eqb-true}
use Rattle.std.proofs.lemmas.List.{take-take}
use lib.Pointwise.{pointwise}
use Rattle.mc_shelf.specs.Fault.{Rose}
use Rattle.mc_shelf.specs.Shelf.{Contents, TellsName}
use Rattle.mc_shelf.specs.Lines.{LinesState, bytes_left, up_to_newline}
use Rattle.mc_shelf.specs.inner.OnlyReads.{OnlyReads}
use Rattle.mc_shelf.specs.declared.lines.LineFault.{LineFault}
use Rattle.mc_shelf.specs.declared.lines.LineFault.TheVariants as line
use Rattle.mc_text.specs.Tokens.{spell}
use Rattle.mc_text.specs.declared.token.Before.TheVariants.{Start}
use Rattle.group_text.specs.declared.version.Version.{Version as Known}
use Rattle.group_text.specs.declared.version.Version.TheVariants.{One, Two, Three, Four}
use Rattle.group_text.specs.Version.{version_of}
use Rattle.group_text.specs.Spelling.{title_tokens}
use Rattle.proof_text.specs.Pulling.{PullState, held_text}
use Rattle.proof_text.specs.inner.PulledRows.{IfFile}
use Rattle.verdicts.specs.Pulled.{IfVerdict}
use Rattle.verdicts.specs.declared.verdict.Pulled.{Pulled}
use Rattle.verdicts.specs.declared.verdict.Pulled.TheVariants as pulled
use Rattle.verdicts.specs.declared.verdict.Verdict.{Verdict}
use Rattle.proof_v2.specs.AnyVerdicts.{SaysIn}
use Rattle.proof_v2.specs.Titles.{any_version, has_title, named_version}

-- ---- whether a text begins with a line is told of its first line

-- no newline stands before the last byte
abbrev is-line : List ℕ → Bool
is-line [] = true
is-line (c ∷ []) = true
is-line (c ∷ d ∷ t) = not (eqb c 10) && is-line (d ∷ t)

not-first : (f g : Bool) → (not f && g) ≡ true → f ≡ false
not-first true g e = absurd cc
not-first false g e = refl

not-second : (f g : Bool) → (not f && g) ≡ true → g ≡ true
not-second true g e = absurd cc
not-second false g e = e

abbrev begins : List ℕ → List ℕ → Bool
begins t bytes = pointwise nat_eq t (take (length t) bytes)

begins-line : (t bytes : List ℕ) → is-line t ≡ true → begins t (up_to_newline bytes) ≡ begins t bytes
begins-line [] bytes h = refl
begins-line (c ∷ t) [] h = refl
begins-line (c ∷ t) (b ∷ bytes) h = by (eqb b 10) refl (begins-line t bytes)
  where
    by : (f : Bool) → eqb b 10 ≡ f → (is-line t ≡ true → begins t (up_to_newline bytes) ≡ begins t bytes) → begins (c ∷ t) (up_to_newline (b ∷ bytes)) ≡ begins (c ∷ t) (b ∷ bytes)
    by true e ih = ap (λ (f : Bool). begins (c ∷ t) (cond f (b ∷ []) (b ∷ up_to_newline bytes))) e ∙ last t h
      where
        last : (t : List ℕ) → is-line (c ∷ t) ≡ true → begins (c ∷ t) (b ∷ []) ≡ begins (c ∷ t) (b ∷ bytes)
        last [] h = refl
        last (d ∷ t) h =
            let other : eqb c b ≡ false = ap (λ (n : ℕ). eqb c n) (eqb-true b 10 e) ∙ not-first (eqb c 10) (is-line (d ∷ t)) h in
            ap (λ (f : Bool). f && begins (d ∷ t) []) other ∙ ap (λ (f : Bool). f && begins (d ∷ t) bytes) (sym other)
    by false e ih = ap (λ (f : Bool). begins (c ∷ t) (cond f (b ∷ []) (b ∷ up_to_newline bytes))) e ∙ ap (λ (f : Bool). nat_eq c b && f) (ih (rest t h))
      where
        rest : (t : List ℕ) → is-line (c ∷ t) ≡ true → is-line t ≡ true
        rest [] h = refl
        rest (d ∷ t) h = not-second (eqb c 10) (is-line (d ∷ t)) h

abbrev title : Known → List ℕ
title k = spell Start (title_tokens (version_of k))

-- of so many bytes as a title has
title-part : (k : Known) → length (title k) ≡ 10 → (size : ℕ) (file : List ℕ) → 10 ≤ size → has_title k (take 10 file) ≡ has_title k (take size file)
title-part k ten size file most =
    let parts : take 10 (take 10 file) ≡ take 10 (take size file) = take-take 10 10 file (omega arith) ∙ sym (take-take 10 size file most) in
    ap (λ (n : ℕ). pointwise nat_eq (title k) (take n (take 10 file))) ten ∙ ap (pointwise nat_eq (title k)) parts ∙ ap (λ (n : ℕ). pointwise nat_eq (title k) (take n (take size file))) (sym ten)

named-by : (a b : List ℕ) → has_title Two a ≡ has_title Two b → has_title Three a ≡ has_title Three b → has_title Four a ≡ has_title Four b → named_version a ≡ named_version b
named-by a b two three four = λ i. if two i then Two else if three i then Three else if four i then Four else One

pub named-line : (most size : ℕ) (file : List ℕ) → (most ≡ size) ⊎ ((most ≡ 10) × (10 ≤ size)) → named_version (up_to_newline (take most file)) ≡ named_version (take size file)
named-line most size file part =
    named-by (up_to_newline (take most file)) (take most file)
    (begins-line (title Two) (take most file) refl) (begins-line (title Three) (take most file) refl) (begins-line (title Four) (take most file) refl) ∙ by part
  where
    by : (most ≡ size) ⊎ ((most ≡ 10) × (10 ≤ size)) → named_version (take most file) ≡ named_version (take size file)
    by (inl same) = ap (λ (n : ℕ). named_version (take n file)) same
    by (inr less) =
        ap (λ (n : ℕ). named_version (take n file)) less.0
        ∙ named-by (take 10 file) (take size file) (title-part Two refl size file less.1) (title-part Three refl size file less.1) (title-part Four refl size file less.1)

pub named-nothing : (most size : ℕ) (file : List ℕ) → (most ≡ size) ⊎ ((most ≡ 10) × (10 ≤ size)) → take most file ≡ [] → One ≡ named_version (take size file)
named-nothing most size file part none = ap (λ (bytes : List ℕ). named_version (up_to_newline bytes)) (sym none) ∙ named-line most size file part

-- ---- the lines of a file, before the first is given

abbrev pub at-front : List ℕ → ℕ → LinesState
at-front name size = record { name = name; size = size; given = 0; waiting = []; ended = false; refused = None }

pub front-left : (name : List ℕ) (size : ℕ) (file : List ℕ) → bytes_left (at-front name size) file ≡ take size file
front-left name size file = let all : size - 0 ≡ size = omega arith in ap (λ (n : ℕ). take n (drop 0 file)) all

none-some : (f : LineFault) → None ≡ Some f → ⊥
none-some f e = cc

module _ {Store : Type 0} (contents : Store → Option Contents) (reads writes : Store → ℕ) (Sure : Store → Type 0) (result : Result (Option (List ℕ)) LineFault)
    (s : LinesState) (d e : Store) (fresh : s.refused ≡ None)
    (kept : contents e ≡ contents d) (counted : reads d ≤ reads e) (wrote : writes e ≡ writes d)
    (cause : IsErrOf result line.Fault → Rose (reads d) (reads e) ⊎ (s.refused ≡ Some line.Fault))
    (stays : Sure d → Sure e)
    (sure : Sure d → TellsName (contents d) s.name → IsErrOf result line.Fault → s.refused ≡ Some line.Fault)
    (counts : Sure d → TellsName (contents d) s.name → (reads e ≡ reads d) × (writes e ≡ writes d)) where
  pub line-reads : (Failing : Type 0) → (Failing → IsErrOf result line.Fault) → OnlyReads contents reads writes Sure Failing s.name d e
  line-reads Failing failed = record {
    kept = kept;
    reads = counted;
    writes = wrote;
    cause = λ fails. elim (cause (failed fails)) [ inl rose ↦ rose | inr was ↦ absurd (none-some line.Fault (sym fresh ∙ was)) ];
    stays_sure = stays;
    sure_fault = λ is tells fails. none-some line.Fault (sym fresh ∙ sure is tells (failed fails));
    sure_counts = λ is tells. (counts is tells).0;
  }

-- ---- versions 1 and 2

as-one : (text : List ℕ) → (named_version text ≡ Two → ⊥) → One ≡ any_version text
as-one text not = by (has_title Two text) (has_title Three text) (has_title Four text) not
  where
    by : (two three four : Bool) → ((if two then Two else if three then Three else if four then Four else One) ≡ Two → ⊥) → One ≡ (if two then Two else One)
    by true three four not = absurd (not refl)
    by false three four not = refl

as-two : (text : List ℕ) → named_version text ≡ Two → Two ≡ any_version text
as-two text is = by (has_title Two text) (has_title Three text) (has_title Four text) is
  where
    by : (two three four : Bool) → (if two then Two else if three then Three else if four then Four else One) ≡ Two → Two ≡ (if two then Two else One)
    by true three four is = refl
    by false true four is = absurd cc
    by false false true is = absurd cc
    by false false false is = absurd cc

pub as-any-two : (k : Known) (text : List ℕ) → k ≡ Two → k ≡ named_version text → Two ≡ any_version text
as-any-two k text two is = as-two text (sym is ∙ two)

pub as-any-one : (k : Known) (text : List ℕ) → (k ≡ Two → ⊥) → k ≡ named_version text → One ≡ any_version text
as-any-one k text not is = as-one text (λ two. not (is ∙ two))

-- ---- what a verdict says of the text that the name holds

-- of a text that is read from its front
pub says-held : (told : Option Contents) (result : Pulled) (name : List ℕ) (size : ℕ) (s : PullState) → s.rows.lines ≡ at-front name size → (Says : List ℕ → Verdict → Type 0)
    → IfVerdict result (λ v. IfFile told s.rows.lines.name (λ file. Says (held_text s file) v)) → IfVerdict result (λ v. IfFile told name (λ file. Says (take size file) v))
says-held told result name size s at Says h = subst (λ (l : LinesState). IfVerdict result (λ v. IfFile told l.name (λ file. Says (take l.size file) v))) at h

-- in the version that its first line names
module _ (told : Option Contents) (elf : List ℕ) (result : Pulled) (named : List ℕ → Known) (name : List ℕ) (size : ℕ) (known : Known) where
  pub says-named : (now : Option Contents) → now ≡ told → IfFile told name (λ file. known ≡ named (take size file))
      → IfVerdict result (λ v. IfFile now name (λ file. SaysIn known elf (take size file) v))
      → IfVerdict result (λ v. IfFile told name (λ file. SaysIn (named (take size file)) elf (take size file) v))
  says-named now kept is h = by result (subst (λ (t : Option Contents). IfVerdict result (λ v. IfFile t name (λ file. SaysIn known elf (take size file) v))) kept h)
    where
      in-name : (v : Verdict) (held : Option (List ℕ)) → IfSome held (λ file. known ≡ named (take size file)) → IfSome held (λ file. SaysIn known elf (take size file) v) → IfSome held (λ file. SaysIn (named (take size file)) elf (take size file) v)
      in-name v None is h = tt
      in-name v (Some file) is h = subst (λ (k : Known). SaysIn k elf (take size file) v) is h

      in-files : (v : Verdict) (told : Option Contents) → IfFile told name (λ file. known ≡ named (take size file)) → IfFile told name (λ file. SaysIn known elf (take size file) v) → IfFile told name (λ file. SaysIn (named (take size file)) elf (take size file) v)
      in-files v None is h = tt
      in-files v (Some files) is h = in-name v (files name) is h

      by : (r : Pulled) → IfVerdict r (λ v. IfFile told name (λ file. SaysIn known elf (take size file) v)) → IfVerdict r (λ v. IfFile told name (λ file. SaysIn (named (take size file)) elf (take size file) v))
      by (pulled.Verdict v) h = in-files v told is h
      by pulled.Fault h = tt
