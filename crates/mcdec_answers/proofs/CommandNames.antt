-- Commands told apart by their names.
use Rattle.std.proofs.Common.{◌≡◌, ℕ, false, List, ◌∷◌, codes, refl, sym, ap, ◌∙◌, true≢false}
use Rattle.std.specs.Str.{bytes_eq}
use Rattle.std.proofs.lemmas.Slice.Eq.{bytes_eq-Decides}
use Rattle.mcdec_answers.specs.Command.{Command, Eval, Run, Check, Decompile, SelfTest, Simplify, Laws, Smt, Migrate, Arg, Words, form_word, words_of}
use Rattle.mcdec_answers.specs.declared.command.Form.{Form}
use Rattle.mcdec_answers.specs.declared.command.Form.TheVariants.{Alone, Linked, Split}
use Rattle.mcdec_answers.specs.CommandReading.{operands_of}

pub other-name : (a b : List ℕ) → bytes_eq a b ≡ false → a ≡ b → ⊥
other-name a b other e = true≢false (sym ((bytes_eq-Decides a b).1 e) ∙ other)

-- the first word of a command
abbrev pub name_of : Command → List ℕ
name_of (Eval proof name turns args) = codes "eval"
name_of (Run elf start until steps args) = codes "run"
name_of (Check elf proof) = codes "check"
name_of (Decompile form elf out names) = form_word form
name_of (SelfTest number size) = codes "selftest"
name_of (Simplify proof name out) = codes "simplify"
name_of (Laws proof cert) = codes "laws"
name_of (Smt proof name def out) = codes "smt"
name_of (Migrate elf proof out) = codes "migrate"

name-first : (c : Command) → words_of c ≡ name_of c ∷ operands_of c
name-first (Eval proof name turns args) = refl
name-first (Run elf start until steps args) = refl
name-first (Check elf proof) = refl
name-first (Decompile form elf out names) = refl
name-first (SelfTest number size) = refl
name-first (Simplify proof name out) = refl
name-first (Laws proof cert) = refl
name-first (Smt proof name def out) = refl
name-first (Migrate elf proof out) = refl

-- words of which the first is told are those of a command of that name
pub named-words : (ws rest : List (List ℕ)) (name : List ℕ) (c : Command) → ws ≡ name ∷ rest → Words ws c → (name_of c ≡ name) × (rest ≡ operands_of c)
named-words ws rest name c e w = let whole = sym (name-first c) ∙ sym w.1 ∙ e in (cc, cc)

-- two commands with the same words have one name
pub same-name : (ws : List (List ℕ)) (c d : Command) → Words ws c → Words ws d → name_of d ≡ name_of c
same-name ws c d a b = (named-words ws (operands_of c) (name_of c) d (a.1 ∙ name-first c) b).0

pub same-operands : (ws : List (List ℕ)) (c d : Command) → Words ws c → Words ws d → operands_of c ≡ operands_of d
same-operands ws c d a b = (named-words ws (operands_of c) (name_of c) d (a.1 ∙ name-first c) b).1

-- ---- the forms of decompiling

-- a name that decompiles functions is of one form
forms-once : (f g : Form) → form_word f ≡ form_word g → f ≡ g
forms-once Alone Alone e = refl
forms-once Alone Linked e = absurd (other-name (codes "decompile") (codes "link") refl e)
forms-once Alone Split e = absurd (other-name (codes "decompile") (codes "split") refl e)
forms-once Linked Alone e = absurd (other-name (codes "link") (codes "decompile") refl e)
forms-once Linked Linked e = refl
forms-once Linked Split e = absurd (other-name (codes "link") (codes "split") refl e)
forms-once Split Alone e = absurd (other-name (codes "split") (codes "decompile") refl e)
forms-once Split Linked e = absurd (other-name (codes "split") (codes "link") refl e)
forms-once Split Split e = refl

-- .. and no other command's
pub not-a-form : (name : List ℕ) → bytes_eq name (codes "decompile") ≡ false → bytes_eq name (codes "link") ≡ false → bytes_eq name (codes "split") ≡ false → (f : Form) → name ≡ form_word f → ⊥
not-a-form name a b c Alone e = other-name name (codes "decompile") a e
not-a-form name a b c Linked e = other-name name (codes "link") b e
not-a-form name a b c Split e = other-name name (codes "split") c e

-- ---- the command of a name

pub is-eval : (c : Command) → name_of c ≡ codes "eval" → (proof name : List ℕ) × (turns : ℕ) × (args : List Arg) × (c ≡ Eval proof name turns args)
is-eval (Eval proof name turns args) e = (proof, name, turns, args, refl)
is-eval (Run elf start until steps args) e = absurd (other-name (codes "run") (codes "eval") refl e)
is-eval (Check elf proof) e = absurd (other-name (codes "check") (codes "eval") refl e)
is-eval (Decompile form elf out names) e = absurd (not-a-form (codes "eval") refl refl refl form (sym e))
is-eval (SelfTest number size) e = absurd (other-name (codes "selftest") (codes "eval") refl e)
is-eval (Simplify proof name out) e = absurd (other-name (codes "simplify") (codes "eval") refl e)
is-eval (Laws proof cert) e = absurd (other-name (codes "laws") (codes "eval") refl e)
is-eval (Smt proof name def out) e = absurd (other-name (codes "smt") (codes "eval") refl e)
is-eval (Migrate elf proof out) e = absurd (other-name (codes "migrate") (codes "eval") refl e)

pub is-run : (c : Command) → name_of c ≡ codes "run" → (elf start : List ℕ) × (until steps : ℕ) × (args : List Arg) × (c ≡ Run elf start until steps args)
is-run (Eval proof name turns args) e = absurd (other-name (codes "eval") (codes "run") refl e)
is-run (Run elf start until steps args) e = (elf, start, until, steps, args, refl)
is-run (Check elf proof) e = absurd (other-name (codes "check") (codes "run") refl e)
is-run (Decompile form elf out names) e = absurd (not-a-form (codes "run") refl refl refl form (sym e))
is-run (SelfTest number size) e = absurd (other-name (codes "selftest") (codes "run") refl e)
is-run (Simplify proof name out) e = absurd (other-name (codes "simplify") (codes "run") refl e)
is-run (Laws proof cert) e = absurd (other-name (codes "laws") (codes "run") refl e)
is-run (Smt proof name def out) e = absurd (other-name (codes "smt") (codes "run") refl e)
is-run (Migrate elf proof out) e = absurd (other-name (codes "migrate") (codes "run") refl e)

pub is-check : (c : Command) → name_of c ≡ codes "check" → (elf proof : List ℕ) × (c ≡ Check elf proof)
is-check (Eval proof name turns args) e = absurd (other-name (codes "eval") (codes "check") refl e)
is-check (Run elf start until steps args) e = absurd (other-name (codes "run") (codes "check") refl e)
is-check (Check elf proof) e = (elf, proof, refl)
is-check (Decompile form elf out names) e = absurd (not-a-form (codes "check") refl refl refl form (sym e))
is-check (SelfTest number size) e = absurd (other-name (codes "selftest") (codes "check") refl e)
is-check (Simplify proof name out) e = absurd (other-name (codes "simplify") (codes "check") refl e)
is-check (Laws proof cert) e = absurd (other-name (codes "laws") (codes "check") refl e)
is-check (Smt proof name def out) e = absurd (other-name (codes "smt") (codes "check") refl e)
is-check (Migrate elf proof out) e = absurd (other-name (codes "migrate") (codes "check") refl e)

pub is-decompile : (form : Form) (c : Command) → name_of c ≡ form_word form → (elf out : List ℕ) × (names : List (List ℕ)) × (c ≡ Decompile form elf out names)
is-decompile form (Eval proof name turns args) e = absurd (not-a-form (codes "eval") refl refl refl form e)
is-decompile form (Run elf start until steps args) e = absurd (not-a-form (codes "run") refl refl refl form e)
is-decompile form (Check elf proof) e = absurd (not-a-form (codes "check") refl refl refl form e)
is-decompile form (Decompile f elf out names) e = (elf, out, names, ap (λ f. Decompile f elf out names) (forms-once f form e))
is-decompile form (SelfTest number size) e = absurd (not-a-form (codes "selftest") refl refl refl form e)
is-decompile form (Simplify proof name out) e = absurd (not-a-form (codes "simplify") refl refl refl form e)
is-decompile form (Laws proof cert) e = absurd (not-a-form (codes "laws") refl refl refl form e)
is-decompile form (Smt proof name def out) e = absurd (not-a-form (codes "smt") refl refl refl form e)
is-decompile form (Migrate elf proof out) e = absurd (not-a-form (codes "migrate") refl refl refl form e)

pub is-test : (c : Command) → name_of c ≡ codes "selftest" → (number size : ℕ) × (c ≡ SelfTest number size)
is-test (Eval proof name turns args) e = absurd (other-name (codes "eval") (codes "selftest") refl e)
is-test (Run elf start until steps args) e = absurd (other-name (codes "run") (codes "selftest") refl e)
is-test (Check elf proof) e = absurd (other-name (codes "check") (codes "selftest") refl e)
is-test (Decompile form elf out names) e = absurd (not-a-form (codes "selftest") refl refl refl form (sym e))
is-test (SelfTest number size) e = (number, size, refl)
is-test (Simplify proof name out) e = absurd (other-name (codes "simplify") (codes "selftest") refl e)
is-test (Laws proof cert) e = absurd (other-name (codes "laws") (codes "selftest") refl e)
is-test (Smt proof name def out) e = absurd (other-name (codes "smt") (codes "selftest") refl e)
is-test (Migrate elf proof out) e = absurd (other-name (codes "migrate") (codes "selftest") refl e)

pub is-simplify : (c : Command) → name_of c ≡ codes "simplify" → (proof name out : List ℕ) × (c ≡ Simplify proof name out)
is-simplify (Eval proof name turns args) e = absurd (other-name (codes "eval") (codes "simplify") refl e)
is-simplify (Run elf start until steps args) e = absurd (other-name (codes "run") (codes "simplify") refl e)
is-simplify (Check elf proof) e = absurd (other-name (codes "check") (codes "simplify") refl e)
is-simplify (Decompile form elf out names) e = absurd (not-a-form (codes "simplify") refl refl refl form (sym e))
is-simplify (SelfTest number size) e = absurd (other-name (codes "selftest") (codes "simplify") refl e)
is-simplify (Simplify proof name out) e = (proof, name, out, refl)
is-simplify (Laws proof cert) e = absurd (other-name (codes "laws") (codes "simplify") refl e)
is-simplify (Smt proof name def out) e = absurd (other-name (codes "smt") (codes "simplify") refl e)
is-simplify (Migrate elf proof out) e = absurd (other-name (codes "migrate") (codes "simplify") refl e)

pub is-laws : (c : Command) → name_of c ≡ codes "laws" → (proof cert : List ℕ) × (c ≡ Laws proof cert)
is-laws (Eval proof name turns args) e = absurd (other-name (codes "eval") (codes "laws") refl e)
is-laws (Run elf start until steps args) e = absurd (other-name (codes "run") (codes "laws") refl e)
is-laws (Check elf proof) e = absurd (other-name (codes "check") (codes "laws") refl e)
is-laws (Decompile form elf out names) e = absurd (not-a-form (codes "laws") refl refl refl form (sym e))
is-laws (SelfTest number size) e = absurd (other-name (codes "selftest") (codes "laws") refl e)
is-laws (Simplify proof name out) e = absurd (other-name (codes "simplify") (codes "laws") refl e)
is-laws (Laws proof cert) e = (proof, cert, refl)
is-laws (Smt proof name def out) e = absurd (other-name (codes "smt") (codes "laws") refl e)
is-laws (Migrate elf proof out) e = absurd (other-name (codes "migrate") (codes "laws") refl e)

pub is-smt : (c : Command) → name_of c ≡ codes "smt" → (proof name : List ℕ) × (def : ℕ) × (out : List ℕ) × (c ≡ Smt proof name def out)
is-smt (Eval proof name turns args) e = absurd (other-name (codes "eval") (codes "smt") refl e)
is-smt (Run elf start until steps args) e = absurd (other-name (codes "run") (codes "smt") refl e)
is-smt (Check elf proof) e = absurd (other-name (codes "check") (codes "smt") refl e)
is-smt (Decompile form elf out names) e = absurd (not-a-form (codes "smt") refl refl refl form (sym e))
is-smt (SelfTest number size) e = absurd (other-name (codes "selftest") (codes "smt") refl e)
is-smt (Simplify proof name out) e = absurd (other-name (codes "simplify") (codes "smt") refl e)
is-smt (Laws proof cert) e = absurd (other-name (codes "laws") (codes "smt") refl e)
is-smt (Smt proof name def out) e = (proof, name, def, out, refl)
is-smt (Migrate elf proof out) e = absurd (other-name (codes "migrate") (codes "smt") refl e)

pub is-migrate : (c : Command) → name_of c ≡ codes "migrate" → (elf proof out : List ℕ) × (c ≡ Migrate elf proof out)
is-migrate (Eval proof name turns args) e = absurd (other-name (codes "eval") (codes "migrate") refl e)
is-migrate (Run elf start until steps args) e = absurd (other-name (codes "run") (codes "migrate") refl e)
is-migrate (Check elf proof) e = absurd (other-name (codes "check") (codes "migrate") refl e)
is-migrate (Decompile form elf out names) e = absurd (not-a-form (codes "migrate") refl refl refl form (sym e))
is-migrate (SelfTest number size) e = absurd (other-name (codes "selftest") (codes "migrate") refl e)
is-migrate (Simplify proof name out) e = absurd (other-name (codes "simplify") (codes "migrate") refl e)
is-migrate (Laws proof cert) e = absurd (other-name (codes "laws") (codes "migrate") refl e)
is-migrate (Smt proof name def out) e = absurd (other-name (codes "smt") (codes "migrate") refl e)
is-migrate (Migrate elf proof out) e = (elf, proof, out, refl)
