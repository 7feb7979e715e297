-- The words of a command, from the first to the last.
use Rattle.std.proofs.Common.{true, ◌<◌, ◌^◌, ◌≡◌, ◌≢◌, ℕ, ◌-◌, ◌≤◌, List, [], ◌∷◌, length, take, drop, map, get_or, codes, Option, Some, None, string_bytes, string_len, suc, eqb, false, refl, sym, ap, subst, ◌∙◌, arith}
use Rattle.std.specs.Fmt.{decimal}
use Rattle.std.specs.Str.{bytes_eq}
use Rattle.std.specs.declared.string.String.{String}
use Rattle.std.specs.declared.alloc.Global.{Global}
use Rattle.std.proofs.lemmas.Bool.{eqb-false, eqb-true}
use Rattle.std.proofs.lemmas.List.{take_rest}
use Rattle.std.proofs.lemmas.Slice.Eq.{bytes_eq-Decides}
use Rattle.mcdec_answers.specs.declared.command.Eval.{Eval as ReadEval}
use Rattle.mcdec_answers.specs.declared.command.Run.{Run as ReadRun}
use Rattle.mcdec_answers.specs.declared.command.Check.{Check as ReadCheck}
use Rattle.mcdec_answers.specs.declared.command.Decompile.{Decompile as ReadDecompile}
use Rattle.mcdec_answers.specs.declared.command.SelfTest.{SelfTest as ReadSelfTest}
use Rattle.mcdec_answers.specs.declared.command.Simplify.{Simplify as ReadSimplify}
use Rattle.mcdec_answers.specs.declared.command.Laws.{Laws as ReadLaws}
use Rattle.mcdec_answers.specs.declared.command.Smt.{Smt as ReadSmt}
use Rattle.mcdec_answers.specs.declared.command.Migrate.{Migrate as ReadMigrate}
use Rattle.mc_text.specs.Number.{hex, number_of}
use Rattle.mcdec_answers.specs.Command.{AreNames, Command, Eval, Run, Check, Decompile, SelfTest, Simplify, Laws, Smt, Migrate, Arg, IsCommand, IsNoCommand, Words, arg_word, form_word, ranges, texts}
use Rattle.mcdec_answers.specs.declared.command.Form.{Form}
use Rattle.mcdec_answers.specs.declared.command.Memory.TheVariants.{Second}
use Rattle.group_text.specs.Limits.{IsName}
use Rattle.mcdec_answers.specs.CommandReading.{HoldsArgs, NoArgs, AllArgs, Unless, NoEval, IsEval, NoRun, IsRun, NoCheck, IsCheck, NoDecompile, IsDecompile, NoSelfTest, IsSelfTest, NoSimplify, IsSimplify, IsLaws, NoSmt, IsSmt, NoMigrate, IsMigrate, operands_of}
use Rattle.mcdec_answers.specs.declared.command.Unread.{Unread}
use Rattle.rv_words.specs.declared.range.Range.{Range}
use Rattle.mcdec_answers.proofs.ArgWords.{args-unique, unless-also}
use Rattle.mcdec_answers.proofs.CommandNames.{is-check, is-decompile, is-eval, is-migrate, is-run, is-simplify, is-smt, is-test, name_of, named-words}
use Rattle.mc_text.proofs.Numbers.{number_of-takes, number_of-again}
use Rattle.mc_text.proofs.OneSpelling.{decimal-once}

abbrev Word : Type 0
Word = String Global

-- the words behind the first n
abbrev behind_first : ℕ → List Word → List (List ℕ)
behind_first n words = texts (take (length words - n) (drop n words))

-- the first words, and the others
first-word : (words : List Word) (a : Word) → 1 ≤ length words → a ≡ get_or words 0 a → texts words ≡ string_bytes a ∷ behind_first 1 words
first-word [] a low here = absurd (omega arith)
first-word (w ∷ ws) a low here = λ i. string_bytes (sym here i) ∷ texts (sym (take_rest (w ∷ ws) 1) i)

first-words : (words : List Word) (a b c : Word) → 3 ≤ length words → a ≡ get_or words 0 a → b ≡ get_or words 1 b → c ≡ get_or words 2 c → texts words ≡ string_bytes a ∷ string_bytes b ∷ string_bytes c ∷ behind_first 3 words
first-words [] a b c low ha hb hc = absurd (omega arith)
first-words (w ∷ []) a b c low ha hb hc = absurd (omega arith)
first-words (w ∷ v ∷ []) a b c low ha hb hc = absurd (omega arith)
first-words (w ∷ v ∷ u ∷ ws) a b c low ha hb hc =
    λ i. string_bytes (sym ha i) ∷ string_bytes (sym hb i) ∷ string_bytes (sym hc i) ∷ texts (sym (take_rest (w ∷ v ∷ u ∷ ws) 3) i)

four-words : (words : List Word) (a b c d : Word) → 4 ≤ length words → a ≡ get_or words 0 a → b ≡ get_or words 1 b → c ≡ get_or words 2 c → d ≡ get_or words 3 d
    → texts words ≡ string_bytes a ∷ string_bytes b ∷ string_bytes c ∷ string_bytes d ∷ behind_first 4 words
four-words [] a b c d low ha hb hc hd = absurd (omega arith)
four-words (w ∷ []) a b c d low ha hb hc hd = absurd (omega arith)
four-words (w ∷ v ∷ []) a b c d low ha hb hc hd = absurd (omega arith)
four-words (w ∷ v ∷ u ∷ []) a b c d low ha hb hc hd = absurd (omega arith)
four-words (w ∷ v ∷ u ∷ t ∷ ws) a b c d low ha hb hc hd =
    λ i. string_bytes (sym ha i) ∷ string_bytes (sym hb i) ∷ string_bytes (sym hc i) ∷ string_bytes (sym hd i) ∷ texts (sym (take_rest (w ∷ v ∷ u ∷ t ∷ ws) 4) i)

-- a word that is not empty has bytes
pub filled : (a : Word) → eqb (string_len a) 0 ≡ false → string_bytes a ≢ []
filled a some none = eqb-false (string_len a) 0 some (a.bytes.ok.0 ∙ ap length none)

-- one that is empty has none
pub emptied : (a : Word) → eqb (string_len a) 0 ≡ true → string_bytes a ≡ []
emptied a none = no-bytes (string_bytes a) (sym a.bytes.ok.0 ∙ eqb-true (string_len a) 0 none)
  where
    no-bytes : (bs : List ℕ) → length bs ≡ 0 → bs ≡ []
    no-bytes [] e = refl
    no-bytes (b ∷ bs) e = absurd (omega (arith, e))

-- ---- the words behind `eval`

module _ (words : List Word) (proof name turns : Word) (low : 3 ≤ length words) (first : proof ≡ get_or words 0 proof) (second : name ≡ get_or words 1 name) (third : turns ≡ get_or words 2 turns) where
  split : texts words ≡ string_bytes proof ∷ string_bytes name ∷ string_bytes turns ∷ behind_first 3 words
  split = first-words words proof name turns low first second third

  pub no-turns : None ≡ number_of 10 (string_bytes turns) → NoEval (texts words)
  no-turns none p n t args is e =
      let whole = sym split ∙ e in
      let same : string_bytes turns ≡ decimal t = cc in
      none_some t (none ∙ ap (number_of 10) same ∙ number_of-again 10 t (omega arith) (omega arith) is.2)
    where
      none_some : (t : ℕ) → None ≡ Some t → ⊥
      none_some t e = cc

  no-more : NoArgs (behind_first 3 words) → NoEval (texts words)
  no-more none p n t args is e =
      let whole = sym split ∙ e in
      let same : behind_first 3 words ≡ map arg_word args = cc in
      none args is.3 same

  pub eval-without : (why : Unread) → Unless (NoArgs (behind_first 3 words)) why → Unless (NoEval (texts words)) why
  eval-without why none = unless-also no-more why none

  pub eval-read : (p n : List ℕ) (t : ℕ) (values : List (Option ℕ)) (memory stack : List Range) → p ≡ string_bytes proof → n ≡ string_bytes name → string_bytes proof ≢ [] → IsName (string_bytes name) → Some t ≡ number_of 10 (string_bytes turns)
      → AllArgs (behind_first 3 words) values memory stack → (args : List Arg) × IsCommand (Eval p n t args) × (texts words ≡ operands_of (Eval p n t args)) × HoldsArgs args values memory stack
  eval-read p n t values memory stack ep en some is number all =
      let d = number_of-takes 10 (string_bytes turns) t (sym number) in
      let same : texts words ≡ operands_of (Eval p n t all.0) = split ∙ (λ i. sym ep i ∷ sym en i ∷ d.0 i ∷ all.2 i) in
      (all.0, (λ e. some (sym ep ∙ e), subst IsName (sym en) is, d.1, all.1), same, all.3)

-- ---- the words behind `run`

module _ (words : List Word) (elf start until steps : Word) (low : 4 ≤ length words)
    (first : elf ≡ get_or words 0 elf) (second : start ≡ get_or words 1 start) (third : until ≡ get_or words 2 until) (fourth : steps ≡ get_or words 3 steps) where
  split-run : texts words ≡ string_bytes elf ∷ string_bytes start ∷ string_bytes until ∷ string_bytes steps ∷ behind_first 4 words
  split-run = four-words words elf start until steps low first second third fourth

  pub no-until : ((n : ℕ) → n < 2 ^ 64 → string_bytes until ≢ hex n) → NoRun (texts words)
  no-until none e s u k args is same =
      let whole = sym split-run ∙ same in
      let spelled : string_bytes until ≡ hex u = cc in
      none u is.2 spelled

  pub no-steps : None ≡ number_of 10 (string_bytes steps) → NoRun (texts words)
  no-steps none e s u k args is same =
      let whole = sym split-run ∙ same in
      let spelled : string_bytes steps ≡ decimal k = cc in
      none_some k (none ∙ ap (number_of 10) spelled ∙ number_of-again 10 k (omega arith) (omega arith) is.3)
    where
      none_some : (k : ℕ) → None ≡ Some k → ⊥
      none_some k e = cc

  no-args : NoArgs (behind_first 4 words) → NoRun (texts words)
  no-args none e s u k args is same =
      let whole = sym split-run ∙ same in
      let others : behind_first 4 words ≡ map arg_word args = cc in
      none args is.4 others

  pub no-arguments : (why : Unread) → Unless (NoArgs (behind_first 4 words)) why → Unless (NoRun (texts words)) why
  no-arguments why none = unless-also no-args why none

  -- bytes of a second memory
  pub no-second : (values : List (Option ℕ)) (memory stack : List Range) → AllArgs (behind_first 4 words) values memory stack → (stack ≡ [] → ⊥) → NoRun (texts words)
  no-second values memory stack all some e s u k args is same =
      let whole = sym split-run ∙ same in
      let others : behind_first 4 words ≡ map arg_word args = cc in
      let equal : all.0 ≡ args = args-unique all.0 args all.1 is.4 (sym all.2 ∙ others) in
      some (all.3.2 ∙ ap (ranges Second) equal ∙ is.5)

  pub run-read : (e s : List ℕ) (u k : ℕ) (values : List (Option ℕ)) (memory stack : List Range) → e ≡ string_bytes elf → s ≡ string_bytes start → string_bytes elf ≢ [] → IsName (string_bytes start)
      → (u < 2 ^ 64) × (string_bytes until ≡ hex u) → Some k ≡ number_of 10 (string_bytes steps) → AllArgs (behind_first 4 words) values memory stack → stack ≡ []
      → (args : List Arg) × IsCommand (Run e s u k args) × (texts words ≡ operands_of (Run e s u k args)) × HoldsArgs args values memory []
  run-read e s u k values memory stack ee es some is address number all none =
      let d = number_of-takes 10 (string_bytes steps) k (sym number) in
      let same : texts words ≡ operands_of (Run e s u k all.0) = split-run ∙ (λ i. sym ee i ∷ sym es i ∷ address.1 i ∷ d.0 i ∷ all.2 i) in
      (all.0, ((λ n. some (sym ee ∙ n)), subst IsName (sym es) is, address.0, d.1, all.1, sym all.3.2 ∙ none), same, (all.3.0, all.3.1, sym none ∙ all.3.2))

-- ---- the words behind `check`

two-words : (words : List Word) (a b : Word) → length words ≡ 2 → a ≡ get_or words 0 a → b ≡ get_or words 1 b → texts words ≡ string_bytes a ∷ string_bytes b ∷ []
two-words [] a b two ha hb = absurd (omega (arith, two))
two-words (w ∷ []) a b two ha hb = absurd (omega (arith, two))
two-words (w ∷ v ∷ []) a b two ha hb = λ i. string_bytes (sym ha i) ∷ string_bytes (sym hb i) ∷ []
two-words (w ∷ v ∷ u ∷ ws) a b two ha hb = absurd (omega (arith, two))

as-many : (words : List Word) → length (texts words) ≡ length words
as-many [] = refl
as-many (w ∷ ws) = ap suc (as-many ws)

-- words of another number
pub not-two : (words : List Word) → (length words ≡ 2 → ⊥) → NoCheck (texts words)
not-two words other e p is same = other (sym (as-many words) ∙ ap length same)

module _ (words : List Word) (elf proof : Word) (two : length words ≡ 2) (first : elf ≡ get_or words 0 elf) (second : proof ≡ get_or words 1 proof) where
  split-check : texts words ≡ string_bytes elf ∷ string_bytes proof ∷ []
  split-check = two-words words elf proof two first second

  pub empty-elf : string_bytes elf ≡ [] → NoCheck (texts words)
  empty-elf none e p is same =
      let whole = sym split-check ∙ same in
      let word : string_bytes elf ≡ e = cc in
      is.0 (sym word ∙ none)

  pub empty-proof : string_bytes proof ≡ [] → NoCheck (texts words)
  empty-proof none e p is same =
      let whole = sym split-check ∙ same in
      let word : string_bytes proof ≡ p = cc in
      is.1 (sym word ∙ none)

  pub check-read : (e p : List ℕ) → e ≡ string_bytes elf → p ≡ string_bytes proof → string_bytes elf ≢ [] → string_bytes proof ≢ [] → IsCommand (Check e p) × (texts words ≡ operands_of (Check e p))
  check-read e p ee ep some more = (((λ n. some (sym ee ∙ n)), (λ n. more (sym ep ∙ n))), split-check ∙ (λ i. sym ee i ∷ sym ep i ∷ []))

-- ---- the words behind `decompile`

first-two : (words : List Word) (a b : Word) → 2 ≤ length words → a ≡ get_or words 0 a → b ≡ get_or words 1 b → texts words ≡ string_bytes a ∷ string_bytes b ∷ behind_first 2 words
first-two [] a b low ha hb = absurd (omega arith)
first-two (w ∷ []) a b low ha hb = absurd (omega arith)
first-two (w ∷ v ∷ ws) a b low ha hb = λ i. string_bytes (sym ha i) ∷ string_bytes (sym hb i) ∷ texts (sym (take_rest (w ∷ v ∷ ws) 2) i)

module _ (words : List Word) (elf out : Word) (low : 2 ≤ length words) (first : elf ≡ get_or words 0 elf) (second : out ≡ get_or words 1 out) where
  split-decompile : texts words ≡ string_bytes elf ∷ string_bytes out ∷ behind_first 2 words
  split-decompile = first-two words elf out low first second

  pub no-elf : (form : Form) → string_bytes elf ≡ [] → NoDecompile form (texts words)
  no-elf form none e o ns is same =
      let whole = sym split-decompile ∙ same in
      let word : string_bytes elf ≡ e = cc in
      is.0 (sym word ∙ none)

  pub no-out : (form : Form) → string_bytes out ≡ [] → NoDecompile form (texts words)
  no-out form none e o ns is same =
      let whole = sym split-decompile ∙ same in
      let word : string_bytes out ≡ o = cc in
      is.1 (sym word ∙ none)

  pub one-file : (form : Form) → string_bytes elf ≡ string_bytes out → NoDecompile form (texts words)
  one-file form one e o ns is same =
      let whole = sym split-decompile ∙ same in
      let word : string_bytes elf ≡ e = cc in
      let other : string_bytes out ≡ o = cc in
      is.2 (sym word ∙ one ∙ other)

  pub no-names : (form : Form) → behind_first 2 words ≡ [] → NoDecompile form (texts words)
  no-names form none e o ns is same =
      let whole = sym split-decompile ∙ same in
      let names : behind_first 2 words ≡ ns = cc in
      is.3 (sym names ∙ none)

  -- whether there are further words
  pub none-further : eqb (length (take (length words - 2) (drop 2 words))) 0 ≡ true → behind_first 2 words ≡ []
  none-further e = at (take (length words - 2) (drop 2 words)) (eqb-true _ 0 e)
    where
      at : (ws : List Word) → length ws ≡ 0 → texts ws ≡ []
      at [] e = refl
      at (w ∷ ws) e = absurd (omega (arith, e))

  pub some-further : eqb (length (take (length words - 2) (drop 2 words))) 0 ≡ false → behind_first 2 words ≡ [] → ⊥
  some-further e none = at (take (length words - 2) (drop 2 words)) (eqb-false _ 0 e) none
    where
      at : (ws : List Word) → (length ws ≡ 0 → ⊥) → texts ws ≡ [] → ⊥
      at [] some e = some refl
      at (w ∷ ws) some e = cc

  other-names : (form : Form) → (AreNames (behind_first 2 words) → ⊥) → NoDecompile form (texts words)
  other-names form none e o ns is same =
      let whole = sym split-decompile ∙ same in
      let names : behind_first 2 words ≡ ns = cc in
      none (subst AreNames (sym names) is.4)

  pub bad-names : (form : Form) (why : Unread) → Unless (AreNames (behind_first 2 words) → ⊥) why → Unless (NoDecompile form (texts words)) why
  bad-names form why none = unless-also (other-names form) why none

  pub decompile-read : (form : Form) (e o : List ℕ) (ns : List (List ℕ)) → e ≡ string_bytes elf → o ≡ string_bytes out → ns ≡ behind_first 2 words → string_bytes elf ≢ [] → string_bytes out ≢ [] → (string_bytes elf ≡ string_bytes out → ⊥)
      → (behind_first 2 words ≡ [] → ⊥) → AreNames ns → IsCommand (Decompile form e o ns) × (texts words ≡ operands_of (Decompile form e o ns))
  decompile-read form e o ns ee eo en some more apart any are = (
    ((λ n. some (sym ee ∙ n)), (λ n. more (sym eo ∙ n)), (λ same. apart (sym ee ∙ same ∙ eo)), (λ n. any (sym en ∙ n)), are),
    split-decompile ∙ (λ i. sym ee i ∷ sym eo i ∷ sym en i),
  )

-- ---- the words behind `selftest`

pub not-two-numbers : (words : List Word) → (length words ≡ 2 → ⊥) → NoSelfTest (texts words)
not-two-numbers words other n k is same = other (sym (as-many words) ∙ ap length same)

module _ (words : List Word) (number size : Word) (two : length words ≡ 2) (first : number ≡ get_or words 0 number) (second : size ≡ get_or words 1 size) where
  split-test : texts words ≡ string_bytes number ∷ string_bytes size ∷ []
  split-test = two-words words number size two first second

  pub no-number : ((n : ℕ) → n < 2 ^ 64 → string_bytes number ≢ decimal n) → NoSelfTest (texts words)
  no-number none n k is same =
      let whole = sym split-test ∙ same in
      let word : string_bytes number ≡ decimal n = cc in
      none n is.0 word

  pub no-size : ((k : ℕ) → 1 ≤ k → k ≤ 600 → string_bytes size ≢ decimal k) → NoSelfTest (texts words)
  no-size none n k is same =
      let whole = sym split-test ∙ same in
      let word : string_bytes size ≡ decimal k = cc in
      none k is.1 is.2 word

  pub test-read : (n k : ℕ) → (n < 2 ^ 64) × (string_bytes number ≡ decimal n) → (1 ≤ k) × (k ≤ 600) × (string_bytes size ≡ decimal k)
      → IsCommand (SelfTest n k) × (texts words ≡ operands_of (SelfTest n k))
  test-read n k x y = ((x.0, y.0, y.1), split-test ∙ (λ i. x.1 i ∷ y.2 i ∷ []))

-- a number that is no size
pub other-size : (word : List ℕ) (n : ℕ) → (n < 2 ^ 64) × (word ≡ decimal n) → (1 ≤ n → n ≤ 600 → ⊥) → (k : ℕ) → 1 ≤ k → k ≤ 600 → word ≢ decimal k
other-size word n spelled none k low high e =
    let same : n ≡ k = decimal-once n k spelled.0 (omega (arith, high)) (sym spelled.1 ∙ e) in
    none (omega (arith, same, low)) (omega (arith, same, high))

-- ---- the words behind `simplify`

three-words : (words : List Word) (a b c : Word) → length words ≡ 3 → a ≡ get_or words 0 a → b ≡ get_or words 1 b → c ≡ get_or words 2 c → texts words ≡ string_bytes a ∷ string_bytes b ∷ string_bytes c ∷ []
three-words [] a b c three ha hb hc = absurd (omega (arith, three))
three-words (w ∷ []) a b c three ha hb hc = absurd (omega (arith, three))
three-words (w ∷ v ∷ []) a b c three ha hb hc = absurd (omega (arith, three))
three-words (w ∷ v ∷ u ∷ []) a b c three ha hb hc = λ i. string_bytes (sym ha i) ∷ string_bytes (sym hb i) ∷ string_bytes (sym hc i) ∷ []
three-words (w ∷ v ∷ u ∷ t ∷ ws) a b c three ha hb hc = absurd (omega (arith, three))

module _ (words : List Word) (proof name out : Word) (three : length words ≡ 3) (first : proof ≡ get_or words 0 proof) (second : name ≡ get_or words 1 name) (third : out ≡ get_or words 2 out) where
  split-simplify : texts words ≡ string_bytes proof ∷ string_bytes name ∷ string_bytes out ∷ []
  split-simplify = three-words words proof name out three first second third

  pub no-output : string_bytes out ≡ [] → NoSimplify (texts words)
  no-output none p n o is same =
      let whole = sym split-simplify ∙ same in
      let word : string_bytes out ≡ o = cc in
      is.2 (sym word ∙ none)

  pub same-file : string_bytes proof ≡ string_bytes out → NoSimplify (texts words)
  same-file one p n o is same =
      let whole = sym split-simplify ∙ same in
      let word : string_bytes proof ≡ p = cc in
      let other : string_bytes out ≡ o = cc in
      is.3 (sym word ∙ one ∙ other)

  pub simplify-read : (p n o : List ℕ) → p ≡ string_bytes proof → n ≡ string_bytes name → o ≡ string_bytes out → string_bytes proof ≢ [] → IsName (string_bytes name) → string_bytes out ≢ []
      → (string_bytes proof ≡ string_bytes out → ⊥) → IsCommand (Simplify p n o) × (texts words ≡ operands_of (Simplify p n o))
  simplify-read p n o ep en eo some is more apart = (
    ((λ e. some (sym ep ∙ e)), subst IsName (sym en) is, (λ e. more (sym eo ∙ e)), (λ same. apart (sym ep ∙ same ∙ eo))),
    split-simplify ∙ (λ i. sym ep i ∷ sym en i ∷ sym eo i ∷ []),
  )

-- ---- the words behind `smt`

just-four : (words : List Word) (a b c d : Word) → length words ≡ 4 → a ≡ get_or words 0 a → b ≡ get_or words 1 b → c ≡ get_or words 2 c → d ≡ get_or words 3 d
    → texts words ≡ string_bytes a ∷ string_bytes b ∷ string_bytes c ∷ string_bytes d ∷ []
just-four [] a b c d four ha hb hc hd = absurd (omega (arith, four))
just-four (w ∷ []) a b c d four ha hb hc hd = absurd (omega (arith, four))
just-four (w ∷ v ∷ []) a b c d four ha hb hc hd = absurd (omega (arith, four))
just-four (w ∷ v ∷ u ∷ []) a b c d four ha hb hc hd = absurd (omega (arith, four))
just-four (w ∷ v ∷ u ∷ t ∷ []) a b c d four ha hb hc hd = λ i. string_bytes (sym ha i) ∷ string_bytes (sym hb i) ∷ string_bytes (sym hc i) ∷ string_bytes (sym hd i) ∷ []
just-four (w ∷ v ∷ u ∷ t ∷ s ∷ ws) a b c d four ha hb hc hd = absurd (omega (arith, four))

module _ (words : List Word) (proof name def out : Word) (four : length words ≡ 4)
    (first : proof ≡ get_or words 0 proof) (second : name ≡ get_or words 1 name) (third : def ≡ get_or words 2 def) (fourth : out ≡ get_or words 3 out) where
  split-smt : texts words ≡ string_bytes proof ∷ string_bytes name ∷ string_bytes def ∷ string_bytes out ∷ []
  split-smt = just-four words proof name def out four first second third fourth

  pub smt-no-proof : string_bytes proof ≡ [] → NoSmt (texts words)
  smt-no-proof none p n d o is same =
      let whole = sym split-smt ∙ same in
      let word : string_bytes proof ≡ p = cc in
      is.0 (sym word ∙ none)

  pub smt-no-name : (IsName (string_bytes name) → ⊥) → NoSmt (texts words)
  smt-no-name none p n d o is same =
      let whole = sym split-smt ∙ same in
      let word : string_bytes name ≡ n = cc in
      none (subst IsName (sym word) is.1)

  pub smt-no-output : string_bytes out ≡ [] → NoSmt (texts words)
  smt-no-output none p n d o is same =
      let whole = sym split-smt ∙ same in
      let word : string_bytes out ≡ o = cc in
      is.3 (sym word ∙ none)

  pub smt-same-file : string_bytes proof ≡ string_bytes out → NoSmt (texts words)
  smt-same-file one p n d o is same =
      let whole = sym split-smt ∙ same in
      let word : string_bytes proof ≡ p = cc in
      let other : string_bytes out ≡ o = cc in
      is.4 (sym word ∙ one ∙ other)

  pub smt-read : (p n : List ℕ) (d : ℕ) (o : List ℕ) → p ≡ string_bytes proof → n ≡ string_bytes name → (d < 2 ^ 64) × (string_bytes def ≡ decimal d) → o ≡ string_bytes out → string_bytes proof ≢ []
      → IsName (string_bytes name) → string_bytes out ≢ [] → (string_bytes proof ≡ string_bytes out → ⊥) → IsCommand (Smt p n d o) × (texts words ≡ operands_of (Smt p n d o))
  smt-read p n d o ep en number eo some is more apart = (
    ((λ e. some (sym ep ∙ e)), subst IsName (sym en) is, number.0, (λ e. more (sym eo ∙ e)), (λ same. apart (sym ep ∙ same ∙ eo))),
    split-smt ∙ (λ i. sym ep i ∷ sym en i ∷ number.1 i ∷ sym eo i ∷ []),
  )

-- ---- the words behind `migrate`

module _ (words : List Word) (elf proof out : Word) (three : length words ≡ 3) (first : elf ≡ get_or words 0 elf) (second : proof ≡ get_or words 1 proof) (third : out ≡ get_or words 2 out) where
  split-migrate : texts words ≡ string_bytes elf ∷ string_bytes proof ∷ string_bytes out ∷ []
  split-migrate = three-words words elf proof out three first second third

  pub migrate-no-elf : string_bytes elf ≡ [] → NoMigrate (texts words)
  migrate-no-elf none e p o is same =
      let whole = sym split-migrate ∙ same in
      let word : string_bytes elf ≡ e = cc in
      is.0 (sym word ∙ none)

  pub migrate-no-proof : string_bytes proof ≡ [] → NoMigrate (texts words)
  migrate-no-proof none e p o is same =
      let whole = sym split-migrate ∙ same in
      let word : string_bytes proof ≡ p = cc in
      is.1 (sym word ∙ none)

  pub migrate-no-output : string_bytes out ≡ [] → NoMigrate (texts words)
  migrate-no-output none e p o is same =
      let whole = sym split-migrate ∙ same in
      let word : string_bytes out ≡ o = cc in
      is.2 (sym word ∙ none)

  pub migrate-over-elf : string_bytes elf ≡ string_bytes out → NoMigrate (texts words)
  migrate-over-elf one e p o is same =
      let whole = sym split-migrate ∙ same in
      let word : string_bytes elf ≡ e = cc in
      let other : string_bytes out ≡ o = cc in
      is.3 (sym word ∙ one ∙ other)

  pub migrate-over-proof : string_bytes proof ≡ string_bytes out → NoMigrate (texts words)
  migrate-over-proof one e p o is same =
      let whole = sym split-migrate ∙ same in
      let word : string_bytes proof ≡ p = cc in
      let other : string_bytes out ≡ o = cc in
      is.4 (sym word ∙ one ∙ other)

  pub migrate-read : (e p o : List ℕ) → e ≡ string_bytes elf → p ≡ string_bytes proof → o ≡ string_bytes out → string_bytes elf ≢ [] → string_bytes proof ≢ [] → string_bytes out ≢ []
      → (string_bytes elf ≡ string_bytes out → ⊥) → (string_bytes proof ≡ string_bytes out → ⊥) → IsCommand (Migrate e p o) × (texts words ≡ operands_of (Migrate e p o))
  migrate-read e p o ee ep eo some more any apart other = (
    ((λ n. some (sym ee ∙ n)), (λ n. more (sym ep ∙ n)), (λ n. any (sym eo ∙ n)), (λ same. apart (sym ee ∙ same ∙ eo)), (λ same. other (sym ep ∙ same ∙ eo))),
    split-migrate ∙ (λ i. sym ee i ∷ sym ep i ∷ sym eo i ∷ []),
  )

-- ---- all of the words

module _ (words : List Word) (first : Word) (low : 1 ≤ length words) (here : first ≡ get_or words 0 first) (text : List ℕ) (value : text ≡ string_bytes first) where
  named : (name : List ℕ) → bytes_eq text name ≡ true → texts words ≡ name ∷ behind_first 1 words
  named name is = first-word words first low here ∙ ap (λ (w : List ℕ). w ∷ behind_first 1 words) (sym value ∙ (bytes_eq-Decides text name).0 is)

  -- a command that the words are, where the first word is told
  with-name : (name : List ℕ) → bytes_eq text name ≡ true → (c : Command) → Words (texts words) c → (name_of c ≡ name) × (behind_first 1 words ≡ operands_of c)
  with-name name is c w = named-words (texts words) (behind_first 1 words) name c (named name is) w

  behind-name : (name : List ℕ) → bytes_eq text name ≡ true → (ws : List (List ℕ)) → behind_first 1 words ≡ ws → texts words ≡ name ∷ ws
  behind-name name is ws e = named name is ∙ ap (λ vs. name ∷ vs) e

  not-eval : bytes_eq text (codes "eval") ≡ true → NoEval (behind_first 1 words) → IsNoCommand (texts words)
  not-eval is none c w =
      let s = with-name (codes "eval") is c w in
      let v = is-eval c s.0 in
      none v.0 v.1 v.2 v.3 (subst IsCommand v.4 w.0) (s.1 ∙ ap operands_of v.4)

  pub no-eval : bytes_eq text (codes "eval") ≡ true → (e : Unread) → Unless (NoEval (behind_first 1 words)) e → Unless (IsNoCommand (texts words)) e
  no-eval is e none = unless-also (not-eval is) e none

  pub eval-is : bytes_eq text (codes "eval") ≡ true → (e : ReadEval) → IsEval (behind_first 1 words) e → (args : List Arg) × Words (texts words) (Eval e.proof.now e.name.now e.turns args) × HoldsArgs args e.given.values e.memory e.stack
  eval-is is e all = (all.0, (all.1, behind-name (codes "eval") is _ all.2), all.3)

  not-run : bytes_eq text (codes "run") ≡ true → NoRun (behind_first 1 words) → IsNoCommand (texts words)
  not-run is none c w =
      let s = with-name (codes "run") is c w in
      let v = is-run c s.0 in
      none v.0 v.1 v.2 v.3 v.4 (subst IsCommand v.5 w.0) (s.1 ∙ ap operands_of v.5)

  pub no-run : bytes_eq text (codes "run") ≡ true → (e : Unread) → Unless (NoRun (behind_first 1 words)) e → Unless (IsNoCommand (texts words)) e
  no-run is e none = unless-also (not-run is) e none

  pub run-is : bytes_eq text (codes "run") ≡ true → (r : ReadRun) → IsRun (behind_first 1 words) r → (args : List Arg) × Words (texts words) (Run r.elf.now r.start.now r.until r.steps args) × HoldsArgs args r.given.values r.memory []
  run-is is r all = (all.0, (all.1, behind-name (codes "run") is _ all.2), all.3)

  not-check : bytes_eq text (codes "check") ≡ true → NoCheck (behind_first 1 words) → IsNoCommand (texts words)
  not-check is none c w =
      let s = with-name (codes "check") is c w in
      let v = is-check c s.0 in
      none v.0 v.1 (subst IsCommand v.2 w.0) (s.1 ∙ ap operands_of v.2)

  pub no-check : bytes_eq text (codes "check") ≡ true → (e : Unread) → Unless (NoCheck (behind_first 1 words)) e → Unless (IsNoCommand (texts words)) e
  no-check is e none = unless-also (not-check is) e none

  pub check-is : bytes_eq text (codes "check") ≡ true → (c : ReadCheck) → IsCheck (behind_first 1 words) c → Words (texts words) (Check c.elf.now c.proof.now)
  check-is is c all = (all.0, behind-name (codes "check") is _ all.1)

  not-decompile : (form : Form) → bytes_eq text (form_word form) ≡ true → NoDecompile form (behind_first 1 words) → IsNoCommand (texts words)
  not-decompile form is none c w =
      let s = with-name (form_word form) is c w in
      let v = is-decompile form c s.0 in
      none v.0 v.1 v.2 (subst IsCommand v.3 w.0) (s.1 ∙ ap operands_of v.3)

  pub no-decompile : (form : Form) → bytes_eq text (form_word form) ≡ true → (e : Unread) → Unless (NoDecompile form (behind_first 1 words)) e → Unless (IsNoCommand (texts words)) e
  no-decompile form is e none = unless-also (not-decompile form is) e none

  pub decompile-is : (form : Form) → bytes_eq text (form_word form) ≡ true → (d : ReadDecompile) → (d.form ≡ form) × IsDecompile (behind_first 1 words) d
      → Words (texts words) (Decompile d.form d.elf.now d.out.now d.names)
  decompile-is form is d (same, all) = (all.0, behind-name (form_word d.form) (subst (λ f. bytes_eq text (form_word f) ≡ true) (sym same) is) _ all.1)

  not-test : bytes_eq text (codes "selftest") ≡ true → NoSelfTest (behind_first 1 words) → IsNoCommand (texts words)
  not-test is none c w =
      let s = with-name (codes "selftest") is c w in
      let v = is-test c s.0 in
      none v.0 v.1 (subst IsCommand v.2 w.0) (s.1 ∙ ap operands_of v.2)

  pub no-test : bytes_eq text (codes "selftest") ≡ true → (e : Unread) → Unless (NoSelfTest (behind_first 1 words)) e → Unless (IsNoCommand (texts words)) e
  no-test is e none = unless-also (not-test is) e none

  pub test-is : bytes_eq text (codes "selftest") ≡ true → (t : ReadSelfTest) → IsSelfTest (behind_first 1 words) t → Words (texts words) (SelfTest t.number t.size)
  test-is is t all = (all.0, behind-name (codes "selftest") is _ all.1)

  not-simplify : bytes_eq text (codes "simplify") ≡ true → NoSimplify (behind_first 1 words) → IsNoCommand (texts words)
  not-simplify is none c w =
      let s = with-name (codes "simplify") is c w in
      let v = is-simplify c s.0 in
      none v.0 v.1 v.2 (subst IsCommand v.3 w.0) (s.1 ∙ ap operands_of v.3)

  pub no-simplify : bytes_eq text (codes "simplify") ≡ true → (e : Unread) → Unless (NoSimplify (behind_first 1 words)) e → Unless (IsNoCommand (texts words)) e
  no-simplify is e none = unless-also (not-simplify is) e none

  pub simplify-is : bytes_eq text (codes "simplify") ≡ true → (s : ReadSimplify) → IsSimplify (behind_first 1 words) s → Words (texts words) (Simplify s.proof.now s.name.now s.out.now)
  simplify-is is s all = (all.0, behind-name (codes "simplify") is _ all.1)

  pub laws-is : bytes_eq text (codes "laws") ≡ true → (l : ReadLaws) → IsLaws (behind_first 1 words) l → Words (texts words) (Laws l.proof.now l.cert.now)
  laws-is is l all = (all.0, behind-name (codes "laws") is _ all.1)

  not-smt : bytes_eq text (codes "smt") ≡ true → NoSmt (behind_first 1 words) → IsNoCommand (texts words)
  not-smt is none c w =
      let s = with-name (codes "smt") is c w in
      let v = is-smt c s.0 in
      none v.0 v.1 v.2 v.3 (subst IsCommand v.4 w.0) (s.1 ∙ ap operands_of v.4)

  pub no-smt : bytes_eq text (codes "smt") ≡ true → (e : Unread) → Unless (NoSmt (behind_first 1 words)) e → Unless (IsNoCommand (texts words)) e
  no-smt is e none = unless-also (not-smt is) e none

  pub smt-is : bytes_eq text (codes "smt") ≡ true → (s : ReadSmt) → IsSmt (behind_first 1 words) s → Words (texts words) (Smt s.proof.now s.name.now s.def s.out.now)
  smt-is is s all = (all.0, behind-name (codes "smt") is _ all.1)

  not-migrate : bytes_eq text (codes "migrate") ≡ true → NoMigrate (behind_first 1 words) → IsNoCommand (texts words)
  not-migrate is none c w =
      let s = with-name (codes "migrate") is c w in
      let v = is-migrate c s.0 in
      none v.0 v.1 v.2 (subst IsCommand v.3 w.0) (s.1 ∙ ap operands_of v.3)

  pub no-migrate : bytes_eq text (codes "migrate") ≡ true → (e : Unread) → Unless (NoMigrate (behind_first 1 words)) e → Unless (IsNoCommand (texts words)) e
  no-migrate is e none = unless-also (not-migrate is) e none

  pub migrate-is : bytes_eq text (codes "migrate") ≡ true → (m : ReadMigrate) → IsMigrate (behind_first 1 words) m → Words (texts words) (Migrate m.elf.now m.proof.now m.out.now)
  migrate-is is m all = (all.0, behind-name (codes "migrate") is _ all.1)
