-- A list of words is one command at most.
use Rattle.std.proofs.Common.{◌≡◌, ℕ, List, map, sym, subst, ◌∙◌, arith}
use Rattle.std.specs.Fmt.{decimal}
use Rattle.mc_text.specs.Number.{hex}
use Rattle.mc_text.proofs.OneSpelling.{decimal-once, hex-once}
use Rattle.mcdec_answers.specs.Command.{Command, Eval, Run, Check, Decompile, SelfTest, Simplify, Laws, Smt, Migrate, Arg, Words, arg_word}
use Rattle.mcdec_answers.specs.declared.command.Form.{Form}
use Rattle.mcdec_answers.proofs.ArgWords.{args-unique}
use Rattle.mcdec_answers.proofs.CommandNames.{is-check, is-decompile, is-eval, is-laws, is-migrate, is-run, is-simplify, is-smt, is-test, same-name, same-operands}

-- ---- two commands of one name

evals-once : (ws : List (List ℕ)) (p n q m : List ℕ) (t u : ℕ) (xs ys : List Arg) → Words ws (Eval p n t xs) → Words ws (Eval q m u ys) → Eval p n t xs ≡ Eval q m u ys
evals-once ws p n q m t u xs ys a b =
    let e = same-operands ws (Eval p n t xs) (Eval q m u ys) a b in
    let f : p ≡ q = cc in
    let s : n ≡ m = cc in
    let d : decimal t ≡ decimal u = cc in
    let w : map arg_word xs ≡ map arg_word ys = cc in
    let k = decimal-once t u a.0.2 b.0.2 d in
    let g : xs ≡ ys = args-unique xs ys a.0.3 b.0.3 w in
    λ i. Eval (f i) (s i) (k i) (g i)

runs-once : (ws : List (List ℕ)) (p n q m : List ℕ) (t k u j : ℕ) (xs ys : List Arg) → Words ws (Run p n t k xs) → Words ws (Run q m u j ys) → Run p n t k xs ≡ Run q m u j ys
runs-once ws p n q m t k u j xs ys a b =
    let e = same-operands ws (Run p n t k xs) (Run q m u j ys) a b in
    let f : p ≡ q = cc in
    let s : n ≡ m = cc in
    let x : hex t ≡ hex u = cc in
    let d : decimal k ≡ decimal j = cc in
    let w : map arg_word xs ≡ map arg_word ys = cc in
    let y = hex-once t u a.0.2 b.0.2 x in
    let z = decimal-once k j a.0.3 b.0.3 d in
    let g : xs ≡ ys = args-unique xs ys a.0.4 b.0.4 w in
    λ i. Run (f i) (s i) (y i) (z i) (g i)

checks-once : (ws : List (List ℕ)) (e p f q : List ℕ) → Words ws (Check e p) → Words ws (Check f q) → Check e p ≡ Check f q
checks-once ws e p f q a b =
    let same = same-operands ws (Check e p) (Check f q) a b in
    let x : e ≡ f = cc in
    let y : p ≡ q = cc in
    λ i. Check (x i) (y i)

decompiles-once : (ws : List (List ℕ)) (form : Form) (e o f q : List ℕ) (ns ms : List (List ℕ))
    → Words ws (Decompile form e o ns) → Words ws (Decompile form f q ms) → Decompile form e o ns ≡ Decompile form f q ms
decompiles-once ws form e o f q ns ms a b =
    let same = same-operands ws (Decompile form e o ns) (Decompile form f q ms) a b in
    let x : e ≡ f = cc in
    let y : o ≡ q = cc in
    let z : ns ≡ ms = cc in
    λ i. Decompile form (x i) (y i) (z i)

tests-once : (ws : List (List ℕ)) (n k m j : ℕ) → Words ws (SelfTest n k) → Words ws (SelfTest m j) → SelfTest n k ≡ SelfTest m j
tests-once ws n k m j a b =
    let same = same-operands ws (SelfTest n k) (SelfTest m j) a b in
    let x : decimal n ≡ decimal m = cc in
    let y : decimal k ≡ decimal j = cc in
    let f = decimal-once n m a.0.0 b.0.0 x in
    let g = decimal-once k j (omega (arith, a.0.2)) (omega (arith, b.0.2)) y in
    λ i. SelfTest (f i) (g i)

simplifies-once : (ws : List (List ℕ)) (p n o q m r : List ℕ) → Words ws (Simplify p n o) → Words ws (Simplify q m r) → Simplify p n o ≡ Simplify q m r
simplifies-once ws p n o q m r a b =
    let same = same-operands ws (Simplify p n o) (Simplify q m r) a b in
    let x : p ≡ q = cc in
    let y : n ≡ m = cc in
    let z : o ≡ r = cc in
    λ i. Simplify (x i) (y i) (z i)

laws-once : (ws : List (List ℕ)) (p c q d : List ℕ) → Words ws (Laws p c) → Words ws (Laws q d) → Laws p c ≡ Laws q d
laws-once ws p c q d a b =
    let same = same-operands ws (Laws p c) (Laws q d) a b in
    let x : p ≡ q = cc in
    let y : c ≡ d = cc in
    λ i. Laws (x i) (y i)

smts-once : (ws : List (List ℕ)) (p n q m : List ℕ) (d e : ℕ) (o r : List ℕ) → Words ws (Smt p n d o) → Words ws (Smt q m e r) → Smt p n d o ≡ Smt q m e r
smts-once ws p n q m d e o r a b =
    let same = same-operands ws (Smt p n d o) (Smt q m e r) a b in
    let x : p ≡ q = cc in
    let y : n ≡ m = cc in
    let z : decimal d ≡ decimal e = cc in
    let w : o ≡ r = cc in
    let k = decimal-once d e a.0.2 b.0.2 z in
    λ i. Smt (x i) (y i) (k i) (w i)

migrates-once : (ws : List (List ℕ)) (e p o f q r : List ℕ) → Words ws (Migrate e p o) → Words ws (Migrate f q r) → Migrate e p o ≡ Migrate f q r
migrates-once ws e p o f q r a b =
    let same = same-operands ws (Migrate e p o) (Migrate f q r) a b in
    let x : e ≡ f = cc in
    let y : p ≡ q = cc in
    let z : o ≡ r = cc in
    λ i. Migrate (x i) (y i) (z i)

-- ---- any two

pub words-unique : (ws : List (List ℕ)) (c d : Command) → Words ws c → Words ws d → c ≡ d
words-unique ws (Eval p n t xs) d a b =
    let v = is-eval d (same-name ws (Eval p n t xs) d a b) in
    evals-once ws p n v.0 v.1 t v.2 xs v.3 a (subst (Words ws) v.4 b) ∙ sym v.4
words-unique ws (Run p n t k xs) d a b =
    let v = is-run d (same-name ws (Run p n t k xs) d a b) in
    runs-once ws p n v.0 v.1 t k v.2 v.3 xs v.4 a (subst (Words ws) v.5 b) ∙ sym v.5
words-unique ws (Check e p) d a b =
    let v = is-check d (same-name ws (Check e p) d a b) in
    checks-once ws e p v.0 v.1 a (subst (Words ws) v.2 b) ∙ sym v.2
words-unique ws (Decompile form e o ns) d a b =
    let v = is-decompile form d (same-name ws (Decompile form e o ns) d a b) in
    decompiles-once ws form e o v.0 v.1 ns v.2 a (subst (Words ws) v.3 b) ∙ sym v.3
words-unique ws (SelfTest n k) d a b =
    let v = is-test d (same-name ws (SelfTest n k) d a b) in
    tests-once ws n k v.0 v.1 a (subst (Words ws) v.2 b) ∙ sym v.2
words-unique ws (Simplify p n o) d a b =
    let v = is-simplify d (same-name ws (Simplify p n o) d a b) in
    simplifies-once ws p n o v.0 v.1 v.2 a (subst (Words ws) v.3 b) ∙ sym v.3
words-unique ws (Laws p c) d a b =
    let v = is-laws d (same-name ws (Laws p c) d a b) in
    laws-once ws p c v.0 v.1 a (subst (Words ws) v.2 b) ∙ sym v.2
words-unique ws (Smt p n k o) d a b =
    let v = is-smt d (same-name ws (Smt p n k o) d a b) in
    smts-once ws p n v.0 v.1 k v.2 o v.3 a (subst (Words ws) v.4 b) ∙ sym v.4
words-unique ws (Migrate e p o) d a b =
    let v = is-migrate d (same-name ws (Migrate e p o) d a b) in
    migrates-once ws e p o v.0 v.1 v.2 a (subst (Words ws) v.3 b) ∙ sym v.3
