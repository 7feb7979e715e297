-- Substitutions and rules are read as they are spelled.
use Rattle.std.proofs.Common.{◌≡◌, ℕ, ◌+◌, ◌^◌, ◌<◌, Bool, true, false, cond, ltb, List, [], ◌∷◌, ◌++◌, length, codes, Option, Some, None, refl, sym, ap, subst, ◌∙◌, arith, append_assoc}
use Rattle.std.specs.Prelude.{nat_le, option_map}
use Rattle.std.specs.Fmt.{decimal}
use Rattle.std.specs.List.{AllByRecursion, flat_map}
use Rattle.std.proofs.lemmas.Bool.{and_parts, and_from, ltb-true, lt-ltb}
use Rattle.mc_text.specs.Number.{IsNumber, hex, hex_of, number_of}
use Rattle.mc_text.specs.Tokens.{Tok, Left, Right, Atom}
use Rattle.mc_text.specs.Reading.{pair, one, atom_of, below, star, goes_on, is_open, is_right, address_at}
use Rattle.mc_text.proofs.ReaderLaws.{Reads, IsFlat, flat-append, Reads-one, Reads-pair}
use Rattle.mc_text.proofs.Star.{Shrinks}
use Rattle.mc_text.proofs.Inline.{reads-list}
use Rattle.mc_text.proofs.Choices.{reads-checked}
use Rattle.mc_text.proofs.Shown.{Always, shows-atom, shows-decimal, shows-hex}
use Rattle.word_terms.specs.Tree.{WordTree, MemTree}
use Rattle.group_text.specs.TermLimits.{depth_limit, IsWord, IsMem}
use Rattle.group_text.specs.TermSpelling.{word_tokens, mem_tokens}
use Rattle.group_text.specs.TermReading.{word_at, mem_at, opened, variable_of}
use Rattle.group_text.proofs.TermFacts.{word-flat, mem-flat}
use Rattle.group_text.proofs.TermLaws.{word-law, mem-law}
use Rattle.group_text.proofs.NameTests.{mapped, either}
use Rattle.group_text.proofs.TermLeaves.{variable, variable-back}
use Rattle.triple_kernel.specs.declared.form.Form.{Form}
use Rattle.triple_kernel.specs.declared.form.Form.TheVariants.{Next, Taken}
use Rattle.proof_text.specs.declared.line_heads.RuleHead.{RuleHead}
use Rattle.proof_text.specs.declared.line_heads.RuleHead.TheVariants as rule_head
use Rattle.proof_text.specs.declared.line_heads.SubHead.{SubHead}
use Rattle.proof_text.specs.declared.line_heads.SubHead.TheVariants as sub_head
use Rattle.proof_text.specs.Line.{RuleTree, Axiom, Inst, Frame, Compose, ExtendCode, Strengthen, Weaken, Discharge, UseExit}
use Rattle.group_text.specs.Spelling.{number, address}
use Rattle.proof_text.specs.LineSpelling.{form_tokens, word_sub_tokens, mem_sub_tokens, rule_tokens}
use Rattle.group_text.specs.Limits.{index_limit}
use Rattle.proof_text.specs.LineLimits.{AreRisingFrom, IsRule}
use Rattle.proof_text.specs.inner.LineReading.{index_at, theorem_at, instruction_of, SubTree, ForWord, ForMem, sub_head_of, sub_parts, sub_at, mems_rise, subs_rise, words_of, mems_of, rule_name, rule_heads, rule_head_of, axiom_form_name, axiom_forms, axiom_form_of, facts_word, cited_at, inst_parts, rule_parts, rule_at}
use Rattle.group_text.proofs.StepLaws.{shrinks, atom-flat, name-law, address-law}
use Rattle.group_text.proofs.HeadLaws.{flat-each, hex-there, le-true, true-le}
use Rattle.proof_text.proofs.Keyed.{Image, reads-image, reads-forms, named-law, opened-law, opened-flat, right-law, right-flat}
use Rattle.proof_text.proofs.FactLaws.{index-law}

abbrev close : List Tok
close = Right ∷ []

abbrev some : {X : Type 0} → X → Option X
some x = Some x

-- ---- numbers

pub theorem-law : Reads theorem_at IsNumber number
theorem-law = Reads-one (atom_of (λ a. number_of 10 a)) IsNumber (λ n. Atom (decimal n)) shows-decimal

pub theorem-shrinks : Shrinks theorem_at
theorem-shrinks = shrinks theorem_at IsNumber number theorem-law.takes (λ n h. omega arith)

below-there : (limit : ℕ) (o : Option ℕ) (n : ℕ) → below limit o ≡ some n → (o ≡ some n) × (n < limit)
below-there limit None n e = absurd cc
below-there limit (Some m) n e = choose (ltb m limit) refl e
  where
    choose : (b : Bool) → ltb m limit ≡ b → cond b (some m) None ≡ some n → (some m ≡ some n) × (n < limit)
    choose true t e = (e, let same : m ≡ n = cc in subst (λ (k : ℕ). k < limit) same (ltb-true m limit t))
    choose false t e = absurd cc

abbrev IsInstruction : ℕ → Type 0
IsInstruction n = n < 2 ^ 32

instruction-there : (a : List ℕ) (n : ℕ) → instruction_of a ≡ Some n → (a ≡ hex n) × IsInstruction n
instruction-there a n e = let k = below-there (2 ^ 32) (hex_of a) n e in ((hex-there a n k.0).0, k.1)

instruction-back : (n : ℕ) → IsInstruction n → instruction_of (hex n) ≡ Some n
instruction-back n h = ap (below (2 ^ 32)) (shows-hex.back n (omega (arith, h))) ∙ ap (λ (b : Bool). cond b (some n) None) (lt-ltb n (2 ^ 32) h)

instruction-law : Reads (one (atom_of instruction_of)) IsInstruction address
instruction-law = Reads-one (atom_of instruction_of) IsInstruction (λ n. Atom (hex n)) (shows-atom instruction_of IsInstruction hex instruction-there instruction-back)

form-named : (f : Form) → axiom_form_of (axiom_form_name f) ≡ Some f
unfolding axiom_form_of
form-named Next = refl
form-named Taken = refl

form-law : Reads (one (atom_of axiom_form_of)) Always (λ f. Atom (axiom_form_name f) ∷ [])
unfolding axiom_form_of
form-law = named-law axiom_form_name axiom_forms form-named

-- ---- terms for variables

abbrev sub_tokens : SubTree → List Tok
sub_tokens (ForWord i t) = word_sub_tokens (i, t)
sub_tokens (ForMem i m) = mem_sub_tokens (i, m)

abbrev IsSub : SubTree → Type 0
IsSub (ForWord i t) = (i < index_limit) × IsWord t
IsSub (ForMem i m) = (i < index_limit) × IsMem m

abbrev sub_name : SubHead → List ℕ
sub_name (sub_head.Word i) = codes "v" ++ decimal i
sub_name (sub_head.Mem i) = codes "m" ++ decimal i

abbrev SubFits : SubHead → Type 0
SubFits (sub_head.Word i) = i < index_limit
SubFits (sub_head.Mem i) = i < index_limit

sub-there : (text : List ℕ) (h : SubHead) → sub_head_of text ≡ Some h → (text ≡ sub_name h) × SubFits h
unfolding sub_head_of
sub-there text h e =
    either (option_map sub_head.Word (variable_of 118 text)) (option_map sub_head.Mem (variable_of 109 text)) h ((text ≡ sub_name h) × SubFits h)
    (λ v. let m = mapped (λ i. sub_head.Word i) (variable_of 118 text) h v in subst (λ (u : SubHead). (text ≡ sub_name u) × SubFits u) m.2 (variable 118 text m.0 m.1))
    (λ v. let m = mapped (λ i. sub_head.Mem i) (variable_of 109 text) h v in subst (λ (u : SubHead). (text ≡ sub_name u) × SubFits u) m.2 (variable 109 text m.0 m.1)) e

sub-back : (h : SubHead) → SubFits h → sub_head_of (sub_name h) ≡ Some h
unfolding sub_head_of
sub-back (sub_head.Word i) h = rw (variable-back i h) refl
sub-back (sub_head.Mem i) h = rw (variable-back i h) refl

sub-head-law : Reads (opened sub_head_of) SubFits (λ h. Left ∷ Atom (sub_name h) ∷ [])
sub-head-law = opened-law sub_head_of SubFits sub_name (Reads-one (atom_of sub_head_of) SubFits (λ h. Atom (sub_name h)) (shows-atom sub_head_of SubFits sub_name sub-there sub-back))

abbrev for_word : ℕ → WordTree × Unit {0} → SubTree
for_word i x = ForWord i x.0

abbrev for_mem : ℕ → MemTree × Unit {0} → SubTree
for_mem i x = ForMem i x.0

abbrev SubOf : SubHead → SubTree → Type 0
SubOf (sub_head.Word i) = Image (for_word i) (λ x. IsWord x.0 × Always x.1)
SubOf (sub_head.Mem i) = Image (for_mem i) (λ x. IsMem x.0 × Always x.1)

abbrev sub_rest : SubTree → List Tok
sub_rest (ForWord i t) = word_tokens t ++ close
sub_rest (ForMem i m) = mem_tokens m ++ close

sub-parts-law : (h : SubHead) → Reads (sub_parts h) (SubOf h) sub_rest
sub-parts-law (sub_head.Word i) = reads-image (for_word i) _ _ _ (Reads-pair (word_at depth_limit) IsWord word_tokens word-law (λ t h. word-flat t) (one is_right) Always (λ _. close) right-law) sub_rest (λ x f. refl)
sub-parts-law (sub_head.Mem i) = reads-image (for_mem i) _ _ _ (Reads-pair (mem_at depth_limit) IsMem mem_tokens mem-law (λ m h. mem-flat m) (one is_right) Always (λ _. close) right-law) sub_rest (λ x f. refl)

sub-into : (h : SubHead) (x : SubTree) → SubFits h → SubOf h x → IsSub x
sub-into (sub_head.Word i) x k f = subst IsSub f.1 (k, f.2.0)
sub-into (sub_head.Mem i) x k f = subst IsSub f.1 (k, f.2.0)

abbrev SubNamed : SubHead → SubTree → Type 0
SubNamed h x = sub_tokens x ≡ (Left ∷ Atom (sub_name h) ∷ []) ++ sub_rest x

sub-same : (h : SubHead) (x : SubTree) → SubOf h x → SubNamed h x
sub-same (sub_head.Word i) x f = subst (SubNamed (sub_head.Word i)) f.1 refl
sub-same (sub_head.Mem i) x f = subst (SubNamed (sub_head.Mem i)) f.1 refl

sub-from : (x : SubTree) → IsSub x → (h : SubHead) × SubFits h × SubOf h x
sub-from (ForWord i t) f = (sub_head.Word i, f.0, ((t, tt), refl, (f.1, tt)))
sub-from (ForMem i m) f = (sub_head.Mem i, f.0, ((m, tt), refl, (f.1, tt)))

sub-law : Reads sub_at IsSub sub_tokens
unfolding sub_at
sub-law = reads-forms (opened sub_head_of) SubFits (λ h. Left ∷ Atom (sub_name h) ∷ []) sub-head-law (λ h f. opened-flat (sub_name h)) sub_parts SubOf sub_rest sub-parts-law IsSub sub_tokens sub-into sub-same sub-from

some-sub : (x : SubTree) → 0 < length (sub_tokens x)
some-sub (ForWord i t) = omega arith
some-sub (ForMem i m) = omega arith

pub sub-shrinks : Shrinks sub_at
sub-shrinks = shrinks sub_at IsSub sub_tokens sub-law.takes (λ x h. some-sub x)

sub-begins : (x : SubTree) (us : List Tok) → goes_on is_open (sub_tokens x ++ us) ≡ true
sub-begins (ForWord i t) us = refl
sub-begins (ForMem i m) us = refl

sub-flat : (x : SubTree) → IsFlat (sub_tokens x)
sub-flat (ForWord i t) = flat-append (Left ∷ Atom (codes "v" ++ decimal i) ∷ []) (word_tokens t ++ close) (opened-flat (codes "v" ++ decimal i)) (flat-append (word_tokens t) close (word-flat t) right-flat)
sub-flat (ForMem i m) = flat-append (Left ∷ Atom (codes "m" ++ decimal i) ∷ []) (mem_tokens m ++ close) (opened-flat (codes "m" ++ decimal i)) (flat-append (mem_tokens m) close (mem-flat m) right-flat)

-- ---- words before memories

mems-none : (least : ℕ) (ss : List SubTree) → mems_rise least ss ≡ true → words_of ss ≡ []
mems-none least [] e = refl
mems-none least (ForWord i t ∷ ss) e = absurd cc
mems-none least (ForMem i m ∷ ss) e = mems-none (i + 1) ss (and_parts (nat_le least i) (mems_rise (i + 1) ss) e).1

mems-tokens : (least : ℕ) (ss : List SubTree) → mems_rise least ss ≡ true → flat_map sub_tokens ss ≡ flat_map mem_sub_tokens (mems_of ss)
mems-tokens least [] e = refl
mems-tokens least (ForWord i t ∷ ss) e = absurd cc
mems-tokens least (ForMem i m ∷ ss) e = ap (λ (ts : List Tok). mem_sub_tokens (i, m) ++ ts) (mems-tokens (i + 1) ss (and_parts (nat_le least i) (mems_rise (i + 1) ss) e).1)

subs-tokens : (least : ℕ) (ss : List SubTree) → subs_rise least ss ≡ true → flat_map sub_tokens ss ≡ flat_map word_sub_tokens (words_of ss) ++ flat_map mem_sub_tokens (mems_of ss)
subs-tokens least [] e = refl
subs-tokens least (ForWord i t ∷ ss) e =
    ap (λ (ts : List Tok). word_sub_tokens (i, t) ++ ts) (subs-tokens (i + 1) ss (and_parts (nat_le least i) (subs_rise (i + 1) ss) e).1)
    ∙ sym (append_assoc (word_sub_tokens (i, t)) (flat_map word_sub_tokens (words_of ss)) (flat_map mem_sub_tokens (mems_of ss)))
subs-tokens least (ForMem i m ∷ ss) e =
    mems-tokens 0 (ForMem i m ∷ ss) e
    ∙ ap (λ ws. flat_map word_sub_tokens ws ++ flat_map mem_sub_tokens (mems_of (ForMem i m ∷ ss))) (sym (mems-none 0 (ForMem i m ∷ ss) e))

mems-fit : (least : ℕ) (ss : List SubTree) → AllByRecursion IsSub ss → mems_rise least ss ≡ true → AreRisingFrom IsMem least (mems_of ss)
mems-fit least [] h e = tt
mems-fit least (ForWord i t ∷ ss) h e = absurd cc
mems-fit least (ForMem i m ∷ ss) h e = let k = and_parts (nat_le least i) (mems_rise (i + 1) ss) e in (le-true least i k.0, h.0.0, h.0.1, mems-fit (i + 1) ss h.1 k.1)

subs-fit : (least : ℕ) (ss : List SubTree) → AllByRecursion IsSub ss → subs_rise least ss ≡ true → AreRisingFrom IsWord least (words_of ss) × AreRisingFrom IsMem 0 (mems_of ss)
subs-fit least [] h e = (tt, tt)
subs-fit least (ForWord i t ∷ ss) h e =
    let k = and_parts (nat_le least i) (subs_rise (i + 1) ss) e in
    let m = subs-fit (i + 1) ss h.1 k.1 in
    ((le-true least i k.0, h.0.0, h.0.1, m.0), m.1)
subs-fit least (ForMem i m ∷ ss) h e =
    (subst (AreRisingFrom IsWord least) (sym (mems-none 0 (ForMem i m ∷ ss) e)) tt, mems-fit 0 (ForMem i m ∷ ss) h e)

-- the list that words and memories are read from
abbrev mem_subs : List (ℕ × MemTree) → List SubTree
mem_subs [] = []
mem_subs (m ∷ ms) = ForMem m.0 m.1 ∷ mem_subs ms

abbrev subs_of : List (ℕ × WordTree) → List (ℕ × MemTree) → List SubTree
subs_of [] ms = mem_subs ms
subs_of (w ∷ ws) ms = ForWord w.0 w.1 ∷ subs_of ws ms

no-words : (ms : List (ℕ × MemTree)) → words_of (mem_subs ms) ≡ []
no-words [] = refl
no-words (m ∷ ms) = no-words ms

words-back : (ws : List (ℕ × WordTree)) (ms : List (ℕ × MemTree)) → words_of (subs_of ws ms) ≡ ws
words-back [] ms = no-words ms
words-back (w ∷ ws) ms = ap (λ (vs : List (ℕ × WordTree)). w ∷ vs) (words-back ws ms)

own-mems : (ms : List (ℕ × MemTree)) → mems_of (mem_subs ms) ≡ ms
own-mems [] = refl
own-mems (m ∷ ms) = ap (λ (vs : List (ℕ × MemTree)). m ∷ vs) (own-mems ms)

mems-back : (ws : List (ℕ × WordTree)) (ms : List (ℕ × MemTree)) → mems_of (subs_of ws ms) ≡ ms
mems-back [] ms = own-mems ms
mems-back (w ∷ ws) ms = mems-back ws ms

mems-rise : (least : ℕ) (ms : List (ℕ × MemTree)) → AreRisingFrom IsMem least ms → AllByRecursion IsSub (mem_subs ms) × (mems_rise least (mem_subs ms) ≡ true)
mems-rise least [] h = (tt, refl)
mems-rise least (m ∷ ms) h =
    let k = mems-rise (m.0 + 1) ms h.3 in
    (((h.1, h.2), k.0), and_from (nat_le least m.0) (mems_rise (m.0 + 1) (mem_subs ms)) (true-le least m.0 h.0) k.1)

mems-alone : (least : ℕ) (ms : List (ℕ × MemTree)) → mems_rise 0 (mem_subs ms) ≡ true → subs_rise least (mem_subs ms) ≡ true
mems-alone least [] e = refl
mems-alone least (m ∷ ms) e = e

subs-rise : (least : ℕ) (ws : List (ℕ × WordTree)) (ms : List (ℕ × MemTree)) → AreRisingFrom IsWord least ws → AreRisingFrom IsMem 0 ms → AllByRecursion IsSub (subs_of ws ms) × (subs_rise least (subs_of ws ms) ≡ true)
subs-rise least [] ms h k = let m = mems-rise 0 ms k in (m.0, mems-alone least ms m.1)
subs-rise least (w ∷ ws) ms h k =
    let m = subs-rise (w.0 + 1) ws ms h.3 k in
    (((h.1, h.2), m.0), and_from (nat_le least w.0) (subs_rise (w.0 + 1) (subs_of ws ms)) (true-le least w.0 h.0) m.1)

-- ---- the parts of each rule, with the first word of the triple

abbrev pub facts : List Tok
facts = Atom (codes "facts") ∷ []

facts-law : Reads facts_word Always (λ _. facts)
facts-law = name-law (codes "facts")

abbrev pub CitedParts : Type 0
CitedParts = ℕ × Unit {0}

abbrev pub Cited : CitedParts → Type 0
Cited x = IsNumber x.0 × Always x.1

pub cited-law : Reads cited_at Cited (λ x. number x.0 ++ facts)
cited-law = Reads-pair theorem_at IsNumber number theorem-law (λ n h. atom-flat (decimal n)) facts_word Always (λ _. facts) facts-law

abbrev AxiomParts : Type 0
AxiomParts = ℕ × (ℕ × (Form × Unit {0}))

abbrev FitAxiom : AxiomParts → Type 0
FitAxiom x = IsNumber x.0 × (IsInstruction x.1.0 × (Always x.1.1.0 × Always x.1.1.1))

axiom-parts-law : Reads (pair address_at (pair (one (atom_of instruction_of)) (pair (one (atom_of axiom_form_of)) facts_word))) FitAxiom
    (λ x. address x.0 ++ (address x.1.0 ++ (Atom (axiom_form_name x.1.1.0) ∷ facts)))
axiom-parts-law =
    Reads-pair address_at IsNumber address address-law (λ n h. atom-flat (hex n)) (pair (one (atom_of instruction_of)) (pair (one (atom_of axiom_form_of)) facts_word)) _ _
    (Reads-pair (one (atom_of instruction_of)) IsInstruction address instruction-law (λ n h. atom-flat (hex n)) (pair (one (atom_of axiom_form_of)) facts_word) _ _
    (Reads-pair (one (atom_of axiom_form_of)) Always (λ f. Atom (axiom_form_name f) ∷ []) form-law (λ f h. atom-flat (axiom_form_name f)) facts_word Always (λ _. facts) facts-law))

abbrev InstParts : Type 0
InstParts = ℕ × (List SubTree × Unit {0})

abbrev LooseInst : InstParts → Type 0
LooseInst x = IsNumber x.0 × (AllByRecursion IsSub x.1.0 × Always x.1.1)

abbrev inst_tokens : InstParts → List Tok
inst_tokens x = number x.0 ++ (flat_map sub_tokens x.1.0 ++ facts)

loose-inst-law : Reads (pair theorem_at (pair (star is_open sub_at) facts_word)) LooseInst inst_tokens
loose-inst-law =
    Reads-pair theorem_at IsNumber number theorem-law (λ n h. atom-flat (decimal n)) (pair (star is_open sub_at) facts_word) _ _
    (reads-list is_open sub_at sub-shrinks IsSub sub_tokens sub-law (λ x h. sub-flat x) (λ x h us. sub-begins x us) facts_word Always (λ _. facts) facts-law (λ y h us. refl))

inst-tokens-flat : (x : InstParts) → LooseInst x → IsFlat (inst_tokens x)
inst-tokens-flat x h =
    flat-append (number x.0) (flat_map sub_tokens x.1.0 ++ facts) (atom-flat (decimal x.0))
    (flat-append (flat_map sub_tokens x.1.0) facts (flat-each IsSub sub_tokens (λ s f. sub-flat s) x.1.0 h.1.0) (atom-flat (codes "facts")))

abbrev rises : InstParts → Bool
rises x = subs_rise 0 x.1.0

abbrev FitInst : InstParts → Type 0
FitInst x = LooseInst x × (rises x ≡ true)

inst-parts-law : Reads inst_parts FitInst inst_tokens
inst-parts-law = reads-checked rises (pair theorem_at (pair (star is_open sub_at) facts_word)) LooseInst inst_tokens loose-inst-law inst-tokens-flat

abbrev UseParts : Type 0
UseParts = ℕ × (ℕ × Unit {0})

abbrev FitUse : UseParts → Type 0
FitUse x = (x.0 < index_limit) × ((x.1.0 < index_limit) × Always x.1.1)

use-parts-law : Reads (pair index_at (pair index_at facts_word)) FitUse (λ x. number x.0 ++ (number x.1.0 ++ facts))
use-parts-law =
    Reads-pair index_at (λ n. n < index_limit) number index-law (λ n h. atom-flat (decimal n)) (pair index_at facts_word) _ _
    (Reads-pair index_at (λ n. n < index_limit) number index-law (λ n h. atom-flat (decimal n)) facts_word Always (λ _. facts) facts-law)

abbrev ComposeParts : Type 0
ComposeParts = ℕ × (ℕ × Unit {0})

abbrev FitCompose : ComposeParts → Type 0
FitCompose x = IsNumber x.0 × Cited x.1

compose-parts-law : Reads (pair theorem_at cited_at) FitCompose (λ x. number x.0 ++ (number x.1.0 ++ facts))
compose-parts-law = Reads-pair theorem_at IsNumber number theorem-law (λ n h. atom-flat (decimal n)) cited_at Cited (λ x. number x.0 ++ facts) cited-law

abbrev axiom_rule : AxiomParts → RuleTree
axiom_rule x = Axiom x.0 x.1.0 x.1.1.0

abbrev inst_rule : InstParts → RuleTree
inst_rule x = Inst x.0 (words_of x.1.0) (mems_of x.1.0)

abbrev frame_rule : CitedParts → RuleTree
frame_rule x = Frame x.0

abbrev compose_rule : ComposeParts → RuleTree
compose_rule x = Compose x.0 x.1.0

abbrev extend_rule : CitedParts → RuleTree
extend_rule x = ExtendCode x.0

abbrev strengthen_rule : CitedParts → RuleTree
strengthen_rule x = Strengthen x.0

abbrev weaken_rule : CitedParts → RuleTree
weaken_rule x = Weaken x.0

abbrev discharge_rule : CitedParts → RuleTree
discharge_rule x = Discharge x.0

abbrev use_rule : UseParts → RuleTree
use_rule x = UseExit x.0 x.1.0

-- the rules of each name
abbrev RuleOf : RuleHead → RuleTree → Type 0
RuleOf rule_head.Axiom = Image axiom_rule FitAxiom
RuleOf rule_head.Inst = Image inst_rule FitInst
RuleOf rule_head.Frame = Image frame_rule Cited
RuleOf rule_head.Compose = Image compose_rule FitCompose
RuleOf rule_head.ExtendCode = Image extend_rule Cited
RuleOf rule_head.Strengthen = Image strengthen_rule Cited
RuleOf rule_head.Weaken = Image weaken_rule Cited
RuleOf rule_head.Discharge = Image discharge_rule Cited
RuleOf rule_head.UseExit = Image use_rule FitUse

-- the tokens behind a rule's name
abbrev rule_rest : RuleTree → List Tok
rule_rest (Axiom a w form) = address a ++ (address w ++ (Atom (axiom_form_name form) ∷ facts))
rule_rest (Inst p words mems) = number p ++ (flat_map word_sub_tokens words ++ (flat_map mem_sub_tokens mems ++ facts))
rule_rest (Frame p) = number p ++ facts
rule_rest (Compose p q) = number p ++ (number q ++ facts)
rule_rest (ExtendCode p) = number p ++ facts
rule_rest (Strengthen p) = number p ++ facts
rule_rest (Weaken p) = number p ++ facts
rule_rest (Discharge p) = number p ++ facts
rule_rest (UseExit def exit) = number def ++ (number exit ++ facts)

inst-spelled : (x : InstParts) → FitInst x → rule_rest (inst_rule x) ≡ inst_tokens x
inst-spelled x h =
    let ws = flat_map word_sub_tokens (words_of x.1.0) in
    let ms = flat_map mem_sub_tokens (mems_of x.1.0) in
    ap (λ (ts : List Tok). number x.0 ++ ts) (sym (append_assoc ws ms facts) ∙ ap (λ (ts : List Tok). ts ++ facts) (sym (subs-tokens 0 x.1.0 h.1)))

rule-parts-law : (h : RuleHead) → Reads (rule_parts h) (RuleOf h) rule_rest
rule-parts-law rule_head.Axiom = reads-image axiom_rule _ _ _ axiom-parts-law rule_rest (λ x f. refl)
rule-parts-law rule_head.Inst = reads-image inst_rule inst_parts FitInst inst_tokens inst-parts-law rule_rest inst-spelled
rule-parts-law rule_head.Frame = reads-image frame_rule _ _ _ cited-law rule_rest (λ x f. refl)
rule-parts-law rule_head.Compose = reads-image compose_rule _ _ _ compose-parts-law rule_rest (λ x f. refl)
rule-parts-law rule_head.ExtendCode = reads-image extend_rule _ _ _ cited-law rule_rest (λ x f. refl)
rule-parts-law rule_head.Strengthen = reads-image strengthen_rule _ _ _ cited-law rule_rest (λ x f. refl)
rule-parts-law rule_head.Weaken = reads-image weaken_rule _ _ _ cited-law rule_rest (λ x f. refl)
rule-parts-law rule_head.Discharge = reads-image discharge_rule _ _ _ cited-law rule_rest (λ x f. refl)
rule-parts-law rule_head.UseExit = reads-image use_rule _ _ _ use-parts-law rule_rest (λ x f. refl)

-- ---- rules

rule-into : (h : RuleHead) (x : RuleTree) → RuleOf h x → IsRule x
rule-into rule_head.Axiom x f = subst IsRule f.1 (f.2.0, f.2.1.0)
rule-into rule_head.Inst x f = let k = subs-fit 0 f.0.1.0 f.2.0.1.0 f.2.1 in subst IsRule f.1 (f.2.0.0, k.0, k.1)
rule-into rule_head.Frame x f = subst IsRule f.1 f.2.0
rule-into rule_head.Compose x f = subst IsRule f.1 (f.2.0, f.2.1.0)
rule-into rule_head.ExtendCode x f = subst IsRule f.1 f.2.0
rule-into rule_head.Strengthen x f = subst IsRule f.1 f.2.0
rule-into rule_head.Weaken x f = subst IsRule f.1 f.2.0
rule-into rule_head.Discharge x f = subst IsRule f.1 f.2.0
rule-into rule_head.UseExit x f = subst IsRule f.1 (f.2.0, f.2.1.0)

abbrev pub rule_row : RuleTree → List Tok
rule_row r = rule_tokens r ++ facts

abbrev RuleNamed : RuleHead → RuleTree → Type 0
RuleNamed h x = rule_row x ≡ (Atom (rule_name h) ∷ []) ++ rule_rest x

form-spelled : (form : Form) → form_tokens form ≡ Atom (axiom_form_name form) ∷ []
form-spelled Next = refl
form-spelled Taken = refl

axiom-named : (a w : ℕ) (form : Form) → RuleNamed rule_head.Axiom (Axiom a w form)
axiom-named a w form = ap (λ (ts : List Tok). Atom (codes "axiom") ∷ Atom (hex a) ∷ Atom (hex w) ∷ ((ts ++ []) ++ facts)) (form-spelled form)

inst-named : (p : ℕ) (words : List (ℕ × WordTree)) (mems : List (ℕ × MemTree)) → RuleNamed rule_head.Inst (Inst p words mems)
inst-named p words mems =
    let ws = flat_map word_sub_tokens words in
    let ms = flat_map mem_sub_tokens mems in
    ap (λ (ts : List Tok). Atom (codes "inst") ∷ Atom (decimal p) ∷ ts) (append_assoc ws (ms ++ []) facts ∙ ap (λ (ts : List Tok). ws ++ ts) (append_assoc ms [] facts))

rule-same : (h : RuleHead) (x : RuleTree) → RuleOf h x → RuleNamed h x
rule-same rule_head.Axiom x f = subst (RuleNamed rule_head.Axiom) f.1 (axiom-named f.0.0 f.0.1.0 f.0.1.1.0)
rule-same rule_head.Inst x f = subst (RuleNamed rule_head.Inst) f.1 (inst-named f.0.0 (words_of f.0.1.0) (mems_of f.0.1.0))
rule-same rule_head.Frame x f = subst (RuleNamed rule_head.Frame) f.1 refl
rule-same rule_head.Compose x f = subst (RuleNamed rule_head.Compose) f.1 refl
rule-same rule_head.ExtendCode x f = subst (RuleNamed rule_head.ExtendCode) f.1 refl
rule-same rule_head.Strengthen x f = subst (RuleNamed rule_head.Strengthen) f.1 refl
rule-same rule_head.Weaken x f = subst (RuleNamed rule_head.Weaken) f.1 refl
rule-same rule_head.Discharge x f = subst (RuleNamed rule_head.Discharge) f.1 refl
rule-same rule_head.UseExit x f = subst (RuleNamed rule_head.UseExit) f.1 refl

inst-from : (p : ℕ) (words : List (ℕ × WordTree)) (mems : List (ℕ × MemTree)) → IsRule (Inst p words mems) → RuleOf rule_head.Inst (Inst p words mems)
inst-from p words mems f =
    let ss = subs_of words mems in
    let k = subs-rise 0 words mems f.1 f.2 in
    ((p, (ss, tt)), ap (λ ws. Inst p ws (mems_of ss)) (words-back words mems) ∙ ap (Inst p words) (mems-back words mems), ((f.0, (k.0, tt)), k.1))

rule-from : (x : RuleTree) → IsRule x → (h : RuleHead) × Always h × RuleOf h x
rule-from (Axiom a w form) f = (rule_head.Axiom, tt, ((a, (w, (form, tt))), refl, (f.0, (f.1, (tt, tt)))))
rule-from (Inst p words mems) f = (rule_head.Inst, tt, inst-from p words mems f)
rule-from (Frame p) f = (rule_head.Frame, tt, ((p, tt), refl, (f, tt)))
rule-from (Compose p q) f = (rule_head.Compose, tt, ((p, (q, tt)), refl, (f.0, (f.1, tt))))
rule-from (ExtendCode p) f = (rule_head.ExtendCode, tt, ((p, tt), refl, (f, tt)))
rule-from (Strengthen p) f = (rule_head.Strengthen, tt, ((p, tt), refl, (f, tt)))
rule-from (Weaken p) f = (rule_head.Weaken, tt, ((p, tt), refl, (f, tt)))
rule-from (Discharge p) f = (rule_head.Discharge, tt, ((p, tt), refl, (f, tt)))
rule-from (UseExit def exit) f = (rule_head.UseExit, tt, ((def, (exit, tt)), refl, (f.0, (f.1, tt))))

rule-head-named : (h : RuleHead) → rule_head_of (rule_name h) ≡ Some h
unfolding rule_head_of
rule-head-named rule_head.Axiom = refl
rule-head-named rule_head.Inst = refl
rule-head-named rule_head.Frame = refl
rule-head-named rule_head.Compose = refl
rule-head-named rule_head.ExtendCode = refl
rule-head-named rule_head.Strengthen = refl
rule-head-named rule_head.Weaken = refl
rule-head-named rule_head.Discharge = refl
rule-head-named rule_head.UseExit = refl

rule-head-law : Reads (one (atom_of rule_head_of)) Always (λ h. Atom (rule_name h) ∷ [])
unfolding rule_head_of
rule-head-law = named-law rule_name rule_heads rule-head-named

pub rule-law : Reads rule_at IsRule rule_row
unfolding rule_at
rule-law = reads-forms (one (atom_of rule_head_of)) Always (λ h. Atom (rule_name h) ∷ []) rule-head-law (λ h f. atom-flat (rule_name h)) rule_parts RuleOf rule_rest rule-parts-law
    IsRule rule_row (λ h x k f. rule-into h x f) rule-same rule-from

-- ---- a rule lies in a line

rest-flat : (r : RuleTree) → IsRule r → IsFlat (rule_rest r)
rest-flat (Axiom a w form) h = (λ e. absurd cc, (λ e. absurd cc, (λ e. absurd cc, atom-flat (codes "facts"))))
rest-flat (Inst p words mems) h =
    let k = subs-rise 0 words mems h.1 h.2 in
    let ss : List SubTree = subs_of words mems in
    let x : InstParts = (p, (ss, tt)) in
    let same : inst_rule x ≡ Inst p words mems = ap (λ ws. Inst p ws (mems_of ss)) (words-back words mems) ∙ ap (Inst p words) (mems-back words mems) in
    subst IsFlat (sym (inst-spelled x ((h.0, (k.0, tt)), k.1)) ∙ ap rule_rest same) (inst-tokens-flat x (h.0, (k.0, tt)))
rest-flat (Frame p) h = (λ e. absurd cc, atom-flat (codes "facts"))
rest-flat (Compose p q) h = (λ e. absurd cc, (λ e. absurd cc, atom-flat (codes "facts")))
rest-flat (ExtendCode p) h = (λ e. absurd cc, atom-flat (codes "facts"))
rest-flat (Strengthen p) h = (λ e. absurd cc, atom-flat (codes "facts"))
rest-flat (Weaken p) h = (λ e. absurd cc, atom-flat (codes "facts"))
rest-flat (Discharge p) h = (λ e. absurd cc, atom-flat (codes "facts"))
rest-flat (UseExit def exit) h = (λ e. absurd cc, (λ e. absurd cc, atom-flat (codes "facts")))

pub rule-flat : (r : RuleTree) → IsRule r → IsFlat (rule_row r)
rule-flat r h =
    let f = rule-from r h in
    subst IsFlat (sym (rule-same f.0 r f.2)) ((λ e. absurd cc), rest-flat r h)
