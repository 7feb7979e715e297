-- Without the lines of proofs the text of proofs is that of their groups, in each version.
use Rattle.std.proofs.Common.{true≢false, ◌≡◌, ℕ, suc, Bool, true, false, cond, if◌then◌else◌, eqb, not, List, [], ◌∷◌, ◌++◌, codes, filter, map, refl, sym, ap, subst, ◌∙◌, arith, append_assoc, flat_map}
use Rattle.std.specs.Prelude.{is_some, unwrap_or}
use Rattle.std.specs.Fmt.{decimal}
use Rattle.std.specs.List.{AllByRecursion, onto_first}
use Rattle.mc_text.specs.Fault.{newlines}
use Rattle.mc_text.specs.Tokens.{Tok, Right, Semi, Atom, Eol, newline, gap, token_bytes, before_next, spell}
use Rattle.mc_text.specs.declared.token.Before.{Before}
use Rattle.mc_text.specs.declared.token.Before.TheVariants.{Start, Open, Later}
use Rattle.mc_text.proofs.Lines.{AreTokens}
use Rattle.mc_text.proofs.ReaderLaws.{IsFlat, flat-append}
use Rattle.mc_text.proofs.FaultLine.{newlines-spell, eols-flat, tokens-front}
use Rattle.rv_words.specs.declared.range.Range.{Range}
use Rattle.group_text.specs.TermSpelling.{form, joined, word_tokens, mem_tokens, cond_tokens, range_tokens}
use Rattle.group_text.proofs.TermFacts.{word-flat, mem-flat, cond-flat, range-flat}
use Rattle.tailrec_lang.specs.Tree.{ValuesTree, StepTree, Bind, BindMem, Need, BodyTree, Do, Branch, Call, Again, Leave, ArmTrees, NoArm, Arm, DefTree, GroupTree}
use Rattle.tailrec_lang.specs.declared.group.Exit.{Exit}
use Rattle.tailrec_lang.specs.declared.group.Exit.TheVariants.{At, Ret}
use Rattle.proof_text.specs.Line.{RuleTree, Axiom, Inst, Frame, Compose, ExtendCode, Strengthen, Weaken, Discharge, UseExit, LineTree, States, Loop, Forget, Further}
use Rattle.proof_text.specs.LineLimits.{IsLineIn}
use Rattle.proof_text.specs.LineSpelling.{rule_tokens, line_tokens_in, code_tokens, form_tokens, same_ranges}
use Rattle.group_text.specs.Limits.{AreGroupsIn}
use Rattle.proof_text.specs.LineGrammar.{AreProofsOver, proof_tokens_over}
use Rattle.proof_text.specs.Proofs.{groups_of}
use Rattle.proof_text.specs.FirstProofs.{Adds}
use Rattle.proof_text.proofs.TextItems.{AreItems, items-fit}
use Rattle.triple_kernel.specs.declared.form.Form.{Form}
use Rattle.triple_kernel.specs.declared.form.Form.TheVariants.{Next, Taken}
use Rattle.term_arena.specs.declared.node.Node.{Node}
use Rattle.term_arena.specs.declared.node.Node.TheVariants as node
use Rattle.held_terms.specs.declared.held.HeldFact.{HeldFact}
use Rattle.held_terms.specs.declared.held.HeldFact.TheVariants as held
use Rattle.held_terms.specs.declared.held.HeldSide.{HeldSide}
use Rattle.held_terms.specs.declared.held.HeldValues.{HeldValues}
use Rattle.short_text.specs.declared.short.Short.{Short}
use Rattle.short_text.specs.declared.short.Short.TheVariants as short
use Rattle.short_text.specs.declared.short.ShortLine.{ShortLine}
use Rattle.short_text.specs.declared.short.ShortLine.TheVariants.{Proof, Term}
use Rattle.short_text.specs.ShortProofs.{short_line_tokens}
use Rattle.short_text.specs.ShortSpelling.{held_fact_tokens, held_register_tokens, held_side_tokens, held_values_tokens, list_tokens, mem_place_tokens, node_tokens, short_tokens, term_number, word_place_tokens}
use Rattle.proof_v2.specs.AnyText.{AnyProof, ListsIn, any_lines}
use Rattle.proof_v2.proofs.AnyKnown.{any_fits, any_known}
use Rattle.group_text.specs.Spelling.{line, number, address, exit_tokens, values_tokens, step_tokens, arm_count, body_tokens, arm_tokens, def_tokens, group_tokens, title_tokens, end_tokens, text_in}
use Rattle.group_text.specs.declared.version.Version.{Version as Known}
use Rattle.group_text.specs.declared.version.Version.TheVariants.{One, Two, Three, Four}
use Rattle.group_text.specs.Version.{version_of}
use Rattle.proof_text.proofs.LineTokens.{line-is-tokens}
use Rattle.group_text.proofs.Real.{group-tokens, title-tokens}
use Rattle.proof_text.proofs.RuleLaws.{facts, rule_row, rule-flat}
use Rattle.proof_text.proofs.TripleLaws.{triple_rest, triple-spelled, triple-flat}
use Rattle.mcdec_commands.specs.Listed.{is_of_proof, lines_of, without_proofs}

-- ---- the first line of a text

without-newline : (b : ℕ) (w : List ℕ) → newlines (b ∷ w) ≡ 0 → (eqb b 10 ≡ false) × (newlines w ≡ 0)
without-newline b w h = by (eqb b 10) refl h
  where
    by : (f : Bool) → eqb b 10 ≡ f → cond f (suc (newlines w)) (newlines w) ≡ 0 → (eqb b 10 ≡ false) × (newlines w ≡ 0)
    by true e k = absurd (omega (arith, k))
    by false e k = (e, k)

first-line : (w rest : List ℕ) → newlines w ≡ 0 → lines_of (w ++ (newline ∷ rest)) ≡ w ∷ lines_of rest
first-line [] rest h = refl
first-line (b ∷ w) rest h =
    let k = without-newline b w h in
    rw (k.0) (ap (onto_first b) (first-line w rest k.1))

-- ---- tokens of one line

no-gap : (m : Before) → gap m Eol ≡ []
no-gap Start = refl
no-gap Open = refl
no-gap Later = refl

row-text : (m : Before) (row us : List Tok) → spell m (row ++ (Eol ∷ us)) ≡ spell m row ++ (newline ∷ spell Start us)
row-text m [] us = ap (λ (v : List ℕ). (v ++ (newline ∷ [])) ++ spell Start us) (no-gap m)
row-text m (t ∷ row) us =
    ap (λ (v : List ℕ). (gap m t ++ token_bytes t) ++ v) (row-text (before_next t) row us)
    ∙ sym (append_assoc (gap m t ++ token_bytes t) (spell (before_next t) row) (newline ∷ spell Start us))

row-lines : (row us : List Tok) → IsFlat row → AreTokens (row ++ Eol ∷ [])
    → lines_of (spell Start ((row ++ Eol ∷ []) ++ us)) ≡ spell Start row ∷ lines_of (spell Start us)
row-lines row us flat real =
    ap (λ (ts : List Tok). lines_of (spell Start ts)) (append_assoc row (Eol ∷ []) us)
    ∙ ap lines_of (row-text Start row us)
    ∙ first-line (spell Start row) (spell Start us) (newlines-spell Start row (tokens-front row (Eol ∷ []) real) ∙ eols-flat row flat)

-- ---- lines that stay, and lines that go

-- the lines of the one without those of proofs are the lines of the other
abbrev AreSame : List Tok → List Tok → Type 0
AreSame us vs = without_proofs (spell Start us) ≡ lines_of (spell Start vs)

record Stays (ts : List Tok) : Type 0 where
  same : (us vs : List Tok) → AreSame us vs → AreSame (ts ++ us) (ts ++ vs)

record Goes (ts : List Tok) : Type 0 where
  same : (us vs : List Tok) → AreSame us vs → AreSame (ts ++ us) vs

abbrev kept : List (List ℕ) → List (List ℕ)
kept ls = filter (λ l. not (is_of_proof l)) ls

one-kept : (l : List ℕ) (ls : List (List ℕ)) (f : Bool) → is_of_proof l ≡ f → kept (l ∷ ls) ≡ cond (not f) (l ∷ kept ls) (kept ls)
one-kept l ls f e = ap (λ (b : Bool). cond (not b) (l ∷ kept ls) (kept ls)) e

row-stays : (row : List Tok) → IsFlat row → is_of_proof (spell Start row) ≡ false → AreTokens (row ++ Eol ∷ []) → Stays (row ++ Eol ∷ [])
row-stays row flat named real = record {
  same = λ us vs h.
      ap kept (row-lines row us flat real)
      ∙ one-kept (spell Start row) (lines_of (spell Start us)) false named
      ∙ ap (λ (ls : List (List ℕ)). spell Start row ∷ ls) h
      ∙ sym (row-lines row vs flat real);
}

row-goes : (row : List Tok) → IsFlat row → is_of_proof (spell Start row) ≡ true → AreTokens (row ++ Eol ∷ []) → Goes (row ++ Eol ∷ [])
row-goes row flat named real = record {
  same = λ us vs h. ap kept (row-lines row us flat real) ∙ one-kept (spell Start row) (lines_of (spell Start us)) true named ∙ h;
}

tokens-back : (a b : List Tok) → AreTokens (a ++ b) → AreTokens b
tokens-back [] b h = h
tokens-back (t ∷ a) b h = tokens-back a b h.1

both-stay : (a b : List Tok) → (AreTokens a → Stays a) → (AreTokens b → Stays b) → AreTokens (a ++ b) → Stays (a ++ b)
both-stay a b h k real = record {
  same = λ us vs s.
      ap (λ (ts : List Tok). without_proofs (spell Start ts)) (append_assoc a b us)
      ∙ (h (tokens-front a b real)).same (b ++ us) (b ++ vs) ((k (tokens-back a b real)).same us vs s)
      ∙ ap (λ (ts : List Tok). lines_of (spell Start ts)) (sym (append_assoc a b vs));
}

none-stays : AreTokens [] → Stays []
none-stays h = record { same = λ us vs s. s }

-- ---- no line ends within a line

atom-flat : (a : List ℕ) (ts : List Tok) → IsFlat ts → IsFlat (Atom a ∷ ts)
atom-flat a ts h = ((λ e. absurd cc), h)

each-flat : {X : Type 0} (f : X → List Tok) → ((x : X) → IsFlat (f x)) → (xs : List X) → IsFlat (flat_map f xs)
each-flat f one [] = tt
each-flat f one (x ∷ xs) = flat-append (f x) (flat_map f xs) (one x) (each-flat f one xs)

number-flat : (n : ℕ) → IsFlat (number n)
number-flat n = atom-flat _ [] tt

exit-flat : (x : Exit) → IsFlat (exit_tokens x)
exit-flat (At a) = atom-flat _ [] tt
exit-flat Ret = atom-flat _ [] tt

values-flat : (v : ValuesTree) → IsFlat (values_tokens v)
values-flat v =
    flat-append (flat_map word_tokens v.words) (Semi ∷ flat_map mem_tokens v.mems) (each-flat word_tokens word-flat v.words)
    ((λ e. absurd cc), each-flat mem_tokens mem-flat v.mems)

-- ---- a line of a word and parts

-- the tokens before its end
abbrev row_of : List ℕ → List (List Tok) → List Tok
row_of word parts = Atom word ∷ joined parts []

row-of-flat : (word : List ℕ) (parts : List (List Tok)) → AllByRecursion IsFlat parts → IsFlat (row_of word parts)
row-of-flat word parts h = atom-flat word (joined parts []) (by parts h)
  where
    by : (ps : List (List Tok)) → AllByRecursion IsFlat ps → IsFlat (joined ps [])
    by [] k = tt
    by (p ∷ ps) k = flat-append p (joined ps []) k.0 (by ps k.1)

line-row : (word : List ℕ) (parts : List (List Tok)) → row_of word parts ++ Eol ∷ [] ≡ line word parts
line-row word parts = ap (λ (ts : List Tok). Atom word ∷ ts) (by parts)
  where
    by : (ps : List (List Tok)) → joined ps [] ++ Eol ∷ [] ≡ joined ps (Eol ∷ [])
    by [] = refl
    by (p ∷ ps) = append_assoc p (joined ps []) (Eol ∷ []) ∙ ap (λ (ts : List Tok). p ++ ts) (by ps)

line-stays : (word : List ℕ) (parts : List (List Tok)) → AllByRecursion IsFlat parts → is_of_proof (spell Start (row_of word parts)) ≡ false
    → AreTokens (line word parts) → Stays (line word parts)
line-stays word parts flat named real =
    let e = line-row word parts in
    subst Stays e (row-stays (row_of word parts) (row-of-flat word parts flat) named (subst AreTokens (sym e) real))

line-goes : (word : List ℕ) (parts : List (List Tok)) → AllByRecursion IsFlat parts → is_of_proof (spell Start (row_of word parts)) ≡ true
    → AreTokens (line word parts) → Goes (line word parts)
line-goes word parts flat named real =
    let e = line-row word parts in
    subst Goes e (row-goes (row_of word parts) (row-of-flat word parts flat) named (subst AreTokens (sym e) real))

-- ---- groups

step-stays : (s : StepTree) → AreTokens (step_tokens s) → Stays (step_tokens s)
step-stays (Bind t) = line-stays (codes "let") (word_tokens t ∷ []) (word-flat t, tt) refl
step-stays (BindMem m) = line-stays (codes "letm") (mem_tokens m ∷ []) (mem-flat m, tt) refl
step-stays (Need c) = line-stays (codes "need") (cond_tokens c ∷ []) (cond-flat c, tt) refl

else-stays : AreTokens (line (codes "else") []) → Stays (line (codes "else") [])
else-stays = line-stays (codes "else") [] tt refl

arm-stays : AreTokens (line (codes "arm") []) → Stays (line (codes "arm") [])
arm-stays = line-stays (codes "arm") [] tt refl

mutual
  body-stays : (b : BodyTree) → AreTokens (body_tokens b) → Stays (body_tokens b)
  body-stays (Do s rest) = both-stay (step_tokens s) (body_tokens rest) (step-stays s) (body-stays rest)
  body-stays (Branch c a b) =
      let other = line (codes "else") [] ++ body_tokens b in
      let choice : List (List Tok) = cond_tokens c ∷ [] in
      both-stay (line (codes "if") choice) (body_tokens a ++ other) (line-stays (codes "if") choice (cond-flat c, tt) refl)
      (both-stay (body_tokens a) other (body-stays a) (both-stay (line (codes "else") []) (body_tokens b) else-stays (body-stays b)))
  body-stays (Call def v arms) =
      let parts : List (List Tok) = number def ∷ number (arm_count arms) ∷ values_tokens v ∷ [] in
      let flat : AllByRecursion IsFlat parts = (number-flat def, (number-flat (arm_count arms), (values-flat v, tt))) in
      both-stay (line (codes "call") parts) (arm_tokens arms) (line-stays (codes "call") parts flat refl) (arms-stay arms)
  body-stays (Again v) = line-stays (codes "again") (values_tokens v ∷ []) (values-flat v, tt) refl
  body-stays (Leave exit v) = line-stays (codes "leave") (number exit ∷ values_tokens v ∷ []) (number-flat exit, (values-flat v, tt)) refl

  arms-stay : (bs : ArmTrees) → AreTokens (arm_tokens bs) → Stays (arm_tokens bs)
  arms-stay NoArm = none-stays
  arms-stay (Arm b bs) =
      both-stay (line (codes "arm") []) (body_tokens b ++ arm_tokens bs) arm-stays
      (both-stay (body_tokens b) (arm_tokens bs) (body-stays b) (arms-stay bs))

def-stays : (d : DefTree) → AreTokens (def_tokens d) → Stays (def_tokens d)
def-stays d =
    let parts : List (List Tok) = address d.entry ∷ flat_map exit_tokens d.exits ∷ [] in
    let flat : AllByRecursion IsFlat parts = (atom-flat _ [] tt, (each-flat exit_tokens exit-flat d.exits, tt)) in
    both-stay (line (codes "def") parts) (body_tokens d.body) (line-stays (codes "def") parts flat refl) (body-stays d.body)

defs-stay : (ds : List DefTree) → AreTokens (flat_map def_tokens ds) → Stays (flat_map def_tokens ds)
defs-stay [] = none-stays
defs-stay (d ∷ ds) = both-stay (def_tokens d) (flat_map def_tokens ds) (def-stays d) (defs-stay ds)

group-stays : (g : GroupTree) → AreTokens (group_tokens g) → Stays (group_tokens g)
group-stays g =
    let name : List (List Tok) = (Atom g.name ∷ []) ∷ [] in
    let regs : List (List Tok) = flat_map number g.regs ∷ [] in
    let mems : List (List Tok) = number g.mems ∷ [] in
    let code : List (List Tok) = flat_map range_tokens g.code ∷ [] in
    let defs = flat_map def_tokens g.defs in
    let behind_mems = line (codes "code") code ++ defs in
    let behind_regs = line (codes "mems") mems ++ behind_mems in
    let behind_name = line (codes "regs") regs ++ behind_regs in
    both-stay (line (codes "group") name) behind_name (line-stays (codes "group") name (atom-flat g.name [] tt, tt) refl)
    (both-stay (line (codes "regs") regs) behind_regs (line-stays (codes "regs") regs (each-flat number number-flat g.regs, tt) refl)
    (both-stay (line (codes "mems") mems) behind_mems (line-stays (codes "mems") mems (number-flat g.mems, tt) refl)
    (both-stay (line (codes "code") code) defs (line-stays (codes "code") code (each-flat range_tokens range-flat g.code, tt) refl)
    (defs-stay g.defs))))

-- ---- lines of proofs

rule-named : (rule : RuleTree) (rest : List Tok) → is_of_proof (spell Start (rule_row rule ++ rest)) ≡ true
rule-named (Axiom a word form) rest = refl
rule-named (Inst p words mems) rest = refl
rule-named (Frame p) rest = refl
rule-named (Compose p q) rest = refl
rule-named (ExtendCode p) rest = refl
rule-named (Strengthen p) rest = refl
rule-named (Weaken p) rest = refl
rule-named (Discharge p) rest = refl
rule-named (UseExit def exit) rest = refl

further-named : (known : Known) → is_some (version_of known).further ≡ true → (p : ℕ) (rest : List Tok)
    → is_of_proof (spell Start (Atom (unwrap_or (version_of known).further []) ∷ Atom (decimal p) ∷ rest)) ≡ true
further-named One some p rest = absurd (true≢false (sym some))
further-named Two some p rest = absurd (true≢false (sym some))
further-named Three some p rest = refl
further-named Four some p rest = refl

module _ (known : Known) where
  abbrev tokens_of : List Range → LineTree → List Tok
  tokens_of own l = line_tokens_in (version_of known) own l

  proof-line-goes : (own : List Range) (l : LineTree) → IsLineIn (version_of known) l → Goes (tokens_of own l)
  proof-line-goes own (States rule t) h =
      let rest = triple_rest own t in
      let e : (rule_row rule ++ rest) ++ Eol ∷ [] ≡ tokens_of own (States rule t) =
      append_assoc (rule_row rule) rest (Eol ∷ [])
      ∙ append_assoc (rule_tokens rule) facts (rest ++ Eol ∷ [])
      ∙ ap (λ (ts : List Tok). rule_tokens rule ++ (ts ++ Eol ∷ [])) (sym (triple-spelled own t)) in
      let flat = flat-append (rule_row rule) rest (rule-flat rule h.0) (triple-flat own t h.1) in
      let real = subst AreTokens (sym e) (line-is-tokens known own (States rule t) h) in
      subst Goes e (row-goes (rule_row rule ++ rest) flat (rule-named rule rest) real)
  proof-line-goes own (Loop def cited) h =
      let parts : List (List Tok) = number def ∷ flat_map number cited ∷ [] in
      line-goes (codes "loop") parts (number-flat def, (each-flat number number-flat cited, tt)) refl (line-is-tokens known own (Loop def cited) h)
  proof-line-goes own (Forget k) h = line-goes (codes "forget") (number k ∷ []) (number-flat k, tt) refl (line-is-tokens known own (Forget k) h)
  proof-line-goes own (Further p t) h =
      let word = unwrap_or (version_of known).further [] in
      let behind : List Tok = Atom (codes "facts") ∷ triple_rest own t in
      let row : List Tok = Atom word ∷ Atom (decimal p) ∷ behind in
      let e : row ++ Eol ∷ [] ≡ tokens_of own (Further p t) = ap (λ (ts : List Tok). Atom word ∷ Atom (decimal p) ∷ (ts ++ Eol ∷ [])) (sym (triple-spelled own t)) in
      let flat = atom-flat word (Atom (decimal p) ∷ behind) (atom-flat (decimal p) behind (atom-flat (codes "facts") (triple_rest own t) (triple-flat own t h.2))) in
      let real = subst AreTokens (sym e) (line-is-tokens known own (Further p t) h) in
      subst Goes e (row-goes row flat (further-named known h.0 p behind) real)

-- ---- tables, and short lines over them

form-flat : (name : List ℕ) (parts : List (List Tok)) → AllByRecursion IsFlat parts → IsFlat (form name parts)
form-flat name parts h = ((λ e. absurd cc), atom-flat name (joined parts (Right ∷ [])) (by parts h))
  where
    by : (ps : List (List Tok)) → AllByRecursion IsFlat ps → IsFlat (joined ps (Right ∷ []))
    by [] k = ((λ e. absurd cc), tt)
    by (p ∷ ps) k = flat-append p (joined ps (Right ∷ [])) k.0 (by ps k.1)

term-flat : (k : ℕ) → IsFlat (term_number k)
term-flat k = atom-flat _ [] tt

terms-flat : (ks : List ℕ) → IsFlat (flat_map term_number ks)
terms-flat ks = each-flat term_number term-flat ks

node-flat : (n : Node) → IsFlat (node_tokens n)
node-flat (node.Const n) = atom-flat _ [] tt
node-flat (node.WordVar i) = atom-flat _ [] tt
node-flat (node.Bin op a b) = form-flat _ (term_number a ∷ term_number b ∷ []) (term-flat a, (term-flat b, tt))
node-flat (node.Extend ext a) = form-flat _ (term_number a ∷ []) (term-flat a, tt)
node-flat (node.Load width m a) = form-flat _ (term_number m ∷ term_number a ∷ []) (term-flat m, (term-flat a, tt))
node-flat (node.MemVar i) = atom-flat _ [] tt
node-flat (node.Store width m a v) = form-flat _ (term_number m ∷ term_number a ∷ term_number v ∷ []) (term-flat m, (term-flat a, (term-flat v, tt)))
node-flat (node.Compare cmp a b) = form-flat _ (term_number a ∷ term_number b ∷ []) (term-flat a, (term-flat b, tt))
node-flat (node.Neg c) = form-flat _ (term_number c ∷ []) (term-flat c, tt)
node-flat (node.Inside width m a) = form-flat _ (term_number m ∷ term_number a ∷ []) (term-flat m, (term-flat a, tt))

held-values-flat : (v : HeldValues) → IsFlat (held_values_tokens v)
held-values-flat v = flat-append (flat_map term_number v.words) (Semi ∷ flat_map term_number v.mems) (terms-flat v.words) ((λ e. absurd cc), terms-flat v.mems)

semi-flat : IsFlat (Semi ∷ [])
semi-flat = ((λ e. absurd cc), tt)

held-fact-flat : (f : HeldFact) → IsFlat (held_fact_tokens f)
held-fact-flat (held.WordIs a b) = form-flat _ (term_number a ∷ term_number b ∷ []) (term-flat a, (term-flat b, tt))
held-fact-flat (held.MemIs a b) = form-flat _ (term_number a ∷ term_number b ∷ []) (term-flat a, (term-flat b, tt))
held-fact-flat (held.So c) = form-flat _ (term_number c ∷ []) (term-flat c, tt)
held-fact-flat (held.Gives def exit args results) =
    form-flat _ (number def ∷ number exit ∷ held_values_tokens args ∷ (Semi ∷ []) ∷ held_values_tokens results ∷ [])
    (number-flat def, (number-flat exit, (held-values-flat args, (semi-flat, (held-values-flat results, tt)))))

place-flat : (name : List ℕ) (k : ℕ) → IsFlat (form name (term_number k ∷ []))
place-flat name k = form-flat name (term_number k ∷ []) (term-flat k, tt)

registers-flat : (rs : List (ℕ × ℕ)) → IsFlat (flat_map held_register_tokens rs)
registers-flat rs = each-flat held_register_tokens (λ r. place-flat (decimal r.0) r.1) rs

word-places-flat : (ps : List (ℕ × ℕ)) → IsFlat (flat_map word_place_tokens ps)
word-places-flat ps = each-flat word_place_tokens (λ s. place-flat (codes "v" ++ decimal s.0) s.1) ps

mem-places-flat : (ps : List (ℕ × ℕ)) → IsFlat (flat_map mem_place_tokens ps)
mem-places-flat ps = each-flat mem_place_tokens (λ s. place-flat (codes "m" ++ decimal s.0) s.1) ps

side-flat : (s : HeldSide) → IsFlat (held_side_tokens s)
side-flat s = ((λ e. absurd cc), by)
  where
    close : IsFlat (flat_map term_number s.mems ++ (Right ∷ []))
    close = flat-append (flat_map term_number s.mems) (Right ∷ []) (terms-flat s.mems) ((λ e. absurd cc), tt)

    by : IsFlat (joined (term_number s.pc ∷ flat_map held_register_tokens s.regs ∷ (Semi ∷ []) ∷ flat_map term_number s.mems ∷ []) (Right ∷ []))
    by = flat-append (term_number s.pc) _ (term-flat s.pc) (flat-append (flat_map held_register_tokens s.regs) _ (registers-flat s.regs) (flat-append (Semi ∷ []) _ semi-flat close))

code-flat : (own rs : List Range) → IsFlat (code_tokens own rs)
code-flat own rs = by (same_ranges rs own)
  where
    by : (b : Bool) → IsFlat (if b then Atom (codes "all") ∷ [] else flat_map range_tokens rs)
    by true = atom-flat _ [] tt
    by false = each-flat range_tokens range-flat rs

facts-flat : (fs : List HeldFact) → IsFlat (list_tokens (codes "facts") held_fact_tokens fs)
facts-flat fs = atom-flat _ (flat_map held_fact_tokens fs) (each-flat held_fact_tokens held-fact-flat fs)

next-flat : (form : Form) → IsFlat (form_tokens form)
next-flat Next = atom-flat _ [] tt
next-flat Taken = atom-flat _ [] tt

module _ (own : List Range) where
  short-goes : (s : Short) → AreTokens (short_tokens own s) → Goes (short_tokens own s)
  short-goes (short.Axiom a word form) = line-goes (codes "axiom") (address a ∷ address word ∷ form_tokens form ∷ []) (atom-flat _ [] tt, (atom-flat _ [] tt, (next-flat form, tt))) refl
  short-goes (short.Inst p words mems) =
      line-goes (codes "inst") (number p ∷ flat_map word_place_tokens words ∷ flat_map mem_place_tokens mems ∷ []) (number-flat p, (word-places-flat words, (mem-places-flat mems, tt))) refl
  short-goes (short.Frame p regs mems) =
      line-goes (codes "frame") (number p ∷ flat_map held_register_tokens regs ∷ (Semi ∷ []) ∷ flat_map term_number mems ∷ [])
      (number-flat p, (registers-flat regs, (semi-flat, (terms-flat mems, tt)))) refl
  short-goes (short.ExtendCode p code) =
      line-goes (codes "extend") (number p ∷ (Atom (codes "code") ∷ code_tokens own code.ranges) ∷ []) (number-flat p, (atom-flat _ (code_tokens own code.ranges) (code-flat own code.ranges), tt)) refl
  short-goes (short.Compose p q) = line-goes (codes "compose") (number p ∷ number q ∷ []) (number-flat p, (number-flat q, tt)) refl
  short-goes (short.Strengthen p facts pre) =
      line-goes (codes "strengthen") (number p ∷ list_tokens (codes "facts") held_fact_tokens facts ∷ (Atom (codes "pre") ∷ held_side_tokens pre) ∷ [])
      (number-flat p, (facts-flat facts, (atom-flat _ (held_side_tokens pre) (side-flat pre), tt))) refl
  short-goes (short.Weaken p facts post) =
      line-goes (codes "weaken") (number p ∷ list_tokens (codes "facts") held_fact_tokens facts ∷ (Atom (codes "post") ∷ held_side_tokens post) ∷ [])
      (number-flat p, (facts-flat facts, (atom-flat _ (held_side_tokens post) (side-flat post), tt))) refl
  short-goes (short.Discharge p facts) = line-goes (codes "discharge") (number p ∷ list_tokens (codes "facts") held_fact_tokens facts ∷ []) (number-flat p, (facts-flat facts, tt)) refl
  short-goes (short.UseExit def exit) = line-goes (codes "use") (number def ∷ number exit ∷ []) (number-flat def, (number-flat exit, tt)) refl
  short-goes (short.Loop def cited) = line-goes (codes "loop") (number def ∷ flat_map number cited ∷ []) (number-flat def, (each-flat number number-flat cited, tt)) refl
  short-goes (short.Forget k) = line-goes (codes "forget") (number k ∷ []) (number-flat k, tt) refl

  short-line-goes : (l : ShortLine) → AreTokens (short_line_tokens own l) → Goes (short_line_tokens own l)
  short-line-goes (Term n) = line-goes (codes "term") (node_tokens n ∷ []) (node-flat n, tt) refl
  short-line-goes (Proof s) = short-goes s

-- ---- the text

module _ (k : Known) where
  abbrev tokens_in : List Range → (any_lines k).Line → List Tok
  tokens_in own l = (any_lines k).tokens (version_of k) own l

any-line-goes : (k : Known) (own : List Range) (before : List (any_lines k).Line) (l : (any_lines k).Line) → any_fits k (version_of k) before l → AreTokens (tokens_in k own l) → Goes (tokens_in k own l)
any-line-goes One own before l h real = proof-line-goes One own l h
any-line-goes Two own before l h real = short-line-goes own l real
any-line-goes Three own before l h real = proof-line-goes Three own l h
any-line-goes Four own before l h real = proof-line-goes Four own l h

module _ (k : Known) where
  lines-go : (own : List Range) (before ls : List (any_lines k).Line) → AreItems (any_known k) before (map Adds ls ++ [])
      → (us vs : List Tok) → AreSame us vs → AreSame (flat_map (tokens_in k own) ls ++ us) vs
  lines-go own before [] h us vs s = s
  lines-go own before (l ∷ ls) h us vs s =
      let rest = flat_map (tokens_in k own) ls in
      ap (λ (ts : List Tok). without_proofs (spell Start ts)) (append_assoc (tokens_in k own l) rest us)
      ∙ (any-line-goes k own before l h.0 ((any_known k).laws.real own before l h.0)).same (rest ++ us) vs (lines-go own (before ++ l ∷ []) ls h.1 us vs s)

  -- behind the first line
  abbrev proofs_rest : List (AnyProof k) → List Tok
  proofs_rest ps = flat_map (proof_tokens_over (any_lines k) (version_of k)) ps ++ end_tokens

  abbrev groups_rest : List (AnyProof k) → List Tok
  groups_rest ps = flat_map group_tokens (groups_of ps) ++ end_tokens

  proofs-same : (ps : List (AnyProof k)) → AreProofsOver (any_lines k) (version_of k) ps → AreSame (proofs_rest ps) (groups_rest ps)
  proofs-same [] h = refl
  proofs-same (p ∷ ps) h =
      let lines = flat_map (tokens_in k p.group.code) p.lines in
      let item_apart = append_assoc (proof_tokens_over (any_lines k) (version_of k) p) (flat_map (proof_tokens_over (any_lines k) (version_of k)) ps) end_tokens in
      let lines_apart = append_assoc (group_tokens p.group) lines (proofs_rest ps) in
      let group_apart = append_assoc (group_tokens p.group) (flat_map group_tokens (groups_of ps)) end_tokens in
      let one = items-fit (any_known k) (p ∷ []) (h.0, tt) [] in
      let behind = lines-go p.group.code [] p.lines one.1 (proofs_rest ps) (groups_rest ps) (proofs-same ps h.1) in
      ap (λ (ts : List Tok). without_proofs (spell Start ts)) (item_apart ∙ lines_apart)
      ∙ (group-stays p.group (group-tokens k p.group h.0.group)).same (lines ++ proofs_rest ps) (groups_rest ps) behind
      ∙ ap (λ (ts : List Tok). lines_of (spell Start ts)) (sym group_apart)

  title-stays : Stays (title_tokens (version_of k))
  title-stays = line-stays (codes "mcproof") ((Atom (version_of k).title ∷ []) ∷ []) (atom-flat (version_of k).title [] tt, tt) refl (title-tokens k)

  -- of the groups that a text has
  module _ (text : List ℕ) (gs : List GroupTree) (l : ListsIn k text gs) where
    pub groups-left : without_proofs text ≡ lines_of (text_in (version_of k) gs)
    groups-left =
        ap without_proofs l.spelled.spelled
        ∙ title-stays.same (proofs_rest l.proofs) (groups_rest l.proofs) (proofs-same l.proofs l.spelled.fit)
        ∙ ap (λ (hs : List GroupTree). lines_of (text_in (version_of k) hs)) (sym l.groups)

    pub groups-fit : AreGroupsIn (version_of k) gs
    groups-fit = subst (AreGroupsIn (version_of k)) (sym l.groups) (each l.proofs l.spelled.fit)
      where
        each : (ps : List (AnyProof k)) → AreProofsOver (any_lines k) (version_of k) ps → AreGroupsIn (version_of k) (groups_of ps)
        each [] h = tt
        each (p ∷ ps) h = (h.0.group, each ps h.1)
