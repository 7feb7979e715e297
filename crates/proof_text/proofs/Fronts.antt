-- What is read of a text is determined: of two lists of first proofs the items of one begin with those of the other.
use Rattle.std.proofs.Common.{◌≡◌, ℕ, ◌+◌, ◌<◌, ◌≤◌, Bool, true, false, List, [], ◌∷◌, ◌++◌, length, codes, Option, Some, None, Ok, true≢false, refl, sym, ap, subst, ◌∙◌, arith, append_assoc, length-append, inl, inr, ◌⊎◌}
use Rattle.std.specs.List.{AllByRecursion, flat_map}
use Rattle.std.specs.Str.{bytes_eq}
use Rattle.std.proofs.lemmas.List.{append-nil}
use Rattle.std.proofs.lemmas.Slice.Eq.{bytes_eq-Decides}
use Rattle.mc_text.proofs.Unended.{no-eols}
use Rattle.mc_text.specs.Tokens.{Tok, Left, Right, Semi, Atom, Eol, Done, Stuck, spell}
use Rattle.mc_text.specs.declared.token.Before.TheVariants.{Start}
use Rattle.mc_text.specs.Scanning.{lex, At, eols}
use Rattle.mc_text.specs.Reading.{Reader, goes_on}
use Rattle.mc_text.specs.Fault.{first_lines, newlines}
use Rattle.mc_text.proofs.ReaderLaws.{ok-value, ok-rest}
use Rattle.mc_text.proofs.Lines.{EndsIn, IsLines, atom-stands, stands-lex}
use Rattle.mc_text.proofs.Printed.{spell-after_lines}
use Rattle.mc_text.proofs.Covers.{Covers}
use Rattle.mc_text.proofs.OneSpelling.{lines-read}
use Rattle.mc_text.proofs.Items.{item-once}
use Rattle.mc_text.proofs.FaultLine.{front-lex, eols-append}
use Rattle.rv_words.specs.declared.range.Range.{Range}
use Rattle.tailrec_lang.specs.Tree.{DefTree, GroupTree}
use Rattle.group_text.specs.Limits.{IsDef, IsGroupIn}
use Rattle.group_text.specs.Spelling.{def_tokens, group_tokens, title_tokens, end_tokens}
use Rattle.group_text.specs.Version.{version_of}
use Rattle.group_text.specs.inner.Reading.{def_at, is_def, head_at, group_of}
use Rattle.group_text.proofs.HeadLaws.{IsCode}
use Rattle.group_text.proofs.Texts.{HeadFits, head_of, head-fits, lines_of_head, group_row, group-split, def-cover, head-cover}
use Rattle.group_text.proofs.Real.{spell-long}
use Rattle.proof_text.specs.Proofs.{bare}
use Rattle.proof_text.specs.FirstProofs.{Progress, Opens, Adds, items, Follows, AreReadOver, BeginsWithItems}
use Rattle.proof_text.specs.inner.LineReaders.{KnownTexts, ends_proof}
use Rattle.proof_text.proofs.KnownLines.{version, Line, Proof, Item, line_tokens, Are, Fits, line_at, proof_tokens, AreProofs, text_of, passed, HasGiven, AreRead}
use Rattle.proof_text.proofs.ProofTexts.{proofs_tokens, proofs-tokens, proof-text-law}
use Rattle.proof_text.proofs.Following.{follows-stands, def-atom}
use Rattle.proof_text.proofs.TextItems.{item_tokens, items_tokens, code_behind, last_code, last_lines, AreItems, proofs-items, items-fit, items-fewer, starts-fewer, tokens-behind, items-whole, items-real}
use Rattle.proof_text.proofs.Passed.{front_tokens, front-lines, front-real}
use Rattle.proof_text.proofs.Given.{Given, passed_items, given-items, items-given}

-- ---- where definitions end

-- no definition begins here, or no line ends behind
abbrev pub IsStop : List Tok → Type 0
IsStop ts = (goes_on is_def ts ≡ false) ⊎ (eols ts ≡ 0)

ends-line : (t : Tok) (ts : List Tok) → EndsIn t ts → 1 ≤ eols (t ∷ ts)
ends-line t [] e = subst (λ (u : Tok). 1 ≤ eols (u ∷ [])) (sym e) (omega arith)
ends-line t (u ∷ us) e = omega (arith, ends-line u us e)

lines-some : (ts : List Tok) → 0 < length ts → IsLines ts → 1 ≤ eols ts
lines-some [] some h = absurd (omega arith)
lines-some (t ∷ ts) some h = ends-line t ts h

def-ends : (d : DefTree) → IsDef d → (us : List Tok) → 1 ≤ eols (def_tokens d ++ us)
def-ends d h us = omega (arith, eols-append (def_tokens d) us, lines-some (def_tokens d) (omega arith) (def-cover.ends d h))

goes-not : (ts : List Tok) → goes_on is_def ts ≡ true → 1 ≤ eols ts → IsStop ts → ⊥
goes-not ts go some (inl h) = absurd (clash (sym go ∙ h))
  where
    clash : true ≡ false → ⊥
    clash e = cc
goes-not ts go some (inr h) = omega (arith, some, h)

-- ---- one reading

module _ {X : Type 0} (read : Reader X) (F : X → Type 0) (t : X → List Tok) (covers : Covers read F t) where
  read-once : (x y : X) (us vs : List Tok) → F x → F y → t x ++ us ≡ t y ++ vs → (x ≡ y) × (us ≡ vs)
  read-once x y us vs h k e =
      let same : Ok (x, us) ≡ Ok (y, vs) = sym (covers.again x us h) ∙ ap read e ∙ covers.again y vs k in
      (ok-value x y us vs same, ok-rest x y us vs same)

-- ---- definitions

defs-once : (ds es : List DefTree) (us vs : List Tok) → AllByRecursion IsDef ds → AllByRecursion IsDef es → IsStop us → IsStop vs → flat_map def_tokens ds ++ us ≡ flat_map def_tokens es ++ vs → (ds ≡ es) × (us ≡ vs)
defs-once [] [] us vs h k s r e = (refl, e)
defs-once [] (d ∷ es) us vs h k s r e =
    let here : us ≡ def_tokens d ++ (flat_map def_tokens es ++ vs) = e ∙ append_assoc (def_tokens d) (flat_map def_tokens es) vs in
    absurd (goes-not us (ap (goes_on is_def) here) (subst (λ (w : List Tok). 1 ≤ eols w) (sym here) (def-ends d k.0 (flat_map def_tokens es ++ vs))) s)
defs-once (d ∷ ds) [] us vs h k s r e =
    let here : vs ≡ def_tokens d ++ (flat_map def_tokens ds ++ us) = sym e ∙ append_assoc (def_tokens d) (flat_map def_tokens ds) us in
    absurd (goes-not vs (ap (goes_on is_def) here) (subst (λ (w : List Tok). 1 ≤ eols w) (sym here) (def-ends d h.0 (flat_map def_tokens ds ++ us))) r)
defs-once (d ∷ ds) (c ∷ es) us vs h k s r e =
    let parts : def_tokens d ++ (flat_map def_tokens ds ++ us) ≡ def_tokens c ++ (flat_map def_tokens es ++ vs) =
    sym (append_assoc (def_tokens d) (flat_map def_tokens ds) us) ∙ e ∙ append_assoc (def_tokens c) (flat_map def_tokens es) vs in
    let first = read-once def_at IsDef def_tokens def-cover d c (flat_map def_tokens ds ++ us) (flat_map def_tokens es ++ vs) h.0 k.0 parts in
    let others = defs-once ds es us vs h.1 k.1 s r first.1 in
    ((λ i. first.0 i ∷ others.0 i), others.1)

-- ---- groups

behind-word : (us vs : List Tok) → Atom (codes "group") ∷ us ≡ Atom (codes "group") ∷ vs → us ≡ vs
behind-word us vs e = cc

module _ (known : KnownTexts) where
  group-once : (g h : GroupTree) (us vs : List Tok) → IsGroupIn (version known) g → IsGroupIn (version known) h → IsStop us → IsStop vs → group_tokens g ++ us ≡ group_tokens h ++ vs → (g ≡ h) × (us ≡ vs)
  group-once g h us vs fg fh s r e =
      let lines : (x : GroupTree) (ws : List Tok) → group_row x ++ ws ≡ lines_of_head (head_of x) ++ (flat_map def_tokens x.defs ++ ws) =
      λ x ws. ap (λ (v : List Tok). v ++ ws) (group-split (head_of x) x.defs) ∙ append_assoc (lines_of_head (head_of x)) (flat_map def_tokens x.defs) ws in
      let rows : group_row g ++ us ≡ group_row h ++ vs = behind-word (group_row g ++ us) (group_row h ++ vs) e in
      let head = read-once (head_at (version known)) (HeadFits (version known)) lines_of_head (head-cover known.version) (head_of g) (head_of h) (flat_map def_tokens g.defs ++ us) (flat_map def_tokens h.defs ++ vs) (head-fits (version known) g fg) (head-fits (version known) h fh) (sym (lines g us) ∙ rows ∙ lines h vs) in
      let defs = defs-once g.defs h.defs us vs fg.defs fh.defs s r head.1 in
      ((λ i. group_of (head.0 i) (defs.0 i)), defs.1)

  -- ---- items

  -- what stands behind a group that was opened
  abbrev Ends : List (Item known) → List Tok → Type 0
  Ends is us = (before : List (Item known)) (g : GroupTree) → is ≡ before ++ Opens g ∷ [] → IsStop us

  ends-rest : (i : Item known) (is : List (Item known)) (us : List Tok) → Ends (i ∷ is) us → Ends is us
  ends-rest i is us h before g e = h (i ∷ before) g (ap (λ (js : List (Item known)). i ∷ js) e)

  behind-stops : (own : List Range) (g : GroupTree) (is : List (Item known)) (us : List Tok) → Ends (Opens g ∷ is) us → IsStop (items_tokens known own is ++ us)
  behind-stops own g [] us h = h [] g refl
  behind-stops own g (Opens k ∷ is) us h = inl refl
  behind-stops own g (Adds l ∷ is) us h = inl (ap (goes_on is_def) (append_assoc (line_tokens known own l) (items_tokens known own is) us) ∙ known.laws.no_def own l (items_tokens known own is ++ us))

  -- one of the lists goes on where the other ends
  abbrev GoesOn : List Range → List (Item known) → List (Item known) → List Tok → List Tok → Type 0
  GoesOn own is js us vs = (more : List (Item known)) × (js ≡ is ++ more) × (us ≡ items_tokens known (last_code own is) more ++ vs)

  parted : (own : List Range) (i : Item known) (is : List (Item known)) (us : List Tok) → items_tokens known own (i ∷ is) ++ us ≡ item_tokens known own i ++ (items_tokens known (code_behind own i) is ++ us)
  parted own i is us = append_assoc (item_tokens known own i) (items_tokens known (code_behind own i) is) us

  -- a group is no line
  apart : (own : List Range) (g : GroupTree) (l : Line known) (us vs : List Tok) → group_tokens g ++ us ≡ line_tokens known own l ++ vs → ⊥
  apart own g l us vs e = true≢false (ap (goes_on ends_proof) e ∙ known.laws.begins own l vs)

  items-once : (own : List Range) (before : List (Line known)) (is js : List (Item known)) (us vs : List Tok) → IsCode own → Are known before → AreItems known before is → AreItems known before js → Ends is us → Ends js vs → items_tokens known own is ++ us ≡ items_tokens known own js ++ vs
      → GoesOn own is js us vs ⊎ GoesOn own js is vs us
  items-once own before [] js us vs c are h k s r e = inl (js, refl, e)
  items-once own before (i ∷ is) [] us vs c are h k s r e = inr (i ∷ is, refl, sym e)
  items-once own before (Opens g ∷ is) (Opens f ∷ js) us vs c are h k s r e =
      let parts : group_tokens g ++ (items_tokens known g.code is ++ us) ≡ group_tokens f ++ (items_tokens known f.code js ++ vs) = sym (parted own (Opens g) is us) ∙ e ∙ parted own (Opens f) js vs in
      let first = group-once g f (items_tokens known g.code is ++ us) (items_tokens known f.code js ++ vs) h.0 k.0 (behind-stops g.code g is us s) (behind-stops f.code f js vs r) parts in
      let more : items_tokens known g.code is ++ us ≡ items_tokens known g.code js ++ vs = first.1 ∙ ap (λ (x : GroupTree). items_tokens known x.code js ++ vs) (sym first.0) in
      elim (items-once g.code [] is js us vs (h.0.code, h.0.bytes) known.laws.none h.1 k.1 (ends-rest (Opens g) is us s) (ends-rest (Opens f) js vs r) more) [
        | inl m ↦ inl (m.0, (λ n. Opens (sym first.0 n) ∷ m.1 n), m.2)
        | inr m ↦ inr (m.0, (λ n. Opens (first.0 n) ∷ m.1 n), m.2 ∙ ap (λ (x : GroupTree). items_tokens known (last_code x.code js) m.0 ++ us) first.0)
      ]
  items-once own before (Opens g ∷ is) (Adds l ∷ js) us vs c are h k s r e =
      absurd (apart own g l (items_tokens known g.code is ++ us) (items_tokens known own js ++ vs) (sym (parted own (Opens g) is us) ∙ e ∙ parted own (Adds l) js vs))
  items-once own before (Adds l ∷ is) (Opens f ∷ js) us vs c are h k s r e =
      absurd (apart own f l (items_tokens known f.code js ++ vs) (items_tokens known own is ++ us) (sym (parted own (Opens f) js vs) ∙ sym e ∙ parted own (Adds l) is us))
  items-once own before (Adds l ∷ is) (Adds m ∷ js) us vs c are h k s r e =
      let parts : line_tokens known own l ++ (items_tokens known own is ++ us) ≡ line_tokens known own m ++ (items_tokens known own js ++ vs) = sym (parted own (Adds l) is us) ∙ e ∙ parted own (Adds m) js vs in
      let first = item-once (line_at known own before) (Fits known before) (line_tokens known own) (known.laws.reads own c before are) l m (items_tokens known own is ++ us) (items_tokens known own js ++ vs) h.0 k.0 parts in
      let others : AreItems known (before ++ l ∷ []) js = subst (λ (x : Line known). AreItems known (before ++ x ∷ []) js) (sym first.0) k.1 in
      elim (items-once own (before ++ l ∷ []) is js us vs c (known.laws.more before l are h.0) h.1 others (ends-rest (Adds l) is us s) (ends-rest (Adds m) js vs r) first.1) [
        | inl x ↦ inl (x.0, (λ n. Adds (sym first.0 n) ∷ x.1 n), x.2)
        | inr x ↦ inr (x.0, (λ n. Adds (first.0 n) ∷ x.1 n), x.2)
      ]

  -- ---- from bytes to tokens

  behind-title : (us vs : List Tok) → title_tokens (version known) ++ us ≡ title_tokens (version known) ++ vs → us ≡ vs
  behind-title us vs e = cc

-- where no whole line begins with def
pub ended-stops : (rest : List ℕ) → (Follows (codes "def") rest → ⊥) → IsStop (lex rest (At Start))
ended-stops rest h = by-first (lex rest (At Start)) refl
  where
    by-lines : (us : List Tok) → lex rest (At Start) ≡ Atom (codes "def") ∷ us → (o : Option (List ℕ)) → first_lines 1 rest ≡ o → IsStop (Atom (codes "def") ∷ us)
    by-lines us e None none = inr (ap eols (sym e) ∙ no-eols rest (At Start) none)
    by-lines us e (Some l) some = let s = atom-stands rest (codes "def") us e in absurd (h (λ none. clash l (sym some ∙ none), s.0, s.1.spelled, s.1.may.1))
      where
        clash : (l : List ℕ) → ◌≡◌ {A = Option (List ℕ)} (Some l) None → ⊥
        clash l e = cc

    by-word : (a : List ℕ) (us : List Tok) → lex rest (At Start) ≡ Atom a ∷ us → (f : Bool) → bytes_eq a (codes "def") ≡ f → IsStop (Atom a ∷ us)
    by-word a us e false f = inl f
    by-word a us e true t =
        let same : a ≡ codes "def" = (bytes_eq-Decides a (codes "def")).0 t in
        subst (λ (w : List ℕ). IsStop (Atom w ∷ us)) (sym same) (by-lines us (e ∙ ap (λ (w : List ℕ). Atom w ∷ us) same) (first_lines 1 rest) refl)

    by-first : (ts : List Tok) → lex rest (At Start) ≡ ts → IsStop ts
    by-first [] e = inl refl
    by-first (Atom a ∷ us) e = by-word a us e (bytes_eq a (codes "def")) refl
    by-first (Left ∷ us) e = inl refl
    by-first (Right ∷ us) e = inl refl
    by-first (Semi ∷ us) e = inl refl
    by-first (Eol ∷ us) e = inl refl
    by-first (Done ∷ us) e = inl refl
    by-first (Stuck ∷ us) e = inl refl

module _ (known : KnownTexts) where
  -- what was read of a text, as a call of a reader has it
  as-given : (p : List ℕ) (ps : List (Proof known)) (h : AreRead known p ps) → HasGiven known ps (record { version = known.version; text = p; rest = h.0; place = newlines (passed known ps) })
  as-given p ps h = record { fit = h.1.fit; text = h.1.text; place = refl; ended = h.1.ended }

  pub given-read : (ps : List (Proof known)) (r : Progress) → HasGiven known ps r → AreReadOver known.readers.grammar (version_of r.version) r.text ps
  given-read ps r h = (r.rest, record { fit = h.fit; text = h.text; ended = h.ended })

  lexed : (is : List (Item known)) (r : Progress) → Given known is r → lex r.text (At Start) ≡ front_tokens known is ++ lex r.rest (At Start)
  lexed is r h = ap (λ (v : List ℕ). lex v (At Start)) h.text ∙ front-lex (front_tokens known is) r.rest (front-lines known is) (front-real known is h.fit)

  stops : (is : List (Item known)) (r : Progress) → Given known is r → Ends known is (lex r.rest (At Start))
  stops is r h before g e = ended-stops r.rest (h.ended before g e)

  abbrev Begins : List (Item known) → List (Item known) → Type 0
  Begins is js = (more : List (Item known)) × (is ≡ js ++ more)

  no-code : IsCode []
  no-code = (tt, tt)

  items-fronts : (is js : List (Item known)) (r q : Progress) → Given known is r → Given known js q → r.text ≡ q.text → Begins is js ⊎ Begins js is
  items-fronts [] js r q h k e = inr (js, refl)
  items-fronts (i ∷ is) [] r q h k e = inl (i ∷ is, refl)
  items-fronts (i ∷ is) (j ∷ js) r q h k e =
      let us = lex r.rest (At Start) in
      let vs = lex q.rest (At Start) in
      let tokens : front_tokens known (i ∷ is) ++ us ≡ front_tokens known (j ∷ js) ++ vs = sym (lexed (i ∷ is) r h) ∙ ap (λ (v : List ℕ). lex v (At Start)) e ∙ lexed (j ∷ js) q k in
      let parts : (title_tokens (version known)) ++ (items_tokens known [] (i ∷ is) ++ us) ≡ title_tokens (version known) ++ (items_tokens known [] (j ∷ js) ++ vs) =
      sym (append_assoc (title_tokens (version known)) (items_tokens known [] (i ∷ is)) us) ∙ tokens ∙ append_assoc (title_tokens (version known)) (items_tokens known [] (j ∷ js)) vs in
      elim (items-once known [] [] (i ∷ is) (j ∷ js) us vs no-code known.laws.none h.fit k.fit (stops (i ∷ is) r h) (stops (j ∷ js) q k) (behind-title known _ _ parts)) [
        | inl m ↦ inr (m.0, m.1)
        | inr m ↦ inl (m.0, m.1)
      ]

  -- of two lists of proofs that are read of one text, one begins with the other
  pub fronts : (p : List ℕ) (ps qs : List (Proof known)) → AreRead known p ps → AreRead known p qs → BeginsWithItems ps qs ⊎ BeginsWithItems qs ps
  fronts p ps qs a b = items-fronts (items ps) (items qs) _ _ (given-items known ps _ refl (as-given p ps a)) (given-items known qs _ refl (as-given p qs b)) refl

  end-item : (own : List Range) (more : List (Item known)) (vs : List Tok) → end_tokens ++ (Done ∷ []) ≡ items_tokens known own more ++ vs → (is js : List (Item known)) → js ≡ is ++ more → is ≡ js
  end-item own [] vs e is js same = sym (same ∙ append-nil is)
  end-item own (Opens g ∷ more) vs e is js same = absurd (clash cc)
    where
      clash : codes "end" ≡ codes "group" → ⊥
      clash e = true≢false (ap (bytes_eq (codes "end")) e)
  end-item own (Adds l ∷ more) vs e is js same =
      absurd (true≢false (ap (goes_on ends_proof) (e ∙ parted known own (Adds l) more vs) ∙ known.laws.begins own l (items_tokens known own more ++ vs)))

  -- what is read of the text of proofs is a front of them
  items-front : (ps : List (Proof known)) (js : List (Item known)) (r : Progress) → AreProofs known ps → r.text ≡ text_of known ps → Given known js r → Begins (items ps) js
  items-front ps [] r are is h = (items ps, refl)
  items-front ps (j ∷ js) r are is h =
      let own = items_tokens known [] (items ps) in
      let us = end_tokens ++ (Done ∷ []) in
      let vs = lex r.rest (At Start) in
      let whole : lex (text_of known ps) (At Start) ≡ proofs_tokens known ps ++ Done ∷ [] = lines-read (proofs_tokens known ps) (proofs-tokens known ps are) ((proof-text-law known).ends ps are) in
      let split : proofs_tokens known ps ++ Done ∷ [] ≡ title_tokens (version known) ++ (own ++ us) =
      append_assoc (title_tokens (version known)) (flat_map (proof_tokens known) ps ++ end_tokens) (Done ∷ [])
      ∙ ap (λ (v : List Tok). title_tokens (version known) ++ v) (append_assoc (flat_map (proof_tokens known) ps) end_tokens (Done ∷ []) ∙ ap (λ (v : List Tok). v ++ us) (proofs-items known [] ps)) in
      let tokens : (title_tokens (version known)) ++ (own ++ us) ≡ title_tokens (version known) ++ (items_tokens known [] (j ∷ js) ++ vs) =
      sym (whole ∙ split) ∙ sym (ap (λ (v : List ℕ). lex v (At Start)) is) ∙ lexed (j ∷ js) r h ∙ append_assoc (title_tokens (version known)) (items_tokens known [] (j ∷ js)) vs in
      pick (items-once known [] [] (items ps) (j ∷ js) us vs no-code known.laws.none (items-fit known ps are []) h.fit (λ before g e. inl refl) (stops (j ∷ js) r h) (behind-title known _ _ tokens))
    where
      pick : GoesOn known [] (items ps) (j ∷ js) (end_tokens ++ (Done ∷ [])) (lex r.rest (At Start)) ⊎ GoesOn known [] (j ∷ js) (items ps) (lex r.rest (At Start)) (end_tokens ++ (Done ∷ [])) → Begins (items ps) (j ∷ js)
      pick (inl m) = ([], end-item (last_code [] (items ps)) m.0 (lex r.rest (At Start)) m.2 (items ps) (j ∷ js) m.1 ∙ sym (append-nil (j ∷ js)))
      pick (inr m) = (m.0, m.1)

  pub text-front : (p : List ℕ) (ps qs : List (Proof known)) → AreProofs known ps → p ≡ text_of known ps → AreRead known p qs → BeginsWithItems ps qs
  text-front p ps qs are is read = items-front ps (items qs) _ are is (given-items known qs _ refl (as-given p qs read))

  -- ---- fewer items

  no-def-first : (own : List Range) (before : List (Line known)) (i : Item known) (is : List (Item known)) (rest : List ℕ) → AreItems known before (i ∷ is) → Follows (codes "def") (spell Start (items_tokens known own (i ∷ is)) ++ rest) → ⊥
  no-def-first own before i is rest h d =
      let ts = items_tokens known own (i ∷ is) in
      let read : Atom (codes "def") ∷ _ ≡ ts ++ lex rest (At Start) = sym (stands-lex Start (spell Start ts ++ rest) (Atom (codes "def")) d.1 (λ n. cc) (follows-stands (codes "def") (spell Start ts ++ rest) def-atom d)) ∙ front-lex ts rest (items-whole known own (i ∷ is)) (items-real known own before (i ∷ is) h) in
      true≢false (ap (goes_on is_def) read ∙ ap (goes_on is_def) (parted known own i is (lex rest (At Start))) ∙ first-word i (items_tokens known (code_behind own i) is ++ lex rest (At Start)))
    where
      first-word : (i : Item known) (us : List Tok) → goes_on is_def (item_tokens known own i ++ us) ≡ false
      first-word (Opens g) us = refl
      first-word (Adds l) us = known.laws.no_def own l us

  -- the bytes of further items
  abbrev further : List (Item known) → List (Item known) → List ℕ
  further is js = spell Start (items_tokens known (last_code [] is) js)

  fewer-given : (i : Item known) (is js : List (Item known)) (r : Progress) → Given known ((i ∷ is) ++ js) r → Given known (i ∷ is) (record { version = r.version; text = r.text; rest = further (i ∷ is) js ++ r.rest; place = newlines (passed_items known (i ∷ is)) })
  fewer-given i is js r h =
      let fits = items-fewer known [] (i ∷ is) js h.fit in
      let front = front_tokens known (i ∷ is) in
      let more = items_tokens known (last_code [] (i ∷ is)) js in
      let tokens : front_tokens known ((i ∷ is) ++ js) ≡ front ++ more = ap (λ (v : List Tok). title_tokens (version known) ++ v) (tokens-behind known [] (i ∷ is) js) ∙ sym (append_assoc (title_tokens (version known)) (items_tokens known [] (i ∷ is)) more) in
      let parts : passed_items known ((i ∷ is) ++ js) ≡ passed_items known (i ∷ is) ++ further (i ∷ is) js = ap (spell Start) tokens ∙ spell-after_lines front more (front-lines known (i ∷ is)) in
      record {
        fit = fits.0;
        start = starts-fewer (i ∷ is) js h.start;
        text = h.text ∙ ap (λ (v : List ℕ). v ++ r.rest) parts ∙ append_assoc (passed_items known (i ∷ is)) (further (i ∷ is) js) r.rest;
        place = refl;
        ended = λ before g e. by js fits.1 h.ended before g e;
      }
    where
      by : (js : List (Item known)) → AreItems known (last_lines [] (i ∷ is)) js → ((before : List (Item known)) (g : GroupTree) → (i ∷ is) ++ js ≡ before ++ Opens g ∷ [] → Follows (codes "def") r.rest → ⊥)
          → (before : List (Item known)) (g : GroupTree) → i ∷ is ≡ before ++ Opens g ∷ [] → Follows (codes "def") (further (i ∷ is) js ++ r.rest) → ⊥
      by [] f ended before g e d = ended before g (append-nil (i ∷ is) ∙ e) d
      by (j ∷ js) f ended before g e d = no-def-first (last_code [] (i ∷ is)) (last_lines [] (i ∷ is)) j js r.rest f d

  nothing-given : (text : List ℕ) → HasGiven known [] (record { version = known.version; text = text; rest = text; place = 0 })
  nothing-given text = record { fit = tt; text = refl; place = refl; ended = λ before g e d. no-proof before g e }
    where
      no-proof : (before : List (Proof known)) (g : GroupTree) → [] ≡ before ++ bare g ∷ [] → ⊥
      no-proof [] g e = cc
      no-proof (p ∷ before) g e = cc

  pub front-read : (p : List ℕ) (ps qs : List (Proof known)) → AreRead known p ps → BeginsWithItems ps qs → AreRead known p qs
  front-read p ps [] h b = given-read [] _ (nothing-given p)
  front-read p ps (q ∷ qs) h b =
      let all = subst (λ (js : List (Item known)). Given known js (record { version = known.version; text = p; rest = h.0; place = newlines (passed known ps) })) b.1 (given-items known ps _ refl (as-given p ps h)) in
      given-read (q ∷ qs) _ (items-given known (q ∷ qs) _ refl (fewer-given (Opens q.group) _ b.0 _ all))

  -- each item takes a byte
  item-some : (own : List Range) (i : Item known) → 1 ≤ length (item_tokens known own i)
  item-some own (Opens g) = omega arith
  item-some own (Adds l) = omega (arith, known.laws.long own l)

  each-long : (own : List Range) (is : List (Item known)) → length is ≤ length (items_tokens known own is)
  each-long own [] = omega arith
  each-long own (i ∷ is) = omega (arith, item-some own i, length-append (item_tokens known own i) (items_tokens known (code_behind own i) is), each-long (code_behind own i) is)

  few-items : (is : List (Item known)) (r : Progress) → Given known is r → length is ≤ length r.text
  few-items [] r h = omega arith
  few-items (i ∷ is) r h =
      let ts : List Tok = front_tokens known (i ∷ is) in
      let all : length r.text ≡ length (spell Start ts) + length r.rest = ap length h.text ∙ length-append (spell Start ts) r.rest in
      omega (arith, each-long [] (i ∷ is), length-append (title_tokens (version known)) (items_tokens known [] (i ∷ is)), spell-long Start ts (front-real known (i ∷ is) h.fit), all)

  pub few-read : (text : List ℕ) (ps : List (Proof known)) → AreRead known text ps → length (items ps) ≤ length text
  few-read text ps h = few-items (items ps) _ (given-items known ps _ refl (as-given text ps h))
