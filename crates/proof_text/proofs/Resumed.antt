-- Reading goes on behind groups and lines that were read, one call for each.
use Rattle.std.proofs.Common.{◌≡◌, ℕ, zero, suc, ◌≤◌, Bool, true, false, true≢false, cond, List, [], ◌∷◌, ◌++◌, length, codes, Option, Some, None, Ok, Err, refl, sym, ap, subst, ◌∙◌, arith, append_assoc, length-append, inl, inr}
use Rattle.std.specs.Prelude.{◌||◌}
use Rattle.std.specs.List.{AllByRecursion, flat_map}
use Rattle.std.specs.Str.{bytes_eq}
use Rattle.std.proofs.lemmas.Slice.Eq.{bytes_eq-Decides}
use Rattle.mc_text.specs.Tokens.{Tok, Left, Right, Semi, Atom, Eol, Done, Stuck}
use Rattle.mc_text.specs.Reading.{Reader, ◌>>=◌, pair, with, made, many, goes_on, refused}
use Rattle.mc_text.specs.inner.Reading.{eol, keyed}
use Rattle.mc_text.proofs.ReaderLaws.{Out, ok-rest, ok-value, err-is, IsElse, keyed-cases, keyed-hit, keyed-miss}
use Rattle.mc_text.proofs.Turns.{many-one, many-stop, many-none}
use Rattle.rv_words.specs.declared.range.Range.{Range}
use Rattle.tailrec_lang.specs.Tree.{DefTree, GroupTree}
use Rattle.group_text.specs.Limits.{def_limit, IsDef, IsGroupIn}
use Rattle.group_text.specs.Spelling.{def_tokens, group_tokens}
use Rattle.group_text.specs.inner.Reading.{Head, def_at, is_def, are_some, own_defs, head_at, group_of, group_at, next_at}
use Rattle.group_text.proofs.HeadLaws.{IsCode, true-le}
use Rattle.group_text.proofs.OwnDefs.{Defs, good, bad, guard, judge, sent, many-again, own-takes, own-again, def-refuses}
use Rattle.group_text.proofs.Texts.{HeadFits, head_of, head-fits, lines_of_head, head-cover, def-cover, def-begins, group_row, group-split}
use Rattle.proof_text.specs.inner.LineReaders.{KnownTexts, ends_proof, more_defs, defs_at, behind_head, group_first, line_first, nothing_more, end_or_group, tail_at}
use Rattle.proof_text.proofs.KnownLines.{version, Line, Tail, line_tokens, Are, Fits, line_at, turn, tail_from, all}
use Rattle.proof_text.proofs.ProofTexts.{no-end, no-group, group_reader, line_reader, enough}

-- ---- a reader's parts

pub made-bad : {X Y : Type 0} (make : X → Y) (q : Out X) (bad : List Tok) → ◌>>=◌ {A = X × List Tok} {B = Y × List Tok} q (λ p. Ok (make p.0, p.1)) ≡ Err bad → q ≡ Err bad
made-bad make (Ok p) bad e = absurd cc
made-bad {X} {Y} make (Err other) bad e = ap (λ (v : List Tok). Err v) (err-is {Y = Y} other bad e)

pub made-good : {X Y : Type 0} (make : X → Y) (q : Out X) (y : Y) (rest : List Tok) → ◌>>=◌ {A = X × List Tok} {B = Y × List Tok} q (λ p. Ok (make p.0, p.1)) ≡ Ok (y, rest) → (x : X) × (q ≡ Ok (x, rest)) × (make x ≡ y)
made-good {X} {Y} make (Ok p) y rest e = (p.0, ap (λ (v : List Tok). Ok (p.0, v)) (ok-rest {Y = Y} (make p.0) y p.1 rest e), ok-value {Y = Y} (make p.0) y p.1 rest e)
made-good make (Err bad) y rest e = absurd cc

module _ {X Y : Type 0} (a : Reader X) (b : Reader Y) where
  abbrev second : X → Out Y → Out (X × Y)
  second x q = ◌>>=◌ {A = Y × List Tok} {B = (X × Y) × List Tok} q (λ y. Ok ((x, y.0), y.1))

  abbrev both : Out X → Out (X × Y)
  both q = ◌>>=◌ {A = X × List Tok} {B = (X × Y) × List Tok} q (λ p. second p.0 (b p.1))

  second-good : (x : X) (q : Out Y) (p : X × Y) (rest : List Tok) → second x q ≡ Ok (p, rest) → (q ≡ Ok (p.1, rest)) × (x ≡ p.0)
  second-good x (Ok y) p rest e =
      let same : (x, y.0) ≡ p = ok-value {Y = X × Y} (x, y.0) p y.1 rest e in
      ((λ i. Ok ((same i).1, ok-rest {Y = X × Y} (x, y.0) p y.1 rest e i)), ap (λ (z : X × Y). z.0) same)
  second-good x (Err bad) p rest e = absurd cc

  both-good : (q : Out X) (p : X × Y) (rest : List Tok) → both q ≡ Ok (p, rest) → (us : List Tok) × (q ≡ Ok (p.0, us)) × (b us ≡ Ok (p.1, rest))
  both-good (Ok x) p rest e = let k = second-good x.0 (b x.1) p rest e in (x.1, ap (λ (z : X). Ok (z, x.1)) k.1, k.0)
  both-good (Err bad) p rest e = absurd cc

  pub pair-good : (ts : List Tok) (p : X × Y) (rest : List Tok) → pair a b ts ≡ Ok (p, rest) → (us : List Tok) × (a ts ≡ Ok (p.0, us)) × (b us ≡ Ok (p.1, rest))
  pair-good ts p rest e = both-good (a ts) p rest e

-- reading stops where a pair stops whose second part is read by b too
pub with-bad : {X Y Z : Type 0} (a : Reader X) (b : X → Reader Y) (c : Reader Z) (ts bad : List Tok) → ((x : X) (us bad : List Tok) → c us ≡ Err bad → b x us ≡ Err bad) → pair a c ts ≡ Err bad → with a b ts ≡ Err bad
with-bad {X} {Y} {Z} a b c ts bad h e = by (a ts) e
  where
    third : (x : X) (q : Out Z) (bad : List Tok) → ◌>>=◌ {A = Z × List Tok} {B = (X × Z) × List Tok} q (λ y. Ok ((x, y.0), y.1)) ≡ Err bad → q ≡ Err bad
    third x (Ok y) bad e = absurd cc
    third x (Err other) bad e = ap (λ (v : List Tok). Err v) (err-is {Y = X × Z} other bad e)

    by : (q : Out X) → ◌>>=◌ {A = X × List Tok} {B = (X × Z) × List Tok} q (λ p. ◌>>=◌ {A = Z × List Tok} {B = (X × Z) × List Tok} (c p.1) (λ y. Ok ((p.0, y.0), y.1))) ≡ Err bad
        → ◌>>=◌ {A = X × List Tok} {B = (X × Y) × List Tok} q (λ p. ◌>>=◌ {A = Y × List Tok} {B = (X × Y) × List Tok} (b p.0 p.1) (λ y. Ok ((p.0, y.0), y.1))) ≡ Err bad
    by (Ok x) e = ap (λ (q : Out Y). ◌>>=◌ {A = Y × List Tok} {B = (X × Y) × List Tok} q (λ y. Ok ((x.0, y.0), y.1))) (h x.0 x.1 bad (third x.0 (c x.1) bad e))
    by (Err other) e = ap (λ (v : List Tok). Err v) (err-is {Y = X × Z} other bad e)

-- ---- where one group stops, all proofs stop

abbrev joined : DefTree → Defs → Defs
joined d q = ◌>>=◌ {A = List DefTree × List Tok} {B = List DefTree × List Tok} q (λ xs. Ok (d ∷ xs.0, xs.1))

module _ {Z : Type 0} (R : Reader Z) (refuse : (us : List Tok) → goes_on is_def us ≡ true → R us ≡ Err us) where
  abbrev Behind : Type 0
  Behind = Out (List DefTree × Z)

  abbrev with_more : Defs → Behind
  with_more q = ◌>>=◌ {A = List DefTree × List Tok} {B = (List DefTree × Z) × List Tok} q (λ p. ◌>>=◌ {A = Z × List Tok} {B = (List DefTree × Z) × List Tok} (R p.1) (λ y. Ok ((p.0, y.0), y.1)))

  not-bad : (p : List DefTree × List Tok) (us : List Tok) → good p ≡ bad us → ⊥
  not-bad p us e = cc

  rest-stops : (d : DefTree) (q : Defs) (us : List Tok) → judge (guard (joined d q)) ≡ Err us → with_more q ≡ Err us
  rest-stops d (Ok p) us h = by (goes_on is_def p.1) refl
    where
      some-is : are_some (d ∷ p.0) ≡ true
      some-is = true-le 1 (length (d ∷ p.0)) (omega arith)

      by : (g : Bool) → goes_on is_def p.1 ≡ g → with_more (good p) ≡ Err us
      by true e =
          let same : p.1 ≡ us = err-is {Y = List DefTree} p.1 us (sym (sent (d ∷ p.0) p.1 true true e some-is) ∙ h) in
          rw (refuse p.1 e) (ap (λ (v : List Tok). Err v) same)
      by false e = absurd (not-bad (d ∷ p.0, p.1) us (sym (sent (d ∷ p.0) p.1 false true e some-is) ∙ h))
  rest-stops d (Err other) us h = ap (λ (v : List Tok). Err v) (err-is {Y = List DefTree} other us h)

  abbrev front : Out DefTree → Out (DefTree × (List DefTree × Z))
  front q = ◌>>=◌ {A = DefTree × List Tok} {B = (DefTree × (List DefTree × Z)) × List Tok} q (λ p. ◌>>=◌ {A = (List DefTree × Z) × List Tok} {B = (DefTree × (List DefTree × Z)) × List Tok} (pair defs_at R p.1) (λ y. Ok ((p.0, y.0), y.1)))

  defs-stop : (ts us : List Tok) (q : Out DefTree) → goes_on is_def ts ≡ true → def_at ts ≡ q → own_defs ts ≡ Err us → front q ≡ Err us
  defs-stop ts us (Ok p) g e h =
      let k = rest-stops p.0 (many more_defs is_def def_at p.1) us (sym (ap (λ (q : Defs). judge (guard q)) (many-one is_def def_at more_defs ts p.0 p.1 g e)) ∙ h) in
      rw k refl
  defs-stop ts us (Err other) g e h = ap (λ (v : List Tok). Err v) (err-is {Y = List DefTree} other us (sym (ap (λ (q : Defs). judge (guard q)) (many-stop is_def def_at more_defs ts other g e)) ∙ h))

  own-stops : (ts us : List Tok) → own_defs ts ≡ Err us → pair def_at (pair defs_at R) ts ≡ Err us
  own-stops ts us h = by (goes_on is_def ts) refl
    where
      by : (g : Bool) → goes_on is_def ts ≡ g → pair def_at (pair defs_at R) ts ≡ Err us
      by true g = defs-stop ts us (def_at ts) g refl h
      by false g =
          let same : ts ≡ us = err-is {Y = List DefTree} ts us (sym (ap (λ (q : Defs). judge (guard q)) (many-none is_def def_at def_limit ts g) ∙ sent [] ts false false g refl) ∙ h) in
          rw (def-refuses ts g) (ap (λ (v : List Tok). Err v) same)

module _ (known : KnownTexts) where
  -- nothing behind a group's definitions begins as a definition does
  refuse-word : (n : ℕ) (own : List Range) (us : List Tok) → tail_from known n own [] (Atom (codes "def") ∷ us) ≡ Err (Atom (codes "def") ∷ us)
  unfolding tail_at
  refuse-word zero own us = refl
  refuse-word (suc n) own us = rw (known.laws.refuses_def own [] us) refl

  refuse-def : (n : ℕ) (own : List Range) (us : List Tok) → goes_on is_def us ≡ true → tail_from known n own [] us ≡ Err us
  refuse-def n own [] e = absurd cc
  refuse-def n own (Atom a ∷ us) e = let same : a ≡ codes "def" = (bytes_eq-Decides a (codes "def")).0 e in rw same (refuse-word n own us)
  refuse-def n own (Left ∷ us) e = absurd cc
  refuse-def n own (Right ∷ us) e = absurd cc
  refuse-def n own (Semi ∷ us) e = absurd cc
  refuse-def n own (Eol ∷ us) e = absurd cc
  refuse-def n own (Done ∷ us) e = absurd cc
  refuse-def n own (Stuck ∷ us) e = absurd cc

  abbrev tail_code : ℕ → List Range → Reader (Tail known)
  tail_code n own = tail_from known n own []

  group-stops : (n : ℕ) (ts us : List Tok) → group_at (version known) ts ≡ Err us → group_reader known n ts ≡ Err us
  unfolding group_at
  group-stops n ts us h =
      let parts : pair (head_at (version known)) own_defs ts ≡ Err us = made-bad {X = Head × List DefTree} {Y = GroupTree} (λ x. group_of x.0 x.1) (pair (head_at (version known)) own_defs ts) us h in
      rw (with-bad (head_at (version known)) (λ x. behind_head (tail_code n x.code)) own_defs ts us (λ x vs bad. own-stops (tail_code n x.code) (refuse-def n x.code) vs bad) parts) refl

  abbrev some_group : Reader (Option GroupTree)
  some_group = made Some (group_at (version known))

  abbrev no_next : Reader (Option GroupTree)
  no_next = made (λ (_ : Unit {0}). None) eol

  abbrev group_key : Reader (Option GroupTree)
  group_key = keyed (codes "group") some_group refused

  -- the same where the tokens begin otherwise
  else-alike : {X Y : Type 0} (k : List ℕ) (r other : Reader X) (q more : Reader Y) (ts : List Tok) → IsElse k r other ts → IsElse k q more ts
  else-alike k r other q more [] h = tt
  else-alike k r other q more (Atom a ∷ ts) h = h
  else-alike k r other q more (Left ∷ ts) h = tt
  else-alike k r other q more (Right ∷ ts) h = tt
  else-alike k r other q more (Semi ∷ ts) h = tt
  else-alike k r other q more (Eol ∷ ts) h = tt
  else-alike k r other q more (Done ∷ ts) h = tt
  else-alike k r other q more (Stuck ∷ ts) h = tt

  abbrev nothing : Reader (Tail known)
  nothing = nothing_more

  abbrev first_key : ℕ → Reader (Tail known)
  first_key n = keyed (codes "group") (group_reader known n) refused

  key-stops : (n : ℕ) (ts us : List Tok) → group_key ts ≡ Err us → first_key n ts ≡ Err us
  key-stops n ts us h =
      elim (keyed-cases (codes "group") some_group refused ts (Err us) h) [
        | inl k ↦ ap (first_key n) k.1 ∙ keyed-hit (codes "group") (group_reader known n) refused k.0 ∙ group-stops n k.0 us (made-bad {X = GroupTree} {Y = Option GroupTree} Some (group_at (version known) k.0) us k.2)
        | inr k ↦ keyed-miss (codes "group") (group_reader known n) refused ts (else-alike (codes "group") some_group refused (group_reader known n) refused ts k.0) ∙ ap (λ (v : List Tok). Err v) (err-is {Y = Option GroupTree} ts us k.1)
      ]

  pub next-stops : (ts us : List Tok) → next_at (version known) ts ≡ Err us → all known ts ≡ Err us
  unfolding next_at
  next-stops ts us h =
      let n : ℕ = length ts in
      elim (keyed-cases (codes "end") no_next group_key ts (Err us) h) [
        | inl k ↦ ap (keyed (codes "end") nothing (first_key n)) k.1 ∙ keyed-hit (codes "end") nothing (first_key n) k.0 ∙ rw (made-bad {X = Unit {0}} {Y = Option GroupTree} (λ _. None) (eol k.0) us k.2) refl
        | inr k ↦ keyed-miss (codes "end") nothing (first_key n) ts (else-alike (codes "end") no_next group_key nothing (first_key n) ts k.0) ∙ key-stops n ts us k.1
      ]

  not-none : (g : GroupTree) → Some g ≡ None → ⊥
  not-none g e = cc

  not-some : (g : GroupTree) → None ≡ Some g → ⊥
  not-some g e = cc

  never-read : (ts us : List Tok) (o : Option GroupTree) → refused ts ≡ Ok (o, us) → ⊥
  never-read ts us o e = cc

  group-not-end : (ts us : List Tok) → group_key ts ≡ Ok (None, us) → ⊥
  group-not-end ts us h =
      elim (keyed-cases (codes "group") some_group refused ts (Ok (None, us)) h) [
        | inl k ↦ let m = made-good {X = GroupTree} {Y = Option GroupTree} Some (group_at (version known) k.0) None us k.2 in not-none m.0 m.2
        | inr k ↦ never-read ts us None k.1
      ]

  pub next-end : (ts us : List Tok) → next_at (version known) ts ≡ Ok (None, us) → all known ts ≡ Ok (([], []), us)
  unfolding next_at
  next-end ts us h =
      let n : ℕ = length ts in
      elim (keyed-cases (codes "end") no_next group_key ts (Ok (None, us)) h) [
        | inl k ↦ ap (keyed (codes "end") nothing (first_key n)) k.1 ∙ keyed-hit (codes "end") nothing (first_key n) k.0 ∙ rw (made-good {X = Unit {0}} {Y = Option GroupTree} (λ _. None) (eol k.0) None us k.2).1 refl
        | inr k ↦ absurd (group-not-end ts us k.1)
      ]

  -- ---- what a group was read from

  pub record OneGroup (ts : List Tok) (g : GroupTree) (us : List Tok) : Type 0 where
    pub is : ts ≡ group_tokens g ++ us
    pub fits : IsGroupIn (version known) g
    pub ended : goes_on is_def us ≡ false

  group-takes : (ts : List Tok) (g : GroupTree) (us : List Tok) → group_at (version known) ts ≡ Ok (g, us) → OneGroup (Atom (codes "group") ∷ ts) g us
  unfolding group_at
  group-takes ts g us h =
      let m = made-good {X = Head × List DefTree} {Y = GroupTree} (λ x. group_of x.0 x.1) (pair (head_at (version known)) own_defs ts) g us h in
      let p = pair-good (head_at (version known)) own_defs ts m.0 us m.1 in
      let a = (head-cover known.version).takes ts m.0.0 p.0 p.1 in
      let b = own-takes p.0 m.0.1 us p.2 in
      subst (λ (z : GroupTree). OneGroup (Atom (codes "group") ∷ ts) z us) m.2 (record {
        is = ap (λ (v : List Tok). Atom (codes "group") ∷ v) (a.0 ∙ ap (λ (v : List Tok). lines_of_head m.0.0 ++ v) b.0 ∙ sym (append_assoc (lines_of_head m.0.0) (flat_map def_tokens m.0.1) us) ∙ ap (λ (v : List Tok). v ++ us) (sym (group-split m.0.0 m.0.1)));
        fits = record { name = a.1.name; registers = a.1.registers; memories = a.1.memories; code = a.1.code.0; bytes = a.1.code.1; defs = b.1.fit; some = b.1.some; few = b.1.few };
        ended = b.1.ended;
      })

  same-group : (g k : GroupTree) → Some g ≡ Some k → g ≡ k
  same-group g k e = cc

  key-takes : (ts : List Tok) (g : GroupTree) (us : List Tok) → group_key ts ≡ Ok (Some g, us) → OneGroup ts g us
  key-takes ts g us h =
      elim (keyed-cases (codes "group") some_group refused ts (Ok (Some g, us)) h) [
        | inl k ↦
            let m = made-good {X = GroupTree} {Y = Option GroupTree} Some (group_at (version known) k.0) (Some g) us k.2 in
            subst (λ (v : List Tok). OneGroup v g us) (sym k.1) (subst (λ (z : GroupTree). OneGroup (Atom (codes "group") ∷ k.0) z us) (same-group m.0 g m.2) (group-takes k.0 m.0 us m.1))
        | inr k ↦ absurd (never-read ts us (Some g) k.1)
      ]

  pub next-takes : (ts : List Tok) (g : GroupTree) (us : List Tok) → next_at (version known) ts ≡ Ok (Some g, us) → OneGroup ts g us
  unfolding next_at
  next-takes ts g us h =
      elim (keyed-cases (codes "end") no_next group_key ts (Ok (Some g, us)) h) [
        | inl k ↦ let m = made-good {X = Unit {0}} {Y = Option GroupTree} (λ _. None) (eol k.0) (Some g) us k.2 in absurd (not-some g m.2)
        | inr k ↦ key-takes ts g us k.1
      ]

  -- ---- and it is read again

  group-parts : (g : GroupTree) (us : List Tok) → group_row g ++ us ≡ lines_of_head (head_of g) ++ (flat_map def_tokens g.defs ++ us)
  group-parts g us = ap (λ (v : List Tok). v ++ us) (group-split (head_of g) g.defs) ∙ append_assoc (lines_of_head (head_of g)) (flat_map def_tokens g.defs) us

  group-again : (g : GroupTree) (us : List Tok) → IsGroupIn (version known) g → goes_on is_def us ≡ false → group_at (version known) (group_row g ++ us) ≡ Ok (g, us)
  unfolding group_at
  group-again g us h e =
      ap (made (λ (x : Head × List DefTree). group_of x.0 x.1) (pair (head_at (version known)) own_defs)) (group-parts g us)
      ∙ rw ((head-cover known.version).again (head_of g) (flat_map def_tokens g.defs ++ us) (head-fits (version known) g h), own-again g.defs us (record { fit = h.defs; some = h.some; few = h.few; ended = e })) refl

  as-some : (vs : List Tok) → next_at (version known) (Atom (codes "group") ∷ vs) ≡ some_group vs
  unfolding next_at
  as-some vs = refl

  pub next-again : (g : GroupTree) (us : List Tok) → IsGroupIn (version known) g → goes_on is_def us ≡ false → next_at (version known) (group_tokens g ++ us) ≡ Ok (Some g, us)
  next-again g us h e = as-some (group_row g ++ us) ∙ rw (group-again g us h e) refl

-- ---- what stands behind items

module _ (known : KnownTexts) where
  abbrev pub Tails : Type 0
  Tails = Out (Tail known)

  -- a group in front, to which the lines that follow belong
  abbrev pub opened : GroupTree → Tails → Tails
  opened g q = ◌>>=◌ {A = Tail known × List Tok} {B = Tail known × List Tok} q (λ p. Ok (([], record { group = g; lines = p.0.0 } ∷ p.0.1), p.1))

  -- a line in front
  abbrev pub added : Line known → Tails → Tails
  added l q = ◌>>=◌ {A = Tail known × List Tok} {B = Tail known × List Tok} q (λ p. Ok ((l ∷ p.0.0, p.0.1), p.1))

  -- further lines of the group of that code behind these, and all proofs behind
  abbrev pub rest_at : List Range → List (Line known) → Reader (Tail known)
  rest_at own before ts = tail_from known (length ts) own before ts

  abbrev GroupTail : Type 0
  GroupTail = DefTree × (List DefTree × Tail known)

  abbrev put : Head → DefTree → List DefTree → Tails → Tails
  put h d ds q = ◌>>=◌ {A = (Head × GroupTail) × List Tok} {B = Tail known × List Tok}
      (◌>>=◌ {A = GroupTail × List Tok} {B = (Head × GroupTail) × List Tok}
      (◌>>=◌ {A = (List DefTree × Tail known) × List Tok} {B = GroupTail × List Tok}
      (◌>>=◌ {A = Tail known × List Tok} {B = (List DefTree × Tail known) × List Tok} q (λ p. Ok ((ds, p.0), p.1))) (λ p. Ok ((d, p.0), p.1))) (λ p. Ok ((h, p.0), p.1))) (λ p. Ok (group_first p.0, p.1))

  put-is : (h : Head) (d : DefTree) (ds : List DefTree) (q : Tails) → put h d ds q ≡ opened (group_of h (d ∷ ds)) q
  put-is h d ds (Ok p) = refl
  put-is h d ds (Err bad) = refl

  reader-again : (n : ℕ) (h : Head) (d : DefTree) (ds : List DefTree) (us : List Tok) → HeadFits (version known) h → IsDef d → AllByRecursion IsDef ds → length ds ≤ more_defs → goes_on is_def us ≡ false
      → group_reader known n (lines_of_head h ++ ((def_tokens d ++ flat_map def_tokens ds) ++ us)) ≡ opened (group_of h (d ∷ ds)) (tail_code known n h.code us)
  reader-again n h d ds us fh fd fds le e =
      rw ((head-cover known.version).again h ((def_tokens d ++ flat_map def_tokens ds) ++ us) fh, append_assoc (def_tokens d) (flat_map def_tokens ds) us, def-cover.again d (flat_map def_tokens ds ++ us) fd, many-again is_def def_at IsDef def_tokens def-cover def-begins more_defs ds us fds le e)
      (put-is h d ds (tail_code known n h.code us))

  -- a group in front
  one-more : (n : ℕ) (g : GroupTree) (ds : List DefTree) (us : List Tok) → g.defs ≡ ds → IsGroupIn (version known) g → goes_on is_def us ≡ false → group_reader known n (group_row g ++ us) ≡ opened g (tail_code known n g.code us)
  one-more n g [] us is h e = absurd (let len : length g.defs ≡ 0 = ap length is in omega (arith, h.some, len))
  one-more n g (d ∷ ds) us is h e =
      let fits : AllByRecursion IsDef (d ∷ ds) = subst (AllByRecursion IsDef) is h.defs in
      let len : length g.defs ≡ suc (length ds) = ap length is in
      ap (group_reader known n) (group-parts known g us ∙ ap (λ (v : List DefTree). lines_of_head (head_of g) ++ (flat_map def_tokens v ++ us)) is)
      ∙ reader-again n (head_of g) d ds us (head-fits (version known) g h) fits.0 fits.1 (omega (arith, h.few, len)) e
      ∙ ap (λ (v : List DefTree). opened (group_of (head_of g) v) (tail_code known n g.code us)) (sym is)

  pub all-one : (g : GroupTree) (us : List Tok) → IsGroupIn (version known) g → goes_on is_def us ≡ false → all known (group_tokens g ++ us) ≡ opened g (rest_at g.code [] us)
  all-one g us h e =
      let n : ℕ = length (group_tokens g ++ us) in
      one-more n g g.defs us refl h e ∙ ap (opened g) (enough known n (length us) g.code (h.code, h.bytes) [] known.laws.none us (omega (arith, length-append (group_tokens g) us)) (omega arith))

  -- ---- where the lines of a group have ended

  -- a group or the end follows, whatever else is read otherwise
  either-word : (f : List Range → Reader (Tail known)) (r q : Reader (Tail known)) (a : List ℕ) (ts : List Tok) (x y : Bool) → bytes_eq a (codes "group") ≡ x → bytes_eq a (codes "end") ≡ y → x || y ≡ true
      → end_or_group (version known) f r (Atom a ∷ ts) ≡ end_or_group (version known) f q (Atom a ∷ ts)
  either-word f r q a ts x true g e h = rw e refl
  either-word f r q a ts true false g e h = rw (e, g) refl
  either-word f r q a ts false false g e h = absurd (true≢false (sym h))

  either-same : (f : List Range → Reader (Tail known)) (r q : Reader (Tail known)) (ts : List Tok) → goes_on ends_proof ts ≡ true → end_or_group (version known) f r ts ≡ end_or_group (version known) f q ts
  either-same f r q [] e = absurd (true≢false (sym e))
  either-same f r q (Atom a ∷ ts) e = either-word f r q a ts (bytes_eq a (codes "group")) (bytes_eq a (codes "end")) refl refl e
  either-same f r q (Left ∷ ts) e = absurd (true≢false (sym e))
  either-same f r q (Right ∷ ts) e = absurd (true≢false (sym e))
  either-same f r q (Semi ∷ ts) e = absurd (true≢false (sym e))
  either-same f r q (Eol ∷ ts) e = absurd (true≢false (sym e))
  either-same f r q (Done ∷ ts) e = absurd (true≢false (sym e))
  either-same f r q (Stuck ∷ ts) e = absurd (true≢false (sym e))

  as-either : (n : ℕ) (own : List Range) (before : List (Line known)) (ts : List Tok) → tail_from known (suc n) own before ts ≡ end_or_group (version known) (tail_code known n) (line_reader known n own before) ts
  unfolding tail_at
  as-either n own before ts = refl

  module _ (own : List Range) (code : IsCode own) (before : List (Line known)) (are : Are known before) where
    in-either : (ts : List Tok) → rest_at own before ts ≡ end_or_group (version known) (tail_code known (length ts)) (line_reader known (length ts) own before) ts
    in-either ts = enough known (length ts) (suc (length ts)) own code before are ts (omega arith) (omega arith) ∙ as-either (length ts) own before ts

    pub rest-none : (ts : List Tok) → goes_on ends_proof ts ≡ true → rest_at own before ts ≡ all known ts
    rest-none ts e = in-either ts ∙ either-same (tail_code known (length ts)) (line_reader known (length ts) own before) refused ts e

    -- and where they haven't
    pub rest-line : (ts : List Tok) → goes_on ends_proof ts ≡ false → rest_at own before ts ≡ line_reader known (length ts) own before ts
    rest-line ts e =
        let n : ℕ = length ts in
        let with_group : Reader (Tail known) = keyed (codes "group") (group_reader known n) (line_reader known n own before) in
        in-either ts ∙ keyed-miss (codes "end") nothing_more with_group ts (no-end nothing_more with_group ts e) ∙ keyed-miss (codes "group") (group_reader known n) (line_reader known n own before) ts (no-group (group_reader known n) (line_reader known n own before) ts e)

-- ---- a call for a line

module _ (known : KnownTexts) where
  abbrev Turned : Type 0
  Turned = Out (Option (Line known))

  abbrev none_left : List Tok → Turned
  none_left ts = Ok (None, ts)

  pub ends-nothing : (own : List Range) (before : List (Line known)) (ts : List Tok) → goes_on ends_proof ts ≡ true → turn known own before ts ≡ Ok (None, ts)
  ends-nothing own before ts e = rw e refl

  -- where a call reads a group or the end, no line stands
  word-first : (k : List ℕ) (ts us : List Tok) → (bytes_eq k (codes "group") || bytes_eq k (codes "end")) ≡ true → ts ≡ Atom k ∷ us → goes_on ends_proof ts ≡ true
  word-first k ts us e is = ap (goes_on ends_proof) is ∙ e

  pub next-word : (ts : List Tok) (o : Option GroupTree) (us : List Tok) → next_at (version known) ts ≡ Ok (o, us) → goes_on ends_proof ts ≡ true
  unfolding next_at
  next-word ts o us h =
      elim (keyed-cases (codes "end") (no_next known) (group_key known) ts (Ok (o, us)) h) [
        | inl k ↦ word-first (codes "end") ts k.0 refl k.1
        | inr k ↦ elim (keyed-cases (codes "group") (some_group known) refused ts (Ok (o, us)) k.1) [
          | inl m ↦ word-first (codes "group") ts m.0 refl m.1
          | inr m ↦ absurd (never-read known ts us o m.1)
        ]
      ]

  pub record OneLine (own : List Range) (before : List (Line known)) (ts : List Tok) (l : Line known) (us : List Tok) : Type 0 where
    pub is : ts ≡ line_tokens known own l ++ us
    pub fits : Fits known before l

  line-in-front : (l : Line known) (q : Tails known) → ◌>>=◌ {A = (Line known × Tail known) × List Tok} {B = Tail known × List Tok} (◌>>=◌ {A = Tail known × List Tok} {B = (Line known × Tail known) × List Tok} q (λ y. Ok ((l, y.0), y.1))) (λ p. Ok (line_first p.0, p.1)) ≡ added known l q
  line-in-front l (Ok y) = refl
  line-in-front l (Err bad) = refl

  module _ (own : List Range) (code : IsCode own) (before : List (Line known)) (are : Are known before) where
    pub rest-added : (l : Line known) (us : List Tok) → Fits known before l → rest_at known own before (line_tokens known own l ++ us) ≡ added known l (rest_at known own (before ++ l ∷ []) us)
    rest-added l us h =
        let ts = line_tokens known own l ++ us in
        let n : ℕ = length ts in
        rest-line known own code before are ts (known.laws.begins own l us)
        ∙ rw ((known.laws.reads own code before are).again l us h) (line-in-front l (tail_from known n own (before ++ l ∷ []) us))
        ∙ ap (added known l) (enough known n (length us) own code (before ++ l ∷ []) (known.laws.more before l are h) us (omega (arith, length-append (line_tokens known own l) us)) (omega arith))

    -- ---- where a line, or the end of the lines, is not read

    not-stopped : (ts us : List Tok) → none_left ts ≡ Err us → ⊥
    not-stopped ts us e = cc

    line-at-stops : (ts us : List Tok) → goes_on ends_proof ts ≡ false → line_at known own before ts ≡ Err us → rest_at known own before ts ≡ Err us
    line-at-stops ts us e h = rest-line known own code before are ts e ∙ rw h refl

    turn-stops : (ts us : List Tok) (e : Bool) → goes_on ends_proof ts ≡ e → cond e (none_left ts) (made Some (line_at known own before) ts) ≡ Err us → rest_at known own before ts ≡ Err us
    turn-stops ts us true e h = absurd (not-stopped ts us h)
    turn-stops ts us false e h = line-at-stops ts us e (made-bad {X = Line known} {Y = Option (Line known)} Some (line_at known own before ts) us h)

    -- where a call stops, reading the rest stops
    pub rest-refused : (ts us : List Tok) → turn known own before ts ≡ Err us → rest_at known own before ts ≡ Err us
    rest-refused ts us h = turn-stops ts us (goes_on ends_proof ts) refl h

    -- ---- what a line was read from

    same-line : (l m : Line known) → Some l ≡ Some m → l ≡ m
    same-line l m e = cc

    not-line : (l : Line known) → None ≡ Some l → ⊥
    not-line l e = cc

    no-line : (l : Line known) → Some l ≡ None → ⊥
    no-line l e = cc

    taken : (ts : List Tok) (l : Line known) (us : List Tok) (e : Bool) → cond e (none_left ts) (made Some (line_at known own before) ts) ≡ Ok (Some l, us) → OneLine own before ts l us
    taken ts l us true h = absurd (not-line l (ok-value {Y = Option (Line known)} None (Some l) ts us h))
    taken ts l us false h =
        let m = made-good {X = Line known} {Y = Option (Line known)} Some (line_at known own before ts) (Some l) us h in
        let k = (known.laws.reads own code before are).takes ts m.0 us m.1 in
        subst (λ (x : Line known). OneLine own before ts x us) (same-line m.0 l m.2) (record { is = k.0; fits = k.1 })

    pub line-takes : (ts : List Tok) (l : Line known) (us : List Tok) → turn known own before ts ≡ Ok (Some l, us) → OneLine own before ts l us
    line-takes ts l us h = taken ts l us (goes_on ends_proof ts) h

    not-taken : (ts us : List Tok) (e : Bool) → cond e (none_left ts) (made Some (line_at known own before) ts) ≡ Ok (None, us) → e ≡ true
    not-taken ts us true h = refl
    not-taken ts us false h = let m = made-good {X = Line known} {Y = Option (Line known)} Some (line_at known own before ts) None us h in absurd (no-line m.0 m.2)

    pub line-ends : (ts us : List Tok) → turn known own before ts ≡ Ok (None, us) → goes_on ends_proof ts ≡ true
    line-ends ts us h = not-taken ts us (goes_on ends_proof ts) h

    -- ---- and it is read again

    pub line-again : (l : Line known) (us : List Tok) → Fits known before l → turn known own before (line_tokens known own l ++ us) ≡ Ok (Some l, us)
    line-again l us h = rw (known.laws.begins own l us, (known.laws.reads own code before are).again l us h) refl
