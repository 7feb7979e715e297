-- A row reader reads of a row by itself what it reads of it in front of other rows.
use Rattle.std.proofs.Common.{◌≡◌, ℕ, suc, ◌+◌, Bool, true, false, true≢false, cond, eqb, List, [], ◌∷◌, ◌++◌, Option, Some, None, Result, Ok, Err, refl, sym, ap, subst, ◌∙◌, arith, append_assoc, inl, inr, ◌⊎◌}
use Rattle.std.specs.Prelude.{option_map}
use Rattle.std.proofs.lemmas.Bool.{eqb-true}
use Rattle.mc_text.specs.Tokens.{Tok, Left, Right, Semi, Atom, Eol, Done, Stuck}
use Rattle.mc_text.specs.declared.token.Before.TheVariants.{Start, Open, Later}
use Rattle.mc_text.specs.Scanning.{class_of, State, At, Within, Spaced, lex, byte_step, prepend, or_stuck, ended, loose, tight, grows, parts, eols}
use Rattle.mc_text.specs.declared.token.Class.{Class}
use Rattle.mc_text.specs.declared.token.Class.TheVariants.{Letter, LeftMark, RightMark, SemiMark, Newline, Space, Other}
use Rattle.mc_text.specs.Fault.{first_lines}
use Rattle.mc_text.specs.Reading.{Reader, goes_on}
use Rattle.mc_text.proofs.Atoms.{lex-cons}
use Rattle.mc_text.proofs.Lines.{EndsIn, newline-is}
use Rattle.mc_text.proofs.ReaderLaws.{IsFlat, AreAlike}
use Rattle.mc_text.proofs.FaultLine.{SameLine, same-line, eols-append}
use Rattle.group_text.specs.inner.Rows.{IsRow}
use Rattle.group_text.specs.inner.RowReader.{ReadsRows, TookRow}

-- k is one line and the end, and l that line and what follows; or both stop within the line
pub record Ends (k l m : List Tok) : Type 0 where
  pub line : List Tok
  pub flat : IsFlat line
  pub short : k ≡ line ++ Eol ∷ Done ∷ []
  pub long : l ≡ line ++ Eol ∷ m

abbrev pub Cut : List Tok → List Tok → List Tok → Type 0
Cut k l m = Ends k l m ⊎ (IsFlat k × (k ≡ l))

cut-cons : (t : Tok) (k l m : List Tok) → (t ≡ Eol → ⊥) → Cut k l m → Cut (t ∷ k) (t ∷ l) m
cut-cons t k l m not-eol (inl e) = inl (record { line = t ∷ e.line; flat = (not-eol, e.flat); short = ap (λ (v : List Tok). t ∷ v) e.short; long = ap (λ (v : List Tok). t ∷ v) e.long })
cut-cons t k l m not-eol (inr s) = inr ((not-eol, s.0), ap (λ (v : List Tok). t ∷ v) s.1)

cut-stuck : (m : List Tok) → Cut (Stuck ∷ []) (Stuck ∷ []) m
cut-stuck m = inr ((λ e. absurd cc, tt), refl)

prepend-flat : (b : ℕ) (k : List Tok) → IsFlat k → IsFlat (prepend b k)
prepend-flat b [] f = (λ e. absurd cc, tt)
prepend-flat b (Atom a ∷ k) f = (λ e. absurd cc, f.1)
prepend-flat b (Left ∷ k) f = (λ e. absurd cc, tt)
prepend-flat b (Right ∷ k) f = (λ e. absurd cc, tt)
prepend-flat b (Semi ∷ k) f = (λ e. absurd cc, tt)
prepend-flat b (Eol ∷ k) f = (λ e. absurd cc, tt)
prepend-flat b (Done ∷ k) f = (λ e. absurd cc, tt)
prepend-flat b (Stuck ∷ k) f = (λ e. absurd cc, tt)

prepend-line : (b : ℕ) (line k l m : List Tok) → IsFlat line → k ≡ line ++ Eol ∷ Done ∷ [] → l ≡ line ++ Eol ∷ m → Cut (prepend b k) (prepend b l) m
prepend-line b [] k l m f p q = rw (p, q) (cut-stuck m)
prepend-line b (Atom a ∷ v) k l m f p q = rw (p, q) (inl (record { line = Atom (b ∷ a) ∷ v; flat = (λ e. absurd cc, f.1); short = refl; long = refl }))
prepend-line b (Left ∷ v) k l m f p q = rw (p, q) (cut-stuck m)
prepend-line b (Right ∷ v) k l m f p q = rw (p, q) (cut-stuck m)
prepend-line b (Semi ∷ v) k l m f p q = rw (p, q) (cut-stuck m)
prepend-line b (Eol ∷ v) k l m f p q = rw (p, q) (cut-stuck m)
prepend-line b (Done ∷ v) k l m f p q = rw (p, q) (cut-stuck m)
prepend-line b (Stuck ∷ v) k l m f p q = rw (p, q) (cut-stuck m)

cut-prepend : (b : ℕ) (k l m : List Tok) → Cut k l m → Cut (prepend b k) (prepend b l) m
cut-prepend b k l m (inl e) = prepend-line b e.line k l m e.flat e.short e.long
cut-prepend b k l m (inr s) = inr (prepend-flat b k s.0, ap (prepend b) s.1)

cut-or : (f : Bool) (k l m : List Tok) → Cut k l m → Cut (or_stuck f k) (or_stuck f l) m
cut-or true k l m h = h
cut-or false k l m h = cut-stuck m

cut-ended : (s : State) (k l m : List Tok) → Cut k l m → Cut (ended s k) (ended s l) m
cut-ended (At b) k l m h = h
cut-ended Spaced k l m h = h
cut-ended Within k l m h = cut-cons (Atom []) k l m (λ e. absurd cc) h

cut-step : (c : Class) (b : ℕ) (s : State) (k l : State → List Tok) (m : List Tok) → (c ≡ Newline → ⊥) → ((s : State) → Cut (k s) (l s) m) → Cut (byte_step c b s k) (byte_step c b s l) m
cut-step Letter b s k l m n h = cut-or (grows s) _ _ m (cut-prepend b _ _ m (h Within))
cut-step LeftMark b s k l m n h = cut-ended s _ _ m (cut-or (loose s) _ _ m (cut-cons Left _ _ m (λ e. absurd cc) (h (At Open))))
cut-step RightMark b s k l m n h = cut-ended s _ _ m (cut-or (tight s) _ _ m (cut-cons Right _ _ m (λ e. absurd cc) (h (At Later))))
cut-step SemiMark b s k l m n h = cut-ended s _ _ m (cut-or (loose s) _ _ m (cut-cons Semi _ _ m (λ e. absurd cc) (h (At Later))))
cut-step Newline b s k l m n h = absurd (n refl)
cut-step Space b s k l m n h = cut-ended s _ _ m (cut-or (parts s) _ _ m (h Spaced))
cut-step Other b s k l m n h = cut-ended s _ _ m (cut-stuck m)

cut-newline : (s : State) (more : List ℕ) → Cut (lex (10 ∷ []) s) (lex (10 ∷ more) s) (lex more (At Start))
unfolding lex
cut-newline s more = cut-ended s _ _ _ (cut-or (tight s) _ _ _ (inl (record { line = []; flat = tt; short = refl; long = refl })))

-- ---- bytes

module _ (more : List ℕ) where
  abbrev pub CutRow : List ℕ → Type 0
  CutRow row = (s : State) → Cut (lex row s) (lex (row ++ more) s) (lex more (At Start))

  mapped : (b : ℕ) (o : Option (List ℕ)) (bytes : List ℕ) → option_map (λ (f : List ℕ). b ∷ f) o ≡ Some (b ∷ bytes) → o ≡ Some bytes
  mapped b (Some m) bytes e = cc
  mapped b None bytes e = absurd cc

  row-step : (b : ℕ) (bytes : List ℕ) (f : Bool) → eqb b 10 ≡ f → cond f (first_lines 0 bytes) (first_lines 1 bytes) ≡ Some bytes → (first_lines 1 bytes ≡ Some bytes → CutRow bytes) → CutRow (b ∷ bytes)
  unfolding first_lines
  row-step b [] true e h ih s = let k : b ≡ 10 = eqb-true b 10 e in rw k (cut-newline s more)
  row-step b (c ∷ bytes) true e h ih s = absurd cc
  row-step b bytes false e h ih s =
      rw (lex-cons b bytes s (class_of b) refl, lex-cons b (bytes ++ more) s (class_of b) refl)
      (cut-step (class_of b) b s (lex bytes) (lex (bytes ++ more)) (lex more (At Start)) (λ n. absurd (no-newline n)) (ih h))
    where
      no-newline : class_of b ≡ Newline → ⊥
      no-newline n = let k : b ≡ 10 = newline-is b n in absurd (true≢false (sym (rw k refl) ∙ e))

  pub cut-row : (row : List ℕ) → IsRow row → CutRow row
  unfolding first_lines
  cut-row [] h s = absurd cc
  cut-row (b ∷ bytes) h s = row-step b bytes (eqb b 10) refl (mapped b (cond (eqb b 10) (first_lines 0 bytes) (first_lines 1 bytes)) bytes h) (cut-row bytes) s

-- ---- what a reader of rows reads

-- no line ends in flat tokens
flat-ends : (t : Tok) (v rest k : List Tok) → IsFlat k → EndsIn t v → k ≡ (t ∷ v) ++ rest → ⊥
flat-ends t [] rest k f e p = let g : IsFlat (t ∷ rest) = subst IsFlat p f in g.0 e
flat-ends t (u ∷ v) rest [] f e p = absurd cc
flat-ends t (u ∷ v) rest (q ∷ k) f e p = flat-ends u v rest k f.1 e cc

-- of one line and the end, whole lines are that line
one-line : (line : List Tok) (t : Tok) (v rest : List Tok) → IsFlat line → EndsIn t v → line ++ Eol ∷ Done ∷ [] ≡ (t ∷ v) ++ rest → (t ∷ v ≡ line ++ Eol ∷ []) × (rest ≡ Done ∷ [])
one-line [] t [] rest f e p = (cc, cc)
one-line [] t (u ∷ v) rest f e p = absurd (flat-ends u v rest (Done ∷ []) ((λ e. absurd cc, tt)) e cc)
one-line (q ∷ line) t [] rest f e p = let k : q ≡ t = cc in absurd (f.0 (k ∙ e))
one-line (q ∷ line) t (u ∷ v) rest f e p =
    let k : q ≡ t = cc in
    let h = one-line line u v rest f.1 e cc in
    (ap (λ (w : List Tok). t ∷ w) h.0 ∙ ap (λ (w : Tok). w ∷ (line ++ Eol ∷ [])) (sym k), h.1)

-- the same up to a token within the line, and that token
same-part : (part bad os : List Tok) → IsFlat part → SameLine (part ++ bad) os → (o : List Tok) × (os ≡ part ++ o) × AreAlike bad o
same-part [] [] os f h = (os, refl, h)
same-part [] (t ∷ bad) [] f h = absurd h
same-part [] (t ∷ bad) (o ∷ os) f h = (o ∷ os, refl, h.0)
same-part (p ∷ part) bad [] f h = absurd h
same-part (p ∷ part) bad (o ∷ os) f h =
    elim h.1 [
      | inl e ↦ absurd (f.0 e)
      | inr k ↦ let r = same-part part bad os f.1 k in (r.0, ap (λ (w : Tok). w ∷ os) (sym h.0) ∙ ap (λ (v : List Tok). p ∷ v) r.1, r.2)
    ]

pub eols-flat : (part : List Tok) → IsFlat part → eols part ≡ 0
eols-flat [] f = refl
eols-flat (Eol ∷ part) f = absurd (f.0 refl)
eols-flat (Left ∷ part) f = ap (λ (n : ℕ). 0 + n) (eols-flat part f.1)
eols-flat (Right ∷ part) f = ap (λ (n : ℕ). 0 + n) (eols-flat part f.1)
eols-flat (Semi ∷ part) f = ap (λ (n : ℕ). 0 + n) (eols-flat part f.1)
eols-flat (Atom a ∷ part) f = ap (λ (n : ℕ). 0 + n) (eols-flat part f.1)
eols-flat (Done ∷ part) f = ap (λ (n : ℕ). 0 + n) (eols-flat part f.1)
eols-flat (Stuck ∷ part) f = ap (λ (n : ℕ). 0 + n) (eols-flat part f.1)

module _ {X : Type 0} (read : Reader X) (law : ReadsRows read) (row more : List ℕ) (is-row : IsRow row) where
  abbrev ts : List Tok
  ts = lex row (At Start)

  abbrev us : List Tok
  us = lex (row ++ more) (At Start)

  abbrev ms : List Tok
  ms = lex more (At Start)

  ok-cut : (x : X) (rest : List Tok) → Cut ts us ms → TookRow read ts x rest → (read us ≡ Ok (x, ms)) × (eols us ≡ suc (eols ms))
  ok-cut x rest (inr s) h = absurd (flat-ends h.first h.others rest ts s.0 h.ends h.is)
  ok-cut x rest (inl c) h =
      let k = one-line c.line h.first h.others rest c.flat h.ends (sym c.short ∙ h.is) in
      let whole : us ≡ (h.first ∷ h.others) ++ ms = c.long ∙ sym (append_assoc c.line (Eol ∷ []) ms) ∙ ap (λ (w : List Tok). w ++ ms) (sym k.0) in
      let count : eols us ≡ eols (c.line ++ Eol ∷ ms) = ap eols c.long in
      let zero-line : eols c.line ≡ 0 = eols-flat c.line c.flat in
      (ap read whole ∙ h.fixed ms, omega (arith, count, zero-line, eols-append c.line (Eol ∷ ms)))

  pub row-ok : (x : X) (rest : List Tok) → read ts ≡ Ok (x, rest) → (read us ≡ Ok (x, ms)) × (eols us ≡ suc (eols ms))
  row-ok x rest e = ok-cut x rest (cut-row more row is-row (At Start)) (law.takes ts x rest e)

  pub row-bad : (bad : List Tok) → read ts ≡ Err bad → (other : List Tok) × (read us ≡ Err other) × (eols other ≡ eols us)
  row-bad bad e =
      let s = law.stops ts bad e in
      let p = same-part s.part bad us s.flat (subst (λ (w : List Tok). SameLine w us) s.is (same-line row more row (At Start) is-row)) in
      let count : eols us ≡ eols (s.part ++ p.0) = ap eols p.1 in
      let none : eols s.part ≡ 0 = eols-flat s.part s.flat in
      (p.0, ap read p.1 ∙ s.fixed p.0 p.2, omega (arith, count, none, eols-append s.part p.0))

-- nothing is read where no row follows
module _ {X : Type 0} (read : Reader X) (law : ReadsRows read) where
  none-by : (q : Result (X × List Tok) (List Tok)) → read (Done ∷ []) ≡ q → (bad : List Tok) × (read (Done ∷ []) ≡ Err bad) × (eols bad ≡ 0)
  none-by (Ok p) e =
      let h = law.takes (Done ∷ []) p.0 p.1 e in
      absurd (flat-ends h.first h.others p.1 (Done ∷ []) ((λ e. absurd cc, tt)) h.ends h.is)
  none-by (Err bad) e =
      let s = law.stops (Done ∷ []) bad e in
      let count : 0 ≡ eols (s.part ++ bad) = ap eols s.is in
      (bad, e, omega (arith, count, eols-append s.part bad))

  pub row-none : (bad : List Tok) × (read (Done ∷ []) ≡ Err bad) × (eols bad ≡ 0)
  row-none = none-by (read (Done ∷ [])) refl

-- whether a row begins so can be seen of the row
pub goes-on-alike : (go : Tok → Bool) (qs os : List Tok) → SameLine qs os → goes_on go qs ≡ goes_on go os
goes-on-alike go [] os h = rw h refl
goes-on-alike go (q ∷ qs) [] h = absurd h
goes-on-alike go (q ∷ qs) (o ∷ os) h = ap go h.0

pub row-goes-on : (go : Tok → Bool) (row more : List ℕ) → IsRow row → goes_on go (lex row (At Start)) ≡ goes_on go (lex (row ++ more) (At Start))
row-goes-on go row more h = goes-on-alike go _ _ (same-line row more row (At Start) h)
