-- What is read is spelled so, what is spelled so is read, and reading stops at a token whatever follows it.
use Rattle.std.proofs.Common.{◌≡◌, ℕ, Bool, true, false, cond, List, [], ◌∷◌, ◌++◌, Option, Some, None, Result, Ok, Err, refl, sym, ap, subst, ◌∙◌, append_assoc, inl, inr, ◌⊎◌}
use Rattle.std.specs.Str.{bytes_eq}
use Rattle.std.proofs.lemmas.Slice.Eq.{bytes_eq-Decides}
use Rattle.mc_text.specs.Tokens.{Tok, Left, Right, Semi, Atom, Eol, Done, Stuck}
use Rattle.mc_text.specs.Reading.{Reader, ◌>>=◌, or_else, one, pair, with, made}
use Rattle.mc_text.specs.inner.Reading.{keyed}

abbrev pub Out : Type 0 → Type 0
Out Y = Result (Y × List Tok) (List Tok)

-- no line ends here
abbrev pub IsFlat : List Tok → Type 0
IsFlat [] = Unit {0}
IsFlat (t ∷ ts) = (t ≡ Eol → ⊥) × IsFlat ts

pub flat-append : (a b : List Tok) → IsFlat a → IsFlat b → IsFlat (a ++ b)
flat-append [] b p q = q
flat-append (t ∷ a) b p q = (p.0, flat-append a b p.1 q)

-- the same token is first, or none
abbrev pub AreAlike : List Tok → List Tok → Type 0
AreAlike [] bs = bs ≡ []
AreAlike (t ∷ ts) [] = ⊥
AreAlike (t ∷ ts) (u ∷ us) = t ≡ u

-- reading stops in front of bad, and would so whatever came behind its first token
pub record Stops {X : Type 0} (read : Reader X) (ts bad : List Tok) : Type 0 where
  pub part : List Tok
  pub is : ts ≡ part ++ bad
  pub flat : IsFlat part
  pub fixed : (other : List Tok) → AreAlike bad other → read (part ++ other) ≡ Err other

pub record Reads {X : Type 0} (read : Reader X) (Fits : X → Type 0) (tokens : X → List Tok) : Type 0 where
  pub takes : (ts : List Tok) (x : X) (rest : List Tok) → read ts ≡ Ok (x, rest) → (ts ≡ tokens x ++ rest) × Fits x
  pub again : (x : X) (rest : List Tok) → Fits x → read (tokens x ++ rest) ≡ Ok (x, rest)
  pub stops : (ts bad : List Tok) → read ts ≡ Err bad → Stops read ts bad

-- what is read lies within a line
abbrev pub StaysFlat : {X : Type 0} → (X → Type 0) → (X → List Tok) → Type 0
StaysFlat {X} Fits tokens = (x : X) → Fits x → IsFlat (tokens x)

abbrev ok : {Y : Type 0} → Y → List Tok → Out Y
ok y rest = Ok (y, rest)

abbrev err : {Y : Type 0} → List Tok → Out Y
err bad = Err bad

pub ok-is : {Y : Type 0} (p q : Y × List Tok) → ok p.0 p.1 ≡ ok q.0 q.1 → p ≡ q
ok-is p q e = cc

pub err-is : {Y : Type 0} (p q : List Tok) → err {Y = Y} p ≡ err q → p ≡ q
err-is p q e = cc

pub ok-not-err : {Y : Type 0} (y : Y) (r bad : List Tok) → ok y r ≡ err bad → ⊥
ok-not-err y r bad e = cc

pub ok-value : {Y : Type 0} (x y : Y) (r s : List Tok) → ok x r ≡ ok y s → x ≡ y
ok-value {Y} x y r s e = let h : (x, r) ≡ (y, s) = ok-is (x, r) (y, s) e in ap (λ (p : Y × List Tok). p.0) h

pub ok-rest : {Y : Type 0} (x y : Y) (r s : List Tok) → ok x r ≡ ok y s → r ≡ s
ok-rest {Y} x y r s e = let h : (x, r) ≡ (y, s) = ok-is (x, r) (y, s) e in ap (λ (p : Y × List Tok). p.1) h

-- ---- one token

pub record Shows {X : Type 0} (f : Tok → Option X) (Fits : X → Type 0) (show : X → Tok) : Type 0 where
  pub there : (t : Tok) (x : X) → f t ≡ Some x → (t ≡ show x) × Fits x
  pub back : (x : X) → Fits x → f (show x) ≡ Some x

module _ {X : Type 0} (f : Tok → Option X) (Fits : X → Type 0) (show : X → Tok) (shows : Shows f Fits show) where
  one-takes : (t : Tok) (ts : List Tok) (o : Option X) (x : X) (rest : List Tok) → f t ≡ o → or_else o ts (t ∷ ts) ≡ Ok (x, rest) → (t ∷ ts ≡ show x ∷ rest) × Fits x
  one-takes t ts (Some y) x rest e h =
      let s = shows.there t y e in
      subst (λ (z : X). (t ∷ ts ≡ show z ∷ rest) × Fits z) (ok-value y x ts rest h) (rw (s.0, ok-rest y x ts rest h) refl, s.1)
  one-takes t ts None x rest e h = absurd cc

  pub one-stops : (t : Tok) (ts : List Tok) (o : Option X) (bad : List Tok) → f t ≡ o → or_else o ts (t ∷ ts) ≡ Err bad → (bad ≡ t ∷ ts) × (f t ≡ None)
  one-stops t ts (Some y) bad e h = absurd cc
  one-stops t ts None bad e h = (cc, e)

  pub again-other : (t : Tok) (ts other : List Tok) → f t ≡ None → AreAlike (t ∷ ts) other → one f other ≡ Err other
  unfolding one
  again-other t ts [] e a = absurd a
  again-other t ts (u ∷ us) e a = rw (← a, e) refl

  none-other : (other : List Tok) → AreAlike [] other → one f other ≡ Err other
  unfolding one
  none-other other a = rw a refl

  pub Reads-one : Reads (one f) Fits (λ x. show x ∷ [])
  unfolding one
  Reads-one = record {
    takes = elim [ [] ↦ λ x rest e. absurd cc | t ∷ ts ↦ λ x rest e. one-takes t ts (f t) x rest refl e ];
    again = λ x rest h. rw (shows.back x h) refl;
    stops = elim [
      | [] ↦ λ bad e. record { part = []; is = err-is [] bad e; flat = tt; fixed = λ other a. none-other other (subst (λ (b : List Tok). AreAlike b other) (sym (err-is [] bad e)) a) }
      | t ∷ ts ↦ λ bad e. let s = one-stops t ts (f t) bad refl e in record { part = []; is = sym s.0; flat = tt; fixed = λ other a. again-other t ts other s.1 (subst (λ (b : List Tok). AreAlike b other) s.0 a) }
    ];
  }

-- ---- one after the other

module _ {X Y : Type 0} (a : Reader X) (FA : X → Type 0) (ta : X → List Tok) (ra : Reads a FA ta) (flat : StaysFlat FA ta)
    (b : X → Reader Y) (FB : X → Y → Type 0) (tb : X → Y → List Tok) (rb : (x : X) → FA x → Reads (b x) (FB x) (tb x)) where
  abbrev FW : X × Y → Type 0
  FW p = FA p.0 × FB p.0 p.1

  abbrev tw : X × Y → List Tok
  tw p = ta p.0 ++ tb p.0 p.1

  abbrev step : X → Out Y → Out (X × Y)
  step x q = ◌>>=◌ {A = Y × List Tok} {B = (X × Y) × List Tok} q (λ y. Ok ((x, y.0), y.1))

  with-takes2 : (ts : List Tok) (x : X) (us : List Tok) (q : Out Y) (p : X × Y) (rest : List Tok) → a ts ≡ Ok (x, us) → b x us ≡ q → step x q ≡ Ok (p, rest) → (ts ≡ tw p ++ rest) × FW p
  with-takes2 ts x us (Ok y) p rest ea eb e =
      let h = ra.takes ts x us ea in
      let k = (rb x h.1).takes us y.0 y.1 eb in
      subst (λ (z : (X × Y) × List Tok). (ts ≡ tw z.0 ++ z.1) × FW z.0) (ok-is ((x, y.0), y.1) (p, rest) e)
      (h.0 ∙ ap (λ (v : List Tok). ta x ++ v) k.0 ∙ sym (append_assoc (ta x) (tb x y.0) y.1), (h.1, k.1))
  with-takes2 ts x us (Err bad) p rest ea eb e = absurd cc

  with-takes : (ts : List Tok) (q : Out X) (p : X × Y) (rest : List Tok) → a ts ≡ q → ◌>>=◌ {A = X × List Tok} {B = (X × Y) × List Tok} q (λ z. step z.0 (b z.0 z.1)) ≡ Ok (p, rest) → (ts ≡ tw p ++ rest) × FW p
  with-takes ts (Ok z) p rest ea e = with-takes2 ts z.0 z.1 (b z.0 z.1) p rest ea refl e
  with-takes ts (Err bad) p rest ea e = absurd cc

  with-again : (p : X × Y) (rest : List Tok) → FW p → with a b (tw p ++ rest) ≡ Ok (p, rest)
  with-again p rest h = ap (with a b) (append_assoc (ta p.0) (tb p.0 p.1) rest) ∙ rw (ra.again p.0 (tb p.0 p.1 ++ rest) h.0, (rb p.0 h.0).again p.1 rest h.1) refl

  with-stops2 : (ts : List Tok) (x : X) (us : List Tok) (q : Out Y) (bad : List Tok) → a ts ≡ Ok (x, us) → b x us ≡ q → step x q ≡ Err bad → Stops (with a b) ts bad
  with-stops2 ts x us (Ok y) bad ea eb e = absurd cc
  with-stops2 ts x us (Err other) bad ea eb e =
      let h = ra.takes ts x us ea in
      let s = (rb x h.1).stops us bad (eb ∙ ap (λ (v : List Tok). err v) (err-is other bad e)) in
      record {
        part = ta x ++ s.part;
        is = h.0 ∙ ap (λ (v : List Tok). ta x ++ v) s.is ∙ sym (append_assoc (ta x) s.part bad);
        flat = flat-append (ta x) s.part (flat x h.1) s.flat;
        fixed = λ o alike. ap (with a b) (append_assoc (ta x) s.part o) ∙ rw (ra.again x (s.part ++ o) h.1, s.fixed o alike) refl;
      }

  with-stops : (ts : List Tok) (q : Out X) (bad : List Tok) → a ts ≡ q → ◌>>=◌ {A = X × List Tok} {B = (X × Y) × List Tok} q (λ z. step z.0 (b z.0 z.1)) ≡ Err bad → Stops (with a b) ts bad
  with-stops ts (Ok z) bad ea e = with-stops2 ts z.0 z.1 (b z.0 z.1) bad ea refl e
  with-stops ts (Err other) bad ea e =
      let s = ra.stops ts bad (ea ∙ ap (λ (v : List Tok). err v) (err-is other bad e)) in
      record { part = s.part; is = s.is; flat = s.flat; fixed = λ o alike. rw (s.fixed o alike) refl }

  pub Reads-with : Reads (with a b) FW tw
  Reads-with = record {
    takes = λ ts p rest e. with-takes ts (a ts) p rest refl e;
    again = with-again;
    stops = λ ts bad e. with-stops ts (a ts) bad refl e;
  }

pub Reads-pair : {X Y : Type 0} (a : Reader X) (FA : X → Type 0) (ta : X → List Tok) → Reads a FA ta → StaysFlat FA ta → (b : Reader Y) (FB : Y → Type 0) (tb : Y → List Tok) → Reads b FB tb
    → Reads (pair a b) (λ p. FA p.0 × FB p.1) (λ p. ta p.0 ++ tb p.1)
Reads-pair {X} {Y} a FA ta ra flat b FB tb rb =
    let r = Reads-with {X = X} {Y = Y} a FA ta ra flat (λ _. b) (λ _. FB) (λ _. tb) (λ _ _. rb) in record { takes = r.takes; again = r.again; stops = λ ts bad e. let s = r.stops ts bad e in record { part = s.part; is = s.is; flat = s.flat; fixed = s.fixed } }

-- ---- what was read, put together

module _ {X Y : Type 0} (make : X → Y) (r : Reader X) (F : X → Type 0) (t : X → List Tok) (law : Reads r F t) where
  made-ok : (ts : List Tok) (q : Out X) (y : Y) (rest : List Tok) → r ts ≡ q → ◌>>=◌ {A = X × List Tok} {B = Y × List Tok} q (λ p. Ok (make p.0, p.1)) ≡ Ok (y, rest) → (x : X) × (make x ≡ y) × (ts ≡ t x ++ rest) × F x
  made-ok ts (Ok p) y rest e h =
      let k = law.takes ts p.0 p.1 e in
      (p.0, ok-value (make p.0) y p.1 rest h, k.0 ∙ ap (λ (v : List Tok). t p.0 ++ v) (ok-rest (make p.0) y p.1 rest h), k.1)
  made-ok ts (Err bad) y rest e h = absurd cc

  -- an x that was read, and what it spells
  pub made-takes : (ts : List Tok) (y : Y) (rest : List Tok) → made make r ts ≡ Ok (y, rest) → (x : X) × (make x ≡ y) × (ts ≡ t x ++ rest) × F x
  made-takes ts y rest e = made-ok ts (r ts) y rest refl e

  pub made-again : (x : X) (rest : List Tok) → F x → made make r (t x ++ rest) ≡ Ok (make x, rest)
  made-again x rest h = rw (law.again x rest h) refl

  made-err : (ts : List Tok) (q : Out X) (bad : List Tok) → r ts ≡ q → ◌>>=◌ {A = X × List Tok} {B = Y × List Tok} q (λ p. Ok (make p.0, p.1)) ≡ Err bad → Stops (made make r) ts bad
  made-err ts (Ok p) bad e h = absurd cc
  made-err ts (Err other) bad e h =
      let s = law.stops ts bad (e ∙ ap (λ (v : List Tok). err v) (err-is other bad h)) in
      record { part = s.part; is = s.is; flat = s.flat; fixed = λ o alike. rw (s.fixed o alike) refl }

  pub made-stops : (ts bad : List Tok) → made make r ts ≡ Err bad → Stops (made make r) ts bad
  made-stops ts bad e = made-err ts (r ts) bad refl e

-- ---- what a word leads to

module _ {X : Type 0} (k : List ℕ) (r other : Reader X) where
  keyed-atom : (a : List ℕ) (ts : List Tok) (b : Bool) (q : Out X) → bytes_eq a k ≡ b → cond b (r ts) (other (Atom a ∷ ts)) ≡ q
      → ((us : List Tok) × (Atom a ∷ ts ≡ Atom k ∷ us) × (r us ≡ q)) ⊎ ((bytes_eq a k ≡ false) × (other (Atom a ∷ ts) ≡ q))
  keyed-atom a ts true q e h = inl (ts, ap (λ (c : List ℕ). Atom c ∷ ts) ((bytes_eq-Decides a k).0 e), h)
  keyed-atom a ts false q e h = inr (e, h)

  -- the tokens don't begin with the word
  abbrev pub IsElse : List Tok → Type 0
  IsElse [] = Unit {0}
  IsElse (Atom a ∷ ts) = bytes_eq a k ≡ false
  IsElse (t ∷ ts) = Unit {0}

  -- the same first token
  pub else-alike : (v bad o : List Tok) → AreAlike bad o → IsElse (v ++ bad) → IsElse (v ++ o)
  else-alike [] [] o a h = subst (IsElse) (sym a) h
  else-alike [] (q ∷ bad) [] a h = absurd a
  else-alike [] (q ∷ bad) (p ∷ o) a h = subst (λ (z : Tok). IsElse (z ∷ o)) a (head q bad o h)
    where
      head : (q : Tok) (bad o : List Tok) → IsElse (q ∷ bad) → IsElse (q ∷ o)
      head (Atom a) bad o h = h
      head Left bad o h = tt
      head Right bad o h = tt
      head Semi bad o h = tt
      head Eol bad o h = tt
      head Done bad o h = tt
      head Stuck bad o h = tt
  else-alike (Atom b ∷ v) bad o a h = h
  else-alike (Left ∷ v) bad o a h = tt
  else-alike (Right ∷ v) bad o a h = tt
  else-alike (Semi ∷ v) bad o a h = tt
  else-alike (Eol ∷ v) bad o a h = tt
  else-alike (Done ∷ v) bad o a h = tt
  else-alike (Stuck ∷ v) bad o a h = tt

  pub keyed-cases : (ts : List Tok) (q : Out X) → keyed k r other ts ≡ q → ((us : List Tok) × (ts ≡ Atom k ∷ us) × (r us ≡ q)) ⊎ (IsElse ts × (other ts ≡ q))
  keyed-cases [] q e = inr (tt, e)
  keyed-cases (Atom a ∷ ts) q e = keyed-atom a ts (bytes_eq a k) q refl e
  keyed-cases (Left ∷ ts) q e = inr (tt, e)
  keyed-cases (Right ∷ ts) q e = inr (tt, e)
  keyed-cases (Semi ∷ ts) q e = inr (tt, e)
  keyed-cases (Eol ∷ ts) q e = inr (tt, e)
  keyed-cases (Done ∷ ts) q e = inr (tt, e)
  keyed-cases (Stuck ∷ ts) q e = inr (tt, e)

  pub keyed-hit : (us : List Tok) → keyed k r other (Atom k ∷ us) ≡ r us
  keyed-hit us = rw ((bytes_eq-Decides k k).1 refl) refl

  pub keyed-miss : (ts : List Tok) → IsElse ts → keyed k r other ts ≡ other ts
  keyed-miss [] h = refl
  keyed-miss (Atom a ∷ ts) h = rw h refl
  keyed-miss (Left ∷ ts) h = refl
  keyed-miss (Right ∷ ts) h = refl
  keyed-miss (Semi ∷ ts) h = refl
  keyed-miss (Eol ∷ ts) h = refl
  keyed-miss (Done ∷ ts) h = refl
  keyed-miss (Stuck ∷ ts) h = refl
