-- A line whose items pass a test: where they don't, reading stops before the line's end.
use Rattle.std.proofs.Common.{◌≡◌, Bool, true, false, cond, List, [], ◌∷◌, ◌++◌, Ok, Err, refl, sym, ap, subst, ◌∙◌, append_assoc}
use Rattle.mc_text.specs.Tokens.{Tok, Left, Right, Semi, Atom, Eol, Done, Stuck}
use Rattle.mc_text.specs.Reading.{Reader, ◌>>=◌, one, pair}
use Rattle.mc_text.specs.inner.Reading.{eol, checked}
use Rattle.mc_text.proofs.ReaderLaws.{Out, Reads, Stops, StaysFlat, AreAlike, ok-value, ok-rest, err-is}

abbrev Ended : Type 0
Ended = Out (Unit {0})

abbrev ok : {X : Type 0} → X → List Tok → Out X
ok x rest = Ok (x, rest)

abbrev err : {X : Type 0} → List Tok → Out X
err bad = Err bad

-- the end of a line, or all the tokens
eol-cases : (us : List Tok) (q : Ended) → eol us ≡ q → (vs : List Tok) (y : Unit {0}) → q ≡ Ok (y, vs) → us ≡ Eol ∷ vs
unfolding one
eol-cases [] q e vs y h = absurd (let k : err {X = Unit {0}} [] ≡ ok y vs = e ∙ h in cc)
eol-cases (Eol ∷ us) q e vs y h = ap (λ (v : List Tok). Eol ∷ v) (ok-rest {Y = Unit {0}} tt y us vs (e ∙ h))
eol-cases (Left ∷ us) q e vs y h = absurd (let k : err {X = Unit {0}} (Left ∷ us) ≡ ok y vs = e ∙ h in cc)
eol-cases (Right ∷ us) q e vs y h = absurd (let k : err {X = Unit {0}} (Right ∷ us) ≡ ok y vs = e ∙ h in cc)
eol-cases (Semi ∷ us) q e vs y h = absurd (let k : err {X = Unit {0}} (Semi ∷ us) ≡ ok y vs = e ∙ h in cc)
eol-cases (Atom a ∷ us) q e vs y h = absurd (let k : err {X = Unit {0}} (Atom a ∷ us) ≡ ok y vs = e ∙ h in cc)
eol-cases (Done ∷ us) q e vs y h = absurd (let k : err {X = Unit {0}} (Done ∷ us) ≡ ok y vs = e ∙ h in cc)
eol-cases (Stuck ∷ us) q e vs y h = absurd (let k : err {X = Unit {0}} (Stuck ∷ us) ≡ ok y vs = e ∙ h in cc)

eol-front : (us bad : List Tok) → eol us ≡ Err bad → us ≡ bad
unfolding one
eol-front [] bad e = err-is {Y = Unit {0}} [] bad e
eol-front (Eol ∷ us) bad e = absurd (let k : ok {X = Unit {0}} tt us ≡ err bad = e in cc)
eol-front (Left ∷ us) bad e = err-is {Y = Unit {0}} (Left ∷ us) bad e
eol-front (Right ∷ us) bad e = err-is {Y = Unit {0}} (Right ∷ us) bad e
eol-front (Semi ∷ us) bad e = err-is {Y = Unit {0}} (Semi ∷ us) bad e
eol-front (Atom a ∷ us) bad e = err-is {Y = Unit {0}} (Atom a ∷ us) bad e
eol-front (Done ∷ us) bad e = err-is {Y = Unit {0}} (Done ∷ us) bad e
eol-front (Stuck ∷ us) bad e = err-is {Y = Unit {0}} (Stuck ∷ us) bad e

eol-read : (us : List Tok) → eol (Eol ∷ us) ≡ ok tt us
unfolding one
eol-read us = refl

module _ {X : Type 0} (test : X → Bool) (a : Reader X) (F : X → Type 0) (t : X → List Tok) (law : Reads (pair a eol) (λ p. F p.0 × Unit {0}) (λ p. t p.0 ++ Eol ∷ [])) (flat : StaysFlat F t) where
  abbrev Row : Type 0
  Row = X × Unit {0}

  abbrev judge : Out X → Out X
  judge q = ◌>>=◌ {A = X × List Tok} {B = X × List Tok} q (λ p. cond (test p.0) (Ok (p.0, p.1)) (Err p.1))

  abbrev shut : X → Ended → Out Row
  shut x z = ◌>>=◌ {A = Unit {0} × List Tok} {B = Row × List Tok} z (λ y. Ok ((x, y.0), y.1))

  abbrev ended : Out X → Out Row
  ended q = ◌>>=◌ {A = X × List Tok} {B = Row × List Tok} q (λ p. shut p.0 (eol p.1))

  shut-ok : (x : X) (us : List Tok) (z : Ended) (r : Row) (rest : List Tok) → eol us ≡ z → shut x z ≡ Ok (r, rest) → (us ≡ Eol ∷ rest) × (x ≡ r.0)
  shut-ok x us (Ok y) r rest e h =
      let same : x ≡ r.0 = ap (λ (q : Row). q.0) (ok-value {Y = Row} (x, y.0) r y.1 rest h) in
      (eol-cases us (Ok y) e rest y.0 (ap (λ (v : List Tok). ok y.0 v) (ok-rest {Y = Row} (x, y.0) r y.1 rest h)), same)
  shut-ok x us (Err bad) r rest e h = absurd cc

  shut-err : (x : X) (us : List Tok) (z : Ended) (bad : List Tok) → eol us ≡ z → shut x z ≡ Err bad → us ≡ bad
  shut-err x us (Ok y) bad e h = absurd cc
  shut-err x us (Err other) bad e h = eol-front us bad (e ∙ ap (λ (v : List Tok). err {X = Unit {0}} v) (err-is {Y = Row} other bad h))

  -- what a whole line was read as
  parts : (q : Out X) (r : Row) (rest : List Tok) → ended q ≡ Ok (r, rest) → q ≡ Ok (r.0, Eol ∷ rest)
  parts (Ok p) r rest h = let k = shut-ok p.0 p.1 (eol p.1) r rest refl h in (λ i. ok (k.1 i) (k.0 i))
  parts (Err bad) r rest h = absurd cc

  passing : (x : X) (us : List Tok) (v : Bool) → test x ≡ v → judge (ok x us) ≡ cond v (Ok (x, us)) (Err us)
  passing x us v e = ap (λ (w : Bool). cond w (ok x us) (err us)) e

  passed : (q : Out X) (r : Row) (rest : List Tok) → test r.0 ≡ true → ended q ≡ Ok (r, rest) → ended (judge q) ≡ Ok (r, rest)
  passed q r rest e h = ap (λ (z : Out X). ended (judge z)) (parts q r rest h) ∙ ap ended (passing r.0 (Eol ∷ rest) true e) ∙ sym (ap ended (parts q r rest h)) ∙ h

  refused : (q : Out X) (r : Row) (rest : List Tok) → test r.0 ≡ false → ended q ≡ Ok (r, rest) → ended (judge q) ≡ Err (Eol ∷ rest)
  refused q r rest e h = ap (λ (z : Out X). ended (judge z)) (parts q r rest h) ∙ ap ended (passing r.0 (Eol ∷ rest) false e)

  -- what stops without the test stops with it
  stopped : (q : Out X) (bad : List Tok) → ended q ≡ Err bad → ended (judge q) ≡ Err bad
  stopped (Ok p) bad h = by (test p.0) refl
    where
      by : (v : Bool) → test p.0 ≡ v → ended (judge (Ok p)) ≡ Err bad
      by true e = ap ended (passing p.0 p.1 true e) ∙ h
      by false e = ap ended (passing p.0 p.1 false e) ∙ ap (λ (v : List Tok). err {X = Row} v) (shut-err p.0 p.1 (eol p.1) bad refl h)
  stopped (Err other) bad h = h

  never-read : (p : X × List Tok) (r : Row) (rest : List Tok) → ended (err p.1) ≡ Ok (r, rest) → ⊥
  never-read p r rest h = cc

  was-read : (q : Out X) (r : Row) (rest : List Tok) → ended (judge q) ≡ Ok (r, rest) → (ended q ≡ Ok (r, rest)) × (test r.0 ≡ true)
  was-read (Ok p) r rest h = by (test p.0) refl
    where
      by : (v : Bool) → test p.0 ≡ v → (ended (Ok p) ≡ Ok (r, rest)) × (test r.0 ≡ true)
      by true e =
          let k : ended (Ok p) ≡ Ok (r, rest) = sym (ap ended (passing p.0 p.1 true e)) ∙ h in
          (k, ap test (sym (shut-ok p.0 p.1 (eol p.1) r rest refl k).1) ∙ e)
      by false e = absurd (never-read p r rest (sym (ap ended (passing p.0 p.1 false e)) ∙ h))
  was-read (Err bad) r rest h = absurd cc

  abbrev Fits : Row → Type 0
  Fits r = (F r.0 × (test r.0 ≡ true)) × Unit {0}

  abbrev row_tokens : Row → List Tok
  row_tokens r = t r.0 ++ Eol ∷ []

  abbrev Halted : List Tok → List Tok → Type 0
  Halted ts bad = Stops (pair (checked test a) eol) ts bad

  halted : (ts bad : List Tok) → ended (a ts) ≡ Err bad → Halted ts bad
  halted ts bad h =
      let s = law.stops ts bad h in
      record { part = s.part; is = s.is; flat = s.flat; fixed = λ o alike. stopped (a (s.part ++ o)) o (s.fixed o alike) }

  -- the test fails before the line's end
  failed : (ts vs : List Tok) (r : Row) → ended (a ts) ≡ Ok (r, vs) → test r.0 ≡ false → Halted ts (Eol ∷ vs)
  failed ts vs r h e =
      let k = law.takes ts r vs h in
      record { part = t r.0; is = k.0 ∙ append_assoc (t r.0) (Eol ∷ []) vs; flat = flat r.0 k.1.0; fixed = fixed k.1.0 }
    where
      fixed : F r.0 → (o : List Tok) → AreAlike (Eol ∷ vs) o → pair (checked test a) eol (t r.0 ++ o) ≡ Err o
      fixed f [] alike = absurd alike
      fixed f (u ∷ us) alike =
          subst (λ (w : Tok). ended (judge (a (t r.0 ++ w ∷ us))) ≡ Err (w ∷ us)) alike
          (refused (a (t r.0 ++ Eol ∷ us)) (r.0, tt) us e (ap (λ (v : List Tok). ended (a v)) (sym (append_assoc (t r.0) (Eol ∷ []) us)) ∙ law.again (r.0, tt) us (f, tt)))

  judged : (ts : List Tok) (p : X × List Tok) (bad : List Tok) → a ts ≡ Ok p → (v : Bool) → test p.0 ≡ v → (z : Ended) → eol p.1 ≡ z → ended (judge (Ok p)) ≡ Err bad → Halted ts bad
  judged ts p bad ea true e z ez h = halted ts bad (ap ended ea ∙ sym (ap ended (passing p.0 p.1 true e)) ∙ h)
  judged ts p bad ea false e (Ok y) ez h =
      let behind : p.1 ≡ Eol ∷ y.1 = eol-cases p.1 (Ok y) ez y.1 y.0 refl in
      let same : p.1 ≡ bad = err-is {Y = Row} p.1 bad (sym (ap ended (passing p.0 p.1 false e)) ∙ h) in
      subst (Halted ts) (sym behind ∙ same) (failed ts y.1 (p.0, y.0) (ap ended ea ∙ ap (shut p.0) ez) e)
  judged ts p bad ea false e (Err other) ez h =
      let same : p.1 ≡ bad = err-is {Y = Row} p.1 bad (sym (ap ended (passing p.0 p.1 false e)) ∙ h) in
      halted ts bad (ap ended ea ∙ ap (shut p.0) ez ∙ ap (λ (v : List Tok). err {X = Row} v) (sym (eol-front p.1 other ez) ∙ same))

  halts : (ts : List Tok) (q : Out X) (bad : List Tok) → a ts ≡ q → ended (judge q) ≡ Err bad → Halted ts bad
  halts ts (Ok p) bad ea h = judged ts p bad ea (test p.0) refl (eol p.1) refl h
  halts ts (Err other) bad ea h = halted ts bad (ap ended ea ∙ h)

  pub reads-closed : Reads (pair (checked test a) eol) (λ r. (F r.0 × (test r.0 ≡ true)) × Unit {0}) (λ r. t r.0 ++ Eol ∷ [])
  reads-closed = record {
    takes = λ ts r rest h. let w = was-read (a ts) r rest h in let k = law.takes ts r rest w.0 in (k.0, ((k.1.0, w.1), tt));
    again = λ r rest f. passed (a (row_tokens r ++ rest)) r rest f.0.1 (law.again r rest (f.0.0, tt));
    stops = λ ts bad h. halts ts (a ts) bad refl h;
  }
