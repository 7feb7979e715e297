-- Readers of rows are closed under the ways to put readers together.
use Rattle.std.proofs.lemmas.Bool.Decides.{nat_tests}
use Rattle.std.proofs.Common.{arith, cond, eqb, ◌≡◌, ℕ, zero, suc, Bool, false, List, [], ◌∷◌, ◌++◌, length, ◌<◌, Ok, Err, refl, sym, ap, subst, ◌∙◌, inl, inr}
use Rattle.mc_text.specs.Tokens.{Tok, Left, Right, Semi, Atom, Eol, Done, Stuck}
use Rattle.mc_text.specs.Reading.{Reader, ◌>>=◌, made, refused}
use Rattle.mc_text.specs.inner.Reading.{keyed}
use Rattle.mc_text.proofs.Lines.{EndsIn, IsLines}
use Rattle.mc_text.proofs.ReaderLaws.{Out, AreAlike, Stops, Reads, IsElse, keyed-cases, keyed-hit, keyed-miss, ok-value, ok-rest, err-is}
use Rattle.group_text.specs.inner.Reading.{where_room}
use Rattle.group_text.specs.inner.RowReader.{ReadsRows, TookRow}

ends-eol : (t : Tok) (v : List Tok) → EndsIn t (v ++ Eol ∷ [])
ends-eol t [] = refl
ends-eol t (u ∷ v) = ends-eol u v

-- what is spelled so ends with a row
module _ {X : Type 0} (r : Reader X) (F : X → Type 0) (t : X → List Tok) (law : Reads r F t) (row : (x : X) → F x → (v : List Tok) × (t x ≡ v ++ Eol ∷ [])) where
  took : (v : List Tok) (ts : List Tok) (x : X) (rest : List Tok) → F x → t x ≡ v ++ Eol ∷ [] → ts ≡ t x ++ rest → TookRow r ts x rest
  took [] ts x rest f e is = record { first = Eol; others = []; ends = refl; is = is ∙ ap (λ (w : List Tok). w ++ rest) e; fixed = λ o. ap (λ (w : List Tok). r (w ++ o)) (sym e) ∙ law.again x o f }
  took (u ∷ v) ts x rest f e is = record { first = u; others = v ++ Eol ∷ []; ends = ends-eol u v; is = is ∙ ap (λ (w : List Tok). w ++ rest) e; fixed = λ o. ap (λ (w : List Tok). r (w ++ o)) (sym e) ∙ law.again x o f }

  pub row-reads : ReadsRows r
  row-reads = record {
    takes = λ ts x rest e. let h = law.takes ts x rest e in let w = row x h.1 in took w.0 ts x rest h.1 w.1 h.0;
    stops = law.stops;
  }

-- the same of one line or more
module _ {X : Type 0} (r : Reader X) (F : X → Type 0) (t : X → List Tok) (law : Reads r F t) (whole : (x : X) → F x → IsLines (t x)) (some : (x : X) → F x → 0 < length (t x)) where
  took-lines : (v : List Tok) (ts : List Tok) (x : X) (rest : List Tok) → F x → t x ≡ v → IsLines v → 0 < length v → ts ≡ t x ++ rest → TookRow r ts x rest
  took-lines [] ts x rest f e lines some is = absurd (omega (arith, some))
  took-lines (u ∷ v) ts x rest f e lines some is = record { first = u; others = v; ends = lines; is = is ∙ ap (λ (w : List Tok). w ++ rest) e; fixed = λ o. ap (λ (w : List Tok). r (w ++ o)) (sym e) ∙ law.again x o f }

  pub row-lines : ReadsRows r
  row-lines = record {
    takes = λ ts x rest e. let h = law.takes ts x rest e in took-lines (t x) ts x rest h.1 refl (whole x h.1) (some x h.1) h.0;
    stops = law.stops;
  }

module _ {X Y : Type 0} (make : X → Y) (r : Reader X) (law : ReadsRows r) where
  made-took : (ts : List Tok) (q : Out X) (y : Y) (rest : List Tok) → r ts ≡ q → ◌>>=◌ {A = X × List Tok} {B = Y × List Tok} q (λ p. Ok (make p.0, p.1)) ≡ Ok (y, rest) → TookRow (made make r) ts y rest
  made-took ts (Ok p) y rest e h =
      let k = law.takes ts p.0 p.1 e in
      record {
        first = k.first;
        others = k.others;
        ends = k.ends;
        is = k.is ∙ ap (λ (v : List Tok). (k.first ∷ k.others) ++ v) (ok-rest (make p.0) y p.1 rest h);
        fixed = λ o. rw (k.fixed o) (ap (λ (z : Y). Ok (z, o)) (ok-value (make p.0) y p.1 rest h));
      }
  made-took ts (Err bad) y rest e h = absurd cc

  made-err : (ts : List Tok) (q : Out X) (bad : List Tok) → r ts ≡ q → ◌>>=◌ {A = X × List Tok} {B = Y × List Tok} q (λ p. Ok (make p.0, p.1)) ≡ Err bad → Stops (made make r) ts bad
  made-err ts (Ok p) bad e h = absurd cc
  made-err ts (Err other) bad e h =
      let s = law.stops ts bad (e ∙ ap (λ (v : List Tok). Err v) (err-is other bad h)) in
      record { part = s.part; is = s.is; flat = s.flat; fixed = λ o alike. rw (s.fixed o alike) refl }

  pub row-made : ReadsRows (made make r)
  row-made = record { takes = λ ts y rest e. made-took ts (r ts) y rest refl e; stops = λ ts bad e. made-err ts (r ts) bad refl e }

pub row-refused : {X : Type 0} → ReadsRows {X = X} refused
row-refused {X} = record { takes = λ ts x rest e. absurd cc; stops = λ ts bad e. record { part = []; is = err-is {Y = X} ts bad e; flat = tt; fixed = λ o a. refl } }

module _ {X : Type 0} (k : List ℕ) (r other : Reader X) where
  -- the same first token
  else-alike : (v bad o : List Tok) → AreAlike bad o → IsElse k r other (v ++ bad) → IsElse k r other (v ++ o)
  else-alike [] [] o a h = subst (IsElse k r other) (sym a) h
  else-alike [] (q ∷ bad) [] a h = absurd a
  else-alike [] (q ∷ bad) (p ∷ o) a h = subst (λ (z : Tok). IsElse k r other (z ∷ o)) a (head q bad o h)
    where
      head : (q : Tok) (bad o : List Tok) → IsElse k r other (q ∷ bad) → IsElse k r other (q ∷ o)
      head (Atom a) bad o h = h
      head Left bad o h = tt
      head Right bad o h = tt
      head Semi bad o h = tt
      head Eol bad o h = tt
      head Done bad o h = tt
      head Stuck bad o h = tt
  else-alike (Atom b ∷ v) bad o a h = h
  else-alike (Left ∷ v) bad o a h = tt
  else-alike (Right ∷ v) bad o a h = tt
  else-alike (Semi ∷ v) bad o a h = tt
  else-alike (Eol ∷ v) bad o a h = tt
  else-alike (Done ∷ v) bad o a h = tt
  else-alike (Stuck ∷ v) bad o a h = tt

  -- one token at least is the same
  else-row : (t : Tok) (v rest o : List Tok) → IsElse k r other (t ∷ v ++ rest) → IsElse k r other (t ∷ v ++ o)
  else-row (Atom a) v rest o h = h
  else-row Left v rest o h = tt
  else-row Right v rest o h = tt
  else-row Semi v rest o h = tt
  else-row Eol v rest o h = tt
  else-row Done v rest o h = tt
  else-row Stuck v rest o h = tt

  module _ (law : ReadsRows r) (law2 : ReadsRows other) where
    keyed-took : (ts : List Tok) (x : X) (rest : List Tok) → keyed k r other ts ≡ Ok (x, rest) → TookRow (keyed k r other) ts x rest
    keyed-took ts x rest e =
        elim (keyed-cases k r other ts (Ok (x, rest)) e) [
          | inl h ↦ let q = law.takes h.0 x rest h.2 in
              record { first = Atom k; others = q.first ∷ q.others; ends = q.ends; is = h.1 ∙ ap (λ (z : List Tok). Atom k ∷ z) q.is; fixed = λ o. keyed-hit k r other ((q.first ∷ q.others) ++ o) ∙ q.fixed o }
          | inr h ↦ let q = law2.takes ts x rest h.1 in
              record {
                first = q.first;
                others = q.others;
                ends = q.ends;
                is = q.is;
                fixed = λ o. keyed-miss k r other ((q.first ∷ q.others) ++ o) (else-row q.first q.others rest o (subst (IsElse k r other) q.is h.0)) ∙ q.fixed o;
              }
        ]

    keyed-err : (ts bad : List Tok) → keyed k r other ts ≡ Err bad → Stops (keyed k r other) ts bad
    keyed-err ts bad e =
        elim (keyed-cases k r other ts (Err bad) e) [
          | inl h ↦ let s = law.stops h.0 bad h.2 in
              record { part = Atom k ∷ s.part; is = h.1 ∙ ap (λ (z : List Tok). Atom k ∷ z) s.is; flat = (λ c. absurd cc, s.flat); fixed = λ o a. keyed-hit k r other (s.part ++ o) ∙ s.fixed o a }
          | inr h ↦ let s = law2.stops ts bad h.1 in
              record { part = s.part; is = s.is; flat = s.flat; fixed = λ o a. keyed-miss k r other (s.part ++ o) (else-alike s.part bad o a (subst (IsElse k r other) s.is h.0)) ∙ s.fixed o a }
        ]

    pub row-keyed : ReadsRows (keyed k r other)
    row-keyed = record { takes = keyed-took; stops = keyed-err }

room-left : (n : ℕ) → eqb (suc n) 0 ≡ false
room-left n = grind (arith, nat_tests)

pub row-same : {X : Type 0} (r q : Reader X) → r ≡ q → ReadsRows q → ReadsRows r
row-same r q e law = subst ReadsRows (sym e) law

abbrev err : {X : Type 0} → List Tok → Out X
err ts = Err ts

pub row-room : {X : Type 0} (room : ℕ) (r : Reader X) → ReadsRows r → ReadsRows (where_room room r)
row-room zero r law = row-refused
row-room {X} (suc n) r law = row-same (where_room (suc n) r) r (ap (λ (b : Bool). λ (ts : List Tok). cond b (err ts) (r ts)) (room-left n)) law
