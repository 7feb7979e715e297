-- Items of whole lines. Where reading stops, the lines before can be completed.
use Rattle.std.proofs.Common.{◌≡◌, ℕ, zero, suc, ◌<◌, Bool, true, false, List, [], ◌∷◌, ◌++◌, length, Ok, Err, refl, sym, ap, subst, ◌∙◌, arith, append_assoc, inl, inr, ◌⊎◌}
use Rattle.std.specs.List.{AllByRecursion, flat_map}
use Rattle.std.proofs.lemmas.List.{append-nil}
use Rattle.mc_text.specs.Tokens.{Tok, Atom, Eol}
use Rattle.mc_text.specs.Reading.{Reader, ◌>>=◌, pair, with, made, star, goes_on, refused}
use Rattle.mc_text.specs.inner.Reading.{keyed}
use Rattle.mc_text.proofs.Lines.{EndsIn, IsLines}
use Rattle.mc_text.proofs.Star.{Shrinks}
use Rattle.mc_text.proofs.Listed.{cons, last, cons-bad, last-bad, alike-go2, R-item, R-fails, R-end, list-takes, list-again}
use Rattle.mc_text.proofs.ReaderLaws.{Out, Reads, IsFlat, AreAlike, ok-is, err-is, IsElse, else-alike, keyed-cases, keyed-hit, keyed-miss}

ends-append : (t : Tok) (a b : List Tok) → EndsIn t a → IsLines b → EndsIn t (a ++ b)
ends-append t [] [] h k = h
ends-append t [] (u ∷ us) h k = k
ends-append t (u ∷ us) b h k = ends-append u us b h k

pub lines-append : (a b : List Tok) → IsLines a → IsLines b → IsLines (a ++ b)
lines-append [] b h k = k
lines-append (t ∷ a) b h k = ends-append t a b h k

abbrev err : {Y : Type 0} → List Tok → Out Y
err bad = Err bad

pub record Halts {X : Type 0} (read : Reader X) (F : X → Type 0) (t : X → List Tok) (ts bad : List Tok) : Type 0 where
  pub front : List Tok
  pub part : List Tok
  pub is : ts ≡ front ++ (part ++ bad)
  pub lines : IsLines front
  pub flat : IsFlat part
  pub fixed : (o : List Tok) → AreAlike bad o → read (front ++ (part ++ o)) ≡ Err o
  pub whole : X
  pub fits : F whole
  pub more : List Tok
  pub begun : t whole ≡ front ++ more

pub record Covers {X : Type 0} (read : Reader X) (F : X → Type 0) (t : X → List Tok) : Type 0 where
  pub takes : (ts : List Tok) (x : X) (rest : List Tok) → read ts ≡ Ok (x, rest) → (ts ≡ t x ++ rest) × F x
  pub again : (x : X) (rest : List Tok) → F x → read (t x ++ rest) ≡ Ok (x, rest)
  pub halts : (ts bad : List Tok) → read ts ≡ Err bad → Halts read F t ts bad
  pub ends : (x : X) → F x → IsLines (t x)
  pub some : X
  pub some-fits : F some

pub row-covers : {X : Type 0} (r : Reader X) (F : X → Type 0) (t : X → List Tok) → Reads r F t → ((x : X) → F x → IsLines (t x)) → (x : X) → F x → Covers r F t
row-covers r F t law ends x h = record {
  takes = law.takes;
  again = law.again;
  halts = λ ts bad e. let s = law.stops ts bad e in record { front = []; part = s.part; is = s.is; lines = tt; flat = s.flat; fixed = s.fixed; whole = x; fits = h; more = t x; begun = refl };
  ends = ends;
  some = x;
  some-fits = h;
}

module _ {X Y : Type 0} (a : Reader X) (FA : X → Type 0) (ta : X → List Tok) (ca : Covers a FA ta)
    (b : X → Reader Y) (FB : X → Y → Type 0) (tb : X → Y → List Tok) (cb : (x : X) → FA x → Covers (b x) (FB x) (tb x)) where
  abbrev FW : X × Y → Type 0
  FW p = FA p.0 × FB p.0 p.1

  abbrev tw : X × Y → List Tok
  tw p = ta p.0 ++ tb p.0 p.1

  abbrev step : X → Out Y → Out (X × Y)
  step x q = ◌>>=◌ {A = Y × List Tok} {B = (X × Y) × List Tok} q (λ y. Ok ((x, y.0), y.1))

  takes2 : (ts : List Tok) (x : X) (us : List Tok) (q : Out Y) (p : X × Y) (rest : List Tok) → a ts ≡ Ok (x, us) → b x us ≡ q → step x q ≡ Ok (p, rest) → (ts ≡ tw p ++ rest) × FW p
  takes2 ts x us (Ok y) p rest ea eb e =
      let h = ca.takes ts x us ea in
      let k = (cb x h.1).takes us y.0 y.1 eb in
      subst (λ (z : (X × Y) × List Tok). (ts ≡ tw z.0 ++ z.1) × FW z.0) (ok-is ((x, y.0), y.1) (p, rest) e)
      (h.0 ∙ ap (λ (v : List Tok). ta x ++ v) k.0 ∙ sym (append_assoc (ta x) (tb x y.0) y.1), (h.1, k.1))
  takes2 ts x us (Err bad) p rest ea eb e = absurd cc

  takes1 : (ts : List Tok) (q : Out X) (p : X × Y) (rest : List Tok) → a ts ≡ q → ◌>>=◌ {A = X × List Tok} {B = (X × Y) × List Tok} q (λ z. step z.0 (b z.0 z.1)) ≡ Ok (p, rest) → (ts ≡ tw p ++ rest) × FW p
  takes1 ts (Ok z) p rest ea e = takes2 ts z.0 z.1 (b z.0 z.1) p rest ea refl e
  takes1 ts (Err bad) p rest ea e = absurd cc

  again1 : (p : X × Y) (rest : List Tok) → FW p → with a b (tw p ++ rest) ≡ Ok (p, rest)
  again1 p rest h = ap (with a b) (append_assoc (ta p.0) (tb p.0 p.1) rest) ∙ rw (ca.again p.0 (tb p.0 p.1 ++ rest) h.0, (cb p.0 h.0).again p.1 rest h.1) refl

  halts2 : (ts : List Tok) (x : X) (us : List Tok) (q : Out Y) (bad : List Tok) → a ts ≡ Ok (x, us) → b x us ≡ q → step x q ≡ Err bad → Halts (with a b) FW tw ts bad
  halts2 ts x us (Ok y) bad ea eb e = absurd cc
  halts2 ts x us (Err other) bad ea eb e =
      let h = ca.takes ts x us ea in
      let s = (cb x h.1).halts us bad (eb ∙ ap (λ (v : List Tok). err v) (err-is other bad e)) in
      record {
        front = ta x ++ s.front;
        part = s.part;
        is = h.0 ∙ ap (λ (v : List Tok). ta x ++ v) s.is ∙ sym (append_assoc (ta x) s.front (s.part ++ bad));
        lines = lines-append (ta x) s.front (ca.ends x h.1) s.lines;
        flat = s.flat;
        fixed = λ o alike. ap (with a b) (append_assoc (ta x) s.front (s.part ++ o)) ∙ rw (ca.again x (s.front ++ (s.part ++ o)) h.1, s.fixed o alike) refl;
        whole = (x, s.whole);
        fits = (h.1, s.fits);
        more = s.more;
        begun = ap (λ (v : List Tok). ta x ++ v) s.begun ∙ sym (append_assoc (ta x) s.front s.more);
      }

  halts1 : (ts : List Tok) (q : Out X) (bad : List Tok) → a ts ≡ q → ◌>>=◌ {A = X × List Tok} {B = (X × Y) × List Tok} q (λ z. step z.0 (b z.0 z.1)) ≡ Err bad → Halts (with a b) FW tw ts bad
  halts1 ts (Ok z) bad ea e = halts2 ts z.0 z.1 (b z.0 z.1) bad ea refl e
  halts1 ts (Err other) bad ea e =
      let s = ca.halts ts bad (ea ∙ ap (λ (v : List Tok). err v) (err-is other bad e)) in
      let y = cb s.whole s.fits in
      record {
        front = s.front;
        part = s.part;
        is = s.is;
        lines = s.lines;
        flat = s.flat;
        fixed = λ o alike. rw (s.fixed o alike) refl;
        whole = (s.whole, y.some);
        fits = (s.fits, y.some-fits);
        more = s.more ++ tb s.whole y.some;
        begun = ap (λ (v : List Tok). v ++ tb s.whole y.some) s.begun ∙ append_assoc s.front s.more (tb s.whole y.some);
      }

  pub covers-with : Covers (with a b) FW tw
  covers-with = record {
    takes = λ ts p rest e. takes1 ts (a ts) p rest refl e;
    again = again1;
    halts = λ ts bad e. halts1 ts (a ts) bad refl e;
    ends = λ p h. lines-append (ta p.0) (tb p.0 p.1) (ca.ends p.0 h.0) ((cb p.0 h.0).ends p.1 h.1);
    some = (ca.some, (cb ca.some ca.some-fits).some);
    some-fits = (ca.some-fits, (cb ca.some ca.some-fits).some-fits);
  }

-- ---- items, as long as one follows, and then b

module _ {X Y : Type 0} (go : Tok → Bool) (r : Reader X) (small : Shrinks r) (F : X → Type 0) (t : X → List Tok) (cr : Covers r F t)
    (heads : (x : X) → F x → (us : List Tok) → goes_on go (t x ++ us) ≡ true)
    (b : Reader Y) (G : Y → Type 0) (u : Y → List Tok) (cb : Covers b G u)
    (quiet : (y : Y) → G y → (us : List Tok) → goes_on go (u y ++ us) ≡ false) where
  abbrev R : Reader (List X × Y)
  R = pair (star go r) b

  abbrev FL : List X × Y → Type 0
  FL p = AllByRecursion F p.0 × G p.1

  abbrev tl : List X × Y → List Tok
  tl p = flat_map t p.0 ++ u p.1

  abbrev HaltsAt : List Tok → Type 0
  HaltsAt ts = (bad : List Tok) → R ts ≡ Err bad → Halts R FL tl ts bad

  list-halts2 : (ts : List Tok) (q : Out X) → goes_on go ts ≡ true → r ts ≡ q → ((us : List Tok) → length us < length ts → HaltsAt us) → HaltsAt ts
  list-halts2 ts (Ok x) g e ih bad h =
      let k = cr.takes ts x.0 x.1 e in
      let s = ih x.1 (small ts x.0 x.1 e) bad (cons-bad x.0 (R x.1) bad (sym (R-item go r small b ts x.0 x.1 g e) ∙ h)) in
      record {
        front = t x.0 ++ s.front;
        part = s.part;
        is = k.0 ∙ ap (λ (v : List Tok). t x.0 ++ v) s.is ∙ sym (append_assoc (t x.0) s.front (s.part ++ bad));
        lines = lines-append (t x.0) s.front (cr.ends x.0 k.1) s.lines;
        flat = s.flat;
        fixed = λ o alike. ap R (append_assoc (t x.0) s.front (s.part ++ o)) ∙ R-item go r small b (t x.0 ++ (s.front ++ (s.part ++ o))) x.0 (s.front ++ (s.part ++ o)) (heads x.0 k.1 (s.front ++ (s.part ++ o))) (cr.again x.0 (s.front ++ (s.part ++ o)) k.1) ∙ ap (cons {Y = Y} x.0) (s.fixed o alike);
        whole = (x.0 ∷ s.whole.0, s.whole.1);
        fits = ((k.1, s.fits.0), s.fits.1);
        more = s.more;
        begun = append_assoc (t x.0) (flat_map t s.whole.0) (u s.whole.1) ∙ ap (λ (v : List Tok). t x.0 ++ v) s.begun ∙ sym (append_assoc (t x.0) s.front s.more);
      }
  list-halts2 ts (Err other) g e ih bad h =
      let same : other ≡ bad = err-is other bad (sym (R-fails go r small b ts other g e) ∙ h) in
      let s = cr.halts ts bad (e ∙ ap (λ (v : List Tok). err v) same) in
      record {
        front = s.front;
        part = s.part;
        is = s.is;
        lines = s.lines;
        flat = s.flat;
        fixed = λ o alike. R-fails go r small b (s.front ++ (s.part ++ o)) o (sym (alike-go2 go s.front s.part bad o alike) ∙ ap (goes_on go) (sym s.is) ∙ g) (s.fixed o alike);
        whole = (s.whole ∷ [], cb.some);
        fits = ((s.fits, tt), cb.some-fits);
        more = s.more ++ u cb.some;
        begun = ap (λ (v : List Tok). v ++ u cb.some) (append-nil (t s.whole) ∙ s.begun) ∙ append_assoc s.front s.more (u cb.some);
      }

  list-halts1 : (ts : List Tok) (g : Bool) → goes_on go ts ≡ g → ((us : List Tok) → length us < length ts → HaltsAt us) → HaltsAt ts
  list-halts1 ts true e ih bad h = list-halts2 ts (r ts) e refl ih bad h
  list-halts1 ts false e ih bad h =
      let s = cb.halts ts bad (last-bad {X = X} (b ts) bad (sym (R-end go r small b ts e) ∙ h)) in
      record {
        front = s.front;
        part = s.part;
        is = s.is;
        lines = s.lines;
        flat = s.flat;
        fixed = λ o alike. R-end go r small b (s.front ++ (s.part ++ o)) (sym (alike-go2 go s.front s.part bad o alike) ∙ ap (goes_on go) (sym s.is) ∙ e) ∙ ap (last {X = X}) (s.fixed o alike);
        whole = ([], s.whole);
        fits = (tt, s.fits);
        more = s.more;
        begun = s.begun;
      }

  list-halts : (n : ℕ) (ts : List Tok) → length ts < n → HaltsAt ts
  list-halts zero ts lt bad h = absurd (omega arith)
  list-halts (suc n) ts lt bad h = list-halts1 ts (goes_on go ts) refl (λ us less. list-halts n us (omega arith)) bad h

  each-lines : (xs : List X) → AllByRecursion F xs → IsLines (flat_map t xs)
  each-lines [] h = tt
  each-lines (x ∷ xs) h = lines-append (t x) (flat_map t xs) (cr.ends x h.0) (each-lines xs h.1)

  pub covers-list : Covers R FL tl
  covers-list = record {
    takes = λ ts p rest e. list-takes go r small F t cr.takes cr.again heads b G u cb.takes cb.again quiet (suc (length ts)) ts (omega arith) p rest e;
    again = λ p rest h. list-again go r small F t cr.takes cr.again heads b G u cb.takes cb.again quiet p.0 p.1 rest h.0 h.1;
    halts = λ ts bad e. list-halts (suc (length ts)) ts (omega arith) bad e;
    ends = λ p h. lines-append (flat_map t p.0) (u p.1) (each-lines p.0 h.0) (cb.ends p.1 h.1);
    some = ([], cb.some);
    some-fits = (tt, cb.some-fits);
  }

-- ---- what was read, put together, and what a word leads to

module _ {X Y : Type 0} (make : X → Y) (r : Reader X) (F : X → Type 0) (t : X → List Tok) (law : Covers r F t)
    (G : Y → Type 0) (u : Y → List Tok) (into : (x : X) → F x → G (make x)) (same : (x : X) → u (make x) ≡ t x) (from : (y : Y) → G y → (x : X) × (make x ≡ y) × F x) where
  made-one : (ts : List Tok) (q : Out X) (y : Y) (rest : List Tok) → r ts ≡ q → ◌>>=◌ {A = X × List Tok} {B = Y × List Tok} q (λ p. Ok (make p.0, p.1)) ≡ Ok (y, rest) → (ts ≡ u y ++ rest) × G y
  made-one ts (Ok p) y rest e h =
      let k = law.takes ts p.0 p.1 e in
      subst (λ (w : Y × List Tok). (ts ≡ u w.0 ++ w.1) × G w.0) (ok-is (make p.0, p.1) (y, rest) h) (k.0 ∙ ap (λ (v : List Tok). v ++ p.1) (sym (same p.0)), into p.0 k.1)
  made-one ts (Err bad) y rest e h = absurd cc

  made-bad : (q : Out X) (bad : List Tok) → ◌>>=◌ {A = X × List Tok} {B = Y × List Tok} q (λ p. Ok (make p.0, p.1)) ≡ Err bad → q ≡ Err bad
  made-bad (Ok p) bad h = absurd cc
  made-bad (Err other) bad h = ap (λ (v : List Tok). err v) (err-is other bad h)

  made-again-covers : (y : Y) (rest : List Tok) → G y → made make r (u y ++ rest) ≡ Ok (y, rest)
  made-again-covers y rest h =
      let k = from y h in
      subst (λ (z : Y). made make r (u z ++ rest) ≡ Ok (z, rest)) k.1 (ap (λ (v : List Tok). made make r (v ++ rest)) (same k.0) ∙ rw (law.again k.0 rest k.2) refl)

  made-ends : (y : Y) → G y → IsLines (u y)
  made-ends y h = let k = from y h in subst (λ (z : Y). IsLines (u z)) k.1 (subst IsLines (sym (same k.0)) (law.ends k.0 k.2))

  pub covers-made : Covers (made make r) G u
  covers-made = record {
    takes = λ ts y rest e. made-one ts (r ts) y rest refl e;
    again = made-again-covers;
    halts = λ ts bad e. let s = law.halts ts bad (made-bad (r ts) bad e) in record {
      front = s.front;
      part = s.part;
      is = s.is;
      lines = s.lines;
      flat = s.flat;
      fixed = λ o a. rw (s.fixed o a) refl;
      whole = make s.whole;
      fits = into s.whole s.fits;
      more = s.more;
      begun = same s.whole ∙ s.begun;
    };
    ends = made-ends;
    some = make law.some;
    some-fits = into law.some law.some-fits;
  }

-- ---- alternatives

-- a reader of some of the values: the lines before are completed by any value of the whole
pub record Part {X : Type 0} (read : Reader X) (F : X → Type 0) (G : X → Type 0) (t : X → List Tok) : Type 0 where
  pub takes : (ts : List Tok) (x : X) (rest : List Tok) → read ts ≡ Ok (x, rest) → (ts ≡ t x ++ rest) × F x
  pub again : (x : X) (rest : List Tok) → F x → read (t x ++ rest) ≡ Ok (x, rest)
  pub halts : (ts bad : List Tok) → read ts ≡ Err bad → Halts read G t ts bad
  pub ends : (x : X) → F x → IsLines (t x)

pub covers-part : {X : Type 0} (read : Reader X) (F G : X → Type 0) (t : X → List Tok) → Part read F G t → ((x : X) → G x → F x) → ((x : X) → F x → G x) → (x : X) → G x → Covers read G t
covers-part read F G t p down up x h = record {
  takes = λ ts y rest e. let k = p.takes ts y rest e in (k.0, up y k.1);
  again = λ y rest g. p.again y rest (down y g);
  halts = p.halts;
  ends = λ y g. p.ends y (down y g);
  some = x;
  some-fits = h;
}

abbrev pub Never : {X : Type 0} → X → Type 0
Never x = ⊥

pub part-refused : {X : Type 0} (G : X → Type 0) (t : X → List Tok) (x : X) → G x → Part refused Never G t
part-refused {X} G t x h = record {
  takes = λ ts y rest e. absurd (clash ts y rest e);
  again = λ y rest f. absurd f;
  halts = λ ts bad e. record { front = []; part = []; is = err-is {Y = X} ts bad e; lines = tt; flat = tt; fixed = λ o a. refl; whole = x; fits = h; more = t x; begun = refl };
  ends = λ y f. absurd f;
}
  where
    clash : (ts : List Tok) (y : X) (rest : List Tok) → err {Y = X} ts ≡ Ok (y, rest) → ⊥
    clash ts y rest e = cc

key-ends : (k : List ℕ) (v : List Tok) → 0 < length v → IsLines v → IsLines (Atom k ∷ v)
key-ends k [] lt h = absurd (omega arith)
key-ends k (q ∷ qs) lt h = h

module _ {X : Type 0} (k : List ℕ) (r other : Reader X) (F : X → Type 0) (t : X → List Tok) (law : Covers r F t) (O G : X → Type 0) (w : X → List Tok) (law2 : Part other O G w)
    (long : (x : X) → F x → 0 < length (t x)) (hit : (x : X) → F x → w x ≡ Atom k ∷ t x) (up : (x : X) → F x → G x)
    (sep : (x : X) → O x → (rest : List Tok) → IsElse k r other (w x ++ rest)) where
  abbrev pub Either : X → Type 0
  Either x = F x ⊎ O x

  keyed-takes : (ts : List Tok) (x : X) (rest : List Tok) → keyed k r other ts ≡ Ok (x, rest) → (ts ≡ w x ++ rest) × Either x
  keyed-takes ts x rest e =
      elim (keyed-cases k r other ts (Ok (x, rest)) e) [
        | inl h ↦ let q = law.takes h.0 x rest h.2 in (h.1 ∙ ap (λ (z : List Tok). Atom k ∷ z) q.0 ∙ ap (λ (z : List Tok). z ++ rest) (sym (hit x q.1)), inl q.1)
        | inr h ↦ let q = law2.takes ts x rest h.1 in (q.0, inr q.1)
      ]

  keyed-again : (x : X) (rest : List Tok) → Either x → keyed k r other (w x ++ rest) ≡ Ok (x, rest)
  keyed-again x rest (inl f) = ap (λ (z : List Tok). keyed k r other (z ++ rest)) (hit x f) ∙ keyed-hit k r other (t x ++ rest) ∙ law.again x rest f
  keyed-again x rest (inr f) = keyed-miss k r other (w x ++ rest) (sep x f rest) ∙ law2.again x rest f

  keyed-ends : (x : X) → Either x → IsLines (w x)
  keyed-ends x (inl f) = subst IsLines (sym (hit x f)) (key-ends k (t x) (long x f) (law.ends x f))
  keyed-ends x (inr f) = law2.ends x f

  -- reading stopped behind the word
  behind : (ts us bad front : List Tok) (s : Halts r F t us bad) → s.front ≡ front → ts ≡ Atom k ∷ us → Halts (keyed k r other) G w ts bad
  behind ts us bad [] s e p = record {
    front = [];
    part = Atom k ∷ s.part;
    lines = tt;
    flat = (λ c. clash c, s.flat);
    is = p ∙ ap (λ (z : List Tok). Atom k ∷ z) (s.is ∙ ap (λ (z : List Tok). z ++ (s.part ++ bad)) e);
    fixed = λ o a. keyed-hit k r other (s.part ++ o) ∙ ap (λ (z : List Tok). r (z ++ (s.part ++ o))) (sym e) ∙ s.fixed o a;
    whole = law.some;
    fits = up law.some law.some-fits;
    more = w law.some;
    begun = refl;
  }
    where
      clash : Atom k ≡ Eol → ⊥
      clash c = cc
  behind ts us bad (q ∷ qs) s e p = record {
    front = Atom k ∷ q ∷ qs;
    part = s.part;
    lines = subst IsLines e s.lines;
    flat = s.flat;
    is = p ∙ ap (λ (z : List Tok). Atom k ∷ z) (s.is ∙ ap (λ (z : List Tok). z ++ (s.part ++ bad)) e);
    fixed = λ o a. keyed-hit k r other ((q ∷ qs) ++ (s.part ++ o)) ∙ ap (λ (z : List Tok). r (z ++ (s.part ++ o))) (sym e) ∙ s.fixed o a;
    whole = s.whole;
    fits = up s.whole s.fits;
    more = s.more;
    begun = hit s.whole s.fits ∙ ap (λ (z : List Tok). Atom k ∷ z) (s.begun ∙ ap (λ (z : List Tok). z ++ s.more) e);
  }

  elsewhere : (ts bad : List Tok) → IsElse k r other ts → other ts ≡ Err bad → Halts (keyed k r other) G w ts bad
  elsewhere ts bad h e =
      let s = law2.halts ts bad e in
      let g : IsElse k r other ((s.front ++ s.part) ++ bad) = subst (IsElse k r other) (s.is ∙ sym (append_assoc s.front s.part bad)) h in
      record {
        front = s.front;
        part = s.part;
        is = s.is;
        lines = s.lines;
        flat = s.flat;
        fixed = λ o a. keyed-miss k r other (s.front ++ (s.part ++ o)) (subst (IsElse k r other) (append_assoc s.front s.part o) (else-alike k r other (s.front ++ s.part) bad o a g)) ∙ s.fixed o a;
        whole = s.whole;
        fits = s.fits;
        more = s.more;
        begun = s.begun;
      }

  pub part-keyed : Part (keyed k r other) Either G w
  part-keyed = record {
    takes = keyed-takes;
    again = keyed-again;
    halts = λ ts bad e. elim (keyed-cases k r other ts (Err bad) e) [
      | inl h ↦ let s = law.halts h.0 bad h.2 in behind ts h.0 bad s.front s refl h.1
      | inr h ↦ elsewhere ts bad h.0 h.1
    ];
    ends = keyed-ends;
  }
