-- Alternatives within a line, values of other shapes, and tests of what was read.
use Rattle.std.proofs.Common.{◌≡◌, Bool, true, false, cond, List, [], ◌∷◌, ◌++◌, Ok, Err, refl, sym, ap, subst, ◌∙◌, inl, inr, ◌⊎◌}
use Rattle.mc_text.specs.Tokens.{Tok}
use Rattle.mc_text.specs.Reading.{Reader, ◌>>=◌, made, choice, goes_on}
use Rattle.mc_text.specs.inner.Reading.{checked}
use Rattle.mc_text.proofs.ReaderLaws.{Out, Reads, Stops, StaysFlat, AreAlike, ok-is, err-is, made-takes, made-again, made-stops}

-- the same first token decides
pub alike-first : (go : Tok → Bool) (front bad other : List Tok) → AreAlike bad other → goes_on go (front ++ bad) ≡ goes_on go (front ++ other)
alike-first go [] [] other h = ap (goes_on go) (sym h)
alike-first go [] (t ∷ bad) [] h = absurd h
alike-first go [] (t ∷ bad) (u ∷ other) h = ap go h
alike-first go (t ∷ front) bad other h = refl

module _ {X : Type 0} (go : Tok → Bool) (a b : Reader X) (F G : X → Type 0) (t : X → List Tok) (ra : Reads a F t) (rb : Reads b G t)
    (heads : (x : X) → F x → (us : List Tok) → goes_on go (t x ++ us) ≡ true) (others : (x : X) → G x → (us : List Tok) → goes_on go (t x ++ us) ≡ false) where
  chosen : (v : Bool) (ts : List Tok) → goes_on go ts ≡ v → choice go a b ts ≡ cond v (a ts) (b ts)
  chosen v ts e = ap (λ (w : Bool). cond w (a ts) (b ts)) e

  choice-takes : (v : Bool) (ts : List Tok) (x : X) (rest : List Tok) → cond v (a ts) (b ts) ≡ Ok (x, rest) → (ts ≡ t x ++ rest) × (F x ⊎ G x)
  choice-takes true ts x rest e = let h = ra.takes ts x rest e in (h.0, inl h.1)
  choice-takes false ts x rest e = let h = rb.takes ts x rest e in (h.0, inr h.1)

  choice-again : (x : X) (rest : List Tok) → F x ⊎ G x → choice go a b (t x ++ rest) ≡ Ok (x, rest)
  choice-again x rest (inl f) = chosen true (t x ++ rest) (heads x f rest) ∙ ra.again x rest f
  choice-again x rest (inr g) = chosen false (t x ++ rest) (others x g rest) ∙ rb.again x rest g

  choice-stops : (v : Bool) (ts bad : List Tok) → goes_on go ts ≡ v → cond v (a ts) (b ts) ≡ Err bad → Stops (choice go a b) ts bad
  choice-stops true ts bad g e =
      let s = ra.stops ts bad e in
      record {
        part = s.part;
        is = s.is;
        flat = s.flat;
        fixed = λ o alike. chosen true (s.part ++ o) (sym (alike-first go s.part bad o alike) ∙ ap (goes_on go) (sym s.is) ∙ g) ∙ s.fixed o alike;
      }
  choice-stops false ts bad g e =
      let s = rb.stops ts bad e in
      record {
        part = s.part;
        is = s.is;
        flat = s.flat;
        fixed = λ o alike. chosen false (s.part ++ o) (sym (alike-first go s.part bad o alike) ∙ ap (goes_on go) (sym s.is) ∙ g) ∙ s.fixed o alike;
      }

  pub reads-choice : Reads (choice go a b) (λ x. F x ⊎ G x) t
  reads-choice = record {
    takes = λ ts x rest e. choice-takes (goes_on go ts) ts x rest e;
    again = choice-again;
    stops = λ ts bad e. choice-stops (goes_on go ts) ts bad refl e;
  }

-- other words for which values fit and how they are spelled
module _ {X : Type 0} (r : Reader X) (F G : X → Type 0) (t u : X → List Tok) (law : Reads r F t) (up : (x : X) → F x → G x) (down : (x : X) → G x → F x) (same : (x : X) → F x → u x ≡ t x) where
  pub reads-told : Reads r G u
  reads-told = record {
    takes = λ ts x rest e. let h = law.takes ts x rest e in (h.0 ∙ ap (λ (v : List Tok). v ++ rest) (sym (same x h.1)), up x h.1);
    again = λ x rest g. let f = down x g in ap (λ (v : List Tok). r (v ++ rest)) (same x f) ∙ law.again x rest f;
    stops = law.stops;
  }

-- fewer or other words for which values fit
pub reads-as : {X : Type 0} (r : Reader X) (F G : X → Type 0) (t : X → List Tok) → Reads r F t → ((x : X) → F x → G x) → ((x : X) → G x → F x) → Reads r G t
reads-as r F G t law up down = reads-told r F G t t law up down (λ x h. refl)

-- what was read, put together
module _ {X Y : Type 0} (make : X → Y) (r : Reader X) (F : X → Type 0) (t : X → List Tok) (law : Reads r F t)
    (G : Y → Type 0) (u : Y → List Tok) (into : (x : X) → F x → G (make x)) (same : (x : X) → F x → u (make x) ≡ t x) (from : (y : Y) → G y → (x : X) × (make x ≡ y) × F x) where
  put-takes : (ts : List Tok) (y : Y) (rest : List Tok) → made make r ts ≡ Ok (y, rest) → (ts ≡ u y ++ rest) × G y
  put-takes ts y rest e =
      let k = made-takes make r F t law ts y rest e in
      subst (λ (z : Y). (ts ≡ u z ++ rest) × G z) k.1 (k.2 ∙ ap (λ (v : List Tok). v ++ rest) (sym (same k.0 k.3)), into k.0 k.3)

  put-again : (y : Y) (rest : List Tok) → G y → made make r (u y ++ rest) ≡ Ok (y, rest)
  put-again y rest g =
      let k = from y g in
      subst (λ (z : Y). made make r (u z ++ rest) ≡ Ok (z, rest)) k.1 (ap (λ (v : List Tok). made make r (v ++ rest)) (same k.0 k.2) ∙ made-again make r F t law k.0 rest k.2)

  -- where what fits alone is spelled so
  pub reads-put : Reads (made make r) G u
  reads-put = record { takes = put-takes; again = put-again; stops = made-stops make r F t law }

pub reads-made : {X Y : Type 0} (make : X → Y) (r : Reader X) (F : X → Type 0) (t : X → List Tok) → Reads r F t → (G : Y → Type 0) (u : Y → List Tok) → ((x : X) → F x → G (make x)) → ((x : X) → u (make x) ≡ t x)
    → ((y : Y) → G y → (x : X) × (make x ≡ y) × F x) → Reads (made make r) G u
reads-made make r F t law G u into same from = reads-put make r F t law G u into (λ x h. same x) from

-- what was read, if it passes a test; else reading stops behind it
module _ {X : Type 0} (test : X → Bool) (r : Reader X) (F : X → Type 0) (t : X → List Tok) (law : Reads r F t) (flat : StaysFlat F t) where
  abbrev judged : X → List Tok → Bool → Out X
  judged x rest v = cond v (Ok (x, rest)) (Err rest)

  abbrev judge : Out X → Out X
  judge q = ◌>>=◌ {A = X × List Tok} {B = X × List Tok} q (λ p. judged p.0 p.1 (test p.0))

  abbrev err : List Tok → Out X
  err bad = Err bad

  passed : (y : X) (us : List Tok) (v : Bool) (x : X) (rest : List Tok) → test y ≡ v → judged y us v ≡ Ok (x, rest) → (◌≡◌ {A = X × List Tok} (y, us) (x, rest)) × (test y ≡ true)
  passed y us true x rest e h = (ok-is (y, us) (x, rest) h, e)
  passed y us false x rest e h = absurd cc

  checked-takes : (ts : List Tok) (q : Out X) (x : X) (rest : List Tok) → r ts ≡ q → judge q ≡ Ok (x, rest) → (ts ≡ t x ++ rest) × (F x × (test x ≡ true))
  checked-takes ts (Ok p) x rest e h =
      let k = law.takes ts p.0 p.1 e in
      let d = passed p.0 p.1 (test p.0) x rest refl h in
      subst (λ (z : X × List Tok). (ts ≡ t z.0 ++ z.1) × (F z.0 × (test z.0 ≡ true))) d.0 (k.0, (k.1, d.1))
  checked-takes ts (Err bad) x rest e h = absurd cc

  checked-again : (x : X) (rest : List Tok) → F x × (test x ≡ true) → checked test r (t x ++ rest) ≡ Ok (x, rest)
  checked-again x rest h = ap judge (law.again x rest h.0) ∙ ap (judged x rest) h.1

  failed : (y : X) (us : List Tok) (v : Bool) (bad : List Tok) → test y ≡ v → judged y us v ≡ Err bad → (us ≡ bad) × (test y ≡ false)
  failed y us true bad e h = absurd cc
  failed y us false bad e h = (err-is {Y = X} us bad h, e)

  checked-stops : (ts : List Tok) (q : Out X) (bad : List Tok) → r ts ≡ q → judge q ≡ Err bad → Stops (checked test r) ts bad
  checked-stops ts (Ok p) bad e h =
      let k = law.takes ts p.0 p.1 e in
      let d = failed p.0 p.1 (test p.0) bad refl h in
      record {
        part = t p.0;
        is = k.0 ∙ ap (λ (v : List Tok). t p.0 ++ v) d.0;
        flat = flat p.0 k.1;
        fixed = λ o alike. ap judge (law.again p.0 o k.1) ∙ ap (judged p.0 o) d.1;
      }
  checked-stops ts (Err other) bad e h =
      let s = law.stops ts bad (e ∙ ap err (err-is {Y = X} other bad h)) in
      record { part = s.part; is = s.is; flat = s.flat; fixed = λ o alike. ap judge (s.fixed o alike) }

  pub reads-checked : Reads (checked test r) (λ x. F x × (test x ≡ true)) t
  reads-checked = record {
    takes = λ ts x rest e. checked-takes ts (r ts) x rest refl e;
    again = checked-again;
    stops = λ ts bad e. checked-stops ts (r ts) bad refl e;
  }
