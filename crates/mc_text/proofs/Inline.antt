-- Items within a line, as long as one follows.
use Rattle.std.proofs.Common.{◌≡◌, ℕ, zero, suc, ◌<◌, Bool, true, false, List, ◌++◌, length, Ok, Err, refl, sym, ap, ◌∙◌, arith, append_assoc}
use Rattle.std.specs.List.{AllByRecursion, flat_map}
use Rattle.mc_text.specs.Tokens.{Tok}
use Rattle.mc_text.specs.Reading.{Reader, pair, star, goes_on}
use Rattle.mc_text.proofs.Star.{Shrinks}
use Rattle.mc_text.proofs.Listed.{cons, last, cons-bad, last-bad, alike-go, R-item, R-fails, R-end, list-takes, list-again}
use Rattle.mc_text.proofs.ReaderLaws.{Out, Reads, Stops, StaysFlat, flat-append, err-is}

abbrev err : {Y : Type 0} → List Tok → Out Y
err bad = Err bad

module _ {X Y : Type 0} (go : Tok → Bool) (r : Reader X) (small : Shrinks r) (F : X → Type 0) (t : X → List Tok) (cr : Reads r F t) (flat : StaysFlat F t)
    (heads : (x : X) → F x → (us : List Tok) → goes_on go (t x ++ us) ≡ true)
    (b : Reader Y) (G : Y → Type 0) (u : Y → List Tok) (cb : Reads b G u)
    (quiet : (y : Y) → G y → (us : List Tok) → goes_on go (u y ++ us) ≡ false) where
  abbrev R : Reader (List X × Y)
  R = pair (star go r) b

  abbrev FL : List X × Y → Type 0
  FL p = AllByRecursion F p.0 × G p.1

  abbrev tl : List X × Y → List Tok
  tl p = flat_map t p.0 ++ u p.1

  abbrev HaltsAt : List Tok → Type 0
  HaltsAt ts = (bad : List Tok) → R ts ≡ Err bad → Stops R ts bad

  list-halts2 : (ts : List Tok) (q : Out X) → goes_on go ts ≡ true → r ts ≡ q → ((us : List Tok) → length us < length ts → HaltsAt us) → HaltsAt ts
  list-halts2 ts (Ok x) g e ih bad h =
      let k = cr.takes ts x.0 x.1 e in
      let s = ih x.1 (small ts x.0 x.1 e) bad (cons-bad x.0 (R x.1) bad (sym (R-item go r small b ts x.0 x.1 g e) ∙ h)) in
      record {
        part = t x.0 ++ s.part;
        is = k.0 ∙ ap (λ (v : List Tok). t x.0 ++ v) s.is ∙ sym (append_assoc (t x.0) s.part bad);
        flat = flat-append (t x.0) s.part (flat x.0 k.1) s.flat;
        fixed = λ o alike. ap R (append_assoc (t x.0) s.part o) ∙ R-item go r small b (t x.0 ++ (s.part ++ o)) x.0 (s.part ++ o) (heads x.0 k.1 (s.part ++ o)) (cr.again x.0 (s.part ++ o) k.1) ∙ ap (cons {Y = Y} x.0) (s.fixed o alike);
      }
  list-halts2 ts (Err other) g e ih bad h =
      let same : other ≡ bad = err-is other bad (sym (R-fails go r small b ts other g e) ∙ h) in
      let s = cr.stops ts bad (e ∙ ap (λ (v : List Tok). err v) same) in
      record {
        part = s.part;
        is = s.is;
        flat = s.flat;
        fixed = λ o alike. R-fails go r small b (s.part ++ o) o (sym (alike-go go s.part bad o alike) ∙ ap (goes_on go) (sym s.is) ∙ g) (s.fixed o alike);
      }

  list-halts1 : (ts : List Tok) (g : Bool) → goes_on go ts ≡ g → ((us : List Tok) → length us < length ts → HaltsAt us) → HaltsAt ts
  list-halts1 ts true e ih bad h = list-halts2 ts (r ts) e refl ih bad h
  list-halts1 ts false e ih bad h =
      let s = cb.stops ts bad (last-bad {X = X} (b ts) bad (sym (R-end go r small b ts e) ∙ h)) in
      record {
        part = s.part;
        is = s.is;
        flat = s.flat;
        fixed = λ o alike. R-end go r small b (s.part ++ o) (sym (alike-go go s.part bad o alike) ∙ ap (goes_on go) (sym s.is) ∙ e) ∙ ap (last {X = X}) (s.fixed o alike);
      }

  list-halts : (n : ℕ) (ts : List Tok) → length ts < n → HaltsAt ts
  list-halts zero ts lt bad h = absurd (omega arith)
  list-halts (suc n) ts lt bad h = list-halts1 ts (goes_on go ts) refl (λ us less. list-halts n us (omega arith)) bad h

  pub reads-list : Reads R FL tl
  reads-list = record {
    takes = λ ts p rest e. list-takes go r small F t cr.takes cr.again heads b G u cb.takes cb.again quiet (suc (length ts)) ts (omega arith) p rest e;
    again = λ p rest h. list-again go r small F t cr.takes cr.again heads b G u cb.takes cb.again quiet p.0 p.1 rest h.0 h.1;
    stops = λ ts bad e. list-halts (suc (length ts)) ts (omega arith) bad e;
  }
