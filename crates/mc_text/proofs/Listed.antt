-- Items as long as one follows, and then what follows them: what is read is spelled so, and what is spelled so is read.
use Rattle.std.proofs.Common.{◌≡◌, ℕ, zero, suc, ◌<◌, Bool, true, false, List, [], ◌∷◌, ◌++◌, length, Ok, Err, refl, sym, ap, subst, ◌∙◌, arith, append_assoc}
use Rattle.std.specs.List.{AllByRecursion, flat_map}
use Rattle.mc_text.specs.Tokens.{Tok}
use Rattle.mc_text.specs.Reading.{Reader, ◌>>=◌, pair, many, star, goes_on}
use Rattle.mc_text.proofs.Star.{Shrinks, star-item, star-end}
use Rattle.mc_text.proofs.ReaderLaws.{Out, AreAlike, ok-is, err-is}

abbrev err : {Y : Type 0} → List Tok → Out Y
err bad = Err bad

-- one more item in what was read
abbrev pub cons : {X Y : Type 0} → X → Out (List X × Y) → Out (List X × Y)
cons {X} {Y} x q = ◌>>=◌ {A = (List X × Y) × List Tok} {B = (List X × Y) × List Tok} q (λ p. Ok ((x ∷ p.0.0, p.0.1), p.1))

-- no further item
abbrev pub last : {X Y : Type 0} → Out Y → Out (List X × Y)
last {X} {Y} q = ◌>>=◌ {A = Y × List Tok} {B = (List X × Y) × List Tok} q (λ y. Ok (([], y.0), y.1))

pub cons-bad : {X Y : Type 0} (x : X) (q : Out (List X × Y)) (bad : List Tok) → cons x q ≡ Err bad → q ≡ Err bad
cons-bad x (Ok z) bad e = absurd cc
cons-bad x (Err other) bad e = ap (λ (v : List Tok). err v) (err-is other bad e)

pub last-bad : {X Y : Type 0} (q : Out Y) (bad : List Tok) → last {X = X} q ≡ Err bad → q ≡ Err bad
last-bad (Ok z) bad e = absurd cc
last-bad (Err other) bad e = ap (λ (v : List Tok). err v) (err-is other bad e)

module _ (go : Tok → Bool) where
  -- the same token decides
  pub alike-go : (p bad o : List Tok) → AreAlike bad o → goes_on go (p ++ bad) ≡ goes_on go (p ++ o)
  alike-go [] [] o h = ap (goes_on go) (sym h)
  alike-go [] (k ∷ bad) [] h = absurd h
  alike-go [] (k ∷ bad) (l ∷ o) h = ap go h
  alike-go (k ∷ p) bad o h = refl

  pub alike-go2 : (p q bad o : List Tok) → AreAlike bad o → goes_on go (p ++ (q ++ bad)) ≡ goes_on go (p ++ (q ++ o))
  alike-go2 p q bad o h = ap (goes_on go) (sym (append_assoc p q bad)) ∙ alike-go (p ++ q) bad o h ∙ ap (goes_on go) (append_assoc p q o)

module _ {X Y : Type 0} (go : Tok → Bool) (r : Reader X) (small : Shrinks r) (b : Reader Y) where
  abbrev R : Reader (List X × Y)
  R = pair (star go r) b

  regroup : (x : X) (q : Out (List X)) → (◌>>=◌ {A = (X × List X) × List Tok} {B = List X × List Tok} (◌>>=◌ {A = List X × List Tok} {B = (X × List X) × List Tok} q (λ xs. Ok ((x, xs.0), xs.1))) (λ p. Ok (p.0.0 ∷ p.0.1, p.1)) >>= λ p. b p.1 >>= λ y. Ok ((p.0, y.0), y.1))
      ≡ cons x (q >>= λ p. b p.1 >>= λ y. Ok ((p.0, y.0), y.1))
  regroup x (Ok xs) = over (b xs.1)
    where
      over : (z : Out Y) → ◌>>=◌ {A = Y × List Tok} {B = (List X × Y) × List Tok} z (λ y. Ok ((x ∷ xs.0, y.0), y.1)) ≡ cons x (◌>>=◌ {A = Y × List Tok} {B = (List X × Y) × List Tok} z (λ y. Ok ((xs.0, y.0), y.1)))
      over (Ok y) = refl
      over (Err bad) = refl
  regroup x (Err bad) = refl

  pub R-item : (ts : List Tok) (x : X) (us : List Tok) → goes_on go ts ≡ true → r ts ≡ Ok (x, us) → R ts ≡ cons x (R us)
  R-item [] x us g e = absurd cc
  R-item (k ∷ ts) x us g e =
      let one : star go r (k ∷ ts) ≡ ◌>>=◌ {A = (X × List X) × List Tok} {B = List X × List Tok} (◌>>=◌ {A = List X × List Tok} {B = (X × List X) × List Tok} (star go r us) (λ xs. Ok ((x, xs.0), xs.1))) (λ p. Ok (p.0.0 ∷ p.0.1, p.1)) = star-item go r small k ts g ∙ rw e refl in
      ap (λ (q : Out (List X)). q >>= λ p. b p.1 >>= λ y. Ok ((p.0, y.0), y.1)) one ∙ regroup x (star go r us)

  pub R-fails : (ts bad : List Tok) → goes_on go ts ≡ true → r ts ≡ Err bad → R ts ≡ Err bad
  R-fails [] bad g e = absurd cc
  R-fails (k ∷ ts) bad g e =
      let one : star go r (k ∷ ts) ≡ Err bad = star-item go r small k ts g ∙ rw e refl in
      ap (λ (q : Out (List X)). q >>= λ p. b p.1 >>= λ y. Ok ((p.0, y.0), y.1)) one

  pub R-end : (ts : List Tok) → goes_on go ts ≡ false → R ts ≡ last {X = X} (b ts)
  unfolding many
  R-end [] g = refl
  R-end (k ∷ ts) g =
      let one : star go r (k ∷ ts) ≡ Ok ([], k ∷ ts) = star-end go r small k ts g in
      ap (λ (q : Out (List X)). q >>= λ p. b p.1 >>= λ y. Ok ((p.0, y.0), y.1)) one

module _ {X Y : Type 0} (go : Tok → Bool) (r : Reader X) (small : Shrinks r) (F : X → Type 0) (t : X → List Tok)
    (item-takes : (ts : List Tok) (x : X) (rest : List Tok) → r ts ≡ Ok (x, rest) → (ts ≡ t x ++ rest) × F x)
    (item-again : (x : X) (rest : List Tok) → F x → r (t x ++ rest) ≡ Ok (x, rest))
    (heads : (x : X) → F x → (us : List Tok) → goes_on go (t x ++ us) ≡ true)
    (b : Reader Y) (G : Y → Type 0) (u : Y → List Tok)
    (b-takes : (ts : List Tok) (y : Y) (rest : List Tok) → b ts ≡ Ok (y, rest) → (ts ≡ u y ++ rest) × G y)
    (b-again : (y : Y) (rest : List Tok) → G y → b (u y ++ rest) ≡ Ok (y, rest))
    (quiet : (y : Y) → G y → (us : List Tok) → goes_on go (u y ++ us) ≡ false) where
  abbrev Q : Reader (List X × Y)
  Q = pair (star go r) b

  abbrev FL : List X × Y → Type 0
  FL p = AllByRecursion F p.0 × G p.1

  abbrev tl : List X × Y → List Tok
  tl p = flat_map t p.0 ++ u p.1

  cons-takes : (ts us : List Tok) (x : X) (q : Out (List X × Y)) (p : List X × Y) (rest : List Tok) → ts ≡ t x ++ us → F x
      → ((p : List X × Y) (rest : List Tok) → q ≡ Ok (p, rest) → (us ≡ tl p ++ rest) × FL p) → cons x q ≡ Ok (p, rest) → (ts ≡ tl p ++ rest) × FL p
  cons-takes ts us x (Ok z) p rest et f ih e =
      let k = ih z.0 z.1 refl in
      subst (λ (w : (List X × Y) × List Tok). (ts ≡ tl w.0 ++ w.1) × FL w.0) (ok-is ((x ∷ z.0.0, z.0.1), z.1) (p, rest) e)
      (et ∙ ap (λ (v : List Tok). t x ++ v) k.0 ∙ sym (append_assoc (t x) (flat_map t z.0.0 ++ u z.0.1) z.1) ∙ ap (λ (v : List Tok). v ++ z.1) (sym (append_assoc (t x) (flat_map t z.0.0) (u z.0.1))), ((f, k.1.0), k.1.1))
  cons-takes ts us x (Err bad) p rest et f ih e = absurd cc

  last-takes : (ts : List Tok) (q : Out Y) (p : List X × Y) (rest : List Tok) → b ts ≡ q → last {X = X} q ≡ Ok (p, rest) → (ts ≡ tl p ++ rest) × FL p
  last-takes ts (Ok y) p rest eb e =
      let k = b-takes ts y.0 y.1 eb in
      subst (λ (w : (List X × Y) × List Tok). (ts ≡ tl w.0 ++ w.1) × FL w.0) (ok-is (([], y.0), y.1) (p, rest) e) (k.0, (tt, k.1))
  last-takes ts (Err bad) p rest eb e = absurd cc

  abbrev TakesAt : List Tok → Type 0
  TakesAt ts = (p : List X × Y) (rest : List Tok) → Q ts ≡ Ok (p, rest) → (ts ≡ tl p ++ rest) × FL p

  list-takes2 : (ts : List Tok) (q : Out X) → goes_on go ts ≡ true → r ts ≡ q → ((us : List Tok) → length us < length ts → TakesAt us) → TakesAt ts
  list-takes2 ts (Ok x) g e ih p rest h =
      let k = item-takes ts x.0 x.1 e in
      cons-takes ts x.1 x.0 (Q x.1) p rest k.0 k.1 (ih x.1 (small ts x.0 x.1 e)) (sym (R-item go r small b ts x.0 x.1 g e) ∙ h)
  list-takes2 ts (Err bad) g e ih p rest h = absurd (never (sym (R-fails go r small b ts bad g e) ∙ h))
    where
      never : err {Y = List X × Y} bad ≡ Ok (p, rest) → ⊥
      never k = cc

  list-takes1 : (ts : List Tok) (g : Bool) → goes_on go ts ≡ g → ((us : List Tok) → length us < length ts → TakesAt us) → TakesAt ts
  list-takes1 ts true e ih p rest h = list-takes2 ts (r ts) e refl ih p rest h
  list-takes1 ts false e ih p rest h = last-takes ts (b ts) p rest refl (sym (R-end go r small b ts e) ∙ h)

  pub list-takes : (n : ℕ) (ts : List Tok) → length ts < n → TakesAt ts
  list-takes zero ts lt p rest h = absurd (omega arith)
  list-takes (suc n) ts lt p rest h = list-takes1 ts (goes_on go ts) refl (λ us less. list-takes n us (omega arith)) p rest h

  pub list-again : (xs : List X) (y : Y) (rest : List Tok) → AllByRecursion F xs → G y → Q (tl (xs, y) ++ rest) ≡ Ok ((xs, y), rest)
  list-again [] y rest h k = R-end go r small b (u y ++ rest) (quiet y k rest) ∙ rw (b-again y rest k) refl
  list-again (x ∷ xs) y rest h k =
      let parts : tl (x ∷ xs, y) ++ rest ≡ t x ++ (tl (xs, y) ++ rest) = ap (λ (v : List Tok). v ++ rest) (append_assoc (t x) (flat_map t xs) (u y)) ∙ append_assoc (t x) (flat_map t xs ++ u y) rest in
      ap Q parts ∙ R-item go r small b (t x ++ (tl (xs, y) ++ rest)) x (tl (xs, y) ++ rest) (heads x h.0 (tl (xs, y) ++ rest)) (item-again x (tl (xs, y) ++ rest) h.0) ∙ ap (cons x) (list-again xs y rest h.1 k)
