-- Items of whole lines, at most so many or just so many of them.
use Rattle.std.proofs.Common.{◌≡◌, ℕ, zero, suc, ◌≤◌, Bool, true, false, cond, List, [], ◌∷◌, ◌++◌, length, Ok, Err, refl, sym, ap, subst, ◌∙◌, arith, append_assoc, inl, inr, ◌⊎◌}
use Rattle.std.specs.List.{AllByRecursion, flat_map}
use Rattle.mc_text.specs.Tokens.{Tok}
use Rattle.mc_text.specs.Reading.{Reader, ◌>>=◌, pair, made, many, goes_on, choice}
use Rattle.mc_text.specs.inner.Reading.{times}
use Rattle.mc_text.proofs.Lines.{IsLines}
use Rattle.mc_text.proofs.ReaderLaws.{Out, AreAlike, ok-is}
use Rattle.mc_text.proofs.Choices.{alike-first}
use Rattle.mc_text.proofs.Covers.{Covers, Part, Halts, covers-with, covers-made}

-- ---- the same items, told in another way

-- a reader that reads the same
pub covers-alike : {X : Type 0} (r q : Reader X) (F : X → Type 0) (t : X → List Tok) → ((ts : List Tok) → r ts ≡ q ts) → Covers q F t → Covers r F t
covers-alike r q F t same law = subst (λ s. Covers s F t) (λ i ts. sym (same ts) i) law

-- fewer or other words for which values fit, and for their tokens
pub covers-as : {X : Type 0} (r : Reader X) (F G : X → Type 0) (t u : X → List Tok) → Covers r F t → ((x : X) → F x → G x) → ((x : X) → G x → F x) → ((x : X) → F x → u x ≡ t x) → Covers r G u
covers-as {X} r F G t u law up down same = record {
  takes = λ ts x rest e. let h = law.takes ts x rest e in (h.0 ∙ ap (λ (v : List Tok). v ++ rest) (sym (same x h.1)), up x h.1);
  again = λ x rest g. ap (λ (v : List Tok). r (v ++ rest)) (same x (down x g)) ∙ law.again x rest (down x g);
  halts = λ ts bad e. let s = law.halts ts bad e in record {
    front = s.front;
    part = s.part;
    is = s.is;
    lines = s.lines;
    flat = s.flat;
    fixed = s.fixed;
    whole = s.whole;
    fits = up s.whole s.fits;
    more = s.more;
    begun = same s.whole s.fits ∙ s.begun;
  };
  ends = λ x g. subst IsLines (sym (same x (down x g))) (law.ends x (down x g));
  some = law.some;
  some-fits = up law.some law.some-fits;
}

abbrev ok : {X : Type 0} → X → List Tok → Out X
ok y ts = Ok (y, ts)

-- nothing, told as that value
pub covers-nothing : {X : Type 0} (r : Reader X) (F : X → Type 0) (t : X → List Tok) (x : X) → F x → t x ≡ [] → ((y : X) → F y → x ≡ y) → ((ts : List Tok) → r ts ≡ Ok (x, ts)) → Covers r F t
covers-nothing {X} r F t x fits none only reads = record {
  takes = takes;
  again = λ y rest f. subst (λ (z : X). r (t z ++ rest) ≡ Ok (z, rest)) (only y f) (ap (λ (v : List Tok). r (v ++ rest)) none ∙ reads rest);
  halts = λ ts bad e. absurd (never ts bad (sym (reads ts) ∙ e));
  ends = λ y f. subst (λ (z : X). IsLines (t z)) (only y f) (subst IsLines (sym none) tt);
  some = x;
  some-fits = fits;
}
  where
    never : (ts bad : List Tok) → ok x ts ≡ Err bad → ⊥
    never ts bad e = cc

    takes : (ts : List Tok) (y : X) (rest : List Tok) → r ts ≡ Ok (y, rest) → (ts ≡ t y ++ rest) × F y
    takes ts y rest e = subst (λ (p : X × List Tok). (ts ≡ t p.0 ++ p.1) × F p.0) (ok-is (x, ts) (y, rest) (sym (reads ts) ∙ e)) (ap (λ (v : List Tok). v ++ ts) (sym none), fits)

-- ---- the first token decides between two

module _ {X : Type 0} (go : Tok → Bool) (a b : Reader X) (F G : X → Type 0) (t : X → List Tok) (ca : Covers a F t) (cb : Covers b G t)
    (heads : (x : X) → F x → (us : List Tok) → goes_on go (t x ++ us) ≡ true) (others : (x : X) → G x → (us : List Tok) → goes_on go (t x ++ us) ≡ false) where
  chosen : (v : Bool) (ts : List Tok) → goes_on go ts ≡ v → choice go a b ts ≡ cond v (a ts) (b ts)
  chosen v ts e = ap (λ (w : Bool). cond w (a ts) (b ts)) e

  choice-takes : (v : Bool) (ts : List Tok) (x : X) (rest : List Tok) → cond v (a ts) (b ts) ≡ Ok (x, rest) → (ts ≡ t x ++ rest) × (F x ⊎ G x)
  choice-takes true ts x rest e = let h = ca.takes ts x rest e in (h.0, inl h.1)
  choice-takes false ts x rest e = let h = cb.takes ts x rest e in (h.0, inr h.1)

  choice-again : (x : X) (rest : List Tok) → F x ⊎ G x → choice go a b (t x ++ rest) ≡ Ok (x, rest)
  choice-again x rest (inl f) = chosen true (t x ++ rest) (heads x f rest) ∙ ca.again x rest f
  choice-again x rest (inr g) = chosen false (t x ++ rest) (others x g rest) ∙ cb.again x rest g

  choice-ends : (x : X) → F x ⊎ G x → IsLines (t x)
  choice-ends x (inl f) = ca.ends x f
  choice-ends x (inr g) = cb.ends x g

  -- the same token decides
  still : (ts front part bad o : List Tok) → ts ≡ front ++ (part ++ bad) → AreAlike bad o → goes_on go (front ++ (part ++ o)) ≡ goes_on go ts
  still ts front part bad o is alike =
      ap (goes_on go) (sym (append_assoc front part o)) ∙ sym (alike-first go (front ++ part) bad o alike) ∙ ap (goes_on go) (append_assoc front part bad) ∙ ap (goes_on go) (sym is)

  choice-halts : (v : Bool) (ts bad : List Tok) → goes_on go ts ≡ v → cond v (a ts) (b ts) ≡ Err bad → Halts (choice go a b) (λ x. F x ⊎ G x) t ts bad
  choice-halts true ts bad g e =
      let s = ca.halts ts bad e in
      record {
        front = s.front;
        part = s.part;
        is = s.is;
        lines = s.lines;
        flat = s.flat;
        fixed = λ o alike. chosen true (s.front ++ (s.part ++ o)) (still ts s.front s.part bad o s.is alike ∙ g) ∙ s.fixed o alike;
        whole = s.whole;
        fits = inl s.fits;
        more = s.more;
        begun = s.begun;
      }
  choice-halts false ts bad g e =
      let s = cb.halts ts bad e in
      record {
        front = s.front;
        part = s.part;
        is = s.is;
        lines = s.lines;
        flat = s.flat;
        fixed = λ o alike. chosen false (s.front ++ (s.part ++ o)) (still ts s.front s.part bad o s.is alike ∙ g) ∙ s.fixed o alike;
        whole = s.whole;
        fits = inr s.fits;
        more = s.more;
        begun = s.begun;
      }

  pub covers-choice : Covers (choice go a b) (λ x. F x ⊎ G x) t
  covers-choice = record {
    takes = λ ts x rest e. choice-takes (goes_on go ts) ts x rest e;
    again = choice-again;
    halts = λ ts bad e. choice-halts (goes_on go ts) ts bad refl e;
    ends = choice-ends;
    some = ca.some;
    some-fits = inl ca.some-fits;
  }

-- ---- at most so many items, and then b

module _ {X Y : Type 0} (go : Tok → Bool) (r : Reader X) (F : X → Type 0) (t : X → List Tok) (cr : Covers r F t)
    (heads : (x : X) → F x → (us : List Tok) → goes_on go (t x ++ us) ≡ true)
    (b : Reader Y) (G : Y → Type 0) (u : Y → List Tok) (cb : Covers b G u)
    (quiet : (y : Y) → G y → (us : List Tok) → goes_on go (u y ++ us) ≡ false) where
  abbrev Upto : ℕ → List X × Y → Type 0
  Upto n p = (AllByRecursion F p.0 × (length p.0 ≤ n)) × G p.1

  abbrev tl : List X × Y → List Tok
  tl p = flat_map t p.0 ++ u p.1

  abbrev none : Y → List X × Y
  none y = ([], y)

  abbrev more : X × (List X × Y) → List X × Y
  more p = (p.0 ∷ p.1.0, p.1.1)

  -- the items in front, and what is behind them
  abbrev behind : Out (List X) → Out (List X × Y)
  behind q = q >>= λ p. b p.1 >>= λ y. Ok ((p.0, y.0), y.1)

  abbrev put : X → Out (List X × Y) → Out (List X × Y)
  put x q = ◌>>=◌ {A = (X × (List X × Y)) × List Tok} {B = (List X × Y) × List Tok} (◌>>=◌ {A = (List X × Y) × List Tok} {B = (X × (List X × Y)) × List Tok} q (λ p. Ok ((x, p.0), p.1))) (λ p. Ok (more p.0, p.1))

  abbrev one-more : X → Out (List X) → Out (List X)
  one-more x q = ◌>>=◌ {A = (X × List X) × List Tok} {B = List X × List Tok} (◌>>=◌ {A = List X × List Tok} {B = (X × List X) × List Tok} q (λ xs. Ok ((x, xs.0), xs.1))) (λ p. Ok (p.0.0 ∷ p.0.1, p.1))

  regroup : (x : X) (q : Out (List X)) → behind (one-more x q) ≡ put x (behind q)
  regroup x (Ok xs) = over (b xs.1)
    where
      over : (z : Out Y) → ◌>>=◌ {A = Y × List Tok} {B = (List X × Y) × List Tok} z (λ y. Ok ((x ∷ xs.0, y.0), y.1)) ≡ put x (◌>>=◌ {A = Y × List Tok} {B = (List X × Y) × List Tok} z (λ y. Ok ((xs.0, y.0), y.1)))
      over (Ok y) = refl
      over (Err bad) = refl
  regroup x (Err bad) = refl

  item-first : (n : ℕ) (ts : List Tok) (q : Out X) → r ts ≡ q → behind (made (λ (x : X × List X). x.0 ∷ x.1) (pair r (many n go r)) ts) ≡ made more (pair r (pair (many n go r) b)) ts
  item-first n ts (Ok p) e = rw e (regroup p.0 (many n go r p.1))
  item-first n ts (Err bad) e = rw e refl

  either : (n : ℕ) (k : Tok) (ts : List Tok) (v : Bool) → behind (cond v (made (λ (x : X × List X). x.0 ∷ x.1) (pair r (many n go r)) (k ∷ ts)) (Ok ([], k ∷ ts))) ≡ cond v (made more (pair r (pair (many n go r) b)) (k ∷ ts)) (made none b (k ∷ ts))
  either n k ts true = item-first n (k ∷ ts) (r (k ∷ ts)) refl
  either n k ts false = refl

  as-choice : (n : ℕ) (ts : List Tok) → pair (many (suc n) go r) b ts ≡ choice go (made more (pair r (pair (many n go r) b))) (made none b) ts
  unfolding many
  as-choice n [] = refl
  as-choice n (k ∷ ts) = either n k ts (go k)

  as-none : (ts : List Tok) → pair (many zero go r) b ts ≡ made none b ts
  unfolding many
  as-none ts = refl

  abbrev Starts : ℕ → List X × Y → Type 0
  Starts n ([], y) = ⊥
  Starts n (x ∷ xs, y) = F x × Upto n (xs, y)

  abbrev Lacks : List X × Y → Type 0
  Lacks ([], y) = G y
  Lacks (x ∷ xs, y) = ⊥

  no-item : Covers (made none b) Lacks tl
  no-item = covers-made none b G u cb Lacks tl (λ y h. h) (λ y. refl) from
    where
      from : (p : List X × Y) → Lacks p → (y : Y) × (none y ≡ p) × G y
      from ([], y) h = (y, refl, h)
      from (x ∷ xs, y) h = absurd h

  some-item : (n : ℕ) → Covers (pair (many n go r) b) (Upto n) tl → Covers (made more (pair r (pair (many n go r) b))) (Starts n) tl
  some-item n law = covers-made more (pair r (pair (many n go r) b)) _ _ (covers-with r F t cr (λ _. pair (many n go r) b) (λ _. Upto n) (λ _. tl) (λ _ _. law))
      (Starts n) tl (λ p h. h) (λ p. append_assoc (t p.0) (flat_map t p.1.0) (u p.1.1)) from
    where
      from : (p : List X × Y) → Starts n p → (q : X × (List X × Y)) × (more q ≡ p) × (F q.0 × Upto n q.1)
      from ([], y) h = absurd h
      from (x ∷ xs, y) h = ((x, (xs, y)), refl, h)

  starts-head : (n : ℕ) (p : List X × Y) → Starts n p → (us : List Tok) → goes_on go (tl p ++ us) ≡ true
  starts-head n ([], y) h us = absurd h
  starts-head n (x ∷ xs, y) h us = ap (goes_on go) (ap (λ (v : List Tok). v ++ us) (append_assoc (t x) (flat_map t xs) (u y)) ∙ append_assoc (t x) (flat_map t xs ++ u y) us) ∙ heads x h.0 ((flat_map t xs ++ u y) ++ us)

  lacks-head : (p : List X × Y) → Lacks p → (us : List Tok) → goes_on go (tl p ++ us) ≡ false
  lacks-head ([], y) h us = quiet y h us
  lacks-head (x ∷ xs, y) h us = absurd h

  none-up : (p : List X × Y) → Lacks p → Upto zero p
  none-up ([], y) h = ((tt, omega arith), h)
  none-up (x ∷ xs, y) h = absurd h

  none-down : (p : List X × Y) → Upto zero p → Lacks p
  none-down ([], y) h = h.1
  none-down (x ∷ xs, y) h = absurd (omega (arith, h.0.1))

  more-up : (n : ℕ) (p : List X × Y) → Starts n p ⊎ Lacks p → Upto (suc n) p
  more-up n ([], y) (inl h) = absurd h
  more-up n ([], y) (inr h) = ((tt, omega arith), h)
  more-up n (x ∷ xs, y) (inl h) = (((h.0, h.1.0.0), omega (arith, h.1.0.1)), h.1.1)
  more-up n (x ∷ xs, y) (inr h) = absurd h

  more-down : (n : ℕ) (p : List X × Y) → Upto (suc n) p → Starts n p ⊎ Lacks p
  more-down n ([], y) h = inr h.1
  more-down n (x ∷ xs, y) h = inl (h.0.0.0, ((h.0.0.1, omega (arith, h.0.1)), h.1))

  pub covers-bounded : (n : ℕ) → Covers (pair (many n go r) b) (λ p. (AllByRecursion F p.0 × (length p.0 ≤ n)) × G p.1) (λ p. flat_map t p.0 ++ u p.1)
  covers-bounded zero = covers-alike (pair (many zero go r) b) (made none b) (Upto zero) tl as-none (covers-as (made none b) Lacks (Upto zero) tl tl no-item none-up none-down (λ p h. refl))
  covers-bounded (suc n) =
      covers-alike (pair (many (suc n) go r) b) (choice go (made more (pair r (pair (many n go r) b))) (made none b)) (Upto (suc n)) tl (as-choice n)
      (covers-as (choice go (made more (pair r (pair (many n go r) b))) (made none b)) (λ p. Starts n p ⊎ Lacks p) (Upto (suc n)) tl tl
      (covers-choice go (made more (pair r (pair (many n go r) b))) (made none b) (Starts n) Lacks tl (some-item n (covers-bounded n)) no-item (starts-head n) lacks-head)
      (more-up n) (more-down n) (λ p h. refl))

-- ---- just so many items

module _ {X : Type 0} (r : Reader X) (F : X → Type 0) (t : X → List Tok) (cr : Covers r F t) where
  abbrev Just : ℕ → List X → Type 0
  Just n xs = AllByRecursion F xs × (length xs ≡ n)

  times-as : (n : ℕ) (ts : List Tok) → times (suc n) r ts ≡ made (λ (x : X × List X). x.0 ∷ x.1) (pair r (times n r)) ts
  unfolding times
  times-as n ts = refl

  times-none : (ts : List Tok) → times zero r ts ≡ Ok ([], ts)
  unfolding times
  times-none ts = refl

  just-none : (xs : List X) → Just zero xs → [] ≡ xs
  just-none [] h = refl
  just-none (x ∷ xs) h = absurd (omega (arith, h.1))

  just-from : (n : ℕ) (xs : List X) → Just (suc n) xs → (p : X × List X) × (p.0 ∷ p.1 ≡ xs) × (F p.0 × Just n p.1)
  just-from n [] h = absurd (omega (arith, h.1))
  just-from n (x ∷ xs) h = ((x, xs), refl, (h.0.0, (h.0.1, omega (arith, h.1))))

  pub covers-times : (n : ℕ) → Covers (times n r) (λ xs. AllByRecursion F xs × (length xs ≡ n)) (flat_map t)
  covers-times zero = covers-nothing (times zero r) (Just zero) (flat_map t) [] (tt, refl) refl just-none times-none
  covers-times (suc n) =
      covers-alike (times (suc n) r) (made (λ (x : X × List X). x.0 ∷ x.1) (pair r (times n r))) (Just (suc n)) (flat_map t) (times-as n)
      (covers-made (λ (x : X × List X). x.0 ∷ x.1) (pair r (times n r)) _ _ (covers-with r F t cr (λ _. times n r) (λ _. Just n) (λ _. flat_map t) (λ _ _. covers-times n))
      (Just (suc n)) (flat_map t) (λ p h. ((h.0, h.1.0), omega (arith, h.1.1))) (λ p. refl) (just-from n))

-- fewer or other words for the values that a part reads
pub part-as : {X : Type 0} (r : Reader X) (F H G : X → Type 0) (t : X → List Tok) → Part r F G t → ((x : X) → F x → H x) → ((x : X) → H x → F x) → Part r H G t
part-as r F H G t law up down = record {
  takes = λ ts x rest e. let h = law.takes ts x rest e in (h.0, up x h.1);
  again = λ x rest h. law.again x rest (down x h);
  halts = law.halts;
  ends = λ x h. law.ends x (down x h);
}
