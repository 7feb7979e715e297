-- Readers that are told how far to go, with as much as there are tokens.
use Rattle.std.proofs.Common.{◌≡◌, ℕ, zero, suc, ◌+◌, ◌≤◌, ◌<◌, Bool, true, false, cond, List, [], ◌∷◌, ◌++◌, length, Ok, Err, refl, sym, ap, ◌∙◌, arith, append_assoc, length-append}
use Rattle.std.specs.Str.{bytes_eq}
use Rattle.std.proofs.lemmas.List.{append_cancel_right}
use Rattle.mc_text.specs.Tokens.{Tok, Left, Right, Semi, Atom, Eol, Done, Stuck}
use Rattle.mc_text.specs.Reading.{Reader, ◌>>=◌, pair, made, many}
use Rattle.mc_text.specs.inner.Reading.{keyed}
use Rattle.mc_text.proofs.ReaderLaws.{Out, AreAlike, ok-rest}
use Rattle.mc_text.proofs.Star.{Shrinks}
use Rattle.mc_text.proofs.Covers.{Covers}

abbrev ok : {X : Type 0} → X → List Tok → Out X
ok x rest = Ok (x, rest)

module _ {X : Type 0} (read : ℕ → Reader X) (F : ℕ → X → Type 0) (G : X → Type 0) (t : X → List Tok) (laws : (n : ℕ) → Covers (read n) (F n) t)
    (up : (n : ℕ) (x : X) → F n x → G x) (bound : X → ℕ) (down : (n : ℕ) (x : X) → G x → bound x ≤ n → F n x)
    (enough : (n m : ℕ) (ts : List Tok) → length ts ≤ n → length ts ≤ m → read n ts ≡ read m ts) where
  abbrev pub whole : Reader X
  whole ts = read (length ts) ts

  settled : (n : ℕ) (ts : List Tok) → length ts ≤ n → whole ts ≡ read n ts
  settled n ts le = enough (length ts) n ts (omega arith) le

  whole-again : (x : X) (rest : List Tok) → G x → whole (t x ++ rest) ≡ Ok (x, rest)
  whole-again x rest g =
      let n : ℕ = length (t x ++ rest) + bound x in
      settled n (t x ++ rest) (omega arith) ∙ (laws n).again x rest (down n x g (omega arith))

  -- the same tokens lie before the fault, with whatever bound
  whole-fixed : (ts bad o front part : List Tok) → ts ≡ front ++ (part ++ bad) → whole ts ≡ Err bad → AreAlike bad o → whole (front ++ (part ++ o)) ≡ Err o
  whole-fixed ts bad o front part is e alike =
      let n : ℕ = length ts + length (front ++ (part ++ o)) in
      let s = (laws n).halts ts bad (sym (settled n ts (omega arith)) ∙ e) in
      let same : front ++ part ≡ s.front ++ s.part = append_cancel_right (front ++ part) (s.front ++ s.part) bad (append_assoc front part bad ∙ sym is ∙ s.is ∙ sym (append_assoc s.front s.part bad)) in
      settled n (front ++ (part ++ o)) (omega arith) ∙ ap (read n) (sym (append_assoc front part o) ∙ ap (λ (v : List Tok). v ++ o) same ∙ append_assoc s.front s.part o) ∙ s.fixed o alike

  pub covers-whole : Covers whole G t
  covers-whole = record {
    takes = λ ts x rest e. let h = (laws (length ts)).takes ts x rest e in (h.0, up (length ts) x h.1);
    again = whole-again;
    halts = λ ts bad e. let s = (laws (length ts)).halts ts bad e in record {
      front = s.front;
      part = s.part;
      is = s.is;
      lines = s.lines;
      flat = s.flat;
      fixed = λ o alike. whole-fixed ts bad o s.front s.part s.is e alike;
      whole = s.whole;
      fits = up (length ts) s.whole s.fits;
      more = s.more;
      begun = s.begun;
    };
    ends = λ x g. (laws (bound x)).ends x (down (bound x) x g (omega arith));
    some = (laws 0).some;
    some-fits = up 0 (laws 0).some (laws 0).some-fits;
  }

-- ---- readers that agree where they go on

abbrev pub IsNoLonger : {X : Type 0} → Reader X → Type 0
IsNoLonger {X} r = (ts : List Tok) (x : X) (rest : List Tok) → r ts ≡ Ok (x, rest) → length rest ≤ length ts

-- what is read is spelled, so no more tokens are left
pub no-longer : {X : Type 0} (r : Reader X) (F : X → Type 0) (t : X → List Tok) → Covers r F t → IsNoLonger r
no-longer r F t law ts x rest e =
    let len : length ts ≡ length (t x ++ rest) = ap length (law.takes ts x rest e).0 in
    omega (arith, len, length-append (t x) rest)

module _ {X Y : Type 0} (a : Reader X) (small : IsNoLonger a) (f g : Reader Y) where
  pair-out : (ts : List Tok) (q : Out X) → a ts ≡ q → ((us : List Tok) → length us ≤ length ts → f us ≡ g us) → ◌>>=◌ {A = X × List Tok} {B = (X × Y) × List Tok} q (λ p. f p.1 >>= λ y. Ok ((p.0, y.0), y.1)) ≡ ◌>>=◌ {A = X × List Tok} {B = (X × Y) × List Tok} q (λ p. g p.1 >>= λ y. Ok ((p.0, y.0), y.1))
  pair-out ts (Ok p) e h = ap (λ (q : Out Y). ◌>>=◌ {A = Y × List Tok} {B = (X × Y) × List Tok} q (λ y. Ok ((p.0, y.0), y.1))) (h p.1 (small ts p.0 p.1 e))
  pair-out ts (Err bad) e h = refl

  pub pair-alike : (ts : List Tok) → ((us : List Tok) → length us ≤ length ts → f us ≡ g us) → pair a f ts ≡ pair a g ts
  pair-alike ts h = pair-out ts (a ts) refl h

pub made-alike : {X Y : Type 0} (make : X → Y) (r q : Reader X) (ts : List Tok) → r ts ≡ q ts → made make r ts ≡ made make q ts
made-alike {X} {Y} make r q ts e = ap (λ (o : Out X). ◌>>=◌ {A = X × List Tok} {B = Y × List Tok} o (λ p. Ok (make p.0, p.1))) e

module _ {X : Type 0} (k : List ℕ) where
  pub keyed-alike : (r q other : Reader X) (ts : List Tok) → ((us : List Tok) → length us < length ts → r us ≡ q us) → keyed k r other ts ≡ keyed k q other ts
  keyed-alike r q other [] h = refl
  keyed-alike r q other (Atom a ∷ ts) h = ap (λ (y : Out X). cond (bytes_eq a k) y (other (Atom a ∷ ts))) (h ts (omega arith))
  keyed-alike r q other (Left ∷ ts) h = refl
  keyed-alike r q other (Right ∷ ts) h = refl
  keyed-alike r q other (Semi ∷ ts) h = refl
  keyed-alike r q other (Eol ∷ ts) h = refl
  keyed-alike r q other (Done ∷ ts) h = refl
  keyed-alike r q other (Stuck ∷ ts) h = refl

  pub keyed-else : (r other more : Reader X) (ts : List Tok) → other ts ≡ more ts → keyed k r other ts ≡ keyed k r more ts
  keyed-else r other more [] h = h
  keyed-else r other more (Atom a ∷ ts) h = ap (λ (y : Out X). cond (bytes_eq a k) (r ts) y) h
  keyed-else r other more (Left ∷ ts) h = h
  keyed-else r other more (Right ∷ ts) h = h
  keyed-else r other more (Semi ∷ ts) h = h
  keyed-else r other more (Eol ∷ ts) h = h
  keyed-else r other more (Done ∷ ts) h = h
  keyed-else r other more (Stuck ∷ ts) h = h

module _ {X : Type 0} (go : Tok → Bool) (r : Reader X) (small : Shrinks r) where
  same-length : (us vs : List Tok) → us ≡ vs → length vs ≤ length us
  same-length us vs e = let len : length us ≡ length vs = ap length e in omega (arith, len)

  abbrev Small : ℕ → Type 0
  Small n = (ts : List Tok) (xs : List X) (rest : List Tok) → many n go r ts ≡ Ok (xs, rest) → length rest ≤ length ts

  abbrev join : X → Out (List X) → Out (List X)
  join x q = ◌>>=◌ {A = (X × List X) × List Tok} {B = List X × List Tok} (◌>>=◌ {A = List X × List Tok} {B = (X × List X) × List Tok} q (λ xs. Ok ((x, xs.0), xs.1))) (λ p. Ok (p.0.0 ∷ p.0.1, p.1))

  join-rest : (x : X) (q : Out (List X)) (xs : List X) (rest : List Tok) → join x q ≡ Ok (xs, rest) → (ys : List X) × (q ≡ Ok (ys, rest))
  join-rest x (Ok ys) xs rest e = (ys.0, ap (λ (v : List Tok). ok ys.0 v) (ok-rest {Y = List X} (x ∷ ys.0) xs ys.1 rest e))
  join-rest x (Err bad) xs rest e = absurd cc

  item-small : (n : ℕ) → Small n → (ts : List Tok) (q : Out X) → r ts ≡ q → (xs : List X) (rest : List Tok) → ◌>>=◌ {A = (X × List X) × List Tok} {B = List X × List Tok} (◌>>=◌ {A = X × List Tok} {B = (X × List X) × List Tok} q (λ p. ◌>>=◌ {A = List X × List Tok} {B = (X × List X) × List Tok} (many n go r p.1) (λ ys. Ok ((p.0, ys.0), ys.1)))) (λ p. Ok (p.0.0 ∷ p.0.1, p.1)) ≡ Ok (xs, rest) → length rest ≤ length ts
  item-small n ih ts (Ok p) e xs rest h =
      let k = join-rest p.0 (many n go r p.1) xs rest h in
      let below = ih p.1 k.0 rest k.1 in
      let less = small ts p.0 p.1 e in
      omega (arith, below, less)
  item-small n ih ts (Err bad) e xs rest h = absurd cc

  chosen-small : (n : ℕ) → Small n → (t : Tok) (ts : List Tok) (v : Bool) (xs : List X) (rest : List Tok) → cond v (made (λ (x : X × List X). x.0 ∷ x.1) (pair r (many n go r)) (t ∷ ts)) (Ok ([], t ∷ ts)) ≡ Ok (xs, rest) → length rest ≤ length (t ∷ ts)
  chosen-small n ih t ts true xs rest h = item-small n ih (t ∷ ts) (r (t ∷ ts)) refl xs rest h
  chosen-small n ih t ts false xs rest h = same-length (t ∷ ts) rest (ok-rest {Y = List X} [] xs (t ∷ ts) rest h)

  pub many-no-longer : (n : ℕ) → IsNoLonger (many n go r)
  unfolding many
  many-no-longer zero ts xs rest e = same-length ts rest (ok-rest {Y = List X} [] xs ts rest e)
  many-no-longer (suc n) [] xs rest e = same-length [] rest (ok-rest {Y = List X} [] xs [] rest e)
  many-no-longer (suc n) (t ∷ ts) xs rest e = chosen-small n (many-no-longer n) t ts (go t) xs rest e
