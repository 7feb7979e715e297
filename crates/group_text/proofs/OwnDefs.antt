-- The definitions of a group: as many as follow, at least one, and not too many.
use Rattle.std.proofs.Common.{◌≡◌, ℕ, zero, suc, ◌+◌, ◌-◌, ◌≤◌, Bool, true, false, cond, List, [], ◌∷◌, ◌++◌, length, Ok, Err, refl, sym, ap, subst, ◌∙◌, arith, append_assoc}
use Rattle.std.specs.List.{AllByRecursion, flat_map}
use Rattle.mc_text.specs.Tokens.{Tok, Left, Right, Semi, Atom, Eol, Done, Stuck}
use Rattle.mc_text.specs.Reading.{Reader, ◌>>=◌, many, one, goes_on}
use Rattle.mc_text.specs.inner.Reading.{with_prefix}
use Rattle.mc_text.proofs.ReaderLaws.{Out, ok-is}
use Rattle.mc_text.proofs.Covers.{Covers}
use Rattle.mc_text.proofs.Turns.{many-one, many-none, many-ends, many-full}
use Rattle.tailrec_lang.specs.Tree.{DefTree}
use Rattle.group_text.specs.Limits.{def_limit, IsDef}
use Rattle.group_text.specs.Spelling.{def_tokens}
use Rattle.group_text.specs.inner.Reading.{def_at, is_def, are_some, own_defs}
use Rattle.group_text.proofs.HeadLaws.{true-le, le-true}
use Rattle.group_text.proofs.Texts.{def-cover, def-begins}

-- ---- as many items as there are

module _ {X : Type 0} (go : Tok → Bool) (r : Reader X) (F : X → Type 0) (t : X → List Tok) (cr : Covers r F t) (heads : (x : X) → F x → (us : List Tok) → goes_on go (t x ++ us) ≡ true) where
  pub many-again : (n : ℕ) (xs : List X) (us : List Tok) → AllByRecursion F xs → length xs ≤ n → goes_on go us ≡ false → many n go r (flat_map t xs ++ us) ≡ Ok (xs, us)
  many-again n [] us h le g = many-none go r n us g
  many-again zero (x ∷ xs) us h le g = absurd (omega (arith, le))
  many-again (suc n) (x ∷ xs) us h le g =
      ap (many (suc n) go r) (append_assoc (t x) (flat_map t xs) us)
      ∙ many-one go r n (t x ++ (flat_map t xs ++ us)) x (flat_map t xs ++ us) (heads x h.0 (flat_map t xs ++ us)) (cr.again x (flat_map t xs ++ us) h.0)
      ∙ rw (many-again n xs us h.1 (omega (arith, le)) g) refl

  abbrev TakesAll : ℕ → Type 0
  TakesAll n = (ts : List Tok) (xs : List X) (rest : List Tok) → many n go r ts ≡ Ok (xs, rest) → (ts ≡ flat_map t xs ++ rest) × (AllByRecursion F xs × (length xs ≤ n))

  abbrev All : ℕ → List Tok → List X × List Tok → Type 0
  All n ts p = (ts ≡ flat_map t p.0 ++ p.1) × (AllByRecursion F p.0 × (length p.0 ≤ n))

  abbrev item : Out X → (n : ℕ) → Out (List X)
  item q n = ◌>>=◌ {A = (X × List X) × List Tok} {B = List X × List Tok} (◌>>=◌ {A = X × List Tok} {B = (X × List X) × List Tok} q (λ p. ◌>>=◌ {A = List X × List Tok} {B = (X × List X) × List Tok} (many n go r p.1) (λ xs. Ok ((p.0, xs.0), xs.1)))) (λ p. Ok (p.0.0 ∷ p.0.1, p.1))

  abbrev joined : X → Out (List X) → Out (List X)
  joined x q = ◌>>=◌ {A = (X × List X) × List Tok} {B = List X × List Tok} (◌>>=◌ {A = List X × List Tok} {B = (X × List X) × List Tok} q (λ xs. Ok ((x, xs.0), xs.1))) (λ p. Ok (p.0.0 ∷ p.0.1, p.1))

  took-more : (n : ℕ) (ts us : List Tok) (x : X) (q : Out (List X)) (p : List X × List Tok) → ts ≡ t x ++ us → F x → many n go r us ≡ q → TakesAll n → joined x q ≡ Ok p → All (suc n) ts p
  took-more n ts us x (Ok xs) p is f e ih h =
      let k = ih us xs.0 xs.1 e in
      subst (All (suc n) ts) (ok-is {Y = List X} (x ∷ xs.0, xs.1) p h)
      (is ∙ ap (λ (v : List Tok). t x ++ v) k.0 ∙ sym (append_assoc (t x) (flat_map t xs.0) xs.1), ((f, k.1.0), omega (arith, k.1.1)))
  took-more n ts us x (Err bad) p is f e ih h = absurd cc

  took-one : (n : ℕ) (ts : List Tok) (q : Out X) (p : List X × List Tok) → r ts ≡ q → TakesAll n → item q n ≡ Ok p → All (suc n) ts p
  took-one n ts (Ok x) p e ih h = let k = cr.takes ts x.0 x.1 e in took-more n ts x.1 x.0 (many n go r x.1) p k.0 k.1 refl ih h
  took-one n ts (Err bad) p e ih h = absurd cc

  abbrev whole : List X × List Tok → Out (List X)
  whole p = Ok p

  took-none : (n : ℕ) (ts : List Tok) (p : List X × List Tok) → whole ([], ts) ≡ whole p → All n ts p
  took-none n ts p e = subst (All n ts) (ok-is {Y = List X} ([], ts) p e) (refl, (tt, omega arith))

  chosen : (n : ℕ) (k : Tok) (ts : List Tok) (v : Bool) (p : List X × List Tok) → TakesAll n → cond v (item (r (k ∷ ts)) n) (Ok ([], k ∷ ts)) ≡ Ok p → All (suc n) (k ∷ ts) p
  chosen n k ts true p ih h = took-one n (k ∷ ts) (r (k ∷ ts)) p refl ih h
  chosen n k ts false p ih h = took-none (suc n) (k ∷ ts) p h

  pub many-takes : (n : ℕ) (ts : List Tok) (xs : List X) (rest : List Tok) → many n go r ts ≡ Ok (xs, rest) → (ts ≡ flat_map t xs ++ rest) × (AllByRecursion F xs × (length xs ≤ n))
  unfolding many
  many-takes zero ts xs rest e = took-none zero ts (xs, rest) e
  many-takes (suc n) [] xs rest e = took-none (suc n) [] (xs, rest) e
  many-takes (suc n) (k ∷ ts) xs rest e = chosen n k ts (go k) (xs, rest) (many-takes n) e

-- ---- the definitions of a group

abbrev pub Defs : Type 0
Defs = Out (List DefTree)

abbrev pub guard : Defs → Defs
guard q = ◌>>=◌ {A = List DefTree × List Tok} {B = List DefTree × List Tok} q (λ p. cond (goes_on is_def p.1) (Err p.1) (Ok (p.0, p.1)))

abbrev pub judge : Defs → Defs
judge q = ◌>>=◌ {A = List DefTree × List Tok} {B = List DefTree × List Tok} q (λ p. cond (are_some p.0) (Ok (p.0, p.1)) (Err p.1))

pub sent : (ds : List DefTree) (xs : List Tok) (g s : Bool) → goes_on is_def xs ≡ g → are_some ds ≡ s → judge (guard (Ok (ds, xs))) ≡ cond g (Err xs) (cond s (Ok (ds, xs)) (Err xs))
sent ds xs true s e f = ap (λ (w : Bool). judge (cond w (Err xs) (Ok (ds, xs)))) e
sent ds xs false s e f = ap (λ (w : Bool). judge (cond w (Err xs) (Ok (ds, xs)))) e ∙ ap (λ (w : Bool). cond w (Ok (ds, xs)) (Err xs)) f

abbrev pub good : List DefTree × List Tok → Defs
good p = Ok p

abbrev pub bad : List Tok → Defs
bad xs = Err xs

not-sent : (xs : List Tok) (p : List DefTree × List Tok) → bad xs ≡ good p → ⊥
not-sent xs p e = cc

own-ok : (q : Defs) (p : List DefTree × List Tok) → judge (guard q) ≡ Ok p → (q ≡ Ok p) × ((goes_on is_def p.1 ≡ false) × (are_some p.0 ≡ true))
own-ok (Ok r) p h = by (goes_on is_def r.1) (are_some r.0) refl refl
  where
    by : (g s : Bool) → goes_on is_def r.1 ≡ g → are_some r.0 ≡ s → (good r ≡ good p) × ((goes_on is_def p.1 ≡ false) × (are_some p.0 ≡ true))
    by true s e f = absurd (not-sent r.1 p (sym (sent r.0 r.1 true s e f) ∙ h))
    by false true e f =
        let same : r ≡ p = ok-is {Y = List DefTree} r p (sym (sent r.0 r.1 false true e f) ∙ h) in
        (ap good same, (ap (λ (z : List DefTree × List Tok). goes_on is_def z.1) (sym same) ∙ e, ap (λ (z : List DefTree × List Tok). are_some z.0) (sym same) ∙ f))
    by false false e f = absurd (not-sent r.1 p (sym (sent r.0 r.1 false false e f) ∙ h))
own-ok (Err bad) p h = absurd cc

pub record OwnDefs (ds : List DefTree) (us : List Tok) : Type 0 where
  pub fit : AllByRecursion IsDef ds
  pub some : 1 ≤ length ds
  pub few : length ds ≤ def_limit
  pub ended : goes_on is_def us ≡ false

pub own-takes : (ts : List Tok) (ds : List DefTree) (us : List Tok) → own_defs ts ≡ Ok (ds, us) → (ts ≡ flat_map def_tokens ds ++ us) × OwnDefs ds us
own-takes ts ds us e =
    let k = own-ok (many def_limit is_def def_at ts) (ds, us) e in
    let h = many-takes is_def def_at IsDef def_tokens def-cover def-begins def_limit ts ds us k.0 in
    (h.0, record { fit = h.1.0; some = le-true 1 (length ds) k.1.1; few = h.1.1; ended = k.1.0 })

pub own-again : (ds : List DefTree) (us : List Tok) → OwnDefs ds us → own_defs (flat_map def_tokens ds ++ us) ≡ Ok (ds, us)
own-again ds us h =
    ap (λ (q : Defs). judge (guard q)) (many-again is_def def_at IsDef def_tokens def-cover def-begins def_limit ds us h.fit h.few h.ended)
    ∙ sent ds us false true h.ended (true-le 1 (length ds) h.some)

pub def-refuses : (ts : List Tok) → goes_on is_def ts ≡ false → def_at ts ≡ Err ts
unfolding def_at one
def-refuses [] g = refl
def-refuses (Atom a ∷ ts) g = rw g refl
def-refuses (Left ∷ ts) g = refl
def-refuses (Right ∷ ts) g = refl
def-refuses (Semi ∷ ts) g = refl
def-refuses (Eol ∷ ts) g = refl
def-refuses (Done ∷ ts) g = refl
def-refuses (Stuck ∷ ts) g = refl

-- ---- a loop over definitions

module _ (n : ℕ) (front : List DefTree) (ts old : List Tok) (told : with_prefix front (many n is_def def_at ts) ≡ many def_limit is_def def_at old) where
  abbrev sieved : Defs → Defs
  sieved q = judge (guard q)

  -- one more than may be
  pub own-full : n ≡ 0 → goes_on is_def ts ≡ true → own_defs old ≡ Err ts
  own-full e g =
      let all = many-full is_def def_at front ts (many def_limit is_def def_at old) (ap (λ (k : ℕ). with_prefix front (many k is_def def_at ts)) (sym e) ∙ told) in
      ap sieved all ∙ sent front ts true (are_some front) g refl

  own-end : goes_on is_def ts ≡ false → (s : Bool) → are_some front ≡ s → own_defs old ≡ cond s (Ok (front, ts)) (Err ts)
  own-end g s e = ap sieved (many-ends is_def def_at n front ts (many def_limit is_def def_at old) g told) ∙ sent front ts false s g e

  pub own-none : goes_on is_def ts ≡ false → front ≡ [] → own_defs old ≡ Err ts
  own-none g e = own-end g false (ap are_some e)

  pub own-some : goes_on is_def ts ≡ false → 1 ≤ length front → own_defs old ≡ Ok (front, ts)
  own-some g le = own-end g true (true-le 1 (length front) le)

-- how many more may follow
pub one-fewer : (n : ℕ) → n ≤ def_limit → (n ≡ def_limit → ⊥) → def_limit - n ≡ suc (def_limit - (n + 1))
one-fewer n le short = grind arith

pub fewer : (n : ℕ) → n ≤ def_limit → (n ≡ def_limit → ⊥) → n + 1 ≤ def_limit
fewer n le short = grind arith

pub full : (n : ℕ) → n ≡ def_limit → def_limit - n ≡ 0
full n e = omega (arith, e)
