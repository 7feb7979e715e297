-- Where reading stops is the line at which the text leaves the grammar.
use Rattle.std.proofs.Common.{◌≡◌, ℕ, suc, ◌+◌, Bool, true, false, cond, eqb, List, [], ◌∷◌, ◌++◌, Option, Some, None, Result, Ok, Err, refl, sym, ap, subst, ◌∙◌, arith, append_assoc, inl, inr, ◌⊎◌}
use Rattle.std.specs.Prelude.{option_map, IsSomeAnd}
use Rattle.std.proofs.lemmas.List.{append-nil}
use Rattle.std.proofs.lemmas.Bool.{eqb-true}
use Rattle.std.proofs.lemmas.Bool.Decides.{nat_tests}
use Rattle.mc_text.specs.Tokens.{Tok, Left, Right, Semi, Atom, Eol, Done, Stuck, is_atom_byte, gap, token_bytes, before_next, eol, spell, IsToken}
use Rattle.mc_text.specs.declared.token.Before.{Before}
use Rattle.mc_text.specs.declared.token.Before.TheVariants.{Start, Open, Later}
use Rattle.mc_text.specs.Scanning.{class_of, State, At, Within, Spaced, lex, byte_step, prepend, or_stuck, ended, loose, tight, grows, parts, eols}
use Rattle.mc_text.specs.declared.token.Class.{Class}
use Rattle.mc_text.specs.declared.token.Class.TheVariants.{Letter, LeftMark, RightMark, SemiMark, Newline, Space, Other}
use Rattle.mc_text.proofs.Atoms.{lex-cons, IsAtomText, atom-text}
use Rattle.mc_text.proofs.Lines.{lex-spell, spell-lex, Spelled, AreReal, IsReal, AreTokens, EndsIn, IsLines}
use Rattle.mc_text.specs.Reading.{Reader}
use Rattle.mc_text.specs.Fault.{first_lines, Grammar, InGrammar, Begins, LinesBegin, IsBadAt, newlines}
use Rattle.mc_text.proofs.ReaderLaws.{IsFlat, AreAlike, ok-rest}
use Rattle.mc_text.proofs.Covers.{Covers}

-- the same tokens up to the end of a line
abbrev pub SameLine : List Tok → List Tok → Type 0
SameLine [] os = os ≡ []
SameLine (q ∷ qs) [] = ⊥
SameLine (q ∷ qs) (o ∷ os) = (q ≡ o) × ((q ≡ Eol) ⊎ SameLine qs os)

same-prepend : (b : ℕ) (qs os : List Tok) → SameLine qs os → SameLine (prepend b qs) (prepend b os)
same-prepend b [] os h = rw h (refl, inr refl)
same-prepend b (q ∷ qs) [] h = absurd h
same-prepend b (Atom a ∷ qs) (o ∷ os) h = subst (λ (w : Tok). SameLine (prepend b (Atom a ∷ qs)) (prepend b (w ∷ os))) h.0 (refl, elim h.1 [ inl e ↦ absurd (never e) | inr k ↦ inr k ])
  where
    never : Atom a ≡ Eol → ⊥
    never e = cc
same-prepend b (Left ∷ qs) (o ∷ os) h = subst (λ (w : Tok). SameLine (Stuck ∷ []) (prepend b (w ∷ os))) h.0 (refl, inr refl)
same-prepend b (Right ∷ qs) (o ∷ os) h = subst (λ (w : Tok). SameLine (Stuck ∷ []) (prepend b (w ∷ os))) h.0 (refl, inr refl)
same-prepend b (Semi ∷ qs) (o ∷ os) h = subst (λ (w : Tok). SameLine (Stuck ∷ []) (prepend b (w ∷ os))) h.0 (refl, inr refl)
same-prepend b (Eol ∷ qs) (o ∷ os) h = subst (λ (w : Tok). SameLine (Stuck ∷ []) (prepend b (w ∷ os))) h.0 (refl, inr refl)
same-prepend b (Done ∷ qs) (o ∷ os) h = subst (λ (w : Tok). SameLine (Stuck ∷ []) (prepend b (w ∷ os))) h.0 (refl, inr refl)
same-prepend b (Stuck ∷ qs) (o ∷ os) h = subst (λ (w : Tok). SameLine (Stuck ∷ []) (prepend b (w ∷ os))) h.0 (refl, inr refl)

same-or : (f : Bool) (qs os : List Tok) → SameLine qs os → SameLine (or_stuck f qs) (or_stuck f os)
same-or true qs os h = h
same-or false qs os h = (refl, inr refl)

same-ended : (s : State) (qs os : List Tok) → SameLine qs os → SameLine (ended s qs) (ended s os)
same-ended (At m) qs os h = h
same-ended Spaced qs os h = h
same-ended Within qs os h = (refl, inr h)

-- a byte that ends no line
same-step : (c : Class) (b : ℕ) (s : State) (k l : State → List Tok) → ((s : State) → SameLine (k s) (l s)) → SameLine (byte_step c b s k) (byte_step c b s l)
same-step Letter b s k l h = same-or (grows s) _ _ (same-prepend b (k Within) (l Within) (h Within))
same-step LeftMark b s k l h = same-ended s _ _ (same-or (loose s) _ _ (refl, inr (h (At Open))))
same-step RightMark b s k l h = same-ended s _ _ (same-or (tight s) _ _ (refl, inr (h (At Later))))
same-step SemiMark b s k l h = same-ended s _ _ (same-or (loose s) _ _ (refl, inr (h (At Later))))
same-step Newline b s k l h = same-ended s _ _ (same-or (tight s) _ _ (refl, inr (h (At Start))))
same-step Space b s k l h = same-ended s _ _ (same-or (parts s) _ _ (h Spaced))
same-step Other b s k l h = same-ended s _ _ (refl, inr refl)

newline-step : (b : ℕ) (s : State) (k l : State → List Tok) → SameLine (byte_step Newline b s k) (byte_step Newline b s l)
newline-step b s k l = same-ended s _ _ (same-or (tight s) _ _ (refl, inl refl))

newline-class : (b : ℕ) → eqb b 10 ≡ true → Newline ≡ class_of b
newline-class b e = let k : b ≡ 10 = eqb-true b 10 e in rw k refl

mapped : (b : ℕ) (o : Option (List ℕ)) (l : List ℕ) → option_map (λ (f : List ℕ). b ∷ f) o ≡ Some l → (m : List ℕ) × (o ≡ Some m) × (b ∷ m ≡ l)
mapped b (Some m) l e = (m, refl, cc)
mapped b None l e = absurd cc

abbrev Followed : List ℕ → List ℕ → Type 0
Followed bytes more = (l : List ℕ) (s : State) → first_lines 1 bytes ≡ Some l → SameLine (lex bytes s) (lex (l ++ more) s)

line-step : (b : ℕ) (bytes l more : List ℕ) (s : State) (f : Bool) → Followed bytes more → eqb b 10 ≡ f → (m : List ℕ) × (cond (eqb b 10) (first_lines 0 bytes) (first_lines 1 bytes) ≡ Some m) × (b ∷ m ≡ l) → SameLine (lex (b ∷ bytes) s) (lex (l ++ more) s)
line-step b bytes l more s true ih g p =
    subst (λ (w : List ℕ). SameLine (lex (b ∷ bytes) s) (lex (w ++ more) s)) p.2
    (rw (lex-cons b bytes s Newline (newline-class b g), lex-cons b (p.0 ++ more) s Newline (newline-class b g)) (newline-step b s (lex bytes) (lex (p.0 ++ more))))
line-step b bytes l more s false ih g p =
    let m-is : first_lines 1 bytes ≡ Some p.0 = sym (ap (λ (f : Bool). cond f (first_lines 0 bytes) (first_lines 1 bytes)) g) ∙ p.1 in
    subst (λ (w : List ℕ). SameLine (lex (b ∷ bytes) s) (lex (w ++ more) s)) p.2
    (rw (lex-cons b bytes s (class_of b) refl, lex-cons b (p.0 ++ more) s (class_of b) refl) (same-step (class_of b) b s (lex bytes) (lex (p.0 ++ more)) (λ t. ih p.0 t m-is)))

-- what a line is read as doesn't depend on what follows it
pub same-line : (bytes more : List ℕ) → Followed bytes more
unfolding first_lines
same-line [] more l s e = absurd cc
same-line (b ∷ bytes) more l s e = line-step b bytes l more s (eqb b 10) (same-line bytes more) refl (mapped b (cond (eqb b 10) (first_lines 0 bytes) (first_lines 1 bytes)) l e)

-- the same up to a token within the line, and that token
pub same-part : (part bad os : List Tok) → IsFlat part → SameLine (part ++ bad) os → (o : List Tok) × (os ≡ part ++ o) × AreAlike bad o
same-part [] [] os f h = (os, refl, h)
same-part [] (t ∷ bad) [] f h = absurd h
same-part [] (t ∷ bad) (o ∷ os) f h = (o ∷ os, refl, h.0)
same-part (p ∷ part) bad [] f h = absurd h
same-part (p ∷ part) bad (o ∷ os) f h =
    elim h.1 [
      | inl e ↦ absurd (f.0 e)
      | inr k ↦ let r = same-part part bad os f.1 k in (r.0, ap (λ (w : Tok). w ∷ os) (sym h.0) ∙ ap (λ (v : List Tok). p ∷ v) r.1, r.2)
    ]

-- ---- lines of bytes

abbrev pub EndsByte : ℕ → List ℕ → Type 0
EndsByte b [] = b ≡ 10
EndsByte b (c ∷ cs) = EndsByte c cs

abbrev pub AreLines : List ℕ → Type 0
AreLines [] = Unit {0}
AreLines (b ∷ bs) = EndsByte b bs

in-front : (b : ℕ) (w : List ℕ) (o : Option (List ℕ)) → option_map (λ (f : List ℕ). b ∷ f) (option_map (λ (f : List ℕ). w ++ f) o) ≡ option_map (λ (f : List ℕ). (b ∷ w) ++ f) o
in-front b w None = refl
in-front b w (Some f) = refl

nothing-in-front : (o : Option (List ℕ)) → o ≡ option_map (λ (f : List ℕ). [] ++ f) o
nothing-in-front None = refl
nothing-in-front (Some f) = refl

pub one-newline : (b : ℕ) (w : List ℕ) → EndsByte b w → (n : ℕ) × (newlines (b ∷ w) ≡ suc n)
one-newline b [] h = (0, rw h refl)
one-newline b (c ∷ w) h = let i = one-newline c w h in by (eqb b 10) i.0 i.1
  where
    by : (f : Bool) (n : ℕ) → newlines (c ∷ w) ≡ suc n → (n : ℕ) × (cond f (suc (newlines (c ∷ w))) (newlines (c ∷ w)) ≡ suc n)
    by true n e = (newlines (c ∷ w), refl)
    by false n e = (n, e)

pub first-step : (b : ℕ) (bs : List ℕ) (n : ℕ) (f : Bool) → eqb b 10 ≡ f → first_lines (suc n) (b ∷ bs) ≡ option_map (λ (x : List ℕ). b ∷ x) (cond f (first_lines n bs) (first_lines (suc n) bs))
unfolding first_lines
first-step b bs n f e = rw e refl

-- one more byte in front
byte-in-front : (b : ℕ) (bs : List ℕ) (i : ℕ) (m k : ℕ) (f : Bool) (w : List ℕ) (o : Option (List ℕ)) → eqb b 10 ≡ f → i ≡ suc m → first_lines (i + k) bs ≡ option_map (λ (x : List ℕ). w ++ x) o
    → first_lines (cond f (suc i) i + k) (b ∷ bs) ≡ option_map (λ (x : List ℕ). (b ∷ w) ++ x) o
byte-in-front b bs i m k true w o e im h =
    let n : suc i + k ≡ suc (i + k) = omega arith in
    ap (λ (j : ℕ). first_lines j (b ∷ bs)) n ∙ first-step b bs (i + k) true e ∙ ap (option_map (λ (x : List ℕ). b ∷ x)) h ∙ in-front b w o
byte-in-front b bs i m k false w o e im h =
    let n : i + k ≡ suc (m + k) = omega arith in
    ap (λ (j : ℕ). first_lines j (b ∷ bs)) n ∙ first-step b bs (m + k) false e ∙ ap (option_map (λ (x : List ℕ). b ∷ x)) (ap (λ (j : ℕ). first_lines j bs) (sym n) ∙ h) ∙ in-front b w o

last-in-front : (b k : ℕ) (y : List ℕ) → b ≡ 10 → first_lines (newlines (b ∷ []) + k) (b ∷ y) ≡ option_map (λ (x : List ℕ). (b ∷ []) ++ x) (first_lines k y)
last-in-front b k y h =
    let e : eqb b 10 ≡ true = rw h refl in
    let n : newlines (b ∷ []) + k ≡ suc k = rw h (omega arith) in
    ap (λ (j : ℕ). first_lines j (b ∷ y)) n ∙ first-step b y k true e

-- lines in front are passed over
lines-in-front : (b : ℕ) (w y : List ℕ) (k : ℕ) → EndsByte b w → first_lines (newlines (b ∷ w) + k) ((b ∷ w) ++ y) ≡ option_map (λ (f : List ℕ). (b ∷ w) ++ f) (first_lines k y)
lines-in-front b [] y k h = last-in-front b k y h
lines-in-front b (c ∷ w) y k h =
    let i = one-newline c w h in
    byte-in-front b ((c ∷ w) ++ y) (newlines (c ∷ w)) i.0 k (eqb b 10) (c ∷ w) (first_lines k y) refl i.1 (lines-in-front c w y k h)

pub lines-first : (w y : List ℕ) (k : ℕ) → AreLines w → first_lines (newlines w + k) (w ++ y) ≡ option_map (λ (f : List ℕ). w ++ f) (first_lines k y)
lines-first [] y k h = let n : 0 + k ≡ k = omega arith in ap (λ (j : ℕ). first_lines j y) n ∙ nothing-in-front (first_lines k y)
lines-first (b ∷ w) y k h = lines-in-front b w y k h

-- ---- how many lines end

pub newlines-append : (a b : List ℕ) → newlines (a ++ b) ≡ newlines a + newlines b
newlines-append [] b = omega arith
newlines-append (c ∷ a) b = choose (eqb c 10) (newlines-append a b)
  where
    choose : (f : Bool) → newlines (a ++ b) ≡ newlines a + newlines b → cond f (suc (newlines (a ++ b))) (newlines (a ++ b)) ≡ cond f (suc (newlines a)) (newlines a) + newlines b
    choose true h = omega (arith, h)
    choose false h = h

newlines-gap : (m : Before) (t : Tok) → newlines (gap m t) ≡ 0
newlines-gap Start Left = refl
newlines-gap Start Right = refl
newlines-gap Start Semi = refl
newlines-gap Start (Atom a) = refl
newlines-gap Start Eol = refl
newlines-gap Start Done = refl
newlines-gap Start Stuck = refl
newlines-gap Open Left = refl
newlines-gap Open Right = refl
newlines-gap Open Semi = refl
newlines-gap Open (Atom a) = refl
newlines-gap Open Eol = refl
newlines-gap Open Done = refl
newlines-gap Open Stuck = refl
newlines-gap Later Left = refl
newlines-gap Later Right = refl
newlines-gap Later Semi = refl
newlines-gap Later (Atom a) = refl
newlines-gap Later Eol = refl
newlines-gap Later Done = refl
newlines-gap Later Stuck = refl

atom-newline : (b : ℕ) → is_atom_byte b ≡ true → eqb b 10 ≡ false
atom-newline b h = grind (arith, nat_tests)

newlines-atom : (a : List ℕ) → IsAtomText a → newlines a ≡ 0
newlines-atom [] h = refl
newlines-atom (b ∷ a) h = rw (atom-newline b h.0) (newlines-atom a h.1)

newlines-token : (t : Tok) → IsToken t → newlines (token_bytes t) ≡ eol t
newlines-token Left h = refl
newlines-token Right h = refl
newlines-token Semi h = refl
newlines-token (Atom a) h = newlines-atom a (atom-text a h)
newlines-token Eol h = refl
newlines-token Done h = refl
newlines-token Stuck h = refl

pub newlines-spell : (m : Before) (ts : List Tok) → AreTokens ts → newlines (spell m ts) ≡ eols ts
newlines-spell m [] h = refl
newlines-spell m (t ∷ ts) h =
    let one = newlines-append (gap m t ++ token_bytes t) (spell (before_next t) ts) in
    let two = newlines-append (gap m t) (token_bytes t) in
    omega (arith, one, two, newlines-gap m t, newlines-token t h.0, newlines-spell (before_next t) ts h.1)

pub eols-append : (a b : List Tok) → eols (a ++ b) ≡ eols a + eols b
eols-append [] b = omega arith
eols-append (t ∷ a) b = omega (arith, eols-append a b)

eol-flat : (t : Tok) → (t ≡ Eol → ⊥) → eol t ≡ 0
eol-flat Left h = refl
eol-flat Right h = refl
eol-flat Semi h = refl
eol-flat (Atom a) h = refl
eol-flat Eol h = absurd (h refl)
eol-flat Done h = refl
eol-flat Stuck h = refl

pub eols-flat : (ts : List Tok) → IsFlat ts → eols ts ≡ 0
eols-flat [] h = refl
eols-flat (t ∷ ts) h = omega (arith, eol-flat t h.0, eols-flat ts h.1)

-- ---- the end of the text is met at its end

prepend-end : (b : ℕ) (ts us : List Tok) → prepend b ts ≡ Done ∷ us → ⊥
prepend-end b [] us e = cc
prepend-end b (Atom a ∷ ts) us e = cc
prepend-end b (Left ∷ ts) us e = cc
prepend-end b (Right ∷ ts) us e = cc
prepend-end b (Semi ∷ ts) us e = cc
prepend-end b (Eol ∷ ts) us e = cc
prepend-end b (Done ∷ ts) us e = cc
prepend-end b (Stuck ∷ ts) us e = cc

step-end : (c : Class) (b : ℕ) (k : State → List Tok) (us : List Tok) → byte_step c b (At Start) k ≡ Done ∷ us → ⊥
step-end Letter b k us e = prepend-end b (k Within) us e
step-end LeftMark b k us e = cc
step-end RightMark b k us e = cc
step-end SemiMark b k us e = cc
step-end Newline b k us e = cc
step-end Space b k us e = cc
step-end Other b k us e = cc

pub only-end : (bytes : List ℕ) (us : List Tok) → lex bytes (At Start) ≡ Done ∷ us → bytes ≡ []
only-end [] us e = refl
only-end (b ∷ bs) us e = absurd (step-end (class_of b) b (lex bs) us (sym (lex-cons b bs (At Start) (class_of b) refl) ∙ e))

-- ---- the theorem

some-front : (w : List ℕ) (o : Option (List ℕ)) (f : List ℕ) → option_map (λ (x : List ℕ). w ++ x) o ≡ Some f → (l : List ℕ) × (o ≡ Some l) × (f ≡ w ++ l)
some-front w (Some l) f e = (l, refl, cc)
some-front w None f e = absurd cc

-- the lines are there, and begin a text
abbrev pub AreThere : {X : Type 0} → Grammar X → Option (List ℕ) → Type 0
AreThere g o = IsSomeAnd o (Begins g)

pub there : {X : Type 0} (g : Grammar X) (o : Option (List ℕ)) → AreThere g o → (f : List ℕ) × (o ≡ Some f) × Begins g f
there g (Some f) h = (f, refl, h)
there g None h = absurd h

-- ---- front lines

pub tokens-front : (a b : List Tok) → AreTokens (a ++ b) → AreTokens a
tokens-front [] b h = tt
tokens-front (t ∷ a) b h = (h.0, tokens-front a b h.1)

is-real : (t : Tok) → IsToken t → IsReal t
is-real Left h = tt
is-real Right h = tt
is-real Semi h = tt
is-real (Atom a) h = tt
is-real Eol h = tt
is-real Done h = absurd h
is-real Stuck h = absurd h

pub are-real : (ts : List Tok) → AreTokens ts → AreReal ts
are-real [] h = tt
are-real (t ∷ ts) h = (is-real t h.0, are-real ts h.1)

pub spelled : (p : List ℕ) (front rest : List Tok) → IsLines front → AreTokens front → lex p (At Start) ≡ front ++ rest → Spelled Start p front rest
spelled p [] rest lines tokens e = record { more = p; is = refl; reads = e }
spelled p (t ∷ ts) rest lines tokens e = spell-lex Start p t ts rest (are-real (t ∷ ts) tokens) lines e

pub front-lex : (front : List Tok) (x : List ℕ) → IsLines front → AreTokens front → lex (spell Start front ++ x) (At Start) ≡ front ++ lex x (At Start)
front-lex [] x lines tokens = refl
front-lex (t ∷ ts) x lines tokens = lex-spell Start t ts x tokens lines

pub spell-append : (m : Before) (a b : List Tok) → (c : List ℕ) × (spell m (a ++ b) ≡ spell m a ++ c)
spell-append m [] b = (spell m b, refl)
spell-append m (t ∷ a) b =
    let r = spell-append (before_next t) a b in
    (r.0, ap (λ (v : List ℕ). (gap m t ++ token_bytes t) ++ v) r.1 ∙ sym (append_assoc (gap m t ++ token_bytes t) (spell (before_next t) a) r.0))

-- bytes that end with a newline
abbrev Ending : List ℕ → Type 0
Ending v = (c : ℕ) × (cs : List ℕ) × (v ≡ c ∷ cs) × EndsByte c cs

ending-cons : (b c : ℕ) (cs v : List ℕ) → v ≡ c ∷ cs → EndsByte c cs → EndsByte b v
ending-cons b c cs v e h = subst (EndsByte b) (sym e) h

ending-append : (w v : List ℕ) → Ending v → Ending (w ++ v)
ending-append [] v h = h
ending-append (b ∷ w) v h = let r = ending-append w v h in (b, w ++ v, refl, ending-cons b r.0 r.1 (w ++ v) r.2 r.3)

ending-eol : (m : Before) → Ending (spell m (Eol ∷ []))
ending-eol Start = (10, [], refl, refl)
ending-eol Open = (10, [], refl, refl)
ending-eol Later = (10, [], refl, refl)

pub ending-spell : (m : Before) (t : Tok) (ts : List Tok) → EndsIn t ts → Ending (spell m (t ∷ ts))
ending-spell m t [] h = subst (λ (u : Tok). Ending (spell m (u ∷ []))) (sym h) (ending-eol m)
ending-spell m t (u ∷ us) h = ending-append (gap m t ++ token_bytes t) (spell (before_next t) (u ∷ us)) (ending-spell (before_next t) u us h)

are-lines : (v : List ℕ) → Ending v → AreLines v
are-lines v h = subst AreLines (sym h.2) h.3

pub spell-lines : (front : List Tok) → IsLines front → AreLines (spell Start front)
spell-lines [] h = tt
spell-lines (t ∷ ts) h = are-lines (spell Start (t ∷ ts)) (ending-spell Start t ts h)

pub lines-zeroth : (w p y : List ℕ) → p ≡ w ++ y → AreLines w → first_lines (newlines w) p ≡ Some w
unfolding first_lines
lines-zeroth w p y e h =
    let n : newlines w ≡ newlines w + 0 = omega arith in
    ap (λ (j : ℕ). first_lines j p) n ∙ ap (first_lines (newlines w + 0)) e ∙ lines-first w y 0 h ∙ ap (λ (v : List ℕ). Some v) (append-nil w)

pub lines-next : (w p y : List ℕ) → p ≡ w ++ y → AreLines w → first_lines (suc (newlines w)) p ≡ option_map (λ (f : List ℕ). w ++ f) (first_lines 1 y)
lines-next w p y e h =
    let n : suc (newlines w) ≡ newlines w + 1 = omega arith in
    ap (λ (j : ℕ). first_lines j p) n ∙ ap (first_lines (newlines w + 1)) e ∙ lines-first w y 1 h

done-lex : lex [] (At Start) ≡ Done ∷ []
unfolding lex
done-lex = refl

-- the text goes on with no first token that isn't its end
going : (rest q : List Tok) → ((us : List Tok) → rest ≡ Done ∷ us → ⊥) → AreAlike rest q → q ≡ Done ∷ [] → ⊥
going rest q more alike e = ends rest more (subst (AreAlike rest) e alike)
  where
    ends : (rest : List Tok) → ((us : List Tok) → rest ≡ Done ∷ us → ⊥) → AreAlike rest (Done ∷ []) → ⊥
    ends [] more a = cc
    ends (r ∷ rs) more a = more rs (ap (λ (w : Tok). w ∷ rs) a)

module _ {X : Type 0} (read : Reader X) (F : X → Type 0) (t : X → List Tok) (covers : Covers read F t) (real : (x : X) → F x → AreTokens (t x)) where
  abbrev pub grammar : Grammar X
  grammar = record { Has = F; text = λ x. spell Start (t x) }

  -- what a text of the grammar is read as
  whole-lex : (x : X) → F x → lex (spell Start (t x)) (At Start) ≡ t x ++ (Done ∷ [])
  whole-lex x h = ap (λ (v : List ℕ). lex v (At Start)) (sym (append-nil (spell Start (t x)))) ∙ front-lex (t x) [] (covers.ends x h) (real x h) ∙ ap (λ (v : List Tok). t x ++ v) done-lex

  abbrev err : List Tok → Result (X × List Tok) (List Tok)
  err bad = Err bad

  abbrev done : X → List Tok → Result (X × List Tok) (List Tok)
  done x rest = Ok (x, rest)

  -- a text of the grammar doesn't stop reading
  goes : (x : X) (ts bad : List Tok) → F x → lex (spell Start (t x)) (At Start) ≡ ts → read ts ≡ Err bad → ⊥
  goes x ts bad h e k = clash (sym (covers.again x (Done ∷ []) h) ∙ ap read (sym (whole-lex x h) ∙ e) ∙ k)
    where
      clash : Ok (x, Done ∷ []) ≡ err bad → ⊥
      clash c = cc

  not-in : (p : List ℕ) (bad : List Tok) → read (lex p (At Start)) ≡ Err bad → InGrammar grammar p → ⊥
  not-in p bad e g = goes g.0 (lex p (At Start)) bad g.1 (ap (λ (v : List ℕ). lex v (At Start)) (sym g.2)) e

  -- the lines in front begin a text
  begun : (front more : List Tok) (x : X) → F x → t x ≡ front ++ more → Begins grammar (spell Start front)
  begun front more x h e = let c = spell-append Start front more in (x, h, c.0, ap (spell Start) e ∙ c.1)

  -- reading a whole text gives its value
  whole-read : (x : X) → F x → read (lex (spell Start (t x)) (At Start)) ≡ Ok (x, Done ∷ [])
  whole-read x h = ap read (whole-lex x h) ∙ covers.again x (Done ∷ []) h

  -- no whole text goes on behind part with the first token of bad
  abbrev NoneGoes : List Tok → List Tok → List Tok → Type 0
  NoneGoes front part bad = (b : X) (q : List Tok) → F b → AreAlike bad q → lex (spell Start (t b)) (At Start) ≡ front ++ (part ++ q) → ⊥

  -- the lines in front and the next line begin none
  ended-there : (p : List ℕ) (front part bad : List Tok) → IsLines front → IsFlat part → AreTokens front → NoneGoes front part bad → (s : Spelled Start p front (part ++ bad)) → (o : Option (List ℕ))
      → o ≡ option_map (λ (f : List ℕ). spell Start front ++ f) (first_lines 1 s.more) → AreThere grammar o → ⊥
  ended-there p front part bad lines flat tokens none s o e k =
      let f = there grammar o k in
      let l = some-front (spell Start front) (first_lines 1 s.more) f.0 (sym e ∙ f.1) in
      let b = f.2 in
      let more : List ℕ = b.2 in
      let line = same-line s.more more l.0 (At Start) l.1 in
      let q = same-part part bad (lex (l.0 ++ more) (At Start)) flat (subst (λ (v : List Tok). SameLine v (lex (l.0 ++ more) (At Start))) s.reads line) in
      let is-text : spell Start (t b.0) ≡ spell Start front ++ (l.0 ++ more) = b.3 ∙ ap (λ (v : List ℕ). v ++ more) l.2 ∙ append_assoc (spell Start front) l.0 more in
      none b.0 q.0 b.1 q.2 (ap (λ (v : List ℕ). lex v (At Start)) is-text ∙ front-lex front (l.0 ++ more) lines tokens ∙ ap (λ (v : List Tok). front ++ v) q.1)

  first-there : (n : ℕ) (p w : List ℕ) → first_lines n p ≡ Some w → Begins grammar w → LinesBegin grammar p n
  first-there n p w e h = subst (AreThere grammar) (sym e) h

  bad-behind : (p : List ℕ) (front part bad : List Tok) → IsLines front → IsFlat part → AreTokens front → lex p (At Start) ≡ front ++ (part ++ bad) → NoneGoes front part bad → (InGrammar grammar p → ⊥) → Begins grammar (spell Start front)
      → IsBadAt grammar p (suc (newlines (spell Start front)))
  bad-behind p front part bad lines flat tokens is none out begins =
      let s = spelled p front (part ++ bad) lines tokens is in
      let w : List ℕ = spell Start front in
      let n : ℕ = newlines w in
      let zeroth : first_lines n p ≡ Some w = lines-zeroth w p s.more s.is (spell-lines front lines) in
      let next : first_lines (suc n) p ≡ option_map (λ (f : List ℕ). w ++ f) (first_lines 1 s.more) = lines-next w p s.more s.is (spell-lines front lines) in
      (out, first-there n p w zeroth begins, ended-there p front part bad lines flat tokens none s (first_lines (suc n) p) next)

  -- the line is counted from the end
  counted : (p : List ℕ) (front part bad : List Tok) (n : ℕ) → IsFlat part → AreTokens front → lex p (At Start) ≡ front ++ (part ++ bad) → n + eols bad ≡ suc (eols (lex p (At Start))) → suc (newlines (spell Start front)) ≡ n
  counted p front part bad n flat tokens is e =
      let whole : eols (lex p (At Start)) ≡ eols (front ++ (part ++ bad)) = ap eols is in
      omega (arith, e, whole, eols-append front (part ++ bad), eols-append part bad, eols-flat part flat, newlines-spell Start front tokens)

  -- where reading stops at tokens, the line at which they begin is the bad one
  pub bad-line : (p : List ℕ) (bad : List Tok) (n : ℕ) → read (lex p (At Start)) ≡ Err bad → n + eols bad ≡ suc (eols (lex p (At Start))) → IsBadAt grammar p n
  bad-line p bad n e count =
      let h = covers.halts (lex p (At Start)) bad e in
      let tokens : AreTokens h.front = tokens-front h.front h.more (subst AreTokens h.begun (real h.whole h.fits)) in
      subst (IsBadAt grammar p) (counted p h.front h.part bad n h.flat tokens h.is count)
      (bad-behind p h.front h.part bad h.lines h.flat tokens h.is
      (λ b q f alike is. goes b (h.front ++ (h.part ++ q)) q f is (h.fixed q alike)) (not-in p bad e) (begun h.front h.more h.whole h.fits h.begun))

  same-read : (x y : X) (rest more : List Tok) → done x rest ≡ done y more → rest ≡ more
  same-read x y rest more e = ok-rest x y rest more e

  -- where a whole value is read, and the text doesn't end behind it, the line behind it is the bad one
  pub bad-rest : (p : List ℕ) (x : X) (rest : List Tok) (n : ℕ) → read (lex p (At Start)) ≡ Ok (x, rest) → ((us : List Tok) → rest ≡ Done ∷ us → ⊥) → n + eols rest ≡ suc (eols (lex p (At Start))) → IsBadAt grammar p n
  bad-rest p x rest n e more count =
      let h = covers.takes (lex p (At Start)) x rest e in
      let tokens = real x h.1 in
      subst (IsBadAt grammar p) (counted p (t x) [] rest n tt tokens h.0 count)
      (bad-behind p (t x) [] rest (covers.ends x h.1) tt tokens h.0
      (λ b q f alike is. going rest q more alike (same-read x b q (Done ∷ []) (sym (covers.again x q h.1) ∙ ap read (sym is) ∙ whole-read b f)))
      (λ g. more [] (same-read x g.0 rest (Done ∷ []) (sym e ∙ ap (λ (v : List ℕ). read (lex v (At Start))) g.2 ∙ whole-read g.0 g.1)))
      (x, h.1, [], sym (append-nil (spell Start (t x)))))

  -- where it ends, the text is the value's
  pub whole-text : (p : List ℕ) (x : X) (us : List Tok) → read (lex p (At Start)) ≡ Ok (x, Done ∷ us) → F x × (p ≡ grammar.text x)
  whole-text p x us e =
      let h = covers.takes (lex p (At Start)) x (Done ∷ us) e in
      let s = spelled p (t x) (Done ∷ us) (covers.ends x h.1) (real x h.1) h.0 in
      (h.1, s.is ∙ ap (λ (v : List ℕ). spell Start (t x) ++ v) (only-end s.more us s.reads) ∙ append-nil (spell Start (t x)))

  -- and the text of a value is read as it
  pub text-read : (x : X) → F x → read (lex (grammar.text x) (At Start)) ≡ Ok (x, Done ∷ [])
  text-read x h = whole-read x h
