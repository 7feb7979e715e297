-- Lines of tokens are read as they are spelled, and nothing else is read so.
use Rattle.std.proofs.Common.{◌≡◌, ℕ, zero, suc, ◌+◌, ◌-◌, ◌<◌, ◌≤◌, Bool, true, false, cond, eqb, List, [], ◌∷◌, ◌++◌, length, get_or, take, drop, Option, Some, None, refl, sym, ap, subst, ◌∙◌, arith, append_assoc}
use Rattle.std.proofs.lemmas.List.{append-nil, take_all}
use Rattle.std.specs.Prelude.{IfSome}
use Rattle.mc_text.specs.Tokens.{Tok, Left, Right, Semi, Atom, Eol, Done, Stuck, is_atom_byte, gap, token_bytes, before_next, token_text, spell, IsAtom, IsToken, tok, eol, HasNoAtomByte, MayStand, Stands, Position, Passes}
use Rattle.mc_text.specs.declared.token.Token.{Token}
use Rattle.mc_text.specs.declared.token.Token.TheVariants as token
use Rattle.mc_text.specs.declared.token.Before.{Before}
use Rattle.mc_text.specs.declared.token.Before.TheVariants.{Start, Open, Later}
use Rattle.mc_text.specs.Scanning.{class_of, State, At, Within, Spaced, lex, byte_step, prepend, loose, tight, grows, parts, ended, or_stuck, at_end, tokens_at}
use Rattle.mc_text.specs.inner.Scanning.{state_of, space_text, IsWhole, IsSettled}
use Rattle.mc_text.specs.declared.token.Class.{Class}
use Rattle.mc_text.specs.declared.token.Class.TheVariants.{Letter, LeftMark, RightMark, SemiMark, Newline, Space, Other}
use Rattle.mc_text.proofs.Atoms.{class-letter, class-other, ends, lex-cons, ended-between, nothing-left, IsAtomText, atom-text, text-atom}

abbrev pub AreTokens : List Tok → Type 0
AreTokens [] = Unit {0}
AreTokens (t ∷ ts) = IsToken t × AreTokens ts

-- whole lines
abbrev pub EndsIn : Tok → List Tok → Type 0
EndsIn t [] = t ≡ Eol
EndsIn t (u ∷ us) = EndsIn u us

abbrev pub IsLines : List Tok → Type 0
IsLines [] = Unit {0}
IsLines (t ∷ ts) = EndsIn t ts

-- no atom goes on here
abbrev IsCut : List ℕ → Type 0
IsCut [] = Unit {0}
IsCut (b ∷ bs) = class_of b ≡ Letter → ⊥

cut-here : (x : List ℕ) → HasNoAtomByte x → IsCut x
cut-here [] h = tt
cut-here (b ∷ bs) h = class-other b h

cut : (x : List ℕ) → IsCut x → lex x Within ≡ Atom [] ∷ lex x (At Later)
unfolding lex
cut [] h = refl
cut (b ∷ x) h = ends (class_of b) b (lex x) h

run : (a x : List ℕ) → IsAtomText a → IsCut x → lex (a ++ x) Within ≡ Atom a ∷ lex x (At Later)
unfolding lex
run [] x h c = cut x c
run (b ∷ a) x h c = rw (class-letter b h.0, run a x h.1 c) refl

atom-at : (m : Before) (b : ℕ) (a x : List ℕ) → IsAtomText (b ∷ a) → IsCut x → lex (gap m (Atom (b ∷ a)) ++ ((b ∷ a) ++ x)) (At m) ≡ Atom (b ∷ a) ∷ lex x (At Later)
unfolding lex
atom-at Start b a x h c = rw (class-letter b h.0, run a x h.1 c) refl
atom-at Open b a x h c = rw (class-letter b h.0, run a x h.1 c) refl
atom-at Later b a x h c = rw (class-letter b h.0, run a x h.1 c) refl

-- what follows an atom
abbrev IsCutAfter : Tok → List ℕ → Type 0
IsCutAfter (Atom a) x = IsCut x
IsCutAfter _ x = Unit {0}

token-at : (m : Before) (t : Tok) (x : List ℕ) → IsToken t → IsCutAfter t x → lex (gap m t ++ (token_bytes t ++ x)) (At m) ≡ t ∷ lex x (At (before_next t))
unfolding lex
token-at Start Left x h c = refl
token-at Open Left x h c = refl
token-at Later Left x h c = refl
token-at Start Right x h c = refl
token-at Open Right x h c = refl
token-at Later Right x h c = refl
token-at Start Semi x h c = refl
token-at Open Semi x h c = refl
token-at Later Semi x h c = refl
token-at Start Eol x h c = refl
token-at Open Eol x h c = refl
token-at Later Eol x h c = refl
token-at m (Atom []) x h c = absurd (h.0 refl)
token-at m (Atom (b ∷ a)) x h c = atom-at m b a x (atom-text (b ∷ a) h) c
token-at m Done x h c = absurd h
token-at m Stuck x h c = absurd h

cut-before : (u : Tok) (us : List Tok) (x : List ℕ) → IsToken u → IsCut (spell Later (u ∷ us) ++ x)
cut-before Left us x h = λ e. cc
cut-before Right us x h = λ e. cc
cut-before Semi us x h = λ e. cc
cut-before (Atom a) us x h = λ e. cc
cut-before Eol us x h = λ e. cc
cut-before Done us x h = absurd h
cut-before Stuck us x h = absurd h

cut-after : (t u : Tok) (us : List Tok) (x : List ℕ) → IsToken u → IsCutAfter t (spell (before_next t) (u ∷ us) ++ x)
cut-after Left u us x h = tt
cut-after Right u us x h = tt
cut-after Semi u us x h = tt
cut-after (Atom a) u us x h = cut-before u us x h
cut-after Eol u us x h = tt
cut-after Done u us x h = tt
cut-after Stuck u us x h = tt

eol-at : (m : Before) (x : List ℕ) → lex (spell m (Eol ∷ []) ++ x) (At m) ≡ Eol ∷ lex x (At Start)
unfolding lex
eol-at Start x = refl
eol-at Open x = refl
eol-at Later x = refl

-- a line's last token
last-at : (m : Before) (t : Tok) (x : List ℕ) → t ≡ Eol → lex (spell m (t ∷ []) ++ x) (At m) ≡ t ∷ lex x (At Start)
last-at m t x e = subst (λ (u : Tok). lex (spell m (u ∷ []) ++ x) (At m) ≡ u ∷ lex x (At Start)) (sym e) (eol-at m x)

-- whole lines are read as they are spelled, whatever follows them
pub lex-spell : (m : Before) (t : Tok) (ts : List Tok) (x : List ℕ) → AreTokens (t ∷ ts) → EndsIn t ts → lex (spell m (t ∷ ts) ++ x) (At m) ≡ (t ∷ ts) ++ lex x (At Start)
lex-spell m t [] x h e = last-at m t x e
lex-spell m t (u ∷ us) x h e =
    ap (λ (y : List ℕ). lex y (At m)) (append_assoc (gap m t ++ token_bytes t) (spell (before_next t) (u ∷ us)) x ∙ append_assoc (gap m t) (token_bytes t) (spell (before_next t) (u ∷ us) ++ x))
    ∙ token-at m t (spell (before_next t) (u ∷ us) ++ x) h.0 (cut-after t u us x h.1.0)
    ∙ ap (λ (v : List Tok). t ∷ v) (lex-spell (before_next t) u us x h.1 e)

-- ---- and back

chain : Bool → ℕ → Class
chain p b = cond p Letter (cond (eqb b 40) LeftMark (cond (eqb b 41) RightMark (cond (eqb b 59) SemiMark (cond (eqb b 10) Newline (cond (eqb b 32) Space Other)))))

byte-left : (p : Bool) (b : ℕ) → chain p b ≡ LeftMark → b ≡ 40
unfolding chain
byte-left p b e = grind arith

byte-right : (p : Bool) (b : ℕ) → chain p b ≡ RightMark → b ≡ 41
unfolding chain
byte-right p b e = grind arith

byte-semi : (p : Bool) (b : ℕ) → chain p b ≡ SemiMark → b ≡ 59
unfolding chain
byte-semi p b e = grind arith

byte-newline : (p : Bool) (b : ℕ) → chain p b ≡ Newline → b ≡ 10
unfolding chain
byte-newline p b e = grind arith

byte-space : (p : Bool) (b : ℕ) → chain p b ≡ Space → b ≡ 32
unfolding chain
byte-space p b e = grind arith

byte-letter : (p : Bool) (b : ℕ) → chain p b ≡ Letter → p ≡ true
unfolding chain
byte-letter true b e = refl
byte-letter false b e = grind arith

-- each text begins with an atom's rest
pub record Run (bytes : List ℕ) : Type 0 where
  atom : List ℕ
  rest : List ℕ
  is : bytes ≡ atom ++ rest
  fits : IsAtomText atom
  reads : lex bytes Within ≡ Atom atom ∷ lex rest (At Later)

short-run : (b : ℕ) (bs : List ℕ) → (class_of b ≡ Letter → ⊥) → Run (b ∷ bs)
short-run b bs h = record { atom = []; rest = b ∷ bs; is = refl; fits = tt; reads = cut (b ∷ bs) h }

run-of2 : (b : ℕ) (bs : List ℕ) (p : Bool) → is_atom_byte b ≡ p → Run bs → Run (b ∷ bs)
run-of2 b bs true e r = record { atom = b ∷ r.atom; rest = r.rest; is = ap (λ (v : List ℕ). b ∷ v) r.is; fits = (e, r.fits); reads = lex-cons b bs Within Letter (sym (class-letter b e)) ∙ ap (prepend b) r.reads }
run-of2 b bs false e r = short-run b bs (class-other b e)

run-of : (bytes : List ℕ) → Run bytes
run-of [] = record { atom = []; rest = []; is = refl; fits = tt; reads = cut [] tt }
run-of (b ∷ bs) = run-of2 b bs (is_atom_byte b) refl (run-of bs)

-- neither the end nor a place where no token begins
abbrev pub IsReal : Tok → Type 0
IsReal Done = ⊥
IsReal Stuck = ⊥
IsReal _ = Unit {0}

-- whether the token may stand there with no more space
abbrev opens : State → Tok → Bool
opens s Left = loose s
opens s Right = tight s
opens s Semi = loose s
opens s (Atom a) = grows s
opens s Eol = tight s
opens s _ = false

-- the bytes begin with a token, and the rest is read as us
pub record AtFront (s : State) (bytes : List ℕ) (t : Tok) (us : List Tok) : Type 0 where
  pub rest : List ℕ
  pub is : bytes ≡ token_bytes t ++ rest
  pub reads : lex rest (At (before_next t)) ≡ us
  pub fits : IsToken t
  pub may : opens s t ≡ true

mark-begins : (s : State) (bytes rest : List ℕ) (t v : Tok) (us : List Tok) (f : Bool) → f ≡ opens s v → IsReal t → bytes ≡ token_bytes v ++ rest → IsToken v → or_stuck f (v ∷ lex rest (At (before_next v))) ≡ t ∷ us → AtFront s bytes t us
mark-begins s bytes rest t v us true f real is fits e =
    let same : v ≡ t = cc in
    subst (λ (w : Tok). AtFront s bytes w us) same (record { rest = rest; is = is; reads = cc; fits = fits; may = sym f })
mark-begins s bytes rest t v us false f real is fits e = let same : Stuck ≡ t = cc in absurd (subst IsReal (sym same) real)

never-stuck : {A : Type 0} (t : Tok) (us : List Tok) → IsReal t → Stuck ∷ [] ≡ t ∷ us → A
never-stuck t us real e = let same : Stuck ≡ t = cc in absurd (subst IsReal (sym same) real)

begins : (s : State) (b : ℕ) (bs : List ℕ) (c : Class) (t : Tok) (us : List Tok) → ((ts : List Tok) → ended s ts ≡ ts) → (c ≡ Space → parts s ≡ false) → class_of b ≡ c → IsReal t → byte_step c b s (lex bs) ≡ t ∷ us → AtFront s (b ∷ bs) t us
unfolding chain
begins s b bs Letter t us plain nsp e real q =
    let r = run-of bs in
    mark-begins s (b ∷ bs) r.rest t (Atom (b ∷ r.atom)) us (grows s) refl real (ap (λ (v : List ℕ). b ∷ v) r.is) (text-atom (b ∷ r.atom) (λ n. absurd cc) (byte-letter (is_atom_byte b) b e, r.fits)) (ap (λ (v : List Tok). or_stuck (grows s) v) (sym (ap (prepend b) r.reads)) ∙ q)
begins s b bs LeftMark t us plain nsp e real q = mark-begins s (b ∷ bs) bs t Left us (loose s) refl real (ap (λ (v : ℕ). v ∷ bs) (byte-left (is_atom_byte b) b e)) tt (sym (plain _) ∙ q)
begins s b bs RightMark t us plain nsp e real q = mark-begins s (b ∷ bs) bs t Right us (tight s) refl real (ap (λ (v : ℕ). v ∷ bs) (byte-right (is_atom_byte b) b e)) tt (sym (plain _) ∙ q)
begins s b bs SemiMark t us plain nsp e real q = mark-begins s (b ∷ bs) bs t Semi us (loose s) refl real (ap (λ (v : ℕ). v ∷ bs) (byte-semi (is_atom_byte b) b e)) tt (sym (plain _) ∙ q)
begins s b bs Newline t us plain nsp e real q = mark-begins s (b ∷ bs) bs t Eol us (tight s) refl real (ap (λ (v : ℕ). v ∷ bs) (byte-newline (is_atom_byte b) b e)) tt (sym (plain _) ∙ q)
begins s b bs Other t us plain nsp e real q = never-stuck t us real (sym (plain _) ∙ q)
begins s b bs Space t us plain nsp e real q = never-stuck t us real (ap (λ (f : Bool). or_stuck f (lex bs Spaced)) (sym (nsp refl)) ∙ sym (plain _) ∙ q)

-- the token at a place, with its space
pub record Follows (m : Before) (bytes : List ℕ) (t : Tok) (us : List Tok) : Type 0 where
  pub rest : List ℕ
  pub is : bytes ≡ gap m t ++ (token_bytes t ++ rest)
  pub reads : lex rest (At (before_next t)) ≡ us
  pub fits : IsToken t

gap-none : (t : Tok) → opens (At Later) t ≡ true → gap Later t ≡ []
gap-none Left h = absurd cc
gap-none Right h = refl
gap-none Semi h = absurd cc
gap-none (Atom a) h = absurd cc
gap-none Eol h = refl
gap-none Done h = refl
gap-none Stuck h = refl

gap-one : (t : Tok) → opens Spaced t ≡ true → gap Later t ≡ 32 ∷ []
gap-one Left h = refl
gap-one Right h = absurd cc
gap-one Semi h = refl
gap-one (Atom a) h = refl
gap-one Eol h = absurd cc
gap-one Done h = absurd cc
gap-one Stuck h = absurd cc

spaced-follows : (b : ℕ) (bs : List ℕ) (t : Tok) (us : List Tok) → class_of b ≡ Space → IsReal t → lex bs Spaced ≡ t ∷ us → Follows Later (b ∷ bs) t us
unfolding lex chain
spaced-follows b [] t us e real q = never-stuck t us real q
spaced-follows b (c ∷ bs) t us e real q =
    let g = begins Spaced c bs (class_of c) t us (λ ts. refl) (λ h. refl) refl real q in
    record { rest = g.rest; is = ap (λ (v : ℕ). v ∷ c ∷ bs) (byte-space (is_atom_byte b) b e) ∙ ap (λ (v : List ℕ). 32 ∷ v) g.is ∙ sym (ap (λ (v : List ℕ). v ++ (token_bytes t ++ g.rest)) (gap-one t g.may)); reads = g.reads; fits = g.fits }

later-follows : (b : ℕ) (bs : List ℕ) (c : Class) (t : Tok) (us : List Tok) → class_of b ≡ c → IsReal t → byte_step c b (At Later) (lex bs) ≡ t ∷ us → Follows Later (b ∷ bs) t us
later-follows b bs Space t us e real q = spaced-follows b bs t us e real q
later-follows b bs Letter t us e real q = never-stuck t us real q
later-follows b bs LeftMark t us e real q = never-stuck t us real q
later-follows b bs SemiMark t us e real q = never-stuck t us real q
later-follows b bs Other t us e real q = never-stuck t us real q
later-follows b bs RightMark t us e real q = let g = begins (At Later) b bs RightMark t us (λ ts. refl) (λ h. cc) e real q in record { rest = g.rest; is = g.is ∙ sym (ap (λ (v : List ℕ). v ++ (token_bytes t ++ g.rest)) (gap-none t g.may)); reads = g.reads; fits = g.fits }
later-follows b bs Newline t us e real q = let g = begins (At Later) b bs Newline t us (λ ts. refl) (λ h. cc) e real q in record { rest = g.rest; is = g.is ∙ sym (ap (λ (v : List ℕ). v ++ (token_bytes t ++ g.rest)) (gap-none t g.may)); reads = g.reads; fits = g.fits }

nothing-follows : (m : Before) (t : Tok) (us : List Tok) → IsReal t → lex [] (At m) ≡ t ∷ us → Follows m [] t us
unfolding lex
nothing-follows Start t us real q = let same : Done ≡ t = cc in absurd (subst IsReal (sym same) real)
nothing-follows Open t us real q = never-stuck t us real q
nothing-follows Later t us real q = never-stuck t us real q

gap-start : (t : Tok) → gap Start t ≡ []
gap-start Left = refl
gap-start Right = refl
gap-start Semi = refl
gap-start (Atom a) = refl
gap-start Eol = refl
gap-start Done = refl
gap-start Stuck = refl

gap-open : (t : Tok) → gap Open t ≡ []
gap-open Left = refl
gap-open Right = refl
gap-open Semi = refl
gap-open (Atom a) = refl
gap-open Eol = refl
gap-open Done = refl
gap-open Stuck = refl

pub follows : (m : Before) (bytes : List ℕ) (t : Tok) (us : List Tok) → IsReal t → lex bytes (At m) ≡ t ∷ us → Follows m bytes t us
unfolding lex
follows m [] t us real q = nothing-follows m t us real q
follows Later (b ∷ bs) t us real q = later-follows b bs (class_of b) t us refl real q
follows Start (b ∷ bs) t us real q = let g = begins (At Start) b bs (class_of b) t us (λ ts. refl) (λ h. refl) refl real q in record { rest = g.rest; is = g.is ∙ sym (ap (λ (v : List ℕ). v ++ (token_bytes t ++ g.rest)) (gap-start t)); reads = g.reads; fits = g.fits }
follows Open (b ∷ bs) t us real q = let g = begins (At Open) b bs (class_of b) t us (λ ts. refl) (λ h. refl) refl real q in record { rest = g.rest; is = g.is ∙ sym (ap (λ (v : List ℕ). v ++ (token_bytes t ++ g.rest)) (gap-open t)); reads = g.reads; fits = g.fits }

abbrev pub AreReal : List Tok → Type 0
AreReal [] = Unit {0}
AreReal (t ∷ ts) = IsReal t × AreReal ts

-- what is read as whole lines is spelled so
pub record Spelled (m : Before) (bytes : List ℕ) (front rest : List Tok) : Type 0 where
  pub more : List ℕ
  pub is : bytes ≡ spell m front ++ more
  pub reads : lex more (At Start) ≡ rest

pub spell-lex : (m : Before) (bytes : List ℕ) (t : Tok) (ts rest : List Tok) → AreReal (t ∷ ts) → EndsIn t ts → lex bytes (At m) ≡ (t ∷ ts) ++ rest → Spelled m bytes (t ∷ ts) rest
spell-lex m bytes t [] rest real e q =
    let f = follows m bytes t rest real.0 q in
    record { more = f.rest; is = f.is ∙ sym (append_assoc (gap m t) (token_bytes t) f.rest) ∙ ap (λ (v : List ℕ). v ++ f.rest) (sym (append-nil (gap m t ++ token_bytes t))); reads = subst (λ (v : Tok). lex f.rest (At (before_next v)) ≡ rest) e f.reads }
spell-lex m bytes t (u ∷ us) rest real e q =
    let f = follows m bytes t ((u ∷ us) ++ rest) real.0 q in
    let s = spell-lex (before_next t) f.rest u us rest real.1 e f.reads in
    record { more = s.more; is = f.is ∙ sym (append_assoc (gap m t) (token_bytes t) f.rest) ∙ ap (λ (v : List ℕ). (gap m t ++ token_bytes t) ++ v) s.is ∙ sym (append_assoc (gap m t ++ token_bytes t) (spell (before_next t) (u ∷ us)) s.more); reads = s.reads }

-- ---- the token at a place, as it is defined

-- what may stand there is read there
pub stands-lex : (m : Before) (bytes : List ℕ) (t : Tok) (rest : List ℕ) → (t ≡ Done → ⊥) → Stands m bytes t rest → lex bytes (At m) ≡ t ∷ lex rest (At (before_next t))
stands-lex m bytes Left rest n s = ap (λ (b : List ℕ). lex b (At m)) (s.spelled ∙ append_assoc (gap m Left) (token_bytes Left) rest) ∙ token-at m Left rest tt tt
stands-lex m bytes Right rest n s = ap (λ (b : List ℕ). lex b (At m)) (s.spelled ∙ append_assoc (gap m Right) (token_bytes Right) rest) ∙ token-at m Right rest tt tt
stands-lex m bytes Semi rest n s = ap (λ (b : List ℕ). lex b (At m)) (s.spelled ∙ append_assoc (gap m Semi) (token_bytes Semi) rest) ∙ token-at m Semi rest tt tt
stands-lex m bytes Eol rest n s = ap (λ (b : List ℕ). lex b (At m)) (s.spelled ∙ append_assoc (gap m Eol) (token_bytes Eol) rest) ∙ token-at m Eol rest tt tt
stands-lex m bytes (Atom a) rest n s = ap (λ (b : List ℕ). lex b (At m)) (s.spelled ∙ append_assoc (gap m (Atom a)) a rest) ∙ token-at m (Atom a) rest s.may.0 (cut-here rest s.may.1)
stands-lex m bytes Done rest n s = absurd (n refl)
stands-lex m bytes Stuck rest n s = absurd s.may

pub done-lex : (m : Before) (bytes rest : List ℕ) → Stands m bytes Done rest → lex bytes (At m) ≡ Done ∷ []
unfolding lex
done-lex m bytes rest s =
    ap (λ (b : List ℕ). lex b (At m)) (s.spelled ∙ done-text m rest ∙ s.may.1) ∙ ap (λ (k : Before). lex [] (At k)) s.may.0
  where
    done-text : (m : Before) (rest : List ℕ) → token_text m Done ++ rest ≡ rest
    done-text Start rest = refl
    done-text Open rest = refl
    done-text Later rest = refl

-- where nothing is read, no token stands
pub none-stands : (m : Before) (bytes : List ℕ) → lex bytes (At m) ≡ Stuck ∷ [] → (t : Tok) (rest : List ℕ) → Stands m bytes t rest → ⊥
none-stands m bytes e Done rest s = never-done (sym (done-lex m bytes rest s) ∙ e)
  where
    never-done : Done ∷ [] ≡ Stuck ∷ [] → ⊥
    never-done k = cc
none-stands m bytes e Left rest s = let k = sym (stands-lex m bytes Left rest (λ q. cc) s) ∙ e in cc
none-stands m bytes e Right rest s = let k = sym (stands-lex m bytes Right rest (λ q. cc) s) ∙ e in cc
none-stands m bytes e Semi rest s = let k = sym (stands-lex m bytes Semi rest (λ q. cc) s) ∙ e in cc
none-stands m bytes e (Atom a) rest s = let k = sym (stands-lex m bytes (Atom a) rest (λ q. cc) s) ∙ e in cc
none-stands m bytes e Eol rest s = let k = sym (stands-lex m bytes Eol rest (λ q. cc) s) ∙ e in cc
none-stands m bytes e Stuck rest s = s.may

-- ---- what the code found

real-tok : (t : Token) → (tok t ≡ Done → ⊥) → IsReal (tok t)
real-tok token.Left h = tt
real-tok token.Right h = tt
real-tok token.Semi h = tt
real-tok (token.Atom a) h = tt
real-tok token.Eol h = tt
real-tok token.Done h = h refl

may-stand : (m : Before) (t : Tok) (rest : List ℕ) → IsToken t → IsWhole t rest → MayStand m t rest
may-stand m Left rest h w = tt
may-stand m Right rest h w = tt
may-stand m Semi rest h w = tt
may-stand m (Atom a) rest h w = (h, w)
may-stand m Eol rest h w = tt
may-stand m Done rest h w = absurd h
may-stand m Stuck rest h w = absurd h

gap-between : (m : Before) (spaced : Bool) (t : Tok) → (spaced ≡ true → m ≡ Later) → opens (state_of m spaced) t ≡ true → space_text spaced ≡ gap m t
gap-between m true t h o = sym (gap-one t o) ∙ ap (λ (k : Before). gap k t) (sym (h refl))
gap-between Start false t h o = sym (gap-start t)
gap-between Open false t h o = sym (gap-open t)
gap-between Later false t h o = sym (gap-none t o)

found-stands : (m : Before) (spaced : Bool) (bytes behind : List ℕ) (t : Token) (rest : List ℕ) (us : List Tok) → (spaced ≡ true → m ≡ Later) → IsSettled behind (state_of m spaced) → length rest < length behind
    → bytes ≡ space_text spaced ++ behind → behind ≡ token_bytes (tok t) ++ rest → (lex behind (state_of m spaced) ≡ tok t ∷ us) × (tok t ≡ Done → ⊥) → IsWhole (tok t) rest → Stands m bytes (tok t) rest
unfolding lex
found-stands m spaced bytes [] t rest us later settled less is split q whole = absurd (omega (arith, less))
found-stands m spaced bytes (b ∷ bs) t rest us later settled less is split q whole =
    let g = begins (state_of m spaced) b bs (class_of b) (tok t) us (ended-between m spaced) settled refl (real-tok t q.1) q.0 in
    record {
      spelled = is ∙ (λ i. gap-between m spaced (tok t) later g.may i ++ split i) ∙ sym (append_assoc (gap m (tok t)) (token_bytes (tok t)) rest);
      may = may-stand m (tok t) rest g.fits whole;
    }

pub found-passes : (m : Before) (spaced : Bool) (bytes behind : List ℕ) (t : Token) (rest : List ℕ) (us : List Tok) (line count : ℕ) (next : Before) (p : Position) → record { before = m; rest = bytes; line = line } ≡ p
    → (spaced ≡ true → m ≡ Later) → IsSettled behind (state_of m spaced) → length rest < length behind
    → bytes ≡ space_text spaced ++ behind → behind ≡ token_bytes (tok t) ++ rest → (lex behind (state_of m spaced) ≡ tok t ∷ us) × (tok t ≡ Done → ⊥) → IsWhole (tok t) rest
    → next ≡ before_next (tok t) → count ≡ eol (tok t) → Passes (tok t) p (record { before = next; rest = rest; line = line + count })
found-passes m spaced bytes behind t rest us line count next p e later settled less is split q whole n c =
    subst (λ (q : Position). Passes (tok t) q (record { before = next; rest = rest; line = line + count })) e (record {
      stands = found-stands m spaced bytes behind t rest us later settled less is split q whole;
      before = n;
      line = ap (λ (k : ℕ). line + k) c;
    })

pub none-at : (m : Before) (bytes : List ℕ) (line : ℕ) (p : Position) → record { before = m; rest = bytes; line = line } ≡ p → lex bytes (At m) ≡ Stuck ∷ [] → (t : Tok) (rest : List ℕ) → Stands p.before p.rest t rest → ⊥
none-at m bytes line p e s = subst (λ (q : Position). (t : Tok) (rest : List ℕ) → Stands q.before q.rest t rest → ⊥) e (none-stands m bytes s)

pub done-at : (m : Before) (bytes : List ℕ) (line : ℕ) (p : Position) → record { before = m; rest = bytes; line = line } ≡ p → m ≡ Start → length bytes < 1 → tokens_at p ≡ Done ∷ []
done-at m bytes line p e s h = subst (λ (q : Position). tokens_at q ≡ Done ∷ []) e (nothing-left bytes (At m) h ∙ ap (λ (k : Before). at_end (At k)) s)

-- a mark at the front
module _ {S : Type 0} (now : S → List ℕ) (t : Token) (x : S) where
  pub mark-parts : (bytes : List ℕ) (r : Option (Token × S)) → bytes ≡ token_bytes (tok t) ++ now x → IfSome r (λ p. p ≡ (t, x)) → IfSome r (λ p. bytes ≡ token_bytes (tok p.0) ++ now p.1)
  mark-parts bytes None e h = tt
  mark-parts bytes (Some p) e h = subst (λ (q : Token × S). bytes ≡ token_bytes (tok q.0) ++ now q.1) (sym h) e

  pub mark-whole : (r : Option (Token × S)) → IsWhole (tok t) (now x) → IfSome r (λ p. p ≡ (t, x)) → IfSome r (λ p. IsWhole (tok p.0) (now p.1))
  mark-whole None e h = tt
  mark-whole (Some p) e h = subst (λ (q : Token × S). IsWhole (tok q.0) (now q.1)) (sym h) e

abbrev behind-first : List ℕ → List ℕ
behind-first bytes = take (length bytes - 1) (drop 1 bytes)

first-split : (b c : ℕ) (bs : List ℕ) → b ≡ c → b ∷ bs ≡ c ∷ behind-first (b ∷ bs)
first-split b c bs e = (λ i. e i ∷ sym (take_all (length (b ∷ bs) - 1) bs (omega arith)) i)

pub left-split : (bytes : List ℕ) → 1 ≤ length bytes → LeftMark ≡ class_of (get_or bytes 0 0) → bytes ≡ 40 ∷ behind-first bytes
unfolding chain
left-split [] h e = absurd (omega arith)
left-split (b ∷ bs) h e = first-split b 40 bs (byte-left (is_atom_byte b) b (sym e))

pub right-split : (bytes : List ℕ) → 1 ≤ length bytes → RightMark ≡ class_of (get_or bytes 0 0) → bytes ≡ 41 ∷ behind-first bytes
unfolding chain
right-split [] h e = absurd (omega arith)
right-split (b ∷ bs) h e = first-split b 41 bs (byte-right (is_atom_byte b) b (sym e))

pub semi-split : (bytes : List ℕ) → 1 ≤ length bytes → SemiMark ≡ class_of (get_or bytes 0 0) → bytes ≡ 59 ∷ behind-first bytes
unfolding chain
semi-split [] h e = absurd (omega arith)
semi-split (b ∷ bs) h e = first-split b 59 bs (byte-semi (is_atom_byte b) b (sym e))

pub newline-split : (bytes : List ℕ) → 1 ≤ length bytes → Newline ≡ class_of (get_or bytes 0 0) → bytes ≡ 10 ∷ behind-first bytes
unfolding chain
newline-split [] h e = absurd (omega arith)
newline-split (b ∷ bs) h e = first-split b 10 bs (byte-newline (is_atom_byte b) b (sym e))

-- the atom's end, as it is counted
pub cut-end : (bytes : List ℕ) (n : ℕ) → (n < length bytes → is_atom_byte (get_or bytes n 0) ≡ false) → HasNoAtomByte (drop n bytes)
cut-end [] zero h = tt
cut-end [] (suc n) h = tt
cut-end (b ∷ bs) zero h = h (omega arith)
cut-end (b ∷ bs) (suc n) h = cut-end bs n (λ lt. h (omega arith))

-- ---- the atom that is read at a line's beginning stands there

atom-run : (a x : List ℕ) → IsAtomText a → lex (a ++ x) Within ≡ Atom (a ++ (run-of x).atom) ∷ lex (run-of x).rest (At Later)
atom-run [] x h = (run-of x).reads
atom-run (b ∷ a) x h = lex-cons b (a ++ x) Within Letter (sym (class-letter b h.0)) ∙ ap (prepend b) (atom-run a x h.1)

no-more : (x : List ℕ) → (run-of x).atom ≡ [] → HasNoAtomByte x
unfolding run-of run-of2
no-more [] e = tt
no-more (b ∷ bs) e = of (is_atom_byte b) refl e
  where
    of : (p : Bool) (q : is_atom_byte b ≡ p) → (run-of2 b bs p q (run-of bs)).atom ≡ [] → is_atom_byte b ≡ false
    of true q e = absurd cc
    of false q e = q

none-behind : (a r : List ℕ) → a ++ r ≡ a → r ≡ []
none-behind [] r e = e
none-behind (b ∷ a) r e = none-behind a r (cc)

first-atom : (a b : List ℕ) (us vs : List Tok) → Atom a ∷ us ≡ Atom b ∷ vs → a ≡ b
first-atom a b us vs e = cc

whole-atom : (a x : List ℕ) (us : List Tok) → IsAtom a → lex (a ++ x) (At Start) ≡ Atom a ∷ us → HasNoAtomByte x
whole-atom [] x us h e = absurd (h.0 refl)
whole-atom (b ∷ a) x us h e =
    let fits = atom-text (b ∷ a) h in
    let here : lex ((b ∷ a) ++ x) (At Start) ≡ Atom (b ∷ (a ++ (run-of x).atom)) ∷ lex (run-of x).rest (At Later) = lex-cons b (a ++ x) (At Start) Letter (sym (class-letter b fits.0)) ∙ ap (prepend b) (atom-run a x fits.1) in
    no-more x (none-behind (b ∷ a) (run-of x).atom (first-atom _ _ _ _ (sym here ∙ e)))

pub atom-stands : (bytes a : List ℕ) (us : List Tok) → lex bytes (At Start) ≡ Atom a ∷ us → (rest : List ℕ) × Stands Start bytes (Atom a) rest
atom-stands bytes a us e =
    let f = follows Start bytes (Atom a) us tt e in
    (f.rest, record { spelled = f.is; may = (f.fits, whole-atom a f.rest us f.fits (ap (λ (v : List ℕ). lex v (At Start)) (sym f.is) ∙ e)) })

pub newline-is : (b : ℕ) → class_of b ≡ Newline → b ≡ 10
unfolding chain
newline-is b e = byte-newline (is_atom_byte b) b e
