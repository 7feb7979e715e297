-- Tokens, numbers and bytes have one spelling.
use Rattle.std.proofs.Common.{◌≡◌, ℕ, ◌≤◌, false, List, [], ◌∷◌, ◌++◌, length, drop, Option, Some, None, Result, Ok, refl, sym, ap, subst, ◌∙◌, arith}
use Rattle.std.proofs.lemmas.List.{append-nil, drop_at}
use Rattle.std.specs.Fmt.{decimal, digits}
use Rattle.hex.specs.Hex.{encode_lower, decode_of}
use Rattle.hex.specs.declared.error.FromHexError.{FromHexError}
use Rattle.hex.proofs.HexLemmas.{decode_of-encode_lower}
use Rattle.mc_text.specs.declared.token.Before.{Before}
use Rattle.mc_text.specs.declared.token.Before.TheVariants.{Start}
use Rattle.mc_text.specs.Number.{hex, IsNumber, AreSomeBytes, Spelled, number_of}
use Rattle.mc_text.specs.Tokens.{Tok, Left, Right, Semi, Atom, Eol, Done, Stuck, token_text, before_next, spell, IsToken, Stands}
use Rattle.mc_text.specs.Scanning.{At, lex}
use Rattle.mc_text.proofs.Numbers.{number_of-again}
use Rattle.mc_text.proofs.HexPairs.{is_bytes}
use Rattle.mc_text.proofs.Lines.{AreTokens, IsLines, lex-spell, stands-lex, done-lex}

-- ---- tokens

-- what is read where the token stands
token-read : (m : Before) (bytes : List ℕ) (t : Tok) (rest : List ℕ) → Stands m bytes t rest → (us : List Tok) × (lex bytes (At m) ≡ t ∷ us)
token-read m bytes Left rest s = (lex rest (At (before_next Left)), stands-lex m bytes Left rest (λ e. cc) s)
token-read m bytes Right rest s = (lex rest (At (before_next Right)), stands-lex m bytes Right rest (λ e. cc) s)
token-read m bytes Semi rest s = (lex rest (At (before_next Semi)), stands-lex m bytes Semi rest (λ e. cc) s)
token-read m bytes (Atom a) rest s = (lex rest (At (before_next (Atom a))), stands-lex m bytes (Atom a) rest (λ e. cc) s)
token-read m bytes Eol rest s = (lex rest (At (before_next Eol)), stands-lex m bytes Eol rest (λ e. cc) s)
token-read m bytes Done rest s = ([], done-lex m bytes rest s)
token-read m bytes Stuck rest s = absurd s.may

same-first : (t u : Tok) (ts us : List Tok) → t ∷ ts ≡ u ∷ us → t ≡ u
same-first t u ts us e = cc

same-others : (t u : Tok) (ts us : List Tok) → t ∷ ts ≡ u ∷ us → ts ≡ us
same-others t u ts us e = cc

same-rest : (front rest more : List ℕ) → front ++ rest ≡ front ++ more → rest ≡ more
same-rest front rest more e = sym (drop_at front rest (length front) refl) ∙ ap (drop (length front)) e ∙ drop_at front more (length front) refl

-- at a place stands at most one token
pub stands-once : (m : Before) (bytes : List ℕ) (t u : Tok) (rest more : List ℕ) → Stands m bytes t rest → Stands m bytes u more → (t ≡ u) × (rest ≡ more)
stands-once m bytes t u rest more s v =
    let r = token-read m bytes t rest s in
    let q = token-read m bytes u more v in
    let same = same-first t u r.0 q.0 (sym r.1 ∙ q.1) in
    (same, same-rest (token_text m t) rest more (sym s.spelled ∙ v.spelled ∙ ap (λ (w : Tok). token_text m w ++ more) (sym same)))

-- whole lines are read as they are spelled
pub lines-read : (ts : List Tok) → AreTokens ts → IsLines ts → lex (spell Start ts) (At Start) ≡ ts ++ Done ∷ []
unfolding lex
lines-read [] h l = refl
lines-read (t ∷ ts) h l = ap (λ (v : List ℕ). lex v (At Start)) (sym (append-nil (spell Start (t ∷ ts)))) ∙ lex-spell Start t ts [] h l

without-end : (ts us : List Tok) → AreTokens ts → AreTokens us → ts ++ Done ∷ [] ≡ us ++ Done ∷ [] → ts ≡ us
without-end [] [] h k e = refl
without-end [] (u ∷ us) h k e = absurd (subst IsToken (sym (same-first Done u [] (us ++ Done ∷ []) e)) k.0)
without-end (t ∷ ts) [] h k e = absurd (subst IsToken (same-first t Done (ts ++ Done ∷ []) [] e) h.0)
without-end (t ∷ ts) (u ∷ us) h k e =
    (λ i. same-first t u (ts ++ Done ∷ []) (us ++ Done ∷ []) e i ∷ without-end ts us h.1 k.1 (same-others t u (ts ++ Done ∷ []) (us ++ Done ∷ []) e) i)

-- a text of whole lines is the spelling of one list of tokens
pub lines-once : (ts us : List Tok) → AreTokens ts → AreTokens us → IsLines ts → IsLines us → spell Start ts ≡ spell Start us → ts ≡ us
lines-once ts us h k l n e = without-end ts us h k (sym (lines-read ts h l) ∙ ap (λ (v : List ℕ). lex v (At Start)) e ∙ lines-read us k n)

-- ---- numbers and bytes

abbrev some : {X : Type 0} → X → Option X
some x = Some x

same-some : {X : Type 0} (x y : X) → some x ≡ some y → x ≡ y
same-some x y e = cc

digits-once : (base m n : ℕ) → 2 ≤ base → base ≤ 16 → IsNumber m → IsNumber n → digits base false m ≡ digits base false n → m ≡ n
digits-once base m n low high h k e = same-some m n (sym (number_of-again base m low high h) ∙ ap (number_of base) e ∙ number_of-again base n low high k)

pub decimal-once : (m n : ℕ) → IsNumber m → IsNumber n → decimal m ≡ decimal n → m ≡ n
decimal-once m n h k e = digits-once 10 m n (omega arith) (omega arith) h k e

pub hex-once : (m n : ℕ) → IsNumber m → IsNumber n → hex m ≡ hex n → m ≡ n
hex-once m n h k e = digits-once 16 m n (omega arith) (omega arith) h k (ap (drop 2) e)

abbrev ok : List ℕ → Result (List ℕ) FromHexError
ok bs = Ok bs

pub bytes-once : (bs cs : List ℕ) → AreSomeBytes bs → AreSomeBytes cs → encode_lower bs ≡ encode_lower cs → bs ≡ cs
bytes-once bs cs h k e = ok-same bs cs (sym (decode_of-encode_lower bs (is_bytes bs h.1)) ∙ ap decode_of e ∙ decode_of-encode_lower cs (is_bytes cs k.1))
  where
    ok-same : (bs cs : List ℕ) → ok bs ≡ ok cs → bs ≡ cs
    ok-same bs cs e = cc

-- what a text is told to spell is determined
pub spelled-once : {X : Type 0} (Fits : X → Type 0) (spelling : X → List ℕ) → ((x y : X) → Fits x → Fits y → spelling x ≡ spelling y → x ≡ y)
    → (text : List ℕ) (o q : Option X) → Spelled Fits spelling text o → Spelled Fits spelling text q → o ≡ q
spelled-once Fits spelling once text None None h k = refl
spelled-once Fits spelling once text None (Some y) h k = absurd (h y k.0 k.1)
spelled-once Fits spelling once text (Some x) None h k = absurd (k x h.0 h.1)
spelled-once Fits spelling once text (Some x) (Some y) h k = ap some (once x y h.0 k.0 (sym h.1 ∙ k.1))
