-- Words that give a register's value or bytes of memory are read as they are spelled.
use Rattle.std.proofs.Common.{◌≡◌, ◌≢◌, ℕ, ◌+◌, ◌^◌, ◌<◌, ◌≤◌, Bool, false, ltb, ◌||◌, eqb, zero, suc, take, drop, ◌-◌, Bor, MatchOption, List, get_or, [], ◌∷◌, ◌++◌, length, codes, Option, Some, None, refl, sym, ap, subst, ◌∙◌, append_assoc, arith}
use Rattle.std.specs.List.{before_first, position_or_len}
use Rattle.std.specs.Fmt.{decimal, digits}
use Rattle.hex.specs.Hex.{encode_lower}
use Rattle.std.proofs.lemmas.Bool.{eqb-true, eqb-false}
use Rattle.std.proofs.lemmas.Bool.Decides.{nat_tests}
use Rattle.std.proofs.lemmas.List.{length-append, take_all}
use Rattle.std.proofs.lemmas.List.Sums.{fails_before_first, passes_at_first, split_at_first}
use Rattle.std.proofs.lemmas.Str.Pattern.{IsSplitOnceResult, split_once_first}
use Rattle.rv_words.specs.declared.range.Range.{Range}
use Rattle.mc_text.specs.Number.{hex, IsNumber, AreSomeBytes, Spelled}
use Rattle.mc_text.proofs.Numbers.{Passes, Pass, digits-pass}
use Rattle.mc_text.proofs.OneSpelling.{decimal-once, hex-once, bytes-once}
use Rattle.mcdec_answers.specs.declared.command.Unread.{Unread}
use Rattle.mcdec_answers.specs.declared.command.Unread.TheVariants as unread
use Rattle.mcdec_answers.specs.Command.{Arg, Value, Bytes, Given, IsGiven, IsMemory, given_word, memory_name, bytes_word, arg_word}
use Rattle.mcdec_answers.specs.declared.command.Memory.{Memory}
use Rattle.mcdec_answers.specs.declared.command.Memory.TheVariants.{First, Second}
use Rattle.mcdec_answers.specs.CommandReading.{IsArg, Lacks, Unless}

-- ---- the first of a byte

lacks-append : (c : ℕ) (a b : List ℕ) → Lacks c a → Lacks c b → Lacks c (a ++ b)
lacks-append c [] b h k = k
lacks-append c (x ∷ a) b h k = (h.0, lacks-append c a b h.1 k)

-- a text is parted at it in one way
pub first-once : (c : ℕ) (a b x y : List ℕ) → Lacks c a → Lacks c b → a ++ c ∷ x ≡ b ++ c ∷ y → (a ≡ b) × (x ≡ y)
first-once c [] [] x y h k e = (refl, cc)
first-once c [] (q ∷ b) x y h k e = absurd (k.0 (cc))
first-once c (p ∷ a) [] x y h k e = absurd (h.0 (cc))
first-once c (p ∷ a) (q ∷ b) x y h k e =
    let first : p ≡ q = cc in
    let rest : a ++ c ∷ x ≡ b ++ c ∷ y = cc in
    let r = first-once c a b x y h.1 k.1 rest in
    ((λ i. first i ∷ r.0 i), r.1)

lacks-front : (c n : ℕ) (bs : List ℕ) → n ≤ length bs → ((k : ℕ) → k < n → get_or bs k 0 ≢ c) → Lacks c (take n bs)
lacks-front c zero bs le h = tt
lacks-front c (suc n) [] le h = absurd (omega arith)
lacks-front c (suc n) (b ∷ bs) le h = (h 0 (omega arith), lacks-front c n bs (omega arith) (λ k lt. h (suc k) (omega arith)))

behind-front : (c : ℕ) (front back : List ℕ) → get_or (front ++ c ∷ back) (length front) 0 ≡ c
behind-front c [] back = refl
behind-front c (b ∷ front) back = behind-front c front back

-- what `split_once` gives
pub at-first : (c : ℕ) (bs : List ℕ) (r : Option (Bor (List ℕ) × Bor (List ℕ))) → IsSplitOnceResult c bs r → c < 128
    → MatchOption r ((front back : List ℕ) → bs ≢ front ++ c ∷ back) (λ x. (bs ≡ x.0.now ++ c ∷ x.1.now) × Lacks c x.0.now)
at-first c bs None h low = λ front back e.
    let none = split_once_first c bs None h low in
    let here : get_or bs (length front) 0 ≡ c = ap (λ (w : List ℕ). get_or w (length front) 0) e ∙ behind-front c front back in
    let long : length bs ≡ length front + suc (length back) = ap length e ∙ length-append front (c ∷ back) in
    let unlike = fails_before_first (λ b. eqb b c) bs (length front) 0 (omega (arith, none, long)) in
    eqb-false (get_or bs (length front) 0) c unlike here
at-first c bs (Some x) h low =
    let some = split_once_first c bs (Some x) h low in
    let here : get_or bs (position_or_len (λ b. eqb b c) bs) 0 ≡ c = eqb-true _ c (passes_at_first (λ b. eqb b c) bs 0 some.0) in
    let front : Lacks c (before_first (λ b. eqb b c) bs) =
    lacks-front c (position_or_len (λ b. eqb b c) bs) bs (omega (arith, some.0)) (λ k lt. eqb-false (get_or bs k 0) c (fails_before_first (λ b. eqb b c) bs k 0 lt)) in
    (split_at_first (λ b. eqb b c) bs 0 some.0 ∙ (λ i. sym some.1 i ++ here i ∷ sym some.2 i), subst (Lacks c) (sym some.1) front)

-- a digit is neither = nor :
is_other : ℕ → Bool
is_other b = ltb b 58 || ltb 61 b

glyph-other : Passes is_other 16
unfolding is_other
glyph-other d lt = grind (arith, nat_tests)

glyph-other-decimal : Passes is_other 10
unfolding is_other
glyph-other-decimal d lt = grind (arith, nat_tests)

lacks : (c : ℕ) → 58 ≤ c → c ≤ 61 → (ds : List ℕ) → Pass is_other ds → Lacks c ds
unfolding is_other
lacks c low high [] h = tt
lacks c low high (d ∷ ds) h = (λ e. grind (arith, nat_tests, h.0, e, low, high), lacks c low high ds h.1)

decimal-lacks : (c n : ℕ) → 58 ≤ c → c ≤ 61 → Lacks c (decimal n)
decimal-lacks c n low high = lacks c low high (decimal n) (digits-pass is_other 10 n (omega arith) glyph-other-decimal)

hex-lacks : (c n : ℕ) → 58 ≤ c → c ≤ 61 → Lacks c (hex n)
hex-lacks c n low high = (λ e. omega arith, (λ e. omega arith, lacks c low high (digits 16 false n) (digits-pass is_other 16 n (omega arith) glyph-other)))

-- ---- the parts of the words

-- xN
abbrev pub register_name : ℕ → List ℕ
register_name n = codes "x" ++ decimal n

-- A:H
abbrev pub memory_value : Range → List ℕ
memory_value r = hex r.at ++ codes ":" ++ encode_lower r.bytes

given-parts : (g : Given) → given_word g ≡ register_name g.register ++ 61 ∷ hex g.value
given-parts g = append_assoc (register_name g.register) (codes "=") (hex g.value)

value-parts : (r : Range) → memory_value r ≡ hex r.at ++ 58 ∷ encode_lower r.bytes
value-parts r = append_assoc (hex r.at) (codes ":") (encode_lower r.bytes)

name-lacks : (n : ℕ) → Lacks 61 (register_name n)
name-lacks n = (λ e. omega arith, decimal-lacks 61 n (omega arith) (omega arith))

memory-lacks : (m : Memory) → Lacks 61 (memory_name m)
memory-lacks First = (λ e. omega arith, (λ e. omega arith, (λ e. omega arith, tt)))
memory-lacks Second = (λ e. omega arith, (λ e. omega arith, (λ e. omega arith, tt)))

-- ---- a register's value

first-byte : {v w : List ℕ} → v ≡ w → get_or v 0 0 ≡ get_or w 0 0
first-byte e = ap (λ (w : List ℕ). get_or w 0 0) e

not-memory : (n : ℕ) (m : Memory) → register_name n ≡ memory_name m → ⊥
not-memory n First e = let first : ◌≡◌ {A = ℕ} 120 109 = first-byte e in omega arith
not-memory n Second e = let first : ◌≡◌ {A = ℕ} 120 115 = first-byte e in omega arith

memory-once : (m q : Memory) → memory_name m ≡ memory_name q → m ≡ q
memory-once First First e = refl
memory-once First Second e = let first : ◌≡◌ {A = ℕ} 109 115 = first-byte e in absurd (omega arith)
memory-once Second First e = let first : ◌≡◌ {A = ℕ} 115 109 = first-byte e in absurd (omega arith)
memory-once Second Second e = refl

abbrev NoGiven : List ℕ → List ℕ → Type 0
NoGiven name value = (g : Given) → IsGiven g → name ≡ register_name g.register → value ≢ hex g.value

-- a number behind x that is no register's
pub other-register : (name value : List ℕ) (n : ℕ) → Spelled IsNumber decimal (take (length name - 1) (drop 1 name)) (Some n) → (1 ≤ n → n ≤ 31 → ⊥) → NoGiven name value
other-register name value n spelled none g is e =
    let digits-here : take (length name - 1) (drop 1 name) ≡ decimal g.register =
    ap (λ (w : List ℕ). take (length w - 1) (drop 1 w)) e ∙ take_all (suc (length (decimal g.register)) - 1) (decimal g.register) (omega arith) in
    let equal : n ≡ g.register = decimal-once n g.register spelled.0 (omega (arith, is.1)) (sym spelled.1 ∙ digits-here) in
    absurd (none (omega (arith, is.0, equal)) (omega (arith, is.1, equal)))

-- ---- bytes of memory

abbrev NoMemoryValue : List ℕ → Type 0
NoMemoryValue value = (r : Range) → IsMemory r → value ≢ memory_value r

address-fits : (r : Range) → IsMemory r → IsNumber r.at
address-fits r is = omega (arith, is.0, is.1)

some-bytes : (bytes : List ℕ) → 0 < length bytes → bytes ≢ []
some-bytes bytes h e = let n : length bytes ≡ 0 = ap length e in omega arith

bytes-fit : (r : Range) → IsMemory r → AreSomeBytes r.bytes
bytes-fit r is = (some-bytes r.bytes is.0, is.2)

-- a value that has no :
pub no-colon : (value : List ℕ) → ((front back : List ℕ) → value ≢ front ++ 58 ∷ back) → NoMemoryValue value
no-colon value none r is e = none (hex r.at) (encode_lower r.bytes) (e ∙ value-parts r)

module _ (value front back : List ℕ) (parted : (value ≡ front ++ 58 ∷ back) × Lacks 58 front) where
  parts-are : (r : Range) → value ≡ memory_value r → (front ≡ hex r.at) × (back ≡ encode_lower r.bytes)
  parts-are r e = first-once 58 front (hex r.at) back (encode_lower r.bytes) parted.1 (hex-lacks 58 r.at (omega arith) (omega arith)) (sym parted.0 ∙ e ∙ value-parts r)

  pub no-address : Spelled IsNumber hex front None → NoMemoryValue value
  no-address none r is e = none r.at (address-fits r is) (parts-are r e).0

  pub no-digits : Spelled AreSomeBytes encode_lower back None → NoMemoryValue value
  no-digits none r is e = none r.bytes (bytes-fit r is) (parts-are r e).1

  module _ (at : ℕ) (bytes : List ℕ) (address : Spelled IsNumber hex front (Some at)) (told : Spelled AreSomeBytes encode_lower back (Some bytes)) where
    pub past-the-end : (at + length bytes ≤ 2 ^ 64 → ⊥) → NoMemoryValue value
    past-the-end far r is e =
        let p = parts-are r e in
        let a : at ≡ r.at = hex-once at r.at address.0 (address-fits r is) (sym address.1 ∙ p.0) in
        let b : bytes ≡ r.bytes = bytes-once bytes r.bytes told.0 (bytes-fit r is) (sym told.1 ∙ p.1) in
        far (omega (arith, a, ap length b, is.1))

    pub memory-read : at + length bytes ≤ 2 ^ 64 → IsMemory (record { at = at; bytes = bytes }) × (value ≡ memory_value (record { at = at; bytes = bytes }))
    memory-read fits = (
      (some-length bytes told.0.0, fits, told.0.1),
      parted.0 ∙ (λ i. address.1 i ++ 58 ∷ told.1 i) ∙ sym (value-parts (record { at = at; bytes = bytes })),
    )
      where
        some-length : (bs : List ℕ) → bs ≢ [] → 0 < length bs
        some-length [] h = absurd (h refl)
        some-length (b ∷ bs) h = omega arith

-- ---- words of each kind

-- a word without =
pub no-mark : (word : List ℕ) → ((front back : List ℕ) → word ≢ front ++ 61 ∷ back) → (a : Arg) → IsArg a → word ≢ arg_word a
no-mark word none (Value g) is e = none (register_name g.register) (hex g.value) (e ∙ given-parts g)
no-mark word none (Bytes m r) is e = none (memory_name m) (memory_value r) e

module _ (word name value : List ℕ) (parted : (word ≡ name ++ 61 ∷ value) × Lacks 61 name) where
  given-are : (g : Given) → word ≡ given_word g → (name ≡ register_name g.register) × (value ≡ hex g.value)
  given-are g e = first-once 61 name (register_name g.register) value (hex g.value) parted.1 (name-lacks g.register) (sym parted.0 ∙ e ∙ given-parts g)

  bytes-are : (m : Memory) (r : Range) → word ≡ bytes_word m r → (name ≡ memory_name m) × (value ≡ memory_value r)
  bytes-are m r e = first-once 61 name (memory_name m) value (memory_value r) parted.1 (memory-lacks m) (sym parted.0 ∙ e)

  no-argument : (m : Memory) → name ≡ memory_name m → NoMemoryValue value → (a : Arg) → IsArg a → word ≢ arg_word a
  no-argument m named none (Value g) is e = not-memory g.register m (sym (given-are g e).0 ∙ named)
  no-argument m named none (Bytes q r) is e = none r is (bytes-are q r e).1

  pub no-memory : (m : Memory) → name ≡ memory_name m → (e : Unread) → Unless (NoMemoryValue value) e → Unless ((a : Arg) → IsArg a → word ≢ arg_word a) e
  no-memory m named unread.NotACommand none = no-argument m named none
  no-memory m named unread.NoMemory none = tt

  pub no-given : ((m : Memory) → name ≢ memory_name m) → NoGiven name value → (a : Arg) → IsArg a → word ≢ arg_word a
  no-given other none (Value g) is e = let p = given-are g e in none g is p.0 p.1
  no-given other none (Bytes m r) is e = other m (bytes-are m r e).0

  pub bytes-word : (m : Memory) → name ≡ memory_name m → (r : Range) → value ≡ memory_value r → word ≡ bytes_word m r
  bytes-word m named r e = parted.0 ∙ (λ i. named i ++ 61 ∷ e i)

  pub given-word : (g : Given) → name ≡ register_name g.register → value ≡ hex g.value → word ≡ given_word g
  given-word g named e = parted.0 ∙ (λ i. named i ++ 61 ∷ e i) ∙ sym (given-parts g)

-- ---- a word gives one argument

given_word-injective : (g h : Given) → IsGiven g → IsGiven h → given_word g ≡ given_word h → g ≡ h
given_word-injective g h a b e =
    let p = given-are (given_word g) (register_name g.register) (hex g.value) (given-parts g, name-lacks g.register) h e in
    let digits-same : decimal g.register ≡ decimal h.register = cc in
    let r : g.register ≡ h.register = decimal-once g.register h.register (omega (arith, a.1)) (omega (arith, b.1)) digits-same in
    let v : g.value ≡ h.value = hex-once g.value h.value a.2 b.2 p.1 in
    λ i. record { register = r i; value = v i }

memory_value-injective : (q r : Range) → IsMemory q → IsMemory r → memory_value q ≡ memory_value r → q ≡ r
memory_value-injective q r a b e =
    let x = parts-are (memory_value q) (hex q.at) (encode_lower q.bytes) (value-parts q, hex-lacks 58 q.at (omega arith) (omega arith)) r e in
    let s : q.at ≡ r.at = hex-once q.at r.at (address-fits q a) (address-fits r b) x.0 in
    let t : q.bytes ≡ r.bytes = bytes-once q.bytes r.bytes (bytes-fit q a) (bytes-fit r b) x.1 in
    λ i. record { at = s i; bytes = t i }

bytes_word-injective : (m p : Memory) (q r : Range) → IsMemory q → IsMemory r → bytes_word m q ≡ bytes_word p r → Bytes m q ≡ Bytes p r
bytes_word-injective m p q r a b e =
    let x = bytes-are (bytes_word m q) (memory_name m) (memory_value q) (refl, memory-lacks m) p r e in
    let s : m ≡ p = memory-once m p x.0 in
    let t : q ≡ r = memory_value-injective q r a b x.1 in
    λ i. Bytes (s i) (t i)

unlike-words : (g : Given) (m : Memory) (r : Range) → given_word g ≡ bytes_word m r → ⊥
unlike-words g First r e = let first : ◌≡◌ {A = ℕ} 120 109 = first-byte e in omega arith
unlike-words g Second r e = let first : ◌≡◌ {A = ℕ} 120 115 = first-byte e in omega arith

pub arg_word-injective : (a b : Arg) → IsArg a → IsArg b → arg_word a ≡ arg_word b → a ≡ b
arg_word-injective (Value g) (Value h) x y e = ap Value (given_word-injective g h x y e)
arg_word-injective (Value g) (Bytes m r) x y e = absurd (unlike-words g m r e)
arg_word-injective (Bytes m r) (Value g) x y e = absurd (unlike-words g m r (sym e))
arg_word-injective (Bytes m q) (Bytes p r) x y e = bytes_word-injective m p q r x y e
