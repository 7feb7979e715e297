-- Whole lines of bytes: cutting them off, and what they are read as.
use Rattle.std.proofs.Common.{◌≡◌, ℕ, zero, suc, ◌+◌, ◌-◌, ◌≤◌, ◌<◌, Bool, true, false, cond, eqb, List, [], ◌∷◌, ◌++◌, length, get_or, take, Some, true≢false, refl, sym, ap, subst, ◌∙◌, arith}
use Rattle.std.proofs.lemmas.List.{append-nil}
use Rattle.std.proofs.lemmas.Bool.{eqb-true}
use Rattle.mc_text.specs.Fault.{first_lines, newlines}
use Rattle.mc_text.proofs.FaultLine.{AreLines, EndsByte, one-newline, lines-zeroth, newlines-append}
use Rattle.mc_text.proofs.Tail.{count-cons}
use Rattle.group_text.specs.inner.Cut.{AreWholeLines, drop_lines}

-- ---- a text is whole lines, and a rest without a newline

pub record Parts (bytes : List ℕ) : Type 0 where
  pub lines : List ℕ
  pub tail : List ℕ
  pub is : bytes ≡ lines ++ tail
  pub whole : AreLines lines
  pub none : newlines tail ≡ 0

put-byte : (b : ℕ) (bs : List ℕ) (p : Parts bs) (f : Bool) → eqb b 10 ≡ f → (lines : List ℕ) → p.lines ≡ lines → Parts (b ∷ bs)
put-byte b bs p f e (c ∷ cs) is = record { lines = b ∷ c ∷ cs; tail = p.tail; is = ap (λ (v : List ℕ). b ∷ v) (p.is ∙ ap (λ (v : List ℕ). v ++ p.tail) is); whole = subst AreLines is p.whole; none = p.none }
put-byte b bs p true e [] is = record { lines = b ∷ []; tail = p.tail; is = ap (λ (v : List ℕ). b ∷ v) (p.is ∙ ap (λ (v : List ℕ). v ++ p.tail) is); whole = eqb-true b 10 e; none = p.none }
put-byte b bs p false e [] is = record { lines = []; tail = b ∷ p.tail; is = ap (λ (v : List ℕ). b ∷ v) (p.is ∙ ap (λ (v : List ℕ). v ++ p.tail) is); whole = tt; none = count-cons b p.tail false e ∙ p.none }

pub cut : (bytes : List ℕ) → Parts bytes
cut [] = record { lines = []; tail = []; is = refl; whole = tt; none = refl }
cut (b ∷ bs) = let p = cut bs in put-byte b bs p (eqb b 10) refl p.lines refl

pub same-some : (x y : List ℕ) → Some x ≡ Some y → x ≡ y
same-some x y e = cc

pub are-lines : (bytes : List ℕ) → AreWholeLines bytes → AreLines bytes
are-lines bytes h =
    let p = cut bytes in
    let count : newlines bytes ≡ newlines p.lines = ap newlines p.is ∙ newlines-append p.lines p.tail ∙ omega (arith, p.none) in
    let first : first_lines (newlines p.lines) bytes ≡ Some p.lines = lines-zeroth p.lines bytes p.tail p.is p.whole in
    let same : p.lines ≡ bytes = same-some p.lines bytes (sym first ∙ ap (λ (n : ℕ). first_lines n bytes) (sym count) ∙ h) in
    subst AreLines same p.whole

pub whole-lines : (bytes : List ℕ) → AreLines bytes → AreWholeLines bytes
whole-lines bytes h = lines-zeroth bytes bytes [] (sym (append-nil bytes)) h

-- ---- behind lines

lines-cons : (b : ℕ) (bs : List ℕ) → EndsByte b bs → AreLines bs
lines-cons b [] h = tt
lines-cons b (c ∷ cs) h = h

pub lines-behind : (w r : List ℕ) → AreLines (w ++ r) → AreLines r
lines-behind [] r h = h
lines-behind (b ∷ w) r h = lines-behind w r (lines-cons b (w ++ r) h)

pub drop-true : (n b : ℕ) (bs : List ℕ) → eqb b 10 ≡ true → drop_lines (suc n) (b ∷ bs) ≡ drop_lines n bs
unfolding drop_lines
drop-true n b bs e = rw e refl

pub drop-false : (n b : ℕ) (bs : List ℕ) → eqb b 10 ≡ false → drop_lines (suc n) (b ∷ bs) ≡ drop_lines (suc n) bs
unfolding drop_lines
drop-false n b bs e = rw e refl

pub drop-none : (bytes : List ℕ) → drop_lines 0 bytes ≡ bytes
unfolding drop_lines
drop-none bytes = refl

drop-step : (b : ℕ) (w r : List ℕ) (f : Bool) → eqb b 10 ≡ f → EndsByte b w → drop_lines (newlines w) (w ++ r) ≡ r → drop_lines (newlines (b ∷ w)) (b ∷ (w ++ r)) ≡ r
drop-step b w r true e h ih = ap (λ (n : ℕ). drop_lines n (b ∷ (w ++ r))) (count-cons b w true e) ∙ drop-true (newlines w) b (w ++ r) e ∙ ih
drop-step b [] r false e h ih = absurd (never b e h)
  where
    never : (b : ℕ) → eqb b 10 ≡ false → b ≡ 10 → ⊥
    never b e h = true≢false (sym (ap (λ (n : ℕ). eqb n 10) h) ∙ e)
drop-step b (c ∷ w) r false e h ih =
    let i = one-newline c w h in
    ap (λ (n : ℕ). drop_lines n (b ∷ (c ∷ w ++ r))) (count-cons b (c ∷ w) false e ∙ i.1) ∙ drop-false i.0 b (c ∷ w ++ r) e ∙ ap (λ (n : ℕ). drop_lines n (c ∷ w ++ r)) (sym i.1) ∙ ih

pub dropped : (w r : List ℕ) → AreLines w → drop_lines (newlines w) (w ++ r) ≡ r
dropped [] r h = drop-none r
dropped (b ∷ w) r h = drop-step b w r (eqb b 10) refl h (dropped w r (lines-cons b w h))

pub newlines-short : (bytes : List ℕ) → newlines bytes ≤ length bytes
newlines-short [] = omega arith
newlines-short (b ∷ bs) = by (eqb b 10) (newlines-short bs)
  where
    by : (f : Bool) → newlines bs ≤ length bs → cond f (suc (newlines bs)) (newlines bs) ≤ suc (length bs)
    by true h = omega (arith, h)
    by false h = omega (arith, h)

-- whole lines in front of a text lie in front of its whole lines
pub record Within (lines tail w r : List ℕ) : Type 0 where
  pub more : List ℕ
  pub is : lines ≡ w ++ more
  pub rest : r ≡ more ++ tail

first-byte : (b c : ℕ) (x y : List ℕ) → b ∷ x ≡ c ∷ y → b ≡ c
first-byte b c x y e = cc

other-bytes : (b c : ℕ) (x y : List ℕ) → b ∷ x ≡ c ∷ y → x ≡ y
other-bytes b c x y e = cc

pub within : (lines tail w r : List ℕ) → lines ++ tail ≡ w ++ r → newlines tail ≡ 0 → AreLines w → Within lines tail w r
within lines tail [] r e none h = record { more = lines; is = refl; rest = sym e }
within [] tail (b ∷ w) r e none h = absurd (let i = one-newline b w h in omega (arith, none, ap newlines e ∙ newlines-append (b ∷ w) r, i.1))
within (c ∷ lines) tail (b ∷ w) r e none h =
    let k = within lines tail w r (other-bytes c b (lines ++ tail) (w ++ r) e) none (lines-cons b w h) in
    record { more = k.more; is = (λ i. first-byte c b (lines ++ tail) (w ++ r) e i ∷ k.is i); rest = k.rest }

-- ---- loops over bytes

last-newline : (text : List ℕ) (n d : ℕ) → n < length text → get_or text n d ≡ 10 → AreLines (take (suc n) text)
last-newline [] n d lt e = absurd (omega (arith, lt))
last-newline (b ∷ bs) zero d lt e = e
last-newline (b ∷ []) (suc n) d lt e = absurd (omega (arith, lt))
last-newline (b ∷ c ∷ cs) (suc n) d lt e = last-newline (c ∷ cs) n d (omega (arith, lt)) e

pub lines-to : (text : List ℕ) (end d : ℕ) (front : List ℕ) → 0 < end → end ≤ length text → get_or text (end - 1) d ≡ 10 → front ≡ take end text → AreWholeLines front
lines-to text zero d front lt le e is = absurd (omega (arith, lt))
lines-to text (suc n) d front lt le e is =
    let back : n ≡ suc n - 1 = omega arith in
    whole-lines front (subst AreLines (sym is) (last-newline text n d (omega (arith, le)) (ap (λ (k : ℕ). get_or text k d) back ∙ e)))

pub no-lines : (text front : List ℕ) → front ≡ take 0 text → AreWholeLines front
unfolding first_lines
no-lines text front is = whole-lines front (subst AreLines (sym is) tt)

-- ---- behind the first line

no-bytes : (n : ℕ) → drop_lines n [] ≡ []
unfolding drop_lines
no-bytes zero = refl
no-bytes (suc n) = refl

-- lines one after the other
one-more : (n : ℕ) (bytes : List ℕ) → drop_lines (suc n) bytes ≡ drop_lines n (drop_lines 1 bytes)
one-more n [] = no-bytes (suc n) ∙ sym (no-bytes n) ∙ ap (drop_lines n) (sym (no-bytes 1))
one-more n (b ∷ bs) = choose (eqb b 10) refl (one-more n bs)
  where
    choose : (f : Bool) → eqb b 10 ≡ f → drop_lines (suc n) bs ≡ drop_lines n (drop_lines 1 bs) → drop_lines (suc n) (b ∷ bs) ≡ drop_lines n (drop_lines 1 (b ∷ bs))
    choose true e ih = drop-true n b bs e ∙ ap (drop_lines n) (sym (drop-true 0 b bs e ∙ drop-none bs))
    choose false e ih = drop-false n b bs e ∙ ih ∙ ap (drop_lines n) (sym (drop-false 0 b bs e))

pub lines-after-lines : (m n : ℕ) (bytes : List ℕ) → drop_lines (m + n) bytes ≡ drop_lines n (drop_lines m bytes)
lines-after-lines zero n bytes = let e : 0 + n ≡ n = omega arith in ap (λ (k : ℕ). drop_lines k bytes) e ∙ ap (drop_lines n) (sym (drop-none bytes))
lines-after-lines (suc m) n bytes =
    let e : suc m + n ≡ suc (m + n) = omega arith in
    ap (λ (k : ℕ). drop_lines k bytes) e ∙ one-more (m + n) bytes ∙ lines-after-lines m n (drop_lines 1 bytes) ∙ ap (drop_lines n) (sym (one-more m bytes))
