-- The expressions of extensions, loads and stores have their values.
use Rattle.std.proofs.Common.{◌≡◌, ℕ, zero, suc, ◌+◌, ◌-◌, ◌*◌, ◌/◌, ◌%◌, ◌^◌, ◌<◌, Bool, true, false, cond, eqb, [], ◌∷◌, codes, Option, Some, None, option_map, unwrap_or, refl, sym, ap, ◌∙◌, arith}
use Rattle.std.specs.Prelude.{is_some, ◌&&◌, ◌==◌}
use Rattle.rv_words.specs.Operation.{extension_value, signed_of, word_of}
use Rattle.rv_words.specs.Bytes.{Bytes, bytes_of, after, load, store, inside, put_byte}
use Rattle.rv_words.specs.declared.extension.Ext.{Ext}
use Rattle.rv_words.specs.declared.extension.Ext.TheVariants.{Sx1, Sx2, Sx4}
use Rattle.rv_words.specs.declared.width.Width.{Width}
use Rattle.rv_words.specs.declared.width.Width.TheVariants.{B1, B2, B4, B8}
use Rattle.word_terms.proofs.Stores.{present-store}
use Rattle.smt_terms.specs.Expression.{Expr, Atom, literal}
use Rattle.smt_terms.specs.Operators.{Value, Bits, Truth, Array, extended_by, choose, same, select_at, store_at, of_bits, of_two, of_truths, concatenated}
use Rattle.smt_terms.specs.Meaning.{Functions, Variables, bind, value, atom_value, no_names}
use Rattle.smt_terms.specs.Accesses.{extension_expr, m, d, v, next_address, loaded_bytes, load_expr, after_store, store_expr, all_present, inside_expr}
use Rattle.smt_terms.specs.Helpers.{a, two}
use Rattle.smt_terms.specs.Memory.{IsMemoryOf}
use Rattle.smt_terms.proofs.Signs.{by_sign}

-- ---- extensions

ext8 : (n : ℕ) → n < 2 ^ 8 → extended_by 56 8 n ≡ word_of (signed_of 8 n)
ext8 n h = by_sign 8 n (λ z t. cond t (n + (2 ^ 64 - 2 ^ 8)) n ≡ word_of z) h (λ l. omega arith) (λ l. omega arith)

ext16 : (n : ℕ) → n < 2 ^ 16 → extended_by 48 16 n ≡ word_of (signed_of 16 n)
ext16 n h = by_sign 16 n (λ z t. cond t (n + (2 ^ 64 - 2 ^ 16)) n ≡ word_of z) h (λ l. omega arith) (λ l. omega arith)

ext32 : (n : ℕ) → n < 2 ^ 32 → extended_by 32 32 n ≡ word_of (signed_of 32 n)
ext32 n h = by_sign 32 n (λ z t. cond t (n + (2 ^ 64 - 2 ^ 32)) n ≡ word_of z) h (λ l. omega arith) (λ l. omega arith)

pub extensions : (fs : Functions) (ext : Ext) (x : ℕ) → value fs (bind no_names (codes "a") (Bits 64 x)) (extension_expr ext) ≡ Bits 64 (extension_value ext x)
extensions fs Sx1 x = let e : x / 1 % 2 ^ 8 ≡ x % 2 ^ 8 = omega arith in ap (Bits 64) (ext8 (x / 1 % 2 ^ 8) (omega arith) ∙ ap (λ n. word_of (signed_of 8 n)) e)
extensions fs Sx2 x = let e : x / 1 % 2 ^ 16 ≡ x % 2 ^ 16 = omega arith in ap (Bits 64) (ext16 (x / 1 % 2 ^ 16) (omega arith) ∙ ap (λ n. word_of (signed_of 16 n)) e)
extensions fs Sx4 x = let e : x / 1 % 2 ^ 32 ≡ x % 2 ^ 32 = omega arith in ap (Bits 64) (ext32 (x / 1 % 2 ^ 32) (omega arith) ∙ ap (λ n. word_of (signed_of 32 n)) e)

-- ---- the byte at an address

tested : (o : Option ℕ) (n b : ℕ) → n ≡ cond (is_some o) 1 0 → eqb n 1 ≡ is_some o
tested None n b e = λ j. eqb (e j) 1
tested (Some x) n b e = λ j. eqb (e j) 1

chosen : (o : Option ℕ) (b : ℕ) → ((x : ℕ) → o ≡ Some x → b ≡ x) → cond (is_some o) (Bits 8 b) (Bits 8 0) ≡ Bits 8 (unwrap_or o 0)
chosen None b h = refl
chosen (Some x) b h = ap (Bits 8) (h x refl)

-- from the values of m, of d and of an address on
abbrev byte_value : Value → Value → Value → Value
byte_value vm vd vx = choose (same (select_at (vd ∷ vx ∷ []) ∷ Bits 1 1 ∷ []) ∷ select_at (vm ∷ vx ∷ []) ∷ Bits 8 0 ∷ [])

abbrev present_value : Value → Value → Value
present_value vd vx = same (select_at (vd ∷ vx ∷ []) ∷ Bits 1 1 ∷ [])

module _ (M : Bytes) (vm vd : Value) (is : IsMemoryOf M vm vd) (x : ℕ) (small : x < 2 ^ 64) where
  present-is : present_value vd (Bits 64 x) ≡ Truth (is_some (M x))
  present-is = (λ j. present_value (is.domain_is j) (Bits 64 x)) ∙ ap Truth (tested (M x) (is.bits x) 0 (is.present x small))

  byte-is : byte_value vm vd (Bits 64 x) ≡ Bits 8 (unwrap_or (M x) 0)
  byte-is =
      (λ j. byte_value (is.bytes_is j) (is.domain_is j) (Bits 64 x)) ∙ (λ j. cond (tested (M x) (is.bits x) 0 (is.present x small) j) (Bits 8 (is.at x)) (Bits 8 0))
      ∙ chosen (M x) (is.at x) (λ b e. is.byte x b e)

-- ---- loads

abbrev width_after : ℕ → ℕ
width_after zero = 8
width_after (suc n) = width_after n + 8

joined : (w a b : ℕ) → concatenated (Bits w a ∷ Bits 8 b ∷ []) ≡ Bits (w + 8) (b + 256 * a)
joined w a b = ap (Bits (w + 8)) (omega arith)

module _ (fs : Functions) (s : Variables) (M : Bytes) (vm vd : Value) (is : IsMemoryOf M vm vd) (sd : value fs s d ≡ vd) where
  bytes-at : value fs s m ≡ vm → (n : ℕ) (e : Expr) (x : ℕ) → x < 2 ^ 64 → value fs s e ≡ Bits 64 x → value fs s (loaded_bytes n e) ≡ Bits (width_after n) (load (suc n) M x)
  bytes-at sm zero e x h at = (λ j. byte_value (sm j) (sd j) (at j)) ∙ byte-is M vm vd is x h ∙ ap (Bits 8) (omega arith)
  bytes-at sm (suc n) e x h at =
      (λ j. concatenated
      (bytes-at sm n (next_address e) (after x) (omega arith) (λ i. of_two (λ w a b. Bits w ((a + b) % 2 ^ w)) (at i ∷ Bits 64 1 ∷ [])) j ∷ ((λ i. byte_value (sm i) (sd i) (at i)) ∙ byte-is M vm vd is x h) j ∷ []))
      ∙ joined (width_after n) (load (suc n) M (after x)) (unwrap_or (M x) 0)

  present-at : (n : ℕ) (e : Expr) (x : ℕ) → x < 2 ^ 64 → value fs s e ≡ Bits 64 x → value fs s (Atom (codes "true")) ≡ Truth true → value fs s (all_present n e) ≡ Truth (inside n M x)
  present-at zero e x h at t = t
  present-at (suc n) e x h at t =
      λ j. of_truths (λ a b. Truth (a && b))
      (((λ i. present_value (sd i) (at i)) ∙ present-is M vm vd is x h) j ∷ present-at n (next_address e) (after x) (omega arith) (λ i. of_two (λ w a b. Bits w ((a + b) % 2 ^ w)) (at i ∷ Bits 64 1 ∷ [])) t j ∷ [])

-- a value with zeros before it
abbrev zero_extended : ℕ → Value → Value
zero_extended k x = of_bits (λ w a. Bits (w + k) a) (x ∷ [])

-- ---- from the parameters

abbrev pub mda : Value → Value → ℕ → Variables
mda vm vd x = bind (bind (bind no_names (codes "m") vm) (codes "d") vd) (codes "a") (Bits 64 x)

abbrev pub da : Value → ℕ → Variables
da vd x = bind (bind no_names (codes "d") vd) (codes "a") (Bits 64 x)

abbrev pub mav : Value → ℕ → ℕ → Variables
mav vm x y = bind (bind (bind no_names (codes "m") vm) (codes "a") (Bits 64 x)) (codes "v") (Bits 64 y)

module _ (fs : Functions) (M : Bytes) (vm vd : Value) (is : IsMemoryOf M vm vd) (x : ℕ) (h : x < 2 ^ 64) where
  loaded : (n : ℕ) → value fs (mda vm vd x) (loaded_bytes n a) ≡ Bits (width_after n) (load (suc n) M x)
  loaded n = bytes-at fs (mda vm vd x) M vm vd is refl refl n a x h refl

  pub loads : (width : Width) → value fs (mda vm vd x) (load_expr width) ≡ Bits 64 (load (bytes_of width) M x)
  loads B1 = λ j. zero_extended 56 (loaded 0 j)
  loads B2 = λ j. zero_extended 48 (loaded 1 j)
  loads B4 = λ j. zero_extended 32 (loaded 3 j)
  loads B8 = loaded 7

  pub insides : (width : Width) → fs (codes "true") ≡ None → value fs (da vd x) (inside_expr width) ≡ Truth (inside (bytes_of width) M x)
  insides B1 t = present-at fs (da vd x) M vm vd is refl 1 a x h refl (λ j. atom_value None (t j) (codes "true"))
  insides B2 t = present-at fs (da vd x) M vm vd is refl 2 a x h refl (λ j. atom_value None (t j) (codes "true"))
  insides B4 t = present-at fs (da vd x) M vm vd is refl 4 a x h refl (λ j. atom_value None (t j) (codes "true"))
  insides B8 t = present-at fs (da vd x) M vm vd is refl 8 a x h refl (λ j. atom_value None (t j) (codes "true"))

-- ---- stores

-- what is known of an array of bytes
abbrev HasBytes : Bytes → Value → Type 0
HasBytes M w = (at : ℕ → ℕ) × (w ≡ Array 8 at) × ((q b : ℕ) → M q ≡ Some b → at q ≡ b)

put_at : (t : Bool) (o : Option ℕ) (x y b : ℕ) → ((c : ℕ) → o ≡ Some c → y ≡ c) → cond t (option_map (λ _. x) o) o ≡ Some b → cond t x y ≡ b
put_at true None x y b h e = absurd (cc)
put_at true (Some c) x y b h e = cc
put_at false o x y b h e = h b e

store_step : (N : Bytes) (u ve vf : Value) (x y : ℕ) → HasBytes N u → ve ≡ Bits 64 x → vf ≡ Bits 64 y
    → HasBytes (put_byte N x (y % 256)) (store_at (u ∷ ve ∷ of_bits (λ w a. Bits 8 (a / 1 % 256)) (vf ∷ []) ∷ []))
store_step N u ve vf x y (at, is, has) p q =
    let e : y / 1 % 256 ≡ y % 256 = omega arith in (
      (λ k. cond (k == x) (y % 256) (at k)),
      (λ j. store_at (is j ∷ p j ∷ of_bits (λ w a. Bits 8 (a / 1 % 256)) (q j ∷ []) ∷ [])) ∙ (λ j. Array 8 (λ k. cond (k == x) (e j) (at k))),
      λ k b. put_at (k == x) (N k) (y % 256) (at k) b (has k),
    )

module _ (fs : Functions) (s : Variables) (M : Bytes) (start : HasBytes M (value fs s m)) where
  stored-at : (n : ℕ) (e f : Expr) (x y : ℕ) → x < 2 ^ 64 → y < 2 ^ 64 → value fs s e ≡ Bits 64 x → value fs s f ≡ Bits 64 y → HasBytes (store n M x y) (value fs s (after_store n e f))
  stored-at zero e f x y h l p q = start
  stored-at (suc n) e f x y h l p q =
      store_step (store n M (after x) (y / 256)) (value fs s (after_store n (next_address e) (two (codes "bvlshr") f (literal (codes "64") (codes "8"))))) (value fs s e) (value fs s f) x y
      (stored-at n (next_address e) (two (codes "bvlshr") f (literal (codes "64") (codes "8"))) (after x) (y / 256) (omega arith) (omega arith)
      (λ i. of_two (λ w a b. Bits w ((a + b) % 2 ^ w)) (p i ∷ Bits 64 1 ∷ [])) (λ i. of_two (λ w a b. Bits w (a / 2 ^ b)) (q i ∷ Bits 64 8 ∷ []))) p q

module _ (fs : Functions) (M : Bytes) (vm vd : Value) (is : IsMemoryOf M vm vd) (x y : ℕ) (h : x < 2 ^ 64) (l : y < 2 ^ 64) where
  bytes-stored : (n : ℕ) → HasBytes (store n M x y) (value fs (mav vm x y) (after_store n a v))
  bytes-stored n = stored-at fs (mav vm x y) M (is.at, is.bytes_is, is.byte) n a v x y h l refl refl

  store_expr-is : (width : Width) → HasBytes (store (bytes_of width) M x y) (value fs (mav vm x y) (store_expr width))
  store_expr-is B1 = bytes-stored 1
  store_expr-is B2 = bytes-stored 2
  store_expr-is B4 = bytes-stored 4
  store_expr-is B8 = bytes-stored 8

  pub stores : (width : Width) → IsMemoryOf (store (bytes_of width) M x y) (value fs (mav vm x y) (store_expr width)) vd
  stores width =
      let r = store_expr-is width in
      record {
        at = r.0;
        bits = is.bits;
        bytes_is = r.1;
        domain_is = is.domain_is;
        byte = r.2;
        present = λ q small. is.present q small ∙ (λ j. cond (sym (present-store (bytes_of width) M x y q) j) 1 0);
      }
