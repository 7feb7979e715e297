-- The values of terms are words and bytes at addresses where what the variables stand for is.
use Rattle.std.proofs.Common.{◌≡◌, ℕ, zero, suc, ◌*◌, ◌/◌, ◌%◌, ◌^◌, ◌<◌, Bool, true, false, cond, eqb, Option, Some, None, option_map, refl, subst, arith}
use Rattle.std.specs.Option.{unwrap_or}
use Rattle.std.proofs.Math.Nat.{pow-succ'}
use Rattle.rv_words.specs.Bytes.{Bytes, after, bytes_of, load, store}
use Rattle.rv_words.specs.declared.width.Width.{Width}
use Rattle.rv_words.specs.declared.width.Width.TheVariants.{B1, B2, B4, B8}
use Rattle.rv_words.proofs.WordLemmas.{operation_small, extension_small}
use Rattle.word_terms.specs.Tree.{WordTree, MemTree, Const, Var, Bin, Extend, Load, MemVar, Store}
use Rattle.word_terms.specs.Environment.{Environment, IsInRange}
use Rattle.word_terms.specs.Scope.{WordInRange}
use Rattle.word_terms.specs.Value.{word_value, mem_value}

-- ---- loads

byte_small : (o : Option ℕ) → ((b : ℕ) → o ≡ Some b → b < 2 ^ 8) → unwrap_or o 0 < 2 ^ 8
byte_small None h = omega arith
byte_small (Some b) h = h b refl

load_small : (n : ℕ) (m : Bytes) (a : ℕ) → ((q b : ℕ) → m q ≡ Some b → b < 2 ^ 8) → load n m a < 256 ^ n
load_small zero m a h = omega arith
load_small (suc n) m a h =
    let low = byte_small (m a) (h a) in
    let high = load_small n m (after a) h in
    let more : 256 ^ suc n ≡ 256 * 256 ^ n = pow-succ' 256 n in
    omega arith

loaded_small : (w : Width) (m : Bytes) (a : ℕ) → ((q b : ℕ) → m q ≡ Some b → b < 2 ^ 8) → load (bytes_of w) m a < 2 ^ 64
loaded_small B1 m a h = let l = load_small 1 m a h in omega arith
loaded_small B2 m a h = let l = load_small 2 m a h in omega arith
loaded_small B4 m a h = let l = load_small 4 m a h in omega arith
loaded_small B8 m a h = load_small 8 m a h

-- ---- stores

-- a 64-bit address, and a byte
abbrev pub IsByteAt : ℕ → ℕ → Type 0
IsByteAt q b = (q < 2 ^ 64) × (b < 2 ^ 8)

put_in_range : (t : Bool) (o : Option ℕ) (q x b : ℕ) → x < 2 ^ 8 → ((c : ℕ) → o ≡ Some c → IsByteAt q c) → cond t (option_map (λ _. x) o) o ≡ Some b → IsByteAt q b
put_in_range true None q x b small h e = absurd (cc)
put_in_range true (Some c) q x b small h e = let same : x ≡ b = cc in ((h c refl).0, subst (λ z. z < 2 ^ 8) same small)
put_in_range false o q x b small h e = h b e

store_in_range : (n : ℕ) (m : Bytes) (a v q b : ℕ) → ((c : ℕ) → m q ≡ Some c → IsByteAt q c) → store n m a v q ≡ Some b → IsByteAt q b
store_in_range zero m a v q b h e = h b e
store_in_range (suc n) m a v q b h e =
    put_in_range (eqb q a) (store n m (after a) (v / 256) q) q (v % 256) b (omega arith) (λ c is. store_in_range n m (after a) (v / 256) q c h is) e

-- ---- terms

module _ (e : Environment) (range : IsInRange e) where
  pub mem_in_range : (t : MemTree) (a b : ℕ) → mem_value t e a ≡ Some b → IsByteAt a b
  mem_in_range (MemVar i) a b is = (range.address i a b is, range.byte i a b is)
  mem_in_range (Store width m x v) a b is =
      store_in_range (bytes_of width) (mem_value m e) (word_value x e) (word_value v e) a b (λ c at. mem_in_range m a c at) is

  pub word_in_range : (t : WordTree) → WordInRange t → word_value t e < 2 ^ 64
  word_in_range (Const n) h = h
  word_in_range (Var i) h = range.word i
  word_in_range (Bin op a b) h = operation_small op (word_value a e) (word_value b e) (word_in_range a h.0) (word_in_range b h.1)
  word_in_range (Extend ext a) h = extension_small ext (word_value a e)
  word_in_range (Load width m a) h = loaded_small width (mem_value m e) (word_value a e) (λ q b is. (mem_in_range m q b is).1)
