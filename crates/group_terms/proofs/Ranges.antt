-- Variables stand for 64-bit words and for memories.
use Rattle.std.proofs.Common.{◌≡◌, ℕ, ◌<◌, ◌^◌, true, false, cond, nat_eq, List, [], ◌∷◌, Option, Some, None, map, refl, ap, arith}
use Rattle.std.specs.Prelude.{is_some}
use Rattle.std.specs.List.{AllByRecursion}
use Rattle.rv_words.specs.Bytes.{Bytes, IsMemory}
use Rattle.word_terms.specs.Tree.{WordTree, MemTree}
use Rattle.word_terms.specs.Environment.{Environment, IsInRange, no_variables, with_word, with_mem, with_words, with_mems}
use Rattle.word_terms.specs.Value.{word_value, mem_value}
use Rattle.word_terms.specs.Scope.{WordInRange}
use Rattle.word_terms.proofs.Ranges.{word_in_range, mem_in_range}
use Rattle.tailrec_lang.specs.Tree.{ValuesTree}
use Rattle.tailrec_lang.specs.Eval.{Arguments, arguments_of, with_arguments}
use Rattle.group_terms.specs.Range.{ArgumentsInRange, ValuesInRange}

-- ---- variables stand for 64-bit words and for memories

byte_at : (m : Bytes) (a b : ℕ) → IsMemory m → m a ≡ Some b → (a < 2 ^ 64) × (b < 2 ^ 8)
byte_at m a b h is = (h.places a (ap is_some is), h.bytes a b is)

module _ (e : Environment) (r : IsInRange e) where
  pub in_range-with_word : (n : ℕ) → n < 2 ^ 64 → IsInRange (with_word e n)
  in_range-with_word n h = record {
    word = λ i. elim (nat_eq i e.words) as (λ t. cond t n (e.word i) < 2 ^ 64) [ true ↦ h | false ↦ r.word i ];
    address = r.address;
    byte = r.byte;
  }

  pub in_range-with_mem : (m : Bytes) → IsMemory m → IsInRange (with_mem e m)
  in_range-with_mem m h = record {
    word = r.word;
    address = λ i a b. elim (nat_eq i e.mems) as (λ t. cond t m (e.mem i) a ≡ Some b → a < 2 ^ 64) [ true ↦ λ is. (byte_at m a b h is).0 | false ↦ r.address i a b ];
    byte = λ i a b. elim (nat_eq i e.mems) as (λ t. cond t m (e.mem i) a ≡ Some b → b < 2 ^ 8) [ true ↦ λ is. (byte_at m a b h is).1 | false ↦ r.byte i a b ];
  }

in_range-with_words : (ns : List ℕ) (e : Environment) → IsInRange e → AllByRecursion (λ n. n < 2 ^ 64) ns → IsInRange (with_words e ns)
in_range-with_words [] e r h = r
in_range-with_words (n ∷ ns) e r h = in_range-with_words ns (with_word e n) (in_range-with_word e r n h.0) h.1

in_range-with_mems : (ms : List Bytes) (e : Environment) → IsInRange e → AllByRecursion IsMemory ms → IsInRange (with_mems e ms)
in_range-with_mems [] e r h = r
in_range-with_mems (m ∷ ms) e r h = in_range-with_mems ms (with_mem e m) (in_range-with_mem e r m h.0) h.1

pub in_range-with : (e : Environment) (x : Arguments) → IsInRange e → ArgumentsInRange x → IsInRange (with_arguments e x)
in_range-with e x r h = in_range-with_mems x.mems (with_words e x.words) (in_range-with_words x.words e r h.words) h.mems

pub in_range-none : IsInRange no_variables
in_range-none = record { word = λ i. omega arith; address = λ i a b is. absurd (cc); byte = λ i a b is. absurd (cc) }

-- ---- values

is_some-item : {A : Type 0} (o : Option A) → is_some o ≡ true → (x : A) × (o ≡ Some x)
is_some-item None is = absurd (cc)
is_some-item (Some x) is = (x, refl)

module _ (e : Environment) (r : IsInRange e) where
  pub memory : (m : MemTree) → IsMemory (mem_value m e)
  memory m = record {
    bytes = λ a b is. (mem_in_range e r m a b is).1;
    places = λ a is. let s = is_some-item (mem_value m e a) is in (mem_in_range e r m a s.0 s.1).0;
  }

  words_in_range : (ts : List WordTree) → AllByRecursion WordInRange ts → AllByRecursion (λ n. n < 2 ^ 64) (map (λ t. word_value t e) ts)
  words_in_range [] h = tt
  words_in_range (t ∷ ts) h = (word_in_range e r t h.0, words_in_range ts h.1)

  mems_in_range : (ms : List MemTree) → AllByRecursion IsMemory (map (λ m. mem_value m e) ms)
  mems_in_range [] = tt
  mems_in_range (m ∷ ms) = (memory m, mems_in_range ms)

  pub values_in_range : (v : ValuesTree) → ValuesInRange v → ArgumentsInRange (arguments_of v e)
  values_in_range v h = record { words = words_in_range v.words h.0; mems = mems_in_range v.mems }
