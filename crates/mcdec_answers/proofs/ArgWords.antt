-- Words that give values to registers and bytes of memory, one after the other.
use Rattle.std.proofs.Common.{◌≡◌, ◌≢◌, ℕ, suc, ◌+◌, ◌<◌, Bool, true, false, cond, eqb, List, [], ◌∷◌, ◌++◌, length, take, drop, map, set, get_or, replicate, Option, Some, None, Result, Ok, Err, string_bytes, refl, sym, ap, subst, ◌∙◌, arith}
use Rattle.std.specs.Prelude.{MatchResult}
use Rattle.std.specs.Result.{IsErrAnd}
use Rattle.std.specs.List.{All, AllByRecursion}
use Rattle.std.specs.declared.string.String.{String}
use Rattle.std.specs.declared.alloc.Global.{Global}
use Rattle.std.proofs.Math.ListN.{length-set}
use Rattle.std.proofs.lemmas.Bool.{eqb-true, eqb-false}
use Rattle.std.proofs.lemmas.List.{append-nil, map-append, map_more}
use Rattle.std.proofs.lemmas.List.Elements.{All-from_recursion}
use Rattle.std.proofs.lemmas.Option.{get_or_from_slice_get}
use Rattle.rv_words.specs.declared.range.Range.{Range}
use Rattle.mcdec_answers.specs.declared.command.Unread.{Unread}
use Rattle.mcdec_answers.specs.declared.command.Unread.TheVariants as unread
use Rattle.mcdec_answers.specs.declared.command.Eval.{Eval as ReadEval}
use Rattle.mcdec_answers.specs.declared.command.Run.{Run as ReadRun}
use Rattle.mcdec_answers.specs.Command.{Arg, Value, Bytes, Given, IsGiven, IsMemory, AreGiven, AreArgs, given_to, given_word, bytes_word, arg_word, givens, ranges, texts}
use Rattle.mcdec_answers.specs.declared.command.Memory.{Memory}
use Rattle.mcdec_answers.specs.declared.command.Memory.TheVariants.{First, Second}
use Rattle.mcdec_answers.specs.CommandReading.{Holds, IsArg, IsReadEval, IsReadRun, NoArgs, AllArgs, Unless}
use Rattle.mcdec_answers.proofs.Givens.{arg_word-injective}
use Rattle.mcdec_answers.proofs.Values.{AreGiven-last, Holds-last, none-parts, none_some, nones, no_value, texts-split}

-- ---- arguments

pub first-arg : (a : Arg) (args : List Arg) → AreArgs (a ∷ args) → IsArg a × AreArgs args
first-arg (Value g) args all = (all.0.0, (all.0.2, all.1, all.2))
first-arg (Bytes First r) args all = (all.1.0, (all.0, all.1.1, all.2))
first-arg (Bytes Second r) args all = (all.2.0, (all.0, all.1, all.2.1))

givens-last : (args : List Arg) (a : Arg) → givens (args ++ a ∷ []) ≡ givens args ++ givens (a ∷ [])
givens-last [] a = refl
givens-last (Value g ∷ args) a = ap (λ (gs : List Given). g ∷ gs) (givens-last args a)
givens-last (Bytes m r ∷ args) a = givens-last args a

ranges-last : (m : Memory) (args : List Arg) (a : Arg) → ranges m (args ++ a ∷ []) ≡ ranges m args ++ ranges m (a ∷ [])
ranges-last m [] a = refl
ranges-last First (Value g ∷ args) a = ranges-last First args a
ranges-last Second (Value g ∷ args) a = ranges-last Second args a
ranges-last First (Bytes First r ∷ args) a = ap (λ (rs : List Range). r ∷ rs) (ranges-last First args a)
ranges-last First (Bytes Second r ∷ args) a = ranges-last First args a
ranges-last Second (Bytes First r ∷ args) a = ranges-last Second args a
ranges-last Second (Bytes Second r ∷ args) a = ap (λ (rs : List Range). r ∷ rs) (ranges-last Second args a)

memory-last : (rs : List Range) (r : Range) → AllByRecursion IsMemory rs → IsMemory r → AllByRecursion IsMemory (rs ++ r ∷ [])
memory-last [] r all is = (is, tt)
memory-last (q ∷ rs) r all is = (all.0, memory-last rs r all.1 is)

-- with a register's value more
module _ (args : List Arg) (g : Given) where
  value-givens : givens args ++ g ∷ [] ≡ givens (args ++ Value g ∷ [])
  value-givens = sym (givens-last args (Value g))

  value-ranges : (m : Memory) → ranges m args ≡ ranges m (args ++ Value g ∷ [])
  value-ranges First = sym (ranges-last First args (Value g) ∙ append-nil (ranges First args))
  value-ranges Second = sym (ranges-last Second args (Value g) ∙ append-nil (ranges Second args))

  value-args : AreArgs args → IsGiven g → given_to (givens args) g.register ≡ None → AreArgs (args ++ Value g ∷ [])
  value-args all is none = (
    subst AreGiven value-givens (AreGiven-last (givens args) g all.0 is none),
    subst (AllByRecursion IsMemory) (value-ranges First) all.1,
    subst (AllByRecursion IsMemory) (value-ranges Second) all.2,
  )

-- with a range more
module _ (args : List Arg) (r : Range) where
  bytes-givens : (m : Memory) → givens args ≡ givens (args ++ Bytes m r ∷ [])
  bytes-givens m = sym (givens-last args (Bytes m r) ∙ append-nil (givens args))

  first-more : ranges First args ++ r ∷ [] ≡ ranges First (args ++ Bytes First r ∷ [])
  first-more = sym (ranges-last First args (Bytes First r))

  first-kept : ranges First args ≡ ranges First (args ++ Bytes Second r ∷ [])
  first-kept = sym (ranges-last First args (Bytes Second r) ∙ append-nil (ranges First args))

  second-more : ranges Second args ++ r ∷ [] ≡ ranges Second (args ++ Bytes Second r ∷ [])
  second-more = sym (ranges-last Second args (Bytes Second r))

  second-kept : ranges Second args ≡ ranges Second (args ++ Bytes First r ∷ [])
  second-kept = sym (ranges-last Second args (Bytes First r) ∙ append-nil (ranges Second args))

  bytes-args : (m : Memory) → AreArgs args → IsMemory r → AreArgs (args ++ Bytes m r ∷ [])
  bytes-args First all is = (
    subst AreGiven (bytes-givens First) all.0,
    subst (AllByRecursion IsMemory) first-more (memory-last (ranges First args) r all.1 is),
    subst (AllByRecursion IsMemory) second-kept all.2,
  )
  bytes-args Second all is = (
    subst AreGiven (bytes-givens Second) all.0,
    subst (AllByRecursion IsMemory) first-kept all.1,
    subst (AllByRecursion IsMemory) second-more (memory-last (ranges Second args) r all.2 is),
  )

-- ---- their words

-- each of the words is an argument's
one-arg : (front : List (List ℕ)) (word : List ℕ) (rest : List (List ℕ)) (args : List Arg) → AreArgs args → front ++ word ∷ rest ≡ map arg_word args → (a : Arg) × IsArg a × (word ≡ arg_word a)
one-arg [] word rest [] all e = absurd cc
one-arg [] word rest (a ∷ args) all e = (a, (first-arg a args all).0, cc)
one-arg (first ∷ front) word rest [] all e = absurd cc
one-arg (first ∷ front) word rest (a ∷ args) all e = one-arg front word rest args (first-arg a args all).1 (cc)

none-behind : (a : Arg) (args : List Arg) (n : ℕ) → given_to (givens (a ∷ args)) n ≡ None → given_to (givens args) n ≡ None
none-behind (Value g) args n e = (none-parts (eqb g.register n) g.value (given_to (givens args) n) e).1
none-behind (Bytes m r) args n e = e

-- a register that is given none of the values is not that of one of the words
among : (front : List (List ℕ)) (g : Given) (rest : List (List ℕ)) (args : List Arg) (n : ℕ) → IsGiven g → AreArgs args → front ++ given_word g ∷ rest ≡ map arg_word args → given_to (givens args) n ≡ None → g.register ≡ n → ⊥
among [] g rest [] n is all e none same = absurd cc
among [] g rest (a ∷ args) n is all e none same =
    let head : given_word g ≡ arg_word a = cc in
    let equal : a ≡ Value g = sym (arg_word-injective (Value g) a is (first-arg a args all).0 head) in
    let here : given_to (g ∷ givens args) n ≡ None = subst (λ (x : Arg). given_to (givens (x ∷ args)) n ≡ None) equal none in
    eqb-false g.register n (none-parts (eqb g.register n) g.value (given_to (givens args) n) here).0 same
among (first ∷ front) g rest [] n is all e none same = absurd cc
among (first ∷ front) g rest (a ∷ args) n is all e none same =
    let tail : front ++ given_word g ∷ rest ≡ map arg_word args = cc in
    among front g rest args n is (first-arg a args all).1 tail (none-behind a args n none) same

-- what a word gives is given by none before it
not_before : (args : List Arg) (g : Given) (rest : List (List ℕ)) (others : List Arg) → AreArgs args → IsGiven g → AreArgs others → map arg_word args ++ given_word g ∷ rest ≡ map arg_word others
    → given_to (givens args) g.register ≡ None
not_before [] g rest others all is fit e = refl
not_before (a ∷ args) g rest [] all is fit e = absurd cc
not_before (Bytes m r ∷ args) g rest (b ∷ others) all is fit e =
    let tail : map arg_word args ++ given_word g ∷ rest ≡ map arg_word others = cc in
    not_before args g rest others (first-arg (Bytes m r) args all).1 is (first-arg b others fit).1 tail
not_before (Value f ∷ args) g rest (b ∷ others) all is fit e =
    let head : given_word f ≡ arg_word b = cc in
    let tail : map arg_word args ++ given_word g ∷ rest ≡ map arg_word others = cc in
    let equal : b ≡ Value f = sym (arg_word-injective (Value f) b all.0.0 (first-arg b others fit).0 head) in
    let first : AreArgs (Value f ∷ others) = subst (λ (x : Arg). AreArgs (x ∷ others)) equal fit in
    choose (eqb f.register g.register) (λ same. among (map arg_word args) g rest others f.register is (first-arg b others fit).1 tail first.0.1 (sym (eqb-true f.register g.register same)))
    (not_before args g rest others (first-arg (Value f) args all).1 is (first-arg b others fit).1 tail)
  where
    choose : (b : Bool) → (b ≡ true → ⊥) → given_to (givens args) g.register ≡ None → cond b (Some f.value) (given_to (givens args) g.register) ≡ None
    choose true no_more h = absurd (no_more refl)
    choose false no_more h = h

pub args-unique : (xs ys : List Arg) → AreArgs xs → AreArgs ys → map arg_word xs ≡ map arg_word ys → xs ≡ ys
args-unique [] [] a b e = refl
args-unique [] (y ∷ ys) a b e = cc
args-unique (x ∷ xs) [] a b e = cc
args-unique (x ∷ xs) (y ∷ ys) a b e =
    let head : arg_word x ≡ arg_word y = cc in
    let tail : map arg_word xs ≡ map arg_word ys = cc in
    let p = first-arg x xs a in
    let q = first-arg y ys b in
    let first : x ≡ y = arg_word-injective x y p.0 q.0 head in
    let rest : xs ≡ ys = args-unique xs ys p.1 q.1 tail in
    λ i. first i ∷ rest i

pub unless-also : {A B : Type 0} → (A → B) → (e : Unread) → Unless A e → Unless B e
unless-also f unread.NotACommand a = f a
unless-also f unread.NoMemory a = tt

-- the exit of a `?`
pub exit-with : {X : Type 0} (r : Result X Unread) (e : Unread) (P : X → Type 0) (Q : Unread → Type 0) → IsErrAnd r (λ y. y ≡ e) → Q e → MatchResult r P Q
exit-with (Ok x) e P Q is q = absurd is
exit-with (Err y) e P Q is q = subst Q (sym is) q

-- ---- the loop over the words

abbrev Words : Type 0
Words = List (String Global)

-- how far the reading has come
abbrev pub HaveArgs : Words → ℕ → List (Option ℕ) → List Range → List Range → Type 0
HaveArgs words i values memory stack = AllArgs (texts (take i words)) values memory stack × (length values ≡ 32)

pub args-none : (words : Words) (memory stack : List Range) → memory ≡ [] → stack ≡ [] → HaveArgs words 0 (replicate 32 no_value) memory stack
args-none words memory stack none no_stack = (([], (tt, tt, tt), refl, ((λ n lt. nones 32 n lt), none, no_stack)), refl)

module _ (words : Words) (i : ℕ) (word : String Global) (lt : i < length words) (item : word ≡ get_or words i word) (bytes : List ℕ) (same : bytes ≡ string_bytes word) where
  none-read : ((a : Arg) → IsArg a → bytes ≢ arg_word a) → NoArgs (texts words)
  none-read none args all e =
      let one = one-arg (texts (take i words)) (string_bytes word) (texts (drop (suc i) words)) args all (sym (texts-split words i word lt item) ∙ e) in
      none one.0 one.1 (same ∙ one.2)

  -- a word that is no argument's
  pub arg-unread : (e : Unread) → Unless ((a : Arg) → IsArg a → bytes ≢ arg_word a) e → Unless (NoArgs (texts words)) e
  arg-unread e none = unless-also none-read e none

  module _ (values : List (Option ℕ)) (memory stack : List Range) (before : HaveArgs words i values memory stack) where
    -- the words up to this one
    upto : (a : Arg) → bytes ≡ arg_word a → texts (take (i + 1) words) ≡ map arg_word (before.0.0 ++ a ∷ [])
    upto a spelled =
        map_more (λ (w : String Global). string_bytes w) words i word lt
        ∙ ap (λ (w : String Global). texts (take i words) ++ string_bytes w ∷ []) (sym item) ∙ (λ j. before.0.2 j ++ (sym same ∙ spelled) j ∷ [])
        ∙ sym (map-append arg_word before.0.0 (a ∷ []))

    module _ (g : Given) (is : IsGiven g) (spelled : bytes ≡ given_word g) where
      held : (o : Option ℕ) → get_or values g.register None ≡ o → given_to (givens before.0.0) g.register ≡ o
      held o e = sym (get_or_from_slice_get values g.register _ None (before.0.3.0 g.register (omega (arith, is.1)))) ∙ e

      -- a word whose register was given a value before
      pub arg-twice : (v : ℕ) → get_or values g.register None ≡ Some v → NoArgs (texts words)
      arg-twice v e others fit k =
          let split : map arg_word before.0.0 ++ given_word g ∷ texts (drop (suc i) words) ≡ map arg_word others =
          sym (λ j. before.0.2 j ++ (sym same ∙ spelled) j ∷ texts (drop (suc i) words)) ∙ sym (texts-split words i word lt item) ∙ k in
          none_some v (sym (not_before before.0.0 g (texts (drop (suc i) words)) others before.0.1 is fit split) ∙ held (Some v) e)

      pub value-more : get_or values g.register None ≡ None → HaveArgs words (i + 1) (set values g.register (Some g.value)) memory stack
      value-more e =
          let now = Holds-last (givens before.0.0) g values is (held None e) before.1 before.0.3.0 in (
            (before.0.0 ++ Value g ∷ [], value-args before.0.0 g before.0.1 is (held None e), upto (Value g) spelled, (subst (λ (gs : List Given). Holds gs (set values g.register (Some g.value))) (value-givens before.0.0 g) now, before.0.3.1 ∙ value-ranges before.0.0 g First, before.0.3.2 ∙ value-ranges before.0.0 g Second)),
            length-set values g.register (Some g.value) ∙ before.1,
          )

    module _ (r : Range) (is : IsMemory r) where
      -- the words with a range more, whose registers are those before it
      with-bytes : (m : Memory) → bytes ≡ bytes_word m r → (more others : List Range) → more ≡ ranges First (before.0.0 ++ Bytes m r ∷ []) → others ≡ ranges Second (before.0.0 ++ Bytes m r ∷ [])
          → HaveArgs words (i + 1) values more others
      with-bytes m spelled more others first second = (
        (before.0.0 ++ Bytes m r ∷ [], bytes-args before.0.0 r m before.0.1 is, upto (Bytes m r) spelled, (subst (λ (gs : List Given). Holds gs values) (bytes-givens before.0.0 r m) before.0.3.0, first, second)),
        before.1,
      )

      pub memory-more : bytes ≡ bytes_word First r → (more : List Range) → more ≡ memory ++ r ∷ [] → HaveArgs words (i + 1) values more stack
      memory-more spelled more pushed = with-bytes First spelled more stack (pushed ∙ (λ j. before.0.3.1 j ++ r ∷ []) ∙ first-more before.0.0 r) (before.0.3.2 ∙ second-kept before.0.0 r)

      pub stack-more : bytes ≡ bytes_word Second r → (more : List Range) → more ≡ stack ++ r ∷ [] → HaveArgs words (i + 1) values memory more
      stack-more spelled more pushed = with-bytes Second spelled memory more (before.0.3.1 ∙ first-kept before.0.0 r) (pushed ∙ (λ j. before.0.3.2 j ++ r ∷ []) ∙ second-more before.0.0 r)

-- the ranges that were read
pub eval-ranges : (ws : List (List ℕ)) (e : ReadEval) → IsReadEval ws e → All IsMemory e.memory
eval-ranges ws e is = subst (All IsMemory) (sym is.2.1) (All-from_recursion IsMemory (ranges First is.0) is.1.0.3.1)

pub eval-stack : (ws : List (List ℕ)) (e : ReadEval) → IsReadEval ws e → All IsMemory e.stack
eval-stack ws e is = subst (All IsMemory) (sym is.2.2) (All-from_recursion IsMemory (ranges Second is.0) is.1.0.3.2)

pub run-ranges : (ws : List (List ℕ)) (r : ReadRun) → IsReadRun ws r → All IsMemory r.memory
run-ranges ws r is = subst (All IsMemory) (sym is.2.1) (All-from_recursion IsMemory (ranges First is.0) is.1.0.4.1)
