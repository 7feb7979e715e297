-- A state is set up as the run's definition begins it, and what is shown of it at the end.
use Rattle.std.proofs.Common.{◌≡◌, ◌≢◌, ℕ, zero, suc, ◌+◌, ◌-◌, ◌<◌, ◌≤◌, Bool, true, false, ◌||◌, not, cond, eqb, ltb, leb, List, [], ◌∷◌, ◌++◌, length, map, take, drop, get_or, filter, replicate, slice_get, is_some, unwrap_or, Option, Some, None, Result, Ok, Err, refl, sym, ap, subst, ◌∙◌, inl, inr, arith}
use Rattle.std.specs.Prelude.{IfOk}
use Rattle.std.specs.Option.{option_or}
use Rattle.std.specs.List.{range_with_len}
use Rattle.std.proofs.lemmas.Bool.Decides.{eqb_tells, nat_tests}
use Rattle.std.proofs.lemmas.List.{map-append, take_more}
use Rattle.std.proofs.lemmas.List.Elements.{filter-append}
use Rattle.std.proofs.lemmas.List.FromFn.{map-range_with_len_more}
use Rattle.std.proofs.Math.Seq.{drop-cons}
use Rattle.rv_words.specs.Bytes.{Bytes, bytes_from, over}
use Rattle.rv_words.specs.declared.memory.NoMemory.{NoMemory}
use Rattle.rv_words.specs.declared.range.Range.{Range}
use Rattle.elf_image.specs.Fault.{IsReadable}
use Rattle.elf_image.specs.declared.image.Piece.{Piece}
use Rattle.elf_image.specs.Image.{bytes_in, memory_of_file, padded}
use Rattle.rv_machine.specs.State.{Contents, State, empty_state, state_of, with_bytes, with_register}
use Rattle.rv_machine.specs.Step.{writes}
use Rattle.rv_machine.specs.Run.{EndsIn}
use Rattle.rv_machine.specs.declared.state.Stuck.{Stuck}
use Rattle.rv_machine.specs.declared.running.RunEnd.{RunEnd}
use Rattle.rv_machine.specs.declared.running.RunEnd.TheVariants as end
use Rattle.mcdec_answers.specs.declared.answer.RunAnswer.{RunAnswer}
use Rattle.mcdec_answers.specs.declared.answer.RunAnswer.TheVariants as answer
use Rattle.mcdec_answers.specs.declared.answer.Shown.{Shown}
use Rattle.mcdec_answers.specs.declared.command.Memory.TheVariants.{First}
use Rattle.mcdec_answers.specs.Command.{Arg, Given, AreGiven, given_to, value_of, givens, ranges}
use Rattle.mcdec_answers.specs.CommandReading.{Holds, given_in, value_in}
use Rattle.mcdec_commands.specs.Memory.{placed, held_at}
use Rattle.decompiler.specs.Names.{StandsFor}
use Rattle.mcdec_commands.specs.RunAnswer.{answer_at, state_given, elf_limit, RunGives}
use Rattle.mcdec_commands.specs.inner.Running.{MachineGives, is_shown, shown_with, with_placed}

-- ---- values

different : (a b : ℕ) → a ≢ b → eqb a b ≡ false
different a b h = elim (eqb_tells a b) [ inl t ↦ absurd (h t.1) | inr f ↦ f.0 ]

-- a number that is no register's is given no value
given-none : (gs : List Given) → AreGiven gs → (n : ℕ) → ((m : ℕ) → 1 ≤ m → m ≤ 31 → m ≢ n) → given_to gs n ≡ None
given-none [] all n other = refl
given-none (g ∷ gs) all n other = rw (different g.register n (other g.register all.0.0 all.0.1)) (given-none gs all.2 n other)

value-low : (gs : List Given) → AreGiven gs → value_of gs 0 ≡ 0
value-low gs all = ap (λ (o : Option ℕ). unwrap_or o 0) (given-none gs all 0 (λ m low high e. omega arith))

value-high : (gs : List Given) → AreGiven gs → (n : ℕ) → 32 ≤ n → value_of gs n ≡ 0
value-high gs all n h = ap (λ (o : Option ℕ). unwrap_or o 0) (given-none gs all n (λ m low high e. omega arith))

pub value-held : (gs : List Given) (values : List (Option ℕ)) → Holds gs values → (n : ℕ) → n < 32 → value_in values n ≡ value_of gs n
value-held gs values h n low = rw (h n low) refl

pub given-held : (gs : List Given) (values : List (Option ℕ)) → Holds gs values → (n : ℕ) → n < 32 → given_in values n ≡ given_to gs n
given-held gs values h n low = rw (h n low) refl

-- ---- registers

-- the registers below n have their values
abbrev pub set_below : List Given → ℕ → ℕ → ℕ
set_below gs n r = cond (ltb r n) (value_of gs r) 0

none-set : (gs : List Given) → AreGiven gs → (r : ℕ) → set_below gs 1 r ≡ 0
none-set gs all r = by_place (ltb r 1) (λ e. grind (arith, nat_tests, value-low gs all))
  where
    by_place : (b : Bool) → (b ≡ true → value_of gs r ≡ 0) → cond b (value_of gs r) 0 ≡ 0
    by_place true f = f refl
    by_place false f = refl

all-set : (gs : List Given) → AreGiven gs → (r : ℕ) → set_below gs 32 r ≡ value_of gs r
all-set gs all r = by_place (ltb r 32) (λ e. sym (value-high gs all r (grind (arith, nat_tests))))
  where
    by_place : (b : Bool) → (b ≡ false → 0 ≡ value_of gs r) → cond b (value_of gs r) 0 ≡ value_of gs r
    by_place true f = refl
    by_place false f = f refl

one-set : (gs : List Given) (n v r : ℕ) → 1 ≤ n → v ≡ value_of gs n → with_register n v (set_below gs n) r ≡ set_below gs (n + 1) r
one-set gs n v r low e = elim (eqb_tells r n) [
  | inl t ↦ rw (different n 0 (λ z. omega arith), t.0, t.1, e) (grind (arith, nat_tests))
  | inr f ↦ rw (different n 0 (λ z. omega arith), f.0) (grind (arith, nat_tests))
]

-- how far the registers are set
abbrev pub HaveSet : List (Option ℕ) → Contents → Contents → ℕ → Type 0
HaveSet values old new n = (gs : List Given) → AreGiven gs → Holds gs values → (state_of old).reg ≡ (λ r. 0) → state_of new ≡ record (state_of old) { reg = set_below gs n }

pub have-none : (values : List (Option ℕ)) (old : Contents) → HaveSet values old old 1
have-none values old gs all h none = λ i. record (state_of old) { reg = (none ∙ (λ j r. sym (none-set gs all r) j)) i }

pub have-more : (values : List (Option ℕ)) (old new newer : Contents) (n v : ℕ) → 1 ≤ n → n < 32 → v ≡ value_in values n → HaveSet values old new n → state_of newer ≡ writes n v (state_of new)
    → HaveSet values old newer (n + 1)
have-more values old new newer n v low high e before written gs all h none =
    written ∙ ap (writes n v) (before gs all h none) ∙ (λ i. record (state_of old) { reg = λ r. one-set gs n v r low (e ∙ value-held gs values h n high) i })

pub have-all : (values : List (Option ℕ)) (old new : Contents) (n : ℕ) → n ≡ 32 → HaveSet values old new n → (gs : List Given) → AreGiven gs → Holds gs values → (state_of old).reg ≡ (λ r. 0)
    → state_of new ≡ record (state_of old) { reg = value_of gs }
have-all values old new n e before gs all h none =
    before gs all h none ∙ (λ i. record (state_of old) { reg = set_below gs (e i) }) ∙ (λ i. record (state_of old) { reg = λ r. all-set gs all r i })

-- ---- memory

or-or : (x y z : Option ℕ) → option_or x (option_or y z) ≡ option_or (option_or x y) z
or-or None y z = refl
or-or (Some v) y z = refl

padded-at : (from : List ℕ) (n k : ℕ) → length from ≤ n → option_or (slice_get from k) (slice_get (replicate n 0) k) ≡ slice_get (from ++ replicate (n - length from) 0) k
padded-at [] n k fits = let e : n ≡ n - 0 = omega arith in (λ i. slice_get (replicate (e i) 0) k)
padded-at (b ∷ bs) zero k fits = absurd (omega arith)
padded-at (b ∷ bs) (suc n) zero fits = refl
padded-at (b ∷ bs) (suc n) (suc k) fits =
    let e : n - length bs ≡ suc n - suc (length bs) = omega arith in padded-at bs n k (omega arith) ∙ (λ i. slice_get (bs ++ replicate (e i) 0) k)

-- zeros, and bytes over their front
pub over-zeros : (p : Piece) (m : Bytes) → length p.from ≤ p.size → over (bytes_from p.at p.from) (over (bytes_from p.at (replicate p.size 0)) m) ≡ over (bytes_from p.at (padded p)) m
over-zeros p m fits = let at : (q : ℕ) → over (bytes_from p.at p.from) (over (bytes_from p.at (replicate p.size 0)) m) q ≡ over (bytes_from p.at (padded p)) m q = λ q. here (leb p.at q) (q - p.at) (m q) in λ i q. at q i
  where
    here : (b : Bool) (k : ℕ) (o : Option ℕ)
        → option_or (cond b (slice_get p.from k) None) (option_or (cond b (slice_get (replicate p.size 0) k) None) o) ≡ option_or (cond b (slice_get (padded p) k) None) o
    here true k o = or-or (slice_get p.from k) (slice_get (replicate p.size 0) k) o ∙ (λ i. option_or (padded-at p.from p.size k fits i) o)
    here false k o = refl

pub piece-placed : (p : Piece) (s t u : State) → length p.from ≤ p.size → t ≡ with_bytes (bytes_from p.at (replicate p.size 0)) s → u ≡ with_bytes (bytes_from p.at p.from) t
    → u ≡ with_bytes (bytes_from p.at (padded p)) s
piece-placed p s t u fits zeros bytes = bytes ∙ ap (with_bytes (bytes_from p.at p.from)) zeros ∙ (λ i. record s { mem = over-zeros p s.mem fits i })

-- the pieces from place i on are in memory
abbrev pub HavePlaced : List Piece → Contents → Contents → ℕ → Type 0
HavePlaced ps old new i = state_of new ≡ with_bytes (bytes_in (drop i ps)) (state_of old)

pub placed-none : (ps : List Piece) (old : Contents) (n : ℕ) → n ≡ length ps → HavePlaced ps old old n
placed-none ps old n e = λ i. with_bytes (bytes_in (sym (nothing-left ps n e) i)) (state_of old)
  where
    nothing-left : (qs : List Piece) (m : ℕ) → m ≡ length qs → drop m qs ≡ []
    nothing-left [] zero e = refl
    nothing-left [] (suc m) e = refl
    nothing-left (q ∷ qs) zero e = absurd (omega arith)
    nothing-left (q ∷ qs) (suc m) e = nothing-left qs m (omega arith)

pub placed-more : (ps : List Piece) (old new newer : Contents) (i j : ℕ) (p : Piece) → i < length ps → p ≡ get_or ps i p → j ≡ suc i → HavePlaced ps old new j
    → state_of newer ≡ with_bytes (bytes_from p.at (padded p)) (state_of new) → HavePlaced ps old newer i
placed-more ps old new newer i j p lt item next before placed =
    placed ∙ ap (with_bytes (bytes_from p.at (padded p))) (before ∙ (λ k. with_bytes (bytes_in (drop (next k) ps)) (state_of old)))
    ∙ (λ k. record (state_of old) { mem = λ q. or-or (bytes_from p.at (padded p) q) (bytes_in (drop (suc i) ps) q) ((state_of old).mem q) k })
    ∙ (λ k. with_bytes (bytes_in (split k)) (state_of old))
  where
    split : p ∷ drop (suc i) ps ≡ drop i ps
    split = (λ k. item k ∷ drop (suc i) ps) ∙ sym (drop-cons ps i p lt)

-- ranges in memory

placed-last : (rs : List Range) (r : Range) (m : Bytes) → placed (rs ++ r ∷ []) m ≡ over (bytes_from r.at r.bytes) (placed rs m)
placed-last [] r m = refl
placed-last (q ∷ rs) r m = placed-last rs r (over (bytes_from q.at q.bytes) m)

pub placed-one-more : (rs : List Range) (m old new : Bytes) (i : ℕ) (r : Range) → i < length rs → r ≡ get_or rs i r → old ≡ placed (take i rs) m → new ≡ over (bytes_from r.at r.bytes) old
    → new ≡ placed (take (i + 1) rs) m
placed-one-more rs m old new i r lt item before put =
    let upto : take i rs ++ r ∷ [] ≡ take (i + 1) rs = (λ k. take i rs ++ item k ∷ []) ∙ sym (take_more rs i r lt) in
    put ∙ ap (over (bytes_from r.at r.bytes)) before ∙ sym (placed-last (take i rs) r m) ∙ (λ k. placed (upto k) m)

-- the ranges in front of place i are in memory
abbrev pub HaveRanges : List Range → Contents → Contents → ℕ → Type 0
HaveRanges rs old new i = state_of new ≡ with_placed (take i rs) (state_of old)

pub ranges-more : (rs : List Range) (old new newer : Contents) (i : ℕ) (r : Range) → i < length rs → r ≡ get_or rs i r → HaveRanges rs old new i
    → state_of newer ≡ with_bytes (bytes_from r.at r.bytes) (state_of new) → HaveRanges rs old newer (i + 1)
ranges-more rs old new newer i r lt item before put =
    let m = (state_of old).mem in
    let upto : take i rs ++ r ∷ [] ≡ take (i + 1) rs = (λ k. take i rs ++ item k ∷ []) ∙ sym (take_more rs i r lt) in
    put ∙ ap (with_bytes (bytes_from r.at r.bytes)) before ∙ (λ k. record (state_of old) { mem = sym (placed-last (take i rs) r m) k }) ∙ (λ k. with_placed (upto k) (state_of old))

-- the bytes of a range, one more

pub held-more : (m : Bytes) (at k : ℕ) (bytes more : List ℕ) (b : ℕ) → bytes ≡ map (λ j. unwrap_or (m (at + j)) 0) (range_with_len 0 k) → b ≡ unwrap_or (m (at + k)) 0 → more ≡ bytes ++ b ∷ []
    → more ≡ map (λ j. unwrap_or (m (at + j)) 0) (range_with_len 0 (k + 1))
held-more m at k bytes more b before is pushed =
    pushed ∙ (λ i. before i ++ is i ∷ []) ∙ sym (map-range_with_len_more (λ j. unwrap_or (m (at + j)) 0) 0 k k (omega arith))

pub held-all : (m : Bytes) (r : Range) (k : ℕ) (bytes : List ℕ) → k ≡ length r.bytes → bytes ≡ map (λ j. unwrap_or (m (r.at + j)) 0) (range_with_len 0 k)
    → ◌≡◌ {A = Range} (record { at = r.at; bytes = bytes }) (held_at m r)
held-all m r k bytes e is = λ i. record { at = r.at; bytes = (is ∙ (λ j. map (λ q. unwrap_or (m (r.at + q)) 0) (range_with_len 0 (e j)))) i }

-- ---- the whole state

pub begun : (file : List ℕ) (args : List Arg) (a : ℕ) (pieces : List Piece) (memory : List Range) (s t v u : State) → bytes_in pieces ≡ memory_of_file file → memory ≡ ranges First args → s ≡ empty_state a
    → t ≡ with_bytes (bytes_in pieces) s → v ≡ record t { mem = placed memory t.mem } → ((v.reg ≡ (λ r. 0)) → u ≡ record v { reg = value_of (givens args) }) → u ≡ state_given file args a
begun file args a pieces memory s t v u bytes same empty put over_it set =
    let loaded : t ≡ with_bytes (memory_of_file file) (empty_state a) = put ∙ (λ i. with_bytes (bytes i) (empty i)) in
    let here : v ≡ record { pc = a; reg = λ r. 0; mem = placed (ranges First args) (memory_of_file file) } =
    over_it ∙ (λ i. with_placed (same i) (loaded i)) ∙ (λ i. record { pc = a; reg = λ r. 0; mem = placed (ranges First args) (λ q. or-none (memory_of_file file q) i) }) in
    set (ap (λ (x : State). x.reg) here) ∙ ap (λ (x : State). record x { reg = value_of (givens args) }) here
  where
    or-none : (o : Option ℕ) → option_or o None ≡ o
    or-none None = refl
    or-none (Some v) = refl

-- ---- what is shown

map_same : (xs : List ℕ) → map (λ x. x) xs ≡ xs
map_same [] = refl
map_same (x ∷ xs) = ap (λ (l : List ℕ). x ∷ l) (map_same xs)

range-more : (a n j : ℕ) → a + n ≡ j → range_with_len a (n + 1) ≡ range_with_len a n ++ j ∷ []
range-more a n j e = sym (map_same (range_with_len a (n + 1))) ∙ map-range_with_len_more (λ x. x) a n j e ∙ ap (λ (l : List ℕ). l ++ j ∷ []) (map_same (range_with_len a n))

-- the registers below n that are shown, and their words
abbrev pub HaveShown : List (Option ℕ) → State → List ℕ → List ℕ → ℕ → Type 0
HaveShown values t rs ws n = (gs : List Given) → Holds gs values → (rs ≡ filter (is_shown gs t) (range_with_len 1 (n - 1))) × (ws ≡ map t.reg rs)

pub shown-none : (values : List (Option ℕ)) (t : State) → HaveShown values t [] [] 1
shown-none values t gs h = (refl, refl)

module _ (values : List (Option ℕ)) (t : State) (rs ws : List ℕ) (n : ℕ) (low : 1 ≤ n) (high : n < 32) (before : HaveShown values t rs ws n) where
  one-more : (gs : List Given) (b : Bool) → is_shown gs t n ≡ b → filter (is_shown gs t) (range_with_len 1 (n + 1 - 1)) ≡ filter (is_shown gs t) (range_with_len 1 (n - 1)) ++ cond b (n ∷ []) []
  one-more gs b e =
      let up : n + 1 - 1 ≡ n - 1 + 1 = omega arith in
      (λ i. filter (is_shown gs t) (range_with_len 1 (up i))) ∙ ap (filter (is_shown gs t)) (range-more 1 (n - 1) n (omega arith))
      ∙ filter-append (is_shown gs t) (range_with_len 1 (n - 1)) (n ∷ []) ∙ (λ i. filter (is_shown gs t) (range_with_len 1 (n - 1)) ++ cond (e i) (n ∷ []) [])

  pub shown-more : (w : ℕ) → w ≡ t.reg n → (is_some (given_in values n) || not (eqb w 0)) ≡ true → (more words : List ℕ) → more ≡ rs ++ n ∷ [] → words ≡ ws ++ w ∷ [] → HaveShown values t more words (n + 1)
  shown-more w e test more words p q gs h =
      let there : is_shown gs t n ≡ true = (λ i. is_some (sym (given-held gs values h n high) i) || not (eqb (sym e i) 0)) ∙ test in
      let b = before gs h in
      (p ∙ (λ i. b.0 i ++ n ∷ []) ∙ sym (one-more gs true there), q ∙ (λ i. b.1 i ++ e i ∷ []) ∙ sym (map-append t.reg rs (n ∷ [])) ∙ ap (map t.reg) (sym p))

  pub shown-same : (w : ℕ) → w ≡ t.reg n → (is_some (given_in values n) || not (eqb w 0)) ≡ false → (more words : List ℕ) → more ≡ rs → words ≡ ws → HaveShown values t more words (n + 1)
  shown-same w e test more words p q gs h =
      let hidden : is_shown gs t n ≡ false = (λ i. is_some (sym (given-held gs values h n high) i) || not (eqb (sym e i) 0)) ∙ test in
      let b = before gs h in
      (p ∙ b.0 ∙ sym (append-none (filter (is_shown gs t) (range_with_len 1 (n - 1)))) ∙ sym (one-more gs false hidden), q ∙ b.1 ∙ ap (map t.reg) (sym p))
    where
      append-none : (xs : List ℕ) → xs ++ [] ≡ xs
      append-none [] = refl
      append-none (x ∷ xs) = ap (λ (l : List ℕ). x ∷ l) (append-none xs)

-- whether a register is shown: by the value that it is given, if any, and its word
pub shown-given : (o : Option ℕ) (w : ℕ) → is_some o ≡ true → (is_some o || not (eqb w 0)) ≡ true
shown-given o w e = λ i. e i || not (eqb w 0)

pub shown-word : (o : Option ℕ) (w : ℕ) → w ≢ 0 → (is_some o || not (eqb w 0)) ≡ true
shown-word None w h = λ i. not (different w 0 h i)
shown-word (Some v) w h = refl

pub not-shown : (o : Option ℕ) (w : ℕ) → is_some o ≡ false → w ≡ 0 → (is_some o || not (eqb w 0)) ≡ false
not-shown o w e z = λ i. e i || not (eqb (z i) 0)

-- ---- the answer

abbrev shown_of : ℕ → ℕ → List ℕ → List ℕ → List Range → Shown
shown_of k pc rs ws memory = record { count = k; pc = pc; registers = rs; words = ws; memory = memory; stack = [] }

-- all registers were looked at
pub shown-all : (values : List (Option ℕ)) (t : State) (rs ws : List ℕ) (n : ℕ) → n ≡ 32 → HaveShown values t rs ws n → (gs : List Given) → Holds gs values → (k pc : ℕ) (memory : List Range) → pc ≡ t.pc
    → shown_of k pc rs ws memory ≡ shown_with gs k t memory
shown-all values t rs ws n e before gs h k pc memory p =
    let b = before gs h in
    let all : rs ≡ filter (is_shown gs t) (range_with_len 1 31) = b.0 ∙ (λ i. filter (is_shown gs t) (range_with_len 1 (e i - 1))) in
    λ i. shown_of k (p i) (all i) ((b.1 ∙ ap (map t.reg) all) i) memory

module _ (until steps : ℕ) (args : List Arg) (s begun t : State) (same : s ≡ begun) where
  pub met-given : (shown : Shown) (k : ℕ) (memory asked : List Range) → EndsIn until steps s t (end.Met k) → asked ≡ ranges First args → memory ≡ map (held_at t.mem) asked
      → shown ≡ shown_with (givens args) k t memory → MachineGives until steps args begun (answer.Met shown)
  met-given shown k memory asked ends m held is =
      let all = held ∙ ap (map (held_at t.mem)) m in
      (t, end.Met k, subst (λ (x : State). EndsIn until steps x t (end.Met k)) same ends, ap answer.Met (is ∙ ap (shown_with (givens args) k t) all))

  pub stuck-given : (k : ℕ) (why : Stuck) → EndsIn until steps s t (end.Stuck k why) → MachineGives until steps args begun (answer.Stuck k why)
  stuck-given k why ends = (t, end.Stuck k why, subst (λ (x : State). EndsIn until steps x t (end.Stuck k why)) same ends, refl)

  pub steps-given : EndsIn until steps s t end.Steps → MachineGives until steps args begun answer.StepsUsed
  steps-given ends = (t, end.Steps, subst (λ (x : State). EndsIn until steps x t end.Steps) same ends, refl)

module _ (file start : List ℕ) (until steps : ℕ) (args : List Arg) (at : ℕ) (small : length file ≤ elf_limit) (readable : IsReadable file) (stands : StandsFor file start (Ok at)) where
  -- an end's answer is none of those that come before a run
  image-gives : (a : RunAnswer) → MachineGives until steps args (state_given file args at) a → RunGives file start until steps args a
  image-gives a (t, how, ends, is) = subst (RunGives file start until steps args) (sym is) (of-end how ends)
    where
      of-end : (how : RunEnd) → EndsIn until steps (state_given file args at) t how → RunGives file start until steps args (answer_at args t how)
      of-end (end.Met k) ends = ((small, readable), at, t, end.Met k, stands, ends, refl)
      of-end (end.Stuck k why) ends = ((small, readable), at, t, end.Stuck k why, stands, ends, refl)
      of-end end.Steps ends = ((small, readable), at, t, end.Steps, stands, ends, refl)

  pub image-given : (result : Result RunAnswer NoMemory) → IfOk result (λ a. MachineGives until steps args (state_given file args at) a) → IfOk result (λ a. RunGives file start until steps args a)
  image-given (Err e) h = tt
  image-given (Ok a) h = image-gives a h
