-- Lines within bodies: values and steps are read as they are spelled.
use Rattle.std.proofs.Common.{◌≡◌, ℕ, ◌^◌, ◌<◌, ◌≤◌, true, List, [], ◌∷◌, ◌++◌, length, codes, Ok, refl, ap, arith, append_assoc, length-append, inl, inr, ◌⊎◌}
use Rattle.std.specs.List.{AllByRecursion, flat_map}
use Rattle.mc_text.specs.Number.{IsNumber, hex, hex_of, number_of}
use Rattle.mc_text.specs.Tokens.{Tok, Semi, Atom, Eol}
use Rattle.mc_text.specs.Reading.{Reader, pair, made, one, atom_of, below, star, goes_on, refused, address_at}
use Rattle.mc_text.specs.inner.Reading.{is_semi, is_eol, is_word, eol, word, keyed, number_at}
use Rattle.mc_text.proofs.Lines.{EndsIn, IsLines}
use Rattle.mc_text.proofs.ReaderLaws.{Reads, StaysFlat, IsFlat, Reads-one, Reads-pair}
use Rattle.mc_text.proofs.Star.{Shrinks}
use Rattle.mc_text.proofs.Inline.{reads-list}
use Rattle.mc_text.proofs.Choices.{reads-made}
use Rattle.mc_text.proofs.Shown.{Always, shows-semi, shows-eol, shows-word, shows-hex, shows-below}
use Rattle.mc_text.proofs.Covers.{Covers, Part, row-covers, covers-made, covers-part, part-refused, part-keyed, Never}
use Rattle.word_terms.specs.Tree.{WordTree, Const, MemTree, MemVar, CondTree, Compare}
use Rattle.rv_words.specs.declared.comparison.Cmp.TheVariants.{Eq}
use Rattle.group_text.specs.TermLimits.{depth_limit, IsWord, IsMem, IsCond}
use Rattle.group_text.specs.TermSpelling.{word_tokens, mem_tokens, cond_tokens}
use Rattle.group_text.specs.TermReading.{word_at, mem_at, cond_at, begins_word, begins_mem}
use Rattle.group_text.proofs.TermFacts.{word-flat, mem-flat, cond-flat, word-begins, mem-begins}
use Rattle.group_text.proofs.TermLaws.{word-law, mem-law, cond-law, word-shrinks, mem-shrinks}
use Rattle.tailrec_lang.specs.Tree.{ValuesTree, StepTree, Bind, BindMem, Need}
use Rattle.group_text.specs.Limits.{IsValues, IsStep}
use Rattle.group_text.specs.Spelling.{number, address, values_tokens, step_tokens}
use Rattle.group_text.specs.inner.Reading.{values_at, step_at, is_step, mark_row}

-- ---- the end of a line

pub ends-eol : (t : Tok) (v : List Tok) → EndsIn t (v ++ Eol ∷ [])
ends-eol t [] = refl
ends-eol t (u ∷ v) = ends-eol u v

pub lines-eol : (v : List Tok) → IsLines (v ++ Eol ∷ [])
lines-eol [] = refl
lines-eol (t ∷ v) = ends-eol t v

pub some-eol : (v : List Tok) → 0 < length (v ++ Eol ∷ [])
some-eol v = omega (arith, length-append v (Eol ∷ []))

-- ---- tokens by themselves

pub eol-law : Reads eol Always (λ _. Eol ∷ [])
eol-law = Reads-one is_eol Always (λ _. Eol) shows-eol

pub name-law : (k : List ℕ) → Reads (word k) Always (λ _. Atom k ∷ [])
name-law k = Reads-one (is_word k) Always (λ _. Atom k) (shows-word k)

pub atom-flat : (a : List ℕ) → IsFlat (Atom a ∷ [])
atom-flat a = (λ e. absurd cc, tt)

pub number-law : (limit : ℕ) → limit ≤ 2 ^ 64 → Reads (number_at limit) (λ n. n < limit) number
number-law limit le = Reads-one (atom_of (λ a. below limit (number_of 10 a))) (λ n. n < limit) _ (shows-below limit le)

pub address-law : Reads address_at IsNumber address
address-law = Reads-one (atom_of hex_of) IsNumber (λ n. Atom (hex n)) shows-hex

pub mark-law : (k : List ℕ) → Reads (mark_row k) (λ _. Unit {0} × Unit {0}) (λ _. Atom k ∷ Eol ∷ [])
mark-law k = Reads-pair (word k) Always (λ _. Atom k ∷ []) (name-law k) (λ x h. atom-flat k) eol Always (λ _. Eol ∷ []) eol-law

-- what was read is spelled, so something is
pub shrinks : {X : Type 0} (r : Reader X) (F : X → Type 0) (t : X → List Tok) → ((ts : List Tok) (x : X) (rest : List Tok) → r ts ≡ Ok (x, rest) → (ts ≡ t x ++ rest) × F x) → ((x : X) → F x → 0 < length (t x)) → Shrinks r
shrinks r F t takes some ts x rest e =
    let h = takes ts x rest e in
    let len : length ts ≡ length (t x ++ rest) = ap length h.0 in
    omega (arith, len, length-append (t x) rest, some x h.1)

-- ---- values

mems-law : Reads (pair (star begins_mem (mem_at depth_limit)) eol) (λ p. AllByRecursion IsMem p.0 × Always p.1) (λ p. flat_map mem_tokens p.0 ++ Eol ∷ [])
mems-law = reads-list begins_mem (mem_at depth_limit) (mem-shrinks depth_limit) IsMem mem_tokens mem-law (λ m h. mem-flat m) (λ m h us. mem-begins m us) eol Always (λ _. Eol ∷ []) eol-law (λ y h us. refl)

behind-words : Reads (pair (one is_semi) (pair (star begins_mem (mem_at depth_limit)) eol)) (λ p. Always p.0 × (AllByRecursion IsMem p.1.0 × Always p.1.1)) (λ p. Semi ∷ (flat_map mem_tokens p.1.0 ++ Eol ∷ []))
behind-words = Reads-pair (one is_semi) Always (λ _. Semi ∷ []) (Reads-one is_semi Always (λ _. Semi) shows-semi) (λ x h. (λ e. absurd cc, tt)) _ _ _ mems-law

abbrev Values : Type 0
Values = List WordTree × (Unit {0} × (List MemTree × Unit {0}))

values-row : Reads (pair (star begins_word (word_at depth_limit)) (pair (one is_semi) (pair (star begins_mem (mem_at depth_limit)) eol)))
    (λ (p : Values). AllByRecursion IsWord p.0 × (Always p.1.0 × (AllByRecursion IsMem p.1.1.0 × Always p.1.1.1))) (λ p. flat_map word_tokens p.0 ++ (Semi ∷ (flat_map mem_tokens p.1.1.0 ++ Eol ∷ [])))
values-row = reads-list begins_word (word_at depth_limit) (word-shrinks depth_limit) IsWord word_tokens word-law (λ t h. word-flat t) (λ t h us. word-begins t us) _ _ _ behind-words (λ y h us. refl)

abbrev pub values_row : ValuesTree → List Tok
values_row v = values_tokens v ++ Eol ∷ []

pub values-law : Reads values_at IsValues values_row
unfolding values_at
values-law = reads-made (λ (x : Values). record { words = x.0; mems = x.1.1.0 }) _ _ _ values-row IsValues values_row (λ x h. (h.0, h.1.1.0))
    (λ x. append_assoc (flat_map word_tokens x.0) (Semi ∷ flat_map mem_tokens x.1.1.0) (Eol ∷ [])) (λ v h. ((v.words, (tt, (v.mems, tt))), refl, (h.0, (tt, (h.1, tt)))))

pub values-cover : Covers values_at IsValues values_row
values-cover = row-covers values_at IsValues values_row values-law (λ v h. lines-eol (values_tokens v)) (record { words = []; mems = [] }) (tt, tt)

-- ---- steps

pub zero-word : IsWord (Const 0)
zero-word = omega arith

-- the tokens behind a step's first word
abbrev step_row : StepTree → List Tok
step_row (Bind t) = word_tokens t ++ Eol ∷ []
step_row (BindMem m) = mem_tokens m ++ Eol ∷ []
step_row (Need c) = cond_tokens c ++ Eol ∷ []

abbrev IsBind : StepTree → Type 0
IsBind (Bind t) = IsWord t
IsBind (BindMem m) = ⊥
IsBind (Need c) = ⊥

abbrev IsBindMem : StepTree → Type 0
IsBindMem (Bind t) = ⊥
IsBindMem (BindMem m) = IsMem m
IsBindMem (Need c) = ⊥

abbrev IsNeed : StepTree → Type 0
IsNeed (Bind t) = ⊥
IsNeed (BindMem m) = ⊥
IsNeed (Need c) = IsCond c

-- a line's tokens, up to its end
pub row-law : {X : Type 0} (r : Reader X) (F : X → Type 0) (t : X → List Tok) → Reads r F t → StaysFlat F t → Reads (pair r eol) (λ p. F p.0 × Always p.1) (λ p. t p.0 ++ Eol ∷ [])
row-law r F t law flat = Reads-pair r F t law flat eol Always (λ _. Eol ∷ []) eol-law

pub row-cover : {X : Type 0} (r : Reader X) (F : X → Type 0) (t : X → List Tok) → Reads r F t → StaysFlat F t → (x : X) → F x → Covers (pair r eol) (λ p. F p.0 × Always p.1) (λ p. t p.0 ++ Eol ∷ [])
row-cover r F t law flat x h = row-covers (pair r eol) _ _ (row-law r F t law flat) (λ p k. lines-eol (t p.0)) (x, tt) (h, tt)

bind-cover : Covers (made (λ (x : WordTree × Unit {0}). Bind x.0) (pair (word_at depth_limit) eol)) IsBind step_row
bind-cover = covers-made (λ (x : WordTree × Unit {0}). Bind x.0) _ _ _ (row-cover (word_at depth_limit) IsWord word_tokens word-law (λ t h. word-flat t) (Const 0) zero-word) IsBind step_row (λ x h. h.0) (λ x. refl)
    (elim [ Bind t ↦ λ h. ((t, tt), refl, (h, tt)) | BindMem m ↦ λ h. absurd h | Need c ↦ λ h. absurd h ])

bind-mem-cover : Covers (made (λ (x : MemTree × Unit {0}). BindMem x.0) (pair (mem_at depth_limit) eol)) IsBindMem step_row
bind-mem-cover = covers-made (λ (x : MemTree × Unit {0}). BindMem x.0) _ _ _ (row-cover (mem_at depth_limit) IsMem mem_tokens mem-law (λ m h. mem-flat m) (MemVar 0) (omega arith)) IsBindMem step_row (λ x h. h.0) (λ x. refl)
    (elim [ Bind t ↦ λ h. absurd h | BindMem m ↦ λ h. ((m, tt), refl, (h, tt)) | Need c ↦ λ h. absurd h ])

pub zero-cond : IsCond (Compare Eq (Const 0) (Const 0))
zero-cond = (omega arith, omega arith)

need-cover : Covers (made (λ (x : CondTree × Unit {0}). Need x.0) (pair (cond_at depth_limit) eol)) IsNeed step_row
need-cover = covers-made (λ (x : CondTree × Unit {0}). Need x.0) _ _ _ (row-cover (cond_at depth_limit) IsCond cond_tokens cond-law (λ c h. cond-flat c) (Compare Eq (Const 0) (Const 0)) zero-cond) IsNeed step_row (λ x h. h.0) (λ x. refl)
    (elim [ Bind t ↦ λ h. absurd h | BindMem m ↦ λ h. absurd h | Need c ↦ λ h. ((c, tt), refl, (h, tt)) ])

some-row : (s : StepTree) → 0 < length (step_row s)
some-row (Bind t) = some-eol (word_tokens t)
some-row (BindMem m) = some-eol (mem_tokens m)
some-row (Need c) = some-eol (cond_tokens c)

abbrev need_at : Reader StepTree
need_at = keyed (codes "need") (made (λ x. Need x.0) (pair (cond_at depth_limit) eol)) refused

abbrev bind_mem_at : Reader StepTree
bind_mem_at = keyed (codes "letm") (made (λ x. BindMem x.0) (pair (mem_at depth_limit) eol)) need_at

need-part : Part need_at (λ s. IsNeed s ⊎ Never s) IsStep step_tokens
need-part = part-keyed (codes "need") (made (λ x. Need x.0) (pair (cond_at depth_limit) eol)) refused IsNeed step_row need-cover Never IsStep step_tokens (part-refused IsStep step_tokens (Bind (Const 0)) zero-word)
    (λ s h. some-row s)
    (elim [ Bind t ↦ λ h. absurd h | BindMem m ↦ λ h. absurd h | Need c ↦ λ h. refl ])
    (elim [ Bind t ↦ λ h. absurd h | BindMem m ↦ λ h. absurd h | Need c ↦ λ h. h ])
    (λ s h. absurd h)

bind-mem-part : Part bind_mem_at (λ s. IsBindMem s ⊎ (IsNeed s ⊎ Never s)) IsStep step_tokens
bind-mem-part = part-keyed (codes "letm") (made (λ x. BindMem x.0) (pair (mem_at depth_limit) eol)) need_at IsBindMem step_row bind-mem-cover (λ s. IsNeed s ⊎ Never s) IsStep step_tokens need-part
    (λ s h. some-row s)
    (elim [ Bind t ↦ λ h. absurd h | BindMem m ↦ λ h. refl | Need c ↦ λ h. absurd h ])
    (elim [ Bind t ↦ λ h. absurd h | BindMem m ↦ λ h. h | Need c ↦ λ h. absurd h ])
    (elim [ Bind t ↦ λ h us. elim h [ inl k ↦ absurd k | inr k ↦ absurd k ] | BindMem m ↦ λ h us. elim h [ inl k ↦ absurd k | inr k ↦ absurd k ] | Need c ↦ λ h us. refl ])

abbrev IsAny : StepTree → Type 0
IsAny s = IsBind s ⊎ (IsBindMem s ⊎ (IsNeed s ⊎ Never s))

any-up : (s : StepTree) → IsStep s → IsAny s
any-up (Bind t) h = inl h
any-up (BindMem m) h = inr (inl h)
any-up (Need c) h = inr (inr (inl h))

any-down : (s : StepTree) → IsAny s → IsStep s
any-down (Bind t) (inl h) = h
any-down (Bind t) (inr (inl h)) = absurd h
any-down (Bind t) (inr (inr (inl h))) = absurd h
any-down (Bind t) (inr (inr (inr h))) = absurd h
any-down (BindMem m) (inl h) = absurd h
any-down (BindMem m) (inr (inl h)) = h
any-down (BindMem m) (inr (inr (inl h))) = absurd h
any-down (BindMem m) (inr (inr (inr h))) = absurd h
any-down (Need c) (inl h) = absurd h
any-down (Need c) (inr (inl h)) = absurd h
any-down (Need c) (inr (inr (inl h))) = h
any-down (Need c) (inr (inr (inr h))) = absurd h

pub step-cover : Covers step_at IsStep step_tokens
unfolding step_at
step-cover = covers-part step_at IsAny IsStep step_tokens
    (part-keyed (codes "let") (made (λ x. Bind x.0) (pair (word_at depth_limit) eol)) bind_mem_at IsBind step_row bind-cover (λ s. IsBindMem s ⊎ (IsNeed s ⊎ Never s)) IsStep step_tokens bind-mem-part
    (λ s h. some-row s)
    (elim [ Bind t ↦ λ h. refl | BindMem m ↦ λ h. absurd h | Need c ↦ λ h. absurd h ])
    (elim [ Bind t ↦ λ h. h | BindMem m ↦ λ h. absurd h | Need c ↦ λ h. absurd h ])
    (elim [
      | Bind t ↦ λ h us. elim h [ inl k ↦ absurd k | inr k ↦ elim k [ inl j ↦ absurd j | inr j ↦ absurd j ] ]
      | BindMem m ↦ λ h us. refl
      | Need c ↦ λ h us. refl
    ]))
    any-up any-down (Bind (Const 0)) zero-word

pub step-begins : (s : StepTree) (us : List Tok) → goes_on is_step (step_tokens s ++ us) ≡ true
step-begins (Bind t) us = refl
step-begins (BindMem m) us = refl
step-begins (Need c) us = refl

some-step : (s : StepTree) → 0 < length (step_tokens s)
some-step (Bind t) = omega arith
some-step (BindMem m) = omega arith
some-step (Need c) = omega arith

pub step-shrinks : Shrinks step_at
step-shrinks = shrinks step_at IsStep step_tokens step-cover.takes (λ s h. some-step s)
