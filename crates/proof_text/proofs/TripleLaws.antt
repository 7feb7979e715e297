-- Assertions, code and triples are read as they are spelled.
use Rattle.std.proofs.Common.{◌≡◌, ℕ, ◌<◌, Bool, true, false, cond, List, [], ◌∷◌, ◌++◌, map, codes, refl, sym, ap, subst, arith, append_assoc, inl, inr, ◌⊎◌}
use Rattle.std.specs.Prelude.{not}
use Rattle.std.specs.Fmt.{decimal}
use Rattle.std.specs.List.{AllByRecursion, flat_map}
use Rattle.std.proofs.lemmas.Bool.{and_parts, and_from, not-true}
use Rattle.mc_text.specs.Tokens.{Tok, Left, Right, Semi, Atom}
use Rattle.mc_text.specs.Reading.{Reader, pair, made, one, star, is_open, is_left, is_right}
use Rattle.mc_text.specs.inner.Reading.{is_semi, number_at, word, checked}
use Rattle.mc_text.proofs.ReaderLaws.{Reads, IsFlat, IsElse, flat-append, Reads-pair}
use Rattle.mc_text.proofs.Star.{Shrinks}
use Rattle.mc_text.proofs.Inline.{reads-list}
use Rattle.mc_text.proofs.Choices.{reads-made, reads-as, reads-told, reads-checked}
use Rattle.mc_text.proofs.Shown.{Always}
use Rattle.rv_words.specs.declared.range.Range.{Range}
use Rattle.word_terms.specs.Tree.{WordTree, MemTree}
use Rattle.group_text.specs.TermLimits.{depth_limit, IsWord, IsMem, IsRange}
use Rattle.group_text.specs.TermSpelling.{word_tokens, mem_tokens, range_tokens}
use Rattle.group_text.specs.TermReading.{word_at, mem_at, range_at, begins_mem}
use Rattle.group_text.proofs.TermFacts.{word-flat, mem-flat, range-flat, range-begins}
use Rattle.group_text.proofs.TermLaws.{word-law, range-law, range-shrinks}
use Rattle.sep_assert.specs.Tree.{AssertionTree}
use Rattle.triple_kernel.specs.Tree.{FactTree, TripleTree}
use Rattle.group_text.specs.Spelling.{number}
use Rattle.proof_text.specs.LineSpelling.{fact_tokens, register_tokens, assertion_tokens, same_ranges, code_tokens, triple_tokens}
use Rattle.proof_text.specs.LineLimits.{IsFact, IsAssertion, IsTriple}
use Rattle.group_text.specs.inner.Reading.{ranges_rise}
use Rattle.proof_text.specs.inner.LineReading.{register_at, has_rising, assertion_at, is_other_code, ranges_to_post, code_at, fact_at, triple_at}
use Rattle.group_text.proofs.StepLaws.{shrinks, atom-flat, name-law, number-law}
use Rattle.group_text.proofs.HeadLaws.{flat-each, rising-true, true-rising, IsCode, code-true, true-code}
use Rattle.proof_text.proofs.SameRanges.{same-ranges, ranges-same}
use Rattle.proof_text.proofs.Keyed.{Image, reads-image, reads-keyed, left-law, right-law, left-flat, right-flat, semi-flat}
use Rattle.proof_text.proofs.FactLaws.{behind-words, fact-law, fact-shrinks, fact-begins, fact-flat}

abbrev close : List Tok
close = Right ∷ []

-- ---- registers

abbrev pub IsRegister : ℕ × WordTree → Type 0
IsRegister r = (r.0 < 32) × IsWord r.1

abbrev RegisterParts : Type 0
RegisterParts = Unit {0} × (ℕ × (WordTree × Unit {0}))

abbrev register : RegisterParts → ℕ × WordTree
register x = (x.1.0, x.1.1.0)

register-law : Reads register_at IsRegister register_tokens
unfolding register_at
register-law = reads-made register _ _ _
    (Reads-pair (one is_left) Always (λ _. Left ∷ []) left-law (λ x h. left-flat) (pair (number_at 32) (pair (word_at depth_limit) (one is_right))) _ _
    (Reads-pair (number_at 32) (λ n. n < 32) number (number-law 32 (omega arith)) (λ n h. atom-flat (decimal n)) (pair (word_at depth_limit) (one is_right)) _ _
    (Reads-pair (word_at depth_limit) IsWord word_tokens word-law (λ t h. word-flat t) (one is_right) Always (λ _. close) right-law)))
    IsRegister register_tokens (λ x h. (h.1.0, h.1.1.0)) (λ x. refl) (λ r h. ((tt, (r.0, (r.1, tt))), refl, (tt, (h.0, (h.1, tt)))))

register-flat : (r : ℕ × WordTree) → IsFlat (register_tokens r)
register-flat r = flat-append (Left ∷ []) (number r.0 ++ (word_tokens r.1 ++ close)) left-flat
    (flat-append (number r.0) (word_tokens r.1 ++ close) (atom-flat (decimal r.0)) (flat-append (word_tokens r.1) close (word-flat r.1) right-flat))

pub register-shrinks : Shrinks register_at
register-shrinks = shrinks register_at IsRegister register_tokens register-law.takes (λ r h. omega arith)

-- ---- assertions

abbrev AssertionParts : Type 0
AssertionParts = Unit {0} × (WordTree × (List (ℕ × WordTree) × (Unit {0} × (List MemTree × Unit {0}))))

abbrev assertion : AssertionParts → AssertionTree
assertion x = record { pc = x.1.0; regs = x.1.1.0; mems = x.1.1.1.1.0 }

-- whether or not the registers rise
abbrev IsLoose : AssertionTree → Type 0
IsLoose a = IsWord a.pc × (AllByRecursion IsRegister a.regs × AllByRecursion IsMem a.mems)

abbrev loose_at : Reader AssertionTree
loose_at = made assertion (pair (one is_left) (pair (word_at depth_limit) (pair (star is_open register_at) (pair (one is_semi) (pair (star begins_mem (mem_at depth_limit)) (one is_right))))))

loose-law : Reads loose_at IsLoose assertion_tokens
loose-law = reads-made assertion _ _ _
    (Reads-pair (one is_left) Always (λ _. Left ∷ []) left-law (λ x h. left-flat) (pair (word_at depth_limit) (pair (star is_open register_at) (pair (one is_semi) (pair (star begins_mem (mem_at depth_limit)) (one is_right))))) _ _
    (Reads-pair (word_at depth_limit) IsWord word_tokens word-law (λ t h. word-flat t) (pair (star is_open register_at) (pair (one is_semi) (pair (star begins_mem (mem_at depth_limit)) (one is_right)))) _ _
    (reads-list is_open register_at register-shrinks IsRegister register_tokens register-law (λ r h. register-flat r) (λ r h us. refl) _ _ _ (behind-words (one is_right) Right right-law refl) (λ y h us. refl))))
    IsLoose assertion_tokens (λ x h. (h.1.0, (h.1.1.0, h.1.1.1.1.0))) (λ x. refl)
    (λ a h. ((tt, (a.pc, (a.regs, (tt, (a.mems, tt))))), refl, (tt, (h.0, (h.1.0, (tt, (h.1.1, tt)))))))

loose-flat : (a : AssertionTree) → IsLoose a → IsFlat (assertion_tokens a)
loose-flat a h =
    let regs = flat_map register_tokens a.regs in
    let mems = flat_map mem_tokens a.mems in
    flat-append (Left ∷ []) (word_tokens a.pc ++ (regs ++ (Semi ∷ (mems ++ close)))) left-flat
    (flat-append (word_tokens a.pc) (regs ++ (Semi ∷ (mems ++ close))) (word-flat a.pc)
    (flat-append regs (Semi ∷ (mems ++ close)) (flat-each IsRegister register_tokens (λ r f. register-flat r) a.regs h.1.0)
    (flat-append (Semi ∷ []) (mems ++ close) semi-flat
    (flat-append mems close (flat-each IsMem mem_tokens (λ m f. mem-flat m) a.mems h.1.1) right-flat))))

terms-of : (rs : List (ℕ × WordTree)) → AllByRecursion IsRegister rs → AllByRecursion (λ r. IsWord r.1) rs
terms-of [] h = tt
terms-of (r ∷ rs) h = (h.0.1, terms-of rs h.1)

pub registers-of : (rs : List (ℕ × WordTree)) → AllByRecursion (λ n. n < 32) (map (λ r. r.0) rs) → AllByRecursion (λ r. IsWord r.1) rs → AllByRecursion IsRegister rs
registers-of [] h k = tt
registers-of (r ∷ rs) h k = ((h.0, k.0), registers-of rs h.1 k.1)

abbrev numbers : AssertionTree → List ℕ
numbers a = map (λ r. r.0) a.regs

pub assertion-law : Reads assertion_at IsAssertion assertion_tokens
unfolding assertion_at
assertion-law = reads-as (checked has_rising loose_at) (λ a. IsLoose a × (has_rising a ≡ true)) IsAssertion assertion_tokens (reads-checked has_rising loose_at IsLoose assertion_tokens loose-law loose-flat)
    (λ a h. record { pc = h.0.0; registers = rising-true 1 (numbers a) h.1; words = terms-of a.regs h.0.1.0; mems = h.0.1.1 })
    (λ a h. let k = true-rising 1 (numbers a) h.registers in ((h.pc, (registers-of a.regs k.0 h.words, h.mems)), k.1))

pub registers-small : (a : AssertionTree) → IsAssertion a → AllByRecursion (λ n. n < 32) (map (λ r. r.0) a.regs)
registers-small a h = (true-rising 1 (numbers a) h.registers).0

pub assertion-flat : (a : AssertionTree) → IsAssertion a → IsFlat (assertion_tokens a)
assertion-flat a h = loose-flat a (h.pc, (registers-of a.regs (true-rising 1 (numbers a) h.registers).0 h.words, h.mems))

-- ---- code

abbrev post : List Tok
post = Atom (codes "post") ∷ []

abbrev post_at : Reader (Unit {0})
post_at = word (codes "post")

ranges-law : Reads ranges_to_post (AllByRecursion IsRange) (λ rs. flat_map range_tokens rs ++ post)
ranges-law = reads-made (λ (x : List Range × Unit {0}). x.0) (pair (star is_open range_at) post_at) _ _
    (reads-list is_open range_at range-shrinks IsRange range_tokens range-law (λ r h. range-flat r) (λ r h us. range-begins r us) post_at Always (λ _. post) (name-law (codes "post")) (λ y h us. refl))
    (AllByRecursion IsRange) (λ rs. flat_map range_tokens rs ++ post) (λ x h. h.0) (λ x. refl) (λ rs h. ((rs, tt), refl, (h, tt)))

ranges-flat : (rs : List Range) → AllByRecursion IsRange rs → IsFlat (flat_map range_tokens rs ++ post)
ranges-flat rs h = flat-append (flat_map range_tokens rs) post (flat-each IsRange range_tokens (λ r f. range-flat r) rs h) (atom-flat (codes "post"))

module _ (own : List Range) where
  abbrev chosen : List Range → Bool → List Tok
  chosen rs b = cond b (Atom (codes "all") ∷ []) (flat_map range_tokens rs)

  abbrev code_row : List Range → List Tok
  code_row rs = code_tokens own rs ++ post

  -- the group's own
  abbrev IsOwn : List Range → Type 0
  IsOwn = Image (λ (x : Unit {0}). own) Always

  own-law : Reads (made (λ (x : Unit {0}). own) post_at) IsOwn (λ rs. post)
  own-law = reads-image (λ (x : Unit {0}). own) post_at Always (λ _. post) (name-law (codes "post")) (λ rs. post) (λ x f. refl)

  -- another
  abbrev IsOther : List Range → Type 0
  IsOther rs = IsCode rs × (same_ranges rs own ≡ false)

  not-false : (b : Bool) → b ≡ false → not b ≡ true
  not-false b e = ap not e

  other-law : Reads (checked (is_other_code own) ranges_to_post) IsOther code_row
  other-law = reads-told (checked (is_other_code own) ranges_to_post) (λ rs. AllByRecursion IsRange rs × (is_other_code own rs ≡ true)) IsOther (λ rs. flat_map range_tokens rs ++ post) code_row
      (reads-checked (is_other_code own) ranges_to_post (AllByRecursion IsRange) (λ rs. flat_map range_tokens rs ++ post) ranges-law ranges-flat)
      (λ rs h. let k = and_parts (ranges_rise 0 rs) (not (same_ranges rs own)) h.1 in (code-true 0 rs h.0 k.0, not-true (same_ranges rs own) k.1))
      (λ rs h. let k = true-code 0 rs h.0.0 h.0.1 in (k.0, and_from (ranges_rise 0 rs) (not (same_ranges rs own)) k.1 (not-false (same_ranges rs own) h.1)))
      (λ rs h. let k = and_parts (ranges_rise 0 rs) (not (same_ranges rs own)) h.1 in ap (λ b. chosen rs b ++ post) (not-true (same_ranges rs own) k.1))

  own-hit : (rs : List Range) → IsOwn rs → code_row rs ≡ Atom (codes "all") ∷ post
  own-hit rs h = subst (λ qs. code_row qs ≡ Atom (codes "all") ∷ post) h.1 (ap (λ b. chosen own b ++ post) (ranges-same own))

  abbrev Else : List Tok → Type 0
  Else ts = IsElse (codes "all") (made (λ (x : Unit {0}). own) post_at) (checked (is_other_code own) ranges_to_post) ts

  ranges-else : (rs : List Range) (rest : List Tok) → Else ((flat_map range_tokens rs ++ post) ++ rest)
  ranges-else [] rest = refl
  ranges-else (r ∷ rs) rest = tt

  other-else : (rs : List Range) → IsOther rs → (rest : List Tok) → Else (code_row rs ++ rest)
  other-else rs h rest = subst (λ b. Else ((chosen rs b ++ post) ++ rest)) (sym h.1) (ranges-else rs rest)

  code-down : (rs : List Range) → IsCode rs → (b : Bool) → same_ranges rs own ≡ b → IsOwn rs ⊎ IsOther rs
  code-down rs h true e = inl (tt, sym (same-ranges rs own e), tt)
  code-down rs h false e = inr (h, e)

  code-up : IsCode own → (rs : List Range) → IsOwn rs ⊎ IsOther rs → IsCode rs
  code-up fits rs (inl h) = subst IsCode h.1 fits
  code-up fits rs (inr h) = h.0

  code-law : IsCode own → Reads (code_at own) IsCode code_row
  unfolding code_at
  code-law fits = reads-as (code_at own) (λ rs. IsOwn rs ⊎ IsOther rs) IsCode code_row
      (reads-keyed (codes "all") (made (λ (x : Unit {0}). own) post_at) (checked (is_other_code own) ranges_to_post) IsOwn IsOther (λ rs. post) code_row own-law other-law own-hit other-else)
      (code-up fits) (λ rs h. code-down rs h (same_ranges rs own) refl)

  code-flat : (rs : List Range) → IsCode rs → IsFlat (code_row rs)
  code-flat rs h = by (same_ranges rs own)
    where
      by : (b : Bool) → IsFlat (chosen rs b ++ post)
      by true = flat-append (Atom (codes "all") ∷ []) post (atom-flat (codes "all")) (atom-flat (codes "post"))
      by false = ranges-flat rs (true-code 0 rs h.0 h.1).0

  -- ---- triples

  abbrev TripleParts : Type 0
  TripleParts = List FactTree × (Unit {0} × (AssertionTree × (Unit {0} × (List Range × AssertionTree))))

  abbrev triple : TripleParts → TripleTree
  triple x = record { facts = x.0; pre = x.1.1.0; code = x.1.1.1.1.0; post = x.1.1.1.1.1 }

  -- the tokens behind the first word
  abbrev pub triple_rest : TripleTree → List Tok
  triple_rest t =
      flat_map fact_tokens t.facts ++
      (Atom (codes "pre") ∷ (assertion_tokens t.pre ++
      (Atom (codes "code") ∷ (code_row t.code ++
      assertion_tokens t.post))))

  pub triple-law : IsCode own → Reads (triple_at own) IsTriple triple_rest
  unfolding triple_at
  triple-law fits = reads-made triple _ _ _
      (reads-list is_open fact_at fact-shrinks IsFact fact_tokens fact-law fact-flat (λ x h us. fact-begins x us) (pair (word (codes "pre")) (pair assertion_at (pair (word (codes "code")) (pair (code_at own) assertion_at)))) _ _
      (Reads-pair (word (codes "pre")) Always (λ _. Atom (codes "pre") ∷ []) (name-law (codes "pre")) (λ x h. atom-flat (codes "pre")) (pair assertion_at (pair (word (codes "code")) (pair (code_at own) assertion_at))) _ _
      (Reads-pair assertion_at IsAssertion assertion_tokens assertion-law assertion-flat (pair (word (codes "code")) (pair (code_at own) assertion_at)) _ _
      (Reads-pair (word (codes "code")) Always (λ _. Atom (codes "code") ∷ []) (name-law (codes "code")) (λ x h. atom-flat (codes "code")) (pair (code_at own) assertion_at) _ _
      (Reads-pair (code_at own) IsCode code_row (code-law fits) code-flat assertion_at IsAssertion assertion_tokens assertion-law))))
      (λ y h us. refl))
      IsTriple triple_rest
      (λ x h. record { facts = h.0; pre = h.1.1.0; code = h.1.1.1.1.0.0; bytes = h.1.1.1.1.0.1; post = h.1.1.1.1.1 }) (λ x. refl)
      (λ t h. ((t.facts, (tt, (t.pre, (tt, (t.code, t.post))))), refl, (h.facts, (tt, (h.pre, (tt, ((h.code, h.bytes), h.post)))))))

  pub triple-spelled : (t : TripleTree) → triple_tokens own t ≡ Atom (codes "facts") ∷ triple_rest t
  triple-spelled t =
      ap (λ (ts : List Tok). Atom (codes "facts") ∷ (flat_map fact_tokens t.facts ++ (Atom (codes "pre") ∷ (assertion_tokens t.pre ++ (Atom (codes "code") ∷ ts)))))
      (sym (append_assoc (code_tokens own t.code) post (assertion_tokens t.post)))

  pub triple-flat : (t : TripleTree) → IsTriple t → IsFlat (triple_rest t)
  triple-flat t h =
      flat-append (flat_map fact_tokens t.facts) (Atom (codes "pre") ∷ (assertion_tokens t.pre ++ (Atom (codes "code") ∷ (code_row t.code ++ assertion_tokens t.post)))) (flat-each IsFact fact_tokens fact-flat t.facts h.facts)
      (flat-append (Atom (codes "pre") ∷ []) (assertion_tokens t.pre ++ (Atom (codes "code") ∷ (code_row t.code ++ assertion_tokens t.post))) (atom-flat (codes "pre"))
      (flat-append (assertion_tokens t.pre) (Atom (codes "code") ∷ (code_row t.code ++ assertion_tokens t.post)) (assertion-flat t.pre h.pre)
      (flat-append (Atom (codes "code") ∷ []) (code_row t.code ++ assertion_tokens t.post) (atom-flat (codes "code"))
      (flat-append (code_row t.code) (assertion_tokens t.post) (code-flat t.code (h.code, h.bytes)) (assertion-flat t.post h.post)))))
