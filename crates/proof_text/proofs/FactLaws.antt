-- Facts are read as they are spelled.
use Rattle.std.proofs.Common.{◌≡◌, ℕ, ◌^◌, ◌<◌, true, false, List, [], ◌∷◌, ◌++◌, length, codes, Some, refl, sym, ap, subst, arith, append_assoc}
use Rattle.std.specs.Fmt.{decimal}
use Rattle.std.specs.List.{AllByRecursion, flat_map}
use Rattle.mc_text.specs.Tokens.{Tok, Left, Right, Semi, Atom}
use Rattle.mc_text.specs.Reading.{Reader, pair, one, star, goes_on, is_open, is_right}
use Rattle.mc_text.specs.inner.Reading.{is_semi}
use Rattle.mc_text.proofs.ReaderLaws.{Reads, IsFlat, flat-append, Reads-pair}
use Rattle.mc_text.proofs.Star.{Shrinks}
use Rattle.mc_text.proofs.Inline.{reads-list}
use Rattle.mc_text.proofs.Choices.{reads-made}
use Rattle.mc_text.proofs.Shown.{Always}
use Rattle.word_terms.specs.Tree.{WordTree, MemTree, CondTree}
use Rattle.group_text.specs.TermLimits.{depth_limit, IsWord, IsMem, IsCond}
use Rattle.group_text.specs.TermSpelling.{word_tokens, mem_tokens, cond_tokens}
use Rattle.group_text.specs.TermReading.{word_at, mem_at, cond_at, begins_word, begins_mem, opened}
use Rattle.group_text.proofs.TermFacts.{word-flat, mem-flat, cond-flat, word-begins, mem-begins}
use Rattle.group_text.proofs.TermLaws.{word-law, mem-law, cond-law, word-shrinks, mem-shrinks}
use Rattle.tailrec_lang.specs.Tree.{ValuesTree}
use Rattle.triple_kernel.specs.Tree.{FactTree, WordIs, MemIs, So, Gives}
use Rattle.proof_text.specs.declared.line_heads.FactHead.{FactHead}
use Rattle.proof_text.specs.declared.line_heads.FactHead.TheVariants as fact_head
use Rattle.group_text.specs.Limits.{IsValues, index_limit}
use Rattle.group_text.specs.Spelling.{number, values_tokens}
use Rattle.proof_text.specs.LineSpelling.{fact_tokens}
use Rattle.proof_text.specs.LineLimits.{IsFact}
use Rattle.proof_text.specs.inner.LineReading.{index_at, values_with, fact_name, fact_heads, fact_head_of, fact_parts, fact_at}
use Rattle.group_text.proofs.StepLaws.{shrinks, atom-flat, number-law}
use Rattle.group_text.proofs.HeadLaws.{flat-each}
use Rattle.proof_text.proofs.Keyed.{Image, reads-image, reads-forms, named-law, opened-law, opened-flat, right-law, semi-law, right-flat, semi-flat}

-- ---- values, and a mark behind them

module _ (end : Reader (Unit {0})) (e : Tok) (law : Reads end Always (λ _. e ∷ [])) (quiet : begins_mem e ≡ false) where
  mems-with : Reads (pair (star begins_mem (mem_at depth_limit)) end) (λ p. AllByRecursion IsMem p.0 × Always p.1) (λ p. flat_map mem_tokens p.0 ++ e ∷ [])
  mems-with = reads-list begins_mem (mem_at depth_limit) (mem-shrinks depth_limit) IsMem mem_tokens mem-law (λ m h. mem-flat m) (λ m h us. mem-begins m us) end Always (λ _. e ∷ []) law (λ y h us. quiet)

  pub behind-words : Reads (pair (one is_semi) (pair (star begins_mem (mem_at depth_limit)) end)) (λ p. Always p.0 × (AllByRecursion IsMem p.1.0 × Always p.1.1)) (λ p. Semi ∷ (flat_map mem_tokens p.1.0 ++ e ∷ []))
  behind-words = Reads-pair (one is_semi) Always (λ _. Semi ∷ []) semi-law (λ x h. semi-flat) _ _ _ mems-with

  abbrev Values : Type 0
  Values = List WordTree × (Unit {0} × (List MemTree × Unit {0}))

  values-row : Reads (pair (star begins_word (word_at depth_limit)) (pair (one is_semi) (pair (star begins_mem (mem_at depth_limit)) end)))
      (λ (p : Values). AllByRecursion IsWord p.0 × (Always p.1.0 × (AllByRecursion IsMem p.1.1.0 × Always p.1.1.1))) (λ p. flat_map word_tokens p.0 ++ (Semi ∷ (flat_map mem_tokens p.1.1.0 ++ e ∷ [])))
  values-row = reads-list begins_word (word_at depth_limit) (word-shrinks depth_limit) IsWord word_tokens word-law (λ t h. word-flat t) (λ t h us. word-begins t us) _ _ _ behind-words (λ y h us. refl)

  pub values-with-law : Reads (values_with end) IsValues (λ v. values_tokens v ++ e ∷ [])
  values-with-law = reads-made (λ (x : Values). record { words = x.0; mems = x.1.1.0 }) _ _ _ values-row IsValues (λ v. values_tokens v ++ e ∷ []) (λ x h. (h.0, h.1.1.0))
      (λ x. append_assoc (flat_map word_tokens x.0) (Semi ∷ flat_map mem_tokens x.1.1.0) (e ∷ [])) (λ v h. ((v.words, (tt, (v.mems, tt))), refl, (h.0, (tt, (h.1, tt)))))

pub values-flat : (v : ValuesTree) → IsValues v → IsFlat (values_tokens v)
values-flat v h =
    flat-append (flat_map word_tokens v.words) (Semi ∷ flat_map mem_tokens v.mems) (flat-each IsWord word_tokens (λ t f. word-flat t) v.words h.0)
    ((λ e. absurd cc), flat-each IsMem mem_tokens (λ m f. mem-flat m) v.mems h.1)

-- ---- the parts of each form

abbrev close : List Tok
close = Right ∷ []

abbrev Numbered : ℕ → Type 0
Numbered n = n < index_limit

pub index-law : Reads index_at Numbered number
index-law = number-law (2 ^ 32) (omega arith)

abbrev TwoWords : Type 0
TwoWords = WordTree × (WordTree × Unit {0})

two-words : Reads (pair (word_at depth_limit) (pair (word_at depth_limit) (one is_right))) (λ (x : TwoWords). IsWord x.0 × (IsWord x.1.0 × Always x.1.1)) (λ x. word_tokens x.0 ++ (word_tokens x.1.0 ++ close))
two-words =
    Reads-pair (word_at depth_limit) IsWord word_tokens word-law (λ t h. word-flat t) (pair (word_at depth_limit) (one is_right)) _ _
    (Reads-pair (word_at depth_limit) IsWord word_tokens word-law (λ t h. word-flat t) (one is_right) Always (λ _. close) right-law)

abbrev TwoMems : Type 0
TwoMems = MemTree × (MemTree × Unit {0})

two-mems : Reads (pair (mem_at depth_limit) (pair (mem_at depth_limit) (one is_right))) (λ (x : TwoMems). IsMem x.0 × (IsMem x.1.0 × Always x.1.1)) (λ x. mem_tokens x.0 ++ (mem_tokens x.1.0 ++ close))
two-mems =
    Reads-pair (mem_at depth_limit) IsMem mem_tokens mem-law (λ t h. mem-flat t) (pair (mem_at depth_limit) (one is_right)) _ _
    (Reads-pair (mem_at depth_limit) IsMem mem_tokens mem-law (λ t h. mem-flat t) (one is_right) Always (λ _. close) right-law)

abbrev OneCond : Type 0
OneCond = CondTree × Unit {0}

one-cond : Reads (pair (cond_at depth_limit) (one is_right)) (λ (x : OneCond). IsCond x.0 × Always x.1) (λ x. cond_tokens x.0 ++ close)
one-cond = Reads-pair (cond_at depth_limit) IsCond cond_tokens cond-law (λ c h. cond-flat c) (one is_right) Always (λ _. close) right-law

abbrev BothValues : Type 0
BothValues = ℕ × (ℕ × (ValuesTree × ValuesTree))

abbrev FitBoth : BothValues → Type 0
FitBoth x = Numbered x.0 × (Numbered x.1.0 × (IsValues x.1.1.0 × IsValues x.1.1.1))

both-values : Reads (pair index_at (pair index_at (pair (values_with (one is_semi)) (values_with (one is_right))))) FitBoth
    (λ x. number x.0 ++ (number x.1.0 ++ ((values_tokens x.1.1.0 ++ Semi ∷ []) ++ (values_tokens x.1.1.1 ++ close))))
both-values =
    Reads-pair index_at Numbered number index-law (λ n h. atom-flat (decimal n)) (pair index_at (pair (values_with (one is_semi)) (values_with (one is_right)))) _ _
    (Reads-pair index_at Numbered number index-law (λ n h. atom-flat (decimal n)) (pair (values_with (one is_semi)) (values_with (one is_right))) _ _
    (Reads-pair (values_with (one is_semi)) IsValues (λ v. values_tokens v ++ Semi ∷ []) (values-with-law (one is_semi) Semi semi-law refl) (λ v h. flat-append (values_tokens v) (Semi ∷ []) (values-flat v h) semi-flat)
    (values_with (one is_right)) IsValues (λ v. values_tokens v ++ close) (values-with-law (one is_right) Right right-law refl)))

abbrev word_is : TwoWords → FactTree
word_is x = WordIs x.0 x.1.0

abbrev mem_is : TwoMems → FactTree
mem_is x = MemIs x.0 x.1.0

abbrev so : OneCond → FactTree
so x = So x.0

abbrev gives : BothValues → FactTree
gives x = Gives x.0 x.1.0 x.1.1.0 x.1.1.1

-- the facts of each form
abbrev FactOf : FactHead → FactTree → Type 0
FactOf fact_head.WordIs = Image word_is (λ x. IsWord x.0 × (IsWord x.1.0 × Always x.1.1))
FactOf fact_head.MemIs = Image mem_is (λ x. IsMem x.0 × (IsMem x.1.0 × Always x.1.1))
FactOf fact_head.So = Image so (λ x. IsCond x.0 × Always x.1)
FactOf fact_head.Gives = Image gives FitBoth

-- the tokens behind a form's name
abbrev fact_rest : FactTree → List Tok
fact_rest (WordIs a b) = word_tokens a ++ (word_tokens b ++ close)
fact_rest (MemIs a b) = mem_tokens a ++ (mem_tokens b ++ close)
fact_rest (So c) = cond_tokens c ++ close
fact_rest (Gives def exit args results) = number def ++ (number exit ++ (values_tokens args ++ (Semi ∷ (values_tokens results ++ close))))

fact-parts-law : (h : FactHead) → Reads (fact_parts h) (FactOf h) fact_rest
fact-parts-law fact_head.WordIs = reads-image word_is _ _ _ two-words fact_rest (λ x f. refl)
fact-parts-law fact_head.MemIs = reads-image mem_is _ _ _ two-mems fact_rest (λ x f. refl)
fact-parts-law fact_head.So = reads-image so _ _ _ one-cond fact_rest (λ x f. refl)
fact-parts-law fact_head.Gives = reads-image gives _ _ _ both-values fact_rest
    (λ x f. ap (λ (ts : List Tok). number x.0 ++ (number x.1.0 ++ ts)) (sym (append_assoc (values_tokens x.1.1.0) (Semi ∷ []) (values_tokens x.1.1.1 ++ close))))

-- ---- facts

fact-into : (h : FactHead) (x : FactTree) → FactOf h x → IsFact x
fact-into fact_head.WordIs x f = subst IsFact f.1 (f.2.0, f.2.1.0)
fact-into fact_head.MemIs x f = subst IsFact f.1 (f.2.0, f.2.1.0)
fact-into fact_head.So x f = subst IsFact f.1 f.2.0
fact-into fact_head.Gives x f = subst IsFact f.1 (f.2.0, f.2.1.0, f.2.1.1.0, f.2.1.1.1)

abbrev Named : FactHead → FactTree → Type 0
Named h x = fact_tokens x ≡ (Left ∷ Atom (fact_name h) ∷ []) ++ fact_rest x

fact-same : (h : FactHead) (x : FactTree) → FactOf h x → Named h x
fact-same fact_head.WordIs x f = subst (Named fact_head.WordIs) f.1 refl
fact-same fact_head.MemIs x f = subst (Named fact_head.MemIs) f.1 refl
fact-same fact_head.So x f = subst (Named fact_head.So) f.1 refl
fact-same fact_head.Gives x f = subst (Named fact_head.Gives) f.1 refl

fact-from : (x : FactTree) → IsFact x → (h : FactHead) × Always h × FactOf h x
fact-from (WordIs a b) f = (fact_head.WordIs, tt, ((a, (b, tt)), refl, (f.0, (f.1, tt))))
fact-from (MemIs a b) f = (fact_head.MemIs, tt, ((a, (b, tt)), refl, (f.0, (f.1, tt))))
fact-from (So c) f = (fact_head.So, tt, ((c, tt), refl, (f, tt)))
fact-from (Gives def exit args results) f = (fact_head.Gives, tt, ((def, (exit, (args, results))), refl, (f.0, (f.1, (f.2, f.3)))))

fact-named : (h : FactHead) → fact_head_of (fact_name h) ≡ Some h
unfolding fact_head_of
fact-named fact_head.WordIs = refl
fact-named fact_head.MemIs = refl
fact-named fact_head.So = refl
fact-named fact_head.Gives = refl

fact-head-law : Reads (opened fact_head_of) Always (λ h. Left ∷ Atom (fact_name h) ∷ [])
unfolding fact_head_of
fact-head-law = opened-law fact_head_of Always fact_name (named-law fact_name fact_heads fact-named)

pub fact-law : Reads fact_at IsFact fact_tokens
unfolding fact_at
fact-law = reads-forms (opened fact_head_of) Always (λ h. Left ∷ Atom (fact_name h) ∷ []) fact-head-law (λ h f. opened-flat (fact_name h)) fact_parts FactOf fact_rest fact-parts-law
    IsFact fact_tokens (λ h x k f. fact-into h x f) fact-same fact-from

some-fact : (x : FactTree) → 0 < length (fact_tokens x)
some-fact (WordIs a b) = omega arith
some-fact (MemIs a b) = omega arith
some-fact (So c) = omega arith
some-fact (Gives def exit args results) = omega arith

pub fact-shrinks : Shrinks fact_at
fact-shrinks = shrinks fact_at IsFact fact_tokens fact-law.takes (λ x h. some-fact x)

pub fact-begins : (x : FactTree) (us : List Tok) → goes_on is_open (fact_tokens x ++ us) ≡ true
fact-begins (WordIs a b) us = refl
fact-begins (MemIs a b) us = refl
fact-begins (So c) us = refl
fact-begins (Gives def exit args results) us = refl

pub fact-flat : (x : FactTree) → IsFact x → IsFlat (fact_tokens x)
fact-flat (WordIs a b) h = flat-append (Left ∷ Atom (codes "is") ∷ []) (word_tokens a ++ (word_tokens b ++ close)) (opened-flat (codes "is"))
    (flat-append (word_tokens a) (word_tokens b ++ close) (word-flat a) (flat-append (word_tokens b) close (word-flat b) right-flat))
fact-flat (MemIs a b) h = flat-append (Left ∷ Atom (codes "mis") ∷ []) (mem_tokens a ++ (mem_tokens b ++ close)) (opened-flat (codes "mis"))
    (flat-append (mem_tokens a) (mem_tokens b ++ close) (mem-flat a) (flat-append (mem_tokens b) close (mem-flat b) right-flat))
fact-flat (So c) h = flat-append (Left ∷ Atom (codes "so") ∷ []) (cond_tokens c ++ close) (opened-flat (codes "so")) (flat-append (cond_tokens c) close (cond-flat c) right-flat)
fact-flat (Gives def exit args results) h =
    flat-append (Left ∷ Atom (codes "gives") ∷ []) (number def ++ (number exit ++ (values_tokens args ++ (Semi ∷ (values_tokens results ++ close))))) (opened-flat (codes "gives"))
    (flat-append (number def) (number exit ++ (values_tokens args ++ (Semi ∷ (values_tokens results ++ close)))) (atom-flat (decimal def))
    (flat-append (number exit) (values_tokens args ++ (Semi ∷ (values_tokens results ++ close))) (atom-flat (decimal exit))
    (flat-append (values_tokens args) (Semi ∷ (values_tokens results ++ close)) (values-flat args h.2)
    (flat-append (Semi ∷ []) (values_tokens results ++ close) semi-flat (flat-append (values_tokens results) close (values-flat results h.3) right-flat)))))
