-- Words, memories, conditions and ranges are read as they are spelled.
use Rattle.std.proofs.Common.{◌≡◌, ℕ, zero, suc, ◌<◌, List, [], ◌∷◌, ◌++◌, length, codes, Option, Some, None, refl, sym, ap, arith, length-append, inl, inr, ◌⊎◌}
use Rattle.hex.specs.Hex.{encode_lower}
use Rattle.mc_text.specs.Number.{hex, IsNumber, AreSomeBytes, hex_of, bytes_of_digits}
use Rattle.mc_text.specs.Tokens.{Tok, Left, Right, Atom}
use Rattle.mc_text.specs.Reading.{Reader, pair, with, one, is_left, is_right, atom_of, choice, refused, is_open}
use Rattle.mc_text.proofs.ReaderLaws.{Reads, Reads-one, Reads-pair, Reads-with, err-is}
use Rattle.mc_text.proofs.Choices.{reads-as, reads-choice, reads-made, reads-put}
use Rattle.mc_text.proofs.Shown.{Always, shows-left, shows-right, shows-hex, shows-bytes}
use Rattle.mc_text.proofs.Star.{Shrinks}
use Rattle.rv_words.specs.declared.width.Width.{Width}
use Rattle.word_terms.specs.Tree.{WordTree, Const, Var, Bin, Extend, Load, MemTree, MemVar, Store, CondTree, Compare, Neg, Inside}
use Rattle.group_text.specs.declared.term_heads.WordHead.{WordHead}
use Rattle.group_text.specs.declared.term_heads.WordHead.TheVariants as word_head
use Rattle.group_text.specs.declared.term_heads.CondHead.{CondHead}
use Rattle.group_text.specs.declared.term_heads.CondHead.TheVariants as cond_head
use Rattle.group_text.specs.TermLimits.{FitsWord, FitsMem, FitsCond, depth_limit, IsWord, IsMem, IsCond, IsRange}
use Rattle.group_text.specs.TermSpelling.{access_name, word_tokens, mem_tokens, cond_tokens, range_tokens}
use Rattle.group_text.specs.TermReading.{opened, form_of, word_head_of, cond_head_of, store_of, word_leaf_of, mem_leaf_of, word_parts, mem_parts, cond_parts, word_at, mem_at, cond_at, range_at}
use Rattle.group_text.proofs.NameTests.{word_head_name, cond_head_name, word-head-law, cond-head-law, store-head-law}
use Rattle.group_text.proofs.TermLeaves.{IsWordLeaf, IsMemLeaf, word-leaf-law, mem-leaf-law}
use Rattle.group_text.proofs.TermFacts.{word-flat, mem-flat, cond-flat, some-word, some-mem, some-cond}

-- a form whose parts are at most that deep
abbrev IsWordForm : ℕ → WordTree → Type 0
IsWordForm d (Const n) = ⊥
IsWordForm d (Var i) = ⊥
IsWordForm d (Bin op a b) = FitsWord d a × FitsWord d b
IsWordForm d (Extend ext a) = FitsWord d a
IsWordForm d (Load width m a) = FitsMem d m × FitsWord d a

abbrev IsMemForm : ℕ → MemTree → Type 0
IsMemForm d (MemVar i) = ⊥
IsMemForm d (Store width m a v) = FitsMem d m × FitsWord d a × FitsWord d v

-- ---- names of forms, and the tokens behind them

abbrev head_of_word : WordTree → Option WordHead
head_of_word (Const n) = None
head_of_word (Var i) = None
head_of_word (Bin op a b) = Some (word_head.Bin op)
head_of_word (Extend ext a) = Some (word_head.Extend ext)
head_of_word (Load width m a) = Some (word_head.Load width)

abbrev head_of_mem : MemTree → Option Width
head_of_mem (MemVar i) = None
head_of_mem (Store width m a v) = Some width

abbrev head_of_cond : CondTree → Option CondHead
head_of_cond (Compare cmp a b) = Some (cond_head.Compare cmp)
head_of_cond (Neg c) = Some cond_head.Neg
head_of_cond (Inside width m a) = Some (cond_head.Inside width)

abbrev end : List Tok
end = Right ∷ []

abbrev word_rest : WordTree → List Tok
word_rest (Const n) = []
word_rest (Var i) = []
word_rest (Bin op a b) = word_tokens a ++ (word_tokens b ++ end)
word_rest (Extend ext a) = word_tokens a ++ end
word_rest (Load width m a) = mem_tokens m ++ (word_tokens a ++ end)

abbrev mem_rest : MemTree → List Tok
mem_rest (MemVar i) = []
mem_rest (Store width m a v) = mem_tokens m ++ (word_tokens a ++ (word_tokens v ++ end))

abbrev cond_rest : CondTree → List Tok
cond_rest (Compare cmp a b) = word_tokens a ++ (word_tokens b ++ end)
cond_rest (Neg c) = cond_tokens c ++ end
cond_rest (Inside width m a) = mem_tokens m ++ (word_tokens a ++ end)

abbrev some : {X : Type 0} → X → Option X
some x = Some x

-- a form of that name
abbrev IsWordOf : ℕ → WordHead → WordTree → Type 0
IsWordOf d h t = IsWordForm d t × (head_of_word t ≡ some h)

abbrev IsMemOf : ℕ → Width → MemTree → Type 0
IsMemOf d h m = IsMemForm d m × (head_of_mem m ≡ some h)

abbrev IsCondOf : ℕ → CondHead → CondTree → Type 0
IsCondOf d h c = FitsCond (suc d) c × (head_of_cond c ≡ some h)

-- ---- one level above

right-law : Reads (one is_right) Always (λ x. end)
right-law = Reads-one is_right Always (λ x. Right) shows-right

module _ (d : ℕ) (words : Reads (word_at d) (FitsWord d) word_tokens) (mems : Reads (mem_at d) (FitsMem d) mem_tokens) where
  last-law : Reads (pair (word_at d) (one is_right)) (λ x. FitsWord d x.0 × Always x.1) (λ x. word_tokens x.0 ++ end)
  last-law = Reads-pair (word_at d) (FitsWord d) word_tokens words (λ t h. word-flat t) (one is_right) Always (λ x. end) right-law

  two-law : Reads (pair (word_at d) (pair (word_at d) (one is_right))) (λ x. FitsWord d x.0 × (FitsWord d x.1.0 × Always x.1.1)) (λ x. word_tokens x.0 ++ (word_tokens x.1.0 ++ end))
  two-law = Reads-pair (word_at d) (FitsWord d) word_tokens words (λ t h. word-flat t) (pair (word_at d) (one is_right)) _ _ last-law

  place-law : Reads (pair (mem_at d) (pair (word_at d) (one is_right))) (λ x. FitsMem d x.0 × (FitsWord d x.1.0 × Always x.1.1)) (λ x. mem_tokens x.0 ++ (word_tokens x.1.0 ++ end))
  place-law = Reads-pair (mem_at d) (FitsMem d) mem_tokens mems (λ m h. mem-flat m) (pair (word_at d) (one is_right)) _ _ last-law

  store-law : Reads (pair (mem_at d) (pair (word_at d) (pair (word_at d) (one is_right)))) (λ x. FitsMem d x.0 × (FitsWord d x.1.0 × (FitsWord d x.1.1.0 × Always x.1.1.1))) (λ x. mem_tokens x.0 ++ (word_tokens x.1.0 ++ (word_tokens x.1.1.0 ++ end)))
  store-law = Reads-pair (mem_at d) (FitsMem d) mem_tokens mems (λ m h. mem-flat m) (pair (word_at d) (pair (word_at d) (one is_right))) _ _ two-law

  -- ---- words

  word-parts-law : (h : WordHead) → Reads (word_parts (word_at d) (mem_at d) h) (IsWordOf d h) word_rest
  word-parts-law (word_head.Bin op) = reads-made (λ x. Bin op x.0 x.1.0) (pair (word_at d) (pair (word_at d) (one is_right))) _ _ two-law (IsWordOf d (word_head.Bin op)) word_rest (λ x h. ((h.0, h.1.0), refl)) (λ x. refl)
      (elim [
        | Const n ↦ λ g. absurd g.0
        | Var i ↦ λ g. absurd g.0
        | Bin f a b ↦ λ g. ((a, (b, tt)), (let same : f ≡ op = cc in ap (λ (k : _). Bin k a b) (sym same)), (g.0.0, (g.0.1, tt)))
        | Extend ext a ↦ λ g. absurd cc
        | Load width m a ↦ λ g. absurd cc
      ])
  word-parts-law (word_head.Extend ext) = reads-made (λ x. Extend ext x.0) (pair (word_at d) (one is_right)) _ _ last-law (IsWordOf d (word_head.Extend ext)) word_rest (λ x h. (h.0, refl)) (λ x. refl)
      (elim [
        | Const n ↦ λ g. absurd g.0
        | Var i ↦ λ g. absurd g.0
        | Bin op a b ↦ λ g. absurd cc
        | Extend f a ↦ λ g. ((a, tt), (let same : f ≡ ext = cc in ap (λ (k : _). Extend k a) (sym same)), (g.0, tt))
        | Load width m a ↦ λ g. absurd cc
      ])
  word-parts-law (word_head.Load width) = reads-made (λ x. Load width x.0 x.1.0) (pair (mem_at d) (pair (word_at d) (one is_right))) _ _ place-law (IsWordOf d (word_head.Load width)) word_rest (λ x h. ((h.0, h.1.0), refl)) (λ x. refl)
      (elim [
        | Const n ↦ λ g. absurd g.0
        | Var i ↦ λ g. absurd g.0
        | Bin op a b ↦ λ g. absurd cc
        | Extend ext a ↦ λ g. absurd cc
        | Load w m a ↦ λ g. ((m, (a, tt)), (let same : w ≡ width = cc in ap (λ (k : _). Load k m a) (sym same)), (g.0.0, (g.0.1, tt)))
      ])

  word-head-is : (t : WordTree) (h : WordHead) → head_of_word t ≡ some h → word_tokens t ≡ Left ∷ Atom (word_head_name h) ∷ word_rest t
  word-head-is (Const n) h e = absurd cc
  word-head-is (Var i) h e = absurd cc
  word-head-is (Bin op a b) h e = let same : word_head.Bin op ≡ h = cc in ap (λ (k : WordHead). Left ∷ Atom (word_head_name k) ∷ (word_tokens a ++ (word_tokens b ++ end))) same
  word-head-is (Extend ext a) h e = let same : word_head.Extend ext ≡ h = cc in ap (λ (k : WordHead). Left ∷ Atom (word_head_name k) ∷ (word_tokens a ++ end)) same
  word-head-is (Load width m a) h e = let same : word_head.Load width ≡ h = cc in ap (λ (k : WordHead). Left ∷ Atom (word_head_name k) ∷ (mem_tokens m ++ (word_tokens a ++ end))) same

  abbrev word_form : Reader WordTree
  word_form = form_of word_head_of (word_parts (word_at d) (mem_at d))

  word-form-law : Reads word_form (IsWordForm d) word_tokens
  word-form-law = reads-put (λ (x : WordHead × WordTree). x.1) (with (opened word_head_of) (word_parts (word_at d) (mem_at d))) _ _
      (Reads-with (opened word_head_of) Always (λ h. Left ∷ Atom (word_head_name h) ∷ []) word-head-law (λ h f. (λ e. absurd cc, (λ e. absurd cc, tt))) (word_parts (word_at d) (mem_at d)) (IsWordOf d) (λ h. word_rest) (λ h f. word-parts-law h))
      (IsWordForm d) word_tokens (λ x h. h.1.0) (λ x h. word-head-is x.1 x.0 h.1.1)
      (elim [
        | Const n ↦ λ g. absurd g
        | Var i ↦ λ g. absurd g
        | Bin op a b ↦ λ g. ((word_head.Bin op, Bin op a b), refl, (tt, (g, refl)))
        | Extend ext a ↦ λ g. ((word_head.Extend ext, Extend ext a), refl, (tt, (g, refl)))
        | Load width m a ↦ λ g. ((word_head.Load width, Load width m a), refl, (tt, (g, refl)))
      ])

  word-up : (t : WordTree) → IsWordForm d t ⊎ IsWordLeaf t → FitsWord (suc d) t
  word-up (Const n) (inl h) = absurd h
  word-up (Const n) (inr h) = h
  word-up (Var i) (inl h) = absurd h
  word-up (Var i) (inr h) = h
  word-up (Bin op a b) (inl h) = h
  word-up (Bin op a b) (inr h) = absurd h
  word-up (Extend ext a) (inl h) = h
  word-up (Extend ext a) (inr h) = absurd h
  word-up (Load width m a) (inl h) = h
  word-up (Load width m a) (inr h) = absurd h

  word-down : (t : WordTree) → FitsWord (suc d) t → IsWordForm d t ⊎ IsWordLeaf t
  word-down (Const n) h = inr h
  word-down (Var i) h = inr h
  word-down (Bin op a b) h = inl h
  word-down (Extend ext a) h = inl h
  word-down (Load width m a) h = inl h

  word-above : Reads (word_at (suc d)) (FitsWord (suc d)) word_tokens
  unfolding word_at
  word-above = reads-as (choice is_open word_form (one (atom_of word_leaf_of))) (λ t. IsWordForm d t ⊎ IsWordLeaf t) (FitsWord (suc d)) word_tokens
      (reads-choice is_open word_form (one (atom_of word_leaf_of)) (IsWordForm d) IsWordLeaf word_tokens word-form-law word-leaf-law
      (elim [ Const n ↦ λ h us. absurd h | Var i ↦ λ h us. absurd h | Bin op a b ↦ λ h us. refl | Extend ext a ↦ λ h us. refl | Load width m a ↦ λ h us. refl ])
      (elim [ Const n ↦ λ h us. refl | Var i ↦ λ h us. refl | Bin op a b ↦ λ h us. absurd h | Extend ext a ↦ λ h us. absurd h | Load width m a ↦ λ h us. absurd h ]))
      word-up word-down

  -- ---- memories

  mem-parts-law : (width : Width) → Reads (mem_parts (word_at d) (mem_at d) width) (IsMemOf d width) mem_rest
  mem-parts-law width = reads-made (λ x. Store width x.0 x.1.0 x.1.1.0) (pair (mem_at d) (pair (word_at d) (pair (word_at d) (one is_right)))) _ _ store-law (IsMemOf d width) mem_rest (λ x h. ((h.0, h.1.0, h.1.1.0), refl)) (λ x. refl)
      (elim [
        | MemVar i ↦ λ g. absurd g.0
        | Store w m a v ↦ λ g. ((m, (a, (v, tt))), (let same : w ≡ width = cc in ap (λ (k : Width). Store k m a v) (sym same)), (g.0.0, (g.0.1, (g.0.2, tt))))
      ])

  mem-head-is : (m : MemTree) (h : Width) → head_of_mem m ≡ some h → mem_tokens m ≡ Left ∷ Atom (access_name (codes "st") h) ∷ mem_rest m
  mem-head-is (MemVar i) h e = absurd cc
  mem-head-is (Store width m a v) h e = let same : width ≡ h = cc in ap (λ (k : Width). Left ∷ Atom (access_name (codes "st") k) ∷ (mem_tokens m ++ (word_tokens a ++ (word_tokens v ++ end)))) same

  abbrev mem_form : Reader MemTree
  mem_form = form_of store_of (mem_parts (word_at d) (mem_at d))

  mem-form-law : Reads mem_form (IsMemForm d) mem_tokens
  mem-form-law = reads-put (λ (x : Width × MemTree). x.1) (with (opened store_of) (mem_parts (word_at d) (mem_at d))) _ _
      (Reads-with (opened store_of) Always (λ h. Left ∷ Atom (access_name (codes "st") h) ∷ []) store-head-law (λ h f. (λ e. absurd cc, (λ e. absurd cc, tt))) (mem_parts (word_at d) (mem_at d)) (IsMemOf d) (λ h. mem_rest) (λ h f. mem-parts-law h))
      (IsMemForm d) mem_tokens (λ x h. h.1.0) (λ x h. mem-head-is x.1 x.0 h.1.1)
      (elim [ MemVar i ↦ λ g. absurd g | Store width m a v ↦ λ g. ((width, Store width m a v), refl, (tt, (g, refl))) ])

  mem-up : (m : MemTree) → IsMemForm d m ⊎ IsMemLeaf m → FitsMem (suc d) m
  mem-up (MemVar i) (inl h) = absurd h
  mem-up (MemVar i) (inr h) = h
  mem-up (Store width m a v) (inl h) = h
  mem-up (Store width m a v) (inr h) = absurd h

  mem-down : (m : MemTree) → FitsMem (suc d) m → IsMemForm d m ⊎ IsMemLeaf m
  mem-down (MemVar i) h = inr h
  mem-down (Store width m a v) h = inl h

  mem-above : Reads (mem_at (suc d)) (FitsMem (suc d)) mem_tokens
  unfolding word_at
  mem-above = reads-as (choice is_open mem_form (one (atom_of mem_leaf_of))) (λ m. IsMemForm d m ⊎ IsMemLeaf m) (FitsMem (suc d)) mem_tokens
      (reads-choice is_open mem_form (one (atom_of mem_leaf_of)) (IsMemForm d) IsMemLeaf mem_tokens mem-form-law mem-leaf-law
      (elim [ MemVar i ↦ λ h us. absurd h | Store width m a v ↦ λ h us. refl ])
      (elim [ MemVar i ↦ λ h us. refl | Store width m a v ↦ λ h us. absurd h ]))
      mem-up mem-down

  -- ---- conditions

  module _ (conds : Reads (cond_at d) (FitsCond d) cond_tokens) where
    neg-law : Reads (pair (cond_at d) (one is_right)) (λ x. FitsCond d x.0 × Always x.1) (λ x. cond_tokens x.0 ++ end)
    neg-law = Reads-pair (cond_at d) (FitsCond d) cond_tokens conds (λ c h. cond-flat c) (one is_right) Always (λ x. end) right-law

    cond-parts-law : (h : CondHead) → Reads (cond_parts (word_at d) (mem_at d) (cond_at d) h) (IsCondOf d h) cond_rest
    cond-parts-law (cond_head.Compare cmp) = reads-made (λ x. Compare cmp x.0 x.1.0) (pair (word_at d) (pair (word_at d) (one is_right))) _ _ two-law (IsCondOf d (cond_head.Compare cmp)) cond_rest (λ x h. ((h.0, h.1.0), refl)) (λ x. refl)
        (elim [
          | Compare f a b ↦ λ g. ((a, (b, tt)), (let same : f ≡ cmp = cc in ap (λ (k : _). Compare k a b) (sym same)), (g.0.0, (g.0.1, tt)))
          | Neg c ↦ λ g. absurd cc
          | Inside width m a ↦ λ g. absurd cc
        ])
    cond-parts-law cond_head.Neg = reads-made (λ x. Neg x.0) (pair (cond_at d) (one is_right)) _ _ neg-law (IsCondOf d cond_head.Neg) cond_rest (λ x h. (h.0, refl)) (λ x. refl)
        (elim [
          | Compare cmp a b ↦ λ g. absurd cc
          | Neg c ↦ λ g. ((c, tt), refl, (g.0, tt))
          | Inside width m a ↦ λ g. absurd cc
        ])
    cond-parts-law (cond_head.Inside width) = reads-made (λ x. Inside width x.0 x.1.0) (pair (mem_at d) (pair (word_at d) (one is_right))) _ _ place-law (IsCondOf d (cond_head.Inside width)) cond_rest (λ x h. ((h.0, h.1.0), refl)) (λ x. refl)
        (elim [
          | Compare cmp a b ↦ λ g. absurd cc
          | Neg c ↦ λ g. absurd cc
          | Inside w m a ↦ λ g. ((m, (a, tt)), (let same : w ≡ width = cc in ap (λ (k : Width). Inside k m a) (sym same)), (g.0.0, (g.0.1, tt)))
        ])

    cond-head-is : (c : CondTree) (h : CondHead) → head_of_cond c ≡ some h → cond_tokens c ≡ Left ∷ Atom (cond_head_name h) ∷ cond_rest c
    cond-head-is (Compare cmp a b) h e = let same : cond_head.Compare cmp ≡ h = cc in ap (λ (k : CondHead). Left ∷ Atom (cond_head_name k) ∷ (word_tokens a ++ (word_tokens b ++ end))) same
    cond-head-is (Neg c) h e = let same : cond_head.Neg ≡ h = cc in ap (λ (k : CondHead). Left ∷ Atom (cond_head_name k) ∷ (cond_tokens c ++ end)) same
    cond-head-is (Inside width m a) h e = let same : cond_head.Inside width ≡ h = cc in ap (λ (k : CondHead). Left ∷ Atom (cond_head_name k) ∷ (mem_tokens m ++ (word_tokens a ++ end))) same

    abbrev cond_form : Reader CondTree
    cond_form = form_of cond_head_of (cond_parts (word_at d) (mem_at d) (cond_at d))

    cond-form-law : Reads cond_form (FitsCond (suc d)) cond_tokens
    cond-form-law = reads-put (λ (x : CondHead × CondTree). x.1) (with (opened cond_head_of) (cond_parts (word_at d) (mem_at d) (cond_at d))) _ _
        (Reads-with (opened cond_head_of) Always (λ h. Left ∷ Atom (cond_head_name h) ∷ []) cond-head-law (λ h f. (λ e. absurd cc, (λ e. absurd cc, tt))) (cond_parts (word_at d) (mem_at d) (cond_at d)) (IsCondOf d) (λ h. cond_rest) (λ h f. cond-parts-law h))
        (FitsCond (suc d)) cond_tokens (λ x h. h.1.0) (λ x h. cond-head-is x.1 x.0 h.1.1)
        (elim [
          | Compare cmp a b ↦ λ g. ((cond_head.Compare cmp, Compare cmp a b), refl, (tt, (g, refl)))
          | Neg c ↦ λ g. ((cond_head.Neg, Neg c), refl, (tt, (g, refl)))
          | Inside width m a ↦ λ g. ((cond_head.Inside width, Inside width m a), refl, (tt, (g, refl)))
        ])

    cond-above : Reads (cond_at (suc d)) (FitsCond (suc d)) cond_tokens
    unfolding cond_at
    cond-above = cond-form-law

-- ---- at every level

-- where there is no room nothing is read
reads-none : {X : Type 0} (F : X → Type 0) (t : X → List Tok) → ((x : X) → F x → ⊥) → Reads (refused {X = X}) F t
reads-none {X} F t none = record {
  takes = λ ts x rest e. absurd cc;
  again = λ x rest h. absurd (none x h);
  stops = λ ts bad e. record { part = []; is = err-is {Y = X} ts bad e; flat = tt; fixed = λ o a. refl };
}

abbrev Both : ℕ → Type 0
Both d = Reads (word_at d) (FitsWord d) word_tokens × Reads (mem_at d) (FitsMem d) mem_tokens

both : (d : ℕ) → Both d
unfolding word_at
both zero = (reads-none (FitsWord zero) word_tokens (λ t h. h), reads-none (FitsMem zero) mem_tokens (λ m h. h))
both (suc d) = let below = both d in (word-above d below.0 below.1, mem-above d below.0 below.1)

pub word-law-at : (d : ℕ) → Reads (word_at d) (FitsWord d) word_tokens
word-law-at d = (both d).0

pub mem-law-at : (d : ℕ) → Reads (mem_at d) (FitsMem d) mem_tokens
mem-law-at d = (both d).1

pub cond-law-at : (d : ℕ) → Reads (cond_at d) (FitsCond d) cond_tokens
unfolding cond_at
cond-law-at zero = reads-none (FitsCond zero) cond_tokens (λ c h. h)
cond-law-at (suc d) = cond-above d (word-law-at d) (mem-law-at d) (cond-law-at d)

pub word-law : Reads (word_at depth_limit) IsWord word_tokens
word-law = word-law-at depth_limit

pub mem-law : Reads (mem_at depth_limit) IsMem mem_tokens
mem-law = mem-law-at depth_limit

pub cond-law : Reads (cond_at depth_limit) IsCond cond_tokens
cond-law = cond-law-at depth_limit

-- ---- ranges

abbrev RangeParts : Type 0
RangeParts = Unit {0} × (ℕ × (List ℕ × Unit {0}))

range-parts-law : Reads (pair (one is_left) (pair (one (atom_of hex_of)) (pair (one (atom_of bytes_of_digits)) (one is_right)))) (λ (x : RangeParts). Always x.0 × (IsNumber x.1.0 × (AreSomeBytes x.1.1.0 × Always x.1.1.1)))
    (λ x. Left ∷ Atom (hex x.1.0) ∷ Atom (encode_lower x.1.1.0) ∷ end)
range-parts-law =
    Reads-pair (one is_left) Always (λ x. Left ∷ []) (Reads-one is_left Always (λ x. Left) shows-left) (λ x h. (λ e. absurd cc, tt)) (pair (one (atom_of hex_of)) (pair (one (atom_of bytes_of_digits)) (one is_right))) _ _
    (Reads-pair (one (atom_of hex_of)) IsNumber (λ n. Atom (hex n) ∷ []) (Reads-one (atom_of hex_of) IsNumber (λ n. Atom (hex n)) shows-hex) (λ n h. (λ e. absurd cc, tt)) (pair (one (atom_of bytes_of_digits)) (one is_right)) _ _
    (Reads-pair (one (atom_of bytes_of_digits)) AreSomeBytes (λ bytes. Atom (encode_lower bytes) ∷ []) (Reads-one (atom_of bytes_of_digits) AreSomeBytes (λ bytes. Atom (encode_lower bytes)) shows-bytes) (λ bytes h. (λ e. absurd cc, tt)) (one is_right) Always (λ x. end) right-law))

pub range-law : Reads range_at IsRange range_tokens
unfolding range_at
range-law = reads-made (λ (x : RangeParts). record { at = x.1.0; bytes = x.1.1.0 }) (pair (one is_left) (pair (one (atom_of hex_of)) (pair (one (atom_of bytes_of_digits)) (one is_right)))) _ _ range-parts-law
    IsRange range_tokens (λ x h. (h.1.0, h.1.1.0)) (λ x. refl) (λ r h. ((tt, (r.at, (r.bytes, tt))), refl, (tt, (h.0, (h.1, tt)))))

-- ---- readers pass over tokens

reads-shrinks : {X : Type 0} (r : Reader X) (F : X → Type 0) (t : X → List Tok) → Reads r F t → ((x : X) → 0 < length (t x)) → Shrinks r
reads-shrinks r F t law more ts x rest e = let h = law.takes ts x rest e in omega (arith, more x, ap length h.0, length-append (t x) rest)

pub word-shrinks : (d : ℕ) → Shrinks (word_at d)
word-shrinks d = reads-shrinks (word_at d) (FitsWord d) word_tokens (word-law-at d) some-word

pub mem-shrinks : (d : ℕ) → Shrinks (mem_at d)
mem-shrinks d = reads-shrinks (mem_at d) (FitsMem d) mem_tokens (mem-law-at d) some-mem

pub cond-shrinks : (d : ℕ) → Shrinks (cond_at d)
cond-shrinks d = reads-shrinks (cond_at d) (FitsCond d) cond_tokens (cond-law-at d) some-cond

pub range-shrinks : Shrinks range_at
range-shrinks = reads-shrinks range_at IsRange range_tokens range-law (λ r. omega arith)
