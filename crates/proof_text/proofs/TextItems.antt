-- The items of proofs, one after the other: their tokens by the code of the group that was opened last, and whether they fit by the lines of that group.
use Rattle.std.proofs.Common.{◌≡◌, List, [], ◌∷◌, ◌++◌, map, refl, sym, ap, subst, ◌∙◌, append_assoc}
use Rattle.std.specs.List.{flat_map}
use Rattle.std.proofs.lemmas.List.{append-nil}
use Rattle.mc_text.specs.Tokens.{Tok}
use Rattle.mc_text.proofs.Lines.{AreTokens, IsLines}
use Rattle.mc_text.proofs.Covers.{lines-append}
use Rattle.mc_text.proofs.Shown.{tokens-append}
use Rattle.rv_words.specs.declared.range.Range.{Range}
use Rattle.tailrec_lang.specs.Tree.{GroupTree}
use Rattle.group_text.specs.Spelling.{group_tokens}
use Rattle.group_text.specs.Limits.{IsGroupIn}
use Rattle.group_text.proofs.HeadLaws.{IsCode}
use Rattle.group_text.proofs.Parts.{group-whole}
use Rattle.group_text.proofs.Real.{group-tokens}
use Rattle.proof_text.specs.Line.{ProofOf}
use Rattle.proof_text.specs.Proofs.{bare}
use Rattle.proof_text.specs.FirstProofs.{ItemOf, Opens, Adds, items, with_line}
use Rattle.proof_text.specs.inner.LineReaders.{KnownTexts}
use Rattle.proof_text.proofs.KnownLines.{version, Line, Proof, Item, line_tokens, Are, Fits, proof_tokens, AreProofs, one-fits}

module _ {L : Type 0} where
  -- the code of the group that is open behind an item
  abbrev pub code_behind : List Range → ItemOf L → List Range
  code_behind own (Opens g) = g.code
  code_behind own (Adds l) = own

  -- and behind items
  abbrev pub last_code : List Range → List (ItemOf L) → List Range
  last_code own [] = own
  last_code own (i ∷ is) = last_code (code_behind own i) is

  -- the lines of that group behind an item
  abbrev pub lines_behind : List L → ItemOf L → List L
  lines_behind before (Opens g) = []
  lines_behind before (Adds l) = before ++ l ∷ []

  abbrev pub last_lines : List L → List (ItemOf L) → List L
  last_lines before [] = before
  last_lines before (i ∷ is) = last_lines (lines_behind before i) is

  -- nothing, or a group first
  abbrev pub StartsOpen : List (ItemOf L) → Type 0
  StartsOpen [] = Unit {0}
  StartsOpen (Opens g ∷ is) = Unit {0}
  StartsOpen (Adds l ∷ is) = ⊥

module _ (known : KnownTexts) where
  abbrev pub item_tokens : List Range → Item known → List Tok
  item_tokens own (Opens g) = group_tokens g
  item_tokens own (Adds l) = line_tokens known own l

  abbrev pub items_tokens : List Range → List (Item known) → List Tok
  items_tokens own [] = []
  items_tokens own (i ∷ is) = item_tokens own i ++ items_tokens (code_behind own i) is

  abbrev pub IsItem : List (Line known) → Item known → Type 0
  IsItem before (Opens g) = IsGroupIn (version known) g
  IsItem before (Adds l) = Fits known before l

  abbrev pub AreItems : List (Line known) → List (Item known) → Type 0
  AreItems before [] = Unit {0}
  AreItems before (i ∷ is) = IsItem before i × AreItems (lines_behind before i) is

  -- ---- proofs as items

  lines-items : (own : List Range) (ls : List (Line known)) (is : List (Item known)) → items_tokens own (map Adds ls ++ is) ≡ flat_map (line_tokens known own) ls ++ items_tokens own is
  lines-items own [] is = refl
  lines-items own (l ∷ ls) is = ap (λ (ts : List Tok). line_tokens known own l ++ ts) (lines-items own ls is) ∙ sym (append_assoc (line_tokens known own l) (flat_map (line_tokens known own) ls) (items_tokens own is))

  pub proofs-items : (own : List Range) (ps : List (Proof known)) → flat_map (proof_tokens known) ps ≡ items_tokens own (items ps)
  proofs-items own [] = refl
  proofs-items own (p ∷ ps) =
      let lines = flat_map (line_tokens known p.group.code) p.lines in
      append_assoc (group_tokens p.group) lines (flat_map (proof_tokens known) ps)
      ∙ ap (λ (ts : List Tok). group_tokens p.group ++ (lines ++ ts)) (proofs-items p.group.code ps)
      ∙ ap (λ (ts : List Tok). group_tokens p.group ++ ts) (sym (lines-items p.group.code p.lines (items ps)))

  lines-fit : (before ls : List (Line known)) (is : List (Item known)) → Are known (before ++ ls) → ((behind : List (Line known)) → AreItems behind is) → AreItems before (map Adds ls ++ is)
  lines-fit before [] is h k = k before
  lines-fit before (l ∷ ls) is h k = (one-fits known before l ls h, lines-fit (before ++ l ∷ []) ls is (subst (Are known) (sym (append_assoc before (l ∷ []) ls)) h) k)

  pub items-fit : (ps : List (Proof known)) → AreProofs known ps → (before : List (Line known)) → AreItems before (items ps)
  items-fit [] h before = tt
  items-fit (p ∷ ps) h before = (h.0.group, lines-fit [] p.lines (items ps) h.0.lines (items-fit ps h.1))

  fit-lines : (before ls : List (Line known)) (is : List (Item known)) → Are known before → AreItems before (map Adds ls ++ is) → Are known (before ++ ls) × AreItems (before ++ ls) is
  fit-lines before [] is are h = (subst (Are known) (sym (append-nil before)) are, subst (λ (b : List (Line known)). AreItems b is) (sym (append-nil before)) h)
  fit-lines before (l ∷ ls) is are h =
      let k = fit-lines (before ++ l ∷ []) ls is (known.laws.more before l are h.0) h.1 in
      (subst (Are known) (append_assoc before (l ∷ []) ls) k.0, subst (λ (b : List (Line known)). AreItems b is) (append_assoc before (l ∷ []) ls) k.1)

  pub fit-items : (before : List (Line known)) (ps : List (Proof known)) → AreItems before (items ps) → AreProofs known ps
  fit-items before [] h = tt
  fit-items before (p ∷ ps) h = let k = fit-lines [] p.lines (items ps) known.laws.none h.1 in (record { group = h.0; lines = k.0 }, fit-items p.lines ps k.1)

module _ {L : Type 0} where
  pub items-start : (ps : List (ProofOf L)) → StartsOpen (items ps)
  items-start [] = tt
  items-start (p ∷ ps) = tt

  -- a group more
  pub items-opened : (ps : List (ProofOf L)) (g : GroupTree) → items (ps ++ bare g ∷ []) ≡ items ps ++ Opens g ∷ []
  items-opened [] g = refl
  items-opened (p ∷ ps) g = ap (λ (is : List (ItemOf L)). Opens p.group ∷ (map Adds p.lines ++ is)) (items-opened ps g) ∙ ap (λ (is : List (ItemOf L)). Opens p.group ∷ is) (sym (append_assoc (map Adds p.lines) (items ps) (Opens g ∷ [])))

  lines-more : (ls : List L) (l : L) → map Adds (ls ++ l ∷ []) ≡ map Adds ls ++ Adds l ∷ []
  lines-more [] l = refl
  lines-more (m ∷ ls) l = ap (λ (is : List (ItemOf L)). Adds m ∷ is) (lines-more ls l)

  -- a line more
  pub items-added : (ps : List (ProofOf L)) (p : ProofOf L) (l : L) → items (ps ++ with_line p l ∷ []) ≡ items (ps ++ p ∷ []) ++ Adds l ∷ []
  items-added [] p l =
      ap (λ (is : List (ItemOf L)). Opens p.group ∷ is) (append-nil (map Adds (p.lines ++ l ∷ [])) ∙ lines-more p.lines l ∙ ap (λ (is : List (ItemOf L)). is ++ Adds l ∷ []) (sym (append-nil (map Adds p.lines))))
  items-added (q ∷ ps) p l =
      ap (λ (is : List (ItemOf L)). Opens q.group ∷ (map Adds q.lines ++ is)) (items-added ps p l)
      ∙ ap (λ (is : List (ItemOf L)). Opens q.group ∷ is) (sym (append_assoc (map Adds q.lines) (items (ps ++ p ∷ [])) (Adds l ∷ [])))

  lines-keep : (own : List Range) (ls : List L) (is : List (ItemOf L)) → last_code own (map Adds ls ++ is) ≡ last_code own is
  lines-keep own [] is = refl
  lines-keep own (l ∷ ls) is = lines-keep own ls is

  -- the code of the last proof's group
  pub last-is : (own : List Range) (ps : List (ProofOf L)) (p : ProofOf L) → last_code own (items (ps ++ p ∷ [])) ≡ p.group.code
  last-is own [] p = lines-keep p.group.code p.lines []
  last-is own (q ∷ ps) p = lines-keep q.group.code q.lines (items (ps ++ p ∷ [])) ∙ last-is q.group.code ps p

  lines-lead : (before ls : List L) (is : List (ItemOf L)) → last_lines before (map Adds ls ++ is) ≡ last_lines (before ++ ls) is
  lines-lead before [] is = ap (λ (b : List L). last_lines b is) (sym (append-nil before))
  lines-lead before (l ∷ ls) is = lines-lead (before ++ l ∷ []) ls is ∙ ap (λ (b : List L). last_lines b is) (append_assoc before (l ∷ []) ls)

  -- and the lines of the last proof
  pub last-lines : (before : List L) (ps : List (ProofOf L)) (p : ProofOf L) → last_lines before (items (ps ++ p ∷ [])) ≡ p.lines
  last-lines before [] p = lines-lead [] p.lines []
  last-lines before (q ∷ ps) p = lines-lead [] q.lines (items (ps ++ p ∷ [])) ∙ last-lines q.lines ps p

module _ (known : KnownTexts) where
  -- ---- one item more

  pub tokens-more : (own : List Range) (is : List (Item known)) (i : Item known) → items_tokens known own (is ++ i ∷ []) ≡ items_tokens known own is ++ item_tokens known (last_code own is) i
  tokens-more own [] i = append-nil (item_tokens known own i)
  tokens-more own (j ∷ is) i = ap (λ (ts : List Tok). item_tokens known own j ++ ts) (tokens-more (code_behind own j) is i) ∙ sym (append_assoc (item_tokens known own j) (items_tokens known (code_behind own j) is) (item_tokens known (last_code (code_behind own j) is) i))

  pub tokens-behind : (own : List Range) (is js : List (Item known)) → items_tokens known own (is ++ js) ≡ items_tokens known own is ++ items_tokens known (last_code own is) js
  tokens-behind own [] js = refl
  tokens-behind own (i ∷ is) js = ap (λ (ts : List Tok). item_tokens known own i ++ ts) (tokens-behind (code_behind own i) is js) ∙ sym (append_assoc (item_tokens known own i) (items_tokens known (code_behind own i) is) (items_tokens known (last_code (code_behind own i) is) js))

  pub items-more : (before : List (Line known)) (is : List (Item known)) (i : Item known) → AreItems known before is → IsItem known (last_lines before is) i → AreItems known before (is ++ i ∷ [])
  items-more before [] i h k = (k, tt)
  items-more before (j ∷ is) i h k = (h.0, items-more (lines_behind before j) is i h.1 k)

  pub items-fewer : (before : List (Line known)) (is js : List (Item known)) → AreItems known before (is ++ js) → AreItems known before is × AreItems known (last_lines before is) js
  items-fewer before [] js h = (tt, h)
  items-fewer before (i ∷ is) js h = let k = items-fewer (lines_behind before i) is js h.1 in ((h.0, k.0), k.1)

module _ {L : Type 0} where
  pub starts-fewer : (is js : List (ItemOf L)) → StartsOpen (is ++ js) → StartsOpen is
  starts-fewer [] js h = tt
  starts-fewer (Opens g ∷ is) js h = tt
  starts-fewer (Adds l ∷ is) js h = h

  -- the last of them is determined
  item-first : (x y : ItemOf L) (xs ys : List (ItemOf L)) → x ∷ xs ≡ y ∷ ys → (x ≡ y) × (xs ≡ ys)
  item-first x y xs ys e = (cc, cc)

  no-more : (is : List (ItemOf L)) (j : ItemOf L) (js : List (ItemOf L)) → is ++ j ∷ js ≡ [] → ⊥
  no-more [] j js e = absurd cc
  no-more (i ∷ is) j js e = absurd cc

  pub last-once : (is js : List (ItemOf L)) (x y : ItemOf L) → is ++ x ∷ [] ≡ js ++ y ∷ [] → (is ≡ js) × (x ≡ y)
  last-once [] [] x y e = (refl, (item-first x y [] [] e).0)
  last-once [] (j ∷ js) x y e = absurd (no-more js y [] (sym (item-first x j [] (js ++ y ∷ []) e).1))
  last-once (i ∷ is) [] x y e = absurd (no-more is x [] (item-first i y (is ++ x ∷ []) [] e).1)
  last-once (i ∷ is) (j ∷ js) x y e =
      let h = item-first i j (is ++ x ∷ []) (js ++ y ∷ []) e in
      let k = last-once is js x y h.1 in
      ((λ n. h.0 n ∷ k.0 n), k.1)

  -- the last item is the last of those behind
  last-behind : (is : List (ItemOf L)) (j : ItemOf L) (js before : List (ItemOf L)) (x : ItemOf L) → is ++ j ∷ js ≡ before ++ x ∷ [] → (b : List (ItemOf L)) × (j ∷ js ≡ b ++ x ∷ [])
  last-behind [] j js before x e = (before, e)
  last-behind (i ∷ is) j js [] x e = absurd (no-more is j js (item-first i x (is ++ j ∷ js) [] e).1)
  last-behind (i ∷ is) j js (b ∷ before) x e = last-behind is j js before x (item-first i b (is ++ j ∷ js) (before ++ x ∷ []) e).1

  abbrev opens : GroupTree → ItemOf L
  opens g = Opens g

  same-group : (g h : GroupTree) → opens g ≡ opens h → g ≡ h
  same-group g h e = cc

  not-line : (l : L) (g : GroupTree) → Adds l ≡ opens g → ⊥
  not-line l g e = cc

  -- behind lines no group is last
  last-line : (l : L) (ls : List L) (before : List (ItemOf L)) (g : GroupTree) → map Adds (l ∷ ls) ++ [] ≡ before ++ Opens g ∷ [] → ⊥
  last-line l [] before g e = not-line l g (last-once [] before (Adds l) (Opens g) e).1
  last-line l (m ∷ ls) [] g e = not-line l g (item-first (Adds l) (Opens g) (map Adds (m ∷ ls) ++ []) [] e).0
  last-line l (m ∷ ls) (b ∷ before) g e = last-line m ls before g (item-first (Adds l) b (map Adds (m ∷ ls) ++ []) (before ++ Opens g ∷ []) e).1

  -- where a group is last, the last proof has no lines
  pub last-bare : (ps : List (ProofOf L)) (before : List (ItemOf L)) (g : GroupTree) → items ps ≡ before ++ Opens g ∷ [] → (qs : List (ProofOf L)) × (ps ≡ qs ++ bare g ∷ [])
  last-bare [] before g e = absurd (no-more before (Opens g) [] (sym e))
  last-bare (p ∷ []) before g e = by p.lines refl e
    where
      by : (ls : List L) → p.lines ≡ ls → Opens p.group ∷ (map Adds ls ++ []) ≡ before ++ Opens g ∷ [] → (qs : List (ProofOf L)) × (p ∷ [] ≡ qs ++ bare g ∷ [])
      by [] none e = let same = same-group p.group g (last-once [] before (Opens p.group) (Opens g) e).1 in ([], λ i. record { group = same i; lines = none i } ∷ [])
      by (l ∷ ls) some e = let k = last-behind (Opens p.group ∷ []) (Adds l) (map Adds ls ++ []) before (Opens g) e in absurd (last-line l ls k.0 g k.1)
  last-bare (p ∷ q ∷ ps) before g e =
      let k = last-behind (Opens p.group ∷ map Adds p.lines) (Opens q.group) (map Adds q.lines ++ items ps) before (Opens g) e in
      let r = last-bare (q ∷ ps) k.0 g k.1 in
      (p ∷ r.0, ap (λ (v : List (ProofOf L)). p ∷ v) r.1)

module _ (known : KnownTexts) where
  -- ---- codes and lines of groups

  pub own-code : (own : List Range) (before : List (Line known)) (i : Item known) → IsCode own → IsItem known before i → IsCode (code_behind own i)
  own-code own before (Opens g) h k = (k.code, k.bytes)
  own-code own before (Adds l) h k = h

  pub last-fits : (own : List Range) (before : List (Line known)) (is : List (Item known)) → IsCode own → AreItems known before is → IsCode (last_code own is)
  last-fits own before [] h k = h
  last-fits own before (i ∷ is) h k = last-fits (code_behind own i) (lines_behind before i) is (own-code own before i h k.0) k.1

  own-lines : (before : List (Line known)) (i : Item known) → Are known before → IsItem known before i → Are known (lines_behind before i)
  own-lines before (Opens g) h k = known.laws.none
  own-lines before (Adds l) h k = known.laws.more before l h k

  pub last-are : (before : List (Line known)) (is : List (Item known)) → Are known before → AreItems known before is → Are known (last_lines before is)
  last-are before [] h k = h
  last-are before (i ∷ is) h k = last-are (lines_behind before i) is (own-lines before i h k.0) k.1

  -- ---- whole lines

  pub item-whole : (own : List Range) (i : Item known) → IsLines (item_tokens known own i)
  item-whole own (Opens g) = group-whole g
  item-whole own (Adds l) = known.laws.whole own l

  pub items-whole : (own : List Range) (is : List (Item known)) → IsLines (items_tokens known own is)
  items-whole own [] = tt
  items-whole own (i ∷ is) = lines-append (item_tokens known own i) (items_tokens known (code_behind own i) is) (item-whole own i) (items-whole (code_behind own i) is)

  pub item-real : (own : List Range) (before : List (Line known)) (i : Item known) → IsItem known before i → AreTokens (item_tokens known own i)
  item-real own before (Opens g) h = group-tokens known.version g h
  item-real own before (Adds l) h = known.laws.real own before l h

  pub items-real : (own : List Range) (before : List (Line known)) (is : List (Item known)) → AreItems known before is → AreTokens (items_tokens known own is)
  items-real own before [] h = tt
  items-real own before (i ∷ is) h = tokens-append (item_tokens known own i) (items_tokens known (code_behind own i) is) (item-real own before i h.0) (items-real (code_behind own i) (lines_behind before i) is h.1)
