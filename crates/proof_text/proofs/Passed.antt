-- Reading a whole text, behind the items that were given.
use Rattle.std.proofs.Common.{◌≡◌, Bool, true, false, List, [], ◌∷◌, ◌++◌, map, Option, Some, None, Ok, Err, refl, sym, ap, ◌∙◌, append_assoc}
use Rattle.std.proofs.lemmas.List.{append-nil}
use Rattle.mc_text.specs.Tokens.{Tok}
use Rattle.mc_text.specs.Reading.{◌>>=◌, pair, goes_on}
use Rattle.mc_text.proofs.Lines.{AreTokens, IsLines}
use Rattle.mc_text.proofs.ReaderLaws.{Out}
use Rattle.mc_text.proofs.Covers.{lines-append}
use Rattle.mc_text.proofs.Shown.{tokens-append}
use Rattle.rv_words.specs.declared.range.Range.{Range}
use Rattle.tailrec_lang.specs.Tree.{GroupTree}
use Rattle.group_text.specs.Limits.{IsGroupIn}
use Rattle.group_text.specs.Spelling.{group_tokens, title_tokens}
use Rattle.group_text.specs.inner.Reading.{is_def, next_at, title_row, turn_at}
use Rattle.group_text.proofs.HeadLaws.{IsCode}
use Rattle.group_text.proofs.Texts.{title-cover}
use Rattle.group_text.proofs.Real.{title-tokens}
use Rattle.proof_text.specs.FirstProofs.{ItemOf, Opens, Adds, items}
use Rattle.proof_text.specs.inner.LineReaders.{KnownTexts, ends_proof}
use Rattle.proof_text.proofs.KnownLines.{version, Line, Proof, Item, Tail, line_tokens, Are, turn, all, text_at}
use Rattle.proof_text.proofs.TextItems.{item_tokens, items_tokens, last_code, last_lines, IsItem, AreItems, StartsOpen, tokens-more, last-fits, last-are, item-whole, items-whole, item-real, items-real}
use Rattle.proof_text.proofs.Resumed.{made-bad, made-good, pair-good, with-bad, next-stops, next-end, next-takes, next-again, next-word, OneGroup, Tails, opened, added, rest_at, rest-none, rest-added, rest-refused, all-one}

module _ {L : Type 0} where
  -- the text begins here
  abbrev pub is_first : List (ItemOf L) → Bool
  is_first [] = true
  is_first (i ∷ is) = false

  -- no further definition follows a group
  abbrev pub Quiet : List (ItemOf L) → List Tok → Type 0
  Quiet is ts = (before : List (ItemOf L)) (g : GroupTree) → is ≡ before ++ Opens g ∷ [] → goes_on is_def ts ≡ false

  -- where a group may follow
  abbrev pub MayFollow : List (ItemOf L) → List Tok → Type 0
  MayFollow [] ts = Unit {0}
  MayFollow (i ∷ is) ts = goes_on ends_proof ts ≡ true

module _ (known : KnownTexts) where
  -- the tokens of the lines that were passed over
  abbrev pub front_tokens : List (Item known) → List Tok
  front_tokens [] = []
  front_tokens (i ∷ is) = title_tokens (version known) ++ items_tokens known [] (i ∷ is)

  -- the tokens of a group, behind the title where the text begins
  abbrev pub group_turn : Bool → GroupTree → List Tok
  group_turn true g = title_tokens (version known) ++ group_tokens g
  group_turn false g = group_tokens g

  abbrev Title : Type 0
  Title = Unit {0} × (Unit {0} × Unit {0})

  abbrev title : Title
  title = (tt, (tt, tt))

  title-again : (us : List Tok) → title_row (version known) (title_tokens (version known) ++ us) ≡ Ok (title, us)
  title-again us = (title-cover (version known)).again title us title

  -- the proofs alone
  abbrev only_proofs : Tails known → Out (List (Proof known))
  only_proofs q = ◌>>=◌ {A = Tail known × List Tok} {B = List (Proof known) × List Tok} q (λ p. Ok (p.0.1, p.1))

  titled : (q : Tails known) → ◌>>=◌ {A = (Title × Tail known) × List Tok} {B = List (Proof known) × List Tok} (◌>>=◌ {A = Tail known × List Tok} {B = (Title × Tail known) × List Tok} q (λ y. Ok ((title, y.0), y.1))) (λ p. Ok (p.0.1.1, p.1)) ≡ only_proofs q
  titled (Ok p) = refl
  titled (Err bad) = refl

  text-titled : (us : List Tok) → text_at known (title_tokens (version known) ++ us) ≡ only_proofs (all known us)
  text-titled us = rw (title-again us) (titled (all known us))

  turn-titled : (us : List Tok) (q : Out (Option GroupTree)) → next_at (version known) us ≡ q → turn_at (version known) true (title_tokens (version known) ++ us) ≡ q
  turn-titled us (Ok p) e = rw (title-again us, e) refl
  turn-titled us (Err bad) e = rw (title-again us, e) refl

  -- ---- where the text begins

  first-stops : (ts us : List Tok) → turn_at (version known) true ts ≡ Err us → text_at known ts ≡ Err us
  first-stops ts us h =
      let parts = made-bad {X = Title × Option GroupTree} {Y = Option GroupTree} (λ x. x.1) (pair (title_row (version known)) (next_at (version known)) ts) us h in
      rw (with-bad (title_row (version known)) (λ _. all known) (next_at (version known)) ts us (λ _. next-stops known) parts) refl

  first-end : (ts us : List Tok) → turn_at (version known) true ts ≡ Ok (None, us) → text_at known ts ≡ Ok ([], us)
  first-end ts us h =
      let m = made-good {X = Title × Option GroupTree} {Y = Option GroupTree} (λ x. x.1) (pair (title_row (version known)) (next_at (version known)) ts) None us h in
      let p = pair-good (title_row (version known)) (next_at (version known)) ts m.0 us m.1 in
      rw (p.1, next-end known p.0 us (p.2 ∙ ap (λ (o : Option GroupTree). Ok (o, us)) m.2)) refl

  first-takes : (ts : List Tok) (g : GroupTree) (us : List Tok) → turn_at (version known) true ts ≡ Ok (Some g, us) → (vs : List Tok) × (ts ≡ title_tokens (version known) ++ vs) × OneGroup known vs g us
  first-takes ts g us h =
      let m = made-good {X = Title × Option GroupTree} {Y = Option GroupTree} (λ x. x.1) (pair (title_row (version known)) (next_at (version known)) ts) (Some g) us h in
      let p = pair-good (title_row (version known)) (next_at (version known)) ts m.0 us m.1 in
      (p.0, ((title-cover (version known)).takes ts m.0.0 p.0 p.1).0, next-takes known p.0 g us (p.2 ∙ ap (λ (o : Option GroupTree). Ok (o, us)) m.2))

  -- ---- what a call reads

  pub record Turn (first : Bool) (ts : List Tok) (g : GroupTree) (us : List Tok) : Type 0 where
    pub is : ts ≡ group_turn first g ++ us
    pub fits : IsGroupIn (version known) g
    pub ended : goes_on is_def us ≡ false

  pub turn-takes : (first : Bool) (ts : List Tok) (g : GroupTree) (us : List Tok) → turn_at (version known) first ts ≡ Ok (Some g, us) → Turn first ts g us
  turn-takes true ts g us h =
      let k = first-takes ts g us h in
      record { is = k.1 ∙ ap (λ (v : List Tok). title_tokens (version known) ++ v) k.2.is ∙ sym (append_assoc (title_tokens (version known)) (group_tokens g) us); fits = k.2.fits; ended = k.2.ended }
  turn-takes false ts g us h = let k = next-takes known ts g us h in record { is = k.is; fits = k.fits; ended = k.ended }

  pub turn-again : (first : Bool) (g : GroupTree) (us : List Tok) → IsGroupIn (version known) g → goes_on is_def us ≡ false → turn_at (version known) first (group_turn first g ++ us) ≡ Ok (Some g, us)
  turn-again true g us h e = ap (turn_at (version known) true) (append_assoc (title_tokens (version known)) (group_tokens g) us) ∙ turn-titled (group_tokens g ++ us) (Ok (Some g, us)) (next-again known g us h e)
  turn-again false g us h e = next-again known g us h e

  -- ---- behind items

  -- what is read behind items, with them in front
  abbrev joined : List (Item known) → Tails known → Tails known
  joined [] q = q
  joined (Opens g ∷ is) q = opened known g (joined is q)
  joined (Adds l ∷ is) q = added known l (joined is q)

  quiet-behind : (own : List Range) (g : GroupTree) (is : List (Item known)) (ts : List Tok) → Quiet (Opens g ∷ is) ts → goes_on is_def (items_tokens known own is ++ ts) ≡ false
  quiet-behind own g [] ts q = q [] g refl
  quiet-behind own g (Opens h ∷ is) ts q = refl
  quiet-behind own g (Adds l ∷ is) ts q = ap (goes_on is_def) (append_assoc (line_tokens known own l) (items_tokens known own is) ts) ∙ known.laws.no_def own l (items_tokens known own is ++ ts)

  quiet-rest : (i : Item known) (is : List (Item known)) (ts : List Tok) → Quiet (i ∷ is) ts → Quiet is ts
  quiet-rest i is ts q before g e = q (i ∷ before) g (ap (λ (js : List (Item known)). i ∷ js) e)

  behind-items : (own : List Range) (before : List (Line known)) (is : List (Item known)) (ts : List Tok) → IsCode own → Are known before → AreItems known before is → Quiet is ts
      → rest_at known own before (items_tokens known own is ++ ts) ≡ joined is (rest_at known (last_code own is) (last_lines before is) ts)
  behind-items own before [] ts fits are h q = refl
  behind-items own before (Opens g ∷ is) ts fits are h q =
      let more = items_tokens known g.code is ++ ts in
      ap (rest_at known own before) (append_assoc (group_tokens g) (items_tokens known g.code is) ts)
      ∙ rest-none known own fits before are (group_tokens g ++ more) refl
      ∙ all-one known g more h.0 (quiet-behind g.code g is ts q)
      ∙ ap (opened known g) (behind-items g.code [] is ts (h.0.code, h.0.bytes) known.laws.none h.1 (quiet-rest (Opens g) is ts q))
  behind-items own before (Adds l ∷ is) ts fits are h q =
      ap (rest_at known own before) (append_assoc (line_tokens known own l) (items_tokens known own is) ts)
      ∙ rest-added known own fits before are l (items_tokens known own is ++ ts) h.0
      ∙ ap (added known l) (behind-items own (before ++ l ∷ []) is ts fits (known.laws.more before l are h.0) h.1 (quiet-rest (Adds l) is ts q))

  no-code : IsCode []
  no-code = (tt, tt)

  pub behind-front : (i : Item known) (is : List (Item known)) (ts : List Tok) → StartsOpen (i ∷ is) → AreItems known [] (i ∷ is) → Quiet (i ∷ is) ts
      → text_at known (front_tokens (i ∷ is) ++ ts) ≡ only_proofs (joined (i ∷ is) (rest_at known (last_code [] (i ∷ is)) (last_lines [] (i ∷ is)) ts))
  behind-front (Adds l) is ts s h q = absurd s
  behind-front (Opens g) is ts s h q =
      let us = items_tokens known [] (Opens g ∷ is) ++ ts in
      ap (text_at known) (append_assoc (title_tokens (version known)) (items_tokens known [] (Opens g ∷ is)) ts) ∙ text-titled us
      ∙ ap only_proofs (sym (rest-none known [] no-code [] known.laws.none us refl) ∙ behind-items [] [] (Opens g ∷ is) ts no-code known.laws.none h q)

  joined-bad : (is : List (Item known)) (us : List Tok) → joined is (Err us) ≡ Err us
  joined-bad [] us = refl
  joined-bad (Opens g ∷ is) us = ap (opened known g) (joined-bad is us)
  joined-bad (Adds l ∷ is) us = ap (added known l) (joined-bad is us)

  joined-lines : (ls ms : List (Line known)) (is : List (Item known)) (q : Tails known) (qs : List (Proof known)) (us : List Tok) → joined is q ≡ Ok ((ms, qs), us) → joined (map Adds ls ++ is) q ≡ Ok ((ls ++ ms, qs), us)
  joined-lines [] ms is q qs us e = e
  joined-lines (l ∷ ls) ms is q qs us e = ap (added known l) (joined-lines ls ms is q qs us e)

  joined-end : (ps : List (Proof known)) (us : List Tok) → joined (items ps) (Ok (([], []), us)) ≡ Ok (([], ps), us)
  joined-end [] us = refl
  joined-end (p ∷ ps) us =
      ap (opened known p.group) (joined-lines p.lines [] (items ps) (Ok (([], []), us)) ps us (joined-end ps us))
      ∙ ap (λ (ls : List (Line known)). Ok (([], record { group = p.group; lines = ls } ∷ ps), us)) (append-nil p.lines)

  -- where the rest can't be read, the whole text can't
  front-stops : (i : Item known) (is : List (Item known)) (ts us : List Tok) → StartsOpen (i ∷ is) → AreItems known [] (i ∷ is) → Quiet (i ∷ is) ts → rest_at known (last_code [] (i ∷ is)) (last_lines [] (i ∷ is)) ts ≡ Err us → text_at known (front_tokens (i ∷ is) ++ ts) ≡ Err us
  front-stops i is ts us s h q e = behind-front i is ts s h q ∙ ap (λ (r : Tails known). only_proofs (joined (i ∷ is) r)) e ∙ ap only_proofs (joined-bad (i ∷ is) us)

  last-code-fits : (is : List (Item known)) → AreItems known [] is → IsCode (last_code [] is)
  last-code-fits is h = last-fits known [] [] is no-code h

  last-lines-are : (is : List (Item known)) → AreItems known [] is → Are known (last_lines [] is)
  last-lines-are is h = last-are known [] is known.laws.none h

  -- where a call for a group stops, reading the whole text stops
  pub turn-stops : (is : List (Item known)) (ts us : List Tok) → StartsOpen is → AreItems known [] is → Quiet is ts → MayFollow is ts → turn_at (version known) (is_first is) ts ≡ Err us → text_at known (front_tokens is ++ ts) ≡ Err us
  turn-stops [] ts us s h q m e = first-stops ts us e
  turn-stops (i ∷ is) ts us s h q m e =
      front-stops i is ts us s h q (rest-none known (last_code [] (i ∷ is)) (last-code-fits (i ∷ is) h) (last_lines [] (i ∷ is)) (last-lines-are (i ∷ is) h) ts m ∙ next-stops known ts us e)

  -- and where it reads the end, the proofs before are all
  pub turn-end : (ps : List (Proof known)) (ts us : List Tok) → AreItems known [] (items ps) → Quiet (items ps) ts → turn_at (version known) (is_first (items ps)) ts ≡ Ok (None, us) → text_at known (front_tokens (items ps) ++ ts) ≡ Ok (ps, us)
  turn-end [] ts us h q e = first-end ts us e
  turn-end (p ∷ ps) ts us h q e =
      let is : List (Item known) = map Adds p.lines ++ items ps in
      behind-front (Opens p.group) is ts tt h q
      ∙ ap (λ (r : Tails known). only_proofs (joined (Opens p.group ∷ is) r))
      (rest-none known (last_code p.group.code is) (last-code-fits (Opens p.group ∷ is) h) (last_lines [] is) (last-lines-are (Opens p.group ∷ is) h) ts (next-word known ts None us e) ∙ next-end known ts us e)
      ∙ ap only_proofs (joined-end (p ∷ ps) us)

  -- where a call for a line stops, reading the whole text stops
  pub line-stops : (i : Item known) (is : List (Item known)) (ts us : List Tok) → StartsOpen (i ∷ is) → AreItems known [] (i ∷ is) → Quiet (i ∷ is) ts → turn known (last_code [] (i ∷ is)) (last_lines [] (i ∷ is)) ts ≡ Err us → text_at known (front_tokens (i ∷ is) ++ ts) ≡ Err us
  line-stops i is ts us s h q e =
      front-stops i is ts us s h q (rest-refused known (last_code [] (i ∷ is)) (last-code-fits (i ∷ is) h) (last_lines [] (i ∷ is)) (last-lines-are (i ∷ is) h) ts us e)

  -- ---- the tokens are those of whole lines

  pub front-lines : (is : List (Item known)) → IsLines (front_tokens is)
  front-lines [] = tt
  front-lines (i ∷ is) = lines-append (title_tokens (version known)) (items_tokens known [] (i ∷ is)) refl (items-whole known [] (i ∷ is))

  pub front-real : (is : List (Item known)) → AreItems known [] is → AreTokens (front_tokens is)
  front-real [] h = tt
  front-real (i ∷ is) h = tokens-append (title_tokens (version known)) (items_tokens known [] (i ∷ is)) (title-tokens known.version) (items-real known [] [] (i ∷ is) h)

  -- the tokens of a further item, behind the title where the text begins
  abbrev pub turn_tokens : List (Item known) → Item known → List Tok
  turn_tokens [] i = title_tokens (version known) ++ item_tokens known [] i
  turn_tokens (j ∷ js) i = item_tokens known (last_code [] (j ∷ js)) i

  pub turn-lines : (is : List (Item known)) (i : Item known) → IsLines (turn_tokens is i)
  turn-lines [] i = lines-append (title_tokens (version known)) (item_tokens known [] i) refl (item-whole known [] i)
  turn-lines (j ∷ js) i = item-whole known (last_code [] (j ∷ js)) i

  pub turn-real : (is : List (Item known)) (before : List (Line known)) (i : Item known) → IsItem known before i → AreTokens (turn_tokens is i)
  turn-real [] before i h = tokens-append (title_tokens (version known)) (item_tokens known [] i) (title-tokens known.version) (item-real known [] before i h)
  turn-real (j ∷ js) before i h = item-real known (last_code [] (j ∷ js)) before i h

  pub front-more : (is : List (Item known)) (i : Item known) → front_tokens (is ++ i ∷ []) ≡ front_tokens is ++ turn_tokens is i
  front-more [] i = ap (λ (v : List Tok). title_tokens (version known) ++ v) (append-nil (item_tokens known [] i))
  front-more (j ∷ js) i =
      ap (λ (v : List Tok). title_tokens (version known) ++ v) (tokens-more known [] (j ∷ js) i)
      ∙ sym (append_assoc (title_tokens (version known)) (items_tokens known [] (j ∷ js)) (item_tokens known (last_code [] (j ∷ js)) i))

  pub group-turned : (is : List (Item known)) (g : GroupTree) → turn_tokens is (Opens g) ≡ group_turn (is_first is) g
  group-turned [] g = refl
  group-turned (i ∷ is) g = refl
