-- Terms for variables are read as they are spelled.
use Rattle.std.proofs.Common.{◌≡◌, ℕ, ◌+◌, ◌<◌, true, List, [], ◌∷◌, ◌++◌, length, codes, Some, refl, sym, ap, subst, ◌∙◌, arith, append_assoc}
use Rattle.std.specs.Prelude.{nat_le, option_map}
use Rattle.std.specs.Fmt.{decimal}
use Rattle.std.specs.List.{AllByRecursion, flat_map}
use Rattle.std.proofs.lemmas.Bool.{and_parts, and_from}
use Rattle.mc_text.specs.Tokens.{Tok, Left, Right, Atom, Eol}
use Rattle.mc_text.specs.Reading.{pair, one, atom_of, star, goes_on, is_open, is_right}
use Rattle.mc_text.specs.inner.Reading.{eol, checked}
use Rattle.mc_text.proofs.ReaderLaws.{Reads, IsFlat, flat-append, Reads-one, Reads-pair}
use Rattle.mc_text.proofs.Star.{Shrinks}
use Rattle.mc_text.proofs.Inline.{reads-list}
use Rattle.mc_text.proofs.Closed.{reads-closed}
use Rattle.mc_text.proofs.Shown.{Always, shows-atom}
use Rattle.group_text.specs.TermReading.{opened, variable_of}
use Rattle.group_text.proofs.NameTests.{mapped, either}
use Rattle.group_text.proofs.TermLeaves.{variable, variable-back}
use Rattle.term_arena.specs.declared.node.Node.{Node}
use Rattle.group_text.specs.Limits.{index_limit}
use Rattle.group_text.proofs.StepLaws.{shrinks, eol-law}
use Rattle.group_text.proofs.HeadLaws.{flat-each, le-true, true-le}
use Rattle.proof_text.specs.LineLimits.{AreRisingFrom}
use Rattle.proof_text.proofs.Keyed.{Image, reads-image, reads-forms, opened-law, opened-flat, right-law, right-flat}
use Rattle.short_text.specs.declared.kind.Kind.TheVariants.{Word, Mem}
use Rattle.short_text.specs.declared.places.Place.{Place}
use Rattle.short_text.specs.declared.places.Place.TheVariants as place
use Rattle.short_text.specs.ShortSpelling.{term_number, word_place_tokens, mem_place_tokens}
use Rattle.short_text.specs.ShortLimits.{IsWordNumber, IsMemNumber}
use Rattle.short_text.specs.inner.ShortReading.{term_at, place_of, place_parts, place_at, mem_places_rise, places_rise, word_places, mem_places}
use Rattle.short_text.proofs.TermRefs.{term-flat}
use Rattle.short_text.proofs.HeldLaws.{word-term, mem-term}

abbrev close : List Tok
close = Right ∷ []

abbrev pub Put : Type 0
Put = Place × ℕ

abbrev place_name : Place → List ℕ
place_name (place.ForWord i) = codes "v" ++ decimal i
place_name (place.ForMem i) = codes "m" ++ decimal i

abbrev PlaceFits : Place → Type 0
PlaceFits (place.ForWord i) = i < index_limit
PlaceFits (place.ForMem i) = i < index_limit

place-there : (text : List ℕ) (h : Place) → place_of text ≡ Some h → (text ≡ place_name h) × PlaceFits h
unfolding place_of
place-there text h e =
    either (option_map place.ForWord (variable_of 118 text)) (option_map place.ForMem (variable_of 109 text)) h ((text ≡ place_name h) × PlaceFits h)
    (λ v. let m = mapped (λ i. place.ForWord i) (variable_of 118 text) h v in subst (λ (u : Place). (text ≡ place_name u) × PlaceFits u) m.2 (variable 118 text m.0 m.1))
    (λ v. let m = mapped (λ i. place.ForMem i) (variable_of 109 text) h v in subst (λ (u : Place). (text ≡ place_name u) × PlaceFits u) m.2 (variable 109 text m.0 m.1)) e

place-back : (h : Place) → PlaceFits h → place_of (place_name h) ≡ Some h
unfolding place_of
place-back (place.ForWord i) h = rw (variable-back i h) refl
place-back (place.ForMem i) h = rw (variable-back i h) refl

place-name-law : Reads (opened place_of) PlaceFits (λ h. Left ∷ Atom (place_name h) ∷ [])
place-name-law = opened-law place_of PlaceFits place_name (Reads-one (atom_of place_of) PlaceFits (λ h. Atom (place_name h)) (shows-atom place_of PlaceFits place_name place-there place-back))

abbrev pub place_tokens : Put → List Tok
place_tokens (place.ForWord i, k) = word_place_tokens (i, k)
place_tokens (place.ForMem i, k) = mem_place_tokens (i, k)

abbrev place_rest : Put → List Tok
place_rest p = term_number p.1 ++ close

module _ (ns : List Node) where
  abbrev pub IsPut : Put → Type 0
  IsPut (place.ForWord i, k) = (i < index_limit) × IsWordNumber ns k
  IsPut (place.ForMem i, k) = (i < index_limit) × IsMemNumber ns k

  abbrev for_word : ℕ → ℕ × Unit {0} → Put
  for_word i x = (place.ForWord i, x.0)

  abbrev for_mem : ℕ → ℕ × Unit {0} → Put
  for_mem i x = (place.ForMem i, x.0)

  abbrev PutOf : Place → Put → Type 0
  PutOf (place.ForWord i) = Image (for_word i) (λ x. IsWordNumber ns x.0 × Always x.1)
  PutOf (place.ForMem i) = Image (for_mem i) (λ x. IsMemNumber ns x.0 × Always x.1)

  place-parts-law : (h : Place) → Reads (place_parts ns h) (PutOf h) place_rest
  place-parts-law (place.ForWord i) = reads-image (for_word i) _ _ _ (Reads-pair (term_at ns Word) (IsWordNumber ns) term_number (word-term ns) (λ k h. term-flat k) (one is_right) Always (λ _. close) right-law) place_rest (λ x f. refl)
  place-parts-law (place.ForMem i) = reads-image (for_mem i) _ _ _ (Reads-pair (term_at ns Mem) (IsMemNumber ns) term_number (mem-term ns) (λ k h. term-flat k) (one is_right) Always (λ _. close) right-law) place_rest (λ x f. refl)

  place-into : (h : Place) (x : Put) → PlaceFits h → PutOf h x → IsPut x
  place-into (place.ForWord i) x k f = subst IsPut f.1 (k, f.2.0)
  place-into (place.ForMem i) x k f = subst IsPut f.1 (k, f.2.0)

  abbrev PutNamed : Place → Put → Type 0
  PutNamed h x = place_tokens x ≡ (Left ∷ Atom (place_name h) ∷ []) ++ place_rest x

  place-same : (h : Place) (x : Put) → PutOf h x → PutNamed h x
  place-same (place.ForWord i) x f = subst (PutNamed (place.ForWord i)) f.1 refl
  place-same (place.ForMem i) x f = subst (PutNamed (place.ForMem i)) f.1 refl

  place-from : (x : Put) → IsPut x → (h : Place) × PlaceFits h × PutOf h x
  place-from (place.ForWord i, k) f = (place.ForWord i, f.0, ((k, tt), refl, (f.1, tt)))
  place-from (place.ForMem i, k) f = (place.ForMem i, f.0, ((k, tt), refl, (f.1, tt)))

  place-law : Reads (place_at ns) IsPut place_tokens
  unfolding place_at
  place-law = reads-forms (opened place_of) PlaceFits (λ h. Left ∷ Atom (place_name h) ∷ []) place-name-law (λ h f. opened-flat (place_name h)) (place_parts ns) PutOf place_rest place-parts-law IsPut place_tokens place-into place-same place-from

  some-place : (x : Put) → 0 < length (place_tokens x)
  some-place (place.ForWord i, k) = omega arith
  some-place (place.ForMem i, k) = omega arith

  pub place-shrinks : Shrinks (place_at ns)
  place-shrinks = shrinks (place_at ns) IsPut place_tokens place-law.takes (λ x h. some-place x)

  place-begins : (x : Put) (us : List Tok) → goes_on is_open (place_tokens x ++ us) ≡ true
  place-begins (place.ForWord i, k) us = refl
  place-begins (place.ForMem i, k) us = refl

  place-flat : (x : Put) → IsFlat (place_tokens x)
  place-flat (place.ForWord i, k) = flat-append (Left ∷ Atom (codes "v" ++ decimal i) ∷ []) (term_number k ++ close) (opened-flat (codes "v" ++ decimal i)) (flat-append (term_number k) close (term-flat k) right-flat)
  place-flat (place.ForMem i, k) = flat-append (Left ∷ Atom (codes "m" ++ decimal i) ∷ []) (term_number k ++ close) (opened-flat (codes "m" ++ decimal i)) (flat-append (term_number k) close (term-flat k) right-flat)

  -- ---- words before memories

  mems-none : (least : ℕ) (ps : List Put) → mem_places_rise least ps ≡ true → word_places ps ≡ []
  mems-none least [] e = refl
  mems-none least ((place.ForWord i, k) ∷ ps) e = absurd cc
  mems-none least ((place.ForMem i, k) ∷ ps) e = mems-none (i + 1) ps (and_parts (nat_le least i) (mem_places_rise (i + 1) ps) e).1

  mems-tokens : (least : ℕ) (ps : List Put) → mem_places_rise least ps ≡ true → flat_map place_tokens ps ≡ flat_map mem_place_tokens (mem_places ps)
  mems-tokens least [] e = refl
  mems-tokens least ((place.ForWord i, k) ∷ ps) e = absurd cc
  mems-tokens least ((place.ForMem i, k) ∷ ps) e = ap (λ (ts : List Tok). mem_place_tokens (i, k) ++ ts) (mems-tokens (i + 1) ps (and_parts (nat_le least i) (mem_places_rise (i + 1) ps) e).1)

  pub places-tokens : (least : ℕ) (ps : List Put) → places_rise least ps ≡ true → flat_map place_tokens ps ≡ flat_map word_place_tokens (word_places ps) ++ flat_map mem_place_tokens (mem_places ps)
  places-tokens least [] e = refl
  places-tokens least ((place.ForWord i, k) ∷ ps) e =
      ap (λ (ts : List Tok). word_place_tokens (i, k) ++ ts) (places-tokens (i + 1) ps (and_parts (nat_le least i) (places_rise (i + 1) ps) e).1)
      ∙ sym (append_assoc (word_place_tokens (i, k)) (flat_map word_place_tokens (word_places ps)) (flat_map mem_place_tokens (mem_places ps)))
  places-tokens least ((place.ForMem i, k) ∷ ps) e =
      mems-tokens 0 ((place.ForMem i, k) ∷ ps) e
      ∙ ap (λ ws. flat_map word_place_tokens ws ++ flat_map mem_place_tokens (mem_places ((place.ForMem i, k) ∷ ps))) (sym (mems-none 0 ((place.ForMem i, k) ∷ ps) e))

  mems-fit : (least : ℕ) (ps : List Put) → AllByRecursion IsPut ps → mem_places_rise least ps ≡ true → AreRisingFrom (IsMemNumber ns) least (mem_places ps)
  mems-fit least [] h e = tt
  mems-fit least ((place.ForWord i, k) ∷ ps) h e = absurd cc
  mems-fit least ((place.ForMem i, k) ∷ ps) h e = let q = and_parts (nat_le least i) (mem_places_rise (i + 1) ps) e in (le-true least i q.0, h.0.0, h.0.1, mems-fit (i + 1) ps h.1 q.1)

  pub places-fit : (least : ℕ) (ps : List Put) → AllByRecursion IsPut ps → places_rise least ps ≡ true → AreRisingFrom (IsWordNumber ns) least (word_places ps) × AreRisingFrom (IsMemNumber ns) 0 (mem_places ps)
  places-fit least [] h e = (tt, tt)
  places-fit least ((place.ForWord i, k) ∷ ps) h e =
      let q = and_parts (nat_le least i) (places_rise (i + 1) ps) e in
      let m = places-fit (i + 1) ps h.1 q.1 in
      ((le-true least i q.0, h.0.0, h.0.1, m.0), m.1)
  places-fit least ((place.ForMem i, k) ∷ ps) h e =
      (subst (AreRisingFrom (IsWordNumber ns) least) (sym (mems-none 0 ((place.ForMem i, k) ∷ ps) e)) tt, mems-fit 0 ((place.ForMem i, k) ∷ ps) h e)

  -- the list that both are read from
  abbrev pub mem_puts : List (ℕ × ℕ) → List Put
  mem_puts [] = []
  mem_puts (m ∷ ms) = (place.ForMem m.0, m.1) ∷ mem_puts ms

  abbrev pub puts_of : List (ℕ × ℕ) → List (ℕ × ℕ) → List Put
  puts_of [] ms = mem_puts ms
  puts_of (w ∷ ws) ms = (place.ForWord w.0, w.1) ∷ puts_of ws ms

  no-words : (ms : List (ℕ × ℕ)) → word_places (mem_puts ms) ≡ []
  no-words [] = refl
  no-words (m ∷ ms) = no-words ms

  pub words-back : (ws ms : List (ℕ × ℕ)) → word_places (puts_of ws ms) ≡ ws
  words-back [] ms = no-words ms
  words-back (w ∷ ws) ms = ap (λ (vs : List (ℕ × ℕ)). w ∷ vs) (words-back ws ms)

  own-mems : (ms : List (ℕ × ℕ)) → mem_places (mem_puts ms) ≡ ms
  own-mems [] = refl
  own-mems (m ∷ ms) = ap (λ (vs : List (ℕ × ℕ)). m ∷ vs) (own-mems ms)

  pub mems-back : (ws ms : List (ℕ × ℕ)) → mem_places (puts_of ws ms) ≡ ms
  mems-back [] ms = own-mems ms
  mems-back (w ∷ ws) ms = mems-back ws ms

  mems-rise : (least : ℕ) (ms : List (ℕ × ℕ)) → AreRisingFrom (IsMemNumber ns) least ms → AllByRecursion IsPut (mem_puts ms) × (mem_places_rise least (mem_puts ms) ≡ true)
  mems-rise least [] h = (tt, refl)
  mems-rise least (m ∷ ms) h =
      let k = mems-rise (m.0 + 1) ms h.3 in
      (((h.1, h.2), k.0), and_from (nat_le least m.0) (mem_places_rise (m.0 + 1) (mem_puts ms)) (true-le least m.0 h.0) k.1)

  mems-alone : (least : ℕ) (ms : List (ℕ × ℕ)) → mem_places_rise 0 (mem_puts ms) ≡ true → places_rise least (mem_puts ms) ≡ true
  mems-alone least [] e = refl
  mems-alone least (m ∷ ms) e = e

  pub puts-rise : (least : ℕ) (ws ms : List (ℕ × ℕ)) → AreRisingFrom (IsWordNumber ns) least ws → AreRisingFrom (IsMemNumber ns) 0 ms → AllByRecursion IsPut (puts_of ws ms) × (places_rise least (puts_of ws ms) ≡ true)
  puts-rise least [] ms h k = let m = mems-rise 0 ms k in (m.0, mems-alone least ms m.1)
  puts-rise least (w ∷ ws) ms h k =
      let m = puts-rise (w.0 + 1) ws ms h.3 k in
      (((h.1, h.2), m.0), and_from (nat_le least w.0) (places_rise (w.0 + 1) (puts_of ws ms)) (true-le least w.0 h.0) m.1)

  -- terms for variables, with the end of the line
  abbrev pub Rising : List Put × Unit {0} → Type 0
  Rising x = (AllByRecursion IsPut x.0 × (places_rise 0 x.0 ≡ true)) × Unit {0}

  pub places-law : Reads (pair (checked (places_rise 0) (star is_open (place_at ns))) eol) Rising (λ x. flat_map place_tokens x.0 ++ Eol ∷ [])
  places-law = reads-closed (places_rise 0) (star is_open (place_at ns)) (AllByRecursion IsPut) (flat_map place_tokens)
      (reads-list is_open (place_at ns) place-shrinks IsPut place_tokens place-law (λ x h. place-flat x) (λ x h us. place-begins x us) eol Always (λ _. Eol ∷ []) eol-law (λ y h us. refl))
      (flat-each IsPut place_tokens (λ x h. place-flat x))
