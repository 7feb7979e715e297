-- Facts, registers and assertions over a table are read as they are spelled.
use Rattle.std.proofs.Common.{◌≡◌, ℕ, ◌<◌, true, false, List, [], ◌∷◌, ◌++◌, length, map, codes, Some, refl, sym, ap, subst, arith, append_assoc}
use Rattle.std.specs.Fmt.{decimal}
use Rattle.std.specs.List.{AllByRecursion, flat_map}
use Rattle.mc_text.specs.Tokens.{Tok, Left, Right, Semi, Atom}
use Rattle.mc_text.specs.Reading.{Reader, pair, made, one, star, goes_on, is_left, is_right, is_open}
use Rattle.mc_text.specs.inner.Reading.{is_semi, checked, number_at}
use Rattle.mc_text.proofs.ReaderLaws.{Reads, IsFlat, flat-append, Reads-pair}
use Rattle.mc_text.proofs.Star.{Shrinks}
use Rattle.mc_text.proofs.Inline.{reads-list}
use Rattle.mc_text.proofs.Choices.{reads-as, reads-made, reads-checked}
use Rattle.mc_text.proofs.Shown.{Always}
use Rattle.group_text.specs.TermReading.{opened}
use Rattle.term_arena.specs.declared.node.Node.{Node}
use Rattle.group_text.specs.Limits.{index_limit}
use Rattle.group_text.specs.Spelling.{number}
use Rattle.group_text.specs.inner.Reading.{has_atom}
use Rattle.group_text.proofs.StepLaws.{shrinks, atom-flat, number-law}
use Rattle.group_text.proofs.HeadLaws.{flat-each, rising-true, true-rising}
use Rattle.proof_text.specs.inner.LineReading.{index_at}
use Rattle.proof_text.proofs.Keyed.{Image, reads-image, reads-forms, named-law, opened-law, opened-flat, left-law, right-law, semi-law, left-flat, right-flat, semi-flat}
use Rattle.proof_text.proofs.FactLaws.{index-law}
use Rattle.held_terms.specs.declared.held.HeldValues.{HeldValues}
use Rattle.held_terms.specs.declared.held.HeldFact.{HeldFact}
use Rattle.held_terms.specs.declared.held.HeldFact.TheVariants as held
use Rattle.held_terms.specs.declared.held.HeldSide.{HeldSide}
use Rattle.short_text.specs.declared.kind.Kind.TheVariants.{Word, Mem, Cond}
use Rattle.short_text.specs.declared.heads.FactName.{FactName}
use Rattle.short_text.specs.declared.heads.FactName.TheVariants as fact_name
use Rattle.short_text.specs.ShortSpelling.{term_number, held_values_tokens, held_fact_tokens, held_register_tokens, held_side_tokens}
use Rattle.short_text.specs.ShortLimits.{IsWordNumber, IsMemNumber, IsCondNumber, AreHeldValues, IsHeldFact, AreHeldRegisters, IsHeldSide}
use Rattle.short_text.specs.inner.ShortReading.{term_at, fact_word, fact_names, fact_name_of, held_mems_with, held_values_with, held_fact_parts, held_fact_at, held_register_at, numbers_rise, side_rises, further_with, held_side_at, rising_registers, registers_to_semi}
use Rattle.short_text.proofs.TermRefs.{term-law, term-shrinks, term-flat, term-begins}

abbrev close : List Tok
close = Right ∷ []

module _ (ns : List Node) where
  pub word-term : Reads (term_at ns Word) (IsWordNumber ns) term_number
  word-term = term-law ns Word

  pub mem-term : Reads (term_at ns Mem) (IsMemNumber ns) term_number
  mem-term = term-law ns Mem

  cond-term : Reads (term_at ns Cond) (IsCondNumber ns) term_number
  cond-term = term-law ns Cond

  -- ---- values, and a mark behind them

  module _ (end : Reader (Unit {0})) (e : Tok) (law : Reads end Always (λ _. e ∷ [])) (quiet : has_atom e ≡ false) where
    pub mems-with-law : Reads (held_mems_with ns end) (λ p. AllByRecursion (IsMemNumber ns) p.0 × Always p.1) (λ p. flat_map term_number p.0 ++ e ∷ [])
    mems-with-law = reads-list has_atom (term_at ns Mem) (term-shrinks ns Mem) (IsMemNumber ns) term_number mem-term (λ k h. term-flat k) (λ k h us. term-begins k us) end Always (λ _. e ∷ []) law (λ y h us. quiet)

    abbrev HeldParts : Type 0
    HeldParts = List ℕ × (Unit {0} × (List ℕ × Unit {0}))

    values-row : Reads (pair (star has_atom (term_at ns Word)) (pair (one is_semi) (held_mems_with ns end)))
        (λ (p : HeldParts). AllByRecursion (IsWordNumber ns) p.0 × (Always p.1.0 × (AllByRecursion (IsMemNumber ns) p.1.1.0 × Always p.1.1.1))) (λ p. flat_map term_number p.0 ++ (Semi ∷ (flat_map term_number p.1.1.0 ++ e ∷ [])))
    values-row = reads-list has_atom (term_at ns Word) (term-shrinks ns Word) (IsWordNumber ns) term_number word-term (λ k h. term-flat k) (λ k h us. term-begins k us) _ _ _
        (Reads-pair (one is_semi) Always (λ _. Semi ∷ []) semi-law (λ x h. semi-flat) _ _ _ mems-with-law) (λ y h us. refl)

    abbrev held_values : HeldParts → HeldValues
    held_values x = record { words = x.0; mems = x.1.1.0 }

    pub held-values-law : Reads (held_values_with ns end) (AreHeldValues ns) (λ v. held_values_tokens v ++ e ∷ [])
    held-values-law = reads-made held_values _ _ _ values-row (AreHeldValues ns) (λ v. held_values_tokens v ++ e ∷ []) (λ x h. (h.0, h.1.1.0))
        (λ x. append_assoc (flat_map term_number x.0) (Semi ∷ flat_map term_number x.1.1.0) (e ∷ [])) (λ v h. ((v.words, (tt, (v.mems, tt))), refl, (h.0, (tt, (h.1, tt)))))

  held-values-flat : (v : HeldValues) → AreHeldValues ns v → IsFlat (held_values_tokens v)
  held-values-flat v h =
      flat-append (flat_map term_number v.words) (Semi ∷ flat_map term_number v.mems) (flat-each (IsWordNumber ns) term_number (λ k f. term-flat k) v.words h.0)
      ((λ e. absurd cc), flat-each (IsMemNumber ns) term_number (λ k f. term-flat k) v.mems h.1)

  -- ---- facts

  abbrev TwoTerms : Type 0
  TwoTerms = ℕ × (ℕ × Unit {0})

  abbrev OneTerm : Type 0
  OneTerm = ℕ × Unit {0}

  abbrev BothValues : Type 0
  BothValues = ℕ × (ℕ × (HeldValues × HeldValues))

  abbrev Indexed : ℕ → Type 0
  Indexed n = n < index_limit

  abbrev FitBoth : BothValues → Type 0
  FitBoth x = Indexed x.0 × (Indexed x.1.0 × (AreHeldValues ns x.1.1.0 × AreHeldValues ns x.1.1.1))

  two-words : Reads (pair (term_at ns Word) (pair (term_at ns Word) (one is_right))) (λ (x : TwoTerms). IsWordNumber ns x.0 × (IsWordNumber ns x.1.0 × Always x.1.1)) (λ x. term_number x.0 ++ (term_number x.1.0 ++ close))
  two-words =
      Reads-pair (term_at ns Word) (IsWordNumber ns) term_number word-term (λ k h. term-flat k) (pair (term_at ns Word) (one is_right)) _ _
      (Reads-pair (term_at ns Word) (IsWordNumber ns) term_number word-term (λ k h. term-flat k) (one is_right) Always (λ _. close) right-law)

  two-mems : Reads (pair (term_at ns Mem) (pair (term_at ns Mem) (one is_right))) (λ (x : TwoTerms). IsMemNumber ns x.0 × (IsMemNumber ns x.1.0 × Always x.1.1)) (λ x. term_number x.0 ++ (term_number x.1.0 ++ close))
  two-mems =
      Reads-pair (term_at ns Mem) (IsMemNumber ns) term_number mem-term (λ k h. term-flat k) (pair (term_at ns Mem) (one is_right)) _ _
      (Reads-pair (term_at ns Mem) (IsMemNumber ns) term_number mem-term (λ k h. term-flat k) (one is_right) Always (λ _. close) right-law)

  one-cond : Reads (pair (term_at ns Cond) (one is_right)) (λ (x : OneTerm). IsCondNumber ns x.0 × Always x.1) (λ x. term_number x.0 ++ close)
  one-cond = Reads-pair (term_at ns Cond) (IsCondNumber ns) term_number cond-term (λ k h. term-flat k) (one is_right) Always (λ _. close) right-law

  both-values : Reads (pair index_at (pair index_at (pair (held_values_with ns (one is_semi)) (held_values_with ns (one is_right))))) FitBoth
      (λ x. number x.0 ++ (number x.1.0 ++ ((held_values_tokens x.1.1.0 ++ Semi ∷ []) ++ (held_values_tokens x.1.1.1 ++ close))))
  both-values =
      Reads-pair index_at Indexed number index-law (λ n h. atom-flat (decimal n)) (pair index_at (pair (held_values_with ns (one is_semi)) (held_values_with ns (one is_right)))) _ _
      (Reads-pair index_at Indexed number index-law (λ n h. atom-flat (decimal n)) (pair (held_values_with ns (one is_semi)) (held_values_with ns (one is_right))) _ _
      (Reads-pair (held_values_with ns (one is_semi)) (AreHeldValues ns) (λ v. held_values_tokens v ++ Semi ∷ []) (held-values-law (one is_semi) Semi semi-law refl)
      (λ v h. flat-append (held_values_tokens v) (Semi ∷ []) (held-values-flat v h) semi-flat)
      (held_values_with ns (one is_right)) (AreHeldValues ns) (λ v. held_values_tokens v ++ close) (held-values-law (one is_right) Right right-law refl)))

  abbrev word_is : TwoTerms → HeldFact
  word_is x = held.WordIs x.0 x.1.0

  abbrev mem_is : TwoTerms → HeldFact
  mem_is x = held.MemIs x.0 x.1.0

  abbrev so : OneTerm → HeldFact
  so x = held.So x.0

  abbrev gives : BothValues → HeldFact
  gives x = held.Gives x.0 x.1.0 x.1.1.0 x.1.1.1

  -- the facts of each form
  abbrev FactOf : FactName → HeldFact → Type 0
  FactOf fact_name.WordIs = Image word_is (λ x. IsWordNumber ns x.0 × (IsWordNumber ns x.1.0 × Always x.1.1))
  FactOf fact_name.MemIs = Image mem_is (λ x. IsMemNumber ns x.0 × (IsMemNumber ns x.1.0 × Always x.1.1))
  FactOf fact_name.So = Image so (λ x. IsCondNumber ns x.0 × Always x.1)
  FactOf fact_name.Gives = Image gives FitBoth

  -- the tokens behind a form's name
  abbrev fact_rest : HeldFact → List Tok
  fact_rest (held.WordIs a b) = term_number a ++ (term_number b ++ close)
  fact_rest (held.MemIs a b) = term_number a ++ (term_number b ++ close)
  fact_rest (held.So c) = term_number c ++ close
  fact_rest (held.Gives def exit args results) = number def ++ (number exit ++ (held_values_tokens args ++ (Semi ∷ (held_values_tokens results ++ close))))

  fact-parts-law : (h : FactName) → Reads (held_fact_parts ns h) (FactOf h) fact_rest
  fact-parts-law fact_name.WordIs = reads-image word_is _ _ _ two-words fact_rest (λ x f. refl)
  fact-parts-law fact_name.MemIs = reads-image mem_is _ _ _ two-mems fact_rest (λ x f. refl)
  fact-parts-law fact_name.So = reads-image so _ _ _ one-cond fact_rest (λ x f. refl)
  fact-parts-law fact_name.Gives = reads-image gives _ _ _ both-values fact_rest
      (λ x f. ap (λ (ts : List Tok). number x.0 ++ (number x.1.0 ++ ts)) (sym (append_assoc (held_values_tokens x.1.1.0) (Semi ∷ []) (held_values_tokens x.1.1.1 ++ close))))

  fact-into : (h : FactName) (x : HeldFact) → FactOf h x → IsHeldFact ns x
  fact-into fact_name.WordIs x f = subst (IsHeldFact ns) f.1 (f.2.0, f.2.1.0)
  fact-into fact_name.MemIs x f = subst (IsHeldFact ns) f.1 (f.2.0, f.2.1.0)
  fact-into fact_name.So x f = subst (IsHeldFact ns) f.1 f.2.0
  fact-into fact_name.Gives x f = subst (IsHeldFact ns) f.1 (f.2.0, f.2.1.0, f.2.1.1.0, f.2.1.1.1)

  abbrev Named : FactName → HeldFact → Type 0
  Named h x = held_fact_tokens x ≡ (Left ∷ Atom (fact_word h) ∷ []) ++ fact_rest x

  fact-same : (h : FactName) (x : HeldFact) → FactOf h x → Named h x
  fact-same fact_name.WordIs x f = subst (Named fact_name.WordIs) f.1 refl
  fact-same fact_name.MemIs x f = subst (Named fact_name.MemIs) f.1 refl
  fact-same fact_name.So x f = subst (Named fact_name.So) f.1 refl
  fact-same fact_name.Gives x f = subst (Named fact_name.Gives) f.1 refl

  fact-from : (x : HeldFact) → IsHeldFact ns x → (h : FactName) × Always h × FactOf h x
  fact-from (held.WordIs a b) f = (fact_name.WordIs, tt, ((a, (b, tt)), refl, (f.0, (f.1, tt))))
  fact-from (held.MemIs a b) f = (fact_name.MemIs, tt, ((a, (b, tt)), refl, (f.0, (f.1, tt))))
  fact-from (held.So c) f = (fact_name.So, tt, ((c, tt), refl, (f, tt)))
  fact-from (held.Gives def exit args results) f = (fact_name.Gives, tt, ((def, (exit, (args, results))), refl, (f.0, (f.1, (f.2, f.3)))))

  fact-named : (h : FactName) → fact_name_of (fact_word h) ≡ Some h
  unfolding fact_name_of
  fact-named fact_name.WordIs = refl
  fact-named fact_name.MemIs = refl
  fact-named fact_name.So = refl
  fact-named fact_name.Gives = refl

  fact-name-law : Reads (opened fact_name_of) Always (λ h. Left ∷ Atom (fact_word h) ∷ [])
  unfolding fact_name_of
  fact-name-law = opened-law fact_name_of Always fact_word (named-law fact_word fact_names fact-named)

  pub held-fact-law : Reads (held_fact_at ns) (IsHeldFact ns) held_fact_tokens
  unfolding held_fact_at
  held-fact-law = reads-forms (opened fact_name_of) Always (λ h. Left ∷ Atom (fact_word h) ∷ []) fact-name-law (λ h f. opened-flat (fact_word h)) (held_fact_parts ns) FactOf fact_rest fact-parts-law
      (IsHeldFact ns) held_fact_tokens (λ h x k f. fact-into h x f) fact-same fact-from

  some-fact : (x : HeldFact) → 0 < length (held_fact_tokens x)
  some-fact (held.WordIs a b) = omega arith
  some-fact (held.MemIs a b) = omega arith
  some-fact (held.So c) = omega arith
  some-fact (held.Gives def exit args results) = omega arith

  pub held-fact-shrinks : Shrinks (held_fact_at ns)
  held-fact-shrinks = shrinks (held_fact_at ns) (IsHeldFact ns) held_fact_tokens held-fact-law.takes (λ x h. some-fact x)

  pub held-fact-begins : (x : HeldFact) (us : List Tok) → goes_on is_open (held_fact_tokens x ++ us) ≡ true
  held-fact-begins (held.WordIs a b) us = refl
  held-fact-begins (held.MemIs a b) us = refl
  held-fact-begins (held.So c) us = refl
  held-fact-begins (held.Gives def exit args results) us = refl

  terms-flat : (a b : ℕ) → IsFlat (term_number a ++ (term_number b ++ close))
  terms-flat a b = flat-append (term_number a) (term_number b ++ close) (term-flat a) (flat-append (term_number b) close (term-flat b) right-flat)

  pub held-fact-flat : (x : HeldFact) → IsHeldFact ns x → IsFlat (held_fact_tokens x)
  held-fact-flat (held.WordIs a b) h = flat-append (Left ∷ Atom (codes "is") ∷ []) (term_number a ++ (term_number b ++ close)) (opened-flat (codes "is")) (terms-flat a b)
  held-fact-flat (held.MemIs a b) h = flat-append (Left ∷ Atom (codes "mis") ∷ []) (term_number a ++ (term_number b ++ close)) (opened-flat (codes "mis")) (terms-flat a b)
  held-fact-flat (held.So c) h = flat-append (Left ∷ Atom (codes "so") ∷ []) (term_number c ++ close) (opened-flat (codes "so")) (flat-append (term_number c) close (term-flat c) right-flat)
  held-fact-flat (held.Gives def exit args results) h =
      flat-append (Left ∷ Atom (codes "gives") ∷ []) (number def ++ (number exit ++ (held_values_tokens args ++ (Semi ∷ (held_values_tokens results ++ close))))) (opened-flat (codes "gives"))
      (flat-append (number def) (number exit ++ (held_values_tokens args ++ (Semi ∷ (held_values_tokens results ++ close)))) (atom-flat (decimal def))
      (flat-append (number exit) (held_values_tokens args ++ (Semi ∷ (held_values_tokens results ++ close))) (atom-flat (decimal exit))
      (flat-append (held_values_tokens args) (Semi ∷ (held_values_tokens results ++ close)) (held-values-flat args h.2)
      (flat-append (Semi ∷ []) (held_values_tokens results ++ close) semi-flat (flat-append (held_values_tokens results) close (held-values-flat results h.3) right-flat)))))

  -- ---- registers

  abbrev IsHeldRegister : ℕ × ℕ → Type 0
  IsHeldRegister r = (r.0 < 32) × IsWordNumber ns r.1

  abbrev RegisterParts : Type 0
  RegisterParts = Unit {0} × (ℕ × (ℕ × Unit {0}))

  abbrev register : RegisterParts → ℕ × ℕ
  register x = (x.1.0, x.1.1.0)

  register-law : Reads (held_register_at ns) IsHeldRegister held_register_tokens
  unfolding held_register_at
  register-law = reads-made register _ _ _
      (Reads-pair (one is_left) Always (λ _. Left ∷ []) left-law (λ x h. left-flat) (pair (number_at 32) (pair (term_at ns Word) (one is_right))) _ _
      (Reads-pair (number_at 32) (λ n. n < 32) number (number-law 32 (omega arith)) (λ n h. atom-flat (decimal n)) (pair (term_at ns Word) (one is_right)) _ _
      (Reads-pair (term_at ns Word) (IsWordNumber ns) term_number word-term (λ k h. term-flat k) (one is_right) Always (λ _. close) right-law)))
      IsHeldRegister held_register_tokens (λ x h. (h.1.0, h.1.1.0)) (λ x. refl) (λ r h. ((tt, (r.0, (r.1, tt))), refl, (tt, (h.0, (h.1, tt)))))

  register-flat : (r : ℕ × ℕ) → IsFlat (held_register_tokens r)
  register-flat r = flat-append (Left ∷ []) (number r.0 ++ (term_number r.1 ++ close)) left-flat
      (flat-append (number r.0) (term_number r.1 ++ close) (atom-flat (decimal r.0)) (flat-append (term_number r.1) close (term-flat r.1) right-flat))

  pub held-register-shrinks : Shrinks (held_register_at ns)
  held-register-shrinks = shrinks (held_register_at ns) IsHeldRegister held_register_tokens register-law.takes (λ r h. omega arith)

  words-of : (rs : List (ℕ × ℕ)) → AllByRecursion IsHeldRegister rs → AllByRecursion (λ r. IsWordNumber ns r.1) rs
  words-of [] h = tt
  words-of (r ∷ rs) h = (h.0.1, words-of rs h.1)

  registers-of : (rs : List (ℕ × ℕ)) → AllByRecursion (λ n. n < 32) (map (λ r. r.0) rs) → AllByRecursion (λ r. IsWordNumber ns r.1) rs → AllByRecursion IsHeldRegister rs
  registers-of [] h k = tt
  registers-of (r ∷ rs) h k = ((h.0, k.0), registers-of rs h.1 k.1)

  abbrev numbers : List (ℕ × ℕ) → List ℕ
  numbers rs = map (λ r. r.0) rs

  rise-up : (rs : List (ℕ × ℕ)) → AllByRecursion IsHeldRegister rs → numbers_rise rs ≡ true → AreHeldRegisters ns rs
  rise-up rs h e = record { rise = rising-true 1 (numbers rs) e; words = words-of rs h }

  rise-down : (rs : List (ℕ × ℕ)) → AreHeldRegisters ns rs → AllByRecursion IsHeldRegister rs × (numbers_rise rs ≡ true)
  rise-down rs h = let k = true-rising 1 (numbers rs) h.rise in (registers-of rs k.0 h.words, k.1)

  -- registers with the semicolon behind them
  abbrev pub Semied : Type 0
  Semied = List (ℕ × ℕ) × Unit {0}

  abbrev pub semied_tokens : Semied → List Tok
  semied_tokens x = flat_map held_register_tokens x.0 ++ Semi ∷ []

  abbrev AreLoose : Semied → Type 0
  AreLoose x = AllByRecursion IsHeldRegister x.0 × Always x.1

  loose-flat : (x : Semied) → AreLoose x → IsFlat (semied_tokens x)
  loose-flat x h = flat-append (flat_map held_register_tokens x.0) (Semi ∷ []) (flat-each IsHeldRegister held_register_tokens (λ r f. register-flat r) x.0 h.0) semi-flat

  abbrev pub AreSemied : Semied → Type 0
  AreSemied x = AreHeldRegisters ns x.0 × Always x.1

  pub semied-law : Reads (registers_to_semi ns) AreSemied semied_tokens
  semied-law = reads-as (registers_to_semi ns) (λ x. AreLoose x × (rising_registers x ≡ true)) AreSemied semied_tokens
      (reads-checked rising_registers (pair (star is_open (held_register_at ns)) (one is_semi)) AreLoose semied_tokens
      (reads-list is_open (held_register_at ns) held-register-shrinks IsHeldRegister held_register_tokens register-law (λ r h. register-flat r) (λ r h us. refl) (one is_semi) Always (λ _. Semi ∷ []) semi-law (λ y h us. refl)) loose-flat)
      (λ x h. (rise-up x.0 h.0.0 h.1, tt)) (λ x h. let k = rise-down x.0 h.0 in ((k.0, tt), k.1))

  pub semied-flat : (x : Semied) → AreSemied x → IsFlat (semied_tokens x)
  semied-flat x h = loose-flat x ((rise-down x.0 h.0).0, tt)

  -- ---- assertions

  abbrev SideParts : Type 0
  SideParts = Unit {0} × (ℕ × (List (ℕ × ℕ) × (Unit {0} × (List ℕ × Unit {0}))))

  abbrev side : SideParts → HeldSide
  side x = record { pc = x.1.0; regs = x.1.1.0; mems = x.1.1.1.1.0 }

  -- whether or not the registers rise
  abbrev IsLoose : HeldSide → Type 0
  IsLoose s = IsWordNumber ns s.pc × (AllByRecursion IsHeldRegister s.regs × AllByRecursion (IsMemNumber ns) s.mems)

  abbrev loose_at : Reader HeldSide
  loose_at = made side (pair (one is_left) (pair (term_at ns Word) (further_with ns (one is_right))))

  loose-law : Reads loose_at IsLoose held_side_tokens
  loose-law = reads-made side _ _ _
      (Reads-pair (one is_left) Always (λ _. Left ∷ []) left-law (λ x h. left-flat) (pair (term_at ns Word) (further_with ns (one is_right))) _ _
      (Reads-pair (term_at ns Word) (IsWordNumber ns) term_number word-term (λ k h. term-flat k) (further_with ns (one is_right)) _ _
      (reads-list is_open (held_register_at ns) held-register-shrinks IsHeldRegister held_register_tokens register-law (λ r h. register-flat r) (λ r h us. refl) _ _ _
      (Reads-pair (one is_semi) Always (λ _. Semi ∷ []) semi-law (λ x h. semi-flat) _ _ _ (mems-with-law (one is_right) Right right-law refl)) (λ y h us. refl))))
      IsLoose held_side_tokens (λ x h. (h.1.0, (h.1.1.0, h.1.1.1.1.0))) (λ x. refl)
      (λ s h. ((tt, (s.pc, (s.regs, (tt, (s.mems, tt))))), refl, (tt, (h.0, (h.1.0, (tt, (h.1.1, tt)))))))

  side-flat : (s : HeldSide) → IsLoose s → IsFlat (held_side_tokens s)
  side-flat s h =
      let regs = flat_map held_register_tokens s.regs in
      let mems = flat_map term_number s.mems in
      flat-append (Left ∷ []) (term_number s.pc ++ (regs ++ (Semi ∷ (mems ++ close)))) left-flat
      (flat-append (term_number s.pc) (regs ++ (Semi ∷ (mems ++ close))) (term-flat s.pc)
      (flat-append regs (Semi ∷ (mems ++ close)) (flat-each IsHeldRegister held_register_tokens (λ r f. register-flat r) s.regs h.1.0)
      (flat-append (Semi ∷ []) (mems ++ close) semi-flat
      (flat-append mems close (flat-each (IsMemNumber ns) term_number (λ k f. term-flat k) s.mems h.1.1) right-flat))))

  pub held-side-law : Reads (held_side_at ns) (IsHeldSide ns) held_side_tokens
  unfolding held_side_at
  held-side-law = reads-as (checked side_rises loose_at) (λ s. IsLoose s × (side_rises s ≡ true)) (IsHeldSide ns) held_side_tokens (reads-checked side_rises loose_at IsLoose held_side_tokens loose-law side-flat)
      (λ s h. record { pc = h.0.0; regs = rise-up s.regs h.0.1.0 h.1; mems = h.0.1.1 })
      (λ s h. let k = rise-down s.regs h.regs in ((h.pc, (k.0, h.mems)), k.1))

  pub held-side-flat : (s : HeldSide) → IsHeldSide ns s → IsFlat (held_side_tokens s)
  held-side-flat s h = side-flat s (h.pc, ((rise-down s.regs h.regs).0, h.mems))
