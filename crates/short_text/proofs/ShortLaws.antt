-- A short line is read as it is spelled.
use Rattle.std.proofs.Common.{◌≡◌, ℕ, ◌^◌, ◌<◌, Bool, true, false, cond, ltb, not, List, [], ◌∷◌, ◌++◌, codes, Option, Some, None, refl, sym, ap, subst, ◌∙◌, arith, append_assoc, inl, inr, ◌⊎◌}
use Rattle.std.specs.Fmt.{decimal}
use Rattle.std.specs.List.{AllByRecursion, flat_map}
use Rattle.std.proofs.lemmas.Bool.{and_parts, and_from, ltb-true, lt-ltb}
use Rattle.mc_text.specs.Number.{IsNumber, hex, hex_of}
use Rattle.mc_text.specs.Tokens.{Tok, Semi, Atom, Eol}
use Rattle.mc_text.specs.Reading.{pair, made, one, atom_of, below, star, is_open, address_at}
use Rattle.mc_text.specs.inner.Reading.{eol, word, checked}
use Rattle.mc_text.proofs.ReaderLaws.{Reads, IsElse, IsFlat, flat-append, Reads-one, Reads-pair}
use Rattle.mc_text.proofs.Inline.{reads-list}
use Rattle.mc_text.proofs.Closed.{reads-closed}
use Rattle.mc_text.proofs.Choices.{reads-as, reads-put}
use Rattle.mc_text.proofs.Shown.{Always, shows-atom, shows-hex}
use Rattle.rv_words.specs.declared.range.Range.{Range}
use Rattle.group_text.specs.TermLimits.{IsRange}
use Rattle.group_text.specs.TermSpelling.{joined, range_tokens}
use Rattle.group_text.specs.TermReading.{range_at}
use Rattle.group_text.proofs.TermFacts.{range-flat, range-begins}
use Rattle.group_text.proofs.TermLaws.{range-law, range-shrinks}
use Rattle.triple_kernel.specs.declared.form.Form.{Form}
use Rattle.triple_kernel.specs.declared.form.Form.TheVariants.{Next, Taken}
use Rattle.term_arena.specs.declared.node.Node.{Node}
use Rattle.group_text.specs.Limits.{index_limit}
use Rattle.group_text.specs.Spelling.{number, address}
use Rattle.group_text.specs.inner.Reading.{has_atom, ranges_rise}
use Rattle.group_text.proofs.StepLaws.{atom-flat, name-law, address-law, eol-law}
use Rattle.group_text.proofs.HeadLaws.{flat-each, hex-there, IsCode, code-true, true-code}
use Rattle.proof_text.specs.LineSpelling.{same_ranges, code_tokens, form_tokens}
use Rattle.proof_text.specs.inner.LineReading.{index_at, theorem_at, instruction_of, axiom_form_name, axiom_forms, axiom_form_of, is_other_code}
use Rattle.proof_text.proofs.SameRanges.{ranges-same, same-ranges}
use Rattle.proof_text.proofs.Keyed.{Image, reads-image, reads-keyed, reads-forms, named-law}
use Rattle.proof_text.proofs.FactLaws.{index-law}
use Rattle.proof_text.proofs.RuleLaws.{theorem-law, theorem-shrinks}
use Rattle.held_terms.specs.declared.held.HeldFact.{HeldFact}
use Rattle.short_text.specs.declared.short.Short.{Short}
use Rattle.short_text.specs.declared.short.Short.TheVariants as short
use Rattle.short_text.specs.declared.heads.ShortHead.{ShortHead}
use Rattle.short_text.specs.declared.heads.ShortHead.TheVariants as short_head
use Rattle.short_text.specs.declared.places.Place.{Place}
use Rattle.short_text.specs.ShortSpelling.{term_number, held_fact_tokens, held_register_tokens, held_side_tokens, word_place_tokens, mem_place_tokens, list_tokens, short_tokens}
use Rattle.short_text.specs.ShortLimits.{IsMemNumber, IsHeldFact, IsHeldSide, IsShort}
use Rattle.short_text.specs.inner.ShortReading.{held_fact_at, facts_to, held_side_at, held_mems_with, word_places, mem_places, short_name, short_heads, short_head_of, ranges_to_end, code_to_end, AxiomParts, axiom_line, InstParts, inst_row, registers_to_semi, FrameParts, frame_line, ExtensionParts, extension_line, TwoNumbers, composition_line, ChangedParts, changed_row, DischargeParts, discharge_line, use_line, ClosingParts, closing_line, forget_line, short_parts, short_at}
use Rattle.short_text.proofs.HeldLaws.{held-fact-law, held-fact-shrinks, held-fact-flat, held-fact-begins, held-side-law, held-side-flat, mems-with-law, AreSemied, semied-law, semied-flat}
use Rattle.short_text.proofs.PlaceLaws.{place_tokens, Rising, places-law, places-tokens, places-fit, puts_of, words-back, mems-back, puts-rise}

abbrev end : List Tok
end = Eol ∷ []

abbrev some : {X : Type 0} → X → Option X
some x = Some x

-- ---- numbers and words

below-there : (limit : ℕ) (o : Option ℕ) (n : ℕ) → below limit o ≡ some n → (o ≡ some n) × (n < limit)
below-there limit None n e = absurd cc
below-there limit (Some m) n e = choose (ltb m limit) refl e
  where
    choose : (b : Bool) → ltb m limit ≡ b → cond b (some m) None ≡ some n → (some m ≡ some n) × (n < limit)
    choose true t e = (e, let same : m ≡ n = cc in subst (λ (k : ℕ). k < limit) same (ltb-true m limit t))
    choose false t e = absurd cc

abbrev IsInstruction : ℕ → Type 0
IsInstruction n = n < 2 ^ 32

instruction-there : (a : List ℕ) (n : ℕ) → instruction_of a ≡ Some n → (a ≡ hex n) × IsInstruction n
instruction-there a n e = let k = below-there (2 ^ 32) (hex_of a) n e in ((hex-there a n k.0).0, k.1)

instruction-back : (n : ℕ) → IsInstruction n → instruction_of (hex n) ≡ Some n
instruction-back n h = ap (below (2 ^ 32)) (shows-hex.back n (omega (arith, h))) ∙ ap (λ (b : Bool). cond b (some n) None) (lt-ltb n (2 ^ 32) h)

instruction-law : Reads (one (atom_of instruction_of)) IsInstruction address
instruction-law = Reads-one (atom_of instruction_of) IsInstruction (λ n. Atom (hex n)) (shows-atom instruction_of IsInstruction hex instruction-there instruction-back)

form-named : (f : Form) → axiom_form_of (axiom_form_name f) ≡ Some f
unfolding axiom_form_of
form-named Next = refl
form-named Taken = refl

form-law : Reads (one (atom_of axiom_form_of)) Always (λ f. Atom (axiom_form_name f) ∷ [])
unfolding axiom_form_of
form-law = named-law axiom_form_name axiom_forms form-named

form-spelled : (f : Form) → form_tokens f ≡ Atom (axiom_form_name f) ∷ []
form-spelled Next = refl
form-spelled Taken = refl

facts-word : List Tok
facts-word = Atom (codes "facts") ∷ []

module _ (ns : List Node) (own : List Range) where
  -- ---- code, with the end of the line

  abbrev chosen : List Range → Bool → List Tok
  chosen rs b = cond b (Atom (codes "all") ∷ []) (flat_map range_tokens rs)

  abbrev code_row : List Range → List Tok
  code_row rs = code_tokens own rs ++ end

  abbrev IsOwn : List Range → Type 0
  IsOwn = Image (λ (x : Unit {0}). own) Always

  own-law : Reads (made (λ (x : Unit {0}). own) eol) IsOwn (λ rs. end)
  own-law = reads-image (λ (x : Unit {0}). own) eol Always (λ _. end) eol-law (λ rs. end) (λ x f. refl)

  abbrev IsOther : List Range → Type 0
  IsOther rs = IsCode rs × (same_ranges rs own ≡ false)

  not-true : (b : Bool) → not b ≡ true → b ≡ false
  not-true true e = absurd cc
  not-true false e = refl

  abbrev RangeRow : Type 0
  RangeRow = List Range × Unit {0}

  abbrev FitRanges : RangeRow → Type 0
  FitRanges r = (AllByRecursion IsRange r.0 × (is_other_code own r.0 ≡ true)) × Unit {0}

  other-law : Reads (ranges_to_end own) IsOther code_row
  other-law = reads-put (λ (x : RangeRow). x.0) (pair (checked (is_other_code own) (star is_open range_at)) eol) FitRanges (λ r. flat_map range_tokens r.0 ++ end)
      (reads-closed (is_other_code own) (star is_open range_at) (AllByRecursion IsRange) (flat_map range_tokens)
      (reads-list is_open range_at range-shrinks IsRange range_tokens range-law (λ r h. range-flat r) (λ r h us. range-begins r us) eol Always (λ _. end) eol-law (λ y h us. refl))
      (flat-each IsRange range_tokens (λ r f. range-flat r)))
      IsOther code_row
      (λ x h. let k = and_parts (ranges_rise 0 x.0) (not (same_ranges x.0 own)) h.0.1 in (code-true 0 x.0 h.0.0 k.0, not-true (same_ranges x.0 own) k.1))
      (λ x h. let k = and_parts (ranges_rise 0 x.0) (not (same_ranges x.0 own)) h.0.1 in ap (λ b. chosen x.0 b ++ end) (not-true (same_ranges x.0 own) k.1))
      (λ rs h. let k = true-code 0 rs h.0.0 h.0.1 in ((rs, tt), refl, ((k.0, and_from (ranges_rise 0 rs) (not (same_ranges rs own)) k.1 (ap not h.1)), tt)))

  own-hit : (rs : List Range) → IsOwn rs → code_row rs ≡ Atom (codes "all") ∷ end
  own-hit rs h = subst (λ qs. code_row qs ≡ Atom (codes "all") ∷ end) h.1 (ap (λ b. chosen own b ++ end) (ranges-same own))

  abbrev Else : List Tok → Type 0
  Else ts = IsElse (codes "all") (made (λ (x : Unit {0}). own) eol) (ranges_to_end own) ts

  ranges-else : (rs : List Range) (rest : List Tok) → Else ((flat_map range_tokens rs ++ end) ++ rest)
  ranges-else [] rest = tt
  ranges-else (r ∷ rs) rest = tt

  other-else : (rs : List Range) → IsOther rs → (rest : List Tok) → Else (code_row rs ++ rest)
  other-else rs h rest = subst (λ b. Else ((chosen rs b ++ end) ++ rest)) (sym h.1) (ranges-else rs rest)

  code-down : (rs : List Range) → IsCode rs → (b : Bool) → same_ranges rs own ≡ b → IsOwn rs ⊎ IsOther rs
  code-down rs h true e = inl (tt, sym (same-ranges rs own e), tt)
  code-down rs h false e = inr (h, e)

  module _ (fits : IsCode own) where
    code-up : (rs : List Range) → IsOwn rs ⊎ IsOther rs → IsCode rs
    code-up rs (inl h) = subst IsCode h.1 fits
    code-up rs (inr h) = h.0

    code-law : Reads (code_to_end own) IsCode code_row
    unfolding code_to_end
    code-law = reads-as (code_to_end own) (λ rs. IsOwn rs ⊎ IsOther rs) IsCode code_row
        (reads-keyed (codes "all") (made (λ (x : Unit {0}). own) eol) (ranges_to_end own) IsOwn IsOther (λ rs. end) code_row own-law other-law own-hit other-else)
        code-up (λ rs h. code-down rs h (same_ranges rs own) refl)

    -- ---- the parts of each form

    -- the tokens behind the first word
    abbrev short_rest : Short → List Tok
    short_rest (short.Axiom a w form) = joined (address a ∷ address w ∷ form_tokens form ∷ []) end
    short_rest (short.Inst p words mems) = joined (number p ∷ flat_map word_place_tokens words ∷ flat_map mem_place_tokens mems ∷ []) end
    short_rest (short.Frame p regs mems) = joined (number p ∷ flat_map held_register_tokens regs ∷ (Semi ∷ []) ∷ flat_map term_number mems ∷ []) end
    short_rest (short.ExtendCode p code) = joined (number p ∷ (Atom (codes "code") ∷ code_tokens own code.ranges) ∷ []) end
    short_rest (short.Compose p q) = joined (number p ∷ number q ∷ []) end
    short_rest (short.Strengthen p facts pre) = joined (number p ∷ list_tokens (codes "facts") held_fact_tokens facts ∷ (Atom (codes "pre") ∷ held_side_tokens pre) ∷ []) end
    short_rest (short.Weaken p facts post) = joined (number p ∷ list_tokens (codes "facts") held_fact_tokens facts ∷ (Atom (codes "post") ∷ held_side_tokens post) ∷ []) end
    short_rest (short.Discharge p facts) = joined (number p ∷ list_tokens (codes "facts") held_fact_tokens facts ∷ []) end
    short_rest (short.UseExit def exit) = joined (number def ∷ number exit ∷ []) end
    short_rest (short.Loop def cited) = joined (number def ∷ flat_map number cited ∷ []) end
    short_rest (short.Forget k) = joined (number k ∷ []) end

    abbrev axiom_of : AxiomParts → Short
    axiom_of x = short.Axiom x.0 x.1.0 x.1.1.0

    abbrev FitAxiom : AxiomParts → Type 0
    FitAxiom x = IsNumber x.0 × (IsInstruction x.1.0 × (Always x.1.1.0 × Always x.1.1.1))

    axiom-law : Reads axiom_line (Image axiom_of FitAxiom) short_rest
    axiom-law = reads-image axiom_of _ _ _
        (Reads-pair address_at IsNumber address address-law (λ n h. atom-flat (hex n)) (pair (one (atom_of instruction_of)) (pair (one (atom_of axiom_form_of)) eol)) _ _
        (Reads-pair (one (atom_of instruction_of)) IsInstruction address instruction-law (λ n h. atom-flat (hex n)) (pair (one (atom_of axiom_form_of)) eol) _ _
        (Reads-pair (one (atom_of axiom_form_of)) Always (λ f. Atom (axiom_form_name f) ∷ []) form-law (λ f h. atom-flat (axiom_form_name f)) eol Always (λ _. end) eol-law)))
        short_rest (λ x f. ap (λ (ts : List Tok). address x.0 ++ (address x.1.0 ++ (ts ++ end))) (form-spelled x.1.1.0))

    abbrev inst : InstParts → Short
    inst x = short.Inst x.0 (word_places x.1.0) (mem_places x.1.0)

    abbrev FitInst : InstParts → Type 0
    FitInst x = IsNumber x.0 × Rising ns x.1

    inst-law : Reads (made inst (inst_row ns)) (Image inst FitInst) short_rest
    inst-law = reads-image inst (inst_row ns) FitInst (λ x. number x.0 ++ (flat_map place_tokens x.1.0 ++ end))
        (Reads-pair theorem_at IsNumber number theorem-law (λ n h. atom-flat (decimal n)) _ (Rising ns) (λ x. flat_map place_tokens x.0 ++ end) (places-law ns))
        short_rest
        (λ x f. ap (λ (ts : List Tok). number x.0 ++ ts)
        (sym (append_assoc (flat_map word_place_tokens (word_places x.1.0)) (flat_map mem_place_tokens (mem_places x.1.0)) end)
        ∙ ap (λ (ts : List Tok). ts ++ end) (sym (places-tokens ns 0 x.1.0 f.1.0.1))))

    abbrev frame : FrameParts → Short
    frame x = short.Frame x.0 x.1.0.0 x.1.1.0

    abbrev FitFrame : FrameParts → Type 0
    FitFrame x = IsNumber x.0 × (AreSemied ns x.1.0 × (AllByRecursion (IsMemNumber ns) x.1.1.0 × Always x.1.1.1))

    frame-law : Reads (frame_line ns) (Image frame FitFrame) short_rest
    frame-law = reads-image frame _ _ _
        (Reads-pair theorem_at IsNumber number theorem-law (λ n h. atom-flat (decimal n)) (pair (registers_to_semi ns) (held_mems_with ns eol)) _ _
        (Reads-pair (registers_to_semi ns) (AreSemied ns) _ (semied-law ns) (semied-flat ns) (held_mems_with ns eol) _ _ (mems-with-law ns eol Eol eol-law refl)))
        short_rest
        (λ x f. ap (λ (ts : List Tok). number x.0 ++ ts) (sym (append_assoc (flat_map held_register_tokens x.1.0.0) (Semi ∷ []) (flat_map term_number x.1.1.0 ++ end))))

    abbrev extension : ExtensionParts → Short
    extension x = short.ExtendCode x.0 (record { ranges = x.1.1 })

    abbrev FitExtension : ExtensionParts → Type 0
    FitExtension x = IsNumber x.0 × (Always x.1.0 × IsCode x.1.1)

    extension-law : Reads (extension_line own) (Image extension FitExtension) short_rest
    extension-law = reads-image extension _ _ _
        (Reads-pair theorem_at IsNumber number theorem-law (λ n h. atom-flat (decimal n)) (pair (word (codes "code")) (code_to_end own)) _ _
        (Reads-pair (word (codes "code")) Always (λ _. Atom (codes "code") ∷ []) (name-law (codes "code")) (λ x h. atom-flat (codes "code")) (code_to_end own) IsCode code_row code-law))
        short_rest (λ x f. refl)

    abbrev composition : TwoNumbers → Short
    composition x = short.Compose x.0 x.1.0

    abbrev FitNumbers : TwoNumbers → Type 0
    FitNumbers x = IsNumber x.0 × (IsNumber x.1.0 × Always x.1.1)

    composition-law : Reads composition_line (Image composition FitNumbers) short_rest
    composition-law = reads-image composition _ _ _
        (Reads-pair theorem_at IsNumber number theorem-law (λ n h. atom-flat (decimal n)) (pair theorem_at eol) _ _
        (Reads-pair theorem_at IsNumber number theorem-law (λ n h. atom-flat (decimal n)) eol Always (λ _. end) eol-law))
        short_rest (λ x f. refl)

    -- facts with a word behind them, and the side behind that
    module _ (name : List ℕ) where
      abbrev named : List Tok
      named = Atom name ∷ []

      abbrev FitChanged : ChangedParts → Type 0
      FitChanged x = IsNumber x.0 × (Always x.1.0 × ((AllByRecursion (IsHeldFact ns) x.1.1.0.0 × Always x.1.1.0.1) × (IsHeldSide ns x.1.1.1.0 × Always x.1.1.1.1)))

      abbrev changed_tokens : ChangedParts → List Tok
      changed_tokens x = number x.0 ++ (Atom (codes "facts") ∷ ((flat_map held_fact_tokens x.1.1.0.0 ++ named) ++ (held_side_tokens x.1.1.1.0 ++ end)))

      abbrev FitFacts : List HeldFact × Unit {0} → Type 0
      FitFacts x = AllByRecursion (IsHeldFact ns) x.0 × Always x.1

      facts-to-law : Reads (facts_to ns name) FitFacts (λ x. flat_map held_fact_tokens x.0 ++ named)
      facts-to-law = reads-list is_open (held_fact_at ns) (held-fact-shrinks ns) (IsHeldFact ns) held_fact_tokens (held-fact-law ns) (held-fact-flat ns) (λ x h us. held-fact-begins ns x us) (word name) Always (λ _. named) (name-law name) (λ y h us. refl)

      facts-to-flat : (x : List HeldFact × Unit {0}) → FitFacts x → IsFlat (flat_map held_fact_tokens x.0 ++ named)
      facts-to-flat x h = flat-append (flat_map held_fact_tokens x.0) named (flat-each (IsHeldFact ns) held_fact_tokens (held-fact-flat ns) x.0 h.0) (atom-flat name)

      changed-law : Reads (changed_row ns name) FitChanged changed_tokens
      changed-law =
          Reads-pair theorem_at IsNumber number theorem-law (λ n h. atom-flat (decimal n)) (pair (word (codes "facts")) (pair (facts_to ns name) (pair (held_side_at ns) eol))) _ _
          (Reads-pair (word (codes "facts")) Always (λ _. Atom (codes "facts") ∷ []) (name-law (codes "facts")) (λ x h. atom-flat (codes "facts")) (pair (facts_to ns name) (pair (held_side_at ns) eol)) _ _
          (Reads-pair (facts_to ns name) FitFacts (λ x. flat_map held_fact_tokens x.0 ++ named) facts-to-law facts-to-flat (pair (held_side_at ns) eol) _ _
          (Reads-pair (held_side_at ns) (IsHeldSide ns) held_side_tokens (held-side-law ns) (held-side-flat ns) eol Always (λ _. end) eol-law)))

      changed-spelled : (x : ChangedParts) → number x.0 ++ (Atom (codes "facts") ∷ (flat_map held_fact_tokens x.1.1.0.0 ++ (Atom name ∷ (held_side_tokens x.1.1.1.0 ++ end)))) ≡ changed_tokens x
      changed-spelled x = ap (λ (ts : List Tok). number x.0 ++ (Atom (codes "facts") ∷ ts)) (sym (append_assoc (flat_map held_fact_tokens x.1.1.0.0) named (held_side_tokens x.1.1.1.0 ++ end)))

    abbrev strengthening : ChangedParts → Short
    strengthening x = short.Strengthen x.0 x.1.1.0.0 x.1.1.1.0

    abbrev weakening : ChangedParts → Short
    weakening x = short.Weaken x.0 x.1.1.0.0 x.1.1.1.0

    abbrev discharge : DischargeParts → Short
    discharge x = short.Discharge x.0 x.1.1.0

    abbrev FitDischarge : DischargeParts → Type 0
    FitDischarge x = IsNumber x.0 × (Always x.1.0 × (AllByRecursion (IsHeldFact ns) x.1.1.0 × Always x.1.1.1))

    discharge-law : Reads (discharge_line ns) (Image discharge FitDischarge) short_rest
    discharge-law = reads-image discharge _ _ _
        (Reads-pair theorem_at IsNumber number theorem-law (λ n h. atom-flat (decimal n)) (pair (word (codes "facts")) (pair (star is_open (held_fact_at ns)) eol)) _ _
        (Reads-pair (word (codes "facts")) Always (λ _. Atom (codes "facts") ∷ []) (name-law (codes "facts")) (λ x h. atom-flat (codes "facts")) (pair (star is_open (held_fact_at ns)) eol) _ _
        (reads-list is_open (held_fact_at ns) (held-fact-shrinks ns) (IsHeldFact ns) held_fact_tokens (held-fact-law ns) (held-fact-flat ns) (λ x h us. held-fact-begins ns x us) eol Always (λ _. end) eol-law (λ y h us. refl))))
        short_rest (λ x f. refl)

    abbrev use_of : TwoNumbers → Short
    use_of x = short.UseExit x.0 x.1.0

    abbrev Indexed : ℕ → Type 0
    Indexed n = n < index_limit

    abbrev FitUse : TwoNumbers → Type 0
    FitUse x = Indexed x.0 × (Indexed x.1.0 × Always x.1.1)

    use-law : Reads use_line (Image use_of FitUse) short_rest
    use-law = reads-image use_of _ _ _
        (Reads-pair index_at Indexed number index-law (λ n h. atom-flat (decimal n)) (pair index_at eol) _ _
        (Reads-pair index_at Indexed number index-law (λ n h. atom-flat (decimal n)) eol Always (λ _. end) eol-law))
        short_rest (λ x f. refl)

    abbrev closing : ClosingParts → Short
    closing x = short.Loop x.0 x.1.0

    abbrev FitClosing : ClosingParts → Type 0
    FitClosing x = Indexed x.0 × (AllByRecursion IsNumber x.1.0 × Always x.1.1)

    closing-law : Reads closing_line (Image closing FitClosing) short_rest
    closing-law = reads-image closing _ _ _
        (Reads-pair index_at Indexed number index-law (λ n h. atom-flat (decimal n)) (pair (star has_atom theorem_at) eol) _ _
        (reads-list has_atom theorem_at theorem-shrinks IsNumber number theorem-law (λ n h. atom-flat (decimal n)) (λ n h us. refl) eol Always (λ _. end) eol-law (λ y h us. refl)))
        short_rest (λ x f. refl)

    abbrev ForgetParts : Type 0
    ForgetParts = ℕ × Unit {0}

    abbrev forgetting : ForgetParts → Short
    forgetting x = short.Forget x.0

    abbrev FitForget : ForgetParts → Type 0
    FitForget x = IsNumber x.0 × Always x.1

    forget-law : Reads forget_line (Image forgetting FitForget) short_rest
    forget-law = reads-image forgetting _ _ _
        (Reads-pair theorem_at IsNumber number theorem-law (λ n h. atom-flat (decimal n)) eol Always (λ _. end) eol-law) short_rest (λ x f. refl)

    -- ---- lines

    abbrev ShortOf : ShortHead → Short → Type 0
    ShortOf short_head.Axiom = Image axiom_of FitAxiom
    ShortOf short_head.Inst = Image inst FitInst
    ShortOf short_head.Frame = Image frame FitFrame
    ShortOf short_head.ExtendCode = Image extension FitExtension
    ShortOf short_head.Compose = Image composition FitNumbers
    ShortOf short_head.Strengthen = Image strengthening (FitChanged (codes "pre"))
    ShortOf short_head.Weaken = Image weakening (FitChanged (codes "post"))
    ShortOf short_head.Discharge = Image discharge FitDischarge
    ShortOf short_head.UseExit = Image use_of FitUse
    ShortOf short_head.Loop = Image closing FitClosing
    ShortOf short_head.Forget = Image forgetting FitForget

    short-parts-law : (h : ShortHead) → Reads (short_parts ns own h) (ShortOf h) short_rest
    short-parts-law short_head.Axiom = axiom-law
    short-parts-law short_head.Inst = inst-law
    short-parts-law short_head.Frame = frame-law
    short-parts-law short_head.ExtendCode = extension-law
    short-parts-law short_head.Compose = composition-law
    short-parts-law short_head.Strengthen = reads-image strengthening (changed_row ns (codes "pre")) (FitChanged (codes "pre")) (changed_tokens (codes "pre")) (changed-law (codes "pre")) short_rest (λ x f. changed-spelled (codes "pre") x)
    short-parts-law short_head.Weaken = reads-image weakening (changed_row ns (codes "post")) (FitChanged (codes "post")) (changed_tokens (codes "post")) (changed-law (codes "post")) short_rest (λ x f. changed-spelled (codes "post") x)
    short-parts-law short_head.Discharge = discharge-law
    short-parts-law short_head.UseExit = use-law
    short-parts-law short_head.Loop = closing-law
    short-parts-law short_head.Forget = forget-law

    short-into : (h : ShortHead) (x : Short) → ShortOf h x → IsShort ns x
    short-into short_head.Axiom x f = subst (IsShort ns) f.1 (f.2.0, f.2.1.0)
    short-into short_head.Inst x f = let k = places-fit ns 0 f.0.1.0 f.2.1.0.0 f.2.1.0.1 in subst (IsShort ns) f.1 (f.2.0, k.0, k.1)
    short-into short_head.Frame x f = subst (IsShort ns) f.1 (f.2.0, f.2.1.0.0, f.2.1.1.0)
    short-into short_head.ExtendCode x f = subst (IsShort ns) f.1 (f.2.0, f.2.1.1.0, f.2.1.1.1)
    short-into short_head.Compose x f = subst (IsShort ns) f.1 (f.2.0, f.2.1.0)
    short-into short_head.Strengthen x f = subst (IsShort ns) f.1 (f.2.0, f.2.1.1.0.0, f.2.1.1.1.0)
    short-into short_head.Weaken x f = subst (IsShort ns) f.1 (f.2.0, f.2.1.1.0.0, f.2.1.1.1.0)
    short-into short_head.Discharge x f = subst (IsShort ns) f.1 (f.2.0, f.2.1.1.0)
    short-into short_head.UseExit x f = subst (IsShort ns) f.1 (f.2.0, f.2.1.0)
    short-into short_head.Loop x f = subst (IsShort ns) f.1 (f.2.0, f.2.1.0)
    short-into short_head.Forget x f = subst (IsShort ns) f.1 f.2.0

    abbrev ShortNamed : ShortHead → Short → Type 0
    ShortNamed h x = short_tokens own x ≡ (Atom (short_name h) ∷ []) ++ short_rest x

    short-same : (h : ShortHead) (x : Short) → ShortOf h x → ShortNamed h x
    short-same short_head.Axiom x f = subst (ShortNamed short_head.Axiom) f.1 refl
    short-same short_head.Inst x f = subst (ShortNamed short_head.Inst) f.1 refl
    short-same short_head.Frame x f = subst (ShortNamed short_head.Frame) f.1 refl
    short-same short_head.ExtendCode x f = subst (ShortNamed short_head.ExtendCode) f.1 refl
    short-same short_head.Compose x f = subst (ShortNamed short_head.Compose) f.1 refl
    short-same short_head.Strengthen x f = subst (ShortNamed short_head.Strengthen) f.1 refl
    short-same short_head.Weaken x f = subst (ShortNamed short_head.Weaken) f.1 refl
    short-same short_head.Discharge x f = subst (ShortNamed short_head.Discharge) f.1 refl
    short-same short_head.UseExit x f = subst (ShortNamed short_head.UseExit) f.1 refl
    short-same short_head.Loop x f = subst (ShortNamed short_head.Loop) f.1 refl
    short-same short_head.Forget x f = subst (ShortNamed short_head.Forget) f.1 refl

    inst-from : (p : ℕ) (words mems : List (ℕ × ℕ)) → IsShort ns (short.Inst p words mems) → Image inst FitInst (short.Inst p words mems)
    inst-from p words mems f =
        let k = puts-rise ns 0 words mems f.1 f.2 in
        let ps : List (Place × ℕ) = puts_of ns words mems in
        ((p, (ps, tt)), ap (λ ws. short.Inst p ws (mem_places ps)) (words-back ns words mems) ∙ ap (short.Inst p words) (mems-back ns words mems), (f.0, (k, tt)))

    short-from : (x : Short) → IsShort ns x → (h : ShortHead) × Always h × ShortOf h x
    short-from (short.Axiom a w form) f = (short_head.Axiom, tt, ((a, (w, (form, tt))), refl, (f.0, (f.1, (tt, tt)))))
    short-from (short.Inst p words mems) f = (short_head.Inst, tt, inst-from p words mems f)
    short-from (short.Frame p regs mems) f = (short_head.Frame, tt, ((p, ((regs, tt), (mems, tt))), refl, (f.0, ((f.1, tt), (f.2, tt)))))
    short-from (short.ExtendCode p code) f = (short_head.ExtendCode, tt, ((p, (tt, code.ranges)), refl, (f.0, (tt, (f.1, f.2)))))
    short-from (short.Compose p q) f = (short_head.Compose, tt, ((p, (q, tt)), refl, (f.0, (f.1, tt))))
    short-from (short.Strengthen p facts pre) f = (short_head.Strengthen, tt, ((p, (tt, ((facts, tt), (pre, tt)))), refl, (f.0, (tt, ((f.1, tt), (f.2, tt))))))
    short-from (short.Weaken p facts post) f = (short_head.Weaken, tt, ((p, (tt, ((facts, tt), (post, tt)))), refl, (f.0, (tt, ((f.1, tt), (f.2, tt))))))
    short-from (short.Discharge p facts) f = (short_head.Discharge, tt, ((p, (tt, (facts, tt))), refl, (f.0, (tt, (f.1, tt)))))
    short-from (short.UseExit def exit) f = (short_head.UseExit, tt, ((def, (exit, tt)), refl, (f.0, (f.1, tt))))
    short-from (short.Loop def cited) f = (short_head.Loop, tt, ((def, (cited, tt)), refl, (f.0, (f.1, tt))))
    short-from (short.Forget k) f = (short_head.Forget, tt, ((k, tt), refl, (f, tt)))

    short-head-named : (h : ShortHead) → short_head_of (short_name h) ≡ Some h
    unfolding short_head_of
    short-head-named short_head.Axiom = refl
    short-head-named short_head.Inst = refl
    short-head-named short_head.Frame = refl
    short-head-named short_head.ExtendCode = refl
    short-head-named short_head.Compose = refl
    short-head-named short_head.Strengthen = refl
    short-head-named short_head.Weaken = refl
    short-head-named short_head.Discharge = refl
    short-head-named short_head.UseExit = refl
    short-head-named short_head.Loop = refl
    short-head-named short_head.Forget = refl

    short-head-law : Reads (one (atom_of short_head_of)) Always (λ h. Atom (short_name h) ∷ [])
    unfolding short_head_of
    short-head-law = named-law short_name short_heads short-head-named

    pub short-law : Reads (short_at ns own) (IsShort ns) (short_tokens own)
    unfolding short_at
    short-law = reads-forms (one (atom_of short_head_of)) Always (λ h. Atom (short_name h) ∷ []) short-head-law (λ h f. atom-flat (short_name h)) (short_parts ns own) ShortOf short_rest short-parts-law
        (IsShort ns) (short_tokens own) (λ h x k f. short-into h x f) short-same short-from
