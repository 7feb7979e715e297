-- A line of a proof is read as it is spelled.
use Rattle.std.proofs.Common.{◌≡◌, ℕ, ◌<◌, true, true≢false, Option, Some, None, is_some, List, [], ◌∷◌, ◌++◌, codes, refl, sym, ap, subst, ◌∙◌, append_assoc, inl, inr, ◌⊎◌}
use Rattle.std.specs.Fmt.{decimal}
use Rattle.std.specs.List.{AllByRecursion, flat_map}
use Rattle.mc_text.specs.Number.{IsNumber}
use Rattle.mc_text.specs.Tokens.{Tok, Atom, Eol}
use Rattle.mc_text.specs.Reading.{Reader, pair, made, star}
use Rattle.mc_text.specs.inner.Reading.{eol, keyed}
use Rattle.mc_text.proofs.ReaderLaws.{Reads, IsElse, Reads-pair}
use Rattle.mc_text.proofs.Inline.{reads-list}
use Rattle.mc_text.proofs.Choices.{reads-as}
use Rattle.mc_text.proofs.Shown.{Always}
use Rattle.rv_words.specs.declared.range.Range.{Range}
use Rattle.triple_kernel.specs.Tree.{TripleTree}
use Rattle.proof_text.specs.Line.{RuleTree, Axiom, Inst, Frame, Compose, ExtendCode, Strengthen, Weaken, Discharge, UseExit, LineTree, States, Loop, Forget, Further}
use Rattle.group_text.specs.Spelling.{number}
use Rattle.proof_text.specs.LineSpelling.{rule_tokens, triple_tokens, line_tokens_in}
use Rattle.group_text.specs.Limits.{index_limit}
use Rattle.proof_text.specs.LineLimits.{IsRule, IsTriple, IsLineIn}
use Rattle.group_text.specs.inner.Reading.{has_atom}
use Rattle.proof_text.specs.inner.LineReading.{index_at, theorem_at, cited_at, triple_at, rule_at, keyed_where, line_at}
use Rattle.group_text.proofs.StepLaws.{atom-flat, eol-law}
use Rattle.group_text.proofs.HeadLaws.{IsCode}
use Rattle.std.specs.Prelude.{unwrap_or}
use Rattle.group_text.specs.Version.{is_word_of, is_further}
use Rattle.proof_text.proofs.FurtherWords.{word-apart, word-not-loop, word-not-forget, where-none, where-word}
use Rattle.proof_text.proofs.Keyed.{Image, reads-image, reads-keyed}
use Rattle.proof_text.proofs.FactLaws.{index-law}
use Rattle.proof_text.proofs.TripleLaws.{triple_rest, triple-law, triple-spelled, triple-flat}
use Rattle.proof_text.proofs.RuleLaws.{facts, Cited, CitedParts, cited-law, rule_row, rule-law, rule-flat, theorem-law, theorem-shrinks}
use Rattle.group_text.specs.declared.version.Version.{Version as Known}
use Rattle.group_text.specs.Version.{version_of}

module _ (known : Known) where
  module _ (own : List Range) (fits : IsCode own) where
    abbrev own_line : LineTree → List Tok
    own_line l = line_tokens_in (version_of known) own l

    abbrev end : List Tok
    end = Eol ∷ []

    -- ---- a triple, by a rule

    abbrev StatesParts : Type 0
    StatesParts = RuleTree × (TripleTree × Unit {0})

    abbrev states : StatesParts → LineTree
    states x = States x.0 x.1.0

    abbrev FitStates : StatesParts → Type 0
    FitStates x = IsRule x.0 × (IsTriple x.1.0 × Always x.1.1)

    abbrev states_row : StatesParts → List Tok
    states_row x = rule_row x.0 ++ (triple_rest own x.1.0 ++ end)

    abbrev states_at : Reader LineTree
    states_at = made (λ (x : StatesParts). States x.0 x.1.0) (pair rule_at (pair (triple_at own) eol))

    states-spelled : (x : StatesParts) → FitStates x → own_line (states x) ≡ states_row x
    states-spelled x f =
        ap (λ (ts : List Tok). rule_tokens x.0 ++ (ts ++ end)) (triple-spelled own x.1.0)
        ∙ sym (append_assoc (rule_tokens x.0) facts (triple_rest own x.1.0 ++ end))

    states-law : Reads states_at (Image states FitStates) own_line
    states-law = reads-image states (pair rule_at (pair (triple_at own) eol)) FitStates states_row
        (Reads-pair rule_at IsRule rule_row rule-law rule-flat (pair (triple_at own) eol) _ _
        (Reads-pair (triple_at own) IsTriple (triple_rest own) (triple-law own fits) (triple-flat own) eol Always (λ _. end) eol-law))
        own_line states-spelled

    -- ---- a definition that is closed, and a theorem that is forgotten

    -- the tokens behind a line's first word
    abbrev line_rest : LineTree → List Tok
    line_rest (States rule t) = []
    line_rest (Further p t) = number p ++ (triple_tokens own t ++ end)
    line_rest (Loop def cited) = number def ++ (flat_map number cited ++ end)
    line_rest (Forget k) = number k ++ end

    abbrev LoopParts : Type 0
    LoopParts = ℕ × (List ℕ × Unit {0})

    abbrev loop : LoopParts → LineTree
    loop x = Loop x.0 x.1.0

    abbrev FitLoop : LoopParts → Type 0
    FitLoop x = (x.0 < index_limit) × (AllByRecursion IsNumber x.1.0 × Always x.1.1)

    abbrev loop_at : Reader LineTree
    loop_at = made (λ (x : LoopParts). Loop x.0 x.1.0) (pair index_at (pair (star has_atom theorem_at) eol))

    loop-law : Reads loop_at (Image loop FitLoop) line_rest
    loop-law = reads-image loop (pair index_at (pair (star has_atom theorem_at) eol)) FitLoop (λ x. number x.0 ++ (flat_map number x.1.0 ++ end))
        (Reads-pair index_at (λ n. n < index_limit) number index-law (λ n h. atom-flat (decimal n)) (pair (star has_atom theorem_at) eol) _ _
        (reads-list has_atom theorem_at theorem-shrinks IsNumber number theorem-law (λ n h. atom-flat (decimal n)) (λ n h us. refl) eol Always (λ _. end) eol-law (λ y h us. refl)))
        line_rest (λ x f. refl)

    abbrev ForgetParts : Type 0
    ForgetParts = ℕ × Unit {0}

    abbrev forget : ForgetParts → LineTree
    forget x = Forget x.0

    abbrev FitForget : ForgetParts → Type 0
    FitForget x = IsNumber x.0 × Always x.1

    abbrev forget_at : Reader LineTree
    forget_at = made (λ (x : ForgetParts). Forget x.0) (pair theorem_at eol)

    forget-law : Reads forget_at (Image forget FitForget) line_rest
    forget-law = reads-image forget (pair theorem_at eol) FitForget (λ x. number x.0 ++ end)
        (Reads-pair theorem_at IsNumber number theorem-law (λ n h. atom-flat (decimal n)) eol Always (λ _. end) eol-law) line_rest (λ x f. refl)

    -- ---- a triple by the further rule

    abbrev FurtherParts : Type 0
    FurtherParts = CitedParts × (TripleTree × Unit {0})

    abbrev further : FurtherParts → LineTree
    further x = Further x.0.0 x.1.0

    abbrev FitFurther : FurtherParts → Type 0
    FitFurther x = Cited x.0 × (IsTriple x.1.0 × Always x.1.1)

    abbrev further_tokens : FurtherParts → List Tok
    further_tokens x = (number x.0.0 ++ facts) ++ (triple_rest own x.1.0 ++ end)

    abbrev further_at : Reader LineTree
    further_at = made (λ (x : FurtherParts). Further x.0.0 x.1.0) (pair cited_at (pair (triple_at own) eol))

    further-law : Reads further_at (Image further FitFurther) line_rest
    further-law = reads-image further (pair cited_at (pair (triple_at own) eol)) FitFurther further_tokens
        (Reads-pair cited_at Cited (λ x. number x.0 ++ facts) cited-law (λ x h. (λ e. absurd cc, atom-flat (codes "facts"))) (pair (triple_at own) eol) _ _
        (Reads-pair (triple_at own) IsTriple (triple_rest own) (triple-law own fits) (triple-flat own) eol Always (λ _. end) eol-law))
        line_rest (λ x f. ap (λ (ts : List Tok). number x.0.0 ++ (ts ++ end)) (triple-spelled own x.1.0))

    abbrev OneOrOther : Option (List ℕ) → LineTree → Type 0
    OneOrOther o l = ((is_some o ≡ true) × Image further FitFurther l) ⊎ Image states FitStates l

    further-spelled : (w : List ℕ) → (version_of known).further ≡ Some w → (l : LineTree) → Image further FitFurther l → own_line l ≡ Atom w ∷ line_rest l
    further-spelled w e l f =
        subst (λ (x : LineTree). own_line x ≡ Atom w ∷ line_rest x) f.1
        (ap (λ (o : Option (List ℕ)). Atom (unwrap_or o []) ∷ line_rest (further f.0)) e)

    rule-apart : (w : List ℕ) → (version_of known).further ≡ Some w → (r : RuleTree) (rest : List Tok) → IsElse w further_at states_at (rule_tokens r ++ rest)
    rule-apart w e (Axiom a word form) rest = word-apart (codes "axiom") known w e refl refl
    rule-apart w e (Inst p words mems) rest = word-apart (codes "inst") known w e refl refl
    rule-apart w e (Frame p) rest = word-apart (codes "frame") known w e refl refl
    rule-apart w e (Compose p q) rest = word-apart (codes "compose") known w e refl refl
    rule-apart w e (ExtendCode p) rest = word-apart (codes "extend") known w e refl refl
    rule-apart w e (Strengthen p) rest = word-apart (codes "strengthen") known w e refl refl
    rule-apart w e (Weaken p) rest = word-apart (codes "weaken") known w e refl refl
    rule-apart w e (Discharge p) rest = word-apart (codes "discharge") known w e refl refl
    rule-apart w e (UseExit def exit) rest = word-apart (codes "use") known w e refl refl

    states-apart : (w : List ℕ) → (version_of known).further ≡ Some w → (l : LineTree) → Image states FitStates l → (rest : List Tok) → IsElse w further_at states_at (own_line l ++ rest)
    states-apart w e l f rest =
        let behind = triple_tokens own f.0.1.0 ++ end in
        subst (λ (x : LineTree). IsElse w further_at states_at (own_line x ++ rest)) f.1
        (subst (IsElse w further_at states_at) (sym (append_assoc (rule_tokens f.0.0) behind rest)) (rule-apart w e f.0.0 (behind ++ rest)))

    by-rule : (o : Option (List ℕ)) → (version_of known).further ≡ o → Reads (keyed_where (is_word_of o) further_at states_at) (OneOrOther o) own_line
    by-rule None e =
        subst (λ (r : Reader LineTree). Reads r (OneOrOther None) own_line) (λ i. λ ts. sym (where-none further_at states_at ts) i)
        (reads-as states_at (Image states FitStates) (OneOrOther None) own_line states-law (λ l f. inr f) (λ l f. elim f [ inl k ↦ absurd (true≢false (sym k.0)) | inr k ↦ k ]))
    by-rule (Some w) e =
        subst (λ (r : Reader LineTree). Reads r (OneOrOther (Some w)) own_line) (λ i. λ ts. sym (where-word w further_at states_at ts) i)
        (reads-as (keyed w further_at states_at) (λ l. Image further FitFurther l ⊎ Image states FitStates l) (OneOrOther (Some w)) own_line
        (reads-keyed w further_at states_at (Image further FitFurther) (Image states FitStates) line_rest own_line further-law states-law (further-spelled w e) (states-apart w e))
        (λ l f. elim f [ inl k ↦ inl (refl, k) | inr k ↦ inr k ]) (λ l f. elim f [ inl k ↦ inl k.1 | inr k ↦ inr k ]))

    abbrev named_at : Reader LineTree
    named_at = keyed_where (is_further (version_of known)) further_at states_at

    abbrev IsNamed : LineTree → Type 0
    IsNamed l = OneOrOther (version_of known).further l

    named-law : Reads named_at IsNamed own_line
    named-law = by-rule (version_of known).further refl

    -- ---- by the first word

    abbrev NotForget : List Tok → Type 0
    NotForget ts = IsElse (codes "forget") forget_at named_at ts

    abbrev kept_at : Reader LineTree
    kept_at = keyed (codes "forget") forget_at named_at

    abbrev NotLoop : List Tok → Type 0
    NotLoop ts = IsElse (codes "loop") loop_at kept_at ts

    rule-not-forget : (r : RuleTree) (rest : List Tok) → NotForget (rule_tokens r ++ rest)
    rule-not-forget (Axiom a w form) rest = refl
    rule-not-forget (Inst p words mems) rest = refl
    rule-not-forget (Frame p) rest = refl
    rule-not-forget (Compose p q) rest = refl
    rule-not-forget (ExtendCode p) rest = refl
    rule-not-forget (Strengthen p) rest = refl
    rule-not-forget (Weaken p) rest = refl
    rule-not-forget (Discharge p) rest = refl
    rule-not-forget (UseExit def exit) rest = refl

    rule-not-loop : (r : RuleTree) (rest : List Tok) → NotLoop (rule_tokens r ++ rest)
    rule-not-loop (Axiom a w form) rest = refl
    rule-not-loop (Inst p words mems) rest = refl
    rule-not-loop (Frame p) rest = refl
    rule-not-loop (Compose p q) rest = refl
    rule-not-loop (ExtendCode p) rest = refl
    rule-not-loop (Strengthen p) rest = refl
    rule-not-loop (Weaken p) rest = refl
    rule-not-loop (Discharge p) rest = refl
    rule-not-loop (UseExit def exit) rest = refl

    states-not-forget : (l : LineTree) → Image states FitStates l → (rest : List Tok) → NotForget (own_line l ++ rest)
    states-not-forget l f rest =
        let behind = triple_tokens own f.0.1.0 ++ end in
        subst (λ (x : LineTree). NotForget (own_line x ++ rest)) f.1 (subst NotForget (sym (append_assoc (rule_tokens f.0.0) behind rest)) (rule-not-forget f.0.0 (behind ++ rest)))

    states-not-loop : (l : LineTree) → Image states FitStates l → (rest : List Tok) → NotLoop (own_line l ++ rest)
    states-not-loop l f rest =
        let behind = triple_tokens own f.0.1.0 ++ end in
        subst (λ (x : LineTree). NotLoop (own_line x ++ rest)) f.1 (subst NotLoop (sym (append_assoc (rule_tokens f.0.0) behind rest)) (rule-not-loop f.0.0 (behind ++ rest)))

    named-not-forget : (l : LineTree) → IsNamed l → (rest : List Tok) → NotForget (own_line l ++ rest)
    named-not-forget l (inl f) rest = subst (λ (x : LineTree). NotForget (own_line x ++ rest)) f.1.1 (word-not-forget known)
    named-not-forget l (inr f) rest = states-not-forget l f rest

    named-not-loop : (l : LineTree) → IsNamed l → (rest : List Tok) → NotLoop (own_line l ++ rest)
    named-not-loop l (inl f) rest = subst (λ (x : LineTree). NotLoop (own_line x ++ rest)) f.1.1 (word-not-loop known)
    named-not-loop l (inr f) rest = states-not-loop l f rest

    abbrev IsKeptOr : LineTree → Type 0
    IsKeptOr l = Image forget FitForget l ⊎ IsNamed l

    kept-not-loop : (l : LineTree) → IsKeptOr l → (rest : List Tok) → NotLoop (own_line l ++ rest)
    kept-not-loop l (inl f) rest = subst (λ (x : LineTree). NotLoop (own_line x ++ rest)) f.1 refl
    kept-not-loop l (inr f) rest = named-not-loop l f rest

    kept-law : Reads kept_at IsKeptOr own_line
    kept-law = reads-keyed (codes "forget") forget_at named_at (Image forget FitForget) IsNamed line_rest own_line forget-law named-law
        (λ l f. subst (λ (x : LineTree). own_line x ≡ Atom (codes "forget") ∷ line_rest x) f.1 refl) named-not-forget

    abbrev IsAny : LineTree → Type 0
    IsAny l = Image loop FitLoop l ⊎ IsKeptOr l

    any-up : (l : LineTree) → IsAny l → IsLineIn (version_of known) l
    any-up l (inl f) = subst (IsLineIn (version_of known)) f.1 (f.2.0, f.2.1.0)
    any-up l (inr (inl f)) = subst (IsLineIn (version_of known)) f.1 f.2.0
    any-up l (inr (inr (inl f))) = subst (IsLineIn (version_of known)) f.1.1 (f.0, f.1.2.0.0, f.1.2.1.0)
    any-up l (inr (inr (inr f))) = subst (IsLineIn (version_of known)) f.1 (f.2.0, f.2.1.0)

    any-down : (l : LineTree) → IsLineIn (version_of known) l → IsAny l
    any-down (States rule t) h = inr (inr (inr ((rule, (t, tt)), refl, (h.0, (h.1, tt)))))
    any-down (Loop def cited) h = inl ((def, (cited, tt)), refl, (h.0, (h.1, tt)))
    any-down (Forget k) h = inr (inl ((k, tt), refl, (h, tt)))
    any-down (Further p t) h = inr (inr (inl (h.0, (((p, tt), (t, tt)), refl, ((h.1, tt), (h.2, tt))))))

    pub line-law : Reads (line_at (version_of known) own) (IsLineIn (version_of known)) own_line
    unfolding line_at
    line-law = reads-as (line_at (version_of known) own) IsAny (IsLineIn (version_of known)) own_line
        (reads-keyed (codes "loop") loop_at kept_at (Image loop FitLoop) IsKeptOr line_rest own_line loop-law kept-law
        (λ l f. subst (λ (x : LineTree). own_line x ≡ Atom (codes "loop") ∷ line_rest x) f.1 refl) kept-not-loop)
        any-up any-down
