-- Words that give values to registers, one after the other.
use Rattle.std.proofs.Common.{◌≡◌, ℕ, zero, suc, ◌<◌, Bool, true, false, cond, eqb, List, [], ◌∷◌, ◌++◌, length, take, drop, set, slice_get, get_or, replicate, Option, Some, None, is_some, string_bytes, refl, sym, ap, ◌∙◌, arith, inl, inr}
use Rattle.std.specs.declared.string.String.{String}
use Rattle.std.specs.declared.alloc.Global.{Global}
use Rattle.std.proofs.Math.ListN.{length-set}
use Rattle.std.proofs.Math.Seq.{drop-cons}
use Rattle.std.proofs.lemmas.Bool.{eqb-true, eqb-false}
use Rattle.std.proofs.lemmas.Bool.Decides.{eqb_tells}
use Rattle.std.proofs.lemmas.List.{map-append, take-append-drop, get_or-set_same, get_or-set_other}
use Rattle.std.proofs.lemmas.Option.{slice_get-get_or, get_or_from_slice_get}
use Rattle.mcdec_answers.specs.Command.{Given, IsGiven, AreGiven, given_to, texts}
use Rattle.mcdec_answers.specs.CommandReading.{Holds}

-- ---- one register more

abbrev or_else : Option ℕ → Option ℕ → Option ℕ
or_else None o = o
or_else (Some v) o = Some v

abbrev only : Given → ℕ → Option ℕ
only g n = cond (eqb g.register n) (Some g.value) None

given_to-last : (gs : List Given) (g : Given) (n : ℕ) → given_to (gs ++ g ∷ []) n ≡ or_else (given_to gs n) (only g n)
given_to-last [] g n = refl
given_to-last (h ∷ hs) g n = choose (eqb h.register n) _ _ (given_to-last hs g n)
  where
    choose : (b : Bool) (o p : Option ℕ) → o ≡ or_else p (only g n) → cond b (Some h.value) o ≡ or_else (cond b (Some h.value) p) (only g n)
    choose true o p e = refl
    choose false o p e = e

-- no value of the first, and none of the others
pub none-parts : (b : Bool) (v : ℕ) (o : Option ℕ) → cond b (Some v) o ≡ None → (b ≡ false) × (o ≡ None)
none-parts true v o e = absurd cc
none-parts false v o e = (refl, e)

others : (g h : Given) → eqb h.register g.register ≡ false → only g h.register ≡ None
others g h e = choose (eqb g.register h.register) (λ same. eqb-false h.register g.register e (sym (eqb-true g.register h.register same)))
  where
    choose : (b : Bool) → (b ≡ true → ⊥) → cond b (Some g.value) None ≡ None
    choose true f = absurd (f refl)
    choose false f = refl

pub AreGiven-last : (gs : List Given) (g : Given) → AreGiven gs → IsGiven g → given_to gs g.register ≡ None → AreGiven (gs ++ g ∷ [])
AreGiven-last [] g all is none = (is, refl, tt)
AreGiven-last (h ∷ hs) g all is none =
    let p = none-parts (eqb h.register g.register) h.value (given_to hs g.register) none in
    (all.0, given_to-last hs g h.register ∙ ap (λ (o : Option ℕ). or_else o (only g h.register)) all.1 ∙ others g h p.0, AreGiven-last hs g all.2 is p.1)

or_none : (o : Option ℕ) → or_else o None ≡ o
or_none None = refl
or_none (Some v) = refl

eqb_same : (n : ℕ) → eqb n n ≡ true
eqb_same n = elim (eqb_tells n n) [ inl t ↦ t.0 | inr f ↦ absurd (f.1 refl) ]

pub Holds-last : (gs : List Given) (g : Given) (values : List (Option ℕ)) → IsGiven g → given_to gs g.register ≡ None → length values ≡ 32 → Holds gs values → Holds (gs ++ g ∷ []) (set values g.register (Some g.value))
Holds-last gs g values is none full holds n lt =
    let long : n < length (set values g.register (Some g.value)) = omega (arith, length-set values g.register (Some g.value)) in
    slice_get-get_or (set values g.register (Some g.value)) n None long ∙ ap Some (elim (eqb_tells g.register n) [
      | inl t ↦ let same : n ≡ g.register = sym t.1 in rw (same, get_or-set_same values g.register (Some g.value) None (omega (arith, is.1))) (sym (given_to-last gs g g.register ∙ rw (none, eqb_same g.register) refl))
      | inr f ↦ get_or-set_other values g.register n (Some g.value) None (λ e. f.1 (sym e)) ∙ get_or_from_slice_get values n _ None (holds n lt) ∙ sym (given_to-last gs g n ∙ rw f.0 (or_none (given_to gs n)))
    ])

-- ---- the words

abbrev Words : Type 0
Words = List (String Global)

pub texts-split : (words : Words) (i : ℕ) (word : String Global) → i < length words → word ≡ get_or words i word → texts words ≡ texts (take i words) ++ string_bytes word ∷ texts (drop (suc i) words)
texts-split words i word lt is =
    ap texts (sym (take-append-drop i words) ∙ ap (λ (ws : Words). take i words ++ ws) (drop-cons words i word lt))
    ∙ map-append (λ (w : String Global). string_bytes w) (take i words) (get_or words i word ∷ drop (suc i) words)
    ∙ ap (λ (w : String Global). texts (take i words) ++ string_bytes w ∷ texts (drop (suc i) words)) (sym is)

pub none_some : (v : ℕ) → None ≡ Some v → ⊥
none_some v e = cc

abbrev pub no_value : Option ℕ
no_value = None

pub nones : (k n : ℕ) → n < k → slice_get (replicate k no_value) n ≡ Some None
nones zero n lt = absurd (omega arith)
nones (suc k) zero lt = refl
nones (suc k) (suc n) lt = nones k n (omega arith)

pub held-some : (o : Option ℕ) → is_some o ≡ true → (v : ℕ) × (o ≡ Some v)
held-some None e = absurd cc
held-some (Some v) e = (v, refl)

pub held-none : (o : Option ℕ) → is_some o ≡ false → o ≡ None
held-none None e = refl
held-none (Some v) e = absurd cc
