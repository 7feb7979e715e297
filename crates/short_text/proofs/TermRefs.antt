-- Terms are read by their numbers as they are spelled.
use Rattle.std.proofs.Common.{◌≡◌, ℕ, Bool, true, false, cond, eqb, List, [], ◌∷◌, ◌++◌, codes, Option, Some, None, refl, ap, subst, ◌∙◌, arith}
use Rattle.std.specs.Fmt.{decimal}
use Rattle.std.proofs.lemmas.Bool.{eqb-true}
use Rattle.mc_text.specs.Number.{IsNumber, number_of}
use Rattle.mc_text.specs.Tokens.{Tok, Atom}
use Rattle.mc_text.specs.Reading.{atom_of, goes_on}
use Rattle.mc_text.proofs.ReaderLaws.{Reads, IsFlat, Reads-one}
use Rattle.mc_text.proofs.Star.{Shrinks}
use Rattle.mc_text.proofs.Shown.{shows-atom, shows-decimal}
use Rattle.term_arena.specs.declared.node.Node.{Node}
use Rattle.group_text.specs.inner.Reading.{has_atom}
use Rattle.group_text.proofs.StepLaws.{shrinks, atom-flat}
use Rattle.short_text.specs.declared.kind.Kind.{Kind}
use Rattle.short_text.specs.ShortSpelling.{term_number}
use Rattle.short_text.specs.inner.Kinds.{has_kind, IsOfKind}
use Rattle.short_text.specs.inner.ShortReading.{lettered, where_kind, number_of_kind, term_at, any_term_at}
use Rattle.short_text.proofs.KindLaws.{kind-is, is-kind}

abbrev some : {X : Type 0} → X → Option X
some x = Some x

abbrev term_name : ℕ → List ℕ
term_name k = codes "t" ++ decimal k

first-is : (b : ℕ) (text : List ℕ) (v : Bool) (k : ℕ) → eqb b 116 ≡ v → cond v (number_of 10 text) None ≡ some k → (b ∷ text ≡ term_name k) × IsNumber k
first-is b text true k t e =
    let h = shows-decimal.there (Atom text) k e in
    let digits : text ≡ decimal k = cc in
    (ap (λ (c : ℕ). c ∷ text) (eqb-true b 116 t) ∙ ap (λ (ds : List ℕ). 116 ∷ ds) digits, h.1)
first-is b text false k t e = absurd cc

lettered-there : (text : List ℕ) (k : ℕ) → lettered text ≡ Some k → (text ≡ term_name k) × IsNumber k
lettered-there [] k e = absurd cc
lettered-there (b ∷ text) k e = first-is b text (eqb b 116) k refl e

lettered-back : (k : ℕ) → IsNumber k → lettered (term_name k) ≡ Some k
lettered-back k h = shows-decimal.back k h

pub any-term-law : Reads any_term_at IsNumber term_number
any-term-law = Reads-one (atom_of lettered) IsNumber (λ k. Atom (term_name k)) (shows-atom lettered IsNumber term_name lettered-there lettered-back)

where-there : (ns : List Node) (kind : Kind) (o : Option ℕ) (k : ℕ) → where_kind ns kind o ≡ some k → (o ≡ some k) × (has_kind ns kind k ≡ true)
where-there ns kind None k e = absurd cc
where-there ns kind (Some j) k e = choose (has_kind ns kind j) refl e
  where
    choose : (b : Bool) → has_kind ns kind j ≡ b → cond b (some j) None ≡ some k → (some j ≡ some k) × (has_kind ns kind k ≡ true)
    choose true t e = (e, let same : j ≡ k = cc in subst (λ (i : ℕ). has_kind ns kind i ≡ true) same t)
    choose false t e = absurd cc

-- the number of a term of that kind
abbrev pub IsTermNumber : List Node → Kind → ℕ → Type 0
IsTermNumber ns kind k = IsNumber k × IsOfKind ns kind k

of-kind-there : (ns : List Node) (kind : Kind) (text : List ℕ) (k : ℕ) → number_of_kind ns kind text ≡ Some k → (text ≡ term_name k) × IsTermNumber ns kind k
unfolding number_of_kind
of-kind-there ns kind text k e =
    let w = where-there ns kind (lettered text) k e in
    let h = lettered-there text k w.0 in
    (h.0, (h.1, kind-is ns kind k w.1))

of-kind-back : (ns : List Node) (kind : Kind) (k : ℕ) → IsTermNumber ns kind k → number_of_kind ns kind (term_name k) ≡ Some k
unfolding number_of_kind
of-kind-back ns kind k h = ap (where_kind ns kind) (lettered-back k h.0) ∙ ap (λ (b : Bool). cond b (some k) None) (is-kind ns kind k h.1)

pub term-law : (ns : List Node) (kind : Kind) → Reads (term_at ns kind) (IsTermNumber ns kind) term_number
term-law ns kind =
    Reads-one (atom_of (number_of_kind ns kind)) (IsTermNumber ns kind) (λ k. Atom (term_name k))
    (shows-atom (number_of_kind ns kind) (IsTermNumber ns kind) term_name (of-kind-there ns kind) (of-kind-back ns kind))

pub term-shrinks : (ns : List Node) (kind : Kind) → Shrinks (term_at ns kind)
term-shrinks ns kind = shrinks (term_at ns kind) (IsTermNumber ns kind) term_number (term-law ns kind).takes (λ k h. omega arith)

pub term-flat : (k : ℕ) → IsFlat (term_number k)
term-flat k = atom-flat (term_name k)

pub term-begins : (k : ℕ) (us : List Tok) → goes_on has_atom (term_number k ++ us) ≡ true
term-begins k us = refl
