-- Triples made of given parts, and facts of two lists.
use Rattle.std.proofs.Common.{◌≡◌, ℕ, zero, suc, ◌+◌, ◌<◌, None, Some, List, [], ◌∷◌, ◌++◌, length, drop, get_or, map, take, refl, sym, ap, ◌∙◌, subst, arith, Contains, inl, inr}
use Rattle.std.specs.List.{AllByRecursion}
use Rattle.std.proofs.Math.Seq.{drop-append_seam}
use Rattle.std.proofs.lemmas.List.{map-append}
use Rattle.std.proofs.lemmas.List.Elements.{All-append, All-cons, All-nil}
use Rattle.tailrec_lang.proofs.Lists.{map-take_more}
use Rattle.rv_words.specs.Bytes.{over}
use Rattle.rv_words.specs.declared.range.Range.{Range}
use Rattle.rv_words.specs.Ranges.{range_bytes}
use Rattle.sep_assert.specs.Code.{Agree, IsWithin}
use Rattle.triple_kernel.specs.Tree.{FactTree}
use Rattle.frame_compose.specs.Rules.{IsComposed, IsExtended, AreMissing, rest_after}
use Rattle.term_arena.specs.declared.node.Node.{Node}
use Rattle.held_terms.specs.declared.held.Held.{Held}
use Rattle.held_terms.specs.declared.held.HeldFact.{HeldFact}
use Rattle.held_terms.specs.declared.held.HeldSide.{HeldSide}
use Rattle.held_terms.specs.Held.{fact_of, side_of, triple_of, AreFactsAt, IsFactAt, IsSideAt}
use Rattle.proof_text.specs.LineLimits.{IsFact, IsTriple}
use Rattle.proof_text.specs.inner.OwnCode.{IsOwnCode}
use Rattle.derived_triples.specs.Fine.{AreFineFacts, IsFineHeld, IsFineSide}
use Rattle.derived_triples.specs.inner.Making.{AddedIfNew, AreFactsOfBoth, HasParts, MadeIf}

-- ---- of given parts

pub parts_triple : (ns : List Node) (t : Held) (facts : List HeldFact) (pre : HeldSide) (code : List Range) (post : HeldSide) → HasParts t facts pre code post
    → triple_of ns t ≡ record { facts = map (fact_of ns) facts; pre = side_of ns pre; code = code; post = side_of ns post }
parts_triple ns t facts pre code post p = λ i. record { facts = map (fact_of ns) (p.0 i); pre = side_of ns (p.1 i); code = p.2 i; post = side_of ns (p.3 i) }

pub parts_fine : (ns : List Node) (t : Held) (facts : List HeldFact) (pre : HeldSide) (code : List Range) (post : HeldSide) → HasParts t facts pre code post
    → AreFineFacts ns facts → IsFineSide ns pre → IsOwnCode code → IsFineSide ns post → IsFineHeld ns t
parts_fine ns t facts pre code post p f a c b = record {
  there = record { facts = subst (AreFactsAt ns) (sym p.0) f.0; pre = subst (IsSideAt ns) (sym p.1) a.0; post = subst (IsSideAt ns) (sym p.3) b.0 };
  fits = subst IsTriple (sym (parts_triple ns t facts pre code post p)) (record { facts = f.1; pre = a.1; code = c.0; bytes = c.1; post = b.1 });
}

-- the parts of a triple
module _ (ns : List Node) (p : Held) (fine : IsFineHeld ns p) where
  pub fine_facts : AreFineFacts ns p.facts
  fine_facts = (fine.there.facts, fine.fits.facts)

  pub fine_pre : IsFineSide ns p.pre
  fine_pre = (fine.there.pre, fine.fits.pre)

  pub fine_code : IsOwnCode p.code.ranges
  fine_code = (fine.fits.code, fine.fits.bytes)

  pub fine_post : IsFineSide ns p.post
  fine_post = (fine.there.post, fine.fits.post)

-- ---- the facts of both

-- one more that is known, and one more that isn't
missing-known : {A : Type 0} (known xs more : List A) (x : A) → Contains known x → AreMissing known xs more → AreMissing known (xs ++ x ∷ []) more
missing-known known [] more x k m = inl (k, m)
missing-known known (y ∷ xs) more x k (inl m) = inl (m.0, missing-known known xs more x k m.1)
missing-known known (y ∷ xs) [] x k (inr m) = absurd m.1
missing-known known (y ∷ xs) (z ∷ more) x k (inr m) = inr (m.0, (m.1.0, missing-known known xs more x k m.1.1))

missing-new : {A : Type 0} (known xs more : List A) (x : A) → (Contains known x → ⊥) → AreMissing known xs more → AreMissing known (xs ++ x ∷ []) (more ++ x ∷ [])
missing-new {A} known [] more x lacks m = subst (λ (l : List A). AreMissing known (x ∷ []) (l ++ x ∷ [])) m (inr (lacks, (refl, refl)))
missing-new known (y ∷ xs) more x lacks (inl m) = inl (m.0, missing-new known xs more x lacks m.1)
missing-new known (y ∷ xs) [] x lacks (inr m) = absurd m.1
missing-new known (y ∷ xs) (z ∷ more) x lacks (inr m) = inr (m.0, (m.1.0, missing-new known xs more x lacks m.1.1))

pub both_put : (ns : List Node) (first second more all : List HeldFact) → AreMissing (map (fact_of ns) first) (map (fact_of ns) second) (map (fact_of ns) more) → all ≡ first ++ more
    → AreFactsOfBoth (map (fact_of ns) first) (map (fact_of ns) second) (map (fact_of ns) all)
both_put ns first second more all missing e = (map (fact_of ns) more, ap (map (fact_of ns)) e ∙ map-append (fact_of ns) first more, missing)

-- ---- further code

pub extended_made : (ns : List Node) (p t : Held) (code : List Range) → IsFineHeld ns p → IsOwnCode code → HasParts t p.facts p.pre code p.post → IsWithin (range_bytes p.code.ranges) (range_bytes t.code.ranges)
    → MadeIf ns (λ u. IsExtended (triple_of ns p) u × (u.code ≡ code)) (Some t)
extended_made ns p t code fine own parts within = (
  parts_fine ns t p.facts p.pre code p.post parts (fine_facts ns p fine) (fine_pre ns p fine) own (fine_post ns p fine),
  (record { facts = sym (ap (map (fact_of ns)) parts.0); pre = sym (ap (side_of ns) parts.1); post = sym (ap (side_of ns) parts.3); code = within }, parts.2),
)

pub none_extended : (ns : List Node) (p t : Held) (code : List Range) → t.code.ranges ≡ code → (IsWithin (range_bytes p.code.ranges) (range_bytes t.code.ranges) → ⊥)
    → MadeIf ns (λ u. IsExtended (triple_of ns p) u × (u.code ≡ code)) None
none_extended ns p t code same never u fits x = never (subst (λ (r : List Range). IsWithin (range_bytes p.code.ranges) (range_bytes r)) (x.1 ∙ sym same) x.0.code)

-- ---- one theorem after another

pub composed_made : (ns : List Node) (p q t : Held) → IsFineHeld ns p → IsFineHeld ns q → side_of ns p.post ≡ side_of ns q.pre → Agree (range_bytes p.code.ranges) (range_bytes q.code.ranges)
    → AreFactsOfBoth (map (fact_of ns) p.facts) (map (fact_of ns) q.facts) (map (fact_of ns) t.facts) → AreFineFacts ns t.facts
    → t.pre ≡ p.pre → range_bytes t.code.ranges ≡ over (range_bytes p.code.ranges) (range_bytes q.code.ranges) → IsOwnCode t.code.ranges → t.post ≡ q.post
    → MadeIf ns (λ u. IsComposed (triple_of ns p) (triple_of ns q) u) (Some t)
composed_made ns p q t fp fq middle agree both facts pre code own post =
    let rest : rest_after (map (fact_of ns) p.facts) (map (fact_of ns) t.facts) ≡ both.0 = ap (drop (length (map (fact_of ns) p.facts))) both.1 ∙ drop-append_seam (map (fact_of ns) p.facts) both.0 in (
      parts_fine ns t t.facts p.pre t.code.ranges q.post (refl, pre, refl, post) facts (fine_pre ns p fp) own (fine_post ns q fq),
      record {
        middle = middle;
        agree = agree;
        code = sym code;
        pre = sym (ap (side_of ns) pre);
        post = sym (ap (side_of ns) post);
        first_facts = (λ i. map (fact_of ns) p.facts ++ rest i) ∙ sym both.1;
        further_facts = subst (AreMissing (map (fact_of ns) p.facts) (map (fact_of ns) q.facts)) (sym rest) both.2;
      },
    )

-- ---- facts item by item

module _ (ns : List Node) (first second : List HeldFact) (i : ℕ) (f : HeldFact) (low : i < length second) (is : f ≡ get_or second i f) where
  pub missing_more : (old new : List HeldFact) → AddedIfNew ns first f old new → AreMissing (map (fact_of ns) first) (map (fact_of ns) (take i second)) (map (fact_of ns) old)
      → AreMissing (map (fact_of ns) first) (map (fact_of ns) (take (i + 1) second)) (map (fact_of ns) new)
  missing_more old new (inl k) m =
      subst (λ (l : List FactTree). AreMissing (map (fact_of ns) first) l (map (fact_of ns) new)) (sym (map-take_more (fact_of ns) second i f low is))
      (subst (λ (l : List HeldFact). AreMissing (map (fact_of ns) first) (map (fact_of ns) (take i second) ++ fact_of ns f ∷ []) (map (fact_of ns) l)) (sym k.1)
      (missing-known (map (fact_of ns) first) (map (fact_of ns) (take i second)) (map (fact_of ns) old) (fact_of ns f) k.0 m))
  missing_more old new (inr k) m =
      let all : map (fact_of ns) new ≡ map (fact_of ns) old ++ fact_of ns f ∷ [] = ap (map (fact_of ns)) k.1 ∙ map-append (fact_of ns) old (f ∷ []) in
      subst (λ (l : List FactTree). AreMissing (map (fact_of ns) first) l (map (fact_of ns) new)) (sym (map-take_more (fact_of ns) second i f low is))
      (subst (AreMissing (map (fact_of ns) first) (map (fact_of ns) (take i second) ++ fact_of ns f ∷ [])) (sym all)
      (missing-new (map (fact_of ns) first) (map (fact_of ns) (take i second)) (map (fact_of ns) old) (fact_of ns f) k.0 m))

all-append : {A : Type 0} (P : A → Type 0) (xs ys : List A) → AllByRecursion P xs → AllByRecursion P ys → AllByRecursion P (xs ++ ys)
all-append P [] ys p q = q
all-append P (x ∷ xs) ys p q = (p.0, all-append P xs ys p.1 q)

pub fine_both : (ns : List Node) (xs ys : List HeldFact) → AreFineFacts ns xs → AreFineFacts ns ys → AreFineFacts ns (xs ++ ys)
fine_both ns xs ys p q = (
  All-append (IsFactAt ns) xs ys p.0 q.0,
  subst (AllByRecursion IsFact) (sym (map-append (fact_of ns) xs ys)) (all-append IsFact (map (fact_of ns) xs) (map (fact_of ns) ys) p.1 q.1),
)

each-at : {A T : Type 0} (P : T → Type 0) (f : A → T) (xs : List A) (i : ℕ) (d : A) → i < length xs → AllByRecursion P (map f xs) → P (f (get_or xs i d))
each-at P f [] i d low all = absurd (omega (arith, low))
each-at P f (x ∷ xs) zero d low all = all.0
each-at P f (x ∷ xs) (suc i) d low all = each-at P f xs i d (omega (arith, low)) all.1

pub fine_more : (ns : List Node) (first second old new : List HeldFact) (i : ℕ) (f : HeldFact) → i < length second → f ≡ get_or second i f → AddedIfNew ns first f old new → AreFineFacts ns second → AreFineFacts ns old → AreFineFacts ns new
fine_more ns first second old new i f low is (inl k) s o = subst (AreFineFacts ns) (sym k.1) o
fine_more ns first second old new i f low is (inr k) s o =
    let here : IsFact (fact_of ns f) = subst (λ (g : HeldFact). IsFact (fact_of ns g)) (sym is) (each-at IsFact (fact_of ns) second i f low s.1) in
    let there : IsFactAt ns f = subst (IsFactAt ns) (sym is) (s.0 i f low) in
    subst (AreFineFacts ns) (sym k.1) (fine_both ns old (f ∷ []) o (All-cons (IsFactAt ns) f [] there (All-nil (IsFactAt ns)), (here, tt)))
