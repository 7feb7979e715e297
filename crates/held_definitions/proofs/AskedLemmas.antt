-- What is kept of theorems that were asked for leaves stays right while the way changes.
use Rattle.std.proofs.Common.{◌≡◌, ◌⊎◌, ℕ, zero, suc, ◌+◌, ◌<◌, ◌≤◌, Bool, false, cond, List, [], ◌∷◌, ◌++◌, Option, Some, None, length, map, take, drop, get_or, refl, ap, sym, ◌∙◌, subst, inl, inr, arith}
use Rattle.std.specs.Prelude.{◌↔◌, IsSome, IsTrue, OnErr, OnOk, Result, Ok, Err, slice_get}
use Rattle.std.specs.List.{Contains}
use Rattle.std.specs.Cmp.{Equal-is}
use Rattle.std.specs.Map.{lookup}
use Rattle.std.specs.Ordering.{is_lt, nat_cmp}
use Rattle.std.specs.BTreeMap.{BTreeMap, Updates, get, is_at}
use Rattle.std.proofs.lemmas.Bool.{cases_Bool, cond-true, cond-false}
use Rattle.std.proofs.lemmas.List.{drop_more}
use Rattle.std.proofs.lemmas.List.Elements.{Contains-append_left, Contains-push, Contains-push_cases}
use Rattle.std.proofs.lemmas.Map.Keys.{ge_from_not_lt}
use Rattle.std.proofs.lemmas.Map.Lookups.{exact_unsigned}
use Rattle.std.proofs.lemmas.Option.{none-some, same_Some, slice_get_within}
use Rattle.term_arena.proofs.Places.{at-append, at-push_cases, at_contains, contains_at}
use Rattle.tailrec_lang.specs.Tree.{DefTree, GroupTree}
use Rattle.triple_kernel.specs.Tree.{FactTree, TripleTree}
use Rattle.triple_kernel.specs.Rules.{AreAmong}
use Rattle.loop_rule.specs.Judge.{Closing}
use Rattle.term_arena.specs.declared.node.Node.{Node}
use Rattle.held_terms.specs.declared.held.HeldFact.{HeldFact}
use Rattle.held_terms.specs.Held.{fact_of}
use Rattle.held_terms.proofs.WayLemmas.{at_take, before_or_last, take_at, take_under}
use Rattle.held_definitions.specs.declared.asked.Found.{Found}
use Rattle.held_definitions.specs.declared.asked.Asked.{Asked}
use Rattle.held_definitions.specs.inner.Asked.{AreAsked, AreFound, AreUpTo, Begins, HasStanding, HavePlaces, IsAsked, IsFound, IsParted, IsStanding, IsThere, KnowsOf, LeadsOver, StaysAsked, StaysFor, closing_with}

-- ---- maps of numbers

module _ {V : Type 0} where
  pub none_at : (m : BTreeMap ℕ V) (q : ℕ) (v : V) → m.entries ≡ [] → get nat_cmp m q ≡ Some v → ⊥
  none_at m q v empty at = none-some v (sym (ap (λ (es : List (ℕ × V)). lookup (is_at (nat_cmp q)) es) empty) ∙ at)

  -- after a change at one number: there, or at another, where it is as before
  pub at_change : (old new : BTreeMap ℕ V) (k : ℕ) (w : Option V) → ((q : ℕ) → get nat_cmp new q ≡ cond (is_at (nat_cmp k) q) w (get nat_cmp old q)) → (q : ℕ)
      → ((k ≡ q) × (get nat_cmp new q ≡ w)) ⊎ (get nat_cmp new q ≡ get nat_cmp old q)
  at_change old new k w updates q = elim (cases_Bool (is_at (nat_cmp k) q)) [
    | inl same ↦ inl (exact_unsigned k q ((Equal-is (nat_cmp k q)).0 same), updates q ∙ cond-true _ _ _ same)
    | inr other ↦ inr (updates q ∙ cond-false _ _ _ other)
  ]

  of_some : (o : Option V) → IsSome o → (v : V) × (o ≡ Some v)
  of_some None is = cc
  of_some (Some v) is = (v, refl)

-- nothing was asked
pub asked_none : (c : Closing) (way : List FactTree) (k : Asked) → k.stamps ≡ [] → k.theorems.entries ≡ [] → AreAsked c way k
asked_none c way k stamps theorems = record {
  stamps = λ i s e. absurd (none-some s (sym (ap (λ (l : List ℕ). slice_get l i) stamps) ∙ e));
  each = λ number m e. absurd (none_at k.theorems number m theorems e);
}

-- ---- changes of the way

module _ (c : Closing) (way now : List FactTree) (old new : Asked) (next : old.next ≤ new.next) (theorems : new.theorems.entries ≡ old.theorems.entries)
    (stamps : (i s : ℕ) → slice_get new.stamps i ≡ Some s → s < new.next) (was : (q s : ℕ) → s < old.next → slice_get new.stamps q ≡ Some s → slice_get old.stamps q ≡ Some s)
    (stamp : (p q s u : ℕ) → p ≤ q → slice_get new.stamps q ≡ Some s → slice_get old.stamps p ≡ Some u → slice_get new.stamps p ≡ Some u)
    (fact : (p q s : ℕ) (f : FactTree) → p ≤ q → slice_get new.stamps q ≡ Some s → slice_get way p ≡ Some f → slice_get now p ≡ Some f) where
  places_over : (facts : List FactTree) (m : BTreeMap ℕ Found) → HavePlaces way old facts m → HavePlaces now new facts m
  places_over facts m h = record {
    low = λ p e at. let lt = (h.low p e at).0 in (omega (arith, lt, next), (h.low p e at).1);
    first = λ p q e d le here there stands.
        let so = h.first p q e d le here there (was q d.stamp (h.low q d there).0 stands) in
        record { fact = so.fact; is = so.is; there = fact p q d.stamp so.fact le stands so.there; stands = stamp p q d.stamp e.stamp le stands so.stands };
    all = h.all;
  }

  asked_over : AreAsked c way old → AreAsked c now new
  asked_over a = record {
    stamps = stamps;
    each = λ number m e.
        let so = a.each number m (sym (ap (λ es. lookup (is_at (nat_cmp number)) es) theorems) ∙ e) in
        record { t = so.t; is = so.is; begins = so.begins; places = places_over so.t.facts m so.places };
  }

pub asked_push : (c : Closing) (way : List FactTree) (f : FactTree) (old new : Asked) → new.stamps ≡ old.stamps ++ old.next ∷ [] → new.next ≡ old.next + 1 → new.theorems.entries ≡ old.theorems.entries → AreAsked c way old
    → AreAsked c (way ++ f ∷ []) new
asked_push c way f old new stamps next theorems a =
    let at : (i s : ℕ) → slice_get new.stamps i ≡ Some s → ((i < length old.stamps) × (slice_get old.stamps i ≡ Some s)) ⊎ ((i ≡ length old.stamps) × (old.next ≡ s)) =
    λ i s e. at-push_cases old.stamps old.next i s (sym (ap (λ (l : List ℕ). slice_get l i) stamps) ∙ e) in
    asked_over c way (way ++ f ∷ []) old new (omega (arith, next)) theorems
    (λ i s e. elim (at i s e) [ inl was ↦ (let low = a.stamps i s was.1 in omega (arith, low, next)) | inr last ↦ (let here = last.1 in omega (arith, here, next)) ])
    (λ q s low e. elim (at q s e) [ inl was ↦ was.1 | inr last ↦ (let here = last.1 in absurd (omega (arith, here, low))) ])
    (λ p q s u le e there. ap (λ (l : List ℕ). slice_get l p) stamps ∙ at-append old.stamps (old.next ∷ []) p u there)
    (λ p q s g le e there. at-append way (f ∷ []) p g there) a

-- there was no memory for a stamp
pub asked_unstamped : (c : Closing) (way : List FactTree) (f : FactTree) (old new : Asked) → new.stamps ≡ old.stamps → new.next ≡ old.next → new.theorems.entries ≡ old.theorems.entries → AreAsked c way old
    → AreAsked c (way ++ f ∷ []) new
asked_unstamped c way f old new stamps next theorems a =
    let at : (i s : ℕ) → slice_get new.stamps i ≡ Some s → slice_get old.stamps i ≡ Some s = λ i s e. sym (ap (λ (l : List ℕ). slice_get l i) stamps) ∙ e in
    asked_over c way (way ++ f ∷ []) old new (omega (arith, next)) theorems
    (λ i s e. let low = a.stamps i s (at i s e) in omega (arith, low, next))
    (λ q s low e. at q s e)
    (λ p q s u le e there. ap (λ (l : List ℕ). slice_get l p) stamps ∙ there)
    (λ p q s g le e there. at-append way (f ∷ []) p g there) a

pub asked_short : (c : Closing) (way : List FactTree) (n : ℕ) (old new : Asked) → new.stamps ≡ take n old.stamps → new.next ≡ old.next → new.theorems.entries ≡ old.theorems.entries → AreAsked c way old
    → AreAsked c (take n way) new
asked_short c way n old new stamps next theorems a =
    let at : (i s : ℕ) → slice_get new.stamps i ≡ Some s → slice_get (take n old.stamps) i ≡ Some s = λ i s e. sym (ap (λ (l : List ℕ). slice_get l i) stamps) ∙ e in
    let below : (p q s : ℕ) → p ≤ q → slice_get new.stamps q ≡ Some s → p < n = λ p q s le e. let lt = take_under n old.stamps q s (at q s e) in omega (arith, lt, le) in
    asked_over c way (take n way) old new (omega (arith, next)) theorems
    (λ i s e. let low = a.stamps i s (take_at n old.stamps i s (at i s e)) in omega (arith, low, next))
    (λ q s low e. take_at n old.stamps q s (at q s e))
    (λ p q s u le e there. ap (λ (l : List ℕ). slice_get l p) stamps ∙ at_take n old.stamps p u (below p q s le e) there)
    (λ p q s g le e there. at_take n way p g (below p q s le e) there) a

-- ---- changes of what is kept

places_same : (way facts : List FactTree) (old new : Asked) (m : BTreeMap ℕ Found) → new.stamps ≡ old.stamps → new.next ≡ old.next → HavePlaces way old facts m → HavePlaces way new facts m
places_same way facts old new m stamps next h = record {
  low = λ p e at. let lt = (h.low p e at).0 in (omega (arith, lt, next), (h.low p e at).1);
  first = λ p q e d le here there stands.
      let so = h.first p q e d le here there (sym (ap (λ (l : List ℕ). slice_get l q) stamps) ∙ stands) in
      record { fact = so.fact; is = so.is; there = so.there; stands = ap (λ (l : List ℕ). slice_get l p) stamps ∙ so.stands };
  all = h.all;
}

module _ (c : Closing) (way : List FactTree) (old new : Asked) (stamps : new.stamps ≡ old.stamps) (next : new.next ≡ old.next) where
  still : (number : ℕ) (m : BTreeMap ℕ Found) → IsAsked c way old number m → IsAsked c way new number m
  still number m so = record { t = so.t; is = so.is; begins = so.begins; places = places_same way so.t.facts old new m stamps next so.places }

  low_still : AreAsked c way old → (i s : ℕ) → slice_get new.stamps i ≡ Some s → s < new.next
  low_still a i s e = let low = a.stamps i s (sym (ap (λ (l : List ℕ). slice_get l i) stamps) ∙ e) in omega (arith, low, next)

  -- of one theorem
  pub asked_changed : (number : ℕ) (w : Option (BTreeMap ℕ Found)) → ((q : ℕ) → get nat_cmp new.theorems q ≡ cond (is_at (nat_cmp number) q) w (get nat_cmp old.theorems q))
      → ((m : BTreeMap ℕ Found) → w ≡ Some m → IsAsked c way old number m) → AreAsked c way old → AreAsked c way new
  asked_changed number w updates kept a = record {
    stamps = low_still a;
    each = λ q m e. elim (at_change old.theorems new.theorems number w updates q) [
      | inl same ↦ subst (λ (r : ℕ). IsAsked c way new r m) same.0 (still number m (kept m (sym same.1 ∙ e)))
      | inr other ↦ still q m (a.each q m (sym other ∙ e))
    ];
  }

  -- one theorem was taken out
  pub asked_without : (number : ℕ) → ((q : ℕ) → get nat_cmp new.theorems q ≡ cond (is_at (nat_cmp number) q) None (get nat_cmp old.theorems q)) → AreAsked c way old → AreAsked c way new
  asked_without number updates a = asked_changed number None updates (λ m e. absurd (none-some m e)) a

  -- nothing was written
  pub asked_same : new.theorems.entries ≡ old.theorems.entries → AreAsked c way old → AreAsked c way new
  asked_same theorems a = record {
    stamps = low_still a;
    each = λ q m e. still q m (a.each q m (sym (ap (λ es. lookup (is_at (nat_cmp q)) es) theorems) ∙ e));
  }

-- one theorem more, or anew, if there was memory for it
pub asked_tried : {A E : Type 0} (c : Closing) (way : List FactTree) (number : ℕ) (m : BTreeMap ℕ Found) (old new : Asked) (r : Result A E) → OnOk r (Updates nat_cmp old.theorems new.theorems number (Some m))
    → OnErr r (new.theorems.entries ≡ old.theorems.entries) → new.stamps ≡ old.stamps → new.next ≡ old.next → IsAsked c way old number m → AreAsked c way old → AreAsked c way new
asked_tried c way number m old new (Ok x) updates none stamps next kept a =
    asked_changed c way old new stamps next number (Some m) updates.0 (λ k same. subst (λ (l : BTreeMap ℕ Found). IsAsked c way old number l) (same_Some m k same) kept) a
asked_tried c way number m old new (Err e) updates none stamps next kept a = asked_same c way old new stamps next none a

-- ---- places at which facts of a theorem were found

pub standing_none : (stamps : List ℕ) (places : BTreeMap ℕ Found) → places.entries ≡ [] → IsStanding stamps places
standing_none stamps places empty = record { each = λ p e at. absurd (none_at places p e empty at) }

-- the last one still has its stamp
pub standing_last : (stamps : List ℕ) (places : BTreeMap ℕ Found) (last : ℕ) (found : Found) → get nat_cmp places last ≡ Some found → ((q : ℕ) → IsSome (get nat_cmp places q) → is_lt (nat_cmp last q) ≡ false)
    → slice_get stamps last ≡ Some found.stamp → IsStanding stamps places
standing_last stamps places last found is greatest stands = record {
  each = λ p e at. record { place = last; found = found; le = ge_from_not_lt last p (greatest p (subst (λ (o : Option Found). IsSome o) (sym at) refl)); is = is; stands = stands };
}

pub parted_none : (places : BTreeMap ℕ Found) → IsParted places places []
parted_none places = record { kept = λ p e at. at; each = λ p e at. inl at; were = λ i h. let lt = h.1 in absurd (omega (arith, lt)) }

-- one place more was taken out
pub parted_more : (first old new : BTreeMap ℕ Found) (gone : List ℕ) (p : ℕ) (e : Found) → get nat_cmp old p ≡ Some e → ((q : ℕ) → get nat_cmp new q ≡ cond (is_at (nat_cmp p) q) None (get nat_cmp old q))
    → IsParted first old gone → IsParted first new (gone ++ e.fact ∷ [])
parted_more first old new gone p e is updates h = record {
  kept = λ q d at. elim (at_change old new p None updates q) [
    | inl same ↦ absurd (none-some d (sym same.1 ∙ at))
    | inr other ↦ h.kept q d (sym other ∙ at)
  ];
  each = λ q d at. elim (h.each q d at) [
    | inl there ↦ elim (at_change old new p None updates q) [
      | inl same ↦
          let one : e ≡ d = same_Some e d (sym is ∙ ap (λ (k : ℕ). get nat_cmp old k) same.0 ∙ there) in
          inr (subst (λ (x : Found). Contains (gone ++ e.fact ∷ []) x.fact) one (Contains-push gone e.fact))
      | inr other ↦ inl (other ∙ there)
    ]
    | inr c ↦ inr (Contains-append_left gone (e.fact ∷ []) d.fact c)
  ];
  were = λ i c. elim (Contains-push_cases gone e.fact i c) [
    | inl was ↦ h.were i was
    | inr same ↦ record { place = p; found = e; is = h.kept p e is; fact = same }
  ];
}

-- where the last one that is left still has its stamp, all of them do
pub found_parted : (way facts : List FactTree) (k : Asked) (old new : BTreeMap ℕ Found) (gone : List ℕ) → HavePlaces way k facts old → IsParted old new gone → IsStanding k.stamps new → AreFound k.stamps way facts new gone
found_parted way facts k old new gone h part stands = record {
  there = λ p e at. let s = stands.each p e at in h.first p s.place e s.found s.le (part.kept p e at) (part.kept s.place s.found s.is) s.stands;
  low = λ i c. let was = part.were i c in subst (λ (n : ℕ). n < length facts) was.fact (h.low was.place was.found was.is).1;
  all = λ i f is.
      let was = h.all i f is in
      elim (part.each was.place was.found was.is) [
        | inl at ↦ inl (record { place = was.place; found = was.found; is = at; fact = was.fact })
        | inr c ↦ inr (record { number = was.found.fact; is = c; fact = was.fact })
      ];
}

-- none was looked up
pub found_none : (stamps : List ℕ) (way facts : List FactTree) (places : BTreeMap ℕ Found) (numbers : List ℕ) (many : ℕ) → places.entries ≡ [] → AreUpTo many numbers → length facts ≡ many → AreFound stamps way facts places numbers
found_none stamps way facts places numbers many empty all long = record {
  there = λ p e at. absurd (none_at places p e empty at);
  low = λ i c. let lt = all.low i c in omega (arith, lt, long);
  all = λ i f at. let lt = slice_get_within facts i f at in inr (record { number = i; is = all.each i (omega (arith, lt, long)); fact = at });
}

-- numbers below a number
pub up_to_none : (all : List ℕ) → all ≡ [] → AreUpTo 0 all
up_to_none all is = subst (AreUpTo 0) (sym is) (record { each = λ i lt. absurd (omega (arith, lt)); low = λ i c. let lt = c.1 in absurd (omega (arith, lt)) })

pub up_to_more : (n : ℕ) (all new : List ℕ) → new ≡ all ++ n ∷ [] → AreUpTo n all → AreUpTo (n + 1) new
up_to_more n all new is h = subst (AreUpTo (n + 1)) (sym is) (record {
  each = λ i lt. elim (before_or_last i n lt) [
    | inl before ↦ Contains-append_left all (n ∷ []) i (h.each i before)
    | inr last ↦ subst (Contains (all ++ n ∷ [])) (sym last) (Contains-push all n)
  ];
  low = λ i c. elim (Contains-push_cases all n i c) [ inl was ↦ (let lt = h.low i was in omega (arith, lt)) | inr same ↦ omega (arith, same) ];
})

pub first_or_rest : {A : Type 0} (x : A) (xs : List A) (y : A) → Contains (x ∷ xs) y → (x ≡ y) ⊎ Contains xs y
first_or_rest x xs y c = let at = at_contains (x ∷ xs) y c in by at.0 at.1
  where
    by : (k : ℕ) → slice_get (x ∷ xs) k ≡ Some y → (x ≡ y) ⊎ Contains xs y
    by zero e = inl (same_Some x y e)
    by (suc k) e = inr (contains_at xs k y e)

pub in_rest : {A : Type 0} (x : A) (xs : List A) (y : A) → Contains xs y → Contains (x ∷ xs) y
in_rest x xs y c = let at = at_contains xs y c in contains_at (x ∷ xs) (suc at.0) y at.1

-- one more was looked up
module _ (stamps : List ℕ) (way facts : List FactTree) (old new : BTreeMap ℕ Found) (place : ℕ) (e : Found) (f : FactTree) (rest : List ℕ) (stamped : slice_get stamps place ≡ Some e.stamp) (here : get nat_cmp new place ≡ Some e)
    (updates : (q : ℕ) → get nat_cmp new q ≡ cond (is_at (nat_cmp place) q) (Some e) (get nat_cmp old q)) (is : slice_get facts e.fact ≡ Some f) (there : slice_get way place ≡ Some f) (h : AreFound stamps way facts old (e.fact ∷ rest)) where
  found_here : IsFound new facts f
  found_here = record { place = place; found = e; is = here; fact = is }

  found_still : (g : FactTree) → IsFound old facts g → IsFound new facts g
  found_still g was = elim (at_change old new place (Some e) updates was.place) [
    | inl same ↦
        let stood = h.there was.place was.found was.is in
        let one : f ≡ g = same_Some f g (sym there ∙ ap (λ (k : ℕ). slice_get way k) same.0 ∙ stood.there ∙ sym stood.is ∙ was.fact) in
        subst (IsFound new facts) one found_here
    | inr other ↦ record { place = was.place; found = was.found; is = other ∙ was.is; fact = was.fact }
  ]

  pub found_noted : AreFound stamps way facts new rest
  found_noted = record {
    there = λ p d at. elim (at_change old new place (Some e) updates p) [
      | inl same ↦
          let one : e ≡ d = same_Some e d (sym same.1 ∙ at) in
          subst (λ (x : Found). IsThere stamps way facts p x) one (subst (λ (k : ℕ). IsThere stamps way facts k e) same.0 (record { fact = f; is = is; there = there; stands = stamped }))
      | inr other ↦ h.there p d (sym other ∙ at)
    ];
    low = λ i c. h.low i (in_rest e.fact rest i c);
    all = λ i g at. elim (h.all i g at) [
      | inl was ↦ inl (found_still g was)
      | inr left ↦ elim (first_or_rest e.fact rest left.number left.is) [
        | inl same ↦
            let one : f ≡ g = same_Some f g (sym is ∙ ap (λ (k : ℕ). slice_get facts k) same ∙ left.fact) in
            inl (subst (IsFound new facts) one found_here)
        | inr later ↦ inr (record { number = left.number; is = later; fact = left.fact })
      ]
    ];
  }

-- the first of those that are left
module _ (stamps : List ℕ) (way facts : List FactTree) (places : BTreeMap ℕ Found) (left : List ℕ) (k : ℕ) (lt : k < length left) (h : AreFound stamps way facts places (drop k left)) where
  pub found_next : AreFound stamps way facts places (get_or left k 0 ∷ drop (k + 1) left)
  found_next = subst (AreFound stamps way facts places) (drop_more left k 0 lt) h

  pub next_low : get_or left k 0 < length facts
  next_low = found_next.low (get_or left k 0) (contains_at (get_or left k 0 ∷ drop (k + 1) left) 0 (get_or left k 0) refl)

-- all were found
pub found_over : (stamps : List ℕ) (ns : List Node) (now way given facts : List HeldFact) (places : BTreeMap ℕ Found) → now ≡ way → given ≡ facts → AreFound stamps (map (fact_of ns) now) (map (fact_of ns) given) places []
    → AreFound stamps (map (fact_of ns) way) (map (fact_of ns) facts) places []
found_over stamps ns now way given facts places w f h =
    subst (λ (fs : List HeldFact). AreFound stamps (map (fact_of ns) way) (map (fact_of ns) fs) places []) f (subst (λ (fs : List HeldFact). AreFound stamps (map (fact_of ns) fs) (map (fact_of ns) given) places []) w h)

module _ (stamps : List ℕ) (way facts : List FactTree) (places : BTreeMap ℕ Found) (h : AreFound stamps way facts places []) where
  all_found : (i : ℕ) (f : FactTree) → slice_get facts i ≡ Some f → IsFound places facts f
  all_found i f at = elim (h.all i f at) [ inl was ↦ was | inr left ↦ (let lt = left.is.1 in absurd (omega (arith, lt))) ]

  pub found_among : AreAmong facts way
  found_among = record {
    each = λ f c.
        let at = at_contains facts f c in
        let was = all_found at.0 f at.1 in
        let stood = h.there was.place was.found was.is in
        contains_at way was.place f (stood.there ∙ sym stood.is ∙ was.fact);
  }

  pub places_found : (k : Asked) → k.stamps ≡ stamps → ((i s : ℕ) → slice_get k.stamps i ≡ Some s → s < k.next) → HavePlaces way k facts places
  places_found k same low =
      let so : (p : ℕ) (e : Found) → get nat_cmp places p ≡ Some e → IsThere k.stamps way facts p e = λ p e at. subst (λ (l : List ℕ). IsThere l way facts p e) (sym same) (h.there p e at) in
      record {
        low = λ p e at. let stood = so p e at in (low p e.stamp stood.stands, slice_get_within facts e.fact stood.fact stood.is);
        first = λ p q e d le at other stands. so p e at;
        all = all_found;
      }

-- ---- what is known of one theorem

pub knows_of : (g : GroupTree) (def : DefTree) (theorem : ℕ → Option TripleTree) (way : List FactTree) (number : ℕ) (k : Asked) (t : TripleTree) → theorem number ≡ Some t → AreAsked (closing_with g def theorem) way k
    → KnowsOf g def way number k t
knows_of g def theorem way number k t is a =
    let same : (m : BTreeMap ℕ Found) (e : get nat_cmp k.theorems number ≡ Some m) → (a.each number m e).t ≡ t = λ m e. same_Some _ t (sym (a.each number m e).is ∙ is) in
    record {
      begins = λ some. let m = of_some (get nat_cmp k.theorems number) some in subst (Begins g def) (same m.0 m.1) (a.each number m.0 m.1).begins;
      places = record { each = λ m e. subst (λ (u : TripleTree). HavePlaces way k u.facts m) (same m e) (a.each number m e).places };
    }

pub begins_known : (g : GroupTree) (def : DefTree) (way : List FactTree) (number : ℕ) (k : Asked) (t : TripleTree) → KnowsOf g def way number k t → IsSome (get nat_cmp k.theorems number) ⊎ Begins g def t → Begins g def t
begins_known g def way number k t knows b = elim b [ inl kept ↦ knows.begins kept | inr here ↦ here ]

pub leads_known : (g : GroupTree) (def : DefTree) (way : List FactTree) (number : ℕ) (k : Asked) (t : TripleTree) → KnowsOf g def way number k t → HasStanding k number → LeadsOver g def way t
leads_known g def way number k t knows h = record {
  begins = knows.begins (subst (λ (o : Option (BTreeMap ℕ Found)). IsSome o) (sym h.is) refl);
  facts = found_among k.stamps way t.facts h.places (found_parted way t.facts k h.places h.places [] (knows.places.each h.places h.is) (parted_none h.places) h.stands);
}

pub stays_so : (g : GroupTree) (def : DefTree) (way : List FactTree) (number : ℕ) (t : TripleTree) (old new : Asked) → Begins g def t → StaysFor way number t old new → StaysAsked g def way number t old new
stays_so g def way number t old new begins s = record { each = λ theorem is a. s.each (closing_with g def theorem) is begins a }

-- the same theorems and facts
pub asked_put : (g : GroupTree) (def : DefTree) (theorem now : ℕ → Option TripleTree) (way new : List FactTree) (k : Asked) → now ≡ theorem → new ≡ way → AreAsked (closing_with g def theorem) way k
    → AreAsked (closing_with g def now) new k
asked_put g def theorem now way new k t w a =
    subst (λ (f : ℕ → Option TripleTree). AreAsked (closing_with g def f) new k) (sym t) (subst (λ (fs : List FactTree). AreAsked (closing_with g def theorem) fs k) (sym w) a)

-- ---- whether a theorem leads to a leaf

pub leads_facts : (g : GroupTree) (def : DefTree) (way : List FactTree) (t : TripleTree) (r : Bool) → Begins g def t → (IsTrue r ↔ AreAmong t.facts way) → IsTrue r ↔ LeadsOver g def way t
leads_facts g def way t r begins is = (λ h. record { begins = begins; facts = is.0 h }, λ l. is.1 l.facts)
