-- Chains when an entry is written or added.
use Rattle.std.proofs.Common.{◌≡◌, ◌≢◌, ℕ, zero, suc, ◌+◌, ◌<◌, ◌≤◌, List, [], ◌∷◌, ◌++◌, Option, Some, None, length, get_or, set, replicate, refl, ap, sym, ◌∙◌, inl, inr, subst, arith, length-append, length-set, get_or-set_other, get_or-set_same}
use Rattle.std.specs.Prelude.{IfNone, slice_get, slice_index}
use Rattle.std.specs.List.{Contains}
use Rattle.std.proofs.lemmas.Bool.{cases_lt, cases_eq}
use Rattle.std.proofs.lemmas.Option.{slice_get_within}
use Rattle.term_arena.specs.declared.node.Node.{Node}
use Rattle.term_arena.specs.declared.chains.Entry.{Entry}
use Rattle.term_arena.specs.inner.Chains.{Skips, IsLinked, IsChained, DoLinksFall, slot_among, nodes_of}
use Rattle.term_arena.specs.inner.Crowded.{Numbers, Keeps, Has}
use Rattle.term_arena.proofs.Places.{at-before, at-push, at-set_other, at-set_same, at-map, at_contains}

-- chains see nothing of the entries from the limit on, and more nodes may be crowded
pub skips_in : (slots : ℕ) (c d : Numbers) (es fs : List Entry) (slot link limit : ℕ) → Keeps c d → ((j : ℕ) → j < limit → slice_get fs j ≡ slice_get es j)
    → Skips slots c es slot link limit → Skips slots d fs slot link limit
skips_in slots c d es fs slot link limit keeps agree s = record {
  falls = s.falls;
  same = λ j e at is. s.same j e at (sym (agree j (let f = s.falls in omega arith)) ∙ is);
  crowd = λ j e low high is h. keeps e.node j (s.crowd j e low high (sym (agree j high) ∙ is) h);
}

-- a limit one higher, past an entry of another slot or a crowded one
pub skips_more : (slots : ℕ) (c : Numbers) (es : List Entry) (slot link k : ℕ) (e : Entry) → slice_get es k ≡ Some e → (slot_among slots e.node ≡ slot → c e.node ≡ Some k)
    → Skips slots c es slot link k → Skips slots c es slot link (k + 1)
skips_more slots c es slot link k e at past s = record {
  falls = let f = s.falls in omega arith;
  same = s.same;
  crowd = λ j f low high is. elim (cases_lt j k) [
    | inl h ↦ s.crowd j f low h is
    | inr h ↦ let d : k ≡ j = omega arith in
        let same : Some e ≡ Some f = sym at ∙ ap (slice_get es) d ∙ is in
        let eq : e ≡ f = cc in
        subst (λ (i : ℕ). slot_among slots f.node ≡ slot → c f.node ≡ Some i) d (subst (λ (x : Entry). slot_among slots x.node ≡ slot → c x.node ≡ Some k) eq past)
  ];
}

-- the link to the entry itself
pub skips_here : (slots : ℕ) (c : Numbers) (es : List Entry) (slot k : ℕ) (e : Entry) → slice_get es k ≡ Some e → slot_among slots e.node ≡ slot → Skips slots c es slot (k + 1) (k + 1)
skips_here slots c es slot k e at is = record {
  falls = omega arith;
  same = λ j f d at'.
      let h : j ≡ k = omega arith in
      let same : Some f ≡ Some e = sym at' ∙ ap (slice_get es) h ∙ at in
      let eq : f ≡ e = cc in
      ap (λ (x : Entry). slot_among slots x.node) eq ∙ is;
  crowd = λ j f low high at'. absurd (omega arith);
}

-- one more entry, with the link that its slot's head had
module _ (slots : ℕ) (c d : Numbers) (es fs : List Entry) (heads : List ℕ) (k : ℕ) (n : Node) (slot : ℕ) (l : IsLinked slots c es heads k) (keeps : Keeps c d)
    (agree : (j : ℕ) → j < k → slice_get fs j ≡ slice_get es j) (at : slice_get fs k ≡ Some (record { node = n; next = slice_index heads slot }))
    (is : slot_among slots n ≡ slot) (within : slot < slots) where
  old_head : (s : ℕ) → s < slots → Skips slots d fs s (slice_index heads s) k
  old_head s low = skips_in slots c d es fs s _ k keeps agree (l.at_heads s low)

  more_entries : (j : ℕ) (e : Entry) → j < k + 1 → slice_get fs j ≡ Some e → Skips slots d fs (slot_among slots e.node) e.next j
  more_entries j e low got = elim (cases_lt j k) [
    | inl h ↦ skips_in slots c d es fs _ _ j keeps (λ i g. agree i (omega arith)) (l.at_entries j e h (sym (agree j h) ∙ got))
    | inr h ↦ let at_k : j ≡ k = omega arith in
        let same : Some e ≡ Some (record { node = n; next = slice_index heads slot }) = sym got ∙ ap (slice_get fs) at_k ∙ at in
        let eq : record { node = n; next = slice_index heads slot } ≡ e = cc in
        subst (λ (x : Entry). Skips slots d fs (slot_among slots x.node) x.next j) eq
        (subst (λ (i : ℕ). Skips slots d fs (slot_among slots n) (slice_index heads slot) i) (sym at_k)
        (subst (λ (s : ℕ). Skips slots d fs s (slice_index heads slot) k) (sym is) (old_head slot within)))
  ]

  -- it is linked
  pub linked_more : slots ≡ length heads → IsLinked slots d fs (set heads slot (k + 1)) (k + 1)
  linked_more count = record {
    at_heads = λ s low. elim (cases_eq s slot) [
      | inl h ↦ subst (λ (x : ℕ). Skips slots d fs s x (k + 1))
          (sym (ap (λ i. get_or (set heads slot (k + 1)) i 0) h ∙ get_or-set_same heads slot (k + 1) 0 (omega arith)))
          (skips_here slots d fs s k _ at (is ∙ sym h))
      | inr h ↦ subst (λ (x : ℕ). Skips slots d fs s x (k + 1)) (sym (get_or-set_other heads slot s (k + 1) 0 h))
          (skips_more slots d fs s (slice_index heads s) k _ at (λ bad. absurd (h (sym bad ∙ is))) (old_head s low))
    ];
    at_entries = more_entries;
  }

  -- it is crowded
  pub crowded_more : d n ≡ Some k → IsLinked slots d fs heads (k + 1)
  crowded_more here = record {
    at_heads = λ s low. skips_more slots d fs s (slice_index heads s) k _ at (λ _. here) (old_head s low);
    at_entries = more_entries;
  }

pub zeros_at : (n i : ℕ) → get_or {A = ℕ} (replicate n 0) i 0 ≡ 0
zeros_at zero i = refl
zeros_at (suc n) zero = refl
zeros_at (suc n) (suc i) = zeros_at n i

zero_at : (heads : List ℕ) (slot : ℕ) → heads ≡ replicate (length heads) 0 → slice_index heads slot ≡ 0
zero_at heads slot h = ap (λ (xs : List ℕ). slice_index xs slot) h ∙ zeros_at (length heads) slot

-- nothing is linked yet
pub linked_none : (slots : ℕ) (c : Numbers) (es : List Entry) (heads : List ℕ) → heads ≡ replicate (length heads) 0 → IsLinked slots c es heads 0
linked_none slots c es heads zeros = record {
  at_heads = λ slot low. subst (λ (x : ℕ). Skips slots c es slot x 0) (sym (zero_at heads slot zeros)) (record {
    falls = omega arith;
    same = λ j e d is. absurd (omega arith);
    crowd = λ j e low' high is. absurd (omega arith);
  });
  at_entries = λ k e low is. absurd (omega arith);
}

-- what a search has found out when it comes to a link: behind it the node is crowded, if it is there
pub record Misses (heads : List ℕ) (c : Numbers) (es : List Entry) (n : Node) (link : ℕ) : Type 0 where
  pub falls : link ≤ length es
  pub same : (j : ℕ) (e : Entry) → link ≡ j + 1 → slice_get es j ≡ Some e → slot_among (length heads) e.node ≡ slot_among (length heads) n
  pub crowd : (j : ℕ) (e : Entry) → link ≤ j → slice_get es j ≡ Some e → e.node ≡ n → c n ≡ Some j

-- where a search begins
pub misses_first : (heads : List ℕ) (c : Numbers) (es : List Entry) (n : Node) → IsChained es heads c → slot_among (length heads) n < length heads
    → Misses heads c es n (slice_index heads (slot_among (length heads) n))
misses_first heads c es n h low =
    let s = h.linked.at_heads (slot_among (length heads) n) low in
    record {
      falls = s.falls;
      same = s.same;
      crowd = λ j e past is same. ap c (sym same) ∙ s.crowd j e past (slice_get_within es j e is) is (ap (slot_among (length heads)) same);
    }

-- .. and how it goes on
pub misses_more : (heads : List ℕ) (c : Numbers) (es : List Entry) (n : Node) (link k : ℕ) (e : Entry) → IsChained es heads c → Misses heads c es n link → link ≡ k + 1
    → slice_get es k ≡ Some e → e.node ≢ n → Misses heads c es n e.next
misses_more heads c es n link k e h m at is other =
    let low : k < length es = slice_get_within es k e is in
    let s = h.linked.at_entries k e low is in
    let slot : slot_among (length heads) e.node ≡ slot_among (length heads) n = m.same k e at is in
    record {
      falls = let f = s.falls in omega arith;
      same = λ j f d got. s.same j f d got ∙ slot;
      crowd = λ j f past got. elim (cases_lt j k) [
        | inl l ↦ λ same. ap c (sym same) ∙ s.crowd j f past l got (ap (slot_among (length heads)) same ∙ sym slot)
        | inr l ↦ elim (cases_eq j k) [
          | inl d ↦
              let same : Some f ≡ Some e = sym got ∙ ap (slice_get es) d ∙ is in
              let eq : f ≡ e = cc in
              λ bad. absurd (other (ap (λ (x : Entry). x.node) (sym eq) ∙ bad))
          | inr d ↦ m.crowd j f (omega arith) got
        ]
      ];
    }

-- at the end of the chain the node is crowded, if it is there
pub misses_all : (heads : List ℕ) (c : Numbers) (es : List Entry) (n : Node) → Misses heads c es n 0 → Contains (nodes_of es) n → (k : ℕ) × (slice_get (nodes_of es) k ≡ Some n) × (c n ≡ Some k)
misses_all heads c es n m there =
    let at = at_contains (nodes_of es) n there in
    let e = at-map (λ (x : Entry). x.node) es at.0 n at.1 in
    (at.0, at.1, m.crowd at.0 e.0 (omega arith) e.1 e.2)

pub none_such : {A : Type 0} {P Q : Type 0} (o : Option A) → (P → Q) → IfNone o P → IfNone o Q
none_such None f h = f h
none_such (Some x) f h = h

-- no entries yet
pub chained_none : (es : List Entry) (heads : List ℕ) (c : Numbers) → es ≡ [] → heads ≡ [] → c ≡ (λ _. None) → IsChained es heads c
chained_none es heads c e h o = record {
  room = let length_e : length es ≡ 0 = ap length e in omega (arith, length_e);
  linked = record {
    at_heads = λ slot low. let length_h : length heads ≡ 0 = ap length h in absurd (omega (arith, low, length_h));
    at_entries = λ k x low is. let length_e : length es ≡ 0 = ap length e in absurd (omega (arith, low, length_e));
  };
  within = λ n k is. let bad : None ≡ Some k = (λ i. sym o i n) ∙ is in cc;
}

keeps_itself : (c : Numbers) → Keeps c c
keeps_itself c n k is = is

pub links_fall : (es : List Entry) (heads : List ℕ) (c : Numbers) → IsChained es heads c → DoLinksFall es
links_fall es heads c h k e is = (h.linked.at_entries k e (slice_get_within es k e is) is).falls

-- an entry is written, with its slot's head or as a crowded one
module _ (c : Numbers) (es fs : List Entry) (heads : List ℕ) (k : ℕ) (n : Node) (slot next : ℕ) (l : IsLinked (length heads) c es heads k) (low : k < length es)
    (is : slot ≡ slot_among (length heads) n) (within : slot < length heads) (from : next ≡ slice_index heads slot) (f : fs ≡ set es k (record { node = n; next = next })) where
  set_agrees : (j : ℕ) → j < k → slice_get fs j ≡ slice_get es j
  set_agrees j h = ap (λ (xs : List Entry). slice_get xs j) f ∙ at-set_other es k j _ (λ d. absurd (omega arith))

  set_there : slice_get fs k ≡ Some (record { node = n; next = slice_index heads slot })
  set_there = ap (λ (xs : List Entry). slice_get xs k) f ∙ at-set_same es k _ low ∙ (λ i. Some (record { node = n; next = from i }))

  pub linked_set : (gs : List ℕ) → gs ≡ set heads slot (k + 1) → IsLinked (length gs) c fs gs (k + 1)
  linked_set gs g =
      let count : length gs ≡ length heads = ap length g ∙ length-set heads slot (k + 1) in
      subst (λ (s : ℕ). IsLinked s c fs gs (k + 1)) (sym count)
      (subst (λ (hs : List ℕ). IsLinked (length heads) c fs hs (k + 1)) (sym g)
      (linked_more (length heads) c c es fs heads k n slot l (keeps_itself c) set_agrees set_there (sym is) within refl))

  pub crowded_set : c n ≡ Some k → IsLinked (length heads) c fs heads (k + 1)
  crowded_set here = crowded_more (length heads) c c es fs heads k n slot l (keeps_itself c) set_agrees set_there (sym is) within here

-- an entry is added
module _ (c : Numbers) (es fs : List Entry) (heads : List ℕ) (n : Node) (slot next : ℕ) (h : IsChained es heads c) (room : length es < length heads)
    (is : slot ≡ slot_among (length heads) n) (within : slot < length heads) (from : next ≡ slice_index heads slot) (f : fs ≡ es ++ record { node = n; next = next } ∷ []) where
  more_length : length fs ≡ length es + 1
  more_length = ap length f ∙ length-append es (record { node = n; next = next } ∷ [])

  push_agrees : (j : ℕ) → j < length es → slice_get fs j ≡ slice_get es j
  push_agrees j h = ap (λ (xs : List Entry). slice_get xs j) f ∙ at-before es _ j h

  push_there : slice_get fs (length es) ≡ Some (record { node = n; next = slice_index heads slot })
  push_there = ap (λ (xs : List Entry). slice_get xs (length es)) f ∙ at-push es _ ∙ (λ i. Some (record { node = n; next = from i }))

  pub chained-push : (gs : List ℕ) → gs ≡ set heads slot (length es + 1) → IsChained fs gs c
  chained-push gs g =
      let more = more_length in
      let count : length gs ≡ length heads = ap length g ∙ length-set heads slot (length es + 1) in
      record {
        room = omega (arith, more, count, room);
        linked = subst (λ (m : ℕ). IsLinked (length gs) c fs gs m) (sym more)
            (subst (λ (s : ℕ). IsLinked s c fs gs (length es + 1)) (sym count)
            (subst (λ (hs : List ℕ). IsLinked (length heads) c fs hs (length es + 1)) (sym g)
            (linked_more (length heads) c c es fs heads (length es) n slot h.linked (keeps_itself c) push_agrees push_there (sym is) within refl)));
        within = λ m k at. let low = h.within m k at in omega (arith, low, more);
      }

  pub chained-crowded : (d : Numbers) → Has n (length es) c d → IsChained fs heads d
  chained-crowded d has =
      let more = more_length in
      record {
        room = omega (arith, more, room);
        linked = subst (λ (m : ℕ). IsLinked (length heads) d fs heads m) (sym more)
            (crowded_more (length heads) c d es fs heads (length es) n slot h.linked has.keeps push_agrees push_there (sym is) within has.here);
        within = λ m k at. elim (has.only m k at) [ inl old ↦ let low = h.within m k old in omega (arith, low, more) | inr new ↦ omega (arith, new, more) ];
      }
