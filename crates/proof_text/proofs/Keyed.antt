-- What a word leads to within a line, what a reader makes, and forms that are told apart by a name.
use Rattle.std.proofs.Common.{◌≡◌, ℕ, List, [], ◌∷◌, ◌++◌, Option, Some, Ok, Err, refl, sym, ap, subst, ◌∙◌, inl, inr, ◌⊎◌}
use Rattle.mc_text.specs.Tokens.{Tok, Left, Right, Semi, Atom, Eol, Done, Stuck}
use Rattle.mc_text.specs.Reading.{Reader, pair, with, made, one, atom_of, is_left, is_right}
use Rattle.mc_text.specs.inner.Reading.{is_semi, keyed}
use Rattle.mc_text.proofs.ReaderLaws.{Reads, Stops, StaysFlat, IsFlat, AreAlike, IsElse, keyed-cases, keyed-hit, keyed-miss, Reads-one, Reads-pair, Reads-with}
use Rattle.mc_text.proofs.Choices.{reads-put}
use Rattle.mc_text.proofs.Shown.{Always, shows-left, shows-right, shows-semi, shows-atom}
use Rattle.group_text.specs.TermReading.{named, opened}
use Rattle.group_text.proofs.NameTests.{named-there}

-- ---- what a word leads to

module _ {X : Type 0} (k : List ℕ) (r other : Reader X) where
  -- the same first token
  else-alike : (v bad o : List Tok) → AreAlike bad o → IsElse k r other (v ++ bad) → IsElse k r other (v ++ o)
  else-alike [] [] o a h = subst (IsElse k r other) (sym a) h
  else-alike [] (q ∷ bad) [] a h = absurd a
  else-alike [] (q ∷ bad) (p ∷ o) a h = subst (λ (z : Tok). IsElse k r other (z ∷ o)) a (head q bad o h)
    where
      head : (q : Tok) (bad o : List Tok) → IsElse k r other (q ∷ bad) → IsElse k r other (q ∷ o)
      head (Atom a) bad o h = h
      head Left bad o h = tt
      head Right bad o h = tt
      head Semi bad o h = tt
      head Eol bad o h = tt
      head Done bad o h = tt
      head Stuck bad o h = tt
  else-alike (Atom b ∷ v) bad o a h = h
  else-alike (Left ∷ v) bad o a h = tt
  else-alike (Right ∷ v) bad o a h = tt
  else-alike (Semi ∷ v) bad o a h = tt
  else-alike (Eol ∷ v) bad o a h = tt
  else-alike (Done ∷ v) bad o a h = tt
  else-alike (Stuck ∷ v) bad o a h = tt

  module _ (F O : X → Type 0) (t w : X → List Tok) (law : Reads r F t) (law2 : Reads other O w)
      (hit : (x : X) → F x → w x ≡ Atom k ∷ t x) (sep : (x : X) → O x → (rest : List Tok) → IsElse k r other (w x ++ rest)) where
    keyed-takes : (ts : List Tok) (x : X) (rest : List Tok) → keyed k r other ts ≡ Ok (x, rest) → (ts ≡ w x ++ rest) × (F x ⊎ O x)
    keyed-takes ts x rest e =
        elim (keyed-cases k r other ts (Ok (x, rest)) e) [
          | inl h ↦ let q = law.takes h.0 x rest h.2 in (h.1 ∙ ap (λ (z : List Tok). Atom k ∷ z) q.0 ∙ ap (λ (z : List Tok). z ++ rest) (sym (hit x q.1)), inl q.1)
          | inr h ↦ let q = law2.takes ts x rest h.1 in (q.0, inr q.1)
        ]

    keyed-again : (x : X) (rest : List Tok) → F x ⊎ O x → keyed k r other (w x ++ rest) ≡ Ok (x, rest)
    keyed-again x rest (inl f) = ap (λ (z : List Tok). keyed k r other (z ++ rest)) (hit x f) ∙ keyed-hit k r other (t x ++ rest) ∙ law.again x rest f
    keyed-again x rest (inr f) = keyed-miss k r other (w x ++ rest) (sep x f rest) ∙ law2.again x rest f

    -- reading stopped behind the word
    behind : (ts us bad : List Tok) → Stops r us bad → ts ≡ Atom k ∷ us → Stops (keyed k r other) ts bad
    behind ts us bad s p = record {
      part = Atom k ∷ s.part;
      is = p ∙ ap (λ (z : List Tok). Atom k ∷ z) s.is;
      flat = (λ c. clash c, s.flat);
      fixed = λ o a. keyed-hit k r other (s.part ++ o) ∙ s.fixed o a;
    }
      where
        clash : Atom k ≡ Eol → ⊥
        clash c = cc

    elsewhere : (ts bad : List Tok) → IsElse k r other ts → Stops other ts bad → Stops (keyed k r other) ts bad
    elsewhere ts bad h s = record {
      part = s.part;
      is = s.is;
      flat = s.flat;
      fixed = λ o a. keyed-miss k r other (s.part ++ o) (else-alike s.part bad o a (subst (IsElse k r other) s.is h)) ∙ s.fixed o a;
    }

    pub reads-keyed : Reads (keyed k r other) (λ x. F x ⊎ O x) w
    reads-keyed = record {
      takes = keyed-takes;
      again = keyed-again;
      stops = λ ts bad e. elim (keyed-cases k r other ts (Err bad) e) [
        | inl h ↦ behind ts h.0 bad (law.stops h.0 bad h.2) h.1
        | inr h ↦ elsewhere ts bad h.0 (law2.stops ts bad h.1)
      ];
    }

-- ---- what is made

-- made of something that fits
abbrev pub Image : {X Y : Type 0} → (X → Y) → (X → Type 0) → Y → Type 0
Image {X} make F y = (x : X) × (make x ≡ y) × F x

pub reads-image : {X Y : Type 0} (make : X → Y) (r : Reader X) (F : X → Type 0) (t : X → List Tok) → Reads r F t → (u : Y → List Tok) → ((x : X) → F x → u (make x) ≡ t x)
    → Reads (made make r) (Image make F) u
reads-image make r F t law u same = reads-put make r F t law (Image make F) u (λ x h. (x, refl, h)) same (λ y g. g)

-- ---- forms by their names

module _ {H X : Type 0} (first : Reader H) (FH : H → Type 0) (shown : H → List Tok) (heads : Reads first FH shown) (flat : StaysFlat FH shown)
    (parts : H → Reader X) (Of : H → X → Type 0) (rest : X → List Tok) (each : (h : H) → Reads (parts h) (Of h) rest)
    (G : X → Type 0) (u : X → List Tok) (into : (h : H) (x : X) → FH h → Of h x → G x) (same : (h : H) (x : X) → Of h x → u x ≡ shown h ++ rest x) (from : (x : X) → G x → (h : H) × FH h × Of h x) where
  pub reads-forms : Reads (made (λ (x : H × X). x.1) (with first parts)) G u
  reads-forms =
      reads-put (λ (x : H × X). x.1) (with first parts) _ _ (Reads-with first FH shown heads flat parts Of (λ h. rest) (λ h f. each h))
      G u (λ x k. into x.0 x.1 k.0 k.1) (λ x k. same x.0 x.1 k.1) (λ x g. let f = from x g in ((f.0, x), refl, (f.1, f.2)))

-- the one of these items that a word names
pub named-law : {H : Type 0} (name : H → List ℕ) (items : List H) → ((h : H) → named name items (name h) ≡ Some h) → Reads (one (atom_of (named name items))) Always (λ h. Atom (name h) ∷ [])
named-law name items back = Reads-one (atom_of (named name items)) Always (λ h. Atom (name h)) (shows-atom (named name items) Always name (λ a h e. (named-there name items a h e, tt)) (λ h f. back h))

-- ---- marks

pub left-law : Reads (one is_left) Always (λ _. Left ∷ [])
left-law = Reads-one is_left Always (λ _. Left) shows-left

pub right-law : Reads (one is_right) Always (λ _. Right ∷ [])
right-law = Reads-one is_right Always (λ _. Right) shows-right

pub semi-law : Reads (one is_semi) Always (λ _. Semi ∷ [])
semi-law = Reads-one is_semi Always (λ _. Semi) shows-semi

pub left-flat : IsFlat (Left ∷ [])
left-flat = (λ e. absurd cc, tt)

pub right-flat : IsFlat (Right ∷ [])
right-flat = (λ e. absurd cc, tt)

pub semi-flat : IsFlat (Semi ∷ [])
semi-flat = (λ e. absurd cc, tt)

-- a name behind a parenthesis
pub opened-law : {H : Type 0} (f : List ℕ → Option H) (FH : H → Type 0) (name : H → List ℕ) → Reads (one (atom_of f)) FH (λ h. Atom (name h) ∷ []) → Reads (opened f) FH (λ h. Left ∷ Atom (name h) ∷ [])
opened-law {H} f FH name law =
    reads-put (λ (x : Unit {0} × H). x.1) (pair (one is_left) (one (atom_of f))) _ _ (Reads-pair (one is_left) Always (λ _. Left ∷ []) left-law (λ x h. left-flat) (one (atom_of f)) FH (λ h. Atom (name h) ∷ []) law)
    FH (λ h. Left ∷ Atom (name h) ∷ []) (λ x h. h.1) (λ x h. refl) (λ h g. ((tt, h), refl, (tt, g)))

pub opened-flat : (name : List ℕ) → IsFlat (Left ∷ Atom name ∷ [])
opened-flat name = (λ e. absurd cc, (λ e. absurd cc, tt))
