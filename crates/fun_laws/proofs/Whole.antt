-- What a call that reads a whole text answers.
use Rattle.std.proofs.Common.{◌≡◌, ℕ, zero, suc, ◌+◌, ◌≤◌, Bool, false, true, Option, Some, None, max, true≢false, List, [], ◌∷◌, ◌++◌, length, Ok, refl, sym, ap, subst, ◌∙◌, arith, inl, inr, ◌⊎◌}
use Rattle.std.specs.Prelude.{IsSomeAnd, nat_le}
use Rattle.std.proofs.lemmas.List.{append-nil}
use Rattle.mc_text.specs.Tokens.{Tok, Left, Right, Semi, Atom, Eol, Done, Stuck}
use Rattle.mc_text.specs.declared.token.Before.TheVariants.{Start, Open, Later}
use Rattle.mc_text.specs.declared.token.Class.{Class}
use Rattle.mc_text.specs.declared.token.Class.TheVariants.{Letter, LeftMark, RightMark, SemiMark, Newline, Space, Other}
use Rattle.mc_text.specs.Scanning.{class_of, State, At, Within, Spaced, lex, byte_step, prepend, or_stuck, ended, at_end, loose, tight, grows, parts, eols}
use Rattle.mc_text.specs.Reading.{Reader, goes_on}
use Rattle.mc_text.specs.Fault.{Begins, Grammar, InGrammar, IsBadAt, LinesBegin, first_lines, newlines}
use Rattle.mc_text.proofs.FaultLine.{AreLines, spell-lines, eols-append, newlines-spell, bad-line, bad-rest, whole-text, text-read}
use Rattle.mc_text.proofs.ReaderLaws.{ok-value}
use Rattle.mc_text.proofs.Tail.{bad-tail, bad-end}
use Rattle.group_text.specs.inner.Rest.{GoesOn, is_done}
use Rattle.group_text.proofs.Claims.{Read, Stopped}
use Rattle.group_text.specs.declared.version.Version.{Version as Known}
use Rattle.group_text.specs.declared.version.Version.TheVariants.{One, Two, Three, Four}
use Rattle.group_text.specs.Version.{Version, version_1, version_2, version_3, version_4, version_of}
use Rattle.group_text.proofs.HeadLaws.{le-true}
use Rattle.fun_laws.specs.Limits.{IsCert, IsCertIn, cert_texts, cert_texts_in}
use Rattle.fun_laws.specs.Spelling.{CertTree, cert_text, cert_tokens}
use Rattle.fun_laws.specs.inner.Reading.{cert_at}
use Rattle.fun_laws.proofs.CertLaws.{IsReadable, cert-law, cert-is-tokens, false-le, with-memories}
use Rattle.fun_laws.proofs.FewerLines.{begins-up-to}

-- ---- no more lines than bytes

prepend-eols : (b : ℕ) (ts : List Tok) → eols (prepend b ts) ≤ eols ts
prepend-eols b [] = omega arith
prepend-eols b (Atom a ∷ ts) = omega arith
prepend-eols b (Left ∷ ts) = omega arith
prepend-eols b (Right ∷ ts) = omega arith
prepend-eols b (Semi ∷ ts) = omega arith
prepend-eols b (Eol ∷ ts) = omega arith
prepend-eols b (Done ∷ ts) = omega arith
prepend-eols b (Stuck ∷ ts) = omega arith

or-eols : (f : Bool) (ts : List Tok) (n : ℕ) → eols ts ≤ n → eols (or_stuck f ts) ≤ n
or-eols true ts n h = h
or-eols false ts n h = omega arith

ended-eols : (s : State) (ts : List Tok) (n : ℕ) → eols ts ≤ n → eols (ended s ts) ≤ n
ended-eols (At m) ts n h = h
ended-eols Spaced ts n h = h
ended-eols Within ts n h = omega (arith, h)

step-eols : (c : Class) (b : ℕ) (s : State) (k : State → List Tok) (n : ℕ) → ((s : State) → eols (k s) ≤ n) → eols (byte_step c b s k) ≤ suc n
step-eols Letter b s k n h = or-eols (grows s) (prepend b (k Within)) (suc n) (omega (arith, prepend-eols b (k Within), h Within))
step-eols LeftMark b s k n h = ended-eols s _ (suc n) (or-eols (loose s) (Left ∷ k (At Open)) (suc n) (omega (arith, h (At Open))))
step-eols RightMark b s k n h = ended-eols s _ (suc n) (or-eols (tight s) (Right ∷ k (At Later)) (suc n) (omega (arith, h (At Later))))
step-eols SemiMark b s k n h = ended-eols s _ (suc n) (or-eols (loose s) (Semi ∷ k (At Later)) (suc n) (omega (arith, h (At Later))))
step-eols Newline b s k n h = ended-eols s _ (suc n) (or-eols (tight s) (Eol ∷ k (At Start)) (suc n) (omega (arith, h (At Start))))
step-eols Space b s k n h = ended-eols s _ (suc n) (or-eols (parts s) (k Spaced) (suc n) (omega (arith, h Spaced)))
step-eols Other b s k n h = ended-eols s (Stuck ∷ []) (suc n) (omega arith)

end-eols : (s : State) → eols (at_end s) ≤ 0
end-eols (At Start) = omega arith
end-eols (At Open) = omega arith
end-eols (At Later) = omega arith
end-eols Spaced = omega arith
end-eols Within = omega arith

pub eols-short : (bytes : List ℕ) (s : State) → eols (lex bytes s) ≤ length bytes
unfolding lex
eols-short [] s = end-eols s
eols-short (b ∷ bs) s = step-eols (class_of b) b s (lex bs) (length bs) (eols-short bs)

-- ---- whole texts

-- of certificates of groups of a version
module _ (v : Version) (h : IsReadable v) where
  abbrev texts : Grammar CertTree
  texts = cert_texts_in v

  abbrev reader : Reader CertTree
  reader = cert_at v

  text-lines : (c : CertTree) → IsCertIn v c → AreLines (cert_text c)
  text-lines c fits = spell-lines (cert_tokens c) ((cert-law v h).ends c fits)

  not-done : (ts us : List Tok) → goes_on is_done ts ≡ false → ts ≡ Done ∷ us → ⊥
  not-done ts us g e = true≢false (sym (ap (goes_on is_done) e) ∙ g)

  module _ (text lines tail : List ℕ) (is : text ≡ lines ++ tail) (none : newlines tail ≡ 0) where
    in-text : (n : ℕ) → IsBadAt texts lines n → IsBadAt texts text n
    in-text n bad = subst (λ (w : List ℕ). IsBadAt texts w n) (sym is) (bad-tail texts text-lines lines tail n none bad)

    -- where reading stops
    pub text_stopped : (passed : ℕ) → Stopped reader lines passed → IsBadAt texts text (passed + 1)
    text_stopped passed at = in-text (passed + 1) (bad-line reader (IsCertIn v) cert_tokens (cert-law v h) (cert-is-tokens v h) lines at.bad (passed + 1) at.is (let e = at.count in omega (arith, e)))

    module _ (c : CertTree) (rest : List ℕ) (passed : ℕ) (at : Read reader c lines rest passed) where
      last : lex rest (At Start) ≡ Done ∷ [] → IsCertIn v c × (lines ≡ cert_text c)
      last e = whole-text reader (IsCertIn v) cert_tokens (cert-law v h) (cert-is-tokens v h) lines c [] (at.is ∙ ap (λ (us : List Tok). Ok (c, us)) e)

      -- where bytes without a newline are left
      bad-bytes : lex rest (At Start) ≡ Done ∷ [] → (tail ≡ [] → ⊥) → IsBadAt texts text (passed + 1)
      bad-bytes e some =
          let w = last e in
          let read : reader (lex lines (At Start)) ≡ Ok (c, Done ∷ []) = at.is ∙ ap (λ (us : List Tok). Ok (c, us)) e in
          let took = (cert-law v h).takes (lex lines (At Start)) c (Done ∷ []) read in
          let same : eols (lex lines (At Start)) ≡ eols (cert_tokens c ++ Done ∷ []) = ap eols took.0 in
          let left : eols (lex rest (At Start)) ≡ eols (Done ∷ []) = ap eols e in
          let count = at.count in
          let number : suc (newlines (cert_text c)) ≡ passed + 1 = omega (arith, count, left, same, eols-append (cert_tokens c) (Done ∷ []), newlines-spell Start (cert_tokens c) (cert-is-tokens v h c w.0)) in
          subst (λ (w : List ℕ). IsBadAt texts w (passed + 1)) (ap (λ (w : List ℕ). w ++ tail) (sym w.1) ∙ sym is)
          (subst (IsBadAt texts (cert_text c ++ tail)) number (bad-end texts text-lines c tail w.0 some none))

      -- where something follows
      pub text_goes_on : GoesOn (lex rest (At Start)) tail → IsBadAt texts text (passed + 1)
      text_goes_on (inl more) =
          in-text (passed + 1) (bad-rest reader (IsCertIn v) cert_tokens (cert-law v h) (cert-is-tokens v h) lines c (lex rest (At Start)) (passed + 1) at.is (λ us e. not-done (lex rest (At Start)) us more e) (let e = at.count in omega (arith, e)))
      text_goes_on (inr e) = bad-bytes e.0 e.1

      -- where nothing follows
      pub text_ended : lex rest (At Start) ≡ Done ∷ [] → tail ≡ [] → IsCertIn v c × (text ≡ cert_text c)
      text_ended e n =
          let w = last e in
          (w.0, is ∙ ap (λ (w : List ℕ). lines ++ w) n ∙ append-nil lines ∙ w.1)

-- ---- certificates of groups of any version

abbrev any : Version
any = record version_1 { most_mems = 2 }

any-readable : IsReadable any
any-readable = record { some = omega arith; few = omega arith }

pub readable : (k : Known) → IsReadable (version_of k)
readable One = record { some = omega arith; few = omega arith }
readable Two = record { some = omega arith; few = omega arith }
readable Three = record { some = omega arith; few = omega arith }
readable Four = record { some = omega arith; few = omega arith }

as-any : (k : Known) (c : CertTree) → IsCertIn (version_of k) c → IsCertIn any c
as-any k c h = record { old = with-memories (version_of k) any c.old h.old (omega arith, omega (arith, h.old.memories.1, (readable k).few)); steps = h.steps; result = h.result; some = h.some; few = h.few }

-- a text is that of one certificate
pub certs-once : (c d : CertTree) → IsCert c → IsCert d → cert_text c ≡ cert_text d → c ≡ d
certs-once c d a b e =
    let laws = cert-law any any-readable in
    let real = cert-is-tokens any any-readable in
    let same : Ok (c, Done ∷ []) ≡ Ok (d, Done ∷ []) =
    sym (text-read (cert_at any) (IsCertIn any) cert_tokens laws real c (as-any a.0 c a.1))
    ∙ ap (λ (w : List ℕ). cert_at any (lex w (At Start))) e
    ∙ text-read (cert_at any) (IsCertIn any) cert_tokens laws real d (as-any b.0 d b.1) in
    ok-value c d (Done ∷ []) (Done ∷ []) same

-- ---- texts that are none

-- a certificate of a group of a version with one memory at most is one of a group of version 1
in-first : (v : Version) → v.most_mems ≤ 1 → (c : CertTree) → IsCertIn v c → IsCertIn version_1 c
in-first v one c h = record { old = with-memories v version_1 c.old h.old (omega arith, omega (arith, h.old.memories.1, one)); steps = h.steps; result = h.result; some = h.some; few = h.few }

module _ (text : List ℕ) where
  abbrev First : ℕ → Type 0
  First n = LinesBegin (cert_texts_in version_1) text n

  abbrev Second : ℕ → Type 0
  Second n = LinesBegin (cert_texts_in version_4) text n

  either : (o : Option (List ℕ)) → IsSomeAnd o (Begins cert_texts) → IsSomeAnd o (Begins (cert_texts_in version_1)) ⊎ IsSomeAnd o (Begins (cert_texts_in version_4))
  either None h = absurd h
  either (Some w) (c, (One, h), more, e) = inl (c, h, more, e)
  either (Some w) (c, (Two, h), more, e) = inl (c, in-first version_2 (omega arith) c h, more, e)
  either (Some w) (c, (Three, h), more, e) = inl (c, in-first version_3 (omega arith) c h, more, e)
  either (Some w) (c, (Four, h), more, e) = inr (c, h, more, e)

  begins-one : (k : Known) (o : Option (List ℕ)) → IsSomeAnd o (Begins (cert_texts_in (version_of k))) → IsSomeAnd o (Begins cert_texts)
  begins-one k None h = absurd h
  begins-one k (Some w) (c, h, more, e) = (c, (k, h), more, e)

  none : (InGrammar (cert_texts_in version_1) text → ⊥) → (InGrammar (cert_texts_in version_4) text → ⊥) → InGrammar cert_texts text → ⊥
  none first second (c, (One, h), e) = first (c, h, e)
  none first second (c, (Two, h), e) = first (c, in-first version_2 (omega arith) c h, e)
  none first second (c, (Three, h), e) = first (c, in-first version_3 (omega arith) c h, e)
  none first second (c, (Four, h), e) = second (c, h, e)

  not-either : (n : ℕ) → (First n → ⊥) → (Second n → ⊥) → LinesBegin cert_texts text n → ⊥
  not-either n first second h =
      elim (either (first_lines n text) h) [
        | inl a ↦ first a
        | inr b ↦ second b
      ]

  -- a text that is no certificate of a group with one memory at most, and none of one with two
  pub bad-both : (m n : ℕ) → IsBadAt (cert_texts_in version_1) text m → IsBadAt (cert_texts_in version_4) text n → IsBadAt cert_texts text (max m n)
  bad-both zero n a b = absurd a
  bad-both (suc m) zero a b = absurd b
  bad-both (suc m) (suc n) a b = by (nat_le m n) refl
    where
      by : (f : Bool) → nat_le m n ≡ f → IsBadAt cert_texts text (max (suc m) (suc n))
      by true e =
          let le = le-true m n e in
          let most : suc n ≡ max (suc m) (suc n) = omega (arith, le) in
          subst (IsBadAt cert_texts text) most
          (none a.0 b.0, begins-one Four (first_lines n text) b.1, not-either (suc n) (λ h. a.2 (begins-up-to (cert_texts_in version_1) text (suc m) (suc n) (omega (arith, le)) h)) b.2)
      by false e =
          let gt = false-le m n e in
          let most : suc m ≡ max (suc m) (suc n) = omega (arith, gt) in
          subst (IsBadAt cert_texts text) most
          (none a.0 b.0, begins-one One (first_lines m text) a.1, not-either (suc m) a.2 (λ h. b.2 (begins-up-to (cert_texts_in version_4) text (suc n) (suc m) (omega (arith, gt)) h)))
