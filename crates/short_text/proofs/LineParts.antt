-- Lines behind a group: a table, and lines of a proof over it.
use Rattle.std.proofs.Common.{◌≡◌, true, false, List, [], ◌∷◌, ◌++◌, map, refl, sym, ap, subst, ◌∙◌}
use Rattle.std.specs.List.{AllByRecursion}
use Rattle.term_arena.specs.declared.node.Node.{Node}
use Rattle.short_text.specs.declared.short.Short.{Short}
use Rattle.short_text.specs.declared.short.ShortLine.{ShortLine}
use Rattle.short_text.specs.declared.short.ShortLine.TheVariants.{Term, Proof}
use Rattle.short_text.specs.Table.{IsTable}
use Rattle.short_text.specs.ShortLimits.{IsShort}
use Rattle.short_text.specs.ShortProofs.{table_of, proof_lines, AreTermsFirst, AreShortLines, IsNextLine}
use Rattle.short_text.specs.inner.ShortReaders.{has_begun}
use Rattle.short_text.proofs.TableLaws.{table-more, table-fewer}

-- ---- one behind the others

pub table-behind : (ls : List ShortLine) (n : Node) → table_of (ls ++ Term n ∷ []) ≡ table_of ls ++ n ∷ []
table-behind [] n = refl
table-behind (Term m ∷ ls) n = ap (λ (ns : List Node). m ∷ ns) (table-behind ls n)
table-behind (Proof s ∷ ls) n = table-behind ls n

pub table-kept : (ls : List ShortLine) (s : Short) → table_of (ls ++ Proof s ∷ []) ≡ table_of ls
table-kept [] s = refl
table-kept (Term m ∷ ls) s = ap (λ (ns : List Node). m ∷ ns) (table-kept ls s)
table-kept (Proof t ∷ ls) s = table-kept ls s

lines-kept : (ls : List ShortLine) (n : Node) → proof_lines (ls ++ Term n ∷ []) ≡ proof_lines ls
lines-kept [] n = refl
lines-kept (Term m ∷ ls) n = lines-kept ls n
lines-kept (Proof s ∷ ls) n = ap (λ (ss : List Short). s ∷ ss) (lines-kept ls n)

lines-behind : (ls : List ShortLine) (s : Short) → proof_lines (ls ++ Proof s ∷ []) ≡ proof_lines ls ++ s ∷ []
lines-behind [] s = refl
lines-behind (Term m ∷ ls) s = lines-behind ls s
lines-behind (Proof t ∷ ls) s = ap (λ (ss : List Short). t ∷ ss) (lines-behind ls s)

-- ---- whether the lines of the proof have begun

pub begun-kept : (ls : List ShortLine) (n : Node) → has_begun (ls ++ Term n ∷ []) ≡ has_begun ls
begun-kept [] n = refl
begun-kept (Term m ∷ ls) n = begun-kept ls n
begun-kept (Proof s ∷ ls) n = refl

pub begun-behind : (ls : List ShortLine) (s : Short) → has_begun (ls ++ Proof s ∷ []) ≡ true
begun-behind [] s = refl
begun-behind (Term m ∷ ls) s = begun-behind ls s
begun-behind (Proof t ∷ ls) s = refl

pub none-begun : (ls : List ShortLine) → has_begun ls ≡ false → proof_lines ls ≡ []
none-begun [] e = refl
none-begun (Term n ∷ ls) e = none-begun ls e
none-begun (Proof s ∷ ls) e = absurd cc

pub begun-none : (ls : List ShortLine) → proof_lines ls ≡ [] → has_begun ls ≡ false
begun-none [] e = refl
begun-none (Term n ∷ ls) e = begun-none ls e
begun-none (Proof s ∷ ls) e = absurd cc

-- ---- the order

some-behind : (ns : List Node) (n : Node) → ns ++ n ∷ [] ≡ [] → ⊥
some-behind [] n e = cc
some-behind (m ∷ ns) n e = cc

order-term : (ls : List ShortLine) (n : Node) → AreTermsFirst ls → proof_lines ls ≡ [] → AreTermsFirst (ls ++ Term n ∷ [])
order-term [] n h e = tt
order-term (Term m ∷ ls) n h e = order-term ls n h e
order-term (Proof s ∷ ls) n h e = absurd cc

order-proof : (ls : List ShortLine) (s : Short) → AreTermsFirst ls → AreTermsFirst (ls ++ Proof s ∷ [])
order-proof [] s h = refl
order-proof (Term m ∷ ls) s h = order-proof ls s h
order-proof (Proof t ∷ ls) s h = table-kept ls s ∙ h

no-lines : (ls : List ShortLine) (n : Node) → AreTermsFirst (ls ++ Term n ∷ []) → proof_lines ls ≡ []
no-lines [] n h = refl
no-lines (Term m ∷ ls) n h = no-lines ls n h
no-lines (Proof s ∷ ls) n h = absurd (some-behind (table_of ls) n (sym (table-behind ls n) ∙ h))

order-before : (ls : List ShortLine) (n : Node) → AreTermsFirst (ls ++ Term n ∷ []) → AreTermsFirst ls
order-before [] n h = tt
order-before (Term m ∷ ls) n h = order-before ls n h
order-before (Proof s ∷ ls) n h = absurd (some-behind (table_of ls) n (sym (table-behind ls n) ∙ h))

order-above : (ls : List ShortLine) (s : Short) → AreTermsFirst (ls ++ Proof s ∷ []) → AreTermsFirst ls
order-above [] s h = tt
order-above (Term m ∷ ls) s h = order-above ls s h
order-above (Proof t ∷ ls) s h = sym (table-kept ls s) ∙ h

-- ---- one line more, and one fewer

module _ {X : Type 0} (F : X → Type 0) where
  each-more : (xs : List X) (x : X) → AllByRecursion F xs → F x → AllByRecursion F (xs ++ x ∷ [])
  each-more [] x h k = (k, tt)
  each-more (y ∷ xs) x h k = (h.0, each-more xs x h.1 k)

  each-fewer : (xs : List X) (x : X) → AllByRecursion F (xs ++ x ∷ []) → AllByRecursion F xs × F x
  each-fewer [] x h = (tt, h.0)
  each-fewer (y ∷ xs) x h = let k = each-fewer xs x h.1 in ((h.0, k.0), k.1)

abbrev Each : List Node → List Short → Type 0
Each ns ss = AllByRecursion (IsShort ns) ss

pub lines-more : (ls : List ShortLine) (l : ShortLine) → AreShortLines ls → IsNextLine ls l → AreShortLines (ls ++ l ∷ [])
lines-more ls (Term n) h k = record {
  order = order-term ls n h.order k.0;
  table = subst IsTable (sym (table-behind ls n)) (table-more (table_of ls) n h.table k.1);
  proof = subst (Each (table_of (ls ++ Term n ∷ []))) (sym (lines-kept ls n ∙ k.0)) tt;
}
lines-more ls (Proof s) h k = record {
  order = order-proof ls s h.order;
  table = subst IsTable (sym (table-kept ls s)) h.table;
  proof = subst (λ (ss : List Short). Each (table_of (ls ++ Proof s ∷ [])) ss) (sym (lines-behind ls s))
      (subst (λ (ns : List Node). Each ns (proof_lines ls ++ s ∷ [])) (sym (table-kept ls s)) (each-more (IsShort (table_of ls)) (proof_lines ls) s h.proof k));
}

pub lines-fewer : (ls : List ShortLine) (l : ShortLine) → AreShortLines (ls ++ l ∷ []) → AreShortLines ls × IsNextLine ls l
lines-fewer ls (Term n) h =
    let none : proof_lines ls ≡ [] = no-lines ls n h.order in
    let k = table-fewer (table_of ls) n (subst IsTable (table-behind ls n) h.table) in
    (record { order = order-before ls n h.order; table = k.0; proof = subst (Each (table_of ls)) (sym none) tt }, (none, k.1))
lines-fewer ls (Proof s) h =
    let k = each-fewer (IsShort (table_of ls)) (proof_lines ls) s (subst (Each (table_of ls)) (lines-behind ls s) (subst (λ (ns : List Node). Each ns (proof_lines (ls ++ Proof s ∷ []))) (table-kept ls s) h.proof)) in
    (record { order = order-above ls s h.order; table = subst IsTable (table-kept ls s) h.table; proof = k.0 }, k.1)

-- ---- a table, and lines over it

abbrev terms : List Node → List ShortLine
terms ns = map Term ns

abbrev proofs : List Short → List ShortLine
proofs ss = map Proof ss

table-none : (ss : List Short) → table_of (proofs ss) ≡ []
table-none [] = refl
table-none (s ∷ ss) = table-none ss

lines-all : (ss : List Short) → proof_lines (proofs ss) ≡ ss
lines-all [] = refl
lines-all (s ∷ ss) = ap (λ (ts : List Short). s ∷ ts) (lines-all ss)

order-all : (ss : List Short) → AreTermsFirst (proofs ss)
order-all [] = tt
order-all (s ∷ ss) = table-none ss

pub table-joined : (ns : List Node) (ss : List Short) → table_of (terms ns ++ proofs ss) ≡ ns
table-joined [] ss = table-none ss
table-joined (n ∷ ns) ss = ap (λ (ms : List Node). n ∷ ms) (table-joined ns ss)

pub lines-joined : (ns : List Node) (ss : List Short) → proof_lines (terms ns ++ proofs ss) ≡ ss
lines-joined [] ss = lines-all ss
lines-joined (n ∷ ns) ss = lines-joined ns ss

order-joined : (ns : List Node) (ss : List Short) → AreTermsFirst (terms ns ++ proofs ss)
order-joined [] ss = order-all ss
order-joined (n ∷ ns) ss = order-joined ns ss

pub joined : (ns : List Node) (ss : List Short) → IsTable ns → AllByRecursion (IsShort ns) ss → AreShortLines (terms ns ++ proofs ss)
joined ns ss h k = record {
  order = order-joined ns ss;
  table = subst IsTable (sym (table-joined ns ss)) h;
  proof = subst (Each (table_of (terms ns ++ proofs ss))) (sym (lines-joined ns ss)) (subst (λ (ms : List Node). Each ms ss) (sym (table-joined ns ss)) k);
}

behind-none : (ls : List ShortLine) → table_of ls ≡ [] → ls ≡ proofs (proof_lines ls)
behind-none [] e = refl
behind-none (Term n ∷ ls) e = absurd cc
behind-none (Proof s ∷ ls) e = ap (λ (ms : List ShortLine). Proof s ∷ ms) (behind-none ls e)

apart-by : (ls : List ShortLine) → AreTermsFirst ls → ls ≡ terms (table_of ls) ++ proofs (proof_lines ls)
apart-by [] h = refl
apart-by (Term n ∷ ls) h = ap (λ (ms : List ShortLine). Term n ∷ ms) (apart-by ls h)
apart-by (Proof s ∷ ls) h =
    ap (λ (ms : List ShortLine). Proof s ∷ ms) (behind-none ls h)
    ∙ ap (λ (ns : List Node). terms ns ++ proofs (s ∷ proof_lines ls)) (sym h)

pub apart : (ls : List ShortLine) → AreShortLines ls → ls ≡ terms (table_of ls) ++ proofs (proof_lines ls)
apart ls h = apart-by ls h.order
