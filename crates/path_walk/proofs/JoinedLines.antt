-- From one place to the next: what an instruction's or a call's lines lead to, joined to the theorem of the way to here.
use Rattle.std.proofs.Common.{◌≡◌, zero, suc, List, [], ◌∷◌, ◌++◌, length, drop, refl, sym, ap, ◌∙◌, subst, arith, Option, None, Some, ◌⊎◌, inl, inr, Contains}
use Rattle.std.specs.Prelude.{IsSomeAnd}
use Rattle.std.proofs.lemmas.List.Elements.{Contains-append_cases}
use Rattle.rv_words.specs.Bytes.{Bytes}
use Rattle.rv_words.specs.declared.range.Range.{Range}
use Rattle.rv_words.specs.Ranges.{range_bytes}
use Rattle.word_terms.specs.Tree.{WordTree, Const}
use Rattle.sep_assert.specs.Code.{IsWithin}
use Rattle.triple_kernel.specs.Tree.{FactTree, TripleTree}
use Rattle.triple_kernel.specs.Rules.{AreAmong}
use Rattle.frame_compose.specs.Rules.{AreMissing, IsComposed}
use Rattle.proof_text.specs.Line.{Compose}
use Rattle.verdicts.specs.Instance.{Meets}
use Rattle.code_parts.specs.Bodies.{Flow, VariableMap}
use Rattle.path_walk.specs.inner.Acts.{GoesOn}
use Rattle.path_walk.specs.inner.Writers.{FromAs, IsReady, WriterTree, Context, CitedTree, OriginTree, Stood, group_in, past, standing_on, stating}
use Rattle.path_walk.proofs.WriterLemmas.{grown_none, grown_state, held_now}
use Rattle.path_walk.proofs.Joins.{drop-all, or-within, some-same, some_and}
use Rattle.code_parts.proofs.Lists.{later}

pub among-missing : (known fs more : List FactTree) → AreMissing known fs more → AreAmong more fs
among-missing known fs more h = record { each = λ x c. go fs more h x c }
  where
    go : (fs more : List FactTree) → AreMissing known fs more → (x : FactTree) → Contains more x → Contains fs x
    go [] more h x c = subst (λ (xs : List FactTree). Contains xs x) (sym h) c
    go (y ∷ fs) more (inl h) x c = later y fs x (go fs more h.1 x c)
    go (y ∷ fs) [] (inr h) x c = absurd h.1
    go (y ∷ fs) (z ∷ more) (inr h) x (zero, lt, at) = (0, omega arith, h.1.0 ∙ at)
    go (y ∷ fs) (z ∷ more) (inr h) x (suc k, lt, at) = later y fs x (go fs more h.1.1 x (k, omega (arith, lt), at))

-- the text stays of its version
pub goes-version : (f : Flow) (o : OriginTree) (from : Option CitedTree) (there t : CitedTree) (to : WordTree) (u : VariableMap) (old new : WriterTree) → GoesOn f o from there to u old new t → new.version ≡ old.version
goes-version f o None there t to u old new on = ap (λ (l : WriterTree). l.version) on.0
goes-version f o (Some st) there t to u old new on = ap (λ (l : WriterTree). l.version) on.log

module _ (f : Flow) (ranges : List Range) (s : Context f ranges) (o : OriginTree) where
  pub goes_on : (old new : WriterTree) (pc : WordTree) (v : VariableMap) (path ways : List FactTree) (from : Option CitedTree) (there t : CitedTree) (to : WordTree) (u : VariableMap) →
      IsReady f ranges s old → FromAs f o ranges (past f ranges s old) pc v path from →
      (past f ranges s old).theorem there.number ≡ Some (record { facts = there.facts; pre = standing_on f o pc v; code = there.code; post = standing_on f o to u }) →
      IsWithin (range_bytes there.code) (range_bytes ranges) → AreAmong there.facts ways → AreAmong path ways → GoesOn f o from there to u old new t → Stood f o ranges s old new to u ways t
  goes_on old new pc v path ways None there t to u ready from held within among longer on =
      subst (λ (l : WriterTree). Stood f o ranges s old l to u ways t) (sym on.0) (subst (λ (x : CitedTree). Stood f o ranges s old old to u ways x) (sym on.1) (record {
        grown = grown_none f ranges s old ready;
        cited = refl;
        stands = record {
          held = held ∙ (λ i. Some (record { facts = there.facts; pre = standing_on f o (from.0 i) (from.1 i); code = there.code; post = standing_on f o to u }));
          facts = among;
          code = within;
        };
      }))
  goes_on old new pc v path ways (Some st) there t to u ready from held within among longer on =
      let first : TripleTree = record { facts = st.facts; pre = standing_on f o (Const o.entry) o.place; code = st.code; post = standing_on f o pc v } in
      let second : TripleTree = record { facts = there.facts; pre = standing_on f o pc v; code = there.code; post = standing_on f o to u } in
      let whole : TripleTree = record { facts = t.facts; pre = standing_on f o (Const o.entry) o.place; code = t.code; post = standing_on f o to u } in
      let split : t.facts ≡ st.facts ++ on.more = on.facts in
      let rest : drop (length st.facts) t.facts ≡ on.more = ap (drop (length st.facts)) split ∙ drop-all st.facts on.more in
      let composed : IsComposed first second whole = record {
        middle = refl;
        agree = λ a b c e d. some-same b c (sym (from.code a b e) ∙ within a c d);
        code = sym on.bytes;
        pre = refl;
        post = refl;
        first_facts = (λ i. st.facts ++ rest i) ∙ sym split;
        further_facts = subst (AreMissing st.facts there.facts) (sym rest) on.are;
      } in
      let meets : Meets (group_in f ranges s) (past f ranges s old) (Compose st.number there.number) whole =
      some_and ((past f ranges s old).theorem st.number) first (λ x. IsSomeAnd ((past f ranges s old).theorem there.number) (λ q. IsComposed x q whole)) from.held
      (some_and ((past f ranges s old).theorem there.number) second (λ q. IsComposed first q whole) held composed) in
      subst (λ (l : WriterTree). Stood f o ranges s old l to u ways t) (sym on.log) (record {
        grown = grown_state f ranges s (Compose st.number there.number) whole old ready meets;
        cited = refl;
        stands = record {
          held = ap (λ k. (past f ranges s (stating (Compose st.number there.number) whole old)).theorem k) on.number ∙ held_now f ranges s (Compose st.number there.number) whole old ready;
          facts = record {
            each = λ x c. by (Contains-append_cases st.facts on.more x (subst (λ (xs : List FactTree). Contains xs x) split c)) (λ d. longer.each x (from.facts.each x d))
                (λ d. among.each x ((among-missing st.facts there.facts on.more on.are).each x d));
          };
          code = λ a b e. or-within (range_bytes st.code a) (range_bytes there.code a) b (range_bytes ranges a ≡ Some b) (ap (λ (y : Bytes). y a) (sym on.bytes) ∙ e) (λ d. from.code a b d) (λ d. within a b d);
        };
      })
    where
      by : {A B C : Type 0} → A ⊎ B → (A → C) → (B → C) → C
      by (inl a) one two = one a
      by (inr b) one two = two b
