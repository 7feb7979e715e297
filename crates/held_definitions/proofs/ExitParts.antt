-- The parts of an exit's triple, put into an arena one after the other.
use Rattle.std.proofs.Common.{◌≡◌, ℕ, zero, suc, ◌+◌, ◌<◌, Some, None, Result, Ok, Err, List, [], ◌∷◌, ◌++◌, drop, length, get_or, map, take, refl, sym, ap, ◌∙◌, subst, arith}
use Rattle.std.specs.Prelude.{All, IfOk, slice_get, slice_index_or, zip}
use Rattle.std.specs.List.{range_with_len}
use Rattle.std.proofs.lemmas.List.{map-append}
use Rattle.std.proofs.lemmas.List.Elements.{All-cons, All-head, All-nil, All-push, All-tail}
use Rattle.std.proofs.lemmas.List.FromFn.{map-range_with_len_more}
use Rattle.std.proofs.lemmas.Option.{none-some, same_Some}
use Rattle.word_terms.specs.Tree.{WordTree, MemTree, Const}
use Rattle.tailrec_lang.specs.declared.group.Exit.{Exit}
use Rattle.tailrec_lang.specs.Tree.{DefTree, GroupTree, ValuesTree}
use Rattle.triple_kernel.specs.Tree.{Gives}
use Rattle.loop_rule.specs.Leaves.{at_entry, at_exit, parameters, with_values}
use Rattle.loop_rule.specs.Rule.{exit_triple, results as results_of}
use Rattle.term_arena.specs.declared.node.Node.{Node}
use Rattle.term_arena.specs.Arena.{Extends, IsWordAt, word_of}
use Rattle.word_terms.specs.declared.code.Code.{Code}
use Rattle.held_terms.specs.declared.held.Held.{Held}
use Rattle.held_terms.specs.declared.held.HeldFact.{HeldFact}
use Rattle.held_terms.specs.declared.held.HeldFact.TheVariants as held
use Rattle.held_terms.specs.declared.held.HeldSide.{HeldSide}
use Rattle.held_terms.specs.declared.held.HeldValues.{HeldValues}
use Rattle.held_terms.specs.Held.{AreRegistersAt, AreValuesAt, AreWordsAt, IsFactAt, fact_of, register_of, values_over}
use Rattle.held_terms.proofs.GrowthLemmas.{extends_next}
use Rattle.held_terms.specs.inner.Put.{ArePut, AreMemsPut, AreWordsPut, IsHeldPut, IsPut, IsSidePut, IsValuesPut, IsWordPut}
use Rattle.held_definitions.specs.inner.Exits.{IsExitPut, IsHeldWith}
use Rattle.held_terms.proofs.PutLemmas.{gives_put, held_put, side_stays, values_stay}

-- ---- a value that is there

pub ok_as : {T E : Type 0} (r : Result T E) (P Q : T → Type 0) → ((x : T) → P x → Q x) → IfOk r P → IfOk r Q
ok_as (Ok x) P Q f h = f x h
ok_as (Err e) P Q f h = h

-- ---- one more pair

pub zip_more : {A B : Type 0} (xs : List A) (ys : List B) (i : ℕ) (x : A) (y : B) → i < length xs → i < length ys → zip (take (i + 1) xs) ys ≡ zip (take i xs) ys ++ (get_or xs i x, get_or ys i y) ∷ []
zip_more [] ys i x y lx ly = absurd (omega arith)
zip_more (a ∷ cs) [] i x y lx ly = absurd (omega arith)
zip_more (a ∷ cs) (b ∷ bs) zero x y lx ly = refl
zip_more (a ∷ cs) (b ∷ bs) (suc i) x y lx ly =
    let next : suc i + 1 ≡ suc (i + 1) = omega arith in
    (λ j. zip (take (next j) (a ∷ cs)) (b ∷ bs)) ∙ (λ j. (a, b) ∷ zip_more cs bs i x y (omega arith) (omega arith) j)

-- ---- one more variable

pub variable_more : {A T : Type 0} (there : A → Type 0) (of : A → T) (var : ℕ → T) (first i : ℕ) (ks all : List A) (k : A) → all ≡ ks ++ k ∷ [] → ArePut there of ks (map var (range_with_len first i)) → IsPut there of k (var (first + i))
    → ArePut there of all (map var (range_with_len first (i + 1)))
variable_more there of var first i ks all k e before here = record {
  at = subst (All there) (sym e) (All-push there ks k before.at here.at);
  is = ap (map of) e ∙ map-append of ks (k ∷ []) ∙ (λ j. before.is j ++ here.is j ∷ []) ∙ sym (map-range_with_len_more var first i (first + i) refl);
}

-- ---- assertions

zip-there : (ns : List Node) (regs words : List ℕ) → AreWordsAt ns words → AreRegistersAt ns (zip regs words)
zip-there ns [] words w = All-nil (λ (r : ℕ × ℕ). IsWordAt ns r.1)
zip-there ns (r ∷ regs) [] w = All-nil (λ (r : ℕ × ℕ). IsWordAt ns r.1)
zip-there ns (r ∷ regs) (k ∷ words) w = All-cons (λ (q : ℕ × ℕ). IsWordAt ns q.1) (r, k) (zip regs words) (All-head (IsWordAt ns) k words w) (zip-there ns regs words (All-tail (IsWordAt ns) k words w))

zip-map : (ns : List Node) (regs words : List ℕ) → map (register_of ns) (zip regs words) ≡ zip regs (map (word_of ns) words)
zip-map ns [] words = refl
zip-map ns (r ∷ regs) [] = refl
zip-map ns (r ∷ regs) (k ∷ words) = ap (λ (l : List (ℕ × WordTree)). (r, word_of ns k) ∷ l) (zip-map ns regs words)

pub with_put : (ns : List Node) (g : GroupTree) (pc : ℕ) (t : WordTree) (words mems : List ℕ) (a : List WordTree) (b : List MemTree) (s : HeldSide) → IsHeldWith s pc g.regs words mems → IsWordPut ns pc t → AreWordsPut ns words a
    → AreMemsPut ns mems b → IsSidePut ns s (with_values g t (record { words = a; mems = b }))
with_put ns g pc t words mems a b s h p w m =
    let put : IsSidePut ns (record { pc = pc; regs = zip g.regs words; mems = mems }) (with_values g t (record { words = a; mems = b })) = record {
      at = record { pc = p.at; regs = zip-there ns g.regs words w.at; mems = m.at };
      is = λ i. record { pc = p.is i; regs = (zip-map ns g.regs words ∙ ap (zip g.regs) w.is) i; mems = m.is i };
    } in
    let same : record { pc = pc; regs = zip g.regs words; mems = mems } ≡ s = λ i. record { pc = sym h.0 i; regs = sym h.1 i; mems = sym h.2 i } in
    subst (λ (x : HeldSide). IsSidePut ns x (with_values g t (record { words = a; mems = b }))) same put

-- values that stay in a larger arena
pub values_put : (ns ms : List Node) (v : HeldValues) → Extends ns ms → AreValuesAt ns v → IsValuesPut ms v (values_over ns v)
values_put ns ms v e there = values_stay ns ms e v (values_over ns v) (record { at = there; is = refl })

pub words_put : (ns : List Node) (v : HeldValues) (t : ValuesTree) → IsValuesPut ns v t → AreWordsPut ns v.words t.words
words_put ns v t p = record { at = p.at.words; is = ap (λ (x : ValuesTree). x.words) p.is }

pub mems_put : (ns : List Node) (v : HeldValues) (t : ValuesTree) → IsValuesPut ns v t → AreMemsPut ns v.mems t.mems
mems_put ns v t p = record { at = p.at.mems; is = ap (λ (x : ValuesTree). x.mems) p.is }

-- the first word, and the others
pub first_put : (ns : List Node) (k : ℕ) (words : List ℕ) → AreWordsAt ns words → 0 < length words → k ≡ get_or words 0 k → IsWordPut ns k (slice_index_or (map (word_of ns) words) 0 (Const 0))
first_put ns k [] w some e = absurd (omega (arith, some))
first_put ns k (x ∷ words) w some e = record { at = subst (IsWordAt ns) (sym e) (All-head (IsWordAt ns) x words w); is = ap (word_of ns) e }

pub others_put : (ns : List Node) (words : List ℕ) (t : List WordTree) → AreWordsPut ns words t → AreWordsPut ns (drop 1 words) (drop 1 t)
others_put ns [] t p = record { at = p.at; is = ap (drop 1) p.is }
others_put ns (x ∷ words) t p = record { at = All-tail (IsWordAt ns) x words p.at; is = ap (drop 1) p.is }

-- ---- the triple

module _ (g : GroupTree) (d : ℕ) (def : DefTree) (exit : ℕ) (x : Exit) where
  pub exit_put : (n1 n2 n3 n4 : List Node) → Extends n1 n2 → Extends n2 n3 → Extends n3 n4 → (args results : HeldValues) (pre post : HeldSide) (facts : List HeldFact) (code : Code)
      → IsValuesPut n1 args (parameters g) → IsValuesPut n2 results (results_of g x) → IsSidePut n3 pre (at_entry g def (values_over n2 args)) → IsSidePut n4 post (at_exit g (Some x) (values_over n3 results))
      → facts ≡ held.Gives d exit args results ∷ [] → code.ranges ≡ g.code → IsHeldPut n4 (record { facts = facts; pre = pre; code = code; post = post }) (exit_triple g d def exit x)
  exit_put n1 n2 n3 n4 e f h args results pre post facts code a r p q only same =
      let a2 = values_stay n1 n2 e args (parameters g) a in
      let a4 = values_stay n2 n4 (extends_next n2 n3 n4 f h) args (parameters g) a2 in
      let r3 = values_stay n2 n3 f results (results_of g x) r in
      let r4 = values_stay n3 n4 h results (results_of g x) r3 in
      let before : IsSidePut n3 pre (at_entry g def (parameters g)) = subst (λ (v : ValuesTree). IsSidePut n3 pre (at_entry g def v)) a2.is p in
      let after : IsSidePut n4 post (at_exit g (Some x) (results_of g x)) = subst (λ (v : ValuesTree). IsSidePut n4 post (at_exit g (Some x) v)) r3.is q in
      let fact = gives_put n4 d exit args results (parameters g) (results_of g x) a4 r4 in
      held_put n4 facts pre post code (Gives d exit (parameters g) (results_of g x) ∷ []) (at_entry g def (parameters g)) (at_exit g (Some x) (results_of g x)) g.code
      (record {
        at = subst (All (IsFactAt n4)) (sym only) (All-cons (IsFactAt n4) (held.Gives d exit args results) [] fact.at (All-nil (IsFactAt n4)));
        is = ap (map (fact_of n4)) only ∙ (λ i. fact.is i ∷ []);
      })
      (side_stays n3 n4 h pre _ before) same after

  pub is_exit : (ns : List Node) (h : Held) → slice_get g.defs d ≡ Some def → slice_get def.exits exit ≡ Some x → IsHeldPut ns h (exit_triple g d def exit x) → IsExitPut ns g d exit (Some h)
  is_exit ns h at there put = (put.at, record { def = def; is = at; x = x; at = there; same = put.is })

pub no_def : (ns : List Node) (g : GroupTree) (d exit : ℕ) → slice_get g.defs d ≡ None → IsExitPut ns g d exit None
no_def ns g d exit none t e = none-some e.def (sym none ∙ e.is)

pub no_exit : (ns : List Node) (g : GroupTree) (d exit : ℕ) (def : DefTree) → slice_get g.defs d ≡ Some def → slice_get def.exits exit ≡ None → IsExitPut ns g d exit None
no_exit ns g d exit def at none t e =
    let same : e.def ≡ def = same_Some e.def def (sym e.is ∙ at) in
    none-some e.x (sym none ∙ ap (λ (o : DefTree). slice_get o.exits exit) (sym same) ∙ e.at)
