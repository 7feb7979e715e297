-- The second law: each rule keeps the addresses of memories.
use Rattle.std.proofs.Common.{◌≡◌, ℕ, zero, suc, Bool, true, false, Option, Some, None, List, [], ◌∷◌, ◌++◌, map, refl, sym, ◌∙◌, subst, arith, ⊎_elim}
use Rattle.std.specs.Prelude.{Contains}
use Rattle.std.specs.List.{AllZip}
use Rattle.std.proofs.lemmas.List.{map-append}
use Rattle.rv_words.specs.Bytes.{Bytes, bytes_of}
use Rattle.rv_words.proofs.MemoryLemmas.{store-present}
use Rattle.rv_decode.specs.declared.instruction.Instr.{Instr}
use Rattle.rv_decode.specs.declared.instruction.Instr.TheVariants as instr
use Rattle.word_terms.specs.Tree.{MemTree}
use Rattle.word_terms.specs.Environment.{Environment}
use Rattle.word_terms.specs.Value.{mem_value}
use Rattle.word_terms.specs.Substitution.{Substitution, with_values_of}
use Rattle.tailrec_lang.specs.Tree.{DefTree, GroupTree}
use Rattle.triple_kernel.specs.Tree.{FactTree, TripleTree}
use Rattle.triple_kernel.specs.Fact.{AllHold}
use Rattle.triple_kernel.specs.Swap.{SwapMem}
use Rattle.triple_kernel.specs.Rules.{put_in_fact, IsInst, IsStrengthened, IsWeakened, IsDischarged}
use Rattle.triple_kernel.specs.declared.form.Form.{Form}
use Rattle.triple_kernel.proofs.Among.{is_among}
use Rattle.triple_kernel.proofs.SwapLemmas.{swap_mem-value}
use Rattle.instr_axioms.specs.Axiom.{memory_if, axiom_of, own, variables_for}
use Rattle.instr_axioms.specs.Terms.{Names, has_memory, memory_after}
use Rattle.instr_axioms.proofs.AxiomLemmas.{axiom-parts}
use Rattle.frame_compose.specs.Rules.{rest_after, IsFramed, IsExtended, IsComposed, AreExchanged, IsExchanged}
use Rattle.frame_compose.proofs.ComposeLemmas.{among-first, among-rest, among-missing}
use Rattle.loop_rule.specs.Tree.{LeafTree}
use Rattle.loop_rule.specs.Leaves.{at_entry, parameters, leaves_of}
use Rattle.loop_rule.specs.Rule.{LeadsTo, IsLedTo, IsClosedBy}
use Rattle.verdicts.specs.Addresses.{ExitsHave, HaveSameAddresses, KeepsAddresses, memories_of}
use Rattle.verdicts.proofs.FactLemmas.{holds-put_in, mems-put_in, stated-holds}
use Rattle.verdicts.proofs.Lines.{RulesKeep}
use Rattle.verdicts.proofs.Loops.{exit-goes}
use Rattle.verdicts.proofs.Ways.{AllGo}

-- ---- memories with the same addresses, in order

abbrev pub AllSame : List Bytes → List Bytes → Type 0
AllSame ms ns = AllZip HaveSameAddresses ms ns

pub same-self : (ms : List Bytes) → AllSame ms ms
same-self [] = tt
same-self (m ∷ ms) = ((λ a. refl), same-self ms)

pub same-on : (ms ns ks : List Bytes) → AllSame ms ns → AllSame ns ks → AllSame ms ks
same-on [] [] [] x y = tt
same-on [] [] (k ∷ ks) x y = absurd y
same-on [] (n ∷ ns) ks x y = absurd x
same-on (m ∷ ms) [] ks x y = absurd x
same-on (m ∷ ms) (n ∷ ns) [] x y = absurd y
same-on (m ∷ ms) (n ∷ ns) (k ∷ ks) x y = ((λ a. x.0 a ∙ y.0 a), same-on ms ns ks x.1 y.1)

same-append : (ms ns ks : List Bytes) → AllSame ms ns → AllSame (ms ++ ks) (ns ++ ks)
same-append [] [] ks x = same-self ks
same-append [] (n ∷ ns) ks x = absurd x
same-append (m ∷ ms) [] ks x = absurd x
same-append (m ∷ ms) (n ∷ ns) ks x = (x.0, same-append ms ns ks x.1)

-- .. of these terms
along : (e : Environment) (a b c d : List MemTree) → a ≡ c → b ≡ d → AllSame (map (λ m. mem_value m e) a) (map (λ m. mem_value m e) b)
    → AllSame (map (λ m. mem_value m e) c) (map (λ m. mem_value m e) d)
along e a b c d p q h = subst (λ x. AllSame (map (λ m. mem_value m e) x) (map (λ m. mem_value m e) d)) p (subst (λ x. AllSame (map (λ m. mem_value m e) a) (map (λ m. mem_value m e) x)) q h)

-- ---- each rule

-- a store adds and takes away no address
stored : (i : Instr) (n : Names) (e : Environment) → HaveSameAddresses (mem_value n.memory e) (mem_value (memory_after i n) e)
stored (instr.Op o rd rs1 rs2) n e a = refl
stored (instr.OpImm o rd rs1 imm) n e a = refl
stored (instr.Lui rd imm) n e a = refl
stored (instr.Auipc rd imm) n e a = refl
stored (instr.Jal rd offset) n e a = refl
stored (instr.Jalr rd rs1 imm) n e a = refl
stored (instr.Branch c rs1 rs2 offset) n e a = refl
stored (instr.Load w signed rd rs1 imm) n e a = refl
stored (instr.Store w rs1 rs2 imm) n e a = sym (store-present (bytes_of w) (mem_value n.memory e) _ _ a)
stored (instr.Fence imm rs1 rd) n e a = refl
stored instr.Ecall n e a = refl
stored instr.Ebreak n e a = refl

one-stored : (i : Instr) (n : Names) (e : Environment) (b : Bool) → AllSame (map (λ m. mem_value m e) (memory_if b n.memory)) (map (λ m. mem_value m e) (memory_if b (memory_after i n)))
one-stored i n e true = (stored i n e, tt)
one-stored i n e false = tt

keeps_axiom : (g : GroupTree) (a w : ℕ) (form : Form) (t : TripleTree) → axiom_of a w form ≡ Some t → KeepsAddresses g t
keeps_axiom g a w form t is =
    let p = axiom-parts a w form t is in
    subst (KeepsAddresses g) p.same (record { same = λ e holds. one-stored p.instruction (variables_for (own p.instruction)) e (has_memory p.instruction) })

keeps_inst : (g : GroupTree) (s : Substitution) (p t : TripleTree) → IsInst s p t → KeepsAddresses g p → KeepsAddresses g t
keeps_inst g s p t is k = record {
  same = λ e holds.
      let known = λ (f : FactTree) (c : Contains p.facts f).
      holds-put_in s e g f (holds (put_in_fact s f) (subst (λ fs. Contains fs (put_in_fact s f)) is.facts (is_among (put_in_fact s) p.facts c.0 f (put_in_fact s f) c.1 (sym c.2) refl))) in
      let pre = (λ i. memories_of (sym is.pre i) e) ∙ mems-put_in s e p.pre.mems in
      let post = (λ i. memories_of (sym is.post i) e) ∙ mems-put_in s e p.post.mems in
      subst (λ x. AllSame x (memories_of t.post e)) (sym pre) (subst (AllSame (memories_of p.pre (with_values_of e s))) (sym post) (k.same (with_values_of e s) known));
}

keeps_frame : (g : GroupTree) (p t : TripleTree) → IsFramed p t → KeepsAddresses g p → KeepsAddresses g t
keeps_frame g p t is k = record {
  same = λ e holds.
      let more = rest_after p.pre.mems t.pre.mems in
      let value = λ (m : MemTree). mem_value m e in
      let old = k.same e (λ f c. holds f (subst (λ fs. Contains fs f) is.facts c)) in
      let both = same-append (memories_of p.pre e) (memories_of p.post e) (map value more) old in
      along e (p.pre.mems ++ more) (p.post.mems ++ more) t.pre.mems t.post.mems is.pre_mems is.post_mems
      (subst (λ x. AllSame x (map value (p.post.mems ++ more))) (sym (map-append value p.pre.mems more)) (subst (AllSame (map value p.pre.mems ++ map value more)) (sym (map-append value p.post.mems more)) both));
}

keeps_extended : (g : GroupTree) (p t : TripleTree) → IsExtended p t → KeepsAddresses g p → KeepsAddresses g t
keeps_extended g p t is k = record {
  same = λ e holds. along e p.pre.mems p.post.mems t.pre.mems t.post.mems (λ i. (is.pre i).mems) (λ i. (is.post i).mems) (k.same e (λ f c. holds f (subst (λ fs. Contains fs f) is.facts c)));
}

keeps_composed : (g : GroupTree) (p q t : TripleTree) → IsComposed p q t → KeepsAddresses g p → KeepsAddresses g q → KeepsAddresses g t
keeps_composed g p q t is k l = record {
  same = λ e holds.
      let more_facts = rest_after p.facts t.facts in
      let known = λ (f : FactTree) (c : Contains p.facts f). holds f (among-first p.facts more_facts t.facts f is.first_facts c) in
      let known_later = λ (f : FactTree) (c : Contains q.facts f).
      ⊎_elim (known f) (λ h. holds f (among-rest p.facts more_facts t.facts f is.first_facts h)) (among-missing p.facts q.facts more_facts f is.further_facts c) in
      let first = along e p.pre.mems p.post.mems t.pre.mems q.pre.mems (λ i. (is.pre i).mems) (λ i. (is.middle i).mems) (k.same e known) in
      let second = along e q.pre.mems q.post.mems q.pre.mems t.post.mems refl (λ i. (is.post i).mems) (l.same e known_later) in
      same-on (memories_of t.pre e) (memories_of q.pre e) (memories_of t.post e) first second;
}

module _ (g : GroupTree) (e : Environment) (facts : List FactTree) (holds : AllHold g e facts) where
  swapped : (ms ns : List MemTree) → AllZip (SwapMem facts) ms ns → map (λ m. mem_value m e) ms ≡ map (λ m. mem_value m e) ns
  swapped [] [] swap = refl
  swapped [] (n ∷ ns) swap = absurd swap
  swapped (m ∷ ms) [] swap = absurd swap
  swapped (m ∷ ms) (n ∷ ns) swap = λ i. swap_mem-value g e facts holds m n swap.0 i ∷ swapped ms ns swap.1 i

keeps_strengthened : (g : GroupTree) (p t : TripleTree) → IsStrengthened p t → KeepsAddresses g p → KeepsAddresses g t
keeps_strengthened g p t is k = record {
  same = λ e holds. subst (λ x. AllSame x (memories_of t.post e)) (swapped g e t.facts holds p.pre.mems t.pre.mems is.pre.mems)
      (along e p.pre.mems p.post.mems p.pre.mems t.post.mems refl (λ i. (is.post i).mems) (k.same e (λ f c. holds f (is.facts.each f c))));
}

keeps_weakened : (g : GroupTree) (p t : TripleTree) → IsWeakened p t → KeepsAddresses g p → KeepsAddresses g t
keeps_weakened g p t is k = record {
  same = λ e holds. subst (AllSame (memories_of t.pre e)) (swapped g e t.facts holds p.post.mems t.post.mems is.post.mems)
      (along e p.pre.mems p.post.mems t.pre.mems p.post.mems (λ i. (is.pre i).mems) refl (k.same e (λ f c. holds f (is.facts.each f c))));
}

keeps_discharged : (g : GroupTree) (p t : TripleTree) → IsDischarged p t → KeepsAddresses g p → KeepsAddresses g t
keeps_discharged g p t is k = record {
  same = λ e holds. along e p.pre.mems p.post.mems t.pre.mems t.post.mems (λ i. (is.pre i).mems) (λ i. (is.post i).mems)
      (k.same e (λ f c. stated-holds g e t.facts holds f (is.facts.each f c)));
}

exchanged : (e : Environment) (a b c d : List MemTree) → AreExchanged a c → AreExchanged b d → AllSame (map (λ m. mem_value m e) a) (map (λ m. mem_value m e) b)
    → AllSame (map (λ m. mem_value m e) c) (map (λ m. mem_value m e) d)
exchanged e (m ∷ n ∷ []) (k ∷ l ∷ []) c d p q h = along e (n ∷ m ∷ []) (l ∷ k ∷ []) c d p q (h.1.0, (h.0, tt))
exchanged e [] b c d p q h = absurd p
exchanged e (m ∷ []) b c d p q h = absurd p
exchanged e (m ∷ n ∷ o ∷ ms) b c d p q h = absurd p
exchanged e (m ∷ n ∷ []) [] c d p q h = absurd q
exchanged e (m ∷ n ∷ []) (k ∷ []) c d p q h = absurd q
exchanged e (m ∷ n ∷ []) (k ∷ l ∷ o ∷ ks) c d p q h = absurd q

keeps_exchanged : (g : GroupTree) (p t : TripleTree) → IsExchanged p t → KeepsAddresses g p → KeepsAddresses g t
keeps_exchanged g p t is k = record {
  same = λ e holds. exchanged e p.pre.mems p.post.mems t.pre.mems t.post.mems is.pre_mems is.post_mems (k.same e (λ f c. holds f (subst (λ fs. Contains fs f) is.facts c)));
}

-- ---- the loop rule

led : (g : GroupTree) (def : DefTree) (leaf : LeafTree) (p : TripleTree) → LeadsTo g def leaf p → KeepsAddresses g p
    → (e : Environment) → AllHold g e leaf.facts → AllSame (memories_of (at_entry g def (parameters g)) e) (memories_of leaf.post e)
led g def leaf p leads k e holds =
    along e p.pre.mems p.post.mems (at_entry g def (parameters g)).mems leaf.post.mems (λ i. (leads.pre i).mems) (λ i. (leads.post i).mems) (k.same e (λ f c. holds f (leads.facts.each f c)))

led-by : (g : GroupTree) (def : DefTree) (leaf : LeafTree) (o : Option TripleTree) → IsLedTo g def leaf o → ((p : TripleTree) → o ≡ Some p → KeepsAddresses g p)
    → (e : Environment) → AllHold g e leaf.facts → AllSame (memories_of (at_entry g def (parameters g)) e) (memories_of leaf.post e)
led-by g def leaf None leads kept = absurd leads
led-by g def leaf (Some p) leads kept = led g def leaf p leads (kept p refl)

all-led : (g : GroupTree) (def : DefTree) (leaves : List LeafTree) (cited : List (Option TripleTree)) → AllZip (IsLedTo g def) leaves cited → ((p : TripleTree) → Contains cited (Some p) → KeepsAddresses g p)
    → (leaf : LeafTree) → Contains leaves leaf → (e : Environment) → AllHold g e leaf.facts → AllSame (memories_of (at_entry g def (parameters g)) e) (memories_of leaf.post e)
all-led g def [] cited each kept leaf c = absurd (omega (arith, c.1))
all-led g def (x ∷ xs) [] each kept leaf c = absurd each
all-led g def (x ∷ xs) (o ∷ os) each kept leaf (zero, lt, is) =
    subst (λ l. (e : Environment) → AllHold g e l.facts → AllSame (memories_of (at_entry g def (parameters g)) e) (memories_of l.post e)) is (led-by g def x o each.0 (λ p same. kept p (0, omega arith, same)))
all-led g def (x ∷ xs) (o ∷ os) each kept leaf (suc k, lt, is) = all-led g def xs os each.1 (λ q c. kept q (suc c.0, omega (arith, c.1), c.2)) leaf (k, omega (arith, lt), is)

keeps_closed : (g : GroupTree) (d : ℕ) (cited : List (Option TripleTree)) → IsClosedBy g d cited → ((p : TripleTree) → Contains cited (Some p) → KeepsAddresses g p) → ExitsHave (KeepsAddresses g) g d
keeps_closed g d cited closed kept other at exit x there = record {
  same = λ e holds. exit-goes g (List Bytes) memories_of (λ pc y. y.mems) (λ pc v f. refl) AllSame same-on d other at
      (subst (λ z. AllGo g (List Bytes) memories_of (λ pc y. y.mems) (λ pc v f. refl) AllSame same-on z (leaves_of g z)) same
      (all-led g closed.def (leaves_of g closed.def) cited closed.each kept)) exit x there e holds;
}
  where
    same : closed.def ≡ other
    same = let p : Some closed.def ≡ Some other = sym closed.is ∙ at in cc

-- each rule of version 4 keeps addresses
pub keeps-exchange : (g : GroupTree) → RulesKeep (KeepsAddresses g) IsExchanged g
keeps-exchange g = record {
  axiom_has = λ a w form t small low is. keeps_axiom g a w form t is;
  inst = keeps_inst g;
  framed = keeps_frame g;
  composed = keeps_composed g;
  extended = keeps_extended g;
  strengthened = keeps_strengthened g;
  weakened = keeps_weakened g;
  discharged = keeps_discharged g;
  closed = keeps_closed g;
  further = keeps_exchanged g;
}
