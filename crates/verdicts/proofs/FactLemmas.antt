-- Facts and memories with terms put in are those where each variable stands for its term's value, and facts that are stated or
-- follow hold.
use Rattle.std.proofs.Common.{◌≡◌, ◌⊎◌, inl, inr, List, [], ◌∷◌, map, refl, sym, ◌∙◌, subst, IsTrue}
use Rattle.std.specs.List.{Contains}
use Rattle.word_terms.specs.Tree.{WordTree, MemTree}
use Rattle.word_terms.specs.Environment.{Environment}
use Rattle.word_terms.specs.Value.{word_value, mem_value}
use Rattle.word_terms.specs.Substitution.{Substitution, put_in_word, put_in_mem, with_values_of}
use Rattle.word_terms.proofs.Substitutions.{word_value-put_in, mem_value-put_in, cond_holds-put_in}
use Rattle.tailrec_lang.specs.Tree.{ValuesTree, GroupTree}
use Rattle.tailrec_lang.specs.Eval.{arguments_of}
use Rattle.triple_kernel.specs.Tree.{FactTree, WordIs, MemIs, So, Gives}
use Rattle.triple_kernel.specs.Fact.{Leaves, Holds, AllHold}
use Rattle.triple_kernel.specs.Rules.{Follows, put_in_fact, put_in_values}
use Rattle.triple_kernel.proofs.RuleLemmas.{follows-holds}

module _ (s : Substitution) (e : Environment) where
  words-put_in : (ts : List WordTree) → map (λ t. word_value t e) (map (put_in_word s) ts) ≡ map (λ t. word_value t (with_values_of e s)) ts
  words-put_in [] = refl
  words-put_in (t ∷ ts) = λ i. word_value-put_in s e t i ∷ words-put_in ts i

  pub mems-put_in : (ms : List MemTree) → map (λ m. mem_value m e) (map (put_in_mem s) ms) ≡ map (λ m. mem_value m (with_values_of e s)) ms
  mems-put_in [] = refl
  mems-put_in (m ∷ ms) = λ i. mem_value-put_in s e m i ∷ mems-put_in ms i

  arguments-put_in : (v : ValuesTree) → arguments_of (put_in_values s v) e ≡ arguments_of v (with_values_of e s)
  arguments-put_in v = λ i. record { words = words-put_in v.words i; mems = mems-put_in v.mems i }

  pub holds-put_in : (g : GroupTree) (f : FactTree) → Holds g e (put_in_fact s f) → Holds g (with_values_of e s) f
  holds-put_in g (WordIs a b) h = sym (word_value-put_in s e a) ∙ h ∙ word_value-put_in s e b
  holds-put_in g (MemIs a b) h = sym (mem_value-put_in s e a) ∙ h ∙ mem_value-put_in s e b
  holds-put_in g (So c) h = subst IsTrue (cond_holds-put_in s e c) h
  holds-put_in g (Gives def exit args results) h =
      subst (Leaves g def exit (arguments_of args (with_values_of e s))) (arguments-put_in results)
      (subst (λ x. Leaves g def exit x (arguments_of (put_in_values s results) e)) (arguments-put_in args) h)

pub stated-holds : (g : GroupTree) (e : Environment) (facts : List FactTree) → AllHold g e facts → (f : FactTree) → Contains facts f ⊎ Follows facts f → Holds g e f
stated-holds g e facts holds f (inl is) = holds f is
stated-holds g e facts holds f (inr follows) = follows-holds g e facts holds f follows
