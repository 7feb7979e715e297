-- A name has a function or a fault.
use Rattle.std.proofs.Common.{◌≡◌, ℕ, List, Result, Ok, Err, ◌⊎◌, inl, inr, refl, sym, ap, subst, ◌∙◌, false}
use Rattle.elf_image.specs.Image.{code_of_file}
use Rattle.elf_image.specs.declared.symbol.NameFault.{NameFault}
use Rattle.elf_image.specs.declared.symbol.NameFault.TheVariants as name_fault
use Rattle.mc_text.proofs.OneSpelling.{hex-once}
use Rattle.flow_graph.specs.declared.outside.Outside.{Outside}
use Rattle.flow_graph.specs.declared.outside.Outside.TheVariants.{NoSuch, Ambiguous, TooLarge, OutsideCode, NotDecoded, Environment, Call, JumpThrough, Misaligned, TwoEntries, ManyExits}
use Rattle.flow_graph.specs.Graph.{GraphOf, IsGraphOf, IsRefused}
use Rattle.rv_words.specs.Bytes.{Bytes}
use Rattle.flow_graph.specs.Reach.{IsFault}
use Rattle.flow_graph.proofs.ExactLemmas.{graph_or_fault}
use Rattle.flow_graph.proofs.GraphLaws.{one_graph}
use Rattle.loop_forest.specs.Forest.{ForestOf, IsForestOf, IsForestFault, IsMany, IsNoForest, number_of}
use Rattle.loop_forest.proofs.AddressLemmas.{code_in_post_order, shows_code}
use Rattle.loop_forest.proofs.OneForest.{no_many}
use Rattle.decompiler.specs.Names.{StandsFor}
use Rattle.code_parts.specs.declared.call_fault.LinkWhy.{LinkWhy}
use Rattle.code_parts.specs.declared.call_fault.LinkWhy.TheVariants as link
use Rattle.decompiler.specs.Faults.{IsCauseAlone, IsFirst, IsOutside, Missing, Doubled, InFunction, InCode, InCycle, InLoop}
use Rattle.code_parts.specs.declared.call_fault.CallGraphFault.{CallGraphFault}
use Rattle.code_parts.specs.declared.call_fault.CallGraphFault.TheVariants as graph
use Rattle.decompiler.specs.inner.Functions.{IsNoFunction, IsNoItem, IsRefusedAt, cause_of, outside_of}
use Rattle.decompiler.specs.Listing.{ItemForm}
use Rattle.flow_graph.specs.declared.outside.FlowFault.{FlowFault}
use Rattle.flow_graph.specs.declared.outside.FlowFault.TheVariants as fault

-- a name stands for one thing
pub stands_once : (file name : List ℕ) (v w : Result ℕ NameFault) → StandsFor file name v → StandsFor file name w → v ≡ w
stands_once file name v w (inl a) (inl b) = a.2 ∙ ap Ok (hex-once a.0 b.0 a.1.0 b.1.0 (sym a.1.1 ∙ b.1.1)) ∙ sym b.2
stands_once file name v w (inl a) (inr b) = absurd (b.0 a.0 a.1)
stands_once file name v w (inr a) (inl b) = absurd (a.0 b.0 b.1)
stands_once file name v w (inr a) (inr b) = a.1 ∙ sym b.1

found-or : (e : ℕ) (why : NameFault) (v w : Result ℕ NameFault) → v ≡ Ok e → w ≡ Err why → v ≡ w → ⊥
found-or e why v w p q r = cc

found : (e a : ℕ) (v w : Result ℕ NameFault) → v ≡ Ok e → w ≡ Ok a → v ≡ w → e ≡ a
found e a v w p q r = cc

-- what is no function is outside the fragment
outside-at : (code : Bytes) (e : ℕ) (why : Outside) → IsFault false code e why ⊎ ((g : GraphOf) × IsGraphOf false code e g × IsForestFault g why) → IsOutside code e why
outside-at code e why (inl f) = InCode f
outside-at code e (TwoEntries cycle first second) (inr f) = InCycle f.0 f.1 (shows_code false code e f.0 cycle first second f.1 f.2)
outside-at code e (ManyExits a) (inr f) = InLoop f.0 f.1 f.2
outside-at code e NoSuch (inr f) = absurd f.2
outside-at code e (Ambiguous a b) (inr f) = absurd f.2
outside-at code e TooLarge (inr f) = absurd f.2
outside-at code e (OutsideCode a) (inr f) = absurd f.2
outside-at code e (NotDecoded a w) (inr f) = absurd f.2
outside-at code e (Environment a) (inr f) = absurd f.2
outside-at code e (Call a) (inr f) = absurd f.2
outside-at code e (JumpThrough a) (inr f) = absurd f.2
outside-at code e (Misaligned a b) (inr f) = absurd f.2

pub refused-alone : (form : ItemForm) (code : Bytes) (e : ℕ) → ((why : Outside) → IsOutside code e why → form.Causes code e (link.Outside why))
    → (why : FlowFault) → IsNoFunction code e why → IsRefusedAt form code e (cause_of why)
refused-alone form code e so (fault.Outside why) h = so why (outside-at code e why h)
refused-alone form code e so fault.NoMemory h = tt

-- .. and a function is inside
pub alone-inside : (code : Bytes) (e : ℕ) (g : GraphOf) (f : ForestOf) → IsGraphOf false code e g → IsForestOf g f → (why : LinkWhy) → IsCauseAlone code e why → ⊥
alone-inside code e g f graph forest (link.Recursive a) h = h
alone-inside code e g f graph forest (link.Outside why) h = outside why h
  where
    outside : (why : Outside) → IsOutside code e why → ⊥
    outside why (InCode fault) = graph_or_fault false code e g why graph fault
    outside _ (InCycle {cycle = c} {first = x} {second = y} h other shows) =
        code_in_post_order false code e g (number_of f) graph forest.in_post_order (record { cycle = c; first = x; second = y; shows = shows })
    outside _ (InLoop {a = a} h other many) =
        no_many g f a forest (subst (λ (z : GraphOf). IsMany z a) (one_graph false code e h g other graph) many)

-- what has no function is a fault of the name
pub none-at : (form : ItemForm) (file name : List ℕ) (e : ℕ) → StandsFor file name (Ok e) → (why : CallGraphFault) → IsRefusedAt form (code_of_file file) e why → IsNoItem form file name why
none-at form file name e s (graph.Refused why) h = InFunction s h
none-at form file name e s graph.NoMemory h = tt

pub none-named : (form : ItemForm) (file name : List ℕ) (why : NameFault) → StandsFor file name (Err why) → IsFirst form.Causes file name (link.Outside (outside_of why))
none-named form file name name_fault.NoSuch s = Missing s
none-named form file name (name_fault.Ambiguous a b) s = Doubled s

-- .. and a name with a function has none
pub none-first : (form : ItemForm) (file name : List ℕ) (e : ℕ) → StandsFor file name (Ok e) → ((why : LinkWhy) → form.Causes (code_of_file file) e why → ⊥)
    → (why : LinkWhy) → IsFirst form.Causes file name why → ⊥
none-first form file name e s inside _ (Missing t) = found-or e name_fault.NoSuch (Ok e) (Err name_fault.NoSuch) refl refl (stands_once file name (Ok e) (Err name_fault.NoSuch) s t)
none-first form file name e s inside _ (Doubled {a = a} {b = b} t) = found-or e (name_fault.Ambiguous a b) (Ok e) (Err (name_fault.Ambiguous a b)) refl refl (stands_once file name (Ok e) (Err (name_fault.Ambiguous a b)) s t)
none-first form file name e s inside why (InFunction {e = d} t cause) =
    let same : d ≡ e = found d e (Ok d) (Ok e) refl refl (stands_once file name (Ok d) (Ok e) t s) in
    inside why (subst (λ (x : ℕ). form.Causes (code_of_file file) x why) same cause)

-- what isn't built is no function
pub no_graph : (code : Bytes) (e : ℕ) (why : FlowFault) → IsRefused false code e why → IsNoFunction code e why
no_graph code e (fault.Outside why) h = inl h
no_graph code e fault.NoMemory h = tt

pub no_forest : (code : Bytes) (e : ℕ) (g : GraphOf) (why : FlowFault) → IsGraphOf false code e g → IsNoForest g why → IsNoFunction code e why
no_forest code e g (fault.Outside why) graph h = inr (g, graph, h)
no_forest code e g fault.NoMemory graph h = tt
