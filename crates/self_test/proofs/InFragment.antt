-- A program's function has an address, and is in the fragment.
use Rattle.std.proofs.Common.{◌≡◌, ℕ, zero, suc, ◌≤◌, inl, inr, List, [], ◌∷◌, Some, Result, Ok, Err, refl, sym, subst, ◌∙◌, arith}
use Rattle.std.specs.Fmt.{digits}
use Rattle.std.specs.Prelude.{slice_get}
use Rattle.mc_text.specs.Number.{hex}
use Rattle.mc_text.proofs.OneSpelling.{hex-once}
use Rattle.elf_image.specs.Image.{code_of_file}
use Rattle.elf_image.specs.declared.symbol.NameFault.{NameFault}
use Rattle.elf_image.specs.declared.symbol.NameFault.TheVariants as name_fault
use Rattle.flow_graph.specs.declared.outside.Outside.{Outside}
use Rattle.flow_graph.specs.declared.outside.Outside.TheVariants.{ManyExits}
use Rattle.code_gen.specs.ElfFile.{start}
use Rattle.self_test.proofs.WordLemmas.{program-code}
use Rattle.self_test.proofs.Flows.{no-fault, no-forest-fault, no-two-entries}
use Rattle.decompiler.specs.Names.{Spells, StandsFor}
use Rattle.decompiler.specs.Faults.{IsCauseAlone, IsFirst, IsOutside, Missing, Doubled, InFunction, InCode, InCycle, InLoop}
use Rattle.decompiler.specs.Listing.{IsRefusedBy, alone_form}
use Rattle.decompiler.specs.Refusals.{IsFaultBy}
use Rattle.code_parts.specs.declared.call_fault.LinkWhy.{LinkWhy}
use Rattle.code_parts.specs.declared.call_fault.LinkWhy.TheVariants as link
use Rattle.path_walk.specs.declared.proof.DecompileFault.{DecompileFault}
use Rattle.path_walk.specs.declared.proof.DecompileFault.TheVariants.{Refused}
use Rattle.self_test.specs.Start.{file_of, function_name}

-- ---- the name

spelled : function_name ≡ hex start
unfolding digits
spelled = refl

spells : Spells function_name start
spells = (omega arith, spelled)

same-address : (a b : ℕ) → ◌≡◌ {A = Result ℕ NameFault} (Ok a) (Ok b) → a ≡ b
same-address a b e = cc

no-address : (why : NameFault) (a : ℕ) → ◌≡◌ {A = Result ℕ NameFault} (Err why) (Ok a) → ⊥
no-address why a e = cc

-- it stands for the program's address alone
pub stands-at : (file : List ℕ) (e : ℕ) → StandsFor file function_name (Ok e) → e ≡ start
stands-at file e (inl s) = same-address e s.0 s.2 ∙ hex-once s.0 start s.1.0 (omega arith) (sym s.1.1 ∙ spelled)
stands-at file e (inr n) = absurd (n.0 start spells)

has-address : (file : List ℕ) (why : NameFault) → StandsFor file function_name (Err why) → ⊥
has-address file why (inl s) = no-address why s.0 s.2
has-address file why (inr n) = n.0 start spells

-- ---- its faults

outside : (number size : ℕ) (why : Outside) → size ≤ 600 → IsOutside (code_of_file (file_of number size)) start why → ⊥
outside number size why small (InCode f) = no-fault number size (code_of_file (file_of number size)) why small (program-code number size small) f
outside number size _ small (InCycle {cycle = cycle} {first = first} {second = second} g r t) =
    no-two-entries number size (code_of_file (file_of number size)) g small (program-code number size small) r (record { cycle = cycle; first = first; second = second; shows = t })
outside number size _ small (InLoop {a = a} g r m) = no-forest-fault number size (code_of_file (file_of number size)) g (ManyExits a) small (program-code number size small) r m

no-cause : (number size : ℕ) (why : LinkWhy) → size ≤ 600 → IsCauseAlone (code_of_file (file_of number size)) start why → ⊥
no-cause number size (link.Outside why) small h = outside number size why small h
no-cause number size (link.Recursive a) small h = h

pub in-fragment : (number size : ℕ) (why : LinkWhy) → size ≤ 600 → IsFirst IsCauseAlone (file_of number size) function_name why → ⊥
in-fragment number size _ small (Missing s) = has-address (file_of number size) name_fault.NoSuch s
in-fragment number size _ small (Doubled {a = a} {b = b} s) = has-address (file_of number size) (name_fault.Ambiguous a b) s
in-fragment number size why small (InFunction {e = e} s cause) =
    let file : List ℕ = file_of number size in
    no-cause number size why small (subst (λ a. IsCauseAlone (code_of_file file) a why) (stands-at file e s) cause)

-- ---- refusals

only-name : (n name : List ℕ) (k : ℕ) → slice_get (n ∷ []) k ≡ Some name → name ≡ n
only-name n name zero e = cc
only-name n name (suc k) e = absurd (cc)

-- no name is refused where the program's function is the only one
pub not-refused : (number size : ℕ) (names : List (List ℕ)) (fault : DecompileFault) (k : ℕ) (why : Outside) → size ≤ 600 → names ≡ function_name ∷ []
    → fault ≡ Refused k why → IsFaultBy alone_form (file_of number size) names fault → ⊥
not-refused number size names fault k why small are is h =
    let file : List ℕ = file_of number size in
    let r : IsRefusedBy alone_form file names k (link.Outside why) = subst (IsFaultBy alone_form file names) is h in
    let name : r.name ≡ function_name = only-name function_name r.name k ((λ i. slice_get (sym are i) k) ∙ r.at) in
    in-fragment number size (link.Outside why) small (subst (λ n. IsFirst IsCauseAlone file n (link.Outside why)) name r.first)
