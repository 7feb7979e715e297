-- The functions of a definition. For each of what is told of an evaluation there is a function of the definition's parameters:
-- whether it is done, by which exit, the program counter, the words, and the memories, each as two arrays.
use Rattle.std.specs.Prelude.{ℕ, zero, suc, ◌+◌, List, [], ◌∷◌, ◌++◌, codes, length}
use Rattle.std.specs.Fmt.{decimal}
use Rattle.tailrec_lang.specs.Tree.{GroupTree}
use Rattle.smt_terms.specs.declared.sort.Sort.{Sort}
use Rattle.smt_export.specs.declared.told.Told.{Told}
use Rattle.smt_export.specs.declared.told.Told.TheVariants.{Ok, ExitNumber, Pc, WordAt, MemAt, DomAt}
use Rattle.smt_terms.specs.declared.sort.Sort.TheVariants as sort

abbrev pub told_name : Told → List ℕ
told_name Ok = codes "_ok"
told_name ExitNumber = codes "_exit"
told_name Pc = codes "_pc"
told_name (WordAt i) = codes "_w" ++ decimal i
told_name (MemAt i) = codes "_m" ++ decimal i
told_name (DomAt i) = codes "_d" ++ decimal i

abbrev pub fun_name : ℕ → Told → List ℕ
fun_name d t = codes "f" ++ (decimal d ++ told_name t)

-- the names of variables: a word, and a memory's bytes and domain
abbrev pub word_name : ℕ → List ℕ
word_name i = codes "w" ++ decimal i

abbrev pub mem_name : ℕ → List ℕ
mem_name i = codes "mem" ++ decimal i

abbrev pub dom_name : ℕ → List ℕ
dom_name i = codes "dom" ++ decimal i

abbrev pub word_params : ℕ → ℕ → List (List ℕ × Sort)
word_params i zero = []
word_params i (suc n) = (word_name i, sort.Bits 64) ∷ word_params (i + 1) n

abbrev pub mem_params : ℕ → ℕ → List (List ℕ × Sort)
mem_params i zero = []
mem_params i (suc n) = (mem_name i, sort.Array 8) ∷ (dom_name i, sort.Array 1) ∷ mem_params (i + 1) n

abbrev pub params : GroupTree → List (List ℕ × Sort)
params g = word_params 0 (length g.regs) ++ mem_params 0 g.mems

abbrev pub told_sort : Told → Sort
told_sort Ok = sort.Bool
told_sort ExitNumber = sort.Bits 32
told_sort Pc = sort.Bits 64
told_sort (WordAt i) = sort.Bits 64
told_sort (MemAt i) = sort.Array 8
told_sort (DomAt i) = sort.Array 1

abbrev pub words_from : ℕ → ℕ → List Told
words_from i zero = []
words_from i (suc r) = WordAt i ∷ words_from (suc i) r

abbrev pub mems_from : ℕ → ℕ → List Told
mems_from i zero = []
mems_from i (suc n) = MemAt i ∷ DomAt i ∷ mems_from (suc i) n

-- all that is told of a definition of the group
abbrev pub all_told : GroupTree → List Told
all_told g = Ok ∷ ExitNumber ∷ Pc ∷ (words_from 0 (length g.regs) ++ mems_from 0 g.mems)
