use Rattle.std.proofs.Common.{rules, ◌≡◌, ℕ, ◌-◌, ◌+◌, ◌++◌, List, [], ◌∷◌, length, map, take, arith, ap, sym, subst, ◌∙◌}
use Rattle.std.specs.Prelude.{All}
use Rattle.std.specs.FinMap.{get}
use Rattle.std.proofs.lemmas.List.{map-append}
use Rattle.rv_words.specs.Bytes.{Bytes}
use Rattle.rv_words.specs.declared.byte_map.ByteMap.{ByteMap}
use Rattle.word_terms.specs.Environment.{Environment}
use Rattle.word_terms.specs.Tree.{MemTree, mem_tree, word_tree}
use Rattle.word_terms.specs.Scope.{MemInScope}
use Rattle.word_terms.specs.Value.{mem_value, word_value}
use Rattle.word_terms.specs.declared.term.Mem.{Mem}
use Rattle.tailrec_lang.specs.Eval.{variables_of}
use Rattle.tailrec_lang.proofs.Lists.{all-at, all-front, map-last}
use Rattle.tailrec_lang.proofs.args.last_values.Goals as goal

pub mems_of-requires : goal.mems_of-requires
mems_of-requires c =
    let terms = c.as_slice-terms.result.now in
    let all = all-front mem_tree (λ t. MemInScope t (length c.args.variables.words) (length c.args.variables.mems)) terms (length terms - 1) (omega arith)
    (subst (λ (ts : List Mem). All (λ t. MemInScope t (length c.args.variables.words) (length c.args.variables.mems)) (map mem_tree ts)) (sym c.as_slice-terms.ensures) c.requires.1) in
    subst (λ (ns : List ℕ). All (λ t. MemInScope t (length ns) (length c.env-env.result.mems.now)) (map mem_tree (take (length terms - 1) terms))) (sym c.env-env.ensures.words)
    (subst (λ (ms : List ByteMap). All (λ t. MemInScope t (length c.args.variables.words) (length ms)) (map mem_tree (take (length terms - 1) terms))) (sym c.env-env.ensures.mems) all)

pub last_memory-requires : goal.last_memory-requires
last_memory-requires c =
    let terms = c.as_slice-terms.result.now in
    all-at mem_tree (λ t. MemInScope t (length c.args.variables.words) (length c.args.variables.mems)) terms (length terms - 1) c.index-terms-last.result (search rules) c.index-terms-last.is
    (subst (λ (ts : List Mem). All (λ t. MemInScope t (length c.args.variables.words) (length c.args.variables.mems)) (map mem_tree ts)) (sym c.as_slice-terms.ensures) c.requires.1)

pub returns : goal.returns
returns c =
    let terms = c.as_slice-terms.result.now in
    let e : Environment = variables_of c.args.variables in
    let f : MemTree → Bytes = λ t. mem_value t e in
    let last = length terms - 1 in
    let words = c.in_ok-words.ensures ∙ (λ j. map (λ t. word_value t (c.env-env.ensures.variables j)) (map word_tree (c.as_slice.ensures j))) in
    let others = c.in_ok-mems.ensures ∙ (λ j. map (λ t. mem_value t (c.env-env.ensures.variables j)) (map mem_tree (take last terms))) in
    let one_more : map get c.push.new.self ≡ map f (map mem_tree (take last terms)) ++ f (mem_tree c.index-terms-last.result) ∷ [] =
    ap (map get) c.in_ok-push.ensures.ok ∙ map-append get c.in_ok-mems.mems (c.last_memory.result ∷ []) ∙ (λ j. others j ++ c.last_memory.ensures j ∷ []) in
    let mems =
    one_more ∙ sym (map-append f (map mem_tree (take last terms)) (mem_tree c.index-terms-last.result ∷ []))
    ∙ ap (map f) (map-last mem_tree terms last c.index-terms-last.result (search rules) c.index-terms-last.is)
    ∙ (λ j. map f (map mem_tree (c.as_slice-terms.ensures j))) in
    λ j. record { words = words j; mems = mems j }
