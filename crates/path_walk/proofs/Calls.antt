-- The triple of a call's exit over the current variables, and what its variables become.
use Rattle.std.proofs.Common.{◌≡◌, ℕ, suc, ◌+◌, List, [], ◌∷◌, ◌++◌, map, length, drop, zip, refl, sym, ap, ◌∙◌, arith, Some}
use Rattle.std.specs.Prelude.{slice_index_or}
use Rattle.std.specs.List.{range_with_len}
use Rattle.std.proofs.lemmas.List.FromFn.{length-range_with_len}
use Rattle.word_terms.specs.Tree.{WordTree, MemTree, Const, Var, MemVar}
use Rattle.rv_words.specs.declared.range.Range.{Range}
use Rattle.word_terms.specs.Substitution.{Substitution, put_in_word, put_in_mem}
use Rattle.tailrec_lang.specs.declared.group.Exit.{Exit}
use Rattle.tailrec_lang.specs.declared.group.Exit.TheVariants.{At, Ret}
use Rattle.tailrec_lang.specs.Tree.{ValuesTree, DefTree, GroupTree}
use Rattle.tailrec_lang.specs.WellFormed.{exit_words}
use Rattle.triple_kernel.specs.Tree.{Gives, TripleTree}
use Rattle.triple_kernel.specs.Rules.{IsInst, put_in_values, put_in_register, put_in_assertion}
use Rattle.tailrec_lang.specs.Registers.{AreRegistersFrom}
use Rattle.loop_rule.specs.Leaves.{variables_after, parameters, with_values, at_exit}
use Rattle.loop_rule.specs.Rule.{results, exit_triple}
use Rattle.verdicts.specs.Instance.{put_for}
use Rattle.code_parts.specs.Bodies.{Flow, VariableMap, current}
use Rattle.path_walk.specs.inner.Histories.{exit_place, pc_of}
use Rattle.code_parts.specs.Flows.{group_over}
use Rattle.path_walk.specs.inner.Acts.{numbered}
use Rattle.path_walk.proofs.Lists.{listed-left, listed-right, put-words, put-mems, current-fresh}
use Rattle.code_parts.proofs.Lists.{length-map}

-- ---- terms put in

put-zip : (s : Substitution) (rs : List ℕ) (ts : List WordTree) → map (put_in_register s) (zip rs ts) ≡ zip rs (map (put_in_word s) ts)
put-zip s [] ts = refl
put-zip s (r ∷ rs) [] = refl
put-zip s (r ∷ rs) (t ∷ ts) = let rest = put-zip s rs ts in λ i. (r, put_in_word s t) ∷ rest i

put-with : (s : Substitution) (g : GroupTree) (pc : WordTree) (v : ValuesTree) → put_in_assertion s (with_values g pc v) ≡ with_values g (put_in_word s pc) (put_in_values s v)
put-with s g pc v = let regs = put-zip s g.regs v.words in λ i. record { pc = put_in_word s pc; regs = regs i; mems = map (put_in_mem s) v.mems }

put-first : (s : Substitution) (ts : List WordTree) → put_in_word s (slice_index_or ts 0 (Const 0)) ≡ slice_index_or (map (put_in_word s) ts) 0 (Const 0)
put-first s [] = refl
put-first s (t ∷ ts) = refl

put-rest : (s : Substitution) (ts : List WordTree) → map (put_in_word s) (drop 1 ts) ≡ drop 1 (map (put_in_word s) ts)
put-rest s [] = refl
put-rest s (t ∷ ts) = refl

put-exit : (s : Substitution) (g : GroupTree) (x : Exit) (v : ValuesTree) → put_in_assertion s (at_exit g (Some x) v) ≡ at_exit g (Some x) (put_in_values s v)
put-exit s g (At a) v = put-with s g (Const a) v
put-exit s g Ret v =
    let pc = put-first s v.words in
    let words = put-rest s v.words in
    put-with s g (slice_index_or v.words 0 (Const 0)) (record { words = drop 1 v.words; mems = v.mems })
    ∙ (λ i. with_values g (pc i) (record { words = words i; mems = map (put_in_mem s) v.mems }))

length-variables : (from n : ℕ) → length (map Var (range_with_len from n)) ≡ n
length-variables from n = length-map Var (range_with_len from n) ∙ length-range_with_len from n

length-mem_variables : (from n : ℕ) → length (map MemVar (range_with_len from n)) ≡ n
length-mem_variables from n = length-map MemVar (range_with_len from n) ∙ length-range_with_len from n

-- ---- results

pub exit-fresh : (f : Flow) (name : List ℕ) (ranges : List Range) (defs : List DefTree) (x : Exit) (words mems : ℕ) → AreRegistersFrom 1 f.regs →
    at_exit (group_over f name ranges defs) (Some x) (variables_after words mems (exit_words (group_over f name ranges defs) x) f.mems)
    ≡ with_values (group_over f name ranges defs) (pc_of x words) (current f (exit_place f x words mems))
exit-fresh f name ranges defs (At a) words mems rise = ap (with_values (group_over f name ranges defs) (Const a)) (current-fresh f words mems rise)
exit-fresh f name ranges defs Ret words mems rise =
    let count : length f.regs + 1 ≡ suc (length f.regs) = omega arith in
    let next : words + 1 ≡ suc words = omega arith in
    (λ i. at_exit (group_over f name ranges defs) (Some Ret) (variables_after words mems (count i) f.mems))
    ∙ (λ i. with_values (group_over f name ranges defs) (Var words) (variables_after (next i) mems (length f.regs) f.mems))
    ∙ ap (with_values (group_over f name ranges defs) (Var words)) (current-fresh f (suc words) mems rise)

module _ (f : Flow) (name : List ℕ) (ranges : List Range) (defs : List DefTree) (def : DefTree) (rise : AreRegistersFrom 1 f.regs) where
  abbrev g : GroupTree
  g = group_over f name ranges defs

  module _ (v : VariableMap) (x : Exit) where
    abbrev count : ℕ
    count = exit_words (group_over f name ranges defs) x

    -- the next variables, for the results
    abbrev news : ValuesTree
    news = variables_after v.words v.mems (exit_words (group_over f name ranges defs) x) f.mems

    -- the parameters become the current variables, the results the next ones
    abbrev pub call_words : List (ℕ × WordTree)
    call_words = numbered 0 ((current f v).words ++ news.words)

    abbrev pub call_mems : List (ℕ × MemTree)
    call_mems = numbered 0 ((current f v).mems ++ news.mems)

    abbrev sub : Substitution
    sub = put_for call_words call_mems

    many : length (current f v).words ≡ length f.regs
    many = length-map (λ r. Var (v.reg r)) f.regs

    many_mems : length (current f v).mems ≡ f.mems
    many_mems = length-map (λ q. MemVar (v.memory q)) (range_with_len 0 f.mems) ∙ length-range_with_len 0 f.mems

    put-parameters : put_in_values sub (parameters g) ≡ current f v
    put-parameters =
        let ws = (λ i. map (put_in_word sub) (map Var (range_with_len 0 (sym many i)))) ∙ put-words sub 0 (current f v).words (λ k t e. listed-left 0 k (current f v).words news.words t e) in
        let ms = (λ i. map (put_in_mem sub) (map MemVar (range_with_len 0 (sym many_mems i)))) ∙ put-mems sub 0 (current f v).mems (λ k t e. listed-left 0 k (current f v).mems news.mems t e) in
        λ i. record { words = ws i; mems = ms i }

    put-results : put_in_values sub (variables_after (length f.regs) f.mems count f.mems) ≡ news
    put-results =
        let ws = (λ i. map (put_in_word sub) (map Var (range_with_len (length f.regs) (sym (length-variables v.words count) i)))) ∙ put-words sub (length f.regs) news.words (λ k t e.
        let sum : length f.regs + k ≡ 0 + (length (current f v).words + k) = omega (arith, many) in
        (λ i. sub.word (sum i)) ∙ listed-right 0 k (current f v).words news.words t e) in
        let ms = (λ i. map (put_in_mem sub) (map MemVar (range_with_len f.mems (sym (length-mem_variables v.mems f.mems) i)))) ∙ put-mems sub f.mems news.mems (λ k t e.
        let sum : f.mems + k ≡ 0 + (length (current f v).mems + k) = omega (arith, many_mems) in
        (λ i. sub.mem (sum i)) ∙ listed-right 0 k (current f v).mems news.mems t e) in
        λ i. record { words = ws i; mems = ms i }

    -- the exit's triple, over the current variables
    abbrev pub used : ℕ → DefTree → ℕ → TripleTree
    used d callee k = record {
      facts = Gives d k (current f v) news ∷ [];
      pre = with_values g (Const callee.entry) (current f v);
      code = ranges;
      post = at_exit g (Some x) news;
    }

    pub used-inst : (d : ℕ) (callee : DefTree) (k : ℕ) → IsInst sub (exit_triple g d callee k x) (used d callee k)
    used-inst d callee k = record {
      facts = λ i. Gives d k (put-parameters i) (put-results i) ∷ [];
      pre = put-with sub g (Const callee.entry) (parameters g) ∙ (λ i. with_values g (Const callee.entry) (put-parameters i));
      code = refl;
      post = put-exit sub g x (results g x) ∙ (λ i. at_exit g (Some x) (put-results i));
    }
