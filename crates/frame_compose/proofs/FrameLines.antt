-- The frame of a triple whose registers are some of a group's: over all of them, with the terms of the same functions.
use Rattle.std.proofs.Common.{◌≡◌, ℕ, false, List, ◌++◌, length, map, drop, refl}
use Rattle.std.proofs.lemmas.List.{drop_at}
use Rattle.std.specs.List.{filter}
use Rattle.word_terms.specs.Tree.{WordTree, MemTree}
use Rattle.rv_words.specs.declared.range.Range.{Range}
use Rattle.triple_kernel.specs.Tree.{FactTree, TripleTree}
use Rattle.frame_compose.specs.Rules.{IsFramed}
use Rattle.frame_compose.proofs.MapLemmas.{given, is_in, own-given, further-given}

-- a triple over registers whose terms before and after are functions of their numbers
abbrev pub over_registers : List FactTree → List Range → WordTree → WordTree → (ℕ → WordTree) → (ℕ → WordTree) → List ℕ → List MemTree → List MemTree → TripleTree
over_registers facts code pc next before after regs ms ns = record {
  facts = facts;
  pre = record { pc = pc; regs = map (given before) regs; mems = ms };
  code = code;
  post = record { pc = next; regs = map (given after) regs; mems = ns };
}

pub frame_over : (facts : List FactTree) (code : List Range) (pc next : WordTree) (before after : ℕ → WordTree) (own group : List ℕ) (ms ns more : List MemTree)
    → own ≡ filter (is_in own) group → ((r : ℕ) → is_in own r ≡ false → before r ≡ after r)
    → IsFramed (over_registers facts code pc next before after own ms ns) (over_registers facts code pc next before after group (ms ++ more) (ns ++ more))
frame_over facts code pc next before after own group ms ns more within same =
    let rest : drop (length ms) (ms ++ more) ≡ more = drop_at ms more (length ms) refl in
    record {
      facts = refl;
      code = refl;
      pre_pc = refl;
      post_pc = refl;
      pre_regs = own-given before after own group within;
      post_regs = own-given after before own group within;
      further_regs = further-given before after own group same;
      pre_mems = λ i. ms ++ rest i;
      post_mems = λ i. ns ++ rest i;
    }
