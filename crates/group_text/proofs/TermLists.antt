-- Terms and ranges one after the other, and what stands behind them, are read as they are spelled.
use Rattle.std.proofs.Common.{◌≡◌, Bool, false, List, ◌++◌}
use Rattle.std.specs.List.{AllByRecursion, flat_map}
use Rattle.mc_text.specs.Tokens.{Tok}
use Rattle.mc_text.specs.Reading.{Reader, pair, star, goes_on, is_open}
use Rattle.mc_text.proofs.ReaderLaws.{Reads}
use Rattle.mc_text.proofs.Inline.{reads-list}
use Rattle.group_text.specs.TermLimits.{depth_limit, IsWord, IsMem, IsRange}
use Rattle.group_text.specs.TermSpelling.{word_tokens, mem_tokens, range_tokens}
use Rattle.group_text.specs.TermReading.{begins_word, begins_mem, word_at, mem_at, range_at}
use Rattle.group_text.proofs.TermFacts.{word-flat, mem-flat, range-flat, word-begins, mem-begins, range-begins}
use Rattle.group_text.proofs.TermLaws.{word-law, mem-law, range-law, word-shrinks, mem-shrinks, range-shrinks}

-- what no item of the list begins
abbrev pub Quiet : {Y : Type 0} → (Tok → Bool) → (Y → Type 0) → (Y → List Tok) → Type 0
Quiet {Y} go G u = (y : Y) → G y → (us : List Tok) → goes_on go (u y ++ us) ≡ false

module _ {Y : Type 0} (b : Reader Y) (G : Y → Type 0) (u : Y → List Tok) (law : Reads b G u) where
  pub words-law : Quiet begins_word G u → Reads (pair (star begins_word (word_at depth_limit)) b) (λ p. AllByRecursion IsWord p.0 × G p.1) (λ p. flat_map word_tokens p.0 ++ u p.1)
  words-law quiet = reads-list begins_word (word_at depth_limit) (word-shrinks depth_limit) IsWord word_tokens word-law (λ t h. word-flat t) (λ t h us. word-begins t us) b G u law quiet

  pub mems-law : Quiet begins_mem G u → Reads (pair (star begins_mem (mem_at depth_limit)) b) (λ p. AllByRecursion IsMem p.0 × G p.1) (λ p. flat_map mem_tokens p.0 ++ u p.1)
  mems-law quiet = reads-list begins_mem (mem_at depth_limit) (mem-shrinks depth_limit) IsMem mem_tokens mem-law (λ m h. mem-flat m) (λ m h us. mem-begins m us) b G u law quiet

  pub ranges-law : Quiet is_open G u → Reads (pair (star is_open range_at) b) (λ p. AllByRecursion IsRange p.0 × G p.1) (λ p. flat_map range_tokens p.0 ++ u p.1)
  ranges-law quiet = reads-list is_open range_at range-shrinks IsRange range_tokens range-law (λ r h. range-flat r) (λ r h us. range-begins r us) b G u law quiet
