use Rattle.mc_text.proofs.Items.{item-once}
use Rattle.group_text.specs.TermLimits.{depth_limit, IsCond, IsMem, IsRange, IsWord}
use Rattle.group_text.specs.TermSpelling.{cond_tokens, mem_tokens, range_tokens, word_tokens}
use Rattle.group_text.specs.TermReading.{cond_at, mem_at, range_at, word_at}
use Rattle.group_text.proofs.TermLaws.{cond-law, mem-law, range-law, word-law}
use Rattle.group_text.proofs.one_spelling.law_of_one_spelling.Goals as goal

pub returns-clause-words : goal.returns-clause-words
returns-clause-words c = item-once (word_at depth_limit) IsWord word_tokens word-law

pub returns-clause-mems : goal.returns-clause-mems
returns-clause-mems c = item-once (mem_at depth_limit) IsMem mem_tokens mem-law

pub returns-clause-conds : goal.returns-clause-conds
returns-clause-conds c = item-once (cond_at depth_limit) IsCond cond_tokens cond-law

pub returns-clause-ranges : goal.returns-clause-ranges
returns-clause-ranges c = item-once range_at IsRange range_tokens range-law
