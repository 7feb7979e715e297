-- The parts of a text, which are printed one by one.
use Rattle.std.specs.Prelude.{ℕ, List, [], ◌∷◌, ◌++◌}
use Rattle.mc_text.specs.Tokens.{spell}
use Rattle.mc_text.specs.declared.token.Before.TheVariants.{Start}
use Rattle.tailrec_lang.specs.Tree.{GroupTree}
use Rattle.group_text.specs.Spelling.{group_tokens}

-- the groups' texts, one after the other
abbrev pub group_texts : List GroupTree → List ℕ
group_texts [] = []
group_texts (g ∷ gs) = spell Start (group_tokens g) ++ group_texts gs
