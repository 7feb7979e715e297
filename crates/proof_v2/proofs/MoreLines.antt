-- The lines of a group's proof become short ones, line by line.
use Rattle.std.proofs.Common.{◌≡◌, ◌<◌, ◌^◌, List, [], ◌∷◌, ◌++◌, fold, length, append_assoc, append-nil, refl, sym, ap, ◌∙◌, subst}
use Rattle.std.specs.List.{AllByRecursion}
use Rattle.tailrec_lang.specs.Tree.{GroupTree}
use Rattle.term_arena.specs.declared.node.Node.{Node}
use Rattle.term_arena.specs.Arena.{Extends, IsArena, Tree, trees_of}
use Rattle.proof_text.specs.Line.{LineTree}
use Rattle.proof_text.specs.LineLimits.{IsLine}
use Rattle.verdicts.proofs.FirstLemmas.{after-more, all-more}
use Rattle.short_text.specs.declared.short.Short.{Short}
use Rattle.short_text.specs.ShortLimits.{IsShort}
use Rattle.short_text.specs.Table.{IsTable}
use Rattle.verdicts.specs.Instance.{History, after_line, after_lines, no_lines}
use Rattle.checker.specs.Short.{IsFineShort, IsRightFor}
use Rattle.held_terms.specs.Terms.{AreTermsPutIn}
use Rattle.checker.proofs.LargerTables.{fine_grows, right_grows}
use Rattle.held_terms.proofs.PutOrder.{terms-then}
use Rattle.proof_v2.specs.Migration.{AreRightFor, IsMigrated}
use Rattle.proof_v2.specs.ShortTerms.{line_terms, lines_terms}
use Rattle.proof_v2.specs.inner.Migrating.{AreMigrated}
use Rattle.proof_v2.proofs.Fits.{line_fits}
use Rattle.proof_v2.proofs.LineTerms.{lines-fit}
use Rattle.proof_v2.proofs.NewTables.{new-table}

-- ---- over a larger table

module _ (ns ms : List Node) (e : Extends ns ms) where
  fine-grown : (ss : List Short) → AllByRecursion (IsFineShort ns) ss → AllByRecursion (IsFineShort ms) ss
  fine-grown [] h = tt
  fine-grown (s ∷ ss) h = (fine_grows ns ms e s h.0, fine-grown ss h.1)

  right-grown : (g : GroupTree) (h : History) (ss : List Short) (ls : List LineTree) → AllByRecursion (IsFineShort ns) ss → AreRightFor g h ns ss ls → AreRightFor g h ms ss ls
  right-grown g h [] [] f r = tt
  right-grown g h [] (l ∷ ls) f r = absurd r
  right-grown g h (s ∷ ss) [] f r = absurd r
  right-grown g h (s ∷ ss) (l ∷ ls) f r = (right_grows ns ms e g h s l f.0 r.0, right-grown g (after_line h l) ss ls f.1 r.1)

-- ---- one line more

right-more : (g : GroupTree) (h : History) (ns : List Node) (ss : List Short) (ls : List LineTree) (s : Short) (l : LineTree) → AreRightFor g h ns ss ls → IsRightFor g (fold after_line h ls) ns s l
    → AreRightFor g h ns (ss ++ s ∷ []) (ls ++ l ∷ [])
right-more g h ns [] [] s l r x = (x, tt)
right-more g h ns [] (m ∷ ls) s l r x = absurd r
right-more g h ns (t ∷ ss) [] s l r x = absurd r
right-more g h ns (t ∷ ss) (m ∷ ls) s l r x = (r.0, right-more g (after_line h m) ns ss ls s l r.1 x)

terms-more : (h : History) (ls : List LineTree) (l : LineTree) → lines_terms h (ls ++ l ∷ []) ≡ lines_terms h ls ++ line_terms (fold after_line h ls) l
terms-more h [] l = append-nil (line_terms h l)
terms-more h (m ∷ ls) l =
    ap (λ (ts : List Tree). line_terms h m ++ ts) (terms-more (after_line h m) ls l)
    ∙ sym (append_assoc (line_terms h m) (lines_terms (after_line h m) ls) (line_terms (fold after_line (after_line h m) ls) l))

pub line-more : (g : GroupTree) (ns ms : List Node) (ss : List Short) (ls : List LineTree) (s : Short) (l : LineTree) → AreMigrated g ns ss ls → Extends ns ms → IsLine l
    → IsRightFor g (after_lines ls) ms s l → IsFineShort ms s → AreTermsPutIn ns (line_terms (after_lines ls) l) ms → AreMigrated g ms (ss ++ s ∷ []) (ls ++ l ∷ [])
line-more g ns ms ss ls s l m e fits right fine put = record {
  fit = all-more IsLine ls l m.fit fits;
  right = right-more g no_lines ms ss ls s l (right-grown ns ms e g no_lines ss ls m.fine m.right) right;
  fine = all-more (IsFineShort ms) ss s (fine-grown ns ms e ss m.fine) fine;
  table = subst (λ (ts : List Tree). AreTermsPutIn [] ts ms) (sym (terms-more no_lines ls l)) (terms-then [] (lines_terms no_lines ls) ns (line_terms (after_lines ls) l) ms m.table put);
}

pub after_one_more : (ls : List LineTree) (l : LineTree) → after_lines (ls ++ l ∷ []) ≡ after_line (after_lines ls) l
after_one_more ls l = after-more no_lines ls l

-- ---- what they have become

pub none-migrated : (g : GroupTree) → AreMigrated g [] [] []
unfolding trees_of
none-migrated g = record { fit = tt; right = tt; fine = tt; table = refl }

module _ (g : GroupTree) (ns : List Node) (ss : List Short) (ls : List LineTree) (m : AreMigrated g ns ss ls) where
  pub table-of : IsArena ns → length ns < 2 ^ 64 → IsTable ns
  table-of a few = new-table (lines_terms no_lines ls) ns a few (lines-fit no_lines ls m.fit) m.table

  pub lines-of : length ns < 2 ^ 64 → AllByRecursion (IsShort ns) ss
  lines-of few = each ss m.fine
    where
      each : (ss : List Short) → AllByRecursion (IsFineShort ns) ss → AllByRecursion (IsShort ns) ss
      each [] h = tt
      each (s ∷ ss) h = (line_fits ns few s h.0, each ss h.1)

  pub is-migrated : IsMigrated (record { group = g; lines = ls }) ns ss
  is-migrated = record { lines = m.right; table = m.table }
