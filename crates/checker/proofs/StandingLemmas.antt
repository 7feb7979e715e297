-- A bench behind lines of version 2, after one line more.
use Rattle.std.proofs.Common.{◌≡◌, ℕ, ◌+◌, ◌≤◌, true≢false, List, [], ◌∷◌, ◌++◌, length, take, drop, sym, ap, ◌∙◌, subst, arith}
use Rattle.std.specs.Prelude.{Contains}
use Rattle.std.proofs.lemmas.List.{length-append, take_all, take-append-le, take-append-drop}
use Rattle.tailrec_lang.specs.Tree.{GroupTree}
use Rattle.group_text.specs.Limits.{IsGroupIn}
use Rattle.group_text.specs.Version.{Version}
use Rattle.term_arena.specs.declared.node.Node.{Node}
use Rattle.term_arena.specs.Arena.{AreChildren, Extends, IsAdded}
use Rattle.proof_text.specs.inner.OwnCode.{IsOwnCode}
use Rattle.verdicts.specs.Instance.{History, no_lines}
use Rattle.short_text.specs.declared.short.Short.{Short}
use Rattle.short_text.specs.declared.short.ShortLine.{ShortLine}
use Rattle.short_text.specs.declared.short.ShortLine.TheVariants.{Term, Proof}
use Rattle.short_text.specs.ShortProofs.{AreShortLines, IsNextLine, table_of}
use Rattle.short_text.specs.inner.ShortReaders.{AreKept, KeptLines}
use Rattle.short_text.proofs.LineParts.{begun-behind, begun-none, table-behind, table-kept}
use Rattle.checker.specs.Bench.{BenchState, state_group, state_history, state_nodes}
use Rattle.checker.specs.Short.{AreWithin, IsFineShort, IsShortInstance, LeavesBehind}
use Rattle.checker.specs.ShortRules.{LeavesOver}
use Rattle.checker.specs.inner.Standing.{StandsWith}
use Rattle.checker.proofs.BenchLemmas.{added_new}
use Rattle.checker.proofs.LargerTables.{fine_grows, instance_grows, left_of_table}
use Rattle.checker.proofs.StatingLemmas.{left_within, none_within}
use Rattle.checker.proofs.TableDepths.{fine_beside_table}

-- ---- a term that is put in

pub nodes_next : (ns ms : List Node) (n : Node) (k : ℕ) → IsAdded ns n k ms → (Contains ns n → ⊥) → ms ≡ ns ++ n ∷ []
nodes_next ns ms n k added new = (added_new ns ms n k added new).1

-- ---- before the first line

stands_first : (b : BenchState) (terms : ℕ) (kept : KeptLines) → state_history b ≡ no_lines → state_nodes b ≡ [] → terms ≡ 0 → IsOwnCode (state_group b).code → AreKept kept [] → StandsWith b terms kept
stands_first b terms kept none empty zero code first = record {
  few = let low : terms ≡ 0 = zero in omega (arith, low);
  table = first.table ∙ sym (ap (take terms) empty ∙ take_all terms [] (omega arith));
  only = λ e. first.table ∙ sym empty;
  within = subst AreWithin (sym none) none_within;
  code = code;
}

pub stands_new : (b : BenchState) (terms : ℕ) (kept : KeptLines) (v : Version) (g : GroupTree) → IsGroupIn v g → state_group b ≡ g → state_history b ≡ no_lines → state_nodes b ≡ [] → terms ≡ 0 → AreKept kept [] → StandsWith b terms kept
stands_new b terms kept v g fits same none empty zero first = stands_first b terms kept none empty zero (subst (λ (x : GroupTree). IsOwnCode x.code) (sym same) (fits.code, fits.bytes)) first

-- ---- behind lines

module _ (b : BenchState) (terms : ℕ) (old : KeptLines) (before : List ShortLine) (goes : StandsWith b terms old) (behind : AreKept old before) where
  abbrev nodes : List Node
  nodes = state_nodes b

  abbrev group : GroupTree
  group = state_group b

  abbrev history : History
  history = state_history b

  grows : Extends (table_of before) nodes
  grows = record { more = drop terms nodes; is = sym (take-append-drop terms nodes) ∙ ap (λ (ns : List Node). ns ++ drop terms nodes) (sym goes.table ∙ behind.table) }

  module _ (n : Node) (fits : IsNextLine before (Term n)) where
    all : table_of before ≡ nodes
    all = sym behind.table ∙ goes.only (behind.begun ∙ begun-none before fits.0)

    pub term_children : AreChildren nodes n
    term_children = subst (λ (ns : List Node). AreChildren ns n) all fits.1.children

    pub term_new : Contains nodes n → ⊥
    term_new = subst (λ (ns : List Node). Contains ns n → ⊥) all fits.1.other

    pub term_goes : (c : BenchState) (count : ℕ) (new : KeptLines) → state_nodes c ≡ nodes ++ n ∷ [] → state_group c ≡ group → state_history c ≡ history → count ≡ length (state_nodes c)
        → AreKept new (before ++ Term n ∷ []) → StandsWith c count new
    term_goes c count new more same left is read = record {
      few = omega (arith, is);
      table = ends ∙ sym (ap (λ (x : ℕ). take x (state_nodes c)) is ∙ take_all (length (state_nodes c)) (state_nodes c) (omega arith));
      only = λ e. ends;
      within = subst AreWithin (sym left) goes.within;
      code = subst (λ (g : GroupTree). IsOwnCode g.code) (sym same) goes.code;
    }
      where
        ends : new.table ≡ state_nodes c
        ends = read.table ∙ table-behind before n ∙ ap (λ (ns : List Node). ns ++ n ∷ []) all ∙ sym more

  module _ (s : Short) (are : AreShortLines before) (fits : IsNextLine before (Proof s)) where
    fine-here : IsFineShort (table_of before) s
    fine-here = fine_beside_table (table_of before) s are.table fits

    pub line_fine : IsFineShort nodes s
    line_fine = fine_grows (table_of before) nodes grows s fine-here

    pub line_goes : (c : BenchState) (count : ℕ) (new : KeptLines) → Extends nodes (state_nodes c) → state_group c ≡ group → LeavesBehind group history nodes s (state_history c) → count ≡ terms
        → AreKept new (before ++ Proof s ∷ []) → StandsWith c count new
    line_goes c count new more same left is read = record {
      few = let long : length (state_nodes c) ≡ length nodes + length more.more = ap length more.is ∙ length-append nodes more.more in let few : terms ≤ length nodes = goes.few in omega (arith, long, few, is);
      table = read.table ∙ table-kept before s ∙ sym behind.table ∙ goes.table ∙ sym (ap (λ (x : ℕ). take x (state_nodes c)) is ∙ ap (take terms) more.is ∙ take-append-le terms nodes more.more goes.few);
      only = λ e. absurd (true≢false (sym (begun-behind before s) ∙ sym read.begun ∙ e));
      within = left_within group history nodes s (state_history c) left goes.within;
      code = subst (λ (g : GroupTree). IsOwnCode g.code) (sym same) goes.code;
    }

    -- whatever else was kept: its table is the same
    module _ (kept : KeptLines) (lines : List ShortLine) (stands : StandsWith b terms kept) (those : AreKept kept lines) where
      same-table : table_of before ≡ table_of lines
      same-table = sym behind.table ∙ goes.table ∙ sym stands.table ∙ those.table

      fine : IsFineShort (table_of lines) s
      fine = subst (λ (ns : List Node). IsFineShort ns s) same-table fine-here

      grows-of : Extends (table_of lines) nodes
      grows-of = subst (λ (ns : List Node). Extends ns nodes) same-table grows

      pub line_leaves : (next : History) → LeavesBehind group history nodes s next → LeavesOver group lines history (Proof s) next
      line_leaves next l = left_of_table (table_of lines) nodes grows-of group history s next fine l

      pub line_wrong : (IsShortInstance group history nodes s → ⊥) → (next : History) → LeavesOver group lines history (Proof s) next → ⊥
      line_wrong never next l = never (instance_grows (table_of lines) nodes grows-of group history s fine (l.0, l.1))
