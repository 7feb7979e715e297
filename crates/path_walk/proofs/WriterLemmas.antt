-- Lines that are added to a log.
use Rattle.std.proofs.Common.{◌≡◌, ℕ, ◌+◌, List, [], ◌∷◌, ◌++◌, fold, refl, sym, ap, ◌∙◌, subst, Option, None, Some, inl, inr, append_assoc, append-nil}
use Rattle.rv_words.specs.declared.range.Range.{Range}
use Rattle.word_terms.specs.Tree.{WordTree}
use Rattle.triple_kernel.specs.Tree.{FactTree, TripleTree}
use Rattle.proof_text.specs.Line.{LineTree, RuleTree, States}
use Rattle.verdicts.specs.Instance.{AreInstancesBy, History, InstanceBy, Meets, after_line, after_lines, with_theorem}
use Rattle.code_parts.specs.Bodies.{Flow, VariableMap}
use Rattle.path_walk.specs.inner.Histories.{IsCounted, Keeps}
use Rattle.verdicts.specs.Further.{further_of}
use Rattle.path_walk.specs.inner.Writers.{FromAs, Grown, IsReady, Restated, WriterTree, Context, CitedTree, OriginTree, StandsAs, adding, group_in, past, stating}
use Rattle.path_walk.proofs.RightLines.{Made, fold-join, held_last, joined, made_one}

module _ (f : Flow) (ranges : List Range) (s : Context f ranges) where
  pub grown_made : (a b : WriterTree) → Grown f ranges s a b → Made (further_of s.version) (group_in f ranges s) (past f ranges s a) (past f ranges s b)
  grown_made a b m = record {
    lines = m.added;
    right = m.right;
    after = sym (fold-join (after_lines s.before) a.lines m.added) ∙ ap (fold after_line (after_lines s.before)) (sym m.lines);
    keeps = m.keeps;
    counted = m.ready.counted;
  }

  pub grown_none : (a : WriterTree) → IsReady f ranges s a → Grown f ranges s a a
  grown_none a ready = record { added = []; lines = sym (append-nil a.lines); right = tt; keeps = record { theorem = λ j t e. e; closed = λ d e. e }; ready = ready }

  pub grown_join : (a b c : WriterTree) → Grown f ranges s a b → Grown f ranges s b c → Grown f ranges s a c
  unfolding grown_made
  grown_join a b c m n = record {
    added = m.added ++ n.added;
    lines = n.lines ∙ ap (λ ls. ls ++ n.added) m.lines ∙ append_assoc a.lines m.added n.added;
    right = joined (further_of s.version) (group_in f ranges s) (past f ranges s a) m.added n.added m.right
        (subst (λ h. AreInstancesBy (further_of s.version) (group_in f ranges s) h n.added) (sym (grown_made a b m).after) n.right);
    keeps = record { theorem = λ j t e. n.keeps.theorem j t (m.keeps.theorem j t e); closed = λ d e. n.keeps.closed d (m.keeps.closed d e) };
    ready = n.ready;
  }

  -- ---- a line that states a triple

  module _ (line : LineTree) (t : TripleTree) (after : (h : History) → after_line h line ≡ with_theorem t h) where
    past_add : (a : WriterTree) → past f ranges s (adding line a) ≡ with_theorem t (past f ranges s a)
    past_add a = fold-join (after_lines s.before) a.lines (line ∷ []) ∙ after (past f ranges s a)

    pub ready_add : (a : WriterTree) → IsReady f ranges s a → InstanceBy (further_of s.version) (group_in f ranges s) (past f ranges s a) line → IsReady f ranges s (adding line a)
    ready_add a ready right = record {
      next = ap (λ n. n + 1) ready.next ∙ ap (λ (h : History). h.next) (sym (past_add a));
      counted = subst IsCounted (sym (past_add a)) (made_one (further_of s.version) (group_in f ranges s) (past f ranges s a) line t (after (past f ranges s a)) ready.counted right).counted;
    }

    pub grown_add : (a : WriterTree) → IsReady f ranges s a → InstanceBy (further_of s.version) (group_in f ranges s) (past f ranges s a) line → Grown f ranges s a (adding line a)
    grown_add a ready right = record {
      added = line ∷ [];
      lines = refl;
      right = (right, tt);
      keeps = subst (Keeps (past f ranges s a)) (sym (past_add a)) (made_one (further_of s.version) (group_in f ranges s) (past f ranges s a) line t (after (past f ranges s a)) ready.counted right).keeps;
      ready = ready_add a ready right;
    }

    -- the theorem that was stated last
    pub held_add : (a : WriterTree) → IsReady f ranges s a → (past f ranges s (adding line a)).theorem a.next ≡ Some t
    held_add a ready = ap (λ (h : History). h.theorem a.next) (past_add a) ∙ ap (λ k. (with_theorem t (past f ranges s a)).theorem k) ready.next ∙ held_last t (past f ranges s a)

  -- .. by a rule
  pub ready_state : (rule : RuleTree) (t : TripleTree) (a : WriterTree) → IsReady f ranges s a → Meets (group_in f ranges s) (past f ranges s a) rule t → IsReady f ranges s (stating rule t a)
  ready_state rule t a ready meets = ready_add (States rule t) t (λ h. refl) a ready meets

  pub grown_state : (rule : RuleTree) (t : TripleTree) (a : WriterTree) → IsReady f ranges s a → Meets (group_in f ranges s) (past f ranges s a) rule t → Grown f ranges s a (stating rule t a)
  grown_state rule t a ready meets = grown_add (States rule t) t (λ h. refl) a ready meets

  pub held_now : (rule : RuleTree) (t : TripleTree) (a : WriterTree) → IsReady f ranges s a → (past f ranges s (stating rule t a)).theorem a.next ≡ Some t
  held_now rule t a ready = held_add (States rule t) t (λ h. refl) a ready

  -- lines that were added end with a theorem that states this triple
  pub record Ends (old new : WriterTree) (k : ℕ) (t : TripleTree) : Type 0 where
    pub grown : Grown f ranges s old new
    pub cited : new.cited ≡ old.cited
    pub held : (past f ranges s new).theorem k ≡ Some t

  pub ends_state : (rule : RuleTree) (t : TripleTree) (a : WriterTree) → IsReady f ranges s a → Meets (group_in f ranges s) (past f ranges s a) rule t → Ends a (stating rule t a) a.next t
  ends_state rule t a ready meets = record { grown = grown_state rule t a ready meets; cited = refl; held = held_now rule t a ready }

  -- .. after one line more, if it states another one
  pub ends_restated : (old mid new : WriterTree) (held k : ℕ) (rule : RuleTree) (known t : TripleTree) → Ends old mid held known → Meets (group_in f ranges s) (past f ranges s mid) rule t → Restated held rule known t mid new k → Ends old new k t
  ends_restated old mid new held k rule known t ends meets (inl is) =
      subst (λ (l : WriterTree). Ends old l k t) (sym is.1) (record { grown = ends.grown; cited = ends.cited; held = ap (past f ranges s mid).theorem is.2 ∙ ends.held ∙ ap Some is.0 })
  ends_restated old mid new held k rule known t ends meets (inr is) =
      subst (λ (l : WriterTree). Ends old l k t) (sym is.0) (record {
        grown = grown_join old mid (stating rule t mid) ends.grown (grown_state rule t mid ends.grown.ready meets);
        cited = ends.cited;
        held = ap (past f ranges s (stating rule t mid)).theorem is.1 ∙ held_now rule t mid ends.grown.ready;
      })

  -- what stands goes on to do so
  pub stands_on : (o : OriginTree) (a b : WriterTree) (pc : WordTree) (v : VariableMap) (path : List FactTree) (t : CitedTree) → Grown f ranges s a b → StandsAs f o ranges (past f ranges s a) pc v path t →
      StandsAs f o ranges (past f ranges s b) pc v path t
  stands_on o a b pc v path t m x = record { held = m.keeps.theorem t.number _ x.held; facts = x.facts; code = x.code }

  pub from_on : (o : OriginTree) (a b : WriterTree) (pc : WordTree) (v : VariableMap) (path : List FactTree) (from : Option CitedTree) → Grown f ranges s a b →
      FromAs f o ranges (past f ranges s a) pc v path from → FromAs f o ranges (past f ranges s b) pc v path from
  from_on o a b pc v path None m here = here
  from_on o a b pc v path (Some t) m here = stands_on o a b pc v path t m here

-- the text stays of its version
pub restated-version : (held : ℕ) (rule : RuleTree) (known t : TripleTree) (old new : WriterTree) (k : ℕ) → Restated held rule known t old new k → new.version ≡ old.version
restated-version held rule known t old new k (inl is) = ap (λ (l : WriterTree). l.version) is.1
restated-version held rule known t old new k (inr is) = ap (λ (l : WriterTree). l.version) is.0

-- such a line, where all that it speaks of is this
pub restated_of : (held j : ℕ) (rule r : RuleTree) (known a t u : TripleTree) (old mid new : WriterTree) (k : ℕ) → held ≡ j → rule ≡ r → known ≡ a → t ≡ u → old ≡ mid → Restated held rule known t old new k → Restated j r a u mid new k
restated_of held j rule r known a t u old mid new k held_is rule_is known_is t_is old_is is =
    subst (λ (x : ℕ). Restated x r a u mid new k) held_is
    (subst (λ (x : RuleTree). Restated held x a u mid new k) rule_is
    (subst (λ (x : TripleTree). Restated held rule x u mid new k) known_is
    (subst (λ (x : TripleTree). Restated held rule known x mid new k) t_is (subst (λ (x : WriterTree). Restated held rule known t x new k) old_is is))))
