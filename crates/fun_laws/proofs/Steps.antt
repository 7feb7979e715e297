-- Steps one after the other.
use Rattle.std.proofs.Common.{◌≡◌, ℕ, ◌<◌, ◌^◌, List, [], ◌∷◌, subst, ◌∙◌}
use Rattle.std.specs.List.{AllByRecursion}
use Rattle.tailrec_lang.specs.Tree.{ValuesTree, StepTree, Bind, BindMem, Need, BodyTree, Do, Branch, Call, Again, Leave, ArmTrees, NoArm, Arm, DefTree, GroupTree}
use Rattle.word_terms.specs.Tree.{WordTree, MemTree}
use Rattle.word_terms.specs.Scope.{WordInRange, MemInRange}
use Rattle.tailrec_lang.specs.Eval.{Arguments, eval}
use Rattle.fun_laws.specs.declared.step.Rw.{Rw}
use Rattle.group_terms.specs.Range.{ArgumentsInRange, ValuesInRange, StepInRange, BodyInRange, ArmsInRange, DefInRange, ExitInRange}
use Rattle.fun_laws.specs.Rewriting.{AreRewritingSteps, with_defs}
use Rattle.fun_laws.specs.inner.Alike.{EachPair, AlikeWords, AlikeMems, AlikeValues, AlikeSteps, AlikeBodies, AlikeArms, AlikeDefs}
use Rattle.fun_laws.proofs.Bodies.{step-alike_defs}
use Rattle.fun_laws.proofs.Evaluation.{eval_same}

-- ---- constants stay 64-bit words

words_range : (ts us : List WordTree) → EachPair AlikeWords ts us → AllByRecursion WordInRange ts → AllByRecursion WordInRange us
words_range [] [] a h = tt
words_range (t ∷ ts) (u ∷ us) a h = (a.0.range h.0, words_range ts us a.1 h.1)
words_range _ _ a h = absurd a

mems_range : (ms ns : List MemTree) → EachPair AlikeMems ms ns → AllByRecursion MemInRange ms → AllByRecursion MemInRange ns
mems_range [] [] a h = tt
mems_range (m ∷ ms) (n ∷ ns) a h = (a.0.range h.0, mems_range ms ns a.1 h.1)
mems_range _ _ a h = absurd a

values_range : (v w : ValuesTree) → AlikeValues v w → ValuesInRange v → ValuesInRange w
values_range v w a h = (words_range v.words w.words a.0 h.0, mems_range v.mems w.mems a.1 h.1)

step_range : (s t : StepTree) → AlikeSteps s t → StepInRange s → StepInRange t
step_range (Bind t) (Bind u) a h = a.range h
step_range (BindMem m) (BindMem n) a h = a.range h
step_range (Need c) (Need d) a h = a.range h
step_range _ _ a h = absurd a

mutual
  body_range : (b c : BodyTree) → AlikeBodies b c → BodyInRange b → BodyInRange c
  body_range (Do s b) (Do t c) a h = (step_range s t a.0 h.0, body_range b c a.1 h.1)
  body_range (Branch c a b) (Branch c' a' b') k h = (k.0.range h.0, body_range a a' k.1 h.1, body_range b b' k.2 h.2)
  body_range (Call def v arms) (Call def' v' arms') a h = (values_range v v' a.1 h.0, arms_range arms arms' a.2 h.1)
  body_range (Again v) (Again w) a h = values_range v w a h
  body_range (Leave k v) (Leave l w) a h = values_range v w a.1 h
  body_range _ _ a h = absurd a

  arms_range : (bs cs : ArmTrees) → AlikeArms bs cs → ArmsInRange bs → ArmsInRange cs
  arms_range NoArm NoArm a h = tt
  arms_range (Arm b bs) (Arm c cs) a h = (body_range b c a.0 h.0, arms_range bs cs a.1 h.1)
  arms_range _ _ a h = absurd a

def_range : (d e : DefTree) → AlikeDefs d e → DefInRange d → DefInRange e
def_range d e a h = record {
  entry = subst (λ n. n < 2 ^ 64) a.entry h.entry;
  exits = subst (AllByRecursion ExitInRange) a.exits h.exits;
  body = body_range d.body e.body a.body h.body;
}

pub defs_range : (ds es : List DefTree) → EachPair AlikeDefs ds es → AllByRecursion DefInRange ds → AllByRecursion DefInRange es
defs_range [] [] a h = tt
defs_range (d ∷ ds) (e ∷ es) a h = (def_range d e a.0 h.0, defs_range ds es a.1 h.1)
defs_range _ _ a h = absurd a

-- ---- the theorem

pub steps_same : (rs : List Rw) (g : GroupTree) (es : List DefTree) → AllByRecursion DefInRange g.defs → AreRewritingSteps rs g.defs es
    → (d : ℕ) (x : Arguments) (n : ℕ) → ArgumentsInRange x → eval g d x n ≡ eval (with_defs g es) d x n
steps_same [] g es range is d x n r = λ j. eval (with_defs g (is j)) d x n
steps_same (r ∷ rs) g es range (ms, step, rest) d x n h =
    let a = step-alike_defs r g.defs ms step in
    eval_same g ms range a d x n h ∙ steps_same rs (with_defs g ms) es (defs_range g.defs ms a range) rest d x n h
