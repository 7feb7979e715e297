-- Steps in children and at the root, noted one after the other.
use Rattle.std.proofs.Common.{◌≡◌, ℕ, List, [], ◌∷◌, ◌++◌, Some, slice_get, refl, sym, ap, subst, ◌∙◌, append_assoc}
use Rattle.std.proofs.lemmas.List.{append-nil}
use Rattle.rv_words.specs.declared.operation.Op.{Op}
use Rattle.rv_words.specs.declared.extension.Ext.{Ext}
use Rattle.rv_words.specs.declared.width.Width.{Width}
use Rattle.rv_words.specs.declared.comparison.Cmp.{Cmp}
use Rattle.word_terms.specs.Tree.{WordTree, Bin, Extend, Load, MemTree, Store, CondTree, Compare, Neg, Inside}
use Rattle.fun_laws.specs.declared.step.Rw.{Rw}
use Rattle.fun_laws.specs.declared.log.Log.{Log}
use Rattle.fun_laws.specs.Laws.{Term, OfWord, OfMem, OfCond}
use Rattle.fun_laws.specs.Places.{children, with_child}
use Rattle.fun_laws.specs.inner.Steps.{AreTermSteps, GivesBy, IsEntered, IsLeft, IsNoted, IsOneMore, IsTermStep}

module _ {A : Type 0} (of : A → Term) (d k : ℕ) (front : List ℕ) where
  appended : (rs ss : List Rw) (x y z : A) → AreTermSteps of d k front rs x y → AreTermSteps of d k front ss y z → AreTermSteps of d k front (rs ++ ss) x z
  appended [] ss x y z e are = subst (λ v. AreTermSteps of d k front ss v z) (sym e) are
  appended (r ∷ rs) ss x y z (v, s, more) are = (v, s, appended rs ss v y z more are)

-- where a child x stands in each term f x, its steps are steps of the whole
module _ {A B : Type 0} (of : A → Term) (over : B → Term) (f : A → B) (j : ℕ)
    (child : (x : A) → slice_get (children (over (f x))) j ≡ Some (of x)) (put : (x z : A) → with_child (over (f x)) j (of z) ≡ over (f z))
    (d k : ℕ) (front : List ℕ) where
  lifted-step : (r : Rw) (x z : A) → IsTermStep d k (front ++ j ∷ []) r (of x) (of z) → IsTermStep d k front r (over (f x)) (over (f z))
  lifted-step r x z s = record {
    law = s.law;
    place = j ∷ s.place;
    def = s.def;
    term = s.term;
    behind = s.behind ∙ append_assoc front (j ∷ []) s.place;
    numbered = s.numbered;
    rewrites = (of x, of z, child x, s.rewrites, sym (put x z));
  }

  pub lifted : (rs : List Rw) (x y : A) → AreTermSteps of d k (front ++ j ∷ []) rs x y → AreTermSteps over d k front rs (f x) (f y)
  lifted [] x y e = ap f e
  lifted (r ∷ rs) x y (z, s, more) = (f z, lifted-step r x z s, lifted rs z y more)

-- ---- what is noted

pub nothing_noted : {A : Type 0} (of : A → Term) (l : Log) (x : A) → IsNoted of [] l l x x
nothing_noted of l x = record { def = refl; term = refl; place = refl; made = []; steps = sym (append-nil l.steps); are = refl }

module _ {A : Type 0} (of : A → Term) where
  pub noted_then : (below : List ℕ) (l m n : Log) (x y z : A) → IsNoted of below l m x y → IsNoted of below m n y z → IsNoted of below l n x z
  noted_then below l m n x y z a b = record {
    def = b.def ∙ a.def;
    term = b.term ∙ a.term;
    place = b.place ∙ a.place;
    made = a.made ++ b.made;
    steps = b.steps ∙ ap (λ ss. ss ++ b.made) a.steps ∙ append_assoc l.steps a.made b.made;
    are = appended of l.def l.term (l.place ++ below) a.made b.made x y z a.are
        (subst (λ p. AreTermSteps of l.def l.term (p ++ below) b.made y z) a.place
        (subst (λ k. AreTermSteps of l.def k (m.place ++ below) b.made y z) a.term
        (subst (λ d. AreTermSteps of d m.term (m.place ++ below) b.made y z) a.def b.are)));
  }

  -- steps of the child that was gone on to
  pub child_noted : (j : ℕ) (l m n o : Log) (x y : A) → IsEntered j l m → IsNoted of [] m n x y → IsLeft n o → IsNoted of (j ∷ []) l o x y
  child_noted j l m n o x y e a b = record {
    def = b.def ∙ a.def ∙ e.def;
    term = b.term ∙ a.term ∙ e.term;
    place = b.place l.place j (a.place ∙ e.place);
    made = a.made;
    steps = b.steps ∙ a.steps ∙ ap (λ ss. ss ++ a.made) e.steps;
    are =
        subst (λ p. AreTermSteps of l.def l.term p a.made x y) (append-nil m.place ∙ e.place)
        (subst (λ k. AreTermSteps of l.def k (m.place ++ []) a.made x y) e.term
        (subst (λ d. AreTermSteps of d m.term (m.place ++ []) a.made x y) e.def a.are));
  }

-- steps of a child are steps of the whole
pub whole_noted : {A B : Type 0} (of : A → Term) (over : B → Term) (f : A → B) (j : ℕ)
    → ((x : A) → slice_get (children (over (f x))) j ≡ Some (of x)) → ((x z : A) → with_child (over (f x)) j (of z) ≡ over (f z))
    → (l o : Log) (x y : A) → IsNoted of (j ∷ []) l o x y → IsNoted over [] l o (f x) (f y)
whole_noted of over f j child put l o x y a = record {
  def = a.def;
  term = a.term;
  place = a.place;
  made = a.made;
  steps = a.steps;
  are = subst (λ p. AreTermSteps over l.def l.term p a.made (f x) (f y)) (sym (append-nil l.place)) (lifted of over f j child put l.def l.term l.place a.made x y a.are);
}

-- the law at the root
pub one_noted : {A : Type 0} (of : A → Term) (n : ℕ) (l m : Log) (x y : A) → GivesBy n (of x) (of y) → IsOneMore n l m → IsNoted of [] l m x y
one_noted of n l m x y (law, is, g) a = record {
  def = a.def;
  term = a.term;
  place = a.place;
  made = record { def = l.def; term = l.term; place = l.place; law = n } ∷ [];
  steps = a.steps;
  are = (y, record { law = law; place = []; def = refl; term = refl; behind = sym (append-nil l.place) ∙ sym (append-nil (l.place ++ [])); numbered = is; rewrites = g }, refl);
}

pub word_noted_then : (n : ℕ) (l m o : Log) (t u v w : WordTree) → GivesBy n (OfWord t) (OfWord u) → v ≡ u → IsOneMore n l m → IsNoted OfWord [] m o v w → IsNoted OfWord [] l o t w
word_noted_then n l m o t u v w g e a b = noted_then OfWord [] l m o t u w (one_noted OfWord n l m t u g a) (subst (λ z. IsNoted OfWord [] m o z w) e b)

pub cond_noted_then : (n : ℕ) (l m o : Log) (c d e f : CondTree) → GivesBy n (OfCond c) (OfCond d) → e ≡ d → IsOneMore n l m → IsNoted OfCond [] m o e f → IsNoted OfCond [] l o c f
cond_noted_then n l m o c d e f g h a b = noted_then OfCond [] l m o c d f (one_noted OfCond n l m c d g a) (subst (λ z. IsNoted OfCond [] m o z f) h b)

-- ---- each form of term

pub bin_noted : (op : Op) (a b x y u : WordTree) (l m n o p q r s : Log)
    → IsEntered 0 l m → IsNoted OfWord [] m n a x → IsLeft n o → IsEntered 1 o p → IsNoted OfWord [] p q b y → IsLeft q r
    → IsNoted OfWord [] r s (Bin op x y) u → IsNoted OfWord [] l s (Bin op a b) u
bin_noted op a b x y u l m n o p q r s e f g h i j k =
    noted_then OfWord [] l o s (Bin op a b) (Bin op x b) u
    (whole_noted OfWord OfWord (λ z. Bin op z b) 0 (λ z. refl) (λ z w. refl) l o a x (child_noted OfWord 0 l m n o a x e f g))
    (noted_then OfWord [] o r s (Bin op x b) (Bin op x y) u
    (whole_noted OfWord OfWord (λ z. Bin op x z) 1 (λ z. refl) (λ z w. refl) o r b y (child_noted OfWord 1 o p q r b y h i j))
    k)

pub extend_noted : (ext : Ext) (a x u : WordTree) (l m n o p : Log)
    → IsEntered 0 l m → IsNoted OfWord [] m n a x → IsLeft n o → IsNoted OfWord [] o p (Extend ext x) u → IsNoted OfWord [] l p (Extend ext a) u
extend_noted ext a x u l m n o p e f g k =
    noted_then OfWord [] l o p (Extend ext a) (Extend ext x) u
    (whole_noted OfWord OfWord (λ z. Extend ext z) 0 (λ z. refl) (λ z w. refl) l o a x (child_noted OfWord 0 l m n o a x e f g))
    k

pub load_noted : (w : Width) (a x : MemTree) (b y u : WordTree) (l m n o p q r s : Log)
    → IsEntered 0 l m → IsNoted OfMem [] m n a x → IsLeft n o → IsEntered 1 o p → IsNoted OfWord [] p q b y → IsLeft q r
    → IsNoted OfWord [] r s (Load w x y) u → IsNoted OfWord [] l s (Load w a b) u
load_noted w a x b y u l m n o p q r s e f g h i j k =
    noted_then OfWord [] l o s (Load w a b) (Load w x b) u
    (whole_noted OfMem OfWord (λ z. Load w z b) 0 (λ z. refl) (λ z v. refl) l o a x (child_noted OfMem 0 l m n o a x e f g))
    (noted_then OfWord [] o r s (Load w x b) (Load w x y) u
    (whole_noted OfWord OfWord (λ z. Load w x z) 1 (λ z. refl) (λ z v. refl) o r b y (child_noted OfWord 1 o p q r b y h i j))
    k)

pub store_noted : (w : Width) (a x : MemTree) (b y c z : WordTree) (l m n o p q r s t u : Log)
    → IsEntered 0 l m → IsNoted OfMem [] m n a x → IsLeft n o → IsEntered 1 o p → IsNoted OfWord [] p q b y → IsLeft q r
    → IsEntered 2 r s → IsNoted OfWord [] s t c z → IsLeft t u → IsNoted OfMem [] l u (Store w a b c) (Store w x y z)
store_noted w a x b y c z l m n o p q r s t u e f g h i j k v d =
    noted_then OfMem [] l o u (Store w a b c) (Store w x b c) (Store w x y z)
    (whole_noted OfMem OfMem (λ i. Store w i b c) 0 (λ i. refl) (λ i j. refl) l o a x (child_noted OfMem 0 l m n o a x e f g))
    (noted_then OfMem [] o r u (Store w x b c) (Store w x y c) (Store w x y z)
    (whole_noted OfWord OfMem (λ i. Store w x i c) 1 (λ i. refl) (λ i j. refl) o r b y (child_noted OfWord 1 o p q r b y h i j))
    (whole_noted OfWord OfMem (λ i. Store w x y i) 2 (λ i. refl) (λ i j. refl) r u c z (child_noted OfWord 2 r s t u c z k v d)))

pub compare_noted : (cmp : Cmp) (a x b y : WordTree) (u : CondTree) (l m n o p q r s : Log)
    → IsEntered 0 l m → IsNoted OfWord [] m n a x → IsLeft n o → IsEntered 1 o p → IsNoted OfWord [] p q b y → IsLeft q r
    → IsNoted OfCond [] r s (Compare cmp x y) u → IsNoted OfCond [] l s (Compare cmp a b) u
compare_noted cmp a x b y u l m n o p q r s e f g h i j k =
    noted_then OfCond [] l o s (Compare cmp a b) (Compare cmp x b) u
    (whole_noted OfWord OfCond (λ z. Compare cmp z b) 0 (λ z. refl) (λ z w. refl) l o a x (child_noted OfWord 0 l m n o a x e f g))
    (noted_then OfCond [] o r s (Compare cmp x b) (Compare cmp x y) u
    (whole_noted OfWord OfCond (λ z. Compare cmp x z) 1 (λ z. refl) (λ z w. refl) o r b y (child_noted OfWord 1 o p q r b y h i j))
    k)

pub neg_noted : (a x u : CondTree) (l m n o p : Log)
    → IsEntered 0 l m → IsNoted OfCond [] m n a x → IsLeft n o → IsNoted OfCond [] o p (Neg x) u → IsNoted OfCond [] l p (Neg a) u
neg_noted a x u l m n o p e f g k =
    noted_then OfCond [] l o p (Neg a) (Neg x) u
    (whole_noted OfCond OfCond (λ z. Neg z) 0 (λ z. refl) (λ z w. refl) l o a x (child_noted OfCond 0 l m n o a x e f g))
    k

pub inside_noted : (w : Width) (a x : MemTree) (b y : WordTree) (u : CondTree) (l m n o p q r s : Log)
    → IsEntered 0 l m → IsNoted OfMem [] m n a x → IsLeft n o → IsEntered 1 o p → IsNoted OfWord [] p q b y → IsLeft q r
    → IsNoted OfCond [] r s (Inside w x y) u → IsNoted OfCond [] l s (Inside w a b) u
inside_noted w a x b y u l m n o p q r s e f g h i j k =
    noted_then OfCond [] l o s (Inside w a b) (Inside w x b) u
    (whole_noted OfMem OfCond (λ z. Inside w z b) 0 (λ z. refl) (λ z v. refl) l o a x (child_noted OfMem 0 l m n o a x e f g))
    (noted_then OfCond [] o r s (Inside w x b) (Inside w x y) u
    (whole_noted OfWord OfCond (λ z. Inside w x z) 1 (λ z. refl) (λ z v. refl) o r b y (child_noted OfWord 1 o p q r b y h i j))
    k)
