-- Classes of words, memories and conditions: where facts let one stand for the other, both have one class.
use Rattle.std.specs.Prelude.{◌≡◌, ◌⊎◌, ℕ, ◌<◌, List, [], Option, Some, None, map}
use Rattle.std.specs.List.{Contains}
use Rattle.std.specs.Ordering.{nat_cmp}
use Rattle.std.specs.BTreeMap.{BTreeMap, get}
use Rattle.word_terms.specs.Tree.{WordTree, MemTree, CondTree, Const, Var, MemVar, Compare, Neg, Inside}
use Rattle.word_terms.specs.Substitution.{Substitution, put_in_word, put_in_mem}
use Rattle.term_arena.specs.declared.node.Node.{Node}
use Rattle.term_arena.specs.declared.node.Node.TheVariants as node
use Rattle.term_arena.specs.Arena.{Tree, OfWord, OfMem, OfCond, tree_of, tree_over, trees_of, word_of, mem_of, cond_of, AreChildren, Extends, IsCondAt, IsWordAt, IsMemAt}
use Rattle.triple_kernel.specs.Tree.{FactTree, WordIs, MemIs, So}
use Rattle.triple_kernel.specs.Rules.{Alike, before_stores}
use Rattle.held_consequence.specs.declared.classes.Children.{Children}
use Rattle.held_consequence.specs.declared.classes.Class.{Class}
use Rattle.held_consequence.specs.declared.classes.Leaves.{Leaves}
use Rattle.held_consequence.specs.declared.classes.Parts.{Parts}
use Rattle.held_consequence.specs.declared.classes.Parts.TheVariants as parts
use Rattle.held_consequence.specs.declared.classes.Variable.{Variable}
use Rattle.held_consequence.specs.declared.classes.Variable.TheVariants as variable
use Rattle.held_terms.specs.declared.held.HeldFact.{HeldFact}
use Rattle.held_terms.specs.declared.held.HeldFact.TheVariants as held
use Rattle.held_terms.specs.Held.{fact_of}
use Rattle.held_terms.specs.Subterms.{HasTerm}

-- ---- the form of a term, by those of its variables

-- that of a word or a memory is the term itself, with a form for each variable. An address is inside a memory just where it is inside that before
-- the outer stores, so that a condition on it stands over that one
abbrev pub cond_form : Substitution → CondTree → CondTree
cond_form s (Compare cmp a b) = Compare cmp (put_in_word s a) (put_in_word s b)
cond_form s (Neg c) = Neg (cond_form s c)
cond_form s (Inside width m a) = Inside width (before_stores (put_in_mem s m)) (put_in_word s a)

abbrev pub tree_form : Substitution → Tree → Tree
tree_form s (OfWord t) = OfWord (put_in_word s t)
tree_form s (OfMem m) = OfMem (put_in_mem s m)
tree_form s (OfCond c) = OfCond (cond_form s c)

-- that of a number's term
abbrev pub form_at : Substitution → Option Tree → Option Tree
form_at s (Some t) = Some (tree_form s t)
form_at s None = None

-- the two sides of each stated equation have one form
pub record AreOneForm (s : Substitution) (facts : List FactTree) : Type 0 where
  pub words : (a b : WordTree) → Contains facts (WordIs a b) → put_in_word s a ≡ put_in_word s b
  pub mems : (m n : MemTree) → Contains facts (MemIs m n) → put_in_mem s m ≡ put_in_mem s n

-- a memory before its outer stores, all else as it is
abbrev pub tree_base : Option Tree → Option Tree
tree_base (Some (OfMem m)) = Some (OfMem (before_stores m))
tree_base t = t

-- the class is that of the form
pub record IsClass (forms : List Node) (c : Class) (t : Option Tree) : Type 0 where
  pub form : tree_of forms c.form ≡ t
  pub base : tree_of forms c.base ≡ tree_base t

-- ---- what it is made of

abbrev pub parts_of : Node → Parts
parts_of (node.Const n) = parts.Constant n
parts_of (node.WordVar i) = parts.Variable (variable.Word i)
parts_of (node.Bin op a b) = parts.Over (node.Bin op a b) a b b
parts_of (node.Extend ext a) = parts.Over (node.Extend ext a) a a a
parts_of (node.Load width m a) = parts.Over (node.Load width m a) m a a
parts_of (node.MemVar i) = parts.Variable (variable.Mem i)
parts_of (node.Store width m a v) = parts.Over (node.Store width m a v) m a v
parts_of (node.Compare cmp a b) = parts.Over (node.Compare cmp a b) a b b
parts_of (node.Neg c) = parts.Over (node.Neg c) c c c
parts_of (node.Inside width m a) = parts.Over (node.Inside width m a) m a a

-- the node over forms of those classes, and for a condition on an address over the base of the memory's
abbrev pub node_over : Node → Children → Node
node_over (node.Bin op a b) c = node.Bin op c.first.form c.second.form
node_over (node.Extend ext a) c = node.Extend ext c.first.form
node_over (node.Load width m a) c = node.Load width c.first.form c.second.form
node_over (node.Store width m a v) c = node.Store width c.first.form c.second.form c.third.form
node_over (node.Compare cmp a b) c = node.Compare cmp c.first.form c.second.form
node_over (node.Neg a) c = node.Neg c.first.form
node_over (node.Inside width m a) c = node.Inside width c.first.base c.second.form
node_over n c = n

-- the class of that node's form, which has that number
abbrev pub class_at : Node → Children → ℕ → Class
class_at (node.Store width m a v) c k = record { form = k; base = c.first.base }
class_at n c k = record { form = k; base = k }

-- all three, if they are known
abbrev pub all_known : Option Class → Option Class → Option Class → Option Children
all_known None b c = None
all_known (Some a) None c = None
all_known (Some a) (Some b) None = None
all_known (Some a) (Some b) (Some c) = Some (record { first = a; second = b; third = c })

-- that is the class of the node's form over them, where they are known
abbrev pub IsClassOver : List Node → List Node → Node → Option Children → Class → Type 0
IsClassOver old new n (Some c) k = (tree_of new k.form ≡ Some (tree_over (trees_of old) (node_over n c))) × (k ≡ class_at n c k.form)
IsClassOver old new n None k = ⊥

-- the list has each subterm of the two, of the three
abbrev pub HasTwoTerms : List Node → ℕ → ℕ → List Tree → Type 0
HasTwoTerms ns a b ts = HasTerm ns a ts × HasTerm ns b ts

abbrev pub HasThreeTerms : List Node → ℕ → ℕ → ℕ → List Tree → Type 0
HasThreeTerms ns a b c ts = HasTerm ns a ts × HasTerm ns b ts × HasTerm ns c ts

-- those are the classes of the three terms
pub record AreClasses (ns forms : List Node) (s : Substitution) (a b c : ℕ) (k : Children) : Type 0 where
  pub first : IsClass forms k.first (form_at s (tree_of ns a))
  pub second : IsClass forms k.second (form_at s (tree_of ns b))
  pub third : IsClass forms k.third (form_at s (tree_of ns c))

-- the form of the number's term is that node over the forms of three terms
pub record IsOver (ns : List Node) (x : ℕ) (n : Node) (a b c : ℕ) : Type 0 where
  pub first : a < x
  pub second : b < x
  pub third : c < x
  pub under : (ts : List Tree) → HasTerm ns x ts → HasThreeTerms ns a b c ts
  pub children : (s : Substitution) (forms : List Node) (k : Children) → AreClasses ns forms s a b c k → AreChildren forms (node_over n k)
  pub class : (s : Substitution) (old new : List Node) (k : Children) (v : Class) → AreClasses ns old s a b c k → Extends old new → IsClassOver old new n (Some k) v
      → IsClass new v (form_at s (tree_of ns x))

abbrev pub variable_tree : Variable → Tree
variable_tree (variable.Word i) = OfWord (Var i)
variable_tree (variable.Mem i) = OfMem (MemVar i)

abbrev pub ArePartsAt : List Node → ℕ → Parts → Type 0
ArePartsAt ns x (parts.Constant n) = tree_of ns x ≡ Some (OfWord (Const n))
ArePartsAt ns x (parts.Variable v) = tree_of ns x ≡ Some (variable_tree v)
ArePartsAt ns x (parts.Over n a b c) = IsOver ns x n a b c

-- ---- what is known of classes

-- classes of numbers, where they are known
abbrev pub Seen : Type 0
Seen = BTreeMap ℕ (Option Class)

-- the class of a variable, if it has one
abbrev pub leaf_of : Leaves → Variable → Option Class
leaf_of leaves (variable.Word i) = get nat_cmp leaves.words i
leaf_of leaves (variable.Mem i) = get nat_cmp leaves.mems i

-- it is one that the variable can have: of a word, of a memory
abbrev pub IsLeaf : List Node → Variable → Class → Type 0
IsLeaf forms (variable.Word i) c = IsClass forms c (Some (OfWord (word_of forms c.form)))
IsLeaf forms (variable.Mem i) c = IsClass forms c (Some (OfMem (mem_of forms c.form)))

-- .. if the number is that of a variable
abbrev pub IsWanted : List Node → List Node → ℕ → Class → Type 0
IsWanted ns forms x c = (v : Variable) → tree_of ns x ≡ Some (variable_tree v) → IsLeaf forms v c

-- each variable's class is
pub record AreForms (forms : List Node) (leaves : Leaves) : Type 0 where
  pub each : (v : Variable) (c : Class) → leaf_of leaves v ≡ Some c → IsLeaf forms v c

-- the variables that have a class have this form
pub record Agrees (forms : List Node) (leaves : Leaves) (s : Substitution) : Type 0 where
  pub each : (v : Variable) (c : Class) → leaf_of leaves v ≡ Some c → IsClass forms c (Some (tree_form s (variable_tree v)))

-- each form keeps its number, and each variable its class
pub record Grows (forms more : List Node) (old new : Leaves) : Type 0 where
  pub stay : Extends forms more
  pub each : (v : Variable) (c : Class) → leaf_of old v ≡ Some c → leaf_of new v ≡ Some c

-- the variable has that class now, and the others have what they had
pub record HasLeaf (old new : Leaves) (v : Variable) (c : Class) : Type 0 where
  pub here : leaf_of new v ≡ Some c
  pub keeps : (w : Variable) (d : Class) → (w ≡ v → ⊥) → leaf_of old w ≡ Some d → leaf_of new w ≡ Some d
  pub from : (w : Variable) (d : Class) → leaf_of new w ≡ Some d → ((w ≡ v) × (d ≡ c)) ⊎ (leaf_of old w ≡ Some d)

-- that is the class of the number's term, whatever the forms of other variables are
pub record HasClass (ns forms : List Node) (leaves : Leaves) (x : ℕ) (c : Class) : Type 0 where
  pub tree : Tree
  pub there : tree_of ns x ≡ Some tree
  pub is : (s : Substitution) → Agrees forms leaves s → IsClass forms c (Some (tree_form s tree))

-- each class that is known is right
pub record AreClassed (ns forms : List Node) (leaves : Leaves) (seen : Seen) : Type 0 where
  pub ready : AreForms forms leaves
  pub each : (x : ℕ) (c : Class) → get nat_cmp seen x ≡ Some (Some c) → HasClass ns forms leaves x c

-- the class that an entry says, by the number of its form
abbrev pub class_found : Option (Option Class) → Option ℕ
class_found (Some (Some c)) = Some c.form
class_found v = None

-- both are known and the same
abbrev pub AreSame : Option ℕ → Option ℕ → Type 0
AreSame (Some v) (Some w) = v ≡ w
AreSame a b = ⊥

-- the two sides of the fact have one class, if it is an equation
abbrev pub IsAgreed : Seen → HeldFact → Type 0
IsAgreed seen (held.WordIs a b) = AreSame (class_found (get nat_cmp seen a)) (class_found (get nat_cmp seen b))
IsAgreed seen (held.MemIs a b) = AreSame (class_found (get nat_cmp seen a)) (class_found (get nat_cmp seen b))
IsAgreed seen f = Unit {0}

-- both are words, or both are memories
abbrev pub AreOneKind : List Node → ℕ → ℕ → Type 0
AreOneKind ns a b = (IsWordAt ns a × IsWordAt ns b) ⊎ (IsMemAt ns a × IsMemAt ns b)

-- ---- conditions by their classes

-- facts, each list of one class
abbrev pub Lists : Type 0
Lists = BTreeMap ℕ (List HeldFact)

-- the facts that an entry has
abbrev pub listed : Option (List HeldFact) → List HeldFact
listed (Some l) = l
listed None = []

-- each of them is one of the facts
pub record AreFrom (facts : List HeldFact) (lists : Lists) : Type 0 where
  pub each : (k : ℕ) (f : HeldFact) → Contains (listed (get nat_cmp lists k)) f → Contains facts f

-- the fact came, all others stay
pub record IsAdded (old new : Lists) (f : HeldFact) : Type 0 where
  pub keeps : (k : ℕ) (g : HeldFact) → Contains (listed (get nat_cmp old k)) g → Contains (listed (get nat_cmp new k)) g
  pub from : (k : ℕ) (g : HeldFact) → Contains (listed (get nat_cmp new k)) g → Contains (listed (get nat_cmp old k)) g ⊎ (g ≡ f)

-- the condition stands among those of its class
pub record IsListed (seen : Seen) (lists : Lists) (d : ℕ) : Type 0 where
  pub class : ℕ
  pub is : class_found (get nat_cmp seen d) ≡ Some class
  pub there : Contains (listed (get nat_cmp lists class)) (held.So d)

-- .. of the fact, if it is one
abbrev pub IsFactListed : Seen → Lists → HeldFact → Type 0
IsFactListed seen lists (held.So d) = IsListed seen lists d
IsFactListed seen lists f = Unit {0}

-- each is one of the facts, and those of a condition's class have all that are like it
pub record Narrows (ns : List Node) (facts : List HeldFact) (seen : Seen) (lists : Lists) : Type 0 where
  pub among : AreFrom facts lists
  pub all : (c v : ℕ) (d : CondTree) → IsCondAt ns c → class_found (get nat_cmp seen c) ≡ Some v → Contains (map (fact_of ns) facts) (So d) → Alike (map (fact_of ns) facts) (cond_of ns c) d
      → Contains (map (fact_of ns) (listed (get nat_cmp lists v))) (So d)
