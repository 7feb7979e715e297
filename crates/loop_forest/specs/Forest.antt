-- What a forest holds, which forest is that of a graph, and why there is none.
use Rattle.std.specs.Prelude.{◌≡◌, ◌↔◌, ℕ, zero, suc, ◌<◌, ◌≤◌, ◌==◌, Bool, if◌then◌else◌, Option, Some, None, option_map, List, [], length, slice_index, slice_index_or}
use Rattle.std.specs.List.{Contains, list_any}
use Rattle.flow_graph.specs.Graph.{GraphOf, HasEdge, IsRising, preds_of}
use Rattle.flow_graph.specs.declared.outside.Outside.{Outside as Fault}
use Rattle.flow_graph.specs.declared.outside.Outside.TheVariants.{TwoEntries as Irreducible, ManyExits}
use Rattle.flow_graph.specs.declared.outside.FlowFault.{FlowFault}
use Rattle.flow_graph.specs.declared.outside.FlowFault.TheVariants.{Outside, NoMemory}
use Rattle.loop_forest.specs.Cycles.{ShowsTwoEntries, TwoEntries}
use Rattle.loop_forest.specs.Loops.{IsHead, InLoop, IsExit, IsPostOrder}
use Rattle.loop_forest.specs.Regions.{IsAround, HasManyExits, loop_exit_limit}
use Rattle.loop_forest.specs.Cuts.{StepsSinceCut, IsBase}
use Rattle.loop_forest.specs.Addresses.{GoesTo, entry_at}

-- For each loop its head, the nodes in it, and its exits. For each node the loop that is its region, its post-order number, and its place
-- after the last cut: how many instructions there are from that cut to it.
pub record ForestOf : Type 0 where
  pub heads : List ℕ
  pub insides : List (List ℕ)
  pub exits : List (List ℕ)
  pub regions : List (Option ℕ)
  pub numbers : List ℕ
  pub places : List ℕ

abbrev pub head_of : ForestOf → ℕ → ℕ
head_of f l = slice_index f.heads l

abbrev pub inside_of : ForestOf → ℕ → List ℕ
inside_of f l = slice_index_or f.insides l []

abbrev pub exits_of : ForestOf → ℕ → List ℕ
exits_of f l = slice_index_or f.exits l []

abbrev pub region_of : ForestOf → ℕ → Option ℕ
region_of f n = slice_index_or f.regions n None

abbrev pub number_of : ForestOf → ℕ → ℕ
number_of f n = slice_index f.numbers n

abbrev pub place_of : ForestOf → ℕ → ℕ
place_of f n = slice_index f.places n

abbrev pub has_inside : ForestOf → ℕ → ℕ → Bool
has_inside f n l = list_any (λ m. n == m) (inside_of f l)

-- how many numbers below n pass the test
abbrev pub count_below : (ℕ → Bool) → ℕ → ℕ
count_below test zero = 0
count_below test (suc n) = if test n then suc (count_below test n) else count_below test n

-- how many loops have a node
abbrev pub loops_around : ForestOf → ℕ → ℕ
loops_around f n = count_below (has_inside f n) (length f.heads)

-- how many loops there are around what is in a region, its own included
abbrev pub depth_of : ForestOf → Option ℕ → ℕ
depth_of f None = 0
depth_of f (Some l) = loops_around f (head_of f l)

-- how many edges lead to a node
abbrev pub incoming : GraphOf → ℕ → ℕ
incoming g n = length (preds_of g.edges n)

-- The forest of a graph: all loops, by rising head, with exactly their nodes and their exits, which rise and are few; the region and
-- the place of each node; and numbers, a different one for each node, that fall along each edge that is no back edge.
pub record IsForestOf (g : GraphOf) (f : ForestOf) : Type 0 where
  pub rising : IsRising f.heads
  pub heads : (h : ℕ) → Contains f.heads h ↔ IsHead (HasEdge g) g.entry h
  pub insides : (l n : ℕ) → l < length f.heads → Contains (inside_of f l) n ↔ InLoop (HasEdge g) g.entry (head_of f l) n
  pub exits : (l v : ℕ) → l < length f.heads → Contains (exits_of f l) v ↔ IsExit (HasEdge g) g.entry (head_of f l) v
  pub exits_rise : (l : ℕ) → l < length f.heads → IsRising (exits_of f l)
  pub few : (l : ℕ) → l < length f.heads → length (exits_of f l) ≤ loop_exit_limit
  pub regions : (n : ℕ) → n < length g.addrs → IsAround (HasEdge g) g.entry n (option_map (head_of f) (region_of f n))
  pub within : (n l : ℕ) → n < length g.addrs → region_of f n ≡ Some l → l < length f.heads
  pub places : (n : ℕ) → n < length g.addrs → StepsSinceCut (HasEdge g) (IsBase (HasEdge g) g.entry (incoming g)) n (place_of f n)
  pub in_post_order : IsPostOrder (HasEdge g) g.entry (number_of f)
  pub different : (n m : ℕ) → n < length g.addrs → m < length g.addrs → number_of f n ≡ number_of f m → n ≡ m
  pub as_long : length f.places ≡ length g.addrs

-- there are no two entries, and the node at a is the least head whose loop has too many exits
pub record IsMany (g : GraphOf) (a : ℕ) : Type 0 where
  pub one_entry : TwoEntries (GoesTo g) (entry_at g) → ⊥
  pub head : ℕ
  pub many : HasManyExits (HasEdge g) g.entry head
  pub at : slice_index g.addrs head ≡ a

-- a fault of the graph: a cycle with two entries and a walk to each, or a loop with too many exits
abbrev pub IsForestFault : GraphOf → Fault → Type 0
IsForestFault g (Irreducible cycle first second) = ShowsTwoEntries (GoesTo g) (entry_at g) cycle first second
IsForestFault g (ManyExits a) = IsMany g a
IsForestFault g _ = ⊥

-- why there is no forest: a fault of the graph, or no memory
abbrev pub IsNoForest : GraphOf → FlowFault → Type 0
IsNoForest g (Outside why) = IsForestFault g why
IsNoForest g NoMemory = Unit {0}
