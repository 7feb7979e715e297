-- A file and names have one answer of `decompile`, of `link` and of `split` at most, but for how two entries are shown.
use Rattle.std.proofs.Common.{Bool, ◌≡◌, ℕ, zero, suc, ◌+◌, ◌<◌, ◌≤◌, nat_eq, ne_eqb, List, [], ◌∷◌, length, length-append, get_or, Some, Result, Ok, Err, false, eqb, refl, sym, ap, subst, ◌∙◌, ◌⊎◌, inl, inr, arith}
use Rattle.std.specs.Prelude.{slice_get, unwrap_or}
use Rattle.std.specs.List.{AllZip, Contains, flat_map, range_with_len}
use Rattle.std.proofs.lemmas.Cmp.{nat_eq_equiv}
use Rattle.std.proofs.lemmas.List.FromFn.{get_or-range_with_len, length-range_with_len}
use Rattle.std.proofs.lemmas.Map.Keys.{IsDistinct-from_apart}
use Rattle.std.proofs.lemmas.Map.Made.{length-le_from_is_member}
use Rattle.std.proofs.lemmas.Map.Views.{Contains-from_any, exact_unsigned_eq, list_any-from_Contains}
use Rattle.std.proofs.lemmas.Option.{slice_get-get_or}
use Rattle.rv_words.specs.Bytes.{Bytes}
use Rattle.elf_image.specs.Image.{code_of_file}
use Rattle.elf_image.specs.declared.symbol.NameFault.{NameFault}
use Rattle.elf_image.specs.declared.symbol.NameFault.TheVariants as name_fault
use Rattle.mc_text.proofs.OneSpelling.{hex-once}
use Rattle.tailrec_lang.specs.Tree.{DefTree, group_tree, listed_def}
use Rattle.claims.specs.Headline.{entry_at}
use Rattle.flow_graph.specs.declared.outside.Outside.{Outside}
use Rattle.flow_graph.specs.declared.outside.Outside.TheVariants as outside
use Rattle.flow_graph.specs.Graph.{GraphOf, IsGraphOf}
use Rattle.flow_graph.specs.Flow.{Next}
use Rattle.flow_graph.specs.Reach.{IsFault}
use Rattle.flow_graph.proofs.ExactLemmas.{graph_or_fault, one_fault}
use Rattle.flow_graph.proofs.GraphLaws.{one_graph}
use Rattle.loop_forest.specs.Cycles.{TwoEntries}
use Rattle.loop_forest.specs.Forest.{IsMany}
use Rattle.loop_forest.proofs.CodeEntries.{two_entries_back}
use Rattle.loop_forest.proofs.OneForest.{one_head}
use Rattle.path_walk.specs.declared.item.Item.{Item}
use Rattle.code_parts.proofs.Lists.{here, later}
use Rattle.decompiler.specs.Names.{StandsFor}
use Rattle.decompiler.specs.Faults.{IsCauseAlone, IsFirst, IsOutside, Missing, Doubled, InFunction, InCode, InCycle, InLoop}
use Rattle.decompiler.specs.Listing.{HasDefs, HaveDefs, IsDefOf, IsItemBy}
use Rattle.code_parts.specs.Causes.{HasOneForm}
use Rattle.code_parts.specs.declared.call_fault.LinkWhy.{LinkWhy}
use Rattle.code_parts.specs.declared.call_fault.LinkWhy.TheVariants as link
use Rattle.code_parts.proofs.OneCause.{one_cause}
use Rattle.mcdec_answers.specs.declared.answer.DecompileAnswer.TheVariants as de
use Rattle.mcdec_answers.specs.declared.command.Form.{Form}
use Rattle.mcdec_answers.specs.declared.command.Form.TheVariants.{Alone, Linked, Split}
use Rattle.code_parts.specs.Members.{Member}
use Rattle.mcdec_commands.specs.DecompileAnswer.{IsRefusedIn, all_listed, item_form, listed_of, without_walks}
use Rattle.mcdec_commands.proofs.Weighing.{AreGiven, AreWeighed, one-total, sizes-once, total}

-- ---- what a name stands for

abbrev ok_value : ℕ → Result ℕ NameFault
ok_value a = Ok a

abbrev err_value : NameFault → Result ℕ NameFault
err_value f = Err f

pub stands-once : (file start : List ℕ) (v w : Result ℕ NameFault) → StandsFor file start v → StandsFor file start w → v ≡ w
stands-once file start v w (inl h) (inl k) = h.2 ∙ ap ok_value (hex-once h.0 k.0 h.1.0 k.1.0 (sym h.1.1 ∙ k.1.1)) ∙ sym k.2
stands-once file start v w (inl h) (inr k) = absurd (k.0 h.0 h.1)
stands-once file start v w (inr h) (inl k) = absurd (h.0 k.0 k.1)
stands-once file start v w (inr h) (inr k) = h.1 ∙ sym k.1

pub ok_is : (a b : ℕ) → ok_value a ≡ ok_value b → a ≡ b
ok_is a b e = cc

pub err_is : (f g : NameFault) → err_value f ≡ err_value g → f ≡ g
err_is f g e = cc

pub ok_err : (a : ℕ) (f : NameFault) → ok_value a ≡ err_value f → ⊥
ok_err a f e = cc

same-value : (file name : List ℕ) (e d : ℕ) → StandsFor file name (Ok e) → StandsFor file name (Ok d) → e ≡ d
same-value file name e d h k = ok_is e d (stands-once file name (Ok e) (Ok d) h k)

-- ---- lists with the same items, none twice

range-has : (n q : ℕ) → q < n → Contains (range_with_len 0 n) q
range-has n q lt =
    let long = length-range_with_len 0 n in
    let none : 0 + q ≡ q = omega arith in
    (q, omega (arith, lt, long), get_or-range_with_len 0 n q q lt ∙ none)

below-few : (xs : List ℕ) (n : ℕ) → ((i j d : ℕ) → i < j → j < length xs → eqb (get_or xs i d) (get_or xs j d) ≡ false) → ((q : ℕ) → Contains xs q → q < n) → length xs ≤ n
below-few xs n apart low =
    let le = length-le_from_is_member nat_eq_equiv xs (range_with_len 0 n) (IsDistinct-from_apart nat_eq xs apart)
    (λ q h. list_any-from_Contains nat_eq_equiv q (range_with_len 0 n) (range-has n q (low q (Contains-from_any exact_unsigned_eq q xs h)))) in
    let long = length-range_with_len 0 n in
    omega (arith, le, long)

module _ {A : Type 0} (ys : List A) where
  places : (xs : List A) → ((x : A) → Contains xs x → Contains ys x) → List ℕ
  places [] f = []
  places (x ∷ xs) f = (f x (here x xs)).0 ∷ places xs (λ y c. f y (later x xs y c))

  places-long : (xs : List A) (f : (x : A) → Contains xs x → Contains ys x) → length (places xs f) ≡ length xs
  unfolding places
  places-long [] f = refl
  places-long (x ∷ xs) f = ap suc (places-long xs (λ y c. f y (later x xs y c)))

  -- the item at each of the places
  places-at : (xs : List A) (f : (x : A) → Contains xs x → Contains ys x) (i d : ℕ) → i < length xs
      → (x : A) × (slice_get xs i ≡ Some x) × (slice_get ys (get_or (places xs f) i d) ≡ Some x)
  unfolding places
  places-at [] f i d lt = absurd (omega arith)
  places-at (x ∷ xs) f zero d lt = let c = f x (here x xs) in (x, refl, slice_get-get_or ys c.0 x c.1 ∙ ap Some c.2)
  places-at (x ∷ xs) f (suc i) d lt = places-at xs (λ y c. f y (later x xs y c)) i d (omega (arith, lt))

  places-below : (xs : List A) (f : (x : A) → Contains xs x → Contains ys x) (q : ℕ) → Contains (places xs f) q → q < length ys
  unfolding places
  places-below [] f q c = absurd (omega (arith, c.1))
  places-below (x ∷ xs) f q (zero, lt, at) = let c = f x (here x xs) in let same : c.0 ≡ q = at in subst (λ n. n < length ys) same c.1
  places-below (x ∷ xs) f q (suc k, lt, at) = places-below xs (λ y c. f y (later x xs y c)) q (k, omega (arith, lt), at)

  -- a list of different items that are all in ys is no longer
  few : (xs : List A) → ((j k : ℕ) (x : A) → slice_get xs j ≡ Some x → slice_get xs k ≡ Some x → j ≡ k) → ((x : A) → Contains xs x → Contains ys x) → length xs ≤ length ys
  few xs once f =
      let long = places-long xs f in
      let le = below-few (places xs f) (length ys) (λ i j d lt in_j. ne_eqb _ _ (λ e. apart i j d lt (omega (arith, in_j, long)) e)) (places-below xs f) in
      omega (arith, le, long)
    where
      apart : (i j d : ℕ) → i < j → j < length xs → get_or (places xs f) i d ≡ get_or (places xs f) j d → ⊥
      apart i j d lt in_j e =
          let p = places-at xs f i d (omega (arith, lt, in_j)) in
          let q = places-at xs f j d in_j in
          let same : Some p.0 ≡ Some q.0 = sym p.2 ∙ ap (λ n. slice_get ys n) e ∙ q.2 in
          let is : p.0 ≡ q.0 = cc in
          let index : i ≡ j = once i j q.0 (p.1 ∙ ap Some is) q.1 in
          omega (arith, lt, index)

pub zip-long : {A B : Type 0} (R : A → B → Type 0) (xs : List A) (ys : List B) → AllZip R xs ys → length xs ≡ length ys
zip-long R [] [] h = refl
zip-long R [] (y ∷ ys) h = absurd h
zip-long R (x ∷ xs) [] h = absurd h
zip-long R (x ∷ xs) (y ∷ ys) h = ap suc (zip-long R xs ys h.1)

-- a graph's parts are as many however they are listed
defs-long : (g : GraphOf) (ds es : List DefTree) → HasDefs g ds → HasDefs g es → length ds ≡ length es
defs-long g ds es h k =
    let one = few k.parts h.parts h.once (λ p c. (k.all p).1 ((h.all p).0 c)) in
    let two = few h.parts k.parts k.once (λ p c. (h.all p).1 ((k.all p).0 c)) in
    let left = zip-long (IsDefOf g) h.parts ds h.each in
    let right = zip-long (IsDefOf g) k.parts es k.each in
    omega (arith, one, two, left, right)

-- ---- faults

abbrev of_name : NameFault → Outside
of_name name_fault.NoSuch = outside.NoSuch
of_name (name_fault.Ambiguous a b) = outside.Ambiguous a b

abbrev ManyCase : Bytes → ℕ → Outside → Type 0
ManyCase code e why = (g : GraphOf) × IsGraphOf false code e g × (a : ℕ) × IsMany g a × (why ≡ outside.ManyExits a)

abbrev CycleCase : Bytes → ℕ → Outside → Type 0
CycleCase code e why = (g : GraphOf) × IsGraphOf false code e g × TwoEntries (Next false code) e × (HasOneForm (link.Outside why) → ⊥)

abbrev CodeCase : Bytes → ℕ → Outside → Type 0
CodeCase code e why = IsFault false code e why ⊎ (ManyCase code e why ⊎ CycleCase code e why)

code-case : (code : Bytes) (e : ℕ) (why : Outside) → IsOutside code e why → CodeCase code e why
code-case code e why (InCode f) = inl f
code-case code e _ (InCycle {cycle = c} {first = p} {second = q} g is shows) = inr (inr (g, is, record { cycle = c; first = p; second = q; shows = shows }, λ u. u))
code-case code e _ (InLoop {a = a} g is many) = inr (inl (g, is, a, many, refl))

code-once : (code : Bytes) (e : ℕ) (why other : Outside) → HasOneForm (link.Outside other) → CodeCase code e why → CodeCase code e other → why ≡ other
code-once code e why other u h (inr (inr k)) = absurd (k.3 u)
code-once code e why other u (inl h) (inl k) = one_fault false code e why other h k
code-once code e why other u (inl h) (inr (inl k)) = absurd (graph_or_fault false code e k.0 why k.1 h)
code-once code e why other u (inr (inl h)) (inl k) = absurd (graph_or_fault false code e h.0 other h.1 k)
code-once code e why other u (inr (inr h)) (inl k) = absurd (graph_or_fault false code e h.0 other h.1 k)
code-once code e why other u (inr (inl h)) (inr (inl k)) =
    let gs : h.0 ≡ k.0 = one_graph false code e h.0 k.0 h.1 k.1 in
    h.4 ∙ ap outside.ManyExits (one_head k.0 h.2 k.2 (subst (λ (x : GraphOf). IsMany x h.2) gs h.3) k.3) ∙ sym k.4
code-once code e why other u (inr (inr h)) (inr (inl k)) = absurd (k.3.one_entry (two_entries_back false code e k.0 k.1 h.2))

alone-once : (code : Bytes) (e : ℕ) (why other : LinkWhy) → HasOneForm other → IsCauseAlone code e why → IsCauseAlone code e other → why ≡ other
alone-once code e (link.Outside why) (link.Outside other) u h k = ap link.Outside (code-once code e why other u (code-case code e why h) (code-case code e other k))
alone-once code e (link.Outside why) (link.Recursive b) u h k = absurd k
alone-once code e (link.Recursive a) other u h k = absurd h

-- ---- functions by themselves, with those that they call, or with a memory for the stack

cause-once : (form : Form) (code : Bytes) (e : ℕ) (why other : LinkWhy) → HasOneForm other → (item_form form).Causes code e why → (item_form form).Causes code e other → why ≡ other
cause-once Alone code e why other u h k = alone-once code e why other u h k
cause-once Linked code e why other u h k = one_cause code e why other u h k
cause-once Split code e why other u h k = alone-once code e why other u h k

-- a fault of the name itself, or of the code at its address
abbrev FirstCase : Form → List ℕ → List ℕ → LinkWhy → Type 0
FirstCase form file name why =
    ((f : NameFault) × StandsFor file name (Err f) × (why ≡ link.Outside (of_name f))) ⊎ ((e : ℕ) × StandsFor file name (Ok e) × (item_form form).Causes (code_of_file file) e why)

first-case : (form : Form) (file name : List ℕ) (why : LinkWhy) → IsFirst (item_form form).Causes file name why → FirstCase form file name why
first-case form file name _ (Missing h) = inl (name_fault.NoSuch, h, refl)
first-case form file name _ (Doubled {a = a} {b = b} h) = inl (name_fault.Ambiguous a b, h, refl)
first-case form file name why (InFunction {e = e} h cause) = inr (e, h, cause)

cases-once : (form : Form) (file name : List ℕ) (why other : LinkWhy) → HasOneForm other → FirstCase form file name why → FirstCase form file name other → why ≡ other
cases-once form file name why other u (inl h) (inl k) = h.2 ∙ ap (λ f. link.Outside (of_name f)) (err_is h.0 k.0 (stands-once file name (Err h.0) (Err k.0) h.1 k.1)) ∙ sym k.2
cases-once form file name why other u (inl h) (inr k) = absurd (ok_err k.0 h.0 (stands-once file name (Ok k.0) (Err h.0) k.1 h.1))
cases-once form file name why other u (inr h) (inl k) = absurd (ok_err h.0 k.0 (stands-once file name (Ok h.0) (Err k.0) h.1 k.1))
cases-once form file name why other u (inr h) (inr k) =
    let e : h.0 ≡ k.0 = same-value file name h.0 k.0 h.1 k.1 in
    cause-once form (code_of_file file) k.0 why other u (subst (λ a. (item_form form).Causes (code_of_file file) a why) e h.2) k.2

-- a fault that is shown in one way is the only one
fault-once : (form : Form) (file name : List ℕ) (why other : LinkWhy) → HasOneForm other → IsFirst (item_form form).Causes file name why → IsFirst (item_form form).Causes file name other → why ≡ other
fault-once form file name why other u h k = cases-once form file name why other u (first-case form file name why h) (first-case form file name other k)

-- two refusals that differ at most in the walks that show two entries
abbrev pub Alike : List ℕ → LinkWhy → LinkWhy → Type 0
Alike name why other = without_walks (de.Refused name why) ≡ without_walks (de.Refused name other)

-- a fault has one form, or is a cycle with two entries
forms : (name : List ℕ) (why : LinkWhy) → HasOneForm why ⊎ (without_walks (de.Refused name why) ≡ de.Refused name (link.Outside (outside.TwoEntries [] [] [])))
forms name (link.Outside outside.NoSuch) = inl tt
forms name (link.Outside (outside.Ambiguous a b)) = inl tt
forms name (link.Outside outside.TooLarge) = inl tt
forms name (link.Outside (outside.OutsideCode a)) = inl tt
forms name (link.Outside (outside.NotDecoded a w)) = inl tt
forms name (link.Outside (outside.Environment a)) = inl tt
forms name (link.Outside (outside.Call a)) = inl tt
forms name (link.Outside (outside.JumpThrough a)) = inl tt
forms name (link.Outside (outside.Misaligned a target)) = inl tt
forms name (link.Outside (outside.TwoEntries cycle first second)) = inr refl
forms name (link.Outside (outside.ManyExits a)) = inl tt
forms name (link.Recursive a) = inl tt

faults-alike : (form : Form) (file name told : List ℕ) (why other : LinkWhy) → IsFirst (item_form form).Causes file name why → IsFirst (item_form form).Causes file name other → Alike told why other
faults-alike form file name told why other h k = of-forms (forms told why) (forms told other)
  where
    of-forms : HasOneForm why ⊎ (without_walks (de.Refused told why) ≡ de.Refused told (link.Outside (outside.TwoEntries [] [] [])))
        → HasOneForm other ⊎ (without_walks (de.Refused told other) ≡ de.Refused told (link.Outside (outside.TwoEntries [] [] []))) → Alike told why other
    of-forms e (inl u) = ap (λ (w : LinkWhy). without_walks (de.Refused told w)) (fault-once form file name why other u h k)
    of-forms (inl u) (inr e) = sym (ap (λ (w : LinkWhy). without_walks (de.Refused told w)) (fault-once form file name other why u k h))
    of-forms (inr e) (inr d) = e ∙ sym d

item-inside : (form : Form) (file name : List ℕ) (i : Item) → IsItemBy (item_form form) file name i → (why : LinkWhy) → IsFirst (item_form form).Causes file name why → ⊥
item-inside form file name i h why f = h.inside why f

-- definitions of functions, as many as each has behind its entry
abbrev counted : List Member → List (List DefTree) → List (ℕ × ℕ)
counted (f ∷ fs) (r ∷ rs) = (f.at, length r) ∷ counted fs rs
counted _ _ = []

abbrev IsDefCount : GraphOf → ℕ → Type 0
IsDefCount g n = (row : List DefTree) × HasDefs g row × (n ≡ length row)

one-count : (g : GraphOf) (n m : ℕ) → IsDefCount g n → IsDefCount g m → n ≡ m
one-count g n m a b = a.2 ∙ defs-long g a.0 b.0 a.1 b.1 ∙ sym b.2

are-counted : (linked : Bool) (Calls : ℕ → ℕ → Type 0) (code : Bytes) (e : ℕ) (fs : List Member) (rows : List (List DefTree)) → AllZip (λ f row. HasDefs f.graph row) fs rows
    → AreWeighed linked Calls code e IsDefCount one-count fs (counted fs rows)
are-counted linked Calls code e [] [] h = tt
are-counted linked Calls code e [] (r ∷ rows) h = absurd h
are-counted linked Calls code e (f ∷ fs) [] h = absurd h
are-counted linked Calls code e (f ∷ fs) (r ∷ rows) h = ((refl, (r, h.0, refl)), are-counted linked Calls code e fs rows h.1)

count-all : (fs : List Member) (rows : List (List DefTree)) → AllZip (λ f row. HasDefs f.graph row) fs rows → length (flat_map (λ (row : List DefTree). row) rows) ≡ total (counted fs rows)
count-all [] [] h = refl
count-all [] (r ∷ rows) h = absurd h
count-all (f ∷ fs) [] h = absurd h
count-all (f ∷ fs) (r ∷ rows) h = length-append r (flat_map (λ (row : List DefTree). row) rows) ∙ ap (λ n. length r + n) (count-all fs rows h.1)

all-defs-long : (linked : Bool) (Calls : ℕ → ℕ → Type 0) (code : Bytes) (e : ℕ) (fs gs : List Member) (ds es : List DefTree) → AreGiven linked Calls code e fs → AreGiven linked Calls code e gs
    → HaveDefs fs ds → HaveDefs gs es → length ds ≡ length es
all-defs-long linked Calls code e fs gs ds es are too h k =
    ap length h.all ∙ count-all fs h.rows h.each
    ∙ one-total linked Calls code e IsDefCount one-count fs gs (counted fs h.rows) (counted gs k.rows) are too (are-counted linked Calls code e fs h.rows h.each) (are-counted linked Calls code e gs k.rows k.each)
    ∙ sym (count-all gs k.rows k.each) ∙ sym (ap length k.all)

-- what is told of an item is told once
pub told-once : (form : Form) (file name : List ℕ) (i j : Item) → IsItemBy (item_form form) file name i → IsItemBy (item_form form) file name j → listed_of name i ≡ listed_of name j
told-once form file name i j h k =
    let code = code_of_file file in
    let linked = (item_form form).linked in
    let calls = (item_form form).Calls code in
    let e : h.entry ≡ k.entry = same-value file name h.entry k.entry h.stands k.stands in
    let own : AreGiven linked calls code h.entry h.functions = record { functions = h.are.functions; graphs = λ m c. (h.made.each m c).graph } in
    let are : AreGiven linked calls code k.entry h.functions = subst (λ a. AreGiven linked calls code a h.functions) e own in
    let too : AreGiven linked calls code k.entry k.functions = record { functions = k.are.functions; graphs = λ m c. (k.made.each m c).graph } in
    let entry : entry_at (group_tree i.group) (listed_def (group_tree i.group)) ≡ entry_at (group_tree j.group) (listed_def (group_tree j.group)) = h.lists.entry ∙ ap Some e ∙ sym k.lists.entry in
    let reached : i.reached ≡ j.reached = h.reached ∙ sizes-once linked calls code k.entry h.functions k.functions are too ∙ sym k.reached in
    let defs : length (group_tree i.group).defs ≡ length (group_tree j.group).defs =
    all-defs-long linked calls code k.entry h.functions k.functions (group_tree i.group).defs (group_tree j.group).defs are too h.lists.defs k.lists.defs in
    λ t. record { name = name; entry = unwrap_or (entry t) 0; reached = reached t; defs = defs t }

-- what is told of items is told once
pub all-told-once : (form : Form) (file : List ℕ) (names : List (List ℕ)) (is js : List Item)
    → AllZip (IsItemBy (item_form form) file) names is → AllZip (IsItemBy (item_form form) file) names js → all_listed names is ≡ all_listed names js
all-told-once form file [] [] [] h k = refl
all-told-once form file [] [] (j ∷ js) h k = absurd k
all-told-once form file [] (i ∷ is) js h k = absurd h
all-told-once form file (n ∷ names) [] js h k = absurd h
all-told-once form file (n ∷ names) (i ∷ is) [] h k = absurd k
all-told-once form file (n ∷ names) (i ∷ is) (j ∷ js) h k =
    let first = told-once form file n i j h.0 k.0 in
    let rest = all-told-once form file names is js h.1 k.1 in
    λ t. first t ∷ rest t

-- ---- refusals

-- an item for the name of that number
pub item-there : (form : Form) (file : List ℕ) (names : List (List ℕ)) (is : List Item) → AllZip (IsItemBy (item_form form) file) names is → (n : ℕ) (name : List ℕ) → slice_get names n ≡ Some name → (i : Item) × IsItemBy (item_form form) file name i
item-there form file [] is h n name at = absurd (cc)
item-there form file (x ∷ names) [] h n name at = absurd h
item-there form file (x ∷ names) (i ∷ is) h zero name at = let same : x ≡ name = cc in (i, subst (λ y. IsItemBy (item_form form) file y i) same h.0)
item-there form file (x ∷ names) (i ∷ is) h (suc n) name at = item-there form file names is h.1 n name at

module _ (form : Form) (file : List ℕ) (names : List (List ℕ)) where
  -- names that all have items aren't refused
  pub none-refused : (is : List Item) → AllZip (IsItemBy (item_form form) file) names is → (n : ℕ) (why : LinkWhy) → IsRefusedIn form file names n why → ⊥
  none-refused is h n why r = let i = item-there form file names is h n r.name r.at in item-inside form file r.name i.0 i.1 why r.first

  not-before : (n m : ℕ) (why other : LinkWhy) → IsRefusedIn form file names n why → IsRefusedIn form file names m other → n < m → ⊥
  not-before n m why other r s lt = let i = s.before n r.name lt r.at in item-inside form file r.name i.0 i.1 why r.first

  pub refused-once : (n m : ℕ) (why other : LinkWhy) → (r : IsRefusedIn form file names n why) → (s : IsRefusedIn form file names m other) → (n ≡ m) × ((name : List ℕ) → Alike name why other)
  refused-once n m why other r s =
      let number : n ≡ m = omega (arith, not-before n m why other r s, not-before m n other why s r) in
      let some : Some r.name ≡ Some s.name = sym r.at ∙ ap (λ k. slice_get names k) number ∙ s.at in
      let name : r.name ≡ s.name = cc in
      (number, λ n. faults-alike form file s.name n why other (subst (λ x. IsFirst (item_form form).Causes file x why) name r.first) s.first)
