-- Images of whole triples: in an arena that grows, and what they are of trees.
use Rattle.std.proofs.Common.{◌≡◌, ℕ, ◌+◌, ◌<◌, List, Option, Some, None, [], ◌∷◌, length, get_or, map, take, refl, sym, ap, ◌∙◌, ◌++◌, subst, arith}
use Rattle.std.specs.Prelude.{◌↔◌, All}
use Rattle.std.specs.List.{AllZip}
use Rattle.std.proofs.lemmas.List.{take_more}
use Rattle.std.proofs.lemmas.List.Elements.{All-head, All-tail, AllZip-get_or, AllZip-push, length_all_zip}
use Rattle.word_terms.specs.Substitution.{Substitution, put_in_word, put_in_mem, put_in_cond}
use Rattle.triple_kernel.specs.Tree.{WordIs, MemIs, So, Gives, TripleTree}
use Rattle.triple_kernel.specs.Rules.{IsInst, put_in_values, put_in_fact, put_in_register, put_in_assertion}
use Rattle.term_arena.specs.declared.node.Node.{Node}
use Rattle.term_arena.specs.Arena.{as_word, as_mem, as_cond, word_of, mem_of, cond_of, IsWordAt, IsMemAt, IsCondAt, Extends}
use Rattle.term_arena.proofs.TreeLemmas.{number_within, word_there, mem_there, cond_there}
use Rattle.held_terms.specs.declared.held.HeldValues.{HeldValues}
use Rattle.held_terms.specs.declared.held.HeldFact.{HeldFact}
use Rattle.held_terms.specs.declared.held.HeldFact.TheVariants as held
use Rattle.held_terms.specs.declared.held.HeldSide.{HeldSide}
use Rattle.held_terms.specs.declared.held.Held.{Held}
use Rattle.held_terms.specs.Held.{values_over, fact_of, register_of, side_of, triple_of, AreWordsAt, AreMemsAt, AreRegistersAt, AreValuesAt, IsFactAt, AreFactsAt, IsSideAt, IsHeldAt}
use Rattle.held_terms.proofs.GrowthLemmas.{same_triple, held_still}
use Rattle.held_instances.specs.Image.{IsImage, IsReady, Known, IsSubAt, image_at, put_for_numbers}
use Rattle.held_instances.specs.inner.Instances.{AreWithin, AreImagesOf, IsRegisterImage, IsValuesImage, IsFactImage, IsSideImage}
use Rattle.held_instances.proofs.ImageLemmas.{image_stays, word_image, mem_image, cond_image, same_sub}

-- ---- numbers of an arena

pub words_within : (ns : List Node) (ks : List ℕ) → AreWordsAt ns ks → AreWithin ns ks
words_within ns ks h = λ i d low. number_within ns _ _ (h i d low)

pub mems_within : (ns : List Node) (ks : List ℕ) → AreMemsAt ns ks → AreWithin ns ks
mems_within ns ks h = λ i d low. number_within ns _ _ (h i d low)

-- ---- a larger arena

-- images stay images
module _ (ns ms : List Node) (words mems : List (ℕ × ℕ)) (known : Known) (r : IsReady ns words mems known) (e : Extends ns ms) where
  abbrev s : Substitution
  s = put_for_numbers ns words mems

  abbrev t : Substitution
  t = put_for_numbers ms words mems

  one_stays : (x y : ℕ) → IsImage ns s x y → IsImage ms t x y
  one_stays x y i = image_stays ns ms words mems known x y r e i

  zip_stays : {A B : Type 0} (R S : A → B → Type 0) → ((x : A) (y : B) → R x y → S x y) → (xs : List A) (ys : List B) → AllZip R xs ys → AllZip S xs ys
  zip_stays R S f [] [] h = tt
  zip_stays R S f [] (y ∷ ys) h = absurd h
  zip_stays R S f (x ∷ xs) [] h = absurd h
  zip_stays R S f (x ∷ xs) (y ∷ ys) h = (f x y h.0, zip_stays R S f xs ys h.1)

  pub images_stay : (xs ys : List ℕ) → AreImagesOf ns s xs ys → AreImagesOf ms t xs ys
  images_stay xs ys h = zip_stays (IsImage ns s) (IsImage ms t) one_stays xs ys h

  pub registers_stay : (rs qs : List (ℕ × ℕ)) → AllZip (IsRegisterImage ns s) rs qs → AllZip (IsRegisterImage ms t) rs qs
  registers_stay rs qs h = zip_stays (IsRegisterImage ns s) (IsRegisterImage ms t) (λ x y i. (i.0, one_stays x.1 y.1 i.1)) rs qs h

  pub values_stay : (v w : HeldValues) → IsValuesImage ns s v w → IsValuesImage ms t v w
  values_stay v w h = record { words = images_stay v.words w.words h.words; mems = images_stay v.mems w.mems h.mems }

  pub fact_stays : (f g : HeldFact) → IsFactImage ns s f g → IsFactImage ms t f g
  fact_stays (held.WordIs a b) (held.WordIs x y) h = (one_stays a x h.0, one_stays b y h.1)
  fact_stays (held.MemIs a b) (held.MemIs x y) h = (one_stays a x h.0, one_stays b y h.1)
  fact_stays (held.So c) (held.So x) h = one_stays c x h
  fact_stays (held.Gives def exit args results) (held.Gives d o x y) h = (h.0, h.1, values_stay args x h.2, values_stay results y h.3)
  fact_stays f g h = absurd h

  pub facts_stay : (fs gs : List HeldFact) → AllZip (IsFactImage ns s) fs gs → AllZip (IsFactImage ms t) fs gs
  facts_stay fs gs h = zip_stays (IsFactImage ns s) (IsFactImage ms t) fact_stays fs gs h

  pub side_stays : (a b : HeldSide) → IsSideImage ns s a b → IsSideImage ms t a b
  side_stays a b h = record { pc = one_stays a.pc b.pc h.pc; regs = registers_stay a.regs b.regs h.regs; mems = images_stay a.mems b.mems h.mems }

-- ---- what images are of trees

module _ (ns : List Node) (s : Substitution) where
  words_there : (xs ys : List ℕ) → AreWordsAt ns xs → AreImagesOf ns s xs ys → AreWordsAt ns ys
  words_there xs ys w z = λ i d low.
      let here : i < length xs = let same = length_all_zip (IsImage ns s) xs ys z in omega (arith, low, same) in
      word_there ns _ _ (word_image ns s (get_or xs i d) (get_or ys i d) (w i d here) (AllZip-get_or (IsImage ns s) xs ys i d d z here))

  mems_there : (xs ys : List ℕ) → AreMemsAt ns xs → AreImagesOf ns s xs ys → AreMemsAt ns ys
  mems_there xs ys w z = λ i d low.
      let here : i < length xs = let same = length_all_zip (IsImage ns s) xs ys z in omega (arith, low, same) in
      mem_there ns _ _ (mem_image ns s (get_or xs i d) (get_or ys i d) (w i d here) (AllZip-get_or (IsImage ns s) xs ys i d d z here))

  registers_there : (rs qs : List (ℕ × ℕ)) → AreRegistersAt ns rs → AllZip (IsRegisterImage ns s) rs qs → AreRegistersAt ns qs
  registers_there rs qs w z = λ i d low.
      let here : i < length rs = let same = length_all_zip (IsRegisterImage ns s) rs qs z in omega (arith, low, same) in
      word_there ns _ _ (word_image ns s (get_or rs i d).1 (get_or qs i d).1 (w i d here) (AllZip-get_or (IsRegisterImage ns s) rs qs i d d z here).1)

  values_there : (v w : HeldValues) → AreValuesAt ns v → IsValuesImage ns s v w → AreValuesAt ns w
  values_there v w h i = record { words = words_there v.words w.words h.words i.words; mems = mems_there v.mems w.mems h.mems i.mems }

  fact_there : (f g : HeldFact) → IsFactAt ns f → IsFactImage ns s f g → IsFactAt ns g
  fact_there (held.WordIs a b) (held.WordIs x y) h i = (word_there ns x _ (word_image ns s a x h.0 i.0), word_there ns y _ (word_image ns s b y h.1 i.1))
  fact_there (held.MemIs a b) (held.MemIs x y) h i = (mem_there ns x _ (mem_image ns s a x h.0 i.0), mem_there ns y _ (mem_image ns s b y h.1 i.1))
  fact_there (held.So c) (held.So x) h i = cond_there ns x _ (cond_image ns s c x h i)
  fact_there (held.Gives def exit args results) (held.Gives d o x y) h i = (values_there args x h.0 i.2, values_there results y h.1 i.3)
  fact_there f g h i = absurd i

  facts_there : (fs gs : List HeldFact) → AreFactsAt ns fs → AllZip (IsFactImage ns s) fs gs → AreFactsAt ns gs
  facts_there fs gs w z = λ i d low.
      let here : i < length fs = let same = length_all_zip (IsFactImage ns s) fs gs z in omega (arith, low, same) in
      fact_there (get_or fs i d) (get_or gs i d) (w i d here) (AllZip-get_or (IsFactImage ns s) fs gs i d d z here)

  side_there : (a b : HeldSide) → IsSideAt ns a → IsSideImage ns s a b → IsSideAt ns b
  side_there a b h i = record {
    pc = word_there ns b.pc _ (word_image ns s a.pc b.pc h.pc i.pc);
    regs = registers_there a.regs b.regs h.regs i.regs;
    mems = mems_there a.mems b.mems h.mems i.mems;
  }

  -- item by item
  put_map : {A B : Type 0} (f : A → B) (put : B → B) (P : A → Type 0) (R : A → A → Type 0) → ((x y : A) → P x → R x y → put (f x) ≡ f y)
      → (xs ys : List A) → All P xs → AllZip R xs ys → map put (map f xs) ≡ map f ys
  put_map f put P R one [] [] w z = refl
  put_map f put P R one [] (y ∷ ys) w z = absurd z
  put_map f put P R one (x ∷ xs) [] w z = absurd z
  put_map f put P R one (x ∷ xs) (y ∷ ys) w z = λ i. one x y (All-head P x xs w) z.0 i ∷ put_map f put P R one xs ys (All-tail P x xs w) z.1 i

  word_put : (x y : ℕ) → IsWordAt ns x → IsImage ns s x y → put_in_word s (word_of ns x) ≡ word_of ns y
  word_put x y h i = sym (ap as_word (word_image ns s x y h i))

  mem_put : (x y : ℕ) → IsMemAt ns x → IsImage ns s x y → put_in_mem s (mem_of ns x) ≡ mem_of ns y
  mem_put x y h i = sym (ap as_mem (mem_image ns s x y h i))

  cond_put : (x y : ℕ) → IsCondAt ns x → IsImage ns s x y → put_in_cond s (cond_of ns x) ≡ cond_of ns y
  cond_put x y h i = sym (ap as_cond (cond_image ns s x y h i))

  words_put : (xs ys : List ℕ) → AreWordsAt ns xs → AreImagesOf ns s xs ys → map (put_in_word s) (map (word_of ns) xs) ≡ map (word_of ns) ys
  words_put xs ys w z = put_map (word_of ns) (put_in_word s) (IsWordAt ns) (IsImage ns s) word_put xs ys w z

  mems_put : (xs ys : List ℕ) → AreMemsAt ns xs → AreImagesOf ns s xs ys → map (put_in_mem s) (map (mem_of ns) xs) ≡ map (mem_of ns) ys
  mems_put xs ys w z = put_map (mem_of ns) (put_in_mem s) (IsMemAt ns) (IsImage ns s) mem_put xs ys w z

  values_put : (v w : HeldValues) → AreValuesAt ns v → IsValuesImage ns s v w → put_in_values s (values_over ns v) ≡ values_over ns w
  values_put v w h i =
      let words = words_put v.words w.words h.words i.words in
      let mems = mems_put v.mems w.mems h.mems i.mems in
      λ j. record { words = words j; mems = mems j }

  fact_put : (f g : HeldFact) → IsFactAt ns f → IsFactImage ns s f g → put_in_fact s (fact_of ns f) ≡ fact_of ns g
  fact_put (held.WordIs a b) (held.WordIs x y) h i = λ j. WordIs (word_put a x h.0 i.0 j) (word_put b y h.1 i.1 j)
  fact_put (held.MemIs a b) (held.MemIs x y) h i = λ j. MemIs (mem_put a x h.0 i.0 j) (mem_put b y h.1 i.1 j)
  fact_put (held.So c) (held.So x) h i = λ j. So (cond_put c x h i j)
  fact_put (held.Gives def exit args results) (held.Gives d o x y) h i = λ j. Gives (i.0 j) (i.1 j) (values_put args x h.0 i.2 j) (values_put results y h.1 i.3 j)
  fact_put f g h i = absurd i

  side_put : (a b : HeldSide) → IsSideAt ns a → IsSideImage ns s a b → put_in_assertion s (side_of ns a) ≡ side_of ns b
  side_put a b h i =
      let pc = word_put a.pc b.pc h.pc i.pc in
      let regs = put_map (register_of ns) (put_in_register s) (λ r. IsWordAt ns r.1) (IsRegisterImage ns s)
      (λ r q w z j. (z.0 j, word_put r.1 q.1 w z.1 j)) a.regs b.regs h.regs i.regs in
      let mems = mems_put a.mems b.mems h.mems i.mems in
      λ j. record { pc = pc j; regs = regs j; mems = mems j }

  -- all parts of a triple have their images
  pub record AreParts (p q : Held) : Type 0 where
    pub facts : AllZip (IsFactImage ns s) p.facts q.facts
    pub pre : IsSideImage ns s p.pre q.pre
    pub code : q.code.ranges ≡ p.code.ranges
    pub post : IsSideImage ns s p.post q.post

  pub held_there : (p q : Held) → IsHeldAt ns p → AreParts p q → IsHeldAt ns q
  held_there p q h i = record { facts = facts_there p.facts q.facts h.facts i.facts; pre = side_there p.pre q.pre h.pre i.pre; post = side_there p.post q.post h.post i.post }

  pub held_put : (p q : Held) → IsHeldAt ns p → AreParts p q → IsInst s (triple_of ns p) (triple_of ns q)
  held_put p q h i = record {
    facts = put_map (fact_of ns) (put_in_fact s) (IsFactAt ns) (IsFactImage ns s) fact_put p.facts q.facts h.facts i.facts;
    pre = side_put p.pre q.pre h.pre i.pre;
    code = sym i.code;
    post = side_put p.post q.post h.post i.post;
  }

-- .. of the trees that the numbers stood for before
pub instance_of : (ns ms : List Node) (words mems : List (ℕ × ℕ)) (p q : Held) → Extends ns ms → IsSubAt ns words mems → IsHeldAt ns p → AreParts ms (put_for_numbers ms words mems) p q
    → IsInst (put_for_numbers ns words mems) (triple_of ns p) (triple_of ms q)
instance_of ns ms words mems p q e sub h i =
    subst (λ (s : Substitution). IsInst s (triple_of ns p) (triple_of ms q)) (same_sub ns ms words mems e sub)
    (subst (λ t. IsInst (put_for_numbers ms words mems) t (triple_of ms q)) (same_triple ns ms e p h) (held_put ms (put_for_numbers ms words mems) p q (held_still ns ms e p h) i))

-- ---- arenas one after the other

pub none_ready : (ns : List Node) (words mems : List (ℕ × ℕ)) (known : Known) → known ≡ [] → IsSubAt ns words mems → IsReady ns words mems known
none_ready ns words mems known e sub = record { sub = sub; images = record { each = λ x y h. let f : None ≡ Some (Some y) = sym (ap (λ (es : List (ℕ × Option ℕ)). image_at es x) e) ∙ h in cc } }

-- ---- item after item

pub zip_next : {X : Type 0} (R : X → X → Type 0) (xs ys zs : List X) (i : ℕ) (x y : X) → i < length xs → x ≡ get_or xs i x → zs ≡ ys ++ y ∷ [] → AllZip R (take i xs) ys → R x y
    → AllZip R (take (i + 1) xs) zs
zip_next {X} R xs ys zs i x y low is e before here =
    subst (λ (l : List X). AllZip R l zs) (sym (take_more xs i x low))
    (subst (λ (l : List X). AllZip R (take i xs ++ get_or xs i x ∷ []) l) (sym e) (AllZip-push R (take i xs) ys (get_or xs i x) y before (subst (λ (w : X). R w y) is here)))

-- ---- the one instance

-- what a triple is with terms put in is one triple
pub one_instance : (s : Substitution) (p q t : TripleTree) → IsInst s p q → (q ≡ t) ↔ IsInst s p t
one_instance s p q t i = (
  λ e. subst (IsInst s p) e i,
  λ j. λ k. record { facts = (sym i.facts ∙ j.facts) k; pre = (sym i.pre ∙ j.pre) k; code = (sym i.code ∙ j.code) k; post = (sym i.post ∙ j.post) k },
)

-- .. over numbers: the instance is the stated triple
pub is_the_instance : (ns ms : List Node) (s : Substitution) (p q t : Held) (b : Type 0) → Extends ns ms → IsHeldAt ns t → IsInst s (triple_of ns p) (triple_of ms q) → (b ↔ (triple_of ms q ≡ triple_of ms t))
    → b ↔ IsInst s (triple_of ns p) (triple_of ns t)
is_the_instance ns ms s p q t b e h i is =
    let one = one_instance s (triple_of ns p) (triple_of ms q) (triple_of ns t) i in
    let same = same_triple ns ms e t h in
    (λ x. one.0 (is.0 x ∙ same), λ j. is.1 (one.1 j ∙ sym same))
