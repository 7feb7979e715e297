-- Bodies of one value, wherever words are 64-bit words and memories bytes at 64-bit addresses.
use Rattle.std.specs.Prelude.{◌≡◌, List, [], ◌∷◌}
use Rattle.word_terms.specs.Tree.{WordTree, MemTree, CondTree}
use Rattle.tailrec_lang.specs.Tree.{ValuesTree, StepTree, Bind, BindMem, Need, BodyTree, Do, Branch, Call, Again, Leave, ArmTrees, NoArm, Arm, DefTree}
use Rattle.fun_laws.specs.Laws.{OfWord, OfMem, OfCond}
use Rattle.fun_laws.specs.Values.{KeepsValue}

-- as many items, each related to the one at its place
abbrev pub EachPair : {A : Type 0} → (A → A → Type 0) → List A → List A → Type 0
EachPair R [] [] = Unit {0}
EachPair R (x ∷ xs) (y ∷ ys) = R x y × EachPair R xs ys
EachPair R _ _ = ⊥

abbrev pub AlikeWords : WordTree → WordTree → Type 0
AlikeWords t u = KeepsValue (OfWord t) (OfWord u)

abbrev pub AlikeMems : MemTree → MemTree → Type 0
AlikeMems m n = KeepsValue (OfMem m) (OfMem n)

abbrev pub AlikeConds : CondTree → CondTree → Type 0
AlikeConds c d = KeepsValue (OfCond c) (OfCond d)

abbrev pub AlikeValues : ValuesTree → ValuesTree → Type 0
AlikeValues v w = EachPair AlikeWords v.words w.words × EachPair AlikeMems v.mems w.mems

abbrev pub AlikeSteps : StepTree → StepTree → Type 0
AlikeSteps (Bind t) (Bind u) = AlikeWords t u
AlikeSteps (BindMem m) (BindMem n) = AlikeMems m n
AlikeSteps (Need c) (Need d) = AlikeConds c d
AlikeSteps _ _ = ⊥

-- bodies that differ at most in terms, which are alike
abbrev mutual
  pub AlikeBodies : BodyTree → BodyTree → Type 0
  AlikeBodies (Do step rest) (Do step' rest') = AlikeSteps step step' × AlikeBodies rest rest'
  AlikeBodies (Branch c a b) (Branch c' a' b') = AlikeConds c c' × AlikeBodies a a' × AlikeBodies b b'
  AlikeBodies (Call def v arms) (Call def' v' arms') = (def ≡ def') × AlikeValues v v' × AlikeArms arms arms'
  AlikeBodies (Again v) (Again v') = AlikeValues v v'
  AlikeBodies (Leave exit v) (Leave exit' v') = (exit ≡ exit') × AlikeValues v v'
  AlikeBodies _ _ = ⊥

  pub AlikeArms : ArmTrees → ArmTrees → Type 0
  AlikeArms NoArm NoArm = Unit {0}
  AlikeArms (Arm b bs) (Arm b' bs') = AlikeBodies b b' × AlikeArms bs bs'
  AlikeArms _ _ = ⊥

pub record AlikeDefs (d e : DefTree) : Type 0 where
  pub entry : d.entry ≡ e.entry
  pub exits : d.exits ≡ e.exits
  pub body : AlikeBodies d.body e.body
