-- A proof with a table: what it is written as, and that it may be written.
use Rattle.std.proofs.Common.{◌≡◌, ℕ, false, List, [], ◌∷◌, ◌++◌, map, codes, refl, arith}
use Rattle.std.specs.Fmt.{digits}
use Rattle.std.specs.List.{AllByRecursion}
use Rattle.hex.specs.Hex.{encode_with}
use Rattle.rv_words.specs.declared.operation.Op.TheVariants.{Add, And}
use Rattle.rv_words.specs.declared.comparison.Cmp.TheVariants.{Eq}
use Rattle.word_terms.specs.Tree.{WordTree, Const, Var, Bin, Compare}
use Rattle.tailrec_lang.specs.declared.group.Exit.TheVariants.{Ret}
use Rattle.tailrec_lang.specs.Tree.{GroupTree, Do, Bind, Need, Leave}
use Rattle.term_arena.specs.declared.node.Node.{Node}
use Rattle.term_arena.specs.declared.node.Node.TheVariants as node
use Rattle.term_arena.specs.Arena.{trees_of}
use Rattle.triple_kernel.specs.declared.form.Form.TheVariants.{Next}
use Rattle.held_terms.specs.declared.held.HeldFact.TheVariants as held
use Rattle.short_text.specs.declared.short.Short.{Short}
use Rattle.short_text.specs.declared.short.Short.TheVariants as short
use Rattle.short_text.specs.declared.short.ShortLine.TheVariants.{Term, Proof}
use Rattle.short_text.specs.Table.{IsTable, depths_of}
use Rattle.short_text.specs.ShortLimits.{IsShort}
use Rattle.short_text.specs.ShortProofs.{ShortProof, text_of_short_proofs}
use Rattle.short_text.specs.inner.ShortReading.{may_follow}
use Rattle.short_text.proofs.TableLaws.{read-next}

abbrev returned : WordTree
returned = Bin Add (Var 0) (Const 0)

abbrev group : GroupTree
group = record {
  name = codes "f";
  regs = 1 ∷ 10 ∷ 11 ∷ [];
  mems = 0;
  code = record { at = 0x10000; bytes = 0x33 ∷ 0x05 ∷ 0xb5 ∷ 0x00 ∷ 0x67 ∷ 0x80 ∷ 0x00 ∷ 0x00 ∷ [] } ∷ [];
  defs = record {
    entry = 0x10000;
    exits = Ret ∷ [];
    body = Do (Bind (Bin Add (Var 1) (Var 2))) (Do (Need (Compare Eq (Bin And returned (Const 2)) (Const 0))) (Leave 0 (record { words = Bin And returned (Const 0xfffffffffffffffe) ∷ Var 0 ∷ Var 3 ∷ Var 2 ∷ []; mems = [] })));
  } ∷ [];
}

abbrev table : List Node
table = node.WordVar 1 ∷ node.WordVar 2 ∷ node.WordVar 0 ∷ node.WordVar 3 ∷ node.Bin Add 0 1 ∷ node.Const 0x10004 ∷ []

abbrev lines : List Short
lines =
    short.Axiom 0x10000 0xb50533 Next
    ∷ short.Inst 0 ((0, 0) ∷ (1, 1) ∷ []) []
    ∷ short.Frame 1 ((1, 2) ∷ []) []
    ∷ short.Weaken 2 (held.WordIs 3 4 ∷ []) (record { pc = 5; regs = (1, 2) ∷ (10, 3) ∷ (11, 1) ∷ []; mems = [] })
    ∷ short.Axiom 0x10004 0x8067 Next
    ∷ short.Frame 4 ((10, 3) ∷ (11, 1) ∷ []) []
    ∷ short.Compose 3 5
    ∷ short.Loop 0 (6 ∷ [])
    ∷ []

abbrev proof : ShortProof
proof = record { group = group; lines = map Term table ++ map Proof lines }

-- the rows, each with its newline
abbrev rows : List (List ℕ) → List ℕ
rows [] = []
rows (r ∷ rs) = r ++ (10 ∷ rows rs)

spelled : text_of_short_proofs (proof ∷ []) ≡ rows (
    codes "mcproof 2"
    ∷ codes "group f"
    ∷ codes "regs 1 10 11"
    ∷ codes "mems 0"
    ∷ codes "code (0x10000 3305b50067800000)"
    ∷ codes "def 0x10000 ret"
    ∷ codes "let (add v1 v2)"
    ∷ codes "need (eq (and (add v0 0x0) 0x2) 0x0)"
    ∷ codes "leave 0 (and (add v0 0x0) 0xfffffffffffffffe) v0 v3 v2 ;"
    ∷ codes "term v1"
    ∷ codes "term v2"
    ∷ codes "term v0"
    ∷ codes "term v3"
    ∷ codes "term (add t0 t1)"
    ∷ codes "term 0x10004"
    ∷ codes "axiom 0x10000 0xb50533 next"
    ∷ codes "inst 0 (v0 t0) (v1 t1)"
    ∷ codes "frame 1 (1 t2) ;"
    ∷ codes "weaken 2 facts (is t3 t4) post (t5 (1 t2) (10 t3) (11 t1) ;)"
    ∷ codes "axiom 0x10004 0x8067 next"
    ∷ codes "frame 4 (10 t3) (11 t1) ;"
    ∷ codes "compose 3 5"
    ∷ codes "loop 0 6"
    ∷ codes "end"
    ∷ [])
unfolding digits encode_with
spelled = refl

-- each term may stand behind those before it, and one that stands there already may not
is-table : IsTable table
unfolding may_follow depths_of digits
is-table = (
  read-next [] (node.WordVar 1) (omega arith, refl),
  (
    read-next (node.WordVar 1 ∷ []) (node.WordVar 2) (omega arith, refl),
    (
      read-next (node.WordVar 1 ∷ node.WordVar 2 ∷ []) (node.WordVar 0) (omega arith, refl),
      (
        read-next (node.WordVar 1 ∷ node.WordVar 2 ∷ node.WordVar 0 ∷ []) (node.WordVar 3) (omega arith, refl),
        (
          read-next (node.WordVar 1 ∷ node.WordVar 2 ∷ node.WordVar 0 ∷ node.WordVar 3 ∷ []) (node.Bin Add 0 1) ((omega arith, omega arith), refl),
          (read-next (node.WordVar 1 ∷ node.WordVar 2 ∷ node.WordVar 0 ∷ node.WordVar 3 ∷ node.Bin Add 0 1 ∷ []) (node.Const 0x10004) (omega arith, refl), tt),
        ),
      ),
    ),
  ),
)

-- a term of another kind, an equal term, a later one
refused : (may_follow table (node.Neg 0) ≡ false) × (may_follow table (node.Bin Add 0 1) ≡ false) × (may_follow table (node.Bin Add 0 6) ≡ false)
unfolding may_follow depths_of digits
refused = (refl, refl, refl)

each-line : AllByRecursion (IsShort table) lines
unfolding trees_of
each-line = (
  (omega arith, omega arith),
  (
    (omega arith, (omega arith, omega arith, (omega arith, refl), (omega arith, omega arith, (omega arith, refl), tt)), tt),
    (
      (omega arith, record { rise = (omega arith, omega arith, tt); words = ((omega arith, refl), tt) }, tt),
      (
        (
          omega arith,
          (((omega arith, refl), (omega arith, refl)), tt),
          record {
            pc = (omega arith, refl);
            regs = record { rise = (omega arith, omega arith, (omega arith, omega arith, (omega arith, omega arith, tt))); words = ((omega arith, refl), ((omega arith, refl), ((omega arith, refl), tt))) };
            mems = tt;
          },
        ),
        (
          (omega arith, omega arith),
          (
            (omega arith, record { rise = (omega arith, omega arith, (omega arith, omega arith, tt)); words = ((omega arith, refl), ((omega arith, refl), tt)) }, tt),
            ((omega arith, omega arith), ((omega arith, (omega arith, tt)), tt)),
          ),
        ),
      ),
    ),
  ),
)
