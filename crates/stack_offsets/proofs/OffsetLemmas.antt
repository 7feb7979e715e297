-- What instructions make of offsets that are lost, and of all that registers have.
use Rattle.std.proofs.Common.{◌≡◌, ℕ, ◌+◌, ◌%◌, ◌^◌, ◌<◌, Bool, true, false, cond, eqb, Option, Some, None, option_map, length, refl, sym, ap, ◌∙◌, subst, arith, get_or}
use Rattle.std.specs.Prelude.{slice_get}
use Rattle.std.proofs.lemmas.Option.{slice_get-get_or}
use Rattle.rv_words.specs.Operation.{word_of}
use Rattle.rv_words.specs.declared.operation.Op.TheVariants as op
use Rattle.rv_decode.specs.declared.instruction.Instr.{Instr}
use Rattle.rv_decode.specs.declared.instruction.Instr.TheVariants as instr
use Rattle.rv_decode.specs.Registers.{destination}
use Rattle.rv_decode.specs.Decodes.{NamesRegisters}
use Rattle.flow_graph.specs.Graph.{GraphOf, HasEdge, IsFlow}
use Rattle.flow_graph.specs.Walks.{Reaches, Stop, Leave}
use Rattle.stack_offsets.specs.Offsets.{Offsets, entry_offsets, given_offset, offsets_after, IsFollowed, AtEntry, Behind, HasOffset}
use Rattle.stack_offsets.specs.inner.Settling.{AreComplete, IsUnder, LeadsTo, NamesAll}

pub some_one : {A : Type 0} (a b : A) → Some a ≡ Some b → a ≡ b
some_one a b e = cc

none_some : {A : Type 0} (a : A) → None ≡ Some a → ⊥
none_some a e = cc

pub moved_some : (o : Option ℕ) (w c : ℕ) → option_map (λ d. (d + w) % 2 ^ 64) o ≡ Some c → (d : ℕ) × (o ≡ Some d) × ((d + w) % 2 ^ 64 ≡ c)
moved_some None w c e = absurd (cc)
moved_some (Some d) w c e = (d, refl, some_one ((d + w) % 2 ^ 64) c e)

-- ---- offsets that are lost

given_under : (i : Instr) (o p : Offsets) → IsUnder o p → (c : ℕ) → given_offset i o ≡ Some c → given_offset i p ≡ Some c
given_under (instr.OpImm op.Add rd rs1 imm) o p under c h =
    let d = moved_some (o rs1) (word_of imm) c h in
    (λ j. option_map (λ x. (x + word_of imm) % 2 ^ 64) (under rs1 d.0 d.1 j)) ∙ ap Some d.2
given_under (instr.Op op.Add rd rs1 rs2) o p under c h = by (eqb rs1 0) (eqb rs2 0) h
  where
    by : (a b : Bool) → cond a (o rs2) (cond b (o rs1) None) ≡ Some c → cond a (p rs2) (cond b (p rs1) None) ≡ Some c
    by true b h = under rs2 c h
    by false true h = under rs1 c h
    by false false h = absurd (cc)
given_under i o p under c h = absurd (cc)

-- an instruction makes no more of less
pub after_under : (i : Instr) (o p : Offsets) → IsUnder o p → IsUnder (offsets_after i o) (offsets_after i p)
after_under i o p under r c h = by (eqb (destination i) 0) (eqb r (destination i)) h
  where
    by : (a b : Bool) → cond a (o r) (cond b (given_offset i o) (o r)) ≡ Some c → cond a (p r) (cond b (given_offset i p) (p r)) ≡ Some c
    by true b h = under r c h
    by false true h = given_under i o p under c h
    by false false h = under r c h

-- ---- all that registers have

-- offsets are words
given_small : (i : Instr) (o : Offsets) → ((r c : ℕ) → o r ≡ Some c → c < 2 ^ 64) → (c : ℕ) → given_offset i o ≡ Some c → c < 2 ^ 64
given_small (instr.OpImm op.Add rd rs1 imm) o small c h = let d = moved_some (o rs1) (word_of imm) c h in subst (λ x. x < 2 ^ 64) d.2 (omega arith)
given_small (instr.Op op.Add rd rs1 rs2) o small c h = by (eqb rs1 0) (eqb rs2 0) h
  where
    by : (p q : Bool) → cond p (o rs2) (cond q (o rs1) None) ≡ Some c → c < 2 ^ 64
    by true q h = small rs2 c h
    by false true h = small rs1 c h
    by false false h = absurd (cc)
given_small i o small c h = absurd (cc)

same_sum : (c d w : ℕ) → c < 2 ^ 64 → d < 2 ^ 64 → (c + w) % 2 ^ 64 ≡ (d + w) % 2 ^ 64 → c ≡ d
same_sum c d w lc ld h = omega arith

module _ (Leads : ℕ → Instr → ℕ → Type 0) (e : ℕ) where
  pub followed_small : (a : ℕ) (o : Offsets) → IsFollowed Leads e a o → (r c : ℕ) → o r ≡ Some c → c < 2 ^ 64
  followed_small a o AtEntry r c h = by (eqb r 2) h
    where
      by : (b : Bool) → cond b (Some 0) None ≡ Some c → c < 2 ^ 64
      by true h = let z : 0 ≡ c = some_one 0 c h in omega arith
      by false h = absurd (cc)
  followed_small b o (Behind a b' i o' f l) r c h = by (followed_small a o' f) (eqb (destination i) 0) (eqb r (destination i)) h
    where
      by : ((r c : ℕ) → o' r ≡ Some c → c < 2 ^ 64) → (z w : Bool) → cond z (o' r) (cond w (given_offset i o') (o' r)) ≡ Some c → c < 2 ^ 64
      by small true w h = small r c h
      by small false false h = small r c h
      by small false true h = given_small i o' small c h

module _ (g : GraphOf) where
  abbrev Follows : ℕ → Offsets → Type 0
  Follows = IsFollowed (LeadsTo g) g.entry

  -- what an instruction makes of all that registers have is all that they have behind it
  pub complete_after : NamesAll g → (u v : ℕ) (i : Instr) (y : Offsets) → (o0 : Offsets) → Follows u o0 → LeadsTo g u i v → AreComplete g u y → AreComplete g v (offsets_after i y)
  complete_after names u v i y o0 f0 l complete r c low has = by (eqb (destination i) 0) (eqb r (destination i)) refl refl (λ o f. has (offsets_after i o) (Behind u v i o f l))
    where
      from : (j : Instr) → NamesRegisters j → ((o : Offsets) → Follows u o → given_offset j o ≡ Some c) → given_offset j y ≡ Some c
      from (instr.OpImm op.Add rd rs1 imm) named each =
          let w = word_of imm in
          let d0 = moved_some (o0 rs1) w c (each o0 f0) in
          let all : HasOffset (LeadsTo g) g.entry u rs1 d0.0 = λ o f.
          (let d = moved_some (o rs1) w c (each o f) in
          d.1 ∙ ap Some (same_sum d.0 d0.0 w (followed_small (LeadsTo g) g.entry u o f rs1 d.0 d.1) (followed_small (LeadsTo g) g.entry u o0 f0 rs1 d0.0 d0.1) (d.2 ∙ sym d0.2))) in
          (λ j. option_map (λ x. (x + w) % 2 ^ 64) (complete rs1 d0.0 named.1 all j)) ∙ ap Some d0.2
      from (instr.Op op.Add rd rs1 rs2) named each = pick (eqb rs1 0) (eqb rs2 0) each
        where
          pick : (p q : Bool) → ((o : Offsets) → Follows u o → cond p (o rs2) (cond q (o rs1) None) ≡ Some c) → cond p (y rs2) (cond q (y rs1) None) ≡ Some c
          pick true q each = complete rs2 c named.2 each
          pick false true each = complete rs1 c named.1 each
          pick false false each = absurd (none_some c (each o0 f0))
      from j named each = absurd (none_some c (each o0 f0))

      by : (z w : Bool) → eqb (destination i) 0 ≡ z → eqb r (destination i) ≡ w
          → ((o : Offsets) → Follows u o → cond (eqb (destination i) 0) (o r) (cond (eqb r (destination i)) (given_offset i o) (o r)) ≡ Some c) → cond z (y r) (cond w (given_offset i y) (y r)) ≡ Some c
      by true w t s each = complete r c low (λ o f. (λ j. cond (sym t j) (o r) (cond (eqb r (destination i)) (given_offset i o) (o r))) ∙ each o f)
      by false false t s each = complete r c low (λ o f. (λ j. cond (sym t j) (o r) (cond (sym s j) (given_offset i o) (o r))) ∙ each o f)
      by false true t s each = from i (names u i l.0) (λ o f. (λ j. cond (sym t j) (o r) (cond (sym s j) (given_offset i o) (o r))) ∙ each o f)

  -- a walk leads to each node
  walk_on : IsFlow g → {a b : ℕ} → (o : Offsets) → Follows a o → Reaches (HasEdge g) a b → (p : Offsets) × Follows b p
  walk_on flow o f Stop = (o, f)
  walk_on flow o f (Leave {a = a} {c = c} p d w) =
      let i = get_or g.instrs a instr.Ecall in
      let at : slice_get g.instrs a ≡ Some i = slice_get-get_or g.instrs a instr.Ecall (let lt = flow.source a c d in omega (arith, flow.as_long)) in
      walk_on flow (offsets_after i o) (Behind a c i o f (at, d)) w

  pub some_walk : IsFlow g → (n : ℕ) → n < length g.addrs → (o : Offsets) × Follows n o
  some_walk flow n l = walk_on flow entry_offsets AtEntry (flow.reached n l)
