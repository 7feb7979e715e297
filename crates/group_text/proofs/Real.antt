-- What is written of groups are tokens of a text, and a body has no more Needs than tokens.
use Rattle.std.proofs.Common.{◌≡◌, ℕ, zero, suc, ◌+◌, ◌^◌, ◌<◌, ◌≤◌, List, [], ◌∷◌, ◌++◌, length, codes, Some, refl, ap, arith, length-append}
use Rattle.std.specs.Prelude.{slice_get}
use Rattle.std.specs.List.{AllByRecursion, flat_map}
use Rattle.mc_text.specs.Tokens.{Tok, Left, Right, Semi, Atom, Eol, Done, Stuck, gap, token_bytes, before_next, spell, IsAtom, IsToken}
use Rattle.mc_text.specs.declared.token.Before.{Before}
use Rattle.mc_text.proofs.Atoms.{word-atom}
use Rattle.mc_text.proofs.Lines.{AreTokens}
use Rattle.mc_text.proofs.Shown.{decimal-atom, hex-atom, tokens-append, tokens-each}
use Rattle.rv_words.specs.Ranges.{AreRangesFrom}
use Rattle.rv_words.specs.declared.range.Range.{Range}
use Rattle.group_text.specs.TermLimits.{IsWord, IsMem}
use Rattle.group_text.specs.TermSpelling.{word_tokens, mem_tokens, cond_tokens, range_tokens}
use Rattle.group_text.proofs.TermFacts.{word-tokens, mem-tokens, cond-tokens, range-tokens}
use Rattle.tailrec_lang.specs.Tree.{ValuesTree, StepTree, Bind, BindMem, Need, BodyTree, Do, Branch, Call, Again, Leave, ArmTrees, NoArm, Arm, DefTree, GroupTree}
use Rattle.tailrec_lang.specs.Eval.{HasFewNeeds, step_needs, needs, arm_needs}
use Rattle.tailrec_lang.specs.declared.group.Exit.{Exit}
use Rattle.tailrec_lang.specs.declared.group.Exit.TheVariants.{At, Ret}
use Rattle.tailrec_lang.specs.Registers.{AreRegistersFrom}
use Rattle.group_text.specs.declared.version.Version.{Version as Known}
use Rattle.group_text.specs.Version.{version_of}
use Rattle.group_text.proofs.Versions.{most-small, title-atom}
use Rattle.group_text.specs.Limits.{IsValues, IsStep, IsBody, AreArms, nesting_limit, IsExit, IsDef, IsGroupIn}
use Rattle.group_text.specs.Spelling.{line, number, address, exit_tokens, values_tokens, arm_count, step_tokens, body_tokens, arm_tokens, def_tokens, group_tokens, title_tokens}
use Rattle.group_text.proofs.HeadLaws.{HasBytes, not-empty}

pub eol-tokens : (v : List Tok) → AreTokens v → AreTokens (v ++ Eol ∷ [])
eol-tokens v h = tokens-append v (Eol ∷ []) h (tt, tt)

number-tokens : (n : ℕ) → n < 2 ^ 64 → AreTokens (number n)
number-tokens n h = (decimal-atom n h, tt)

pub values-tokens : (v : ValuesTree) → IsValues v → AreTokens (values_tokens v)
values-tokens v h = tokens-append (flat_map word_tokens v.words) (Semi ∷ flat_map mem_tokens v.mems) (tokens-each word_tokens IsWord word-tokens v.words h.0) (tt, tokens-each mem_tokens IsMem mem-tokens v.mems h.1)

step-tokens : (s : StepTree) → IsStep s → AreTokens (step_tokens s)
step-tokens (Bind t) h = (word-atom (codes "let") refl, eol-tokens (word_tokens t) (word-tokens t h))
step-tokens (BindMem m) h = (word-atom (codes "letm") refl, eol-tokens (mem_tokens m) (mem-tokens m h))
step-tokens (Need c) h = (word-atom (codes "need") refl, eol-tokens (cond_tokens c) (cond-tokens c h))

numbered : (n : ℕ) (v : List Tok) → n < 2 ^ 64 → AreTokens v → AreTokens (number n ++ v)
numbered n v h k = (decimal-atom n h, k)

mutual
  body-tokens : (n : ℕ) (b : BodyTree) → IsBody n b → AreTokens (body_tokens b)
  body-tokens zero b h = absurd h
  body-tokens (suc n) (Do s b) h = tokens-append (step_tokens s) (body_tokens b) (step-tokens s h.0) (body-tokens (suc n) b h.1)
  body-tokens (suc n) (Branch c a b) h = (
    word-atom (codes "if") refl,
    tokens-append (cond_tokens c ++ Eol ∷ []) (body_tokens a ++ (line (codes "else") [] ++ body_tokens b)) (eol-tokens (cond_tokens c) (cond-tokens c h.0))
        (tokens-append (body_tokens a) (line (codes "else") [] ++ body_tokens b) (body-tokens n a h.1) (word-atom (codes "else") refl, (tt, body-tokens n b h.2))),
  )
  body-tokens (suc n) (Call def v arms) h = (
    word-atom (codes "call") refl,
    tokens-append (number def ++ (number (arm_count arms) ++ (values_tokens v ++ Eol ∷ []))) (arm_tokens arms)
        (numbered def (number (arm_count arms) ++ (values_tokens v ++ Eol ∷ [])) (omega (arith, h.0)) (numbered (arm_count arms) (values_tokens v ++ Eol ∷ []) (omega (arith, h.1)) (eol-tokens (values_tokens v) (values-tokens v h.2))))
        (arms-tokens n arms h.3),
  )
  body-tokens (suc n) (Again v) h = (word-atom (codes "again") refl, eol-tokens (values_tokens v) (values-tokens v h))
  body-tokens (suc n) (Leave exit v) h = (word-atom (codes "leave") refl, numbered exit (values_tokens v ++ Eol ∷ []) (omega (arith, h.0)) (eol-tokens (values_tokens v) (values-tokens v h.1)))

  arms-tokens : (n : ℕ) (bs : ArmTrees) → AreArms n bs → AreTokens (arm_tokens bs)
  arms-tokens n NoArm h = tt
  arms-tokens n (Arm b bs) h = (word-atom (codes "arm") refl, (tt, tokens-append (body_tokens b) (arm_tokens bs) (body-tokens n b h.0) (arms-tokens n bs h.1)))

exit-tokens : (x : Exit) → IsExit x → AreTokens (exit_tokens x)
exit-tokens (At a) h = (hex-atom a, tt)
exit-tokens Ret h = (word-atom (codes "ret") refl, tt)

pub def-tokens : (d : DefTree) → IsDef d → AreTokens (def_tokens d)
def-tokens d h = (
  word-atom (codes "def") refl,
  tokens-append (address d.entry ++ (flat_map exit_tokens d.exits ++ Eol ∷ [])) (body_tokens d.body)
      (hex-atom d.entry, eol-tokens (flat_map exit_tokens d.exits) (tokens-each exit_tokens IsExit exit-tokens d.exits h.exits)) (body-tokens nesting_limit d.body h.body),
)

registers-tokens : (least : ℕ) (rs : List ℕ) → AreRegistersFrom least rs → AreTokens (flat_map number rs)
registers-tokens least [] h = tt
registers-tokens least (r ∷ rs) h = (decimal-atom r (omega (arith, h.1)), registers-tokens (r + 1) rs h.2)

pub ranges-tokens : (least : ℕ) (rs : List Range) → AreRangesFrom least rs → AllByRecursion HasBytes rs → AreTokens (flat_map range_tokens rs)
ranges-tokens least [] h k = tt
ranges-tokens least (r ∷ rs) h k = tokens-append (range_tokens r) (flat_map range_tokens rs) (range-tokens r (not-empty r.bytes h.1, k.0)) (ranges-tokens (r.at + length r.bytes + 1) rs h.3 k.1)

line-tokens : (name : List ℕ) (v : List Tok) → IsAtom name → AreTokens v → AreTokens (line name (v ∷ []))
line-tokens name v h k = (h, eol-tokens v k)

pub group-tokens : (v : Known) (g : GroupTree) → IsGroupIn (version_of v) g → AreTokens (group_tokens g)
group-tokens v g h =
    let regs : List Tok = line (codes "regs") (flat_map number g.regs ∷ []) in
    let mems : List Tok = line (codes "mems") (number g.mems ∷ []) in
    let code : List Tok = line (codes "code") (flat_map range_tokens g.code ∷ []) in
    let defs : List Tok = flat_map def_tokens g.defs in (
      word-atom (codes "group") refl,
      (
        h.name.0,
        (
          tt,
          tokens-append regs (mems ++ (code ++ defs)) (line-tokens (codes "regs") (flat_map number g.regs) (word-atom (codes "regs") refl) (registers-tokens 1 g.regs h.registers))
              (tokens-append mems (code ++ defs) (line-tokens (codes "mems") (number g.mems) (word-atom (codes "mems") refl) (number-tokens g.mems (omega (arith, h.memories.1, most-small v))))
              (tokens-append code defs (line-tokens (codes "code") (flat_map range_tokens g.code) (word-atom (codes "code") refl) (ranges-tokens 0 g.code h.code h.bytes))
              (tokens-each def_tokens IsDef def-tokens g.defs h.defs))),
        ),
      ),
    )

pub title-tokens : (v : Known) → AreTokens (title_tokens (version_of v))
title-tokens v = (word-atom (codes "mcproof") refl, (title-atom v, (tt, tt)))

-- ---- how many Needs

step-few : (s : StepTree) → step_needs s ≤ length (step_tokens s)
step-few (Bind t) = omega arith
step-few (BindMem m) = omega arith
step-few (Need c) = omega arith

mutual
  body-few : (b : BodyTree) → needs b ≤ length (body_tokens b)
  body-few (Do s b) = omega (arith, step-few s, body-few b, length-append (step_tokens s) (body_tokens b))
  body-few (Branch c a b) =
      let front : List Tok = line (codes "if") (cond_tokens c ∷ []) in
      let behind : List Tok = line (codes "else") [] ++ body_tokens b in
      omega (arith, body-few a, body-few b, length-append front (body_tokens a ++ behind), length-append (body_tokens a) behind, length-append (line (codes "else") []) (body_tokens b))
  body-few (Call def v arms) = omega (arith, arms-few arms, length-append (line (codes "call") (number def ∷ number (arm_count arms) ∷ values_tokens v ∷ [])) (arm_tokens arms))
  body-few (Again v) = omega arith
  body-few (Leave exit v) = omega arith

  arms-few : (bs : ArmTrees) → arm_needs bs ≤ length (arm_tokens bs)
  arms-few NoArm = omega arith
  arms-few (Arm b bs) = omega (arith, body-few b, arms-few bs, length-append (line (codes "arm") []) (body_tokens b ++ arm_tokens bs), length-append (body_tokens b) (arm_tokens bs))

def-few : (d : DefTree) → needs d.body ≤ length (def_tokens d)
def-few d = omega (arith, body-few d.body, length-append (line (codes "def") (address d.entry ∷ flat_map exit_tokens d.exits ∷ [])) (body_tokens d.body))

in-each : (ds : List DefTree) (i : ℕ) (d : DefTree) → slice_get ds i ≡ Some d → length (def_tokens d) ≤ length (flat_map def_tokens ds)
in-each [] i d e = absurd cc
in-each (x ∷ ds) zero d e = let same : x ≡ d = cc in let len : length (def_tokens x) ≡ length (def_tokens d) = ap (λ (y : DefTree). length (def_tokens y)) same in omega (arith, len, length-append (def_tokens x) (flat_map def_tokens ds))
in-each (x ∷ ds) (suc i) d e = omega (arith, in-each ds i d e, length-append (def_tokens x) (flat_map def_tokens ds))

group-long : (g : GroupTree) → length (flat_map def_tokens g.defs) ≤ length (group_tokens g)
group-long g =
    let name : List Tok = line (codes "group") ((Atom g.name ∷ []) ∷ []) in
    let regs : List Tok = line (codes "regs") (flat_map number g.regs ∷ []) in
    let mems : List Tok = line (codes "mems") (number g.mems ∷ []) in
    let code : List Tok = line (codes "code") (flat_map range_tokens g.code ∷ []) in
    let defs : List Tok = flat_map def_tokens g.defs in
    omega (arith, length-append name (regs ++ (mems ++ (code ++ defs))), length-append regs (mems ++ (code ++ defs)), length-append mems (code ++ defs), length-append code defs)

pub few-needs : (g : GroupTree) → length (group_tokens g) < 2 ^ 64 → HasFewNeeds g
few-needs g lt i d e = omega (arith, lt, group-long g, in-each g.defs i d e, def-few d)

-- ---- each token has a byte

some-bytes : (m : Before) (t : Tok) → IsToken t → 1 ≤ length (gap m t ++ token_bytes t)
some-bytes m Left h = omega (arith, length-append (gap m Left) (token_bytes Left))
some-bytes m Right h = omega (arith, length-append (gap m Right) (token_bytes Right))
some-bytes m Semi h = omega (arith, length-append (gap m Semi) (token_bytes Semi))
some-bytes m (Atom []) h = absurd (h.0 refl)
some-bytes m (Atom (b ∷ a)) h = omega (arith, length-append (gap m (Atom (b ∷ a))) (b ∷ a))
some-bytes m Eol h = omega (arith, length-append (gap m Eol) (token_bytes Eol))
some-bytes m Done h = absurd h
some-bytes m Stuck h = absurd h

pub spell-long : (m : Before) (ts : List Tok) → AreTokens ts → length ts ≤ length (spell m ts)
spell-long m [] h = omega arith
spell-long m (t ∷ ts) h = omega (arith, some-bytes m t h.0, spell-long (before_next t) ts h.1, length-append (gap m t ++ token_bytes t) (spell (before_next t) ts))
