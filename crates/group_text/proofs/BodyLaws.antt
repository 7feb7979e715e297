-- Bodies are read as they are spelled, and the lines before a fault can be completed.
use Rattle.std.proofs.Common.{◌≡◌, ℕ, zero, suc, ◌+◌, ◌^◌, ◌<◌, ◌≤◌, Bool, false, cond, eqb, List, [], ◌∷◌, ◌++◌, length, codes, Ok, Err, refl, sym, ap, subst, ◌∙◌, arith, append_assoc, length-append, inl, inr, ◌⊎◌}
use Rattle.std.specs.List.{AllByRecursion, flat_map}
use Rattle.std.proofs.lemmas.Bool.Decides.{nat_tests}
use Rattle.std.specs.Fmt.{decimal}
use Rattle.mc_text.specs.Tokens.{Tok, Atom, Eol}
use Rattle.mc_text.specs.Reading.{Reader, pair, with, made, star, goes_on, refused}
use Rattle.mc_text.specs.inner.Reading.{times, eol, keyed, number_at}
use Rattle.mc_text.proofs.ReaderLaws.{Reads, IsElse, Reads-pair}
use Rattle.mc_text.proofs.Shown.{Always}
use Rattle.mc_text.proofs.Covers.{Covers, Part, row-covers, covers-with, covers-list, covers-made, covers-part, part-refused, part-keyed, Never}
use Rattle.mc_text.proofs.Repeated.{covers-as, covers-nothing, covers-times, part-as}
use Rattle.word_terms.specs.Tree.{CondTree, Const, Compare}
use Rattle.rv_words.specs.declared.comparison.Cmp.TheVariants.{Eq}
use Rattle.group_text.specs.TermLimits.{depth_limit, IsCond}
use Rattle.group_text.specs.TermSpelling.{cond_tokens}
use Rattle.group_text.specs.TermReading.{cond_at}
use Rattle.group_text.proofs.TermFacts.{cond-flat}
use Rattle.group_text.proofs.TermLaws.{cond-law}
use Rattle.tailrec_lang.specs.Tree.{ValuesTree, StepTree, BodyTree, Do, Branch, Call, Again, Leave, ArmTrees, NoArm, Arm, with_steps, arms_of}
use Rattle.group_text.specs.Limits.{IsValues, IsStep, def_exit_limit, IsBody, AreArms}
use Rattle.group_text.specs.Spelling.{number, values_tokens, arm_count, body_tokens, arm_tokens, step_tokens}
use Rattle.group_text.specs.inner.Reading.{values_at, step_at, is_step, mark_row, where_room, arm_bound, branch_at, arm_at, call_row, call_at, leave_at, end_at, body_at}
use Rattle.group_text.proofs.StepLaws.{ends-eol, some-eol, atom-flat, number-law, mark-law, row-cover, values_row, values-law, values-cover, zero-cond, step-cover, step-begins, step-shrinks}

-- ---- the ends, and their tokens behind the first word

abbrev IsBranch : ℕ → BodyTree → Type 0
IsBranch d (Do s b) = ⊥
IsBranch d (Branch c a b) = IsCond c × (IsBody d a × IsBody d b)
IsBranch d (Call def v arms) = ⊥
IsBranch d (Again v) = ⊥
IsBranch d (Leave exit v) = ⊥

abbrev IsCall : ℕ → ℕ → BodyTree → Type 0
IsCall bound d (Do s b) = ⊥
IsCall bound d (Branch c a b) = ⊥
IsCall bound d (Call def v arms) = ((def < 2 ^ 32) × ((arm_count arms < bound) × IsValues v)) × AreArms d arms
IsCall bound d (Again v) = ⊥
IsCall bound d (Leave exit v) = ⊥

abbrev IsAgain : BodyTree → Type 0
IsAgain (Do s b) = ⊥
IsAgain (Branch c a b) = ⊥
IsAgain (Call def v arms) = ⊥
IsAgain (Again v) = IsValues v
IsAgain (Leave exit v) = ⊥

abbrev IsLeave : BodyTree → Type 0
IsLeave (Do s b) = ⊥
IsLeave (Branch c a b) = ⊥
IsLeave (Call def v arms) = ⊥
IsLeave (Again v) = ⊥
IsLeave (Leave exit v) = (exit < 2 ^ 32) × IsValues v

abbrev EndFits : ℕ → BodyTree → Type 0
EndFits d b = IsCall (arm_bound d) d b ⊎ (IsAgain b ⊎ (IsLeave b ⊎ IsBranch d b))

abbrev end_row : BodyTree → List Tok
end_row (Do s b) = []
end_row (Branch c a b) = (cond_tokens c ++ Eol ∷ []) ++ (body_tokens a ++ ((Atom (codes "else") ∷ Eol ∷ []) ++ body_tokens b))
end_row (Call def v arms) = (number def ++ (number (arm_count arms) ++ values_row v)) ++ arm_tokens arms
end_row (Again v) = values_row v
end_row (Leave exit v) = number exit ++ values_row v

abbrev nothing : ValuesTree
nothing = record { words = []; mems = [] }

-- the end that fits anywhere
plain-end : (d : ℕ) → EndFits d (Leave 0 nothing)
plain-end d = inr (inr (inl (omega arith, (tt, tt))))

-- ---- again and leave

again-cover : Covers (made Again values_at) IsAgain end_row
again-cover = covers-made Again values_at IsValues values_row values-cover IsAgain end_row (λ v h. h) (λ v. refl)
    (elim [ Do s b ↦ λ h. absurd h | Branch c a b ↦ λ h. absurd h | Call def v arms ↦ λ h. absurd h | Again v ↦ λ h. (v, refl, h) | Leave exit v ↦ λ h. absurd h ])

leave-row : Reads (pair (number_at (2 ^ 32)) values_at) (λ p. (p.0 < 2 ^ 32) × IsValues p.1) (λ p. number p.0 ++ values_row p.1)
leave-row = Reads-pair (number_at (2 ^ 32)) (λ n. n < 2 ^ 32) number (number-law (2 ^ 32) (omega arith)) (λ n h. atom-flat _) values_at IsValues values_row values-law

leave-cover : Covers leave_at IsLeave end_row
unfolding leave_at
leave-cover = covers-made (λ (x : ℕ × ValuesTree). Leave x.0 x.1) (pair (number_at (2 ^ 32)) values_at) _ (λ p. number p.0 ++ values_row p.1)
    (row-covers _ _ (λ (p : ℕ × ValuesTree). number p.0 ++ values_row p.1) leave-row (λ p h. ends-eol (Atom (decimal p.0)) (values_tokens p.1)) (0, nothing) (omega arith, (tt, tt))) IsLeave end_row (λ x h. h) (λ x. refl)
    (elim [ Do s b ↦ λ h. absurd h | Branch c a b ↦ λ h. absurd h | Call def v arms ↦ λ h. absurd h | Again v ↦ λ h. absurd h | Leave exit v ↦ λ h. ((exit, v), refl, h) ])

-- ---- arms

abbrev arm_row : BodyTree → List Tok
arm_row b = (Atom (codes "arm") ∷ Eol ∷ []) ++ body_tokens b

abbrev bodies : ArmTrees → List BodyTree
bodies NoArm = []
bodies (Arm b bs) = b ∷ bodies bs

arms-back : (bs : ArmTrees) → arms_of (bodies bs) ≡ bs
arms-back NoArm = refl
arms-back (Arm b bs) = ap (Arm b) (arms-back bs)

arms-count : (bs : List BodyTree) → arm_count (arms_of bs) ≡ length bs
arms-count [] = refl
arms-count (b ∷ bs) = ap suc (arms-count bs)

bodies-count : (bs : ArmTrees) → length (bodies bs) ≡ arm_count bs
bodies-count NoArm = refl
bodies-count (Arm b bs) = ap suc (bodies-count bs)

arms-tokens : (bs : List BodyTree) → arm_tokens (arms_of bs) ≡ flat_map arm_row bs
arms-tokens [] = refl
arms-tokens (b ∷ bs) = ap (λ (v : List Tok). Atom (codes "arm") ∷ Eol ∷ (body_tokens b ++ v)) (arms-tokens bs)

arms-fit : (d : ℕ) (bs : List BodyTree) → AllByRecursion (IsBody d) bs → AreArms d (arms_of bs)
arms-fit d [] h = tt
arms-fit d (b ∷ bs) h = (h.0, arms-fit d bs h.1)

bodies-fit : (d : ℕ) (bs : ArmTrees) → AreArms d bs → AllByRecursion (IsBody d) (bodies bs)
bodies-fit d NoArm h = tt
bodies-fit d (Arm b bs) h = (h.0, bodies-fit d bs h.1)

no-arms : (bs : ArmTrees) → AreArms 0 bs → arm_count bs ≡ 0
no-arms NoArm h = refl
no-arms (Arm b bs) h = absurd h.0

mark-cover : (k : List ℕ) → Covers (mark_row k) (λ _. Unit {0} × Unit {0}) (λ _. Atom k ∷ Eol ∷ [])
mark-cover k = row-covers (mark_row k) _ _ (mark-law k) (λ p h. refl) (tt, tt) (tt, tt)

arm-cover : (d : ℕ) (body : Reader BodyTree) → Covers body (IsBody d) body_tokens → Covers (arm_at body) (IsBody d) arm_row
arm-cover d body inner = covers-made (λ (x : (Unit {0} × Unit {0}) × BodyTree). x.1) (pair (mark_row (codes "arm")) body) _ _
    (covers-with (mark_row (codes "arm")) _ _ (mark-cover (codes "arm")) (λ _. body) (λ _. IsBody d) (λ _. body_tokens) (λ _ _. inner)) (IsBody d) arm_row (λ x h. h.1) (λ x. refl) (λ b h. (((tt, tt), b), refl, ((tt, tt), h)))

-- ---- calls

call-row : (bound : ℕ) → bound ≤ 2 ^ 64 → Reads (call_row bound) (λ p. (p.0 < 2 ^ 32) × ((p.1.0 < bound) × IsValues p.1.1)) (λ p. number p.0 ++ (number p.1.0 ++ values_row p.1.1))
call-row bound le = Reads-pair (number_at (2 ^ 32)) (λ n. n < 2 ^ 32) number (number-law (2 ^ 32) (omega arith)) (λ n h. atom-flat _) (pair (number_at bound) values_at) _ _
    (Reads-pair (number_at bound) (λ n. n < bound) number (number-law bound le) (λ n h. atom-flat _) values_at IsValues values_row values-law)

abbrev CallParts : Type 0
CallParts = (ℕ × (ℕ × ValuesTree)) × List BodyTree

module _ (bound d : ℕ) (low : 1 ≤ bound) (high : bound ≤ 2 ^ 64) (body : Reader BodyTree)
    (arms : (n : ℕ) → n < bound → Covers (times n (arm_at body)) (λ bs. AllByRecursion (IsBody d) bs × (length bs ≡ n)) (flat_map arm_row)) where
  abbrev CallFits : CallParts → Type 0
  CallFits p = ((p.0.0 < 2 ^ 32) × ((p.0.1.0 < bound) × IsValues p.0.1.1)) × (AllByRecursion (IsBody d) p.1 × (length p.1 ≡ p.0.1.0))

  abbrev call_parts_tokens : CallParts → List Tok
  call_parts_tokens p = (number p.0.0 ++ (number p.0.1.0 ++ values_row p.0.1.1)) ++ flat_map arm_row p.1

  abbrev call : CallParts → BodyTree
  call x = Call x.0.0 x.0.1.1 (arms_of x.1)

  call-parts : Covers (with (call_row bound) (λ row. times row.1.0 (arm_at body))) CallFits call_parts_tokens
  call-parts = covers-with (call_row bound) _ _
      (row-covers (call_row bound) _ _ (call-row bound high) (λ p h. ends-eol (Atom (decimal p.1.0)) (values_tokens p.1.1)) (0, (0, nothing)) (omega arith, (omega (arith, low), (tt, tt))))
      (λ row. times row.1.0 (arm_at body)) (λ row bs. AllByRecursion (IsBody d) bs × (length bs ≡ row.1.0)) (λ row. flat_map arm_row) (λ row h. arms row.1.0 h.1.0)

  call-told : (x : CallParts) → CallFits x → end_row (call x) ≡ call_parts_tokens x
  call-told x h =
      let count : arm_count (arms_of x.1) ≡ x.0.1.0 = arms-count x.1 ∙ h.1.1 in
      let rows : arm_tokens (arms_of x.1) ≡ flat_map arm_row x.1 = arms-tokens x.1 in
      (λ i. (number x.0.0 ++ (number (count i) ++ values_row x.0.1.1)) ++ rows i)

  call-into : (x : CallParts) → CallFits x → IsCall bound d (call x)
  call-into x h =
      let count : arm_count (arms_of x.1) ≡ x.0.1.0 = arms-count x.1 ∙ h.1.1 in
      ((h.0.0, (omega (arith, count, h.0.1.0), h.0.1.1)), arms-fit d x.1 h.1.0)

  call-from : (b : BodyTree) → IsCall bound d b → (x : CallParts) × (call x ≡ b) × CallFits x
  call-from (Do s b) h = absurd h
  call-from (Branch c a b) h = absurd h
  call-from (Call def v bs) h = (((def, (arm_count bs, v)), bodies bs), ap (Call def v) (arms-back bs), (h.0, (bodies-fit d bs h.1, bodies-count bs)))
  call-from (Again v) h = absurd h
  call-from (Leave exit v) h = absurd h

  call-cover : Covers (call_at bound body) (IsCall bound d) end_row
  unfolding call_at
  call-cover = covers-made call (with (call_row bound) (λ row. times row.1.0 (arm_at body))) CallFits (λ x. end_row (call x))
      (covers-as _ CallFits CallFits call_parts_tokens (λ x. end_row (call x)) call-parts (λ x h. h) (λ x h. h) call-told) (IsCall bound d) end_row call-into (λ x. refl) call-from

-- ---- branches

abbrev BranchParts : Type 0
BranchParts = (CondTree × Unit {0}) × (BodyTree × ((Unit {0} × Unit {0}) × BodyTree))

module _ (d : ℕ) (body : Reader BodyTree) (inner : Covers body (IsBody d) body_tokens) where
  branch-parts : Covers (pair (pair (cond_at depth_limit) eol) (pair body (pair (mark_row (codes "else")) body)))
      (λ (p : BranchParts). (IsCond p.0.0 × Always p.0.1) × (IsBody d p.1.0 × ((Unit {0} × Unit {0}) × IsBody d p.1.1.1)))
      (λ p. (cond_tokens p.0.0 ++ Eol ∷ []) ++ (body_tokens p.1.0 ++ ((Atom (codes "else") ∷ Eol ∷ []) ++ body_tokens p.1.1.1)))
  branch-parts = covers-with (pair (cond_at depth_limit) eol) _ _ (row-cover (cond_at depth_limit) IsCond cond_tokens cond-law (λ c h. cond-flat c) (Compare Eq (Const 0) (Const 0)) zero-cond)
      (λ _. pair body (pair (mark_row (codes "else")) body)) (λ _ p. IsBody d p.0 × ((Unit {0} × Unit {0}) × IsBody d p.1.1)) (λ _ p. body_tokens p.0 ++ ((Atom (codes "else") ∷ Eol ∷ []) ++ body_tokens p.1.1)) (λ _ _.
      covers-with body _ _ inner (λ _. pair (mark_row (codes "else")) body) (λ _ p. (Unit {0} × Unit {0}) × IsBody d p.1) (λ _ p. (Atom (codes "else") ∷ Eol ∷ []) ++ body_tokens p.1) (λ _ _.
      covers-with (mark_row (codes "else")) _ _ (mark-cover (codes "else")) (λ _. body) (λ _. IsBody d) (λ _. body_tokens) (λ _ _. inner)))

  branch-cover : Covers (branch_at body) (IsBranch d) end_row
  unfolding branch_at
  branch-cover = covers-made (λ (x : BranchParts). Branch x.0.0 x.1.0 x.1.1.1) (pair (pair (cond_at depth_limit) eol) (pair body (pair (mark_row (codes "else")) body))) _ _ branch-parts (IsBranch d) end_row
      (λ x h. (h.0.0, (h.1.0, h.1.1.1))) (λ x. refl)
      (elim [
        | Do s b ↦ λ h. absurd h
        | Branch c a b ↦ λ h. (((c, tt), (a, ((tt, tt), b))), refl, ((h.0, tt), (h.1.0, ((tt, tt), h.1.1))))
        | Call def v arms ↦ λ h. absurd h
        | Again v ↦ λ h. absurd h
        | Leave exit v ↦ λ h. absurd h
      ])

  if-some : (b : BodyTree) → IsBranch d b → 0 < length (end_row b)
  if-some (Do s b) h = absurd h
  if-some (Branch c a b) h = omega (arith, length-append (cond_tokens c ++ Eol ∷ []) (body_tokens a ++ ((Atom (codes "else") ∷ Eol ∷ []) ++ body_tokens b)), some-eol (cond_tokens c))
  if-some (Call def v arms) h = absurd h
  if-some (Again v) h = absurd h
  if-some (Leave exit v) h = absurd h

  if-part : Part (keyed (codes "if") (branch_at body) refused) (IsBranch d) (EndFits d) body_tokens
  if-part = part-as _ (λ b. IsBranch d b ⊎ Never b) (IsBranch d) (EndFits d) body_tokens
      (part-keyed (codes "if") (branch_at body) refused (IsBranch d) end_row branch-cover Never (EndFits d) body_tokens (part-refused (EndFits d) body_tokens (Leave 0 nothing) (plain-end d)) if-some
      (elim [ Do s b ↦ λ h. absurd h | Branch c a b ↦ λ h. refl | Call def v arms ↦ λ h. absurd h | Again v ↦ λ h. absurd h | Leave exit v ↦ λ h. absurd h ])
      (λ b h. inr (inr (inr h))) (λ b h. absurd h))
      (λ b h. elim h [ inl k ↦ k | inr k ↦ absurd k ]) (λ b h. inl h)

-- ---- any end

abbrev if_at : ℕ → Reader BodyTree → Reader BodyTree
if_at room body = where_room room (keyed (codes "if") (branch_at body) refused)

abbrev leave_or : ℕ → Reader BodyTree → Reader BodyTree
leave_or room body = keyed (codes "leave") leave_at (if_at room body)

abbrev again_or : ℕ → Reader BodyTree → Reader BodyTree
again_or room body = keyed (codes "again") (made Again values_at) (leave_or room body)

module _ (d : ℕ) (body : Reader BodyTree) (ifs : Part (if_at d body) (IsBranch d) (EndFits d) body_tokens)
    (arms : (n : ℕ) → n < arm_bound d → Covers (times n (arm_at body)) (λ bs. AllByRecursion (IsBody d) bs × (length bs ≡ n)) (flat_map arm_row)) (low : 1 ≤ arm_bound d) (high : arm_bound d ≤ 2 ^ 64) where
  leave-part : Part (leave_or d body) (λ b. IsLeave b ⊎ IsBranch d b) (EndFits d) body_tokens
  leave-part = part-keyed (codes "leave") leave_at (if_at d body) IsLeave end_row leave-cover (IsBranch d) (EndFits d) body_tokens ifs
      (elim [ Do s b ↦ λ h. absurd h | Branch c a b ↦ λ h. absurd h | Call def v bs ↦ λ h. absurd h | Again v ↦ λ h. absurd h | Leave exit v ↦ λ h. omega arith ])
      (elim [ Do s b ↦ λ h. absurd h | Branch c a b ↦ λ h. absurd h | Call def v bs ↦ λ h. absurd h | Again v ↦ λ h. absurd h | Leave exit v ↦ λ h. refl ])
      (λ b h. inr (inr (inl h)))
      (elim [ Do s b ↦ λ h us. absurd h | Branch c a b ↦ λ h us. refl | Call def v bs ↦ λ h us. absurd h | Again v ↦ λ h us. absurd h | Leave exit v ↦ λ h us. absurd h ])

  abbrev AfterAgain : BodyTree → Type 0
  AfterAgain b = IsLeave b ⊎ IsBranch d b

  again-apart : (b : BodyTree) → AfterAgain b → (us : List Tok) → IsElse (codes "again") (made Again values_at) (leave_or d body) (body_tokens b ++ us)
  again-apart (Do s b) (inl h) us = absurd h
  again-apart (Do s b) (inr h) us = absurd h
  again-apart (Branch c a b) h us = refl
  again-apart (Call def v bs) (inl h) us = absurd h
  again-apart (Call def v bs) (inr h) us = absurd h
  again-apart (Again v) (inl h) us = absurd h
  again-apart (Again v) (inr h) us = absurd h
  again-apart (Leave exit v) h us = refl

  again-part : Part (again_or d body) (λ b. IsAgain b ⊎ AfterAgain b) (EndFits d) body_tokens
  again-part = part-keyed (codes "again") (made Again values_at) (leave_or d body) IsAgain end_row again-cover AfterAgain (EndFits d) body_tokens leave-part
      (elim [ Do s b ↦ λ h. absurd h | Branch c a b ↦ λ h. absurd h | Call def v bs ↦ λ h. absurd h | Again v ↦ λ h. some-eol (values_tokens v) | Leave exit v ↦ λ h. absurd h ])
      (elim [ Do s b ↦ λ h. absurd h | Branch c a b ↦ λ h. absurd h | Call def v bs ↦ λ h. absurd h | Again v ↦ λ h. refl | Leave exit v ↦ λ h. absurd h ])
      (λ b h. inr (inl h)) again-apart

  abbrev AfterCall : BodyTree → Type 0
  AfterCall b = IsAgain b ⊎ AfterAgain b

  call-apart : (b : BodyTree) → AfterCall b → (us : List Tok) → IsElse (codes "call") (call_at (arm_bound d) body) (again_or d body) (body_tokens b ++ us)
  call-apart (Do s b) (inl h) us = absurd h
  call-apart (Do s b) (inr (inl h)) us = absurd h
  call-apart (Do s b) (inr (inr h)) us = absurd h
  call-apart (Branch c a b) h us = refl
  call-apart (Call def v bs) (inl h) us = absurd h
  call-apart (Call def v bs) (inr (inl h)) us = absurd h
  call-apart (Call def v bs) (inr (inr h)) us = absurd h
  call-apart (Again v) h us = refl
  call-apart (Leave exit v) h us = refl

  pub end-cover : Covers (end_at d body) (EndFits d) body_tokens
  unfolding end_at
  end-cover = covers-part (end_at d body) (EndFits d) (EndFits d) body_tokens
      (part-keyed (codes "call") (call_at (arm_bound d) body) (again_or d body) (IsCall (arm_bound d) d) end_row (call-cover (arm_bound d) d low high body arms) AfterCall (EndFits d) body_tokens again-part
      (elim [ Do s b ↦ λ h. absurd h | Branch c a b ↦ λ h. absurd h | Call def v bs ↦ λ h. omega arith | Again v ↦ λ h. absurd h | Leave exit v ↦ λ h. absurd h ])
      (elim [ Do s b ↦ λ h. absurd h | Branch c a b ↦ λ h. absurd h | Call def v bs ↦ λ h. refl | Again v ↦ λ h. absurd h | Leave exit v ↦ λ h. absurd h ])
      (λ b h. inl h) call-apart)
      (λ b h. h) (λ b h. h) (Leave 0 nothing) (plain-end d)

-- ---- bodies

end-quiet : (d : ℕ) (b : BodyTree) → EndFits d b → (us : List Tok) → goes_on is_step (body_tokens b ++ us) ≡ false
end-quiet d (Do s b) (inl h) us = absurd h
end-quiet d (Do s b) (inr (inl h)) us = absurd h
end-quiet d (Do s b) (inr (inr (inl h))) us = absurd h
end-quiet d (Do s b) (inr (inr (inr h))) us = absurd h
end-quiet d (Branch c a b) h us = refl
end-quiet d (Call def v bs) h us = refl
end-quiet d (Again v) h us = refl
end-quiet d (Leave exit v) h us = refl

steps-tokens : (ss : List StepTree) (b : BodyTree) → body_tokens (with_steps ss b) ≡ flat_map step_tokens ss ++ body_tokens b
steps-tokens [] b = refl
steps-tokens (s ∷ ss) b = ap (λ (v : List Tok). step_tokens s ++ v) (steps-tokens ss b) ∙ sym (append_assoc (step_tokens s) (flat_map step_tokens ss) (body_tokens b))

-- there is room
room-left : (d : ℕ) → eqb (suc d) 0 ≡ false
room-left d = grind (arith, nat_tests)

bound-is : (d : ℕ) → arm_bound (suc d) ≡ def_exit_limit + 1
bound-is d = ap (λ (b : Bool). cond b 1 (def_exit_limit + 1)) (room-left d)

if-is : (d : ℕ) (body : Reader BodyTree) → if_at (suc d) body ≡ keyed (codes "if") (branch_at body) refused
if-is d body = ap (λ (b : Bool). λ (ts : List Tok). cond b (Err ts) (keyed (codes "if") (branch_at body) refused ts)) (room-left d)

few-arms : (d : ℕ) (n : ℕ) → n < arm_bound d → n ≤ def_exit_limit
few-arms zero n lt = omega (arith, lt)
few-arms (suc d) n lt = omega (arith, lt, bound-is d)

some-bound : (d : ℕ) → 1 ≤ arm_bound d
some-bound zero = omega arith
some-bound (suc d) = omega (arith, bound-is d)

small-bound : (d : ℕ) → arm_bound d ≤ 2 ^ 64
small-bound zero = omega arith
small-bound (suc d) = omega (arith, bound-is d)

end-within : (d : ℕ) (b : BodyTree) → EndFits d b → IsBody (suc d) b
end-within d (Do s b) (inl h) = absurd h
end-within d (Do s b) (inr (inl h)) = absurd h
end-within d (Do s b) (inr (inr (inl h))) = absurd h
end-within d (Do s b) (inr (inr (inr h))) = absurd h
end-within d (Branch c a b) (inl h) = absurd h
end-within d (Branch c a b) (inr (inl h)) = absurd h
end-within d (Branch c a b) (inr (inr (inl h))) = absurd h
end-within d (Branch c a b) (inr (inr (inr h))) = (h.0, h.1.0, h.1.1)
end-within d (Call def v bs) (inl h) = (h.0.0, few-arms d (arm_count bs) h.0.1.0, h.0.1.1, h.1)
end-within d (Call def v bs) (inr (inl h)) = absurd h
end-within d (Call def v bs) (inr (inr (inl h))) = absurd h
end-within d (Call def v bs) (inr (inr (inr h))) = absurd h
end-within d (Again v) (inl h) = absurd h
end-within d (Again v) (inr (inl h)) = h
end-within d (Again v) (inr (inr (inl h))) = absurd h
end-within d (Again v) (inr (inr (inr h))) = absurd h
end-within d (Leave exit v) (inl h) = absurd h
end-within d (Leave exit v) (inr (inl h)) = absurd h
end-within d (Leave exit v) (inr (inr (inl h))) = h
end-within d (Leave exit v) (inr (inr (inr h))) = absurd h

steps-within : (d : ℕ) (ss : List StepTree) (b : BodyTree) → AllByRecursion IsStep ss → EndFits d b → IsBody (suc d) (with_steps ss b)
steps-within d [] b h k = end-within d b k
steps-within d (s ∷ ss) b h k = (h.0, steps-within d ss b h.1 k)

bound-arms : (d : ℕ) (bs : ArmTrees) → arm_count bs ≤ def_exit_limit → AreArms d bs → arm_count bs < arm_bound d
bound-arms zero bs few h = omega (arith, no-arms bs h)
bound-arms (suc d) bs few h = omega (arith, few, bound-is d)

abbrev Parts : Type 0
Parts = List StepTree × BodyTree

abbrev PartsFit : ℕ → Parts → Type 0
PartsFit d p = AllByRecursion IsStep p.0 × EndFits d p.1

parted : (d : ℕ) (b : BodyTree) → IsBody (suc d) b → (p : Parts) × (with_steps p.0 p.1 ≡ b) × PartsFit d p
parted d (Do s b) h = let r = parted d b h.1 in ((s ∷ r.0.0, r.0.1), ap (Do s) r.1, ((h.0, r.2.0), r.2.1))
parted d (Branch c a b) h = (([], Branch c a b), refl, (tt, inr (inr (inr (h.0, (h.1, h.2))))))
parted d (Call def v bs) h = (([], Call def v bs), refl, (tt, inl ((h.0, (bound-arms d bs h.1 h.3, h.2)), h.3)))
parted d (Again v) h = (([], Again v), refl, (tt, inr (inl h)))
parted d (Leave exit v) h = (([], Leave exit v), refl, (tt, inr (inr (inl h))))

body-over : (d : ℕ) → Covers (end_at d (body_at d)) (EndFits d) body_tokens → Covers (body_at (suc d)) (IsBody (suc d)) body_tokens
unfolding body_at
body-over d ends = covers-made (λ (x : Parts). with_steps x.0 x.1) (pair (star is_step step_at) (end_at d (body_at d))) _ _
    (covers-list is_step step_at step-shrinks IsStep step_tokens step-cover (λ s h us. step-begins s us) (end_at d (body_at d)) (EndFits d) body_tokens ends (end-quiet d))
    (IsBody (suc d)) body_tokens (λ x h. steps-within d x.0 x.1 h.0 h.1) (λ x. steps-tokens x.0 x.1) (parted d)

times-zero : (n : ℕ) (r : Reader BodyTree) (ts : List Tok) → n ≡ 0 → times n r ts ≡ Ok ([], ts)
unfolding times
times-zero zero r ts e = refl
times-zero (suc n) r ts e = absurd (omega (arith, e))

no-arm-cover : (r : Reader BodyTree) (n : ℕ) → n ≡ 0 → Covers (times n r) (λ bs. AllByRecursion (IsBody 0) bs × (length bs ≡ n)) (flat_map arm_row)
no-arm-cover r n e = covers-nothing (times n r) (λ bs. AllByRecursion (IsBody 0) bs × (length bs ≡ n)) (flat_map arm_row) [] (tt, sym e) refl only (λ ts. times-zero n r ts e)
  where
    only : (bs : List BodyTree) → AllByRecursion (IsBody 0) bs × (length bs ≡ n) → [] ≡ bs
    only [] h = refl
    only (b ∷ bs) h = absurd (omega (arith, h.1, e))

no-branch : (b : BodyTree) → IsBranch zero b → Never b
no-branch (Do s b) h = h
no-branch (Branch c a b) h = h.1.0
no-branch (Call def v bs) h = h
no-branch (Again v) h = h
no-branch (Leave exit v) h = h

no-if : Part (if_at zero (body_at zero)) (IsBranch zero) (EndFits zero) body_tokens
no-if = part-as refused Never (IsBranch zero) (EndFits zero) body_tokens (part-refused (EndFits zero) body_tokens (Leave 0 nothing) (plain-end zero)) (λ b h. absurd h) no-branch

ends-last : Covers (end_at zero (body_at zero)) (EndFits zero) body_tokens
ends-last = end-cover zero (body_at zero) no-if (λ n lt. no-arm-cover (arm_at (body_at zero)) n (omega (arith, lt))) (some-bound zero) (small-bound zero)

ends-more : (d : ℕ) → Covers (body_at (suc d)) (IsBody (suc d)) body_tokens → Covers (end_at (suc d) (body_at (suc d))) (EndFits (suc d)) body_tokens
ends-more d inner = end-cover (suc d) (body_at (suc d)) (subst (λ (r : Reader BodyTree). Part r (IsBranch (suc d)) (EndFits (suc d)) body_tokens) (sym (if-is d (body_at (suc d)))) (if-part (suc d) (body_at (suc d)) inner))
    (λ n lt. covers-times (arm_at (body_at (suc d))) (IsBody (suc d)) arm_row (arm-cover (suc d) (body_at (suc d)) inner) n) (some-bound (suc d)) (small-bound (suc d))

-- bodies of each nesting
pub body-law : (d : ℕ) → Covers (body_at (suc d)) (IsBody (suc d)) body_tokens
body-law zero = body-over zero ends-last
body-law (suc d) = body-over (suc d) (ends-more d (body-law d))
