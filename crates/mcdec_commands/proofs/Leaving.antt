-- What the names hold after an answer to a command that writes a file.
use Rattle.std.proofs.Common.{◌≡◌, ◌≢◌, ℕ, List, length, take, Option, Some, None, Ok, Err, refl, sym, ap, subst, ◌∙◌, inl, inr, ◌⊎◌, ⊎_elim, arith}
use Rattle.std.specs.Prelude.{IfSome}
use Rattle.std.proofs.lemmas.Bool.{cases_order}
use Rattle.std.proofs.lemmas.List.{take_all}
use Rattle.mc_shelf.specs.Fault.{WhereTold}
use Rattle.mc_shelf.specs.Shelf.{Contents, TellsName}
use Rattle.mc_shelf.specs.declared.sink.Stop.{Stop}
use Rattle.mcdec_answers.specs.declared.answer.Answer.{Answer}
use Rattle.mcdec_answers.specs.Printed.{IsDelivered, IsPrinted, status}
use Rattle.mcdec_answers.specs.Command.{Command, Words, output_of}
use Rattle.mcdec_commands.specs.Answer.{KeepsNames}
use Rattle.mcdec_commands.specs.Output.{HoldsAll, HoldsFront, IsOutput, LeavesOut}
use Rattle.mcdec_commands.specs.inner.Writing.{IsTold, Writes, WritesOut}
use Rattle.mcdec_answers.proofs.OneCommand.{words-unique}
use Rattle.mcdec_answers.proofs.Prints.{told_same, where_told}

pub is-told : (told : Option Contents) (name : List ℕ) → TellsName told name → IsTold told
is-told None name h = h
is-told (Some files) name h = tt

pub has-output : (out : List ℕ) → Some out ≢ None
has-output out e = cc

-- ---- one file

equal-or : (a b : ℕ) → (a ≡ b) ⊎ (a ≢ b)
equal-or a b = ⊎_elim inl (λ o. inr (λ e. ⊎_elim (λ lt. omega (arith, lt, e)) (λ gt. omega (arith, gt, e)) o)) (cases_order a b)

module _ (IsText : Answer → List ℕ → Type 0) (IsGiven : Answer → Type 0) (before now : Option (List ℕ)) where
  pub front-leaves : (n : ℕ) → (n ≡ 5) ⊎ (n ≡ 6) → HoldsFront IsText before now → LeavesOut IsText IsGiven n before now
  front-leaves n (inl five) h = record { whole = λ e. absurd (omega (arith, five, e)); front = λ e. h; same = λ z a b. absurd (a five) }
  front-leaves n (inr six) h = record { whole = λ e. absurd (omega (arith, six, e)); front = λ e. h; same = λ z a b. absurd (b six) }

  pub whole-leaves : (n : ℕ) → n ≡ 0 → HoldsAll IsText IsGiven now → LeavesOut IsText IsGiven n before now
  whole-leaves n none h = record {
    whole = λ e. h;
    front = λ e. absurd (⊎_elim (λ five. omega (arith, none, five)) (λ six. omega (arith, none, six)) e);
    same = λ z a b. absurd (z none);
  }

  -- all of a text is a front of it
  whole-front : HoldsAll IsText IsGiven now → HoldsFront IsText before now
  whole-front (a, text, given, is, held) = inr (a, text, is, length text, held ∙ ap Some (sym (take_all (length text) text (omega arith))))

  -- an answer that was not printed to its end
  cut-short : (n : ℕ) → LeavesOut IsText IsGiven n before now → HoldsFront IsText before now
  cut-short n h =
      ⊎_elim (λ e. whole-front (h.whole e))
      (λ some. ⊎_elim (λ e. h.front (inl e)) (λ a. ⊎_elim (λ e. h.front (inr e)) (λ b. inl (h.same some a b)) (equal-or n 6)) (equal-or n 5)) (equal-or n 0)

-- what is told of the answer is told of what is printed
module _ (IsText : Answer → List ℕ → Type 0) (before now : Option (List ℕ)) (a : Answer) (result : ℕ) (failed : Type 0) (old new : Option (List ℕ)) where
  printed-whole : IsPrinted a result old new → HoldsAll IsText (λ b. b ≡ a) now → HoldsAll IsText (λ b. IsPrinted b result old new) now
  printed-whole d (b, text, same, is, held) = (b, text, subst (λ (x : Answer). IsPrinted x result old new) (sym same) d, is, held)

  delivered-leaves : IsDelivered a result failed old new → LeavesOut IsText (λ b. b ≡ a) (status a) before now → LeavesOut IsText (λ b. IsPrinted b result old new) result before now
  delivered-leaves (inl d) h = record {
    whole = λ e. printed-whole d (h.whole (sym d.0 ∙ e));
    front = λ e. h.front (subst (λ (n : ℕ). (n ≡ 5) ⊎ (n ≡ 6)) d.0 e);
    same = λ z x y. h.same (λ e. z (d.0 ∙ e)) (λ e. x (d.0 ∙ e)) (λ e. y (d.0 ∙ e));
  }
  delivered-leaves (inr (inl (five, f), d)) h = front-leaves IsText (λ b. IsPrinted b result old new) before now result (inl five) (cut-short IsText (λ b. b ≡ a) before now (status a) h)
  delivered-leaves (inr (inr six, d)) h = front-leaves IsText (λ b. IsPrinted b result old new) before now result (inr six) (cut-short IsText (λ b. b ≡ a) before now (status a) h)

-- the file holds what it held
alone : (IsText : Answer → List ℕ → Type 0) (IsGiven : Answer → Type 0) (n : ℕ) (held : Option (List ℕ)) → (n ≡ 0 → ⊥) → LeavesOut IsText IsGiven n held held
alone IsText IsGiven n held some = record { whole = λ e. absurd (some e); front = λ e. inl refl; same = λ z a b. refl }

-- each text of the one kind is of the other
module _ (P Q : Answer → List ℕ → Type 0) (IsGiven : Answer → Type 0) (n : ℕ) (before now : Option (List ℕ)) (also : (b : Answer) (text : List ℕ) → P b text → Q b text) where
  whole-also : HoldsAll P IsGiven now → HoldsAll Q IsGiven now
  whole-also (b, text, given, is, held) = (b, text, given, also b text is, held)

  front-also : HoldsFront P before now → HoldsFront Q before now
  front-also (inl same) = inl same
  front-also (inr (b, text, is, kept, held)) = inr (b, text, also b text is, kept, held)

  leaves-also : LeavesOut P IsGiven n before now → LeavesOut Q IsGiven n before now
  leaves-also h = record { whole = λ e. whole-also (h.whole e); front = λ e. front-also (h.front e); same = h.same }

-- ---- all names

-- the text, and the answer that tells of it
abbrev pub IsThis : Answer → List ℕ → Answer → List ℕ → Type 0
IsThis told text b t = (b ≡ told) × (t ≡ text)

-- a text was written, or a front of it
pub all-of-text : (out text : List ℕ) (told : Answer) (o n : Option Contents) → status told ≡ 0 → WhereTold o n (Writes (Ok tt) out text) → WhereTold o n (WritesOut (λ files. IsThis told text) out told)
all-of-text out text told o n none h =
    where_told o n (Writes (Ok tt) out text) (WritesOut (λ files. IsThis told text) out told)
    (λ x y w. record { output = whole-leaves (IsThis told text) (λ b. b ≡ told) (x out) (y out) (status told) none (told, text, refl, (refl, refl), w.named); others = w.others }) h

pub front-of-text : (out text : List ℕ) (told : Answer) (e : Stop) (a : Answer) (o n : Option Contents) → (status a ≡ 5) ⊎ (status a ≡ 6) → WhereTold o n (Writes (Err e) out text)
    → WhereTold o n (WritesOut (λ files. IsThis told text) out a)
front-of-text out text told e a o n some h =
    where_told o n (Writes (Err e) out text) (WritesOut (λ files. IsThis told text) out a)
    (λ x y w. record { output = front-leaves (IsThis told text) (λ b. b ≡ a) (x out) (y out) (status a) some (front (x out) (y out) w.named); others = w.others }) h
  where
    front : (before now : Option (List ℕ)) → (now ≡ before) ⊎ ((kept : ℕ) × (now ≡ Some (take kept text))) → HoldsFront (IsThis told text) before now
    front before now (inl same) = inl same
    front before now (inr more) = inr (told, text, (refl, refl), more.0, more.1)

module _ (IsText : Contents → Answer → List ℕ → Type 0) (out : List ℕ) (a : Answer) where
  -- nothing was written
  pub nothing-written : (o n : Option Contents) → n ≡ o → (status a ≡ 0 → ⊥) → WhereTold o n (WritesOut IsText out a)
  nothing-written o n same some =
      subst (λ (m : Option Contents). WhereTold o m (WritesOut IsText out a)) (sym same)
      (told_same o (WritesOut IsText out a) (λ x. record { output = alone (IsText x) (λ b. b ≡ a) (status a) (x out) some; others = λ other apart. refl }))

  -- what was written is such a text, by what the names hold
  pub text-by : (told : Answer) (text : List ℕ) (Held : Contents → Type 0) → ((files : Contents) → Held files → IsText files told text) → (o n : Option Contents) → IfSome o Held
      → WhereTold o n (WritesOut (λ files. IsThis told text) out a) → WhereTold o n (WritesOut IsText out a)
  text-by told text Held is None None held h = tt
  text-by told text Held is None (Some y) held h = h
  text-by told text Held is (Some x) None held h = h
  text-by told text Held is (Some x) (Some y) held h = record {
    output = leaves-also (IsThis told text) (IsText x) (λ b. b ≡ a) (status a) (x out) (y out) (λ b t e. subst (λ (s : List ℕ). IsText x b s) (sym e.1) (subst (λ (c : Answer). IsText x c text) (sym e.0) (is x held))) h.output;
    others = h.others;
  }

  -- .. since a name holds this file
  pub text-written : (told : Answer) (name file text : List ℕ) → ((files : Contents) → files name ≡ Some file → IsText files told text) → (o n : Option Contents)
      → IfSome o (λ files. files name ≡ Some file) → WhereTold o n (WritesOut (λ files. IsThis told text) out a) → WhereTold o n (WritesOut IsText out a)
  text-written told name file text is o n held h = text-by told text (λ files. files name ≡ Some file) is o n held h

-- ---- how the top call ends

abbrev pub LeavesAll : List (List ℕ) → (Answer → Type 0) → ℕ → Contents → Contents → Type 0
LeavesAll ws IsGiven n x y = (c : Command) (out : List ℕ) → Words ws c → output_of c ≡ Some out → LeavesOut (IsOutput x c) IsGiven n (x out) (y out)

pub written-given : (ws : List (List ℕ)) (a : Answer) (result : ℕ) (failed : Type 0) (old new : Option (List ℕ)) → IsDelivered a result failed old new → (o n : Option Contents)
    → WhereTold o n (LeavesAll ws (λ b. b ≡ a) (status a)) → WhereTold o n (LeavesAll ws (λ b. IsPrinted b result old new) result)
written-given ws a result failed old new d o n h =
    where_told o n (LeavesAll ws (λ b. b ≡ a) (status a)) (LeavesAll ws (λ b. IsPrinted b result old new) result)
    (λ x y all c out w e. delivered-leaves (IsOutput x c) (x out) (y out) a result failed old new d (all c out w e)) h

-- the words are those of a command that writes this file
same-output : (out out' : List ℕ) → Some out ≡ Some out' → out ≡ out'
same-output out out' e = cc

module _ (ws : List (List ℕ)) (c : Command) (out : List ℕ) (w : Words ws c) (is : output_of c ≡ Some out) (a : Answer) where
  pub written-by : (o n : Option Contents) → WhereTold o n (WritesOut (λ x. IsOutput x c) out a) → WhereTold o n (LeavesAll ws (λ b. b ≡ a) (status a))
  written-by o n h =
      where_told o n (WritesOut (λ x. IsOutput x c) out a) (LeavesAll ws (λ b. b ≡ a) (status a))
      (λ x y out_is d out' v e.
      (let same : c ≡ d = words-unique ws c d w v in
      let at : out ≡ out' = same-output out out' (sym is ∙ ap output_of same ∙ e) in
      subst (λ k. LeavesOut (IsOutput x k) (λ b. b ≡ a) (status a) (x out') (y out')) same (subst (λ p. LeavesOut (IsOutput x c) (λ b. b ≡ a) (status a) (x p) (y p)) at out_is.output))) h

  pub others-kept : (o n : Option Contents) → WhereTold o n (WritesOut (λ x. IsOutput x c) out a) → WhereTold o n (KeepsNames ws)
  others-kept o n h = where_told o n (WritesOut (λ x. IsOutput x c) out a) (KeepsNames ws) (λ x y out_is name apart. out_is.others name (λ e. apart c w (is ∙ ap Some (sym e)))) h

no-output : (out : List ℕ) → None ≡ Some out → ⊥
no-output out e = cc

-- the command that the words are writes no file: nothing is claimed of one
pub none-written : (ws : List (List ℕ)) (c : Command) → Words ws c → output_of c ≡ None → (IsGiven : Answer → Type 0) (result : ℕ) (o n : Option Contents) → n ≡ o → WhereTold o n (LeavesAll ws IsGiven result)
none-written ws c w none IsGiven result o n same =
    subst (λ (m : Option Contents). WhereTold o m (LeavesAll ws IsGiven result)) (sym same)
    (told_same o (LeavesAll ws IsGiven result) (λ x d out v e. absurd (no-output out (sym none ∙ ap output_of (words-unique ws c d w v) ∙ e))))
