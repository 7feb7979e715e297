use Rattle.std.proofs.Common.{◌≡◌, ℕ, ◌%◌, Bool, true, false, cond, Some, None, refl, ◌∙◌, sym, ap}
use Rattle.std.specs.FinMap.{get}
use Rattle.rv_words.specs.Bytes.{inside, load}
use Rattle.rvc.specs.Number.{is_word}
use Rattle.rvc.proofs.NumberLemmas.{first_number}
use Rattle.rv_machine.proofs.access.fetch.Goals as goal

present : (t : Bool) (x w : ℕ) → cond t (Some x) None ≡ Some w → (t ≡ true) × (x ≡ w)
present true x w e = (refl, cc)
present false x w e = absurd (cc)

pub returns-else-is_word : goal.returns-else-is_word
returns-else-is_word c =
    let m = get c.args.memory.now in
    let a = c.args.a in
    let is = present (inside 4 m a) (load 4 m a) c.in-Some.word (sym c.number.ensures ∙ c.in-Some.is) in
    ap (λ w. Some (w % 65536)) (sym is.1)
    ∙ sym (first_number m a c.law_of_values.ensures.bytes is.0 (ap is_word is.1 ∙ sym c.is_word.ensures ∙ c.if-is_word.false))
