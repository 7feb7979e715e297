use Rattle.std.proofs.Common.{◌≡◌, ◌++◌, ◌∷◌, [], List, ℕ, Contains, string_bytes, true≢false, map, sym, ap, subst, ◌∙◌}
use Rattle.group_text.specs.Limits.{IsName}
use Rattle.mcdec_answers.specs.Command.{AreNames}
use Rattle.mcdec_answers.proofs.NameWords.{name-more, name-twice, not-a-name}
use Rattle.mcdec_answers.proofs.command.read_names.Goals as goal

pub returns-then-not-is_name : goal.returns-then-not-is_name
returns-then-not-is_name c =
    not-a-name c.args.words.now c.loop-word.word-index c.word-item.result c.loop-word-test.true c.word-item.is
    (λ is. true≢false (sym (c.is_name.ensures.1 (subst IsName (sym c.as_bytes.ensures.value) is)) ∙ c.if-not-is_name.true))

pub returns-then-not-branch : goal.returns-then-not-branch
returns-then-not-branch c are =
    true≢false (sym (c.in_ok-is_new.ensures.new.1 (λ there.
    name-twice c.args.words.now c.loop-word.word-index c.word-item.result c.loop-word-test.true c.word-item.is
    (subst (λ (ns : List (List ℕ)). Contains ns (string_bytes c.word-item.result)) (c.loop-word.invariant.2 ∙ c.loop-word.invariant.0)
    (subst (λ (name : List ℕ). Contains (map (λ k. k.now) c.loop-word.seen.keys) name) c.as_str.ensures.value there))
    are))
    ∙ c.if-not-branch.true)

pub loop-word-preserved : goal.loop-word-preserved
loop-word-preserved c =
    let item = c.in_ok-from_slice.ensures ∙ c.as_bytes-in-loop-word.ensures.value in
    let pushed : c.push.new.self ≡ c.loop-word.names ++ string_bytes c.word-item.result ∷ [] = c.in_ok-push.ensures.ok ∙ ap (λ name. c.loop-word.names ++ name ∷ []) item in
    let seen = c.in_ok-is_new.ensures.seen c.if-not-branch.false ∙ ap (λ ns. ns ++ c.as_str.result.now ∷ []) c.loop-word.invariant.2 ∙ ap (λ name. c.loop-word.names ++ name ∷ []) c.as_str.ensures.value in
    let more =
    name-more c.args.words.now c.loop-word.word-index c.word-item.result c.loop-word-test.true c.word-item.is c.loop-word.names c.loop-word.invariant.0 c.loop-word.invariant.1
    (subst IsName c.as_bytes.ensures.value (c.is_name.ensures.0 c.if-not-is_name.false))
    (λ there. c.in_ok-is_new.ensures.new.0 c.if-not-branch.false
    (subst (λ (ns : List (List ℕ)). Contains ns c.as_str.result.now) (sym c.loop-word.invariant.2) (subst (λ (name : List ℕ). Contains c.loop-word.names name) (sym c.as_str.ensures.value) there))) in
    (pushed ∙ more.0, subst AreNames (sym pushed) more.1, seen ∙ sym pushed)
