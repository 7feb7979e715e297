use Rattle.std.proofs.Common.{ℕ, List, sym, ◌∙◌, subst, map}
use Rattle.word_terms.specs.Tree.{WordTree, word_tree}
use Rattle.sep_assert.specs.Tree.{register_tree}
use Rattle.held_terms.specs.Terms.{AreTermsPutIn}
use Rattle.held_terms.specs.inner.Put.{AreRegistersPut}
use Rattle.held_terms.proofs.GrowthLemmas.{extends_next}
use Rattle.proof_v2.proofs.FurtherPut.{further-next, held_words, listed-next, register-next, word-next}
use Rattle.proof_v2.proofs.further.put_further_registers.Goals as goal

pub loop-register-preserved-then-is_listed : goal.loop-register-preserved-then-is_listed
loop-register-preserved-then-is_listed g c =
    let own = map register_tree c.args.own.now in
    let all = c.args.all.now in
    let i = c.loop-register.register-index in
    let now = c.loop-register.arena in
    let same = listed-next own register_tree all i c.register-item.result c.loop-register-test.true c.register-item.is (sym c.is_listed.ensures ∙ c.if-is_listed.true) in
    record {
      grows = c.loop-register.invariant.grows;
      put = subst (λ (ts : List (ℕ × WordTree)). AreRegistersPut now c.loop-register.numbers ts) (sym same) c.loop-register.invariant.put;
      order = subst (λ (ts : List (ℕ × WordTree)). AreTermsPutIn c.args.arena.now (held_words ts) now) (sym same) c.loop-register.invariant.order;
    }

pub loop-register-preserved : goal.loop-register-preserved
loop-register-preserved g c =
    let own = map register_tree c.args.own.now in
    let all = c.args.all.now in
    let i = c.loop-register.register-index in
    let before = c.loop-register.arena in
    let now = c.put_word.new.arena in
    let start = c.args.arena.now in
    let x = c.register-item.result in
    let same = further-next own register_tree all i x c.loop-register-test.true c.register-item.is (sym c.is_listed.ensures ∙ c.if-is_listed.false) in
    record {
      grows = extends_next start before now c.loop-register.invariant.grows c.put_word.ensures.grows;
      put = register-next before now c.loop-register.numbers _ _ _ x.0 c.in_ok-k.k (word_tree x.1) same c.put_word.ensures.grows c.in_ok-push.ensures.ok c.loop-register.invariant.put c.in_ok-k.ensures.put;
      order = word-next start _ _ before x.0 (word_tree x.1) now same c.loop-register.invariant.order c.in_ok-k.ensures.order;
    }
