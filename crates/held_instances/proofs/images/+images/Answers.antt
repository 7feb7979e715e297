use Rattle.std.proofs.Common.{◌+◌, ◌≤◌, refl, sym, subst, ◌∙◌, arith, rules}
use Rattle.term_arena.specs.declared.node.Node.TheVariants as node
use Rattle.held_instances.specs.Image.{IsReady, Known}
use Rattle.held_instances.proofs.ImageLemmas.{constant_image, get_stays, image_stays, ready_begun, ready_kept, ready_mem, ready_word}
use Rattle.held_terms.specs.Subterms.{HasTerm}
use Rattle.held_terms.proofs.GrowthLemmas.{extends_next}
use Rattle.held_terms.proofs.ChildLemmas.{children_under}
use Rattle.held_instances.proofs.ImagingLemmas.{ended_kept, ended_none, free_begun, imaged_begun, imaged_child, imaged_failed, imaged_first, imaged_kept, imaged_made, imaged_none, imaged_same, known_image, not_begun, one_longer}
use Rattle.held_instances.proofs.images.+images.Goals as goal

pub image_over-returns-in-Const-clause-image : goal.image_over-returns-in-Const-clause-image
image_over-returns-in-Const-clause-image g t c = constant_image c.args.arena.now _ c.args.x _ c.in-Const.ensures.tree

pub image_over-returns-in-WordVar-clause-image : goal.image_over-returns-in-WordVar-clause-image
image_over-returns-in-WordVar-clause-image g t c = ready_word c.args.arena.now c.args.words.now c.args.mems.now c.args.known.now c.args.x c.in-WordVar.i _ c.requires.ready c.in-WordVar.ensures.tree c.number_for.ensures

pub image_over-returns-in-MemVar-clause-image : goal.image_over-returns-in-MemVar-clause-image
image_over-returns-in-MemVar-clause-image g t c = ready_mem c.args.arena.now c.args.words.now c.args.mems.now c.args.known.now c.args.x c.in-MemVar.i _ c.requires.ready c.in-MemVar.ensures.tree c.number_for-in-MemVar.ensures

pub image_over-made-requires-in-Store-clause-node : goal.image_over-made-requires-in-Store-clause-node
image_over-made-requires-in-Store-clause-node g t c =
    let n1 = c.image-in-Store.new.arena in
    let n2 = c.image-in-Store-2.new.arena in
    let n3 = c.image-in-Store-3.new.arena in
    let words = c.args.words.now in
    let mems = c.args.mems.now in (
      refl,
      image_stays n2 n3 words mems c.image-in-Store-2.new.known _ _ c.image-in-Store-2.ensures.ready c.image-in-Store-3.ensures.grows
          (image_stays n1 n2 words mems c.image-in-Store.new.known _ _ c.image-in-Store.ensures.ready c.image-in-Store-2.ensures.grows c.in_ok-m-in-Store.ensures.image),
      image_stays n2 n3 words mems c.image-in-Store-2.new.known _ _ c.image-in-Store-2.ensures.ready c.image-in-Store-3.ensures.grows c.in_ok-a-in-Store.ensures.image,
      c.in_ok-v-in-Store.ensures.image,
    )

pub image_over-made-requires-in-Compare-clause-at : goal.image_over-made-requires-in-Compare-clause-at
image_over-made-requires-in-Compare-clause-at g t c =
    get_stays c.image-in-Compare.new.arena _ c.args.x _ c.image-in-Compare-2.ensures.grows (get_stays c.args.arena.now _ c.args.x _ c.image-in-Compare.ensures.grows c.in-Compare.ensures.node)

pub image_over-made-requires-in-Inside-clause-at : goal.image_over-made-requires-in-Inside-clause-at
image_over-made-requires-in-Inside-clause-at g t c =
    get_stays c.image-in-Inside.new.arena _ c.args.x _ c.image-in-Inside-2.ensures.grows (get_stays c.args.arena.now _ c.args.x _ c.image-in-Inside.ensures.grows c.in-Inside.ensures.node)

pub image_over-returns-in_err-a-in-Bin-clause-imaged : goal.image_over-returns-in_err-a-in-Bin-clause-imaged
image_over-returns-in_err-a-in-Bin-clause-imaged g t c =
    imaged_failed c.args.arena.now c.image.new.arena (HasTerm c.args.arena.now c.args.x) c.args.known.now c.image.new.known c.args.steps.now c.image.new.steps
    (imaged_first c.args.arena.now c.image.new.arena c.args.x c.in-Bin.a c.args.known.now c.image.new.known c.args.steps.now c.node-n.new.steps c.image.new.steps c.node-n.ensures.steps (children_under c.args.arena.now c.args.x (node.Bin c.in-Bin.op c.in-Bin.a c.in-Bin.b) c.in-Bin.ensures.tree c.in-Bin.ensures.children).0 c.image.ensures.imaged)

pub image_over-returns-in_err-b-in-Bin-clause-imaged : goal.image_over-returns-in_err-b-in-Bin-clause-imaged
image_over-returns-in_err-b-in-Bin-clause-imaged g t c =
    imaged_failed c.args.arena.now c.image-in-Bin.new.arena (HasTerm c.args.arena.now c.args.x) c.args.known.now c.image-in-Bin.new.known c.args.steps.now c.image-in-Bin.new.steps
    (imaged_child c.args.arena.now c.image.new.arena c.image-in-Bin.new.arena c.args.x c.in-Bin.b c.args.known.now c.image.new.known c.image-in-Bin.new.known (c.args.steps.now + 1) c.image.new.steps c.image-in-Bin.new.steps c.image.ensures.grows c.in-Bin.ensures.below.1 c.requires.there (children_under c.args.arena.now c.args.x (node.Bin c.in-Bin.op c.in-Bin.a c.in-Bin.b) c.in-Bin.ensures.tree c.in-Bin.ensures.children).1
    (imaged_first c.args.arena.now c.image.new.arena c.args.x c.in-Bin.a c.args.known.now c.image.new.known c.args.steps.now c.node-n.new.steps c.image.new.steps c.node-n.ensures.steps (children_under c.args.arena.now c.args.x (node.Bin c.in-Bin.op c.in-Bin.a c.in-Bin.b) c.in-Bin.ensures.tree c.in-Bin.ensures.children).0 c.image.ensures.imaged)
    c.image-in-Bin.ensures.imaged)

pub image_over-returns-in_ok-b-in-Bin-clause-imaged : goal.image_over-returns-in_ok-b-in-Bin-clause-imaged
image_over-returns-in_ok-b-in-Bin-clause-imaged g t c =
    imaged_made c.args.arena.now c.image-in-Bin.new.arena c.made.new.arena (HasTerm c.args.arena.now c.args.x) c.args.known.now c.image-in-Bin.new.known c.args.steps.now c.image-in-Bin.new.steps c.made.new.steps c.made.ensures.grows c.made.ensures.steps
    (imaged_child c.args.arena.now c.image.new.arena c.image-in-Bin.new.arena c.args.x c.in-Bin.b c.args.known.now c.image.new.known c.image-in-Bin.new.known (c.args.steps.now + 1) c.image.new.steps c.image-in-Bin.new.steps c.image.ensures.grows c.in-Bin.ensures.below.1 c.requires.there (children_under c.args.arena.now c.args.x (node.Bin c.in-Bin.op c.in-Bin.a c.in-Bin.b) c.in-Bin.ensures.tree c.in-Bin.ensures.children).1
    (imaged_first c.args.arena.now c.image.new.arena c.args.x c.in-Bin.a c.args.known.now c.image.new.known c.args.steps.now c.node-n.new.steps c.image.new.steps c.node-n.ensures.steps (children_under c.args.arena.now c.args.x (node.Bin c.in-Bin.op c.in-Bin.a c.in-Bin.b) c.in-Bin.ensures.tree c.in-Bin.ensures.children).0 c.image.ensures.imaged)
    c.image-in-Bin.ensures.imaged)

pub image_over-returns-in_err-a-in-Extend-clause-imaged : goal.image_over-returns-in_err-a-in-Extend-clause-imaged
image_over-returns-in_err-a-in-Extend-clause-imaged g t c =
    imaged_failed c.args.arena.now c.image-in-Extend.new.arena (HasTerm c.args.arena.now c.args.x) c.args.known.now c.image-in-Extend.new.known c.args.steps.now c.image-in-Extend.new.steps
    (imaged_first c.args.arena.now c.image-in-Extend.new.arena c.args.x c.in-Extend.a c.args.known.now c.image-in-Extend.new.known c.args.steps.now c.node-n.new.steps c.image-in-Extend.new.steps c.node-n.ensures.steps (children_under c.args.arena.now c.args.x (node.Extend c.in-Extend.ext c.in-Extend.a) c.in-Extend.ensures.tree c.in-Extend.ensures.children) c.image-in-Extend.ensures.imaged)

pub image_over-returns-in_ok-a-in-Extend-clause-imaged : goal.image_over-returns-in_ok-a-in-Extend-clause-imaged
image_over-returns-in_ok-a-in-Extend-clause-imaged g t c =
    imaged_made c.args.arena.now c.image-in-Extend.new.arena c.made-in-Extend.new.arena (HasTerm c.args.arena.now c.args.x) c.args.known.now c.image-in-Extend.new.known c.args.steps.now c.image-in-Extend.new.steps c.made-in-Extend.new.steps c.made-in-Extend.ensures.grows c.made-in-Extend.ensures.steps
    (imaged_first c.args.arena.now c.image-in-Extend.new.arena c.args.x c.in-Extend.a c.args.known.now c.image-in-Extend.new.known c.args.steps.now c.node-n.new.steps c.image-in-Extend.new.steps c.node-n.ensures.steps (children_under c.args.arena.now c.args.x (node.Extend c.in-Extend.ext c.in-Extend.a) c.in-Extend.ensures.tree c.in-Extend.ensures.children) c.image-in-Extend.ensures.imaged)

pub image_over-returns-in_err-m-in-Load-clause-imaged : goal.image_over-returns-in_err-m-in-Load-clause-imaged
image_over-returns-in_err-m-in-Load-clause-imaged g t c =
    imaged_failed c.args.arena.now c.image-in-Load.new.arena (HasTerm c.args.arena.now c.args.x) c.args.known.now c.image-in-Load.new.known c.args.steps.now c.image-in-Load.new.steps
    (imaged_first c.args.arena.now c.image-in-Load.new.arena c.args.x c.in-Load.m c.args.known.now c.image-in-Load.new.known c.args.steps.now c.node-n.new.steps c.image-in-Load.new.steps c.node-n.ensures.steps (children_under c.args.arena.now c.args.x (node.Load c.in-Load.width c.in-Load.m c.in-Load.a) c.in-Load.ensures.tree c.in-Load.ensures.children).0 c.image-in-Load.ensures.imaged)

pub image_over-returns-in_err-a-in-Load-clause-imaged : goal.image_over-returns-in_err-a-in-Load-clause-imaged
image_over-returns-in_err-a-in-Load-clause-imaged g t c =
    imaged_failed c.args.arena.now c.image-in-Load-2.new.arena (HasTerm c.args.arena.now c.args.x) c.args.known.now c.image-in-Load-2.new.known c.args.steps.now c.image-in-Load-2.new.steps
    (imaged_child c.args.arena.now c.image-in-Load.new.arena c.image-in-Load-2.new.arena c.args.x c.in-Load.a c.args.known.now c.image-in-Load.new.known c.image-in-Load-2.new.known (c.args.steps.now + 1) c.image-in-Load.new.steps c.image-in-Load-2.new.steps c.image-in-Load.ensures.grows c.in-Load.ensures.below.1 c.requires.there (children_under c.args.arena.now c.args.x (node.Load c.in-Load.width c.in-Load.m c.in-Load.a) c.in-Load.ensures.tree c.in-Load.ensures.children).1
    (imaged_first c.args.arena.now c.image-in-Load.new.arena c.args.x c.in-Load.m c.args.known.now c.image-in-Load.new.known c.args.steps.now c.node-n.new.steps c.image-in-Load.new.steps c.node-n.ensures.steps (children_under c.args.arena.now c.args.x (node.Load c.in-Load.width c.in-Load.m c.in-Load.a) c.in-Load.ensures.tree c.in-Load.ensures.children).0 c.image-in-Load.ensures.imaged)
    c.image-in-Load-2.ensures.imaged)

pub image_over-returns-in_ok-a-in-Load-clause-imaged : goal.image_over-returns-in_ok-a-in-Load-clause-imaged
image_over-returns-in_ok-a-in-Load-clause-imaged g t c =
    imaged_made c.args.arena.now c.image-in-Load-2.new.arena c.made-in-Load.new.arena (HasTerm c.args.arena.now c.args.x) c.args.known.now c.image-in-Load-2.new.known c.args.steps.now c.image-in-Load-2.new.steps c.made-in-Load.new.steps c.made-in-Load.ensures.grows c.made-in-Load.ensures.steps
    (imaged_child c.args.arena.now c.image-in-Load.new.arena c.image-in-Load-2.new.arena c.args.x c.in-Load.a c.args.known.now c.image-in-Load.new.known c.image-in-Load-2.new.known (c.args.steps.now + 1) c.image-in-Load.new.steps c.image-in-Load-2.new.steps c.image-in-Load.ensures.grows c.in-Load.ensures.below.1 c.requires.there (children_under c.args.arena.now c.args.x (node.Load c.in-Load.width c.in-Load.m c.in-Load.a) c.in-Load.ensures.tree c.in-Load.ensures.children).1
    (imaged_first c.args.arena.now c.image-in-Load.new.arena c.args.x c.in-Load.m c.args.known.now c.image-in-Load.new.known c.args.steps.now c.node-n.new.steps c.image-in-Load.new.steps c.node-n.ensures.steps (children_under c.args.arena.now c.args.x (node.Load c.in-Load.width c.in-Load.m c.in-Load.a) c.in-Load.ensures.tree c.in-Load.ensures.children).0 c.image-in-Load.ensures.imaged)
    c.image-in-Load-2.ensures.imaged)

pub image_over-returns-in_err-m-in-Store-clause-imaged : goal.image_over-returns-in_err-m-in-Store-clause-imaged
image_over-returns-in_err-m-in-Store-clause-imaged g t c =
    imaged_failed c.args.arena.now c.image-in-Store.new.arena (HasTerm c.args.arena.now c.args.x) c.args.known.now c.image-in-Store.new.known c.args.steps.now c.image-in-Store.new.steps
    (imaged_first c.args.arena.now c.image-in-Store.new.arena c.args.x c.in-Store.m c.args.known.now c.image-in-Store.new.known c.args.steps.now c.node-n.new.steps c.image-in-Store.new.steps c.node-n.ensures.steps (children_under c.args.arena.now c.args.x (node.Store c.in-Store.width c.in-Store.m c.in-Store.a c.in-Store.v) c.in-Store.ensures.tree c.in-Store.ensures.children).0 c.image-in-Store.ensures.imaged)

pub image_over-returns-in_err-a-in-Store-clause-imaged : goal.image_over-returns-in_err-a-in-Store-clause-imaged
image_over-returns-in_err-a-in-Store-clause-imaged g t c =
    imaged_failed c.args.arena.now c.image-in-Store-2.new.arena (HasTerm c.args.arena.now c.args.x) c.args.known.now c.image-in-Store-2.new.known c.args.steps.now c.image-in-Store-2.new.steps
    (imaged_child c.args.arena.now c.image-in-Store.new.arena c.image-in-Store-2.new.arena c.args.x c.in-Store.a c.args.known.now c.image-in-Store.new.known c.image-in-Store-2.new.known (c.args.steps.now + 1) c.image-in-Store.new.steps c.image-in-Store-2.new.steps c.image-in-Store.ensures.grows c.in-Store.ensures.below.1 c.requires.there (children_under c.args.arena.now c.args.x (node.Store c.in-Store.width c.in-Store.m c.in-Store.a c.in-Store.v) c.in-Store.ensures.tree c.in-Store.ensures.children).1
    (imaged_first c.args.arena.now c.image-in-Store.new.arena c.args.x c.in-Store.m c.args.known.now c.image-in-Store.new.known c.args.steps.now c.node-n.new.steps c.image-in-Store.new.steps c.node-n.ensures.steps (children_under c.args.arena.now c.args.x (node.Store c.in-Store.width c.in-Store.m c.in-Store.a c.in-Store.v) c.in-Store.ensures.tree c.in-Store.ensures.children).0 c.image-in-Store.ensures.imaged)
    c.image-in-Store-2.ensures.imaged)

pub image_over-returns-in_err-v-in-Store-clause-imaged : goal.image_over-returns-in_err-v-in-Store-clause-imaged
image_over-returns-in_err-v-in-Store-clause-imaged g t c =
    imaged_failed c.args.arena.now c.image-in-Store-3.new.arena (HasTerm c.args.arena.now c.args.x) c.args.known.now c.image-in-Store-3.new.known c.args.steps.now c.image-in-Store-3.new.steps
    (imaged_child c.args.arena.now c.image-in-Store-2.new.arena c.image-in-Store-3.new.arena c.args.x c.in-Store.v c.args.known.now c.image-in-Store-2.new.known c.image-in-Store-3.new.known (c.args.steps.now + 1) c.image-in-Store-2.new.steps c.image-in-Store-3.new.steps (extends_next c.args.arena.now c.image-in-Store.new.arena c.image-in-Store-2.new.arena c.image-in-Store.ensures.grows c.image-in-Store-2.ensures.grows) c.in-Store.ensures.below.2 c.requires.there (children_under c.args.arena.now c.args.x (node.Store c.in-Store.width c.in-Store.m c.in-Store.a c.in-Store.v) c.in-Store.ensures.tree c.in-Store.ensures.children).2
    (imaged_child c.args.arena.now c.image-in-Store.new.arena c.image-in-Store-2.new.arena c.args.x c.in-Store.a c.args.known.now c.image-in-Store.new.known c.image-in-Store-2.new.known (c.args.steps.now + 1) c.image-in-Store.new.steps c.image-in-Store-2.new.steps c.image-in-Store.ensures.grows c.in-Store.ensures.below.1 c.requires.there (children_under c.args.arena.now c.args.x (node.Store c.in-Store.width c.in-Store.m c.in-Store.a c.in-Store.v) c.in-Store.ensures.tree c.in-Store.ensures.children).1
    (imaged_first c.args.arena.now c.image-in-Store.new.arena c.args.x c.in-Store.m c.args.known.now c.image-in-Store.new.known c.args.steps.now c.node-n.new.steps c.image-in-Store.new.steps c.node-n.ensures.steps (children_under c.args.arena.now c.args.x (node.Store c.in-Store.width c.in-Store.m c.in-Store.a c.in-Store.v) c.in-Store.ensures.tree c.in-Store.ensures.children).0 c.image-in-Store.ensures.imaged)
    c.image-in-Store-2.ensures.imaged)
    c.image-in-Store-3.ensures.imaged)

pub image_over-returns-in_ok-v-in-Store-clause-imaged : goal.image_over-returns-in_ok-v-in-Store-clause-imaged
image_over-returns-in_ok-v-in-Store-clause-imaged g t c =
    imaged_made c.args.arena.now c.image-in-Store-3.new.arena c.made-in-Store.new.arena (HasTerm c.args.arena.now c.args.x) c.args.known.now c.image-in-Store-3.new.known c.args.steps.now c.image-in-Store-3.new.steps c.made-in-Store.new.steps c.made-in-Store.ensures.grows c.made-in-Store.ensures.steps
    (imaged_child c.args.arena.now c.image-in-Store-2.new.arena c.image-in-Store-3.new.arena c.args.x c.in-Store.v c.args.known.now c.image-in-Store-2.new.known c.image-in-Store-3.new.known (c.args.steps.now + 1) c.image-in-Store-2.new.steps c.image-in-Store-3.new.steps (extends_next c.args.arena.now c.image-in-Store.new.arena c.image-in-Store-2.new.arena c.image-in-Store.ensures.grows c.image-in-Store-2.ensures.grows) c.in-Store.ensures.below.2 c.requires.there (children_under c.args.arena.now c.args.x (node.Store c.in-Store.width c.in-Store.m c.in-Store.a c.in-Store.v) c.in-Store.ensures.tree c.in-Store.ensures.children).2
    (imaged_child c.args.arena.now c.image-in-Store.new.arena c.image-in-Store-2.new.arena c.args.x c.in-Store.a c.args.known.now c.image-in-Store.new.known c.image-in-Store-2.new.known (c.args.steps.now + 1) c.image-in-Store.new.steps c.image-in-Store-2.new.steps c.image-in-Store.ensures.grows c.in-Store.ensures.below.1 c.requires.there (children_under c.args.arena.now c.args.x (node.Store c.in-Store.width c.in-Store.m c.in-Store.a c.in-Store.v) c.in-Store.ensures.tree c.in-Store.ensures.children).1
    (imaged_first c.args.arena.now c.image-in-Store.new.arena c.args.x c.in-Store.m c.args.known.now c.image-in-Store.new.known c.args.steps.now c.node-n.new.steps c.image-in-Store.new.steps c.node-n.ensures.steps (children_under c.args.arena.now c.args.x (node.Store c.in-Store.width c.in-Store.m c.in-Store.a c.in-Store.v) c.in-Store.ensures.tree c.in-Store.ensures.children).0 c.image-in-Store.ensures.imaged)
    c.image-in-Store-2.ensures.imaged)
    c.image-in-Store-3.ensures.imaged)

pub image_over-returns-in_err-a-in-Compare-clause-imaged : goal.image_over-returns-in_err-a-in-Compare-clause-imaged
image_over-returns-in_err-a-in-Compare-clause-imaged g t c =
    imaged_failed c.args.arena.now c.image-in-Compare.new.arena (HasTerm c.args.arena.now c.args.x) c.args.known.now c.image-in-Compare.new.known c.args.steps.now c.image-in-Compare.new.steps
    (imaged_first c.args.arena.now c.image-in-Compare.new.arena c.args.x c.in-Compare.a c.args.known.now c.image-in-Compare.new.known c.args.steps.now c.node-n.new.steps c.image-in-Compare.new.steps c.node-n.ensures.steps (children_under c.args.arena.now c.args.x (node.Compare c.in-Compare.cmp c.in-Compare.a c.in-Compare.b) c.in-Compare.ensures.tree c.in-Compare.ensures.children).0 c.image-in-Compare.ensures.imaged)

pub image_over-returns-in_err-b-in-Compare-clause-imaged : goal.image_over-returns-in_err-b-in-Compare-clause-imaged
image_over-returns-in_err-b-in-Compare-clause-imaged g t c =
    imaged_failed c.args.arena.now c.image-in-Compare-2.new.arena (HasTerm c.args.arena.now c.args.x) c.args.known.now c.image-in-Compare-2.new.known c.args.steps.now c.image-in-Compare-2.new.steps
    (imaged_child c.args.arena.now c.image-in-Compare.new.arena c.image-in-Compare-2.new.arena c.args.x c.in-Compare.b c.args.known.now c.image-in-Compare.new.known c.image-in-Compare-2.new.known (c.args.steps.now + 1) c.image-in-Compare.new.steps c.image-in-Compare-2.new.steps c.image-in-Compare.ensures.grows c.in-Compare.ensures.below.1 c.requires.there (children_under c.args.arena.now c.args.x (node.Compare c.in-Compare.cmp c.in-Compare.a c.in-Compare.b) c.in-Compare.ensures.tree c.in-Compare.ensures.children).1
    (imaged_first c.args.arena.now c.image-in-Compare.new.arena c.args.x c.in-Compare.a c.args.known.now c.image-in-Compare.new.known c.args.steps.now c.node-n.new.steps c.image-in-Compare.new.steps c.node-n.ensures.steps (children_under c.args.arena.now c.args.x (node.Compare c.in-Compare.cmp c.in-Compare.a c.in-Compare.b) c.in-Compare.ensures.tree c.in-Compare.ensures.children).0 c.image-in-Compare.ensures.imaged)
    c.image-in-Compare-2.ensures.imaged)

pub image_over-returns-in_ok-b-in-Compare-clause-imaged : goal.image_over-returns-in_ok-b-in-Compare-clause-imaged
image_over-returns-in_ok-b-in-Compare-clause-imaged g t c =
    imaged_made c.args.arena.now c.image-in-Compare-2.new.arena c.made-in-Compare.new.arena (HasTerm c.args.arena.now c.args.x) c.args.known.now c.image-in-Compare-2.new.known c.args.steps.now c.image-in-Compare-2.new.steps c.made-in-Compare.new.steps c.made-in-Compare.ensures.grows c.made-in-Compare.ensures.steps
    (imaged_child c.args.arena.now c.image-in-Compare.new.arena c.image-in-Compare-2.new.arena c.args.x c.in-Compare.b c.args.known.now c.image-in-Compare.new.known c.image-in-Compare-2.new.known (c.args.steps.now + 1) c.image-in-Compare.new.steps c.image-in-Compare-2.new.steps c.image-in-Compare.ensures.grows c.in-Compare.ensures.below.1 c.requires.there (children_under c.args.arena.now c.args.x (node.Compare c.in-Compare.cmp c.in-Compare.a c.in-Compare.b) c.in-Compare.ensures.tree c.in-Compare.ensures.children).1
    (imaged_first c.args.arena.now c.image-in-Compare.new.arena c.args.x c.in-Compare.a c.args.known.now c.image-in-Compare.new.known c.args.steps.now c.node-n.new.steps c.image-in-Compare.new.steps c.node-n.ensures.steps (children_under c.args.arena.now c.args.x (node.Compare c.in-Compare.cmp c.in-Compare.a c.in-Compare.b) c.in-Compare.ensures.tree c.in-Compare.ensures.children).0 c.image-in-Compare.ensures.imaged)
    c.image-in-Compare-2.ensures.imaged)

pub image_over-returns-in_err-c-in-Neg-clause-imaged : goal.image_over-returns-in_err-c-in-Neg-clause-imaged
image_over-returns-in_err-c-in-Neg-clause-imaged g t c =
    imaged_failed c.args.arena.now c.image-in-Neg.new.arena (HasTerm c.args.arena.now c.args.x) c.args.known.now c.image-in-Neg.new.known c.args.steps.now c.image-in-Neg.new.steps
    (imaged_first c.args.arena.now c.image-in-Neg.new.arena c.args.x c.in-Neg.c c.args.known.now c.image-in-Neg.new.known c.args.steps.now c.node-n.new.steps c.image-in-Neg.new.steps c.node-n.ensures.steps (children_under c.args.arena.now c.args.x (node.Neg c.in-Neg.c) c.in-Neg.ensures.tree c.in-Neg.ensures.children) c.image-in-Neg.ensures.imaged)

pub image_over-returns-in_ok-c-in-Neg-clause-imaged : goal.image_over-returns-in_ok-c-in-Neg-clause-imaged
image_over-returns-in_ok-c-in-Neg-clause-imaged g t c =
    imaged_made c.args.arena.now c.image-in-Neg.new.arena c.made-in-Neg.new.arena (HasTerm c.args.arena.now c.args.x) c.args.known.now c.image-in-Neg.new.known c.args.steps.now c.image-in-Neg.new.steps c.made-in-Neg.new.steps c.made-in-Neg.ensures.grows c.made-in-Neg.ensures.steps
    (imaged_first c.args.arena.now c.image-in-Neg.new.arena c.args.x c.in-Neg.c c.args.known.now c.image-in-Neg.new.known c.args.steps.now c.node-n.new.steps c.image-in-Neg.new.steps c.node-n.ensures.steps (children_under c.args.arena.now c.args.x (node.Neg c.in-Neg.c) c.in-Neg.ensures.tree c.in-Neg.ensures.children) c.image-in-Neg.ensures.imaged)

pub image_over-returns-in_err-m-in-Inside-clause-imaged : goal.image_over-returns-in_err-m-in-Inside-clause-imaged
image_over-returns-in_err-m-in-Inside-clause-imaged g t c =
    imaged_failed c.args.arena.now c.image-in-Inside.new.arena (HasTerm c.args.arena.now c.args.x) c.args.known.now c.image-in-Inside.new.known c.args.steps.now c.image-in-Inside.new.steps
    (imaged_first c.args.arena.now c.image-in-Inside.new.arena c.args.x c.in-Inside.m c.args.known.now c.image-in-Inside.new.known c.args.steps.now c.node-n.new.steps c.image-in-Inside.new.steps c.node-n.ensures.steps (children_under c.args.arena.now c.args.x (node.Inside c.in-Inside.width c.in-Inside.m c.in-Inside.a) c.in-Inside.ensures.tree c.in-Inside.ensures.children).0 c.image-in-Inside.ensures.imaged)

pub image_over-returns-in_err-a-in-Inside-clause-imaged : goal.image_over-returns-in_err-a-in-Inside-clause-imaged
image_over-returns-in_err-a-in-Inside-clause-imaged g t c =
    imaged_failed c.args.arena.now c.image-in-Inside-2.new.arena (HasTerm c.args.arena.now c.args.x) c.args.known.now c.image-in-Inside-2.new.known c.args.steps.now c.image-in-Inside-2.new.steps
    (imaged_child c.args.arena.now c.image-in-Inside.new.arena c.image-in-Inside-2.new.arena c.args.x c.in-Inside.a c.args.known.now c.image-in-Inside.new.known c.image-in-Inside-2.new.known (c.args.steps.now + 1) c.image-in-Inside.new.steps c.image-in-Inside-2.new.steps c.image-in-Inside.ensures.grows c.in-Inside.ensures.below.1 c.requires.there (children_under c.args.arena.now c.args.x (node.Inside c.in-Inside.width c.in-Inside.m c.in-Inside.a) c.in-Inside.ensures.tree c.in-Inside.ensures.children).1
    (imaged_first c.args.arena.now c.image-in-Inside.new.arena c.args.x c.in-Inside.m c.args.known.now c.image-in-Inside.new.known c.args.steps.now c.node-n.new.steps c.image-in-Inside.new.steps c.node-n.ensures.steps (children_under c.args.arena.now c.args.x (node.Inside c.in-Inside.width c.in-Inside.m c.in-Inside.a) c.in-Inside.ensures.tree c.in-Inside.ensures.children).0 c.image-in-Inside.ensures.imaged)
    c.image-in-Inside-2.ensures.imaged)

pub image_over-returns-in_ok-a-in-Inside-clause-imaged : goal.image_over-returns-in_ok-a-in-Inside-clause-imaged
image_over-returns-in_ok-a-in-Inside-clause-imaged g t c =
    imaged_made c.args.arena.now c.image-in-Inside-2.new.arena c.made-in-Inside.new.arena (HasTerm c.args.arena.now c.args.x) c.args.known.now c.image-in-Inside-2.new.known c.args.steps.now c.image-in-Inside-2.new.steps c.made-in-Inside.new.steps c.made-in-Inside.ensures.grows c.made-in-Inside.ensures.steps
    (imaged_child c.args.arena.now c.image-in-Inside.new.arena c.image-in-Inside-2.new.arena c.args.x c.in-Inside.a c.args.known.now c.image-in-Inside.new.known c.image-in-Inside-2.new.known (c.args.steps.now + 1) c.image-in-Inside.new.steps c.image-in-Inside-2.new.steps c.image-in-Inside.ensures.grows c.in-Inside.ensures.below.1 c.requires.there (children_under c.args.arena.now c.args.x (node.Inside c.in-Inside.width c.in-Inside.m c.in-Inside.a) c.in-Inside.ensures.tree c.in-Inside.ensures.children).1
    (imaged_first c.args.arena.now c.image-in-Inside.new.arena c.args.x c.in-Inside.m c.args.known.now c.image-in-Inside.new.known c.args.steps.now c.node-n.new.steps c.image-in-Inside.new.steps c.node-n.ensures.steps (children_under c.args.arena.now c.args.x (node.Inside c.in-Inside.width c.in-Inside.m c.in-Inside.a) c.in-Inside.ensures.tree c.in-Inside.ensures.children).0 c.image-in-Inside.ensures.imaged)
    c.image-in-Inside-2.ensures.imaged)

pub image_over-returns-in-Const-clause-imaged : goal.image_over-returns-in-Const-clause-imaged
image_over-returns-in-Const-clause-imaged g t c =
    let le : c.node-n.new.steps ≤ c.args.steps.now + 2 = omega (arith, c.node-n.ensures.steps) in
    imaged_none c.args.arena.now _ c.args.known.now (c.args.steps.now + 2) c.node-n.new.steps le

pub image_over-returns-in-WordVar-clause-imaged : goal.image_over-returns-in-WordVar-clause-imaged
image_over-returns-in-WordVar-clause-imaged g t c =
    let le : c.node-n.new.steps ≤ c.args.steps.now + 2 = omega (arith, c.node-n.ensures.steps) in
    imaged_none c.args.arena.now _ c.args.known.now (c.args.steps.now + 2) c.node-n.new.steps le

pub image_over-returns-in-MemVar-clause-imaged : goal.image_over-returns-in-MemVar-clause-imaged
image_over-returns-in-MemVar-clause-imaged g t c =
    let le : c.node-n.new.steps ≤ c.args.steps.now + 2 = omega (arith, c.node-n.ensures.steps) in
    imaged_none c.args.arena.now _ c.args.known.now (c.args.steps.now + 2) c.node-n.new.steps le

pub image-returns-in-Some-clause-image : goal.image-returns-in-Some-clause-image
image-returns-in-Some-clause-image g t c =
    c.requires.ready.images.each c.args.x c.in-Some.y (known_image _ _ (sym c.get.ensures ∙ c.in-Some.is))

pub image-returns-in-Some-clause-ended : goal.image-returns-in-Some-clause-ended
image-returns-in-Some-clause-ended g t c =
    ended_none c.args.known.now

pub image-returns-in-Some-clause-imaged : goal.image-returns-in-Some-clause-imaged
image-returns-in-Some-clause-imaged g t c =
    imaged_none c.args.arena.now _ c.args.known.now c.args.steps.now c.args.steps.now (omega arith)

pub image-returns-in_err-insert-clause-ready : goal.image-returns-in_err-insert-clause-ready
image-returns-in_err-insert-clause-ready g t c =
    subst (λ (known : Known). IsReady c.args.arena.now c.args.words.now c.args.mems.now known) (sym c.in_err-insert.ensures.err) c.requires.ready

pub image-returns-in_err-insert-clause-imaged : goal.image-returns-in_err-insert-clause-imaged
image-returns-in_err-insert-clause-imaged g t c =
    imaged_same c.args.arena.now c.args.arena.now _ c.args.known.now c.args.known.now c.insert.new.self c.args.steps.now c.args.steps.now c.in_err-insert.ensures.err (imaged_none c.args.arena.now _ c.args.known.now c.args.steps.now c.args.steps.now (omega arith))

pub image-returns-in_err-y-clause-imaged : goal.image-returns-in_err-y-clause-imaged
image-returns-in_err-y-clause-imaged g t c =
    imaged_begun c.args.arena.now c.image_over.new.arena c.args.x c.args.known.now c.insert.new.self c.image_over.new.known c.args.steps.now c.image_over.new.steps c.requires.there c.in_ok-insert.ensures.updates
    (one_longer _ _ _ (not_begun c.args.known.now c.args.x (sym c.in_default.ensures) c.requires.free) c.in_ok-insert.ensures.len)
    c.insert.ensures.ordered c.image_over.ensures.imaged

pub image-returns-in_err-insert-2-clause-ready : goal.image-returns-in_err-insert-2-clause-ready
image-returns-in_err-insert-2-clause-ready g t c =
    subst (λ (known : Known). IsReady c.image_over.new.arena c.args.words.now c.args.mems.now known) (sym c.in_err-insert-2.ensures.err) c.image_over.ensures.ready

pub image-returns-in_err-insert-2-clause-imaged : goal.image-returns-in_err-insert-2-clause-imaged
image-returns-in_err-insert-2-clause-imaged g t c =
    imaged_same c.args.arena.now c.image_over.new.arena _ c.args.known.now c.image_over.new.known c.insert-2.new.self c.args.steps.now c.image_over.new.steps c.in_err-insert-2.ensures.err
    (imaged_begun c.args.arena.now c.image_over.new.arena c.args.x c.args.known.now c.insert.new.self c.image_over.new.known c.args.steps.now c.image_over.new.steps c.requires.there c.in_ok-insert.ensures.updates
    (one_longer _ _ _ (not_begun c.args.known.now c.args.x (sym c.in_default.ensures) c.requires.free) c.in_ok-insert.ensures.len)
    c.insert.ensures.ordered c.image_over.ensures.imaged)

pub image-returns-clause-ready : goal.image-returns-clause-ready
image-returns-clause-ready g t c =
    ready_kept c.image_over.new.arena c.args.words.now c.args.mems.now c.image_over.new.known c.insert-2.new.self c.args.x c.in_ok-y.y c.in_ok-insert-2.ensures.updates c.image_over.ensures.ready c.in_ok-y.ensures.image

pub image-returns-clause-ended : goal.image-returns-clause-ended
image-returns-clause-ended g t c =
    ended_kept c.args.known.now c.insert.new.self c.image_over.new.known c.insert-2.new.self c.args.x c.in_ok-y.y c.in_ok-insert.ensures.updates c.in_ok-y.ensures.ended c.in_ok-insert-2.ensures.updates

pub image-returns-clause-imaged : goal.image-returns-clause-imaged
image-returns-clause-imaged g t c =
    imaged_kept c.args.arena.now c.image_over.new.arena c.args.x c.in_ok-y.y _ c.args.known.now c.image_over.new.known c.insert-2.new.self c.args.steps.now c.image_over.new.steps c.requires.there c.image_over.ensures.grows c.in_ok-insert-2.ensures.updates c.in_ok-insert-2.ensures.len c.insert-2.ensures.ordered
    (imaged_begun c.args.arena.now c.image_over.new.arena c.args.x c.args.known.now c.insert.new.self c.image_over.new.known c.args.steps.now c.image_over.new.steps c.requires.there c.in_ok-insert.ensures.updates
    (one_longer _ _ _ (not_begun c.args.known.now c.args.x (sym c.in_default.ensures) c.requires.free) c.in_ok-insert.ensures.len)
    c.insert.ensures.ordered c.image_over.ensures.imaged)

pub image-image_over-requires : goal.image-image_over-requires
image-image_over-requires g t c κs within =
    let ready = ready_begun c.args.arena.now c.args.words.now c.args.mems.now c.args.known.now c.insert.new.self c.args.x c.in_ok-insert.ensures.updates c.requires.ready in
    let free = free_begun c.args.known.now c.insert.new.self c.args.x c.in_ok-insert.ensures.updates c.requires.free in
    search rules
