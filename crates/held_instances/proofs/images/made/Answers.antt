use Rattle.held_instances.specs.Image.{put_for_numbers}
use Rattle.held_instances.proofs.ImageLemmas.{image_added, image_children, ready_stays}
use Rattle.held_instances.proofs.images.made.Goals as goal

pub add-requires : goal.add-requires
add-requires g c =
    image_children c.args.arena.now (put_for_numbers c.args.arena.now c.args.words.now c.args.mems.now) c.args.n c.args.m c.requires.node
    (c.law_of_arenas.ensures.children c.args.arena.now c.args.x c.args.n c.law_of_nodes.ensures c.requires.at)

pub returns-clause-image : goal.returns-clause-image
returns-clause-image g c =
    let ns = c.args.arena.now in
    image_added ns c.add.new.self c.args.words.now c.args.mems.now c.args.known.now c.args.x c.in_ok-y.y c.args.n c.args.m c.requires.ready
    (c.law_of_arenas.ensures.node ns c.args.x c.args.n c.law_of_nodes.ensures c.requires.at) (c.law_of_arenas.ensures.children ns c.args.x c.args.n c.law_of_nodes.ensures c.requires.at)
    c.in_ok-y.ensures.grows c.requires.node c.in_ok-y.ensures.tree

pub returns-clause-ready : goal.returns-clause-ready
returns-clause-ready g c = ready_stays c.args.arena.now c.add.new.self c.args.words.now c.args.mems.now c.args.known.now c.in_ok-y.ensures.grows c.requires.ready

pub returns-in_err-y-clause-ready : goal.returns-in_err-y-clause-ready
returns-in_err-y-clause-ready g c = ready_stays c.args.arena.now c.add.new.self c.args.words.now c.args.mems.now c.args.known.now c.add.ensures.grows c.requires.ready
