use Rattle.std.proofs.Common.{List, ℕ, subst, false}
use Rattle.rv_words.specs.Bytes.{AreBytes, Bytes}
use Rattle.flow_graph.specs.Graph.{IsGraphOf}
use Rattle.path_walk.specs.Split.{IsSplitItem}
use Rattle.stack_split.proofs.Items.{split-is}
use Rattle.stack_split.proofs.functions.split_at.Goals as goal

pub returns-clause-item : goal.returns-clause-item
returns-clause-item c file is stands =
    let code = c.law_of_image.ensures.code file is in
    let bytes = subst AreBytes code c.law_of_bytes.ensures in
    let graph = subst (λ (m : Bytes). IsGraphOf false m c.args.entry c.in_ok-graph.graph) code c.in_ok-graph.ensures.ok in
    split-is file c.args.name c.args.entry c.in_ok-graph.graph c.in_ok-forest.forest c.in_ok-second.second c.in_ok-item.item stands c.requires bytes graph c.in_ok-forest.ensures.ok
    (c.in_ok-second.ensures _ c.args.entry bytes graph)
    (subst (λ (second : List ℕ). IsSplitItem c.in_ok-graph.graph c.in_ok-forest.forest second c.args.name c.in_ok-item.item) c.as_slice.ensures c.in_ok-item.ensures.item)
