use Rattle.std.proofs.Common.{subst, false}
use Rattle.rv_words.specs.Bytes.{AreBytes, Bytes}
use Rattle.flow_graph.specs.Graph.{IsGraphOf}
use Rattle.decompiler.proofs.Items.{item_is}
use Rattle.decompiler.proofs.functions.alone_at.Goals as goal

pub returns-clause-item : goal.returns-clause-item
returns-clause-item c file is stands =
    let code = c.law_of_image.ensures.code file is in
    item_is file c.args.name c.args.entry c.in_ok-graph.graph c.in_ok-forest.forest c.in_ok-item.item stands c.requires (subst AreBytes code c.law_of_bytes.ensures)
    (subst (λ (m : Bytes). IsGraphOf false m c.args.entry c.in_ok-graph.graph) code c.in_ok-graph.ensures.ok) c.in_ok-forest.ensures.ok c.in_ok-item.ensures.item
