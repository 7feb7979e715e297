use Rattle.std.proofs.Common.{List, map, length, refl, subst}
use Rattle.tailrec_lang.specs.Tree.{def_tree}
use Rattle.proof_text.specs.Line.{line_tree}
use Rattle.code_parts.specs.declared.part.Part.{Part}
use Rattle.path_walk.specs.inner.Walks.{AreWalked}
use Rattle.path_walk.proofs.PartsInOrder.{item_over}
use Rattle.path_walk.proofs.item.item_in.Goals as goal

pub returns-clause-item : goal.returns-clause-item
returns-clause-item c =
    item_over c.args.version c.args.flow.now c.args.name c.args.reached (record { group = c.in_ok-group.group; lines = c.in_ok-walks.walks.lines; reached = c.args.reached }) (map def_tree c.in_ok-walks.walks.defs)
    (subst (λ (ps : List Part). AreWalked c.args.version c.args.flow.now (length ps) (map def_tree c.in_ok-walks.walks.defs) (map line_tree c.in_ok-walks.walks.lines)) c.requires.parts c.in_ok-walks.ensures.lines) c.in_ok-group.ensures.group refl
