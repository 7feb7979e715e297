use Rattle.std.proofs.Common.{rules, map}
use Rattle.tailrec_lang.specs.Tree.{def_tree, group_tree}
use Rattle.fun_laws.specs.Certs.{IsCertOf}
use Rattle.fun_laws.proofs.StepLemmas.{cert_accepted}
use Rattle.fun_laws.proofs.judge.judge_cert.Goals as goal

pub returns-then-are_same-clause-same : goal.returns-then-are_same-clause-same
returns-then-are_same-clause-same c =
    let cert : IsCertOf (group_tree c.args.g.now) c.args.c.now = search (rules, cert_accepted) in
    c.law_of_rewriting.ensures c.args.c.now.steps (group_tree c.args.g.now) (map def_tree c.args.c.now.result) c.has_range.ensures cert.steps
