-- More code keeps a triple valid.
use Rattle.std.proofs.Common.{◌≡◌, subst}
use Rattle.tailrec_lang.specs.Tree.{GroupTree}
use Rattle.triple_kernel.specs.Tree.{TripleTree}
use Rattle.triple_kernel.specs.Valid.{Valid}
use Rattle.triple_kernel.proofs.MoreCode.{valid_more_code}
use Rattle.frame_compose.specs.Rules.{IsExtended}

pub valid_extension : (g : GroupTree) (p t : TripleTree) → IsExtended p t → Valid g p → Valid g t
valid_extension g p t is v =
    let same : record p { code = t.code } ≡ t = λ i. record { facts = is.facts i; pre = is.pre i; code = t.code; post = is.post i } in
    subst (λ (x : TripleTree). Valid g x) same (valid_more_code g p t.code is.code v)
