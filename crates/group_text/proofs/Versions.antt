-- What holds of the versions that are read and written.
use Rattle.std.proofs.Common.{◌<◌, ◌≤◌, codes, refl, arith}
use Rattle.mc_text.specs.Tokens.{IsAtom}
use Rattle.mc_text.proofs.Atoms.{word-atom}
use Rattle.group_text.specs.declared.version.Version.{Version as Known}
use Rattle.group_text.specs.declared.version.Version.TheVariants.{One, Two, Three, Four}
use Rattle.group_text.specs.Version.{version_of}
use Rattle.group_text.specs.inner.Reading.{mems_limit}

pub most-small : (v : Known) → (version_of v).most_mems < mems_limit
most-small One = omega arith
most-small Two = omega arith
most-small Three = omega arith
most-small Four = omega arith

pub least-most : (v : Known) → (version_of v).least_mems ≤ (version_of v).most_mems
least-most One = omega arith
least-most Two = omega arith
least-most Three = omega arith
least-most Four = omega arith

pub title-atom : (v : Known) → IsAtom (version_of v).title
title-atom One = word-atom (codes "1") refl
title-atom Two = word-atom (codes "2") refl
title-atom Three = word-atom (codes "3") refl
title-atom Four = word-atom (codes "4") refl
