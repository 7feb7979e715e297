use Rattle.frame_compose.specs.Rules.{IsExchanged}
use Rattle.verdicts.specs.Addresses.{KeepsAddresses}
use Rattle.verdicts.proofs.AddressLemmas.{keeps-exchange}
use Rattle.verdicts.proofs.Lines.{line-has}
use Rattle.verdicts.proofs.laws.law_of_addresses.Goals as goal

pub returns : goal.returns
returns c = λ g. line-has (KeepsAddresses g) IsExchanged g (keeps-exchange g)
