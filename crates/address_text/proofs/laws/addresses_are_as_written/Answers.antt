use Rattle.address_text.proofs.WrittenDecimal.{prefixes}
use Rattle.address_text.proofs.WrittenHex.{hardware_addresses, datapath_ids}
use Rattle.address_text.proofs.laws.addresses_are_as_written.Goals as goal

pub returns : goal.returns
returns c = record { prefix = prefixes; hardware = hardware_addresses; datapath = datapath_ids }
