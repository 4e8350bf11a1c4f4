use Rattle.only_nets.proofs.Letters.{letters-utf8}
use Rattle.only_nets.proofs.names.text_of.Goals as goal

pub from_utf8_unchecked-requires : goal.from_utf8_unchecked-requires
from_utf8_unchecked-requires c = letters-utf8 c.args.name.now c.requires
