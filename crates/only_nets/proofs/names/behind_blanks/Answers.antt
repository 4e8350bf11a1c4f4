use Rattle.std.proofs.Common.{arith}
use Rattle.std.proofs.lemmas.List.Sums.{prefix_len-le-length}
use Rattle.only_nets.specs.Names.{is_blank}
use Rattle.only_nets.proofs.names.behind_blanks.Goals as goal

pub split_at-requires : goal.split_at-requires
split_at-requires c = omega (arith, c.blank_len.ensures, prefix_len-le-length is_blank c.args.text.now)
