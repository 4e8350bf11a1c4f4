use Rattle.std.proofs.Common.{arith, not}
use Rattle.std.proofs.lemmas.List.Sums.{prefix_len-le-length}
use Rattle.only_nets.specs.Names.{is_blank}
use Rattle.only_nets.proofs.names.net_in.Goals as goal

pub split_at-requires : goal.split_at-requires
split_at-requires c = omega (arith, c.word_len.ensures, prefix_len-le-length (λ b. not (is_blank b)) c.args.text.now)
