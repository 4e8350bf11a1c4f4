-- A view that has played what it received.
use Rattle.std.proofs.Common.{ℕ, refl, arith}
use Rattle.warp_process.specs.View.{View}
use Rattle.warp_process.specs.Lawful.{IsLawful}
use Rattle.warp_process.specs.Heard.{IsReceived}
use Rattle.warp_process.specs.Played.{played_view}

-- it is lawful
pub played_lawful : (v : View) (mark : ℕ) → IsReceived v → IsLawful (played_view v mark)
played_lawful v mark is = record {
  part = is.part;
  horizon = is.horizon;
  queues = is.queues;
  ordered = is.ordered;
  own = is.own;
  logs = refl;
  floor = omega arith;
  settled = λ n t l. absurd (omega (arith, l));
  within = is.within;
}
