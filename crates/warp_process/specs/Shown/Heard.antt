-- What contracts see of what a block has heard: the view of a block that has computed nothing.
use Rattle.std.specs.Prelude.{[], map, length}
use Rattle.std.specs.List.{range_with_len}
use Rattle.warp_process.specs.declared.heard.Heard.TheInside.{Inside}
use Rattle.warp_process.specs.Shown.Rows.{queue_in}
use Rattle.warp_process.specs.View.{View}

abbrev pub heard_by : Inside → View
heard_by heard = record {
  part = heard.part;
  horizon = heard.horizon;
  mark = 0;
  floor = heard.floor;
  queues = map (queue_in heard.rows.times.entries) (range_with_len 0 (length heard.part.nets));
  logs = map (λ _. []) heard.part.nets;
}
