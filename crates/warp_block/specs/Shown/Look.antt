-- What contracts see of a look.
use Rattle.warp_block.specs.declared.look.Look.TheInside.{Inside}
use Rattle.warp_process.specs.View.{View}

abbrev pub view_of : Inside → View
view_of look = record look.heard { mark = look.mark; logs = look.lists }
