-- A view that has played what it received up to a mark.
use Rattle.std.specs.Prelude.{ℕ, suc, Bool, map}
use Rattle.warp_process.specs.View.{View, is_busy}
use Rattle.warp_process.specs.Lawful.{lawful_log}

-- up to a mark; nothing is committed
abbrev pub played_view : View → ℕ → View
played_view v mark = record v { mark = mark; floor = 0; logs = map (lawful_log (record v { mark = mark })) v.part.nets }

-- something happens at a time to a net that a gate of the block reads, once all before it is played
abbrev pub was_busy : View → ℕ → Bool
was_busy v t = is_busy (played_view v (suc t)) t
