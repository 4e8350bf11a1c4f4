-- How many threads are worth while.
use Rattle.std.specs.Prelude.{ℕ, ◌/◌, min, max}
use Rattle.warp_core.specs.declared.threads.TheConstants.{NETS_FOR_A_THREAD}

-- of some threads one for each so many nets, and one at least
abbrev pub worthwhile : ℕ → ℕ → ℕ
worthwhile threads nets = min threads (max (nets / NETS_FOR_A_THREAD) 1)
