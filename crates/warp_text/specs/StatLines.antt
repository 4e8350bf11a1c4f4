-- How what is counted of a run is told, as TOML.
use Rattle.std.specs.Prelude.{ℕ, ◌+◌, ◌-◌, ◌*◌, ◌/◌, ◌%◌, ◌==◌, min, if◌then◌else◌, List, ◌++◌, fold, flat_map, codes, decimal}
use Rattle.warp_rounds.specs.declared.counts.Counts.{Counts}
use Rattle.warp_text.specs.declared.stats.BlockStats.{BlockStats}
use Rattle.warp_text.specs.declared.stats.Stats.{Stats}

-- ---- numbers

-- of two counts together, which are full at the greatest u64
abbrev pub sum_of : ℕ → ℕ → ℕ
sum_of a b = min (a + b) 18446744073709551615

abbrev pub no_counts : Counts
no_counts = record { since = 0; turns = 0; steps = 0; undone = 0; rollbacks = 0; messages = 0; antimessages = 0 }

unfoldable pub both_counts : Counts → Counts → Counts
both_counts a b = record {
  since = a.since;
  turns = sum_of a.turns b.turns;
  steps = sum_of a.steps b.steps;
  undone = sum_of a.undone b.undone;
  rollbacks = sum_of a.rollbacks b.rollbacks;
  messages = sum_of a.messages b.messages;
  antimessages = sum_of a.antimessages b.antimessages;
}

-- what is counted of all blocks
abbrev pub total_of : List BlockStats → Counts
total_of blocks = fold (λ counts block. both_counts counts block.counts) no_counts blocks

-- how many of a thousand finished event times were kept, rounded down; all where there are none
unfoldable pub kept_of : ℕ → ℕ → ℕ
kept_of steps undone = if steps == 0 then 1000 else (steps - undone) * 1000 / steps

-- ---- lines

-- a word and a number
unfoldable pub stat_line : List ℕ → ℕ → List ℕ
stat_line word number = word ++ codes " = " ++ decimal number ++ codes "\n"

-- a number of thousandths with three digits behind the point
unfoldable pub thousandths : ℕ → List ℕ
thousandths kept = decimal (kept / 1000) ++ codes "." ++ decimal (kept / 100 % 10) ++ decimal (kept / 10 % 10) ++ decimal (kept % 10)

-- a word and a number of thousandths
unfoldable pub thousandths_line : List ℕ → ℕ → List ℕ
thousandths_line word kept = word ++ codes " = " ++ thousandths kept ++ codes "\n"

-- the head of a table that is one of many
unfoldable pub table_line : List ℕ → List ℕ
table_line word = codes "\n[[" ++ word ++ codes "]]\n"

-- what was done and taken back
unfoldable pub work_lines : Counts → List ℕ
work_lines c =
    stat_line (codes "turns") c.turns
    ++ stat_line (codes "steps") c.steps
    ++ stat_line (codes "undone") c.undone
    ++ stat_line (codes "rollbacks") c.rollbacks

-- what is counted, and so many changes
unfoldable pub counts_lines : Counts → ℕ → List ℕ
counts_lines c changes =
    work_lines c
    ++ stat_line (codes "messages") c.messages
    ++ stat_line (codes "antimessages") c.antimessages
    ++ stat_line (codes "changes") changes
    ++ thousandths_line (codes "efficiency") (kept_of c.steps c.undone)

-- the table of a block
unfoldable pub block_lines : BlockStats → List ℕ
block_lines block =
    table_line (codes "block")
    ++ stat_line (codes "number") block.number
    ++ stat_line (codes "nets") block.nets
    ++ counts_lines block.counts block.changes

abbrev pub stats_lines : Stats → List ℕ
stats_lines stats =
    stat_line (codes "rounds") stats.rounds
    ++ counts_lines (total_of stats.blocks.items) stats.changes
    ++ flat_map block_lines stats.blocks.items
