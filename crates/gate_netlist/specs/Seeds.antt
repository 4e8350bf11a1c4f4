-- The seed of a text, by which the names in it are hashed.
use Rattle.std.specs.Prelude.{None, false, ℕ, List, fold}
use Rattle.std.specs.Hash.{u64}
use Rattle.std.specs.Hash.DefaultHasher.{initial, write, finish}
use Rattle.std.specs.Hash.FoldHasher as words
use Rattle.gate_netlist.specs.declared.seed.TextSeed.{TextSeed}

-- a hasher that has read the hash of the whole text
abbrev pub seed_of : List ℕ → TextSeed
seed_of text = record { seeded = record { words = fold words.write words.initial (u64 (finish (write initial text))); last = None; is_ended = false } }
