use Rattle.std.proofs.Common.{refl}
use Rattle.benchmarks.proofs.Toggling.{pushed}
use Rattle.benchmarks.proofs.writing.toggle.Goals as goal

pub returns-clause-until : goal.returns-clause-until
returns-clause-until c = pushed c.args.waves.now c.push.new.self c.args.net c.args.time (record { time = c.args.time; value = c.other_value.result }) c.requires.known refl c.in_ok-push.ensures.ok c.requires.until
