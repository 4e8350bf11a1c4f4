-- What contracts see of what isn't told yet.
use Rattle.history_waves.specs.declared.untold.Untold.TheInside.{Inside}
use Rattle.history_waves.specs.Stories.{Telling}

abbrev pub untold_of : Inside → Telling
untold_of left = record { own = left.own.now; words = left.words }
