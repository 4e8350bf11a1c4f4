-- What contracts see of a story.
use Rattle.history_waves.specs.declared.story.Story.TheInside.{Inside}
use Rattle.history_waves.specs.Stories.{Telling}

abbrev pub telling_of : Inside → Telling
telling_of story = record { own = story.own.items; words = story.history }
