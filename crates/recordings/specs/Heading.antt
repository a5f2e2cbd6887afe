-- What a recording that is handed over means.
use Rattle.definitions.specs.Recordings as given
use Rattle.definitions.specs.Recordings.{recording_of}
use Rattle.recordings.specs.declared.heading.Recording.{Recording}

abbrev pub recording_in : Recording → given.Recording
recording_in r = recording_of r.controllers r.count r.masks.now r.states.now
