-- What the lent space of a session is to the definitions.
use Rattle.definitions.specs.Sessions as sessions
use Rattle.definitions.specs.Sessions.{lent_space}
use Rattle.session_status.specs.declared.space.Space.{Space}

abbrev pub space_in : Space → sessions.Space
space_in s = lent_space s.heading s.masks s.nodes s.states
