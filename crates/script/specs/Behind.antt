-- The memory behind a session.
use Rattle.keys.specs.declared.Tray.{Tray}
use Rattle.protocol.specs.Calls.{World}
use Rattle.register.specs.Memory.{behind}
use Rattle.script.specs.declared.sessions.Session.{Session}

-- its register's number and cells, and its stations
abbrev pub memory : Session → World Tray
memory s = behind s.register s.stations
