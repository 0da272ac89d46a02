-- Every refusal of the register's calls, with its number. None carries more than that; a refused slip is handed back beside it.
use Rattle.std.specs.Prelude.{ℕ}
use Rattle.protocol.specs.Calls.{Refusal, WrongSize, OtherRegister, NoStation, NotIdle, NoEntry, NoCell, NotAnswered, Barred}

abbrev pub number_of : Refusal → ℕ
number_of WrongSize = 1
number_of OtherRegister = 2
number_of NoStation = 3
number_of NotIdle = 4
number_of NoEntry = 5
number_of NoCell = 6
number_of NotAnswered = 7
number_of Barred = 8
