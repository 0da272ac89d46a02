-- How answers and refusals are printed.
use Rattle.std.specs.Prelude.{ℕ, List, ◌++◌, codes, decimal}
use Rattle.protocol.specs.Stages.{Answer, Inserted, Found, Full}
use Rattle.protocol.specs.Calls.{Progress, Departure, Refusal}
use Rattle.protocol.specs.declared.Progress.TheVariants as progress
use Rattle.protocol.specs.declared.Departure.TheVariants as departure
use Rattle.protocol.specs.Refusals.{number_of}

abbrev pub answer_text : Answer → List ℕ
answer_text Inserted = codes "INSERTED"
answer_text Found = codes "FOUND"
answer_text Full = codes "FULL"

abbrev pub progress_text : Progress → List ℕ
progress_text progress.GoesOn = codes "GOES ON"
progress_text progress.Answered = codes "ANSWERED"
progress_text progress.Idle = codes "IDLE"

abbrev pub departure_text : Departure → List ℕ
departure_text departure.Gone = codes "GONE"
departure_text departure.GoesOn = codes "GOES ON"

abbrev pub refusal_text : Refusal → List ℕ
refusal_text e = codes "REFUSED " ++ decimal (number_of e)
