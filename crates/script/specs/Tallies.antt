-- The replies of a script, counted.
use Rattle.std.specs.Prelude.{ℕ, Bool, true, false, List, ◌++◌, count_by, codes, decimal}
use Rattle.protocol.specs.declared.Answer.{Answer}
use Rattle.protocol.specs.declared.Answer.TheVariants.{Inserted, Found, Full}
use Rattle.script.specs.declared.orders.Fault.TheVariants.{Malformed, NoTray}
use Rattle.script.specs.declared.replies.Reply.{Reply}
use Rattle.script.specs.declared.replies.Reply.TheVariants.{Begun, Stepped, Told, Withdrawn, Refused, NoSlip, Shown, Nothing, Faulty}
use Rattle.script.specs.declared.tallies.Tally.{Tally}

-- whether two answers are the same
abbrev pub same_answer : Answer → Answer → Bool
same_answer Inserted Inserted = true
same_answer Found Found = true
same_answer Full Full = true
same_answer Inserted Found = false
same_answer Inserted Full = false
same_answer Found Inserted = false
same_answer Found Full = false
same_answer Full Inserted = false
same_answer Full Found = false

-- a collection or a whole entry gives this answer
abbrev pub tells : Answer → Reply → Bool
tells a (Told b) = same_answer a b
tells a (Refused e) = false
tells a (Faulty f) = false
tells a Begun = false
tells a (Stepped p) = false
tells a (Withdrawn d) = false
tells a NoSlip = false
tells a Shown = false
tells a Nothing = false

-- an order or its tray is refused
abbrev pub is_refusal : Reply → Bool
is_refusal (Refused e) = true
is_refusal (Faulty (NoTray e)) = true
is_refusal (Faulty Malformed) = false
is_refusal (Told a) = false
is_refusal Begun = false
is_refusal (Stepped p) = false
is_refusal (Withdrawn d) = false
is_refusal NoSlip = false
is_refusal Shown = false
is_refusal Nothing = false

-- the line is malformed
abbrev pub is_malformed : Reply → Bool
is_malformed (Faulty Malformed) = true
is_malformed (Faulty (NoTray e)) = false
is_malformed (Refused e) = false
is_malformed (Told a) = false
is_malformed Begun = false
is_malformed (Stepped p) = false
is_malformed (Withdrawn d) = false
is_malformed NoSlip = false
is_malformed Shown = false
is_malformed Nothing = false

abbrev pub tally_of : List Reply → Tally
tally_of rs = record {
  inserted = count_by (tells Inserted) rs;
  found = count_by (tells Found) rs;
  full = count_by (tells Full) rs;
  refused = count_by is_refusal rs;
  malformed = count_by is_malformed rs;
}

abbrev pub tally_text : Tally → List ℕ
tally_text t =
    decimal t.inserted ++ (codes " INSERTED, " ++ (decimal t.found ++ (codes " FOUND, " ++ (decimal t.full ++ (codes " FULL, "
    ++ (decimal t.refused ++ (codes " refused, " ++ (decimal t.malformed ++ codes " malformed"))))))))
