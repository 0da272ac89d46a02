use Rattle.std.proofs.Common.{◌≡◌, take, count_by}
use Rattle.protocol.specs.declared.Answer.TheVariants.{Inserted, Found, Full}
use Rattle.script.specs.Tallies.{tells, is_refusal, is_malformed}
use Rattle.script.proofs.tallies.Tally.of.Given as goal

abbrev pub invariant-loop-reply : goal.invariant-loop-reply
invariant-loop-reply l =
    (l.inserted ≡ count_by (tells Inserted) (take l.reply-index l.replies))
    × (l.found ≡ count_by (tells Found) (take l.reply-index l.replies))
    × (l.full ≡ count_by (tells Full) (take l.reply-index l.replies))
    × (l.refused ≡ count_by is_refusal (take l.reply-index l.replies))
    × (l.malformed ≡ count_by is_malformed (take l.reply-index l.replies))
