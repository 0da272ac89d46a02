-- A report of a script that was played.
use Rattle.std.specs.Prelude.{◌≡◌, vec_items, string_bytes}
use Rattle.script.specs.declared.plays.Report.{Report}
use Rattle.script.specs.Hands.{slips_left}
use Rattle.script.specs.Plays.{Played}

abbrev pub Reports : Report → Played → Type 0
Reports r p = (string_bytes r.text ≡ p.text) × (vec_items r.replies ≡ p.replies) × (r.left ≡ slips_left p.slips)
