use Rattle.std.proofs.Common.{sym}
use Rattle.name_list.proofs.Seens.{noted_same, noted_new}
use Rattle.name_list.proofs.note.Goals as goal

pub returns-in-Some : goal.returns-in-Some
returns-in-Some c =
    noted_same c.args.first.now c.args.n c.in-Some.line.now _ c.in-Ok.name (sym c.in-Ok.ensures.value) c.requires c.in-Some.ensures.value

pub returns : goal.returns
returns c =
    noted_new c.args.first.now c.insert.new.self c.args.n _ c.in-Ok.name (sym c.in-Ok.ensures.value) c.requires
    c.in_default.ensures.value c.in_ok-insert.ensures.updates c.in_ok-insert.ensures.ordered
