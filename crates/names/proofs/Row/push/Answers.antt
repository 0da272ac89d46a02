use Rattle.std.proofs.Common.{◌∙◌, sym, arith}
use Rattle.names.proofs.Tables.{mark_most}
use Rattle.names.proofs.Rows.{mark_is, by_none, lettered_by, by_letter}
use Rattle.names.proofs.Row.push.Goals as goal

pub push_mark-requires : goal.push_mark-requires
push_mark-requires c = let e = mark_is c.args.c c.in-Some-default.mark (sym c.mark_of.ensures ∙ c.in-Some-default.is-0) in omega (arith, mark_most c.args.c)

pub returns-in-None-Some : goal.returns-in-None-Some
returns-in-None-Some c = λ place.
    by_letter _ c.args.c place (by_none c.args.c (sym c.mark_of.ensures ∙ c.in-None-Some.is-0))
    ∙ lettered_by _ c.args.c c.in-None-Some.digit place (sym c.digit_of.ensures ∙ c.in-None-Some.is-1)
    ∙ c.push_letter.ensures place
