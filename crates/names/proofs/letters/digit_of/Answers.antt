use Rattle.std.proofs.Common.{◌≡◌, false, sym, ◌∙◌, arith}
use Rattle.std.proofs.lemmas.Bool.Decides.{nat_tests}
use Rattle.names.specs.Utf8.{inside}
use Rattle.names.proofs.Rows.{digit_outside, digit_in_table, digit_none}
use Rattle.names.proofs.letters.digit_of.Goals as goal

pub returns-in-0-to-127 : goal.returns-in-0-to-127
returns-in-0-to-127 c =
    let o : inside 192 383 c.args.c ≡ false = grind (arith, nat_tests) in
    c.ascii_digit.ensures ∙ sym (digit_outside c.args.c o)

pub returns-in-192-to-383 : goal.returns-in-192-to-383
returns-in-192-to-383 c =
    c.table_digit.ensures.value ∙ digit_in_table _ c.args.c c.table_digit.ensures.rule (omega arith) (omega arith)

-- the code points between, and those above
pub returns-in_default : goal.returns-in_default
returns-in_default c = digit_none c.args.c (omega arith) (grind (arith, nat_tests))

pub returns-in_default-2 : goal.returns-in_default-2
returns-in_default-2 c = digit_none c.args.c (omega arith) (grind (arith, nat_tests))
