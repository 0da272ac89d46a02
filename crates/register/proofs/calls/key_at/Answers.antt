use Rattle.std.proofs.Common.{◌≡◌, ◌≤◌, None, length, rules, arith, ◌∙◌}
use Rattle.std.proofs.lemmas.Bool.Decides.{nat_tests}
use Rattle.protocol.specs.Calls.{bad_size}
use Rattle.register.proofs.Elements.{none_past}
use Rattle.register.proofs.calls.key_at.Goals as goal

pub returns-in_err-checked_add-clause-value : goal.returns-in_err-checked_add-clause-value
returns-in_err-checked_add-clause-value g c = λ number ts.
    let few : length c.args.cells.now ≤ 65536 = grind (arith, nat_tests, c.wrong_size.ensures, c.if-wrong_size.false) in
    let none : c.from_residual.result ≡ None = search rules in
    none ∙ none_past c.args.cells.now c.args.i (bad_size (length c.args.cells.now)) (omega arith)
