use Rattle.std.proofs.Common.{ℕ, List, length, Some, sym, ap, ◌∙◌, arith, length-take-le}
use Rattle.names.specs.Reading.{lettered}
use Rattle.names.specs.Progress.{letters_in, letter_at}
use Rattle.names.proofs.Rows.{letter_full, letter_fits}
use Rattle.names.proofs.Row.push_letter.Goals as goal

pub returns-then-self-ge24 : goal.returns-then-self-ge24
returns-then-self-ge24 c = λ place.
    letter_full c.args.self.now c.args.digit place
    (omega (arith, ap length c.self.view_is, length-take-le c.self.inside.count c.self.inside.digits (omega arith), c.self.invariant))

pub returns : goal.returns
returns c = λ place.
    ap (λ (v : List ℕ). lettered (letters_in v) (Some (letter_at c.args.digit)) place) (sym c.self.view_is)
    ∙ letter_fits c.self.inside.digits c.self.inside.count c.args.digit place (omega arith) (omega arith)
