use Rattle.std.proofs.Common.{ℕ, List, length, sym, ap, ◌∙◌, arith, length-take-le}
use Rattle.names.specs.Reading.{marked}
use Rattle.names.specs.Progress.{letters_in}
use Rattle.names.proofs.Rows.{last_marked, last_loose, mark_first}
use Rattle.names.proofs.Row.push_mark.Goals as goal

pub returns-in_default : goal.returns-in_default
returns-in_default c = λ place. mark_first c.args.self.now c.args.mark place (omega (arith, ap length c.self.view_is, length-take-le c.self.inside.count c.self.inside.digits (omega arith)))

pub returns-then-not-takes_mark : goal.returns-then-not-takes_mark
returns-then-not-takes_mark c = λ place.
    ap (λ (v : List ℕ). marked (letters_in v) c.args.mark place) (sym c.self.view_is)
    ∙ last_loose c.self.inside.digits c.self.inside.count c.in-Some.last c.args.mark place (omega arith) (omega arith) (sym c.takes_mark.ensures ∙ c.if-not-takes_mark.true)

pub returns : goal.returns
returns c = λ place.
    ap (λ (v : List ℕ). marked (letters_in v) c.args.mark place) (sym c.self.view_is)
    ∙ last_marked c.self.inside.digits c.self.inside.count c.in-Some.last c.args.mark place (omega arith) (omega arith) c.requires (sym c.takes_mark.ensures ∙ c.if-not-takes_mark.false)
