use Rattle.std.proofs.Common.{◌≡◌, ◌-◌, length, Ok, Err, None, Result, ap, refl, ◌∙◌, rules}
use Rattle.std.specs.Result.{MatchResult}
use Rattle.names.specs.declared.Fault.{Fault}
use Rattle.names.specs.declared.Reason.{Reason}
use Rattle.names.specs.declared.Reason.TheVariants.{IllFormed}
use Rattle.names.specs.Utf8.{first}
use Rattle.names.specs.Reading.{fault}
use Rattle.std.proofs.lemmas.Result.{err_from_is_err_and}
use Rattle.names.specs.Progress.{went}
use Rattle.names.proofs.Runs.{going_starts, going_on, faulty, ill_formed, empty, whole}
use Rattle.names.proofs.read.Goals as goal

pub loop-rest-init : goal.loop-rest-init
loop-rest-init c = going_starts c.args.bytes.now c.new-row.result c.new-row.ensures

pub returns-in_err-c-clause-value : goal.returns-in_err-c-clause-value
returns-in_err-c-clause-value c =
    let p = err_from_is_err_and c.from_residual.result c.from_residual.ensures.1 in
    let place = length c.args.bytes.now - length c.loop-rest.rest.now in
    let e : c.in_err-c.field-0.0 ≡ fault IllFormed place = search rules in
    let n : first c.loop-rest.rest.now ≡ None = search rules in
    p.1 ∙ ap Err (p.2 ∙ e) ∙ ill_formed c.args.bytes.now c.loop-rest.rest.now c.loop-rest.row c.loop-rest.invariant n (search rules)

-- where the error was mapped, there was one
failed : (o : Result (Unit {0}) Reason) (f : Fault) (Q : Reason → Type 0) → MatchResult o (λ x. ◌≡◌ {A = Result (Unit {0}) Fault} (Err f) (Ok x)) Q → (r : Reason) × (o ≡ Err r) × Q r
failed (Ok x) f Q h = cc
failed (Err r) f Q h = (r, refl, h)

pub returns-in_err-map_err-clause-value : goal.returns-in_err-map_err-clause-value
returns-in_err-map_err-clause-value c =
    let p = err_from_is_err_and c.from_residual-in_err-map_err.result c.from_residual-in_err-map_err.ensures.1 in
    let place = length c.args.bytes.now - length c.loop-rest.rest.now in
    let w = failed c.push.result c.in_err-map_err.field-0.0 _ c.in_err-map_err.ensures.cases in
    let f : c.in_err-map_err.field-0.0 ≡ fault w.0 place = search rules in
    p.1 ∙ ap Err (p.2 ∙ f)
    ∙ faulty c.args.bytes.now c.loop-rest.rest.now c.in_ok-c.tail.now c.loop-rest.row c.in_ok-c.c w.0
    c.loop-rest.invariant (search rules) (λ place. c.push.ensures place ∙ ap (went c.push.new.self place) w.1)

pub loop-rest-preserved : goal.loop-rest-preserved
loop-rest-preserved c =
    let e : c.push.result ≡ Ok c.in_ok-map_err.field-0 = search rules in
    going_on c.args.bytes.now c.loop-rest.rest.now c.in_ok-c.tail.now c.loop-rest.row c.push.new.self c.in_ok-c.c
    c.loop-rest.invariant (search rules) (λ place. c.push.ensures place ∙ ap (went c.push.new.self place) e)

pub returns-then-is_empty-clause-value : goal.returns-then-is_empty-clause-value
returns-then-is_empty-clause-value c = empty c.args.bytes.now c.loop-rest.rest.now c.loop-rest.row c.loop-rest.invariant (search rules) (search rules)

pub returns-clause-value : goal.returns-clause-value
returns-clause-value c = ap Ok c.key.ensures ∙ whole c.args.bytes.now c.loop-rest.rest.now c.loop-rest.row c.loop-rest.invariant (search rules) (search rules)
