use Rattle.std.proofs.Common.{◌+◌, arith, rules}
use Rattle.text.proofs.Digits.{goes_on, below}
use Rattle.text.proofs.number.Goals as goal

pub overflow_mul-n : goal.overflow_mul-n
overflow_mul-n c = omega (arith, below c.args.word.now c.loop-b.b-index c.loop-b.n 8 c.loop-b.invariant (omega arith))

pub overflow_add-n : goal.overflow_add-n
overflow_add-n c =
    omega (
      arith,
      below c.args.word.now (c.loop-b.b-index + 1) _ 9
          (goes_on c.args.word.now c.loop-b.b-index c.loop-b.n _ c.loop-b.invariant c.loop-b-test.true (search rules) c.from.ensures) (omega arith),
    )
