use Rattle.std.proofs.Common.{◌-◌, ◌<◌, arith}
use Rattle.names.proofs.Packing.{word_fits}
use Rattle.names.proofs.Row.word.Goals as goal

pub overflow_mul-word : goal.overflow_mul-word
overflow_mul-word c = let n : c.loop-k.k - c.args.i < 8 = omega arith in omega (arith, word_fits (c.loop-k.k - c.args.i) c.loop-k.word n c.loop-k.invariant.bound)

pub overflow_add-word : goal.overflow_add-word
overflow_add-word c = let n : c.loop-k.k - c.args.i < 8 = omega arith in omega (arith, word_fits (c.loop-k.k - c.args.i) c.loop-k.word n c.loop-k.invariant.bound)
