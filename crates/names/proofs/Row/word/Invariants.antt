use Rattle.std.proofs.Common.{◌≡◌, ◌-◌, ◌≤◌, get_or}
use Rattle.names.proofs.Packing.{word_from, most}
use Rattle.names.proofs.Row.word.Given as goal

abbrev pub invariant-loop-k : goal.invariant-loop-k
invariant-loop-k l = record {
  value : l.word ≡ word_from (λ k. get_or l.self k 0) l.i (l.k - l.i);
  bound : l.word ≤ most (l.k - l.i);
}
