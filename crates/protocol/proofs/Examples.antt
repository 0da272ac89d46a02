-- The worked examples, by computation.
use Rattle.std.proofs.Common.{refl}
use Rattle.protocol.specs.Calls.{refused_if, for_record, beginning, collecting, withdrawing, stepping, alone, whole_entry}
use Rattle.protocol.specs.OneWorker.{all_occupied, empty_left, empty_right, has, slide_left, slide_right, one_worker}
use Rattle.protocol.specs.Examples.{entering, answers, steps, sayings, worked, worker_answers, by_turns, Examples}

pub examples : Examples
unfolding entering answers steps sayings by_turns worked worker_answers one_worker all_occupied empty_left empty_right has slide_left slide_right refused_if for_record beginning stepping collecting withdrawing alone whole_entry
examples = record {
  ten_worker = refl;
  ten = refl;
  two_worker = refl;
  two = refl;
  two_cells = refl;
  three_1 = refl;
  three_2 = refl;
  three_3 = refl;
  twelve = refl;
  twelve_collected = refl;
  twelve_cells = refl;
  race_inserted = refl;
  race_found = refl;
  race_cells = refl;
  home_said = refl;
  home_stays = refl;
  withdrawn_said = refl;
  withdrawn_steps = refl;
  withdrawn_cells = refl;
  overtaken_steps = refl;
  overtaken_cells = refl;
  gone_said = refl;
  refused_1 = refl;
  refused_2 = refl;
  refused_3 = refl;
  refused_4 = refl;
  refused_5 = refl;
  refused_6 = refl;
  refused_7 = refl;
  refused_8 = refl;
}
