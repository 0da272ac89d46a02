use Rattle.std.proofs.Common.{[], ◌∷◌, replicate, refl}
use Rattle.names.specs.Decomposition.{canonical}
use Rattle.names.specs.Letters.{mark_number, letter_of}
use Rattle.names.specs.Reading.{text_in, letters, reading, key_of}
use Rattle.names.specs.Digits.{digits_of, name_home}
use Rattle.examples.proofs.name_examples.Goals as goal

pub returns : goal.returns
unfolding reading text_in letters canonical mark_number letter_of digits_of name_home
returns c = record {
  composed = record { name = key_of (record { number = 35; mark = 2 } ∷ []); is = refl; digit = refl; cell = refl };
  apart = record { name = key_of (record { number = 35; mark = 2 } ∷ []); is = refl; digit = refl; cell = refl };
  alike = refl;
  mark = refl;
  marks = refl;
  times = refl;
  half = refl;
  none = refl;
  most = record { name = key_of (replicate 24 record { number = 5; mark = 0 }); is = refl; digit = refl; cell = refl };
  more = refl;
}
