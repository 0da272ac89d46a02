-- Worked examples of names that are read and names that are refused.
use Rattle.std.specs.Prelude.{◌≡◌, ℕ, List, [], ◌∷◌, replicate, Ok, Err, slice_index_or}
use Rattle.names.specs.declared.Name.{Name}
use Rattle.names.specs.declared.Reason.TheVariants.{IllFormed, NotListed, LooseMark, Length}
use Rattle.names.specs.Reading.{fault, reading}
use Rattle.names.specs.Digits.{digits_of, name_home}

-- read as a key with this first digit, whose home among 16 cells is this one
pub record Reads (bs : List ℕ) (first home : ℕ) : Type 0 where
  pub name : Name
  pub is : reading bs ≡ Ok name
  pub digit : slice_index_or (digits_of name) 0 0 ≡ first
  pub cell : name_home name 16 ≡ home

pub record NameExamples : Type 0 where
  -- e with acute, composed and as a mark after its letter
  pub composed : Reads (0xC3 ∷ 0xA9 ∷ []) 492 7
  pub apart : Reads (0x65 ∷ 0xCC ∷ 0x81 ∷ []) 492 7
  pub alike : reading (0xC3 ∷ 0xA9 ∷ []) ≡ reading (0x65 ∷ 0xCC ∷ 0x81 ∷ [])
  -- a mark on no letter, and a second mark
  pub mark : reading (0xCC ∷ 0x81 ∷ []) ≡ Err (fault LooseMark 0)
  pub marks : reading (0x65 ∷ 0xCC ∷ 0x81 ∷ 0xCC ∷ 0x81 ∷ []) ≡ Err (fault LooseMark 3)
  -- the multiplication sign, and half a sequence
  pub times : reading (0xC3 ∷ 0x97 ∷ []) ≡ Err (fault NotListed 0)
  pub half : reading (0xC3 ∷ []) ≡ Err (fault IllFormed 0)
  -- no bytes, 24 letters, 25 letters
  pub none : reading [] ≡ Err (fault Length 0)
  pub most : Reads (replicate 24 0x41) 70 1
  pub more : reading (replicate 25 0x41) ≡ Err (fault Length 24)
