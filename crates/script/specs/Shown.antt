-- What is printed of cells and replies.
use Rattle.std.specs.Prelude.{ℕ, Bool, true, false, List, [], ◌∷◌, ◌++◌, codes, decimal}
use Rattle.keys.specs.declared.Tray.{Tray}
use Rattle.protocol.specs.declared.Cell.{Cell}
use Rattle.protocol.specs.Texts.{answer_text, progress_text, departure_text, refusal_text}
use Rattle.script.specs.Orders.{fault_text}
use Rattle.script.specs.declared.replies.Reply.{Reply}
use Rattle.script.specs.declared.replies.Reply.TheVariants.{Begun, Stepped, Told, Withdrawn, Refused, NoSlip, Shown, Nothing, Faulty}

-- a dash for an empty cell, and a star for a mark
abbrev pub key_text : Bool → Tray → List ℕ
key_text true k = decimal k.number
key_text false k = 0xE2 ∷ 0x80 ∷ 0x93 ∷ []

abbrev pub mark_text : Bool → List ℕ
mark_text true = codes "*"
mark_text false = []

abbrev pub cell_text : Cell Tray → List ℕ
cell_text c = key_text c.occupied c.key ++ mark_text c.marked

-- the cells in their order, a space before each
abbrev pub spaced : List (Cell Tray) → List ℕ
spaced [] = []
spaced (c ∷ cs) = codes " " ++ (cell_text c ++ spaced cs)

abbrev pub row_text : List (Cell Tray) → List ℕ
row_text cs = codes "cells:" ++ spaced cs

-- what a line is answered
abbrev pub reply_text : Reply → List ℕ
reply_text Begun = codes "BEGUN"
reply_text (Stepped p) = progress_text p
reply_text (Told a) = answer_text a
reply_text (Withdrawn d) = departure_text d
reply_text (Refused e) = refusal_text e
reply_text NoSlip = codes "NO SLIP"
reply_text Shown = codes "SHOWN"
reply_text Nothing = codes "NOTHING"
reply_text (Faulty f) = fault_text f
