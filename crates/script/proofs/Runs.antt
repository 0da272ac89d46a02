-- The loop over the lines of a script: what is known between two lines.
use Rattle.std.proofs.Common.{◌≡◌, ℕ, ◌+◌, List, [], ◌∷◌, ◌++◌, length, Option, sym, ap, ◌∙◌, append_assoc, append-nil, arith, length-append}
use Rattle.keys.specs.declared.Tray.{Tray}
use Rattle.protocol.specs.Calls.{World}
use Rattle.register.specs.declared.Slip.{Slip}
use Rattle.text.specs.Lines.{lines_of}
use Rattle.script.specs.declared.replies.Reply.{Reply}
use Rattle.script.specs.Plays.{Outcome, outcome, Played, played}

-- what was played so far, before the rest
abbrev before : List ℕ → List Reply → Played → Played
before text replies p = record { memory = p.memory; slips = p.slips; replies = replies ++ p.replies; text = text ++ p.text }

-- these lines are left
pub record Going (w₀ : World Tray) (slips₀ : List (Option Slip)) (script : List ℕ) (w : World Tray) (slips : List (Option Slip)) (left : List (List ℕ)) (text : List ℕ) (replies : List Reply) : Type 0 where
  pub goes : played w₀ slips₀ 1 (lines_of script) ≡ before text replies (played w slips (length replies + 1) left)

-- one more line
played_more : (w : World Tray) (slips : List (Option Slip)) (n : ℕ) (line : List ℕ) (ls : List (List ℕ)) (text : List ℕ) (replies : List Reply)
    → before text replies (played w slips n (line ∷ ls))
    ≡ before (text ++ (outcome w slips n line).text) (replies ++ (outcome w slips n line).reply ∷ []) (played (outcome w slips n line).memory (outcome w slips n line).slips (n + 1) ls)
unfolding played
played_more w slips n line ls text replies =
    let o = outcome w slips n line in
    let p = played o.memory o.slips (n + 1) ls in
    ap (λ (x : List ℕ). record { memory = p.memory; slips = p.slips; replies = replies ++ o.reply ∷ p.replies; text = x }) (sym (append_assoc text o.text p.text))
    ∙ ap (λ (x : List Reply). record { memory = p.memory; slips = p.slips; replies = x; text = (text ++ o.text) ++ p.text }) (sym (append_assoc replies (o.reply ∷ []) p.replies))

module _ (w₀ : World Tray) (slips₀ : List (Option Slip)) (script : List ℕ) where
  pub going_on : (w w' : World Tray) (slips slips' : List (Option Slip)) (left left' : List (List ℕ)) (line text said text' : List ℕ) (replies replies' : List Reply) (reply : Reply) (n : ℕ)
      → Going w₀ slips₀ script w slips left text replies → left ≡ line ∷ left' → n ≡ length replies + 1
      → record { memory = w'; slips = slips'; reply = reply; text = said } ≡ outcome w slips n line → text' ≡ text ++ said → replies' ≡ replies ++ reply ∷ []
      → Going w₀ slips₀ script w' slips' left' text' replies'
  going_on w w' slips slips' left left' line text said text' replies replies' reply n g l count o q r =
      let all : played w slips (length replies + 1) left ≡ played w slips n (line ∷ left') =
      ap (played w slips (length replies + 1)) l ∙ ap (λ i. played w slips i (line ∷ left')) (sym count) in
      let next : ℕ → Outcome → Played = λ i x. before (text ++ x.text) (replies ++ x.reply ∷ []) (played x.memory x.slips i left') in
      let more : n + 1 ≡ length replies' + 1 = omega (arith, count, ap length r, length-append replies (reply ∷ [])) in
      record {
        goes =
            g.goes ∙ ap (before text replies) all ∙ played_more w slips n line left' text replies
            ∙ ap (next (n + 1)) (sym o)
            ∙ ap (λ i. before (text ++ said) (replies ++ reply ∷ []) (played w' slips' i left')) more
            ∙ ap (λ (x : List ℕ). before x (replies ++ reply ∷ []) (played w' slips' (length replies' + 1) left')) (sym q)
            ∙ ap (λ (x : List Reply). before text' x (played w' slips' (length replies' + 1) left')) (sym r);
      }

  -- no line is left
  pub ends : (w : World Tray) (slips : List (Option Slip)) (left : List (List ℕ)) (text : List ℕ) (replies : List Reply) → Going w₀ slips₀ script w slips left text replies → left ≡ []
      → record { memory = w; slips = slips; replies = replies; text = text } ≡ played w₀ slips₀ 1 (lines_of script)
  unfolding played
  ends w slips left text replies g h =
      sym (g.goes ∙ ap (λ (ls : List (List ℕ)). before text replies (played w slips (length replies + 1) ls)) h
      ∙ ap (λ (x : List Reply). record { memory = w; slips = slips; replies = x; text = text ++ [] }) (append-nil replies)
      ∙ ap (λ (x : List ℕ). record { memory = w; slips = slips; replies = replies; text = x }) (append-nil text))
