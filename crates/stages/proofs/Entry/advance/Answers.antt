use Rattle.std.proofs.Common.{◌≡◌, suc, ◌+◌, length, ap, arith}
use Rattle.std.proofs.lemmas.Grind.{common_steps}
use Rattle.protocol.specs.Step.{kind_over}
use Rattle.protocol.specs.Calls.{decision}
use Rattle.stages.specs.Readings.{move_of}
use Rattle.stages.proofs.Shifts.{shift_read}
use Rattle.stages.proofs.Entry.advance.Goals as goal
use Rattle.stages.proofs.Entry.advance.Goals.{in-Idle, in-Home, in-Look, in-Left, in-Right, in-FirstMark, in-SecondMark, in-GiveBack, in-Check, in-Shift, in-ReleaseLeft, in-ReleaseRight}

pub returns : goal.returns
returns g c =
    let κ = kind_over g.K.Key.order g.K.Key.home (length c.args.cells.now) in
    let h : c.home-h.result + 1 ≡ suc (g.K.Key.home c.args.self.now.key (length c.args.cells.now)) = omega (arith, c.home-h.ensures) in
    let e : c.match-self.next ≡ move_of (decision κ c.args.cells.now c.args.self.now.key c.args.self.now.stage) =
    elim c.match-self.branch [
      | in-Idle w ↦ grind (arith, common_steps)
      | in-Home w ↦ simp (w.in-Home.is, w.next-is, w.at_home.ensures, w.seen_at.ensures.marked, w.order_at.ensures.value, h)
      | in-Look w ↦ simp (w.in-Look.is, w.next-is, w.at_look.ensures, w.walk.ensures, h)
      | in-Left w ↦ simp (w.in-Left.is, w.next-is, w.at_left.ensures, w.seen_at-in-Left.ensures.marked, w.seen_at-in-Left.ensures.occupied, h)
      | in-Right w ↦ simp (w.in-Right.is, w.next-is, w.at_right.ensures, w.seen_at-in-Right.ensures.marked, w.seen_at-in-Right.ensures.occupied)
      | in-FirstMark w ↦ simp (w.in-FirstMark.is, w.next-is, w.at_first.ensures, w.seen_at-in-FirstMark.ensures.marked, w.seen_at-in-FirstMark.ensures.occupied)
      | in-SecondMark w ↦ simp (w.in-SecondMark.is, w.next-is, w.at_second.ensures, w.seen_at-in-SecondMark.ensures.marked, w.seen_at-in-SecondMark.ensures.occupied, h)
      | in-GiveBack w ↦ simp (w.in-GiveBack.is, w.next-is, w.at_give_back.ensures)
      | in-Check w ↦ simp (w.in-Check.is, w.next-is, w.at_check.ensures, w.walk-walk.ensures, w.order_at-in-Check.ensures.value, h)
      | in-Shift w ↦ simp (w.in-Shift.is, w.next-is, w.at_shift.ensures, w.shift-copy.ensures, shift_read κ c.args.self.now.key w.in-Shift.towards w.in-Shift.left w.in-Shift.right w.in-Shift.gap)
      | in-ReleaseLeft w ↦ simp (w.in-ReleaseLeft.is, w.next-is, w.release.ensures)
      | in-ReleaseRight w ↦ simp (w.in-ReleaseRight.is, w.next-is, w.release-in-ReleaseRight.ensures)
    ] in
    record { stage = ap (λ m. record { key = c.args.self.now.key; stage = m.next }) e; act = ap (λ m. m.act) e }
