use Rattle.keys.specs.Kinds.{tray_order, tray_home}
use Rattle.register.proofs.Holders.{never_refused}
use Rattle.usage.proofs.enter_in_one_step.Goals as goal

pub unreachable-requires : goal.unreachable-requires
unreachable-requires c =
    never_refused tray_order tray_home _ _ _ _ _ 0 c.args.tray c.in_ok-slip.slip c.step.result c.in-Err.field-0 c.in-Err-withdraw.field-0
    c.in_ok-slip.ensures c.step.ensures c.in-Err.ensures c.in-Err-withdraw.ensures
