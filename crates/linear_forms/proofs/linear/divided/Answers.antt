use Rattle.std.proofs.Common.{to_z-of_z}
use Rattle.linear_forms.proofs.Known.{divided_as}
use Rattle.linear_forms.proofs.linear.divided.Goals as goal

pub returns : goal.returns
returns c =
    divided_as c.checked_div.result c.args.end c.args.by _ _ (to_z-of_z c.ranges.end) (to_z-of_z c.ranges.by) c.requires c.checked_div.ensures
