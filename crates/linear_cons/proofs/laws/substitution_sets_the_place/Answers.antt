use Rattle.std.proofs.Common.{◌<◌, length, arith}
use Rattle.linear_cons.proofs.Forms.{value_substituted}
use Rattle.linear_cons.proofs.laws.substitution_sets_the_place.Goals as goal

pub returns : goal.returns
returns c = λ a place by store low long. let inside : place < length store = omega arith in value_substituted a place by store low inside
