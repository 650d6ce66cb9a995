use Rattle.report_text.proofs.fitting.+make_plain.Goals as goal

pub returns-in_ok-become_plain-in-Leaf : goal.returns-in_ok-become_plain-in-Leaf
returns-in_ok-become_plain-in-Leaf t c = rw c.in-Leaf.is (c.in_ok-become_plain-in-Leaf.ensures c.in-Leaf.why c.in-Leaf.rank)
