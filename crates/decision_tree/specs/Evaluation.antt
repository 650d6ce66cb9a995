-- The leaf at which a store stands.
use Rattle.std.specs.Prelude.{ℤ, pos, int_le, List, [], ◌∷◌, All, if◌then◌else◌}
use Rattle.linear_cons.specs.Functions.{PartsFit, value_at}
use Rattle.linear_cons.specs.declared.row.Row.{Row}
use Rattle.decision_tree.specs.Plans.{Plan, branch}

-- the leaf met by going to the yes side where the row's value at the store is at least 0, else to the no side
abbrev pub eval : {R : Type 0} → Plan R → List ℤ → Plan R
eval (branch row this that) store = if int_le (pos 0) (value_at row.affine store) then eval this store else eval that store
eval end store = end

-- the rows that the store is compared with on that way
abbrev pub rows_met : {R : Type 0} → Plan R → List ℤ → List Row
rows_met (branch row this that) store = row ∷ (if int_le (pos 0) (value_at row.affine store) then rows_met this store
    else rows_met that store)
rows_met end store = []

-- no product, no sum and no value on that way is outside 128 bits
abbrev pub WayFits : {R : Type 0} → Plan R → List ℤ → Type 0
WayFits plan store = All (λ row. PartsFit row.affine store) (rows_met plan store)
