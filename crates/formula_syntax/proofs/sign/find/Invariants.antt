use Rattle.std.proofs.Common.{◌≡◌, map, drop}
use Rattle.formula_syntax.specs.Words.{found}
use Rattle.formula_syntax.proofs.sign.find.Given as goal

-- the entries that are left decide
abbrev pub invariant-loop-spelling : goal.invariant-loop-spelling
invariant-loop-spelling l =
    found (map (λ entry. (entry.0.now, entry.1)) l.table) l.bytes
    ≡ found (map (λ entry. (entry.0.now, entry.1)) (drop l.spelling-index l.table)) l.bytes
