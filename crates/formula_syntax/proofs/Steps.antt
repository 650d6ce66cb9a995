-- The steps of reading that the answers about readers cite.
pub use Rattle.derivation.proofs.Grammars.{exceeds, fails, over, read}
pub use Rattle.derivation.proofs.Choices.{goes, held, left_out, not_next, stuck, taken}
pub use Rattle.derivation.proofs.Answering.{failed_on, passed_on}
pub use Rattle.formula_syntax.proofs.Completions.{lawful}
pub use Rattle.formula_syntax.proofs.Answering.{bytes_reads, bytes_refused, mark_reads, mark_refused, number_reads, opening_reads, opening_refused, told}
