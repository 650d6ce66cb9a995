-- The steps of reading that the answers about readers cite.
pub use Rattle.derivation.proofs.Grammars.{exceeds, fails, over, read, refilled, stay}
pub use Rattle.derivation.proofs.Choices.{goes, held, left_out, not_next, stuck, taken}
pub use Rattle.derivation.proofs.Answering.{failed_on, handed_on, passed_on}
pub use Rattle.source_syntax.proofs.Completions.{lawful}
pub use Rattle.source_syntax.proofs.Answering.{bytes_reads, bytes_refused, leading_opening_reads, leading_opening_refused, leading_reads, leading_refused, name_reads, name_refused, number_at_reads, number_at_refused, number_reads, opening_reads, opening_refused, sign_at_reads, sign_at_refused, sign_reads, sign_refused, signs_read, signs_refused}
