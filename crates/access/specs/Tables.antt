-- What a table of notes is, for the access lists. Assumes nothing.
pub use Rattle.notes.specs.Answers.{first_refusal}
pub use Rattle.notes.specs.Tables.{Noting, listed, others, push_answer, table_answer, new_entry, table_after, new_tables, settled, note_answer, noted_in}
