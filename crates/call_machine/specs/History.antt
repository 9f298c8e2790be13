-- Internal: no contract of the headline or of a command stands on it.
-- The history of a run, and what each thread saw of it.
pub use Rattle.machine.specs.History.{AreRising, IsBeforeAll, Past, reply_before}
pub use Rattle.machine.specs.History.{transcript_of, transcripts_of}
