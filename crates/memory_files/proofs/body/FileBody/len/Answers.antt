use Rattle.std.proofs.Common.{sym}
use Rattle.memory_files.proofs.Bytes.{length_bytes}
use Rattle.memory_files.proofs.body.FileBody.len.Goals as goal

pub returns-clause-size : goal.returns-clause-size
returns-clause-size c = rw (← c.self.view_is) (sym (length_bytes c.self.inside.pages c.self.inside.size))
