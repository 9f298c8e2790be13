use Rattle.std.proofs.Common.{◌≡◌, length, sym, ◌∙◌, arith}
use Rattle.std.proofs.lemmas.List.{length-take}
use Rattle.memory_files.proofs.Bytes.{length_read, read_past, read_bytes}
use Rattle.memory_files.proofs.body.FileBody.read_at.Goals as goal

pub returns-then-position-self-clause-count : goal.returns-then-position-self-clause-count
returns-then-position-self-clause-count c = rw (← c.self.view_is, length_read) (omega arith)

pub returns-then-position-self-clause-bytes : goal.returns-then-position-self-clause-bytes
returns-then-position-self-clause-bytes c =
    rw (← c.self.view_is) (sym (read_past c.self.inside.pages c.self.inside.size c.args.position
    (length c.args.into.now) c.if-position-self.true))

pub returns-clause-count : goal.returns-clause-count
returns-clause-count c = rw (← c.self.view_is, length_read) c.min-count.ensures

pub returns-clause-bytes : goal.returns-clause-bytes
returns-clause-bytes c =
    let head = length-take c.min-count.result c.args.into.now in
    let len : length c.read.new.into ≡ c.min-count.result = c.read.auto.into ∙ head
    ∙ omega (arith, c.min-count.ensures) in
    rw (← c.self.view_is)
    (read_bytes c.self.inside.pages c.self.inside.size c.args.position (length c.args.into.now) c.min-count.result
    c.read.new.into _ c.min-count.ensures len
    (λ k h. c.read.ensures k (omega (arith, c.min-count.ensures))))
