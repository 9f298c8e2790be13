use Rattle.std.proofs.Common.{◌≡◌, ◌<◌, length, drop, rules}
use Rattle.std.specs.Prelude.{nat_le}
use Rattle.sequential_object.specs.Object.{Pipe}
use Rattle.sequential_object.specs.Streams.{bytes_put, pipe_write}
use Rattle.posix_terms.specs.declared.limits.TheConstants.Limits as limit
use Rattle.posix_terms.specs.declared.object.End.TheVariants as part
use Rattle.descriptor_table.specs.Table.{is_open}
use Rattle.pipes.specs.Pipe.{left_by_write, write_answer}
use Rattle.call_turns.specs.Acting.{ending_of_pipe, holding}
use Rattle.call_turns.specs.Store.{kept_at}
use Rattle.call_turns.proofs.Streaming.{written_pipe}
use Rattle.call_turns.proofs.store.Store.write_pipe.Goals as goal

pub returns-clause-acts : goal.returns-clause-acts
returns-clause-acts c =
    let h = c.args.self.now in
    let object = c.args.object in
    let bytes = c.args.bytes.now in
    let waiting = (kept_at h object).pipe in
    let rest = drop c.args.before bytes in
    let whole = nat_le (length bytes) limit.PIPE_BUF in
    let now = length (bytes_put limit.PIPE_BYTES waiting rest whole) in
    let w = pipe_write waiting rest whole (is_open h.table object part.Read) in
    let told : c.pipe_ending.result ≡ ending_of_pipe c.args.to (length bytes) c.args.before (write_answer now w) =
    search rules in
    let left : c.put_pipe-answer.new.self ≡ holding h object (Pipe (left_by_write waiting w)) = search rules in
    let inside : object < length h.bodies = search rules in
    written_pipe h object inside c.args.to (length bytes) c.args.before now w c.pipe_ending.result
    c.put_pipe-answer.new.self told left
