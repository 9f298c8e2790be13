use Rattle.std.proofs.Common.{◌≡◌, ◌<◌, length, rules}
use Rattle.sequential_object.specs.Object.{Pair}
use Rattle.sequential_object.specs.Streams.{pair_write}
use Rattle.posix_terms.specs.Ends.{peer_of}
use Rattle.posix_terms.specs.declared.object.End.TheVariants as part
use Rattle.descriptor_table.specs.Table.{is_open}
use Rattle.pipes.specs.Pipe.{write_answer}
use Rattle.stream_sockets.specs.Pair.{left_by_write}
use Rattle.call_turns.specs.Acting.{ending_of_write, holding}
use Rattle.call_turns.specs.Store.{kept_at}
use Rattle.call_turns.proofs.Streaming.{written_pair}
use Rattle.call_turns.proofs.store.Store.write_pair.Goals as goal

pub returns-clause-acts : goal.returns-clause-acts
returns-clause-acts c =
    let h = c.args.self.now in
    let p = (kept_at h c.args.object).pair in
    let w = pair_write p c.args.side c.args.bytes.now
    (is_open h.table c.args.object (part.Socket (peer_of c.args.side))) in
    let told : c.write_ending.result ≡ ending_of_write (write_answer (length c.args.bytes.now) w) c.args.to.nonblock =
    search rules in
    let left : c.put_pair-answer.new.self ≡ holding h c.args.object (Pair (left_by_write p c.args.side w)) =
    search rules in
    let inside : c.args.object < length h.bodies = search rules in
    written_pair h c.args.object inside c.args.to c.args.side (length c.args.bytes.now) w c.write_ending.result
    c.put_pair-answer.new.self told left
