use Rattle.std.proofs.Common.{◌≡◌, ◌<◌, ◌&&◌, not, List, ℕ, length, take, drop, ◌++◌, ap, ap₂, sym, ◌∙◌, rules}
use Rattle.std.proofs.Math.Seq.{take-append_seam}
use Rattle.sequential_object.specs.Object.{Pair}
use Rattle.sequential_object.specs.Streams.{half_at, pair_read}
use Rattle.posix_terms.specs.Ends.{peer_of}
use Rattle.posix_terms.specs.declared.object.End.TheVariants as part
use Rattle.descriptor_table.specs.Table.{is_open}
use Rattle.pipes.specs.Pipe.{read_answer}
use Rattle.stream_sockets.specs.Pair.{left_by_read, read_into}
use Rattle.call_turns.specs.Acting.{ending_of_read, holding}
use Rattle.call_turns.specs.Store.{kept_at}
use Rattle.call_turns.proofs.Streaming.{read_of_pair}
use Rattle.call_turns.proofs.store.Store.read_pair.Goals as goal

pub returns-clause-acts : goal.returns-clause-acts
returns-clause-acts c =
    let h = c.args.self.now in
    let p = (kept_at h c.args.object).pair in
    let peer_open = is_open h.table c.args.object (part.Socket (peer_of c.args.side)) in
    let place : List ℕ = c.args.into.items in
    let r = pair_read p c.args.side (length place) peer_open in
    let answered : c.take_pair-answer.result ≡ read_answer r = search rules in
    let filled : c.take_pair-answer.new.into ≡ read_into (half_at p c.args.side) place = search rules in
    let whole : length c.take_pair-answer.new.into ≡ c.args.into.len = search rules in
    let kept : take c.args.into.len (c.take_pair-answer.new.into ++ drop (length c.take_pair-answer.new.into) place)
    ≡ c.take_pair-answer.new.into =
    ap (λ (k : ℕ). take k (c.take_pair-answer.new.into ++ drop (length c.take_pair-answer.new.into) place)) (sym whole)
    ∙ take-append_seam c.take_pair-answer.new.into (drop (length c.take_pair-answer.new.into) place) in
    let as_answered : c.read_ending.result ≡ ending_of_read c.take_pair-answer.result c.take_pair-answer.new.into
    c.args.from.nonblock =
    c.read_ending.ensures.shown ∙ ap (λ (l : List ℕ). ending_of_read c.take_pair-answer.result l c.args.from.nonblock)
    kept in
    let told = as_answered ∙ ap₂ (λ a b. ending_of_read a b c.args.from.nonblock) answered filled in
    let left : c.take_pair-answer.new.self ≡ holding h c.args.object (Pair (left_by_read p c.args.side r)) =
    search rules in
    let inside : c.args.object < length h.bodies = search rules in
    read_of_pair h c.args.object inside c.args.from c.args.side place (peer_open
    && not (half_at p (peer_of c.args.side)).writing_shut)
    c.read_ending.result c.take_pair-answer.new.self told left
