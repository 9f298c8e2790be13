-- What a stream answers is how an act on it ends.
use Rattle.std.proofs.Common.{◌≡◌, ◌<◌, ℕ, List, length, take, drop, ◌++◌, ◌==◌, Some, Bool, true, false, if◌then◌else◌}
use Rattle.std.proofs.Common.{◌+◌, refl, sym, ap, ◌∙◌}
use Rattle.std.proofs.Math.Seq.{take-append_seam}
use Rattle.sequential_object.specs.declared.turn_end.ActEnd.{ActEnd}
use Rattle.sequential_object.specs.declared.turn_end.ActEnd.TheVariants as act_end
use Rattle.sequential_object.specs.Object.{Content, Pair, Pipe}
use Rattle.sequential_object.specs.Streams as stream
use Rattle.sequential_object.specs.Streams.{Half, PairState, Reading, Writing, half_at, stream_read, with_waiting}
use Rattle.posix_terms.specs.Ends.{peer_of}
use Rattle.posix_terms.specs.declared.object.Side.{Side}
use Rattle.posix_terms.specs.declared.reply.Reply.TheVariants as reply
use Rattle.sequential_object.specs.Acts.{Blocks, Replies, blocked_after, concludes, has_read, has_written, pipe_written}
use Rattle.sequential_object.specs.Acts.{replies}
use Rattle.sequential_object.specs.Acts.{moved_by}
use Rattle.pipes.specs.Pipe as pipes
use Rattle.sequential_object.specs.declared.decision.Seen.{Seen}
use Rattle.sequential_object.specs.Effects.{nothing_moved}
use Rattle.posix_terms.specs.declared.errno.Errno.TheVariants.{EAGAIN}
use Rattle.pipes.specs.Pipe.{read_answer, write_answer}
use Rattle.stream_sockets.specs.Pair.{left_by_read, left_by_write, read_into}
use Rattle.std.specs.Prelude.{nat_le, slice_index_or, slice_set}
use Rattle.call_turns.proofs.Lists.{set_same}
use Rattle.call_turns.specs.Acting.{Leaves, ending_of_pipe, ending_of_read, ending_of_write, holding}
use Rattle.call_turns.specs.Bodies.{Kept, first_kept, keeping}
use Rattle.call_turns.specs.Patience.{end_of, stopped_ending}
use Rattle.call_turns.specs.Store.{Stored, kept_at}

-- what is put back is what was there
put_back : (bodies : List Kept) (object : ℕ) (content : Content) → object < length bodies
    → keeping content (slice_index_or bodies object first_kept) ≡ slice_index_or bodies object first_kept
    → slice_set bodies object (keeping content (slice_index_or bodies object first_kept)) ≡ bodies
put_back bodies object content inside same =
    ap (slice_set bodies object) same ∙ set_same bodies object first_kept inside

module _ (h : Stored) (object : ℕ) (inside : object < length h.bodies) where
  pub pair_kept : holding h object (Pair (kept_at h object).pair) ≡ h
  pair_kept = ap (λ (bodies : List Kept). record h { bodies = bodies })
      (put_back h.bodies object (Pair (kept_at h object).pair) inside refl)

  pub pipe_kept : holding h object (Pipe (kept_at h object).pipe) ≡ h
  pipe_kept = ap (λ (bodies : List Kept). record h { bodies = bodies })
      (put_back h.bodies object (Pipe (kept_at h object).pipe) inside refl)

  pub written_pair : (to : Seen) (side : Side) (count : ℕ) (w : Writing) (e : ActEnd) (new : Stored)
      → e ≡ ending_of_write (write_answer count w) to.nonblock
      → new ≡ holding h object (Pair (left_by_write (kept_at h object).pair side w))
      → Leaves (has_written to (λ left. Pair (with_waiting (kept_at h object).pair (peer_of side) left)) count w) h
      object (Some to.key) e new
  written_pair to side count (stream.Writes left) e new told is = (told, is)
  written_pair to side count stream.Breaks e new told is = (told, is ∙ pair_kept)
  written_pair to side count stream.NoRoom e new told is = by_flag to.nonblock told
    where
      by_flag : (b : Bool) → e ≡ stopped_ending b
          → Leaves (if b then replies (reply.Fail EAGAIN) else concludes (Blocks nothing_moved)) h object (Some to.key)
          e new
      by_flag true ends = (ends, is ∙ pair_kept)
      by_flag false ends = (ends, is ∙ pair_kept)

  abbrev p : PairState
  p = (kept_at h object).pair

  -- a reading of a half, and the bytes that it put into their place
  reading : Half → ℕ → Bool → Bool → Bool → Reading
  reading half n shut none more =
      if shut then stream.Ends else if none then (if more then stream.NothingYet else stream.Ends) else
      stream.Reads (take n half.waiting) (drop n half.waiting)

  pub read_of_pair : (from : Seen) (side : Side) (place : List ℕ) (more : Bool) (e : ActEnd) (new : Stored)
      → let p = (kept_at h object).pair in
      let half : Half = half_at p side in
      let r = if half.reading_shut then stream.Ends else stream_read half.waiting (length place) more in
      e ≡ ending_of_read (read_answer r) (read_into half place) from.nonblock
      → new ≡ holding h object (Pair (left_by_read p side r))
      → Leaves (has_read from (λ left. Pair (with_waiting p side left)) r) h object (Some from.key) e new
  unfolding reading
  read_of_pair from side place more e new told is =
      by_tests (half_at p side).reading_shut (length (half_at p side).waiting == 0) more told is
    where
      by_tests : (shut none more : Bool)
          → e ≡ ending_of_read (read_answer (reading (half_at p side) (length place) shut none more)) (if shut
          then place else take (length place) (half_at p side).waiting
          ++ drop (length (half_at p side).waiting) place) from.nonblock
          → new ≡ holding h object (Pair (left_by_read p side (reading (half_at p side) (length place) shut none more)))
          → Leaves (has_read from (λ left. Pair (with_waiting p side left))
          (reading (half_at p side) (length place) shut none more)) h object (Some from.key) e new
      by_tests true none more ends left = (ends, left ∙ pair_kept)
      by_tests false true true ends left = by_flag from.nonblock ends
        where
          by_flag : (b : Bool) → e ≡ stopped_ending b
              → Leaves (if b then replies (reply.Fail EAGAIN) else concludes (Blocks nothing_moved)) h object
              (Some from.key) e new
          by_flag true stops = (stops, left ∙ pair_kept)
          by_flag false stops = (stops, left ∙ pair_kept)
      by_tests false true false ends left = (ends, left ∙ pair_kept)
      by_tests false false more ends left = (
        ends ∙ ap (λ (bytes : List ℕ). act_end.Reply (reply.Data bytes))
            (take-append_seam (take (length place) (half_at p side).waiting)
            (drop (length (half_at p side).waiting) place)),
        left,
      )

  pub written_pipe : (to : Seen) (all before now : ℕ) (w : Writing) (e : ActEnd) (new : Stored)
      → e ≡ ending_of_pipe to all before (write_answer now w)
      → new ≡ holding h object (Pipe (pipes.left_by_write (kept_at h object).pipe w))
      → Leaves (pipe_written to all before now w) h object (Some to.key) e new
  written_pipe to all before now (stream.Writes left) e new told is =
      (told ∙ sym (ends_total (nat_le all (before + now))), is)
    where
      ends_total : (b : Bool) → end_of (if b then Replies (reply.Count (before + now))
          else blocked_after to (before + now))
          ≡ (if b then act_end.Reply (reply.Count (before + now)) else end_of (blocked_after to (before + now)))
      ends_total true = refl
      ends_total false = refl
  written_pipe to all before now stream.Breaks e new told is = (told, is ∙ pipe_kept)
  written_pipe to all before now stream.NoRoom e new told is = by_tests (before == 0) to.nonblock told
    where
      by_tests : (first nonblock : Bool)
          → e ≡ (if first then stopped_ending nonblock
          else end_of (if nonblock then Replies (reply.Count before) else Blocks (moved_by to.birth before)))
          → Leaves (if first then (if nonblock then replies (reply.Fail EAGAIN) else concludes (Blocks nothing_moved))
          else concludes (if nonblock then Replies (reply.Count before) else Blocks (moved_by to.birth before)))
          h object (Some to.key) e new
      by_tests true true ends = (ends, is ∙ pipe_kept)
      by_tests true false ends = (ends, is ∙ pipe_kept)
      by_tests false true ends = (ends, is ∙ pipe_kept)
      by_tests false false ends = (ends, is ∙ pipe_kept)
