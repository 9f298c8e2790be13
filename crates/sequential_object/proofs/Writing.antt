-- A write at one of its turns: what it leaves where it waits or fails, and that it reports what it moved.
use Rattle.std.proofs.Common.{ap, sym, ◌∙◌, ◌≡◌, ◌≤◌, ◌+◌, ◌-◌, ◌==◌, ◌++◌, inl, inr, ℕ, ℤ, List, length, take, drop}
use Rattle.std.proofs.Common.{Bool, true, false, Result, Ok, Err, arith, refl, subst}
use Rattle.std.proofs.lemmas.Bool.Decides.{nat_tests}
use Rattle.std.proofs.lemmas.List.{length-drop, length-take, take_min}
use Rattle.std.specs.Prelude.{if◌then◌else◌, nat_le, zero, suc}
use Rattle.posix_terms.specs.declared.call.Call.TheVariants as call
use Rattle.posix_terms.specs.declared.errno.Errno.{Errno}
use Rattle.posix_terms.specs.declared.errno.Errno.TheVariants.{EAGAIN, EPIPE}
use Rattle.posix_terms.specs.declared.limits.TheConstants.Limits as limit
use Rattle.posix_terms.specs.declared.object.End.TheVariants as part
use Rattle.posix_terms.specs.declared.reply.Reply.{Reply}
use Rattle.posix_terms.specs.declared.reply.Reply.TheVariants as reply
use Rattle.sequential_object.specs.Acts.{Acted, Ending, Replies, blocked, blocked_after, concludes, moved_by}
use Rattle.sequential_object.specs.Acts.{pipe_written, replies, write_pipe}
use Rattle.sequential_object.specs.Acts as ending
use Rattle.sequential_object.specs.Descriptors.{described, has_end}
use Rattle.sequential_object.specs.Effects.{Asks, Blocks, Completes, Effect, nothing_moved}
use Rattle.sequential_object.specs.Meant.{ended, put, seen_of}
use Rattle.sequential_object.specs.Object.{State, Description, Pipe, content_of, with_content}
use Rattle.sequential_object.specs.Streams.{NoRoom, Writes, bytes_put, pipe_write}
use Rattle.sequential_object.specs.Waiting.{WaitsInParts}
use Rattle.sequential_object.specs.declared.decision.Act.TheVariants as act
use Rattle.sequential_object.specs.declared.decision.Seen.{Seen}

-- a count of so many bytes at least
abbrev pub ReportsCount : ℕ → Reply → Type 0
ReportsCount before (reply.Count count) = before ≤ count
ReportsCount before r = ⊥

-- a turn of a write that moved so many bytes before: it reports them, and adds to the pipe alone
abbrev pub IsTurn : State → ℤ → List ℕ → ℕ → Result Effect Errno → Type 0
IsTurn s descriptor bytes before (Ok (Completes after r)) = ReportsCount before r
IsTurn s descriptor bytes before (Ok (Blocks after moved)) =
    (moved.bytes ≡ 0 → after ≡ s) × WaitsInParts s (call.Write descriptor bytes) before after moved.bytes
    × (before ≤ moved.bytes)
IsTurn s descriptor bytes before (Ok (Asks a)) = ⊥
IsTurn s descriptor bytes before (Err e) = before ≡ 0

-- the first bytes that are taken are the first of all, as many as they are
taken_next : (n : ℕ) (l : List ℕ) → take n l ≡ take (length (take n l)) l
taken_next n l = sym (ap (λ (m : ℕ). take m l) (length-take n l) ∙ take_min n l)

module _ (s : State) (key : ℕ) (d : Description) (descriptor : ℤ) (bytes waiting : List ℕ) where
  abbrev to : Seen
  to = seen_of s descriptor (key, d)

  -- what an act that ends so leaves and answers
  abbrev turn_of : ℕ → Acted → Result Effect Errno
  turn_of before done = ended (put s d.object (act.Write to before) done) done.ending

  pauses_turn : (after : State) (before total : ℕ) → before ≤ total → (total ≡ 0 → after ≡ s)
      → WaitsInParts s (call.Write descriptor bytes) before after total
      → IsTurn s descriptor bytes before (ended after (blocked_after to total))
  pauses_turn after before total more none waits = by_flag d.nonblock
    where
      blocks : (n : ℕ) → before ≤ n → (n ≡ 0 → after ≡ s) → WaitsInParts s (call.Write descriptor bytes) before after n
          → IsTurn s descriptor bytes before (Ok (Blocks after (moved_by key n)))
      blocks zero more none waits = ((λ is. none refl), waits, more)
      blocks (suc n) more none waits = ((λ is. none is), waits, more)

      by_flag : (b : Bool) → IsTurn s descriptor bytes before
          (ended after (if b then Replies (reply.Count total) else ending.Blocks (moved_by key total)))
      by_flag true = more
      by_flag false = blocks total more none waits

  module _ (there : described s descriptor ≡ Ok (key, d)) (was : content_of s d.object ≡ Pipe waiting) (before : ℕ)
    where
      abbrev rest : List ℕ
      rest = drop before bytes

      -- the bytes that go where the write may go in parts, and there is room
      parts : nat_le (length bytes) limit.PIPE_BUF ≡ false → nat_le limit.PIPE_BYTES (length waiting) ≡ false
          → before + length (take (limit.PIPE_BYTES - length waiting) rest) ≡ 0 → ⊥
      parts long room none =
          let taken = length-take (limit.PIPE_BYTES - length waiting) rest in
          let dropped = length-drop before bytes in
          grind (arith, nat_tests, taken, dropped, long, room, none)

      broken : IsTurn s descriptor bytes before
          (turn_of before (replies (if before == 0 then reply.Fail EPIPE else reply.Count before)))
      broken = by_zero (before == 0) refl
        where
          by_zero : (b : Bool) → (before == 0) ≡ b
              → IsTurn s descriptor bytes before
              (turn_of before (replies (if b then reply.Fail EPIPE else reply.Count before)))
          by_zero true is = grind (arith, nat_tests, is)
          by_zero false is = grind arith

      full : IsTurn s descriptor bytes before
          (turn_of before (if before == 0 then blocked to else concludes (blocked_after to before)))
      full = by_zero (before == 0) refl
        where
          by_flag : (b : Bool) → before ≡ 0
              → IsTurn s descriptor bytes before
              (turn_of before (if b then replies (reply.Fail EAGAIN) else concludes (ending.Blocks nothing_moved)))
          by_flag true none = none
          by_flag false none = ((λ is. refl), inl (refl, sym none), grind (arith, none))

          by_zero : (b : Bool) → (before == 0) ≡ b
              → IsTurn s descriptor bytes before
              (turn_of before (if b then blocked to else concludes (blocked_after to before)))
          by_zero true is = by_flag d.nonblock (grind (arith, nat_tests, is))
          by_zero false is = pauses_turn s before before (grind arith) (λ none. refl) (inl (refl, refl))

      abbrev fitting : List ℕ
      fitting = take (limit.PIPE_BYTES - length waiting) rest

      abbrev partly : State
      partly = with_content s d.object (Pipe (waiting ++ fitting))

      adds : nat_le (length bytes) limit.PIPE_BUF ≡ false
          → WaitsInParts s (call.Write descriptor bytes) before partly (before + length fitting)
      adds long = inr (
        grind (arith, nat_tests, long),
        record {
          key = key;
          description = d;
          waiting = waiting;
          more = fitting;
          is_described = there;
          was = was;
          after_is = refl;
          next = taken_next (limit.PIPE_BYTES - length waiting) rest;
          counted = refl;
        },
      )

      goes_in_part : (readers : Bool) → nat_le (length bytes) limit.PIPE_BUF ≡ false
          → IsTurn s descriptor bytes before
          (turn_of before (pipe_written to (length bytes) before (length fitting)
          (pipe_write waiting rest false readers)))
      goes_in_part false long = broken
      goes_in_part true long = by_room (nat_le limit.PIPE_BYTES (length waiting)) refl
        where
          by_room : (b : Bool) → nat_le limit.PIPE_BYTES (length waiting) ≡ b
              → IsTurn s descriptor bytes before
              (turn_of before (pipe_written to (length bytes) before (length fitting) (if b then NoRoom
              else Writes (waiting ++ fitting))))
          by_room true is = full
          by_room false room = by_all (nat_le (length bytes) (before + length fitting))
            where
              by_all : (b : Bool) → IsTurn s descriptor bytes before
                  (ended partly (if b then Replies (reply.Count (before + length fitting))
                  else blocked_after to (before + length fitting)))
              by_all true = grind arith
              by_all false = pauses_turn partly before (before + length fitting) (grind arith)
                  (λ none. absurd (parts long room none)) (adds long)

      all_gone : nat_le (length bytes) (before + length rest) ≡ true
      all_gone = let dropped = length-drop before bytes in grind (arith, nat_tests, dropped)

      goes_whole : (readers : Bool) → IsTurn s descriptor bytes before
          (turn_of before (pipe_written to (length bytes) before (length rest) (pipe_write waiting rest true readers)))
      goes_whole false = broken
      goes_whole true = by_room (nat_le (length waiting + length rest) limit.PIPE_BYTES)
        where
          by_room : (b : Bool) → IsTurn s descriptor bytes before
              (turn_of before (pipe_written to (length bytes) before (length rest) (if b then Writes (waiting ++ rest)
              else NoRoom)))
          by_room true = subst (λ (b : Bool). IsTurn s descriptor bytes before
              (ended (with_content s d.object (Pipe (waiting ++ rest)))
              (if b then Replies (reply.Count (before + length rest)) else blocked_after to (before + length rest))))
              (sym all_gone) (grind arith)
          by_room false = full

      pub turn : IsTurn s descriptor bytes before
          (turn_of before (write_pipe to bytes before waiting (has_end s d.object part.Read)))
      turn = by_whole (nat_le (length bytes) limit.PIPE_BUF) refl
        where
          by_whole : (b : Bool) → nat_le (length bytes) limit.PIPE_BUF ≡ b
              → IsTurn s descriptor bytes before
              (turn_of before (pipe_written to (length bytes) before
              (length (bytes_put limit.PIPE_BYTES waiting rest b))
              (pipe_write waiting rest b (has_end s d.object part.Read))))
          by_whole true is = goes_whole (has_end s d.object part.Read)
          by_whole false is = goes_in_part (has_end s d.object part.Read) is
