-- No float is in the lines of two replays.
use Rattle.std.proofs.Common.{◌≡◌, ℕ, Bool, false, List, [], ◌∷◌, Option, Some, None, codes, refl}
use Rattle.posix_terms.specs.Calls.{kind_of, word_of}
use Rattle.posix_terms.specs.declared.transcript.Row.{Row}
use Rattle.machine.specs.declared.stop.Stop.{Stop}
use Rattle.serde_json.specs.Data.{null, string}
use Rattle.serde_json.specs.Written.{has_float}
use Rattle.json_views.specs.Calls.{arguments_value, reply_value}
use Rattle.json_views.specs.Ends.{end_words, outcome_stopped, thread_stopped}
use Rattle.json_views.specs.Objects.{count_value, optional_value}
use Rattle.json_views.specs.Sides.{clock_counted, seen_value, side_end_value, side_row_value}
use Rattle.json_views.proofs.Exact.{arguments_exact, object_exact, optional_exact, reply_exact}

pub side_row_exact : (by : List ℕ) (turns : Bool) (thread number : ℕ) (row : Option Row)
    → has_float (side_row_value by turns thread number row) ≡ false
side_row_exact by turns thread number None = object_exact (
    (codes "by", string by)
    ∷ (codes "thread", count_value thread)
    ∷ (codes "row", count_value number)
    ∷ (codes "clock", null)
    ∷ (codes "call", null)
    ∷ (codes "arguments", null)
    ∷ (codes "reply", null)
    ∷ [])
    (refl, (refl, (refl, (refl, (refl, (refl, (refl, tt)))))))
side_row_exact by turns thread number (Some row) = object_exact (
    (codes "by", string by)
    ∷ (codes "thread", count_value thread)
    ∷ (codes "row", count_value number)
    ∷ (codes "clock", optional_value (clock_counted turns row.turn.clock))
    ∷ (codes "call", string (word_of (kind_of row.call)))
    ∷ (codes "arguments", arguments_value row.call)
    ∷ (codes "reply", reply_value row.reply)
    ∷ []) (
      refl,
      (
        refl,
        (
          refl,
          (
            optional_exact (clock_counted turns row.turn.clock),
            (refl, (arguments_exact row.call, (reply_exact row.reply, tt))),
          ),
        ),
      ),
    )

pub seen_exact : (row : Option Row) → has_float (seen_value row) ≡ false
seen_exact None = refl
seen_exact (Some row) = object_exact (
    (codes "call", string (word_of (kind_of row.call)))
    ∷ (codes "arguments", arguments_value row.call)
    ∷ (codes "reply", reply_value row.reply)
    ∷ [])
    (refl, (arguments_exact row.call, (reply_exact row.reply, tt)))

pub side_end_exact : (by : List ℕ) (stop : Option Stop) → has_float (side_end_value by stop) ≡ false
side_end_exact by stop = object_exact (
    (codes "by", string by)
    ∷ (codes "end", string (end_words stop))
    ∷ (codes "thread", optional_value (thread_stopped stop))
    ∷ (codes "outcome", optional_value (outcome_stopped stop))
    ∷ [])
    (refl, (refl, (optional_exact (thread_stopped stop), (optional_exact (outcome_stopped stop), tt))))
