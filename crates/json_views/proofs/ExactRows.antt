-- No float is in the line of a row.
use Rattle.std.proofs.Common.{◌≡◌, false, [], ◌∷◌, codes, refl}
use Rattle.posix_terms.specs.Calls.{kind_of, word_of}
use Rattle.serde_json.specs.Data.{string}
use Rattle.serde_json.specs.Written.{has_float}
use Rattle.answered_calls.specs.Answered.{Answered}
use Rattle.json_views.specs.Calls.{arguments_value, reply_value}
use Rattle.json_views.specs.Objects.{count_value, optional_value}
use Rattle.json_views.specs.Rows.{row_value}
use Rattle.json_views.proofs.Exact.{arguments_exact, object_exact, optional_exact, reply_exact}

pub row_exact : (c : Answered) → has_float (row_value c) ≡ false
row_exact c = object_exact (
    (codes "thread", count_value c.thread)
    ∷ (codes "row", count_value c.number)
    ∷ (codes "line", count_value c.line)
    ∷ (codes "clock", count_value c.row.turn.clock)
    ∷ (codes "call", string (word_of (kind_of c.row.call)))
    ∷ (codes "arguments", arguments_value c.row.call)
    ∷ (codes "reply", reply_value c.row.reply)
    ∷ (codes "outcome", optional_value c.outcome)
    ∷ (codes "blocked", count_value c.blocked)
    ∷ []) (
      refl,
      (
        refl,
        (
          refl,
          (
            refl,
            (
              refl,
              (
                arguments_exact c.row.call,
                (reply_exact c.row.reply, (optional_exact c.outcome, (refl, tt))),
              ),
            ),
          ),
        ),
      ),
    )
