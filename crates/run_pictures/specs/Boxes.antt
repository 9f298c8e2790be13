-- Believed: a contract of a command stands on it.
-- The text of a box. Its fixed parts are the constants of `src/fixed.rt`.
use Rattle.std.specs.Prelude.{ℕ, ◌==◌, List, [], Option, Some, None, codes, if◌then◌else◌}
use Rattle.std.specs.Fmt.{decimal}
use Rattle.posix_terms.specs.Calls.{kind_of, word_of}
use Rattle.answered_calls.specs.declared.answered.AnsweredCall.{AnsweredCall}
use Rattle.command_texts.specs.Transcripts.{◌+++◌}
use Rattle.run_pictures.specs.Escaped.{asked_escaped, reply_escaped}
use Rattle.run_pictures.specs.Kinds.{class_text}
use Rattle.run_pictures.specs.declared.drawn.CallClocks.{CallClocks}
use Rattle.run_pictures.specs.declared.fixed.TheConstants as fixed
use Rattle.run_pictures.specs.declared.layout.CallBox.{CallBox}

-- where a call stands
unfoldable pub place_words : AnsweredCall → List ℕ
place_words c =
    codes "; thread " +++ decimal c.thread +++ codes ", row " +++ decimal c.number
    +++ codes ", line " +++ decimal c.line

-- the way of a call, which was asked for at this clock, to its last turn
unfoldable pub turn_words : AnsweredCall → ℕ → List ℕ
turn_words c asked =
    codes "; asked at " +++ decimal asked
    +++ codes ", first turn " +++ decimal c.granted
    +++ codes ", turn " +++ decimal c.row.now.turn.clock
    +++ codes ", blocked at " +++ decimal c.blocked +++ codes " turns"

-- when a call had its locks, and when it was answered
unfoldable pub answer_words : CallClocks → List ℕ
answer_words clocks =
    codes ", had its locks at " +++ decimal clocks.locked
    +++ codes ", answered at " +++ decimal clocks.answered

-- which outcome came last for a call, if one did
unfoldable pub outcome_words : Option ℕ → List ℕ
outcome_words None = []
outcome_words (Some number) = codes "; outcome " +++ decimal number

-- what is read of a call where one points at its box
unfoldable pub title_text : AnsweredCall → CallClocks → List ℕ
title_text c clocks =
    asked_escaped c.row.now.call +++ codes " = " +++ reply_escaped c.row.now.reply
    +++ place_words c +++ turn_words c clocks.asked +++ answer_words clocks
    +++ outcome_words c.outcome

-- the line that leads to where the thread asked for the call of a box
unfoldable pub line_text : CallBox → List ℕ
line_text b =
    fixed.BOX_LINE.now +++ decimal b.early +++ fixed.BOX_LINE_LENGTH.now +++ decimal b.line
    +++ fixed.BOX_LINE_END.now

-- the hatching before a box, so long, if there is any
unfoldable pub early_text : ℕ → List ℕ
early_text early =
    if early == 0 then []
    else fixed.EARLY_FRONT.now +++ decimal early +++ fixed.EARLY_WIDTH.now +++ decimal early
    +++ fixed.EARLY_END.now

-- how wide a box is
unfoldable pub shape_front : ℕ → List ℕ
shape_front width = fixed.BOX_WIDTH.now +++ decimal width

-- the hatching in a box
unfoldable pub wait_text : CallBox → List ℕ
wait_text b =
    fixed.BOX_WAIT.now +++ decimal b.wait +++ fixed.BOX_WAITED.now +++ decimal b.waited
    +++ fixed.BOX_WORD.now

-- what leads to a box, and the box with the word of its call
unfoldable pub shape_text : CallBox → List ℕ
shape_text b =
    line_text b +++ early_text b.early +++ shape_front b.width +++ wait_text b
    +++ word_of (kind_of b.call.row.now.call) +++ fixed.BOX_WORD_END.now

-- the mark of an outcome, above the end of a box that is so wide
unfoldable pub outcome_mark : ℕ → Option ℕ → List ℕ
outcome_mark width None = []
outcome_mark width (Some number) =
    fixed.MARK_FRONT.now +++ decimal width +++ fixed.MARK_NUMBER.now +++ decimal number
    +++ fixed.MARK_END.now

-- how the call of a box came to its answer, and where the box stands
unfoldable pub box_front : Option (ℕ × ℕ) → CallBox → List ℕ
box_front differs b =
    fixed.BOX_FRONT.now +++ class_text differs b.call
    +++ fixed.BOX_LEFT.now +++ decimal b.left +++ fixed.BOX_TOP.now +++ decimal b.top
    +++ fixed.BOX_TITLE.now

-- a box
unfoldable pub box_text : Option (ℕ × ℕ) → CallBox → List ℕ
box_text differs b =
    box_front differs b +++ title_text b.call b.clocks +++ shape_text b
    +++ outcome_mark b.width b.call.outcome +++ fixed.GROUP_END.now
