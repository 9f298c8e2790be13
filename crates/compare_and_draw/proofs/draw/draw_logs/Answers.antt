use Rattle.std.proofs.Common.{ℕ, List, Option, map}
use Rattle.std.proofs.lemmas.Result.{IfOk-weaker}
use Rattle.command_inputs.specs.declared.log_texts.ToReplay.TheVariants as reads
use Rattle.compare_and_draw.specs.Draws.{LogsDraw, OtherDraws, title_text}
use Rattle.compare_and_draw.proofs.draw.draw_logs.Goals as goal

pub returns-in-Texts : goal.returns-in-Texts
returns-in-Texts g c =
    let sources : List (List ℕ × Option (List ℕ)) =
    map (λ s. (s.path.now, g.R.TextReader.remaining s.reader)) c.args.sources.items in
    let options = c.args.options in
    let path = c.args.log.path.now in
    let log : List ℕ × Option (List ℕ) = (path, g.R.TextReader.remaining c.args.log.reader) in
    let other : List ℕ × Option (List ℕ) =
    (c.args.other.path.now, g.R.TextReader.remaining c.args.other.reader) in
    let text = c.in-Texts.text in
    let texts = c.in-Texts.texts in
    let read = rw c.in-Texts.is at c.in_ok-text.ensures in
    IfOk-weaker c.other_drawn.result
    (OtherDraws options (title_text sources) texts.items (path, text) other)
    (LogsDraw options log other sources)
    (λ drawn draws. (reads.Texts text texts, read, draws))
    (simp (
      c.deref-in-Texts.ensures.value,
      c.in_ok-title.ensures,
      c.deref.ensures.value,
      c.deref-in-Texts-2.ensures.value,
      c.as_slice-text.ensures,
    ) at c.other_drawn.ensures)
