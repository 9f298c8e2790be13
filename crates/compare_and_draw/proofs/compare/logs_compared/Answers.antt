use Rattle.std.proofs.Common.{ℕ, List, Option, map, rules, subst, Ok, Err}
use Rattle.std.specs.Prelude.{IfOk}
use Rattle.std.proofs.lemmas.Result.{IfOk-weaker}
use Rattle.command_texts.specs.FirstFaults.{IsUnread}
use Rattle.compare_and_draw.specs.Compares.{LogsCompare, TextsCompare}
use Rattle.compare_and_draw.proofs.compare.logs_compared.Goals as goal

pub returns-in-Ok : goal.returns-in-Ok
returns-in-Ok g c =
    let sources : List (List ℕ × Option (List ℕ)) = map (λ s. (s.path.now, g.R.TextReader.remaining s.reader))
    c.args.sources.items in
    let options = c.args.options in
    let log = c.args.log.now in
    let other = c.args.other.now in
    let P : List (List ℕ) → Type 0 =
    λ texts. IfOk c.texts_compared.result (TextsCompare options log other (Ok texts)) in
    IfOk-weaker c.texts_compared.result
    (TextsCompare options log other (Ok c.in-Ok.texts.items)) (LogsCompare options log other sources)
    (λ printed prints. (Ok c.in-Ok.texts.items, c.in-Ok.ensures.texts, prints))
    (subst P c.deref.ensures.value c.texts_compared.ensures)

pub returns-in-Err-Script : goal.returns-in-Err-Script
returns-in-Err-Script g c =
    let sources : List (List ℕ × Option (List ℕ)) =
    map (λ s. (s.path.now, g.R.TextReader.remaining s.reader)) c.args.sources.items in
    let options = c.args.options in
    let log = c.args.log.now in
    let other = c.args.other.now in
    let unread = subst (λ e. IsUnread (map (λ s. (s.path.now, g.R.TextReader.remaining s.reader)) c.args.sources.items)
    e) c.in-Err-Script.field-0-is c.in-Err-Script.ensures.unread in
    IfOk-weaker c.cannot_read.result
    (TextsCompare options log other (Err c.in-Err-Script.path.now)) (LogsCompare options log other sources)
    (λ printed prints. (Err c.in-Err-Script.path.now, unread, prints)) (search rules)
