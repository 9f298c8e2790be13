use Rattle.std.proofs.Common.{◌≡◌, ℕ, List, Option, length, map, rules, arith}
use Rattle.command_inputs.proofs.Scripts.{Fits, texts_count, texts_fit, view_fits}
use Rattle.command_inputs.proofs.sources.source_texts.Goals as goal

pub returns-in-Ok-clause-read : goal.returns-in-Ok-clause-read
returns-in-Ok-clause-read g c =
    let items = c.args.sources.items in
    let sources : List (List ℕ × Option (List ℕ)) =
    map (λ s. (s.path.now, g.R.TextReader.remaining s.reader)) items in
    let count : c.len.result ≡ length items = omega (arith, c.len.ensures) in
    let fits : Fits sources =
    view_fits (λ s. (s.path.now, g.R.TextReader.remaining s.reader)) items c.len.result
    c.fits.result count c.fits.ensures (search rules) in
    let read = c.in-Ok.ensures.texts in
    (texts_fit sources c.in-Ok.texts.items read fits, read)

pub returns-in-Ok-clause-each : goal.returns-in-Ok-clause-each
returns-in-Ok-clause-each g c =
    texts_count (λ s. (s.path.now, g.R.TextReader.remaining s.reader)) c.args.sources.items
    c.in-Ok.texts.items c.in-Ok.ensures.texts
