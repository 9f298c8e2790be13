use Rattle.std.proofs.Common.{rules, ◌≡◌, ◌∙◌, ◌+◌, ◌≤◌, Ok, ap, count_by, sym}
use Rattle.std.specs.Option.{is_some}
use Rattle.posix_terms.specs.declared.limits.TheConstants.Limits.{SCRIPT_LINES}
use Rattle.thread_scripts.specs.Grammar.{script_of}
use Rattle.explorer.specs.Delayed.{delayed}
use Rattle.explorer.specs.ReadScripts.{AreDelays}
use Rattle.explorer.specs.Varied.{varied_text}
use Rattle.explorer.proofs.ReadOnce.{delayed_is_script}
use Rattle.explorer.proofs.read_script.ReadScript.delayed.Goals as goal

-- the lines are those of a script that was read, and keep the rules of scripts
pub of-requires : goal.of-requires
of-requires g c =
    let delay = g.D.Delays.delays_of c.args.delays.now c.args.case c.args.thread in
    let read = c.self.inside in
    let works = c.in-Some.works.items in
    let are : AreDelays delay read.numbers.items works = search rules in
    let room : read.lines + count_by is_some works ≤ SCRIPT_LINES = search rules in
    let lines : c.in-Some-2.lines.items ≡ delayed works read.script = search rules in
    let script =
    delayed_is_script delay read.text.now read.script read.numbers.items works read.lines
    c.self.invariant are room in
    c.read_scripts_keep_rules.ensures (varied_text delay read.text.now) c.in-Some-2.lines.items
    (script ∙ ap Ok (sym lines))

pub returns : goal.returns
returns g c =
    let delay = g.D.Delays.delays_of c.args.delays.now c.args.case c.args.thread in
    let read = c.self.inside in
    let works = c.in-Some.works.items in
    let are : AreDelays delay read.numbers.items works = search rules in
    let room : read.lines + count_by is_some works ≤ SCRIPT_LINES = search rules in
    let lines : c.of.result ≡ delayed works read.script = search rules in
    let script =
    delayed_is_script delay read.text.now read.script read.numbers.items works read.lines
    c.self.invariant are room in
    let text : c.args.self.now ≡ read.text.now = search rules in
    ap (λ text. script_of (varied_text delay text)) text ∙ script ∙ ap Ok (sym lines)
