use Rattle.std.proofs.Common.{◌≡◌, ◌∙◌, ap, append_assoc, option_map}
use Rattle.std.proofs.lemmas.Result.{on_ok_weaker}
use Rattle.script_checks.specs.Paths.{path_refusal, refusal_seen}
use Rattle.check_commands.specs.Findings.{path_in}
use Rattle.check_commands.proofs.concern_words.push_path.Goals as goal

pub returns : goal.returns
returns c =
    let law : option_map refusal_seen c.in_ok-fault.fault ≡ path_refusal (path_in c.args.word.now) =
    c.in_ok-fault.ensures ∙ ap path_refusal c.path_in.ensures in
    on_ok_weaker c.push_why.result
    (λ adds.
    let all = rw (law, c.in_ok-push_word.ensures, c.in_ok-extend_from_slice.ensures.items) at adds in
    all ∙ simp append_assoc)
    c.push_why.ensures
