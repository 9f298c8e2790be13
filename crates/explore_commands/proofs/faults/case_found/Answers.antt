use Rattle.std.proofs.Common.{◌≡◌, ℕ, List, rules}
use Rattle.std.proofs.lemmas.Result.{IfOk-weaker}
use Rattle.serde_json.specs.View.{view}
use Rattle.explorer.specs.Subject.{subject}
use Rattle.explore_texts.specs.CaseTexts.{case_text}
use Rattle.explore_texts.specs.CutOffs.{cut_of}
use Rattle.explore_commands.proofs.CasesSaid.{in_json, in_words}
use Rattle.explore_commands.proofs.faults.case_found.Goals as goal

pub returns-then-options : goal.returns-then-options
returns-then-options c =
    let tried = subject c.args.trial in
    let now = c.in_ok-now.now in
    let cut : List ℕ = c.deref.result.now in
    let is_cut : cut ≡ cut_of tried.texts now = search rules in
    IfOk-weaker c.found_json.result _ _
    (λ finding found. (
      now,
      c.in_ok-now.ensures,
      (
        c.in_ok-looked.looked,
        c.in_ok-looked.ensures,
        in_json c.args.options.shown.json tried c.args.before.observation.now c.args.before.looked.now c.args.case now
            c.in_ok-looked.looked (view c.in_ok-value.value) cut finding c.if-options.true c.in_ok-value.ensures.value
            is_cut found,
      ),
    ))
    c.found_json.ensures

pub returns : goal.returns
returns c =
    let tried = subject c.args.trial in
    let now = c.in_ok-now.now in
    let cut : List ℕ = c.deref-2.result.now in
    let is_cut : cut ≡ cut_of tried.texts now = search rules in
    let front = c.push_case.new.text.items in
    let is_front : front ≡ case_text tried.outcomes c.args.case = search rules in
    IfOk-weaker c.found.result _ _
    (λ finding found. (
      now,
      c.in_ok-now.ensures,
      (
        c.in_ok-looked.looked,
        c.in_ok-looked.ensures,
        in_words c.args.options.shown.json tried c.args.before.observation.now c.args.before.looked.now c.args.case now
            c.in_ok-looked.looked front cut finding c.if-options.false is_front is_cut found,
      ),
    ))
    c.found.ensures
