use Rattle.std.proofs.Common.{◌≡◌, ◌∙◌, ◌++◌, ap, if◌then◌else◌, ℕ, Bool, List, arith}
use Rattle.std.specs.List.{list_all}
use Rattle.std.proofs.lemmas.List.{take_all}
use Rattle.check_commands.specs.Checking.{is_script_text, scripts_among}
use Rattle.check_commands.proofs.Found.{all_more, found_all, found_more, scripts_more}
use Rattle.check_commands.proofs.checking.texts_checked.Goals as goal

pub loop-i-preserved : goal.loop-i-preserved
loop-i-preserved c = (
  c.both-all.ensures ∙ all_more c.args.texts.now c.loop-i.i c.index-texts-i.result c.loop-i.all
      c.in_ok-good.good c.loop-i-test.true c.index-texts-i.is c.loop-i.invariant.0
      (rw c.as_slice-text.ensures at c.in_ok-good.ensures.good),
  found_more c.args.json (λ p. p.now) c.args.paths.now c.args.texts.now c.loop-i.i _ c.index-texts-i.result _ _
      c.requires c.loop-i-test.true c.index-texts-i.is c.loop-i.invariant.1
      (rw c.as_slice-text.ensures at c.in_ok-good.ensures.adds),
  scripts_more c.args.texts.now c.loop-i.i c.index-texts-i.result _ _ c.loop-i-test.true
      c.index-texts-i.is c.loop-i.invariant.2 (rw c.as_slice-text.ensures at c.in_ok-good.ensures.kept),
)

pub returns : goal.returns
returns c =
    let are : c.loop-i.scripts.scripts.items ≡ scripts_among c.args.texts.now =
    c.loop-i.invariant.2
    ∙ ap scripts_among (take_all c.loop-i.i c.args.texts.now (omega arith)) in
    record {
      status = c.status_of.ensures
          ∙ ap (λ (b : Bool). if b then 0 else 3)
          (c.loop-i.invariant.0
          ∙ ap (list_all is_script_text) (take_all c.loop-i.i c.args.texts.now (omega arith)));
      errors = c.from_vec-2.ensures ∙ c.new.ensures.items;
      findings = c.loop-i.output.items;
      are_findings = found_all c.args.json (λ p. p.now) c.args.paths.now c.args.texts.now c.loop-i.i
          c.loop-i.output.items c.requires (omega arith) c.loop-i.invariant.1;
      scripts = c.loop-i.scripts;
      are_scripts = are;
      shared = c.in_ok-shared.ensures.0;
      are_shared = rw are at c.in_ok-shared.ensures.1;
      output = c.from_vec.ensures ∙ c.in_ok-extend_from_slice.ensures.items
          ∙ ap (λ (text : List ℕ). c.loop-i.output.items ++ text)
          (c.deref.ensures.value ∙ c.in_ok-shared.ensures.2);
    }
