use Rattle.std.proofs.Common.{◌≡◌, ◌++◌, ◌∙◌, [], ◌∷◌, ℕ, List, ap, arith, map, rules, sym}
use Rattle.std.proofs.lemmas.List.FromFn.{map-range_with_len_more}
use Rattle.posix_terms.specs.declared.outcome.Given.{Given}
use Rattle.input_log.specs.Outcomes.{outcomes_of}
use Rattle.posix_terms.specs.Outcomes.{undated}
use Rattle.explore_commands.proofs.undated.undated_outcomes.Goals as goal

pub loop-thread-preserved : goal.loop-thread-preserved
loop-thread-preserved c =
    let thread = c.loop-thread.thread in
    let of_thread : ℕ → List Given = λ t. map undated (outcomes_of t c.args.records.now) in
    let pushed : c.push.new.self.items ≡ c.loop-thread.outcomes.items ++ of_thread thread ∷ [] =
    search rules in
    pushed
    ∙ ap (λ (so_far : List (List Given)). so_far ++ of_thread thread ∷ []) c.loop-thread.invariant
    ∙ sym (map-range_with_len_more of_thread 0 thread thread (omega arith))
