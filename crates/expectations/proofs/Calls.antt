-- The next step of a script that is not a work, over the works before it.
use Rattle.std.proofs.Common.{◌≡◌, ◌⊎◌, inl, inr, ◌∙◌, ap, ℕ, zero, suc, ◌+◌, ◌<◌, Option, None, refl}
use Rattle.std.proofs.Common.{sym, arith, add-one}
use Rattle.posix_terms.specs.declared.reply.Reply.{Reply}
use Rattle.posix_terms.specs.Calls.{Call}
use Rattle.posix_terms.specs.declared.step.Step.{Step}
use Rattle.posix_terms.specs.declared.step.Step.TheVariants as step
use Rattle.thread_scripts.specs.Laws.{RunsEnd}
use Rattle.thread_scripts.specs.Meaning.{lines_left, next_of}
use Rattle.thread_scripts.specs.declared.actor.ScriptState.{ScriptState}
use Rattle.expectations.specs.Places.{past_work, past_works, past_works_within}

-- as many steps as there are lines to be executed, and one, are enough
pub enough : RunsEnd → (m n : ℕ) (last : Option Reply) (s : ScriptState) → lines_left s < m → lines_left s < n
    → past_works_within m last s ≡ past_works_within n last s
unfolding past_works_within
enough ends zero n last s few many = absurd (omega arith)
enough ends (suc m) zero last s few many = absurd (omega arith)
enough ends (suc m) (suc n) last s few many =
    at (ends last s) (λ less. enough ends m n None (next_of last s).1 (omega arith) (omega arith)) where
      at : ((next_of last s).0 ≡ step.End) ⊎ (lines_left (next_of last s).1 < lines_left s)
          → (lines_left (next_of last s).1 < lines_left s
          → past_works_within m None (next_of last s).1 ≡ past_works_within n None (next_of last s).1)
          → past_work (next_of last s).0 (next_of last s).1 (past_works_within m None (next_of last s).1)
          ≡ past_work (next_of last s).0 (next_of last s).1 (past_works_within n None (next_of last s).1)
      at (inl end) more = rw end refl
      at (inr less) more = ap (past_work (next_of last s).0 (next_of last s).1) (more less)

-- by the next step
pub by_step : RunsEnd → (last : Option Reply) (s : ScriptState)
    → past_works last s ≡ past_work (next_of last s).0 (next_of last s).1 (past_works None (next_of last s).1)
unfolding past_works_within
by_step ends last s = rw add-one (at (ends last s)) where
  at : ((next_of last s).0 ≡ step.End) ⊎ (lines_left (next_of last s).1 < lines_left s)
      → past_work (next_of last s).0 (next_of last s).1 (past_works_within (lines_left s) None (next_of last s).1)
      ≡ past_work (next_of last s).0 (next_of last s).1 (past_works None (next_of last s).1)
  at (inl end) = rw end refl
  at (inr less) =
      let after = (next_of last s).1 in
      ap (past_work (next_of last s).0 after)
      (enough ends (lines_left s) (lines_left after + 1) None after less (omega arith))

-- by what the next step is
pub at_call : RunsEnd → (last : Option Reply) (s new : ScriptState) (given : Step) (call : Call)
    → given ≡ (next_of last s).0 → new ≡ (next_of last s).1 → given ≡ step.Call call
    → past_works last s ≡ (step.Call call, new)
at_call ends last s new given call is after here =
    let so : (next_of last s).0 ≡ step.Call call = sym is ∙ here in
    by_step ends last s ∙ rw so (ap (λ (t : ScriptState). (step.Call call, t)) (sym after))

pub at_work : RunsEnd → (last : Option Reply) (s new : ScriptState) (given : Step) (amount : ℕ)
    → given ≡ (next_of last s).0 → new ≡ (next_of last s).1 → given ≡ step.Work amount
    → past_works None new ≡ past_works last s
at_work ends last s new given amount is after here =
    let so : (next_of last s).0 ≡ step.Work amount = sym is ∙ here in
    sym (by_step ends last s ∙ rw so (ap (past_works None) (sym after)))

pub at_end : RunsEnd → (last : Option Reply) (s new : ScriptState) (given : Step)
    → given ≡ (next_of last s).0 → new ≡ (next_of last s).1 → given ≡ step.End
    → past_works last s ≡ (step.End, new)
at_end ends last s new given is after here =
    let so : (next_of last s).0 ≡ step.End = sym is ∙ here in
    by_step ends last s ∙ rw so (ap (λ (t : ScriptState). (step.End, t)) (sym after))
