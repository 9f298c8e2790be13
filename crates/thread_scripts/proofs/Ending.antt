-- What each step leaves of a script's state.
use Rattle.std.proofs.Common.{◌≡◌, ◌⊎◌, inl, inr, ◌∙◌, ℕ, zero, suc, ◌+◌, ◌<◌, ◌≤◌, Bool, slice_get, Option, Some, None}
use Rattle.std.proofs.Common.{refl, arith}
use Rattle.posix_terms.specs.declared.reply.Reply.{Reply}
use Rattle.thread_scripts.specs.Meaning.{action_of, behind, end_or, given_or, is_failure, lines_left, next_of}
use Rattle.thread_scripts.specs.Meaning.{next_within, past, step_given, stored}
use Rattle.thread_scripts.specs.declared.line.Line.{Line}
use Rattle.thread_scripts.specs.declared.actor.ScriptState.{ScriptState}
use Rattle.posix_terms.specs.declared.step.Step.{Step}
use Rattle.posix_terms.specs.declared.step.Step.TheVariants as step
use Rattle.thread_scripts.proofs.Executing.{performed_executed, performed_script}

-- the end, or a step after one to n executed lines
abbrev pub Moved : ℕ → ScriptState → Step × ScriptState → Type 0
Moved n s next = (next.0 ≡ step.End) ⊎ ((s.executed < next.1.executed) × (next.1.executed ≤ s.executed + n))

pub moved : (failed : Bool) (n : ℕ) (s : ScriptState) → Moved n s (next_within failed n s)
unfolding next_within
moved failed zero s = inl refl
moved failed (suc n) s = at (slice_get s.script s.place) (λ l. moved failed n (behind failed s l)) where
  given : (l : Line) (step : Option Step) (next : Step × ScriptState) → Moved n (behind failed s l) next
      → Moved (suc n) s (given_or step (behind failed s l) next)
  given l (Some step) next h
      = let one : (behind failed s l).executed ≡ s.executed + 1 = performed_executed (action_of failed s l) (past s)
      in inr (omega arith, omega arith)
  given l None next (inl end) = inl end
  given l None next (inr (more, within)) =
      let one : (behind failed s l).executed ≡ s.executed + 1 = performed_executed (action_of failed s l) (past s) in
      inr (omega arith, omega arith)

  at : (l : Option Line) → ((l : Line) → Moved n (behind failed s l) (next_within failed n (behind failed s l)))
      → Moved (suc n) s (end_or l s (λ l. given_or (step_given (action_of failed s l)) (behind failed s l)
      (next_within failed n (behind failed s l))))
  at None h = inl refl
  at (Some l) h = given l (step_given (action_of failed s l)) (next_within failed n (behind failed s l)) (h l)

pub within_script : (failed : Bool) (n : ℕ) (s : ScriptState) → (next_within failed n s).1.script ≡ s.script
unfolding next_within
within_script failed zero s = refl
within_script failed (suc n) s = at (slice_get s.script s.place) (λ l. within_script failed n (behind failed s l)) where
  given : (l : Line) (step : Option Step) (next : Step × ScriptState) → next.1.script ≡ (behind failed s l).script
      → (given_or step (behind failed s l) next).1.script ≡ s.script
  given l (Some step) next h = performed_script (action_of failed s l) (past s)
  given l None next h = h ∙ performed_script (action_of failed s l) (past s)

  at : (l : Option Line) → ((l : Line)
      → (next_within failed n (behind failed s l)).1.script ≡ (behind failed s l).script)
      → (end_or l s (λ l. given_or (step_given (action_of failed s l)) (behind failed s l)
      (next_within failed n (behind failed s l)))).1.script ≡ s.script
  at None h = refl
  at (Some l) h = given l (step_given (action_of failed s l)) (next_within failed n (behind failed s l)) (h l)

stored_executed : (last : Option Reply) (s : ScriptState) → (stored last s).executed ≡ s.executed
stored_executed None s = refl
stored_executed (Some reply) s = refl

stored_script : (last : Option Reply) (s : ScriptState) → (stored last s).script ≡ s.script
stored_script None s = refl
stored_script (Some reply) s = refl

pub next_script : (last : Option Reply) (s : ScriptState) → (next_of last s).1.script ≡ s.script
next_script last s = within_script (is_failure last) (lines_left s) (stored last s) ∙ stored_script last s

pub next_ends : (last : Option Reply) (s : ScriptState) → ((next_of last s).0 ≡ step.End)
    ⊎ (lines_left (next_of last s).1 < lines_left s)
next_ends last s = at (moved (is_failure last) (lines_left s) (stored last s)) where
  at : Moved (lines_left s) (stored last s) (next_of last s) → ((next_of last s).0 ≡ step.End)
      ⊎ (lines_left (next_of last s).1 < lines_left s)
  at (inl end) = inl end
  at (inr (more, within)) = let same = stored_executed last s in inr (omega arith)
