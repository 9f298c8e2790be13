-- The cases of the next step, by the line that is executed.
use Rattle.std.proofs.Common.{◌≡◌, ℕ, zero, suc, ◌-◌, ◌<◌, ◌≤◌, Bool, slice_get, Some, None, refl, sym, ◌∙◌, arith}
use Rattle.posix_terms.specs.declared.limits.TheConstants.Limits.{EXECUTED_LINES}
use Rattle.thread_scripts.specs.Meaning.{action_of, behind, lines_left, next_within, past, performed, step_given}
use Rattle.thread_scripts.specs.declared.line.Line.{Line}
use Rattle.thread_scripts.specs.declared.state.Action.{Action}
use Rattle.thread_scripts.specs.declared.state.Action.TheVariants as action
use Rattle.posix_terms.specs.declared.step.Step.{Step}
use Rattle.posix_terms.specs.declared.step.Step.TheVariants as step
use Rattle.thread_scripts.specs.declared.actor.ScriptState.{ScriptState}

pub performed_executed : (a : Action) (s : ScriptState) → (performed a s).executed ≡ s.executed
performed_executed (action.Step step) s = refl
performed_executed (action.Set register n) s = refl
performed_executed (action.SetBytes register text) s = refl
performed_executed (action.Go place) s = refl
performed_executed action.Nothing s = refl

pub performed_script : (a : Action) (s : ScriptState) → (performed a s).script ≡ s.script
performed_script (action.Step step) s = refl
performed_script (action.Set register n) s = refl
performed_script (action.SetBytes register text) s = refl
performed_script (action.Go place) s = refl
performed_script action.Nothing s = refl

pub within_none : (failed : Bool) (n : ℕ) (s : ScriptState) → n ≡ 0 → next_within failed n s ≡ (step.End, s)
unfolding next_within
within_none failed n s e = rw e refl

pub within_end : (failed : Bool) (n : ℕ) (s : ScriptState) → slice_get s.script s.place ≡ None
    → next_within failed n s ≡ (step.End, s)
unfolding next_within
within_end failed zero s e = refl
within_end failed (suc n) s e = rw e refl

pub within_step : (failed : Bool) (n : ℕ) (s : ScriptState) (l : Line) (given : Step) → 0 < n
    → slice_get s.script s.place ≡ Some l → step_given (action_of failed s l) ≡ Some given
    → next_within failed n s ≡ (given, behind failed s l)
unfolding next_within
within_step failed zero s l given h e g = absurd (omega arith)
within_step failed (suc n) s l given h e g = rw (e, g) refl

pub within_more : (failed : Bool) (n : ℕ) (s : ScriptState) (l : Line) → 0 < n → slice_get s.script s.place ≡ Some l
    → step_given (action_of failed s l) ≡ None → next_within failed n s ≡ next_within failed (n - 1) (behind failed s l)
unfolding next_within
within_more failed zero s l h e g = absurd (omega arith)
within_more failed (suc n) s l h e g = let same : suc n - 1 ≡ n = omega arith in rw (e, g, same) refl

-- the same by what is left
pub next_none : (failed : Bool) (s : ScriptState) → EXECUTED_LINES ≤ s.executed
    → next_within failed (lines_left s) s ≡ (step.End, s)
next_none failed s h = within_none failed (lines_left s) s (omega arith)

pub next_step : (failed : Bool) (s : ScriptState) (l : Line) (given : Step) → s.executed < EXECUTED_LINES
    → slice_get s.script s.place ≡ Some l → step_given (action_of failed s l) ≡ Some given
    → next_within failed (lines_left s) s ≡ (given, behind failed s l)
next_step failed s l given h e g = within_step failed (lines_left s) s l given (omega arith) e g

pub next_more : (failed : Bool) (s : ScriptState) (l : Line) → s.executed < EXECUTED_LINES
    → slice_get s.script s.place ≡ Some l → step_given (action_of failed s l) ≡ None
    → next_within failed (lines_left s) s ≡ next_within failed (lines_left (behind failed s l)) (behind failed s l)
next_more failed s l h e g =
    let same : lines_left s - 1 ≡ lines_left (behind failed s l) =
    omega (arith, performed_executed (action_of failed s l) (past s)) in
    rw same at (within_more failed (lines_left s) s l (omega arith) e g)

-- the same after lines that gave no step
pub end_there : (failed : Bool) (start s : ScriptState)
    → next_within failed (lines_left s) s ≡ next_within failed (lines_left start) start
    → slice_get s.script s.place ≡ None → (step.End, s) ≡ next_within failed (lines_left start) start
end_there failed start s so_far none = sym (within_end failed (lines_left s) s none) ∙ so_far

pub step_there : (failed : Bool) (start s new : ScriptState) (l : Line) (a : Action) (given : Step)
    → next_within failed (lines_left s) s ≡ next_within failed (lines_left start) start → s.executed < EXECUTED_LINES
    → slice_get s.script s.place ≡ Some l → a ≡ action_of failed s l → step_given a ≡ Some given
    → new ≡ performed a (past s) → (given, new) ≡ next_within failed (lines_left start) start
step_there failed start s new l a given so_far more here is gives state =
    let found : next_within failed (lines_left s) s ≡ (given, behind failed s l) =
    next_step failed s l given more here (rw is at gives) in
    let same : new ≡ behind failed s l = rw is at state in
    cc

pub more_there : (failed : Bool) (start s new : ScriptState) (l : Line) (a : Action)
    → next_within failed (lines_left s) s ≡ next_within failed (lines_left start) start → s.executed < EXECUTED_LINES
    → slice_get s.script s.place ≡ Some l → a ≡ action_of failed s l → step_given a ≡ None → new ≡ performed a (past s)
    → next_within failed (lines_left new) new ≡ next_within failed (lines_left start) start
more_there failed start s new l a so_far more here is gives state =
    let found : next_within failed (lines_left s) s
    ≡ next_within failed (lines_left (behind failed s l)) (behind failed s l) =
    next_more failed s l more here (rw is at gives) in
    let same : new ≡ behind failed s l = rw is at state in
    rw same (sym found ∙ so_far)
