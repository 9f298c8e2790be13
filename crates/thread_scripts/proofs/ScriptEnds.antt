-- Each script comes to its end.
use Rattle.std.proofs.Common.{◌≡◌, ◌⊎◌, inl, inr, ℕ, zero, suc, ◌+◌, ◌<◌, ◌≤◌, Bool, true, false, List, [], ◌∷◌, length}
use Rattle.std.proofs.Common.{slice_get, Option, Some, None, cond, refl, sym, ap, subst, arith}
use Rattle.std.proofs.lemmas.Option.{same_Some}
use Rattle.std.specs.Ordering.{int_eq}
use Rattle.std.specs.Prelude.{pos}
use Rattle.posix_terms.specs.declared.reply.Reply.{Reply}
use Rattle.thread_scripts.specs.Laws.{RunsEnd}
use Rattle.thread_scripts.specs.Meaning.{action_of, behind, end_or, given_or, is_failure, lines_left, next_of}
use Rattle.thread_scripts.specs.Meaning.{next_within, past, performed, register_value, start_of, step_given, stored}
use Rattle.thread_scripts.specs.declared.actor.ScriptState.{ScriptState}
use Rattle.posix_terms.specs.declared.step.Step.{Step}
use Rattle.posix_terms.specs.declared.step.Step.TheVariants as step
use Rattle.thread_scripts.specs.declared.line.Line.{Line}
use Rattle.thread_scripts.specs.declared.line.Line.TheVariants as line
use Rattle.thread_scripts.specs.ScriptPrograms.{Reached, ScriptsEnd, at_start, next_at, reached_after, replies_behind}
use Rattle.thread_scripts.specs.ScriptPrograms.{reply_to}

-- it may execute no line more, or stands after its last
abbrev IsOver : ScriptState → Type 0
IsOver s = (lines_left s ≡ 0) ⊎ (slice_get s.script s.place ≡ None)

stored_over : (last : Option Reply) (s : ScriptState) → IsOver s → IsOver (stored last s)
stored_over None s over = over
stored_over (Some r) s over = over

-- then its next step is the end, and it stands there still
ends_there : (failed : Bool) (n : ℕ) (s : ScriptState) → (n ≡ 0) ⊎ (slice_get s.script s.place ≡ None)
    → next_within failed n s ≡ (step.End, s)
unfolding next_within
ends_there failed zero s over = refl
ends_there failed (suc n) s (inl none) = absurd (omega (arith, none))
ends_there failed (suc n) s (inr past_all) =
    ap (λ (l : Option Line). end_or l s
    (λ l. given_or (step_given (action_of failed s l)) (behind failed s l) (next_within failed n (behind failed s l))))
    past_all

lines_stored : (last : Option Reply) (s : ScriptState) → lines_left (stored last s) ≡ lines_left s
lines_stored None s = refl
lines_stored (Some r) s = refl

over_next : (last : Option Reply) (s : ScriptState) → IsOver s → next_of last s ≡ (step.End, stored last s)
over_next last s over = ends_there (is_failure last) (lines_left s) (stored last s)
    (subst (λ (n : ℕ). (n ≡ 0) ⊎ (slice_get (stored last s).script (stored last s).place ≡ None)) (lines_stored last s)
    (stored_over last s over))

-- no line gives the end as its step
abbrev NotEnd : Option Step → Type 0
NotEnd (Some step.End) = ⊥
NotEnd x = Unit {0}

-- what is true of either is true of the one that is chosen
chosen : {A : Type 0} (P : A → Type 0) (b : Bool) (one other : A) → P one → P other → P (cond b one other)
chosen P true one other h g = h
chosen P false one other h g = g

gives_no_end : (failed : Bool) (s : ScriptState) (l : Line) → NotEnd (step_given (action_of failed s l))
unfolding action_of
gives_no_end failed s (line.Call l) = _
gives_no_end failed s (line.Work amount) = _
gives_no_end failed s line.End = _
gives_no_end failed s (line.Set register value) = _
gives_no_end failed s (line.Add register value) = _
gives_no_end failed s (line.SetBytes register value) = _
gives_no_end failed s line.Label = _
gives_no_end failed s (line.Jump place) = _
gives_no_end failed s (line.JumpIfZero register place) =
    chosen (λ a. NotEnd (step_given a)) (int_eq (register_value s register) (pos 0)) _ _ _ _
gives_no_end failed s (line.JumpIfFailed place) = chosen (λ a. NotEnd (step_given a)) failed _ _ _ _

-- each line is counted
executed_behind : (failed : Bool) (s : ScriptState) (l : Line) → (behind failed s l).executed ≡ s.executed + 1
unfolding action_of
executed_behind failed s (line.Call l) = refl
executed_behind failed s (line.Work amount) = refl
executed_behind failed s line.End = refl
executed_behind failed s (line.Set register value) = refl
executed_behind failed s (line.Add register value) = refl
executed_behind failed s (line.SetBytes register value) = refl
executed_behind failed s line.Label = refl
executed_behind failed s (line.Jump place) = refl
executed_behind failed s (line.JumpIfZero register place) =
    chosen (λ a. (performed a (past s)).executed ≡ s.executed + 1) (int_eq (register_value s register) (pos 0)) _ _ refl
    refl
executed_behind failed s (line.JumpIfFailed place) = chosen (λ a. (performed a (past s)).executed ≡ s.executed + 1)
    failed _ _ refl refl

-- where its next step is the end, it is over
ends_over : (failed : Bool) (n : ℕ) (s : ScriptState) → lines_left s ≤ n → (next_within failed n s).0 ≡ step.End
    → IsOver (next_within failed n s).1
unfolding next_within
ends_over failed zero s few end = inl (omega (arith, few))
ends_over failed (suc n) s few end =
    at (slice_get s.script s.place) refl
    (λ l e.
    let one : (behind failed s l).executed ≡ s.executed + 1 = executed_behind failed s l in
    ends_over failed n (behind failed s l) (omega (arith, few, one)) e)
    end
  where
    Later : Line → Type 0
    Later l = (next_within failed n (behind failed s l)).0 ≡ step.End
        → IsOver (next_within failed n (behind failed s l)).1

    given : (l : Line) (x : Option Step) → NotEnd x → Later l
        → (given_or x (behind failed s l) (next_within failed n (behind failed s l))).0 ≡ step.End
        → IsOver (given_or x (behind failed s l) (next_within failed n (behind failed s l))).1
    given l None not later e = later e
    given l (Some x) not later e = absurd (subst (λ (y : Step). NotEnd (Some y)) e not)

    at : (l : Option Line) → slice_get s.script s.place ≡ l → ((l : Line) → Later l)
        → (end_or l s (λ l. given_or (step_given (action_of failed s l)) (behind failed s l)
        (next_within failed n (behind failed s l)))).0 ≡ step.End
        → IsOver (end_or l s (λ l. given_or (step_given (action_of failed s l)) (behind failed s l)
        (next_within failed n (behind failed s l)))).1
    at None is later e = inr is
    at (Some l) is later e = given l (step_given (action_of failed s l)) (gives_no_end failed s l) (later l) e

next_over : (last : Option Reply) (s : ScriptState) → (next_of last s).0 ≡ step.End → IsOver (next_of last s).1
next_over last s end = ends_over (is_failure last) (lines_left s) (stored last s) (omega (arith, lines_stored last s))
    end

-- from there on it gives nothing else
over_for_good : (at : Reached) (asked : List Step) (replies : List Reply) → IsOver at.state
    → next_at (reached_after at asked replies) ≡ step.End
over_for_good at [] replies over = ap (λ (p : Step × ScriptState). p.0) (over_next at.last at.state over)
over_for_good at (x ∷ asked) replies over =
    over_for_good (record { last = reply_to x replies; state = (next_of at.last at.state).1 }) asked
    (replies_behind x replies)
    (subst (λ (p : Step × ScriptState). IsOver p.1) (sym (over_next at.last at.state over))
    (stored_over at.last at.state over))

-- each step but the end leaves fewer lines
ends_within : RunsEnd → (at : Reached) (asked : List Step) (replies : List Reply)
    → (next_at (reached_after at asked replies) ≡ step.End) ⊎ (length asked < suc (lines_left at.state))
ends_within law at [] replies = inr (omega arith)
ends_within law at (x ∷ asked) replies =
    by_law (law at.last at.state) (ends_within law
    (record { last = reply_to x replies; state = (next_of at.last at.state).1 }) asked (replies_behind x replies))
  where
    later : Reached
    later = record { last = reply_to x replies; state = (next_of at.last at.state).1 }

    Within : Type 0
    Within = (next_at (reached_after later asked (replies_behind x replies)) ≡ step.End)
        ⊎ (length asked < suc (lines_left later.state))

    counted : lines_left (next_of at.last at.state).1 < lines_left at.state → Within
        → (next_at (reached_after at (x ∷ asked) replies) ≡ step.End) ⊎ (length (x ∷ asked) < suc (lines_left at.state))
    counted less (inl end) = inl end
    counted less (inr few) = inr (omega (arith, less, few))

    by_law : ((next_of at.last at.state).0 ≡ step.End) ⊎ (lines_left (next_of at.last at.state).1 < lines_left at.state)
        → Within
        → (next_at (reached_after at (x ∷ asked) replies) ≡ step.End) ⊎ (length (x ∷ asked) < suc (lines_left at.state))
    by_law (inl end) within = inl (over_for_good later asked (replies_behind x replies)
        (next_over at.last at.state end))
    by_law (inr less) within = counted less within

pub scripts_end : RunsEnd → ScriptsEnd
scripts_end law script = (
  suc (lines_left (start_of script)),
  λ asked replies x is.
      let same : next_at (reached_after (at_start script) asked replies)
      ≡ x = same_Some (next_at (reached_after (at_start script) asked replies)) x is in
      subst (λ (y : Step). (y ≡ step.End) ⊎ (length asked < suc (lines_left (start_of script)))) same
      (ends_within law (at_start script) asked replies),
)
