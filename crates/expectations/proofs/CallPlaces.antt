-- That the place of a call is that of a line that makes one.
use Rattle.std.proofs.Common.{◌≡◌, ◌∙◌, ℕ, zero, suc, ◌+◌, ◌-◌, Bool, true, false, All, List, [], ◌∷◌, slice_get}
use Rattle.std.proofs.Common.{if◌then◌else◌, Option, Some, None, pos, refl, subst, arith}
use Rattle.std.specs.Ordering.{int_eq}
use Rattle.std.proofs.lemmas.List.Elements.{All-cons}
use Rattle.posix_terms.specs.Calls.{Call}
use Rattle.posix_terms.specs.declared.reply.Reply.{Reply}
use Rattle.posix_terms.specs.declared.step.Step.{Step}
use Rattle.posix_terms.specs.declared.step.Step.TheVariants as step
use Rattle.thread_scripts.specs.Laws.{ScriptStays}
use Rattle.thread_scripts.specs.Meaning.{action_of, behind, end_or, given_or, is_failure, lines_left, next_of}
use Rattle.thread_scripts.specs.Meaning.{next_within, past, performed, register_value, step_given, stored}
use Rattle.thread_scripts.specs.declared.line.Line.{Line}
use Rattle.thread_scripts.specs.declared.line.Line.TheVariants as line
use Rattle.thread_scripts.specs.declared.actor.ScriptState.{ScriptState}
use Rattle.expectations.specs.Laws.{IsCallPlace}
use Rattle.expectations.specs.Places.{call_after, call_at, call_before, calls_from, past_work, past_works_within}

-- where a step is a call, the script is past the line that makes it
abbrev IsAtCall : List Line → Step × ScriptState → Type 0
IsAtCall script next = (call : Call) → next.0 ≡ step.Call call → IsCallPlace script next.1.place

either : {A : Type 0} (P : A → Type 0) (b : Bool) (x y : A) → P x → P y → P (if b then x else y)
either P true x y p q = p
either P false x y p q = q

-- a line leaves the script as it is
behind_script : (failed : Bool) (s : ScriptState) (l : Line) → (behind failed s l).script ≡ s.script
unfolding action_of
behind_script failed s (line.Call call) = refl
behind_script failed s (line.Work amount) = refl
behind_script failed s line.End = refl
behind_script failed s (line.Set register value) = refl
behind_script failed s (line.Add register value) = refl
behind_script failed s (line.SetBytes register value) = refl
behind_script failed s line.Label = refl
behind_script failed s (line.Jump place) = refl
behind_script failed s (line.JumpIfZero register place) =
    either (λ a. (performed a (past s)).script ≡ s.script) (int_eq (register_value s register) (pos 0)) _ _ refl refl
behind_script failed s (line.JumpIfFailed place) =
    either (λ a. (performed a (past s)).script ≡ s.script) failed _ _ refl refl

one_line : (failed : Bool) (s : ScriptState) (l : Line) (next : Step × ScriptState)
    → slice_get s.script s.place ≡ Some l → IsAtCall s.script next
    → IsAtCall s.script (given_or (step_given (action_of failed s l)) (behind failed s l) next)
unfolding action_of
one_line failed s (line.Call call) next here others = λ given same.
    let back : s.place + 1 - 1 ≡ s.place = omega arith in
    record { from_one = omega arith; call = call; line = rw back here }
one_line failed s (line.Work amount) next here others = λ given same. cc
one_line failed s line.End next here others = others
one_line failed s (line.Set register value) next here others = others
one_line failed s (line.Add register value) next here others = others
one_line failed s (line.SetBytes register value) next here others = others
one_line failed s line.Label next here others = others
one_line failed s (line.Jump place) next here others = others
one_line failed s (line.JumpIfZero register place) next here others =
    either (λ a. IsAtCall s.script (given_or (step_given a) (performed a (past s)) next))
    (int_eq (register_value s register) (pos 0)) _ _ others others
one_line failed s (line.JumpIfFailed place) next here others =
    either (λ a. IsAtCall s.script (given_or (step_given a) (performed a (past s)) next)) failed _ _ others others

within : (failed : Bool) (n : ℕ) (s : ScriptState) → IsAtCall s.script (next_within failed n s)
unfolding next_within
within failed zero s = λ call same. cc
within failed (suc n) s = at (slice_get s.script s.place) refl (λ l. within failed n (behind failed s l)) where
  at : (l : Option Line) → slice_get s.script s.place ≡ l
      → ((l : Line) → IsAtCall (behind failed s l).script (next_within failed n (behind failed s l)))
      → IsAtCall s.script (end_or l s
      (λ l. given_or (step_given (action_of failed s l)) (behind failed s l)
      (next_within failed n (behind failed s l))))
  at None here others = λ call same. cc
  at (Some l) here others = one_line failed s l (next_within failed n (behind failed s l)) here
      (rw (behind_script failed s l) at (others l))

stored_script : (last : Option Reply) (s : ScriptState) → (stored last s).script ≡ s.script
stored_script None s = refl
stored_script (Some reply) s = refl

next : (last : Option Reply) (s : ScriptState) → IsAtCall s.script (next_of last s)
next last s = rw (stored_script last s) at (within (is_failure last) (lines_left s) (stored last s))

-- the next call has the place of a line that makes one, of the same script
next_call : ScriptStays → (n : ℕ) (last : Option Reply) (s behind : ScriptState)
    → call_at (past_works_within n last s).0 (past_works_within n last s).1 ≡ Some behind
    → IsCallPlace s.script behind.place × (behind.script ≡ s.script)
unfolding past_works_within
next_call stays zero last s behind found = cc
next_call stays (suc n) last s behind found =
    at (next_of last s).0 refl (next_call stays n None (next_of last s).1 behind) found where
      at : (given : Step) → (next_of last s).0 ≡ given
          → (call_at (past_works_within n None (next_of last s).1).0
          (past_works_within n None (next_of last s).1).1 ≡ Some behind
          → IsCallPlace (next_of last s).1.script behind.place × (behind.script ≡ (next_of last s).1.script))
          → call_at (past_work given (next_of last s).1 (past_works_within n None (next_of last s).1)).0
          (past_work given (next_of last s).1 (past_works_within n None (next_of last s).1)).1 ≡ Some behind
          → IsCallPlace s.script behind.place × (behind.script ≡ s.script)
      at (step.Call call) here later some =
          let same : (next_of last s).1 ≡ behind = cc in (
            subst (λ (t : ScriptState). IsCallPlace s.script t.place) same (next last s call here),
            subst
                (λ (t : ScriptState). t.script ≡ s.script) same (stays last s),
          )
      at (step.Work amount) here later more =
          let found = later more in
          (rw (stays last s) at found.0, found.1 ∙ stays last s)
      at step.End here later none = cc

pub all_calls : ScriptStays → (script : List Line) (last : Option Reply) (s : ScriptState) (replies : List Reply)
    → s.script ≡ script → All (λ call. IsCallPlace script call.0) (calls_from last s replies)
all_calls stays script last s [] same = λ k d inside. absurd (omega arith)
all_calls stays script last s (reply ∷ replies) same =
    at (call_after last s) refl (λ behind. all_calls stays script (Some reply) behind replies) where
      at : (next : Option ScriptState) → call_after last s ≡ next
          → ((behind : ScriptState) → behind.script ≡ script
          → All (λ call. IsCallPlace script call.0) (calls_from (Some reply) behind replies))
          → All (λ call. IsCallPlace script call.0)
          (call_before next reply (λ behind. calls_from (Some reply) behind replies))
      at None here others = λ k d inside. absurd (omega arith)
      at (Some behind) here others =
          let found = next_call stays (lines_left s + 1) last s behind here in
          All-cons (λ (call : ℕ × Reply). IsCallPlace script call.0) (behind.place, reply)
          (calls_from (Some reply) behind replies) (rw same at found.0) (others behind (found.1 ∙ same))
