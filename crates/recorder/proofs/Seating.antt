-- How a worker at its thread goes on.
use Rattle.std.proofs.Common.{◌≡◌, ℕ, ◌+◌, ◌≤◌, ◌<◌, Bool, true, false, [], ◌∷◌, ◌++◌, length, None, refl, sym, subst}
use Rattle.std.proofs.Common.{◌∙◌, arith}
use Rattle.std.proofs.lemmas.Bool.{true≢false, false≢true}
use Rattle.posix_terms.specs.declared.limits.TheConstants.Limits as limit
use Rattle.posix_terms.specs.declared.reply.Reply.{Reply}
use Rattle.thread_scripts.specs.Meaning.{next_of}
use Rattle.thread_scripts.specs.declared.actor.ScriptState.{ScriptState}
use Rattle.posix_terms.specs.declared.step.Step.{Step}
use Rattle.posix_terms.specs.declared.step.Step.TheVariants as step
use Rattle.lock_machine.specs.Refusals.{is_end}
use Rattle.worker_notes.specs.Leads.{Giving, Leads, LeadsTo}
use Rattle.worker_notes.specs.Plays.{last_reply, with_reply}
use Rattle.worker_notes.specs.declared.own.Brought.{Brought}
use Rattle.worker_notes.specs.declared.own.Noted.{Noted}
use Rattle.recorder.proofs.Leading.{leads_exactly, leads_given, leads_loose, length_last}
use Rattle.recorder.proofs.Playing.{ends_called, gave_end_last, heard_asked, heard_replied, heard_so_far, heard_worked}
use Rattle.recorder.proofs.Playing.{plays_asked, plays_exactly, plays_heard_to}
use Rattle.recorder.specs.Seats.{IsCalling, IsReady, IsSeated, IsStill, Sitting, StandsBehind, ahead_in, kind_of}

-- where nothing is ahead of the notes
leads_still : {O : Type 0} (gives : Giving O) (count faults : O → ℕ) (v : Sitting O) → IsStill v
    → IsSeated O gives count faults v → Leads gives 0 v.began v.brought v.outside
leads_still gives count faults v still h =
    leads_exactly gives v.began v.brought v.outside
    (subst (λ b. LeadsTo gives (ahead_in b v.steps) v.began v.brought v.outside) still.0 h.leads)

-- its call has a reply
pub seated_heard : {O : Type 0} (gives : Giving O) (count faults : O → ℕ) (v : Sitting O) (reply : Reply) → IsCalling v
    → IsSeated O gives count faults v → IsSeated O gives count faults (record v { steps = with_reply reply v.steps })
seated_heard gives count faults v reply calling h = record {
  plays = plays_heard_to v.ahead v.from v.steps v.now reply calling.0.0 h.plays;
  heard = heard_so_far (with_reply reply v.steps) (heard_replied v.steps reply calling.1);
  leads = leads_loose gives (ahead_in v.ahead (with_reply reply v.steps)) v.began v.brought v.outside
      (leads_still gives count faults v calling.0 h);
  given = h.given;
  failures = h.failures;
  few = h.few;
  counted = h.counted;
  ends = λ ended. absurd (true≢false (sym ended ∙ calling.0.1));
}

is_the_end : (x : Step) → is_end x ≡ true → x ≡ step.End
is_the_end step.End e = refl
is_the_end (step.Work n) e = absurd (false≢true e)
is_the_end (step.Call c) e = absurd (false≢true e)

-- its actor gave a step, which the machine took
pub seated_asked : {O : Type 0} (gives : Giving O) (count faults : O → ℕ) (v : Sitting O) (n : Noted) (t : ScriptState)
    (ended : Bool) → IsReady v → IsSeated O gives count faults v → n.step ≡ (next_of (last_reply v.steps) v.now).0
    → n.reply ≡ None → t ≡ (next_of (last_reply v.steps) v.now).1 → ended ≡ is_end n.step
    → IsSeated O gives count faults (record v { now = t; steps = v.steps ++ n ∷ []; ended = ended; ahead = false })
seated_asked gives count faults v n t ended ready h e none f g = record {
  plays = plays_asked v.from None v.steps v.now n t (plays_exactly v.ahead v.from v.steps v.now ready.0.0 h.plays) e f;
  heard = heard_asked v.steps n ready.1 none;
  leads = leads_loose gives None v.began v.brought v.outside (leads_still gives count faults v ready.0 h);
  given = h.given;
  failures = h.failures;
  few = h.few;
  counted = λ _. h.counted ready.0.0;
  ends = λ yes. (refl, gave_end_last v.steps n (is_the_end n.step (sym g ∙ yes)));
}

-- and stands after it then
pub stands_behind : {O : Type 0} (v : Sitting O) (x : Step) (t : ScriptState) → IsReady v
    → StandsBehind (kind_of x) (record v {
      now = t;
      steps = v.steps ++ record { step = x; reply = None } ∷ [];
      ended = is_end x;
      ahead = false;
    })
stands_behind v (step.Work n) t ready =
    ((refl, refl), heard_worked v.steps (record { step = step.Work n; reply = None }) ready.1 refl refl)
stands_behind v (step.Call c) t ready =
    ((refl, refl), ends_called v.steps (record { step = step.Call c; reply = None }) ready.1 refl refl)
stands_behind v step.End t ready = tt

-- its call went outside, and the machine recorded what came
pub seated_gone : {O : Type 0} (gives : Giving O) (count faults : O → ℕ) (v : Sitting O) (b : Brought) (p : O)
    → IsCalling v → IsSeated O gives count faults v → v.number < limit.OUTCOMES
    → gives v.outside v.number b.request b.outcome p → count p ≤ count v.outside + 1 → faults p ≤ faults v.outside + 1
    → IsSeated O gives count faults
    (record v { outside = p; brought = v.brought ++ b ∷ []; number = v.number + 1; ahead = false })
seated_gone gives count faults v b p calling h few g c f = record {
  plays = plays_exactly v.ahead v.from v.steps v.now calling.0.0 h.plays;
  heard = h.heard;
  leads =
      let number_is : v.number ≡ 0 + length v.brought = omega (arith, h.counted calling.0.0) in
      leads_loose gives None v.began (v.brought ++ b ∷ []) p
      (leads_given gives 0 v.began v.brought v.outside b p v.number (leads_still gives count faults v calling.0 h)
      number_is g);
  given = omega (arith, c, h.given);
  failures = omega (arith, f, h.failures);
  few = omega (arith, few);
  counted = λ _. omega (arith, length_last v.brought b, h.counted calling.0.0);
  ends = λ ended. absurd (true≢false (sym ended ∙ calling.0.1));
}
