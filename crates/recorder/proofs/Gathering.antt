-- What is true of each thread, gathered from the first thread to the last.
use Rattle.std.proofs.Common.{◌≡◌, ℕ, ◌+◌, zero, suc, replicate, false, List, [], ◌∷◌, ◌++◌, length, sym, ◌∙◌, refl}
use Rattle.std.proofs.Common.{inl, arith}
use Rattle.std.proofs.lemmas.Bool.{false≢true}
use Rattle.thread_scripts.specs.declared.actor.ScriptState.{ScriptState}
use Rattle.worker_notes.specs.Agrees.{AgreeFrom}
use Rattle.recorder.specs.Each.{Each}
use Rattle.worker_notes.specs.Leads.{Giving}
use Rattle.recorder.specs.Seats.{IsTrueTo}
use Rattle.worker_notes.specs.declared.own.Own.{Own}

pub each_last : {A O W : Type 0} (R : A → O → W → A → O → Type 0) (actors : List A) (os : List O) (ws : List W)
    (bs : List A) (ps : List O) (a : A) (o : O) (w : W) (b : A) (p : O) → Each R actors os ws bs ps → R a o w b p
    → Each R (actors ++ a ∷ []) (os ++ o ∷ []) (ws ++ w ∷ []) (bs ++ b ∷ []) (ps ++ p ∷ [])
each_last R [] [] [] [] [] a o w b p h r = (r, tt)
each_last R (x ∷ actors) (y ∷ os) (z ∷ ws) (c ∷ bs) (q ∷ ps) a o w b p h r =
    (h.0, each_last R actors os ws bs ps a o w b p h.1 r)
each_last R [] (y ∷ os) ws bs ps a o w b p h r = absurd h
each_last R [] [] (z ∷ ws) bs ps a o w b p h r = absurd h
each_last R [] [] [] (c ∷ bs) ps a o w b p h r = absurd h
each_last R [] [] [] [] (q ∷ ps) a o w b p h r = absurd h
each_last R (x ∷ actors) [] ws bs ps a o w b p h r = absurd h
each_last R (x ∷ actors) (y ∷ os) [] bs ps a o w b p h r = absurd h
each_last R (x ∷ actors) (y ∷ os) (z ∷ ws) [] ps a o w b p h r = absurd h
each_last R (x ∷ actors) (y ∷ os) (z ∷ ws) (c ∷ bs) [] a o w b p h r = absurd h

abbrev pub IsEmpty : Own → Type 0
IsEmpty w = (w.steps.items ≡ []) × (w.outcomes.items ≡ []) × (w.ended ≡ false)

-- of threads that were not started nothing was noted
abbrev pub AreEmpty : List Own → Type 0
AreEmpty [] = Unit {0}
AreEmpty (w ∷ own) = IsEmpty w × AreEmpty own

pub empty_last : (own : List Own) (w : Own) → AreEmpty own → IsEmpty w → AreEmpty (own ++ w ∷ [])
empty_last [] w h e = (e, tt)
empty_last (x ∷ own) w h e = (h.0, empty_last own w h.1 e)

idle : {O : Type 0} (gives : Giving O) (s : ScriptState) (o : O) (w : Own) → IsEmpty w → IsTrueTo O gives s o w s o
idle gives s o w e = record {
  plays = rw (e.2, e.0) (s, refl, inl refl);
  heard = rw e.0 tt;
  leads = rw (e.0, e.1) (o, refl, refl);
  ends = λ yes. absurd (false≢true (sym e.2 ∙ yes));
}

-- such notes are true of each actor and outside that stay as they are
pub each_idle : {A O : Type 0} (state : A → ScriptState) (gives : Giving O) (actors : List A) (os : List O)
    (ws : List Own) → length os ≡ length actors → length ws ≡ length actors → AreEmpty ws
    → Each (λ a o w b p. IsTrueTo O gives (state a) o w (state b) p) actors os ws actors os
each_idle state gives [] [] [] e f h = tt
each_idle state gives (a ∷ actors) (o ∷ os) (w ∷ ws) e f h =
    (idle gives (state a) o w h.0, each_idle state gives actors os ws (omega (arith, e)) (omega (arith, f)) h.1)
each_idle state gives [] (o ∷ os) ws e f h = absurd (omega (arith, e))
each_idle state gives [] [] (w ∷ ws) e f h = absurd (omega (arith, f))
each_idle state gives (a ∷ actors) [] ws e f h = absurd (omega (arith, e))
each_idle state gives (a ∷ actors) (o ∷ os) [] e f h = absurd (omega (arith, f))

-- and they agree with a past in which nothing happened
pub empty_agree : (n : ℕ) (i : ℕ) (own : List Own) → length own ≡ n → AreEmpty own → AgreeFrom i [] (replicate n []) own
empty_agree zero i [] e h = tt
empty_agree (suc n) i (w ∷ own) e h = (
  record { steps = rw h.0.0 refl; replies = rw h.0.0 refl; outcomes = h.0.1 },
  empty_agree n (i + 1) own
      (omega (arith, e)) h.1,
)
empty_agree zero i (w ∷ own) e h = absurd (omega (arith, e))
empty_agree (suc n) i [] e h = absurd (omega (arith, e))
