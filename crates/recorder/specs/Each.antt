-- Believed: a contract of the headline stands on it.
-- What is true of each thread, over lists by thread.
use Rattle.std.specs.Prelude.{◌≡◌, ℕ, ◌+◌, Bool, List, [], ◌∷◌}
use Rattle.posix_terms.specs.declared.transcript.HistoryRow.{HistoryRow}
use Rattle.thread_scripts.specs.declared.actor.ScriptState.{ScriptState}
use Rattle.posix_terms.specs.declared.step.Step.{Step}
use Rattle.worker_notes.specs.Agrees.{brought_in, replies_in}
use Rattle.worker_notes.specs.Leads.{Giving, LeadsTo}
use Rattle.worker_notes.specs.Plays.{PlaysTo, noted, open_call}
use Rattle.worker_notes.specs.declared.own.Own.{Own}
use Rattle.recorder.specs.Seats.{IsTrueTo}

-- an outside that has given nothing and never failed
abbrev pub IsUnused : {O : Type 0} → (O → ℕ) → (O → ℕ) → O → Type 0
IsUnused given failures o = (given o ≡ 0) × (failures o ≡ 0)

-- of actor and outside at entry, the notes, and actor and outside at the end; there are as many of
-- each
abbrev pub Each : {A O W : Type 0} → (A → O → W → A → O → Type 0)
    → List A → List O → List W → List A → List O → Type 0
Each R [] [] [] [] [] = Unit {0}
Each R (a ∷ actors) (o ∷ outsides) (w ∷ own) (b ∷ others) (p ∷ ends) =
    R a o w b p × Each R actors outsides own others ends
Each R actors outsides own others ends = ⊥

-- the notes of each thread are true of its actor and its outside
abbrev pub AreTrue : {A O : Type 0} → Giving O → (A → ScriptState)
    → List A → List O → List Own → List A → List O → Type 0
AreTrue {A} {O} gives state actors outsides own later ends =
    Each (λ a o w b p. IsTrueTo O gives (state a) o w (state b) p) actors outsides own later ends

-- ## What the history says of the actors and the outsides

-- each actor, from this thread on, was led from where it stood to where it stands by the steps that
-- its thread asked: those which its meaning gives under the replies of the thread's rows. It may be
-- ahead by one step more
abbrev pub ArePlayedFrom : {A : Type 0} → (A → ScriptState) → Bool → ℕ
    → List HistoryRow → List (List Step) → List A → List A → Type 0
ArePlayedFrom state ahead thread rows [] [] [] = Unit {0}
ArePlayedFrom state ahead thread rows (asked ∷ others) (a ∷ actors) (b ∷ later) =
    PlaysTo ahead (state a) (noted asked (replies_in thread rows)) (state b)
    × ArePlayedFrom state ahead (thread + 1) rows others actors later
ArePlayedFrom state ahead thread rows asked actors later = ⊥

-- each outside, from this thread on, was led from where it stood to where it stands by the requests
-- that the calls of the thread's rows ask, in order and numbered from 0, each with its outcome. It
-- may be ahead by one call more: that in which its thread's steps end, without a reply. So where
-- they end in `End`, as they do wherever nothing stopped the run, it is not ahead
abbrev pub AreLedFrom : {O : Type 0} → Giving O → ℕ
    → List HistoryRow → List (List Step) → List O → List O → Type 0
AreLedFrom gives thread rows [] [] [] = Unit {0}
AreLedFrom gives thread rows (asked ∷ others) (o ∷ outsides) (p ∷ ends) =
    LeadsTo gives (open_call (noted asked (replies_in thread rows))) o (brought_in thread rows) p
    × AreLedFrom gives (thread + 1) rows others outsides ends
AreLedFrom gives thread rows asked outsides ends = ⊥
