-- What the history says of the actors and the outsides, where the notes agree with it.
use Rattle.std.proofs.Common.{◌≡◌, ◌⊎◌, inl, inr, ℕ, ◌+◌, Bool, true, false, not, List, [], ◌∷◌, Option, Some, None}
use Rattle.std.proofs.Common.{Result, Ok, Err, IfOk, refl}
use Rattle.std.specs.Prelude.{is_some}
use Rattle.std.proofs.lemmas.Bool.{false≢true, true≢false}
use Rattle.lock_machine.specs.Waiting.{is_call}
use Rattle.posix_terms.specs.declared.reply.Reply.{Reply}
use Rattle.posix_terms.specs.declared.transcript.HistoryRow.{HistoryRow}
use Rattle.thread_scripts.specs.declared.actor.ScriptState.{ScriptState}
use Rattle.posix_terms.specs.declared.step.Step.{Step}
use Rattle.posix_terms.specs.declared.step.Step.TheVariants as step
use Rattle.worker_notes.specs.Agrees.{Agree, AgreeFrom, AgreesWith, before, brought_in, replies_in, replies_noted}
use Rattle.worker_notes.specs.Agrees.{steps_noted}
use Rattle.worker_notes.specs.Leads.{Giving, LeadsTo}
use Rattle.worker_notes.specs.Plays.{AreHeardSoFar, PlaysTo, noted, open_call}
use Rattle.worker_notes.specs.declared.own.Noted.{Noted}
use Rattle.worker_notes.specs.declared.own.Own.{Own}
use Rattle.recorder.proofs.Playing.{plays_loose}
use Rattle.recorder.specs.Each.{ArePlayedFrom, AreLedFrom, AreTrue, Each}
use Rattle.recorder.specs.Recorded.{AreEnded}
use Rattle.recorder.specs.Seats.{IsTrueTo}

-- a step with its reply before these notes
one_more : (x : Step) (r : Option Reply) (steps : List Step) (replies : List Reply) (notes : List Noted)
    → is_some r ≡ is_call x → notes ≡ noted steps replies
    → record { step = x; reply = r } ∷ notes ≡ noted (x ∷ steps) (before r replies)
one_more (step.Call c) (Some r) steps replies notes e f = rw f refl
one_more (step.Work n) None steps replies notes e f = rw f refl
one_more step.End None steps replies notes e f = rw f refl
one_more (step.Call c) None steps replies notes e f = absurd (false≢true e)
one_more (step.Work n) (Some r) steps replies notes e f = absurd (true≢false e)
one_more step.End (Some r) steps replies notes e f = absurd (true≢false e)

-- the last one, whose reply has not come
last_one : (x : Step) → record { step = x; reply = None } ∷ [] ≡ noted (x ∷ []) []
last_one (step.Call c) = refl
last_one (step.Work n) = refl
last_one step.End = refl

unheard : (n : Noted) → n.reply ≡ None → n ∷ [] ≡ noted (n.step ∷ []) (before n.reply [])
unheard n e = rw e (last_one n.step)

-- the notes are their steps, with their replies at the calls
pub noted_is : (notes : List Noted) → AreHeardSoFar notes → notes ≡ noted (steps_noted notes) (replies_noted notes)
noted_is [] h = refl
noted_is (n ∷ []) (inl e) = unheard n e
noted_is (n ∷ []) (inr e) = one_more n.step n.reply [] [] [] e refl
noted_is (n ∷ m ∷ notes) h = one_more n.step n.reply (steps_noted (m ∷ notes)) (replies_noted (m ∷ notes)) (m ∷ notes)
    h.0 (noted_is (m ∷ notes) h.1)

-- who gave its end is not ahead, and nobody is in a run that was not stopped
plays_at : (ahead ended : Bool) (s : ScriptState) (notes : List Noted) (t : ScriptState)
    → (ahead ≡ false → ended ≡ true) → PlaysTo (not ended) s notes t → PlaysTo ahead s notes t
plays_at true ended s notes t e h = plays_loose (not ended) s notes t h
plays_at false true s notes t e h = h
plays_at false false s notes t e h = absurd (false≢true (e refl))

played : (ahead : Bool) (i : ℕ) (rows : List HistoryRow) (asked : List Step) (w : Own) (s t : ScriptState)
    → AgreesWith i rows asked w → AreHeardSoFar w.steps.items → PlaysTo ahead s w.steps.items t
    → PlaysTo ahead s (noted asked (replies_in i rows)) t
played ahead i rows asked w s t agrees heard h = rw (← agrees.steps, ← agrees.replies, ← noted_is w.steps.items heard) h

led : {O : Type 0} (gives : Giving O) (i : ℕ) (rows : List HistoryRow) (asked : List Step) (w : Own) (o p : O)
    → AgreesWith i rows asked w → AreHeardSoFar w.steps.items
    → LeadsTo gives (open_call w.steps.items) o w.outcomes.items p
    → LeadsTo gives (open_call (noted asked (replies_in i rows))) o (brought_in i rows) p
led gives i rows asked w o p agrees heard h =
    rw (← agrees.steps, ← agrees.replies, ← agrees.outcomes, ← noted_is w.steps.items heard) h

-- of each thread in turn
pub told_each : {A O : Type 0} (state : A → ScriptState) (gives : Giving O) (ahead : Bool) (i : ℕ)
    (rows : List HistoryRow) (asked : List (List Step)) (actors : List A) (os : List O) (ws : List Own) (bs : List A)
    (ps : List O)
    → (ahead ≡ false → AreEnded ws) → AgreeFrom i rows asked ws
    → Each (λ a o w b p. IsTrueTo O gives (state a) o w (state b) p) actors os ws bs ps
    → ArePlayedFrom state ahead i rows asked actors bs × AreLedFrom gives i rows asked os ps
told_each state gives ahead i rows [] [] [] [] [] [] e agree h = (tt, tt)
told_each state gives ahead i rows (x ∷ asked) (a ∷ actors) (o ∷ os) (w ∷ ws) (b ∷ bs) (p ∷ ps) e agree h =
    let rest = told_each state gives ahead (i + 1) rows asked actors os ws bs ps (λ f. (e f).1) agree.1 h.1 in
    let heads = h.0 in (
      (
        played ahead i rows x w (state a) (state b) agree.0 heads.heard
            (plays_at ahead w.ended (state a) w.steps.items (state b) (λ f. (e f).0) heads.plays),
        rest.0,
      ),
      (led gives i rows x w o p agree.0 heads.heard heads.leads, rest.1),
    )
told_each state gives ahead i rows (x ∷ asked) actors os [] bs ps e agree h = absurd agree
told_each state gives ahead i rows [] actors os (w ∷ ws) bs ps e agree h = absurd agree
told_each state gives ahead i rows [] (a ∷ actors) [] [] bs ps e agree h = absurd h
told_each state gives ahead i rows [] (a ∷ actors) (o ∷ os) [] bs ps e agree h = absurd h
told_each state gives ahead i rows [] [] (o ∷ os) [] bs ps e agree h = absurd h
told_each state gives ahead i rows [] [] [] [] (b ∷ bs) ps e agree h = absurd h
told_each state gives ahead i rows [] [] [] [] [] (p ∷ ps) e agree h = absurd h
told_each state gives ahead i rows (x ∷ asked) [] [] (w ∷ ws) bs ps e agree h = absurd h
told_each state gives ahead i rows (x ∷ asked) [] (o ∷ os) (w ∷ ws) bs ps e agree h = absurd h
told_each state gives ahead i rows (x ∷ asked) (a ∷ actors) [] (w ∷ ws) bs ps e agree h = absurd h
told_each state gives ahead i rows (x ∷ asked) (a ∷ actors) (o ∷ os) (w ∷ ws) [] ps e agree h = absurd h
told_each state gives ahead i rows (x ∷ asked) (a ∷ actors) (o ∷ os) (w ∷ ws) (b ∷ bs) [] e agree h = absurd h

not_stopped : {S : Type 0} (o : Option S) → is_some o ≡ false → o ≡ None
not_stopped None e = refl
not_stopped (Some s) e = absurd (true≢false e)

-- so unless the threads strayed
pub played_or_strayed : {A O S : Type 0} (strayed : Type 0) (state : A → ScriptState) (gives : Giving O)
    (stopped : Option S) (rows : List HistoryRow) (asked : List (List Step)) (actors : List A) (os : List O)
    (ws : List Own) (bs : List A) (ps : List O)
    → strayed ⊎ Agree rows asked ws → (stopped ≡ None → AreEnded ws) → AreTrue gives state actors os ws bs ps → strayed
    ⊎ ArePlayedFrom state (is_some stopped) 0 rows asked actors bs
played_or_strayed strayed state gives stopped rows asked actors os ws bs ps (inl s) e h = inl s
played_or_strayed strayed state gives stopped rows asked actors os ws bs ps (inr agree) e h =
    inr (told_each state gives (is_some stopped) 0 rows asked actors os ws bs ps (λ f. e (not_stopped stopped f)) agree
    h).0

pub led_or_strayed : {A O S : Type 0} (strayed : Type 0) (state : A → ScriptState) (gives : Giving O)
    (stopped : Option S) (rows : List HistoryRow) (asked : List (List Step)) (actors : List A) (os : List O)
    (ws : List Own) (bs : List A) (ps : List O)
    → strayed ⊎ Agree rows asked ws → (stopped ≡ None → AreEnded ws) → AreTrue gives state actors os ws bs ps → strayed
    ⊎ AreLedFrom gives 0 rows asked os ps
led_or_strayed strayed state gives stopped rows asked actors os ws bs ps (inl s) e h = inl s
led_or_strayed strayed state gives stopped rows asked actors os ws bs ps (inr agree) e h =
    inr (told_each state gives (is_some stopped) 0 rows asked actors os ws bs ps (λ f. e (not_stopped stopped f)) agree
    h).1

-- what follows from facts of a success is one
pub from_one : {A E : Type 0} {P S : A → Type 0} (r : Result A E) → ((a : A) → P a → S a) → IfOk r P → IfOk r S
from_one (Ok a) f p = f a p
from_one (Err e) f p = tt

pub from_three : {A E : Type 0} {P Q R S : A → Type 0} (r : Result A E) → ((a : A) → P a → Q a → R a → S a) → IfOk r P
    → IfOk r Q → IfOk r R → IfOk r S
from_three (Ok a) f p q r = f a p q r
from_three (Err e) f p q r = tt
