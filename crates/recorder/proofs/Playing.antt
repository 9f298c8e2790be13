-- How the notes of steps and replies grow.
use Rattle.std.proofs.Common.{◌≡◌, inl, inr, Bool, true, false, List, [], ◌∷◌, ◌++◌, Option, None, refl, ap, sym, ◌∙◌}
use Rattle.std.specs.Prelude.{is_some}
use Rattle.std.proofs.lemmas.Bool.{true≢false}
use Rattle.posix_terms.specs.declared.reply.Reply.{Reply}
use Rattle.thread_scripts.specs.Meaning.{next_of}
use Rattle.thread_scripts.specs.declared.actor.ScriptState.{ScriptState}
use Rattle.posix_terms.specs.declared.step.Step.TheVariants as step
use Rattle.lock_machine.specs.Waiting.{is_call}
use Rattle.worker_notes.specs.Plays.{AreHeard, AreHeardSoFar, Plays, PlaysTo, gave_end, reply_after, with_reply}
use Rattle.recorder.specs.Seats.{EndsInCall}
use Rattle.worker_notes.specs.declared.own.Noted.{Noted}

-- by one more step, which the meaning gives
pub plays_asked : (s : ScriptState) (last : Option Reply) (notes : List Noted) (t : ScriptState) (n : Noted)
    (u : ScriptState) → Plays s last notes t → n.step ≡ (next_of (reply_after last notes) t).0
    → u ≡ (next_of (reply_after last notes) t).1 → Plays s last (notes ++ n ∷ []) u
plays_asked s last [] t n u h e f = (rw h at e, rw h at f)
plays_asked s last (m ∷ notes) t n u h e f = (h.0, plays_asked (next_of last s).1 m.reply notes t n u h.1 e f)

-- by the reply to the last one
pub plays_heard : (s : ScriptState) (last : Option Reply) (notes : List Noted) (t : ScriptState) (reply : Reply)
    → Plays s last notes t → Plays s last (with_reply reply notes) t
plays_heard s last [] t reply h = h
plays_heard s last (n ∷ []) t reply h = h
plays_heard s last (n ∷ m ∷ notes) t reply h = (h.0, plays_heard (next_of last s).1 n.reply (m ∷ notes) t reply h.1)

-- where the actor may be ahead of its notes, it may also not be
pub plays_loose : (ahead : Bool) (s : ScriptState) (notes : List Noted) (t : ScriptState) → PlaysTo ahead s notes t
    → PlaysTo true s notes t
plays_loose false s notes t h = (t, h, inl refl)
plays_loose true s notes t h = h

pub gave_end_last : (notes : List Noted) (n : Noted) → n.step ≡ step.End → gave_end (notes ++ n ∷ [])
gave_end_last [] n e = e
gave_end_last (m ∷ []) n e = e
gave_end_last (m ∷ k ∷ notes) n e = gave_end_last (k ∷ notes) n e

-- the reply heard where nothing is ahead
pub plays_heard_to : (ahead : Bool) (s : ScriptState) (notes : List Noted) (t : ScriptState) (reply : Reply)
    → ahead ≡ false → PlaysTo ahead s notes t → PlaysTo ahead s (with_reply reply notes) t
plays_heard_to false s notes t reply e h = plays_heard s None notes t reply h
plays_heard_to true s notes t reply e h = absurd (true≢false e)

-- where nothing is ahead
pub plays_exactly : (ahead : Bool) (s : ScriptState) (notes : List Noted) (t : ScriptState) → ahead ≡ false
    → PlaysTo ahead s notes t → Plays s None notes t
plays_exactly false s notes t e h = h
plays_exactly true s notes t e h = absurd (true≢false e)

-- ## Where replies stand

pub heard_so_far : (notes : List Noted) → AreHeard notes → AreHeardSoFar notes
heard_so_far [] h = tt
heard_so_far (n ∷ []) h = inr h.0
heard_so_far (n ∷ m ∷ notes) h = (h.0, heard_so_far (m ∷ notes) h.1)

-- with one more step, whose reply has not come
pub heard_asked : (notes : List Noted) (n : Noted) → AreHeard notes → n.reply ≡ None → AreHeardSoFar (notes ++ n ∷ [])
heard_asked [] n h e = inl e
heard_asked (m ∷ []) n h e = (h.0, inl e)
heard_asked (m ∷ k ∷ notes) n h e = (h.0, heard_asked (k ∷ notes) n h.1 e)

-- with one more step that has no reply to come
pub heard_worked : (notes : List Noted) (n : Noted) → AreHeard notes → n.reply ≡ None → is_call n.step ≡ false
    → AreHeard (notes ++ n ∷ [])
heard_worked [] n h e f = (ap is_some e ∙ sym f, tt)
heard_worked (m ∷ notes) n h e f = (h.0, heard_worked notes n h.1 e f)

-- with one more step that is a call
pub ends_called : (notes : List Noted) (n : Noted) → AreHeard notes → is_call n.step ≡ true → n.reply ≡ None
    → EndsInCall (notes ++ n ∷ [])
ends_called [] n h f e = (f, e)
ends_called (m ∷ []) n h f e = (h.0, (f, e))
ends_called (m ∷ k ∷ notes) n h f e = (h.0, ends_called (k ∷ notes) n h.1 f e)

-- with the reply to that call
pub heard_replied : (notes : List Noted) (reply : Reply) → EndsInCall notes → AreHeard (with_reply reply notes)
heard_replied [] reply h = absurd h
heard_replied (n ∷ []) reply h = (sym h.0, tt)
heard_replied (n ∷ m ∷ notes) reply h = (h.0, heard_replied (m ∷ notes) reply h.1)
