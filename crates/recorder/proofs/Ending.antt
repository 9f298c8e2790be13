-- What is told of a run at its end.
use Rattle.std.proofs.Common.{◌≡◌, ◌⊎◌, inl, inr, ℕ, ◌≤◌, Bool, true, false, ◌&&◌, if◌then◌else◌, List, [], ◌++◌}
use Rattle.std.proofs.Common.{length, take, slice_index_or, Option, Some, None, is_some, is_none, sym, ◌∙◌, refl, ap}
use Rattle.std.proofs.Common.{arith}
use Rattle.std.specs.Prelude.{◌↔◌, IsTrue}
use Rattle.std.proofs.lemmas.Bool.{false≢true}
use Rattle.std.proofs.lemmas.List.{append-nil, length-append, length-take}
use Rattle.std.proofs.lemmas.Option.{none-some}
use Rattle.input_log.specs.Format.{end_text, header_text, text_of}
use Rattle.input_log.specs.Writing.{HasTaken, TakesPart, Writing, log_of}
use Rattle.input_log.specs.declared.log.Header.{Header}
use Rattle.machine.specs.Finishing.{FinishesBy, have_ended}
use Rattle.machine.specs.Kept.{StopsFor, header_of, is_sink, is_strayed}
use Rattle.machine.specs.Shown.{Shown}
use Rattle.machine.specs.declared.stop.Stop.{Stop}
use Rattle.machine.specs.declared.stop.Stop.TheVariants as stop
use Rattle.posix_terms.specs.declared.transcript.HistoryRow.{HistoryRow}
use Rattle.posix_terms.specs.declared.transcript.Row.{Row}
use Rattle.posix_terms.specs.declared.transcript.Settings.{Settings}
use Rattle.worker_notes.specs.declared.own.Own.{Own}
use Rattle.worker_notes.specs.Agrees.{Agree}
use Rattle.recorder.specs.Recorded.{AreBeginnings, AreTold, Fits, IsOver, IsRecorded, IsRun, IsWhole, IsWhy, Past}
use Rattle.recorder.specs.Recorded.{Shows, its_own, no_memory, strayed, transcripts_of}

-- why a run stopped, for one whose notes agree or do not, and which saw all or not
abbrev pub judged : Bool → Bool → Option Stop → Option Stop
judged agrees whole stopped = if agrees then (if whole then stopped else Some stop.Memory) else Some stop.Strayed

is_there : {A : Type 0} (o p : Option A) → o ≡ p → is_some p ≡ true → is_some o ≡ true
is_there o p e f = ap is_some e ∙ f

not_none : {A : Type 0} (o : Option A) → is_some o ≡ true → o ≡ None → ⊥
not_none o e f = false≢true (sym (ap is_some f) ∙ e)

-- a machine that was stopped before stays so
still_stopped : (ended : Bool) (log : Writing) (before : Option Stop) (taken : List ℕ) (failures : ℕ)
    (stopped : Option Stop) → FinishesBy (is_none before && ended) log before taken failures stopped
    → is_some before ≡ true → is_some stopped ≡ true
still_stopped ended log None taken failures stopped h e = absurd (false≢true e)
still_stopped ended log (Some s) taken failures stopped h e = is_there stopped (Some s) h.0 refl

-- and so is what is told
told_stopped : {D : Type 0} (m : Shown D) (past : Past) (taken : List ℕ) (failures : ℕ) (stopped : Option Stop)
    (agrees whole complete : Bool) → Shows D m past taken failures stopped → (complete ≡ false → is_some m.stop ≡ true)
    → complete ≡ false → is_some (judged agrees whole stopped) ≡ true
told_stopped m past taken failures stopped false whole complete h f e = refl
told_stopped m past taken failures stopped true false complete h f e = refl
told_stopped m past taken failures stopped true true complete h f e =
    still_stopped (have_ended m.whole.threads) m.log m.stop taken failures stopped h.finishes (f e)

-- where nothing stopped it, it was complete
pub told_complete : {D : Type 0} (m : Shown D) (past : Past) (taken : List ℕ) (failures : ℕ) (stopped : Option Stop)
    (agrees whole complete : Bool) → Shows D m past taken failures stopped → (complete ≡ false → is_some m.stop ≡ true)
    → judged agrees whole stopped ≡ None → complete ≡ true
told_complete m past taken failures stopped agrees whole true h f e = refl
told_complete m past taken failures stopped agrees whole false h f e =
    absurd (not_none (judged agrees whole stopped)
    (told_stopped m past taken failures stopped agrees whole false h f refl) e)

-- and its log has its end
ends_log : (ended : Bool) (log : Writing) (before : Option Stop) (taken : List ℕ) (failures : ℕ) (stopped : Option Stop)
    → FinishesBy (is_none before && ended) log before taken failures stopped → stopped ≡ None → ended ≡ true
    → taken ≡ log.taken ++ end_text (length log.records)
ends_log false log before taken failures stopped h e f = absurd (false≢true f)
ends_log true log (Some s) taken failures stopped h e f = absurd (none-some s (sym e ∙ h.0))
ends_log true log None taken failures stopped (inl h) e f = h.1
ends_log true log None taken failures stopped (inr h) e f = absurd (none-some stop.Sink (sym e ∙ h.0))

-- and what is told is why it stopped; where what was seen is not whole, the machine was stopped
is_why : (fits whole : Type 0) (agrees all : Bool) (stopped : Option Stop) → (IsTrue agrees ↔ fits)
    → (IsTrue all ↔ whole)
    → (all ≡ false → is_some stopped ≡ true) → IsWhy fits whole stopped (judged agrees all stopped)
is_why fits whole false all stopped f w g = strayed (λ yes. false≢true (f.1 yes)) refl
is_why fits whole true false stopped f w g = no_memory (f.0 refl) (λ yes. false≢true (w.1 yes)) (g refl) refl
is_why fits whole true true stopped f w g = its_own (f.0 refl) (w.0 refl) refl

over_told : {D : Type 0} (m : Shown D) (past : Past) (taken : List ℕ) (failures : ℕ) (stopped : Option Stop)
    (agrees all complete : Bool) → Shows D m past taken failures stopped → (complete ≡ false → is_some m.stop ≡ true)
    → (complete ≡ true → have_ended m.whole.threads ≡ true) → judged agrees all stopped ≡ None → IsOver D m taken
over_told m past taken failures stopped false all complete h g k none = absurd (none-some stop.Strayed (sym none))
over_told m past taken failures stopped true false complete h g k none = absurd (none-some stop.Memory (sym none))
over_told m past taken failures stopped true true complete h g k none =
    let ended = k (told_complete m past taken failures stopped true true complete h g none) in record {
      ended = ended;
      end = ends_log (have_ended m.whole.threads) m.log m.stop taken failures stopped h.finishes none ended;
    }

-- what lacks something is not complete
lacks : (all complete : Bool) → (complete ≡ true → all ≡ true) → all ≡ false → complete ≡ false
lacks all false h e = refl
lacks all true h e = absurd (false≢true (sym e ∙ h refl))

pub run_told : {D : Type 0} (header found : Header) (m : Shown D) (past : Past) (own : List Own)
    (seen : List (List Row))
    (taken : List ℕ) (failures : ℕ) (stopped : Option Stop) (agrees all complete : Bool)
    → Shows D m past taken failures stopped
    → found ≡ header_of m.whole → (IsTrue agrees ↔ ((found ≡ header) × Agree past.rows past.asked own))
    → (IsTrue all ↔ IsWhole header.threads past.rows seen) → (complete ≡ true → all ≡ true)
    → (complete ≡ false → is_some m.stop ≡ true) → (complete ≡ true → have_ended m.whole.threads ≡ true)
    → IsRun D header past own seen taken failures (judged agrees all stopped)
run_told header found m past own seen taken failures stopped agrees all complete h e f w v g k = record {
  machine = m;
  stopped = stopped;
  shows = h;
  why = is_why (Fits header m past own) (IsWhole header.threads past.rows seen) agrees all stopped
      (λ yes. (sym e ∙ (f.0 yes).0, (f.0 yes).1), λ fits. f.1 (e ∙ fits.0, fits.1)) w
      (λ no. still_stopped (have_ended m.whole.threads) m.log m.stop taken failures stopped h.finishes
      (g (lacks all complete v no)));
  over = over_told m past taken failures stopped agrees all complete h g k;
}

-- the notes agree, unless the threads strayed
pub agree_told : (P : Type 0) (stopped : Option Stop) (agrees all : Bool) → (agrees ≡ true → P)
    → (judged agrees all stopped ≡ Some stop.Strayed) ⊎ P
agree_told P stopped false all h = inl refl
agree_told P stopped true all h = inr (h refl)

-- what was seen is whole, unless there was no memory for it
seen_whole : (whole : Type 0) (stopped : Option Stop) (agrees all : Bool) → (all ≡ true → whole) → whole
    ⊎ (judged agrees all stopped ≡ Some stop.Memory) ⊎ (judged agrees all stopped ≡ Some stop.Strayed)
seen_whole whole stopped false all h = inr (inr refl)
seen_whole whole stopped true false h = inr (inl refl)
seen_whole whole stopped true true h = inl (h refl)

pub are_told : (threads : ℕ) (rows : List HistoryRow) (seen : List (List Row)) (stopped : Option Stop)
    (agrees all : Bool) → AreBeginnings seen (transcripts_of threads rows) → (IsTrue all ↔ IsWhole threads rows seen)
    → AreTold threads rows (judged agrees all stopped) seen
are_told threads rows seen stopped agrees all begin w = record {
  begin = begin;
  whole = seen_whole (IsWhole threads rows seen) stopped agrees all w.0;
}

-- what is whole is a beginning too
pub begins_whole : (seen whole : List (List Row)) → seen ≡ whole → AreBeginnings seen whole
begins_whole seen whole e = record {
  count = ap length e;
  each = λ i. ([], append-nil (slice_index_or seen i []) ∙ ap (λ xs. slice_index_or xs i []) e);
}

pub whole_told : (threads : ℕ) (rows : List HistoryRow) (told : Option Stop) (seen : List (List Row))
    → seen ≡ transcripts_of threads rows → AreTold threads rows told seen
whole_told threads rows told seen e =
    record { begin = begins_whole seen (transcripts_of threads rows) e; whole = inl e }

-- ## The cause of `Sink`

not_strayed : Some stop.Sink ≡ Some stop.Strayed → ⊥
not_strayed e = false≢true (ap is_strayed e)

not_memory : Some stop.Sink ≡ Some stop.Memory → ⊥
not_memory e = false≢true (sym (ap is_sink e))

told_sink : (P Q : Type 0) (failures : ℕ) (stopped told : Option Stop) → IsWhy P Q stopped told
    → StopsFor failures stopped → told ≡ Some stop.Sink → failures ≡ 1
told_sink P Q failures stopped told (its_own fits whole same) cause e = rw (sym same ∙ e) at cause.sink
told_sink P Q failures stopped told (no_memory fits lacks some same) cause e = absurd (not_memory (sym e ∙ same))
told_sink P Q failures stopped told (strayed not same) cause e = absurd (not_strayed (sym e ∙ same))

-- it is told only where the sink failed
pub sink_failed : (D : Type 0) (settings : Settings) (threads : ℕ) (past : Past) (own : List Own)
    (seen : List (List Row)) (taken : List ℕ) (failures : ℕ) (told : Option Stop)
    → IsRecorded D settings threads past own seen taken failures told → told ≡ Some stop.Sink → failures ≡ 1
sink_failed D settings threads past own seen taken failures told (inl run) e =
    told_sink _ _ failures run.stopped told run.why run.shows.cause e
sink_failed D settings threads past own seen taken failures told (inr none) e = none.failed

-- ## The header of the log

grown : (all : Bool) (log : Writing) (before : Option Stop) (taken : List ℕ) (failures : ℕ) (stopped : Option Stop)
    → FinishesBy all log before taken failures stopped → length log.taken ≤ length taken
grown false log before taken failures stopped h = let e = ap length h.1 in omega (arith, e)
grown true log before taken failures stopped (inl h) =
    let e = ap length h.1 ∙ length-append log.taken (end_text (length log.records)) in omega (arith, e)
grown true log before taken failures stopped (inr h) = let part = h.1 in
    let e = ap length part.2 ∙ length-append log.taken (take part.0 (end_text (length log.records))) in omega (arith, e)

begun : (h : Header) (rest : List ℕ) → 16 ≤ length (header_text h ++ rest)
begun h rest = let e = length-append (header_text h) rest in omega (arith, e)

sound_begun : (log : Writing) (failed : Bool) → HasTaken failed log → 16 ≤ length log.taken
sound_begun log false h = rw h.1 (begun log.header _)
sound_begun log true (failures, closed, (item, follows, (count, less, same))) =
    let text : 16 ≤ length (text_of (log_of log)) = begun log.header _ in
    let e = ap length same ∙ length-append (text_of (log_of log)) (take count item) in
    omega (arith, text, e)

-- where there was a machine the sink took the whole header
pub not_cut : {D : Type 0} (header other : Header) (past : Past) (own : List Own) (seen : List (List Row))
    (taken : List ℕ) (failures : ℕ) (told : Option Stop)
    → IsRun D header past own seen taken failures told → TakesPart [] (header_text other) taken → ⊥
not_cut header other past own seen taken failures told run part =
    let m = run.machine in
    let shows = run.shows in
    let faithful = shows.faithful in
    let covered = faithful.covered in
    let sound = covered.sound in
    let long : 16 ≤ length m.log.taken = sound_begun m.log m.log.failed sound.bytes in
    let more = grown _ m.log m.stop taken failures run.stopped shows.finishes in
    let short : length taken ≡ length (take part.0 (header_text other)) = ap length part.2 in
    let least = length-take part.0 (header_text other) in
    omega (arith, long, more, short, least, part.1)
