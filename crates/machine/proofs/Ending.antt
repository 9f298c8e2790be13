-- The runs that lead to a machine, whatever comes next.
use Rattle.std.proofs.Common.{◌≡◌, ℕ, length, List, Option, Some, None, true, false, sym, refl, subst}
use Rattle.lock_machine.specs.Conditions.{setup_under, start_under}
use Rattle.lock_machine.specs.Shows.{AdvancesQuietly, AsksFor, Attempts as TriesLock, IsGranted, IsOut, MayAdvance}
use Rattle.lock_machine.specs.Shows.{MayAsk, PhaseShows, Shows, StandsAt, Tells}
use Rattle.lock_machine.specs.Threads.{Thread}
use Rattle.lock_machine.specs.Whole.{Whole, settings_in, thread_at}
use Rattle.lock_machine.specs.declared.thread.Outing.{Outing}
use Rattle.lock_machine.specs.declared.thread.Phase.{Phase}
use Rattle.lock_machine.specs.declared.thread.Phase.TheVariants as phase
use Rattle.lock_model.specs.Laws.{ArisesByEvent}
use Rattle.lock_model.specs.Machine.{Event, happens, is_allowed}
use Rattle.lock_model.specs.Machine.Event.{Advances, Attempts}
use Rattle.lock_model.specs.Programs.{Supply}
use Rattle.lock_model.specs.RealLaws.{real_start}
use Rattle.lock_model.specs.Runs.{Arises, own}
use Rattle.lock_model.specs.State as lock
use Rattle.lock_model.specs.State.{Job, Row, State, thread_of}
use Rattle.sequential_object.specs.declared.turn_end.TurnEnd.{TurnEnd}
use Rattle.posix_terms.specs.declared.transcript.Settings.{Settings}
use Rattle.posix_terms.specs.declared.step.Step.{Step}
use Rattle.machine.specs.Runs.{Coming, Grows, IsEnd, IsForbidden, IsPermitted, setup_with, supply_with}
use Rattle.machine.specs.Runs.{terms_with}
use Rattle.machine.specs.Events as machine
use Rattle.machine.specs.Runs.Coming.{Asks, Nothing}
use Rattle.posix_terms.specs.declared.reply.Answer.{Answer}

-- ## What a machine shows is by its settings alone

granted_with : (settings : Settings) (n m : ℕ) (p q : Supply) (i : ℕ) (rows : List Row) (place : ℕ) (object : Option ℕ)
    (ends : TurnEnd) (job : Job) → IsGranted (record { threads = n; settings = settings; supply = p }) i rows place
    object ends job
    → IsGranted (record { threads = m; settings = settings; supply = q }) i rows place object ends job
granted_with settings n m p q i rows place object ends job h =
    record { plan = h.plan; in_range = h.in_range; thread = h.thread; answers = h.answers; row = h.row }

out_with : (settings : Settings) (n m : ℕ) (p q : Supply) (i : ℕ) (rows : List Row) (o : Outing) (job : Job)
    → IsOut (record { threads = n; settings = settings; supply = p }) i rows o job
    → IsOut (record { threads = m; settings = settings; supply = q }) i rows o job
out_with settings n m p q i rows o job h =
    record {
      object = h.object;
      object_is = h.object_is;
      in_range = h.in_range;
      plan = h.plan;
      thread = h.thread;
      carried = h.carried;
      asks_is = h.asks_is;
      door = h.door;
      waits = h.waits;
      keeps = h.keeps;
      ends = h.ends;
      row = h.row;
    }

phase_with : (settings : Settings) (n m : ℕ) (p q : Supply) (i : ℕ) (rows : List Row) (t : Thread) (u : lock.Thread)
    (x : Phase) → PhaseShows (record { threads = n; settings = settings; supply = p }) i rows t u x
    → PhaseShows (record { threads = m; settings = settings; supply = q }) i rows t u x
phase_with settings n m p q i rows t u phase.Working h = h
phase_with settings n m p q i rows t u (phase.WantsTable call carried) h = h
phase_with settings n m p q i rows t u (phase.WantsObject call carried clock object) h = h
phase_with settings n m p q i rows t u (phase.Granted place object ends) h =
    (h.0, (h.1.0, granted_with settings n m p q i rows place object ends h.0 h.1.1))
phase_with settings n m p q i rows t u (phase.ToOutside o) h =
    (h.0, (h.1.0, out_with settings n m p q i rows o h.0 h.1.1))
phase_with settings n m p q i rows t u (phase.Outside o) h =
    (h.0, (h.1.0, out_with settings n m p q i rows o h.0 h.1.1, h.1.2))
phase_with settings n m p q i rows t u (phase.Recorded o) h =
    (h.0, (h.1.0, out_with settings n m p q i rows o h.0 h.1.1))
phase_with settings n m p q i rows t u (phase.Blocked carried) h = h
phase_with settings n m p q i rows t u phase.Ended h = h

pub shows_with : (settings : Settings) (n m : ℕ) (p q : Supply) (w : Whole) (s : State)
    → Shows (record { threads = n; settings = settings; supply = p }) w s
    → Shows (record { threads = m; settings = settings; supply = q }) w s
shows_with settings n m p q w s h =
    record {
      settings = h.settings;
      count = h.count;
      threads = λ k. let t = h.threads k in
          record {
            clock = t.clock;
            in_time = t.in_time;
            asked = t.asked;
            came = t.came;
            phase = phase_with settings n m p q k s.rows (thread_at w k) (thread_of s k) (thread_at w k).phase t.phase;
          };
      table = h.table;
      objects = h.objects;
      object_count = h.object_count;
      world = h.world;
      rows = h.rows;
    }

-- a run that leads to the machine does so whatever comes next
pub stands_with : (w : Whole) (s : State) (supply : Supply) → IsEnd w s → StandsAt w (terms_with w supply) s
stands_with w s supply h = (
  h.0,
  shows_with (settings_in w) (length w.threads) (length w.threads) (own s) supply w s
      h.1,
)

-- ## Growing

-- a machine that shows a state which arises, by the settings and the number of threads that it has itself
pub ends_at : (old new : Whole) (supply : Supply) (s : State) → length new.threads ≡ length old.threads
    → Arises (setup_under (terms_with old supply)) (start_under (terms_with old supply)) s
    → Shows (terms_with old supply) new s → IsEnd new s
ends_at old new supply s count arises shows =
    let same : settings_in old ≡ settings_in new = shows.settings in
    let P : ℕ → Type 0 = λ n. Arises (setup_under (record { threads = n; settings = settings_in old; supply = own s }))
    (real_start n) s in
    let there = subst P (sym count) arises in
    let Q : Settings → Type 0 = λ x. StandsAt new
    (record { threads = length new.threads; settings = x; supply = own s }) s in
    subst Q same (
      there,
      shows_with (settings_in old) (length old.threads) (length new.threads) supply (own s) new s
          shows,
    )

-- the event is made from whatever state the old machine shows
abbrev pub IsMade : Coming → Event → Whole → Whole → Type 0
IsMade c e old new = (s : State) → IsEnd old s → (is_allowed (setup_with old c s) e s ≡ true)
    × Shows (terms_with old (supply_with c s)) new (happens (setup_with old c s) e s)

pub grown : ArisesByEvent → (c : Coming) (e : Event) (old new : Whole) → length new.threads ≡ length old.threads
    → IsMade c e old new → Grows c e old new
grown law c e old new count made s h =
    let m = made s h in
    let arises = law (setup_with old c s) (start_under (terms_with old (supply_with c s))) s e h.0 in
    (m.0, ends_at old new (supply_with c s) (happens (setup_with old c s) e s) count arises m.1)

-- the end of a run that led to the old machine leads by this event to that of one that leads to the new machine
pub record Leads (old new : Whole) (c : Coming) (e : Event) (s : State) : Type 0 where
  pub before : IsEnd old s
  pub allowed : is_allowed (setup_with old c s) e s ≡ true
  pub after : IsEnd new (happens (setup_with old c s) e s)

-- ## Asking

pub ask_made : (i : ℕ) (x : Step) (old new : Whole) → AsksFor true i x old new → IsMade (Asks x) (Advances i) old new
ask_made i x old new h s at =
    let q = h (terms_with old (supply_with (Asks x) s)) s (stands_with old s (supply_with (Asks x) s) at) refl in
    (q.can, q.shows)

pub ask_forbidden : (i : ℕ) (x : Step) (old new : Whole) → AsksFor false i x old new
    → IsForbidden (Asks x) (Advances i) old
ask_forbidden i x old new h s at =
    (h (terms_with old (supply_with (Asks x) s)) s (stands_with old s (supply_with (Asks x) s) at) refl).can

pub ask_permitted : (i : ℕ) (x : Step) (old : Whole) → MayAsk i x old → IsPermitted (Asks x) (Advances i) old
ask_permitted i x old h s at =
    h (terms_with old (supply_with (Asks x) s)) s (stands_with old s (supply_with (Asks x) s) at) refl

-- ## Events in which nothing comes

pub quiet_made : (i : ℕ) (old new : Whole) → AdvancesQuietly true i old new → IsMade Nothing (Advances i) old new
quiet_made i old new h s at = let q = h (terms_with old (own s)) s at in (q.can, q.shows)

pub quiet_forbidden : (i : ℕ) (old new : Whole) → AdvancesQuietly false i old new → IsForbidden Nothing (Advances i) old
quiet_forbidden i old new h s at = (h (terms_with old (own s)) s at).can

pub quiet_permitted : (i : ℕ) (old : Whole) → MayAdvance i old → IsPermitted Nothing (Advances i) old
quiet_permitted i old h s at = h (terms_with old (own s)) s at

pub attempt_made : (i : ℕ) (old new : Whole) → TriesLock true i old new → IsMade Nothing (Attempts i) old new
attempt_made i old new h s at = let q = h (terms_with old (own s)) s at in (q.0, q.1)

pub attempt_forbidden : (i : ℕ) (old new : Whole) → TriesLock false i old new → IsForbidden Nothing (Attempts i) old
attempt_forbidden i old new h s at = (h (terms_with old (own s)) s at).0

pub answer_made : (i : ℕ) (a : Answer) (old new : Whole) → Tells (Some a) i old new
    → IsMade Nothing (Advances i) old new
answer_made i a old new h s at = let q = (h (terms_with old (own s)) s at).0 in (q.can, q.shows)

pub answer_forbidden : (i : ℕ) (old new : Whole) → Tells None i old new → IsForbidden Nothing (Advances i) old
answer_forbidden i old new h s at = (h (terms_with old (own s)) s at).0.can

pub answer_told : (i : ℕ) (a : Answer) (old new : Whole) → Tells (Some a) i old new → machine.Tells a i old
answer_told i a old new h s at = (h (terms_with old (own s)) s at).1
