-- What is true of each machine stays so by an event.
use Rattle.posix_terms.specs.declared.transcript.Settings.{Settings}
use Rattle.input_log.specs.Headers.{header_for}
use Rattle.machine.specs.Records.{as_logged}
use Rattle.std.proofs.Common.{◌≡◌, ℕ, length, List, Option, Some, Bool, true, false, sym, refl, ap, ap₂, ◌∙◌}
use Rattle.std.proofs.Common.{subst, map}
use Rattle.std.proofs.lemmas.Bool.{false≢true, true≢false}
use Rattle.lock_machine.specs.Refusals.{goes_outside, phase_at}
use Rattle.lock_machine.specs.Conditions.{start_under}
use Rattle.lock_machine.specs.Whole.{Whole, settings_in}
use Rattle.lock_machine.specs.declared.thread.Phase.{Phase}
use Rattle.lock_machine.specs.declared.thread.Phase.TheVariants as phase
use Rattle.lock_model.specs.Came.{CameOutside}
use Rattle.lock_model.specs.Events.{thread_in}
use Rattle.lock_model.specs.Laws.{ArisesByEvent}
use Rattle.lock_model.specs.Machine.{Event, happens}
use Rattle.lock_model.specs.Machine.Event.{Advances, Attempts}
use Rattle.lock_model.specs.State.{Job, State, thread_of}
use Rattle.lock_model.specs.State.Phase.{Outside}
use Rattle.machine.specs.DoorsThere.{Claim, DoorsThere, claim_in, claims_in}
use Rattle.machine.specs.DoorsThere.Stage.{Out}
use Rattle.machine.specs.Kept.{IsKept, header_of}
use Rattle.machine.specs.Runs.{Coming, IsEnd, setup_with, supply_with, terms_with}
use Rattle.machine.specs.Shown.{Shown}
use Rattle.machine.proofs.ClaimsShown.{claim_of, claims_shown, home_inside, is_home}
use Rattle.machine.proofs.Ending.{IsMade, Leads, ends_at}

-- ## Events in which nothing comes

-- whichever run leads to the machine
abbrev pub IsQuiet : Event → Whole → Type 0
IsQuiet e w = (s : State) → IsEnd w s → (k : ℕ) → e ≡ Advances k → (job : Job) → (thread_of s k).phase ≡ Outside job → ⊥

abbrev is_attempt : Event → Bool
is_attempt (Advances i) = false
is_attempt (Attempts i) = true

pub attempt_quiet : (i : ℕ) (w : Whole) → IsQuiet (Attempts i) w
attempt_quiet i w s h k is job out = true≢false (ap is_attempt is)

inside_quiet : (i : ℕ) (w : Whole) → ((c : Claim) → claims_in w i ≡ Some c → c.stage ≡ Out → ⊥) → IsQuiet (Advances i) w
inside_quiet i w inside s h k is job out =
    let here : (thread_of s i).phase ≡ Outside job = subst (λ (n : ℕ). (thread_of s n).phase ≡ Outside job)
    (sym (ap thread_in is)) out in
    inside _ (claims_shown w s i h ∙ ap claim_of here) refl

pub home_quiet : (i : ℕ) (w : Whole) → is_home (claims_in w i) ≡ true → IsQuiet (Advances i) w
home_quiet i w home = inside_quiet i w (λ c has out. home_inside (claims_in w i) c home has out)

pub going_quiet : (i : ℕ) (w : Whole) → goes_outside (phase_at w i) ≡ true → IsQuiet (Advances i) w
going_quiet i w goes = inside_quiet i w (by_phase (phase_at w i) goes)
  where
    by_phase : (p : Phase) → goes_outside p ≡ true → (c : Claim) → claim_in w.rows p ≡ Some c → c.stage ≡ Out → ⊥
    by_phase (phase.ToOutside o) is c has out = cc
    by_phase p is c has out = false≢true is

-- ## The header

-- as many threads with the same settings have the same header
pub header_stays : (old new : Whole) → length new.threads ≡ length old.threads → settings_in new ≡ settings_in old
    → header_of new ≡ header_of old
header_stays old new count same = ap₂ header_for same count

-- ## The event

-- a machine that made an event in which nothing came; its doors may be others
pub kept_quietly : (D : Type 0) (m : Shown D) (w : Whole) (doors : List (Option D)) (c : Coming) (e : Event)
    → ArisesByEvent → CameOutside → (h : IsKept D m) → length w.threads ≡ length m.whole.threads
    → settings_in w ≡ settings_in m.whole → IsMade c e m.whole w → IsQuiet e m.whole → length doors ≡ length m.doors
    → (Leads m.whole w c e h.end → DoorsThere D w doors)
    → IsKept D (record m { whole = w; doors = doors })
kept_quietly D m w doors c e arises outside h count settings made quiet same_doors there =
    let s = h.end in
    let setup = setup_with m.whole c s in
    let z = happens setup e s in
    let behind = ends_at m.whole w (supply_with c s) z count
    (arises setup (start_under (terms_with m.whole (supply_with c s))) s e h.ends.0) (made s h.ends).1 in
    record {
      end = z;
      ends = behind;
      header = h.header ∙ sym (header_stays m.whole w count settings);
      sound = h.sound;
      came = λ i.
          ap (map (as_logged w.settings.version)) (outside setup s e i (quiet s h.ends i))
          ∙ ap (λ (y : Settings). map (as_logged y.version) (thread_of s i).came) settings
          ∙ h.came i;
      unclosed = h.unclosed;
      failed = h.failed;
      strayed = h.strayed;
      doors = same_doors ∙ h.doors;
      there = there (record { before = h.ends; allowed = (made s h.ends).0; after = behind });
    }
