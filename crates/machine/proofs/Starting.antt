-- A machine at its start.
use Rattle.machine.specs.Records.{as_logged}
use Rattle.std.proofs.Common.{◌≡◌, ℕ, zero, suc, arith, ◌<◌, ◌≤◌, [], get_or, replicate, Option, None, true, sym, refl}
use Rattle.std.proofs.Common.{ap, subst, ⊎_elim, map}
use Rattle.std.proofs.lemmas.Bool.{cases_lt}
use Rattle.std.proofs.lemmas.List.{append-nil, get_or_past, length-replicate}
use Rattle.input_log.specs.Format.{header_text}
use Rattle.input_log.specs.Grammar.{in_range}
use Rattle.input_log.specs.Writing.{IsSound, begun}
use Rattle.input_log.specs.declared.log.Header.{Header}
use Rattle.lock_machine.specs.Conditions.{Conditions, setup_under}
use Rattle.lock_machine.specs.Shows.{StandsAt}
use Rattle.lock_machine.specs.Starting.{ShowsAtStart, first_thread, first_whole}
use Rattle.lock_model.specs.Laws.{ArisesAtStart}
use Rattle.sequential_object.specs.Numbers.{first_world}
use Rattle.lock_model.specs.RealLaws.{real_start}
use Rattle.lock_model.specs.Runs.{own}
use Rattle.lock_model.specs.State as lock
use Rattle.lock_model.specs.State.{nobody}
use Rattle.lock_model.specs.State.Phase.{Working}
use Rattle.posix_terms.specs.declared.limits.TheConstants.Limits as limit
use Rattle.posix_terms.specs.declared.transcript.Settings.{Settings}
use Rattle.machine.specs.Kept.{IsKept, header_of}
use Rattle.machine.specs.Runs.{IsEnd}
use Rattle.machine.specs.Starting.{first_shown, header_for}
use Rattle.machine.proofs.DoorsKept.{first_doors}

abbrev new_thread : lock.Thread
new_thread = record { phase = Working; clock = 1; asked = []; replies = []; came = [] }

first_came : (n i : ℕ) → (let t = get_or (replicate n new_thread) i nobody in t.came) ≡ []
first_came n i =
    ⊎_elim
    (λ (l : i < n). ap (λ (t : lock.Thread). t.came) (get_replicate n i l))
    (λ (l : n ≤ i). ap (λ (t : lock.Thread). t.came)
    (get_or_past (replicate n new_thread) i nobody
    (subst (λ (m : ℕ). m ≤ i) (sym (length-replicate n new_thread)) l)))
    (cases_lt i n)
  where
    get_replicate : (n i : ℕ) → i < n → get_or (replicate n new_thread) i nobody ≡ new_thread
    get_replicate zero i l = absurd (omega arith)
    get_replicate (suc n) zero l = refl
    get_replicate (suc n) (suc i) l = get_replicate n i (omega arith)

first_header : (settings : Settings) (n : ℕ) → header_for settings n ≡ header_of (first_whole settings n)
first_header settings n = ap (header_for settings) (sym (length-replicate n first_thread))

first_ends : (settings : Settings) (n : ℕ) → ArisesAtStart → ShowsAtStart
    → IsEnd (first_whole settings n) (real_start n)
first_ends settings n arises shows =
    let terms : ℕ → Conditions = λ m. record { threads = m; settings = settings; supply = own (real_start n) } in
    let P : ℕ → Type 0 = λ m. StandsAt (first_whole settings n) (terms m) (real_start n) in
    subst P (sym (length-replicate n first_thread))
    (arises (setup_under (terms n)) n limit.OBJECTS first_world, shows (terms n))

-- a writer that has written a header and nothing else
begun_sound : (h : Header) → in_range h ≡ true → IsSound (begun h)
begun_sound h range = record {
  log = record { range = range; each_good = tt };
  bytes = (refl, sym (append-nil (header_text h)));
}

-- with the header of its threads in the log, and nothing else
pub first_kept : (D : Type 0) (settings : Settings) (n : ℕ) → ArisesAtStart → ShowsAtStart
    → in_range (header_for settings n) ≡ true → IsKept D (first_shown settings n)
first_kept D settings n arises shows range =
    record {
      end = real_start n;
      ends = first_ends settings n arises shows;
      header = first_header settings n;
      sound = begun_sound (header_for settings n) range;
      came = λ i. ap (map (as_logged settings.version)) (first_came n i);
      unclosed = refl;
      failed = refl;
      strayed = refl;
      doors = let none : Option D = None in length-replicate limit.OBJECTS none;
      there = first_doors D settings n;
    }
