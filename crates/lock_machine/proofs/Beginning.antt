-- A machine at its start.
use Rattle.std.proofs.Common.{◌≡◌, ℕ, ◌<◌, ◌≤◌, [], replicate, get_or, sym, refl, ◌∙◌, subst, ⊎_elim, lit≤}
use Rattle.std.proofs.lemmas.Bool.{cases_lt}
use Rattle.std.proofs.lemmas.List.{get_or-replicate, get_or_past, length-replicate}
use Rattle.det_mutex.specs.Attempt.{new_lock}
use Rattle.posix_terms.specs.declared.limits.TheConstants.Limits as limit
use Rattle.lock_model.specs.State as lock
use Rattle.lock_model.specs.State.{nobody}
use Rattle.lock_model.specs.State.Phase.{Working}
use Rattle.sequential_object.specs.Numbers.{first_world}
use Rattle.call_turns.specs.Store.{Stands, first_stored}
use Rattle.lock_machine.specs.Conditions.{Conditions}
use Rattle.lock_machine.specs.Shows.{ThreadShows}
use Rattle.lock_machine.specs.Starting.{ShowsAtStart, first_thread}
use Rattle.lock_machine.specs.Views.{no_thread}
use Rattle.lock_machine.proofs.ShownThreads.{thread_along}

-- past the last thread there is none
past_last : {A : Type 0} (n k : ℕ) (x d : A) → n ≤ k → get_or (replicate n x) k d ≡ d
past_last n k x d h = get_or_past (replicate n x) k d (subst (λ (m : ℕ). m ≤ k) (sym (length-replicate n x)) h)

abbrev new_thread : lock.Thread
new_thread = record { phase = Working; clock = 1; asked = []; replies = []; came = [] }

shown_first : (terms : Conditions) (k : ℕ) → ThreadShows terms k [] first_thread new_thread
shown_first terms k = record { clock = refl; in_time = lit≤ tt; asked = refl; came = refl; phase = refl }

shown_past : (terms : Conditions) (k : ℕ) → ThreadShows terms k [] no_thread nobody
shown_past terms k = record { clock = refl; in_time = lit≤ tt; asked = refl; came = refl; phase = refl }

first_threads : (terms : Conditions) (n k : ℕ)
    → ThreadShows terms k [] (get_or (replicate n first_thread) k no_thread) (get_or (replicate n new_thread) k nobody)
first_threads terms n k =
    ⊎_elim
    (λ (l : k < n). thread_along terms k k [] (get_or (replicate n first_thread) k no_thread) first_thread
    (get_or (replicate n new_thread) k nobody) new_thread refl (get_or-replicate n k first_thread no_thread l)
    (get_or-replicate n k new_thread nobody l) (shown_first terms k))
    (λ (l : n ≤ k). thread_along terms k k [] (get_or (replicate n first_thread) k no_thread) no_thread
    (get_or (replicate n new_thread) k nobody) nobody refl (past_last n k first_thread no_thread l)
    (past_last n k new_thread nobody l) (shown_past terms k))
    (cases_lt k n)

pub shows_at_start : Stands first_stored first_world → ShowsAtStart
shows_at_start stands terms =
    record {
      settings = refl;
      count = length-replicate terms.threads new_thread ∙ sym (length-replicate terms.threads first_thread);
      threads = first_threads terms terms.threads;
      table = refl;
      objects = refl;
      object_count = length-replicate limit.OBJECTS new_lock;
      world = stands;
      rows = refl;
    }
