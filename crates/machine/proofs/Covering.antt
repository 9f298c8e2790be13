-- The log covers the history.
use Rattle.lock_model.specs.State.{thread_of}
use Rattle.machine.specs.Records.{as_logged}
use Rattle.std.proofs.lemmas.Simd.{map-map}
use Rattle.std.proofs.Common.{length, map, sym, ap, ◌∙◌, subst, Option, None, ℕ, ◌==◌, if◌then◌else◌}
use Rattle.lock_machine.specs.Conditions.{setup_under}
use Rattle.lock_model.specs.Came.{CameIsRows}
use Rattle.lock_machine.specs.Requests.{AskTheirKind}
use Rattle.lock_machine.specs.Whole.{settings_in}
use Rattle.lock_model.specs.Laws.{LegalOfArisen, RisingOfArisen, DatedOfArisen}
use Rattle.sequential_object.specs.Numbers.{first_world}
use Rattle.lock_model.specs.RealLaws.{RealLegalOfArisen}
use Rattle.lock_model.specs.Runs.{own}
use Rattle.sequential_object.specs.Legal.{IsLegal}
use Rattle.posix_terms.specs.declared.limits.TheConstants.Limits as limit
use Rattle.posix_terms.specs.declared.outcome.Given.{Given}
use Rattle.machine.specs.Covered.{IsCovered}
use Rattle.machine.specs.History.{AreRising, outcomes_in, clocks_in}
use Rattle.machine.specs.Kept.{IsKept}
use Rattle.machine.specs.Runs.{terms_with}
use Rattle.machine.specs.Shown.{Shown}
use Rattle.machine.proofs.Beginning.{outcomes_shown, rising_shown}
use Rattle.machine.proofs.AskedKinds.{kinds_covered}
use Rattle.machine.proofs.Clocks.{clocks_shown}

pub covered : (D : Type 0) (m : Shown D) → IsKept D m → CameIsRows → DatedOfArisen → LegalOfArisen → AskTheirKind
    → IsCovered D m
covered D m h law dated_law legal_law kinds_law =
    record {
      header = h.header;
      sound = h.sound;
      failed = h.failed;
      outcomes = λ i.
          ap (map (λ (g : Given). g.outcome)) (sym (h.came i))
          ∙ map-map (λ (g : Given). g.outcome) (as_logged m.whole.settings.version) (thread_of h.end i).came
          ∙ ap (map (λ (g : Given). g.outcome))
          (law (setup_under (terms_with m.whole (own h.end))) (length m.whole.threads) limit.OBJECTS first_world
          h.end h.ends.0 i)
          ∙ outcomes_shown i h.end.rows
          ∙ ap (outcomes_in i) h.ends.1.rows;
      clocks = λ i.
          let setup = setup_under (terms_with m.whole (own h.end)) in
          let version = m.whole.settings.version in
          let clock : Given → Option ℕ = λ g. if version == 2 then g.clock else None in
          ap (map (λ (g : Given). g.clock)) (sym (h.came i))
          ∙ map-map (λ (g : Given). g.clock) (as_logged version) (thread_of h.end i).came
          ∙ ap (map clock) (law setup (length m.whole.threads) limit.OBJECTS first_world h.end h.ends.0 i)
          ∙ clocks_shown version i h.end.rows
          (dated_law setup (length m.whole.threads) limit.OBJECTS first_world h.end h.ends.0)
          ∙ ap (clocks_in version i) h.ends.1.rows;
      kinds = kinds_covered D m h law legal_law kinds_law;
    }

pub legal : (D : Type 0) (m : Shown D) → IsKept D m → RealLegalOfArisen → IsLegal (settings_in m.whole) m.whole.rows
legal D m h law = subst (IsLegal (settings_in m.whole)) h.ends.1.rows
    (law (settings_in m.whole) (own h.end) (length m.whole.threads) h.end h.ends.0)

pub rises : (D : Type 0) (m : Shown D) → IsKept D m → RisingOfArisen → AreRising m.whole.rows
rises D m h law =
    subst AreRising h.ends.1.rows (rising_shown h.end.rows
    (law (setup_under (terms_with m.whole (own h.end))) (length m.whole.threads) limit.OBJECTS first_world h.end
    h.ends.0))
