-- Believed: a contract of the headline stands on it.
-- A machine at its start.
use Rattle.input_log.specs.Grammar.{is_version}
use Rattle.std.specs.Prelude.{ℕ, Bool, ◌&&◌, nat_le, replicate, None}
use Rattle.input_log.specs.Writing.{begun}
use Rattle.lock_machine.specs.Starting.{first_whole}
use Rattle.posix_terms.specs.declared.limits.TheConstants.Limits as limit
use Rattle.posix_terms.specs.declared.transcript.Settings.{Settings}
use Rattle.machine.specs.Shown.{Shown}
pub use Rattle.input_log.specs.Headers.{header_for}

-- patience and door cost are within their limits, and there is such a version of the log
abbrev pub are_settings : Settings → Bool
are_settings s =
    nat_le 1 s.patience && nat_le s.patience limit.PATIENCE
    && (nat_le 1 s.door_cost && nat_le s.door_cost limit.DOOR_COST) && is_version s.version

-- nothing was asked, and there is no door
abbrev pub first_shown : {D : Type 0} → Settings → ℕ → Shown D
first_shown settings threads =
    record {
      whole = first_whole settings threads;
      log = begun (header_for settings threads);
      doors = replicate limit.OBJECTS None;
      stop = None;
    }
