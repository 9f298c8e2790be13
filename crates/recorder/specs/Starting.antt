-- Believed: a contract of the headline stands on it.
-- Which runs are started, and what they are given back that are not.
use Rattle.std.specs.Prelude.{◌≡◌, ◌⊎◌, ℕ, ◌&&◌, ◌==◌, nat_lt, if◌then◌else◌, List}
use Rattle.std.specs.Prelude.{Option, Some, None}
use Rattle.input_log.specs.Format.{header_text}
use Rattle.machine.specs.Starting.{are_settings, header_for}
use Rattle.posix_terms.specs.declared.limits.TheConstants.Limits as limit
use Rattle.posix_terms.specs.declared.transcript.Settings.{Settings}
use Rattle.recorder.specs.declared.ended.StartFault.{StartFault}
use Rattle.recorder.specs.declared.ended.StartFault.TheVariants as fault

-- why so many actors with so many outsides are not started, memory aside
abbrev pub refusal : ℕ → ℕ → Settings → Option StartFault
refusal actors outsides settings =
    if actors == 0 then Some fault.NoThreads
    else if nat_lt limit.THREADS actors then Some fault.TooManyThreads
    else if outsides == actors && are_settings settings then None
    else Some fault.Settings

-- why no run was started of so many actors with so many outsides; it may be for lack of memory
abbrev pub IsRefusal : StartFault → ℕ → ℕ → Settings → Type 0
IsRefusal f actors outsides settings =
    (refusal actors outsides settings ≡ Some f)
    ⊎ ((refusal actors outsides settings ≡ None) × (f ≡ fault.Memory))

-- the sink as it was; or, where there was no memory, with the header
abbrev pub IsBack : {S : Type 0} → (S → List ℕ) → (S → ℕ)
    → StartFault → ℕ → Settings → S → S → Type 0
IsBack taken failures f actors settings sink back =
    let text = header_text (header_for settings actors) in
    (back ≡ sink) ⊎ ((f ≡ fault.Memory) × (taken back ≡ text) × (failures back ≡ 0))
