-- Believed: a contract of a command stands on it.
-- The runs of scripts with the delays of many cases, and the groups of those that saw the same.
use Rattle.std.specs.Prelude.{◌≡◌, ◌≤◌, ◌<◌, ℕ, List, [], ◌∷◌, Option}
use Rattle.explorer.specs.Groups.{Joins}
use Rattle.explorer.specs.Runs.{IsFault, Sees}
use Rattle.explorer.specs.Subject.{Subject}
use Rattle.explorer.specs.Varied.{varied_texts}
use Rattle.explorer.specs.declared.fault.RunFault.{RunFault}
use Rattle.explorer.specs.declared.groups.Group.{Group}
use Rattle.explorer.specs.declared.observation.Observation.{Observation}

-- the subject with these delays, by thread and line
abbrev pub with_delays : (ℕ → ℕ → Option ℕ) → Subject → Subject
with_delays delays subject = record subject { texts = varied_texts delays 0 subject.texts }

-- the run of a case joins the groups by what is seen in it
abbrev pub CaseJoins : Subject → (ℕ → ℕ → Option ℕ) → ℕ → List Group → List Group → Type 0
CaseJoins subject delays case old new =
    (observation : Observation) × Sees (with_delays delays subject) observation
    × Joins case observation old new

-- the runs of these cases, each with its delays, join the groups one after the other
abbrev pub CasesJoin : Subject → (ℕ → ℕ → ℕ → Option ℕ) → List Group → List ℕ → List Group → Type 0
CasesJoin subject delays old [] new = new ≡ old
CasesJoin subject delays old (case ∷ cases) new =
    (joined : List Group) × CaseJoins subject (delays case) case old joined
    × CasesJoin subject delays joined cases new

-- why the run of one of these cases was not made
abbrev pub IsFaultOf : Subject → (ℕ → ℕ → ℕ → Option ℕ) → ℕ → ℕ → RunFault → Type 0
IsFaultOf subject delays start end fault =
    (case : ℕ) × (start ≤ case) × (case < end) × IsFault (with_delays (delays case) subject) fault
