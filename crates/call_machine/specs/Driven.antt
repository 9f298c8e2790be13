-- Internal: no contract of the headline or of a command stands on it.
-- The plain schedule, made by a driver.
use Rattle.std.specs.Prelude.{◌≡◌, ℕ, ◌+◌, ◌<◌, ◌≤◌, ◌||◌, length, max, Bool, true, false}
use Rattle.std.specs.Prelude.{Option, Some, None, Result, Ok, Err}
use Rattle.input_log.specs.Format.{header_text}
use Rattle.lock_model.specs.Machine.{can_advance}
use Rattle.lock_model.specs.Runs.{Arises}
use Rattle.lock_model.specs.Schedule.{IsOver}
use Rattle.lock_model.specs.State.{State}
use Rattle.lock_machine.specs.Diverging.{is_diverging}
use Rattle.lock_machine.specs.declared.refused.LockRefused.{LockRefused}
use Rattle.lock_machine.specs.declared.refused.LockRefused.TheVariants as refused
use Rattle.call_machine.specs.Logs.{LogsMore, Written, plain_records}
use Rattle.call_machine.specs.Plain.{GoesTo, header_of}
use Rattle.call_machine.specs.Setup.{Inputs, first_state, setup_of}
use Rattle.call_machine.specs.Playing.{IsPlayed, Played}
use Rattle.call_machine.specs.Weights.{Falls}
use Rattle.call_machine.specs.Diverging.{diverging}

-- the log of a run after so many events
abbrev pub first_log : Inputs → Written
first_log input = record { text = header_text (header_of input); records = 0 }

-- the log has a record for each outcome that came in so many events of the plain run
abbrev pub IsLogged : Inputs → ℕ → Written → Type 0
IsLogged input count log =
    let records = plain_records input.settings.version (setup_of input) count (first_state input) in
    LogsMore records (first_log input) log

-- so many events of the plain run lead to a state that the run shows
pub record ComesTo (input : Inputs) (p : Played) : Type 0 where
  pub state : State
  pub count : ℕ
  pub goes : GoesTo (setup_of input) (first_state input) count state
  pub arises : Arises (setup_of input) (first_state input) state
  pub plays : IsPlayed input p state
  pub log : IsLogged input count p.log

-- the plain run has come to its end, or diverges at this thread
pub record Ends (input : Inputs) (diverged : Option ℕ) (p : Played) : Type 0 where
  pub last : State
  pub count : ℕ
  pub goes : GoesTo (setup_of input) (first_state input) count last
  pub diverges : diverging (setup_of input) last ≡ diverged
  pub over : diverged ≡ None → IsOver (setup_of input) last
  pub arises : Arises (setup_of input) (first_state input) last
  pub plays : IsPlayed input p last
  pub log : IsLogged input count p.log

-- thread k can make an event without the turn, or diverges
abbrev pub stops_at : Inputs → State → ℕ → Bool
stops_at input s k = can_advance (setup_of input) s k || is_diverging (setup_of input) s k

-- the run has come to a state in which the first n threads can do neither
pub record Rests (input : Inputs) (n : ℕ) (p : Played) : Type 0 where
  pub comes : ComesTo input p
  pub still : (k : ℕ) → k < n → stops_at input comes.state k ≡ false

-- but perhaps thread i
pub record RestsBut (input : Inputs) (n i : ℕ) (p : Played) : Type 0 where
  pub comes : ComesTo input p
  pub still : (k : ℕ) → k < n → (k ≡ i → ⊥) → stops_at input comes.state k ≡ false

-- thread i has gone on as far as it can, or diverges
abbrev pub WentOn : Bool → Inputs → ℕ → ℕ → Played → Played → Type 0
WentOn false input n i old new =
    Rests input (max n (i + 1)) new
    × Falls false old.whole.threads old.players new.whole.threads new.players
WentOn true input n i old new = Ends input (Some i) new

-- wherever the threads before thread i are at rest, it goes on as far as it can, or diverges
abbrev pub GoesOn : Bool → ℕ → Played → Played → Type 0
GoesOn diverges i old new =
    (input : Inputs) (n : ℕ) → i ≤ n → RestsBut input n i old → WentOn diverges input n i old new

-- this thread made its attempt, or no event is next
abbrev pub MadeNext : Option ℕ → Inputs → ℕ → Played → Played → Type 0
MadeNext (Some i) input n old new =
    (i < n) × RestsBut input n i new
    × Falls true old.whole.threads old.players new.whole.threads new.players
MadeNext None input n old new = Ends input None new

-- where no thread can go on without the turn, the next attempt is made, or the plain run is over
abbrev pub AttemptsNext : Option ℕ → Played → Played → Type 0
AttemptsNext made old new =
    (input : Inputs) → Rests input (length old.players) old
    → MadeNext made input (length old.players) old new

-- from a run at its start
pub record Begins (input : Inputs) (p : Played) : Type 0 where
  pub plays : IsPlayed input p (first_state input)
  pub log : p.log ≡ first_log input

-- what an event of the machine gave, if it was made
abbrev pub IsTold : {A : Type 0} → Result A LockRefused → Option A → Type 0
IsTold (Ok a) o = o ≡ Some a
IsTold (Err refused.WrongPhase) o = o ≡ None
IsTold (Err refused.ClockFull) o = o ≡ None
IsTold (Err refused.Memory) o = ⊥
