-- Internal: no contract of the headline or of a command stands on it.
-- Scripts that play the threads of a machine.
use Rattle.std.specs.Prelude.{◌≡◌, ℕ, suc, List, [], ◌∷◌, ◌++◌, length, get_or, set, Option, Some}
use Rattle.std.specs.Prelude.{None, Bool, true, false}
use Rattle.posix_terms.specs.declared.outcome.Given.{Given}
use Rattle.posix_terms.specs.declared.reply.Answer as posix
use Rattle.posix_terms.specs.declared.reply.Answer.TheVariants as answer
use Rattle.posix_terms.specs.declared.reply.Reply.{Reply}
use Rattle.thread_scripts.specs.Meaning.{start_of}
use Rattle.lock_model.specs.Machine.{advance, attempt, can_advance, can_attempt, moves}
use Rattle.lock_model.specs.Runs.{Arises, calls_in}
use Rattle.thread_scripts.specs.ScriptPrograms.{at_start, reached_after}
use Rattle.lock_model.specs.State as lock
use Rattle.lock_model.specs.State.{State, thread_of}
use Rattle.lock_model.specs.State.Phase.{Ended, Working}
use Rattle.call_machine.specs.Logs.{LogsMore, Written, came_between}
use Rattle.call_machine.specs.Setup.{Inputs, conditions_of, first_state, script_of, setup_of}
use Rattle.lock_machine.specs.Shows.{Shows, has_moved, has_diverged}
use Rattle.lock_machine.specs.Whole.{Whole}
use Rattle.lock_machine.specs.Diverging.{is_diverging}
use Rattle.call_machine.specs.Weights.{Falls}
use Rattle.call_machine.specs.declared.driver.Driver.{Driver}
use Rattle.lock_machine.specs.declared.outside.Progress.{Progress}
use Rattle.call_machine.specs.declared.players.Player.{Player}

-- a run with the scripts that play its threads, and the outcomes that come for each
pub record Played : Type 0 where
  pub whole : Whole
  pub players : List Player
  pub outcomes : List (List Given)
  pub log : Written

-- the run that a driver has
abbrev pub played_of : Driver → Played
played_of d = record {
  whole = d.machine;
  players = d.players.items;
  outcomes = d.outcomes.items;
  log = d.log;
}

-- past the last thread
abbrev pub no_player : Player
no_player = record { actor = start_of []; last = None; stuck = false }

-- the script of thread k, where it stands
abbrev pub player_at : Played → ℕ → Player
player_at p k = get_or p.players k no_player

-- ## Where the script of a thread stands

-- out of a call, it has come to where the actor stands, with the last reply
pub record IsBetween (input : Inputs) (i : ℕ) (p : Player) (u : lock.Thread) : Type 0 where
  pub even : length u.replies ≡ calls_in u.asked
  pub reached : reached_after (at_start (script_of input i)) u.asked u.replies ≡ record {
    last = p.last;
    state = p.actor;
  }

-- in a call, it comes there with the reply to it
pub record IsInCall (input : Inputs) (i : ℕ) (p : Player) (u : lock.Thread) : Type 0 where
  pub even : suc (length u.replies) ≡ calls_in u.asked
  pub reached : (r : Reply)
      → reached_after (at_start (script_of input i)) u.asked (u.replies ++ r ∷ []) ≡ record {
        last = Some r;
        state = p.actor;
      }
  pub free : p.stuck ≡ false

-- between calls, or its next step has no room on the thread's clock
abbrev pub Pauses : Bool → Inputs → ℕ → Player → lock.Thread → Type 0
Pauses false input i p u = IsBetween input i p u
Pauses true input i p u = moves (setup_of input) i u ≡ None

-- where the script of thread i stands when its thread is at this phase
abbrev pub PlaysIn : lock.Phase → Inputs → ℕ → Player → lock.Thread → Type 0
PlaysIn Working input i p u = Pauses p.stuck input i p u
PlaysIn Ended input i p u = Unit {0}
PlaysIn phase input i p u = IsInCall input i p u

-- the script of thread i stands where its thread has come to
abbrev pub Plays : Inputs → ℕ → Player → lock.Thread → Type 0
Plays input i p u = PlaysIn u.phase input i p u

-- the run stands for this state, and each script plays its thread
pub record IsPlayed (input : Inputs) (p : Played) (s : State) : Type 0 where
  pub shows : Shows (conditions_of input) p.whole s
  pub outcomes : input.outcomes ≡ p.outcomes
  pub count : length p.players ≡ length p.whole.threads
  pub plays : (k : ℕ) → Plays input k (player_at p k) (thread_of s k)

-- the run has come to this state
abbrev pub ComesAt : Played → Inputs → State → Type 0
ComesAt p input s = Arises (setup_of input) (first_state input) s × IsPlayed input p s

-- ## What a script hears

-- its call was given this answer, if it has one
abbrev pub heard : Option posix.Answer → Player → Player
heard (Some (answer.Reply r)) p = record p { last = Some r }
heard (Some answer.Again) p = p
heard None p = p

-- the script of thread i is given this answer to its call, if there is one
abbrev pub hears : Option posix.Answer → ℕ → Played → Played
hears told i p = record p { players = set p.players i (heard told (player_at p i)) }

-- ## Events

-- thread i makes its event that needs no turn, exactly when it
-- can, and diverges exactly when what is
-- there for it does not answer
pub record Made (made : Progress) (i : ℕ) (old new : Played) (input : Inputs) (s : State)
    : Type 0 where
  pub can : can_advance (setup_of input) s i ≡ has_moved made
  pub diverges : is_diverging (setup_of input) s i ≡ has_diverged made
  pub plays : IsPlayed input new (advance (setup_of input) i s)
  pub log : LogsMore
      (came_between input.settings.version i s (advance (setup_of input) i s)) old.log new.log
  pub falls : Falls (has_moved made) old.whole.threads old.players new.whole.threads new.players

-- in whatever state the run is, thread i made its event that needs no turn, or it could not
abbrev pub Makes : Progress → ℕ → Played → Played → Type 0
Makes made i old new = (input : Inputs) (s : State) → ComesAt old input s
    → Made made i old new input s

-- thread i makes its attempt, exactly when it can
pub record Tried (made : Bool) (i : ℕ) (old new : Played) (input : Inputs) (s : State)
    : Type 0 where
  pub can : can_attempt (setup_of input) s i ≡ made
  pub plays : IsPlayed input new (attempt (setup_of input) i s)
  pub log : new.log ≡ old.log
  pub falls : Falls made old.whole.threads old.players new.whole.threads new.players

-- in whatever state the run is, thread i made its attempt, or it could not
abbrev pub Attempted : Bool → ℕ → Played → Played → Type 0
Attempted made i old new = (input : Inputs) (s : State) → ComesAt old input s
    → Tried made i old new input s
