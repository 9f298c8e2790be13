-- Believed: a contract of the headline stands on it.
-- A lock that is open to whoever comes at a later time than its last release.
use Rattle.std.specs.Prelude.{ℕ, Option, Some, None, Bool, false, ◌&&◌, is_none, nat_le, nat_lt}
use Rattle.det_mutex.specs.declared.lock.DetLock.{DetLock}

-- a lock that nobody held yet, which opens at clock 1
abbrev pub new_lock : DetLock
new_lock = record { holder = None; released = 0 }

-- an attempt at this clock succeeds
unfoldable pub takes : DetLock → ℕ → Bool
takes l clock = is_none l.holder && nat_lt l.released clock

-- a lock that opens at this time, if it does, is open then
abbrev pub is_open_by : Option ℕ → ℕ → Bool
is_open_by None clock = false
is_open_by (Some opens) clock = nat_le opens clock

-- the lock once this thread holds it
abbrev pub held : ℕ → DetLock → DetLock
held thread l = record l { holder = Some thread }

-- a lock that was released at this clock
abbrev pub freed : ℕ → DetLock
freed clock = record { holder = None; released = clock }
