-- Believed: a contract of a command stands on it.
-- By how much each call is delayed by chance.
use Rattle.std.specs.Prelude.{ℕ, ◌+◌, ◌%◌, bit_xor}
use Rattle.rand_xoshiro.specs.SplitMix64.{mix_u64}

-- a number mixed into a hash, by a step of SplitMix64
abbrev pub mixed : ℕ → ℕ → ℕ
mixed hash number = (mix_u64 (bit_xor hash number)).0

-- the delay of the call on this line of a thread, at most the reach: seed, thread and line in a
-- hash
unfoldable pub chance_delay : ℕ → ℕ → ℕ → ℕ → ℕ
chance_delay reach seed thread line = mixed (mixed (mixed 0 seed) thread) line % (reach + 1)
