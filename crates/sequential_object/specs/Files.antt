-- Believed: a contract of the headline stands on it.
-- The file rules: a file is a list of bytes, and no write takes it past 65,536.
-- POSIX.1-2017, System Interfaces: `read`, `write`, `ftruncate`.
use Rattle.std.specs.Prelude.{ℕ, ◌+◌, ◌-◌, List, ◌++◌, length, take, drop, replicate, Result, Ok}
use Rattle.std.specs.Prelude.{Err, if◌then◌else◌, ◌==◌, nat_le}
use Rattle.posix_terms.specs.declared.errno.Errno.{Errno}
use Rattle.posix_terms.specs.declared.errno.Errno.TheVariants.{EFBIG}
use Rattle.posix_terms.specs.declared.limits.TheConstants.Limits as limit

-- what a read of so many bytes gives at a position: nothing past the end
abbrev pub bytes_at : List ℕ → ℕ → ℕ → List ℕ
bytes_at file position count = take count (drop position file)

-- the file with these bytes laid over what was at a position; a gap before them reads as 0 bytes
abbrev pub overlaid : List ℕ → ℕ → List ℕ → List ℕ
overlaid file position bytes =
    take position (file ++ replicate (position - length file) 0) ++ bytes
    ++ drop (position + length bytes) file

-- the file after a write at a position, and how many bytes were written: those that fit under the
-- limit. Where not one fits the write is refused; of no bytes it changes nothing
abbrev pub written : List ℕ → ℕ → List ℕ → Result (List ℕ × ℕ) Errno
written file position bytes =
    if length bytes == 0 then Ok (file, 0) else
    if nat_le limit.FILE_BYTES position then Err EFBIG else
    let fitting = take (limit.FILE_BYTES - position) bytes in
    Ok (overlaid file position fitting, length fitting)

-- the file at this length: its first bytes, and 0 bytes where it had fewer
abbrev pub resized : List ℕ → ℕ → List ℕ
resized file size = take size file ++ replicate (size - length file) 0
