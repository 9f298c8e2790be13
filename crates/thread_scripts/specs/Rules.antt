-- Internal: no contract of the headline or of a command stands on it.
-- What the lines of a script keep to, also where they were made in code and read from no text.
use Rattle.std.specs.Prelude.{ℕ, Bool, true, false, ◌&&◌, ◌||◌, not, List, length, nat_le}
use Rattle.std.specs.Prelude.{slice_get, Option, Some, None}
use Rattle.std.specs.List.{list_all}
use Rattle.posix_terms.specs.declared.call.Call.TheVariants as call
use Rattle.posix_terms.specs.declared.limits.TheConstants.Limits.{COUNT, SCRIPT_LINES}
use Rattle.thread_scripts.specs.CallLines.{CallLine}
use Rattle.thread_scripts.specs.Texts.{is_graphic}
use Rattle.thread_scripts.specs.declared.line.Data.{Data}
use Rattle.thread_scripts.specs.declared.line.Data.TheVariants as bytes
use Rattle.thread_scripts.specs.declared.line.Line.{Line}
use Rattle.thread_scripts.specs.declared.line.Line.TheVariants as line

-- where a line may jump to
abbrev pub target_of : Line → Option ℕ
target_of (line.Jump place) = Some place
target_of (line.JumpIfZero register place) = Some place
target_of (line.JumpIfFailed place) = Some place
target_of _ = None

-- whether there is a line, and it is that of a label
abbrev pub is_label : Option Line → Bool
is_label (Some line.Label) = true
is_label _ = false

-- a jump leads to the line of a label
abbrev pub leads_to_label : List Line → Option ℕ → Bool
leads_to_label lines None = true
leads_to_label lines (Some place) = is_label (slice_get lines place)

-- bytes of its own are no more than one call can move
abbrev pub is_short : Data → Bool
is_short (bytes.Text text) = nat_le (length text) COUNT
is_short (bytes.Register register) = true

-- the bytes of a path are `!` to `~`
abbrev pub is_path : List ℕ → Bool
is_path path = list_all is_graphic path

-- bytes are short, paths are paths, and a host file has no flags that only `open` has
abbrev pub call_keeps : CallLine → Bool
call_keeps (call.Open path access flags) = is_path path
call_keeps (call.Write descriptor bytes) = is_short bytes
call_keeps (call.Pwrite descriptor bytes position) = is_short bytes
call_keeps (call.Link old_path new_path) = is_path old_path && is_path new_path
call_keeps (call.Unlink path) = is_path path
call_keeps (call.Rename old_path new_path) = is_path old_path && is_path new_path
call_keeps (call.Mkdir path) = is_path path
call_keeps (call.Rmdir path) = is_path path
call_keeps (call.HostOpen path access flags) = is_path path
    && not (flags.exclusive || flags.nonblock)
call_keeps _ = true

-- the bytes, paths and flags of a line keep to their bounds; a work may be of any length
abbrev pub line_keeps : Line → Bool
line_keeps (line.Call l) = call_keeps l
line_keeps (line.SetBytes register value) = is_short value
line_keeps _ = true

-- a line among these is within its bounds, and jumps to no other line than a label's
abbrev pub keeps_rules : List Line → Line → Bool
keeps_rules lines l = line_keeps l && leads_to_label lines (target_of l)

-- the lines are a script: not too many, and each keeps the rules
abbrev pub is_script : List Line → Bool
is_script lines = nat_le (length lines) SCRIPT_LINES && list_all (keeps_rules lines) lines
