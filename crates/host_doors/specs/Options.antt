-- Internal: no contract of the headline or of a command stands on it.
-- How a call opens a file of the host.
use Rattle.std.specs.Prelude.{Bool, true, not, ◌&&◌, if◌then◌else◌}
use Rattle.std.specs.Fs.{new_options, with_append, with_create, with_read, with_truncate}
use Rattle.std.specs.Fs.{with_write}
use Rattle.std.specs.declared.fs.options.OpenOptions.{OpenOptions}
use Rattle.posix_terms.specs.Calls.{can_read, can_write}
use Rattle.posix_terms.specs.declared.call.Access.{Access}
use Rattle.posix_terms.specs.declared.call.OpenFlags.{OpenFlags}
use Rattle.host_doors.specs.declared.options.HostOptions.{HostOptions}

-- a file that is opened for reading alone is neither appended
-- to nor cut, and does not come to be by its
-- opening
abbrev pub for_reading : OpenOptions
for_reading = with_read new_options true

-- where a file is opened for writing, one that is missing is
-- made by the opening, and one that is not to be
-- appended to is cut by it
abbrev pub for_writing : Bool → OpenFlags → OpenOptions
for_writing reads flags = with_truncate
    (with_create (with_append (with_write (with_read new_options reads) true) flags.append)
    flags.create) (flags.truncate && not flags.append)

-- the host cuts no file that it opens to append, and makes none
-- that it opens for reading alone: these are cut
-- after the opening, and made before it
abbrev pub options_of : Access → OpenFlags → HostOptions
options_of access flags = record {
  options = if can_write access then for_writing (can_read access) flags else for_reading;
  makes = flags.create && not (can_write access);
  cuts = can_write access && flags.truncate && flags.append;
}
