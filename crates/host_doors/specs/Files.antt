-- Internal: no contract of the headline or of a command stands on it.
-- How host files are opened.
use Rattle.std.specs.Prelude.{◌≡◌, ◌≢◌, ◌⊎◌, ℕ, Bool, true, false, List, Result, Ok, Err}
use Rattle.std.specs.Fs.{new_options, with_create, with_write}
use Rattle.std.specs.IoError.{error_kind}
use Rattle.std.specs.declared.fs.options.OpenOptions.{OpenOptions}
use Rattle.std.specs.declared.io.Error.{Error}
use Rattle.std.specs.declared.io.ErrorKind.TheVariants as failure
use Rattle.posix_terms.specs.declared.call.Access.{Access}
use Rattle.posix_terms.specs.Calls.{Call}
use Rattle.posix_terms.specs.declared.call.OpenFlags.{OpenFlags}
use Rattle.host_doors.specs.declared.options.HostOptions.{HostOptions}
use Rattle.host_doors.specs.Asked.{Opens, OpensText}
use Rattle.host_doors.specs.Options.{options_of}

-- what may come of one opening: the options, the path, and the file or why there is none
abbrev pub Opening : Type 0 → Type 1
Opening F = OpenOptions → List ℕ → Result F Error → Type 0

-- what may come of cutting a file
abbrev pub Cutting : Type 0 → Type 1
Cutting F = F → Result Unit Error → Type 0

-- how a file that is missing is made by itself
abbrev pub for_making : OpenOptions
for_making = with_create (with_write new_options true) true

-- the call opened this file, by its options and its path, and it was cut where these say so
pub record IsOpened {F : Type 0} (opened : Opening F) (cut : Cutting F) (call : Call)
    (file : F) : Type 0 where
  pub path : List ℕ
  pub access : Access
  pub flags : OpenFlags
  pub asked : Opens call path access flags
  pub came : opened (options_of access flags).options path (Ok file)
  pub emptied : (options_of access flags).cuts ≡ true → (done : Unit) × cut file (Ok done)

-- why a file that is made where it is missing was not opened: it was refused,
-- and not as missing; or it was made and then refused; or it
-- was not made
abbrev pub IsNotMade : {F : Type 0} → Opening F → OpenOptions → List ℕ → Error → Type 0
IsNotMade {F} opened options path error =
    (opened options path (Err error) × (error_kind error ≢ failure.NotFound))
    ⊎ (((made : F) × opened for_making path (Ok made)) × opened options path (Err error))
    ⊎ opened for_making path (Err error)

-- why there is no file, by whether one that is missing is made
abbrev pub IsRefused : {F : Type 0} → Opening F → Bool → OpenOptions → List ℕ → Error → Type 0
IsRefused opened true options path error = IsNotMade opened options path error
IsRefused opened false options path error = opened options path (Err error)

-- a file was opened, and not cut as is asked
pub record IsUncut {F : Type 0} (opened : Opening F) (cut : Cutting F) (how : HostOptions)
    (path : List ℕ) (error : Error) : Type 0 where
  pub file : F
  pub asked : how.cuts ≡ true
  pub came : opened how.options path (Ok file)
  pub failed : cut file (Err error)

-- why a file that is opened so is not there
abbrev pub IsWhy : {F : Type 0} → Opening F → Cutting F → HostOptions → List ℕ → Error → Type 0
IsWhy opened cut how path error = IsRefused opened how.makes how.options path error
    ⊎ IsUncut opened cut how path error

-- why a call that opens a text has no file
pub record IsUnopened {F : Type 0} (opened : Opening F) (cut : Cutting F) (call : Call)
    (error : Error) : Type 0 where
  pub path : List ℕ
  pub access : Access
  pub flags : OpenFlags
  pub asked : Opens call path access flags
  pub why : IsWhy opened cut (options_of access flags) path error

-- why a call has no file: it opens no text, or that was refused
abbrev pub IsNotOpened : {F : Type 0} → Opening F → Cutting F → Call → Error → Type 0
IsNotOpened opened cut call error =
    ((OpensText call → ⊥) × (error_kind error ≡ failure.InvalidInput))
    ⊎ IsUnopened opened cut call error
