-- A file that was to be made where it is missing, and was not opened.
use Rattle.std.proofs.Common.{◌≡◌, ℕ, List, true, inr, inl, subst, sym}
use Rattle.std.specs.declared.io.Error.{Error}
use Rattle.posix_terms.specs.declared.call.Access.{Access}
use Rattle.posix_terms.specs.Calls.{Call}
use Rattle.posix_terms.specs.declared.call.OpenFlags.{OpenFlags}
use Rattle.host_doors.specs.declared.options.HostOptions.{HostOptions}
use Rattle.host_doors.specs.Asked.{Opens}
use Rattle.host_doors.specs.Files.{Cutting, IsNotMade, IsNotOpened, IsRefused, IsWhy, Opening}
use Rattle.host_doors.specs.Options.{options_of}

pub not_made : {F : Type 0} (opened : Opening F) (cut : Cutting F) (call : Call) (path : List ℕ) (access : Access)
    (flags : OpenFlags)
    (how : HostOptions) (error : Error) → Opens call path access flags → how ≡ options_of access flags
    → how.makes ≡ true
    → IsNotMade opened how.options path error → IsNotOpened opened cut call error
not_made opened cut call path access flags how error asked is makes failed =
    let refused : IsRefused opened how.makes how.options path error =
    subst (λ b. IsRefused opened b how.options path error) (sym makes) failed in
    inr (record {
      path = path;
      access = access;
      flags = flags;
      asked = asked;
      why = subst (λ (h : HostOptions). IsWhy opened cut h path error) is (inl refused);
    })
