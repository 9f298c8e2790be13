-- Believed: a contract of the headline stands on it.
-- The error numbers of this profile, and their names.
use Rattle.std.specs.Prelude.{ℕ, List, Option, Some, None, if◌then◌else◌, ◌==◌, codes}
use Rattle.posix_terms.specs.declared.errno.Errno.{Errno}
use Rattle.posix_terms.specs.declared.errno.Errno.TheVariants.{EBADF, EINVAL, EOVERFLOW, ESPIPE}
use Rattle.posix_terms.specs.declared.errno.Errno.TheVariants.{EFBIG, EAGAIN, EPIPE, EINTR, EIO}
use Rattle.posix_terms.specs.declared.errno.Errno.TheVariants.{ENOENT, EEXIST, ENOTDIR, EISDIR}
use Rattle.posix_terms.specs.declared.errno.Errno.TheVariants.{ENOTEMPTY, EPERM, EACCES, EMFILE}
use Rattle.posix_terms.specs.declared.errno.Errno.TheVariants.{ENFILE, ENOSPC, ENAMETOOLONG}
use Rattle.posix_terms.specs.declared.errno.Errno.TheVariants.{ENOTSOCK, EBUSY, ECONNREFUSED}
use Rattle.posix_terms.specs.declared.errno.Errno.TheVariants.{ECONNRESET, EADDRINUSE, ETIMEDOUT}

-- the number of an error in a log, where 0 says that there is none
abbrev pub code_of : Errno → ℕ
code_of EBADF = 1
code_of EINVAL = 2
code_of EOVERFLOW = 3
code_of ESPIPE = 4
code_of EFBIG = 5
code_of EAGAIN = 6
code_of EPIPE = 7
code_of EINTR = 8
code_of EIO = 9
code_of ENOENT = 10
code_of EEXIST = 11
code_of ENOTDIR = 12
code_of EISDIR = 13
code_of ENOTEMPTY = 14
code_of EPERM = 15
code_of EACCES = 16
code_of EMFILE = 17
code_of ENFILE = 18
code_of ENOSPC = 19
code_of ENAMETOOLONG = 20
code_of ENOTSOCK = 21
code_of EBUSY = 22
code_of ECONNREFUSED = 23
code_of ECONNRESET = 24
code_of EADDRINUSE = 25
code_of ETIMEDOUT = 26

-- the error with this number
abbrev pub error_of : ℕ → Option Errno
error_of n =
    if n == 1 then Some EBADF else
    if n == 2 then Some EINVAL else
    if n == 3 then Some EOVERFLOW else
    if n == 4 then Some ESPIPE else
    if n == 5 then Some EFBIG else
    if n == 6 then Some EAGAIN else
    if n == 7 then Some EPIPE else
    if n == 8 then Some EINTR else
    if n == 9 then Some EIO else
    if n == 10 then Some ENOENT else
    if n == 11 then Some EEXIST else
    if n == 12 then Some ENOTDIR else
    if n == 13 then Some EISDIR else
    if n == 14 then Some ENOTEMPTY else
    if n == 15 then Some EPERM else
    if n == 16 then Some EACCES else
    if n == 17 then Some EMFILE else
    if n == 18 then Some ENFILE else
    if n == 19 then Some ENOSPC else
    if n == 20 then Some ENAMETOOLONG else
    if n == 21 then Some ENOTSOCK else
    if n == 22 then Some EBUSY else
    if n == 23 then Some ECONNREFUSED else
    if n == 24 then Some ECONNRESET else
    if n == 25 then Some EADDRINUSE else
    if n == 26 then Some ETIMEDOUT else
    None

-- the error's name, as POSIX writes it
abbrev pub name_of : Errno → List ℕ
name_of EBADF = codes "EBADF"
name_of EINVAL = codes "EINVAL"
name_of EOVERFLOW = codes "EOVERFLOW"
name_of ESPIPE = codes "ESPIPE"
name_of EFBIG = codes "EFBIG"
name_of EAGAIN = codes "EAGAIN"
name_of EPIPE = codes "EPIPE"
name_of EINTR = codes "EINTR"
name_of EIO = codes "EIO"
name_of ENOENT = codes "ENOENT"
name_of EEXIST = codes "EEXIST"
name_of ENOTDIR = codes "ENOTDIR"
name_of EISDIR = codes "EISDIR"
name_of ENOTEMPTY = codes "ENOTEMPTY"
name_of EPERM = codes "EPERM"
name_of EACCES = codes "EACCES"
name_of EMFILE = codes "EMFILE"
name_of ENFILE = codes "ENFILE"
name_of ENOSPC = codes "ENOSPC"
name_of ENAMETOOLONG = codes "ENAMETOOLONG"
name_of ENOTSOCK = codes "ENOTSOCK"
name_of EBUSY = codes "EBUSY"
name_of ECONNREFUSED = codes "ECONNREFUSED"
name_of ECONNRESET = codes "ECONNRESET"
name_of EADDRINUSE = codes "EADDRINUSE"
name_of ETIMEDOUT = codes "ETIMEDOUT"
