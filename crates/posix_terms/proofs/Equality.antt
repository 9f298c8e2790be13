-- `==` of two calls, and of two rows, tells whether they are the same.
use Rattle.std.proofs.Common.{◌≡◌, ℕ, List, Bool, true, ◌&&◌, nat_eq, refl, subst, rules}
use Rattle.std.proofs.lemmas.Bool.{and_parts, false≢true}
use Rattle.std.proofs.lemmas.Slice.Eq.{bytes_eq-Decides}
use Rattle.std.specs.Bool.{Decides}
use Rattle.std.specs.Cmp.{booleans_Decides}
use Rattle.std.specs.Cmp.Lexicographic.{pointwise}
use Rattle.std.specs.contracts.prelude.I64PartialEq.TheImpl as numbers
use denote.Builtin
use Rattle.posix_terms.specs.contracts.call.AccessPartialEq.TheImpl as access
use Rattle.posix_terms.specs.contracts.shared_bytes.SharedBytes
use Rattle.posix_terms.specs.contracts.shared_bytes.SharedBytesPartialEq.TheImpl as bytes
use Rattle.posix_terms.specs.contracts.call.CallPartialEq.TheImpl as calls
use Rattle.posix_terms.specs.contracts.call.OpenFlagsPartialEq.TheImpl as flags
use Rattle.posix_terms.specs.contracts.reply.ReplyPartialEq.TheImpl as reply
use Rattle.posix_terms.specs.contracts.transcript.RowEq.TheImpl.Laws as rows
use Rattle.posix_terms.specs.contracts.transcript.RowPartialEq.TheImpl as row
use Rattle.posix_terms.specs.contracts.transcript.TurnPartialEq.TheImpl as turn
use Rattle.posix_terms.specs.Calls.{Call}
use Rattle.posix_terms.specs.declared.call.Access.{Access}
use Rattle.posix_terms.specs.declared.call.Call.TheVariants as call
use Rattle.posix_terms.specs.declared.call.OpenFlags.{OpenFlags}
use Rattle.posix_terms.specs.declared.reply.Reply.{Reply}
use Rattle.posix_terms.specs.declared.reply.Reply.TheVariants as reply_of
use Rattle.posix_terms.specs.declared.transcript.Row.{Row}
use Rattle.posix_terms.specs.declared.transcript.Turn.{Turn}

flags_are : (f g : OpenFlags) → flags.ghosts.eq f g ≡ true → f ≡ g
flags_are f g h =
    let first = and_parts _ _ h in
    let second = and_parts _ _ first.1 in
    let third = and_parts _ _ second.1 in
    let fourth = and_parts _ _ third.1 in
    λ i. record {
      create = (booleans_Decides f.create g.create).0 first.0 i;
      exclusive = (booleans_Decides f.exclusive g.exclusive).0 second.0 i;
      truncate = (booleans_Decides f.truncate g.truncate).0 third.0 i;
      append = (booleans_Decides f.append g.append).0 fourth.0 i;
      nonblock = (booleans_Decides f.nonblock g.nonblock).0 fourth.1 i;
    }

access_is : (a b : Access) → access.ghosts.eq a b ≡ true → a ≡ b
access_is a b h = search rules

opening_is : (p q : List ℕ) (a b : Access) (f g : OpenFlags)
    → (pointwise nat_eq p q && (access.ghosts.eq a b && flags.ghosts.eq f g)) ≡ true → (p ≡ q) × (a ≡ b) × (f ≡ g)
opening_is p q a b f g h =
    let first = and_parts _ _ h in
    let second = and_parts _ _ first.1 in
    ((bytes_eq-Decides p q).0 first.0, access_is a b second.0, flags_are f g second.1)

-- `==` of two calls
abbrev equal : Call → Call → Bool
equal a b = let g = calls.ghosts Builtin.i64 SharedBytes.the_row numbers.ghosts numbers.dict bytes.ghosts bytes.dict in
    g.eq a b

call_is : (a b : Call) → equal a b ≡ true → a ≡ b
call_is (call.Open p a f) (call.Open q b g) h = let s = opening_is p q a b f g h in
    λ i. call.Open (s.0 i) (s.1 i) (s.2 i)
call_is (call.Close d) (call.Close e) h = search rules
call_is (call.Read d n) (call.Read e m) h = search rules
call_is (call.Write d n) (call.Write e m) h = search rules
call_is (call.Pread d n p) (call.Pread e m q) h = search rules
call_is (call.Pwrite d n p) (call.Pwrite e m q) h = search rules
call_is (call.Lseek d n p) (call.Lseek e m q) h = search rules
call_is (call.Ftruncate d n) (call.Ftruncate e m) h = search rules
call_is (call.Fstat d) (call.Fstat e) h = search rules
call_is (call.Dup d) (call.Dup e) h = search rules
call_is (call.DupFrom d n) (call.DupFrom e m) h = search rules
call_is (call.Dup2 d n) (call.Dup2 e m) h = search rules
call_is (call.Getfl d) (call.Getfl e) h = search rules
call_is (call.Setfl d n p) (call.Setfl e m q) h = search rules
call_is (call.Link d n) (call.Link e m) h = search rules
call_is (call.Unlink d) (call.Unlink e) h = search rules
call_is (call.Rename d n) (call.Rename e m) h = search rules
call_is (call.Mkdir d) (call.Mkdir e) h = search rules
call_is (call.Rmdir d) (call.Rmdir e) h = search rules
call_is call.Pipe call.Pipe h = refl
call_is call.Socketpair call.Socketpair h = refl
call_is (call.Shutdown d n) (call.Shutdown e m) h = search rules
call_is (call.HostOpen p a f) (call.HostOpen q b g) h = let s = opening_is p q a b f g h in
    λ i. call.HostOpen (s.0 i) (s.1 i) (s.2 i)
call_is (call.TcpListen d) (call.TcpListen e) h = search rules
call_is (call.TcpConnect d) (call.TcpConnect e) h = search rules
call_is (call.TcpAccept d) (call.TcpAccept e) h = search rules
call_is a b h = absurd (false≢true h)

-- ## Rows

turn_is : (a b : Turn) → turn.ghosts.eq a b ≡ true → a ≡ b
turn_is a b h = search rules

reply_is : (a b : Reply) → reply.ghosts.eq a b ≡ true → a ≡ b
reply_is a b h = search rules

row_is : (a b : Row) → row.ghosts.eq a b ≡ true → a ≡ b
row_is a b h =
    let first = and_parts _ _ h in
    let second = and_parts _ _ first.1 in
    λ i. record {
      call = call_is a.call b.call first.0 i;
      turn = turn_is a.turn b.turn second.0 i;
      reply = reply_is a.reply b.reply second.1 i;
    }

pub row_Decides : (a b : Row) → Decides (row.ghosts.eq a b) (a ≡ b)
row_Decides a b = (row_is a b, λ h. subst (λ c. row.ghosts.eq a c ≡ true) h (rows.laws-law.refl a))

-- ## Calls, by a row that has them

equal_refl : (a : Call) → equal a a ≡ true
equal_refl a = (and_parts _ _ (rows.laws-law.refl
    (record { call = a; turn = record { clock = 0; thread = 0 }; reply = reply_of.Done }))).0

pub call_Decides : (a b : Call) → Decides (equal a b) (a ≡ b)
call_Decides a b = (call_is a b, λ h. subst (λ c. equal a c ≡ true) h (equal_refl a))
