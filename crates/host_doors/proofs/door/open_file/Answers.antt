use Rattle.std.proofs.Common.{rules}
use Rattle.host_doors.proofs.Making.{not_made}
use Rattle.host_doors.proofs.door.open_file.Goals as goal

pub returns-in_err-file-clause-failed : goal.returns-in_err-file-clause-failed
returns-in_err-file-clause-failed g c =
    let wanted = c.in_ok-wanted.wanted in
    let failed = not_made g.O.Opener.opened g.O.Opener.cut c.args.request.now.call wanted.path.now wanted.access
    wanted.flags
    c.new-how.result c.in_err-file.field-0.0 c.in_ok-wanted.ensures.file c.new-how.ensures c.if-how.true
    c.in_err-file.ensures.failed in
    search rules
