use Rattle.std.proofs.Common.{◌∙◌, ap, option_copied, sym}
use Rattle.std.proofs.lemmas.Result.{on_ok_weaker}
use Rattle.posix_terms.specs.Calls.{Call}
use Rattle.fault_injection.specs.Objects.{known}
use Rattle.fault_injection.specs.Places.{opened}
use Rattle.fault_injection.proofs.Following.{gives, stays}
use Rattle.fault_injection.proofs.objects.Objects.pass.Goals as goal

pub returns-in_default : goal.returns-in_default
returns-in_default c = λ past so_far.
    stays c.args.row.now past (known c.args.self.now)
    (λ n. ap (λ (k : Call). opened k (known c.args.self.now) n) (sym c.call.ensures)
    ∙ c.in_default.ensures n)
    so_far

pub returns : goal.returns
returns c =
    on_ok_weaker c.give.result
    (λ given past so_far.
    gives c.args.row.now past (known c.args.self.now) (known c.give.new.self)
    (option_copied c.as_ref.result) c.in-Some.object
    (c.as_ref.ensures.value ∙ c.in_ok-reply.ensures)
    (λ n. ap (λ (k : Call). opened k (known c.args.self.now) n) (sym c.call.ensures)
    ∙ c.in-Some.ensures n)
    given so_far)
    c.give.ensures
