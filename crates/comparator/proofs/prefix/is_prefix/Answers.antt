use Rattle.std.proofs.Common.{sym, drop, length}
use Rattle.std.proofs.lemmas.Slice.Eq.{starts_is}
use Rattle.comparator.proofs.prefix.is_prefix.Goals as goal

pub returns : goal.returns
returns c =
    let front = c.args.front.now in
    let whole = c.args.whole.now in
    let told = starts_is c.equal_ones_are_the_same.ensures.rows whole front c.starts_with.result
    c.starts_with.ensures.value in
    (λ h. (drop (length front) whole, sym (told.0 h)), λ h. told.1 h.0 (sym h.1))
