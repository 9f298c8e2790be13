use Rattle.std.proofs.Common.{◌≡◌, ◌≤◌, ◌∙◌, length, ap, sym, zero-add, arith}
use Rattle.sequential_object.specs.Names.{PathMap, links_of}
use Rattle.directories.proofs.NameLemmas.{links_in, links_in-le, links_of-names_of}
use Rattle.directories.proofs.names.Names.links.Goals as goal

pub loop-entry-init : goal.loop-entry-init
loop-entry-init c =
    let whole : links_of c.args.self.now c.args.node ≡ links_in c.args.node c.self.inside.entries.items =
    ap (λ (m : PathMap). links_of m c.args.node) (sym c.self.view_is)
    ∙ links_of-names_of c.args.node c.self.inside.entries.items c.self.invariant in
    let fits : length c.self.inside.entries.items
    ≤ 64 = rw c.as_slice-entry-items.ensures.value at c.as_slice-entry-items.ensures.fits in
    record {
      counted = rw (c.as_slice-entry-items.ensures.value, whole) (zero-add _);
      few = rw whole (omega (arith, links_in-le c.args.node c.self.inside.entries.items));
    }
