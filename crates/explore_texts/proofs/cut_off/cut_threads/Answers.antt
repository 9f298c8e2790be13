use Rattle.std.proofs.Common.{◌≡◌, ◌+◌, ◌++◌, ◌∙◌, [], ap, append_assoc, drop, rules, sym}
use Rattle.std.specs.Prelude.{false, slice_index_or}
use Rattle.std.proofs.lemmas.List.{append-nil, drop_all}
use Rattle.explore_texts.specs.CutOffs.{cut_threads, if_cut}
use Rattle.explore_texts.proofs.Cutting.{none_unseen, one_further}
use Rattle.explore_texts.proofs.cut_off.cut_threads.Goals as goal

pub returns-in_default : goal.returns-in_default
returns-in_default c =
    let thread = c.loop-thread.thread in
    let ended = c.args.ended.now in
    let texts = drop thread c.args.texts.now in
    let none : drop thread c.args.seen.now ≡ [] =
    drop_all thread c.args.seen.now c.in_default.ensures.lookup.3 in
    sym (append-nil c.loop-thread.cut.items)
    ∙ ap (λ l. c.loop-thread.cut.items ++ l)
    (sym (none_unseen ended thread texts)
    ∙ ap (cut_threads ended thread texts) (sym none))
    ∙ c.loop-thread.invariant

pub loop-thread-preserved : goal.loop-thread-preserved
loop-thread-preserved c =
    let thread = c.loop-thread.thread in
    let ended = c.args.ended.now in
    let text = c.index-texts-thread in
    let rows = c.in-Some.transcript.now in
    let lookup = c.in-Some.ensures.lookup in
    let next = one_further ended c.args.texts.now c.args.seen.now thread text.result rows
    c.loop-thread-test.true text.is lookup.3.0 lookup.1 in
    let this = if_cut (slice_index_or ended thread false) thread text.result rows in
    let added : c.push_if_cut.new.cut.items ≡ c.loop-thread.cut.items ++ this = search rules in
    ap (λ so_far. so_far ++ cut_threads ended (thread + 1) (drop (thread + 1) c.args.texts.now)
    (drop (thread + 1) c.args.seen.now)) added
    ∙ append_assoc c.loop-thread.cut.items this _
    ∙ ap (λ l. c.loop-thread.cut.items ++ l) (sym next)
    ∙ c.loop-thread.invariant
