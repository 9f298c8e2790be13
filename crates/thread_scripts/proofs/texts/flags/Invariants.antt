use Rattle.std.proofs.Common.{◌≡◌, drop, map}
use Rattle.thread_scripts.specs.Texts.{no_flags, with_flags}
use Rattle.thread_scripts.proofs.texts.flags.Given as goal

abbrev pub invariant-loop-word : goal.invariant-loop-word
invariant-loop-word l = with_flags l.flags (map (λ w. w.now) (drop l.word-index l.words))
    ≡ with_flags no_flags (map (λ w. w.now) l.words)
