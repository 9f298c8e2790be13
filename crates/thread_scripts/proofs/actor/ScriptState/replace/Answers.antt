use Rattle.thread_scripts.proofs.Replacing.{registers_are_kept}
use Rattle.thread_scripts.proofs.actor.ScriptState.replace.Goals as goal

pub returns-clause-replaced : goal.returns-clause-replaced
returns-clause-replaced c =
    rw (c.keep.ensures.kept, c.replace-held.ensures.value, c.replace-held.ensures.after, c.index.ensures.value)
    (registers_are_kept _ _ c.args.register c.index-self-index.result c.args.bytes c.keep.ensures.inside)
