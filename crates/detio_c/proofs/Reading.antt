-- C reads the reply that a machine gave.
use Rattle.std.proofs.Common.{◌≡◌, ◌≤◌, ℕ, List, Option, Some, IsSomeAnd, length, sym, subst, arith}
use Rattle.std.specs.Prelude.{take}
use Rattle.machine.specs.Events.{Tells}
use Rattle.machine.specs.Shown.{Shown}
use Rattle.posix_terms.specs.declared.reply.Answer.{Answer}
use Rattle.posix_terms.specs.declared.reply.Answer.TheVariants as answer
use Rattle.posix_terms.specs.declared.reply.Reply.{Reply}
use Rattle.detio_c.specs.Reads.{Brings, ReadsAnswer}
use Rattle.c_words.specs.Words.{bytes_in, reply_words}
use Rattle.c_words.specs.declared.words.ReplyWords.{ReplyWords}

within : (a b c : ℕ) → a ≤ b → b ≤ c → a ≤ c
within a b c h k = omega arith

pub reads : {there : Option (Shown ℕ)} {m : Shown ℕ} {words : ReplyWords}
    (i : ℕ) (a : Answer) (r : Reply) (room : ℕ) (buffer : List ℕ) (most : ℕ) → there ≡ Some m → a ≡ answer.Reply r
    → Tells a i m.whole → Brings i most m → most ≤ room → words ≡ reply_words r
    → (length (bytes_in r) ≤ room → take (length (bytes_in r)) buffer ≡ bytes_in r)
    → IsSomeAnd there (ReadsAnswer i (Some words) room buffer)
reads {there} {m} {words} i a r room buffer most is_there is_reply told brings few is_words is_bytes =
    let told_so = subst (λ x. Tells x i m.whole) is_reply told in
    let fits = within (length (bytes_in r)) most room (brings r told_so) few in
    subst (λ x. IsSomeAnd x (ReadsAnswer i (Some words) room buffer)) (sym is_there)
    (r, told_so, is_words, fits, is_bytes fits)
